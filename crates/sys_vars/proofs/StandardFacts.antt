-- Worked values: the constants, what a server that opens publishes of itself, status words of peers, texts of reference
-- identifiers, and datagrams that answer (RFC 9327, sections 2, 3.1, 3.2, 3.4 and 4; RFC 5905, section 7.3).
use Rattle.std.proofs.Common.{◌≡◌, ◌+◌, ◌-◌, ◌<◌, ◌≤◌, ℕ, Bool, true, false, pos, negsuc, replicate, lit≤, lit<, ◌*◌, ◌^◌, List, [], ◌∷◌, ◌++◌, Some, None, Err, refl}
use Rattle.std.specs.Prelude.{codes}
use Rattle.std.specs.Fmt.{digits}
use Rattle.hex.specs.Hex.{encode_with}
use Rattle.net_addr.specs.declared.addr.Addr.{Addr}
use Rattle.net_addr.specs.declared.addr.Ip.TheVariants.{V4}
use Rattle.mode6_frame.specs.declared.message.Head.{Head}
use Rattle.mode6_frame.specs.declared.message.TheConstants.{MAX_BODY}
use Rattle.mode6_frame.specs.Frames.{head_of}
use Rattle.sys_vars.specs.declared.variables.VarsFault.TheVariants.{UnknownAssociation, UnknownName}
use Rattle.sys_vars.specs.declared.asked.TheConstants.{MAX_NAMES}
use Rattle.sys_vars.specs.declared.names.TheConstants.{UNKNOWN_NAME}
use Rattle.sys_vars.specs.declared.peer_view.PeerView.{PeerView}
use Rattle.sys_vars.specs.declared.peer_views.TheConstants.{MAX_PEERS}
use Rattle.sys_vars.specs.declared.system.TheConstants.{PRECISION}
use Rattle.sys_vars.specs.declared.published.Record.{Record}
use Rattle.sys_vars.specs.declared.asked.What.{What}
use Rattle.sys_vars.specs.declared.asked.What.TheVariants.{Status, Vars}
use Rattle.sys_vars.specs.declared.context.Context.{Context}
use Rattle.sys_vars.specs.Names.{name_of, system_names, peer_names}
use Rattle.sys_vars.specs.Opening.{opening_system}
use Rattle.access_rules.specs.Rates.{plain_rate}
use Rattle.fixed_time.specs.declared.time.TheConstants.{MAX_DISPERSION}
use Rattle.net_addr.specs.Spelling.{ip_text}
use Rattle.mode6_frame.specs.Cuts.{parts_cut, tag_item}
use Rattle.sys_vars.specs.Status.{peer_status_of, system_status_of}
use Rattle.mode6_frame.specs.Stamps.{stamp_text}
use Rattle.sys_vars.specs.Texts.{ms_text, signed_ms_text, ppm_text, reach_text, refid_text, measure_text, measures_text}
use Rattle.sys_vars.specs.Variables.{items_of, variable_of, system_texts, peer_texts}
use Rattle.sys_vars.specs.Answers.{grams_for, nonce_grams}

PRECISION-is : PRECISION ≡ negsuc 19
PRECISION-is = refl

MAX_PEERS-is : MAX_PEERS ≡ 32
MAX_PEERS-is = refl

MAX_NAMES-is : MAX_NAMES ≡ 234
MAX_NAMES-is = refl

-- so many names of one octet with commas between them stand in a body, and no more
as-many-names : MAX_NAMES + (MAX_NAMES - 1) ≤ MAX_BODY
as-many-names = lit≤ tt

no-more-names : MAX_BODY < MAX_NAMES + 1 + MAX_NAMES
no-more-names = lit< tt

UNKNOWN_NAME-is : UNKNOWN_NAME ≡ 255
UNKNOWN_NAME-is = refl

-- the clock is not synchronized, and one event came, whose code is 1
opening-status : system_status_of opening_system ≡ 0xc011
opening-status = refl

-- a peer at 192.0.2.1 of which this is known: its key, whether its last MAC was good, and its reach register; it is
-- the system peer, which it became in its one event (code 10)
abbrev peer : ℕ → Bool → ℕ → PeerView
peer key auth_ok reach = record {
  assoc = 1;
  addr = record { ip = V4 (192 ∷ 0 ∷ 2 ∷ 1 ∷ []); port = 123 };
  key = key;
  hpoll = 6;
  ppoll = pos 6;
  pmode = 4;
  leap = 0;
  stratum = 1;
  precision = pos 0;
  root_delay = 0;
  root_disp = 0;
  refid = 0x47 ∷ 0x50 ∷ 0x53 ∷ 0 ∷ [];
  reference = record { 0 = 0 };
  received = record { 0 = 0 };
  reach = reach;
  offset = record { 0 = pos 0 };
  delay = 0;
  disp = 0;
  jitter = 0;
  stages = replicate 8 None;
  auth_ok = auth_ok;
  selection = 6;
  events = 1;
  code = 10;
  leap_in = lit≤ tt;
  selection_in = lit≤ tt;
  events_in = lit≤ tt;
  code_in = lit≤ tt;
}

-- configured and reachable
plain-peer-status : peer_status_of (peer 0 false 1) ≡ 0x961a
plain-peer-status = refl

-- it has a key, and no MAC was good
keyed-peer-status : peer_status_of (peer 7 false 0xff) ≡ 0xd61a
keyed-peer-status = refl

-- its last MAC was good, and it is reachable no more
good-peer-status : peer_status_of (peer 7 true 0) ≡ 0xe61a
good-peer-status = refl

-- the numbers of names of the system and of a peer
leap-number : name_of 0 1 ≡ Some (codes "leap")
unfolding system_names
leap-number = refl

epoch-number : name_of 0 15 ≡ Some (codes "epoch")
unfolding system_names
epoch-number = refl

no-system-number : name_of 0 16 ≡ None
unfolding system_names
no-system-number = refl

reach-number : name_of 7 14 ≡ Some (codes "reach")
unfolding peer_names
reach-number = refl

filtdisp-number : name_of 1 22 ≡ Some (codes "filtdisp")
unfolding peer_names
filtdisp-number = refl

no-peer-number : name_of 1 23 ≡ None
unfolding peer_names
no-peer-number = refl

-- 2147483 units are just under half a millisecond
ms-rounded : ms_text 2147483 ≡ codes "0.499999"
unfolding ms_text digits
ms-rounded = refl

ms-of-a-second : ms_text (2 ^ 32) ≡ codes "1000.000000"
unfolding ms_text digits
ms-of-a-second = refl

ms-negative : signed_ms_text (negsuc 2147482) ≡ codes "-0.499999"
unfolding signed_ms_text ms_text digits
ms-negative = refl

ms-positive : signed_ms_text (pos 2147483) ≡ codes "0.499999"
unfolding signed_ms_text ms_text digits
ms-positive = refl

-- four units are less than a nanosecond, and have no sign; five are more
ms-negative-nothing : signed_ms_text (negsuc 3) ≡ codes "0.000000"
unfolding signed_ms_text ms_text digits
ms-negative-nothing = refl

ms-negative-nanosecond : signed_ms_text (negsuc 4) ≡ codes "-0.000001"
unfolding signed_ms_text ms_text digits
ms-negative-nanosecond = refl

ppm-positive : ppm_text (pos 2097) ≡ codes "0.488245"
unfolding ppm_text digits
ppm-positive = refl

ppm-negative : ppm_text (negsuc 2096) ≡ codes "-0.488245"
unfolding ppm_text digits
ppm-negative = refl

stamp-1970 : stamp_text (0x83aa7e80 * 2 ^ 32 + 1) ≡ codes "0x83aa7e80.00000001"
unfolding stamp_text encode_with
stamp-1970 = refl

reach-all : reach_text 255 ≡ codes "377"
unfolding reach_text
reach-all = refl

reach-few : reach_text 10 ≡ codes "012"
unfolding reach_text
reach-few = refl

-- a primary server whose source is the Global Position System
gps-text : refid_text 1 (0x47 ∷ 0x50 ∷ 0x53 ∷ 0 ∷ []) ≡ codes "GPS"
unfolding refid_text encode_with
gps-text = refl

-- a secondary server
address-text : refid_text 2 (127 ∷ 0 ∷ 0 ∷ 1 ∷ []) ≡ codes "127.0.0.1"
unfolding refid_text digits
address-text = refl

-- and one of the greatest stratum
last-address-text : refid_text 15 (127 ∷ 0 ∷ 0 ∷ 1 ∷ []) ≡ codes "127.0.0.1"
unfolding refid_text digits
last-address-text = refl

-- a code of one letter, whatever follows its first zero octet
letter-text : refid_text 0 (0x41 ∷ 0 ∷ 0xff ∷ 0xff ∷ []) ≡ codes "A"
unfolding refid_text encode_with
letter-text = refl

-- no code, for want of a letter
blank-text : refid_text 16 (0 ∷ 0 ∷ 0 ∷ 0 ∷ []) ≡ codes "0x00000000"
unfolding refid_text encode_with
blank-text = refl

-- `ab!`, which has a mark
mark-text : refid_text 16 (0x61 ∷ 0x62 ∷ 0x21 ∷ 0 ∷ []) ≡ codes "0x61622100"
unfolding refid_text encode_with
mark-text = refl

-- what a server opens with, which knows this peer; its rules do not matter here
abbrev opening_with : List PeerView → Record
opening_with peers = record {
  epoch = 0;
  system = opening_system;
  peers = peers;
  rules = [];
  rate = plain_rate;
  clock = record { base = 0; ntp = record { 0 = 0 }; freq = pos 0; slew = pos 0 };
}

-- the association is judged first
association-fault : items_of (opening_with []) 9 (99 ∷ []) ≡ Err UnknownAssociation
association-fault = refl

-- two names stand before the first unknown one
name-fault : items_of (opening_with []) 0 (2 ∷ 6 ∷ 16 ∷ 255 ∷ []) ≡ Err (UnknownName 2)
unfolding system_names
name-fault = refl

-- a request of version 2 of this operation, with this sequence and association
abbrev head : ℕ → ℕ → Head
head sequence assoc = record {
  version = 2;
  opcode = 2;
  sequence = sequence;
  status = 0;
  assoc = assoc;
  version_in = lit≤ tt;
  opcode_in = lit≤ tt;
}

-- the values of a vector of numbers, as a request names them
abbrev named : List ℕ → What
named numbers = Vars numbers

-- what an answer needs to know beside the record, and where a request comes from: these answers depend on neither
abbrev context : Context
context = record { salt = record { 0 = replicate 16 0 }; origin = record { 0 = 0x83aa7e8000000000 }; moment = 2 ^ 32 }

abbrev at : Addr
at = record { ip = V4 (10 ∷ 0 ∷ 0 ∷ 1 ∷ []); port = 123 }

-- a nonce is told with the status of the system, whatever the association
nonce-answer : nonce_grams (opening_with []) (head 1 9) (codes "83aa7e810000000001234567") ≡
    (0x16 ∷ 0x82 ∷ 0x00 ∷ 0x01 ∷ 0xc0 ∷ 0x11 ∷ 0x00 ∷ 0x09 ∷ 0x00 ∷ 0x00 ∷ 0x00 ∷ 0x20 ∷
    codes "nonce=83aa7e810000000001234567\r\n") ∷ []
unfolding parts_cut head_of
nonce-answer = refl

-- status c011; the body is `stratum=16`, carriage return and line feed
stratum-answer : grams_for (opening_with []) (head 1 0) context at (named (2 ∷ [])) ≡
    (0x16 ∷ 0x82 ∷ 0x00 ∷ 0x01 ∷ 0xc0 ∷ 0x11 ∷ 0x00 ∷ 0x00 ∷ 0x00 ∷ 0x00 ∷ 0x00 ∷ 0x0c ∷
    codes "stratum=16\r\n") ∷ []
unfolding parts_cut system_names system_texts variable_of digits head_of
stratum-answer = refl

-- code 5, an unknown name
name-answer : grams_for (opening_with []) (head 1 0) context at (named (2 ∷ 255 ∷ [])) ≡
    (0x16 ∷ 0xc2 ∷ 0x00 ∷ 0x01 ∷ 0x05 ∷ 0x00 ∷ 0x00 ∷ 0x00 ∷ 0x00 ∷ 0x00 ∷ 0x00 ∷ 0x00 ∷ []) ∷ []
unfolding system_names head_of
name-answer = refl

-- code 4, an unknown association, and its number
association-answer : grams_for (opening_with []) (head 1 9) context at (named (2 ∷ [])) ≡
    (0x16 ∷ 0xc2 ∷ 0x00 ∷ 0x01 ∷ 0x04 ∷ 0x00 ∷ 0x00 ∷ 0x09 ∷ 0x00 ∷ 0x00 ∷ 0x00 ∷ 0x00 ∷ []) ∷ []
unfolding head_of
association-answer = refl

-- all variables of the system that a server opens with
system-answer : grams_for (opening_with []) (head 1 0) context at (named []) ≡
    (0x16 ∷ 0x82 ∷ 0x00 ∷ 0x01 ∷ 0xc0 ∷ 0x11 ∷ 0x00 ∷ 0x00 ∷ 0x00 ∷ 0x00 ∷ 0x00 ∷ 0xf4 ∷
    codes "version=\"ntpd profile 1\", leap=3, stratum=16, precision=-20, rootdelay=0.000000, rootdisp=16000.000000, refid=INIT, reftime=0x00000000.00000000, peer=0, tc=6, mintc=3, offset=0.000000, frequency=0.000000, sys_jitter=0.000000, state=1, epoch=0\r\n") ∷ []
unfolding parts_cut system_names system_texts variable_of ms_text signed_ms_text ppm_text stamp_text refid_text encode_with digits head_of
system-answer = refl

-- a peer at 10.0.0.1 that was not asked yet
abbrev unheard : PeerView
unheard = record {
  assoc = 1;
  addr = record { ip = V4 (10 ∷ 0 ∷ 0 ∷ 1 ∷ []); port = 123 };
  key = 0;
  hpoll = 6;
  ppoll = pos 0;
  pmode = 0;
  leap = 3;
  stratum = 16;
  precision = pos 0;
  root_delay = 0;
  root_disp = 0;
  refid = codes "INIT";
  reference = record { 0 = 0 };
  received = record { 0 = 0 };
  reach = 0;
  offset = record { 0 = pos 0 };
  delay = 0;
  disp = MAX_DISPERSION;
  jitter = 0;
  stages = replicate 8 None;
  auth_ok = false;
  selection = 0;
  events = 0;
  code = 0;
  leap_in = lit≤ tt;
  selection_in = lit≤ tt;
  events_in = lit≤ tt;
  code_in = lit≤ tt;
}

-- the status of the system tells each peer's: association 1 with 8000
pairs-answer : grams_for (opening_with (unheard ∷ [])) (head 1 0) context at Status ≡
    (0x16 ∷ 0x82 ∷ 0x00 ∷ 0x01 ∷ 0xc0 ∷ 0x11 ∷ 0x00 ∷ 0x00 ∷ 0x00 ∷ 0x00 ∷ 0x00 ∷ 0x04 ∷ 0x00 ∷ 0x01 ∷ 0x80 ∷ 0x00 ∷ []) ∷ []
unfolding head_of
pairs-answer = refl

-- that of the peer has its own word and no body
peer-status-answer : grams_for (opening_with (unheard ∷ [])) (head 1 1) context at Status ≡
    (0x16 ∷ 0x82 ∷ 0x00 ∷ 0x01 ∷ 0x80 ∷ 0x00 ∷ 0x00 ∷ 0x01 ∷ 0x00 ∷ 0x00 ∷ 0x00 ∷ 0x00 ∷ []) ∷ []
unfolding head_of
peer-status-answer = refl

-- all variables of the peer take two datagrams, with the epoch as tag
peer-answer : grams_for (opening_with (unheard ∷ [])) (head 2 1) context at (named []) ≡
    (0x16 ∷ 0xa2 ∷ 0x00 ∷ 0x02 ∷ 0x80 ∷ 0x00 ∷ 0x00 ∷ 0x01 ∷ 0x00 ∷ 0x00 ∷ 0x01 ∷ 0x98 ∷
    codes "resp=0x0000000000000000, srcadr=10.0.0.1, srcport=123, hmode=3, pmode=0, hpoll=6, ppoll=0, leap=3, stratum=16, precision=0, rootdelay=0.000000, rootdisp=0.000000, refid=INIT, reftime=0x00000000.00000000, rec=0x00000000.00000000, reach=000, keyid=0, offset=0.000000, delay=0.000000, dispersion=16000.000000, jitter=0.000000, filtdelay=0.000000 0.000000 0.000000 0.000000 0.000000 0.000000 0.000000 0.000000,\r\n")
    ∷ (0x16 ∷ 0x82 ∷ 0x00 ∷ 0x02 ∷ 0x80 ∷ 0x00 ∷ 0x00 ∷ 0x01 ∷ 0x01 ∷ 0x98 ∷ 0x00 ∷ 0xdf ∷
    codes "resp=0x0000000000000000, filtoffset=0.000000 0.000000 0.000000 0.000000 0.000000 0.000000 0.000000 0.000000, filtdisp=16000.000000 16000.000000 16000.000000 16000.000000 16000.000000 16000.000000 16000.000000 16000.000000\r\n" ++ 0 ∷ []) ∷ []
unfolding parts_cut tag_item peer_names peer_texts variable_of ms_text signed_ms_text stamp_text reach_text refid_text measure_text measures_text encode_with digits ip_text head_of
peer-answer = refl
