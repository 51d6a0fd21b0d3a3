-- Worked datagrams: an unsynchronized server's reply (RFC 5905, sections 7.3 and 7.4), and control messages (RFC 9327, section 2).
use Rattle.std.proofs.Common.{◌≡◌, ℕ, ◌^◌, pos, negsuc, List, [], ◌∷◌, ◌++◌, false, replicate, refl, lit≤, inl, inr, arith}
use Rattle.fixed_time.specs.declared.time.Ntp64.{Ntp64}
use Rattle.mac_keys.specs.declared.checking.Auth.TheVariants.{Absent, Good, Bad}
use Rattle.mac_keys.specs.declared.keys.Algorithm.TheVariants.{Md5}
use Rattle.mac_keys.specs.declared.keys.Key.{Key}
use Rattle.net_addr.specs.declared.addr.Ip.TheVariants.{V4}
use Rattle.discipline.specs.SoftClock.{clock_time}
use Rattle.mode6_frame.specs.declared.message.FrameFault.TheVariants.{BadCount}
use Rattle.mode6_frame.specs.Frames.{FrameParts}
use Rattle.sys_vars.specs.declared.asked.What.TheVariants.{Bad as Refused, Nonce, Status}
use Rattle.sys_vars.specs.declared.context.Context.{Context}
use Rattle.net_addr.specs.declared.addr.Addr.{Addr}
use Rattle.sys_vars.specs.Opening.{opening_record}
use Rattle.server_core.specs.declared.class.Ask.{Ask}
use Rattle.server_core.specs.declared.class.Unheard.TheVariants.{Packet, Frame, Unserved}
use Rattle.server_core.specs.declared.reply.Basis.{Basis}
use Rattle.server_core.specs.Class.{IsUnheard}
use Rattle.server_core.specs.Control.{IsWhat, has_answer_bit}
use Rattle.server_core.specs.Reply.{HasKey, ended, reply_header}

-- the origin of Unix time
abbrev pub unix : Ntp64
unix = record { 0 = 0x83aa7e8000000000 }

-- what a server that knows no time replies from
abbrev basis : Basis
basis = record { system = (opening_record unix []).system; clock = (opening_record unix []).clock }

-- a request of version 4 that left its client then
abbrev pub ask : Ask
ask = record {
  from = record { ip = V4 (192 ∷ 0 ∷ 2 ∷ 1 ∷ []); port = 123 };
  version = 4;
  poll = pos 6;
  transmit = unix;
  auth = Absent;
  version_least = lit≤ tt;
  version_most = lit≤ tt;
}

-- it is answered one second later: leap 3, stratum 0, and a dispersion of 16 seconds
header : reply_header basis ask (2 ^ 32) (2 ^ 32) ≡ record {
  leap = 3;
  version = 4;
  mode = 4;
  stratum = 0;
  poll = pos 6;
  precision = negsuc 19;
  root_delay = record { 0 = 0 };
  root_disp = record { 0 = 0x100000 };
  refid = 73 ∷ 78 ∷ 73 ∷ 84 ∷ [];
  reference = record { 0 = 0 };
  origin = unix;
  receive = record { 0 = 0x83aa7e8100000000 };
  transmit = record { 0 = 0x83aa7e8100000000 };
}
unfolding reply_header clock_time
header = refl

-- where a datagram comes from, and when
abbrev from : Addr
from = ask.from

abbrev context : Context
context = record { salt = record { 0 = replicate 16 0 }; origin = unix; moment = 2 ^ 32 }

-- no octet is too short a packet
nothing : IsUnheard [] from context (Packet 1)
nothing = inl (refl, refl)

-- one octet of mode 7
private : IsUnheard (0x27 ∷ []) from context (Unserved 7)
private = (λ e. absurd cc, refl, λ e. omega (arith, e), λ e. omega (arith, e))

-- a request for stratum whose count says 9 octets, before 8
miscounted : IsUnheard (0x16 ∷ 0x02 ∷ 0x00 ∷ 0x01 ∷ 0x00 ∷ 0x00 ∷ 0x00 ∷ 0x00 ∷ 0x00 ∷ 0x00 ∷ 0x00 ∷ 0x09 ∷ 0x73 ∷ 0x74 ∷ 0x72 ∷ 0x61 ∷ 0x74 ∷ 0x75 ∷ 0x6d ∷ 0x00 ∷ []) from context (Frame 4)
miscounted = (refl, (BadCount, refl, refl))

-- a request of an operation
abbrev request : ℕ → FrameParts
request opcode = record { leap = 0; version = 2; response = false; error = false; more = false; opcode = opcode; sequence = 1; status = 0; assoc = 0; offset = 0; body = [] }

-- it has no bit of an answer
is_request : has_answer_bit (request 2) ≡ false
is_request = refl

-- no such operation is served
reserved : IsWhat (request 11) (Refused 3)
reserved = inr (record { status = λ e. omega (arith, e); variables = λ e. omega (arith, e); list = λ e. omega (arith, e); nonce = λ e. omega (arith, e) }, refl)

-- a request for a nonce is one, whatever its body
nonce_asked : IsWhat (record (request 12) { body = 1 ∷ 2 ∷ [] }) Nonce
nonce_asked = refl

-- a request for a status is one, whatever its body
status_asked : IsWhat (record (request 1) { body = 1 ∷ 2 ∷ [] }) Status
status_asked = refl

-- a reply to a bad MAC ends with a crypto-NAK
bad_ends : (keys : List Key) (octets : List ℕ) → ended keys Bad octets ≡ octets ++ (0 ∷ 0 ∷ 0 ∷ 0 ∷ [])
bad_ends keys octets = refl

-- the table of the key file `7 MD5 secret`
abbrev key_file : List Key
key_file = record { id = 7; algorithm = Md5; secret = 115 ∷ 101 ∷ 99 ∷ 114 ∷ 101 ∷ 116 ∷ [] } ∷ []

-- it has the key of a good MAC with id 7, and not with id 8
has_key : HasKey key_file (Good 7)
has_key = refl

has_no_key : ¬ (HasKey key_file (Good 8))
has_no_key none = cc
