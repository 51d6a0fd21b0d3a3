-- Worked octets: a request for the variable `stratum`, its answer, errors and names (RFC 9327, sections 2, 3.4 and 4).
use Rattle.std.proofs.Common.{◌≡◌, ℕ, ◌+◌, ◌*◌, ◌^◌, true, false, List, [], ◌∷◌, ◌++◌, take, drop, Some, None, refl, lit<, lit≤, ◌≤◌, codes}
use Rattle.mode6_frame.specs.declared.message.TheConstants.{HEAD_LEN, MAX_BODY}
use Rattle.mode6_frame.specs.declared.message.FrameFault.TheVariants.{Short, BadVersion, BadMode, BadCount}
use Rattle.mode6_frame.specs.declared.message.Head.{Head}
use Rattle.mode6_frame.specs.Frames.{FrameParts, spelled_frame, head_of, error_parts, frame_fault_of}
use Rattle.mode6_frame.specs.Status.{system_status_word, peer_status_word, error_status_word}
use Rattle.refusals.specs.Refusals.{IsRefusedAt}
use Rattle.refusals.specs.Machines.{refused_where_stuck}
use Rattle.mode6_frame.specs.Items.{IsItemText, Blank, Named}
use Rattle.mode6_frame.specs.ItemReader.{item_reader, Within}
use Rattle.mode6_frame.specs.Readings.{items_read}
use Rattle.mode6_frame.specs.declared.stamps.TheConstants.{MAX_DIGITS, STAMP_LEN}
use Rattle.hex.specs.Hex.{encode_with}
use Rattle.mode6_frame.specs.Stamps.{stamp_in, stamp_text}
use Rattle.mode6_frame.proofs.ItemLemmas.{reads_items}

-- operation 2 of version 2, for `stratum`
abbrev request : FrameParts
request = record {
  leap = 0;
  version = 2;
  response = false;
  error = false;
  more = false;
  opcode = 2;
  sequence = 1;
  status = 0;
  assoc = 0;
  offset = 0;
  body = 0x73 ∷ 0x74 ∷ 0x72 ∷ 0x61 ∷ 0x74 ∷ 0x75 ∷ 0x6d ∷ [];
}

abbrev request_octets : List ℕ
request_octets =
    0x16 ∷ 0x02 ∷ 0x00 ∷ 0x01 ∷ 0x00 ∷ 0x00 ∷ 0x00 ∷ 0x00 ∷ 0x00 ∷ 0x00 ∷ 0x00 ∷ 0x07 ∷
    0x73 ∷ 0x74 ∷ 0x72 ∷ 0x61 ∷ 0x74 ∷ 0x75 ∷ 0x6d ∷ 0x00 ∷ []

-- status c011: clock not synchronized, one event, its code 1; the body is `stratum=16`, CR and LF
abbrev answer : FrameParts
answer = record {
  leap = 0;
  version = 2;
  response = true;
  error = false;
  more = false;
  opcode = 2;
  sequence = 1;
  status = 0xc011;
  assoc = 0;
  offset = 0;
  body = 0x73 ∷ 0x74 ∷ 0x72 ∷ 0x61 ∷ 0x74 ∷ 0x75 ∷ 0x6d ∷ 0x3d ∷ 0x31 ∷ 0x36 ∷ 0x0d ∷ 0x0a ∷ [];
}

abbrev answer_octets : List ℕ
answer_octets =
    0x16 ∷ 0x82 ∷ 0x00 ∷ 0x01 ∷ 0xc0 ∷ 0x11 ∷ 0x00 ∷ 0x00 ∷ 0x00 ∷ 0x00 ∷ 0x00 ∷ 0x0c ∷
    0x73 ∷ 0x74 ∷ 0x72 ∷ 0x61 ∷ 0x74 ∷ 0x75 ∷ 0x6d ∷ 0x3d ∷ 0x31 ∷ 0x36 ∷ 0x0d ∷ 0x0a ∷ []

-- an answer about the association, to a request of this operation
abbrev head : (opcode : ℕ) → opcode ≤ 31 → ℕ → Head
head opcode fits assoc = record {
  version = 2;
  opcode = opcode;
  sequence = 1;
  status = 0xc011;
  assoc = assoc;
  version_in = lit≤ tt;
  opcode_in = fits;
}

request-spelled : spelled_frame request ≡ request_octets
unfolding head_of
request-spelled = refl

answer-spelled : spelled_frame answer ≡ answer_octets
unfolding head_of
answer-spelled = refl

-- code 5, an unknown name
unknown_name-spelled : spelled_frame (error_parts (head 2 (lit≤ tt) 0) 5) ≡ 0x16 ∷ 0xc2 ∷ 0 ∷ 1 ∷ 5 ∷ 0 ∷ 0 ∷ 0 ∷ 0 ∷ 0 ∷ 0 ∷ 0 ∷ []
unfolding head_of
unknown_name-spelled = refl

-- code 4, an unknown association, and its number
unknown_association-spelled : spelled_frame (error_parts (head 2 (lit≤ tt) 9) 4) ≡ 0x16 ∷ 0xc2 ∷ 0 ∷ 1 ∷ 4 ∷ 0 ∷ 0 ∷ 9 ∷ 0 ∷ 0 ∷ 0 ∷ 0 ∷ []
unfolding head_of
unknown_association-spelled = refl

request-fault : frame_fault_of request_octets ≡ None
request-fault = refl

-- what follows the body is not judged, nor is the padding asked for
unpadded-fault : frame_fault_of (take 19 request_octets) ≡ None
unpadded-fault = refl

short-fault : frame_fault_of (take 11 (0 ∷ request_octets)) ≡ Some Short
short-fault = refl

-- version 5 and mode 7: the version is judged first
version-fault : frame_fault_of (0x2f ∷ drop 1 request_octets) ≡ Some BadVersion
version-fault = refl

-- version 4 and mode 3, a client's packet
mode-fault : frame_fault_of (0x23 ∷ drop 1 request_octets) ≡ Some BadMode
mode-fault = refl

-- nine octets are counted where eight follow
count-fault : frame_fault_of (take 11 request_octets ++ 9 ∷ drop 12 request_octets) ≡ Some BadCount
count-fault = refl

-- ` re,,st` and a new line: two items, for a slot without a name has none
names : IsItemText (32 ∷ 0x72 ∷ 0x65 ∷ 44 ∷ 44 ∷ 0x73 ∷ 0x74 ∷ 13 ∷ 10 ∷ []) (record { name = 0x72 ∷ 0x65 ∷ []; value = None } ∷ record { name = 0x73 ∷ 0x74 ∷ []; value = None } ∷ [])
names = record {
  closed = Named (32 ∷ []) (0x72 ∷ 0x65 ∷ []) [] ∷ Blank [] ∷ [];
  last = Named [] (0x73 ∷ 0x74 ∷ []) (13 ∷ 10 ∷ []);
  closed_slots = (((refl, tt), lit< tt, (refl, (refl, tt)), tt), (tt, tt));
  last_slot = (tt, lit< tt, (refl, (refl, tt)), (refl, (refl, tt)));
  spelled = refl;
  named = refl;
}

-- a bare value keeps the space within it, and one in quotes a comma too
values : IsItemText (codes "a = b c , d=\"x, y\"") (record { name = codes "a"; value = Some (codes "b c") } ∷ record { name = codes "d"; value = Some (codes "x, y") } ∷ [])
values = reads_items.sound _ _ _ refl refl

-- a value may be empty, with quotes and without
empty-values : IsItemText (codes "a=, b=\"\"\r\n") (record { name = codes "a"; value = Some [] } ∷ record { name = codes "b"; value = Some [] } ∷ [])
empty-values = reads_items.sound _ _ _ refl refl

-- white space between two octets of a bare value is its own, but for line ends
spaced-value : IsItemText (codes "filtdelay= 0.1  0.2\t0.3 \r\n") (record { name = codes "filtdelay"; value = Some (codes "0.1  0.2\t0.3") } ∷ [])
spaced-value = reads_items.sound _ _ _ refl refl

-- an equals sign may stand in a value
equals-value : IsItemText (codes "a==b") (record { name = codes "a"; value = Some (codes "=b") } ∷ [])
equals-value = reads_items.sound _ _ _ refl refl

-- a text is refused where it ends within quotes
unclosed-refused : IsRefusedAt IsItemText (codes "a=\"b") 4
unclosed-refused = refused_where_stuck item_reader (Within [] (Blank [])) IsItemText reads_items _ 4 _ (lit≤ tt) refl refl

-- behind a value in quotes
quoted-refused : IsRefusedAt IsItemText (codes "a=\"b\" c") 6
quoted-refused = refused_where_stuck item_reader (Within [] (Blank [])) IsItemText reads_items _ 6 _ (lit≤ tt) refl refl

-- behind a line end past a bare one
line-refused : IsRefusedAt IsItemText (codes "a=b\r\nc") 5
line-refused = refused_where_stuck item_reader (Within [] (Blank [])) IsItemText reads_items _ 5 _ (lit≤ tt) refl refl

-- and at a quotation mark within one
mark-refused : IsRefusedAt IsItemText (codes "a=b\"") 3
mark-refused = refused_where_stuck item_reader (Within [] (Blank [])) IsItemText reads_items _ 3 _ (lit≤ tt) refl refl

HEAD_LEN-is : HEAD_LEN ≡ 12
HEAD_LEN-is = refl

MAX_BODY-is : MAX_BODY ≡ 468
MAX_BODY-is = refl

-- not synchronized, no source, one event, its code 1
opening-status : system_status_word (record { leap = 3; source = 0; events = 1; code = 1 }) ≡ 0xc011
opening-status = refl

-- configured, with a key and a good MAC, reachable; the system peer; 15 events, the last of code 3
chosen-status : peer_status_word (record { configured = true; keyed = true; authentic = true; reachable = true; broadcast = false; selection = 6; events = 15; code = 3 }) ≡ 0xf6f3
chosen-status = refl

-- a broadcast server, which no one configured
broadcast-status : peer_status_word (record { configured = false; keyed = false; authentic = false; reachable = false; broadcast = true; selection = 0; events = 0; code = 0 }) ≡ 0x0800
broadcast-status = refl

unknown_name-status : error_status_word 5 ≡ 0x0500
unknown_name-status = refl

-- what is read of these texts: a name, a value in quotes and no value; and nothing, where quotes are open
read-values : items_read (codes "re, a=\"x, y\",b = ") ≡ Some (
    record { name = codes "re"; value = None }
    ∷ record { name = codes "a"; value = Some (codes "x, y") }
    ∷ record { name = codes "b"; value = Some [] }
    ∷ [])
unfolding items_read
read-values = refl

read-unclosed : items_read (codes "a=\"x") ≡ None
unfolding items_read
read-unclosed = refl

-- how long a timestamp's text is, and how many digits it has
stamp-sizes : STAMP_LEN ∷ MAX_DIGITS ∷ [] ≡ 19 ∷ 16 ∷ []
stamp-sizes = refl

-- one second after the origin of Unix time
stamp-written : stamp_text (0x83aa7e81 * 2 ^ 32) ≡ codes "0x83aa7e81.00000000"
unfolding stamp_text encode_with
stamp-written = refl

-- it is read in either case, and not without its point
stamp-read : stamp_in (codes "0x83AA7e81.80000000") ≡ Some (0x83aa7e81 * 2 ^ 32 + 2 ^ 31)
unfolding stamp_in
stamp-read = refl

stamp-pointless : stamp_in (codes "0x83aa7e81 00000000") ≡ None
unfolding stamp_in
stamp-pointless = refl
