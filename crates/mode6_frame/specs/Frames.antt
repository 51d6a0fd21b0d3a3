-- Control messages: how octets spell one, and which octets are one (RFC 9327, section 2, figure 1).
use Rattle.std.specs.Prelude.{◌≡◌, ℕ, ◌+◌, ◌-◌, ◌*◌, ◌/◌, ◌%◌, ◌^◌, ◌<◌, ◌≤◌, Bool, true, false, not, ◌==◌, nat_lt, if◌then◌else◌, List, [], ◌∷◌, ◌++◌, length, take, drop, replicate, slice_index, Option, Some, None}
use Rattle.std.specs.Int.{from_bool, is_in_range}
use Rattle.byteorder.specs.Endian.{big_bytes, big_number}
use Rattle.ntp_packet.specs.declared.leap_version_mode.TheConstants.{MIN_VERSION, CURRENT_VERSION, MODE_CONTROL}
use Rattle.ntp_packet.specs.FirstOctet.{first_octet, IsPacketVersion}
pub use Rattle.ntp_packet.specs.FirstOctet.{leap_of, version_of, mode_of}
use Rattle.mode6_frame.specs.declared.message.TheConstants.{HEAD_LEN, MAX_BODY}
use Rattle.mode6_frame.specs.declared.message.Frame.{Frame}
use Rattle.mode6_frame.specs.declared.message.Head.{Head}
use Rattle.mode6_frame.specs.declared.message.FrameFault.{FrameFault}
use Rattle.mode6_frame.specs.declared.message.FrameFault.TheVariants.{Short, BadVersion, BadMode, BadCount}
use Rattle.mode6_frame.specs.Status.{error_status_word}

-- a control message: a `Frame` by its values, without what follows the body
pub record FrameParts : Type 0 where
  pub leap : ℕ
  pub version : ℕ
  pub response : Bool
  pub error : Bool
  pub more : Bool
  pub opcode : ℕ
  pub sequence : ℕ
  pub status : ℕ
  pub assoc : ℕ
  pub offset : ℕ
  pub body : List ℕ

-- a frame by its values
abbrev pub parts_of : Frame → FrameParts
parts_of f = record {
  leap = f.leap;
  version = f.version;
  response = f.response;
  error = f.error;
  more = f.more;
  opcode = f.opcode;
  sequence = f.sequence;
  status = f.status;
  assoc = f.assoc;
  offset = f.offset;
  body = f.body.now;
}

-- the first octet, of mode 6
abbrev pub first_octet_of : FrameParts → ℕ
first_octet_of f = first_octet f.leap f.version MODE_CONTROL

-- the second octet: the response, error and more bits, and the operation code in 5 bits
abbrev pub second_octet_of : FrameParts → ℕ
second_octet_of f =
    from_bool f.response * 2 ^ 7 + from_bool f.error * 2 ^ 6 + from_bool f.more * 2 ^ 5 + f.opcode

-- the 12 octets before the body, of which the last two count the body's octets
unfoldable pub head_of : FrameParts → List ℕ
head_of f =
    (first_octet_of f ∷ second_octet_of f ∷ [])
    ++ big_bytes 2 f.sequence
    ++ big_bytes 2 f.status
    ++ big_bytes 2 f.assoc
    ++ big_bytes 2 f.offset
    ++ big_bytes 2 (length f.body)

-- the fewest zeros that fill so many octets up to a multiple of four
abbrev pub padding_of : ℕ → List ℕ
padding_of n = replicate ((n + 3) / 4 * 4 - n) 0

-- the octets of a control message: head, body and padding
abbrev pub spelled_frame : FrameParts → List ℕ
spelled_frame f = head_of f ++ f.body ++ padding_of (length f.body)

-- each field has the width that its octets have, and the body is not too long
pub record FitsFrame (f : FrameParts) : Type 0 where
  pub leap : f.leap < 2 ^ 2
  pub version : f.version < 2 ^ 3
  pub opcode : f.opcode < 2 ^ 5
  pub sequence : f.sequence < 2 ^ 16
  pub status : f.status < 2 ^ 16
  pub assoc : f.assoc < 2 ^ 16
  pub offset : f.offset < 2 ^ 16
  pub body : length f.body ≤ MAX_BODY

-- our own rule: the versions of packets are those of control messages
abbrev pub IsFrameVersion : ℕ → Type 0
IsFrameVersion = IsPacketVersion

-- the octets begin with the head and the body of this control message
pub record IsFrame (octets : List ℕ) (f : FrameParts) : Type 0 where
  pub fits : FitsFrame f
  pub version : IsFrameVersion f.version
  pub spelled : take (HEAD_LEN + length f.body) octets ≡ head_of f ++ f.body

-- a bit of the second octet
abbrev pub flag_of : ℕ → List ℕ → Bool
flag_of bit octets = slice_index octets 1 / 2 ^ bit % 2 == 1

-- the operation code, in bits 0 to 4 of the second octet
abbrev pub opcode_of : List ℕ → ℕ
opcode_of octets = slice_index octets 1 % 2 ^ 5

-- the number in the two octets from a place, the high one first
abbrev pub word_at : ℕ → List ℕ → ℕ
word_at place octets = big_number 2 (drop place octets)

-- how many octets the body is said to have
abbrev pub count_of : List ℕ → ℕ
count_of octets = word_at 10 octets

-- our own rule: why octets are no control message, the first cause in the order of length, version,
-- mode and count
abbrev pub frame_fault_of : List ℕ → Option FrameFault
frame_fault_of octets =
    if nat_lt (length octets) HEAD_LEN then Some Short
    else (if not (is_in_range MIN_VERSION CURRENT_VERSION (version_of octets)) then Some BadVersion
    else (if not (mode_of octets == MODE_CONTROL) then Some BadMode
    else (if nat_lt MAX_BODY (count_of octets) then Some BadCount
    else (if nat_lt (length octets) (HEAD_LEN + count_of octets) then Some BadCount
    else None))))

-- the error response to a request: the code in the status, and no body (RFC 9327, section 3.4)
abbrev pub error_parts : Head → ℕ → FrameParts
error_parts head code = record {
  leap = 0;
  version = head.version;
  response = true;
  error = true;
  more = false;
  opcode = head.opcode;
  sequence = head.sequence;
  status = error_status_word code;
  assoc = head.assoc;
  offset = 0;
  body = [];
}
