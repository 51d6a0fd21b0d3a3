-- The control message that octets begin with, field by field at its place (RFC 9327, section 2, figure 1).
use Rattle.std.specs.Prelude.{ℕ, List, take, drop}
use Rattle.mode6_frame.specs.declared.message.TheConstants.{HEAD_LEN}
use Rattle.mode6_frame.specs.Frames.{FrameParts, leap_of, version_of, flag_of, opcode_of, word_at, count_of}

-- the control message in the first octets, as many as it counts
unfoldable pub frame_at : List ℕ → FrameParts
frame_at octets = record {
  leap = leap_of octets;
  version = version_of octets;
  response = flag_of 7 octets;
  error = flag_of 6 octets;
  more = flag_of 5 octets;
  opcode = opcode_of octets;
  sequence = word_at 2 octets;
  status = word_at 4 octets;
  assoc = word_at 6 octets;
  offset = word_at 8 octets;
  body = take (count_of octets) (drop HEAD_LEN octets);
}
