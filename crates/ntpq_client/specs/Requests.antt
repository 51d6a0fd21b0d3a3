-- Requests as they are sent (RFC 9327, section 2).
use Rattle.std.specs.Prelude.{ℕ, ◌≤◌, false, List, length}
use Rattle.mode6_frame.specs.declared.message.TheConstants.{MAX_BODY}
use Rattle.mode6_frame.specs.Frames.{FrameParts, spelled_frame}
use Rattle.ntpq_client.specs.declared.request.Request.{Request}

-- a request can be sent: version and operation code have the width of their bits, and the body is not too long
pub record IsRequest (request : Request) : Type 0 where
  pub version : request.version ≤ 7
  pub opcode : request.opcode ≤ 31
  pub body : length request.body ≤ MAX_BODY

-- the control message that a request with this sequence number is
abbrev pub request_parts : Request → ℕ → FrameParts
request_parts request sequence = record {
  leap = 0;
  version = request.version;
  response = false;
  error = false;
  more = false;
  opcode = request.opcode;
  sequence = sequence;
  status = 0;
  assoc = request.assoc;
  offset = 0;
  body = request.body;
}

-- the octets of a request with this sequence number
unfoldable pub request_octets : Request → ℕ → List ℕ
request_octets request sequence = spelled_frame (request_parts request sequence)
