-- The fragments of an answer put together (RFC 9327, section 2). That fragments of one answer share a tag, and how
-- many are kept, is our own rule.
use Rattle.std.specs.Prelude.{ℕ, zero, suc, ◌+◌, ◌/◌, ◌^◌, ◌==◌, nat_le, Bool, not, ◌&&◌, ◌||◌, if◌then◌else◌, Option, Some, None, List, [], ◌∷◌, ◌++◌, length, take, drop, codes, bytes_eq, option_map}
use Rattle.std.specs.List.{find, list_all, list_any, sum_by}
use Rattle.std.specs.Int.{is_in_range}
use Rattle.std.specs.Option.{option_and_then}
use Rattle.mode6_frame.specs.declared.groups.TheConstants.{MAX_GROUPS, MAX_PIECES}
use Rattle.mode6_frame.specs.declared.tags.TheConstants.{TAG_LEN}
use Rattle.mode6_frame.specs.declared.groups.Piece.{Piece}
use Rattle.mode6_frame.specs.declared.groups.Group.{Group}
use Rattle.mode6_frame.specs.declared.groups.Step.{Step}
use Rattle.mode6_frame.specs.declared.groups.Step.TheVariants as Then
use Rattle.mode6_frame.specs.declared.groups.Unused.{Unused}
use Rattle.mode6_frame.specs.declared.groups.Unused.TheVariants.{NotAnswer, OtherSequence, OtherOpcode, Repeated, Many}
use Rattle.mode6_frame.specs.Frames.{FrameParts}

-- a lower-case hexadecimal digit
abbrev pub is_tag_digit : ℕ → Bool
is_tag_digit octet = is_in_range 48 57 octet || is_in_range 97 102 octet

-- a body begins with a tag: `resp=0x`, sixteen lower-case hexadecimal digits, a comma and a space
abbrev pub is_tagged : List ℕ → Bool
is_tagged body =
    bytes_eq (take 7 body) (codes "resp=0x") && list_all is_tag_digit (take 16 (drop 7 body))
    && bytes_eq (take 2 (drop 23 body)) (codes ", ")

-- the tag of a body, or no octets
unfoldable pub tag_of : List ℕ → List ℕ
tag_of body = if is_tagged body then take TAG_LEN body else []

-- what follows the tag of a body, which is all of it where there is none
unfoldable pub untagged : List ℕ → List ℕ
untagged body = if is_tagged body then drop TAG_LEN body else body

-- what is kept of a fragment: its place, how many octets of the whole answer it has, and its text without the tag
abbrev pub piece_of : FrameParts → Piece
piece_of f = record {
  offset = f.offset;
  more = f.more;
  status = f.status;
  span = length f.body;
  text = untagged f.body;
}

-- the fragments that are kept of the answers to one request, by the tags of the answers, in order of arrival
pub record GroupsParts : Type 0 where
  pub opcode : ℕ
  pub sequence : ℕ
  pub groups : List Group

-- the group of this tag
abbrev pub group_of : List ℕ → List Group → Option Group
group_of tag groups = find (λ group. bytes_eq group.tag tag) groups

-- the piece at this place of the answer
abbrev pub piece_at : ℕ → List Piece → Option Piece
piece_at offset pieces = find (λ piece. piece.offset == offset) pieces

-- pieces end to end from a place on, up to one that no more follow; at most so many are joined
abbrev pub joined_from : ℕ → ℕ → List Piece → Option (List ℕ)
joined_from zero offset pieces = None
joined_from (suc most) offset pieces =
    option_and_then
    (λ piece. if piece.more then option_map (λ rest. piece.text ++ rest) (joined_from most (offset + piece.span) pieces)
    else Some piece.text)
    (piece_at offset pieces)

-- the text of an answer, where its pieces are all there
unfoldable pub joined : List Piece → Option (List ℕ)
joined pieces = joined_from (length pieces) 0 pieces

-- why a datagram is no answer to this request, in the order of the tests
abbrev pub mismatch_of : GroupsParts → FrameParts → Option Unused
mismatch_of g f =
    if not f.response then Some NotAnswer
    else (if not (f.sequence == g.sequence) then Some OtherSequence
    else (if not (f.opcode == g.opcode) then Some OtherOpcode
    else None))

-- a datagram has a whole answer
abbrev pub is_whole : FrameParts → Bool
is_whole f = f.offset == 0 && not f.more

-- why a fragment is not kept where its tag has this group, if any, and there are so many groups
abbrev pub surplus_in : Option Group → ℕ → ℕ → Option Unused
surplus_in None count offset = if nat_le MAX_GROUPS count then Some Many else None
surplus_in (Some group) count offset =
    if list_any (λ piece. piece.offset == offset) group.pieces then Some Repeated
    else (if nat_le MAX_PIECES (length group.pieces) then Some Many
    else None)

-- why a fragment is not kept: its place is taken, or there is no room for it
abbrev pub surplus_of : List Group → FrameParts → Option Unused
surplus_of groups f = surplus_in (group_of (tag_of f.body) groups) (length groups) f.offset

-- a group with one piece more
abbrev pub group_with : Group → Piece → Group
group_with group piece = record { tag = group.tag; pieces = group.pieces ++ piece ∷ [] }

-- the groups with one piece more, in the first group of its tag or in a new one
abbrev pub with_piece : List ℕ → Piece → List Group → List Group
with_piece tag piece [] = record { tag = tag; pieces = piece ∷ [] } ∷ []
with_piece tag piece (group ∷ groups) =
    if bytes_eq group.tag tag then group_with group piece ∷ groups
    else group ∷ with_piece tag piece groups

-- the pieces of a tag
abbrev pub pieces_of : Option Group → List Piece
pieces_of None = []
pieces_of (Some group) = group.pieces

-- the status of an answer: that of its first piece
abbrev pub first_status : List Piece → Option ℕ
first_status pieces = option_map (λ piece. piece.status) (piece_at 0 pieces)

-- what pieces make: an answer, or nothing yet
abbrev pub made_of : Option ℕ → Option (List ℕ) → Step
made_of (Some status) (Some text) = Then.Whole status text
made_of _ _ = Then.Waiting

-- what becomes of a fragment
abbrev pub fragment_step : Option Unused → List Piece → Step
fragment_step (Some why) pieces = Then.Unused why
fragment_step None pieces = made_of (first_status pieces) (joined pieces)

-- the pieces of a fragment's tag, and it as the last
abbrev pub pieces_with : List Group → FrameParts → List Piece
pieces_with groups f = pieces_of (group_of (tag_of f.body) groups) ++ piece_of f ∷ []

-- what becomes of a datagram: it is not used; or it refuses the request, with the code of its error; or it is a whole
-- answer; or a fragment
abbrev pub step_by : Option Unused → List Group → FrameParts → Step
step_by (Some why) groups f = Then.Unused why
step_by None groups f =
    if f.error then Then.Refused (f.status / 2 ^ 8)
    else (if is_whole f then Then.Whole f.status (untagged f.body)
    else fragment_step (surplus_of groups f) (pieces_with groups f))

-- what becomes of a datagram
unfoldable pub step_of : GroupsParts → FrameParts → Step
step_of g f = step_by (mismatch_of g f) g.groups f

-- the groups after a fragment
abbrev pub fragment_kept : Option Unused → List Group → FrameParts → List Group
fragment_kept (Some why) groups f = groups
fragment_kept None groups f = with_piece (tag_of f.body) (piece_of f) groups

-- the groups after the first fragment of its tag
abbrev pub begun : Option Unused → List Group → FrameParts → List Group
begun (Some why) groups f = groups
begun None groups f = groups ++ record { tag = tag_of f.body; pieces = piece_of f ∷ [] } ∷ []

-- the groups after a datagram: a fragment is kept, unless it is not used; all else is not
abbrev pub groups_by : Option Unused → List Group → FrameParts → List Group
groups_by (Some why) groups f = groups
groups_by None groups f =
    if f.error || is_whole f then groups
    else fragment_kept (surplus_of groups f) groups f

-- what is kept after a datagram
unfoldable pub kept_after : GroupsParts → FrameParts → GroupsParts
kept_after g f = record { opcode = g.opcode; sequence = g.sequence; groups = groups_by (mismatch_of g f) g.groups f }

-- how many fragments are kept
abbrev pub pieces_kept : GroupsParts → ℕ
pieces_kept g = sum_by (λ group. length group.pieces) g.groups
