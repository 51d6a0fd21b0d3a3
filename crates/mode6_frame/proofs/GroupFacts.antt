-- Worked orders of fragments, and the numbers that bound them (RFC 9327, section 2; the tags and bounds are our own rule).
use Rattle.std.proofs.Common.{◌≡◌, ℕ, Bool, true, false, List, [], ◌∷◌, ◌++◌, codes, refl}
use Rattle.std.specs.Prelude.{replicate}
use Rattle.mode6_frame.specs.declared.groups.TheConstants.{MAX_GROUPS, MAX_PIECES}
use Rattle.mode6_frame.specs.declared.tags.TheConstants.{TAG_LEN}
use Rattle.mode6_frame.specs.declared.groups.Group.{Group}
use Rattle.mode6_frame.specs.declared.groups.Piece.{Piece}
use Rattle.mode6_frame.specs.declared.groups.Step.TheVariants as Then
use Rattle.mode6_frame.specs.declared.groups.Unused.TheVariants.{NotAnswer, OtherSequence, OtherOpcode, Repeated, Many}
use Rattle.mode6_frame.specs.Frames.{FrameParts}
use Rattle.mode6_frame.specs.Groups.{GroupsParts, joined, kept_after, step_of, tag_of, untagged}
use Rattle.mode6_frame.specs.Served.{Refusal, Body, IsTold}

MAX_GROUPS-is : MAX_GROUPS ≡ 8
MAX_GROUPS-is = refl

MAX_PIECES-is : MAX_PIECES ≡ 128
MAX_PIECES-is = refl

TAG_LEN-is : TAG_LEN ≡ 25
TAG_LEN-is = refl

abbrev tag_42 : List ℕ
tag_42 = codes "resp=0x000000000000002a, "

abbrev tag_255 : List ℕ
tag_255 = codes "resp=0x00000000000000ff, "

-- a fragment of an answer to the request 7 of operation 2
abbrev fragment : ℕ → Bool → ℕ → List ℕ → FrameParts
fragment offset more status body = record {
  leap = 0;
  version = 2;
  response = true;
  error = false;
  more = more;
  opcode = 2;
  sequence = 7;
  status = status;
  assoc = 0;
  offset = offset;
  body = body;
}

-- the first 31 octets of an answer, and the last 30
abbrev first : FrameParts
first = fragment 0 true 0x0615 (tag_42 ++ codes "a=1,\r\n")

abbrev last : FrameParts
last = fragment 31 false 0x0616 (tag_42 ++ codes "b=2\r\n")

-- as much of another answer
abbrev other_first : FrameParts
other_first = fragment 0 true 0x0617 (tag_255 ++ codes "a=3,\r\n")

abbrev other_last : FrameParts
other_last = fragment 31 false 0x0617 (tag_255 ++ codes "b=4\r\n")

abbrev none : GroupsParts
none = record { opcode = 2; sequence = 7; groups = [] }

-- a tag is left out, and only a tag
tag_of-first : tag_of first.body ≡ tag_42
unfolding tag_of
tag_of-first = refl

untagged-last : untagged last.body ≡ codes "b=2\r\n"
unfolding untagged
untagged-last = refl

tag_of-capital : tag_of (codes "resp=0x000000000000002A, a=1") ≡ []
unfolding tag_of
tag_of-capital = refl

tag_of-short : tag_of (codes "resp=0x2a, a=1") ≡ []
unfolding tag_of
tag_of-short = refl

tag_of-no_space : tag_of (codes "resp=0x000000000000002a,a=1") ≡ []
unfolding tag_of
tag_of-no_space = refl

-- the first fragment waits for the last
step_of-first : step_of none first ≡ Then.Waiting
unfolding step_of joined tag_of untagged
step_of-first = refl

step_of-last_behind_first : step_of (kept_after none first) last ≡ Then.Whole 0x0615 (codes "a=1,\r\nb=2\r\n")
unfolding step_of kept_after joined tag_of untagged
step_of-last_behind_first = refl

-- and the last for the first, whose status is the answer's
step_of-last : step_of none last ≡ Then.Waiting
unfolding step_of joined tag_of untagged
step_of-last = refl

step_of-first_behind_last : step_of (kept_after none last) first ≡ Then.Whole 0x0615 (codes "a=1,\r\nb=2\r\n")
unfolding step_of kept_after joined tag_of untagged
step_of-first_behind_last = refl

-- a fragment of another answer between them changes nothing
step_of-other : step_of (kept_after none first) other_last ≡ Then.Waiting
unfolding step_of kept_after joined tag_of untagged
step_of-other = refl

step_of-last_behind_other : step_of (kept_after (kept_after none first) other_last) last ≡ Then.Whole 0x0615 (codes "a=1,\r\nb=2\r\n")
unfolding step_of kept_after joined tag_of untagged
step_of-last_behind_other = refl

step_of-other_first : step_of (kept_after (kept_after (kept_after none first) other_last) last) other_first ≡ Then.Whole 0x0617 (codes "a=3,\r\nb=4\r\n")
unfolding step_of kept_after joined tag_of untagged
step_of-other_first = refl

-- a repeated fragment is not used, and not kept
step_of-repeated : step_of (kept_after none last) last ≡ Then.Unused Repeated
unfolding step_of kept_after joined tag_of untagged
step_of-repeated = refl

kept_after-repeated : kept_after (kept_after none last) last ≡ kept_after none last
unfolding kept_after tag_of untagged
kept_after-repeated = refl

-- a fragment that is whole by itself is the answer at once, also where one of its place is kept, and is not kept
abbrev whole : FrameParts
whole = fragment 0 false 0x0618 (tag_42 ++ codes "c=5\r\n")

step_of-whole : step_of (kept_after none first) whole ≡ Then.Whole 0x0618 (codes "c=5\r\n")
unfolding step_of kept_after untagged
step_of-whole = refl

kept_after-whole : kept_after none whole ≡ none
unfolding kept_after
kept_after-whole = refl

-- a place that no fragment reaches is waited for
step_of-gap : step_of (kept_after none (fragment 32 false 0x0616 (tag_42 ++ codes "b=2\r\n"))) first ≡ Then.Waiting
unfolding step_of kept_after joined tag_of untagged
step_of-gap = refl

-- eight groups, and then one of a ninth tag; also a group of the most pieces
abbrev piece : Piece
piece = record { offset = 40; more = false; status = 0; span = 30; text = codes "b=2\r\n" }

abbrev group : List ℕ → Group
group tag = record { tag = tag; pieces = piece ∷ [] }

abbrev full : GroupsParts
full = record { opcode = 2; sequence = 7; groups = replicate 7 (group tag_255) ++ group [] ∷ [] }

step_of-ninth : step_of full first ≡ Then.Unused Many
unfolding step_of joined tag_of untagged
step_of-ninth = refl

kept_after-ninth : kept_after full first ≡ full
unfolding kept_after tag_of untagged
kept_after-ninth = refl

step_of-eighth : step_of (record { opcode = 2; sequence = 7; groups = replicate 7 (group tag_255) }) first ≡ Then.Waiting
unfolding step_of joined tag_of untagged
step_of-eighth = refl

step_of-129th : step_of (record { opcode = 2; sequence = 7; groups = record { tag = tag_42; pieces = replicate 128 piece } ∷ [] }) first ≡ Then.Unused Many
unfolding step_of joined tag_of untagged
step_of-129th = refl

step_of-128th : step_of (record { opcode = 2; sequence = 7; groups = record { tag = tag_42; pieces = replicate 127 piece } ∷ [] }) first ≡ Then.Waiting
unfolding step_of joined tag_of untagged
step_of-128th = refl

-- the tests, in their order
abbrev strange : FrameParts
strange = record {
  leap = 0;
  version = 2;
  response = false;
  error = true;
  more = false;
  opcode = 1;
  sequence = 8;
  status = 0x0500;
  assoc = 0;
  offset = 0;
  body = [];
}

step_of-request : step_of none strange ≡ Then.Unused NotAnswer
unfolding step_of
step_of-request = refl

step_of-other_sequence : step_of none (record strange { response = true }) ≡ Then.Unused OtherSequence
unfolding step_of
step_of-other_sequence = refl

step_of-other_opcode : step_of none (record strange { response = true; sequence = 7 }) ≡ Then.Unused OtherOpcode
unfolding step_of
step_of-other_opcode = refl

step_of-refused : step_of none (record strange { response = true; sequence = 7; opcode = 2 }) ≡ Then.Refused 5
unfolding step_of
step_of-refused = refl

-- what is told of a refusal and of a body
IsTold-refusal : IsTold (Refusal 5) (Then.Refused 5)
IsTold-refusal = refl

IsTold-body : IsTold (Body 0x0615 (codes "a=1\r\n")) (Then.Whole 0x0615 (codes "a=1\r\n"))
IsTold-body = (refl, refl)
