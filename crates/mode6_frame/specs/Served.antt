-- What a server sends in answer to one request, and what is told of it to the client: our own words.
use Rattle.std.specs.Prelude.{◌≡◌, ℕ, ◌<◌, ◌≤◌, ◌/◌, ◌^◌, true, false, List, length, Contains}
use Rattle.std.specs.List.{AllByRecursion, flat_map}
use Rattle.mode6_frame.specs.declared.groups.Piece.{Piece}
use Rattle.mode6_frame.specs.declared.items.Item.{Item}
use Rattle.mode6_frame.specs.declared.groups.Step.{Step}
use Rattle.mode6_frame.specs.declared.groups.Step.TheVariants as Then
use Rattle.mode6_frame.specs.declared.message.TheConstants.{MAX_BODY}
use Rattle.mode6_frame.specs.Cuts.{Part, tag_text, parts_cut, IsCuttable}
use Rattle.mode6_frame.specs.Frames.{FrameParts}
use Rattle.mode6_frame.specs.Groups.{GroupsParts, is_tagged, untagged}
use Rattle.mode6_frame.specs.Items.{IsItemText}
use Rattle.mode6_frame.specs.ItemTexts.{IsWritable}

-- the text of an answer in these parts: their bodies without the tags, end to end
abbrev pub text_in : List Part → List ℕ
text_in parts = flat_map (λ part. untagged part.body) parts

-- an answer to one request: an error code; a status and a body in one datagram; or a status and items, cut with a tag
pub data Served : Type 0 where
  Refusal : (code : ℕ) → Served
  Body : (status : ℕ) (body : List ℕ) → Served
  Listed : (status tag : ℕ) (items : List Item) → Served

-- an answer can be sent: a body fits into a datagram and has no tag; a tag has 64 bits, and items can be cut and are
-- read back
abbrev pub IsServed : Served → Type 0
IsServed (Refusal code) = Unit {0}
IsServed (Body status body) = (length body ≤ MAX_BODY) × (is_tagged body ≡ false)
IsServed (Listed status tag items) = (tag < 2 ^ 64) × AllByRecursion IsWritable items × IsCuttable tag items

-- a response carries this part
pub record Carries (f : FrameParts) (part : Part) : Type 0 where
  pub offset : f.offset ≡ part.offset
  pub more : f.more ≡ part.more
  pub body : f.body ≡ part.body

-- a response is one datagram of this answer
abbrev pub IsDatagramOf : Served → FrameParts → Type 0
IsDatagramOf (Refusal code) f = (f.error ≡ true) × (f.status / 2 ^ 8 ≡ code)
IsDatagramOf (Body status body) f =
    (f.error ≡ false) × (f.status ≡ status) × Carries f (record { offset = 0; more = false; body = body })
IsDatagramOf (Listed status tag items) f =
    (f.error ≡ false) × (f.status ≡ status) × ((part : Part) × Contains (parts_cut tag items) part × Carries f part)

-- a status and a text tell this answer: its body, or a text of its items
abbrev pub Tells : ℕ → List ℕ → Served → Type 0
Tells status text (Refusal code) = ⊥
Tells status text (Body its body) = (status ≡ its) × (text ≡ body)
Tells status text (Listed its tag items) = (status ≡ its) × IsItemText text items

-- two answers to one request: where both are cut with one tag they are one answer
abbrev pub IsOneByTag : Served → Served → Type 0
IsOneByTag (Listed status tag items) (Listed its_status its_tag its_items) =
    tag ≡ its_tag → (status ≡ its_status) × (items ≡ its_items)
IsOneByTag _ _ = Unit {0}

-- the answers that a server sent to one request: each can be sent, and a tag names one of them
pub record AreServed (answers : List Served) : Type 0 where
  pub each : (answer : Served) → Contains answers answer → IsServed answer
  pub tagged : (one other : Served) → Contains answers one → Contains answers other → IsOneByTag one other

-- what is kept of a fragment that carries this part, under this status
abbrev pub piece_kept : ℕ → Part → Piece
piece_kept status part = record {
  offset = part.offset;
  more = part.more;
  status = status;
  span = length part.body;
  text = untagged part.body;
}

-- a piece is kept of a part of one of these answers, one that is cut with the tag of this text
pub record IsKeptOf (answers : List Served) (text : List ℕ) (piece : Piece) : Type 0 where
  pub status : ℕ
  pub tag : ℕ
  pub items : List Item
  pub part : Part
  pub among : Contains answers (Listed status tag items)
  pub tagged : text ≡ tag_text tag
  pub of_answer : Contains (parts_cut tag items) part
  pub kept : piece ≡ piece_kept status part

-- all that is kept was cut from these answers, and each group has the tag of its answer
abbrev pub AreOf : List Served → GroupsParts → Type 0
AreOf answers g = AllByRecursion (λ group. AllByRecursion (IsKeptOf answers group.tag) group.pieces) g.groups

-- what becomes of a datagram of an answer: where it refuses the request the answer is that refusal, and where an answer
-- is whole it is this answer that is told
abbrev pub IsTold : Served → Step → Type 0
IsTold answer (Then.Unused why) = Unit {0}
IsTold answer Then.Waiting = Unit {0}
IsTold answer (Then.Refused code) = answer ≡ Refusal code
IsTold answer (Then.Whole status text) = Tells status text answer
