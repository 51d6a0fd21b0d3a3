-- How many groups and pieces are kept.
use Rattle.std.proofs.Common.{◌≡◌, ℕ, suc, ◌+◌, ◌<◌, ◌≤◌, ◌==◌, nat_le, Bool, true, false, ◌||◌, cond, List, [], ◌∷◌, length, bytes_eq, Option, Some, None, Result, Ok, Err, IfOk, OnOk, OnErr, ◌/◌, ◌^◌, refl, ap, ◌∙◌, sym, subst, length-append, arith}
use Rattle.std.specs.List.{All, AllByRecursion, list_any, sum_by}
use Rattle.std.proofs.lemmas.Bool.Decides.{nat_tests}
use Rattle.std.proofs.lemmas.List.Elements.{All-from_recursion, recursion_from_All}
use Rattle.std.proofs.lemmas.List.Sums.{sum_by-cons, sum_by-le}
use Rattle.mode6_frame.specs.declared.groups.Group.{Group}
use Rattle.mode6_frame.specs.declared.groups.Piece.{Piece}
use Rattle.mode6_frame.specs.declared.groups.Step.{Step}
use Rattle.mode6_frame.specs.declared.groups.Step.TheVariants as Then
use Rattle.mode6_frame.specs.declared.groups.Unused.{Unused}
use Rattle.mode6_frame.specs.declared.groups.Unused.TheVariants.{Repeated, Many}
use Rattle.mode6_frame.specs.Frames.{FrameParts}
use Rattle.mode6_frame.specs.Groups.{fragment_kept, fragment_step, group_of, group_with, groups_by, is_whole, piece_of, pieces_of, pieces_with, step_by, surplus_in, surplus_of, tag_of, untagged, with_piece}

-- how many groups a piece adds
abbrev added : Option Group → ℕ
added None = 1
added (Some group) = 0

-- how many groups there are with a piece more
length-with_piece : (tag : List ℕ) (piece : Piece) (groups : List Group) → length (with_piece tag piece groups) ≡ length groups + added (group_of tag groups)
length-with_piece tag piece [] = refl
length-with_piece tag piece (group ∷ groups) =
    elim (bytes_eq group.tag tag) as (λ b. length (cond b (group_with group piece ∷ groups) (group ∷ with_piece tag piece groups)) ≡ suc (length groups) + added (cond b (Some group) (group_of tag groups))) [
      | true ↦ omega arith
      | false ↦ omega (arith, length-with_piece tag piece groups)
    ]

-- each group has as many pieces as it may
abbrev AreShort : List Group → Type 0
AreShort groups = AllByRecursion (λ group. length group.pieces ≤ 128) groups

-- a piece more in a group that has room
AreShort-with_piece : (tag : List ℕ) (piece : Piece) (groups : List Group) → AreShort groups → length (pieces_of (group_of tag groups)) < 128 → AreShort (with_piece tag piece groups)
AreShort-with_piece tag piece [] short room = (omega arith, tt)
AreShort-with_piece tag piece (group ∷ groups) short room =
    let chosen = elim (bytes_eq group.tag tag) as (λ b. length (pieces_of (cond b (Some group) (group_of tag groups))) < 128 → AreShort (cond b (group_with group piece ∷ groups) (group ∷ with_piece tag piece groups))) [
      | true ↦ λ free. (omega (arith, length-append group.pieces (piece ∷ [])), short.1)
      | false ↦ λ free. (short.0, AreShort-with_piece tag piece groups short.1 free)
    ] in
    chosen room

-- a fragment that is kept finds room
room-in : (found : Option Group) (count offset : ℕ) → surplus_in found count offset ≡ None → count ≤ 8 → (count + added found ≤ 8) × (length (pieces_of found) < 128)
room-in None count offset kept few =
    let chosen : (b : Bool) → nat_le 8 count ≡ b → cond b (Some Many) None ≡ None → count < 8 = λ b is. elim b as (λ t. nat_le 8 count ≡ t → cond t (Some Many) None ≡ None → count < 8) [
      | true ↦ λ full many. absurd (cc)
      | false ↦ λ room none. grind (arith, nat_tests)
    ] is in
    (omega (arith, chosen (nat_le 8 count) refl kept), omega arith)
room-in (Some group) count offset kept few =
    let chosen : (b : Bool) → nat_le 128 (length group.pieces) ≡ b → cond (list_any (λ (p : Piece). p.offset == offset) group.pieces) (Some Repeated) (cond b (Some Many) None) ≡ None → length group.pieces < 128 = λ b is.
    elim b as (λ t. nat_le 128 (length group.pieces) ≡ t → cond (list_any (λ (p : Piece). p.offset == offset) group.pieces) (Some Repeated) (cond t (Some Many) None) ≡ None → length group.pieces < 128) [
      | true ↦ λ full many. absurd (not-many (list_any (λ (p : Piece). p.offset == offset) group.pieces) many)
      | false ↦ λ room none. grind (arith, nat_tests)
    ] is in
    (omega arith, chosen (nat_le 128 (length group.pieces)) refl kept)
  where
    not-many : (b : Bool) → cond b (Some Repeated) (Some Many) ≡ None → ⊥
    not-many true e = cc
    not-many false e = cc

-- as many groups and pieces as there may be
abbrev pub AreFew : List Group → Type 0
AreFew groups = (length groups ≤ 8) × All (λ group. length group.pieces ≤ 128) groups

-- a fragment keeps to it
AreFew-fragment_kept : (why : Option Unused) (groups : List Group) (f : FrameParts) → surplus_of groups f ≡ why → AreFew groups → AreFew (fragment_kept why groups f)
AreFew-fragment_kept (Some why) groups f is few = few
AreFew-fragment_kept None groups f is few =
    let room = room-in (group_of (tag_of f.body) groups) (length groups) f.offset is few.0 in (
      omega (arith, length-with_piece (tag_of f.body) (piece_of f) groups, room.0),
      All-from_recursion (λ (group : Group). length group.pieces ≤ 128) (with_piece (tag_of f.body) (piece_of f) groups)
          (AreShort-with_piece (tag_of f.body) (piece_of f) groups (recursion_from_All (λ (group : Group). length group.pieces ≤ 128) groups few.1) room.1),
    )

-- and so does each datagram
AreFew-groups_by : (groups : List Group) (f : FrameParts) → AreFew groups → AreFew (groups_by None groups f)
AreFew-groups_by groups f few =
    elim (f.error || is_whole f) as (λ b. AreFew (cond b groups (fragment_kept (surplus_of groups f) groups f))) [
      | true ↦ few
      | false ↦ AreFew-fragment_kept (surplus_of groups f) groups f refl few
    ]

-- after a datagram, taken or not
pub AreFew-after : {E : Type 0} (r : Result Step E) (old new : List Group) (f : FrameParts) → OnOk r (new ≡ groups_by None old f) → OnErr r (new ≡ old) → AreFew old → AreFew new
AreFew-after (Ok step) old new f after kept few = subst AreFew (sym after) (AreFew-groups_by old f few)
AreFew-after (Err fault) old new f after kept few = subst AreFew (sym kept) few

-- how many pieces groups have
abbrev pub pieces_in : List Group → ℕ
pieces_in groups = sum_by (λ group. length group.pieces) groups

-- with a piece more they have one more
pieces_in-with_piece : (tag : List ℕ) (piece : Piece) (groups : List Group) → pieces_in (with_piece tag piece groups) ≡ pieces_in groups + 1
pieces_in-with_piece tag piece [] = refl
pieces_in-with_piece tag piece (group ∷ groups) =
    let size = λ (g : Group). length g.pieces in
    elim (bytes_eq group.tag tag) as (λ b. pieces_in (cond b (group_with group piece ∷ groups) (group ∷ with_piece tag piece groups)) ≡ pieces_in (group ∷ groups) + 1) [
      | true ↦ omega (arith, sum_by-cons size (group_with group piece) groups, sum_by-cons size group groups, length-append group.pieces (piece ∷ []))
      | false ↦ omega (arith, sum_by-cons size group (with_piece tag piece groups), sum_by-cons size group groups, pieces_in-with_piece tag piece groups)
    ]

-- a fragment takes no piece away
pieces_in-fragment_kept : (why : Option Unused) (groups : List Group) (f : FrameParts) → pieces_in groups ≤ pieces_in (fragment_kept why groups f)
pieces_in-fragment_kept (Some why) groups f = omega arith
pieces_in-fragment_kept None groups f = omega (arith, pieces_in-with_piece (tag_of f.body) (piece_of f) groups)

-- nor does a datagram
pieces_in-groups_by : (groups : List Group) (f : FrameParts) → pieces_in groups ≤ pieces_in (groups_by None groups f)
pieces_in-groups_by groups f =
    elim (f.error || is_whole f) as (λ b. pieces_in groups ≤ pieces_in (cond b groups (fragment_kept (surplus_of groups f) groups f))) [
      | true ↦ omega arith
      | false ↦ pieces_in-fragment_kept (surplus_of groups f) groups f
    ]

-- taken or not
pub grows-after : {E : Type 0} (r : Result Step E) (old new : List Group) (f : FrameParts) → OnOk r (new ≡ groups_by None old f) → OnErr r (new ≡ old) → pieces_in old ≤ pieces_in new
grows-after (Ok step) old new f after kept = subst (λ xs. pieces_in old ≤ pieces_in xs) (sym after) (pieces_in-groups_by old f)
grows-after (Err fault) old new f after kept = subst (λ xs. pieces_in old ≤ pieces_in xs) (sym kept) (omega arith)

-- where a fragment waits for more it is kept
pieces_in-waiting : (groups : List Group) (f : FrameParts) → step_by None groups f ≡ Then.Waiting → pieces_in (groups_by None groups f) ≡ pieces_in groups + 1
pieces_in-waiting groups f waiting =
    let chosen = elim f.error as (λ e. cond e (Then.Refused (f.status / 2 ^ 8)) (cond (is_whole f) (Then.Whole f.status (untagged f.body)) (fragment_step (surplus_of groups f) (pieces_with groups f))) ≡ Then.Waiting
    → pieces_in (cond (e || is_whole f) groups (fragment_kept (surplus_of groups f) groups f)) ≡ pieces_in groups + 1) [
      | true ↦ λ is. absurd (cc)
      | false ↦ λ is. unrefused (is_whole f) is
    ] in
    chosen waiting
  where
    kept : (why : Option Unused) → fragment_step why (pieces_with groups f) ≡ Then.Waiting → pieces_in (fragment_kept why groups f) ≡ pieces_in groups + 1
    kept None is = pieces_in-with_piece (tag_of f.body) (piece_of f) groups
    kept (Some why) is = absurd (cc)

    unrefused : (whole : Bool) → cond whole (Then.Whole f.status (untagged f.body)) (fragment_step (surplus_of groups f) (pieces_with groups f)) ≡ Then.Waiting
        → pieces_in (cond whole groups (fragment_kept (surplus_of groups f) groups f)) ≡ pieces_in groups + 1
    unrefused true is = absurd (cc)
    unrefused false is = kept (surplus_of groups f) is

-- after a datagram that waits for more
pub waiting-after : {E : Type 0} (r : Result Step E) (old new : List Group) (f : FrameParts) → OnOk r (new ≡ groups_by None old f) → IfOk r (λ step. step ≡ step_by None old f) → r ≡ Ok Then.Waiting
    → pieces_in new ≡ pieces_in old + 1
waiting-after (Ok step) old new f after told waiting =
    let same : step ≡ Then.Waiting = cc in
    ap pieces_in after ∙ pieces_in-waiting old f (sym told ∙ same)
waiting-after (Err fault) old new f after told waiting = absurd (cc)

-- few groups of few pieces have at most 1,024 pieces
pub pieces_in-le : (groups : List Group) → AreFew groups → pieces_in groups ≤ 1024
pieces_in-le groups few = omega (arith, few.0, sum_by-le (λ (group : Group). length group.pieces) 128 groups few.1)
