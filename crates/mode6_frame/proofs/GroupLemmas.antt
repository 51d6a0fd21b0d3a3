-- The groups of fragments: a group and a piece by their places.
use Rattle.std.proofs.Common.{◌≡◌, ℕ, zero, suc, ◌+◌, ◌<◌, ◌≤◌, ◌==◌, nat_le, Bool, true, false, not, ◌&&◌, ◌||◌, cond, List, [], ◌∷◌, ◌++◌, length, take, drop, get_or, set, codes, bytes_eq, Option, Some, None, Result, Ok, Err, IfOk, OnOk, option_map, refl, ap, ◌∙◌, sym, length-drop, length-take, arith}
use Rattle.std.specs.Prelude.{Contains}
use Rattle.std.specs.List.{find, list_all, list_any, position_or_len}
use Rattle.std.specs.Option.{option_and_then}
use Rattle.std.proofs.lemmas.Bool.{false_from_ne_true}
use Rattle.std.proofs.lemmas.Bool.Decides.{nat_tests}
use Rattle.std.proofs.lemmas.List.Sums.{prefix_len-le-length}
use Rattle.std.proofs.lemmas.List.{get_or_read}
use Rattle.std.proofs.lemmas.Slice.Eq.{bytes_eq-Decides}
use Rattle.mode6_frame.specs.declared.groups.Group.{Group}
use Rattle.mode6_frame.specs.declared.groups.Piece.{Piece}
use Rattle.mode6_frame.specs.declared.groups.Step.{Step}
use Rattle.mode6_frame.specs.declared.groups.Step.TheVariants as Then
use Rattle.mode6_frame.specs.declared.groups.Unused.{Unused}
use Rattle.mode6_frame.specs.declared.groups.Unused.TheVariants.{Repeated, Many}
use Rattle.mode6_frame.specs.Frames.{FrameParts}
use Rattle.mode6_frame.specs.Groups.{GroupsParts, begun, first_status, fragment_kept, fragment_step, group_of, group_with, groups_by, is_tag_digit, is_tagged, is_whole, joined, joined_from, kept_after, made_of, mismatch_of, piece_at, piece_of, pieces_with, step_by, step_of, surplus_in, surplus_of, tag_of, with_piece}

-- octets that pass the test are the same
pub bytes_eq-same : (xs ys : List ℕ) → bytes_eq xs ys ≡ true → xs ≡ ys
bytes_eq-same xs ys e = (bytes_eq-Decides xs ys).0 e

-- one element more before a list
Contains-later : {X : Type 0} (y : X) (xs : List X) (x : X) → Contains xs x → Contains (y ∷ xs) x
Contains-later y xs x (k, within, there) = (suc k, omega arith, there)

-- what is found is in the list and passes the test
pub find-found : {X : Type 0} (test : X → Bool) (xs : List X) (x : X) → find test xs ≡ Some x → Contains xs x × (test x ≡ true)
find-found test [] x found = absurd (cc)
find-found {X} test (y ∷ xs) x found =
    let chosen = elim (test y) as (λ b. test y ≡ b → cond b (Some y) (find test xs) ≡ Some x → Contains (y ∷ xs) x × (test x ≡ true)) [
      | true ↦ λ passes is.
          let same : y ≡ x = cc in
          ((zero, omega arith, same), sym (ap test same) ∙ passes)
      | false ↦ λ fails is.
          let later = find-found test xs x is in
          (Contains-later y xs x later.0, later.1)
    ] in
    chosen refl found

-- two tests and a third one that fails
false-last : (a b c : Bool) → c ≡ false → false ≡ (a && b && c)
false-last true true c e = sym e
false-last true false c e = refl
false-last false b c e = refl

-- fewer than 25 octets have no tag
pub is_tagged-short : (body : List ℕ) → length body < 25 → false ≡ is_tagged body
is_tagged-short body short =
    false-last (bytes_eq (take 7 body) (codes "resp=0x")) (list_all is_tag_digit (take 16 (drop 7 body))) (bytes_eq (take 2 (drop 23 body)) (codes ", "))
    (false_from_ne_true (bytes_eq (take 2 (drop 23 body)) (codes ", ")) (λ is.
    let two : length (take 2 (drop 23 body)) ≡ 2 = ap length (bytes_eq-same (take 2 (drop 23 body)) (codes ", ") is) in
    omega (arith, length-take 2 (drop 23 body), length-drop 23 body)))

-- a piece stands at a place exactly where one is found there
list_any-found : (place : ℕ) (pieces : List Piece) (piece : Piece) → piece_at place pieces ≡ Some piece → list_any (λ (p : Piece). p.offset == place) pieces ≡ true
list_any-found place [] piece found = absurd (cc)
list_any-found place (first ∷ pieces) piece found =
    let chosen = elim (first.offset == place) as (λ b. cond b (Some first) (piece_at place pieces) ≡ Some piece → (b || list_any (λ (p : Piece). p.offset == place) pieces) ≡ true) [
      | true ↦ λ _. refl
      | false ↦ λ later. list_any-found place pieces piece later
    ] in
    chosen found

-- and none where none is
list_any-none : (place : ℕ) (pieces : List Piece) → piece_at place pieces ≡ None → list_any (λ (p : Piece). p.offset == place) pieces ≡ false
list_any-none place [] none = refl
list_any-none place (first ∷ pieces) none =
    let chosen = elim (first.offset == place) as (λ b. cond b (Some first) (piece_at place pieces) ≡ None → (b || list_any (λ (p : Piece). p.offset == place) pieces) ≡ false) [
      | true ↦ λ found. absurd (cc)
      | false ↦ λ later. list_any-none place pieces later
    ] in
    chosen none

-- a fragment whose place is taken
pub surplus_in-found : (group : Group) (place : ℕ) (piece : Piece) → Some piece ≡ piece_at place group.pieces → Some Repeated ≡ surplus_in (Some group) 0 place
surplus_in-found group place piece found = rw (list_any-found place group.pieces piece (sym found)) refl

-- a fragment whose place is free
surplus_in-none : (group : Group) (place : ℕ) → None ≡ piece_at place group.pieces → surplus_in (Some group) 0 place ≡ cond (nat_le 128 (length group.pieces)) (Some Many) None
surplus_in-none group place none = rw (list_any-none place group.pieces (sym none)) refl

-- it is one too many in a full group
pub surplus_in-full : (group : Group) (place : ℕ) → None ≡ piece_at place group.pieces → 128 ≤ length group.pieces → Some Many ≡ surplus_in (Some group) 0 place
surplus_in-full group place none full =
    let test : nat_le 128 (length group.pieces) ≡ true = grind (arith, nat_tests) in
    rw (surplus_in-none group place none, test) refl

-- and is kept in one that has room
pub surplus_in-room : (group : Group) (place : ℕ) → None ≡ piece_at place group.pieces → length group.pieces < 128 → None ≡ surplus_in (Some group) 0 place
surplus_in-room group place none room =
    let test : nat_le 128 (length group.pieces) ≡ false = grind (arith, nat_tests) in
    rw (surplus_in-none group place none, test) refl

-- a fragment alone makes no answer
pub made_of-one : (f : FrameParts) → is_whole f ≡ false → Then.Waiting ≡ made_of (first_status (piece_of f ∷ [])) (joined (piece_of f ∷ []))
unfolding joined
made_of-one f fragment =
    let alone = elim (f.offset == 0) as (λ b. (b && not f.more) ≡ false
    → Then.Waiting ≡ made_of (option_map (λ (p : Piece). p.status) (cond b (Some (piece_of f)) None))
    (option_and_then (λ (p : Piece). cond p.more (option_map (λ (rest : List ℕ). p.text ++ rest) (joined_from 0 (0 + p.span) (piece_of f ∷ []))) (Some p.text)) (cond b (Some (piece_of f)) None))) [
      | true ↦ λ is. alone-first f.more is
      | false ↦ λ is. refl
    ] in
    alone fragment
  where
    alone-first : (more : Bool) → (true && not more) ≡ false
        → Then.Waiting ≡ made_of (Some f.status) (cond more (option_map (λ (rest : List ℕ). (piece_of f).text ++ rest) None) (Some (piece_of f).text))
    alone-first true is = refl
    alone-first false is = absurd (cc)

-- the first fragment of its tag waits for more, where there is room for a group
pub step-begun : (f : FrameParts) (count : ℕ) → count < 8 → is_whole f ≡ false → Then.Waiting ≡ fragment_step (surplus_in None count f.offset) (piece_of f ∷ [])
step-begun f count room fragment =
    let test : nat_le 8 count ≡ false = grind (arith, nat_tests) in
    rw test (made_of-one f fragment)

-- the place of a group is not past the end
pub place-le : (tag : List ℕ) (groups : List Group) → position_or_len (λ (group : Group). bytes_eq group.tag tag) groups ≤ length groups
place-le tag groups = prefix_len-le-length (λ (group : Group). not (bytes_eq group.tag tag)) groups

-- what is read at one place is the same
pub same-read : (groups : List Group) (place : ℕ) (group other : Group) → place < length groups → group ≡ get_or groups place group → other ≡ get_or groups place other → group ≡ other
same-read groups place group other within read other_read = get_or_read groups place group within read other ∙ sym other_read

-- the place of a group that there is not
group_of-none : (tag : List ℕ) (groups : List Group) → position_or_len (λ (group : Group). bytes_eq group.tag tag) groups ≡ length groups → group_of tag groups ≡ None
group_of-none tag [] at_end = refl
group_of-none tag (group ∷ groups) at_end =
    let chosen = elim (bytes_eq group.tag tag) as (λ b. cond (not b) (1 + position_or_len (λ (other : Group). bytes_eq other.tag tag) groups) 0 ≡ suc (length groups)
    → cond b (Some group) (group_of tag groups) ≡ None) [
      | true ↦ λ is. absurd (omega (arith, is))
      | false ↦ λ is. group_of-none tag groups (omega (arith, is))
    ] in
    chosen at_end

-- a piece begins a group where there is none of its tag
with_piece-none : (tag : List ℕ) (piece : Piece) (groups : List Group) → group_of tag groups ≡ None → groups ++ record { tag = tag; pieces = piece ∷ [] } ∷ [] ≡ with_piece tag piece groups
with_piece-none tag piece [] none = refl
with_piece-none tag piece (group ∷ groups) none =
    let chosen = elim (bytes_eq group.tag tag) as (λ b. cond b (Some group) (group_of tag groups) ≡ None
    → group ∷ (groups ++ record { tag = tag; pieces = piece ∷ [] } ∷ []) ≡ cond b (group_with group piece ∷ groups) (group ∷ with_piece tag piece groups)) [
      | true ↦ λ is. absurd (cc)
      | false ↦ λ is. ap (λ rest. group ∷ rest) (with_piece-none tag piece groups is)
    ] in
    chosen none

-- the group at the place of its tag, and the groups with a piece more in it
at-place : (tag : List ℕ) (piece : Piece) (groups : List Group) (place : ℕ) (group : Group) → place ≡ position_or_len (λ (other : Group). bytes_eq other.tag tag) groups → place < length groups
    → group ≡ get_or groups place group → (group_of tag groups ≡ Some group) × (set groups place (group_with group piece) ≡ with_piece tag piece groups)
at-place tag piece [] place group is within read = absurd (omega arith)
at-place tag piece (first ∷ groups) place group is within read =
    let chosen = elim (bytes_eq first.tag tag) as (λ b. place ≡ cond (not b) (1 + position_or_len (λ (other : Group). bytes_eq other.tag tag) groups) 0
    → (cond b (Some first) (group_of tag groups) ≡ Some group)
    × (set (first ∷ groups) place (group_with group piece) ≡ cond b (group_with first piece ∷ groups) (first ∷ with_piece tag piece groups))) [
      | true ↦ λ here.
          let same : group ≡ first = read ∙ ap (λ n. get_or (first ∷ groups) n group) here in
          (ap Some (sym same), ap (λ n. set (first ∷ groups) n (group_with group piece)) here ∙ ap (λ g. group_with g piece ∷ groups) same)
      | false ↦ λ later.
          let rest : ℕ = position_or_len (λ (other : Group). bytes_eq other.tag tag) groups in
          let next : place ≡ suc rest = omega (arith, later) in
          let found = at-place tag piece groups rest group refl (omega arith) (read ∙ ap (λ n. get_or (first ∷ groups) n group) next) in
          (found.0, ap (λ n. set (first ∷ groups) n (group_with group piece)) next ∙ ap (λ others. first ∷ others) found.1)
    ] in
    chosen is

-- the first fragment of its tag: what becomes of it
pub step-new : (f : FrameParts) (groups : List Group) (place : ℕ) → place ≡ position_or_len (λ (group : Group). bytes_eq group.tag (tag_of f.body)) groups → place ≡ length groups
    → fragment_step (surplus_in None (length groups) f.offset) (piece_of f ∷ []) ≡ fragment_step (surplus_of groups f) (pieces_with groups f)
step-new f groups place is at_end =
    let none = group_of-none (tag_of f.body) groups (sym is ∙ at_end) in
    rw none refl

-- and the groups after it
pub kept-new : (f : FrameParts) (groups : List Group) (place : ℕ) → place ≡ position_or_len (λ (group : Group). bytes_eq group.tag (tag_of f.body)) groups → place ≡ length groups
    → begun (surplus_in None (length groups) f.offset) groups f ≡ fragment_kept (surplus_of groups f) groups f
kept-new f groups place is at_end =
    let none = group_of-none (tag_of f.body) groups (sym is ∙ at_end) in
    rw none (kept-begun (surplus_in None (length groups) f.offset) none)
  where
    kept-begun : (why : Option Unused) → group_of (tag_of f.body) groups ≡ None → begun why groups f ≡ fragment_kept why groups f
    kept-begun None none = with_piece-none (tag_of f.body) (piece_of f) groups none
    kept-begun (Some why) none = refl

-- a fragment whose group stands at a place, and is not kept
pub surplus-known : (f : FrameParts) (groups : List Group) (place : ℕ) (group : Group) (why : Option Unused) → place ≡ position_or_len (λ (other : Group). bytes_eq other.tag (tag_of f.body)) groups
    → place < length groups → group ≡ get_or groups place group → why ≡ surplus_in (Some group) 0 f.offset → surplus_of groups f ≡ why
surplus-known f groups place group why is within read not_kept =
    let at = at-place (tag_of f.body) (piece_of f) groups place group is within read in
    rw at.0 (sym not_kept)

-- what becomes of a fragment whose group stands at a place, and is kept
pub step-known : (f : FrameParts) (groups : List Group) (place : ℕ) (group : Group) → place ≡ position_or_len (λ (other : Group). bytes_eq other.tag (tag_of f.body)) groups
    → place < length groups → group ≡ get_or groups place group → None ≡ surplus_in (Some group) 0 f.offset
    → made_of (first_status (group.pieces ++ piece_of f ∷ [])) (joined (group.pieces ++ piece_of f ∷ [])) ≡ fragment_step (surplus_of groups f) (pieces_with groups f)
step-known f groups place group is within read room =
    let at = at-place (tag_of f.body) (piece_of f) groups place group is within read in
    let kept = surplus-known f groups place group None is within read room in
    rw kept (rw at.0 refl)

-- and the groups after it
pub kept-known : (f : FrameParts) (groups : List Group) (place : ℕ) (group : Group) → place ≡ position_or_len (λ (other : Group). bytes_eq other.tag (tag_of f.body)) groups
    → place < length groups → group ≡ get_or groups place group → None ≡ surplus_in (Some group) 0 f.offset
    → set groups place (group_with group (piece_of f)) ≡ fragment_kept (surplus_of groups f) groups f
kept-known f groups place group is within read room =
    let at = at-place (tag_of f.body) (piece_of f) groups place group is within read in
    let kept = surplus-known f groups place group None is within read room in
    rw kept at.1

-- a group is written back
pub set-after : {E : Type 0} (r : Result Step E) (groups : List Group) (place : ℕ) (new group : Group) (others : List Group) → OnOk r (new ≡ group) → set groups place group ≡ others → OnOk r (set groups place new ≡ others)
set-after (Ok step) groups place new group others after is = ap (set groups place) after ∙ is
set-after (Err fault) groups place new group others after is = tt

-- a datagram that is no answer to the request is not used
pub step_of-mismatch : (g : GroupsParts) (f : FrameParts) (why : Unused) → Some why ≡ mismatch_of g f → Then.Unused why ≡ step_of g f
unfolding step_of
step_of-mismatch g f why is = ap (λ found. step_by found g.groups f) is

-- and leaves what is kept
pub kept_after-mismatch : (g : GroupsParts) (f : FrameParts) (why : Unused) → Some why ≡ mismatch_of g f → g ≡ kept_after g f
unfolding kept_after
kept_after-mismatch g f why is = (λ i. record { opcode = g.opcode; sequence = g.sequence; groups = groups_by (is i) g.groups f })

-- what becomes of an answer to the request
pub step_of-answer : {E : Type 0} (r : Result Step E) (opcode sequence : ℕ) (old : List Group) (g : GroupsParts) (f : FrameParts) → record { opcode = opcode; sequence = sequence; groups = old } ≡ g
    → None ≡ mismatch_of g f → IfOk r (λ step. step ≡ step_by None old f) → IfOk r (λ step. step ≡ step_of g f)
unfolding step_of
step_of-answer (Ok step) opcode sequence old g f is answers told =
    told ∙ ap (λ (parts : GroupsParts). step_by None parts.groups f) is ∙ ap (λ found. step_by found g.groups f) answers
step_of-answer (Err fault) opcode sequence old g f is answers told = tt

-- and what is kept after it
pub kept_after-answer : {E : Type 0} (r : Result Step E) (opcode sequence : ℕ) (old new : List Group) (g : GroupsParts) (f : FrameParts) → record { opcode = opcode; sequence = sequence; groups = old } ≡ g
    → None ≡ mismatch_of g f → OnOk r (new ≡ groups_by None old f) → OnOk r (record { opcode = opcode; sequence = sequence; groups = new } ≡ kept_after g f)
unfolding kept_after
kept_after-answer (Ok step) opcode sequence old new g f is answers after =
    (λ i. record { opcode = (is i).opcode; sequence = (is i).sequence; groups = after i })
    ∙ (λ i. record { opcode = g.opcode; sequence = g.sequence; groups = groups_by None (is i).groups f })
    ∙ (λ i. record { opcode = g.opcode; sequence = g.sequence; groups = groups_by (answers i) g.groups f })
kept_after-answer (Err fault) opcode sequence old new g f is answers after = tt
