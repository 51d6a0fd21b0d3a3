-- What a loop finds of each of a list, one after another.
use Rattle.std.proofs.Common.{◌≡◌, ℕ, zero, suc, ◌+◌, Some, List, [], ◌∷◌, length, take, slice_get, sym, subst, arith}
use Rattle.std.specs.List.{AllByRecursion}
use Rattle.std.proofs.lemmas.List.{take_all}
use Rattle.recency.proofs.ListLemmas.{AllByRecursion-weaker}
use Rattle.list_telling.specs.Histories.{AreTellableOps, IsTellableOp}
use Rattle.server_core.specs.Moves.{HasMoment, HaveMoments}
use Rattle.server_core.specs.declared.op.Op.{Op}

-- of the first ones and of the next
more-after : {X : Type 0} (P : X → Type 0) (xs : List X) (place : ℕ) (x : X) → AllByRecursion P (take place xs) → slice_get xs place ≡ Some x → P x → AllByRecursion P (take (suc place) xs)
more-after P [] place x each at is = tt
more-after P (first ∷ xs) zero x each at is =
    let same : first ≡ x = cc at in
    (subst P (sym same) is, tt)
more-after P (first ∷ xs) (suc place) x each at is = (each.0, more-after P xs place x each.1 at is)

pub one-more : {X : Type 0} (P : X → Type 0) (xs : List X) (place next : ℕ) (x : X) → next ≡ place + 1 → AllByRecursion P (take place xs) → slice_get xs place ≡ Some x → P x → AllByRecursion P (take next xs)
one-more P xs place next x is each at holds =
    let same : suc place ≡ next = omega (arith, is) in
    subst (λ n. AllByRecursion P (take n xs)) same (more-after P xs place x each at holds)

-- of all, at their end
pub all-at_end : {X : Type 0} (P : X → Type 0) (xs : List X) (count : ℕ) → count ≡ length xs → AllByRecursion P (take count xs) → AllByRecursion P xs
all-at_end P xs count is each =
    let whole : take count xs ≡ xs = take_all count xs (omega (arith, is)) in
    subst (AllByRecursion P) whole each

-- an operation whose numbers have their widths
abbrev pub HasWidths : Op → Type 0
HasWidths op = IsTellableOp op × HasMoment op

-- operations whose numbers have
pub tellable-all : (ops : List Op) → AllByRecursion HasWidths ops → AreTellableOps ops
tellable-all ops each = AllByRecursion-weaker HasWidths IsTellableOp (λ op is. is.0) ops each

pub moments-all : (ops : List Op) → AllByRecursion HasWidths ops → HaveMoments ops
moments-all [] each = tt
moments-all (op ∷ ops) each = (each.0.1, moments-all ops each.1)
