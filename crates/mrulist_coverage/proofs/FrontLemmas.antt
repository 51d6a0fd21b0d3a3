-- What is so of each element is so of each that a page takes of them.
use Rattle.std.proofs.Common.{◌≡◌, ℕ, zero, suc, Bool, true, false, cond, List, [], ◌∷◌, take, find, Option, Some, subst}
use Rattle.std.specs.List.{AllByRecursion}
use Rattle.std.proofs.lemmas.Bool.{cond_both}
use Rattle.mru_items.specs.declared.pair.Pair.{Pair}
use Rattle.mru_read.specs.Pages.{Start, Beginning, Behind, behind, is_row_of, rows_from}
use Rattle.recency.specs.declared.row.Row.{Row}

-- of each, so of the first ones
pub AllByRecursion-take : {X : Type 0} (P : X → Type 0) (n : ℕ) (xs : List X) → AllByRecursion P xs → AllByRecursion P (take n xs)
AllByRecursion-take P zero xs all = tt
AllByRecursion-take P (suc n) [] all = tt
AllByRecursion-take P (suc n) (x ∷ xs) all = (all.0, AllByRecursion-take P n xs all.1)

found-first : {X : Type 0} (P : X → Type 0) (here : Bool) (first x : X) (later : Option X) → P first → (later ≡ Some x → P x) → cond here (Some first) later ≡ Some x → P x
found-first P true first x later is rest found =
    let same : first ≡ x = cc found in
    subst P same is
found-first P false first x later is rest found = rest found

-- and of one that is found
pub AllByRecursion-find : {X : Type 0} (P : X → Type 0) (test : X → Bool) (xs : List X) (x : X) → AllByRecursion P xs → find test xs ≡ Some x → P x
AllByRecursion-find P test [] x all found = absurd (cc found)
AllByRecursion-find P test (first ∷ xs) x all found =
    found-first P (test first) first x (find test xs) all.0 (AllByRecursion-find P test xs x all.1) found

-- and of those behind a pair
AllByRecursion-behind : (P : Row → Type 0) (pair : Pair) (rows : List Row) → AllByRecursion P rows → AllByRecursion P (behind pair rows)
AllByRecursion-behind P pair [] all = tt
AllByRecursion-behind P pair (row ∷ rows) all =
    cond_both (is_row_of pair row) rows (behind pair rows) (AllByRecursion P) (λ _. all.1) (λ _. AllByRecursion-behind P pair rows all.1)

-- and of those from a start on
pub AllByRecursion-from : (P : Row → Type 0) (rows : List Row) (start : Start) → AllByRecursion P rows → AllByRecursion P (rows_from rows start)
AllByRecursion-from P rows Beginning all = all
AllByRecursion-from P rows (Behind pair) all = AllByRecursion-behind P pair rows all
