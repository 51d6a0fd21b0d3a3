-- Rows whose items are found, number by number, are the rows of an answer.
use Rattle.std.proofs.Common.{◌≡◌, ℕ, zero, suc, ◌+◌, ◌-◌, ◌<◌, ◌≤◌, ◌^◌, true, inl, inr, Option, Some, None, List, [], ◌∷◌, ◌++◌, length, refl, arith}
use Rattle.std.specs.List.{AllByRecursion}
use Rattle.std.specs.Option.{option_and_then}
use Rattle.std.specs.Prelude.{codes}
use Rattle.std.proofs.lemmas.Bool.{and_parts, eqb-true, cases_eq}
use Rattle.mode6_frame.specs.Stamps.{stamp_in}
use Rattle.mode6_frame.specs.declared.items.Item.{Item}
use Rattle.net_addr.specs.Readings.{addr_in}
use Rattle.mru_items.specs.Answers.{IsFoundRow, IsShownRow, count_numbered, has_each, row_in, rows_from, rows_in}
use Rattle.mru_items.specs.Names.{numbered, values_of}
use Rattle.mru_items.specs.Values.{flags_in, number_in}
use Rattle.mru_items.specs.declared.shown.ShownRow.{ShownRow}
use Rattle.mru_items.proofs.CountLemmas.{hits, hits-counted, sum_to-one}
use Rattle.mru_items.proofs.RowLemmas.{found-some, told-found}

-- each row is found, numbered from here on
abbrev pub AreFound : List Item → ℕ → List ShownRow → Type 0
AreFound items number [] = Unit {0}
AreFound items number (row ∷ rows) = IsFoundRow items number row × AreFound items (suc number) rows

-- one row more
pub found-more : (items : List Item) (number place : ℕ) (rows : List ShownRow) (row : ShownRow) → AreFound items number rows → IsFoundRow items place row
    → place ≡ number + length rows → AreFound items number (rows ++ row ∷ [])
found-more items number place [] row found is at = let same : place ≡ number = omega arith in (rw same at is, tt)
found-more items number place (first ∷ rows) row found is at = (found.0, found-more items (suc number) place rows row found.1 is (omega arith))

-- and one that fits
pub shown-more : (rows : List ShownRow) (row : ShownRow) → AllByRecursion IsShownRow rows → IsShownRow row → AllByRecursion IsShownRow (rows ++ row ∷ [])
shown-more [] row are is = (is, tt)
shown-more (first ∷ rows) row are is = (are.0, shown-more rows row are.1 is)

-- the row at a number
found-at : (items : List Item) (number : ℕ) (rows : List ShownRow) (k : ℕ) → AreFound items number rows → number ≤ k → k < number + length rows
    → (row : ShownRow) × IsFoundRow items k row
found-at items number [] k found from below = absurd (omega (arith, from, below))
found-at items number (row ∷ rows) k found from below =
    elim (cases_eq k number) [
      | inl same ↦ (row, rw same found.0)
      | inr other ↦ found-at items (suc number) rows k found.1 (omega (arith, other, from)) (omega (arith, below))
    ]

-- each of the values of a word stands once
record IsOnceEach (items : List Item) (count : ℕ) : Type 0 where
  addr : (k : ℕ) → k < count → hits (codes "addr") items k ≡ 1
  last : (k : ℕ) → k < count → hits (codes "last") items k ≡ 1
  first : (k : ℕ) → k < count → hits (codes "first") items k ≡ 1
  ct : (k : ℕ) → k < count → hits (codes "ct") items k ≡ 1
  mv : (k : ℕ) → k < count → hits (codes "mv") items k ≡ 1
  rs : (k : ℕ) → k < count → hits (codes "rs") items k ≡ 1

-- a word of which each number has a value, and so many items, has one value of each number
pub word-once : (word : List ℕ) (items : List Item) (count : ℕ) → count ≤ 2 ^ 64 → count_numbered word items ≡ count
    → ((k : ℕ) → k < count → 1 ≤ hits word items k) → (k : ℕ) → k < count → hits word items k ≡ 1
word-once word items count fits is each =
    let few = hits-counted word items count fits in
    sum_to-one (hits word items) count each (omega (arith, few, is))

-- so do all six where each row is found
once-each : (items : List Item) (rows : List ShownRow) → length rows ≤ 2 ^ 64 → has_each items (length rows) ≡ true → AreFound items 0 rows
    → IsOnceEach items (length rows)
once-each items rows fits each found =
    let count = length rows in
    let addr = and_parts _ _ each in
    let last = and_parts _ _ addr.1 in
    let first = and_parts _ _ last.1 in
    let ct = and_parts _ _ first.1 in
    let mv = and_parts _ _ ct.1 in
    let rs = and_parts _ _ mv.1 in
    record {
      addr = word-once (codes "addr") items count fits (eqb-true _ _ addr.0)
          (λ k below. let row = found-at items 0 rows k found (omega arith) (omega (arith, below)) in found-some _ _ _ row.1.addr);
      last = word-once (codes "last") items count fits (eqb-true _ _ last.0)
          (λ k below. let row = found-at items 0 rows k found (omega arith) (omega (arith, below)) in found-some _ _ _ row.1.last);
      first = word-once (codes "first") items count fits (eqb-true _ _ first.0)
          (λ k below. let row = found-at items 0 rows k found (omega arith) (omega (arith, below)) in found-some _ _ _ row.1.first);
      ct = word-once (codes "ct") items count fits (eqb-true _ _ ct.0)
          (λ k below. let row = found-at items 0 rows k found (omega arith) (omega (arith, below)) in found-some _ _ _ row.1.count);
      mv = word-once (codes "mv") items count fits (eqb-true _ _ mv.0)
          (λ k below. let row = found-at items 0 rows k found (omega arith) (omega (arith, below)) in found-some _ _ _ row.1.mv);
      rs = word-once (codes "rs") items count fits (eqb-true _ _ rs.0)
          (λ k below. let row = found-at items 0 rows k found (omega arith) (omega (arith, below)) in found-some _ _ _ row.1.flags);
    }

-- a row that is found is that of its number
row-told : (items : List Item) (count number : ℕ) (row : ShownRow) → IsOnceEach items count → number < count → IsFoundRow items number row
    → row_in items number ≡ Some row
row-told items count number row once below found =
    rw (
      told-found addr_in (values_of (numbered (codes "addr") number) items) row.addr found.addr (once.addr number below),
      told-found stamp_in (values_of (numbered (codes "last") number) items) row.last found.last (once.last number below),
      told-found stamp_in (values_of (numbered (codes "first") number) items) row.first found.first (once.first number below),
      told-found (number_in 0 (2 ^ 32 - 1)) (values_of (numbered (codes "ct") number) items) row.count found.count (once.ct number below),
      told-found (number_in 0 255) (values_of (numbered (codes "mv") number) items) row.mv found.mv (once.mv number below),
      told-found flags_in (values_of (numbered (codes "rs") number) items) row.flags found.flags (once.rs number below),
    ) refl

-- and so are they all
rows-told : (items : List Item) (count number : ℕ) (rows : List ShownRow) → IsOnceEach items count → number + length rows ≤ count → AreFound items number rows
    → rows_from items (length rows) number ≡ Some rows
rows-told items count number [] once below found = refl
rows-told items count number (row ∷ rows) once below found =
    rw (row-told items count number row once (omega arith) found.0, rows-told items count (suc number) rows once (omega arith) found.1) refl

-- the rows of an answer with so many items of each word
pub rows-are : (items : List Item) (rows : List ShownRow) → length rows ≤ 2 ^ 64 → has_each items (length rows) ≡ true → AreFound items 0 rows
    → rows_from items (length rows) 0 ≡ Some rows
rows-are items rows fits each found = rows-told items (length rows) 0 rows (once-each items rows fits each found) (omega arith) found

-- a row without the rows behind it
bind-rows : (row : Option ShownRow) (rows : Option (List ShownRow)) → rows ≡ None
    → option_and_then (λ first. option_and_then (λ more. Some (first ∷ more)) rows) row ≡ None
bind-rows None rows none = refl
bind-rows (Some row) rows none = rw none refl

-- no row of a number leaves no rows
pub rows-none : (items : List Item) (count number place : ℕ) → row_in items place ≡ None → number ≤ place → place < number + count
    → rows_from items count number ≡ None
rows-none items zero number place none from below = absurd (omega (arith, from, below))
rows-none items (suc count) number place none from below =
    elim (cases_eq place number) [
      | inl same ↦ rw (← same, none) refl
      | inr other ↦
          bind-rows (row_in items number) (rows_from items count (suc number))
          (rows-none items count (suc number) place none (omega (arith, other, from)) (omega (arith, below)))
    ]

-- the rows of an answer
pub rows_in-are : (items : List Item) (count : ℕ) (rows : List ShownRow) → count ≡ count_numbered (codes "addr") items → has_each items count ≡ true
    → length rows ≡ count → count < 2 ^ 64 → AreFound items 0 rows → rows_in items ≡ Some rows
unfolding rows_in
rows_in-are items count rows counted each long fits found =
    let each_counted = rw counted at each in
    let are = rows-are items rows (omega (arith, long, fits)) (rw (← long) at each) found in
    rw each_counted (rw (← counted, ← long) are)

-- an answer without one of its rows
pub rows_in-none : (items : List Item) (count place : ℕ) → count ≡ count_numbered (codes "addr") items → has_each items count ≡ true
    → place < count → row_in items place ≡ None → rows_in items ≡ None
unfolding rows_in
rows_in-none items count place counted each below none =
    let each_counted = rw counted at each in
    rw each_counted (rw (← counted) (rows-none items count 0 place none (omega arith) (omega (arith, below))))
