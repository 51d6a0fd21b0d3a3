-- A walk that takes rows as long as they are allowed takes those of the page.
use Rattle.std.proofs.Common.{◌≡◌, ℕ, zero, suc, ◌+◌, ◌-◌, ◌*◌, ◌≤◌, Bool, true, false, List, [], ◌∷◌, ◌++◌, length, Option, Some, None, refl, sym, ap, subst, ◌∙◌, arith, append_assoc, length-append}
use Rattle.std.specs.Prelude.{nat_le, if◌then◌else◌, IsSome, IfSome}
use Rattle.std.specs.List.{AllByRecursion, filter}
use Rattle.std.proofs.lemmas.Bool.{cond_both, cond-true, le-leb}
use Rattle.std.proofs.Math.Nat.{mul-le-mul_right, suc-mul}
use Rattle.mru_items.specs.declared.pair.Pair.{Pair}
use Rattle.mru_items.specs.declared.query.MruFilter.{MruFilter}
use Rattle.mru_items.specs.declared.query.ReadRequest.{ReadRequest}
use Rattle.mru_read.specs.declared.sizes.Measure.{Measure}
use Rattle.mru_read.specs.Pages.{IsTellableRow, Start, confirmed_by, gone_from, may_have, passes, passing_from, row_count, rows_from, up_to_passing}
use Rattle.mru_read.specs.Sizes.{front_lengths, lengths_with, measured, no_items, row_lengths}
use Rattle.mru_read.specs.Walks.{IsInPlace, IsListed, IsNext, left_after, passing_on, place_of, rows_behind, start_at}
use Rattle.mru_read.proofs.MeasureLemmas.{measured-append}
use Rattle.mru_read.proofs.PageLemmas.{greatest-least, lengths_with-more, lengths_with-none, rows_lengths-one}
use Rattle.mru_read.proofs.WalkLemmas.{behind-pair, stands-listed}
use Rattle.recency.specs.declared.row.Row.{Row}
use Rattle.recency.specs.Rows.{IsDistinct, find_row}

-- the rows from where a page begins are those that are left there
pub from-left : (rows : List Row) (confirmed : Option Pair) → IsDistinct rows → IsInPlace rows confirmed → rows_from rows (start_at confirmed) ≡ left_after rows (place_of confirmed)
from-left rows None distinct place = refl
from-left rows (Some pair) distinct place = behind-pair rows pair distinct place

-- a walk from a start on has taken these rows, and found the next one; what they take is measured
pub record IsWalk (rows : List Row) (request : ReadRequest) (start : Start) (taken : List Row) (next : Option Row) (size : Measure) : Type 0 where
  pub split : passing_from rows request start ≡ taken ++ passing_on rows request.filter next
  pub measure : size ≡ measured no_items (lengths_with (confirmed_by start) taken)
  pub listed : (row : Row) → next ≡ Some row → IsSome (find_row rows row.ip)
  pub gone : (row : Row) (k : ℕ) → next ≡ Some row
      → length (up_to_passing request.filter (length taken + suc k) (rows_from rows start)) + length (rows_behind rows row.ip)
      ≡ length (rows_from rows start) + length (up_to_passing request.filter k (rows_behind rows row.ip))
  pub tellable : AllByRecursion IsTellableRow taken
  pub next_tellable : (row : Row) → next ≡ Some row → IsTellableRow row

-- the rows that are taken may be had
abbrev pub IsHad : List Row → ReadRequest → Start → List Row → Type 0
IsHad rows request start taken = 1 ≤ length taken → may_have rows request start (passing_from rows request start) 0 (length taken) ≡ true

-- so many steps of a walk are spent, where each read takes so many at most
pub record IsSpent (rows from : List Row) (next : Option Row) (before steps width : ℕ) : Type 0 where
  pub at_row : (row : Row) → next ≡ Some row → steps + length (rows_behind rows row.ip) * width ≤ before + length from * width
  pub at_end : next ≡ None → steps ≤ before + (length from + 1) * width

-- what holds of the value in a Some
pub at_some : (P : Row → Type 0) (o : Option Row) → IfSome o P → (row : Row) → o ≡ Some row → P row
at_some P o is row same = subst (λ (it : Option Row). IfSome it P) same is

pub confirmed-at : (confirmed : Option Pair) → confirmed_by (start_at confirmed) ≡ confirmed
confirmed-at None = refl
confirmed-at (Some pair) = refl

-- at the start nothing is taken
pub walk-begins : (rows : List Row) (request : ReadRequest) (confirmed : Option Pair) (next : Option Row) (size : Measure) (taken : List Row) → taken ≡ []
    → IsDistinct rows → IsInPlace rows confirmed → IsNext rows request.filter (left_after rows (place_of confirmed)) next → IfSome next IsTellableRow
    → size ≡ measured no_items (front_lengths confirmed) → IsWalk rows request (start_at confirmed) taken next size
walk-begins rows request confirmed next size taken none distinct place is tellable measure =
    let from = from-left rows confirmed distinct place in
    let one : (k : ℕ) → 0 + suc k ≡ suc k = λ k. omega arith in
    subst (λ (them : List Row). IsWalk rows request (start_at confirmed) them next size) (sym none) (record {
      split = ap (filter (passes request.filter)) from ∙ is.passing;
      measure = measure ∙ ap (λ it. measured no_items (front_lengths it)) (sym (confirmed-at confirmed)) ∙ ap (measured no_items) (sym (lengths_with-none (confirmed_by (start_at confirmed))));
      listed = is.listed;
      gone = λ row k same.
          subst (λ (them : List Row). length (up_to_passing request.filter (0 + suc k) them) + length (rows_behind rows row.ip)
          ≡ length them + length (up_to_passing request.filter k (rows_behind rows row.ip))) (sym from)
          (rw (one k) (is.gone row k same));
      tellable = tt;
      next_tellable = at_some IsTellableRow next tellable;
    })

all-push : (P : Row → Type 0) (rows : List Row) (row : Row) → AllByRecursion P rows → P row → AllByRecursion P (rows ++ row ∷ [])
all-push P [] row each is = (is, tt)
all-push P (first ∷ rows) row each is = (each.0, all-push P rows row each.1 is)

-- the lengths with one more row
lengths-push : (confirmed : Option Pair) (taken : List Row) (row : Row) → lengths_with confirmed (taken ++ row ∷ []) ≡ lengths_with confirmed taken ++ row_lengths (length taken) row
lengths-push confirmed taken row = lengths_with-more confirmed taken (row ∷ []) ∙ ap (λ them. lengths_with confirmed taken ++ them) (rows_lengths-one (length taken) row)

-- the measure with one more row
pub size-push : (rows : List Row) (request : ReadRequest) (start : Start) (taken : List Row) (row : Row) (size grown : Measure)
    → size ≡ measured no_items (lengths_with (confirmed_by start) taken) → grown ≡ measured size (row_lengths (length taken) row)
    → grown ≡ measured no_items (lengths_with (confirmed_by start) (taken ++ row ∷ []))
size-push rows request start taken row size grown is more =
    more ∙ ap (λ m. measured m (row_lengths (length taken) row)) is
    ∙ sym (measured-append no_items (lengths_with (confirmed_by start) taken) (row_lengths (length taken) row))
    ∙ ap (measured no_items) (sym (lengths-push (confirmed_by start) taken row))

-- the walk goes on with one more row
pub walk-goes_on : (rows : List Row) (request : ReadRequest) (start : Start) (taken : List Row) (row : Row) (next : Option Row) (size grown : Measure)
    → IsWalk rows request start taken (Some row) size → IsNext rows request.filter (rows_behind rows row.ip) next → IfSome next IsTellableRow
    → grown ≡ measured size (row_lengths (length taken) row) → IsWalk rows request start (taken ++ row ∷ []) next grown
walk-goes_on rows request start taken row next size grown walk is tellable more =
    let behind = rows_behind rows row.ip in
    let from = rows_from rows start in
    let count : length (taken ++ row ∷ []) ≡ length taken + 1 = length-append taken (row ∷ []) in
    record {
      split = walk.split ∙ ap (λ them. taken ++ row ∷ them) is.passing ∙ sym (append_assoc taken (row ∷ []) (passing_on rows request.filter next));
      measure = size-push rows request start taken row size grown walk.measure more;
      listed = is.listed;
      gone = λ other k same.
          let one : length (taken ++ row ∷ []) + suc k ≡ length taken + suc (suc k) = omega (arith, count) in
          rw one (omega (arith, walk.gone row (suc k) refl, is.gone other k same));
      tellable = all-push IsTellableRow taken row walk.tellable (walk.next_tellable row refl);
      next_tellable = at_some IsTellableRow next tellable;
    }

-- the steps at the start
pub spent-begins : (rows from left : List Row) (next : Option Row) (before steps width : ℕ) → from ≡ left
    → IfSome next (λ row. steps + length (rows_behind rows row.ip) * width ≤ before + length left * width) → (next ≡ None → steps ≤ before + (length left + 1) * width)
    → IsSpent rows from next before steps width
spent-begins rows from left next before steps width same cost cost_at_end =
    subst (λ (them : List Row). IsSpent rows them next before steps width) (sym same) (record {
      at_row = at_some (λ row. steps + length (rows_behind rows row.ip) * width ≤ before + length left * width) next cost;
      at_end = cost_at_end;
    })

more-mul : (n w : ℕ) → (n + 1) * w ≡ n * w + w
more-mul n w = let one : n + 1 ≡ suc n = omega arith in rw one (suc-mul n w)

-- and with one more row
pub spent-goes_on : (rows from : List Row) (row : Row) (next : Option Row) (before steps more width : ℕ) → IsSpent rows from (Some row) before steps width
    → IfSome next (λ other. more + length (rows_behind rows other.ip) * width ≤ steps + length (rows_behind rows row.ip) * width)
    → (next ≡ None → more ≤ steps + (length (rows_behind rows row.ip) + 1) * width) → IsSpent rows from next before more width
spent-goes_on rows from row next before steps more width spent cost cost_at_end = record {
  at_row = λ other same.
      let one = at_some (λ other. more + length (rows_behind rows other.ip) * width ≤ steps + length (rows_behind rows row.ip) * width) next cost other same in
      omega (arith, one, spent.at_row row refl);
  at_end = λ same. omega (arith, cost_at_end same, more-mul (length (rows_behind rows row.ip)) width, more-mul (length from) width, spent.at_row row refl);
}

-- the rows up to one that passes are no more than all, and no fewer for more
up_to-all : (wanted : MruFilter) (n : ℕ) (rows : List Row) → length (up_to_passing wanted n rows) ≤ length rows
up_to-all wanted zero rows = omega arith
up_to-all wanted (suc n) [] = omega arith
up_to-all wanted (suc n) (row ∷ rows) =
    cond_both (passes wanted row) (row ∷ up_to_passing wanted n rows) (row ∷ up_to_passing wanted (suc n) rows) (λ (them : List Row). length them ≤ suc (length rows))
    (λ _. omega (arith, up_to-all wanted n rows)) (λ _. omega (arith, up_to-all wanted (suc n) rows))

up_to-one_more : (wanted : MruFilter) (n : ℕ) (rows : List Row) → length (up_to_passing wanted n rows) ≤ length (up_to_passing wanted (suc n) rows)
up_to-one_more wanted zero rows = omega arith
up_to-one_more wanted (suc n) [] = omega arith
up_to-one_more wanted (suc n) (row ∷ rows) = by (passes wanted row) _ _ _ _ (up_to-one_more wanted n rows) (up_to-one_more wanted (suc n) rows)
  where
    by : (b : Bool) (k l m o : List Row) → length k ≤ length l → length m ≤ length o → length (if b then row ∷ k else row ∷ m) ≤ length (if b then row ∷ l else row ∷ o)
    by true k l m o first second = omega (arith, first)
    by false k l m o first second = omega (arith, second)

up_to-more : (wanted : MruFilter) (n k : ℕ) (rows : List Row) → length (up_to_passing wanted n rows) ≤ length (up_to_passing wanted (k + n) rows)
up_to-more wanted n zero rows = let same : 0 + n ≡ n = omega arith in rw same (omega arith)
up_to-more wanted n (suc k) rows =
    let same : suc k + n ≡ suc (k + n) = omega arith in
    rw same (omega (arith, up_to-more wanted n k rows, up_to-one_more wanted (k + n) rows))

pub up_to-fewer : (wanted : MruFilter) (n m : ℕ) (rows : List Row) → n ≤ m → length (up_to_passing wanted n rows) ≤ length (up_to_passing wanted m rows)
up_to-fewer wanted n m rows less =
    let same : (m - n) + n ≡ m = omega (arith, less) in
    subst (λ k. length (up_to_passing wanted n rows) ≤ length (up_to_passing wanted k rows)) same (up_to-more wanted n (m - n) rows)

add-mul : (a b w : ℕ) → (a + b) * w ≡ a * w + b * w
add-mul zero b w = let none : 0 + b ≡ b = omega arith in rw none (omega arith)
add-mul (suc a) b w =
    let one : suc a + b ≡ suc (a + b) = omega arith in
    rw one (omega (arith, suc-mul (a + b) w, suc-mul a w, add-mul a b w))

-- what is spent up to a row, by the rows gone over
spend : (steps before gone most left whole width : ℕ) → steps + left * width ≤ before + whole * width → gone + left ≡ whole → gone ≤ most → steps ≤ before + (most + 2) * width
spend steps before gone most left whole width up_to split less =
    let parts : whole * width ≡ gone * width + left * width = ap (λ n. n * width) (sym split) ∙ add-mul gone left width in
    omega (arith, up_to, parts, mul-le-mul_right width less, add-mul most 2 width)

spend-all : (steps before most whole width : ℕ) → steps ≤ before + (whole + 1) * width → whole ≤ most → steps ≤ before + (most + 2) * width
spend-all steps before most whole width up_to less =
    omega (arith, up_to, mul-le-mul_right width less, add-mul most 2 width, add-mul whole 1 width)

-- a page from a start goes over the rows up to the first that it does not show
gone-at_least : (rows : List Row) (request : ReadRequest) (start : Start) (count : ℕ) → count ≤ row_count rows request start 0
    → length (up_to_passing request.filter (count + 1) (rows_from rows start)) ≤ gone_from rows request 0 start
gone-at_least rows request start count less =
    let from = rows_from rows start in
    cond_both (nat_le (length (passing_from rows request start)) (row_count rows request start 0 + 1)) (length from)
    (length (up_to_passing request.filter (row_count rows request start 0 + 1) from)) (λ n. length (up_to_passing request.filter (count + 1) from) ≤ n)
    (λ _. up_to-all request.filter (count + 1) from)
    (λ _. up_to-fewer request.filter (count + 1) (row_count rows request start 0 + 1) from (omega (arith, less)))

-- and over all where no more than one passes that it does not show
gone-all : (rows : List Row) (request : ReadRequest) (start : Start) → length (passing_from rows request start) ≤ row_count rows request start 0 + 1
    → length (rows_from rows start) ≤ gone_from rows request 0 start
gone-all rows request start few =
    let is = le-leb (length (passing_from rows request start)) (row_count rows request start 0 + 1) few in
    let same = cond-true (nat_le (length (passing_from rows request start)) (row_count rows request start 0 + 1)) (length (rows_from rows start))
    (length (up_to_passing request.filter (row_count rows request start 0 + 1) (rows_from rows start))) is in
    omega (arith, same)

-- what is taken may be had, so the page has no fewer rows
pub had-least : (rows : List Row) (request : ReadRequest) (start : Start) (taken rest : List Row) → passing_from rows request start ≡ taken ++ rest → IsHad rows request start taken
    → length taken ≤ row_count rows request start 0
unfolding row_count
had-least rows request start taken rest split had =
    let passing = passing_from rows request start in
    greatest-least (may_have rows request start passing 0) (length passing) (length taken) (omega (arith, ap (λ (them : List Row). length them) split, length-append taken rest)) had

-- the cost of a walk that has taken rows that may be had
pub spent-walk : (rows : List Row) (request : ReadRequest) (start : Start) (taken : List Row) (next : Option Row) (size : Measure) (before steps width : ℕ)
    → IsWalk rows request start taken next size → IsHad rows request start taken → IsSpent rows (rows_from rows start) next before steps width
    → steps ≤ before + (gone_from rows request 0 start + 2) * width
spent-walk rows request start taken (Some row) size before steps width walk had spent =
    let least = had-least rows request start taken (passing_on rows request.filter (Some row)) walk.split had in
    let same : length taken + suc 0 ≡ length taken + 1 = omega arith in
    let gone : length (up_to_passing request.filter (length taken + 1) (rows_from rows start)) + length (rows_behind rows row.ip) ≡ length (rows_from rows start) =
    subst (λ n. length (up_to_passing request.filter n (rows_from rows start)) + length (rows_behind rows row.ip) ≡ length (rows_from rows start)) same (omega (arith, walk.gone row 0 refl)) in
    spend steps before _ (gone_from rows request 0 start) (length (rows_behind rows row.ip)) (length (rows_from rows start)) width (spent.at_row row refl) gone
    (gone-at_least rows request start (length taken) least)
spent-walk rows request start taken None size before steps width walk had spent =
    let least = had-least rows request start taken [] walk.split had in
    let few : length (passing_from rows request start) ≤ row_count rows request start 0 + 1 =
    omega (arith, least, ap (λ (them : List Row). length them) walk.split, length-append taken []) in
    spend-all steps before (gone_from rows request 0 start) (length (rows_from rows start)) width (spent.at_end refl) (gone-all rows request start few)

-- the cost of a walk whose next row is the last, and is not taken
pub spent-last : (rows : List Row) (request : ReadRequest) (start : Start) (taken : List Row) (row : Row) (before steps width : ℕ)
    → passing_from rows request start ≡ taken ++ row ∷ [] → IsHad rows request start taken → IsSpent rows (rows_from rows start) None before steps width
    → steps ≤ before + (gone_from rows request 0 start + 2) * width
spent-last rows request start taken row before steps width split had spent =
    let least = had-least rows request start taken (row ∷ []) split had in
    let few : length (passing_from rows request start) ≤ row_count rows request start 0 + 1 =
    omega (arith, least, ap (λ (them : List Row). length them) split, length-append taken (row ∷ [])) in
    spend-all steps before (gone_from rows request 0 start) (length (rows_from rows start)) width (spent.at_end refl) (gone-all rows request start few)

-- the client behind which a page begins is listed
pub listed-place : (rows : List Row) (confirmed : Option Pair) → IsInPlace rows confirmed → IsListed rows (place_of confirmed)
listed-place rows None place = tt
listed-place rows (Some pair) place = stands-listed rows pair place

-- nothing is taken, so nothing has to be had
pub had-none : (rows : List Row) (request : ReadRequest) (start : Start) (taken : List Row) → taken ≡ [] → IsHad rows request start taken
had-none rows request start taken none some = absurd (omega (arith, some, ap (λ (them : List Row). length them) none))

-- what is spent at a row that was found
pub spent-at : (rows from : List Row) (next : Option Row) (row : Row) (before steps width : ℕ) → next ≡ Some row → IsSpent rows from next before steps width → IsSpent rows from (Some row) before steps width
spent-at rows from next row before steps width is = subst (λ (it : Option Row). IsSpent rows from it before steps width) is
