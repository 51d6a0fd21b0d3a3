-- Pages by the lengths of their items: how many datagrams they have, and that fewer rows have no more.
use Rattle.std.proofs.Common.{◌≡◌, ℕ, zero, suc, ◌+◌, ◌-◌, ◌<◌, ◌≤◌, Bool, true, false, List, [], ◌∷◌, ◌++◌, length, take, drop, map, Option, Some, None, refl, sym, ap, ◌∙◌, arith, take-add, append_assoc, append-nil}
use Rattle.std.specs.Prelude.{nat_le, if◌then◌else◌, ◌&&◌, option_map, replicate, codes}
use Rattle.std.proofs.lemmas.Bool.{cond_both, cond-true, cond-false, leb-true, leb-false, le-leb, lt-leb}
use Rattle.std.proofs.lemmas.List.{map-append}
use Rattle.mode6_frame.specs.declared.items.Item.{Item}
use Rattle.mode6_frame.specs.Cuts.{lengths_of, parts_count}
use Rattle.mode6_frame.specs.ItemTexts.{item_text}
use Rattle.mru_items.specs.declared.answer.TheConstants.{NONCE_OCTETS}
use Rattle.mru_items.specs.declared.pair.Pair.{Pair}
use Rattle.mru_items.specs.declared.query.ReadRequest.{ReadRequest}
use Rattle.mru_items.specs.Answers.{answer_items, row_items, rows_items, time_items}
use Rattle.mru_items.specs.Queries.{greatest, told_time}
use Rattle.mru_read.specs.Pages.{Start, confirmed_by, items_of_page, is_within, may_have, page_parts, passing_from, row_count, shown_row}
use Rattle.mru_read.specs.Sizes.{end_items, end_lengths, front_items, front_lengths, is_allowed, lengths_with, row_lengths, rows_lengths}
use Rattle.mru_read.proofs.MeasureLemmas.{parts-more}
use Rattle.mru_read.proofs.SizeLemmas.{length-stamp_item}
use Rattle.recency.specs.declared.row.Row.{Row}
use Rattle.recency.specs.Rows.{newest}

-- lengths of items one after another
lengths-append : (xs ys : List Item) → lengths_of (xs ++ ys) ≡ lengths_of xs ++ lengths_of ys
lengths-append xs ys = map-append (λ (item : Item). length (item_text item)) xs ys

-- rows one after another
rows_lengths-cons : (number : ℕ) (row : Row) (rows : List Row) → rows_lengths number (row ∷ rows) ≡ row_lengths number row ++ rows_lengths (suc number) rows
unfolding rows_lengths row_lengths
rows_lengths-cons number row rows = lengths-append (row_items number (shown_row 0 row)) (rows_items (suc number) (map (shown_row 0) rows))

rows_lengths-nil : (number : ℕ) → rows_lengths number [] ≡ []
unfolding rows_lengths
rows_lengths-nil number = refl

pub rows_lengths-append : (number : ℕ) (rows more : List Row) → rows_lengths number (rows ++ more) ≡ rows_lengths number rows ++ rows_lengths (number + length rows) more
rows_lengths-append number [] more =
    let same : number ≡ number + 0 = omega arith in
    ap (λ n. rows_lengths n more) same ∙ ap (λ front. front ++ rows_lengths (number + 0) more) (sym (rows_lengths-nil number))
rows_lengths-append number (row ∷ rows) more =
    let same : suc number + length rows ≡ number + suc (length rows) = omega arith in
    rows_lengths-cons number row (rows ++ more)
    ∙ ap (λ rest. row_lengths number row ++ rest) (rows_lengths-append (suc number) rows more ∙ ap (λ n. rows_lengths (suc number) rows ++ rows_lengths n more) same)
    ∙ sym (append_assoc (row_lengths number row) (rows_lengths (suc number) rows) (rows_lengths (number + suc (length rows)) more))
    ∙ ap (λ front. front ++ rows_lengths (number + suc (length rows)) more) (sym (rows_lengths-cons number row rows))

pub rows_lengths-one : (number : ℕ) (row : Row) → rows_lengths number (row ∷ []) ≡ row_lengths number row
rows_lengths-one number row = rows_lengths-cons number row [] ∙ ap (λ rest. row_lengths number row ++ rest) (rows_lengths-nil (suc number)) ∙ append-nil (row_lengths number row)

-- the lengths of a page without its end, with more rows
pub lengths_with-more : (confirmed : Option Pair) (rows more : List Row) → lengths_with confirmed (rows ++ more) ≡ lengths_with confirmed rows ++ rows_lengths (length rows) more
unfolding lengths_with
lengths_with-more confirmed rows more =
    let same : 0 + length rows ≡ length rows = omega arith in
    ap (λ them. front_lengths confirmed ++ them) (rows_lengths-append 0 rows more ∙ ap (λ n. rows_lengths 0 rows ++ rows_lengths n more) same)
    ∙ sym (append_assoc (front_lengths confirmed) (rows_lengths 0 rows) (rows_lengths (length rows) more))

pub lengths_with-none : (confirmed : Option Pair) → lengths_with confirmed [] ≡ front_lengths confirmed
unfolding lengths_with
lengths_with-none confirmed = ap (λ them. front_lengths confirmed ++ them) (rows_lengths-nil 0) ∙ append-nil (front_lengths confirmed)

-- the lengths of the end of a page
abbrev pub end_of : Bool → Option ℕ → List ℕ
end_of ended newest = if ended then end_lengths newest else []

-- the items of a page, in three lists
three-lengths : (front rows end : List Item) → lengths_of ((front ++ rows) ++ end) ≡ (lengths_of front ++ lengths_of rows) ++ lengths_of end
three-lengths front rows end = lengths-append (front ++ rows) end ∙ ap (λ them. them ++ lengths_of end) (lengths-append front rows)

page-lengths : (rows : List Row) (confirmed : Option Pair) (ended : Bool) (now : ℕ) (newest : Option ℕ)
    → lengths_of (items_of_page (record { rows = rows; confirmed = confirmed; ended = ended; now = now; newest = newest }) (replicate NONCE_OCTETS 48) 0)
    ≡ lengths_with confirmed rows ++ end_of ended newest
unfolding answer_items lengths_with front_lengths rows_lengths end_lengths
page-lengths rows confirmed true now newest =
    let front = front_items confirmed in
    let shown = rows_items 0 (map (shown_row 0) rows) in
    let first = time_items (codes "now") (Some (told_time 0 now)) in
    let last = time_items (codes "last.newest") (option_map (told_time 0) newest) in
    let one : lengths_of (first ++ last) ≡ lengths_of (end_items newest) =
    λ i. (length-stamp_item (codes "now") (told_time 0 now) ∙ sym (length-stamp_item (codes "now") 0)) i ∷ lengths_of last in
    ap lengths_of (append_assoc (front ++ shown) first last) ∙ three-lengths front shown (first ++ last) ∙ ap (λ them. (lengths_of front ++ lengths_of shown) ++ them) one
page-lengths rows confirmed false now newest =
    let front = front_items confirmed in
    let shown = rows_items 0 (map (shown_row 0) rows) in
    ap lengths_of (append-nil ((front ++ shown) ++ [])) ∙ three-lengths front shown []

-- how many datagrams a page has, by the lengths
pub page_parts-is : (rows : List Row) (confirmed : Option Pair) (ended : Bool) (now : ℕ) (newest : Option ℕ)
    → page_parts (record { rows = rows; confirmed = confirmed; ended = ended; now = now; newest = newest }) ≡ parts_count (lengths_with confirmed rows ++ end_of ended newest)
unfolding page_parts
page_parts-is rows confirmed ended now newest = ap parts_count (page-lengths rows confirmed ended now newest)

-- when the newest row arrived last
abbrev pub newest_in : List Row → Option ℕ
newest_in rows = option_map (λ row. row.last) (newest rows)

-- the lengths of the items of a page with so many of the rows that pass
abbrev pub lengths_at : List Row → Start → List Row → ℕ → List ℕ
lengths_at rows start passing count = lengths_with (confirmed_by start) (take count passing) ++ end_of (nat_le (length passing) count) (newest_in rows)

-- a page may have so many rows where these lengths are allowed
pub may_have-is : (rows : List Row) (request : ReadRequest) (start : Start) (passing : List Row) (now count : ℕ)
    → may_have rows request start passing now count ≡ is_allowed request count (lengths_at rows start passing count)
may_have-is rows request start passing now count =
    ap (λ n. is_within request.limit count && nat_le n request.frags) (page_parts-is (take count passing) (confirmed_by start) (nat_le (length passing) count) now (newest_in rows))

-- both parts of a test
pub both : (a b : Bool) → (a && b) ≡ true → (a ≡ true) × (b ≡ true)
both true b is = (refl, is)
both false b is = absurd cc

both-true : (a b : Bool) → a ≡ true → b ≡ true → (a && b) ≡ true
both-true a b first second = rw first second

-- fewer rows are within a limit that allows more
within-fewer : (limit : Option ℕ) (few many : ℕ) → few ≤ many → is_within limit many ≡ true → is_within limit few ≡ true
within-fewer None few many less is = refl
within-fewer (Some limit) few many less is = le-leb few limit (omega (arith, leb-true many limit is))

-- fewer rows and items are allowed where more are
pub allowed-fewer : (request : ReadRequest) (few many : ℕ) (xs ys : List ℕ) → few ≤ many → is_allowed request many (xs ++ ys) ≡ true → is_allowed request few xs ≡ true
allowed-fewer request few many xs ys less is =
    let parts = both (is_within request.limit many) (nat_le (parts_count (xs ++ ys)) request.frags) is in
    both-true _ _ (within-fewer request.limit few many less parts.0)
    (le-leb (parts_count xs) request.frags (omega (arith, leb-true (parts_count (xs ++ ys)) request.frags parts.1, parts-more xs ys)))

-- what is not all is not ended
not-all : (whole count : ℕ) → count < whole → nat_le whole count ≡ false
not-all whole count less = lt-leb whole count less

-- fewer rows may be had where more may
pub may_have-fewer : (rows : List Row) (request : ReadRequest) (start : Start) (passing : List Row) (now few more : ℕ) → few + suc more ≤ length passing
    → may_have rows request start passing now (few + suc more) ≡ true → may_have rows request start passing now few ≡ true
may_have-fewer rows request start passing now few more within is =
    let confirmed = confirmed_by start in
    let many = few + suc more in
    let rest = take (suc more) (drop few passing) in
    let end = end_of (nat_le (length passing) many) (newest_in rows) in
    let front = lengths_with confirmed (take few passing) in
    let split : lengths_at rows start passing many ≡ front ++ (rows_lengths (length (take few passing)) rest ++ end) =
    ap (λ them. lengths_with confirmed them ++ end) (take-add few (suc more) passing)
    ∙ ap (λ them. them ++ end) (lengths_with-more confirmed (take few passing) rest)
    ∙ append_assoc front (rows_lengths (length (take few passing)) rest) end in
    let allowed = allowed-fewer request few many front (rows_lengths (length (take few passing)) rest ++ end) (omega arith)
    (ap (is_allowed request many) (sym split) ∙ sym (may_have-is rows request start passing now many) ∙ is) in
    let whole : lengths_at rows start passing few ≡ front =
    ap (λ ended. front ++ end_of ended (newest_in rows)) (not-all (length passing) few (omega (arith, within))) ∙ append-nil front in
    may_have-is rows request start passing now few ∙ ap (is_allowed request few) whole ∙ allowed

pub may_have-less : (rows : List Row) (request : ReadRequest) (start : Start) (passing : List Row) (now few many : ℕ) → few < many → many ≤ length passing
    → may_have rows request start passing now many ≡ true → may_have rows request start passing now few ≡ true
may_have-less rows request start passing now few many less within is =
    let same : few + suc (many - few - 1) ≡ many = omega (arith, less) in
    may_have-fewer rows request start passing now few (many - few - 1) (omega (arith, same, within)) (ap (may_have rows request start passing now) same ∙ is)

-- the greatest number that passes a test, where none above it does
greatest-is : (test : ℕ → Bool) (bound most : ℕ) → most ≤ bound → (1 ≤ most → test most ≡ true) → ((k : ℕ) → most < k → k ≤ bound → test k ≡ false) → greatest test bound ≡ most
greatest-is test zero most within is none = omega (arith, within)
greatest-is test (suc bound) most within is none =
    by (λ under. greatest-is test bound most under is (λ k above below. none k above (omega (arith, below)))) (nat_le (suc bound) most) refl
  where
    by : (most ≤ bound → greatest test bound ≡ most) → (b : Bool) → nat_le (suc bound) most ≡ b → greatest test (suc bound) ≡ most
    by rest true all =
        let same : most ≡ suc bound = omega (arith, within, leb-true (suc bound) most all) in
        cond-true _ _ _ (ap test (sym same) ∙ is (omega arith)) ∙ sym same
    by rest false some =
        let less : most < suc bound = leb-false (suc bound) most some in
        cond-false _ _ _ (none (suc bound) less (omega arith)) ∙ rest (omega (arith, less))

-- it is at least each that passes
pub greatest-least : (test : ℕ → Bool) (bound few : ℕ) → few ≤ bound → (1 ≤ few → test few ≡ true) → few ≤ greatest test bound
greatest-least test zero few within is = within
greatest-least test (suc bound) few within is =
    let rest : few ≤ bound → few ≤ greatest test bound = λ under. greatest-least test bound few under is in
    cond_both (test (suc bound)) (suc bound) (greatest test bound) (λ n. few ≤ n) (λ _. within) (λ fails. by rest (nat_le (suc bound) few) refl fails)
  where
    true-false : true ≡ false → ⊥
    true-false same = cc

    by : (few ≤ bound → few ≤ greatest test bound) → (b : Bool) → nat_le (suc bound) few ≡ b → test (suc bound) ≡ false → few ≤ greatest test bound
    by rest true all fails =
        let same : few ≡ suc bound = omega (arith, within, leb-true (suc bound) few all) in
        absurd (true-false (sym (is (omega arith)) ∙ ap test same ∙ fails))
    by rest false some fails = rest (omega (arith, leb-false (suc bound) few some))

-- it passes, or it is 0; it is within the bound; and none above it passes
pub greatest-passes : (test : ℕ → Bool) (bound : ℕ) → 1 ≤ greatest test bound → test (greatest test bound) ≡ true
greatest-passes test zero = λ some. absurd (omega (arith, some))
greatest-passes test (suc bound) =
    cond_both (test (suc bound)) (suc bound) (greatest test bound) (λ n. 1 ≤ n → test n ≡ true) (λ is _. is) (λ _. greatest-passes test bound)

pub greatest-within : (test : ℕ → Bool) (bound : ℕ) → greatest test bound ≤ bound
greatest-within test zero = omega arith
greatest-within test (suc bound) =
    cond_both (test (suc bound)) (suc bound) (greatest test bound) (λ n. n ≤ suc bound) (λ _. omega arith) (λ _. omega (arith, greatest-within test bound))

pub greatest-above : (test : ℕ → Bool) (bound k : ℕ) → greatest test bound < k → k ≤ bound → test k ≡ false
greatest-above test zero k = λ above within. absurd (omega (arith, above, within))
greatest-above test (suc bound) k =
    cond_both (test (suc bound)) (suc bound) (greatest test bound) (λ n. n < k → k ≤ suc bound → test k ≡ false)
    (λ _ above within. absurd (omega (arith, above, within))) (λ fails above within. by (λ under. greatest-above test bound k above under) (nat_le k bound) refl fails within)
  where
    by : (k ≤ bound → test k ≡ false) → (b : Bool) → nat_le k bound ≡ b → test (suc bound) ≡ false → k ≤ suc bound → test k ≡ false
    by rest true under fails within = rest (leb-true k bound under)
    by rest false over fails within =
        let same : k ≡ suc bound = omega (arith, within, leb-false k bound over) in
        ap test same ∙ fails

-- the number of rows of a page, where one more may not be had
pub row_count-is : (rows : List Row) (request : ReadRequest) (start : Start) (now most : ℕ) → most ≤ length (passing_from rows request start)
    → (1 ≤ most → may_have rows request start (passing_from rows request start) now most ≡ true)
    → (most < length (passing_from rows request start) → may_have rows request start (passing_from rows request start) now (most + 1) ≡ false)
    → row_count rows request start now ≡ most
unfolding row_count
row_count-is rows request start now most within is none =
    let passing = passing_from rows request start in
    let test = may_have rows request start passing now in
    greatest-is test (length passing) most within is
    (λ k above under. not-more k above under (none (omega (arith, above, under))))
  where
    true-false : true ≡ false → ⊥
    true-false same = cc

    has : ℕ → Bool
    has = may_have rows request start (passing_from rows request start) now

    not-more : (k : ℕ) → most < k → k ≤ length (passing_from rows request start) → has (most + 1) ≡ false → has k ≡ false
    not-more k above under fails = by (nat_le k (most + 1)) refl (has k) refl
      where
        by : (b : Bool) → nat_le k (most + 1) ≡ b → (c : Bool) → has k ≡ c → has k ≡ false
        by true last c same =
            let one : k ≡ most + 1 = omega (arith, above, leb-true k (most + 1) last) in
            ap has one ∙ fails
        by false more false same = same
        by false more true same =
            absurd (true-false (sym (may_have-less rows request start (passing_from rows request start) now (most + 1) k (leb-false k (most + 1) more) under same) ∙ fails))
