-- The mark behind a page: what stands before it is what was covered, and the page's rows.
use Rattle.std.proofs.Common.{◌≡◌, ℕ, zero, suc, ◌<◌, ◌≤◌, ◌==◌, ◌&&◌, ◌||◌, nat_lt, Bool, true, false, cond, if◌then◌else◌, List, [], ◌∷◌, ◌++◌, map, take, drop, refl, sym, ap, subst, ◌∙◌, inl, arith}
use Rattle.std.proofs.lemmas.Bool.{and_parts, cond_both, eqb-true, le-ltb, lt-ltb}
use Rattle.std.proofs.lemmas.List.{map-append}
use Rattle.std.specs.List.{AllByRecursion, filter}
use Rattle.mru_items.specs.declared.pair.Pair.{Pair}
use Rattle.mru_items.specs.declared.query.MruFilter.{MruFilter}
use Rattle.mru_items.specs.declared.shown.ShownRow.{ShownRow}
use Rattle.mru_read.specs.Pages.{behind, is_row_of, passes, shown_row, stands_in}
use Rattle.mrulist_coverage.specs.Coverage.{IsSublist, AreDistinct}
use Rattle.mrulist_coverage.proofs.Grows.{passing_before-sublist}
use Rattle.mrulist_coverage.proofs.Invariant.{passing_before}
use Rattle.mrulist_coverage.proofs.Sublists.{IsSublist-refl, IsSublist-same, IsSublist-trans, IsSublist-more, IsSublist-map, IsSublist-append, IsSublist-behind, AllByRecursion-sublist, filter-IsSublist, filter-all, filter-none, filter-append, filter-filter, take-IsSublist}
use Rattle.mrulist_coverage.proofs.Tables.{IsApart, AreDistinct-sublist, with_rows-sublist}
use Rattle.mrulist_reader.specs.Readers.{with_rows}
use Rattle.net_addr.specs.Addresses.{same_ip}
use Rattle.recency.specs.declared.row.Row.{Row}
use Rattle.recency.specs.Rows.{AreBefore, IsDistinct, IsRising}
use Rattle.recency.proofs.ListLemmas.{AllByRecursion-filter, AllByRecursion-map, AllByRecursion-weaker}
use Rattle.recency.proofs.RowLemmas.{IsRising-filter}

-- the rows up to that of a pair and with it
abbrev pub up_to_pair : Pair → List Row → List Row
up_to_pair pair [] = []
up_to_pair pair (row ∷ rows) = if is_row_of pair row then row ∷ [] else row ∷ up_to_pair pair rows

-- with those behind it they are all
pub up_to_pair-behind : (pair : Pair) (rows : List Row) → up_to_pair pair rows ++ behind pair rows ≡ rows
up_to_pair-behind pair [] = refl
up_to_pair-behind pair (row ∷ rows) =
    elim (is_row_of pair row) as (λ b. cond b (row ∷ []) (row ∷ up_to_pair pair rows) ++ cond b rows (behind pair rows) ≡ row ∷ rows) [
      | true ↦ refl
      | false ↦ ap (λ (rest : List Row). row ∷ rest) (up_to_pair-behind pair rows)
    ]

-- a row of a pair has its last arrival
is_row_of-last : (pair : Pair) (row : Row) → is_row_of pair row ≡ true → row.last ≡ pair.last
is_row_of-last pair row is = eqb-true row.last pair.last (and_parts (same_ip row.ip pair.addr.ip && (row.port == pair.addr.port)) (row.last == pair.last) is).1

-- where a pair stands among rows later than a stamp, it is later
standing_later : (pair : Pair) (stamp : ℕ) (rows : List Row) → AllByRecursion (λ (row : Row). stamp < row.last) rows → stands_in rows pair ≡ true → stamp < pair.last
standing_later pair stamp [] later stands = absurd (false_true stands)
  where
    false_true : false ≡ true → ⊥
    false_true same = cc
standing_later pair stamp (row ∷ rows) later stands = by (is_row_of pair row) refl stands (λ rest. standing_later pair stamp rows later.1 rest)
  where
    by : (b : Bool) → is_row_of pair row ≡ b → (b || stands_in rows pair) ≡ true → (stands_in rows pair ≡ true → stamp < pair.last) → stamp < pair.last
    by true is stands rest =
        let last : row.last ≡ pair.last = is_row_of-last pair row is in
        let before : stamp < row.last = later.0 in
        omega arith
    by false is stands rest = rest stands

-- the rows up to that of a pair arrived no later than it
pub up_to_pair-most : (pair : Pair) (rows : List Row) → IsRising rows → stands_in rows pair ≡ true → AllByRecursion (λ row. row.last ≤ pair.last) (up_to_pair pair rows)
up_to_pair-most pair [] rising stands = tt
up_to_pair-most pair (row ∷ rows) rising stands = by (is_row_of pair row) refl stands (λ rest. up_to_pair-most pair rows rising.1 rest)
  where
    by : (b : Bool) → is_row_of pair row ≡ b → (b || stands_in rows pair) ≡ true → (stands_in rows pair ≡ true → AllByRecursion (λ (row : Row). row.last ≤ pair.last) (up_to_pair pair rows))
        → AllByRecursion (λ (row : Row). row.last ≤ pair.last) (cond b (row ∷ []) (row ∷ up_to_pair pair rows))
    by true is stands rest =
        let last : row.last ≡ pair.last = is_row_of-last pair row is in
        (omega arith, tt)
    by false is stands rest =
        let before : row.last < pair.last = standing_later pair row.last rows rising.0 stands in
        (omega arith, rest stands)

-- and those behind it later
pub behind-later : (pair : Pair) (rows : List Row) → IsRising rows → AllByRecursion (λ row. pair.last < row.last) (behind pair rows)
behind-later pair [] rising = tt
behind-later pair (row ∷ rows) rising =
    let P : List Row → Type 0 = λ left. AllByRecursion (λ (row : Row). pair.last < row.last) left in
    let Q : ℕ → Type 0 = λ stamp. AllByRecursion (λ (row : Row). stamp < row.last) rows in
    cond_both (is_row_of pair row) rows (behind pair rows) P (λ is. subst Q (is_row_of-last pair row is) rising.0) (λ _. behind-later pair rows rising.1)

-- the mark behind a page: the first last arrival of the rows that it leaves, or this one where it leaves none
abbrev pub next_mark : ℕ → List Row → ℕ
next_mark end [] = end
next_mark end (row ∷ rows) = row.last

-- what is before that of rising rows is what the page took
pub before_mark-sublist : (end n : ℕ) (rows : List Row) → IsRising rows → IsSublist (filter (λ row. nat_lt row.last (next_mark end (drop n rows))) rows) (take n rows)
before_mark-sublist end zero [] rising = tt
before_mark-sublist end zero (row ∷ rows) rising =
    let test : Row → Bool = λ one. nat_lt one.last row.last in
    let fail : AllByRecursion (λ (one : Row). test one ≡ false) rows = AllByRecursion-weaker (λ (one : Row). row.last < one.last) (λ (one : Row). test one ≡ false) (λ one later. le-ltb one.last row.last (omega (arith, later))) rows rising.0 in
    IsSublist-same (filter test (row ∷ rows)) [] (filter-none test (row ∷ rows) (le-ltb row.last row.last (omega arith), fail))
before_mark-sublist end (suc n) [] rising = tt
before_mark-sublist end (suc n) (row ∷ rows) rising =
    let mark : ℕ = next_mark end (drop n rows) in
    let kept : List Row = filter (λ row. nat_lt row.last mark) rows in
    let rest : IsSublist kept (take n rows) = before_mark-sublist end n rows rising.1 in
    elim (nat_lt row.last mark) as (λ b. IsSublist (cond b (row ∷ kept) kept) (row ∷ take n rows)) [
      | true ↦ inl (refl, rest)
      | false ↦ IsSublist-more kept row (take n rows) rest
    ]

-- a bound that is no later than all rows and the end is no later than the mark
pub mark-from : (end bound n : ℕ) (rows : List Row) → AllByRecursion (λ row. bound ≤ row.last) rows → bound ≤ end → bound ≤ next_mark end (drop n rows)
mark-from end bound zero [] from until = until
mark-from end bound zero (row ∷ rows) from until = from.0
mark-from end bound (suc n) [] from until = until
mark-from end bound (suc n) (row ∷ rows) from until = mark-from end bound n rows from.1 until

-- the mark is no later than an end that no row is behind
pub mark-until : (end n : ℕ) (rows : List Row) → AreBefore end rows → next_mark end (drop n rows) ≤ end
mark-until end zero [] before = omega arith
mark-until end zero (row ∷ rows) before = omega (arith, before.0)
mark-until end (suc n) [] before = omega arith
mark-until end (suc n) (row ∷ rows) before = mark-until end n rows before.1

-- what the page took is before the mark
pub mark-above : (end n : ℕ) (rows : List Row) → IsRising rows → AreBefore end rows → AllByRecursion (λ row. row.last < next_mark end (drop n rows)) (take n rows)
mark-above end zero rows rising before = tt
mark-above end (suc n) [] rising before = tt
mark-above end (suc n) (row ∷ rows) rising before = (
  mark-from end (suc row.last) n rows (AllByRecursion-weaker (λ (later : Row). row.last < later.last) (λ (later : Row). suc row.last ≤ later.last) (λ later is. is) rows rising.0) before.0,
  mark-above end n rows rising.1 before.1,
)

-- of distinct rows the first are of other clients than the others
pub distinct-apart : (front rest : List Row) → IsDistinct (front ++ rest) → AllByRecursion (λ row. AllByRecursion (λ later. same_ip later.ip row.ip ≡ false) rest) front
distinct-apart [] rest distinct = tt
distinct-apart (row ∷ front) rest distinct =
    (AllByRecursion-sublist (λ (later : Row). same_ip later.ip row.ip ≡ false) rest (front ++ rest) (IsSublist-behind rest front rest (IsSublist-refl rest)) distinct.0, distinct-apart front rest distinct.1)

-- and the others are distinct
pub distinct-rest : (front rest : List Row) → IsDistinct (front ++ rest) → IsDistinct rest
distinct-rest [] rest distinct = distinct
distinct-rest (row ∷ front) rest distinct = distinct-rest front rest distinct.1

-- rising rows go on rising
pub rising-rest : (front rest : List Row) → IsRising (front ++ rest) → IsRising rest
rising-rest [] rest rising = rising
rising-rest (row ∷ front) rest rising = rising-rest front rest rising.1

-- distinct rows are shown as such
pub shown-AreDistinct : (origin : ℕ) (rows : List Row) → IsDistinct rows → AreDistinct (map (shown_row origin) rows)
shown-AreDistinct origin [] distinct = tt
shown-AreDistinct origin (row ∷ rows) distinct =
    (AllByRecursion-map (λ (later : Row). same_ip later.ip row.ip ≡ false) (λ (later : ShownRow). same_ip later.addr.ip row.ip ≡ false) (shown_row origin) (λ later apart. apart) rows distinct.0, shown-AreDistinct origin rows distinct.1)

-- rows that are all before a mark: those that pass before it are those that pass
pub passing_before-all : (origin : ℕ) (wanted : MruFilter) (mark : ℕ) (rows : List Row) → AreBefore mark rows → passing_before origin wanted mark rows ≡ map (shown_row origin) (filter (passes wanted) rows)
passing_before-all origin wanted mark rows before =
    let test : Row → Bool = λ row. nat_lt row.last mark in
    let kept : List Row = filter (passes wanted) rows in
    let pass : AllByRecursion (λ (row : Row). test row ≡ true) kept =
    AllByRecursion-weaker (λ (row : Row). row.last < mark) (λ (row : Row). test row ≡ true) (λ row earlier. lt-ltb row.last mark earlier) kept (AllByRecursion-filter (λ (row : Row). row.last < mark) (passes wanted) rows before) in
    ap (map (shown_row origin)) (filter-filter (passes wanted) test rows ∙ filter-all test kept pass)

-- Rows in two parts, where the first one is before a mark, and what passes before it stands in a table: then what passes before
-- the mark behind a page of the second part stands in the table with the page's rows.
pub page-sublist : (origin : ℕ) (wanted : MruFilter) (mark end n : ℕ) (front rest : List Row) (table : List ShownRow) → IsDistinct (front ++ rest) → IsRising (front ++ rest) → AreBefore mark front
    → IsSublist (passing_before origin wanted mark (front ++ rest)) table
    → IsSublist (passing_before origin wanted (next_mark end (drop n (filter (passes wanted) rest))) (front ++ rest)) (with_rows table (map (shown_row origin) (take n (filter (passes wanted) rest))))
page-sublist origin wanted mark end n front rest table distinct rising before stands =
    let shown : List Row → List ShownRow = map (shown_row origin) in
    let passing : List Row = filter (passes wanted) rest in
    let rows : List Row = take n passing in
    let next : ℕ = next_mark end (drop n passing) in
    let first : List Row = filter (passes wanted) front in
    let under : Row → Bool = λ row. nat_lt row.last next in
    let test : Row → Bool = λ row. passes wanted row && nat_lt row.last next in
    let front_kept : IsSublist (filter test front) first =
    IsSublist-trans (filter test front) (filter under first) first (IsSublist-same (filter test front) (filter under first) (filter-filter (passes wanted) under front)) (filter-IsSublist under first) in
    let rest_kept : IsSublist (filter test rest) rows =
    IsSublist-trans (filter test rest) (filter under passing) rows (IsSublist-same (filter test rest) (filter under passing) (filter-filter (passes wanted) under rest))
    (before_mark-sublist end n passing (IsRising-filter (passes wanted) rest (rising-rest front rest rising))) in
    let both : IsSublist (filter test (front ++ rest)) (first ++ rows) =
    IsSublist-trans (filter test (front ++ rest)) (filter test front ++ filter test rest) (first ++ rows) (IsSublist-same (filter test (front ++ rest)) (filter test front ++ filter test rest) (filter-append test front rest))
    (IsSublist-append (filter test front) first (filter test rest) rows front_kept rest_kept) in
    let both_shown : IsSublist (passing_before origin wanted next (front ++ rest)) (shown first ++ shown rows) =
    IsSublist-trans (passing_before origin wanted next (front ++ rest)) (shown (first ++ rows)) (shown first ++ shown rows) (IsSublist-map (shown_row origin) (filter test (front ++ rest)) (first ++ rows) both)
    (IsSublist-same (shown (first ++ rows)) (shown first ++ shown rows) (map-append (shown_row origin) first rows)) in
    let front_stands : IsSublist front (front ++ rest) = front-IsSublist front rest in
    let first_stands : IsSublist (shown first) table =
    IsSublist-trans (shown first) (passing_before origin wanted mark front) table (IsSublist-same (shown first) (passing_before origin wanted mark front) (sym (passing_before-all origin wanted mark front before)))
    (IsSublist-trans (passing_before origin wanted mark front) (passing_before origin wanted mark (front ++ rest)) table (passing_before-sublist origin wanted mark front (front ++ rest) front_stands) stands) in
    let rows_stand : IsSublist rows rest = IsSublist-trans rows passing rest (take-IsSublist n passing) (filter-IsSublist (passes wanted) rest) in
    let apart : AllByRecursion (λ (other : ShownRow). IsApart (shown rows) other) (shown first) =
    AllByRecursion-map (λ (row : Row). AllByRecursion (λ (later : Row). same_ip later.ip row.ip ≡ false) rest) (λ (other : ShownRow). IsApart (shown rows) other) (shown_row origin)
    (λ row each. AllByRecursion-map (λ (later : Row). same_ip later.ip row.ip ≡ false) (λ (later : ShownRow). same_ip later.addr.ip row.ip ≡ false) (shown_row origin) (λ later is. is) rows
    (AllByRecursion-sublist (λ (later : Row). same_ip later.ip row.ip ≡ false) rows rest rows_stand each))
    first (AllByRecursion-filter (λ (row : Row). AllByRecursion (λ (later : Row). same_ip later.ip row.ip ≡ false) rest) (passes wanted) front (distinct-apart front rest distinct)) in
    let new_distinct : AreDistinct (shown rows) =
    AreDistinct-sublist (shown rows) (shown rest) (IsSublist-map (shown_row origin) rows rest rows_stand) (shown-AreDistinct origin rest (distinct-rest front rest distinct)) in
    IsSublist-trans (passing_before origin wanted next (front ++ rest)) (shown first ++ shown rows) (with_rows table (shown rows)) both_shown (with_rows-sublist (shown first) table (shown rows) first_stands apart new_distinct)
  where
    front-IsSublist : (front rest : List Row) → IsSublist front (front ++ rest)
    front-IsSublist [] rest = tt
    front-IsSublist (row ∷ front) rest = inl (refl, front-IsSublist front rest)
