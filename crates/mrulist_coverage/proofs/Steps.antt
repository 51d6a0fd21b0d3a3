-- What is covered stays so: step by step of a listing, and of the list.
use Rattle.std.proofs.Common.{◌≡◌, ◌⊎◌, ℕ, suc, ◌+◌, ◌-◌, ◌^◌, ◌<◌, ◌≤◌, ◌&&◌, ◌||◌, nat_lt, Bool, true, false, is_some, find, option_map, Option, Some, None, slice_get, List, [], ◌∷◌, ◌++◌, length, map, take, drop, Contains, refl, sym, ap, subst, ◌∙◌, inl, inr, arith}
use Rattle.std.proofs.lemmas.Bool.{and_from, and_right, le-ltb, leb-true, lt-ltb, or_left, or_right}
use Rattle.std.proofs.lemmas.List.{drop_all, length-map}
use Rattle.std.proofs.lemmas.List.Elements.{Contains-append_left}
use Rattle.std.specs.List.{AllByRecursion, filter}
use Rattle.mru_items.specs.declared.answer.PageAnswer.{PageAnswer}
use Rattle.mru_items.specs.declared.pair.Pair.{Pair}
use Rattle.mru_items.specs.declared.query.MruFilter.{MruFilter}
use Rattle.mru_items.specs.declared.query.Query.{Query}
use Rattle.mru_items.specs.declared.query.ReadRequest.{ReadRequest}
use Rattle.mru_items.specs.declared.shown.ShownRow.{ShownRow}
use Rattle.mru_items.specs.Queries.{ArePairsTold, told_time}
use Rattle.mru_read.specs.declared.pages.Page.{Page}
use Rattle.mru_read.specs.Histories.{Listing, Read, after_read, drawn, list_at, page_at}
use Rattle.mru_read.specs.Pages.{Start, Beginning, at_end, confirmed_by, passes, page_from, page_of, page_with, passing_from, row_count, rows_from, shown_row, stands_in, start_of, told_page, told_pair}
use Rattle.mrulist_coverage.specs.Coverage.{AreDistinct, Covers, IsSublist, WasShown}
use Rattle.mrulist_coverage.specs.Tellings.{IsTelling, Telling}
use Rattle.mrulist_coverage.proofs.Grows.{IsListing, later-sublist, list_at-IsListing, move_at}
use Rattle.mrulist_coverage.proofs.Invariant.{AreRisingPairs, IsCovered, passing_before}
use Rattle.mrulist_coverage.proofs.Marks.{mark-above, mark-from, mark-until, next_mark, page-sublist, passing_before-all, rising-rest}
use Rattle.mrulist_coverage.proofs.Placed.{IsPlaced, found-start, named-each, named-none, page-start, start-IsPlaced}
use Rattle.mrulist_coverage.proofs.Sublists.{AllByRecursion-sublist, IsSublist-behind, IsSublist-map, IsSublist-refl, IsSublist-trans, filter-none, take-IsSublist}
use Rattle.mrulist_coverage.proofs.Tables.{with_rows-AreDistinct, with_rows-each}
use Rattle.mrulist_coverage.proofs.Trails.{ArePairsTold-append, ArePairsTold-take, AreRisingPairs-append, AreRisingPairs-sublist, found-told, row_pair, rows-ArePairsTold}
use Rattle.mrulist_reader.specs.Readers.{ReaderParts, after_page, backed_off, confirms, cut_behind, is_asked, named_by, new_reader, one_more, pair_of, with_rows}
use Rattle.recency.specs.declared.row.Row.{Row}
use Rattle.recency.specs.Rows.{AreBefore, IsDistinct, IsRising}
use Rattle.recency.proofs.ListLemmas.{AllByRecursion-append, AllByRecursion-filter, AllByRecursion-map, AllByRecursion-weaker}
use Rattle.recency.proofs.RowLemmas.{IsRising-filter}

-- a new listing covers what arrived before 0
pub covered-new : (t : Telling) (places : List (Option ℕ)) (query : Query) → IsTelling t → IsCovered t places query.filter (new_reader query) 0
covered-new t places query is =
    let rows : List Row = (list_at t.history 0).rows in
    let test : Row → Bool = λ row. passes query.filter row && nat_lt row.last 0 in
    let P : List Row → Type 0 = λ kept. IsSublist (map (shown_row t.origin) kept) [] in
    record {
      mark = 0;
      drawn = omega arith;
      all = subst P (sym (filter-none test rows (fails rows))) tt;
      distinct = tt;
      shown = tt;
      stamps = [];
      told = tt;
      rising = tt;
      below = tt;
    }
  where
    fails : (rows : List Row) → AllByRecursion (λ (row : Row). (passes query.filter row && nat_lt row.last 0) ≡ false) rows
    fails [] = tt
    fails (row ∷ rows) = (and_right (passes query.filter row) (nat_lt row.last 0) (le-ltb row.last 0 (omega arith)), fails rows)

-- what is covered stays so at later places of the history
pub covered-later : (t : Telling) (places : List (Option ℕ)) (wanted : MruFilter) (r : ReaderParts) (k p : ℕ) → IsTelling t → k ≤ p → IsCovered t places wanted r k → IsCovered t places wanted r p
covered-later t places wanted r k p is before covered =
    let later = later-sublist t.origin wanted covered.mark t.history.limits t.history.opening t.history.moves k p before covered.drawn in
    record {
      mark = covered.mark;
      drawn = omega (arith, covered.drawn, later.1);
      all = IsSublist-trans (passing_before t.origin wanted covered.mark (list_at t.history p).rows) (passing_before t.origin wanted covered.mark (list_at t.history k).rows) r.rows later.0 covered.all;
      distinct = covered.distinct;
      shown = covered.shown;
      stamps = covered.stamps;
      told = covered.told;
      rising = covered.rising;
      below = covered.below;
    }

-- it rests on the rows and the trail alone
pub covered-same : (t : Telling) (places : List (Option ℕ)) (wanted : MruFilter) (r other : ReaderParts) (k : ℕ) → r.rows ≡ other.rows → r.trail ≡ other.trail → IsCovered t places wanted r k → IsCovered t places wanted other k
covered-same t places wanted r other k rows trail covered =
    let All : List ShownRow → Type 0 = λ table. IsSublist (passing_before t.origin wanted covered.mark (list_at t.history k).rows) table in
    let Distinct : List ShownRow → Type 0 = λ table. AreDistinct table in
    let Shown : List ShownRow → Type 0 = λ table. AllByRecursion (WasShown t places) table in
    let Told : List Pair → Type 0 = λ pairs. ArePairsTold t.origin covered.stamps pairs in
    record {
      mark = covered.mark;
      drawn = covered.drawn;
      all = subst All rows covered.all;
      distinct = subst Distinct rows covered.distinct;
      shown = subst Shown rows covered.shown;
      stamps = covered.stamps;
      told = subst Told trail covered.told;
      rising = covered.rising;
      below = covered.below;
    }

-- and stays so with more places
pub covered-more-places : (t : Telling) (places more : List (Option ℕ)) (wanted : MruFilter) (r : ReaderParts) (k : ℕ) → IsCovered t places wanted r k → IsCovered t (places ++ more) wanted r k
covered-more-places t places more wanted r k covered = record {
  mark = covered.mark;
  drawn = covered.drawn;
  all = covered.all;
  distinct = covered.distinct;
  shown = AllByRecursion-weaker (WasShown t places) (WasShown t (places ++ more))
      (λ row shown. record { place = shown.place; page = shown.page; among = Contains-append_left places more (Some shown.place) shown.among; is_at = shown.is_at; shown = shown.shown }) r.rows covered.shown;
  stamps = covered.stamps;
  told = covered.told;
  rising = covered.rising;
  below = covered.below;
}

-- going back to older pairs keeps it
pub covered-refused : (t : Telling) (places : List (Option ℕ)) (wanted : MruFilter) (r : ReaderParts) (k : ℕ) → IsCovered t places wanted r k
    → IsCovered t places wanted (record r { trail = backed_off r; refused = one_more r.refused }) k
covered-refused t places wanted r k covered =
    let count : ℕ = length r.trail - length (named_by r) in
    let stand : IsSublist (take count covered.stamps) covered.stamps = take-IsSublist count covered.stamps in
    record {
      mark = covered.mark;
      drawn = covered.drawn;
      all = covered.all;
      distinct = covered.distinct;
      shown = covered.shown;
      stamps = take count covered.stamps;
      told = ArePairsTold-take t.origin count covered.stamps r.trail covered.told;
      rising = AreRisingPairs-sublist (take count covered.stamps) covered.stamps stand covered.rising;
      below = AllByRecursion-sublist (λ (pair : Pair). pair.last < covered.mark) (take count covered.stamps) covered.stamps stand covered.below;
    }

-- a read is refused only where pairs were named
pub refused-named : (t : Telling) (r : ReaderParts) (p : ℕ) (read : ReadRequest) (moment : ℕ) → page_at (list_at t.history p) read moment ≡ None → ArePairsTold t.origin read.pairs (named_by r) → 0 < length (named_by r)
unfolding page_of
refused-named t r p read moment refused told = by (list_at t.history p).rows (drawn moment (list_at t.history p).stamp) read.pairs (named_by r) refused told
  where
    some_none : (page : Page) → Some page ≡ None → ⊥
    some_none page same = cc

    by : (rows : List Row) (now : ℕ) (pairs named : List Pair) → option_map (page_from rows read now) (start_of rows pairs) ≡ None → ArePairsTold t.origin pairs named → 0 < length named
    by rows now [] named refused told = absurd (some_none (page_from rows read now Beginning) refused)
    by rows now (pair ∷ pairs) [] refused told = absurd told
    by rows now (pair ∷ pairs) (one ∷ named) refused told = omega arith

-- a page confirms one of the named pairs, or none where none was named
confirms-start : (origin : ℕ) (rows : List Row) (pairs named : List Pair) (start : Start) → start_of rows pairs ≡ Some start → ArePairsTold origin pairs named → confirms named (option_map (told_pair origin) (confirmed_by start)) ≡ true
confirms-start origin rows [] [] start is told =
    let P : Start → Type 0 = λ start. confirms [] (option_map (told_pair origin) (confirmed_by start)) ≡ true in
    subst P (some_some Beginning start is) refl
  where
    some_some : (one other : Start) → Some one ≡ Some other → one ≡ other
    some_some one other same = cc
confirms-start origin rows [] (one ∷ named) start is told = absurd told
confirms-start origin rows (pair ∷ pairs) [] start is told = absurd told
confirms-start origin rows (pair ∷ pairs) (one ∷ named) start is told =
    let behind = found-start (find (stands_in rows) (pair ∷ pairs)) start is in
    let P : Start → Type 0 = λ start. confirms (one ∷ named) (option_map (told_pair origin) (confirmed_by start)) ≡ true in
    subst P behind.2 (found-told origin (stands_in rows) (pair ∷ pairs) (one ∷ named) behind.0 told behind.1)

-- a page of a read that names what the reader named is one that was asked for
pub page-asked : (t : Telling) (places : List (Option ℕ)) (r : ReaderParts) (k p : ℕ) (read : ReadRequest) (moment : ℕ) (page : Page) → IsTelling t → IsCovered t places r.query.filter r k → k ≤ p
    → slice_get t.history.moves p ≡ Some (Read read moment) → page_at (list_at t.history p) read moment ≡ Some page
    → read.filter ≡ r.query.filter → ArePairsTold t.origin read.pairs (named_by r) → (1 ≤ length page.rows) ⊎ (page.ended ≡ true)
    → is_asked (named_by r) (told_page (t.nonce p) t.origin page) ≡ true
page-asked t places r k p read moment page is covered before stands page_is filter_is told some =
    let rows : List Row = (list_at t.history p).rows in
    let begun = page-start rows read (drawn moment (list_at t.history p).stamp) page page_is in
    let P : Page → Type 0 = λ page. confirms (named_by r) (option_map (told_pair t.origin) page.confirmed) ≡ true in
    let answer : PageAnswer = told_page (t.nonce p) t.origin page in
    and_from (confirms (named_by r) answer.older) (nat_lt 0 (length answer.rows) || is_some answer.ended)
    (subst P begun.2 (confirms-start t.origin rows read.pairs (named_by r) begun.0 begun.1 told)) (by page some)
  where
    by : (page : Page) → (1 ≤ length page.rows) ⊎ (page.ended ≡ true) → (nat_lt 0 (length (map (shown_row t.origin) page.rows)) || is_some (at_end page.ended (Some (told_time t.origin page.now)))) ≡ true
    by page (inl some) = or_left (nat_lt 0 (length (map (shown_row t.origin) page.rows))) (is_some (at_end page.ended (Some (told_time t.origin page.now)))) (lt-ltb 0 (length (map (shown_row t.origin) page.rows)) (omega (arith, some, length-map page.rows (shown_row t.origin))))
    by page (inr ended) =
        let P : Bool → Type 0 = λ b. is_some (at_end b (Some (told_time t.origin page.now))) ≡ true in
        or_right (nat_lt 0 (length (map (shown_row t.origin) page.rows))) (is_some (at_end page.ended (Some (told_time t.origin page.now)))) (subst P (sym ended) refl)

-- each of these is among them, so of each holds what holds of what is among them
each-among : {X : Type 0} (P : X → Type 0) (xs : List X) → ((x : X) → Contains xs x → P x) → AllByRecursion P xs
each-among P [] holds = tt
each-among {X} P (x ∷ xs) holds = (holds x (0, omega arith, refl), each-among P xs (λ y among. holds y (suc among.0, omega (arith, among.1), among.2)))

-- rising rows have rising pairs
rows-AreRisingPairs : (rows : List Row) → IsRising rows → AreRisingPairs (map row_pair rows)
rows-AreRisingPairs [] rising = tt
rows-AreRisingPairs (row ∷ rows) rising =
    (AllByRecursion-map (λ (later : Row). row.last < later.last) (λ (later : Pair). row.last < later.last) row_pair (λ later is. is) rows rising.0, rows-AreRisingPairs rows rising.1)

-- The first rows that pass from a start on, over plain lists: with them the table covers what is before the next mark, and
-- all that pass where they are all that pass from there on.
page-keeps : (t : Telling) (places : List (Option ℕ)) (wanted : MruFilter) (r : ReaderParts) (p n now mark : ℕ) (rows : List Row) (start : Start) (nonce : List ℕ) → IsDistinct rows → IsRising rows → AreBefore now rows → now < 2 ^ 64 → mark ≤ now
    → IsSublist (passing_before t.origin wanted mark rows) r.rows → AreDistinct r.rows → AllByRecursion (WasShown t places) r.rows
    → AllByRecursion (WasShown t places) (map (shown_row t.origin) (take n (filter (passes wanted) (rows_from rows start))))
    → IsPlaced t.origin mark rows start r.trail → list_at t.history (suc p) ≡ record { rows = rows; stamp = now }
    → IsCovered t places wanted (after_page (told_page nonce t.origin (page_with rows start (filter (passes wanted) (rows_from rows start)) now n)) r) (suc p)
    × (length (filter (passes wanted) (rows_from rows start)) ≤ n → IsSublist (map (shown_row t.origin) (filter (passes wanted) rows)) (with_rows r.rows (map (shown_row t.origin) (take n (filter (passes wanted) (rows_from rows start))))))
page-keeps t places wanted r p n now mark rows start nonce distinct rising before fits low all table shown new placed next =
    let front : List Row = placed.front in
    let rest : List Row = rows_from rows start in
    let bound : ℕ = placed.bound in
    let under : bound ≤ mark = placed.low in
    let passing : List Row = filter (passes wanted) rest in
    let taken : List Row = take n passing in
    let end : ℕ = now + 1 in
    let next_one : ℕ = next_mark end (drop n passing) in
    let after : List ShownRow = with_rows r.rows (map (shown_row t.origin) taken) in
    let Distinct : List Row → Type 0 = λ xs. IsDistinct xs in
    let Rising : List Row → Type 0 = λ xs. IsRising xs in
    let Before : List Row → Type 0 = λ xs. AreBefore now xs in
    let Stood : List Row → Type 0 = λ xs. IsSublist (passing_before t.origin wanted mark xs) r.rows in
    let Stands : List Row → Type 0 = λ xs. IsSublist (passing_before t.origin wanted next_one xs) after in
    let parts_rising : IsRising (front ++ rest) = subst Rising (sym placed.parts) rising in
    let parts_before : AreBefore now (front ++ rest) = subst Before (sym placed.parts) before in
    let stands : Stands rows = subst Stands placed.parts (page-sublist t.origin wanted mark end n front rest r.rows (subst Distinct (sym placed.parts) distinct) parts_rising placed.before (subst Stood (sym placed.parts) all)) in
    let rest_before : AreBefore now rest = AllByRecursion-sublist (λ (row : Row). row.last < now) rest (front ++ rest) (IsSublist-behind rest front rest (IsSublist-refl rest)) parts_before in
    let passing_rising : IsRising passing = IsRising-filter (passes wanted) rest (rising-rest front rest parts_rising) in
    let passing_now : AreBefore now passing = AllByRecursion-filter (λ (row : Row). row.last < now) (passes wanted) rest rest_before in
    let passing_end : AreBefore end passing = AllByRecursion-weaker (λ (row : Row). row.last < now) (λ (row : Row). row.last < end) (λ row is. omega (arith, is)) passing passing_now in
    let passing_bound : AllByRecursion (λ (row : Row). bound ≤ row.last) passing = AllByRecursion-filter (λ (row : Row). bound ≤ row.last) (passes wanted) rest placed.from in
    let taken_stand : IsSublist taken passing = take-IsSublist n passing in
    let until : next_one ≤ end = mark-until end n passing passing_end in
    let since : bound ≤ next_one = mark-from end bound n passing passing_bound (omega arith) in
    let pairs : List Pair = map row_pair taken in
    let pairs_rising : AreRisingPairs pairs = AreRisingPairs-sublist pairs (map row_pair passing) (IsSublist-map row_pair taken passing taken_stand) (rows-AreRisingPairs passing passing_rising) in
    let pairs_bound : AllByRecursion (λ (pair : Pair). bound ≤ pair.last) pairs =
    AllByRecursion-map (λ (row : Row). bound ≤ row.last) (λ (pair : Pair). bound ≤ pair.last) row_pair (λ row is. is) taken (AllByRecursion-sublist (λ (row : Row). bound ≤ row.last) taken passing taken_stand passing_bound) in
    let pairs_told : ArePairsTold t.origin pairs (map pair_of (map (shown_row t.origin) taken)) =
    rows-ArePairsTold t.origin taken (AllByRecursion-weaker (λ (row : Row). row.last < now) (λ (row : Row). row.last < 2 ^ 64) (λ row is. omega (arith, is)) taken (AllByRecursion-sublist (λ (row : Row). row.last < now) taken passing taken_stand passing_now)) in
    let pairs_below : AllByRecursion (λ (pair : Pair). pair.last < next_one) pairs =
    AllByRecursion-map (λ (row : Row). row.last < next_one) (λ (pair : Pair). pair.last < next_one) row_pair (λ row is. is) taken (mark-above end n passing passing_rising passing_end) in
    let kept_below : AllByRecursion (λ (pair : Pair). pair.last < next_one) placed.kept =
    AllByRecursion-weaker (λ (pair : Pair). pair.last < bound) (λ (pair : Pair). pair.last < next_one) (λ pair is. omega (arith, is, since)) placed.kept placed.below in
    let Drawn : Listing → Type 0 = λ list. next_one ≤ list.stamp + 1 in
    let There : Listing → Type 0 = λ list. IsSublist (passing_before t.origin wanted next_one list.rows) after in (
      record {
        mark = next_one;
        drawn = subst Drawn (sym next) until;
        all = subst There (sym next) stands;
        distinct = with_rows-AreDistinct r.rows (map (shown_row t.origin) taken) table;
        shown = with_rows-each (WasShown t places) r.rows (map (shown_row t.origin) taken) shown new;
        stamps = placed.kept ++ pairs;
        told = ArePairsTold-append t.origin placed.kept (cut_behind (option_map (told_pair t.origin) (confirmed_by start)) r.trail) pairs (map pair_of (map (shown_row t.origin) taken)) placed.told pairs_told;
        rising = AreRisingPairs-append bound placed.kept pairs placed.rising pairs_rising placed.below pairs_bound;
        below = AllByRecursion-append (λ (pair : Pair). pair.last < next_one) placed.kept pairs kept_below pairs_below;
      },
      λ whole.
          let ended : next_one ≡ end = ap (next_mark end) (drop_all n passing whole) in
          let rows_end : AreBefore next_one rows = AllByRecursion-weaker (λ (row : Row). row.last < now) (λ (row : Row). row.last < next_one) (λ row is. omega (arith, is, ended)) rows before in
          let All : List ShownRow → Type 0 = λ those. IsSublist those after in
          subst All (passing_before-all t.origin wanted next_one rows rows_end) stands,
    )

-- what a page leaves
abbrev IsStepTo : Telling → List (Option ℕ) → MruFilter → ReaderParts → ℕ → Page → Type 0
IsStepTo t places wanted r p page =
    IsCovered t places wanted (after_page (told_page (t.nonce p) t.origin page) r) (suc p)
    × (page.ended ≡ true → Covers t places wanted p (after_page (told_page (t.nonce p) t.origin page) r).rows (told_time t.origin page.now))

-- the page from a start on keeps it, and where it ends the list the listing covers
page-IsStepTo : (t : Telling) (places : List (Option ℕ)) (r : ReaderParts) (p : ℕ) (read : ReadRequest) (moment : ℕ) (start : Start) → IsTelling t → IsCovered t places read.filter r p
    → slice_get t.history.moves p ≡ Some (Read read moment)
    → page_at (list_at t.history p) read moment ≡ Some (page_from (list_at t.history p).rows read (drawn moment (list_at t.history p).stamp) start)
    → start_of (list_at t.history p).rows read.pairs ≡ Some start
    → ArePairsTold t.origin read.pairs (named_by r) → Contains places (Some p) → (named_by r ≡ [] → cut_behind None r.trail ≡ [])
    → IsStepTo t places read.filter r p (page_from (list_at t.history p).rows read (drawn moment (list_at t.history p).stamp) start)
page-IsStepTo t places r p read moment start is covered stands page_is start_is told among anew =
    let list : Listing = list_at t.history p in
    let rows : List Row = list.rows in
    let now : ℕ = drawn moment list.stamp in
    let page : Page = page_from rows read now start in
    let here : IsListing t.history.limits list = list_at-IsListing t.history.limits t.history.opening t.history.moves p (record { kept = is.is_history.list; stamp = is.is_history.stamp }) is.is_history.moves in
    let move = move_at t.history.limits t.history.opening t.history.moves p (Read read moment) is.is_history.moves stands in
    let fits : now < 2 ^ 64 = omega (arith, move.0.0, move.0.1) in
    let drawn_most : covered.mark ≤ list.stamp + 1 = covered.drawn in
    let stamp_fits : list.stamp < 2 ^ 64 = here.stamp in
    let under : AllByRecursion (λ (pair : Pair). pair.last < covered.mark) read.pairs = named-each (λ (pair : Pair). pair.last < covered.mark) t.origin r covered.stamps read.pairs is.origin covered.told told covered.below in
    let placed : IsPlaced t.origin covered.mark rows start r.trail =
    start-IsPlaced t.origin covered.mark rows r.trail covered.stamps read.pairs start is.origin (omega arith) here.kept.kept.rising covered.told covered.rising under
    (λ none. anew (named-none t.origin read.pairs (named_by r) told none)) start_is in
    let new : List ShownRow = map (shown_row t.origin) page.rows in
    let shows : AllByRecursion (WasShown t places) new =
    each-among (WasShown t places) new (λ row in_page. record { place = p; page = page; among = among; is_at = record { read = read; moment = moment; stands = stands; is_page = page_is }; shown = in_page }) in
    let before : AreBefore now rows = AllByRecursion-weaker (λ (row : Row). row.last ≤ list.stamp) (λ (row : Row). row.last < now) (λ row at_most. omega (arith, at_most)) rows here.kept.up_to in
    let next : list_at t.history (suc p) ≡ record { rows = rows; stamp = now } = move.1 ∙ ap (λ (page : Option Page). after_read list page moment) page_is in
    let count : ℕ = row_count rows read start now in
    let keeps = page-keeps t places read.filter r p count now covered.mark rows start (t.nonce p) here.kept.kept.distinct here.kept.kept.rising before fits (omega arith) covered.all covered.distinct covered.shown shows placed next in (
      keeps.0,
      λ ended. record {
        distinct = keeps.0.distinct;
        all = keeps.1 (leb-true (length (passing_from rows read start)) count ended);
        shown = keeps.0.shown;
        page = page;
        is_at = record { read = read; moment = moment; stands = stands; is_page = page_is };
        ended = ended;
        time = refl;
      },
    )

-- A page that was asked for, read at a place, keeps it, and where it ends the list the listing covers. A page that begins with
-- the oldest row starts the trail anew.
covered-page-anew : (t : Telling) (places : List (Option ℕ)) (r : ReaderParts) (k p : ℕ) (read : ReadRequest) (moment : ℕ) (page : Page) → IsTelling t → IsCovered t places r.query.filter r k → k ≤ p
    → slice_get t.history.moves p ≡ Some (Read read moment) → page_at (list_at t.history p) read moment ≡ Some page
    → read.filter ≡ r.query.filter → ArePairsTold t.origin read.pairs (named_by r) → Contains places (Some p)
    → (named_by r ≡ [] → cut_behind None r.trail ≡ [])
    → IsCovered t places r.query.filter (after_page (told_page (t.nonce p) t.origin page) r) (suc p)
    × (page.ended ≡ true → Covers t places r.query.filter p (after_page (told_page (t.nonce p) t.origin page) r).rows (told_time t.origin page.now))
covered-page-anew t places r k p read moment page is covered before stands page_is filter_is told among anew =
    let list : Listing = list_at t.history p in
    let now : ℕ = drawn moment list.stamp in
    let begun = page-start list.rows read now page page_is in
    let later : IsCovered t places r.query.filter r p = covered-later t places r.query.filter r k p is before covered in
    let Covered : MruFilter → Type 0 = λ wanted. IsCovered t places wanted r p in
    let There : Page → Type 0 = λ page. page_at list read moment ≡ Some page in
    let Step : Page → Type 0 = λ page. IsStepTo t places read.filter r p page in
    let Filtered : MruFilter → Type 0 = λ wanted. IsStepTo t places wanted r p page in
    subst Filtered filter_is
    (subst Step begun.2 (page-IsStepTo t places r p read moment begun.0 is (subst Covered (sym filter_is) later) stands (subst There (sym begun.2) page_is) begun.1 told among anew))

-- the same, since a page that begins with the oldest client begins the trail anew
pub covered-page : (t : Telling) (places : List (Option ℕ)) (r : ReaderParts) (k p : ℕ) (read : ReadRequest) (moment : ℕ) (page : Page) → IsTelling t → IsCovered t places r.query.filter r k → k ≤ p
    → slice_get t.history.moves p ≡ Some (Read read moment) → page_at (list_at t.history p) read moment ≡ Some page
    → read.filter ≡ r.query.filter → ArePairsTold t.origin read.pairs (named_by r) → Contains places (Some p)
    → IsCovered t places r.query.filter (after_page (told_page (t.nonce p) t.origin page) r) (suc p)
    × (page.ended ≡ true → Covers t places r.query.filter p (after_page (told_page (t.nonce p) t.origin page) r).rows (told_time t.origin page.now))
covered-page t places r k p read moment page is covered before stands page_is filter_is told among =
    covered-page-anew t places r k p read moment page is covered before stands page_is filter_is told among (λ _. refl)
