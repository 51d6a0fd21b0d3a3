-- Where a page begins, in a list whose rows before a mark are covered.
use Rattle.std.proofs.Common.{◌≡◌, ℕ, suc, ◌^◌, ◌<◌, ◌≤◌, Bool, true, false, cond, find, option_map, Option, Some, None, List, [], ◌∷◌, ◌++◌, take, reverse, refl, sym, subst, arith}
use Rattle.std.specs.List.{AllByRecursion}
use Rattle.mru_items.specs.declared.pair.Pair.{Pair}
use Rattle.mru_items.specs.declared.query.ReadRequest.{ReadRequest}
use Rattle.mru_items.specs.Queries.{ArePairsTold}
use Rattle.mru_read.specs.declared.pages.Page.{Page}
use Rattle.mru_read.specs.Pages.{Start, Beginning, Behind, confirmed_by, page_from, page_of, rows_from, stands_in, start_of, told_pair}
use Rattle.mrulist_coverage.proofs.Invariant.{AreRisingPairs}
use Rattle.mrulist_coverage.proofs.Marks.{behind-later, up_to_pair, up_to_pair-behind, up_to_pair-most}
use Rattle.mrulist_coverage.proofs.Sublists.{AllByRecursion-reverse, AllByRecursion-sublist, take-IsSublist}
use Rattle.mrulist_coverage.proofs.Trails.{ArePairsTold-reverse, ArePairsTold-same, ArePairsTold-take, AreRisingPairs-sublist, up_to_last-IsCut}
use Rattle.mrulist_reader.specs.Readers.{ReaderParts, cut_behind, named_by}
use Rattle.mru_items.specs.Queries.{named_count}
use Rattle.recency.specs.declared.row.Row.{Row}
use Rattle.recency.specs.Rows.{AreBefore, IsRising}
use Rattle.recency.proofs.ListLemmas.{AllByRecursion-weaker}

-- A page begins so that the rows before it arrived before a mark, and the trail that it leaves tells rising pairs before a
-- bound, which no row of the page is before.
pub record IsPlaced (origin mark : ℕ) (rows : List Row) (start : Start) (trail : List Pair) : Type 0 where
  pub front : List Row
  pub parts : front ++ rows_from rows start ≡ rows
  pub before : AreBefore mark front
  pub bound : ℕ
  pub low : bound ≤ mark
  pub from : AllByRecursion (λ row. bound ≤ row.last) (rows_from rows start)
  pub kept : List Pair
  pub told : ArePairsTold origin kept (cut_behind (option_map (told_pair origin) (confirmed_by start)) trail)
  pub rising : AreRisingPairs kept
  pub below : AllByRecursion (λ pair. pair.last < bound) kept

-- a page that begins with the oldest row
beginning-IsPlaced : (origin mark : ℕ) (rows : List Row) (trail : List Pair) → cut_behind None trail ≡ [] → IsPlaced origin mark rows Beginning trail
beginning-IsPlaced origin mark rows trail none =
    let P : List Pair → Type 0 = λ left. ArePairsTold origin [] left in
    record { front = []; parts = refl; before = tt; bound = 0; low = omega arith; from = any rows; kept = []; told = subst P (sym none) tt; rising = tt; below = tt }
  where
    any : (rows : List Row) → AllByRecursion (λ (row : Row). 0 ≤ row.last) rows
    any [] = tt
    any (row ∷ rows) = (omega arith, any rows)

-- a page behind a pair that stands and is before the mark
behind-IsPlaced : (origin mark : ℕ) (rows : List Row) (trail stamps : List Pair) (pair : Pair) → origin < 2 ^ 64 → mark ≤ 2 ^ 64 → IsRising rows → ArePairsTold origin stamps trail → AreRisingPairs stamps
    → stands_in rows pair ≡ true → pair.last < mark → IsPlaced origin mark rows (Behind pair) trail
behind-IsPlaced origin mark rows trail stamps pair within fits rising told rise stands under =
    let cut = up_to_last-IsCut origin pair stamps trail within (omega arith) told rise in
    record {
      front = up_to_pair pair rows;
      parts = up_to_pair-behind pair rows;
      before = AllByRecursion-weaker (λ (row : Row). row.last ≤ pair.last) (λ (row : Row). row.last < mark) (λ row at_most. omega (arith, at_most)) (up_to_pair pair rows) (up_to_pair-most pair rows rising stands);
      bound = suc pair.last;
      low = omega arith;
      from = AllByRecursion-weaker (λ (row : Row). pair.last < row.last) (λ (row : Row). suc pair.last ≤ row.last) (λ row later. omega (arith, later)) (rows_from rows (Behind pair)) (behind-later pair rows rising);
      kept = cut.kept;
      told = cut.told;
      rising = AreRisingPairs-sublist cut.kept stamps cut.stand rise;
      below = AllByRecursion-weaker (λ (one : Pair). one.last ≤ pair.last) (λ (one : Pair). one.last < suc pair.last) (λ one at_most. omega (arith, at_most)) cut.kept cut.at_most;
    }

-- what is found passes the test, and what holds of each holds of it
pub found-holds : {X : Type 0} (P : X → Type 0) (test : X → Bool) (xs : List X) (x : X) → find test xs ≡ Some x → AllByRecursion P xs → (test x ≡ true) × P x
found-holds P test [] x found each = absurd (none_some found)
  where
    none_some : None ≡ Some x → ⊥
    none_some same = cc
found-holds {X} P test (first ∷ xs) x found each = by (test first) refl found (λ later. found-holds P test xs x later each.1)
  where
    some_some : (one other : X) → Some one ≡ Some other → one ≡ other
    some_some one other same = cc

    by : (b : Bool) → test first ≡ b → cond b (Some first) (find test xs) ≡ Some x → (find test xs ≡ Some x → (test x ≡ true) × P x) → (test x ≡ true) × P x
    by true is here later =
        let Q : X → Type 0 = λ y. (test y ≡ true) × P y in
        subst Q (some_some first x here) (is, each.0)
    by false is here later = later here

-- a start behind a found pair
pub found-start : (found : Option Pair) (start : Start) → option_map Behind found ≡ Some start → (pair : Pair) × (found ≡ Some pair) × (Behind pair ≡ start)
found-start None start is = absurd (none_some is)
  where
    none_some : None ≡ Some start → ⊥
    none_some same = cc
found-start (Some pair) start is = (pair, refl, some_some (Behind pair) start is)
  where
    some_some : (one other : Start) → Some one ≡ Some other → one ≡ other
    some_some one other same = cc

-- a page that names pairs before the mark
pub start-IsPlaced : (origin mark : ℕ) (rows : List Row) (trail stamps pairs : List Pair) (start : Start) → origin < 2 ^ 64 → mark ≤ 2 ^ 64 → IsRising rows → ArePairsTold origin stamps trail → AreRisingPairs stamps
    → AllByRecursion (λ pair. pair.last < mark) pairs → (pairs ≡ [] → cut_behind None trail ≡ []) → start_of rows pairs ≡ Some start → IsPlaced origin mark rows start trail
start-IsPlaced origin mark rows trail stamps [] start within fits rising told rise under anew is =
    let P : Start → Type 0 = λ start. IsPlaced origin mark rows start trail in
    subst P (some_some Beginning start is) (beginning-IsPlaced origin mark rows trail (anew refl))
  where
    some_some : (one other : Start) → Some one ≡ Some other → one ≡ other
    some_some one other same = cc
start-IsPlaced origin mark rows trail stamps (first ∷ pairs) start within fits rising told rise under anew is =
    let behind = found-start (find (stands_in rows) (first ∷ pairs)) start is in
    let both = found-holds (λ (pair : Pair). pair.last < mark) (stands_in rows) (first ∷ pairs) behind.0 behind.1 under in
    let P : Start → Type 0 = λ start. IsPlaced origin mark rows start trail in
    subst P behind.2 (behind-IsPlaced origin mark rows trail stamps behind.0 within fits rising told rise both.0 both.1)

-- a page has a start
pub page-start : (rows : List Row) (read : ReadRequest) (now : ℕ) (page : Page) → page_of rows read now ≡ Some page → (start : Start) × (start_of rows read.pairs ≡ Some start) × (page_from rows read now start ≡ page)
unfolding page_of
page-start rows read now page is = by (start_of rows read.pairs) is
  where
    some_some : (one other : Page) → Some one ≡ Some other → one ≡ other
    some_some one other same = cc

    none_some : None ≡ Some page → ⊥
    none_some same = cc

    by : (found : Option Start) → option_map (page_from rows read now) found ≡ Some page → (start : Start) × (found ≡ Some start) × (page_from rows read now start ≡ page)
    by None is = absurd (none_some is)
    by (Some start) is = (start, refl, some_some (page_from rows read now start) page is)

-- pairs that a reader names are told of the last stamps, so what holds of all stamps holds of them
pub named-each : (P : Pair → Type 0) (origin : ℕ) (r : ReaderParts) (stamps pairs : List Pair) → origin < 2 ^ 64 → ArePairsTold origin stamps r.trail → ArePairsTold origin pairs (named_by r) → AllByRecursion P stamps → AllByRecursion P pairs
named-each P origin r stamps pairs within told named each =
    let count : ℕ = named_count r.query (reverse r.trail) in
    let same : take count (reverse stamps) ≡ pairs =
    ArePairsTold-same origin (take count (reverse stamps)) pairs (named_by r) within (ArePairsTold-take origin count (reverse stamps) (reverse r.trail) (ArePairsTold-reverse origin stamps r.trail told)) named in
    let Q : List Pair → Type 0 = λ these. AllByRecursion P these in
    subst Q same (AllByRecursion-sublist P (take count (reverse stamps)) (reverse stamps) (take-IsSublist count (reverse stamps)) (AllByRecursion-reverse P stamps each))

-- where a read names none, neither did the reader
pub named-none : (origin : ℕ) (pairs told : List Pair) → ArePairsTold origin pairs told → pairs ≡ [] → told ≡ []
named-none origin pairs told are none =
    let P : List Pair → Type 0 = λ these. ArePairsTold origin these told in
    by told (subst P none are)
  where
    by : (told : List Pair) → ArePairsTold origin [] told → told ≡ []
    by [] are = refl
    by (one ∷ told) are = absurd are
