-- A listing over a list that stands still: its trail is that of the first clients that pass, and each page goes on behind them.
use Rattle.std.proofs.Common.{◌≡◌, ◌⊎◌, inl, inr, ℕ, zero, suc, ◌^◌, ◌<◌, ◌==◌, Bool, true, false, cond, find, option_map, Some, List, [], ◌∷◌, ◌++◌, length, map, take, reverse, refl, sym, ap, subst, ◌∙◌, arith, append_assoc}
use Rattle.std.proofs.lemmas.Bool.{and_from, and_right, cond-false, cond-true, eq-eqb, or_left, or_right}
use Rattle.std.proofs.lemmas.List.{map-append, reverse-append}
use Rattle.std.specs.List.{AllByRecursion, filter, list_any}
use Rattle.mru_items.specs.declared.pair.Pair.{Pair}
use Rattle.mru_items.specs.declared.query.MruFilter.{MruFilter}
use Rattle.mru_items.specs.declared.query.Query.{Query}
use Rattle.mru_items.specs.Queries.{ArePairsTold, named_count, named_of}
use Rattle.mru_read.specs.Pages.{Start, Beginning, Behind, behind, confirmed_by, is_row_of, passes, rows_from, shown_row, stands_in, start_of, told_pair}
use Rattle.mrulist_coverage.proofs.Trails.{ArePairsTold-same, row_pair}
use Rattle.mrulist_reader.specs.Readers.{confirms, cut_behind, pair_of, same_pair, up_to_last}
use Rattle.net_addr.proofs.AddressLemmas.{same_ip-refl}
use Rattle.recency.specs.declared.row.Row.{Row}
use Rattle.recency.specs.Rows.{IsRising}
use Rattle.recency.proofs.ListLemmas.{AllByRecursion-filter}

-- rows have none, or a last one
pub last_view : {X : Type 0} (xs : List X) → (xs ≡ []) ⊎ ((front : List X) × (x : X) × (xs ≡ front ++ x ∷ []))
last_view [] = inl refl
last_view {X} (x ∷ xs) = inr (by (last_view xs))
  where
    by : (xs ≡ []) ⊎ ((front : List X) × (y : X) × (xs ≡ front ++ y ∷ [])) → (front : List X) × (y : X) × (x ∷ xs ≡ front ++ y ∷ [])
    by (inl none) = ([], x, ap (λ (ys : List X). x ∷ ys) none)
    by (inr (front, y, is)) = (x ∷ front, y, ap (λ (ys : List X). x ∷ ys) is)

-- a row is that of its pair
is_row_of-own : (row : Row) → is_row_of (row_pair row) row ≡ true
is_row_of-own row = and_from _ _ (and_from _ _ (same_ip-refl row.ip) (eq-eqb _ _ refl)) (eq-eqb _ _ refl)

lt-eqb : (m n : ℕ) → m < n → (m == n) ≡ false
lt-eqb m n less = by (m == n) refl
  where
    by : (b : Bool) → (m == n) ≡ b → b ≡ false
    by true is = absurd (omega (arith, less, Rattle.std.proofs.lemmas.Bool.eqb-true m n is))
    by false is = refl

-- an older one is not
is_row_of-older : (later row : Row) → row.last < later.last → is_row_of (row_pair later) row ≡ false
is_row_of-older later row before = and_right _ _ (lt-eqb row.last later.last before)

-- one among them
among-each : {X : Type 0} (P : X → Type 0) (front : List X) (x : X) (rest : List X) → AllByRecursion P (front ++ x ∷ rest) → P x
among-each P [] x rest all = all.0
among-each P (y ∷ front) x rest all = among-each P front x rest all.1

-- behind a client that passes are the others that pass, and it stands
pub behind-rest : (test : Row → Bool) (rows front rest : List Row) (x : Row) → IsRising rows → filter test rows ≡ front ++ x ∷ rest
    → (stands_in rows (row_pair x) ≡ true) × (filter test (behind (row_pair x) rows) ≡ rest)
behind-rest test [] [] rest x rising is = absurd (cc is)
behind-rest test [] (y ∷ front) rest x rising is = absurd (cc is)
behind-rest test (row ∷ rows) front rest x rising is = by (test row) is
    (λ those same. later those same (behind-rest test rows those rest x rising.1 same))
  where
    later : (front : List Row) → filter test rows ≡ front ++ x ∷ rest → (stands_in rows (row_pair x) ≡ true) × (filter test (behind (row_pair x) rows) ≡ rest)
        → (stands_in (row ∷ rows) (row_pair x) ≡ true) × (filter test (behind (row_pair x) (row ∷ rows)) ≡ rest)
    later front same both =
        let P : List Row → Type 0 = λ those. AllByRecursion (λ (later : Row). row.last < later.last) those in
        let before : row.last < x.last = among-each (λ (later : Row). row.last < later.last) front x rest (subst P same (AllByRecursion-filter (λ (later : Row). row.last < later.last) test rows rising.0)) in (
          or_right (is_row_of (row_pair x) row) (stands_in rows (row_pair x)) both.0,
          ap (filter test) (cond-false (is_row_of (row_pair x) row) rows (behind (row_pair x) rows) (is_row_of-older x row before)) ∙ both.1,
        )

    here : (front : List Row) → row ∷ filter test rows ≡ front ++ x ∷ rest
        → ((those : List Row) → filter test rows ≡ those ++ x ∷ rest → (stands_in (row ∷ rows) (row_pair x) ≡ true) × (filter test (behind (row_pair x) (row ∷ rows)) ≡ rest))
        → (stands_in (row ∷ rows) (row_pair x) ≡ true) × (filter test (behind (row_pair x) (row ∷ rows)) ≡ rest)
    here [] same on =
        let first : row ≡ x = cc same in
        let others : filter test rows ≡ rest = cc same in
        let own : is_row_of (row_pair x) row ≡ true = subst (λ (one : Row). is_row_of (row_pair one) row ≡ true) first (is_row_of-own row) in (
          or_left (is_row_of (row_pair x) row) (stands_in rows (row_pair x)) own,
          ap (filter test) (cond-true (is_row_of (row_pair x) row) rows (behind (row_pair x) rows) own) ∙ others,
        )
    here (y ∷ front) same on = on front (cc same)

    by : (b : Bool) → cond b (row ∷ filter test rows) (filter test rows) ≡ front ++ x ∷ rest
        → ((those : List Row) → filter test rows ≡ those ++ x ∷ rest → (stands_in (row ∷ rows) (row_pair x) ≡ true) × (filter test (behind (row_pair x) (row ∷ rows)) ≡ rest))
        → (stands_in (row ∷ rows) (row_pair x) ≡ true) × (filter test (behind (row_pair x) (row ∷ rows)) ≡ rest)
    by true same on = here front same on
    by false same on = on front same

any-last : {X : Type 0} (test : X → Bool) (xs : List X) (x : X) → test x ≡ true → list_any test (xs ++ x ∷ []) ≡ true
any-last test [] x is = or_left (test x) false is
any-last test (y ∷ xs) x is = or_right (test y) (list_any test (xs ++ x ∷ [])) (any-last test xs x is)

-- pairs up to their last one are all
pub up_to_last-all : (pair one : Pair) (pairs : List Pair) → same_pair pair one ≡ true → up_to_last pair (pairs ++ one ∷ []) ≡ pairs ++ one ∷ []
up_to_last-all pair one [] same = cond-true (same_pair pair one) (one ∷ []) [] same
up_to_last-all pair one (first ∷ pairs) same =
    let rest : List Pair = pairs ++ one ∷ [] in
    cond-true (list_any (same_pair pair) rest) (first ∷ up_to_last pair rest) (cond (same_pair pair first) (first ∷ []) []) (any-last (same_pair pair) pairs one same)
    ∙ ap (λ (those : List Pair). first ∷ those) (up_to_last-all pair one pairs same)

-- the pairs of rows as they are told
abbrev pub told_rows_pairs : ℕ → List Row → List Pair
told_rows_pairs origin rows = map pair_of (map (shown_row origin) rows)

pub told_rows_pairs-append : (origin : ℕ) (rows more : List Row) → told_rows_pairs origin (rows ++ more) ≡ told_rows_pairs origin rows ++ told_rows_pairs origin more
told_rows_pairs-append origin rows more =
    ap (map pair_of) (map-append (shown_row origin) rows more) ∙ map-append pair_of (map (shown_row origin) rows) (map (shown_row origin) more)

same_pair-refl : (pair : Pair) → same_pair pair pair ≡ true
same_pair-refl pair = and_from _ _ (and_from _ _ (same_ip-refl pair.addr.ip) (eq-eqb _ _ refl)) (eq-eqb _ _ refl)

-- where a page begins over a list that stands still, after the first clients that pass
pub record IsStillStart (origin : ℕ) (wanted : MruFilter) (rows rest : List Row) (trail named pairs : List Pair) : Type 0 where
  pub start : Start
  pub start_is : start_of rows pairs ≡ Some start
  pub rest_is : filter (passes wanted) (rows_from rows start) ≡ rest
  pub cut : cut_behind (option_map (told_pair origin) (confirmed_by start)) trail ≡ trail
  pub asked : confirms named (option_map (told_pair origin) (confirmed_by start)) ≡ true

-- behind the newest client of the trail
behind-start : (origin : ℕ) (wanted : MruFilter) (rows rest front : List Row) (x : Row) (named pairs : List Pair) → origin < 2 ^ 64 → IsRising rows → x.last < 2 ^ 64
    → filter (passes wanted) rows ≡ front ++ x ∷ rest → ArePairsTold origin pairs (told_pair origin (row_pair x) ∷ named)
    → IsStillStart origin wanted rows rest (told_rows_pairs origin front ++ told_pair origin (row_pair x) ∷ []) (told_pair origin (row_pair x) ∷ named) pairs
behind-start origin wanted rows rest front x named [] within rising fits parts told = absurd told
behind-start origin wanted rows rest front x named (pair ∷ pairs) within rising fits parts told =
    let both = behind-rest (passes wanted) rows front rest x rising parts in
    let lists : row_pair x ∷ [] ≡ pair ∷ [] = ArePairsTold-same origin (row_pair x ∷ []) (pair ∷ []) (told_pair origin (row_pair x) ∷ []) within (refl, refl, fits, tt) (told.0, told.1, told.2, tt) in
    let same : row_pair x ≡ pair = cc lists in
    let stands : stands_in rows pair ≡ true = subst (λ (one : Pair). stands_in rows one ≡ true) same both.0 in
    record {
      start = Behind (row_pair x);
      start_is = ap (option_map Behind) (cond-true (stands_in rows pair) (Some pair) (find (stands_in rows) pairs) stands) ∙ ap (λ (one : Pair). Some (Behind one)) (sym same);
      rest_is = both.1;
      cut = up_to_last-all (told_pair origin (row_pair x)) (told_pair origin (row_pair x)) (told_rows_pairs origin front) (same_pair-refl (told_pair origin (row_pair x)));
      asked = or_left (same_pair (told_pair origin (row_pair x)) (told_pair origin (row_pair x))) (list_any (same_pair (told_pair origin (row_pair x))) named) (same_pair-refl (told_pair origin (row_pair x)));
    }

-- at the beginning
first-start : (origin : ℕ) (wanted : MruFilter) (rows rest : List Row) (pairs : List Pair) → filter (passes wanted) rows ≡ rest → ArePairsTold origin pairs []
    → IsStillStart origin wanted rows rest [] [] pairs
first-start origin wanted rows rest [] parts told = record { start = Beginning; start_is = refl; rest_is = parts; cut = refl; asked = refl }
first-start origin wanted rows rest (pair ∷ pairs) parts told = absurd told

take-some : {X : Type 0} (n : ℕ) (x : X) (xs : List X) → 0 < n → (more : List X) × (take n (x ∷ xs) ≡ x ∷ more)
take-some zero x xs some = absurd (omega (arith, some))
take-some (suc n) x xs some = (take n xs, refl)

take-none : {X : Type 0} (n : ℕ) (xs : List X) → xs ≡ [] → take n xs ≡ []
take-none zero xs none = refl
take-none (suc n) xs none = ap (take (suc n)) none

-- of a listing that has told the first clients that pass
pub still-start : (origin : ℕ) (wanted : MruFilter) (rows front rest : List Row) (query : Query) (trail pairs : List Pair) → origin < 2 ^ 64 → IsRising rows → AllByRecursion (λ row. row.last < 2 ^ 64) front
    → filter (passes wanted) rows ≡ front ++ rest → trail ≡ told_rows_pairs origin front → (0 < length trail → 0 < named_count query (reverse trail))
    → ArePairsTold origin pairs (named_of query (reverse trail)) → IsStillStart origin wanted rows rest trail (named_of query (reverse trail)) pairs
still-start origin wanted rows front rest query trail pairs within rising fits parts trail_is some told = by (last_view front)
  where
    by : (front ≡ []) ⊎ ((older : List Row) × (x : Row) × (front ≡ older ++ x ∷ [])) → IsStillStart origin wanted rows rest trail (named_of query (reverse trail)) pairs
    by (inl none) =
        let empty : trail ≡ [] = trail_is ∙ ap (told_rows_pairs origin) none in
        let named : named_of query (reverse trail) ≡ [] = ap (λ (those : List Pair). named_of query (reverse those)) empty ∙ take-none (named_count query []) [] refl in
        let parts_none : filter (passes wanted) rows ≡ rest = parts ∙ ap (λ (those : List Row). those ++ rest) none in
        let P : List Pair → List Pair → Type 0 = λ those named. IsStillStart origin wanted rows rest those named pairs in
        subst (λ (those : List Pair). P those (named_of query (reverse trail))) (sym empty)
        (subst (λ (those : List Pair). P [] those) (sym named) (first-start origin wanted rows rest pairs parts_none (subst (λ (those : List Pair). ArePairsTold origin pairs those) named told)))
    by (inr (older, x, is)) =
        let newest : Pair = told_pair origin (row_pair x) in
        let all : trail ≡ told_rows_pairs origin older ++ newest ∷ [] = trail_is ∙ ap (told_rows_pairs origin) is ∙ told_rows_pairs-append origin older (x ∷ []) in
        let back : reverse trail ≡ newest ∷ reverse (told_rows_pairs origin older) = ap reverse all ∙ reverse-append (told_rows_pairs origin older) (newest ∷ []) in
        let long : 0 < length trail = subst (λ (those : List Pair). 0 < length those) (sym all) (long-last (told_rows_pairs origin older) newest) in
        let count : ℕ = named_count query (reverse trail) in
        let first = take-some count newest (reverse (told_rows_pairs origin older)) (some long) in
        let named : named_of query (reverse trail) ≡ newest ∷ first.0 = ap (take count) back ∙ first.1 in
        let parts_last : filter (passes wanted) rows ≡ older ++ x ∷ rest = parts ∙ ap (λ (those : List Row). those ++ rest) is ∙ append_assoc older (x ∷ []) rest in
        let its_last : x.last < 2 ^ 64 = among-each (λ (row : Row). row.last < 2 ^ 64) older x [] (subst (λ (those : List Row). AllByRecursion (λ (row : Row). row.last < 2 ^ 64) those) is fits) in
        let P : List Pair → List Pair → Type 0 = λ those named. IsStillStart origin wanted rows rest those named pairs in
        subst (λ (those : List Pair). P those (named_of query (reverse trail))) (sym all)
        (subst (λ (those : List Pair). P (told_rows_pairs origin older ++ newest ∷ []) those) (sym named)
        (behind-start origin wanted rows rest older x first.0 pairs within rising its_last parts_last (subst (λ (those : List Pair). ArePairsTold origin pairs those) named told)))
      where
        long-last : (pairs : List Pair) (pair : Pair) → 0 < length (pairs ++ pair ∷ [])
        long-last [] pair = omega arith
        long-last (one ∷ pairs) pair = omega arith
