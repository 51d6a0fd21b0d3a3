-- Where a walk over a client list stands: each client has one row.
use Rattle.std.proofs.Common.{◌≡◌, ℕ, suc, ◌+◌, ◌*◌, ◌≤◌, Bool, true, false, List, [], ◌∷◌, length, drop, Option, Some, None, refl, sym, ap, subst, ◌∙◌, arith}
use Rattle.std.specs.Prelude.{◌&&◌, ◌||◌, IsSome}
use Rattle.std.proofs.Math.Nat.{suc-mul}
use Rattle.std.specs.List.{AllByRecursion, filter}
use Rattle.std.proofs.lemmas.Bool.{cond_both, cond-true, cond-false}
use Rattle.mru_items.specs.declared.pair.Pair.{Pair}
use Rattle.mru_items.specs.declared.query.MruFilter.{MruFilter}
use Rattle.net_addr.specs.Addresses.{same_ip}
use Rattle.net_addr.specs.declared.addr.Ip.{Ip}
use Rattle.net_addr.proofs.AddressLemmas.{same_ip-refl, same_ip-sym, same_ip-eq}
use Rattle.recency.specs.declared.row.Row.{Row}
use Rattle.recency.specs.Rows.{IsDistinct, find_row, newer, after, oldest}
use Rattle.mru_read.specs.Pages.{behind, is_row_of, passes, stands_in, up_to_passing}
use Rattle.mru_read.specs.Walks.{IsNext, left_after, rows_behind}

-- the row after that of a client is the first of those behind it
after-behind : (rows : List Row) (ip : Ip) → after rows ip ≡ oldest (rows_behind rows ip)
after-behind [] ip = refl
after-behind (row ∷ rows) ip =
    cond_both (same_ip row.ip ip) rows (rows_behind rows ip) (λ left. after (row ∷ rows) ip ≡ oldest left)
    (λ same. cond-true _ _ _ same)
    (λ apart. cond-false _ _ _ apart ∙ after-behind rows ip)

pub newer-left : (rows : List Row) (place : Option Ip) → newer rows place ≡ oldest (left_after rows place)
newer-left rows None = refl
newer-left rows (Some ip) = after-behind rows ip

-- what holds of each row holds of each behind
all-behind : (P : Row → Type 0) (rows : List Row) (ip : Ip) → AllByRecursion P rows → AllByRecursion P (rows_behind rows ip)
all-behind P [] ip each = tt
all-behind P (row ∷ rows) ip each =
    cond_both (same_ip row.ip ip) rows (rows_behind rows ip) (AllByRecursion P) (λ _. each.1) (λ _. all-behind P rows ip each.1)

-- the same of the first row behind
first-of-left : (P : Row → Type 0) (left rest : List Row) (row : Row) → left ≡ row ∷ rest → AllByRecursion P left → P row
first-of-left P left rest row is each = (subst (AllByRecursion P) is each).0

-- a row that is not the client's stands before
behind-apart : (first : Row) (rows : List Row) (ip : Ip) → same_ip first.ip ip ≡ false → rows_behind (first ∷ rows) ip ≡ rows_behind rows ip
behind-apart first rows ip apart = cond-false _ _ _ apart

find-apart : (first : Row) (rows : List Row) (ip : Ip) → same_ip first.ip ip ≡ false → find_row (first ∷ rows) ip ≡ find_row rows ip
find-apart first rows ip apart = cond-false _ _ _ apart

-- behind the first row are the others
behind-first : (row : Row) (rows : List Row) → rows_behind (row ∷ rows) row.ip ≡ rows
behind-first row rows = cond-true _ _ _ (same_ip-refl row.ip)

find-first : (row : Row) (rows : List Row) → IsSome (find_row (row ∷ rows) row.ip)
find-first row rows = subst IsSome (sym (cond-true (same_ip row.ip row.ip) (Some row) (find_row rows row.ip) (same_ip-refl row.ip))) refl

-- the first row that is left is listed, and behind it are the others
abbrev IsFirstLeft : List Row → Row → List Row → Type 0
IsFirstLeft rows row rest = (rows_behind rows row.ip ≡ rest) × IsSome (find_row rows row.ip)

first-left-whole : (rows : List Row) (row : Row) (rest : List Row) → rows ≡ row ∷ rest → IsFirstLeft rows row rest
first-left-whole rows row rest is =
    subst (λ (them : List Row). IsFirstLeft them row rest) (sym is) (behind-first row rest, find-first row rest)

first-left-under : (first : Row) (rows : List Row) (row : Row) (rest : List Row) → same_ip first.ip row.ip ≡ false → IsFirstLeft rows row rest → IsFirstLeft (first ∷ rows) row rest
first-left-under first rows row rest apart is =
    (behind-apart first rows row.ip apart ∙ is.0, subst IsSome (sym (find-apart first rows row.ip apart)) is.1)

first-left-behind : (rows : List Row) (ip : Ip) (row : Row) (rest : List Row) → IsDistinct rows → rows_behind rows ip ≡ row ∷ rest → IsFirstLeft rows row rest
first-left-behind [] ip row rest distinct = λ is. absurd cc
first-left-behind (first ∷ rows) ip row rest distinct =
    let P : Row → Type 0 = λ later. same_ip later.ip first.ip ≡ false in
    let apart : (left : List Row) → left ≡ row ∷ rest → AllByRecursion P left → same_ip first.ip row.ip ≡ false =
    λ left is each. same_ip-sym row.ip first.ip (first-of-left P left rest row is each) in
    cond_both (same_ip first.ip ip) rows (rows_behind rows ip) (λ left. left ≡ row ∷ rest → IsFirstLeft (first ∷ rows) row rest)
    (λ _ is. first-left-under first rows row rest (apart rows is distinct.0) (first-left-whole rows row rest is))
    (λ _ is. first-left-under first rows row rest (apart (rows_behind rows ip) is (all-behind P rows ip distinct.0)) (first-left-behind rows ip row rest distinct.1 is))

pub first-left : (rows : List Row) (place : Option Ip) (row : Row) (rest : List Row) → IsDistinct rows → left_after rows place ≡ row ∷ rest → IsFirstLeft rows row rest
first-left rows None row rest distinct is = first-left-whole rows row rest is
first-left rows (Some ip) row rest distinct is = first-left-behind rows ip row rest distinct is

-- the first row of those that are left
pub oldest-some : (left : List Row) (row : Row) → oldest left ≡ Some row → left ≡ row ∷ drop 1 left
oldest-some [] row is = absurd cc
oldest-some (first ∷ left) row is = let same : first ≡ row = cc in ap (λ (r : Row). r ∷ left) same

pub oldest-none : (left : List Row) → oldest left ≡ None → left ≡ []
oldest-none [] is = refl
oldest-none (first ∷ left) is = absurd cc

-- the counts of rows up to one that passes, where the first does not pass
up_to-skipped : (wanted : MruFilter) (row : Row) (rest : List Row) (k : ℕ) → passes wanted row ≡ false
    → up_to_passing wanted (suc k) (row ∷ rest) ≡ row ∷ up_to_passing wanted (suc k) rest
up_to-skipped wanted row rest k fails = cond-false _ _ _ fails

up_to-taken : (wanted : MruFilter) (row : Row) (rest : List Row) (k : ℕ) → passes wanted row ≡ true
    → up_to_passing wanted (suc k) (row ∷ rest) ≡ row ∷ up_to_passing wanted k rest
up_to-taken wanted row rest k is = cond-true _ _ _ is

-- so far the walk from a place has gone to another: no row between passes
pub record IsSkipped (wanted : MruFilter) (left now : List Row) : Type 0 where
  pub passing : filter (passes wanted) left ≡ filter (passes wanted) now
  pub gone : (k : ℕ) → length (up_to_passing wanted (suc k) left) + length now ≡ length left + length (up_to_passing wanted (suc k) now)
  pub within : length now ≤ length left

pub skipped-none : (wanted : MruFilter) (left : List Row) → IsSkipped wanted left left
skipped-none wanted left = record { passing = refl; gone = λ k. omega arith; within = omega arith }

pub skipped-to : (wanted : MruFilter) (left now again : List Row) → now ≡ again → IsSkipped wanted left now → IsSkipped wanted left again
skipped-to wanted left now again is = subst (IsSkipped wanted left) is

pub skipped-one : (wanted : MruFilter) (left : List Row) (row : Row) (rest : List Row) → passes wanted row ≡ false → IsSkipped wanted left (row ∷ rest) → IsSkipped wanted left rest
skipped-one wanted left row rest fails is = record {
  passing = is.passing ∙ cond-false (passes wanted row) _ _ fails;
  gone = λ k. omega (arith, is.gone k, ap length (up_to-skipped wanted row rest k fails));
  within = omega (arith, is.within);
}

pub next-taken : (rows : List Row) (wanted : MruFilter) (left : List Row) (row : Row) (rest : List Row) → passes wanted row ≡ true → IsSkipped wanted left (row ∷ rest)
    → rows_behind rows row.ip ≡ rest → IsSome (find_row rows row.ip) → IsNext rows wanted left (Some row)
next-taken rows wanted left row rest is skipped behind listed = record {
  passing = skipped.passing ∙ cond-true (passes wanted row) _ _ is ∙ ap (λ them. row ∷ filter (passes wanted) them) (sym behind);
  listed = λ other same. subst (λ (r : Row). IsSome (find_row rows r.ip)) (some-one row other same) listed;
  gone = λ other k same.
      subst (λ (r : Row). length (up_to_passing wanted (suc k) left) + length (rows_behind rows r.ip) ≡ length left + length (up_to_passing wanted k (rows_behind rows r.ip)))
      (some-one row other same)
      (rw behind (omega (arith, skipped.gone k, ap length (up_to-taken wanted row rest k is))));
}
  where
    some-one : (one other : Row) → Some one ≡ Some other → one ≡ other
    some-one one other same = cc

pub next-none : (rows : List Row) (wanted : MruFilter) (left now : List Row) → now ≡ [] → IsSkipped wanted left now → IsNext rows wanted left None
next-none rows wanted left now none skipped = record {
  passing = skipped.passing ∙ ap (filter (passes wanted)) none;
  listed = λ row same. absurd (none-is row same);
  gone = λ row k same. absurd (none-is row same);
}
  where
    none-is : (row : Row) → None ≡ Some row → ⊥
    none-is row same = cc

-- what one read costs
read-cost : (before old new width n : ℕ) → old + suc n * width ≤ before → new ≤ old + width → new + n * width ≤ before
read-cost before old new width n up_to read = omega (arith, suc-mul n width, up_to, read)

-- a read of the first row that is left
pub one-read : (left rest : List Row) (row : Row) (before old new width : ℕ) → left ≡ row ∷ rest → old + length left * width ≤ before → new ≤ old + width
    → new + length rest * width ≤ before
one-read left rest row before old new width is up_to read =
    read-cost before old new width (length rest) (subst (λ (them : List Row). old + length them * width ≤ before) is up_to) read

-- a read past the end
pub last-read : (left first : List Row) (before old new width : ℕ) → old + length left * width ≤ before + length first * width → new ≤ old + width
    → new ≤ before + (length first + 1) * width
last-read left first before old new width up_to read =
    let one : length first + 1 ≡ suc (length first) = omega arith in
    rw one (omega (arith, suc-mul (length first) width, up_to, read))

-- a row of a pair is of the pair's client
is_row-same : (pair : Pair) (row : Row) → is_row_of pair row ≡ true → same_ip row.ip pair.addr.ip ≡ true
is_row-same pair row is = and-first _ _ (and-first _ _ is)
  where
    and-first : (a b : Bool) → (a && b) ≡ true → a ≡ true
    and-first true b is = refl
    and-first false b is = cc

-- rows of other clients are no pair's
none-stand : (pair : Pair) (row : Row) (rows : List Row) → same_ip row.ip pair.addr.ip ≡ true → AllByRecursion (λ later. same_ip later.ip row.ip ≡ false) rows
    → stands_in rows pair ≡ false
none-stand pair row [] same apart = refl
none-stand pair row (first ∷ rows) same apart =
    let ip : row.ip ≡ pair.addr.ip = same_ip-eq row.ip pair.addr.ip same in
    let other : same_ip first.ip pair.addr.ip ≡ false = subst (λ (it : Ip). same_ip first.ip it ≡ false) ip apart.0 in
    rw other (none-stand pair row rows same apart.1)

-- a pair stands where the row of its client is that of the pair
pub stands-found : (rows : List Row) (pair : Pair) (row : Row) → IsDistinct rows → find_row rows pair.addr.ip ≡ Some row → stands_in rows pair ≡ is_row_of pair row
stands-found [] pair row distinct = λ found. absurd cc
stands-found (first ∷ rows) pair row distinct =
    cond_both (same_ip first.ip pair.addr.ip) (Some first) (find_row rows pair.addr.ip) (λ found. found ≡ Some row → stands_in (first ∷ rows) pair ≡ is_row_of pair row)
    (λ same here.
    let one : first ≡ row = cc in
    subst (λ (it : Row). stands_in (first ∷ rows) pair ≡ is_row_of pair it) one (or-none (is_row_of pair first) _ (none-stand pair first rows same distinct.0)))
    (λ apart later. first-none apart ∙ stands-found rows pair row distinct.1 later)
  where
    or-none : (a b : Bool) → b ≡ false → (a || b) ≡ a
    or-none true b none = refl
    or-none false b none = none

    first-none : same_ip first.ip pair.addr.ip ≡ false → stands_in (first ∷ rows) pair ≡ stands_in rows pair
    first-none apart = rw apart refl

-- and it stands nowhere where the client has no row
pub stands-none : (rows : List Row) (pair : Pair) → find_row rows pair.addr.ip ≡ None → stands_in rows pair ≡ false
stands-none [] pair = λ none. refl
stands-none (first ∷ rows) pair =
    cond_both (same_ip first.ip pair.addr.ip) (Some first) (find_row rows pair.addr.ip) (λ found. found ≡ None → stands_in (first ∷ rows) pair ≡ false)
    (λ same here. absurd cc)
    (λ apart later. rw apart (stands-none rows pair later))

-- the client of a pair that stands is listed
pub stands-listed : (rows : List Row) (pair : Pair) → stands_in rows pair ≡ true → IsSome (find_row rows pair.addr.ip)
stands-listed [] pair = λ is. absurd cc
stands-listed (first ∷ rows) pair =
    cond_both (same_ip first.ip pair.addr.ip) (Some first) (find_row rows pair.addr.ip) (λ found. stands_in (first ∷ rows) pair ≡ true → IsSome found)
    (λ same is. refl)
    (λ apart is. stands-listed rows pair (rw apart at is))

-- behind a pair that stands are the rows behind that of its client
pub behind-pair : (rows : List Row) (pair : Pair) → IsDistinct rows → stands_in rows pair ≡ true → behind pair rows ≡ rows_behind rows pair.addr.ip
behind-pair [] pair distinct is = refl
behind-pair (first ∷ rows) pair distinct is =
    cond_both (same_ip first.ip pair.addr.ip) rows (rows_behind rows pair.addr.ip) (λ left. behind pair (first ∷ rows) ≡ left)
    (λ same. cond-true _ _ _ (or-first (is_row_of pair first) _ (none-stand pair first rows same distinct.0) is))
    (λ apart. cond-false (is_row_of pair first) _ _ (and-apart _ _ (and-apart _ _ apart)) ∙ behind-pair rows pair distinct.1 (rw apart at is))
  where
    or-first : (a b : Bool) → b ≡ false → (a || b) ≡ true → a ≡ true
    or-first true b none is = refl
    or-first false b none is = cc

    and-apart : (a b : Bool) → a ≡ false → (a && b) ≡ false
    and-apart true b fails = absurd cc
    and-apart false b fails = refl
