-- What rows keep where one is added, some are taken out, or one is told.
use Rattle.std.proofs.Common.{◌≡◌, ℕ, ◌+◌, ◌<◌, ◌≤◌, Bool, true, false, cond, not, List, [], ◌∷◌, ◌++◌, length, Option, Some, None, refl, ap, subst, arith}
use Rattle.std.specs.List.{AllByRecursion, filter}
use Rattle.std.proofs.lemmas.List.{length-map}
use Rattle.std.proofs.lemmas.Bool.{cond_both}
use Rattle.net_addr.specs.Addresses.{same_ip}
use Rattle.net_addr.specs.declared.addr.Ip.{Ip}
use Rattle.recency.specs.declared.limits.Limits.{Limits}
use Rattle.recency.specs.declared.row.Row.{Row}
use Rattle.recency.specs.Rows.{AreBefore, AreRows, AreUpTo, IsClientList, IsDistinct, IsRising, IsRow, find_row, others, told_row, told_rows}
use Rattle.net_addr.proofs.AddressLemmas.{same_ip-sym}
use Rattle.recency.proofs.ListLemmas.{AllByRecursion-append, AllByRecursion-filter, AllByRecursion-map, length-filter-le}

-- no row is of a client
abbrev pub IsNoneOf : Ip → List Row → Type 0
IsNoneOf ip rows = AllByRecursion (λ row. same_ip row.ip ip ≡ false) rows

-- rows stay distinct with one more of another client
pub IsDistinct-push : (rows : List Row) (new : Row) → IsDistinct rows → IsNoneOf new.ip rows → IsDistinct (rows ++ new ∷ [])
IsDistinct-push [] new distinct none = (tt, tt)
IsDistinct-push (row ∷ rows) new distinct none =
    (AllByRecursion-append (λ (later : Row). same_ip later.ip row.ip ≡ false) rows (new ∷ []) distinct.0 (same_ip-sym row.ip new.ip none.0, tt), IsDistinct-push rows new distinct.1 none.1)

-- rows stay in order with one more that arrived after them
pub IsRising-push : (rows : List Row) (new : Row) → IsRising rows → AreBefore new.last rows → IsRising (rows ++ new ∷ [])
IsRising-push [] new rising before = (tt, tt)
IsRising-push (row ∷ rows) new rising before =
    (AllByRecursion-append (λ (later : Row). row.last < later.last) rows (new ∷ []) rising.0 (before.0, tt), IsRising-push rows new rising.1 before.1)

-- rows stay distinct where a filter takes some out
pub IsDistinct-filter : (test : Row → Bool) (rows : List Row) → IsDistinct rows → IsDistinct (filter test rows)
IsDistinct-filter test [] distinct = tt
IsDistinct-filter test (row ∷ rows) distinct =
    elim (test row) as (λ b. IsDistinct (cond b (row ∷ filter test rows) (filter test rows))) [
      | true ↦ (AllByRecursion-filter (λ (later : Row). same_ip later.ip row.ip ≡ false) test rows distinct.0, IsDistinct-filter test rows distinct.1)
      | false ↦ IsDistinct-filter test rows distinct.1
    ]

-- rows stay in order where a filter takes some out
pub IsRising-filter : (test : Row → Bool) (rows : List Row) → IsRising rows → IsRising (filter test rows)
IsRising-filter test [] rising = tt
IsRising-filter test (row ∷ rows) rising =
    elim (test row) as (λ b. IsRising (cond b (row ∷ filter test rows) (filter test rows))) [
      | true ↦ (AllByRecursion-filter (λ (later : Row). row.last < later.last) test rows rising.0, IsRising-filter test rows rising.1)
      | false ↦ IsRising-filter test rows rising.1
    ]

-- a client without a row has none
pub find_row-none : (rows : List Row) (ip : Ip) → find_row rows ip ≡ None → IsNoneOf ip rows
find_row-none [] ip absent = tt
find_row-none (row ∷ rows) ip absent =
    let P : Option Row → Type 0 = λ found. found ≡ None → (same_ip row.ip ip ≡ false) × IsNoneOf ip rows in
    cond_both (same_ip row.ip ip) (Some row) (find_row rows ip) P (λ same found. absurd (some_none row found)) (λ apart found. (apart, find_row-none rows ip found)) absent
  where
    some_none : (row : Row) → Some row ≡ None → ⊥
    some_none row same = cc

-- a client's row is of the client, and what holds of each row holds of it
pub find_row-some : (P : Row → Type 0) (rows : List Row) (ip : Ip) (found : Row) → find_row rows ip ≡ Some found → AllByRecursion P rows → (same_ip found.ip ip ≡ true) × P found
find_row-some P [] ip found is each = absurd (none_some found is)
  where
    none_some : (row : Row) → None ≡ Some row → ⊥
    none_some row same = cc
find_row-some P (row ∷ rows) ip found is each =
    let Q : Option Row → Type 0 = λ answer. answer ≡ Some found → (same_ip found.ip ip ≡ true) × P found in
    cond_both (same_ip row.ip ip) (Some row) (find_row rows ip) Q (λ same here. taken row found (some_some row found here) same each.0) (λ apart later. find_row-some P rows ip found later each.1) is
  where
    some_some : (one other : Row) → Some one ≡ Some other → one ≡ other
    some_some one other same = cc

    taken : (one other : Row) → one ≡ other → same_ip one.ip ip ≡ true → P one → (same_ip other.ip ip ≡ true) × P other
    taken one other same is_ip holds =
        let R : Row → Type 0 = λ row. (same_ip row.ip ip ≡ true) × P row in
        subst R same (is_ip, holds)

-- the rows of others have none of the client
pub others-none : (rows : List Row) (ip : Ip) → IsNoneOf ip (others rows ip)
others-none [] ip = tt
others-none (row ∷ rows) ip =
    let P : List Row → Type 0 = λ kept. IsNoneOf ip kept in
    let kept : List Row = others rows ip in
    cond_both (not (same_ip row.ip ip)) (row ∷ kept) kept P (λ apart. (not_true _ apart, others-none rows ip)) (λ same. others-none rows ip)
  where
    not_true : (b : Bool) → not b ≡ true → b ≡ false
    not_true true test = cc
    not_true false test = refl

-- where no row is of the client, the others are all
pub others-all : (rows : List Row) (ip : Ip) → IsNoneOf ip rows → others rows ip ≡ rows
others-all [] ip none = refl
others-all (row ∷ rows) ip none = rw none.0 (ap (λ kept. row ∷ kept) (others-all rows ip none.1))

-- of a client with a row, there are fewer others
pub length-others : (rows : List Row) (ip : Ip) (found : Row) → find_row rows ip ≡ Some found → length (others rows ip) + 1 ≤ length rows
length-others [] ip found is = absurd (none_some found is)
  where
    none_some : (row : Row) → None ≡ Some row → ⊥
    none_some row same = cc
length-others (row ∷ rows) ip found is =
    let at_most = length-filter-le (λ (row : Row). not (same_ip row.ip ip)) rows in
    let P : Bool → Type 0 = λ b. cond b (Some row) (find_row rows ip) ≡ Some found → length (cond (not b) (row ∷ others rows ip) (others rows ip)) + 1 ≤ length (row ∷ rows) in
    elim (same_ip row.ip ip) as P [ true ↦ λ here. omega arith | false ↦ λ later. let rest = length-others rows ip found later in omega arith ] is

-- told rows are those of the same clients, with the same arrivals
pub told_row-ip : (ip : Ip) (stamp : ℕ) (row : Row) → (told_row ip stamp row).ip ≡ row.ip
told_row-ip ip stamp row = elim (same_ip row.ip ip) as (λ b. (cond b (record row { told = Some stamp }) row).ip ≡ row.ip) [ true ↦ refl | false ↦ refl ]

pub told_row-last : (ip : Ip) (stamp : ℕ) (row : Row) → (told_row ip stamp row).last ≡ row.last
told_row-last ip stamp row = elim (same_ip row.ip ip) as (λ b. (cond b (record row { told = Some stamp }) row).last ≡ row.last) [ true ↦ refl | false ↦ refl ]

pub IsRow-told : (ip : Ip) (stamp : ℕ) (row : Row) → IsRow row → IsRow (told_row ip stamp row)
IsRow-told ip stamp row is = elim (same_ip row.ip ip) as (λ b. IsRow (cond b (record row { told = Some stamp }) row)) [
  | true ↦ record { seen = is.seen; first = is.first }
  | false ↦ is
]

pub IsDistinct-told : (ip : Ip) (stamp : ℕ) (rows : List Row) → IsDistinct rows → IsDistinct (told_rows rows ip stamp)
IsDistinct-told ip stamp [] distinct = tt
IsDistinct-told ip stamp (row ∷ rows) distinct = (
  AllByRecursion-map (λ (later : Row). same_ip later.ip row.ip ≡ false) (λ (later : Row). same_ip later.ip (told_row ip stamp row).ip ≡ false) (told_row ip stamp)
      (λ later apart. rw (told_row-ip ip stamp later, told_row-ip ip stamp row) apart) rows distinct.0,
  IsDistinct-told ip stamp rows distinct.1,
)

pub IsRising-told : (ip : Ip) (stamp : ℕ) (rows : List Row) → IsRising rows → IsRising (told_rows rows ip stamp)
IsRising-told ip stamp [] rising = tt
IsRising-told ip stamp (row ∷ rows) rising = (
  AllByRecursion-map (λ (later : Row). row.last < later.last) (λ (later : Row). (told_row ip stamp row).last < later.last) (told_row ip stamp)
      (λ later before. rw (told_row-last ip stamp later, told_row-last ip stamp row) before) rows rising.0,
  IsRising-told ip stamp rows rising.1,
)

-- a client list stays one where a client is told
pub AreRows-told : (limits : Limits) (rows : List Row) (ip : Ip) (stamp : ℕ) → AreRows limits rows → AreRows limits (told_rows rows ip stamp)
AreRows-told limits rows ip stamp kept = record {
  distinct = IsDistinct-told ip stamp rows kept.distinct;
  rising = IsRising-told ip stamp rows kept.rising;
  each = AllByRecursion-map IsRow IsRow (told_row ip stamp) (IsRow-told ip stamp) rows kept.each;
  depth = omega (arith, length-map rows (told_row ip stamp), kept.depth);
}

-- the arrivals stay up to a stamp where a client is told
pub AreUpTo-told : (until : ℕ) (rows : List Row) (ip : Ip) (stamp : ℕ) → AreUpTo until rows → AreUpTo until (told_rows rows ip stamp)
AreUpTo-told until rows ip stamp up_to =
    AllByRecursion-map (λ (row : Row). row.last ≤ until) (λ (row : Row). row.last ≤ until) (told_row ip stamp) (λ row at_most. rw (told_row-last ip stamp row) at_most) rows up_to

-- a client list stays one where a client is told, up to the same stamp
pub IsClientList-told : (limits : Limits) (rows : List Row) (until : ℕ) (ip : Ip) (stamp : ℕ) → IsClientList limits rows until → IsClientList limits (told_rows rows ip stamp) until
IsClientList-told limits rows until ip stamp list = record { kept = AreRows-told limits rows ip stamp list.kept; up_to = AreUpTo-told until rows ip stamp list.up_to }
