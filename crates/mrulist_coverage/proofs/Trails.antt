-- Pairs as they are told, and where a trail of them is cut.
use Rattle.std.proofs.Common.{◌≡◌, ℕ, zero, suc, ◌^◌, ◌<◌, ◌≤◌, ◌==◌, ◌||◌, Bool, true, false, cond, Some, None, find, List, [], ◌∷◌, ◌++◌, map, take, reverse, refl, sym, ap, subst, ◌∙◌, inl, inr, arith}
use Rattle.std.proofs.lemmas.Bool.{and_from, and_parts, cond_both, eqb-true, eq-eqb, or_left, or_right}
use Rattle.std.proofs.lemmas.List.{reverse-append}
use Rattle.std.specs.List.{AllByRecursion, list_any}
use Rattle.mru_items.specs.declared.pair.Pair.{Pair}
use Rattle.mru_items.specs.Queries.{ArePairsTold, told_time}
use Rattle.mru_read.specs.Pages.{shown_row, told_pair}
use Rattle.mrulist_coverage.specs.Coverage.{IsSublist}
use Rattle.mrulist_coverage.proofs.Invariant.{AreRisingPairs}
use Rattle.mrulist_coverage.proofs.Sublists.{AllByRecursion-sublist}
use Rattle.mrulist_reader.specs.Readers.{pair_of, same_pair, up_to_last}
use Rattle.net_addr.specs.declared.addr.Addr.{Addr}
use Rattle.net_addr.specs.Addresses.{same_addr, same_ip}
use Rattle.net_addr.proofs.AddressLemmas.{same_ip-refl}
use Rattle.recency.specs.declared.row.Row.{Row}
use Rattle.recency.proofs.ListLemmas.{AllByRecursion-append, AllByRecursion-weaker}

-- a time tells the stamp
pub told_time-same : (origin one other : ℕ) → origin < 2 ^ 64 → one < 2 ^ 64 → other < 2 ^ 64 → told_time origin one ≡ told_time origin other → one ≡ other
told_time-same origin one other within first second same = omega arith

-- told pairs tell the pairs
pub ArePairsTold-same : (origin : ℕ) (these those told : List Pair) → origin < 2 ^ 64 → ArePairsTold origin these told → ArePairsTold origin those told → these ≡ those
ArePairsTold-same origin [] [] [] within first second = refl
ArePairsTold-same origin [] (that ∷ those) [] within first second = absurd second
ArePairsTold-same origin (this ∷ these) those [] within first second = absurd first
ArePairsTold-same origin [] those (one ∷ told) within first second = absurd first
ArePairsTold-same origin (this ∷ these) [] (one ∷ told) within first second = absurd second
ArePairsTold-same origin (this ∷ these) (that ∷ those) (one ∷ told) within first second =
    let addr : this.addr ≡ that.addr = sym first.0 ∙ second.0 in
    let last : this.last ≡ that.last = told_time-same origin this.last that.last within first.2 second.2 (sym first.1 ∙ second.1) in
    let head : this ≡ that = λ i. record { addr = addr i; last = last i } in
    let rest : these ≡ those = ArePairsTold-same origin these those told within first.3 second.3 in
    λ i. head i ∷ rest i

-- of told pairs the first ones are told
pub ArePairsTold-take : (origin n : ℕ) (pairs told : List Pair) → ArePairsTold origin pairs told → ArePairsTold origin (take n pairs) (take n told)
ArePairsTold-take origin zero pairs told are = tt
ArePairsTold-take origin (suc n) [] [] are = tt
ArePairsTold-take origin (suc n) [] (one ∷ told) are = absurd are
ArePairsTold-take origin (suc n) (pair ∷ pairs) [] are = absurd are
ArePairsTold-take origin (suc n) (pair ∷ pairs) (one ∷ told) are = (are.0, are.1, are.2, ArePairsTold-take origin n pairs told are.3)

-- told pairs one after another
pub ArePairsTold-append : (origin : ℕ) (pairs told more others : List Pair) → ArePairsTold origin pairs told → ArePairsTold origin more others → ArePairsTold origin (pairs ++ more) (told ++ others)
ArePairsTold-append origin [] [] more others these those = those
ArePairsTold-append origin [] (one ∷ told) more others these those = absurd these
ArePairsTold-append origin (pair ∷ pairs) [] more others these those = absurd these
ArePairsTold-append origin (pair ∷ pairs) (one ∷ told) more others these those = (these.0, these.1, these.2, ArePairsTold-append origin pairs told more others these.3 those)

-- and from the last to the first
pub ArePairsTold-reverse : (origin : ℕ) (pairs told : List Pair) → ArePairsTold origin pairs told → ArePairsTold origin (reverse pairs) (reverse told)
ArePairsTold-reverse origin [] [] are = tt
ArePairsTold-reverse origin [] (one ∷ told) are = absurd are
ArePairsTold-reverse origin (pair ∷ pairs) [] are = absurd are
ArePairsTold-reverse origin (pair ∷ pairs) (one ∷ told) are =
    let P : List Pair → Type 0 = λ xs. ArePairsTold origin xs (reverse (one ∷ told)) in
    let Q : List Pair → Type 0 = λ xs. ArePairsTold origin (reverse pairs ++ pair ∷ []) xs in
    let rest : ArePairsTold origin (reverse pairs) (reverse told) = ArePairsTold-reverse origin pairs told are.3 in
    subst P (sym (reverse-append (pair ∷ []) pairs)) (subst Q (sym (reverse-append (one ∷ []) told)) (ArePairsTold-append origin (reverse pairs) (reverse told) (pair ∷ []) (one ∷ []) rest (are.0, are.1, are.2, tt)))

-- pairs that stand among rising ones rise
pub AreRisingPairs-sublist : (these those : List Pair) → IsSublist these those → AreRisingPairs those → AreRisingPairs these
AreRisingPairs-sublist [] those stand rising = tt
AreRisingPairs-sublist (this ∷ these) [] stand rising = absurd stand
AreRisingPairs-sublist (this ∷ these) (that ∷ those) (inl here) rising =
    let P : Pair → Type 0 = λ one. AllByRecursion (λ (later : Pair). one.last < later.last) these in
    (subst P (sym here.0) (AllByRecursion-sublist (λ (later : Pair). that.last < later.last) these those here.1 rising.0), AreRisingPairs-sublist these those here.1 rising.1)
AreRisingPairs-sublist (this ∷ these) (that ∷ those) (inr later) rising = AreRisingPairs-sublist (this ∷ these) those later rising.1

-- rising pairs before a bound, and others from it on, rise one after another
pub AreRisingPairs-append : (bound : ℕ) (these those : List Pair) → AreRisingPairs these → AreRisingPairs those → AllByRecursion (λ pair. pair.last < bound) these → AllByRecursion (λ pair. bound ≤ pair.last) those → AreRisingPairs (these ++ those)
AreRisingPairs-append bound [] those first second below from = second
AreRisingPairs-append bound (this ∷ these) those first second below from =
    let limit : this.last < bound = below.0 in (
      AllByRecursion-append (λ (later : Pair). this.last < later.last) these those first.0 (AllByRecursion-weaker (λ (pair : Pair). bound ≤ pair.last) (λ (pair : Pair). this.last < pair.last) (λ pair at_least. omega (arith, at_least)) those from),
      AreRisingPairs-append bound these those first.1 second below.1 from,
    )

-- the same pairs, of one last arrival
same_pair-last : (origin : ℕ) (pair one told : Pair) → origin < 2 ^ 64 → pair.last < 2 ^ 64 → one.last < 2 ^ 64 → told.last ≡ told_time origin one.last → same_pair (told_pair origin pair) told ≡ true → one.last ≡ pair.last
same_pair-last origin pair one told within first second is same =
    let parts = and_parts (same_addr pair.addr told.addr) (told_time origin pair.last == told.last) same in
    let last : told_time origin pair.last ≡ told.last = eqb-true (told_time origin pair.last) told.last parts.1 in
    sym (told_time-same origin pair.last one.last within first second (last ∙ is))

-- where a told pair is among others whose stamps are later than one, so is its stamp
any_later : (origin : ℕ) (pair : Pair) (stamp : ℕ) (stamps trail : List Pair) → origin < 2 ^ 64 → pair.last < 2 ^ 64 → ArePairsTold origin stamps trail
    → AllByRecursion (λ (one : Pair). stamp < one.last) stamps → list_any (same_pair (told_pair origin pair)) trail ≡ true → stamp < pair.last
any_later origin pair stamp [] [] within fits told later any = absurd (false_true any)
  where
    false_true : false ≡ true → ⊥
    false_true same = cc
any_later origin pair stamp [] (one ∷ trail) within fits told later any = absurd told
any_later origin pair stamp (first ∷ stamps) [] within fits told later any = absurd told
any_later origin pair stamp (first ∷ stamps) (one ∷ trail) within fits told later any =
    by (same_pair (told_pair origin pair) one) refl any (λ rest. any_later origin pair stamp stamps trail within fits told.3 later.1 rest)
  where
    by : (b : Bool) → same_pair (told_pair origin pair) one ≡ b → (b || list_any (same_pair (told_pair origin pair)) trail) ≡ true → (list_any (same_pair (told_pair origin pair)) trail ≡ true → stamp < pair.last) → stamp < pair.last
    by true same any rest =
        let last : first.last ≡ pair.last = same_pair-last origin pair first one within fits told.2 told.1 same in
        let before : stamp < first.last = later.0 in
        omega arith
    by false same any rest = rest any

-- what was cut is told of pairs that stand among those, up to a pair
pub record IsCut (origin : ℕ) (pair : Pair) (stamps cut : List Pair) : Type 0 where
  pub kept : List Pair
  pub told : ArePairsTold origin kept cut
  pub stand : IsSublist kept stamps
  pub at_most : AllByRecursion (λ one. one.last ≤ pair.last) kept

-- a trail is cut behind a pair
pub up_to_last-IsCut : (origin : ℕ) (pair : Pair) (stamps trail : List Pair) → origin < 2 ^ 64 → pair.last < 2 ^ 64 → ArePairsTold origin stamps trail → AreRisingPairs stamps
    → IsCut origin pair stamps (up_to_last (told_pair origin pair) trail)
up_to_last-IsCut origin pair [] [] within fits told rising = record { kept = []; told = tt; stand = tt; at_most = tt }
up_to_last-IsCut origin pair [] (one ∷ trail) within fits told rising = absurd told
up_to_last-IsCut origin pair (first ∷ stamps) [] within fits told rising = absurd told
up_to_last-IsCut origin pair (first ∷ stamps) (one ∷ trail) within fits told rising =
    let rest = up_to_last-IsCut origin pair stamps trail within fits told.3 rising.1 in
    let P : List Pair → Type 0 = λ cut. IsCut origin pair (first ∷ stamps) cut in
    cond_both (list_any (same_pair (told_pair origin pair)) trail) _ _ P
    (λ any.
    let before : first.last < pair.last = any_later origin pair first.last stamps trail within fits told.3 rising.0 any in
    record { kept = first ∷ rest.kept; told = (told.0, told.1, told.2, rest.told); stand = inl (refl, rest.stand); at_most = (omega arith, rest.at_most) })
    (λ _. cond_both (same_pair (told_pair origin pair) one) _ _ P
    (λ same.
    let last : first.last ≡ pair.last = same_pair-last origin pair first one within fits told.2 told.1 same in
    record { kept = first ∷ []; told = (told.0, told.1, told.2, tt); stand = inl (refl, tt); at_most = (omega arith, tt) })
    (λ _. record { kept = []; told = tt; stand = tt; at_most = tt }))

-- the pair of a row
abbrev pub row_pair : Row → Pair
row_pair row = record { addr = record { ip = row.ip; port = row.port }; last = row.last }

-- the pairs of rows are told by those of the rows as they are shown
pub rows-ArePairsTold : (origin : ℕ) (rows : List Row) → AllByRecursion (λ row. row.last < 2 ^ 64) rows → ArePairsTold origin (map row_pair rows) (map pair_of (map (shown_row origin) rows))
rows-ArePairsTold origin [] each = tt
rows-ArePairsTold origin (row ∷ rows) each = (refl, refl, each.0, rows-ArePairsTold origin rows each.1)

-- a pair that is found among told ones is among them as it is told
pub found-told : (origin : ℕ) (test : Pair → Bool) (pairs told : List Pair) (pair : Pair) → ArePairsTold origin pairs told → find test pairs ≡ Some pair → list_any (same_pair (told_pair origin pair)) told ≡ true
found-told origin test [] [] pair are found = absurd (none_some found)
  where
    none_some : None ≡ Some pair → ⊥
    none_some same = cc
found-told origin test [] (one ∷ told) pair are found = absurd are
found-told origin test (first ∷ pairs) [] pair are found = absurd are
found-told origin test (first ∷ pairs) (one ∷ told) pair are found =
    by (test first) found (λ later. found-told origin test pairs told pair are.3 later)
  where
    some_some : (one other : Pair) → Some one ≡ Some other → one ≡ other
    some_some one other same = cc

    same_first : same_pair (told_pair origin first) one ≡ true
    same_first =
        let P : Addr → Type 0 = λ addr. same_ip first.addr.ip addr.ip ≡ true in
        let ip : same_ip first.addr.ip one.addr.ip ≡ true = subst P (sym are.0) (same_ip-refl first.addr.ip) in
        let port : (first.addr.port == one.addr.port) ≡ true = eq-eqb first.addr.port one.addr.port (sym (ap (λ (addr : Addr). addr.port) are.0)) in
        and_from (same_addr first.addr one.addr) (told_time origin first.last == one.last) (and_from (same_ip first.addr.ip one.addr.ip) (first.addr.port == one.addr.port) ip port)
        (eq-eqb (told_time origin first.last) one.last (sym are.1))

    by : (b : Bool) → cond b (Some first) (find test pairs) ≡ Some pair → (find test pairs ≡ Some pair → list_any (same_pair (told_pair origin pair)) told ≡ true) → list_any (same_pair (told_pair origin pair)) (one ∷ told) ≡ true
    by true here later =
        let P : Pair → Type 0 = λ pair. list_any (same_pair (told_pair origin pair)) (one ∷ told) ≡ true in
        subst P (some_some first pair here) (or_left (same_pair (told_pair origin first) one) (list_any (same_pair (told_pair origin first)) told) same_first)
    by false here later = or_right (same_pair (told_pair origin pair) one) (list_any (same_pair (told_pair origin pair)) told) (later here)
