-- Where a page begins, and that the page that was made is the one that is asked for.
use Rattle.std.proofs.Common.{◌≡◌, ℕ, zero, suc, ◌+◌, ◌*◌, ◌<◌, ◌≤◌, ◌^◌, Bool, true, false, not, List, [], ◌∷◌, ◌++◌, length, take, Option, Some, None, refl, sym, ap, subst, ◌∙◌, arith}
use Rattle.std.specs.Prelude.{nat_le, nat_lt, if◌then◌else◌, ◌&&◌, is_some, find, option_map, Result, Err, IsErrAnd}
use Rattle.std.specs.List.{AllByRecursion}
use Rattle.std.proofs.lemmas.Bool.{cond_both, leb-true, ltb-false}
use Rattle.std.proofs.lemmas.List.Sums.{sum_by-append}
use Rattle.mode6_frame.specs.Cuts.{plain_len}
use Rattle.mru_items.specs.declared.pair.Pair.{Pair}
use Rattle.mru_items.specs.declared.query.ReadRequest.{ReadRequest}
use Rattle.mru_items.specs.Queries.{IsRead, greatest}
use Rattle.net_addr.specs.Addresses.{IsAddr}
use Rattle.mru_read.specs.declared.pages.Page.{Page}
use Rattle.mru_read.specs.declared.pages.PageFault.{PageFault}
use Rattle.mru_read.specs.declared.pages.PageFault.TheVariants.{NoMemory, NoneInPlace}
use Rattle.mru_read.specs.Pages.{IsTellablePair, Start, Behind, gone_by, gone_from, gone_over, is_within, may_have, page_from, page_of, page_parts, page_with, passing_from, row_count, start_of, stands_in}
use Rattle.mru_read.specs.Sizes.{lengths_with}
use Rattle.mru_read.specs.Walks.{IsInPlace, IsTaken, start_at}
use Rattle.mru_read.proofs.EndingLemmas.{end-short, front-short}
use Rattle.mru_read.proofs.MeasureLemmas.{parts-one}
use Rattle.mru_read.proofs.PageLemmas.{both, end_of, greatest-passes, lengths_with-none, may_have-is, newest_in, page_parts-is}
use Rattle.mru_read.proofs.TakingLemmas.{confirmed-at}
use Rattle.recency.specs.declared.row.Row.{Row}

-- pairs are named, and none stands
abbrev pub is_nowhere : Option Pair → List Pair → Bool
is_nowhere confirmed pairs = not (is_some confirmed) && nat_lt 0 (length pairs)

-- then a page begins nowhere
pub start-nowhere : (rows : List Row) (pairs : List Pair) (confirmed : Option Pair) → confirmed ≡ find (stands_in rows) pairs → is_nowhere confirmed pairs ≡ true → start_of rows pairs ≡ None
start-nowhere rows [] None is nowhere = absurd cc
start-nowhere rows (pair ∷ pairs) None is nowhere = ap (option_map Behind) (sym is)
start-nowhere rows [] (Some one) is nowhere = absurd cc
start-nowhere rows (pair ∷ pairs) (Some one) is nowhere = absurd cc

-- else it begins behind the first that stands, or with the oldest row
pub start-is : (rows : List Row) (pairs : List Pair) (confirmed : Option Pair) → confirmed ≡ find (stands_in rows) pairs → is_nowhere confirmed pairs ≡ false
    → start_of rows pairs ≡ Some (start_at confirmed)
start-is rows [] None is somewhere = refl
start-is rows (pair ∷ pairs) None is somewhere = absurd (omega (arith, ltb-false 0 (suc (length pairs)) somewhere))
start-is rows [] (Some one) is somewhere = absurd cc
start-is rows (pair ∷ pairs) (Some one) is somewhere = ap (option_map Behind) (sym is)

-- a pair that is found stands, and is one of the pairs
find-stands : (P : Pair → Type 0) (test : Pair → Bool) (pairs : List Pair) (one : Pair) → AllByRecursion P pairs → find test pairs ≡ Some one → (test one ≡ true) × P one
find-stands P test [] one each = λ is. absurd cc
find-stands P test (pair ∷ pairs) one each =
    cond_both (test pair) (Some pair) (find test pairs) (λ found. found ≡ Some one → (test one ≡ true) × P one)
    (λ stands is.
    let same : pair ≡ one = cc in
    subst (λ (it : Pair). (test it ≡ true) × P it) same (stands, each.0))
    (λ _ is. find-stands P test pairs one each.1 is)

abbrev IsGoodPair : Pair → Type 0
IsGoodPair pair = IsAddr pair.addr × (pair.last < 2 ^ 64)

pub place-is : (rows : List Row) (pairs : List Pair) (confirmed : Option Pair) → AllByRecursion (λ (pair : Pair). IsAddr pair.addr × (pair.last < 2 ^ 64)) pairs → confirmed ≡ find (stands_in rows) pairs
    → IsInPlace rows confirmed × IsTellablePair confirmed
place-is rows pairs None each is = (tt, tt)
place-is rows pairs (Some one) each is =
    let found = find-stands IsGoodPair (stands_in rows) pairs one each (sym is) in
    (found.0, (found.1.0.ip, found.1.0.port))

-- the number of rows does not depend on the time
greatest-same : (test other : ℕ → Bool) → ((k : ℕ) → test k ≡ other k) → (bound : ℕ) → greatest test bound ≡ greatest other bound
greatest-same test other same zero = refl
greatest-same test other same (suc bound) = λ i. if same (suc bound) i then suc bound else greatest-same test other same bound i

pub row_count-now : (rows : List Row) (request : ReadRequest) (start : Start) (now : ℕ) → row_count rows request start now ≡ row_count rows request start 0
unfolding row_count
row_count-now rows request start now =
    let passing = passing_from rows request start in
    greatest-same (may_have rows request start passing now) (may_have rows request start passing 0)
    (λ k. may_have-is rows request start passing now k ∙ sym (may_have-is rows request start passing 0 k)) (length passing)

-- the page that was made
abbrev pub made : List Row → Option Pair → List Row → Bool → ℕ → Page
made rows confirmed taken ended now = record { rows = taken; confirmed = confirmed; ended = ended; now = now; newest = newest_in rows }

pub made-is : (rows : List Row) (request : ReadRequest) (confirmed : Option Pair) (taken : List Row) (ended : Bool) (now : ℕ) → IsTaken rows request (start_at confirmed) taken ended
    → made rows confirmed taken ended now ≡ page_from rows request now (start_at confirmed)
made-is rows request confirmed taken ended now is =
    let start = start_at confirmed in
    let passing = passing_from rows request start in
    let count = sym (row_count-now rows request start now) in
    let rows_are : taken ≡ take (row_count rows request start now) passing = is.are ∙ ap (λ n. take n passing) count in
    let ended_is : ended ≡ nat_le (length passing) (row_count rows request start now) = is.is_ended ∙ ap (nat_le (length passing)) count in
    λ i. record { rows = rows_are i; confirmed = sym (confirmed-at confirmed) i; ended = ended_is i; now = now; newest = newest_in rows }

pub page-made : (rows : List Row) (request : ReadRequest) (confirmed : Option Pair) (taken : List Row) (ended : Bool) (now : ℕ) → start_of rows request.pairs ≡ Some (start_at confirmed)
    → IsTaken rows request (start_at confirmed) taken ended → page_of rows request now ≡ Some (made rows confirmed taken ended now)
unfolding page_of
page-made rows request confirmed taken ended now start is =
    ap (option_map (page_from rows request now)) start ∙ ap (λ (page : Page). Some page) (sym (made-is rows request confirmed taken ended now is))

pub page-some : (rows : List Row) (request : ReadRequest) (start : Start) (now : ℕ) → start_of rows request.pairs ≡ Some start → page_of rows request now ≡ Some (page_from rows request now start)
unfolding page_of
page-some rows request start now is = ap (option_map (page_from rows request now)) is

pub page-none : (rows : List Row) (request : ReadRequest) (now : ℕ) → start_of rows request.pairs ≡ None → page_of rows request now ≡ None
unfolding page_of
page-none rows request now is = ap (option_map (page_from rows request now)) is

-- what a page goes over
pub gone-is : (rows : List Row) (request : ReadRequest) (start : Start) → start_of rows request.pairs ≡ Some start → gone_over rows request ≡ gone_from rows request 0 start
unfolding gone_over
gone-is rows request start is = ap (gone_by rows request) is

-- a page without rows is one datagram
pub none-parts : (rows : List Row) (confirmed : Option Pair) (ended : Bool) (now : ℕ) → IsTellablePair confirmed → page_parts (made rows confirmed [] ended now) ≡ 1
none-parts rows confirmed ended now pair =
    page_parts-is [] confirmed ended now (newest_in rows)
    ∙ parts-one (lengths_with confirmed [] ++ end_of ended (newest_in rows))
    (omega (
      arith,
      sum_by-append (λ n. 2 + n) (lengths_with confirmed []) (end_of ended (newest_in rows)),
      ap plain_len (lengths_with-none confirmed),
      front-short confirmed pair,
      end-short ended (newest_in rows),
    ))

-- the page has no more datagrams than are allowed
pub page-few : (rows : List Row) (request : ReadRequest) (confirmed : Option Pair) (now : ℕ) → IsRead request → IsTellablePair confirmed
    → page_parts (page_from rows request now (start_at confirmed)) ≤ request.frags
unfolding row_count
page-few rows request confirmed now read pair = by (row_count rows request start now) refl
  where
    start : Start
    start = start_at confirmed

    passing : List Row
    passing = passing_from rows request start

    by : (count : ℕ) → row_count rows request start now ≡ count → page_parts (page_with rows start passing now count) ≤ request.frags
    by zero is =
        let none : page_parts (page_with rows start passing now 0) ≡ 1 =
        ap (λ it. page_parts (record { rows = []; confirmed = it; ended = nat_le (length passing) 0; now = now; newest = newest_in rows })) (confirmed-at confirmed)
        ∙ none-parts rows confirmed (nat_le (length passing) 0) now pair in
        omega (arith, none, read.least)
    by (suc count) is =
        let some : 1 ≤ row_count rows request start now = omega (arith, is) in
        let has = greatest-passes (may_have rows request start passing now) (length passing) some in
        let here : may_have rows request start passing now (suc count) ≡ true = ap (may_have rows request start passing now) (sym is) ∙ has in
        leb-true _ request.frags (both (is_within request.limit (suc count)) _ here).1

-- the page that was made, by what was read and made of it
pub made-of : (rows : List Row) (confirmed : Option Pair) (taken kept : List Row) (ended : Bool) (now : ℕ) (newest : Option ℕ) → kept ≡ taken → newest ≡ newest_in rows
    → made rows confirmed taken ended now ≡ record { rows = kept; confirmed = confirmed; ended = ended; now = now; newest = newest }
made-of rows confirmed taken kept ended now newest are is = λ i. record { rows = sym are i; confirmed = confirmed; ended = ended; now = now; newest = sym is i }

-- a page that is asked for is not none
pub not-none : (page : Page) (found : Option Page) → found ≡ Some page → found ≡ None → ⊥
not-none page found some none = cc

-- the steps of the look-ups, and of the walk
pub cost-of : (rows : List Row) (request : ReadRequest) (start : Start) (before found steps find_all width : ℕ) → start_of rows request.pairs ≡ Some start → found ≤ before + find_all
    → steps ≤ found + (gone_from rows request 0 start + 2) * width → steps ≤ before + find_all + (gone_over rows request + 2) * width
cost-of rows request start before found steps find_all width is first second = rw (gone-is rows request start is) (omega (arith, first, second))

-- want of memory is no refusal
pub not-refused : (result : Result Page PageFault) → IsErrAnd result (λ fault. fault ≡ NoMemory) → result ≡ Err NoneInPlace → ⊥
not-refused result memory is =
    let same : NoneInPlace ≡ NoMemory = subst (λ (it : Result Page PageFault). IsErrAnd it (λ fault. fault ≡ NoMemory)) is memory in
    apart same
  where
    apart : NoneInPlace ≡ NoMemory → ⊥
    apart same = cc
