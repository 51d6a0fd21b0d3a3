-- A page has few datagrams, and as many rows as it may have.
use Rattle.std.proofs.Common.{◌≡◌, ℕ, zero, suc, ◌≤◌, Bool, true, false, List, [], length, take, Option, Some, None, refl, sym, ap, subst, ◌∙◌, arith, length-take}
use Rattle.std.specs.Prelude.{nat_le, find, ◌&&◌}
use Rattle.std.proofs.lemmas.Bool.{le-leb}
use Rattle.mru_items.specs.declared.pair.Pair.{Pair}
use Rattle.mru_items.specs.declared.query.ReadRequest.{ReadRequest}
use Rattle.mru_items.specs.Queries.{IsRead}
use Rattle.mru_read.specs.declared.pages.Page.{Page}
use Rattle.mru_read.specs.Pages.{IsMost, IsTellablePair, Start, is_within, may_have, page_from, page_of, page_parts, page_with, passing_from, row_count, stands_in, start_of}
use Rattle.mru_read.specs.Walks.{start_at}
use Rattle.mru_read.proofs.PageLemmas.{greatest-above, greatest-passes, greatest-within, newest_in}
use Rattle.mru_read.proofs.StartLemmas.{is_nowhere, none-parts, not-none, page-few, page-none, page-some, place-is, start-is, start-nowhere}
use Rattle.mru_read.proofs.TakingLemmas.{confirmed-at}
use Rattle.recency.specs.declared.row.Row.{Row}

-- where a page begins, a pair that can be told is confirmed, or none
pub record IsBegun (rows : List Row) (request : ReadRequest) (now : ℕ) (page : Page) : Type 0 where
  pub confirmed : Option Pair
  pub pair : IsTellablePair confirmed
  pub start : start_of rows request.pairs ≡ Some (start_at confirmed)
  pub is : page ≡ page_from rows request now (start_at confirmed)

some-page : (one other : Page) → Some one ≡ Some other → one ≡ other
some-page one other same = cc

pub page-begun : (rows : List Row) (request : ReadRequest) (now : ℕ) (page : Page) → IsRead request → page_of rows request now ≡ Some page → IsBegun rows request now page
page-begun rows request now page read is = by (is_nowhere found request.pairs) refl
  where
    found : Option Pair
    found = find (stands_in rows) request.pairs

    by : (b : Bool) → is_nowhere found request.pairs ≡ b → IsBegun rows request now page
    by true nowhere = absurd (not-none page (page_of rows request now) is (page-none rows request now (start-nowhere rows request.pairs found refl nowhere)))
    by false somewhere =
        let start = start-is rows request.pairs found refl somewhere in
        record {
          confirmed = found;
          pair = (place-is rows request.pairs found read.pairs refl).1;
          start = start;
          is = some-page page (page_from rows request now (start_at found)) (sym is ∙ page-some rows request (start_at found) now start);
        }

pub begun-few : (rows : List Row) (request : ReadRequest) (now : ℕ) (page : Page) → IsRead request → IsBegun rows request now page → page_parts page ≤ request.frags
begun-few rows request now page read begun =
    subst (λ (it : Page). page_parts it ≤ request.frags) (sym begun.is) (page-few rows request begun.confirmed now read begun.pair)

-- so many rows may be had, also none
count-had : (rows : List Row) (request : ReadRequest) (confirmed : Option Pair) (now : ℕ) → IsRead request → IsTellablePair confirmed
    → may_have rows request (start_at confirmed) (passing_from rows request (start_at confirmed)) now (row_count rows request (start_at confirmed) now) ≡ true
unfolding row_count
count-had rows request confirmed now read pair = by (row_count rows request start now) refl
  where
    start : Start
    start = start_at confirmed

    passing : List Row
    passing = passing_from rows request start

    within-none : (limit : Option ℕ) → is_within limit 0 ≡ true
    within-none None = refl
    within-none (Some limit) = le-leb 0 limit (omega arith)

    by : (count : ℕ) → row_count rows request start now ≡ count → may_have rows request start passing now (row_count rows request start now) ≡ true
    by zero is =
        let none : page_parts (page_with rows start passing now 0) ≡ 1 =
        ap (λ it. page_parts (record { rows = []; confirmed = it; ended = nat_le (length passing) 0; now = now; newest = newest_in rows })) (confirmed-at confirmed)
        ∙ none-parts rows confirmed (nat_le (length passing) 0) now pair in
        let had : may_have rows request start passing now 0 ≡ true =
        (λ i. within-none request.limit i && nat_le (page_parts (page_with rows start passing now 0)) request.frags)
        ∙ le-leb (page_parts (page_with rows start passing now 0)) request.frags (omega (arith, none, read.least)) in
        ap (may_have rows request start passing now) is ∙ had
    by (suc count) is = greatest-passes (may_have rows request start passing now) (length passing) (omega (arith, is))

pub count-most : (rows : List Row) (request : ReadRequest) (confirmed : Option Pair) (now : ℕ) → IsRead request → IsTellablePair confirmed
    → IsMost rows request (start_at confirmed) now (row_count rows request (start_at confirmed) now)
unfolding row_count
count-most rows request confirmed now read pair =
    let start = start_at confirmed in
    let passing = passing_from rows request start in
    record {
      within = greatest-within (may_have rows request start passing now) (length passing);
      had = count-had rows request confirmed now read pair;
      no_more = greatest-above (may_have rows request start passing now) (length passing);
    }

-- the rows of a page are so many of those that pass
abbrev IsFront : List Row → ReadRequest → Start → ℕ → Page → Type 0
IsFront rows request start now page =
    (page.rows ≡ take (length page.rows) (passing_from rows request start)) × IsMost rows request start now (length page.rows)

front-from : (rows : List Row) (request : ReadRequest) (confirmed : Option Pair) (now : ℕ) → IsRead request → IsTellablePair confirmed
    → IsFront rows request (start_at confirmed) now (page_from rows request now (start_at confirmed))
front-from rows request confirmed now read pair =
    let start = start_at confirmed in
    let passing = passing_from rows request start in
    let count = row_count rows request start now in
    let most = count-most rows request confirmed now read pair in
    let len : length (take count passing) ≡ count = omega (arith, length-take count passing, most.within) in
    (ap (λ n. take n passing) (sym len), subst (IsMost rows request start now) (sym len) most)

pub begun-front : (rows : List Row) (request : ReadRequest) (now : ℕ) (page : Page) (start : Start) → IsRead request → IsBegun rows request now page → start_of rows request.pairs ≡ Some start
    → IsFront rows request start now page
begun-front rows request now page start read begun is =
    let same : start_at begun.confirmed ≡ start = some-start (start_at begun.confirmed) start (sym begun.start ∙ is) in
    subst (λ (it : Page). IsFront rows request start now it) (sym begun.is)
    (subst (λ (it : Start). IsFront rows request it now (page_from rows request now (start_at begun.confirmed))) same (front-from rows request begun.confirmed now read begun.pair))
  where
    some-start : (one other : Start) → Some one ≡ Some other → one ≡ other
    some-start one other same = cc
