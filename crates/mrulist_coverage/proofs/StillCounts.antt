-- How many datagrams are taken while a still list is listed.
use Rattle.std.proofs.Common.{◌≡◌, ◌⊎◌, inl, inr, ℕ, zero, suc, ◌+◌, ◌≤◌, ◌==◌, if◌then◌else◌, Bool, true, false, List, [], ◌∷◌, length, Option, Some, None, slice_get, refl, ap, subst, arith, length-append, length-take}
use Rattle.std.proofs.lemmas.Bool.{cond_both, eq-eqb, eqb-true}
use Rattle.edge_traits.specs.declared.port.Event.{Event}
use Rattle.edge_traits.specs.declared.port.Event.TheVariants.{Took, Silence, Sent}
use Rattle.mode6_frame.specs.Places.{frame_at}
use Rattle.mru_items.specs.declared.query.ReadRequest.{ReadRequest}
use Rattle.mru_read.specs.declared.pages.Page.{Page}
use Rattle.mru_read.specs.Histories.{Listing, Move, Still, Touch, Sweep, Read, drawn, list_at, page_at}
use Rattle.mru_read.specs.Pages.{Start, Beginning, Behind, behind, page_of, passes, passing_from, row_count, rows_from}
use Rattle.mrulist_coverage.specs.Still.{EachTake, IsFew, parts_after, parts_at, parts_of, takes_of}
use Rattle.mrulist_coverage.specs.Tellings.{IsTelling, Telling}
use Rattle.mrulist_coverage.proofs.Grows.{IsListing, list_at-IsListing}
use Rattle.mrulist_coverage.proofs.Marks.{up_to_pair, up_to_pair-behind}
use Rattle.mrulist_coverage.proofs.Placed.{page-start}
use Rattle.mrulist_coverage.proofs.StillRounds.{page-parts-most}
use Rattle.net_addr.specs.declared.addr.Addr.{Addr}
use Rattle.recency.specs.declared.limits.TheConstants.{MAX_DEPTH}
use Rattle.recency.specs.declared.row.Row.{Row}
use Rattle.recency.proofs.ListLemmas.{length-filter-le}

-- how many datagrams were taken that answer the first so many requests
abbrev pub taken_to : ℕ → List Event → ℕ
taken_to zero events = 0
taken_to (suc n) events = taken_to n events + takes_of (suc n) events

pub taken_to-sent : (n : ℕ) (to : Addr) (octets : List ℕ) (events : List Event) → taken_to n (Sent to octets ∷ events) ≡ taken_to n events
taken_to-sent zero to octets events = refl
taken_to-sent (suc n) to octets events = omega (arith, taken_to-sent n to octets events)

pub taken_to-none : (n : ℕ) → taken_to n [] ≡ 0
taken_to-none zero = refl
taken_to-none (suc n) = omega (arith, taken_to-none n)

-- one where a test passes
abbrev pub hit : Bool → ℕ
hit b = if b then 1 else 0

-- one more of them
takes_of-took : (sequence : ℕ) (from : Addr) (octets : List ℕ) (events : List Event) → takes_of sequence events ≤ takes_of sequence (Took from octets ∷ events)
takes_of-took sequence from octets events =
    cond_both ((frame_at octets).sequence == sequence) 1 0 (λ count. takes_of sequence events ≤ count + takes_of sequence events) (λ _. omega arith) (λ _. omega arith)

takes_of-here : (sequence : ℕ) (from : Addr) (octets : List ℕ) (events : List Event) → (frame_at octets).sequence ≡ sequence → takes_of sequence events + 1 ≤ takes_of sequence (Took from octets ∷ events)
takes_of-here sequence from octets events is =
    let one : hit ((frame_at octets).sequence == sequence) ≡ hit true = ap hit (eq-eqb _ _ is) in
    omega (arith, one)

pub taken_to-took : (n : ℕ) (from : Addr) (octets : List ℕ) (events : List Event) → taken_to n events ≤ taken_to n (Took from octets ∷ events)
taken_to-took zero from octets events = omega arith
taken_to-took (suc n) from octets events = omega (arith, taken_to-took n from octets events, takes_of-took (suc n) from octets events)

pub taken_to-here : (n : ℕ) (from : Addr) (octets : List ℕ) (events : List Event) → 1 ≤ (frame_at octets).sequence → (frame_at octets).sequence ≤ n
    → taken_to n events + 1 ≤ taken_to n (Took from octets ∷ events)
taken_to-here zero from octets events least most = omega (arith, least, most)
taken_to-here (suc n) from octets events least most = by ((frame_at octets).sequence == suc n) refl (λ within. taken_to-here n from octets events least within)
  where
    by : (b : Bool) → ((frame_at octets).sequence == suc n) ≡ b → ((frame_at octets).sequence ≤ n → taken_to n events + 1 ≤ taken_to n (Took from octets ∷ events))
        → taken_to (suc n) events + 1 ≤ taken_to (suc n) (Took from octets ∷ events)
    by true is earlier = omega (arith, taken_to-took n from octets events, takes_of-here (suc n) from octets events (eqb-true _ _ is))
    by false is earlier =
        let other : (frame_at octets).sequence ≡ suc n → ⊥ = Rattle.std.proofs.lemmas.Bool.eqb-false _ _ is in
        omega (arith, earlier (omega (arith, most, other)), takes_of-took (suc n) from octets events)

rows_from-most : (rows : List Row) (start : Start) → length (rows_from rows start) ≤ length rows
rows_from-most rows Beginning = omega arith
rows_from-most rows (Behind pair) =
    omega (arith, length-append (up_to_pair pair rows) (behind pair rows), ap (λ (those : List Row). length those) (up_to_pair-behind pair rows))

-- a page has no more rows than its list
page-rows-most : (rows : List Row) (read : ReadRequest) (now : ℕ) (page : Page) → page_of rows read now ≡ Some page → length page.rows ≤ length rows
page-rows-most rows read now page is =
    let begun = page-start rows read now page is in
    let start = begun.0 in
    subst (λ (one : Page). length one.rows ≤ length rows) begun.2
    (omega (arith, length-take (row_count rows read start now) (passing_from rows read start), length-filter-le (passes read.filter) (rows_from rows start), rows_from-most rows start))

-- the most datagrams that an answer has
abbrev pub MOST_PARTS : ℕ
MOST_PARTS = 98311

parts_of-most : (list : Listing) (read : ReadRequest) (moment : ℕ) (page : Option Page) → length list.rows ≤ MAX_DEPTH → page_at list read moment ≡ page → parts_of page ≤ MOST_PARTS
parts_of-most list read moment None few is = omega arith
parts_of-most list read moment (Some page) few is =
    omega (arith, few, page-parts-most page, page-rows-most list.rows read (drawn moment list.stamp) page is)

parts_after-most : (list : Listing) (move : Option Move) → length list.rows ≤ MAX_DEPTH → parts_after list move ≤ MOST_PARTS
parts_after-most list None few = omega arith
parts_after-most list (Some Still) few = omega arith
parts_after-most list (Some (Touch visit moment is_told)) few = omega arith
parts_after-most list (Some (Sweep moment)) few = omega arith
parts_after-most list (Some (Read read moment)) few = parts_of-most list read moment (page_at list read moment) few refl

pub parts_at-most : (t : Telling) (place : Option ℕ) → IsTelling t → parts_at t place ≤ MOST_PARTS
parts_at-most t None is = omega arith
parts_at-most t (Some place) is =
    let list = list_at t.history place in
    let here : IsListing t.history.limits list = list_at-IsListing t.history.limits t.history.opening t.history.moves place (record { kept = is.is_history.list; stamp = is.is_history.stamp }) is.is_history.moves in
    parts_after-most list (slice_get t.history.moves place) (omega (arith, here.kept.kept.depth, t.history.limits.most))

-- no more are taken of one request
takes-some : (t : Telling) (all events : List Event) (places : List (Option ℕ)) (sequence : ℕ) → IsTelling t → EachTake (IsFew t all) events places
    → (takes_of sequence events ≡ 0) ⊎ (takes_of sequence all ≤ MOST_PARTS)
takes-some t all [] places sequence is few = inl refl
takes-some t all (Silence ∷ events) places sequence is few = takes-some t all events places sequence is few
takes-some t all (Sent to octets ∷ events) places sequence is few = takes-some t all events places sequence is few
takes-some t all (Took from octets ∷ events) [] sequence is few = absurd few
takes-some t all (Took from octets ∷ events) (place ∷ places) sequence is few =
    by ((frame_at octets).sequence == sequence) refl (takes-some t all events places sequence is few.1)
  where
    by : (b : Bool) → ((frame_at octets).sequence == sequence) ≡ b → (takes_of sequence events ≡ 0) ⊎ (takes_of sequence all ≤ MOST_PARTS)
        → (takes_of sequence (Took from octets ∷ events) ≡ 0) ⊎ (takes_of sequence all ≤ MOST_PARTS)
    by true its rest =
        let same : (frame_at octets).sequence ≡ sequence = eqb-true _ _ its in
        inr (omega (arith, parts_at-most t place is, subst (λ (s : ℕ). takes_of s all ≤ parts_at t place) same few.0))
    by false its (inl none) =
        let not_one : hit ((frame_at octets).sequence == sequence) ≡ hit false = ap hit its in
        inl (omega (arith, not_one, none))
    by false its (inr most) = inr most

pub takes-most : (t : Telling) (all : List Event) (places : List (Option ℕ)) (sequence : ℕ) → IsTelling t → EachTake (IsFew t all) all places → takes_of sequence all ≤ MOST_PARTS
takes-most t all places sequence is few = by (takes-some t all all places sequence is few)
  where
    by : (takes_of sequence all ≡ 0) ⊎ (takes_of sequence all ≤ MOST_PARTS) → takes_of sequence all ≤ MOST_PARTS
    by (inl none) = omega (arith, none)
    by (inr most) = most
