-- A calm trace is still: where each datagram was taken once, no more are taken in answer to a request than its answer has.
use Rattle.std.proofs.Common.{◌≡◌, ◌⊎◌, inl, inr, ℕ, zero, suc, ◌≤◌, Bool, true, false, List, [], ◌∷◌, map, Option, Some, None, refl, sym, ap, subst, arith}
use Rattle.std.specs.Prelude.{Contains}
use Rattle.std.proofs.lemmas.List.{length-map}
use Rattle.edge_traits.specs.declared.port.Event.{Event}
use Rattle.edge_traits.specs.declared.port.Event.TheVariants.{Took, Silence, Sent}
use Rattle.mode6_frame.specs.Cuts.{Part, parts_cut}
use Rattle.mode6_frame.specs.Frames.{FrameParts}
use Rattle.mode6_frame.specs.Places.{frame_at}
use Rattle.mode6_frame.specs.Served.{IsDatagramOf, Served}
use Rattle.mode6_frame.proofs.CutLemmas.{parts-counted}
use Rattle.mru_items.specs.declared.query.MruFilter.{MruFilter}
use Rattle.mru_read.specs.declared.pages.Page.{Page}
use Rattle.mru_read.specs.Histories.{list_at, page_at}
use Rattle.mru_read.specs.Pages.{items_of_page}
use Rattle.mrulist_coverage.proofs.LowerFacts.{LowerLaws}
use Rattle.mrulist_coverage.specs.Still.{AreOfList, AreOnce, EachTake, IsCalm, IsFew, IsOfList, IsStill, parts_after, parts_at, parts_of, takes_of}
use Rattle.mrulist_coverage.specs.Tellings.{Answers, AnswersSent, IsOfRead, IsTelling, IsToldFrom, Known, Telling, after_sent, after_taken, nothing_known}
use Rattle.mrulist_coverage.proofs.PageLemmas.{page-IsTellable}
use Rattle.mrulist_coverage.proofs.ServedBy.{served_alone, served_at, served_by, served_move, served_page}
use Rattle.mrulist_coverage.proofs.SizeLemmas.{page-counted}
use Rattle.mrulist_coverage.proofs.StillOnce.{EachTake-both, HasOffset, IsAtPlace, IsRefused, one-place, takes-offsets, takes-refused}
use Rattle.mrulist_coverage.proofs.TakenLemmas.{sent-given}
use Rattle.net_addr.specs.declared.addr.Addr.{Addr}
use Rattle.recency.specs.declared.row.Row.{Row}

-- a datagram is of the answer that its place has, and no error where it tells of no read
abbrev IsGiven : Telling → MruFilter → List Row → FrameParts → Option ℕ → Type 0
IsGiven t wanted passing f place = IsDatagramOf (served_by t f place) f × IsOfList t wanted passing f place

each-given : (lower : LowerLaws) (t : Telling) (server : Addr) (wanted : MruFilter) (passing : List Row) (known : Known) (events : List Event) (places : List (Option ℕ)) → IsTelling t
    → IsToldFrom t server known events places → AreOfList t server wanted passing events places → EachTake (IsGiven t wanted passing) events places
each-given lower t server wanted passing known [] places telling told calm = tt
each-given lower t server wanted passing known (Silence ∷ events) places telling told calm = absurd calm
each-given lower t server wanted passing known (Sent to octets ∷ events) places telling told calm =
    each-given lower t server wanted passing (after_sent (frame_at octets) known) events places telling told calm
each-given lower t server wanted passing known (Took from octets ∷ events) [] telling told calm = absurd calm
each-given lower t server wanted passing known (Took from octets ∷ events) (place ∷ places) telling told calm =
    let f = frame_at octets in
    let given = sent-given lower t (known.asked f.sequence) (known.floor f.sequence) place f telling (told.0 calm.0) in
    ((given.1, calm.1), each-given lower t server wanted passing (after_taken place known) events places telling told.1 calm.2)

-- a datagram of an answer that tells of no read, and is no error, begins it
alone-offset : (t : Telling) (f : FrameParts) (error : Bool) → f.error ≡ error → error ≡ false → IsDatagramOf (served_alone error f) f → Contains (0 ∷ []) f.offset
alone-offset t f true is no_error datagram = absurd (cc no_error)
alone-offset t f false is no_error datagram = (0, omega arith, sym datagram.2.offset)

Contains-map : {X Y : Type 0} (g : X → Y) (xs : List X) (x : X) → Contains xs x → Contains (map g xs) (g x)
Contains-map g [] x (k, within, there) = absurd (omega arith)
Contains-map g (y ∷ xs) x (zero, within, there) = (0, omega arith, ap g there)
Contains-map g (y ∷ xs) x (suc k, within, there) =
    let rest = Contains-map g xs x (k, omega arith, there) in
    (suc rest.0, omega (arith, rest.1), rest.2)

module _ (lower : LowerLaws) (t : Telling) (wanted : MruFilter) (passing : List Row) (all : List Event) (every : List (Option ℕ)) (telling : IsTelling t) (once : AreOnce all every) (given : EachTake (IsGiven t wanted passing) all every) where
  -- of a read
  read-few : (request f : FrameParts) (sequence p : ℕ) (of : IsOfRead t request f p) (page : Option Page) → EachTake (IsAtPlace sequence (Some p)) all every
      → page_at (list_at t.history p) of.read of.moment ≡ page → served_at t p ≡ served_page t p page → takes_of sequence all ≤ parts_of page
  read-few request f sequence p of None one is served =
      takes-refused sequence all every once
      (EachTake-both (IsGiven t wanted passing) (IsAtPlace sequence (Some p)) (IsRefused sequence)
      (λ g place its at same.
      let datagram : IsDatagramOf (served_by t g (Some p)) g = subst (λ (o : Option ℕ). IsDatagramOf (served_by t g o) g) (at same) its.0 in
      (subst (λ (answer : Served). IsDatagramOf answer g) served datagram).0)
      all every given one)
  read-few request f sequence p of (Some page) one is served =
      let items = items_of_page page (t.nonce p) t.origin in
      let parts = parts_cut page.now items in
      let offsets = map (λ (part : Part). part.offset) parts in
      let few = takes-offsets sequence offsets all every once
      (EachTake-both (IsGiven t wanted passing) (IsAtPlace sequence (Some p)) (HasOffset sequence offsets)
      (λ g place its at same.
      let datagram : IsDatagramOf (served_by t g (Some p)) g = subst (λ (o : Option ℕ). IsDatagramOf (served_by t g o) g) (at same) its.0 in
      let (error, status, (part, among, carries)) = subst (λ (answer : Served). IsDatagramOf answer g) served datagram in
      subst (Contains offsets) (sym carries.offset) (Contains-map (λ (one : Part). one.offset) parts part among))
      all every given one) in
      omega (arith, few, length-map parts (λ (part : Part). part.offset), parts-counted page.now items, page-counted page (t.nonce p) t.origin (telling.nonces p))

  -- of what answers a request that was sent
  answer-few : (request f : FrameParts) (floor sequence : ℕ) (place : Option ℕ) → Answers t request floor place f → EachTake (IsAtPlace sequence place) all every → takes_of sequence all ≤ parts_at t place
  answer-few request f floor sequence None answers one =
      takes-offsets sequence (0 ∷ []) all every once
      (EachTake-both (IsGiven t wanted passing) (IsAtPlace sequence None) (HasOffset sequence (0 ∷ []))
      (λ g place its at same.
      let both : IsGiven t wanted passing g None = subst (λ (o : Option ℕ). IsGiven t wanted passing g o) (at same) its in
      alone-offset t g g.error refl both.1 both.0)
      all every given one)
  answer-few request f floor sequence (Some p) (opcode, late, of) one =
      let list = list_at t.history p in
      let page = page_at list of.read of.moment in
      let parts : parts_at t (Some p) ≡ parts_of page = ap (parts_after list) of.is_at.stands in
      subst (λ (n : ℕ). takes_of sequence all ≤ n) (sym parts)
      (read-few request f sequence p of page one refl (ap (served_move t p) of.is_at.stands))

  sent-few : (request : Option FrameParts) (f : FrameParts) (floor sequence : ℕ) (place : Option ℕ) → AnswersSent t request floor place f → EachTake (IsAtPlace sequence place) all every
      → takes_of sequence all ≤ parts_at t place
  sent-few None f floor sequence place answers one = absurd answers
  sent-few (Some request) f floor sequence place answers one = answer-few request f floor sequence place answers one

  -- each datagram from here on is one of few
  are-few : (server : Addr) (known : Known) (events : List Event) (places : List (Option ℕ)) → IsToldFrom t server known events places → AreOfList t server wanted passing events places
      → ((sequence : ℕ) (place : Option ℕ) → EachTake (IsAtPlace sequence place) all every → EachTake (IsAtPlace sequence place) events places) → EachTake (IsFew t all) events places
  are-few server known [] places told calm later = tt
  are-few server known (Silence ∷ events) places told calm later = absurd calm
  are-few server known (Sent to octets ∷ events) places told calm later = are-few server (after_sent (frame_at octets) known) events places told calm later
  are-few server known (Took from octets ∷ events) [] told calm later = absurd calm
  are-few server known (Took from octets ∷ events) (place ∷ places) told calm later =
      let f = frame_at octets in (
        by (one-place f.sequence all every once),
        are-few server (after_taken place known) events places told.1 calm.2 (λ sequence other each. (later sequence other each).1),
      )
    where
      by : (takes_of (frame_at octets).sequence all ≡ 0) ⊎ ((other : Option ℕ) × EachTake (IsAtPlace (frame_at octets).sequence other) all every)
          → takes_of (frame_at octets).sequence all ≤ parts_at t place
      by (inl none) = omega (arith, none)
      by (inr (other, each)) =
          let f = frame_at octets in
          let here : place ≡ other = (later f.sequence other each).0 refl in
          sent-few (known.asked f.sequence) f (known.floor f.sequence) f.sequence place (told.0 calm.0)
          (subst (λ (o : Option ℕ). EachTake (IsAtPlace f.sequence o) all every) (sym here) each)

-- a calm trace is still
pub calm-still : (lower : LowerLaws) (t : Telling) (server : Addr) (wanted : MruFilter) (events : List Event) (places : List (Option ℕ)) → IsTelling t → IsToldFrom t server nothing_known events places
    → IsCalm t server wanted events places → IsStill t server wanted events places
calm-still lower t server wanted events places telling told calm = record {
  passing = calm.passing;
  each = calm.each;
  few = are-few lower t wanted calm.passing events places telling calm.once (each-given lower t server wanted calm.passing nothing_known events places telling told calm.each)
      server nothing_known events places told calm.each (λ sequence place each. each);
}
