-- How a client stands amid a wire: what it asked, and what was given to it.
use Rattle.std.proofs.Common.{◌≡◌, inl, ℕ, ◌+◌, ◌<◌, ◌≤◌, ◌==◌, true, false, List, [], ◌∷◌, ◌++◌, Option, Some, None, refl, sym, subst, ◌∙◌, arith}
use Rattle.std.specs.List.{AllByRecursion}
use Rattle.std.proofs.lemmas.Bool.{cond-false, cond-true, cond_both, eq-eqb, ne_eqb}
use Rattle.edge_traits.specs.declared.port.Event.TheVariants.{Took, Silence, Sent}
use Rattle.list_telling.specs.Requests.{IsListRequest}
use Rattle.mode6_frame.specs.Frames.{FrameParts}
use Rattle.mode6_frame.specs.Places.{frame_at}
use Rattle.mrulist_coverage.specs.Tellings.{AnswersSent, Known, Telling, after_sent, after_taken}
use Rattle.net_addr.specs.Addresses.{same_addr}
use Rattle.net_addr.specs.declared.addr.Addr.{Addr}
use Rattle.recency.proofs.ListLemmas.{AllByRecursion-append, AllByRecursion-weaker}
use Rattle.server_core.specs.Control.{IsRequest}
use Rattle.wire.proofs.Lists.{HasOffer, HasOffer-before, HasOffer-behind, same_addr-eq, same_addr-refl}
use Rattle.wire.specs.Placing.{Offer, offer_to}
use Rattle.wire.specs.declared.wire.WireEvent.{WireEvent}
use Rattle.wire.specs.declared.wire.WireEvent.TheVariants.{Client, Worker}

-- the sequence number of a datagram
abbrev pub number_of : List ℕ → ℕ
number_of octets = (frame_at octets).sequence

-- a datagram answers what was asked by its sequence number, by the read at this place or by none
abbrev pub IsGood : Telling → Known → Option ℕ → List ℕ → Type 0
IsGood t known place octets = AnswersSent t (known.asked (number_of octets)) (known.floor (number_of octets)) place (frame_at octets)

-- a place, if there is one, is below this number
abbrev pub IsBelow : ℕ → Option ℕ → Type 0
IsBelow low None = Unit {0}
IsBelow low (Some place) = place < low

-- a request of a listing stands as the one that was sent last by its sequence number
pub record WasSent (known : Known) (origin : ℕ) (octets : List ℕ) : Type 0 where
  pub asked : known.asked (number_of octets) ≡ Some (frame_at octets)
  pub control : (f : FrameParts) × IsRequest octets f
  pub request : IsListRequest (frame_at octets) origin

-- what is so of an event that happened: a request was sent, and what was given to the client is among the offers
abbrev pub IsPast : Addr → ℕ → Known → List Offer → WireEvent → Type 0
IsPast client origin known offers (Client (Took from octets)) = Unit {0}
IsPast client origin known offers (Client Silence) = Unit {0}
IsPast client origin known offers (Client (Sent to octets)) = WasSent known origin octets
IsPast client origin known offers (Worker (Took from octets)) = Unit {0}
IsPast client origin known offers (Worker Silence) = Unit {0}
IsPast client origin known offers (Worker (Sent to octets)) = to ≡ client → HasOffer offers octets

-- How a client stands that has sent so many requests, where the worker's next place is not below a number.
pub record Stands (t : Telling) (client : Addr) (origin : ℕ) (known : Known) (posted low : ℕ) (offers : List Offer) (before : List WireEvent) : Type 0 where
  pub unasked : (number : ℕ) → posted < number → known.asked number ≡ None
  pub floors : (number : ℕ) → known.floor number ≤ known.seen
  pub seen : known.seen ≤ low
  pub answers : AllByRecursion (λ offer. IsGood t known offer.place offer.octets) offers
  pub below : AllByRecursion (λ offer. IsBelow low offer.place) offers
  pub past : AllByRecursion (IsPast client origin known offers) before

-- what is to be given to this address yet, with this place
pub record Pends (t : Telling) (client : Addr) (known : Known) (low : ℕ) (place : Option ℕ) (to : Addr) (grams : List (List ℕ)) : Type 0 where
  pub answers : to ≡ client → AllByRecursion (IsGood t known place) grams
  pub below : IsBelow low place

below-later : (low next : ℕ) (place : Option ℕ) → low ≤ next → IsBelow low place → IsBelow next place
below-later low next None later below = tt
below-later low next (Some place) later below = omega arith

-- what is asked was asked
good-asked : (t : Telling) (known : Known) (place : Option ℕ) (octets : List ℕ) → IsGood t known place octets → known.asked (number_of octets) ≡ None → ⊥
good-asked t known place octets good none =
    subst (λ (request : Option FrameParts). AnswersSent t request (known.floor (number_of octets)) place (frame_at octets)) none good

some_none : (f : FrameParts) → Some f ≡ None → ⊥
some_none f same = absurd (cc same)

module _ (t : Telling) (client : Addr) (origin : ℕ) where
  -- an event that says nothing
  pub stands-more : (known : Known) (posted low : ℕ) (offers : List Offer) (before : List WireEvent) (event : WireEvent) → IsPast client origin known offers event
      → Stands t client origin known posted low offers before → Stands t client origin known posted low offers (event ∷ before)
  stands-more known posted low offers before event past stands =
      record { unasked = stands.unasked; floors = stands.floors; seen = stands.seen; answers = stands.answers; below = stands.below; past = (past, stands.past) }

  -- places further on
  pub stands-later : (known : Known) (posted low next : ℕ) (offers : List Offer) (before : List WireEvent) → low ≤ next
      → Stands t client origin known posted low offers before → Stands t client origin known posted next offers before
  stands-later known posted low next offers before later stands = record {
    unasked = stands.unasked;
    floors = stands.floors;
    seen = omega (arith, stands.seen);
    answers = stands.answers;
    below = AllByRecursion-weaker (λ (offer : Offer). IsBelow low offer.place) (λ (offer : Offer). IsBelow next offer.place) (λ offer. below-later low next offer.place later) offers stands.below;
    past = stands.past;
  }

  -- after the client took a datagram
  past-taken : (place : ℕ) (known : Known) (offers : List Offer) (event : WireEvent) → IsPast client origin known offers event → IsPast client origin (after_taken (Some place) known) offers event
  past-taken place known offers (Client (Took from octets)) past = tt
  past-taken place known offers (Client Silence) past = tt
  past-taken place known offers (Client (Sent to octets)) past = record { asked = past.asked; control = past.control; request = past.request }
  past-taken place known offers (Worker (Took from octets)) past = tt
  past-taken place known offers (Worker Silence) past = tt
  past-taken place known offers (Worker (Sent to octets)) past = past

  pub stands-taken : (known : Known) (posted low : ℕ) (offers : List Offer) (before : List WireEvent) (place : Option ℕ) → IsBelow low place
      → Stands t client origin known posted low offers before → Stands t client origin (after_taken place known) posted low offers before
  stands-taken known posted low offers before None below stands = stands
  stands-taken known posted low offers before (Some place) below stands = record {
    unasked = stands.unasked;
    floors = λ number. omega (arith, stands.floors number);
    seen = omega (arith, stands.seen, below);
    answers = stands.answers;
    below = stands.below;
    past = AllByRecursion-weaker (IsPast client origin known offers) (IsPast client origin (after_taken (Some place) known) offers) (past-taken place known offers) before stands.past;
  }

  pub pends-taken : (known : Known) (low : ℕ) (took place : Option ℕ) (to : Addr) (grams : List (List ℕ)) → Pends t client known low place to grams → Pends t client (after_taken took known) low place to grams
  pends-taken known low None place to grams pends = pends
  pends-taken known low (Some seen) place to grams pends = record { answers = pends.answers; below = pends.below }

  -- after it sent the next request
  module _ (known : Known) (posted : ℕ) (request : FrameParts) (next : request.sequence ≡ posted + 1) (unasked : (number : ℕ) → posted < number → known.asked number ≡ None) where
    -- an earlier number is another
    other-number : (number : ℕ) → (known.asked number ≡ None → ⊥) → (number == request.sequence) ≡ false
    other-number number asked = ne_eqb number request.sequence (λ same. asked (unasked number (omega (arith, next, same))))

    asked-kept : (number : ℕ) → (known.asked number ≡ None → ⊥) → (after_sent request known).asked number ≡ known.asked number
    asked-kept number asked = cond-false (number == request.sequence) (Some request) (known.asked number) (other-number number asked)

    floor-kept : (number : ℕ) → (known.asked number ≡ None → ⊥) → (after_sent request known).floor number ≡ known.floor number
    floor-kept number asked = cond-false (number == request.sequence) known.seen (known.floor number) (other-number number asked)

    good-sent : (place : Option ℕ) (octets : List ℕ) → IsGood t known place octets → IsGood t (after_sent request known) place octets
    good-sent place octets good =
        let asked = good-asked t known place octets good in
        let n = number_of octets in
        subst (λ (one : Option FrameParts). AnswersSent t one ((after_sent request known).floor n) place (frame_at octets)) (sym (asked-kept n asked))
        (subst (λ (floor : ℕ). AnswersSent t (known.asked n) floor place (frame_at octets)) (sym (floor-kept n asked)) good)

    past-sent : (offers : List Offer) (event : WireEvent) → IsPast client origin known offers event → IsPast client origin (after_sent request known) offers event
    past-sent offers (Client (Took from octets)) past = tt
    past-sent offers (Client Silence) past = tt
    past-sent offers (Client (Sent to octets)) past = record {
      asked = asked-kept (number_of octets) (λ none. some_none (frame_at octets) (sym past.asked ∙ none)) ∙ past.asked;
      control = past.control;
      request = past.request;
    }
    past-sent offers (Worker (Took from octets)) past = tt
    past-sent offers (Worker Silence) past = tt
    past-sent offers (Worker (Sent to octets)) past = past

    unasked-sent : (number : ℕ) → posted + 1 < number → (after_sent request known).asked number ≡ None
    unasked-sent number beyond =
        cond-false (number == request.sequence) (Some request) (known.asked number) (ne_eqb number request.sequence (λ same. omega (arith, next, same, beyond))) ∙ unasked number (omega arith)

    floors-sent : ((number : ℕ) → known.floor number ≤ known.seen) → (number : ℕ) → (after_sent request known).floor number ≤ known.seen
    floors-sent floors number = cond_both (number == request.sequence) known.seen (known.floor number) (λ (floor : ℕ). floor ≤ known.seen) (λ _. omega arith) (λ _. floors number)

  pub stands-sent : (known : Known) (posted low : ℕ) (offers : List Offer) (before : List WireEvent) (to : Addr) (octets : List ℕ) → number_of octets ≡ posted + 1
      → ((f : FrameParts) × IsRequest octets f) → IsListRequest (frame_at octets) origin
      → Stands t client origin known posted low offers before → Stands t client origin (after_sent (frame_at octets) known) (posted + 1) low offers (Client (Sent to octets) ∷ before)
  stands-sent known posted low offers before to octets next control request stands =
      let f = frame_at octets in
      let later = after_sent f known in
      record {
        unasked = unasked-sent known posted f next stands.unasked;
        floors = floors-sent known posted f next stands.unasked stands.floors;
        seen = stands.seen;
        answers = AllByRecursion-weaker (λ (offer : Offer). IsGood t known offer.place offer.octets) (λ (offer : Offer). IsGood t later offer.place offer.octets)
            (λ offer. good-sent known posted f next stands.unasked offer.place offer.octets) offers stands.answers;
        below = stands.below;
        past = (
          record { asked = cond-true (f.sequence == f.sequence) (Some f) (known.asked f.sequence) (eq-eqb f.sequence f.sequence refl); control = control; request = request },
          AllByRecursion-weaker (IsPast client origin known offers) (IsPast client origin later offers) (past-sent known posted f next stands.unasked offers) before stands.past,
        );
      }

  pub pends-sent : (known : Known) (posted low : ℕ) (place : Option ℕ) (to : Addr) (grams : List (List ℕ)) (request : FrameParts) → request.sequence ≡ posted + 1
      → ((number : ℕ) → posted < number → known.asked number ≡ None) → Pends t client known low place to grams → Pends t client (after_sent request known) low place to grams
  pends-sent known posted low place to grams request next unasked pends = record {
    answers = λ same. AllByRecursion-weaker (IsGood t known place) (IsGood t (after_sent request known) place) (good-sent known posted request next unasked place) grams (pends.answers same);
    below = pends.below;
  }

  -- after the worker gave a datagram
  past-offered : (known : Known) (offers more : List Offer) (event : WireEvent) → IsPast client origin known offers event → IsPast client origin known (offers ++ more) event
  past-offered known offers more (Client (Took from octets)) past = tt
  past-offered known offers more (Client Silence) past = tt
  past-offered known offers more (Client (Sent to octets)) past = past
  past-offered known offers more (Worker (Took from octets)) past = tt
  past-offered known offers more (Worker Silence) past = tt
  past-offered known offers more (Worker (Sent to octets)) past = λ same. HasOffer-before offers more octets (past same)

  -- it is offered where it was given to the client
  offered : (place : Option ℕ) (to : Addr) (octets : List ℕ) → to ≡ client → HasOffer (offer_to client place to octets) octets
  offered place to octets same =
      let is : same_addr client to ≡ true = subst (λ (addr : Addr). same_addr client addr ≡ true) (sym same) (same_addr-refl client) in
      let one : Offer = record { place = place; octets = octets } in
      subst (λ (offers : List Offer). HasOffer offers octets) (sym (cond-true (same_addr client to) (one ∷ []) [] is)) (inl refl)

  -- and what is so of it where it was given to the client is so of what is offered
  offered-so : (P : Offer → Type 0) (place : Option ℕ) (to : Addr) (octets : List ℕ) → (to ≡ client → P (record { place = place; octets = octets })) → AllByRecursion P (offer_to client place to octets)
  offered-so P place to octets so =
      let one : Offer = record { place = place; octets = octets } in
      cond_both (same_addr client to) (one ∷ []) [] (AllByRecursion P) (λ same. (so (sym (same_addr-eq client to same)), tt)) (λ _. tt)

  pub stands-given : (known : Known) (posted low : ℕ) (offers : List Offer) (before : List WireEvent) (place : Option ℕ) (to : Addr) (octets : List ℕ) → (to ≡ client → IsGood t known place octets) → IsBelow low place
      → Stands t client origin known posted low offers before → Stands t client origin known posted low (offers ++ offer_to client place to octets) (Worker (Sent to octets) ∷ before)
  stands-given known posted low offers before place to octets good below stands =
      let more = offer_to client place to octets in
      record {
        unasked = stands.unasked;
        floors = stands.floors;
        seen = stands.seen;
        answers = AllByRecursion-append (λ (offer : Offer). IsGood t known offer.place offer.octets) offers more stands.answers
            (offered-so (λ (offer : Offer). IsGood t known offer.place offer.octets) place to octets good);
        below = AllByRecursion-append (λ (offer : Offer). IsBelow low offer.place) offers more stands.below (offered-so (λ (offer : Offer). IsBelow low offer.place) place to octets (λ _. below));
        past = (
          λ same. HasOffer-behind offers more octets (offered place to octets same),
          AllByRecursion-weaker (IsPast client origin known offers) (IsPast client origin known (offers ++ more)) (past-offered known offers more) before stands.past,
        );
      }
