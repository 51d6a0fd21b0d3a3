-- All that a client took over an honest wire is told: by induction over what happened.
use Rattle.std.proofs.Common.{◌≡◌, ℕ, ◌+◌, ◌≤◌, List, [], ◌∷◌, ◌++◌, take, Option, Some, None, refl, sym, subst, ◌∙◌, arith}
use Rattle.std.specs.Prelude.{Contains}
use Rattle.edge_traits.specs.declared.port.Event.{Event}
use Rattle.edge_traits.specs.declared.port.Event.TheVariants.{Took, Silence, Sent}
use Rattle.list_telling.specs.Histories.{IsServersHistory, IsTold, telling_of}
use Rattle.mode6_frame.specs.Frames.{FrameParts}
use Rattle.mode6_frame.specs.Places.{frame_at}
use Rattle.mrulist_coverage.specs.Tellings.{AnswersSent, IsToldFrom, Known, Telling, after_sent, after_taken, nothing_known}
use Rattle.net_addr.specs.declared.addr.Addr.{Addr}
use Rattle.server_core.specs.declared.op.Op.{Op}
use Rattle.server_core.specs.States.{ServerState}
use Rattle.shared_book.specs.declared.common.Common.{Common}
use Rattle.wire.proofs.Told.{IsAnswerTold, IsAsked, act-told}
use Rattle.wire.proofs.Lists.{all-at, all-by, place_in-any, place_in-so}
use Rattle.wire.proofs.Standing.{IsBelow, IsGood, IsPast, Pends, Stands, WasSent, number_of, pends-sent, pends-taken, stands-given, stands-later, stands-more, stands-sent, stands-taken}
use Rattle.wire.proofs.Working.{Begins, IsBetween, Works, sent-none, sent-one, silent-works, took-act, took-before, took-carried}
use Rattle.wire.specs.Placing.{Offer, offer_to, place_in, places_by, places_in, read_place}
use Rattle.wire.specs.Wires.{AreCarried, AreListing, IsHonest, IsWorkers, client_events, worker_events}
use Rattle.wire.specs.declared.wire.WireEvent.{WireEvent}
use Rattle.wire.specs.declared.wire.WireEvent.TheVariants.{Client, Worker}
use Rattle.worker.specs.declared.act.Act.{Act}

between-below : (low high : ℕ) (place : Option ℕ) → IsBetween low high place → IsBelow high place
between-below low high None between = tt
between-below low high (Some place) between = between.1

-- a place between two is not below what is below the first
between-floor : (floor low high : ℕ) (place : Option ℕ) → floor ≤ low → IsBetween low high place → (number : ℕ) → place ≡ Some number → floor ≤ number
between-floor floor low high None beneath between number same = absurd (cc same)
between-floor floor low high (Some place) beneath between number same =
    let is : place ≡ number = cc same in
    omega (arith, is, beneath, between.0)

-- nothing is to be given
nothing-pends : (t : Telling) (client : Addr) (known : Known) (low : ℕ) (to : Addr) → Pends t client known low None to []
nothing-pends t client known low to = record { answers = λ _. tt; below = tt }

-- a datagram that is told answers the request that was sent
told-good : (t : Telling) (known : Known) (origin : ℕ) (octets gram : List ℕ) (place : Option ℕ) → WasSent known origin octets → IsTold t octets gram place
    → ((number : ℕ) → place ≡ Some number → known.floor (number_of octets) ≤ number) → IsGood t known place gram
told-good t known origin octets gram place sent told late =
    let f = frame_at gram in
    let good : AnswersSent t (known.asked (number_of octets)) (known.floor (number_of octets)) place f =
    subst (λ (request : Option FrameParts). AnswersSent t request (known.floor (number_of octets)) place f) (sym sent.asked) (told.answers (known.floor (number_of octets)) late) in
    subst (λ (number : ℕ). AnswersSent t (known.asked number) (known.floor number) place f) (sym told.sequence) good

module _ (told : IsAnswerTold) (common : Common) (opening : ServerState) (history : List Op) (server client : Addr) (is_history : IsServersHistory opening history) (origin : common.origin ≡ opening.origin) where
  abbrev its_telling : Telling
  its_telling = telling_of common.salt client.ip opening history

  -- what an act gives answers the request whose datagram it took
  act-pends : (known : Known) (posted low : ℕ) (offers : List Offer) (before : List WireEvent) (act : Act) (acts : List Act) (from : Addr) (octets : List ℕ) (events : List Event)
      → Stands its_telling client opening.origin.0 known posted low offers before → (from ≡ client → Contains before (Client (Sent server octets)))
      → (begins : Begins common opening history low act acts from octets events) → Pends its_telling client known begins.next (read_place act.kind) act.from (take act.given begins.answer)
  act-pends known posted low offers before act acts from octets events stands carried begins = record {
    answers = λ same.
        let from_is : from ≡ client = sym begins.from_is ∙ same in
        let sent : WasSent known opening.origin.0 octets = all-at (IsPast client opening.origin.0 known offers) before (Client (Sent server octets)) stands.past (carried from_is) in
        let asked : IsAsked common opening history octets = record { history_is = is_history; origin = origin; control = sent.control; request = sent.request } in
        let floor : known.floor (number_of octets) ≤ low = omega (arith, stands.floors (number_of octets), stands.seen) in
        all-by (IsGood its_telling known (read_place act.kind)) (take act.given begins.answer)
        (λ gram among.
        told-good its_telling known opening.origin.0 octets gram (read_place act.kind) sent
        (subst (λ (addr : Addr). IsTold (telling_of common.salt addr.ip opening history) octets gram (read_place act.kind)) same
        (act-told told common opening history act octets asked begins.answer act.kind gram begins.is_act among))
        (between-floor (known.floor (number_of octets)) low begins.next (read_place act.kind) floor begins.place));
    below = between-below low begins.next (read_place act.kind) begins.place;
  }

  -- what the client takes from here on is told
  pub walk : (wire before : List WireEvent) (known : Known) (posted low : ℕ) (acts : List Act) (place : Option ℕ) (offers : List Offer) (to : Addr) (grams : List (List ℕ))
      → AreCarried server client before wire → AreListing server opening.origin.0 posted (client_events wire)
      → Stands its_telling client opening.origin.0 known posted low offers before → Pends its_telling client known low place to grams
      → Works common opening history low acts to grams (worker_events wire)
      → IsToldFrom its_telling server known (client_events wire) (places_by client acts place offers wire)
  walk [] before known posted low acts place offers to grams carried listing stands pends works = refl
  walk (Client (Took from octets) ∷ wire) before known posted low acts place offers to grams carried listing stands pends works =
      let found = place_in offers octets in
      let below : IsBelow low found = place_in-any (IsBelow low) offers octets tt stands.below in
      let here : (from ≡ server → AnswersSent its_telling (known.asked (number_of octets)) (known.floor (number_of octets)) found (frame_at octets)) =
      λ from_is. place_in-so (IsGood its_telling known) offers octets stands.answers
      (all-at (IsPast client opening.origin.0 known offers) before (Worker (Sent client octets)) stands.past (carried.0 from_is) refl) in (
        here,
        walk wire (Client (Took from octets) ∷ before) (after_taken found known) posted low acts place offers to grams carried.1 listing
            (stands-taken its_telling client opening.origin.0 known posted low offers (Client (Took from octets) ∷ before) found below
            (stands-more its_telling client opening.origin.0 known posted low offers before (Client (Took from octets)) tt stands))
            (pends-taken its_telling client opening.origin.0 known low found place to grams pends) works,
      )
  walk (Client Silence ∷ wire) before known posted low acts place offers to grams carried listing stands pends works =
      walk wire (Client Silence ∷ before) known posted low acts place offers to grams carried listing
      (stands-more its_telling client opening.origin.0 known posted low offers before (Client Silence) tt stands) pends works
  walk (Client (Sent whom octets) ∷ wire) before known posted low acts place offers to grams carried (whom_is, next, control, request, listing) stands pends works =
      walk wire (Client (Sent whom octets) ∷ before) (after_sent (frame_at octets) known) (posted + 1) low acts place offers to grams carried listing
      (stands-sent its_telling client opening.origin.0 known posted low offers before whom octets next control request stands)
      (pends-sent its_telling client opening.origin.0 known posted low place to grams (frame_at octets) next stands.unasked pends) works
  walk (Worker (Took from octets) ∷ wire) before known posted low acts place offers to (gram ∷ grams) carried listing stands pends works =
      absurd (took-before common opening history low acts to from octets gram grams (worker_events wire) works)
  walk (Worker (Took from octets) ∷ wire) before known posted low [] place offers to [] carried listing stands pends works =
      walk wire (Worker (Took from octets) ∷ before) known posted low [] None offers to [] carried.1 listing
      (stands-more its_telling client opening.origin.0 known posted low offers before (Worker (Took from octets)) tt stands)
      (nothing-pends its_telling client known low to) (took-carried common opening history low to from octets (worker_events wire) works)
  walk (Worker (Took from octets) ∷ wire) before known posted low (act ∷ acts) place offers to [] carried listing stands pends works =
      let begins = took-act common opening history low act acts to from octets (worker_events wire) works in
      walk wire (Worker (Took from octets) ∷ before) known posted begins.next acts (read_place act.kind) offers act.from (take act.given begins.answer) carried.1 listing
      (stands-later its_telling client opening.origin.0 known posted low begins.next offers (Worker (Took from octets) ∷ before) begins.later
      (stands-more its_telling client opening.origin.0 known posted low offers before (Worker (Took from octets)) tt stands))
      (act-pends known posted low offers before act acts from octets (worker_events wire) stands carried.0 begins) begins.works
  walk (Worker Silence ∷ wire) before known posted low acts place offers to grams carried listing stands pends works =
      walk wire (Worker Silence ∷ before) known posted low acts place offers to grams carried listing
      (stands-more its_telling client opening.origin.0 known posted low offers before (Worker Silence) tt stands) pends
      (silent-works common opening history low acts to grams (worker_events wire) works)
  walk (Worker (Sent whom octets) ∷ wire) before known posted low acts place offers to [] carried listing stands pends works =
      absurd (sent-none common opening history low acts to whom octets (worker_events wire) works)
  walk (Worker (Sent whom octets) ∷ wire) before known posted low acts place offers to (gram ∷ grams) carried listing stands pends works =
      let (whom_is, octets_are, rest) = sent-one common opening history low acts to whom octets gram grams (worker_events wire) works in
      let good : (whom ≡ client → IsGood its_telling known place octets) =
      λ same. subst (IsGood its_telling known place) (sym octets_are) (pends.answers (sym whom_is ∙ same)).0 in
      walk wire (Worker (Sent whom octets) ∷ before) known posted low acts place (offers ++ offer_to client place whom octets) to grams carried listing
      (stands-given its_telling client opening.origin.0 known posted low offers before place whom octets good pends.below stands)
      (record { answers = λ same. (pends.answers same).1; below = pends.below }) rest

  -- over the whole wire
  pub wire-told : (acts : List Act) (wire : List WireEvent) → IsWorkers common opening history acts wire → IsHonest server client opening.origin.0 wire
      → IsToldFrom its_telling server nothing_known (client_events wire) (places_in client acts wire)
  wire-told acts wire is honest =
      walk wire [] nothing_known 0 0 acts None [] client [] honest.carried honest.listing
      (record { unasked = λ number beyond. refl; floors = λ number. omega arith; seen = omega arith; answers = tt; below = tt; past = tt })
      (nothing-pends its_telling client nothing_known 0 client)
      (record { told = is.told; carried = is.carried; answered = is.answered; heard_are = is.heard_are; takes = is.takes; climb = is.climb })
