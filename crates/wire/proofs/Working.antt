-- What a worker does yet, as the events at its port come.
use Rattle.std.proofs.Common.{◌≡◌, ℕ, ◌+◌, ◌<◌, ◌≤◌, List, [], ◌∷◌, ◌++◌, length, take, Option, Some, None, refl, ap, subst, ◌∙◌, arith, append_assoc}
use Rattle.std.specs.List.{AllByRecursion}
use Rattle.edge_traits.specs.declared.port.Event.{Event}
use Rattle.edge_traits.specs.declared.port.Event.TheVariants.{Took, Silence, Sent}
use Rattle.giving.specs.Gives.{sent_events}
use Rattle.net_addr.specs.declared.addr.Addr.{Addr}
use Rattle.server_core.specs.declared.op.Op.{Op}
use Rattle.server_core.specs.States.{ServerState}
use Rattle.shared_book.specs.declared.common.Common.{Common}
use Rattle.wire.specs.Placing.{read_place}
use Rattle.wire.specs.Wires.{IsTake}
use Rattle.worker.specs.declared.act.Act.{Act}
use Rattle.worker.specs.declared.act.ActKind.{ActKind}
use Rattle.worker.specs.declared.act.ActKind.TheVariants.{Time, Control, Read, Silent, Dropped}
use Rattle.worker.specs.declared.act.ReadKind.TheVariants.{Ignored, Prohibited, Refused, Page}
use Rattle.worker.specs.Acts.{AreActs, Climbs, IsAct, place_in, places_of}
use Rattle.worker.specs.Doings.{heard}

-- a worker gives these datagrams to this address, then does these acts at places from here on, and then may take one that
-- it carries: that is what happens yet at its port
pub record Works (common : Common) (opening : ServerState) (history : List Op) (low : ℕ) (acts : List Act) (to : Addr) (grams : List (List ℕ)) (events : List Event) : Type 0 where
  pub told : List Event
  pub carried : List Event
  pub answered : AreActs common opening history acts told
  pub heard_are : heard events ≡ sent_events to grams ++ (told ++ carried)
  pub takes : AllByRecursion IsTake carried
  pub climb : Climbs low (places_of acts) (length history)

-- a place, if there is one, is from here on and below there
abbrev pub IsBetween : ℕ → ℕ → Option ℕ → Type 0
IsBetween low high None = Unit {0}
IsBetween low high (Some place) = (low ≤ place) × (place < high)

-- the places behind that of an act of this kind
record Climbed (low : ℕ) (kind : ActKind) (places : List ℕ) (high : ℕ) : Type 0 where
  next : ℕ
  later : low ≤ next
  climb : Climbs next places high
  place : IsBetween low next (read_place kind)

climb-kind : (low : ℕ) (kind : ActKind) (places : List ℕ) (high : ℕ) → Climbs low (place_in kind ++ places) high → Climbed low kind places high
climb-kind low (Time place xmt verdict) places high (from, rest) = record { next = place + 1; later = omega arith; climb = rest; place = tt }
climb-kind low (Control place ignored) places high (from, rest) = record { next = place + 1; later = omega arith; climb = rest; place = tt }
climb-kind low (Read place Ignored) places high (from, rest) = record { next = place + 1; later = omega arith; climb = rest; place = tt }
climb-kind low (Read place Prohibited) places high (from, rest) = record { next = place + 1; later = omega arith; climb = rest; place = tt }
climb-kind low (Read place Refused) places high (from, rest) = record { next = place + 1; later = omega arith; climb = rest; place = (from, omega arith) }
climb-kind low (Read place Page) places high (from, rest) = record { next = place + 1; later = omega arith; climb = rest; place = (from, omega arith) }
climb-kind low (Silent why) places high climbs = record { next = low; later = omega arith; climb = climbs; place = tt }
climb-kind low (Dropped None) places high climbs = record { next = low; later = omega arith; climb = climbs; place = tt }
climb-kind low (Dropped (Some place)) places high (from, rest) = record { next = place + 1; later = omega arith; climb = rest; place = (from, omega arith) }

-- a front of takes has no give
no-give : (to : Addr) (octets : List ℕ) (events carried : List Event) → Sent to octets ∷ events ≡ carried → AllByRecursion IsTake carried → ⊥
no-give to octets events [] same takes = absurd (cc same)
no-give to octets events (Took from taken ∷ carried) same takes = absurd (cc same)
no-give to octets events (Silence ∷ carried) same takes = absurd (cc same)
no-give to octets events (Sent whom given ∷ carried) same takes = takes.0

-- what is left of takes behind the first
record Behind (events carried : List Event) : Type 0 where
  rest : List Event
  same : events ≡ rest
  takes : AllByRecursion IsTake rest

behind-take : (event : Event) (events carried : List Event) → event ∷ events ≡ carried → AllByRecursion IsTake carried → Behind events carried
behind-take event events [] same takes = absurd (cc same)
behind-take event events (one ∷ carried) same takes = record { rest = carried; same = cc same; takes = takes.1 }

-- what a worker does behind an act whose datagram it took
pub record Begins (common : Common) (opening : ServerState) (history : List Op) (low : ℕ) (act : Act) (acts : List Act) (from : Addr) (octets : List ℕ) (events : List Event) : Type 0 where
  pub answer : List (List ℕ)
  pub from_is : act.from ≡ from
  pub is_act : IsAct common opening history act octets answer
  pub next : ℕ
  pub later : low ≤ next
  pub place : IsBetween low next (read_place act.kind)
  pub works : Works common opening history next acts act.from (take act.given answer) events

module _ (common : Common) (opening : ServerState) (history : List Op) (low : ℕ) where
  -- it gives nothing where there is nothing to be given
  pub sent-none : (acts : List Act) (to whom : Addr) (octets : List ℕ) (events : List Event) → Works common opening history low acts to [] (Sent whom octets ∷ events) → ⊥
  sent-none [] to whom octets events works =
      no-give whom octets (heard events) works.carried (works.heard_are ∙ ap (λ (told : List Event). told ++ works.carried) works.answered) works.takes
  sent-none (act ∷ acts) to whom octets events works =
      let told = works.answered.4 in
      absurd (cc (works.heard_are ∙ ap (λ (told : List Event). told ++ works.carried) told))

  -- what it gives is what is to be given first
  pub sent-one : (acts : List Act) (to whom : Addr) (octets gram : List ℕ) (grams : List (List ℕ)) (events : List Event) → Works common opening history low acts to (gram ∷ grams) (Sent whom octets ∷ events)
      → (whom ≡ to) × (octets ≡ gram) × Works common opening history low acts to grams events
  sent-one acts to whom octets gram grams events works = (
    cc (works.heard_are),
    cc (works.heard_are),
    record { told = works.told; carried = works.carried; answered = works.answered; heard_are = cc (works.heard_are); takes = works.takes; climb = works.climb },
  )

  -- it takes nothing before that was given
  pub took-before : (acts : List Act) (to from : Addr) (octets gram : List ℕ) (grams : List (List ℕ)) (events : List Event) → Works common opening history low acts to (gram ∷ grams) (Took from octets ∷ events) → ⊥
  took-before acts to from octets gram grams events works = absurd (cc (works.heard_are))

  -- what it takes without an act is carried
  pub took-carried : (to from : Addr) (octets : List ℕ) (events : List Event) → Works common opening history low [] to [] (Took from octets ∷ events) → Works common opening history low [] to [] events
  took-carried to from octets events works =
      let rest = behind-take (Took from octets) (heard events) works.carried (works.heard_are ∙ ap (λ (told : List Event). told ++ works.carried) works.answered) works.takes in
      record { told = []; carried = rest.rest; answered = refl; heard_are = rest.same; takes = rest.takes; climb = works.climb }

  -- else it is the datagram of its next act
  pub took-act : (act : Act) (acts : List Act) (to from : Addr) (octets : List ℕ) (events : List Event) → Works common opening history low (act ∷ acts) to [] (Took from octets ∷ events)
      → Begins common opening history low act acts from octets events
  took-act act acts to from octets events works =
      let its = works.answered.0 in
      let answer = works.answered.1 in
      let later = works.answered.2 in
      let sent = sent_events act.from (take act.given answer) in
      let told : works.told ≡ Took act.from its ∷ (sent ++ later) = works.answered.4 in
      let same : Took from octets ∷ heard events ≡ Took act.from its ∷ ((sent ++ later) ++ works.carried) = works.heard_are ∙ ap (λ (told : List Event). told ++ works.carried) told in
      let octets_are : its ≡ octets = cc same in
      let rest : heard events ≡ (sent ++ later) ++ works.carried = cc same in
      let climbed = climb-kind low act.kind (places_of acts) (length history) works.climb in
      record {
        answer = answer;
        from_is = cc same;
        is_act = subst (λ (taken : List ℕ). IsAct common opening history act taken answer) octets_are works.answered.3;
        next = climbed.next;
        later = climbed.later;
        place = climbed.place;
        works = record {
          told = later;
          carried = works.carried;
          answered = works.answered.5;
          heard_are = rest ∙ append_assoc sent later works.carried;
          takes = works.takes;
          climb = climbed.climb;
        };
      }

  -- where nothing comes for a while, nothing is done
  pub silent-works : (acts : List Act) (to : Addr) (grams : List (List ℕ)) (events : List Event) → Works common opening history low acts to grams (Silence ∷ events) → Works common opening history low acts to grams events
  silent-works acts to grams events works =
      record { told = works.told; carried = works.carried; answered = works.answered; heard_are = works.heard_are; takes = works.takes; climb = works.climb }
