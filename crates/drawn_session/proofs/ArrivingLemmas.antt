-- Who arrives in a history is who asks for the time in the datagrams that its acts answer.
use Rattle.std.proofs.Common.{◌≡◌, ◌∙◌, inl, inr, ℕ, zero, suc, ◌<◌, ◌≤◌, ◌==◌, Bool, true, false, ◌||◌, Some, List, [], ◌∷◌, slice_get, refl, sym, ap, subst, arith, eqb-true, eq-eqb}
use Rattle.std.specs.Cmp.{both_ways}
use Rattle.std.specs.List.{AllByRecursion, list_any}
use Rattle.std.proofs.lemmas.Bool.{and_from, and_parts, cases_eq, cases_lt, or_cases}
use Rattle.draws.specs.Clients.{client_addr, client_ip}
use Rattle.draws.specs.declared.clients.TheConstants.{CLIENTS}
use Rattle.net_addr.specs.declared.addr.Addr.{Addr}
use Rattle.net_addr.proofs.AddressLemmas.{same_ip-eq, same_ip-refl}
use Rattle.net_addr.specs.Addresses.{same_ip}
use Rattle.net_addr.specs.declared.addr.Ip.{Ip}
use Rattle.responders.proofs.PlaceLemmas.{more_times, times-append}
use Rattle.server_core.specs.declared.class.Ask.{Ask}
use Rattle.server_core.specs.declared.op.Op.{Op}
use Rattle.server_core.specs.declared.op.Op.TheVariants.{Publish, Arrive, Look, Read, Sweep, Stop}
use Rattle.turnstile.specs.Histories.{times}
use Rattle.worker.specs.Acts.{place_in, places_of}
use Rattle.worker.specs.declared.act.Act.{Act}
use Rattle.drawn_session.specs.Counts.{asks, is_kind}
use Rattle.drawn_session.specs.Datagrams.{IsDrawn}
use Rattle.drawn_session.specs.declared.datagrams.DrawnDatagram.{DrawnDatagram}
use Rattle.drawn_session.specs.declared.datagrams.Kind.{Kind}
use Rattle.drawn_session.specs.declared.datagrams.Kind.TheVariants.{Cut, Control, Time}
use Rattle.drawn_session.proofs.DrawingLemmas.{client_ip-one}
use Rattle.drawn_session.proofs.Matching.{AreActsFor, IsActBy, IsOfClient, IsTimeFor, arrives, is_arrival_of}

or-first : (a b : Bool) → a ≡ true → (a || b) ≡ true
or-first true b is = refl
or-first false b is = absurd (cc is)

or-second : (a b : Bool) → b ≡ true → (a || b) ≡ true
or-second true b is = refl
or-second false b is = is

-- what stands at a place of a list and passes a test is found
any-at : {X : Type 0} (test : X → Bool) (xs : List X) (place : ℕ) (x : X) → slice_get xs place ≡ Some x → test x ≡ true → list_any test xs ≡ true
any-at test [] place x here is = absurd (cc here)
any-at test (y ∷ xs) zero x here is =
    let same : y ≡ x = cc here in
    or-first (test y) (list_any test xs) (ap test same ∙ is)
any-at test (y ∷ xs) (suc place) x here is = or-second (test y) (list_any test xs) (any-at test xs place x here is)

-- what is found stands at a place
placed-any : {X : Type 0} (test : X → Bool) (xs : List X) → list_any test xs ≡ true → (place : ℕ) × (x : X) × (slice_get xs place ≡ Some x) × (test x ≡ true)
placed-any test [] is = absurd (cc is)
placed-any {X} test (y ∷ xs) is =
    elim (or_cases (test y) (list_any test xs) is) as (λ _. (place : ℕ) × (x : X) × (slice_get (y ∷ xs) place ≡ Some x) × (test x ≡ true)) [
      | inl first ↦ (zero, y, refl, first)
      | inr later ↦ let found = placed-any test xs later in (suc found.0, found.1, found.2, found.3)
    ]

-- what holds at each place holds of each element
all-placed : {X : Type 0} (P : X → Type 0) (xs : List X) → ((place : ℕ) (x : X) → slice_get xs place ≡ Some x → P x) → AllByRecursion P xs
all-placed P [] each = tt
all-placed P (x ∷ xs) each = (each zero x refl, all-placed P xs (λ place y here. each (suc place) y here))

-- a place that is named alone is the one named
named-alone : (place other : ℕ) → 1 ≤ times place (other ∷ []) → other ≡ place
named-alone place other named =
    elim (cases_eq other place) as (λ _. other ≡ place) [
      | inl same ↦ same
      | inr apart ↦ absurd (omega (arith, named, more_times place other [] apart))
    ]

-- someone arrives at a place of a history
abbrev ArrivesAt : List Op → ℕ → Ask → ℕ → Type 0
ArrivesAt history place ask moment = slice_get history place ≡ Some (Arrive ask moment)

-- an act that names a place at which someone arrives is that of a request for the time from there
act-arrives : (history : List Op) (kind : Kind) (client : ℕ) (act : Act) (place : ℕ) (ask : Ask) (moment : ℕ) → IsActBy history kind client act → ArrivesAt history place ask moment → 1 ≤ times place (place_in act.kind)
    → (is_kind Time kind ≡ true) × (ask.from ≡ client_addr client)
act-arrives history Time client act place ask moment by here named =
    let same : by.place ≡ place = named-alone place by.place (subst (λ (places : List ℕ). 1 ≤ times place places) by.place_is named) in
    let stands : slice_get history by.place ≡ Some (Arrive by.ask by.moment) = by.stands in
    let alike : Some (Arrive by.ask by.moment) ≡ Some (Arrive ask moment) = sym stands ∙ ap (slice_get history) same ∙ here in
    let asked : ask ≡ by.ask = cc alike in
    (refl, ap (λ (a : Ask). a.from) asked ∙ by.from_is)
act-arrives history Control client act place ask moment by here named =
    let same : by.place ≡ place = named-alone place by.place (subst (λ (places : List ℕ). 1 ≤ times place places) by.place_is named) in
    let stands : slice_get history by.place ≡ Some (Look by.asked by.context) = by.stands in
    let alike : Some (Look by.asked by.context) ≡ Some (Arrive ask moment) = sym stands ∙ ap (slice_get history) same ∙ here in
    absurd (cc alike)
act-arrives history Cut client act place ask moment by here named =
    let none : 1 ≤ times place [] = subst (λ (places : List ℕ). 1 ≤ times place places) by.placeless named in
    absurd (omega (arith, none))

-- one who arrives at a place that is named by an act is a client that asks for the time
arrival-asks : (history : List Op) (ds : List DrawnDatagram) (acts : List Act) (place : ℕ) (ask : Ask) (moment : ℕ) → AreActsFor history ds acts → AllByRecursion IsDrawn ds → ArrivesAt history place ask moment
    → 1 ≤ times place (places_of acts) → (client : ℕ) × (client < CLIENTS) × (ask.from ≡ client_addr client) × (asks ds client ≡ true)
arrival-asks history [] [] place ask moment are drawn here named = absurd (omega (arith, named))
arrival-asks history [] (act ∷ acts) place ask moment are drawn here named = absurd are
arrival-asks history (d ∷ ds) [] place ask moment are drawn here named = absurd are
arrival-asks history (d ∷ ds) (act ∷ acts) place ask moment are drawn here named =
    let whole = times-append place (place_in act.kind) (places_of acts) in
    elim (cases_lt 0 (times place (place_in act.kind))) as (λ _. (client : ℕ) × (client < CLIENTS) × (ask.from ≡ client_addr client) × (asks (d ∷ ds) client ≡ true)) [
      | inl first ↦
          let by = act-arrives history d.kind d.client act place ask moment are.0 here first in
          (d.client, drawn.0.named, by.1, or-first _ _ (and_from _ _ by.0 (eq-eqb d.client d.client refl)))
      | inr none ↦
          let later = arrival-asks history ds acts place ask moment are.1 drawn.1 here (omega (arith, whole, none, named)) in
          (later.0, later.1, later.2, or-second _ _ later.3)
    ]

-- the act of a request for the time is one for its client
time-act : (history : List Op) (kind : Kind) (client : ℕ) (act : Act) → IsActBy history kind client act → is_kind Time kind ≡ true → IsTimeFor history client act
time-act history Time client act by is = by
time-act history Control client act by is = absurd (cc is)
time-act history Cut client act by is = absurd (cc is)

-- a client that asks for the time arrives
asked-arrives : (history : List Op) (ds : List DrawnDatagram) (acts : List Act) (client : ℕ) → AreActsFor history ds acts → asks ds client ≡ true
    → (place : ℕ) × (ask : Ask) × (moment : ℕ) × ArrivesAt history place ask moment × (ask.from ≡ client_addr client)
asked-arrives history [] acts client are is = absurd (cc is)
asked-arrives history (d ∷ ds) [] client are is = absurd are
asked-arrives history (d ∷ ds) (act ∷ acts) client are is =
    elim (or_cases _ (asks ds client) is) as (λ _. (place : ℕ) × (ask : Ask) × (moment : ℕ) × ArrivesAt history place ask moment × (ask.from ≡ client_addr client)) [
      | inl first ↦
          let both = and_parts (is_kind Time d.kind) (d.client == client) first in
          let time = time-act history d.kind d.client act are.0 both.0 in
          (time.place, time.ask, time.moment, time.stands, time.from_is ∙ ap client_addr (eqb-true d.client client both.1))
      | inr later ↦ asked-arrives history ds acts client are.1 later
    ]

-- acts name each place at which someone arrives
abbrev pub NameArrivals : List Op → List Act → Type 0
NameArrivals history acts = (place : ℕ) (ask : Ask) (moment : ℕ) → ArrivesAt history place ask moment → 1 ≤ times place (places_of acts)

module _ (history : List Op) (ds : List DrawnDatagram) (acts : List Act) (are : AreActsFor history ds acts) (drawn : AllByRecursion IsDrawn ds) (named : NameArrivals history acts) where
  of-client : (place : ℕ) (op : Op) → slice_get history place ≡ Some op → IsOfClient op
  of-client place (Arrive ask moment) here =
      let found = arrival-asks history ds acts place ask moment are drawn here (named place ask moment here) in
      (found.0, found.1, found.2)
  of-client place (Publish boxed) here = tt
  of-client place (Look asked context) here = tt
  of-client place (Read ask moment) here = tt
  of-client place (Sweep moment) here = tt
  of-client place (Stop stop) here = tt

  -- each one who arrives is a client
  pub clients-arrive : AllByRecursion IsOfClient history
  clients-arrive = all-placed IsOfClient history of-client

  arrival-of : (client place : ℕ) (op : Op) → slice_get history place ≡ Some op → is_arrival_of client op ≡ true → asks ds client ≡ true
  arrival-of client place (Arrive ask moment) here is =
      let found = arrival-asks history ds acts place ask moment are drawn here (named place ask moment here) in
      let same : found.0 ≡ client = client_ip-one found.0 client (sym (ap (λ (addr : Addr). addr.ip) found.2) ∙ same_ip-eq ask.from.ip (client_ip client) is) in
      subst (λ (c : ℕ). asks ds c ≡ true) same found.3
  arrival-of client place (Publish boxed) here is = absurd (cc is)
  arrival-of client place (Look asked context) here is = absurd (cc is)
  arrival-of client place (Read ask moment) here is = absurd (cc is)
  arrival-of client place (Sweep moment) here is = absurd (cc is)
  arrival-of client place (Stop stop) here is = absurd (cc is)

  arriving-asks : (client : ℕ) → arrives history client ≡ true → asks ds client ≡ true
  arriving-asks client is =
      let found = placed-any (is_arrival_of client) history is in
      arrival-of client found.0 found.1 found.2 found.3

  asking-arrives : (client : ℕ) → asks ds client ≡ true → arrives history client ≡ true
  asking-arrives client is =
      let found = asked-arrives history ds acts client are is in
      let from : same_ip found.1.from.ip (client_ip client) ≡ true =
      subst (λ (ip : Ip). same_ip ip (client_ip client) ≡ true) (sym (ap (λ (addr : Addr). addr.ip) found.4)) (same_ip-refl (client_ip client)) in
      any-at (is_arrival_of client) history found.0 (Arrive found.1 found.2) found.3 from

  -- a client arrives where it asks for the time
  pub arrives-asks : (client : ℕ) → arrives history client ≡ asks ds client
  arrives-asks client = both_ways (arrives history client) (asks ds client) (arriving-asks client) (asking-arrives client)
