-- What can be read off a session: who made each operation of its history.
use Rattle.std.proofs.Common.{◌≡◌, ◌∙◌, ◌+◌, ◌≤◌, ℕ, Bool, true, false, not, cond, None, Some, List, [], ◌∷◌, ◌++◌, length, refl, sym, ap, subst, arith}
use Rattle.std.specs.Prelude.{slice_get}
use Rattle.std.specs.List.{AllByRecursion, filter}
use Rattle.std.proofs.lemmas.Bool.Decides.{nat_tests}
use Rattle.std.proofs.lemmas.Option.{slice_get_within}
use Rattle.edge_traits.specs.declared.port.Event.{Event}
use Rattle.server_core.specs.declared.class.Class.{Class}
use Rattle.server_core.specs.declared.class.Class.TheVariants.{Silent as SilentClass, Time as TimeClass, Look as LookClass, Read as ReadClass}
use Rattle.server_core.specs.declared.op.Op.{Op}
use Rattle.server_core.specs.declared.op.Op.TheVariants.{Publish, Arrive, Look, Read, Sweep, Stop}
use Rattle.server_core.specs.declared.step.Reply.{Reply}
use Rattle.server_core.specs.Responses.{op_of}
use Rattle.server_core.specs.States.{ServerState, is_publish}
use Rattle.turnstile.specs.Histories.{once_below, times, times_of_all}
use Rattle.shared_book.specs.declared.common.Common.{Common}
use Rattle.shared_book.specs.Contexts.{context_at}
use Rattle.shared_book.specs.Entries.{IsEntry}
use Rattle.worker.specs.Acts.{AreActs, IsActOf, IsServed, place_in, places_of}
use Rattle.worker.specs.Others.{AreOthers, IsOther, Other, other_places, place_of, stops, sweeps}
use Rattle.worker.specs.declared.act.Act.{Act}
use Rattle.worker.specs.declared.act.ActKind.{ActKind}
use Rattle.worker.specs.declared.act.ActKind.TheVariants.{Time, Control, Read as ReadAct, Silent, Dropped}
use Rattle.pilot.specs.Calls.{AllStand, Climb, Entry, IsPilots, places_of as entry_places}
use Rattle.pilot.specs.Flights.{gain_of_flight}
use Rattle.pilot.specs.Promises.{stood_in}
use Rattle.pilot.proofs.CallLemmas.{AllStand-longer}
use Rattle.pilot.proofs.PromiseLemmas.{publications_of_flight}
use Rattle.responders.specs.Flown.{Flown, HasFlown}
use Rattle.responders.specs.Laws.{Session, act_places_of, is_asked, once_where_asked}
use Rattle.responders.specs.Parts.{IsPart, Part}
use Rattle.responders.specs.Sessions.{IsSession, seats_after}
use Rattle.responders.proofs.PlaceLemmas.{AreOf, AreOf-append, Rises, StandAt, kept_of, slice_get-seam, times-append, times_of_others}

-- an operation that a worker enters beside its answers
abbrev is_beside : Op → Bool
is_beside (Sweep moment) = true
is_beside (Stop stop) = true
is_beside (Publish boxed) = false
is_beside (Arrive ask moment) = false
is_beside (Look asked context) = false
is_beside (Read ask moment) = false

-- one that answers no datagram
abbrev is_unasked : Op → Bool
is_unasked op = not (is_asked op)

asked_beside : (op : Op) → is_asked op ≡ true → is_beside op ≡ false
asked_beside (Sweep moment) is = absurd (cc is)
asked_beside (Stop stop) is = absurd (cc is)
asked_beside (Publish boxed) is = absurd (cc is)
asked_beside (Arrive ask moment) is = refl
asked_beside (Look asked context) is = refl
asked_beside (Read ask moment) is = refl

published_unasked : (op : Op) → is_publish op ≡ true → is_asked op ≡ false
published_unasked (Publish boxed) is = refl
published_unasked (Sweep moment) is = refl
published_unasked (Stop stop) is = refl
published_unasked (Arrive ask moment) is = absurd (cc is)
published_unasked (Look asked context) is = absurd (cc is)
published_unasked (Read ask moment) is = absurd (cc is)

published_beside : (op : Op) → is_publish op ≡ true → is_beside op ≡ false
published_beside (Publish boxed) is = refl
published_beside (Sweep moment) is = absurd (cc is)
published_beside (Stop stop) is = absurd (cc is)
published_beside (Arrive ask moment) is = absurd (cc is)
published_beside (Look asked context) is = absurd (cc is)
published_beside (Read ask moment) is = absurd (cc is)

-- what is entered for a datagram answers it
asked_of : (common : Common) (moment : ℕ) (class : Class) (op : Op) → op_of (context_at common moment) class ≡ Some op → is_asked op ≡ true
asked_of common moment (SilentClass why) op is = absurd (cc is)
asked_of common moment (TimeClass ask) op is = let same : Arrive ask moment ≡ op = cc is in sym (ap is_asked same)
asked_of common moment (LookClass asked) op is = let same : Look asked (context_at common moment) ≡ op = cc is in sym (ap is_asked same)
asked_of common moment (ReadClass ask) op is = let same : Read ask moment ≡ op = cc is in sym (ap is_asked same)

-- an entry stands at its place
pub entry_at : (opening : ServerState) (history : List Op) (place : ℕ) (op : Op) (reply : Reply) → IsEntry opening history place op reply → slice_get history place ≡ Some op
entry_at opening history place op reply e =
    subst (λ (n : ℕ). slice_get history n ≡ Some op) e.placed
    (ap (λ (ops : List Op). slice_get ops (length e.before)) e.whole ∙ slice_get-seam e.before op e.after)

-- at a place of a history stands an operation of this kind
abbrev IsAt : (Op → Bool) → List Op → ℕ → Type 0
IsAt kind history place = (op : Op) × (slice_get history place ≡ Some op) × (kind op ≡ true)

module _ (common : Common) (opening : ServerState) (history : List Op) where
  served_at : (act : Act) (octets : List ℕ) (place xmt : ℕ) (reply : Reply) (answer : List (List ℕ)) → IsServed common opening history act octets place xmt reply answer → IsAt is_asked history place
  served_at act octets place xmt reply answer served =
      (served.op, entry_at opening history place served.op reply served.entry, asked_of common act.moment served.class served.op served.is_op)

  -- the place that an act names is that of what it answers
  named_by_act : (act : Act) (octets : List ℕ) (answer : List (List ℕ)) (kind : ActKind) → IsActOf common opening history act octets answer kind → AreOf is_asked history (place_in kind)
  named_by_act act octets answer (Time place xmt kind) (verdict, served, is, gave) = (served_at act octets place xmt _ answer served, tt)
  named_by_act act octets answer (Control mark ignored) (xmt, given, served, is, gave) = (served_at act octets mark xmt _ answer served, tt)
  named_by_act act octets answer (ReadAct place kind) (xmt, reply, served, is, gave) = (served_at act octets place xmt _ answer served, tt)
  named_by_act act octets answer (Silent why) is = tt
  named_by_act act octets answer (Dropped None) is = tt
  named_by_act act octets answer (Dropped (Some place)) (xmt, reply, served, few, none) = (served_at act octets place xmt reply answer served, tt)

  named_by_acts : (acts : List Act) (told : List Event) → AreActs common opening history acts told → AreOf is_asked history (places_of acts)
  named_by_acts [] told are = tt
  named_by_acts (act ∷ acts) told (octets, answer, later, is, same, rest) =
      AreOf-append is_asked history (place_in act.kind) (places_of acts) (named_by_act act octets answer act.kind is) (named_by_acts acts later rest)

  named_by_other : (who acts : ℕ) (other : Other) → IsOther opening who acts history other → IsAt is_beside history (place_of other)
  named_by_other who acts (sweeps place moment) (reply, entry) = (Sweep moment, entry_at opening history place (Sweep moment) reply entry, refl)
  named_by_other who acts (stops place stop) own = (Stop stop, entry_at opening history place (Stop stop) _ own.entry, refl)

  named_by_others : (who acts : ℕ) (others : List Other) → AreOthers opening who acts history others → AreOf is_beside history (other_places others)
  named_by_others who acts [] are = tt
  named_by_others who acts (other ∷ others) (is, rest) = (named_by_other who acts other is, named_by_others who acts others rest)

  unasked_by_pilot : (op : Op) → IsPilots op → is_unasked op ≡ true
  unasked_by_pilot (Publish boxed) is = refl
  unasked_by_pilot (Sweep moment) is = refl
  unasked_by_pilot (Stop stop) is = refl
  unasked_by_pilot (Arrive ask moment) is = absurd is
  unasked_by_pilot (Look asked context) is = absurd is
  unasked_by_pilot (Read ask moment) is = absurd is

  named_by_pilot : (entries : List Entry) → AllStand opening history entries → AreOf is_unasked history (entry_places entries)
  named_by_pilot [] stand = tt
  named_by_pilot (entry ∷ entries) (here, later) =
      ((entry.op, entry_at opening history entry.place entry.op here.reply here.is_entry, unasked_by_pilot entry.op here.pilots), named_by_pilot entries later)

  stand_at : (entries : List Entry) → AllStand opening history entries → StandAt is_publish (λ (entry : Entry). entry.place) (λ (entry : Entry). entry.op) history entries
  stand_at [] stand = tt
  stand_at (entry ∷ entries) (here, later) = (entry_at opening history entry.place entry.op here.reply here.is_entry, stand_at entries later)

  -- the calls of a worker are those of its acts and of what it entered beside them
  pub own_calls : (part : Part) (place : ℕ) → (is : IsPart common opening history part) → times place part.after.seat.own ≡ times place (places_of part.after.acts) + times place (other_places is.did.others)
  own_calls part place is =
      let acts : part.after.acts ≡ is.did.more = is.did.acts_are ∙ ap (λ (acts : List Act). acts ++ is.did.more) is.idle in
      let none : times place part.before.seat.own ≡ 0 = ap (times place) is.new_seat.uncalled in
      let same : times place (places_of part.after.acts) ≡ times place (places_of is.did.more) = ap (λ (acts : List Act). times place (places_of acts)) acts in
      omega (arith, is.did.own_are place, none, same)

  pub no_acts : (part : Part) (place : ℕ) (op : Op) → IsPart common opening history part → slice_get history place ≡ Some op → is_asked op ≡ false → times place (places_of part.after.acts) ≡ 0
  no_acts part place op is here other =
      let acts : is.did.more ≡ part.after.acts = sym (is.did.acts_are ∙ ap (λ (acts : List Act). acts ++ is.did.more) is.idle) in
      times_of_others is_asked history place op (places_of part.after.acts) here other
      (subst (λ (acts : List Act). AreOf is_asked history (places_of acts)) acts (named_by_acts is.did.more is.did.told is.did.answered))

  no_others : (part : Part) (place : ℕ) (op : Op) → (is : IsPart common opening history part) → slice_get history place ≡ Some op → is_beside op ≡ false → times place (other_places is.did.others) ≡ 0
  no_others part place op is here other =
      times_of_others is_beside history place op (other_places is.did.others) here other
      (named_by_others part.before.who (length part.after.acts) is.did.others is.did.others_are)

  -- what answers a datagram is called by workers for their acts alone
  asked_calls : (place : ℕ) (op : Op) (parts : List Part) → AllByRecursion (IsPart common opening history) parts → slice_get history place ≡ Some op → is_asked op ≡ true
      → times_of_all place (seats_after parts) ≡ times place (act_places_of parts)
  asked_calls place op [] worked here is = refl
  asked_calls place op (part ∷ parts) (done, worked) here is =
      omega (
        arith,
        own_calls part place done,
        no_others part place op done here (asked_beside op is),
        asked_calls place op parts worked here is,
        times-append place (places_of part.after.acts) (act_places_of parts),
      )

  -- what answers none is named by no act
  unasked_acts : (place : ℕ) (op : Op) (parts : List Part) → AllByRecursion (IsPart common opening history) parts → slice_get history place ≡ Some op → is_asked op ≡ false
      → times place (act_places_of parts) ≡ 0
  unasked_acts place op [] worked here is = refl
  unasked_acts place op (part ∷ parts) (done, worked) here is =
      omega (arith, no_acts part place op done here is, unasked_acts place op parts worked here is, times-append place (places_of part.after.acts) (act_places_of parts))

  -- what is published is called by no worker
  published_calls : (place : ℕ) (op : Op) (parts : List Part) → AllByRecursion (IsPart common opening history) parts → slice_get history place ≡ Some op → is_publish op ≡ true
      → times_of_all place (seats_after parts) ≡ 0
  published_calls place op [] worked here is = refl
  published_calls place op (part ∷ parts) (done, worked) here is =
      omega (
        arith,
        own_calls part place done,
        no_acts part place op done here (published_unasked op is),
        no_others part place op done here (published_beside op is),
        published_calls place op parts worked here is,
      )

-- each place of a history is below its length
pub once_at : (history : List Op) (place : ℕ) (op : Op) → slice_get history place ≡ Some op → once_below place (length history) ≡ 1
once_at history place op here = let within = slice_get_within history place op here in grind (arith, nat_tests)

-- the entries of a pilot that flew
abbrev entries_of : {common : Common} {opening : ServerState} {history : List Op} {who : ℕ} {flown : Flown} → HasFlown common opening history who flown → List Entry
entries_of is = (gain_of_flight is.flight.turns is.flight.last).entries

module _ (common : Common) (opening : ServerState) (history : List Op) (who : ℕ) (flown : Flown) (is : HasFlown common opening history who flown) where
  pub entries_stand : AllStand opening history (entries_of is)
  entries_stand = AllStand-longer opening flown.to.front history (entries_of is) is.seen is.flight.gained.called.stand

  pub pilot_calls : (place : ℕ) → times place flown.to.own ≡ times place (entry_places (entries_of is))
  pilot_calls place = ap (times place) (is.flight.gained.called.own ∙ ap (λ (own : List ℕ). own ++ entry_places (entries_of is)) is.new_seat.uncalled)

  unasked_by_it : (place : ℕ) (op : Op) → slice_get history place ≡ Some op → is_asked op ≡ true → times place flown.to.own ≡ 0
  unasked_by_it place op here asked =
      pilot_calls place
      ∙ times_of_others is_unasked history place op (entry_places (entries_of is)) here (ap not asked) (named_by_pilot common opening history (entries_of is) entries_stand)

-- each operation that answers a datagram is one act
pub one_act : (session : Session) (place : ℕ) (op : Op) → IsSession session.common session.opening session.history session.parts session.flown
    → slice_get session.history place ≡ Some op → times place (act_places_of session.parts) ≡ once_where_asked op
one_act session place op is here = by_kind (is_asked op) refl where
  by_kind : (asked : Bool) → is_asked op ≡ asked → times place (act_places_of session.parts) ≡ cond asked 1 0
  by_kind true asked =
      let calls = asked_calls session.common session.opening session.history place op session.parts is.worked here asked in
      let pilot = unasked_by_it session.common session.opening session.history (length session.parts) session.flown is.piloted place op here asked in
      let total : times_of_all place (session.flown.to ∷ seats_after session.parts) ≡ 1 = is.once place ∙ once_at session.history place op here in
      omega (arith, calls, pilot, total)
  by_kind false asked = unasked_acts session.common session.opening session.history place op session.parts is.worked here asked

-- places that climb rise
rises : (low least most : ℕ) (places : List ℕ) → low ≤ least → Climb least places most → Rises low places
rises low least most [] lower climb = tt
rises low least most (place ∷ places) lower (here, later) = (omega (arith, lower, here), rises (place + 1) (place + 1) most places (omega arith) later)

-- what is published is what the pilot's script has standing
pub pilots_publications : (session : Session) (is : IsSession session.common session.opening session.history session.parts session.flown)
    → filter is_publish session.history ≡ stood_in is.piloted.flight.turns is.piloted.flight.last
pilots_publications session is =
    let flew = is.piloted in
    let entries = entries_of flew in
    kept_of is_publish (λ (entry : Entry). entry.place) (λ (entry : Entry). entry.op) session.history 0 session.history entries
    (λ k. ap (slice_get session.history) (let e : 0 + k ≡ k = omega arith in e))
    (rises 0 (length session.flown.from.front) (length session.flown.to.front) (entry_places entries) (omega arith) flew.flight.gained.called.climb)
    (stand_at session.common session.opening session.history entries (entries_stand session.common session.opening session.history (length session.parts) session.flown flew))
    (λ place op low here published.
    let workers = published_calls session.common session.opening session.history place op session.parts is.worked here published in
    let total : times_of_all place (session.flown.to ∷ seats_after session.parts) ≡ 1 = is.once place ∙ once_at session.history place op here in
    omega (arith, workers, total, pilot_calls session.common session.opening session.history (length session.parts) session.flown flew place))
    ∙ publications_of_flight session.common.keys session.flown.basis session.flown.before.steering session.flown.after.steering flew.flight.turns flew.flight.last session.flown.end flew.flight.script
