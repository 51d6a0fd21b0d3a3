-- Who made the stop of a session, and why.
use Rattle.std.proofs.Common.{◌≡◌, ◌⊎◌, ◌∙◌, ◌+◌, ◌≤◌, ◌==◌, ℕ, suc, Bool, true, false, Option, None, Some, List, [], ◌∷◌, ◌++◌, length, map, inl, inr, refl, sym, ap, subst, arith}
use Rattle.std.specs.Prelude.{nat_lt, slice_get}
use Rattle.std.specs.List.{AllByRecursion}
use Rattle.std.proofs.lemmas.Bool.Decides.{nat_tests}
use Rattle.server_core.specs.States.{ServerState, stop_in}
use Rattle.server_core.specs.declared.op.Op.{Op}
use Rattle.server_core.specs.declared.op.Op.TheVariants.{Publish, Arrive, Look, Read, Sweep, Stop as Stops}
use Rattle.server_core.specs.declared.op.Stop.{Stop}
use Rattle.turnstile.specs.Histories.{times, times_of_all}
use Rattle.shared_book.specs.Entries.{IsEntry}
use Rattle.shared_book.specs.declared.common.Common.{Common}
use Rattle.worker.specs.Others.{IsOther, IsOwnStop, Other, place_of, stops, sweeps}
use Rattle.pilot.specs.Calls.{AllCaused, AllStand, Cause, Entry, HasReason, Stands, stop_entries}
use Rattle.pilot.specs.Flights.{IsScript, gain_of_flight}
use Rattle.pilot.specs.Gains.{Gain, gain_of_after, gain_of_all, gain_of_deed, gain_of_fate, gain_of_got, gain_of_turn, joined}
use Rattle.pilot.specs.Script.{Fate, stands, lacking, refused, Deed, ticks, asks, Got, datagram, swept, unswept, failure, passed, closed, After, takes, breaks, Turn}
use Rattle.pilot.specs.Turns.{Chain, Gives, GivesWhere, IsAfter, IsDeed, IsDone, IsGot, IsPassed, IsTurn, Publishes}
use Rattle.pilot.specs.declared.flight.FlightEnd.{FlightEnd}
use Rattle.pilot.proofs.CallLemmas.{AllCaused-longer}
use Rattle.responders.specs.Flown.{Flown, HasFlown}
use Rattle.responders.specs.Laws.{IsMade, IsPilotsStop, IsWorkersStop, Session}
use Rattle.responders.specs.Parts.{IsPart, Part}
use Rattle.responders.specs.Sessions.{IsSession, seats_after}
use Rattle.responders.proofs.PlaceLemmas.{more_times}
use Rattle.responders.proofs.LawLemmas.{entries_stand, entry_at, no_acts, once_at, own_calls, pilot_calls}
use Rattle.pilot.specs.declared.steering.Basis.{Basis}
use Rattle.pilot.specs.declared.steering.Steering.{Steering}

-- a cause of this stop, which was made at this place, is among these
abbrev Meets : ℕ → Stop → List Cause → Type 0
Meets place stop [] = ⊥
Meets place stop (cause ∷ causes) = ((cause.made ≡ Some place) × (cause.stop ≡ stop)) ⊎ Meets place stop causes

Meets-left : (place : ℕ) (stop : Stop) (xs ys : List Cause) → Meets place stop xs → Meets place stop (xs ++ ys)
Meets-left place stop [] ys met = absurd met
Meets-left place stop (x ∷ xs) ys (inl here) = inl here
Meets-left place stop (x ∷ xs) ys (inr later) = inr (Meets-left place stop xs ys later)

Meets-right : (place : ℕ) (stop : Stop) (xs ys : List Cause) → Meets place stop ys → Meets place stop (xs ++ ys)
Meets-right place stop [] ys met = met
Meets-right place stop (x ∷ xs) ys met = inr (Meets-right place stop xs ys met)

-- where an entry is a stop, its cause is among these
abbrev IsMet : List Cause → Entry → Type 0
IsMet causes entry = (stop : Stop) → entry.op ≡ Stops stop → Meets entry.place stop causes

-- each stop that is gained has its cause
abbrev StopsMet : Gain → Type 0
StopsMet g = AllByRecursion (IsMet g.causes) g.entries

met-left : (entries : List Entry) (xs ys : List Cause) → AllByRecursion (IsMet xs) entries → AllByRecursion (IsMet (xs ++ ys)) entries
met-left [] xs ys met = tt
met-left (entry ∷ entries) xs ys (here, later) = (λ stop is. Meets-left entry.place stop xs ys (here stop is), met-left entries xs ys later)

met-right : (entries : List Entry) (xs ys : List Cause) → AllByRecursion (IsMet ys) entries → AllByRecursion (IsMet (xs ++ ys)) entries
met-right [] xs ys met = tt
met-right (entry ∷ entries) xs ys (here, later) = (λ stop is. Meets-right entry.place stop xs ys (here stop is), met-right entries xs ys later)

met-both : (causes : List Cause) (es fs : List Entry) → AllByRecursion (IsMet causes) es → AllByRecursion (IsMet causes) fs → AllByRecursion (IsMet causes) (es ++ fs)
met-both causes [] fs first second = second
met-both causes (e ∷ es) fs (here, later) second = (here, met-both causes es fs later second)

StopsMet-joined : (g h : Gain) → StopsMet g → StopsMet h → StopsMet (joined g h)
StopsMet-joined g h first second = met-both (g.causes ++ h.causes) g.entries h.entries (met-left g.entries g.causes h.causes first) (met-right h.entries g.causes h.causes second)

-- a stop that is the pilot's own has its cause
stop_met : (asked : Option Op) (made : Option ℕ) (stop : Stop) → AllByRecursion (IsMet (record { asked = asked; made = made; stop = stop } ∷ [])) (stop_entries made stop)
stop_met asked None stop = tt
stop_met asked (Some place) stop = (λ other is. inl (refl, cc is), tt)

-- what publishes is no stop
publishes_no_stop : (basis : Basis) (s : Steering) (op : Op) (stop : Stop) → Publishes basis s op → op ≡ Stops stop → ⊥
publishes_no_stop basis s (Publish boxed) stop is same = cc same
publishes_no_stop basis s (Arrive ask moment) stop is same = absurd is
publishes_no_stop basis s (Look asked context) stop is same = absurd is
publishes_no_stop basis s (Read ask moment) stop is same = absurd is
publishes_no_stop basis s (Sweep moment) stop is same = absurd is
publishes_no_stop basis s (Stops other) stop is same = absurd is

module _ (common : Common) (basis : Basis) where
  met_by_fate : (a b : Steering) (fate : Option Fate) → Gives basis a fate b → StopsMet (gain_of_fate fate)
  met_by_fate a b None gives = tt
  met_by_fate a b (Some (stands place op)) (below, next, publishes) = (λ stop is. absurd (publishes_no_stop basis b op stop publishes is), tt)
  met_by_fate a b (Some lacking) gives = tt
  met_by_fate a b (Some (refused op made stop)) gives = stop_met (Some op) made stop

  met_where : (a b : Steering) (due : Bool) (fate : Option Fate) → GivesWhere due basis a fate b → StopsMet (gain_of_fate fate)
  met_where a b true fate gives = met_by_fate a b fate gives
  met_where a b false fate (none, same) = subst (λ (f : Option Fate). StopsMet (gain_of_fate f)) (sym none) tt

  met_by_deed : (at : ℕ) (a b : Steering) (deed : Deed) → IsDeed common.keys basis at a deed b → StopsMet (gain_of_deed deed)
  met_by_deed at a b (ticks fate) is = met_by_fate _ b fate is.gives
  met_by_deed at a b (asks peer to octets gave fate) is = met_by_fate is.between b fate is.gives

  met_by_deeds : (at : ℕ) (a b : Steering) (deeds : List Deed) → Chain (IsDone common.keys basis at) a deeds b → StopsMet (gain_of_all gain_of_deed deeds)
  met_by_deeds at a b [] is = tt
  met_by_deeds at a b (deed ∷ deeds) (next, (here, none), later) =
      StopsMet-joined (gain_of_deed deed) (gain_of_all gain_of_deed deeds) (met_by_deed at a next deed here) (met_by_deeds at next b deeds later)

  met_by_got : (a b : Steering) (got : Got) → IsGot common.keys basis a got b → StopsMet (gain_of_got got)
  met_by_got a b (datagram at from octets fate) is = met_where is.between b is.due fate is.gives
  met_by_got a b (swept at place) is = (λ stop same. absurd (cc same), tt)
  met_by_got a b (unswept at made stop) is = stop_met (Some (Sweep at)) made stop
  met_by_got a b (failure made stop) is = stop_met None made stop
  met_by_got a b passed is = tt
  met_by_got a b closed is = tt

  met_by_after : (at : ℕ) (a b : Steering) (after : After) → IsAfter common.keys basis at a after b → StopsMet (gain_of_after after)
  met_by_after at a b (takes got) (none, is) = met_by_got a b got is
  met_by_after at a b (breaks deed) (is, met) = met_by_deed at a b deed is

  met_by_turn : (a b : Steering) (turn : Turn) → IsTurn common.keys basis a turn b → StopsMet (gain_of_turn turn)
  met_by_turn a b turn is =
      StopsMet-joined (gain_of_all gain_of_deed turn.deeds) (gain_of_after turn.after) (met_by_deeds turn.at _ is.between turn.deeds is.deeds) (met_by_after turn.at is.between b turn.after is.rest)

  met_by_turns : (a b : Steering) (turns : List Turn) → Chain (IsPassed common.keys basis) a turns b → StopsMet (gain_of_all gain_of_turn turns)
  met_by_turns a b [] is = tt
  met_by_turns a b (turn ∷ turns) (next, (here, none), later) =
      StopsMet-joined (gain_of_turn turn) (gain_of_all gain_of_turn turns) (met_by_turn a next turn here) (met_by_turns next b turns later)

  -- each stop of a flight has its cause
  met_by_flight : (a b : Steering) (turns : List Turn) (last : Turn) (end : FlightEnd) → IsScript common.keys basis a turns last end b → StopsMet (gain_of_flight turns last)
  met_by_flight a b turns last end is =
      StopsMet-joined (gain_of_all gain_of_turn turns) (gain_of_turn last) (met_by_turns a is.between turns is.passed) (met_by_turn is.between b last is.ended)

-- the reason of a stop whose cause is among these
reason_of : (opening : ServerState) (who : ℕ) (history : List Op) (place : ℕ) (stop : Stop) (causes : List Cause) → AllCaused opening who history causes → Meets place stop causes
    → (asked : Option Op) × HasReason opening who history asked (Some place) stop
reason_of opening who history place stop [] caused met = absurd met
reason_of opening who history place stop (cause ∷ causes) (here, later) (inl (made, is)) =
    (cause.asked, subst (λ (s : Stop). HasReason opening who history cause.asked (Some place) s) is (subst (λ (m : Option ℕ). HasReason opening who history cause.asked m cause.stop) made here.reason))
reason_of opening who history place stop (cause ∷ causes) (here, later) (inr met) = reason_of opening who history place stop causes later met

-- the place of a stop that stands
place_of_stop : (history : List Op) (stop : Stop) → stop_in history ≡ Some stop → (place : ℕ) × (slice_get history place ≡ Some (Stops stop))
place_of_stop [] stop is = absurd (cc is)
place_of_stop (Stops other ∷ ops) stop is = (0, let same : other ≡ stop = cc is in ap (λ (s : Stop). Some (Stops s)) same)
place_of_stop (Publish boxed ∷ ops) stop is = let later = place_of_stop ops stop is in (suc later.0, later.1)
place_of_stop (Arrive ask moment ∷ ops) stop is = let later = place_of_stop ops stop is in (suc later.0, later.1)
place_of_stop (Look asked context ∷ ops) stop is = let later = place_of_stop ops stop is in (suc later.0, later.1)
place_of_stop (Read ask moment ∷ ops) stop is = let later = place_of_stop ops stop is in (suc later.0, later.1)
place_of_stop (Sweep moment ∷ ops) stop is = let later = place_of_stop ops stop is in (suc later.0, later.1)

-- a place that stands among these is that of one of them
found : {A : Type 0} (holds : A → Type 0) (placed : A → ℕ) (place : ℕ) (xs : List A) → AllByRecursion holds xs → 1 ≤ times place (map placed xs) → (x : A) × holds x × (placed x ≡ place)
found holds placed place [] all some = absurd (omega (arith, some))
found {A} holds placed place (x ∷ xs) all some = by_place (λ later. found holds placed place xs all.1 later) (placed x == place) refl where
  by_place : (1 ≤ times place (map placed xs) → (y : A) × holds y × (placed y ≡ place)) → (same : Bool) → (placed x == place) ≡ same → (y : A) × holds y × (placed y ≡ place)
  by_place again true is = (x, all.0, grind (arith, nat_tests))
  by_place again false is = again (omega (arith, some, more_times place (placed x) (map placed xs) (λ same. grind (arith, nat_tests))))

-- what stands and has its cause where it is a stop
both : (opening : ServerState) (history : List Op) (causes : List Cause) (entries : List Entry) → AllStand opening history entries → AllByRecursion (IsMet causes) entries
    → AllByRecursion (λ (entry : Entry). Stands opening history entry × IsMet causes entry) entries
both opening history causes [] stand met = tt
both opening history causes (entry ∷ entries) (here, later) (is, rest) = ((here, is), both opening history causes entries later rest)

module _ (common : Common) (opening : ServerState) (history : List Op) (place : ℕ) (stop : Stop) (here : slice_get history place ≡ Some (Stops stop)) where
  -- what a worker enters at the place of the stop is the stop
  is_stop : (who acts : ℕ) (other : Other) → IsOther opening who acts history other → place_of other ≡ place → IsOwnStop opening who acts history place stop
  is_stop who acts (sweeps at moment) (reply, entry) same =
      let there = entry_at opening history at (Sweep moment) reply entry in
      let wrong : Sweep moment ≡ Stops stop = let e : Some (Sweep moment) ≡ Some (Stops stop) = sym there ∙ ap (slice_get history) same ∙ here in cc in absurd (cc wrong)
  is_stop who acts (stops at other) own same =
      let there = entry_at opening history at (Stops other) _ own.entry in
      let alike : Stops other ≡ Stops stop = let e : Some (Stops other) ≡ Some (Stops stop) = sym there ∙ ap (slice_get history) same ∙ here in cc in
      let stop_is : other ≡ stop = cc in
      subst (λ (s : Stop). IsOwnStop opening who acts history place s) stop_is (subst (λ (n : ℕ). IsOwnStop opening who acts history n other) same own)

  own_stop : (part : Part) → IsPart common opening history part → 1 ≤ times place part.after.seat.own → IsOwnStop opening part.before.who (length part.after.acts) history place stop
  own_stop part done some =
      let calls = own_calls common opening history part place done in
      let none = no_acts common opening history part place (Stops stop) done here refl in
      let one = found (IsOther opening part.before.who (length part.after.acts) history) place_of place done.did.others done.did.others_are (omega (arith, some, calls, none)) in
      is_stop part.before.who (length part.after.acts) one.0 one.1 one.2

  workers_stop : (parts : List Part) → AllByRecursion (IsPart common opening history) parts → 1 ≤ times_of_all place (seats_after parts) → IsWorkersStop opening history place stop parts
  workers_stop [] worked some = absurd (omega (arith, some))
  workers_stop (part ∷ parts) (done, worked) some = by_part (workers_stop parts worked) (nat_lt 0 (times place part.after.seat.own)) refl where
    by_part : (1 ≤ times_of_all place (seats_after parts) → IsWorkersStop opening history place stop parts) → (own : Bool) → nat_lt 0 (times place part.after.seat.own) ≡ own
        → IsWorkersStop opening history place stop (part ∷ parts)
    by_part again true is = inl (own_stop part done (grind (arith, nat_tests)))
    by_part again false is =
        let none : times place part.after.seat.own ≡ 0 = grind (arith, nat_tests) in
        let sum : times_of_all place (part.after.seat ∷ seats_after parts) ≡ times place part.after.seat.own + times_of_all place (seats_after parts) = refl in
        inr (again (omega (arith, some, none, sum)))

  -- what the pilot enters at the place of the stop is the stop
  pilots_stop : (who : ℕ) (flown : Flown) (is : HasFlown common opening history who flown) → 1 ≤ times place flown.to.own → IsPilotsStop opening who history place stop
  pilots_stop who flown is some =
      let gain = gain_of_flight is.flight.turns is.flight.last in
      let met = met_by_flight common flown.basis flown.before.steering flown.after.steering is.flight.turns is.flight.last flown.end is.flight.script in
      let caused = AllCaused-longer opening who flown.to.front history gain.causes is.seen is.flight.gained.called.caused in
      let calls = pilot_calls common opening history who flown is place in
      let one = found (λ (entry : Entry). Stands opening history entry × IsMet gain.causes entry) (λ (entry : Entry). entry.place) place gain.entries
      (both opening history gain.causes gain.entries (entries_stand common opening history who flown is) met) (omega (arith, some, calls)) in
      let entry = one.0 in
      let stands = one.1.0 in
      let same : entry.place ≡ place = one.2 in
      let there = entry_at opening history entry.place entry.op stands.reply stands.is_entry in
      let op_is : entry.op ≡ Stops stop = let e : Some entry.op ≡ Some (Stops stop) = sym there ∙ ap (slice_get history) same ∙ here in cc in
      let why = reason_of opening who history entry.place stop gain.causes caused (one.1.1 stop op_is) in
      record {
        reply = stands.reply;
        entry = subst (λ (op : Op). IsEntry opening history place op stands.reply) op_is (subst (λ (n : ℕ). IsEntry opening history n entry.op stands.reply) same stands.is_entry);
        asked = why.0;
        reason = subst (λ (n : ℕ). HasReason opening who history why.0 (Some n) stop) same why.1;
      }

-- a stop that stands was made, and has its cause
pub made_by : (session : Session) (stop : Stop) → IsSession session.common session.opening session.history session.parts session.flown → stop_in session.history ≡ Some stop → IsMade session stop
made_by session stop is stood = (at.0, by_caller (nat_lt 0 (times at.0 session.flown.to.own)) refl) where
  at : (place : ℕ) × (slice_get session.history place ≡ Some (Stops stop))
  at = place_of_stop session.history stop stood

  by_caller : (pilot : Bool) → nat_lt 0 (times at.0 session.flown.to.own) ≡ pilot
      → IsWorkersStop session.opening session.history at.0 stop session.parts ⊎ IsPilotsStop session.opening (length session.parts) session.history at.0 stop
  by_caller true own = inr (pilots_stop session.common session.opening session.history at.0 stop at.1 (length session.parts) session.flown is.piloted (grind (arith, nat_tests)))
  by_caller false own =
      let none : times at.0 session.flown.to.own ≡ 0 = grind (arith, nat_tests) in
      let total : times at.0 session.flown.to.own + times_of_all at.0 (seats_after session.parts) ≡ 1 = is.once at.0 ∙ once_at session.history at.0 (Stops stop) at.1 in
      inl (workers_stop session.common session.opening session.history at.0 stop at.1 session.parts is.worked (omega (arith, total, none)))
