-- What the steps of a turn are of all that a worker does.
use Rattle.std.proofs.Common.{◌≡◌, ◌⊎◌, ◌==◌, if◌then◌else◌, ℕ, ◌+◌, ◌<◌, ◌≤◌, Bool, true, false, Option, Some, None, IsSome, Result, Ok, Err, IfOk, IfErr, OnErr, List, [], ◌∷◌, ◌++◌, length, take, refl, ap, sym, subst, ◌∙◌, inl, inr, arith, length-append}
use Rattle.std.proofs.lemmas.List.{append-nil}
use mathlib.Core.List.{IsPrefix, Sublist, nil-sublist}
use mathlib.Core.List.Sublist
use Rattle.net_addr.specs.declared.addr.Addr.{Addr}
use Rattle.edge_traits.specs.declared.port.Event.{Event}
use Rattle.edge_traits.specs.declared.port.Event.TheVariants.{Took, Silence}
use Rattle.edge_traits.specs.Told.{gained, Grows, Rose}
use Rattle.server_core.specs.declared.op.Op.{Op}
use Rattle.server_core.specs.declared.op.Op.TheVariants.{Sweep as SweepOp, Stop as StopOp}
use Rattle.server_core.specs.declared.op.Stop.{Stop}
use Rattle.server_core.specs.declared.op.Why.{Why}
use Rattle.server_core.specs.declared.op.Why.TheVariants.{Entries, Publications, ClockEnd}
use Rattle.server_core.specs.declared.step.Reply.{Reply}
use Rattle.server_core.specs.declared.step.StepFault.{StepFault}
use Rattle.server_core.specs.declared.step.StepFault.TheVariants.{Ended, Full, ClockEnd as AtClockEnd, NoMemory}
use Rattle.server_core.specs.Books.{MayWant}
use Rattle.server_core.specs.Histories.{state_after_all}
use Rattle.server_core.specs.States.{ServerState, refusal_of}
use Rattle.turnstile.specs.Histories.{times}
use Rattle.shared_book.specs.declared.common.Common.{Common}
use Rattle.shared_book.specs.Entries.{IsEntered, IsSameSeat, IsUnentered, View}
use Rattle.shared_book.specs.Stops.{EndsBy, IsEnded, IsStopped}
use Rattle.giving.specs.Gives.{sent_events}
use Rattle.worker.specs.declared.act.Act.{Act}
use Rattle.worker.specs.declared.act.TheConstants.{MAX_ACTS}
use Rattle.worker.specs.declared.carry.Carry.{Carry}
use Rattle.worker.specs.Acts.{Climbs, place_in, readings_in}
use Rattle.worker.specs.Doings.{Did, Doing, carried, doing_of, heard, silences_in}
use Rattle.worker.specs.Workers.{WorkerView, carry_of}
use Rattle.worker.specs.Others.{AreOthers, IsCause, Other, other_places, port_stops_in, stops, sweep_moments, sweeps, sweeps_in}
use Rattle.worker.specs.Serving.{Becomes}
use Rattle.worker.specs.Turns.{MayLackSweeps}
use Rattle.worker.specs.declared.turn.Turn.{Turn}
use Rattle.worker.specs.declared.turn.Turn.TheVariants.{Answered, Silent, SendFailed, Dropped, Swept, Closed, Ended as EndedBy}
use Rattle.worker.proofs.ActLemmas.{heard-sent, silences-sent}
use Rattle.shared_book.proofs.EntryLemmas.{prefix_length, prefix_self, prefix_trans}
use Rattle.worker.proofs.AddingLemmas.{Climbs-lower, Grows-nothing, Rose-kept, count-then}
use Rattle.worker.proofs.DidLemmas.{same_seat}
use Rattle.worker.proofs.RefusalLemmas.{entered_before, full-refusal, never-refusal}

-- what a call of a worker enters beside its acts
pub record Enters (opening : ServerState) (who acts : ℕ) (others : List Other) (old new : View) : Type 0 where
  pub longer : IsPrefix old.front new.front
  pub climb : Climbs (length old.front) (other_places others) (length new.front)
  pub own_are : (place : ℕ) → times place new.own ≡ times place old.own + times place (other_places others)
  pub are : AreOthers opening who acts new.front others

-- the same where it enters at most a stop
pub record EntersStop (opening : ServerState) (who acts most : ℕ) (old new : View) : Type 0 where
  pub others : List Other
  pub enters : Enters opening who acts others old new
  pub unswept : sweeps_in others ≡ 0
  pub unread : sweep_moments others ≡ []
  pub few : port_stops_in others ≤ most

-- one call more
own-one : (place at : ℕ) (old new : List ℕ) → new ≡ old ++ at ∷ [] → times place new ≡ times place old + times place (at ∷ [])
own-one place at old new counted = ap (times place) counted ∙ count-then (λ other. other == place) old (at ∷ [])

-- nothing was entered
pub Enters-none : (opening : ServerState) (who acts most : ℕ) (old new : View) → IsPrefix old.front new.front → new.own ≡ old.own → EntersStop opening who acts most old new
Enters-none opening who acts most old new longer own_kept = record {
  others = [];
  enters = record {
    longer = longer;
    climb = prefix_length old.front new.front longer;
    own_are = λ place. omega (arith, ap (times place) own_kept);
    are = tt;
  };
  unswept = refl;
  unread = refl;
  few = omega arith;
}

-- a sweep was entered
Enters-sweep : (opening : ServerState) (who acts : ℕ) (old new : View) (moment place : ℕ) (reply : Reply) → IsEntered opening old (SweepOp moment) place reply new → Enters opening who acts (sweeps place moment ∷ []) old new
Enters-sweep opening who acts old new moment place reply is = record {
  longer = is.longer;
  climb = (is.later, omega (arith, is.last));
  own_are = λ p. own-one p place old.own new.own is.counted;
  are = ((reply, is.entry), tt);
}

-- a stop that was asked for, whose cause is there, was entered, or another stands
pub Enters-stopped : (opening : ServerState) (who acts most : ℕ) (old new : View) (asked stood : Stop) → asked.who ≡ who → ((before : List Op) → IsPrefix old.front before → IsCause opening acts before asked.why)
    → port_stops_in (stops 0 asked ∷ []) ≤ most → IsStopped opening old asked stood new → EntersStop opening who acts most old new
Enters-stopped opening who acts most old new asked stood named cause few (inl (place, is, same)) = record {
  others = stops place asked ∷ [];
  enters = record {
    longer = is.longer;
    climb = (is.later, omega (arith, is.last));
    own_are = λ p. own-one p place old.own new.own is.counted;
    are = (record { entry = is.entry; named = named; cause = cause is.entry.before (entered_before opening old new (StopOp asked) place _ is) }, tt);
  };
  unswept = refl;
  unread = refl;
  few = few;
}
Enters-stopped opening who acts most old new asked stood named cause few (inr is) = Enters-none opening who acts most old new is.longer is.own_kept

-- the same after operations that were seen before
Enters-later : (opening : ServerState) (who acts most : ℕ) (old mid new : View) → IsPrefix old.front mid.front → mid.own ≡ old.own → EntersStop opening who acts most mid new → EntersStop opening who acts most old new
Enters-later opening who acts most old mid new longer own_kept is = record {
  others = is.others;
  enters = record {
    longer = prefix_trans old.front mid.front new.front longer is.enters.longer;
    climb = Climbs-lower (length old.front) (length mid.front) (length new.front) (other_places is.others) (prefix_length old.front mid.front longer) is.enters.climb;
    own_are = λ place. is.enters.own_are place ∙ ap (λ (own : List ℕ). times place own + times place (other_places is.others)) own_kept;
    are = is.enters.are;
  };
  unswept = is.unswept;
  unread = is.unread;
  few = is.few;
}

-- a limit that is met is no fault of the port
met-cause : (opening : ServerState) (who acts : ℕ) (front before : List Op) (op : Op) (why : Why) → IsPrefix front before → refusal_of front (state_after_all opening front).stamp op ≡ Some (Full why) → IsCause opening acts before why
met-cause opening who acts front before op why seen refused = by_why (full-refusal front _ op why refused)
  where
    by_why : (why ≡ Entries) ⊎ (why ≡ Publications) → IsCause opening acts before why
    by_why (inl is) = subst (IsCause opening acts before) (sym is) (front, op, seen, refused ∙ ap (λ (w : Why). Some (Full w)) is)
    by_why (inr is) = subst (IsCause opening acts before) (sym is) (front, op, seen, refused ∙ ap (λ (w : Why). Some (Full w)) is)

no_port_stop : (who : ℕ) (why : Why) → (why ≡ Entries) ⊎ (why ≡ Publications) → port_stops_in (stops 0 (record { who = who; why = why }) ∷ []) ≤ 0
no_port_stop who why (inl is) = subst (λ (w : Why). port_stops_in (stops 0 (record { who = who; why = w }) ∷ []) ≤ 0) (sym is) (omega arith)
no_port_stop who why (inr is) = subst (λ (w : Why). port_stops_in (stops 0 (record { who = who; why = w }) ∷ []) ≤ 0) (sym is) (omega arith)

-- why an operation is refused, where memory is not wanting
refused-by : (opening : ServerState) (old new : View) (op : Op) (fault : StepFault) → IsUnentered opening old op fault new → (fault ≡ NoMemory → ⊥) → refusal_of new.front (state_after_all opening new.front).stamp op ≡ Some fault
refused-by opening old new op fault is other = by_why is.why
  where
    by_why : (refusal_of new.front (state_after_all opening new.front).stamp op ≡ Some fault) ⊎ ((fault ≡ NoMemory) × MayWant (state_after_all opening new.front) op) → refusal_of new.front (state_after_all opening new.front).stamp op ≡ Some fault
    by_why (inl refused) = refused
    by_why (inr lacks) = absurd (other lacks.0)

-- what a worker enters whose operation was refused
pub Enters-ended : (opening : ServerState) (who acts : ℕ) (old : View) (op : Op) (stood : Stop) (new : View) → IsEnded opening who old op stood new → EntersStop opening who acts 0 old new
Enters-ended opening who acts old op stood new is = by_fault is.fault is.refused is.ended
  where
    by_fault : (fault : StepFault) → IsUnentered opening old op fault is.between → EndsBy opening who fault is.between stood new → EntersStop opening who acts 0 old new
    by_fault (Ended stop) refused ended =
        Enters-none opening who acts 0 old new (subst (λ (seat : View). IsPrefix old.front seat.front) (sym ended.1) refused.longer) (ap (λ (seat : View). seat.own) ended.1 ∙ refused.own_kept)
    by_fault (Full why) refused ended =
        let full = refused-by opening old is.between op (Full why) refused (λ same. absurd (cc same)) in
        Enters-later opening who acts 0 old is.between new refused.longer refused.own_kept
        (Enters-stopped opening who acts 0 is.between new (record { who = who; why = why }) stood refl
        (λ before seen. met-cause opening who acts is.between.front before op why seen full)
        (no_port_stop who why (full-refusal is.between.front _ op why full)) ended)
    by_fault AtClockEnd refused ended =
        let met = refused-by opening old is.between op AtClockEnd refused (λ same. absurd (cc same)) in
        Enters-later opening who acts 0 old is.between new refused.longer refused.own_kept
        (Enters-stopped opening who acts 0 is.between new (record { who = who; why = ClockEnd }) stood refl
        (λ before seen. (is.between.front, op, seen, met)) (omega arith) ended)
    by_fault NoMemory refused ended = absurd ended

-- a sweep is never refused for want of memory
pub swept-memory : (opening : ServerState) (old new : View) (moment : ℕ) → IsUnentered opening old (SweepOp moment) NoMemory new → ⊥
swept-memory opening old new moment is = by_why is.why
  where
    by_why : (refusal_of new.front (state_after_all opening new.front).stamp (SweepOp moment) ≡ Some NoMemory) ⊎ ((NoMemory ≡ NoMemory) × MayWant (state_after_all opening new.front) (SweepOp moment)) → ⊥
    by_why (inl refused) = never-refusal new.front _ (SweepOp moment) refused
    by_why (inr lacks) = absurd lacks.1

-- the port and the datagram that is carried changed alone
pub Did-passed : (common : Common) (opening : ServerState) (history : List Op) (a : Doing) (carry : Option Carry) (trace : Option (List Event)) (events : List Event) (faults quiets : ℕ) (address : Addr) (most : ℕ)
    → IsPrefix a.seat.front history → trace ≡ gained a.trace events → carried a.carry ++ heard events ≡ carried carry → silences_in events ≡ 0
    → a.faults ≤ faults → a.quiets ≤ quiets → address ≡ a.address → most ≡ a.most
    → Did common opening history 0 a (record a { carry = carry; trace = trace; faults = faults; quiets = quiets; address = address; most = most })
Did-passed common opening history a carry trace events faults quiets address most seen told holds silent faults_kept quiets_kept address_kept most_kept = record {
  more = [];
  others = [];
  events = events;
  told = [];
  readings = [];
  acts_are = sym (append-nil a.acts);
  answered = refl;
  heard_are = holds;
  trace_is = told;
  few = λ few. few;
  readings_are = Grows-nothing a.readings;
  read = Sublist.refl [];
  swept_at = Sublist.refl [];
  longer = prefix_self a.seat.front;
  seen = seen;
  places = omega arith;
  other_places_climb = omega arith;
  own_are = λ place. omega arith;
  others_are = tt;
  silences = silent;
  failed = Rose-kept a.faults faults faults_kept;
  quiet = subst (λ (n : ℕ). Rose n a.quiets quiets) (sym silent) (Rose-kept a.quiets quiets quiets_kept);
  worker_kept = record { who_kept = refl; address_kept = address_kept; most_kept = most_kept };
  seat_kept = same_seat a.seat;
}

-- something was entered beside the acts, after these events that nobody hears
pub Did-entered : (common : Common) (opening : ServerState) (lacking : ℕ) (a : Doing) (others : List Other) (events : List Event) (readings : List ℕ) (who : ℕ) (carry : Option Carry) (trace : Option (List Event)) (read : Option (List ℕ)) (faults quiets : ℕ) (address : Addr) (most : ℕ) (seat : View)
    → Enters opening a.who (length a.acts) others a.seat seat → IsSameSeat a.seat seat → who ≡ a.who → carry ≡ a.carry
    → trace ≡ gained a.trace events → heard events ≡ [] → silences_in events ≡ sweeps_in others + lacking
    → Grows a.readings read readings → Sublist (sweep_moments others) readings
    → Rose (port_stops_in others) a.faults faults → Rose (silences_in events) a.quiets quiets → address ≡ a.address → most ≡ a.most
    → Did common opening seat.front lacking a (record a { who = who; carry = carry; trace = trace; readings = read; faults = faults; quiets = quiets; address = address; most = most; seat = seat })
Did-entered common opening lacking a others events readings who carry trace read faults quiets address most seat enters kept same holds told unheard silences grows swept_at failed quiet address_kept most_kept = record {
  more = [];
  others = others;
  events = events;
  told = [];
  readings = readings;
  acts_are = sym (append-nil a.acts);
  answered = refl;
  heard_are = ap (λ (these : List Event). carried a.carry ++ these) unheard ∙ append-nil (carried a.carry) ∙ ap carried (sym holds);
  trace_is = told;
  few = λ few. few;
  readings_are = grows;
  read = nil-sublist readings;
  swept_at = swept_at;
  longer = enters.longer;
  seen = prefix_self seat.front;
  places = prefix_length a.seat.front seat.front enters.longer;
  other_places_climb = enters.climb;
  own_are = λ place. omega (arith, enters.own_are place);
  others_are = enters.are;
  silences = silences;
  failed = omega (arith, failed);
  quiet = quiet;
  worker_kept = record { who_kept = same; address_kept = address_kept; most_kept = most_kept };
  seat_kept = kept;
}

-- one give at least failed, where the act says so
failures-one : (failed : Bool) (old new : ℕ) → (failed ≡ true → Rose 1 old new) → old ≤ new → Rose ((0 + (if failed then 1 else 0)) + 0) old new
failures-one true old new rose kept = omega (arith, rose refl)
failures-one false old new rose kept = omega (arith, kept)

-- what an act tells is what was carried and what was given
told-act : (carry : Option Carry) (held : Carry) (act : Act) (grams : List (List ℕ)) → carry ≡ Some held → act.from ≡ held.from
    → carried carry ++ heard (sent_events act.from grams) ≡ (Took act.from held.bytes ∷ (sent_events act.from grams ++ [])) ++ []
told-act carry held act grams holds from_is =
    ap (λ (it : Option Carry). carried it ++ heard (sent_events act.from grams)) holds
    ∙ ap (λ (from : Addr). Took from held.bytes ∷ heard (sent_events act.from grams)) (sym from_is)
    ∙ ap (λ (events : List Event). Took act.from held.bytes ∷ events) (heard-sent act.from grams)
    ∙ ap (λ (events : List Event). Took act.from held.bytes ∷ events) (sym (append-nil (sent_events act.from grams)))
    ∙ sym (append-nil (Took act.from held.bytes ∷ (sent_events act.from grams ++ [])))

own-act : (place : ℕ) (old new more : List ℕ) → new ≡ old ++ more → times place new ≡ times place old + (times place (more ++ []) + times place [])
own-act place old new more counted =
    let grown = ap (times place) counted ∙ count-then (λ other. other == place) old more in
    let same = ap (times place) (append-nil more) in
    omega (arith, grown, same)

-- the datagram that was carried became an act
pub Did-acted : (common : Common) (opening : ServerState) (a : Doing) (held : Carry) (act : Act) (answer : List (List ℕ)) (readings : List ℕ) (who : ℕ) (acts : List Act) (trace : Option (List Event)) (read : Option (List ℕ)) (faults quiets : ℕ) (address : Addr) (most : ℕ) (seat : View)
    → a.carry ≡ Some held → Becomes common opening held act answer readings a.seat seat → IsSameSeat a.seat seat → who ≡ a.who
    → acts ≡ a.acts ++ act ∷ [] → length a.acts < MAX_ACTS
    → trace ≡ gained a.trace (sent_events act.from (take act.given answer)) → Grows a.readings read readings
    → (act.failed ≡ true → Rose 1 a.faults faults) → a.faults ≤ faults → a.quiets ≤ quiets → address ≡ a.address → most ≡ a.most
    → Did common opening seat.front 0 a (record a { who = who; acts = acts; carry = None; trace = trace; readings = read; faults = faults; quiets = quiets; address = address; most = most; seat = seat })
Did-acted common opening a held act answer readings who acts trace read faults quiets address most seat holds becomes kept same pushed room told grows failed faults_kept quiets_kept address_kept most_kept =
    let sent = sent_events act.from (take act.given answer) in record {
      more = act ∷ [];
      others = [];
      events = sent;
      told = Took act.from held.bytes ∷ (sent ++ []);
      readings = readings;
      acts_are = pushed;
      answered = (held.bytes, answer, [], becomes.is_act, refl, refl);
      heard_are = told-act a.carry held act (take act.given answer) holds becomes.from_is;
      trace_is = told;
      few = λ few. omega (arith, ap length pushed, length-append a.acts (act ∷ []));
      readings_are = grows;
      read = subst (λ (these : List ℕ). Sublist these readings) (sym (append-nil (readings_in act.moment act.kind))) becomes.read;
      swept_at = nil-sublist readings;
      longer = becomes.longer;
      seen = prefix_self seat.front;
      places = subst (λ (these : List ℕ). Climbs (length a.seat.front) these (length seat.front)) (sym (append-nil (place_in act.kind))) becomes.places;
      other_places_climb = prefix_length a.seat.front seat.front becomes.longer;
      own_are = λ place. own-act place a.seat.own seat.own (place_in act.kind) becomes.counted;
      others_are = tt;
      silences = silences-sent act.from (take act.given answer);
      failed = failures-one act.failed a.faults faults failed faults_kept;
      quiet = subst (λ (n : ℕ). Rose n a.quiets quiets) (sym (silences-sent act.from (take act.given answer))) (Rose-kept a.quiets quiets quiets_kept);
      worker_kept = record { who_kept = same; address_kept = address_kept; most_kept = most_kept };
      seat_kept = kept;
    }

-- a stop was entered, or stood
pub Did-stopped : (common : Common) (opening : ServerState) (most_stops : ℕ) (a : Doing) (readings : List ℕ) (who : ℕ) (carry : Option Carry) (trace : Option (List Event)) (read : Option (List ℕ)) (faults quiets : ℕ) (address : Addr) (most : ℕ) (seat : View)
    → EntersStop opening a.who (length a.acts) most_stops a.seat seat → IsSameSeat a.seat seat → who ≡ a.who → carry ≡ a.carry
    → trace ≡ gained a.trace [] → Grows a.readings read readings → Rose most_stops a.faults faults → a.quiets ≤ quiets → address ≡ a.address → most ≡ a.most
    → Did common opening seat.front 0 a (record a { who = who; carry = carry; trace = trace; readings = read; faults = faults; quiets = quiets; address = address; most = most; seat = seat })
Did-stopped common opening most_stops a readings who carry trace read faults quiets address most seat is kept same holds told grows failed quiets_kept address_kept most_kept =
    Did-entered common opening 0 a is.others [] readings who carry trace read faults quiets address most seat is.enters kept same holds told refl
    (omega (arith, is.unswept)) grows (subst (λ (these : List ℕ). Sublist these readings) (sym is.unread) (nil-sublist readings))
    (omega (arith, is.few, failed)) (Rose-kept a.quiets quiets quiets_kept) address_kept most_kept

-- nothing came for a while, and a sweep was entered
pub Did-swept : (common : Common) (opening : ServerState) (a : Doing) (moment place : ℕ) (reply : Reply) (carry : Option Carry) (trace : Option (List Event)) (read : Option (List ℕ)) (faults quiets : ℕ) (address : Addr) (most : ℕ) (seat : View)
    → IsEntered opening a.seat (SweepOp moment) place reply seat → IsSameSeat a.seat seat → carry ≡ a.carry
    → trace ≡ gained a.trace (Silence ∷ []) → Grows a.readings read (moment ∷ []) → a.faults ≤ faults → Rose 1 a.quiets quiets → address ≡ a.address → most ≡ a.most
    → Did common opening seat.front 0 a (record a { carry = carry; trace = trace; readings = read; faults = faults; quiets = quiets; address = address; most = most; seat = seat })
Did-swept common opening a moment place reply carry trace read faults quiets address most seat is kept holds told grows faults_kept rose address_kept most_kept =
    Did-entered common opening 0 a (sweeps place moment ∷ []) (Silence ∷ []) (moment ∷ []) a.who carry trace read faults quiets address most seat
    (Enters-sweep opening a.who (length a.acts) a.seat seat moment place reply is) kept refl holds told refl refl grows (Sublist.refl (moment ∷ []))
    (Rose-kept a.faults faults faults_kept) rose address_kept most_kept

-- nothing came for a while, and a sweep was refused
pub Did-unswept : (common : Common) (opening : ServerState) (a : Doing) (moment : ℕ) (carry : Option Carry) (trace : Option (List Event)) (read : Option (List ℕ)) (faults quiets : ℕ) (address : Addr) (most : ℕ) (seat : View)
    → EntersStop opening a.who (length a.acts) 0 a.seat seat → IsSameSeat a.seat seat → carry ≡ a.carry
    → trace ≡ gained a.trace (Silence ∷ []) → Grows a.readings read (moment ∷ []) → a.faults ≤ faults → Rose 1 a.quiets quiets → address ≡ a.address → most ≡ a.most
    → Did common opening seat.front 1 a (record a { carry = carry; trace = trace; readings = read; faults = faults; quiets = quiets; address = address; most = most; seat = seat })
Did-unswept common opening a moment carry trace read faults quiets address most seat is kept holds told grows faults_kept rose address_kept most_kept =
    Did-entered common opening 1 a is.others (Silence ∷ []) (moment ∷ []) a.who carry trace read faults quiets address most seat
    is.enters kept refl holds told refl (omega (arith, is.unswept)) grows (subst (λ (these : List ℕ). Sublist these (moment ∷ [])) (sym is.unread) (nil-sublist (moment ∷ [])))
    (omega (arith, is.few, faults_kept)) rose address_kept most_kept

-- a datagram was taken, and is carried
pub Did-took : (common : Common) (opening : ServerState) (history : List Op) (a : Doing) (carry : Carry) (trace : Option (List Event)) (faults quiets : ℕ) (address : Addr) (most : ℕ)
    → IsPrefix a.seat.front history → a.carry ≡ None → trace ≡ gained a.trace (Took carry.from carry.bytes ∷ [])
    → a.faults ≤ faults → a.quiets ≤ quiets → address ≡ a.address → most ≡ a.most
    → Did common opening history 0 a (record a { carry = Some carry; trace = trace; faults = faults; quiets = quiets; address = address; most = most })
Did-took common opening history a carry trace faults quiets address most seen empty told faults_kept quiets_kept address_kept most_kept =
    Did-passed common opening history a (Some carry) trace (Took carry.from carry.bytes ∷ []) faults quiets address most seen told
    (ap (λ (it : Option Carry). carried it ++ (Took carry.from carry.bytes ∷ [])) empty) refl faults_kept quiets_kept address_kept most_kept

-- the port changed alone, and nothing happened there
pub Did-still : (common : Common) (opening : ServerState) (history : List Op) (a : Doing) (carry : Option Carry) (trace : Option (List Event)) (faults quiets : ℕ) (address : Addr) (most : ℕ)
    → IsPrefix a.seat.front history → carry ≡ a.carry → trace ≡ gained a.trace [] → a.faults ≤ faults → a.quiets ≤ quiets → address ≡ a.address → most ≡ a.most
    → Did common opening history 0 a (record a { carry = carry; trace = trace; faults = faults; quiets = quiets; address = address; most = most })
Did-still common opening history a carry trace faults quiets address most seen holds told faults_kept quiets_kept address_kept most_kept =
    Did-passed common opening history a carry trace [] faults quiets address most seen told (append-nil (carried a.carry) ∙ ap carried (sym holds)) refl faults_kept quiets_kept address_kept most_kept

-- what a worker did is what the same worker did
pub Did-view : {P C : Type 0} (trace : P → Option (List Event)) (faults quiets : P → ℕ) (address : P → Addr) (most : P → ℕ) (readings : C → Option (List ℕ)) (common : Common) (opening : ServerState) (history : List Op) (lacking : ℕ) (old now : WorkerView P C) (seat : View) (b : Doing)
    → old ≡ now → Did common opening history lacking (doing_of trace faults quiets address most readings old seat) b → Did common opening history lacking (doing_of trace faults quiets address most readings now seat) b
Did-view trace faults quiets address most readings common opening history lacking old now seat b same did =
    subst (λ (worker : WorkerView _ _). Did common opening history lacking (doing_of trace faults quiets address most readings worker seat) b) same did

-- nothing is carried, whatever is held
pub carry-none : (is_carrying : Bool) (held other : Carry) → carry_of is_carrying held ≡ None → carry_of is_carrying other ≡ carry_of is_carrying held
carry-none true held other none = absurd (cc none)
carry-none false held other none = refl

-- what is held is carried
pub carry-some : (is_carrying : Bool) (held : Carry) → IsSome (carry_of is_carrying held) → carry_of is_carrying held ≡ Some held
carry-some true held some = refl
carry-some false held some = absurd (cc some)

-- where the opening is there, it is named
pub with_opening : {A : Type 0} (opening : Option ServerState) → IsSome opening → ((s : ServerState) → opening ≡ Some s → A) → A
with_opening None some follows = absurd (cc some)
with_opening (Some s) some follows = follows s refl

-- what holds of what came out, and so what follows from it
pub of_ok : {A B : Type 0} (answer : Result A B) (P Q : A → Type 0) → IfOk answer P → ((x : A) → P x → Q x) → IfOk answer Q
of_ok (Ok x) P Q is follows = follows x is
of_ok (Err fault) P Q is follows = tt

-- a turn need not lack a sweep
pub lacks_none : (turn : Turn) → MayLackSweeps turn 0
lacks_none Answered = refl
lacks_none Silent = refl
lacks_none SendFailed = refl
lacks_none Dropped = refl
lacks_none Swept = refl
lacks_none Closed = refl
lacks_none (EndedBy stop) = omega arith

-- the same of a fault, beside which another fact stands
pub of_err : {A B : Type 0} (answer : Result A B) (P Q : B → Type 0) (R : Type 0) → IfErr answer P → OnErr answer R → ((fault : B) → P fault → R → Q fault) → IfErr answer Q
of_err (Ok x) P Q R is beside follows = tt
of_err (Err fault) P Q R is beside follows = follows fault is beside
