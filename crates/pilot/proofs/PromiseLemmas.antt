-- What is read off the script of a flight.
use Rattle.std.proofs.Common.{◌≡◌, ◌∙◌, ◌+◌, ℕ, Bool, true, false, cond, Option, None, Some, Result, Ok, Err, List, [], ◌∷◌, ◌++◌, map, refl, sym, ap, subst, arith}
use Rattle.std.proofs.lemmas.List.{map-append}
use Rattle.std.proofs.lemmas.List.Elements.{filter-append}
use Rattle.std.proofs.lemmas.List.Sums.{sum_by-append}
use Rattle.std.specs.List.{count_by, filter, flat_map}
use Rattle.associations.specs.Taking.{line_for}
use Rattle.associations.specs.declared.judging.ReplyFault.{ReplyFault}
use Rattle.associations.specs.declared.peers.TakenReply.{TakenReply}
use Rattle.edge_traits.specs.declared.port.Event.{Event}
use Rattle.edge_traits.specs.declared.port.Event.TheVariants.{Took}
use Rattle.edge_traits.specs.declared.port.PortFault.{PortFault}
use Rattle.mac_keys.specs.declared.keys.Key.{Key}
use Rattle.net_addr.specs.declared.addr.Addr.{Addr}
use Rattle.server_core.specs.Histories.{records_in}
use Rattle.server_core.specs.States.{is_publish}
use Rattle.server_core.specs.declared.op.Op.{Op}
use Rattle.server_core.specs.declared.op.Op.TheVariants.{Publish, Arrive, Look, Read, Sweep, Stop as Stops}
use Rattle.server_core.specs.declared.op.Stop.{Stop}
use Rattle.sys_vars.specs.declared.published.Record.{Record}
use Rattle.pilot.specs.Calls.{Cause, Climb, Entry, stop_entries}
use Rattle.pilot.specs.Flights.{IsScript, gain_of_flight}
use Rattle.pilot.specs.Gains.{Gain, gain_of_after, gain_of_all, gain_of_deed, gain_of_fate, gain_of_give, gain_of_got, gain_of_turn, joined, nothing}
use Rattle.pilot.specs.Hearing.{IsAnswered, IsPutOff, IsUsed}
use Rattle.pilot.specs.Promises.{HasCauses, epochs_of, is_silence, is_sweep, ops_of, stood_by_after, stood_by_deed, stood_by_fate, stood_by_got, stood_by_turn, stood_in, unswept_by}
use Rattle.pilot.specs.Script.{Fate, stands, lacking, refused, Deed, ticks, asks, Got, datagram, swept, unswept, failure, passed, closed, After, takes, breaks, Turn, end_of_after, end_of_got, ending, stop_of_deed, stop_of_fate}
use Rattle.pilot.specs.Steering.{begun_at, begun_by, ticked_at}
use Rattle.pilot.specs.Turns.{Chain, Gives, GivesWhere, IsAfter, IsDeed, IsDone, IsGot, IsPassed, IsTurn, Publishes}
use Rattle.pilot.specs.declared.flight.FlightEnd.{FlightEnd}
use Rattle.pilot.specs.declared.flight.FlightEnd.TheVariants.{Closed, Ended}
use Rattle.pilot.specs.declared.steering.Basis.{Basis}
use Rattle.pilot.specs.declared.steering.Steering.{Steering}
use Rattle.pilot.proofs.CallLemmas.{Climb-append}

-- the publications of entries
abbrev publications : List Entry → List Op
publications entries = filter is_publish (ops_of entries)

publications-append : (xs ys : List Entry) → publications (xs ++ ys) ≡ publications xs ++ publications ys
publications-append xs ys =
    ap (filter is_publish) (map-append (λ (entry : Entry). entry.op) xs ys) ∙ filter-append is_publish (ops_of xs) (ops_of ys)

publishes_is : (basis : Basis) (s : Steering) (op : Op) → Publishes basis s op → is_publish op ≡ true
publishes_is basis s (Publish boxed) is = refl
publishes_is basis s (Arrive ask moment) is = absurd is
publishes_is basis s (Look asked context) is = absurd is
publishes_is basis s (Read ask moment) is = absurd is
publishes_is basis s (Sweep moment) is = absurd is
publishes_is basis s (Stops stop) is = absurd is

-- a stop publishes nothing
no_publication : (made : Option ℕ) (stop : Stop) → publications (stop_entries made stop) ≡ []
no_publication None stop = refl
no_publication (Some place) stop = refl

publications_of_fate : (basis : Basis) (a b : Steering) (fate : Option Fate) → Gives basis a fate b → publications (gain_of_fate fate).entries ≡ stood_by_fate fate
publications_of_fate basis a b None gives = refl
publications_of_fate basis a b (Some (stands place op)) (below, next, publishes) =
    ap (λ (test : Bool). cond test (op ∷ []) []) (publishes_is basis b op publishes)
publications_of_fate basis a b (Some lacking) gives = refl
publications_of_fate basis a b (Some (refused op made stop)) gives = no_publication made stop

publications_where : (basis : Basis) (a b : Steering) (due : Bool) (fate : Option Fate) → GivesWhere due basis a fate b → publications (gain_of_fate fate).entries ≡ stood_by_fate fate
publications_where basis a b true fate gives = publications_of_fate basis a b fate gives
publications_where basis a b false fate (none, same) =
    subst (λ (f : Option Fate). publications (gain_of_fate f).entries ≡ stood_by_fate f) (sym none) refl

publications_of_deed : (keys : List Key) (basis : Basis) (at : ℕ) (a b : Steering) (deed : Deed) → IsDeed keys basis at a deed b → publications (gain_of_deed deed).entries ≡ stood_by_deed deed
publications_of_deed keys basis at a b (ticks fate) is = publications_of_fate basis _ b fate is.gives
publications_of_deed keys basis at a b (asks peer to octets gave fate) is = publications_of_fate basis is.between b fate is.gives

publications_of_deeds : (keys : List Key) (basis : Basis) (at : ℕ) (a b : Steering) (deeds : List Deed) → Chain (IsDone keys basis at) a deeds b → publications (gain_of_all gain_of_deed deeds).entries ≡ flat_map stood_by_deed deeds
publications_of_deeds keys basis at a b [] is = refl
publications_of_deeds keys basis at a b (deed ∷ deeds) (next, (here, none), later) =
    publications-append (gain_of_deed deed).entries (gain_of_all gain_of_deed deeds).entries
    ∙ ap (λ (ops : List Op). ops ++ publications (gain_of_all gain_of_deed deeds).entries) (publications_of_deed keys basis at a next deed here)
    ∙ ap (λ (ops : List Op). stood_by_deed deed ++ ops) (publications_of_deeds keys basis at next b deeds later)

publications_of_got : (keys : List Key) (basis : Basis) (a b : Steering) (got : Got) → IsGot keys basis a got b → publications (gain_of_got got).entries ≡ stood_by_got got
publications_of_got keys basis a b (datagram at from octets fate) is = publications_where basis is.between b is.due fate is.gives
publications_of_got keys basis a b (swept at place) is = refl
publications_of_got keys basis a b (unswept at made stop) is = no_publication made stop
publications_of_got keys basis a b (failure made stop) is = no_publication made stop
publications_of_got keys basis a b passed is = refl
publications_of_got keys basis a b closed is = refl

publications_of_after : (keys : List Key) (basis : Basis) (at : ℕ) (a b : Steering) (after : After) → IsAfter keys basis at a after b → publications (gain_of_after after).entries ≡ stood_by_after after
publications_of_after keys basis at a b (takes got) (none, is) = publications_of_got keys basis a b got is
publications_of_after keys basis at a b (breaks deed) (is, met) = publications_of_deed keys basis at a b deed is

publications_of_turn : (keys : List Key) (basis : Basis) (a b : Steering) (turn : Turn) → IsTurn keys basis a turn b → publications (gain_of_turn turn).entries ≡ stood_by_turn turn
publications_of_turn keys basis a b turn is =
    publications-append (gain_of_all gain_of_deed turn.deeds).entries (gain_of_after turn.after).entries
    ∙ ap (λ (ops : List Op). ops ++ publications (gain_of_after turn.after).entries) (publications_of_deeds keys basis turn.at _ is.between turn.deeds is.deeds)
    ∙ ap (λ (ops : List Op). flat_map stood_by_deed turn.deeds ++ ops) (publications_of_after keys basis turn.at is.between b turn.after is.rest)

publications_of_turns : (keys : List Key) (basis : Basis) (a b : Steering) (turns : List Turn) → Chain (IsPassed keys basis) a turns b → publications (gain_of_all gain_of_turn turns).entries ≡ flat_map stood_by_turn turns
publications_of_turns keys basis a b [] is = refl
publications_of_turns keys basis a b (turn ∷ turns) (next, (here, none), later) =
    publications-append (gain_of_turn turn).entries (gain_of_all gain_of_turn turns).entries
    ∙ ap (λ (ops : List Op). ops ++ publications (gain_of_all gain_of_turn turns).entries) (publications_of_turn keys basis a next turn here)
    ∙ ap (λ (ops : List Op). stood_by_turn turn ++ ops) (publications_of_turns keys basis next b turns later)

-- the publications of a flight are the records that stand
pub publications_of_flight : (keys : List Key) (basis : Basis) (a b : Steering) (turns : List Turn) (last : Turn) (end : FlightEnd) → IsScript keys basis a turns last end b → publications (gain_of_flight turns last).entries ≡ stood_in turns last
publications_of_flight keys basis a b turns last end is =
    publications-append (gain_of_all gain_of_turn turns).entries (gain_of_turn last).entries
    ∙ ap (λ (ops : List Op). ops ++ publications (gain_of_turn last).entries) (publications_of_turns keys basis a is.between turns is.passed)
    ∙ ap (λ (ops : List Op). flat_map stood_by_turn turns ++ ops) (publications_of_turn keys basis is.between b last is.ended)

-- records and their numbers, one list after another
records_in-append : (xs ys : List Op) → records_in (xs ++ ys) ≡ records_in xs ++ records_in ys
records_in-append [] ys = refl
records_in-append (Publish boxed ∷ xs) ys = ap (λ (recs : List Record). boxed.value ∷ recs) (records_in-append xs ys)
records_in-append (Arrive ask moment ∷ xs) ys = records_in-append xs ys
records_in-append (Look asked context ∷ xs) ys = records_in-append xs ys
records_in-append (Read ask moment ∷ xs) ys = records_in-append xs ys
records_in-append (Sweep moment ∷ xs) ys = records_in-append xs ys
records_in-append (Stops stop ∷ xs) ys = records_in-append xs ys

epochs_of-append : (xs ys : List Op) → epochs_of (xs ++ ys) ≡ epochs_of xs ++ epochs_of ys
epochs_of-append xs ys =
    ap (map (λ (rec : Record). rec.epoch)) (records_in-append xs ys) ∙ map-append (λ (rec : Record). rec.epoch) (records_in xs) (records_in ys)

-- numbers that climb from one state's to another's
abbrev Numbers : Steering → List Op → Steering → Type 0
Numbers a ops b = Climb (a.epoch + 1) (epochs_of ops) (b.epoch + 1)

Numbers-then : (a b c : Steering) (xs ys : List Op) → Numbers a xs b → Numbers b ys c → Numbers a (xs ++ ys) c
Numbers-then a b c xs ys first second =
    subst (λ (epochs : List ℕ). Climb (a.epoch + 1) epochs (c.epoch + 1)) (sym (epochs_of-append xs ys))
    (Climb-append (a.epoch + 1) (b.epoch + 1) (c.epoch + 1) (epochs_of xs) (epochs_of ys) first second)

Numbers-same : (a b c : Steering) (ops : List Op) → a.epoch ≡ b.epoch → Numbers b ops c → Numbers a ops c
Numbers-same a b c ops same climb = subst (λ (epoch : ℕ). Climb (epoch + 1) (epochs_of ops) (c.epoch + 1)) (sym same) climb

numbers_of_op : (basis : Basis) (a b : Steering) (op : Op) → b.epoch ≡ a.epoch + 1 → Publishes basis b op → Numbers a (op ∷ []) b
numbers_of_op basis a b (Publish boxed) next is = (omega (arith, is.epoch, next), omega (arith, is.epoch))
numbers_of_op basis a b (Arrive ask moment) next is = absurd is
numbers_of_op basis a b (Look asked context) next is = absurd is
numbers_of_op basis a b (Read ask moment) next is = absurd is
numbers_of_op basis a b (Sweep moment) next is = absurd is
numbers_of_op basis a b (Stops stop) next is = absurd is

numbers_of_fate : (basis : Basis) (a b : Steering) (fate : Option Fate) → Gives basis a fate b → Numbers a (stood_by_fate fate) b
numbers_of_fate basis a b None (top, same) = let e : b.epoch ≡ a.epoch = ap (λ (s : Steering). s.epoch) same in omega (arith, e)
numbers_of_fate basis a b (Some (stands place op)) (below, next, publishes) = numbers_of_op basis a b op (ap (λ (s : Steering). s.epoch) next) publishes
numbers_of_fate basis a b (Some lacking) (below, next, none) = let e : b.epoch ≡ a.epoch + 1 = ap (λ (s : Steering). s.epoch) next in omega (arith, e)
numbers_of_fate basis a b (Some (refused op made stop)) (below, next, is) = let e : b.epoch ≡ a.epoch + 1 = ap (λ (s : Steering). s.epoch) next in omega (arith, e)

numbers_where : (basis : Basis) (a b : Steering) (due : Bool) (fate : Option Fate) → GivesWhere due basis a fate b → Numbers a (stood_by_fate fate) b
numbers_where basis a b true fate gives = numbers_of_fate basis a b fate gives
numbers_where basis a b false fate (none, same) =
    subst (λ (f : Option Fate). Numbers a (stood_by_fate f) b) (sym none)
    (let e : b.epoch ≡ a.epoch = ap (λ (s : Steering). s.epoch) same in omega (arith, e))

numbers_of_deed : (keys : List Key) (basis : Basis) (at : ℕ) (a b : Steering) (deed : Deed) → IsDeed keys basis at a deed b → Numbers a (stood_by_deed deed) b
numbers_of_deed keys basis at a b (ticks fate) is = numbers_of_fate basis (ticked_at at a) b fate is.gives
numbers_of_deed keys basis at a b (asks peer to octets gave fate) is =
    Numbers-same a is.between b (stood_by_fate fate) (sym (ap (λ (s : Steering). s.epoch) is.asked.after_is)) (numbers_of_fate basis is.between b fate is.gives)

numbers_of_deeds : (keys : List Key) (basis : Basis) (at : ℕ) (a b : Steering) (deeds : List Deed) → Chain (IsDone keys basis at) a deeds b → Numbers a (flat_map stood_by_deed deeds) b
numbers_of_deeds keys basis at a b [] is = let e : b.epoch ≡ a.epoch = ap (λ (s : Steering). s.epoch) is in omega (arith, e)
numbers_of_deeds keys basis at a b (deed ∷ deeds) (next, (here, none), later) =
    Numbers-then a next b (stood_by_deed deed) (flat_map stood_by_deed deeds) (numbers_of_deed keys basis at a next deed here) (numbers_of_deeds keys basis at next b deeds later)

-- a datagram leaves the number
used_epoch : (at : ℕ) (a b : Steering) (peer : ℕ) (fresh : Bool) → IsUsed at a peer fresh b → b.epoch ≡ a.epoch
used_epoch at a b peer true is = is.epoch_kept
used_epoch at a b peer false is = ap (λ (s : Steering). s.epoch) is

put_off_epoch : (at : ℕ) (a b : Steering) (peer : Option ℕ) (fault : ReplyFault) → IsPutOff at a peer fault b → b.epoch ≡ a.epoch
put_off_epoch at a b None fault is = ap (λ (s : Steering). s.epoch) is
put_off_epoch at a b (Some peer) fault is = ap (λ (s : Steering). s.epoch) is.others

answered_epoch : (at : ℕ) (a b : Steering) (from : Addr) (answer : Result TakenReply ReplyFault) (due : Bool) → IsAnswered at a from answer due b → b.epoch ≡ a.epoch
answered_epoch at a b from (Ok taken) due (is, used) = used_epoch at a b taken.peer taken.fresh used
answered_epoch at a b from (Err fault) due (is, off) = put_off_epoch at a b (line_for a.peers from) fault off

numbers_of_got : (keys : List Key) (basis : Basis) (a b : Steering) (got : Got) → IsGot keys basis a got b → Numbers a (stood_by_got got) b
numbers_of_got keys basis a b (datagram at from octets fate) is =
    Numbers-same a is.between b (stood_by_fate fate) (sym (answered_epoch at _ is.between from is.heard.answer is.due is.heard.answered)) (numbers_where basis is.between b is.due fate is.gives)
numbers_of_got keys basis a b (swept at place) is = let e : b.epoch ≡ a.epoch = ap (λ (s : Steering). s.epoch) is in omega (arith, e)
numbers_of_got keys basis a b (unswept at made stop) is = let e : b.epoch ≡ a.epoch = ap (λ (s : Steering). s.epoch) is in omega (arith, e)
numbers_of_got keys basis a b (failure made stop) is = let e : b.epoch ≡ a.epoch = ap (λ (s : Steering). s.epoch) is in omega (arith, e)
numbers_of_got keys basis a b passed is = let e : b.epoch ≡ a.epoch = ap (λ (s : Steering). s.epoch) is in omega (arith, e)
numbers_of_got keys basis a b closed is = let e : b.epoch ≡ a.epoch = ap (λ (s : Steering). s.epoch) is in omega (arith, e)

numbers_of_after : (keys : List Key) (basis : Basis) (at : ℕ) (a b : Steering) (after : After) → IsAfter keys basis at a after b → Numbers a (stood_by_after after) b
numbers_of_after keys basis at a b (takes got) (none, is) = numbers_of_got keys basis a b got is
numbers_of_after keys basis at a b (breaks deed) (is, met) = numbers_of_deed keys basis at a b deed is

begun_epoch : (begun : Bool) (at : ℕ) (s : Steering) → (begun_by begun at s).epoch ≡ s.epoch
begun_epoch true at s = refl
begun_epoch false at s = refl

numbers_of_turn : (keys : List Key) (basis : Basis) (a b : Steering) (turn : Turn) → IsTurn keys basis a turn b → Numbers a (stood_by_turn turn) b
numbers_of_turn keys basis a b turn is =
    Numbers-then a is.between b (flat_map stood_by_deed turn.deeds) (stood_by_after turn.after)
    (Numbers-same a (begun_at turn.at a) is.between (flat_map stood_by_deed turn.deeds) (sym (begun_epoch a.begun turn.at a)) (numbers_of_deeds keys basis turn.at (begun_at turn.at a) is.between turn.deeds is.deeds))
    (numbers_of_after keys basis turn.at is.between b turn.after is.rest)

numbers_of_turns : (keys : List Key) (basis : Basis) (a b : Steering) (turns : List Turn) → Chain (IsPassed keys basis) a turns b → Numbers a (flat_map stood_by_turn turns) b
numbers_of_turns keys basis a b [] is = let e : b.epoch ≡ a.epoch = ap (λ (s : Steering). s.epoch) is in omega (arith, e)
numbers_of_turns keys basis a b (turn ∷ turns) (next, (here, none), later) =
    Numbers-then a next b (stood_by_turn turn) (flat_map stood_by_turn turns) (numbers_of_turn keys basis a next turn here) (numbers_of_turns keys basis next b turns later)

-- the numbers of a flight's records climb
pub numbers_of_flight : (keys : List Key) (basis : Basis) (a b : Steering) (turns : List Turn) (last : Turn) (end : FlightEnd) → IsScript keys basis a turns last end b → Climb (a.epoch + 1) (epochs_of (stood_in turns last)) (b.epoch + 1)
numbers_of_flight keys basis a b turns last end is =
    Numbers-then a is.between b (flat_map stood_by_turn turns) (stood_by_turn last) (numbers_of_turns keys basis a is.between turns is.passed) (numbers_of_turn keys basis is.between b last is.ended)

-- where no stop was met
ending_none : (stop : Option Stop) → ending stop ≡ None → stop ≡ None
ending_none None is = refl
ending_none (Some stop) is = absurd (cc is)

ending_ended : (met : Option Stop) (stop : Stop) → ending met ≡ Some (Ended stop) → met ≡ Some stop
ending_ended None stop is = absurd (cc is)
ending_ended (Some met) stop is = cc is

ending_open : (met : Option Stop) → ending met ≡ Some Closed → ⊥
ending_open None is = cc is
ending_open (Some met) is = cc is

no_cause_of_fate : (fate : Option Fate) → stop_of_fate fate ≡ None → (gain_of_fate fate).causes ≡ []
no_cause_of_fate None is = refl
no_cause_of_fate (Some (stands place op)) is = refl
no_cause_of_fate (Some lacking) is = refl
no_cause_of_fate (Some (refused op made stop)) is = absurd (cc is)

no_cause_of_deed : (deed : Deed) → stop_of_deed deed ≡ None → (gain_of_deed deed).causes ≡ []
no_cause_of_deed (ticks fate) is = no_cause_of_fate fate is
no_cause_of_deed (asks peer to octets gave fate) is = no_cause_of_fate fate is

no_causes_of_deeds : (keys : List Key) (basis : Basis) (at : ℕ) (a b : Steering) (deeds : List Deed) → Chain (IsDone keys basis at) a deeds b → (gain_of_all gain_of_deed deeds).causes ≡ []
no_causes_of_deeds keys basis at a b [] is = refl
no_causes_of_deeds keys basis at a b (deed ∷ deeds) (next, (here, none), later) =
    ap (λ (causes : List Cause). causes ++ (gain_of_all gain_of_deed deeds).causes) (no_cause_of_deed deed none) ∙ no_causes_of_deeds keys basis at next b deeds later

no_cause_of_got : (got : Got) → end_of_got got ≡ None → (gain_of_got got).causes ≡ []
no_cause_of_got (datagram at from octets fate) is = no_cause_of_fate fate (ending_none (stop_of_fate fate) is)
no_cause_of_got (swept at place) is = refl
no_cause_of_got (unswept at made stop) is = absurd (cc is)
no_cause_of_got (failure made stop) is = absurd (cc is)
no_cause_of_got passed is = refl
no_cause_of_got closed is = refl

no_cause_of_after : (after : After) → end_of_after after ≡ None → (gain_of_after after).causes ≡ []
no_cause_of_after (takes got) is = no_cause_of_got got is
no_cause_of_after (breaks deed) is = no_cause_of_deed deed (ending_none (stop_of_deed deed) is)

no_causes_of_turns : (keys : List Key) (basis : Basis) (a b : Steering) (turns : List Turn) → Chain (IsPassed keys basis) a turns b → (gain_of_all gain_of_turn turns).causes ≡ []
no_causes_of_turns keys basis a b [] is = refl
no_causes_of_turns keys basis a b (turn ∷ turns) (next, (here, none), later) =
    ap (λ (causes : List Cause). (causes ++ (gain_of_after turn.after).causes) ++ (gain_of_all gain_of_turn turns).causes) (no_causes_of_deeds keys basis turn.at _ here.between turn.deeds here.deeds)
    ∙ ap (λ (causes : List Cause). causes ++ (gain_of_all gain_of_turn turns).causes) (no_cause_of_after turn.after none)
    ∙ no_causes_of_turns keys basis next b turns later

causes_of_fate : (fate : Option Fate) (stop : Stop) → stop_of_fate fate ≡ Some stop → HasCauses (Ended stop) (gain_of_fate fate).causes
causes_of_fate None stop is = absurd (cc is)
causes_of_fate (Some (stands place op)) stop is = absurd (cc is)
causes_of_fate (Some lacking) stop is = absurd (cc is)
causes_of_fate (Some (refused op made met)) stop is = (record { asked = Some op; made = made; stop = met }, refl, cc is)

causes_of_deed : (deed : Deed) (stop : Stop) → stop_of_deed deed ≡ Some stop → HasCauses (Ended stop) (gain_of_deed deed).causes
causes_of_deed (ticks fate) stop is = causes_of_fate fate stop is
causes_of_deed (asks peer to octets gave fate) stop is = causes_of_fate fate stop is

causes_of_got : (got : Got) (end : FlightEnd) → end_of_got got ≡ Some end → HasCauses end (gain_of_got got).causes
causes_of_got (datagram at from octets fate) Closed is = absurd (ending_open (stop_of_fate fate) is)
causes_of_got (datagram at from octets fate) (Ended stop) is = causes_of_fate fate stop (ending_ended (stop_of_fate fate) stop is)
causes_of_got (swept at place) end is = absurd (cc is)
causes_of_got (unswept at made met) Closed is = absurd (cc is)
causes_of_got (unswept at made met) (Ended stop) is = (record { asked = Some (Sweep at); made = made; stop = met }, refl, cc is)
causes_of_got (failure made met) Closed is = absurd (cc is)
causes_of_got (failure made met) (Ended stop) is = (record { asked = None; made = made; stop = met }, refl, cc is)
causes_of_got passed end is = absurd (cc is)
causes_of_got closed Closed is = refl
causes_of_got closed (Ended stop) is = absurd (cc is)

causes_of_after : (after : After) (end : FlightEnd) → end_of_after after ≡ Some end → HasCauses end (gain_of_after after).causes
causes_of_after (takes got) end is = causes_of_got got end is
causes_of_after (breaks deed) Closed is = absurd (ending_open (stop_of_deed deed) is)
causes_of_after (breaks deed) (Ended stop) is = causes_of_deed deed stop (ending_ended (stop_of_deed deed) stop is)

-- a flight met one stop at most
pub causes_of_flight : (keys : List Key) (basis : Basis) (a b : Steering) (turns : List Turn) (last : Turn) (end : FlightEnd) → IsScript keys basis a turns last end b → HasCauses end (gain_of_flight turns last).causes
causes_of_flight keys basis a b turns last end is =
    subst (λ (causes : List Cause). HasCauses end (causes ++ ((gain_of_all gain_of_deed last.deeds).causes ++ (gain_of_after last.after).causes))) (sym (no_causes_of_turns keys basis a is.between turns is.passed))
    (subst (λ (causes : List Cause). HasCauses end (causes ++ (gain_of_after last.after).causes)) (sym (no_causes_of_deeds keys basis last.at _ is.ended.between last.deeds is.ended.deeds))
    (causes_of_after last.after end is.end_is))

-- silences and sweeps
abbrev silences : List Event → ℕ
silences events = count_by is_silence events

abbrev sweeps : List Entry → ℕ
sweeps entries = count_by is_sweep (ops_of entries)

silences-append : (xs ys : List Event) → silences (xs ++ ys) ≡ silences xs + silences ys
silences-append xs ys = sum_by-append (λ (event : Event). cond (is_silence event) 1 0) xs ys

sweeps-append : (xs ys : List Entry) → sweeps (xs ++ ys) ≡ sweeps xs + sweeps ys
sweeps-append xs ys =
    ap (count_by is_sweep) (map-append (λ (entry : Entry). entry.op) xs ys)
    ∙ sum_by-append (λ (op : Op). cond (is_sweep op) 1 0) (ops_of xs) (ops_of ys)

-- each silence was swept, but for so many
abbrev Swept : Gain → ℕ → Type 0
Swept g more = silences g.events ≡ sweeps g.entries + more

Swept-joined : (g h : Gain) (m n : ℕ) → Swept g m → Swept h n → Swept (joined g h) (m + n)
Swept-joined g h m n first second = omega (arith, silences-append g.events h.events, sweeps-append g.entries h.entries, first, second)

no_sweep : (made : Option ℕ) (stop : Stop) → sweeps (stop_entries made stop) ≡ 0
no_sweep None stop = refl
no_sweep (Some place) stop = refl

publishes_no_sweep : (basis : Basis) (s : Steering) (op : Op) → Publishes basis s op → is_sweep op ≡ false
publishes_no_sweep basis s (Publish boxed) is = refl
publishes_no_sweep basis s (Arrive ask moment) is = absurd is
publishes_no_sweep basis s (Look asked context) is = absurd is
publishes_no_sweep basis s (Read ask moment) is = absurd is
publishes_no_sweep basis s (Sweep moment) is = absurd is
publishes_no_sweep basis s (Stops stop) is = absurd is

swept_of_fate : (basis : Basis) (a b : Steering) (fate : Option Fate) → Gives basis a fate b → Swept (gain_of_fate fate) 0
swept_of_fate basis a b None gives = refl
swept_of_fate basis a b (Some (stands place op)) (below, next, publishes) =
    let none : sweeps (record { place = place; op = op } ∷ []) ≡ 0 = ap (λ (test : Bool). 0 + cond test 1 0) (publishes_no_sweep basis b op publishes) in
    omega (arith, none)
swept_of_fate basis a b (Some lacking) gives = refl
swept_of_fate basis a b (Some (refused op made stop)) gives = omega (arith, no_sweep made stop)

swept_where : (basis : Basis) (a b : Steering) (due : Bool) (fate : Option Fate) → GivesWhere due basis a fate b → Swept (gain_of_fate fate) 0
swept_where basis a b true fate gives = swept_of_fate basis a b fate gives
swept_where basis a b false fate (none, same) = subst (λ (f : Option Fate). Swept (gain_of_fate f) 0) (sym none) refl

-- a request is no silence
swept_of_give : (to : Addr) (octets : List ℕ) (gave : Result (Unit {0}) PortFault) → Swept (gain_of_give to octets gave) 0
swept_of_give to octets (Ok done) = refl
swept_of_give to octets (Err fault) = refl

swept_of_deed : (keys : List Key) (basis : Basis) (at : ℕ) (a b : Steering) (deed : Deed) → IsDeed keys basis at a deed b → Swept (gain_of_deed deed) 0
swept_of_deed keys basis at a b (ticks fate) is = swept_of_fate basis _ b fate is.gives
swept_of_deed keys basis at a b (asks peer to octets gave fate) is =
    Swept-joined (gain_of_give to octets gave) (gain_of_fate fate) 0 0 (swept_of_give to octets gave) (swept_of_fate basis is.between b fate is.gives)

swept_of_deeds : (keys : List Key) (basis : Basis) (at : ℕ) (a b : Steering) (deeds : List Deed) → Chain (IsDone keys basis at) a deeds b → Swept (gain_of_all gain_of_deed deeds) 0
swept_of_deeds keys basis at a b [] is = refl
swept_of_deeds keys basis at a b (deed ∷ deeds) (next, (here, none), later) =
    Swept-joined (gain_of_deed deed) (gain_of_all gain_of_deed deeds) 0 0 (swept_of_deed keys basis at a next deed here) (swept_of_deeds keys basis at next b deeds later)

swept_of_got : (keys : List Key) (basis : Basis) (a b : Steering) (got : Got) → IsGot keys basis a got b → Swept (gain_of_got got) (unswept_by (takes got))
swept_of_got keys basis a b (datagram at from octets fate) is =
    let took : Gain = record nothing { events = Took from octets ∷ []; readings = at ∷ [] } in
    Swept-joined took (gain_of_fate fate) 0 0 refl (swept_where basis is.between b is.due fate is.gives)
swept_of_got keys basis a b (swept at place) is = refl
swept_of_got keys basis a b (unswept at made stop) is = omega (arith, no_sweep made stop)
swept_of_got keys basis a b (failure made stop) is = omega (arith, no_sweep made stop)
swept_of_got keys basis a b passed is = refl
swept_of_got keys basis a b closed is = refl

swept_of_after : (keys : List Key) (basis : Basis) (at : ℕ) (a b : Steering) (after : After) → IsAfter keys basis at a after b → Swept (gain_of_after after) (unswept_by after)
swept_of_after keys basis at a b (takes got) (none, is) = swept_of_got keys basis a b got is
swept_of_after keys basis at a b (breaks deed) (is, met) = swept_of_deed keys basis at a b deed is

swept_of_turn : (keys : List Key) (basis : Basis) (a b : Steering) (turn : Turn) → IsTurn keys basis a turn b → Swept (gain_of_turn turn) (unswept_by turn.after)
swept_of_turn keys basis a b turn is =
    let rest : Swept (joined (gain_of_all gain_of_deed turn.deeds) (gain_of_after turn.after)) (0 + unswept_by turn.after) =
    Swept-joined (gain_of_all gain_of_deed turn.deeds) (gain_of_after turn.after) 0 (unswept_by turn.after)
    (swept_of_deeds keys basis turn.at _ is.between turn.deeds is.deeds) (swept_of_after keys basis turn.at is.between b turn.after is.rest) in
    omega (arith, rest)

-- a turn that another follows swept after each silence
all_swept : (after : After) → end_of_after after ≡ None → unswept_by after ≡ 0
all_swept (takes (unswept at made stop)) is = absurd (cc is)
all_swept (takes (datagram at from octets fate)) is = refl
all_swept (takes (swept at place)) is = refl
all_swept (takes (failure made stop)) is = refl
all_swept (takes passed) is = refl
all_swept (takes closed) is = refl
all_swept (breaks deed) is = refl

swept_of_turns : (keys : List Key) (basis : Basis) (a b : Steering) (turns : List Turn) → Chain (IsPassed keys basis) a turns b → Swept (gain_of_all gain_of_turn turns) 0
swept_of_turns keys basis a b [] is = refl
swept_of_turns keys basis a b (turn ∷ turns) (next, (here, none), later) =
    Swept-joined (gain_of_turn turn) (gain_of_all gain_of_turn turns) 0 0
    (subst (λ (more : ℕ). Swept (gain_of_turn turn) more) (all_swept turn.after none) (swept_of_turn keys basis a next turn here))
    (swept_of_turns keys basis next b turns later)

-- a flight swept after each silence, but for one that its end may follow
pub swept_of_flight : (keys : List Key) (basis : Basis) (a b : Steering) (turns : List Turn) (last : Turn) (end : FlightEnd) → IsScript keys basis a turns last end b → Swept (gain_of_flight turns last) (unswept_by last.after)
swept_of_flight keys basis a b turns last end is =
    let whole : Swept (gain_of_flight turns last) (0 + unswept_by last.after) =
    Swept-joined (gain_of_all gain_of_turn turns) (gain_of_turn last) 0 (unswept_by last.after)
    (swept_of_turns keys basis a is.between turns is.passed) (swept_of_turn keys basis is.between b last is.ended) in
    omega (arith, whole)
