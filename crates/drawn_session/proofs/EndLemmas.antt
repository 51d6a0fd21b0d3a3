-- As much was done in a session that ended as its number draws.
use Rattle.std.proofs.Common.{◌≡◌, ◌≢◌, ◌∙◌, ℕ, ◌+◌, ◌^◌, ◌<◌, Bool, IsTrue, Option, Some, None, List, [], ◌∷◌, ◌++◌, length, map, refl, sym, ap, subst, arith, append-nil, leb-true}
use Rattle.std.specs.List.{AllByRecursion, count_by, filter, range_with_len}
use Rattle.std.proofs.lemmas.List.{map-append, take_all}
use Rattle.std.proofs.lemmas.List.Elements.{filter-append}
use Rattle.std.proofs.lemmas.Grind.{flat_map-append}
use Rattle.access_rules.specs.declared.rules.Rule.{Rule}
use Rattle.draws.specs.declared.clients.TheConstants.{CLIENTS}
use Rattle.edge_traits.specs.declared.memory_clock.MemoryClock.{MemoryClock}
use Rattle.edge_traits.specs.declared.port.Event.{Event}
use Rattle.edge_traits.specs.declared.port.Event.TheVariants.{Took, Silence, Sent}
use Rattle.edge_traits.specs.Told.{gained}
use Rattle.pilot.specs.Flights.{readied_for}
use Rattle.pilot.specs.Views.{PilotParts}
use Rattle.pilot.specs.declared.steering.Basis.{Basis}
use Rattle.recency.proofs.ListLemmas.{AllByRecursion-append}
use Rattle.responders.specs.Flown.{Flown, IsPiloted}
use Rattle.responders.specs.Laws.{Session as SessionTold, act_places_of}
use Rattle.responders.specs.Outcomes.{IsDone, IsSessionOf}
use Rattle.responders.specs.Parts.{IsPart, Part}
use Rattle.responders.specs.Sessions.{AreTheirs, IsSession, IsTheirs}
use Rattle.responders.specs.declared.session.Outcome.{Outcome}
use Rattle.responders.specs.declared.session.Outcome.TheVariants.{AllClosed, NoMemory}
use Rattle.responders.specs.declared.session.Session.{Session}
use Rattle.responders.proofs.LawLemmas.{one_act}
use Rattle.responders.proofs.PlaceLemmas.{times-append}
use Rattle.server_core.specs.Histories.{state_after_all}
use Rattle.server_core.specs.States.{ServerState}
use Rattle.server_core.specs.declared.op.Op.{Op}
use Rattle.server_core.specs.declared.op.Op.TheVariants.{Arrive}
use Rattle.shared_book.specs.Entries.{View}
use Rattle.shared_book.specs.declared.common.Common.{Common}
use Rattle.turnstile.specs.Histories.{times}
use Rattle.worker.specs.Acts.{AreActs, place_in, places_of}
use Rattle.worker.specs.Doings.{Doing, carried, doing_of, heard}
use Rattle.worker.specs.Workers.{WorkerView}
use Rattle.worker.specs.declared.act.Act.{Act}
use Rattle.worker.specs.declared.carry.Carry.{Carry}
use Rattle.worker.proofs.ActLemmas.{AreActs-then}
use Rattle.drawn_session.specs.Counts.{NoneDropped, acts_of, asks, counts_of, drawn_counts, gives_time, is_control, is_kind, is_silent}
use Rattle.drawn_session.specs.Datagrams.{IsDrawn, datagrams_for, datagrams_of, is_take, took_of}
use Rattle.drawn_session.specs.Ports.{IsDrawnPort, PortParts, address_of, faults_of, host_addr, is_closed_of, most_of, quiets_of, trace_of}
use Rattle.drawn_session.specs.Sessions.{AreNewWorkers, IsFirst, IsSessionEnd, IsNewWorker, clock_told}
use Rattle.drawn_session.specs.declared.counts.Counts.{Counts}
use Rattle.drawn_session.specs.declared.datagrams.DrawnDatagram.{DrawnDatagram}
use Rattle.drawn_session.specs.declared.datagrams.Kind.TheVariants.{Cut, Control, Time}
use Rattle.drawn_session.proofs.ArrivingLemmas.{NameArrivals, arrives-asks, clients-arrive}
use Rattle.drawn_session.proofs.DrawingLemmas.{drawn-for, host_addr-one, hosts-asked, hosts-counted}
use Rattle.drawn_session.proofs.Matching.{RefusesNobody, arrives}
use Rattle.drawn_session.proofs.ActLemmas.{acts-for, acts-for-counts}
use Rattle.drawn_session.proofs.RowLemmas.{count_by-same, rows-counted}
use Rattle.drawn_session.proofs.RulesLemmas.{session-refuses-nobody}

-- a worker of a drawn session, at a seat
abbrev drawn_doing : WorkerView PortParts MemoryClock → View → Doing
drawn_doing worker seat = doing_of trace_of faults_of quiets_of address_of most_of clock_told worker seat

-- what is heard has all takes
heard-takes : (events : List Event) → filter is_take (heard events) ≡ filter is_take events
heard-takes [] = refl
heard-takes (Took from octets ∷ events) = ap (λ (rest : List Event). Took from octets ∷ rest) (heard-takes events)
heard-takes (Silence ∷ events) = heard-takes events
heard-takes (Sent to octets ∷ events) = heard-takes events

-- a closed port found all that its number draws for its host
all-taken : (p : PortParts) → IsDrawnPort p → IsTrue (is_closed_of p) → filter is_take p.events ≡ map took_of (datagrams_for p.number p.host)
all-taken p is closed =
    let datagrams = datagrams_for p.number p.host in
    is.took ∙ ap (map took_of) (take_all p.found datagrams (leb-true (length datagrams) p.found closed))

-- acts answer these datagrams, which are all that was taken for them
record AnswerAll (common : Common) (opening : ServerState) (history : List Op) (ds : List DrawnDatagram) (acts : List Act) : Type 0 where
  told : List Event
  answered : AreActs common opening history acts told
  took : filter is_take told ≡ map took_of ds

-- workers of hosts from this one on have done nothing yet
abbrev AreNewFrom : ℕ → ℕ → List (WorkerView PortParts MemoryClock) → Type 0
AreNewFrom number host [] = Unit {0}
AreNewFrom number host (worker ∷ workers) = IsNewWorker number host worker × AreNewFrom number (host + 1) workers

-- what a number draws for the hosts of these workers
abbrev drawn_from : ℕ → ℕ → List (WorkerView PortParts MemoryClock) → List DrawnDatagram
drawn_from number host [] = []
drawn_from number host (worker ∷ workers) = datagrams_for number host ++ drawn_from number (host + 1) workers

-- what a worker did answers all that its number draws for it, and stands in its part
module _ (common : Common) (opening : ServerState) (history : List Op) (number : ℕ) (fits : number < 2 ^ 64) where
  module _ (host : ℕ) (old new : WorkerView PortParts MemoryClock) (part : Part) (begins : IsNewWorker number host old) (is : IsPart common opening history part) (theirs : IsTheirs drawn_doing old part new) (port : IsDrawnPort new.port) (done : IsDone is_closed_of new) where
    -- its acts are those of its part
    acts-kept : part.after.acts ≡ new.acts
    acts-kept = ap (λ (d : Doing). d.acts) theirs.left

    acts-gained : is.did.more ≡ new.acts
    acts-gained = sym (is.did.acts_are ∙ ap (λ (acts : List Act). acts ++ is.did.more) is.idle) ∙ acts-kept

    -- its port is that of the host
    port-kept : (new.port.number ≡ number) × (new.port.host ≡ host)
    port-kept =
        let before : part.before.address ≡ host_addr number host = ap (λ (d : Doing). d.address) theirs.began ∙ ap address_of begins.port in
        let after : part.after.address ≡ host_addr new.port.number new.port.host = ap (λ (d : Doing). d.address) theirs.left in
        host_addr-one new.port.number number new.port.host host port.fits fits (sym after ∙ is.did.worker_kept.address_kept ∙ before)

    -- the events of its port are those of its part
    events-kept : new.port.events ≡ is.did.events
    events-kept =
        let before : part.before.trace ≡ Some [] = ap (λ (d : Doing). d.trace) theirs.began ∙ ap trace_of begins.port in
        let after : part.after.trace ≡ Some new.port.events = ap (λ (d : Doing). d.trace) theirs.left in
        let same : Some new.port.events ≡ Some is.did.events = sym after ∙ is.did.trace_is ∙ ap (λ (told : Option (List Event)). gained told is.did.events) before in
        cc same

    -- its acts tell all that it heard
    told-heard : is.did.told ≡ heard is.did.events
    told-heard =
        let before : part.before.carry ≡ None = ap (λ (d : Doing). d.carry) theirs.began ∙ begins.empty in
        let after : part.after.carry ≡ None = ap (λ (d : Doing). d.carry) theirs.left ∙ done.empty in
        sym (append-nil is.did.told)
        ∙ ap (λ (carry : Option Carry). is.did.told ++ carried carry) (sym after)
        ∙ sym is.did.heard_are
        ∙ ap (λ (carry : Option Carry). carried carry ++ heard is.did.events) before

    worker-took : filter is_take is.did.told ≡ map took_of (datagrams_for number host)
    worker-took =
        let hosts : datagrams_for new.port.number new.port.host ≡ datagrams_for number host =
        ap (λ (n : ℕ). datagrams_for n new.port.host) port-kept.0 ∙ ap (datagrams_for number) port-kept.1 in
        ap (filter is_take) told-heard
        ∙ heard-takes is.did.events
        ∙ ap (filter is_take) (sym events-kept)
        ∙ all-taken new.port port done.closed
        ∙ ap (map took_of) hosts

    worker-answers : AnswerAll common opening history (datagrams_for number host) new.acts
    worker-answers = record {
      told = is.did.told;
      answered = subst (λ (acts : List Act). AreActs common opening history acts is.did.told) acts-gained is.did.answered;
      took = worker-took;
    }

  answer-both : (ds more : List DrawnDatagram) (acts later : List Act) → AnswerAll common opening history ds acts → AnswerAll common opening history more later → AnswerAll common opening history (ds ++ more) (acts ++ later)
  answer-both ds more acts later first second = record {
    told = first.told ++ second.told;
    answered = AreActs-then common opening history acts later first.told second.told first.answered second.answered;
    took = filter-append is_take first.told second.told
        ∙ ap (λ (front : List Event). front ++ filter is_take second.told) first.took
        ∙ ap (λ (rest : List Event). map took_of ds ++ rest) second.took
        ∙ sym (map-append took_of ds more);
  }

  -- what all workers did answers all that the number draws for their hosts
  workers-answer : (host : ℕ) (olds : List (WorkerView PortParts MemoryClock)) (parts : List Part) (news : List (WorkerView PortParts MemoryClock)) → AreNewFrom number host olds → AllByRecursion (IsPart common opening history) parts → AreTheirs drawn_doing olds parts news
      → AllByRecursion (λ worker. IsDrawnPort worker.port) news → AllByRecursion (IsDone is_closed_of) news → AnswerAll common opening history (drawn_from number host olds) (acts_of news)
  workers-answer host [] [] [] begin worked theirs ports done = record { told = []; answered = refl; took = refl }
  workers-answer host (old ∷ olds) (part ∷ parts) (new ∷ news) begin worked theirs ports done =
      answer-both (datagrams_for number host) (drawn_from number (host + 1) olds) new.acts (acts_of news)
      (worker-answers host old new part begin.0 worked.0 theirs.0 ports.0 done.0)
      (workers-answer (host + 1) olds parts news begin.1 worked.1 theirs.1 ports.1 done.1)
  workers-answer host _ _ _ begin worked theirs ports done = absurd theirs

-- the acts of all workers name the places that those of all parts name
places-kept : (place : ℕ) (olds : List (WorkerView PortParts MemoryClock)) (parts : List Part) (news : List (WorkerView PortParts MemoryClock)) → AreTheirs drawn_doing olds parts news
    → times place (act_places_of parts) ≡ times place (places_of (acts_of news))
places-kept place [] [] [] theirs = refl
places-kept place (old ∷ olds) (part ∷ parts) (new ∷ news) theirs =
    let acts : part.after.acts ≡ new.acts = ap (λ (d : Doing). d.acts) theirs.0.left in
    let first : times place (places_of part.after.acts) ≡ times place (places_of new.acts) = ap (λ (acts : List Act). times place (places_of acts)) acts in
    let whole : times place (places_of (new.acts ++ acts_of news)) ≡ times place (places_of new.acts ++ places_of (acts_of news)) =
    ap (times place) (flat_map-append (λ (act : Act). place_in act.kind) new.acts (acts_of news)) in
    omega (
      arith,
      first,
      whole,
      times-append place (places_of part.after.acts) (act_places_of parts),
      times-append place (places_of new.acts) (places_of (acts_of news)),
      places-kept place olds parts news theirs.1,
    )
places-kept place _ _ _ theirs = absurd theirs

-- the two workers of a drawn session are those of hosts 0 and 1
two-begin : (number : ℕ) (olds : List (WorkerView PortParts MemoryClock)) → AreNewWorkers number olds → AreNewFrom number 0 olds
two-begin number olds are = subst (AreNewFrom number 0) (sym are.are) (are.first_new, (are.second_new, tt))

two-draw : (number : ℕ) (olds : List (WorkerView PortParts MemoryClock)) → AreNewWorkers number olds → drawn_from number 0 olds ≡ datagrams_for number 0 ++ datagrams_for number 1
two-draw number olds are = ap (drawn_from number 0) are.are ∙ ap (λ (rest : List DrawnDatagram). datagrams_for number 0 ++ rest) (append-nil (datagrams_for number 1))

-- the records of a pilot that was made ready for a session have the rules of its opening
rules_of : Option Basis → List Rule
rules_of None = []
rules_of (Some basis) = basis.rules

readied-rules : (opening : ServerState) (pilot : PilotParts) (flown : Flown) (new : PilotParts) → IsPiloted (readied_for opening.published pilot) flown new → flown.basis.rules ≡ opening.published.rules
unfolding rules_of
readied-rules opening pilot flown new is = sym (ap (λ (p : PilotParts). rules_of p.basis) is.before_is)

-- counts with the same parts are the same
same-counts : (one other : Counts) → one.times ≡ other.times → one.controls ≡ other.controls → one.silent ≡ other.silent → one.clients ≡ other.clients → one ≡ other
same-counts one other times controls silent clients =
    let at : ℕ → ℕ → ℕ → ℕ → Counts = λ (t c s n : ℕ). record { times = t; controls = c; silent = s; clients = n } in
    ap (λ (t : ℕ). at t one.controls one.silent one.clients) times
    ∙ ap (λ (c : ℕ). at other.times c one.silent one.clients) controls
    ∙ ap (λ (s : ℕ). at other.times other.controls s one.clients) silent
    ∙ ap (λ (n : ℕ). at other.times other.controls other.silent n) clients

-- acts of a session name each place at which someone arrives
acts-named : (common : Common) (opening : ServerState) (history : List Op) (olds : List (WorkerView PortParts MemoryClock)) (parts : List Part) (news : List (WorkerView PortParts MemoryClock)) (flown : Flown) → IsSession common opening history parts flown → AreTheirs drawn_doing olds parts news
    → NameArrivals history (acts_of news)
acts-named common opening history olds parts news flown is theirs place ask moment here =
    let session : SessionTold = record { common = common; opening = opening; history = history; parts = parts; flown = flown } in
    let once : times place (act_places_of parts) ≡ 1 = one_act session place (Arrive ask moment) is here in
    omega (arith, once, places-kept place olds parts news theirs)

-- what the draws say of acts and rows, of a history in which nobody is refused, whose acts answer all that a number draws for
-- two hosts
drawn-counted : (common : Common) (opening : ServerState) (history : List Op) (number : ℕ) (ds : List DrawnDatagram) (acts : List Act) → ds ≡ datagrams_for number 0 ++ datagrams_for number 1 → RefusesNobody opening history
    → opening.rows ≡ [] → opening.limits.mindepth ≡ CLIENTS → AnswerAll common opening history ds acts → NoneDropped acts → NameArrivals history acts
    → (count_by (λ (a : Act). gives_time a.kind) acts ≡ count_by (λ (d : DrawnDatagram). is_kind Time d.kind) (datagrams_of number))
    × (count_by (λ (a : Act). is_control a.kind) acts ≡ count_by (λ (d : DrawnDatagram). is_kind Control d.kind) (datagrams_of number))
    × (count_by (λ (a : Act). is_silent a.kind) acts ≡ count_by (λ (d : DrawnDatagram). is_kind Cut d.kind) (datagrams_of number))
    × (length (state_after_all opening history).rows ≡ count_by (asks (datagrams_of number)) (range_with_len 0 CLIENTS))
drawn-counted common opening history number ds acts both refuses rows limits answer none_dropped named =
    let drawn : AllByRecursion IsDrawn ds =
    subst (AllByRecursion IsDrawn) (sym both) (AllByRecursion-append IsDrawn (datagrams_for number 0) (datagrams_for number 1) (drawn-for number 0) (drawn-for number 1)) in
    let are = acts-for common opening history acts answer.told ds refuses answer.answered answer.took drawn none_dropped in
    let counts = acts-for-counts history ds acts are in
    let whole : (p : DrawnDatagram → Bool) → count_by p ds ≡ count_by p (datagrams_of number) = λ p. ap (count_by p) both ∙ hosts-counted number p in
    let asked : (client : ℕ) → arrives history client ≡ asks (datagrams_of number) client =
    λ client. arrives-asks history ds acts are drawn named client ∙ ap (λ (these : List DrawnDatagram). asks these client) both ∙ hosts-asked number client in (
      counts.0 ∙ whole (λ d. is_kind Time d.kind),
      counts.1 ∙ whole (λ d. is_kind Control d.kind),
      counts.2 ∙ whole (λ d. is_kind Cut d.kind),
      rows-counted opening history rows limits refuses (clients-arrive history ds acts are drawn named) ∙ count_by-same (arrives history) (asks (datagrams_of number)) (range_with_len 0 CLIENTS) asked,
    )

-- as much was done in a session that ended since nothing will come any more, where memory was wanting for no datagram, as its
-- number draws
pub session-drawn : (number : ℕ) (first last : Session PortParts MemoryClock) (outcome : Outcome) (fits : number < 2 ^ 64) → IsFirst number first
    → IsSessionOf trace_of faults_of quiets_of address_of most_of is_closed_of clock_told first outcome last → AllByRecursion (λ worker. IsDrawnPort worker.port) last.workers → outcome ≡ AllClosed
    → NoneDropped (acts_of last.workers) → counts_of last ≡ drawn_counts (datagrams_of number)
session-drawn number first last outcome fits begins is ports closed none_dropped =
    let served = is.served (λ lacks. cc (closed, lacks)) in
    let opening = first.book.state in
    let history = last.book.journal in
    let refuses = session-refuses-nobody first.common opening history served.parts served.flown served.is_session begins.state.published (readied-rules opening first.pilot served.flown last.pilot served.piloted) in
    let answer = workers-answer first.common opening history number fits 0 first.workers served.parts last.workers (two-begin number first.workers begins.workers) served.is_session.worked served.theirs ports (is.closed closed) in
    let named = acts-named first.common opening history first.workers served.parts last.workers served.flown served.is_session served.theirs in
    let drawn = drawn-counted first.common opening history number (drawn_from number 0 first.workers) (acts_of last.workers) (two-draw number first.workers begins.workers) refuses begins.state.rows begins.state.limits.mindepth answer none_dropped named in
    same-counts (counts_of last) (drawn_counts (datagrams_of number)) drawn.0 drawn.1 drawn.2 (ap (λ (s : ServerState). length s.rows) is.state ∙ drawn.3)

-- a session that a number draws, and that was served, ended so
pub session-ended : (number : ℕ) (last : Session PortParts MemoryClock) (outcome : Outcome) (counts : Counts) → number < 2 ^ 64 → outcome ≢ NoMemory
    → (first : Session PortParts MemoryClock) × IsFirst number first × IsSessionOf trace_of faults_of quiets_of address_of most_of is_closed_of clock_told first outcome last
    → counts ≡ counts_of last → AllByRecursion (λ worker. IsDrawnPort worker.port) last.workers → IsSessionEnd number (record { session = last; outcome = outcome; counts = counts })
session-ended number last outcome counts fits ran (first, begins, served) counted ports = record {
  first = first;
  begins = begins;
  served = served;
  ran = ran;
  counts = counted;
  drawn = λ closed none_dropped. counted ∙ session-drawn number first last outcome fits begins served ports closed none_dropped;
}
