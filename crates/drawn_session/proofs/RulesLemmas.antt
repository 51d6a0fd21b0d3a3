-- Nobody is refused or limited in a session that begins with an opening record.
use Rattle.std.proofs.Common.{◌≡◌, ◌∙◌, ℕ, Bool, true, false, cond, Option, Some, None, List, [], ◌∷◌, ◌++◌, refl, sym, ap, subst, arith}
use Rattle.std.specs.List.{AllByRecursion, filter, flat_map}
use Rattle.std.specs.Option.{option_map, unwrap_or}
use Rattle.std.proofs.lemmas.List.Elements.{All-head, All-tail}
use Rattle.access_rules.specs.Rules.{IsPlain, flags_of}
use Rattle.access_rules.specs.declared.rules.Rule.{Rule}
use Rattle.fixed_time.specs.declared.time.Ntp64.{Ntp64}
use Rattle.mac_keys.specs.declared.keys.Key.{Key}
use Rattle.net_addr.specs.Prefixes.{has_ip}
use Rattle.net_addr.specs.declared.addr.Ip.{Ip}
use Rattle.pilot.specs.Flights.{IsScript}
use Rattle.pilot.specs.Promises.{stood_by_after, stood_by_deed, stood_by_fate, stood_by_got, stood_by_turn, stood_in}
use Rattle.pilot.specs.Script.{Fate, stands, lacking, refused, Deed, ticks, asks, Got, datagram, swept, unswept, failure, passed, closed, After, takes, breaks, Turn}
use Rattle.pilot.specs.Turns.{Chain, Gives, GivesWhere, IsAfter, IsDeed, IsDone, IsGot, IsPassed, IsTurn, Publishes}
use Rattle.pilot.specs.declared.flight.FlightEnd.{FlightEnd}
use Rattle.pilot.specs.declared.steering.Basis.{Basis}
use Rattle.pilot.specs.declared.steering.Steering.{Steering}
use Rattle.responders.specs.Flown.{Flown}
use Rattle.responders.specs.Laws.{Session}
use Rattle.responders.specs.Parts.{Part}
use Rattle.responders.specs.Sessions.{IsSession}
use Rattle.responders.proofs.LawLemmas.{pilots_publications}
use Rattle.server_core.specs.Histories.{state_after_all}
use Rattle.server_core.specs.States.{ServerState, is_publish, record_of, state_after}
use Rattle.server_core.specs.declared.op.Op.{Op}
use Rattle.server_core.specs.declared.op.Op.TheVariants.{Publish, Arrive, Look, Read, Sweep, Stop as Stops}
use Rattle.shared_book.specs.declared.common.Common.{Common}
use Rattle.sys_vars.specs.Opening.{IsOpening}
use Rattle.sys_vars.specs.declared.published.Record.{Record}
use Rattle.drawn_session.proofs.Matching.{RefusesNobody}

-- of two rules without flags, whichever has the address, or neither, it has none
no_flags-two : (first second : Bool) (one two : Rule) → one.flags ≡ 0 → two.flags ≡ 0
    → unwrap_or (option_map (λ (rule : Rule). rule.flags) (cond second (Some two) (cond first (Some one) None))) 0 ≡ 0
no_flags-two first true one two none_one none_two = none_two
no_flags-two true false one two none_one none_two = none_one
no_flags-two false false one two none_one none_two = refl

-- under plain rules no address has a flag
no_flags-plain : (rules : List Rule) (ip : Ip) → IsPlain rules → flags_of rules ip ≡ 0
no_flags-plain [] ip plain = absurd (omega (arith, plain.two))
no_flags-plain (one ∷ []) ip plain = absurd (omega (arith, plain.two))
no_flags-plain (one ∷ (two ∷ (three ∷ rules))) ip plain = absurd (omega (arith, plain.two))
no_flags-plain (one ∷ (two ∷ [])) ip plain =
    let NoFlags : Rule → Type 0 = λ rule. rule.flags ≡ 0 in
    no_flags-two (has_ip one.prefix ip) (has_ip two.prefix ip) one two
    (All-head NoFlags one (two ∷ []) plain.no_flags)
    (All-head NoFlags two [] (All-tail NoFlags one (two ∷ []) plain.no_flags))

-- nor under the rules of an opening record
no_flags-opening : (origin : Ntp64) (rec : Record) (ip : Ip) → IsOpening origin rec → flags_of rec.rules ip ≡ 0
no_flags-opening origin rec ip (rules, plain, same) = ap (λ (r : Record). flags_of r.rules ip) same ∙ no_flags-plain rules ip plain

-- an operation publishes a record with these rules, or none
abbrev KeepsRules : List Rule → Op → Type 0
KeepsRules rules (Publish boxed) = boxed.value.rules ≡ rules
KeepsRules rules (Arrive ask moment) = Unit {0}
KeepsRules rules (Look asked context) = Unit {0}
KeepsRules rules (Read ask moment) = Unit {0}
KeepsRules rules (Sweep moment) = Unit {0}
KeepsRules rules (Stops stop) = Unit {0}

-- each of these operations does
abbrev AllKeepRules : List Rule → List Op → Type 0
AllKeepRules rules ops = AllByRecursion (KeepsRules rules) ops

kept-append : (rules : List Rule) (xs ys : List Op) → AllKeepRules rules xs → AllKeepRules rules ys → AllKeepRules rules (xs ++ ys)
kept-append rules [] ys first second = second
kept-append rules (x ∷ xs) ys (here, later) second = (here, kept-append rules xs ys later second)

-- the record of what a pilot steers by has the rules of its basis
kept-op : (basis : Basis) (s : Steering) (op : Op) → Publishes basis s op → KeepsRules basis.rules op
kept-op basis s (Publish boxed) is = is.rules
kept-op basis s (Arrive ask moment) is = tt
kept-op basis s (Look asked context) is = tt
kept-op basis s (Read ask moment) is = tt
kept-op basis s (Sweep moment) is = tt
kept-op basis s (Stops stop) is = tt

kept-fate : (basis : Basis) (a b : Steering) (fate : Option Fate) → Gives basis a fate b → AllKeepRules basis.rules (stood_by_fate fate)
kept-fate basis a b None gives = tt
kept-fate basis a b (Some (stands place op)) (below, next, publishes) = (kept-op basis b op publishes, tt)
kept-fate basis a b (Some lacking) gives = tt
kept-fate basis a b (Some (refused op made stop)) gives = tt

kept-where : (basis : Basis) (a b : Steering) (due : Bool) (fate : Option Fate) → GivesWhere due basis a fate b → AllKeepRules basis.rules (stood_by_fate fate)
kept-where basis a b true fate gives = kept-fate basis a b fate gives
kept-where basis a b false fate (none, same) = subst (λ (f : Option Fate). AllKeepRules basis.rules (stood_by_fate f)) (sym none) tt

kept-deed : (keys : List Key) (basis : Basis) (at : ℕ) (a b : Steering) (deed : Deed) → IsDeed keys basis at a deed b → AllKeepRules basis.rules (stood_by_deed deed)
kept-deed keys basis at a b (ticks fate) is = kept-fate basis _ b fate is.gives
kept-deed keys basis at a b (asks peer to octets gave fate) is = kept-fate basis is.between b fate is.gives

kept-deeds : (keys : List Key) (basis : Basis) (at : ℕ) (a b : Steering) (deeds : List Deed) → Chain (IsDone keys basis at) a deeds b → AllKeepRules basis.rules (flat_map stood_by_deed deeds)
kept-deeds keys basis at a b [] is = tt
kept-deeds keys basis at a b (deed ∷ deeds) (next, (here, none), later) =
    kept-append basis.rules (stood_by_deed deed) (flat_map stood_by_deed deeds) (kept-deed keys basis at a next deed here) (kept-deeds keys basis at next b deeds later)

kept-got : (keys : List Key) (basis : Basis) (a b : Steering) (got : Got) → IsGot keys basis a got b → AllKeepRules basis.rules (stood_by_got got)
kept-got keys basis a b (datagram at from octets fate) is = kept-where basis is.between b is.due fate is.gives
kept-got keys basis a b (swept at place) is = tt
kept-got keys basis a b (unswept at made stop) is = tt
kept-got keys basis a b (failure made stop) is = tt
kept-got keys basis a b passed is = tt
kept-got keys basis a b closed is = tt

kept-after : (keys : List Key) (basis : Basis) (at : ℕ) (a b : Steering) (after : After) → IsAfter keys basis at a after b → AllKeepRules basis.rules (stood_by_after after)
kept-after keys basis at a b (takes got) (none, is) = kept-got keys basis a b got is
kept-after keys basis at a b (breaks deed) (is, met) = kept-deed keys basis at a b deed is

kept-turn : (keys : List Key) (basis : Basis) (a b : Steering) (turn : Turn) → IsTurn keys basis a turn b → AllKeepRules basis.rules (stood_by_turn turn)
kept-turn keys basis a b turn is =
    kept-append basis.rules (flat_map stood_by_deed turn.deeds) (stood_by_after turn.after)
    (kept-deeds keys basis turn.at _ is.between turn.deeds is.deeds) (kept-after keys basis turn.at is.between b turn.after is.rest)

kept-turns : (keys : List Key) (basis : Basis) (a b : Steering) (turns : List Turn) → Chain (IsPassed keys basis) a turns b → AllKeepRules basis.rules (flat_map stood_by_turn turns)
kept-turns keys basis a b [] is = tt
kept-turns keys basis a b (turn ∷ turns) (next, (here, none), later) =
    kept-append basis.rules (stood_by_turn turn) (flat_map stood_by_turn turns) (kept-turn keys basis a next turn here) (kept-turns keys basis next b turns later)

-- so has each record of a flight that stands
kept-flight : (keys : List Key) (basis : Basis) (a b : Steering) (turns : List Turn) (last : Turn) (end : FlightEnd) → IsScript keys basis a turns last end b → AllKeepRules basis.rules (stood_in turns last)
kept-flight keys basis a b turns last end is =
    kept-append basis.rules (flat_map stood_by_turn turns) (stood_by_turn last) (kept-turns keys basis a is.between turns is.passed) (kept-turn keys basis is.between b last is.ended)

-- publications alone have all records
kept-whole : (rules : List Rule) (ops : List Op) → AllKeepRules rules (filter is_publish ops) → AllKeepRules rules ops
kept-whole rules [] kept = tt
kept-whole rules (Publish boxed ∷ ops) (here, later) = (here, kept-whole rules ops later)
kept-whole rules (Arrive ask moment ∷ ops) kept = (tt, kept-whole rules ops kept)
kept-whole rules (Look asked context ∷ ops) kept = (tt, kept-whole rules ops kept)
kept-whole rules (Read ask moment ∷ ops) kept = (tt, kept-whole rules ops kept)
kept-whole rules (Sweep moment ∷ ops) kept = (tt, kept-whole rules ops kept)
kept-whole rules (Stops stop ∷ ops) kept = (tt, kept-whole rules ops kept)

-- the rules that are published after an operation
rules-after : (rules : List Rule) (rec : Record) (op : Op) → KeepsRules rules op → rec.rules ≡ rules → (record_of op rec).rules ≡ rules
rules-after rules rec (Publish boxed) kept same = kept
rules-after rules rec (Arrive ask moment) kept same = same
rules-after rules rec (Look asked context) kept same = same
rules-after rules rec (Read ask moment) kept same = same
rules-after rules rec (Sweep moment) kept same = same
rules-after rules rec (Stops stop) kept same = same

-- and those after the first of operations
rules-front : (rules : List Rule) (s : ServerState) (front more : List Op) → AllKeepRules rules (front ++ more) → s.published.rules ≡ rules
    → (state_after_all s front).published.rules ≡ rules
rules-front rules s [] more kept same = same
rules-front rules s (op ∷ front) more (here, later) same =
    rules-front rules (state_after s op) front more later (rules-after rules s.published op here same)

-- publications of a session have the rules of its opening, so that nobody is refused
pub session-refuses-nobody : (common : Common) (opening : ServerState) (history : List Op) (parts : List Part) (flown : Flown)
    → IsSession common opening history parts flown → IsOpening opening.origin opening.published
    → flown.basis.rules ≡ opening.published.rules → RefusesNobody opening history
session-refuses-nobody common opening history parts flown is opens same front (more, whole) ip =
    let flight = is.piloted.flight in
    let rules : List Rule = opening.published.rules in
    let session : Session = record { common = common; opening = opening; history = history; parts = parts; flown = flown } in
    let flown_kept : AllKeepRules flown.basis.rules (stood_in flight.turns flight.last) =
    kept-flight common.keys flown.basis flown.before.steering flown.after.steering flight.turns flight.last flown.end flight.script in
    let published : AllKeepRules flown.basis.rules (filter is_publish history) =
    subst (AllKeepRules flown.basis.rules) (sym (pilots_publications session is)) flown_kept in
    let kept : AllKeepRules rules (front ++ more) =
    subst (AllKeepRules rules) (sym whole) (subst (λ (r : List Rule). AllKeepRules r history) same (kept-whole flown.basis.rules history published)) in
    ap (λ (r : List Rule). flags_of r ip) (rules-front rules opening front more kept refl) ∙ no_flags-opening opening.origin opening.published ip opens
