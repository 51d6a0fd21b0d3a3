-- What the parts of a turn add up to.
use Rattle.std.proofs.Common.{◌≡◌, ◌≢◌, ◌⊎◌, ◌∙◌, ◌≤◌, ◌<◌, ◌-◌, ◌*◌, ◌^◌, ℕ, true, false, Option, None, Some, IfSome, IsSome, Result, Ok, Err, IfOk, IsErrOf, List, [], length, get_or, slice_get, slice_set, codes, refl, sym, ap, subst, inl, inr, arith, set-set}
use Rattle.std.proofs.lemmas.Option.{slice_get_cases}
use Rattle.associations.specs.Associations.{asked as asked_for}
use Rattle.associations.specs.DueTimes.{moment_after}
use Rattle.associations.specs.Requests.{request_of}
use Rattle.associations.specs.Taking.{HasPeer, peer_at, time_at}
use Rattle.associations.specs.declared.association.Association.{Association}
use Rattle.associations.specs.declared.due_times.NextRequest.{NextRequest}
use Rattle.associations.specs.declared.due_times.NextRequest.TheVariants.{AsBefore, Due}
use Rattle.associations.specs.declared.judging.ReplyFault.{ReplyFault}
use Rattle.associations.specs.declared.judging.ReplyFault.TheVariants.{Kiss}
use Rattle.discipline.specs.declared.soft_clock.SoftClock.{SoftClock}
use Rattle.edge_traits.specs.Told.{Rose}
use Rattle.edge_traits.specs.declared.port.PortFault.{PortFault}
use Rattle.edge_traits.specs.declared.port.PortFault.TheVariants.{Failed, NoMemory}
use Rattle.mac_keys.specs.declared.keys.Key.{Key}
use Rattle.net_addr.specs.declared.addr.Addr.{Addr}
use Rattle.server_core.specs.States.{ServerState, stop_in}
use Rattle.server_core.specs.declared.op.Op.{Op}
use Rattle.server_core.specs.declared.op.Stop.{Stop}
use Rattle.server_core.specs.declared.step.Reply.{Reply}
use Rattle.server_core.specs.declared.step.StepFault.TheVariants as fault
use Rattle.shared_book.specs.Entries.{IsEntered, IsUnentered, View}
use Rattle.shared_book.specs.Stops.{IsEnded}
use Rattle.shared_book.specs.declared.stopping.Unentered.{Unentered}
use Rattle.shared_book.specs.declared.stopping.Unentered.TheVariants.{Ended as Met, NoMemory as NoRoom}
use Rattle.wheel.specs.DueTimes.{IsFirstDue}
use Rattle.pilot.specs.Calls.{Calls, IsPilots, stop_met}
use Rattle.pilot.specs.Gains.{Gain, Gained, IsCounted, failures_of, gain_of_fate, gain_of_give, joined, nothing}
use Rattle.pilot.specs.Hearing.{IsDelayed, IsHeard}
use Rattle.pilot.specs.Script.{stands, lacking, refused, ticks, asks}
use Rattle.pilot.specs.Steering.{IsAsk, ticked_at}
use Rattle.pilot.specs.Steps.{Asks, AsksAt, DoesDeed, DoesFirst, GivesAt, TakesIn, doing_of}
use Rattle.pilot.specs.Turns.{Gives, Publishes, numbered}
use Rattle.pilot.specs.Views.{HelmParts}
use Rattle.pilot.specs.declared.deeds.Doing.{Doing}
use Rattle.pilot.specs.declared.steering.Basis.{Basis}
use Rattle.pilot.specs.declared.steering.Steering.{Steering}
use Rattle.pilot.specs.declared.steering.TheConstants.{TICK_KEY}
use Rattle.pilot.proofs.CallLemmas.{Called-entered, Called-none, call-ended, call-wants_none}
use Rattle.pilot.proofs.ChainLemmas.{nothing-joined}
use Rattle.pilot.proofs.GainLemmas.{Gained-inside, Gained-then, Grows-same}

-- what one call is, by how it was answered
pub Calls-answered : {Entered : Type 0} (place_of : Entered → ℕ) (reply_of : Entered → Reply) (opening : ServerState) (who : ℕ) (op : Op) (called : Result Entered Unentered) (x y : View) → IsPilots op
    → IfOk called (λ entry. IsEntered opening x op (place_of entry) (reply_of entry) y)
    → ((stood : Stop) → called ≡ Err (Met stood) → IsEnded opening who x op stood y)
    → ((stood : Stop) → called ≡ Err (Met stood) → stop_in y.front ≡ Some stood)
    → (called ≡ Err NoRoom → IsUnentered opening x op fault.NoMemory y)
    → Calls opening who op (stop_met called) x y
Calls-answered place_of reply_of opening who op (Ok entry) x y pilots entered ended stood wants =
    (place_of entry, Called-entered opening who (place_of entry) op (reply_of entry) x y pilots entered)
Calls-answered place_of reply_of opening who op (Err (Met stop)) x y pilots entered ended stood wants =
    call-ended opening who op stop x y (ended stop refl) (stood stop refl)
Calls-answered place_of reply_of opening who op (Err NoRoom) x y pilots entered ended stood wants =
    absurd (call-wants_none opening op x y pilots (wants refl))

-- the server of a number that there is
found : (servers : List Association) (place : ℕ) → place < length servers
    → ((server : Association) × (place < length servers) × (slice_get servers place ≡ Some server) × (get_or servers place server ≡ server)) ⊎ ((length servers ≤ place) × (slice_get servers place ≡ None))
    → (server : Association) × (slice_get servers place ≡ Some server)
found servers place within (inl (server, below, is, same)) = (server, is)
found servers place within (inr (past, none)) = absurd (omega (arith, within, past))

pub there : (servers : List Association) (peer : ℕ) → HasPeer servers peer → (server : Association) × (peer_at servers peer ≡ Some server)
there servers peer has =
    found servers (peer - 1) (omega (arith, has.0, has.1)) ((slice_get_cases servers (peer - 1)).1)

-- what holds of it where there is one
pub at_some : {A : Type 0} (found : Option A) (x : A) (P : A → Type 0) → found ≡ Some x → IfSome found P → P x
at_some {A = A} found x P is holds = subst (λ (o : Option A). IfSome o P) is holds

pub some_is : {A : Type 0} (found : Option A) (x : A) → found ≡ Some x → IsSome found
some_is {A = A} found x is = subst (λ (o : Option A). IsSome o) (sym is) refl

-- the next request of a server is due as before, or at another time
abbrev pub put_by : NextRequest → ℕ → Steering → Steering
put_by AsBefore peer s = s
put_by (Due next) peer s = record s { due = slice_set s.due peer next }

put_by-others : (next : NextRequest) (peer : ℕ) (s : Steering) → ◌≡◌ {A = Steering} (put_by next peer s) (record s { due = (put_by next peer s).due })
put_by-others AsBefore peer s = refl
put_by-others (Due next) peer s = refl

-- after a reply of it was refused
pub IsDelayed-put_by : (at : ℕ) (s : Steering) (peer : ℕ) (fault : ReplyFault) (next : NextRequest) (after : Steering) → HasPeer s.peers peer
    → (fault ≡ Kiss (codes "RATE") → IfSome (peer_at s.peers peer) (λ p. next ≡ Due (moment_after (4 * 2 ^ p.line.poll) at)))
    → (fault ≢ Kiss (codes "RATE") → next ≡ AsBefore)
    → after ≡ put_by next peer s → IsDelayed at s peer fault after
IsDelayed-put_by at s peer fault next after has put_off as_before same =
    let one = there s.peers peer has in record {
      server = one.0;
      there = one.1;
      put_off = λ is. same ∙ ap (λ (due : NextRequest). put_by due peer s) (at_some (peer_at s.peers peer) one.0 (λ (p : Association). next ≡ Due (moment_after (4 * 2 ^ p.line.poll) at)) one.1 (put_off is));
      as_before = λ other. same ∙ ap (λ (due : NextRequest). put_by due peer s) (as_before other);
      others = let P : Steering → Type 0 = λ t. ◌≡◌ {A = Steering} t (record s { due = t.due }) in subst P (sym same) (put_by-others next peer s);
    }

-- a request that was made by the clauses of the one who makes it
pub IsAsk-made : (keys : List Key) (at : ℕ) (s : Steering) (peer : ℕ) (to : Addr) (octets : List ℕ) (servers : List Association) (next : Option ℕ) (due : List (Option ℕ)) → HasPeer s.peers peer
    → IfSome (peer_at s.peers peer) (λ p. to ≡ p.line.addr)
    → IfSome (peer_at s.peers peer) (λ p. next ≡ moment_after (2 ^ p.line.poll) at)
    → IfSome (peer_at s.peers peer) (λ p. octets ≡ request_of p.line keys (time_at s.engine.clock at))
    → IfSome (peer_at s.peers peer) (λ p. servers ≡ slice_set s.peers (peer - 1) (asked_for p (time_at s.engine.clock at)))
    → due ≡ slice_set s.due peer next
    → IsAsk keys at s peer to octets (record s { peers = servers; due = due })
IsAsk-made keys at s peer to octets servers next due has to_is next_is octets_is servers_is due_is =
    let one = there s.peers peer has in
    let now : servers ≡ slice_set s.peers (peer - 1) (asked_for one.0 (time_at s.engine.clock at)) =
    at_some (peer_at s.peers peer) one.0 (λ (p : Association). servers ≡ slice_set s.peers (peer - 1) (asked_for p (time_at s.engine.clock at))) one.1 servers_is in
    let then : due ≡ slice_set s.due peer (moment_after (2 ^ one.0.line.poll) at) =
    due_is ∙ ap (slice_set s.due peer) (at_some (peer_at s.peers peer) one.0 (λ (p : Association). next ≡ moment_after (2 ^ p.line.poll) at) one.1 next_is) in
    record {
      server = one.0;
      numbered = has;
      there = one.1;
      to_is = at_some (peer_at s.peers peer) one.0 (λ (p : Association). to ≡ p.line.addr) one.1 to_is;
      octets_is = at_some (peer_at s.peers peer) one.0 (λ (p : Association). octets ≡ request_of p.line keys (time_at s.engine.clock at)) one.1 octets_is;
      after_is = ap (λ (l : List Association). let after : Steering = record s { peers = l; due = due } in after) now
          ∙ ap (λ (d : List (Option ℕ)). let after : Steering = record s { peers = slice_set s.peers (peer - 1) (asked_for one.0 (time_at s.engine.clock at)); due = d } in after) then;
    }

-- the same, by a clock that is the loop's
pub IsAsk-by : (keys : List Key) (at : ℕ) (s : Steering) (peer : ℕ) (clock : SoftClock) (to : Addr) (octets : List ℕ) (servers : List Association) (next : Option ℕ) (due : List (Option ℕ)) → HasPeer s.peers peer → clock ≡ s.engine.clock
    → IfSome (peer_at s.peers peer) (λ p. to ≡ p.line.addr)
    → IfSome (peer_at s.peers peer) (λ p. next ≡ moment_after (2 ^ p.line.poll) at)
    → IfSome (peer_at s.peers peer) (λ p. octets ≡ request_of p.line keys (time_at clock at))
    → IfSome (peer_at s.peers peer) (λ p. servers ≡ slice_set s.peers (peer - 1) (asked_for p (time_at clock at)))
    → due ≡ slice_set s.due peer next
    → IsAsk keys at s peer to octets (record s { peers = servers; due = due })
IsAsk-by keys at s peer clock to octets servers next due has same to_is next_is octets_is servers_is due_is =
    IsAsk-made keys at s peer to octets servers next due has to_is next_is
    (subst (λ (k : SoftClock). IfSome (peer_at s.peers peer) (λ p. octets ≡ request_of p.line keys (time_at k at))) same octets_is)
    (subst (λ (k : SoftClock). IfSome (peer_at s.peers peer) (λ p. servers ≡ slice_set s.peers (peer - 1) (asked_for p (time_at k at)))) same servers_is)
    due_is

-- what was asked of a helm that is the same
pub Asks-same : (keys : List Key) (at peer : ℕ) (i a b : HelmParts) → i ≡ a → Asks keys at peer i b → Asks keys at peer a b
Asks-same keys at peer i a b same asked = subst (λ (h : HelmParts). Asks keys at peer h b) same asked

-- a count rose where a give failed
pub Rose-give : (gave : Result (Unit {0}) PortFault) (old new : ℕ) → (IsErrOf gave Failed → Rose 1 old new) → old ≤ new → Rose (failures_of gave) old new
Rose-give (Ok done) old new failed kept = omega (arith, kept)
Rose-give (Err Failed) old new failed kept = failed refl
Rose-give (Err NoMemory) old new failed kept = omega (arith, kept)

-- a record that was entered, or met a stop
pub GivesAt-called : (opening : ServerState) (basis : Basis) (who : ℕ) (op : Op) (stop : Option Stop) (a b : HelmParts) (x y : View) → a.steering.epoch < 2 ^ 64 - 1 → b.steering ≡ numbered a.steering → b.outside ≡ a.outside → b.left ≡ a.left → Publishes basis b.steering op → Calls opening who op stop x y → GivesAt opening basis who a.steering stop a x b y
GivesAt-called opening basis who op None a b x y below next same left publishes (place, called) = record {
  fate = Some (stands place op);
  gives = (below, next, publishes);
  stop_is = refl;
  gained = Gained-inside opening who 0 _ _ a b x y same (omega (arith, left), omega (arith, left)) called;
}
GivesAt-called opening basis who op (Some stop) a b x y below next same left publishes (made, called) = record {
  fate = Some (refused op made stop);
  gives = (below, next, publishes);
  stop_is = refl;
  gained = Gained-inside opening who 0 _ _ a b x y same (omega (arith, left), omega (arith, left)) called;
}

-- a record that was left out
pub GivesAt-lacking : (opening : ServerState) (basis : Basis) (who : ℕ) (a b : HelmParts) (x : View) → a.steering.epoch < 2 ^ 64 - 1 → b.steering ≡ numbered a.steering → b.outside ≡ a.outside → IsCounted 1 a.left b.left → GivesAt opening basis who a.steering None a x b x
GivesAt-lacking opening basis who a b x below next same left = record {
  fate = Some lacking;
  gives = (below, next, tt);
  stop_is = refl;
  gained = Gained-inside opening who 1 [] [] a b x x same left (Called-none opening who x);
}

-- where only what is steered by has changed before, the same is gained
pub Gained-from : (opening : ServerState) (who : ℕ) (g : Gain) (a m b : HelmParts) (x y : View) → m.outside ≡ a.outside → m.left ≡ a.left → Gained opening who g m x b y → Gained opening who g a x b y
Gained-from opening who g a m b x y same left then =
    subst (λ (h : Gain). Gained opening who h a x b y) (nothing-joined g)
    (Gained-then opening who nothing g a m b x x y (Gained-inside opening who 0 [] [] a m x x same (omega (arith, left), omega (arith, left)) (Called-none opening who x)) then)

-- a request and its record
pub AsksAt-asked : (opening : ServerState) (keys : List Key) (basis : Basis) (who at peer : ℕ) (stop : Option Stop) (a m b : HelmParts) (x y : View) → Asks keys at peer a m → GivesAt opening basis who m.steering stop m x b y → AsksAt opening keys basis who at peer stop a x b y
AsksAt-asked opening keys basis who at peer stop a m b x y asked given = record {
  to = asked.to;
  octets = asked.octets;
  gave = asked.gave;
  fate = given.fate;
  between = m.steering;
  asked = asked.asked;
  gives = given.gives;
  stop_is = given.stop_is;
  gained = Gained-then opening who (gain_of_give asked.to asked.octets asked.gave) (gain_of_fate given.fate) a m b x x y
      (record {
        trace = asked.trace;
        readings = Grows-same a.outside.readings m.outside.readings asked.readings_kept;
        failed = asked.failed;
        quiet = omega (arith, asked.quiets_kept);
        left = asked.left;
        called = Called-none opening who x;
      })
      given.gained;
}

-- the tick that was first due, and its record
pub DoesDeed-tick : (opening : ServerState) (keys : List Key) (basis : Basis) (who at : ℕ) (stop : Option Stop) (a m b : HelmParts) (x y : View) → IsFirstDue a.steering.due at TICK_KEY → m.steering ≡ record a.steering { due = slice_set a.steering.due TICK_KEY None } → m.outside ≡ a.outside → m.left ≡ a.left → GivesAt opening basis who (ticked_at at m.steering) stop m x b y → DoesDeed opening keys basis who at stop a x b y
DoesDeed-tick opening keys basis who at stop a m b x y first taken same left given = record {
  deed = ticks given.fate;
  is_deed = record {
    first = first;
    gives = subst (λ (s : Steering). Gives basis s given.fate b.steering)
        (ap (ticked_at at) taken ∙ ap (λ (d : List (Option ℕ)). let s : Steering = record (ticked_at at a.steering) { due = d } in s) (set-set a.steering.due TICK_KEY None _))
        given.gives;
  };
  stop_is = given.stop_is;
  gained = Gained-from opening who (gain_of_fate given.fate) a m b x y same left given.gained;
}

-- a request does not ask when it was due
IsAsk-taken : (keys : List Key) (at : ℕ) (s : Steering) (peer : ℕ) (to : Addr) (octets : List ℕ) (after : Steering) → IsAsk keys at (record s { due = slice_set s.due peer None }) peer to octets after → IsAsk keys at s peer to octets after
IsAsk-taken keys at s peer to octets after asked = record {
  server = asked.server;
  numbered = asked.numbered;
  there = asked.there;
  to_is = asked.to_is;
  octets_is = asked.octets_is;
  after_is = asked.after_is ∙ ap (λ (d : List (Option ℕ)). let t : Steering = record s {
    peers = slice_set s.peers (peer - 1) (asked_for asked.server (time_at s.engine.clock at));
    due = d;
  } in t) (set-set s.due peer None _);
}

-- the request that was first due, and its record
pub DoesDeed-asks : (opening : ServerState) (keys : List Key) (basis : Basis) (who at peer : ℕ) (stop : Option Stop) (a m b : HelmParts) (x y : View) → IsFirstDue a.steering.due at peer → m.steering ≡ record a.steering { due = slice_set a.steering.due peer None } → m.outside ≡ a.outside → m.left ≡ a.left → AsksAt opening keys basis who at peer stop m x b y → DoesDeed opening keys basis who at stop a x b y
DoesDeed-asks opening keys basis who at peer stop a m b x y first taken same left given = record {
  deed = asks peer given.to given.octets given.gave given.fate;
  is_deed = record {
    first = first;
    between = given.between;
    asked = IsAsk-taken keys at a.steering peer given.to given.octets given.between
        (subst (λ (s : Steering). IsAsk keys at s peer given.to given.octets given.between) taken given.asked);
    gives = given.gives;
  };
  stop_is = given.stop_is;
  gained = Gained-from opening who (joined (gain_of_give given.to given.octets given.gave) (gain_of_fate given.fate)) a m b x y same left given.gained;
}

-- a deed was the first
pub DoesFirst-deed : (opening : ServerState) (keys : List Key) (basis : Basis) (who at : ℕ) (stop : Option Stop) (a b : HelmParts) (x y : View) → DoesDeed opening keys basis who at stop a x b y → DoesFirst opening keys basis who at (doing_of stop) a x b y
DoesFirst-deed opening keys basis who at None a b x y does = does
DoesFirst-deed opening keys basis who at (Some stop) a b x y does = does

-- a datagram that gives a record
pub TakesIn-due : (opening : ServerState) (keys : List Key) (basis : Basis) (who at : ℕ) (from : Addr) (octets : List ℕ) (stop : Option Stop) (a m b : HelmParts) (x y : View) → IsHeard keys at a.steering from octets true m.steering → m.outside ≡ a.outside → m.left ≡ a.left → GivesAt opening basis who m.steering stop m x b y → TakesIn opening keys basis who at from octets stop a x b y
TakesIn-due opening keys basis who at from octets stop a m b x y heard same left given = record {
  fate = given.fate;
  taken_in = record { due = true; between = m.steering; heard = heard; gives = given.gives };
  stop_is = given.stop_is;
  gained = Gained-from opening who (gain_of_fate given.fate) a m b x y same left given.gained;
}

-- a datagram that gives none
pub TakesIn-none : (opening : ServerState) (keys : List Key) (basis : Basis) (who at : ℕ) (from : Addr) (octets : List ℕ) (a m : HelmParts) (x : View) → IsHeard keys at a.steering from octets false m.steering → m.outside ≡ a.outside → m.left ≡ a.left → TakesIn opening keys basis who at from octets None a x m x
TakesIn-none opening keys basis who at from octets a m x heard same left = record {
  fate = None;
  taken_in = record { due = false; between = m.steering; heard = heard; gives = (refl, refl) };
  stop_is = refl;
  gained = Gained-inside opening who 0 [] [] a m x x same (omega (arith, left), omega (arith, left)) (Called-none opening who x);
}

-- a record that was given after only what is steered by had changed
pub GivesAt-from : (opening : ServerState) (basis : Basis) (who : ℕ) (stop : Option Stop) (from : Steering) (i a m b : HelmParts) (x y : View) → i ≡ a → m.steering ≡ from → m.outside ≡ i.outside → m.left ≡ i.left → GivesAt opening basis who m.steering stop m x b y → GivesAt opening basis who from stop a x b y
GivesAt-from opening basis who stop from i a m b x y helm is same left given =
    subst (λ (h : HelmParts). GivesAt opening basis who from stop h x b y) helm
    (record {
      fate = given.fate;
      gives = subst (λ (s : Steering). Gives basis s given.fate b.steering) is given.gives;
      stop_is = given.stop_is;
      gained = Gained-from opening who (gain_of_fate given.fate) i m b x y same left given.gained;
    })

-- the first deed was the tick
pub DoesFirst-tick : (opening : ServerState) (keys : List Key) (basis : Basis) (who at key : ℕ) (stop : Option Stop) (doing : Doing) (due : List (Option ℕ)) (i a m b : HelmParts) (x y : View) → i ≡ a → doing ≡ doing_of stop → key ≡ TICK_KEY → IsFirstDue i.steering.due at key → due ≡ slice_set i.steering.due key None → m.steering ≡ record i.steering { due = due } → m.outside ≡ i.outside → m.left ≡ i.left → GivesAt opening basis who (ticked_at at m.steering) stop m x b y → DoesFirst opening keys basis who at doing a x b y
DoesFirst-tick opening keys basis who at key stop doing due i a m b x y helm made tick first taken now same left given =
    subst (λ (d : Doing). DoesFirst opening keys basis who at d a x b y) (sym made)
    (subst (λ (h : HelmParts). DoesFirst opening keys basis who at (doing_of stop) h x b y) helm
    (DoesFirst-deed opening keys basis who at stop i b x y
    (DoesDeed-tick opening keys basis who at stop i m b x y
    (subst (λ (k : ℕ). IsFirstDue i.steering.due at k) tick first)
    (now ∙ ap (λ (d : List (Option ℕ)). let s : Steering = record i.steering { due = d } in s) (taken ∙ ap (λ (k : ℕ). slice_set i.steering.due k None) tick))
    same left given)))

-- the first deed was a request
pub DoesFirst-asks : (opening : ServerState) (keys : List Key) (basis : Basis) (who at key : ℕ) (stop : Option Stop) (doing : Doing) (due : List (Option ℕ)) (i a m b : HelmParts) (x y : View) → i ≡ a → doing ≡ doing_of stop → IsFirstDue i.steering.due at key → due ≡ slice_set i.steering.due key None → m.steering ≡ record i.steering { due = due } → m.outside ≡ i.outside → m.left ≡ i.left → AsksAt opening keys basis who at key stop m x b y → DoesFirst opening keys basis who at doing a x b y
DoesFirst-asks opening keys basis who at key stop doing due i a m b x y helm made first taken now same left given =
    subst (λ (d : Doing). DoesFirst opening keys basis who at d a x b y) (sym made)
    (subst (λ (h : HelmParts). DoesFirst opening keys basis who at (doing_of stop) h x b y) helm
    (DoesFirst-deed opening keys basis who at stop i b x y
    (DoesDeed-asks opening keys basis who at key stop i m b x y first
    (now ∙ ap (λ (d : List (Option ℕ)). let s : Steering = record i.steering { due = d } in s) taken)
    same left given)))

-- what was taken in at a helm that is the same
pub TakesIn-same : (opening : ServerState) (keys : List Key) (basis : Basis) (who at : ℕ) (from : Addr) (octets : List ℕ) (stop : Option Stop) (i a b : HelmParts) (x y : View) → i ≡ a → TakesIn opening keys basis who at from octets stop i x b y → TakesIn opening keys basis who at from octets stop a x b y
TakesIn-same opening keys basis who at from octets stop i a b x y same takes =
    subst (λ (h : HelmParts). TakesIn opening keys basis who at from octets stop h x b y) same takes
