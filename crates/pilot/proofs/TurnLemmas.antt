-- What turns add up to.
use Rattle.std.proofs.Common.{◌≡◌, ◌∙◌, ◌≤◌, ℕ, Option, None, Some, IsSome, List, [], ◌∷◌, ◌++◌, refl, sym, ap, subst, arith}
use Rattle.edge_traits.specs.Told.{gained, Grows, Rose}
use Rattle.edge_traits.specs.declared.port.Event.TheVariants.{Took, Silence}
use Rattle.mac_keys.specs.declared.keys.Key.{Key}
use Rattle.net_addr.specs.declared.addr.Addr.{Addr}
use Rattle.server_core.specs.States.{ServerState}
use Rattle.server_core.specs.declared.op.Op.TheVariants.{Sweep}
use Rattle.server_core.specs.declared.op.Stop.{Stop}
use Rattle.shared_book.specs.Entries.{View}
use Rattle.wheel.specs.DueTimes.{IsNoneDue}
use Rattle.pilot.specs.Calls.{Called, Calls, stop_entries}
use Rattle.pilot.specs.Flights.{IsFlight}
use Rattle.pilot.specs.Gains.{Gain, Gained, gain_of_all, gain_of_deed, gain_of_fate, gain_of_got, gain_of_turn, nothing}
use Rattle.pilot.specs.Script.{datagram, swept, unswept, failure, takes, breaks, ending}
use Rattle.pilot.specs.Steering.{begun_at}
use Rattle.pilot.specs.Steps.{DoesDeed, DoesDeeds, DoesDue, DoesFirst, Receives, TakesIn, TakesTurn, TakesTurns}
use Rattle.pilot.specs.Turns.{Chain, IsDone, IsGot, IsPassed}
use Rattle.pilot.specs.Views.{HelmParts, Outside}
use Rattle.pilot.specs.declared.deeds.Doing.TheVariants.{NoneDue}
use Rattle.pilot.specs.declared.flight.FlightEnd.{FlightEnd}
use Rattle.pilot.specs.declared.flight.FlightEnd.TheVariants.{Ended}
use Rattle.pilot.specs.declared.steering.Basis.{Basis}
use Rattle.pilot.specs.declared.steering.Steering.{Steering}
use Rattle.pilot.proofs.CallLemmas.{Called-none}
use Rattle.pilot.proofs.ChainLemmas.{Chain-more, gain_of_all-more}
use Rattle.pilot.proofs.GainLemmas.{Gained-nothing, Gained-then, Grows-same, gained-nothing}

-- the end by what met a stop, or not
got_end : (stop : Option Stop) (end : Option FlightEnd) (found : Option Stop) → end ≡ ending stop → stop ≡ found → end ≡ ending found
got_end stop end found is same = is ∙ ap ending same

-- a datagram came, was read and was taken in
pub Receives-datagram : (opening : ServerState) (keys : List Key) (basis : Basis) (who at : ℕ) (from : Addr) (octets : List ℕ) (stop : Option Stop) (end : Option FlightEnd) (i a m b : HelmParts) (x y : View) → i ≡ a → m.steering ≡ i.steering → m.left ≡ i.left
    → m.outside.trace ≡ gained i.outside.trace (Took from octets ∷ []) → Grows i.outside.readings m.outside.readings (at ∷ []) → i.outside.faults ≤ m.outside.faults → i.outside.quiets ≤ m.outside.quiets
    → end ≡ ending stop → TakesIn opening keys basis who at from octets stop m x b y → Receives opening keys basis who end a x b y
Receives-datagram opening keys basis who at from octets stop end i a m b x y helm steering left trace read faults quiets is taken =
    subst (λ (h : HelmParts). Receives opening keys basis who end h x b y) helm
    (record {
      got = datagram at from octets taken.fate;
      is_got = subst (λ (s : Steering). IsGot keys basis s (datagram at from octets taken.fate) b.steering) steering taken.taken_in;
      end_is = got_end stop end _ is taken.stop_is;
      gained = Gained-then opening who (record nothing { events = Took from octets ∷ []; readings = at ∷ [] }) (gain_of_fate taken.fate) i m b x x y
          (record {
            trace = trace;
            readings = read;
            failed = omega (arith, faults);
            quiet = omega (arith, quiets);
            left = (omega (arith, left), omega (arith, left));
            called = Called-none opening who x;
          })
          taken.gained;
    })

-- a silence was followed by a sweep, or by a stop
quiet_by : (opening : ServerState) (keys : List Key) (basis : Basis) (who at : ℕ) (stop : Option Stop) (i m : HelmParts) (x y : View) → m.steering ≡ i.steering → m.left ≡ i.left
    → m.outside.trace ≡ gained i.outside.trace (Silence ∷ []) → Grows i.outside.readings m.outside.readings (at ∷ []) → i.outside.faults ≤ m.outside.faults → Rose 1 i.outside.quiets m.outside.quiets
    → Calls opening who (Sweep at) stop x y → Receives opening keys basis who (ending stop) i x m y
quiet_by opening keys basis who at None i m x y steering left trace read faults quiets (place, called) = record {
  got = swept at place;
  is_got = steering;
  end_is = refl;
  gained = record {
    trace = trace;
    readings = read;
    failed = omega (arith, faults);
    quiet = quiets;
    left = (omega (arith, left), omega (arith, left));
    called = called;
  };
}
quiet_by opening keys basis who at (Some stop) i m x y steering left trace read faults quiets (made, called) = record {
  got = unswept at made stop;
  is_got = steering;
  end_is = refl;
  gained = record {
    trace = trace;
    readings = read;
    failed = omega (arith, faults);
    quiet = quiets;
    left = (omega (arith, left), omega (arith, left));
    called = called;
  };
}

pub Receives-quiet : (opening : ServerState) (keys : List Key) (basis : Basis) (who at : ℕ) (stop : Option Stop) (end : Option FlightEnd) (i a m : HelmParts) (x y : View) → i ≡ a → m.steering ≡ i.steering → m.left ≡ i.left
    → m.outside.trace ≡ gained i.outside.trace (Silence ∷ []) → Grows i.outside.readings m.outside.readings (at ∷ []) → i.outside.faults ≤ m.outside.faults → Rose 1 i.outside.quiets m.outside.quiets
    → end ≡ ending stop → Calls opening who (Sweep at) stop x y → Receives opening keys basis who end a x m y
Receives-quiet opening keys basis who at stop end i a m x y helm steering left trace read faults quiets is calls =
    subst (λ (e : Option FlightEnd). Receives opening keys basis who e a x m y) (sym is)
    (subst (λ (h : HelmParts). Receives opening keys basis who (ending stop) h x m y) helm
    (quiet_by opening keys basis who at stop i m x y steering left trace read faults quiets calls))

-- a fault was followed by a stop
pub Receives-failed : (opening : ServerState) (keys : List Key) (basis : Basis) (who : ℕ) (made : Option ℕ) (stop : Stop) (i a m : HelmParts) (x y : View) → i ≡ a → m.steering ≡ i.steering → m.left ≡ i.left
    → m.outside.trace ≡ gained i.outside.trace [] → m.outside.readings ≡ i.outside.readings → Rose 1 i.outside.faults m.outside.faults → i.outside.quiets ≤ m.outside.quiets
    → Called opening who (stop_entries made stop) (record { asked = None; made = made; stop = stop } ∷ []) x y → Receives opening keys basis who (Some (Ended stop)) a x m y
Receives-failed opening keys basis who made stop i a m x y helm steering left trace read faults quiets called =
    subst (λ (h : HelmParts). Receives opening keys basis who (Some (Ended stop)) h x m y) helm
    (record {
      got = failure made stop;
      is_got = steering;
      end_is = refl;
      gained = record {
        trace = trace;
        readings = Grows-same i.outside.readings m.outside.readings read;
        failed = faults;
        quiet = omega (arith, quiets);
        left = (omega (arith, left), omega (arith, left));
        called = called;
      };
    })

-- no deed yet
pub DoesDeeds-none : (opening : ServerState) (keys : List Key) (basis : Basis) (who at : ℕ) (a : HelmParts) (x : View) → DoesDeeds opening keys basis who at a x a x
DoesDeeds-none opening keys basis who at a x = record { deeds = []; done = refl; gained = Gained-nothing opening who a x }

-- one more deed, whose record was not refused
pub DoesDeeds-more : (opening : ServerState) (keys : List Key) (basis : Basis) (who at : ℕ) (a m b : HelmParts) (x y z : View) → DoesDeeds opening keys basis who at a x m y → DoesDeed opening keys basis who at None m y b z → DoesDeeds opening keys basis who at a x b z
DoesDeeds-more opening keys basis who at a m b x y z does more = record {
  deeds = does.deeds ++ more.deed ∷ [];
  done = Chain-more (IsDone keys basis at) a.steering m.steering b.steering does.deeds more.deed does.done (more.is_deed, sym more.stop_is);
  gained = subst (λ (gain : Gain). Gained opening who gain a x b z) (sym (gain_of_all-more gain_of_deed does.deeds more.deed))
      (Gained-then opening who (gain_of_all gain_of_deed does.deeds) (gain_of_deed more.deed) a m b x y z does.gained more.gained);
}

-- none is due any more
pub DoesDue-none : (opening : ServerState) (keys : List Key) (basis : Basis) (who at : ℕ) (a m b : HelmParts) (x y z : View) → DoesDeeds opening keys basis who at a x m y → DoesFirst opening keys basis who at NoneDue m y b z → DoesDue opening keys basis who at None a x b z
DoesDue-none opening keys basis who at a m b x y z does (none, helm, seat) = (
  subst (λ (v : View). DoesDeeds opening keys basis who at a x b v) (sym seat)
      (subst (λ (h : HelmParts). DoesDeeds opening keys basis who at a x h y) (sym helm) does),
  subst (λ (h : HelmParts). IsNoneDue h.steering.due at) (sym helm) none,
)

-- the record of one more deed was refused
pub DoesDue-refused : (opening : ServerState) (keys : List Key) (basis : Basis) (who at : ℕ) (stop : Stop) (a m b : HelmParts) (x y z : View) → DoesDeeds opening keys basis who at a x m y → DoesDeed opening keys basis who at (Some stop) m y b z → DoesDue opening keys basis who at (Some stop) a x b z
DoesDue-refused opening keys basis who at stop a m b x y z does last = record {
  deeds = does.deeds;
  last = last.deed;
  between = m.steering;
  done = does.done;
  is_deed = last.is_deed;
  stop_is = sym last.stop_is;
  gained = Gained-then opening who (gain_of_all gain_of_deed does.deeds) (gain_of_deed last.deed) a m b x y z does.gained last.gained;
}

-- the clock was read, and nothing else done
read_once : (opening : ServerState) (who at : ℕ) (i m : HelmParts) (x : View) → m.outside ≡ record i.outside { readings = m.outside.readings } → m.left ≡ i.left → Grows i.outside.readings m.outside.readings (at ∷ []) → Gained opening who (record nothing { readings = at ∷ [] }) i x m x
read_once opening who at i m x same left read = record {
  trace = ap (λ (o : Outside). o.trace) same ∙ gained-nothing i.outside.trace;
  readings = read;
  failed = let faults : m.outside.faults ≡ i.outside.faults = ap (λ (o : Outside). o.faults) same in omega (arith, faults);
  quiet = let quiets : m.outside.quiets ≡ i.outside.quiets = ap (λ (o : Outside). o.quiets) same in omega (arith, quiets);
  left = (omega (arith, left), omega (arith, left));
  called = Called-none opening who x;
}

-- a turn that a refused record broke off
pub TakesTurn-broken : (opening : ServerState) (keys : List Key) (basis : Basis) (who at : ℕ) (stop : Stop) (i a m b : HelmParts) (x y : View) → i ≡ a → m.outside ≡ record i.outside { readings = m.outside.readings } → m.left ≡ i.left → Grows i.outside.readings m.outside.readings (at ∷ []) → m.steering ≡ begun_at at i.steering → DoesDue opening keys basis who at (Some stop) m x b y → TakesTurn opening keys basis who (Some (Ended stop)) a x b y
TakesTurn-broken opening keys basis who at stop i a m b x y helm same left read begun does =
    subst (λ (h : HelmParts). TakesTurn opening keys basis who (Some (Ended stop)) h x b y) helm
    (record {
      turn = record { at = at; deeds = does.deeds; after = breaks does.last };
      is_turn = record {
        between = does.between;
        deeds = subst (λ (s : Steering). Chain (IsDone keys basis at) s does.deeds does.between) begun does.done;
        rest = (does.is_deed, subst (λ (met : Option Stop). IsSome met) (sym does.stop_is) refl);
      };
      end_is = ap ending (sym does.stop_is);
      gained = Gained-then opening who (record nothing { readings = at ∷ [] }) _ i m b x x y (read_once opening who at i m x same left read) does.gained;
    })

-- a turn that took what the port gave
pub TakesTurn-whole : (opening : ServerState) (keys : List Key) (basis : Basis) (who at : ℕ) (end : Option FlightEnd) (i a m n b : HelmParts) (x y z : View) → i ≡ a → m.outside ≡ record i.outside { readings = m.outside.readings } → m.left ≡ i.left → Grows i.outside.readings m.outside.readings (at ∷ []) → m.steering ≡ begun_at at i.steering → DoesDue opening keys basis who at None m x n y → Receives opening keys basis who end n y b z → TakesTurn opening keys basis who end a x b z
TakesTurn-whole opening keys basis who at end i a m n b x y z helm same left read begun (does, none) receives =
    subst (λ (h : HelmParts). TakesTurn opening keys basis who end h x b z) helm
    (record {
      turn = record { at = at; deeds = does.deeds; after = takes receives.got };
      is_turn = record {
        between = n.steering;
        deeds = subst (λ (s : Steering). Chain (IsDone keys basis at) s does.deeds n.steering) begun does.done;
        rest = (none, receives.is_got);
      };
      end_is = receives.end_is;
      gained = Gained-then opening who (record nothing { readings = at ∷ [] }) _ i m b x x z (read_once opening who at i m x same left read)
          (Gained-then opening who (gain_of_all gain_of_deed does.deeds) (gain_of_got receives.got) m n b x y z does.gained receives.gained);
    })

-- no turn yet
pub TakesTurns-none : (opening : ServerState) (keys : List Key) (basis : Basis) (who : ℕ) (a : HelmParts) (x : View) → TakesTurns opening keys basis who a x a x
TakesTurns-none opening keys basis who a x = record { turns = []; passed = refl; gained = Gained-nothing opening who a x }

-- one more turn, which made no end
pub TakesTurns-more : (opening : ServerState) (keys : List Key) (basis : Basis) (who : ℕ) (a m b : HelmParts) (x y z : View) → TakesTurns opening keys basis who a x m y → TakesTurn opening keys basis who None m y b z → TakesTurns opening keys basis who a x b z
TakesTurns-more opening keys basis who a m b x y z does more = record {
  turns = does.turns ++ more.turn ∷ [];
  passed = Chain-more (IsPassed keys basis) a.steering m.steering b.steering does.turns more.turn does.passed (more.is_turn, sym more.end_is);
  gained = subst (λ (gain : Gain). Gained opening who gain a x b z) (sym (gain_of_all-more gain_of_turn does.turns more.turn))
      (Gained-then opening who (gain_of_all gain_of_turn does.turns) (gain_of_turn more.turn) a m b x y z does.gained more.gained);
}

-- a turn that made an end
pub IsFlight-ended : (opening : ServerState) (keys : List Key) (basis : Basis) (who : ℕ) (end : FlightEnd) (a m b : HelmParts) (x y z : View) → TakesTurns opening keys basis who a x m y → TakesTurn opening keys basis who (Some end) m y b z → IsFlight opening keys basis who end a x b z
IsFlight-ended opening keys basis who end a m b x y z does last = record {
  turns = does.turns;
  last = last.turn;
  script = record { between = m.steering; passed = does.passed; ended = last.is_turn; end_is = sym last.end_is };
  gained = Gained-then opening who (gain_of_all gain_of_turn does.turns) (gain_of_turn last.turn) a m b x y z does.gained last.gained;
}
