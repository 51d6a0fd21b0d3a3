-- What a worker did adds up.
use Rattle.std.proofs.Common.{◌≡◌, ◌==◌, ℕ, ◌+◌, ◌≤◌, Option, List, [], ◌++◌, length, refl, ap, sym, subst, ◌∙◌, arith, append_assoc, length-append}
use Rattle.std.specs.Prelude.{not}
use Rattle.std.proofs.lemmas.Grind.{flat_map-append}
use Rattle.std.proofs.lemmas.List.{append-nil, map-append}
use Rattle.std.proofs.lemmas.List.Elements.{filter-append}
use mathlib.Core.List.{IsPrefix, Sublist}
use mathlib.Core.List.Sublist
use Rattle.edge_traits.specs.declared.port.Event.{Event}
use Rattle.edge_traits.specs.Told.{gained, Rose}
use Rattle.edge_traits.proofs.ToldLemmas.{gained-gained}
use Rattle.server_core.specs.declared.op.Op.{Op}
use Rattle.server_core.specs.States.{ServerState}
use Rattle.turnstile.specs.Histories.{times}
use Rattle.shared_book.specs.declared.common.Common.{Common}
use Rattle.shared_book.specs.Entries.{IsSameSeat, View}
use Rattle.worker.specs.declared.act.Act.{Act}
use Rattle.worker.specs.declared.carry.Carry.{Carry}
use Rattle.worker.specs.Acts.{Climbs, failures_in, place_in, places_of, readings_in}
use Rattle.worker.specs.Doings.{Did, Doing, carried, heard, is_silence, silences_in}
use Rattle.worker.specs.Others.{AreOthers, Other, is_port_stop, is_sweep, moment_in, other_places, place_of, port_stops_in, sweeps_in}
use Rattle.worker.proofs.ActLemmas.{AreActs-longer, AreActs-then, AreOthers-later, AreOthers-then}
use Rattle.shared_book.proofs.EntryLemmas.{prefix_self, prefix_trans}
use Rattle.worker.proofs.AddingLemmas.{Climbs-then, Grows-nothing, Grows-then, Rose-kept, count-then, gained-nothing}

-- a seat that stays
pub same_seat : (a : View) → IsSameSeat a a
same_seat a = record { door_kept = refl; share_kept = refl; opening_kept = refl }

-- nothing was done
pub Did-nothing : (common : Common) (opening : ServerState) (history : List Op) (a : Doing) → IsPrefix a.seat.front history → Did common opening history 0 a a
Did-nothing common opening history a seen = record {
  more = [];
  others = [];
  events = [];
  told = [];
  readings = [];
  acts_are = sym (append-nil a.acts);
  answered = refl;
  heard_are = append-nil (carried a.carry);
  trace_is = gained-nothing a.trace;
  few = λ few. few;
  readings_are = Grows-nothing a.readings;
  read = Sublist.refl [];
  swept_at = Sublist.refl [];
  longer = prefix_self a.seat.front;
  seen = seen;
  places = omega arith;
  other_places_climb = omega arith;
  own_are = λ place. omega arith;
  others_are = tt;
  silences = refl;
  failed = Rose-kept a.faults a.faults (omega arith);
  quiet = Rose-kept a.quiets a.quiets (omega arith);
  worker_kept = record { who_kept = refl; address_kept = refl; most_kept = refl };
  seat_kept = same_seat a.seat;
}

-- what was done stands over each longer history
pub Did-longer : (common : Common) (opening : ServerState) (history longer : List Op) (lacking : ℕ) (a b : Doing) → IsPrefix history longer → Did common opening history lacking a b → Did common opening longer lacking a b
Did-longer common opening history longer lacking a b front did = record {
  more = did.more;
  others = did.others;
  events = did.events;
  told = did.told;
  readings = did.readings;
  acts_are = did.acts_are;
  answered = AreActs-longer common opening history longer did.more did.told front did.answered;
  heard_are = did.heard_are;
  trace_is = did.trace_is;
  few = did.few;
  readings_are = did.readings_are;
  read = did.read;
  swept_at = did.swept_at;
  longer = did.longer;
  seen = prefix_trans b.seat.front history longer did.seen front;
  places = did.places;
  other_places_climb = did.other_places_climb;
  own_are = did.own_are;
  others_are = AreOthers-later opening a.who (length b.acts) (length b.acts) history longer did.others (omega arith) front did.others_are;
  silences = did.silences;
  failed = did.failed;
  quiet = did.quiet;
  worker_kept = did.worker_kept;
  seat_kept = did.seat_kept;
}

-- what is told and carried adds up
told-then : (a b c : Option Carry) (first second told later : List Event) → carried a ++ heard first ≡ told ++ carried b → carried b ++ heard second ≡ later ++ carried c → carried a ++ heard (first ++ second) ≡ (told ++ later) ++ carried c
told-then a b c first second told later one two =
    ap (λ (events : List Event). carried a ++ events) (filter-append (λ event. not (is_silence event)) first second)
    ∙ sym (append_assoc (carried a) (heard first) (heard second))
    ∙ ap (λ (events : List Event). events ++ heard second) one
    ∙ append_assoc told (carried b) (heard second)
    ∙ ap (λ (events : List Event). told ++ events) two
    ∙ sym (append_assoc told later (carried c))

-- the counts of what failed add up
failed-then : (first second : List Act) (others later : List Other) (old mid new : ℕ) → Rose (failures_in first + port_stops_in others) old mid → Rose (failures_in second + port_stops_in later) mid new
    → Rose (failures_in (first ++ second) + port_stops_in (others ++ later)) old new
failed-then first second others later old mid new one two =
    let acts = count-then (λ (act : Act). act.failed) first second in
    let stops = count-then is_port_stop others later in
    omega (arith, acts, stops, one, two)

quiet-then : (first second : List Event) (old mid new : ℕ) → Rose (silences_in first) old mid → Rose (silences_in second) mid new → Rose (silences_in (first ++ second)) old new
quiet-then first second old mid new one two = omega (arith, count-then is_silence first second, one, two)

silences-then : (first second : List Event) (others later : List Other) (few more : ℕ) → silences_in first ≡ sweeps_in others + few → silences_in second ≡ sweeps_in later + more
    → silences_in (first ++ second) ≡ sweeps_in (others ++ later) + (few + more)
silences-then first second others later few more one two =
    omega (arith, count-then is_silence first second, count-then is_sweep others later, one, two)

own-then : (place : ℕ) (old mid new : List ℕ) (first second : List Act) (others later : List Other)
    → times place mid ≡ times place old + (times place (places_of first) + times place (other_places others))
    → times place new ≡ times place mid + (times place (places_of second) + times place (other_places later))
    → times place new ≡ times place old + (times place (places_of (first ++ second)) + times place (other_places (others ++ later)))
own-then place old mid new first second others later one two =
    let acts = ap (times place) (flat_map-append (λ (act : Act). place_in act.kind) first second)
    ∙ count-then (λ other. other == place) (places_of first) (places_of second) in
    let rest = ap (times place) (map-append place_of others later)
    ∙ count-then (λ other. other == place) (other_places others) (other_places later) in
    omega (arith, acts, rest, one, two)

more_acts : (few many more : List Act) → many ≡ few ++ more → length few ≤ length many
more_acts few many more same = omega (arith, ap length same ∙ length-append few more)

-- what was done, and then more
pub Did-then : (common : Common) (opening : ServerState) (history : List Op) (few more : ℕ) (a b c : Doing) → Did common opening history few a b → Did common opening history more b c → Did common opening history (few + more) a c
Did-then common opening history few more a b c first second =
    let kinds = flat_map-append (λ (act : Act). place_in act.kind) first.more second.more in
    let places = map-append place_of first.others second.others in
    record {
      more = first.more ++ second.more;
      others = first.others ++ second.others;
      events = first.events ++ second.events;
      told = first.told ++ second.told;
      readings = first.readings ++ second.readings;
      acts_are = second.acts_are ∙ ap (λ (acts : List Act). acts ++ second.more) first.acts_are ∙ append_assoc a.acts first.more second.more;
      answered = AreActs-then common opening history first.more second.more first.told second.told first.answered second.answered;
      heard_are = told-then a.carry b.carry c.carry first.events second.events first.told second.told first.heard_are second.heard_are;
      trace_is = second.trace_is ∙ ap (λ (told : Option (List Event)). gained told second.events) first.trace_is ∙ gained-gained a.trace first.events second.events;
      few = λ within. second.few (first.few within);
      readings_are = Grows-then a.readings b.readings c.readings first.readings second.readings first.readings_are second.readings_are;
      read = subst (λ (told : List ℕ). Sublist told (first.readings ++ second.readings)) (sym (flat_map-append (λ (act : Act). readings_in act.moment act.kind) first.more second.more)) (Sublist.append first.read second.read);
      swept_at = subst (λ (told : List ℕ). Sublist told (first.readings ++ second.readings)) (sym (flat_map-append moment_in first.others second.others)) (Sublist.append first.swept_at second.swept_at);
      longer = prefix_trans a.seat.front b.seat.front c.seat.front first.longer second.longer;
      seen = second.seen;
      places = subst (λ (these : List ℕ). Climbs (length a.seat.front) these (length c.seat.front)) (sym kinds)
          (Climbs-then (length a.seat.front) (length b.seat.front) (length c.seat.front) (places_of first.more) (places_of second.more) first.places second.places);
      other_places_climb = subst (λ (these : List ℕ). Climbs (length a.seat.front) these (length c.seat.front)) (sym places)
          (Climbs-then (length a.seat.front) (length b.seat.front) (length c.seat.front) (other_places first.others) (other_places second.others) first.other_places_climb second.other_places_climb);
      own_are = λ place.
          own-then place a.seat.own b.seat.own c.seat.own first.more second.more first.others second.others (first.own_are place) (second.own_are place);
      others_are = AreOthers-then opening a.who (length c.acts) history first.others second.others
          (AreOthers-later opening a.who (length b.acts) (length c.acts) history history first.others (more_acts b.acts c.acts second.more second.acts_are) (prefix_self history) first.others_are)
          (subst (λ (who : ℕ). AreOthers opening who (length c.acts) history second.others) first.worker_kept.who_kept second.others_are);
      silences = silences-then first.events second.events first.others second.others few more first.silences second.silences;
      failed = failed-then first.more second.more first.others second.others a.faults b.faults c.faults first.failed second.failed;
      quiet = quiet-then first.events second.events a.quiets b.quiets c.quiets first.quiet second.quiet;
      worker_kept = record {
        who_kept = second.worker_kept.who_kept ∙ first.worker_kept.who_kept;
        address_kept = second.worker_kept.address_kept ∙ first.worker_kept.address_kept;
        most_kept = second.worker_kept.most_kept ∙ first.worker_kept.most_kept;
      };
      seat_kept = record {
        door_kept = second.seat_kept.door_kept ∙ first.seat_kept.door_kept;
        share_kept = second.seat_kept.share_kept ∙ first.seat_kept.share_kept;
        opening_kept = second.seat_kept.opening_kept ∙ first.seat_kept.opening_kept;
      };
    }

-- the same where nothing was lacking before, over the history that is seen at last
pub Did-after : (common : Common) (opening : ServerState) (before history : List Op) (lacking : ℕ) (a b c : Doing) → Did common opening before 0 a b → IsPrefix before history → Did common opening history lacking b c → Did common opening history lacking a c
Did-after common opening before history lacking a b c first longer second =
    let more : 0 + lacking ≡ lacking = omega arith in
    subst (λ (count : ℕ). Did common opening history count a c) more
    (Did-then common opening history 0 lacking a b c (Did-longer common opening before history 0 a b longer first) second)

-- where none is lacking
pub Did-whole : (common : Common) (opening : ServerState) (history : List Op) (lacking : ℕ) (a b : Doing) → lacking ≡ 0 → Did common opening history lacking a b → Did common opening history 0 a b
Did-whole common opening history lacking a b none did = subst (λ (count : ℕ). Did common opening history count a b) none did
