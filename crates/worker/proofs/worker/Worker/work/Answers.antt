use Rattle.std.proofs.Common.{◌∙◌, refl, arith}
use Rattle.shared_book.proofs.EntryLemmas.{prefix_self}
use Rattle.worker.proofs.DidLemmas.{Did-after, Did-nothing, Did-whole, same_seat}
use Rattle.worker.proofs.worker.Worker.work.Goals as goal

pub turns-init : goal.turns-init
turns-init g c = record {
  did = λ opening is. Did-nothing c.args.common.now opening _ _ (prefix_self _);
  who = refl;
  kept = record { faults_kept = omega arith; quiets_kept = omega arith; address_kept = refl; most_kept = refl };
  same_seat = same_seat _;
}

pub turns-preserved : goal.turns-preserved
turns-preserved g c =
    let before = c.turns.invariant in
    let turned = c.turn-turn.ensures in record {
      did = λ opening is.
          let one = turned.did opening (before.same_seat.opening_kept ∙ is) in
          let whole = c.end_of.ensures.goes_on c.in_default.is one.0 one.1 in
          Did-after c.args.common.now opening _ _ 0 _ _ _ (before.did opening is) one.2.longer (Did-whole c.args.common.now opening _ one.0 _ _ whole one.2);
      who = turned.who ∙ before.who;
      kept = record {
        faults_kept = omega (arith, turned.kept.faults_kept, before.kept.faults_kept);
        quiets_kept = omega (arith, turned.kept.quiets_kept, before.kept.quiets_kept);
        address_kept = turned.kept.address_kept ∙ before.kept.address_kept;
        most_kept = turned.kept.most_kept ∙ before.kept.most_kept;
      };
      same_seat = record {
        door_kept = turned.same_seat.door_kept ∙ before.same_seat.door_kept;
        share_kept = turned.same_seat.share_kept ∙ before.same_seat.share_kept;
        opening_kept = turned.same_seat.opening_kept ∙ before.same_seat.opening_kept;
      };
    }

pub returns-in-Some-end_of-clause-did : goal.returns-in-Some-end_of-clause-did
returns-in-Some-end_of-clause-did g c = λ opening is.
    let before = c.turns.invariant in
    let one = c.turn-turn.ensures.did opening (before.same_seat.opening_kept ∙ is) in
    (one.0, c.in-Some-end_of.ensures.lacking one.0 one.1, Did-after c.args.common.now opening _ _ one.0 _ _ _ (before.did opening is) one.2.longer one.2)
