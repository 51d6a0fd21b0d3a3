use Rattle.std.proofs.Common.{refl, arith, ◌∙◌}
use Rattle.ntpd_serve.proofs.OnceLemmas.{gained-no_silence, gained-silence, Rose-one_more}
use Rattle.ntpd_serve.proofs.once.wait_for_datagram.Goals as goal

pub waiting-init : goal.waiting-init
waiting-init g c = record {
  told = gained-no_silence _;
  rose = omega arith;
  kept = record { faults_kept = omega arith; quiets_kept = omega arith; address_kept = refl; most_kept = refl };
}

pub waiting-preserved : goal.waiting-preserved
waiting-preserved g c =
    let took = rw c.in-Ok-Quiet.field-0-is at c.in-Ok-Quiet.ensures in
    let kept = c.waiting.invariant.kept in
    record {
      told = gained-silence _ _ _ c.waiting.counter c.waiting.invariant.told took.told;
      rose = Rose-one_more c.waiting.counter _ _ _ c.waiting.invariant.rose (took.quiet refl);
      kept = record {
        faults_kept = omega (arith, took.faults_kept, kept.faults_kept);
        quiets_kept = omega (arith, took.quiets_kept, kept.quiets_kept);
        address_kept = took.address_kept ∙ kept.address_kept;
        most_kept = took.most_kept ∙ kept.most_kept;
      };
    }
