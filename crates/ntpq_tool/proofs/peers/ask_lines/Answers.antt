use Rattle.std.proofs.Common.{◌+◌, ℕ, List, Ok, arith, subst, sym}
use Rattle.ntpq_tool.specs.Runs.{LinesRun}
use Rattle.ntpq_client.proofs.EndLemmas.{IsPortKept-then}
use Rattle.ntpq_tool.proofs.PeerLemmas.{LinesSoFar, appended, LinesSoFar-more, LinesRun-failed, LinesRun-full, LinesRun-done}
use Rattle.ntpq_tool.proofs.RunLemmas.{Behind-no_memory, Rose-more}
use Rattle.ntpq_tool.proofs.peers.ask_lines.Goals as goal

pub returns-in-Err-clause-ran : goal.returns-in-Err-clause-ran
returns-in-Err-clause-ran g c = λ first.
    LinesRun-failed _ _ _ _ c.loop-place.place _ c.get.result c.in-Err.why _ _ _
    (omega (arith, c.loop-place-test.true, c.len-place-end.ensures)) c.get.ensures c.loop-place.invariant.so_far c.in-Err.ensures.inquired first

pub returns-then-is_err-clause-ran : goal.returns-then-is_err-clause-ran
returns-then-is_err-clause-ran g c = λ first.
    LinesRun-full _ _ _ _ _ _ _
    (LinesSoFar-more _ _ _ _ c.loop-place.place _ c.in-Ok.line c.get.result _ _ _
    (omega (arith, c.loop-place-test.true, c.len-place-end.ensures)) c.get.ensures c.loop-place.invariant.so_far c.in-Ok.ensures.inquired) first

pub returns-then-is_err-clause-causes : goal.returns-then-is_err-clause-causes
returns-then-is_err-clause-causes g c = Behind-no_memory _ _ _

pub loop-place-preserved : goal.loop-place-preserved
loop-place-preserved g c = record {
  so_far =
      subst (λ (lines : List ℕ). LinesSoFar c.args.associations.now c.args.client.now c.ask_peer.new.client (c.loop-place.place + 1) lines (g.P.Port.trace c.args.port.now) (g.P.Port.trace c.ask_peer.new.port))
      (sym (appended c.extend_from_slice.result _ _ _ c.in-Ok.line c.extend_from_slice.ensures.items c.if-is_err.ensures.value c.as_slice.ensures.value))
      (LinesSoFar-more _ _ _ _ c.loop-place.place _ c.in-Ok.line c.get.result _ _ _
      (omega (arith, c.loop-place-test.true, c.len-place-end.ensures)) c.get.ensures c.loop-place.invariant.so_far c.in-Ok.ensures.inquired);
  quiets = Rose-more _ _ _ _ _ _ c.loop-place.invariant.quiets c.ask_peer.ensures.quiets;
  kept = IsPortKept-then g.P.Port.faults g.P.Port.quiets g.P.Port.address g.P.Port.most _ _ _ c.loop-place.invariant.kept c.ask_peer.ensures.kept;
}

pub returns-clause-ran : goal.returns-clause-ran
returns-clause-ran g c = λ first.
    subst (λ (lines : List ℕ). LinesRun first c.args.associations.now c.args.client.now (Ok lines) (g.P.Port.trace c.args.port.now) (g.P.Port.trace c.loop-place.port)) (sym c.of.ensures)
    (LinesRun-done _ _ _ c.loop-place.place _ _ _ (omega (arith, c.loop-place.auto.place-end, c.loop-place-test.false, c.len-place-end.ensures)) c.loop-place.invariant.so_far first)
