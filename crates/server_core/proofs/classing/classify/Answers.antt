use Rattle.std.proofs.Common.{arith}
use Rattle.server_core.proofs.ClassLemmas.{empty, only_empty, only_unserved, not_empty}
use Rattle.server_core.proofs.classing.classify.Goals as goal

pub returns-then-is_empty-clause-only : goal.returns-then-is_empty-clause-only
returns-then-is_empty-clause-only c = only_empty _ _ _ c.args.context.now (empty _ _ c.is_empty.ensures c.if-is_empty.true)

pub returns-in_default-clause-only : goal.returns-in_default-clause-only
returns-in_default-clause-only c =
    only_unserved _ _ _ c.args.context.now _ (not_empty _ _ c.is_empty.ensures c.if-is_empty.false) c.mode_in.ensures.value (λ e. omega (arith, e)) (λ e. omega (arith, e))

pub returns-in-6-clause-found : goal.returns-in-6-clause-found
returns-in-6-clause-found c = c.classify_control.ensures.found c.args.keys.now

pub returns-in-3-clause-found : goal.returns-in-3-clause-found
returns-in-3-clause-found c = c.classify_client.ensures.found c.args.context.now

pub returns-in-3-clause-only : goal.returns-in-3-clause-only
returns-in-3-clause-only c = c.classify_client.ensures.only c.args.context.now

pub returns-in-6-clause-only : goal.returns-in-6-clause-only
returns-in-6-clause-only c = c.classify_control.ensures.only c.args.keys.now
