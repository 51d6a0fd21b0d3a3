use Rattle.std.proofs.Common.{ap, ◌∙◌, rules}
use Rattle.std.proofs.lemmas.Int.{to_z-of_z}
use mir.Syntax.{w8}
use mir.Val.{SFits}
use Rattle.discipline.specs.SoftClock.{clock_time}
use Rattle.server_core.proofs.ReplyLemmas.{reply-from_parts}
use Rattle.server_core.proofs.reply.header_of.Goals as goal

pub returns-clause-value : goal.returns-clause-value
returns-clause-value c =
    let basis = c.args.basis.now in
    let poll : SFits w8 c.args.ask.now.poll = search rules in
    let precision : SFits w8 basis.system.precision = search rules in
    reply-from_parts basis c.args.ask.now c.args.came c.args.sent _ _ _
    c.to_short.result.0 c.root_dispersion.result.0 c.at.result.0 c.at-2.result.0
    c.stratum_shown.ensures (to_z-of_z w8 _ poll) (to_z-of_z w8 _ precision) c.to_short.ensures c.root_dispersion.ensures
    c.at.ensures (c.at-2.ensures ∙ ap (clock_time basis.clock) c.max.ensures)
