use Rattle.std.proofs.Common.{sym, ◌∙◌}
use Rattle.mode6_frame.specs.Groups.{first_status, joined}
use Rattle.mode6_frame.proofs.JoinLemmas.{made_of-waiting}
use Rattle.mode6_frame.proofs.joining.made.Goals as goal

pub returns-then-not-are_all_there : goal.returns-then-not-are_all_there
returns-then-not-are_all_there c =
    made_of-waiting (first_status c.args.pieces.now) (joined c.args.pieces.now) (sym c.are_all_there.ensures ∙ c.if-not-are_all_there.true)
