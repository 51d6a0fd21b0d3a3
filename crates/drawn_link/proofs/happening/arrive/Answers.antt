use Rattle.drawn_link.proofs.GoingLemmas.{Runs-amidst}
use Rattle.drawn_link.proofs.happening.arrive.Goals as goal

pub returns : goal.returns
returns c = Runs-amidst c.args.book.now c.in_ok-ops.ops.items c.in_ok-_answers._answers c.perform.new.book c.in_ok-ops.ensures c.in_ok-_answers.ensures.steps
