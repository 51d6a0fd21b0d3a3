use Rattle.drawn_link.proofs.GoingLemmas.{Runs-then}
use Rattle.drawn_link.proofs.happening.happen.Goals as goal

pub returns-in_err-publish : goal.returns-in_err-publish
returns-in_err-publish c = Runs-then c.args.book.now c.arrive.new.book c.publish.new.book c.arrive.ensures c.publish.ensures

pub returns : goal.returns
returns c = Runs-then c.args.book.now c.arrive.new.book c.publish.new.book c.arrive.ensures c.publish.ensures
