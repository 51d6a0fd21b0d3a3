use Rattle.std.proofs.Common.{refl}
use Rattle.drawn_link.specs.declared.link.TheConstants.{SALT}
use Rattle.drawn_link.proofs.BeginLemmas.{IsDrawn-begun}
use Rattle.drawn_link.proofs.run.opened.Goals as goal

pub of-requires : goal.of-requires
of-requires c = IsDrawn-begun (record { keys = c.new.result; salt = SALT; origin = c.origin.result }) c.in_ok-book.book c.in_ok-book.ensures refl c.origin.ensures
