use Rattle.std.proofs.Common.{None, Some, sym, ap, ◌∙◌}
use Rattle.server_core.specs.Journals.{record_at}
use Rattle.server_core.proofs.JournalLemmas.{latest_is, place_within}
use Rattle.server_core.proofs.journal.Journal.latest.Goals as goal

pub returns-in-None : goal.returns-in-None
returns-in-None c = latest_is c.args.opening.now _ _ _ None c.self.invariant.0 c.self.view_is c.in-None.is

pub get-requires : goal.get-requires
get-requires c = place_within _ _ _ _ c.self.invariant.0 c.self.view_is c.in-Some.is

pub returns-in-Some : goal.returns-in-Some
returns-in-Some c =
    c.record_in.ensures
    ∙ ap (λ o. record_at o c.args.opening.now) (sym c.get.ensures)
    ∙ latest_is c.args.opening.now _ _ _ (Some c.in-Some.place) c.self.invariant.0 c.self.view_is c.in-Some.is
