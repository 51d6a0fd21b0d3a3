use Rattle.std.proofs.Common.{ap, inl, refl}
use Rattle.std.specs.Option.{is_some}
use Rattle.ntpq_tool.proofs.OptionLemmas.{IsAskable-for}
use Rattle.ntpq_tool.proofs.command.run_words.Goals as goal

pub run-requires-clause-askable : goal.run-requires-clause-askable
run-requires-clause-askable g c =
    let is = rw c.in-Ok-Some.field-0-is at c.in-Ok-Some.ensures.found in
    IsAskable-for is.behind c.in-Ok-Some.command.what is.wanted

pub returns-in-Ok-None-clause-happens : goal.returns-in-Ok-None-clause-happens
returns-in-Ok-None-clause-happens g c = inl (refl, c.in-Ok-None.ensures.none.0 (ap is_some c.in-Ok-None.field-0-is), refl)
