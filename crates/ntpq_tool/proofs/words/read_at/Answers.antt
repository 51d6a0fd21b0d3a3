use Rattle.std.proofs.Common.{◌∷◌, ◌∙◌, map, string_bytes, Some, ap, refl, sym}
use Rattle.ntpq_tool.specs.Command.{IsCommand}
use Rattle.ntpq_tool.proofs.CommandLemmas.{no_server, only_command, none_found, is_command}
use Rattle.ntpq_tool.proofs.words.read_at.Goals as goal

pub returns-in_default-clause-only : goal.returns-in_default-clause-only
returns-in_default-clause-only c = λ command is. absurd (no_server _ _ (c.in_default.ensures.none.0 refl) command is)

pub returns-in_default-clause-none : goal.returns-in_default-clause-none
returns-in_default-clause-none c = (λ none. no_server _ _ (c.in_default.ensures.none.0 refl), λ none. refl)

pub returns-in-Some-2-clause-only : goal.returns-in-Some-2-clause-only
returns-in-Some-2-clause-only c = λ command is.
    ap Some (only_command _ _ _ _ c.in-Some.ensures.only (λ wanted are. sym c.in-Some-2.is ∙ c.in_ok-what.ensures.only wanted are) command is)

pub returns-in-Some-2-clause-none : goal.returns-in-Some-2-clause-none
returns-in-Some-2-clause-none c =
    none_found (IsCommand (c.args.host.now ∷ map string_bytes c.args.behind.now)) (Some (record { server = c.in-Some.server; what = c.in-Some-2.what }))
    (is_command _ _ _ _ _ c.in-Some.ensures.fits c.in-Some.ensures.found c.in_ok-what.ensures.found c.in-Some-2.is)
    (λ command is. ap Some (only_command _ _ _ _ c.in-Some.ensures.only (λ wanted are. sym c.in-Some-2.is ∙ c.in_ok-what.ensures.only wanted are) command is))
