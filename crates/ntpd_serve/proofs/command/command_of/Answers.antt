use Rattle.std.proofs.Common.{◌≡◌, ◌↔◌, ℕ, Some, IsNone, List, [], ◌∷◌, codes, subst, rules}
use Rattle.ntpd_serve.specs.Command.{IsNoCommand}
use Rattle.ntpd_serve.proofs.CommandLemmas.{IsNoCommand-named}
use Rattle.ntpd_serve.proofs.command.command_of.Goals as goal

pub returns-in-Some-clause-none : goal.returns-in-Some-clause-none
returns-in-Some-clause-none c =
    let once : c.args.command.now ≡ codes "once" = search rules in
    subst (λ (word : List ℕ). IsNone (Some c.in-Some.at) ↔ IsNoCommand (c.args.command.now ∷ word ∷ [])) c.as_bytes.ensures.value
    (IsNoCommand-named c.args.command.now c.as_bytes.result.now (Some c.in-Some.at) once c.in-Some.ensures.none)
