use Rattle.std.proofs.Common.{◌↔◌, ◌∙◌, List, ℕ, string_bytes, IsNone, IfOk, subst, sym}
use Rattle.ntpq_tool.specs.Command.{IsNoCommand}
use Rattle.ntpq_tool.proofs.CommandLemmas.{map-first}
use Rattle.ntpq_tool.proofs.words.read_command.Goals as goal

pub returns-clause-none : goal.returns-clause-none
returns-clause-none c =
    subst (λ (words : List (List ℕ)). IfOk c.read_at.result (λ found. IsNone found ↔ IsNoCommand words))
    (sym (map-first string_bytes _ _ _ _ c.in-Some.ensures.cases.0 (c.as_bytes.ensures.value ∙ c.as_str.ensures.value)))
    c.read_at.ensures.none
