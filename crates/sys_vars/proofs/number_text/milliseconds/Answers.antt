use Rattle.std.proofs.Common.{◌≡◌, ◌++◌, List, ℕ, sym, ap, subst, ◌∙◌}
use Rattle.sys_vars.specs.Variables.{IsPlainValue}
use Rattle.sys_vars.specs.Texts.{ms_text}
use Rattle.sys_vars.proofs.ValueLemmas.{IsPlainValue-names}
use Rattle.sys_vars.proofs.number_text.milliseconds.Goals as goal

pub returns-clause-plain : goal.returns-clause-plain
returns-clause-plain c =
    let is : c.of.result ≡ ms_text c.args.time = c.of.ensures ∙ c.in_ok-put_ms.ensures.value ∙ ap (λ (xs : List ℕ). xs ++ ms_text c.args.time) c.new-text.ensures.items in
    subst IsPlainValue (sym is) (IsPlainValue-names (ms_text c.args.time) c.in_ok-put_ms.ensures.word.0)
