use Rattle.std.proofs.Common.{◌≡◌, ◌++◌, List, ℕ, sym, ap, subst, ◌∙◌}
use Rattle.sys_vars.specs.Variables.{IsPlainValue}
use Rattle.sys_vars.specs.Texts.{signed_ms_text}
use Rattle.sys_vars.proofs.ValueLemmas.{IsPlainValue-names}
use Rattle.sys_vars.proofs.number_text.signed_milliseconds.Goals as goal

pub returns-clause-plain : goal.returns-clause-plain
returns-clause-plain c =
    let is : c.of.result ≡ signed_ms_text c.args.time.0 = c.of.ensures ∙ c.in_ok-put_signed_ms.ensures.value ∙ ap (λ (xs : List ℕ). xs ++ signed_ms_text c.args.time.0) c.new-text.ensures.items in
    subst IsPlainValue (sym is) (IsPlainValue-names (signed_ms_text c.args.time.0) c.in_ok-put_signed_ms.ensures.word.0)
