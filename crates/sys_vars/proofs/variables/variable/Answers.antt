use Rattle.std.proofs.Common.{List, ℕ, Some, sym, subst, ◌∙◌}
use Rattle.mode6_frame.specs.ItemTexts.{IsWritable}
use Rattle.sys_vars.specs.Variables.{IsShort}
use Rattle.sys_vars.proofs.WritableLemmas.{IsWritable-variable}
use Rattle.sys_vars.proofs.ShortLemmas.{IsShort-variable}
use Rattle.sys_vars.proofs.variables.variable.Goals as goal

pub returns-in_ok-text-in-Some-clause-short : goal.returns-in_ok-text-in-Some-clause-short
returns-in_ok-text-in-Some-clause-short c =
    let name_is = c.in_ok-fixed-in-Some.ensures.value ∙ c.as_bytes.ensures.value in
    let IsShortNamed : List ℕ → Type 0 = λ name. IsShort (record { name = name; value = Some c.in_ok-text-in-Some.field-0 }) in
    subst IsShortNamed (sym name_is)
    (IsShort-variable c.args.subject.now c.args.number c.in-Some.name.now c.in_ok-text-in-Some.field-0 (sym c.in-Some.ensures) c.in_ok-text-in-Some.ensures.short)

pub returns-in_ok-text-in-Some-clause-writable : goal.returns-in_ok-text-in-Some-clause-writable
returns-in_ok-text-in-Some-clause-writable c =
    let name_is = c.in_ok-fixed-in-Some.ensures.value ∙ c.as_bytes.ensures.value in
    let IsWritableNamed : List ℕ → Type 0 = λ name. IsWritable (record { name = name; value = Some c.in_ok-text-in-Some.field-0 }) in
    subst IsWritableNamed (sym name_is)
    (IsWritable-variable c.args.subject.now c.args.number c.in-Some.name.now c.in_ok-text-in-Some.field-0 (sym c.in-Some.ensures) c.in_ok-text-in-Some.ensures.plain)
