-- Lines that are not taken into a draft.
use Rattle.std.proofs.Common.{◌≡◌, None, refl, sym, subst}
use Rattle.access_rules.specs.declared.rules.RuleFault.{RuleFault}
use Rattle.access_rules.specs.declared.rules.RuleFault.TheVariants as rule
use Rattle.conf_file.specs.declared.drafts.Draft.{Draft}
use Rattle.conf_file.specs.declared.drafts.Untaken.{Untaken}
use Rattle.conf_file.specs.declared.lines.Line.{Line}
use Rattle.conf_file.specs.declared.lines.Line.TheVariants as line
use Rattle.conf_file.specs.declared.restrict_options.Restriction.{Restriction}
use Rattle.conf_file.specs.Drafts.{IsUntaken, restricted, untaken_of}

rules_untaken : (draft : Draft) (l : Line) (given : Restriction) (fault : RuleFault) → l ≡ line.Restrict given → (fault ≡ rule.Full → restricted draft.rules given ≡ None) → IsUntaken draft l (untaken_of fault)
rules_untaken draft l given rule.Full is full = (given, is, full refl)
rules_untaken draft l given rule.NotThere is full = tt
rules_untaken draft l given rule.NoMemory is full = tt

-- a line whose rules refuse its flags is not taken
pub restrict_untaken : (draft : Draft) (l : Line) (given : Restriction) (fault : RuleFault) (why : Untaken) → l ≡ line.Restrict given → (fault ≡ rule.Full → restricted draft.rules given ≡ None)
    → why ≡ untaken_of fault → IsUntaken draft l why
restrict_untaken draft l given fault why is full same =
    let P : Untaken → Type 0 = IsUntaken draft l in
    subst P (sym same) (rules_untaken draft l given fault is full)
