use Rattle.std.proofs.Common.{ℕ, List, subst, sym, lit<}
use Rattle.conf_file.specs.Options.{IsReadAs}
use Rattle.conf_file.specs.RestrictLines.{IsRestrictTail, IsTargetTail}
use Rattle.conf_file.specs.declared.families.Family.TheVariants.{Both}
use Rattle.conf_file.proofs.LineLemmas.{family_leads, family_means, some_restrict, some_target}
use Rattle.conf_file.proofs.ReadingLemmas.{read_after, read_as, read_end}
use Rattle.conf_file.proofs.restrict_lines.restrict_line.Goals as goal

pub returns-in_default : goal.returns-in_default
returns-in_default c = read_end IsRestrictTail 2 _ c.in_default.ensures.ended (λ line none. none) some_restrict (lit< tt)

pub returns-in_default-family_in : goal.returns-in_default-family_in
returns-in_default-family_in c =
    read_as IsRestrictTail (IsTargetTail Both) 2 _ c.in-Some.word.now _ _ c.in-Some.ensures.word (family_means c.in-Some.word.now (sym c.in_default-family_in.ensures)) some_restrict c.target_line.ensures

pub returns-in-Some-next : goal.returns-in-Some-next
returns-in-Some-next c =
    let P : List (List ℕ) → Type 0 = λ ws. IsReadAs 3 (IsTargetTail c.in-Some-family_in.family) ws c.target_line-in-Some-next.result in
    read_after IsRestrictTail (IsTargetTail c.in-Some-family_in.family) 2 _ c.in-Some.word.now _ _ c.in-Some.ensures.word (family_leads c.in-Some.word.now c.in-Some-family_in.family (sym c.in-Some-family_in.ensures))
    (subst P (sym c.in-Some-next.ensures.word) c.target_line-in-Some-next.ensures)

pub returns-in-None : goal.returns-in-None
returns-in-None c =
    read_after IsRestrictTail (IsTargetTail c.in-Some-family_in.family) 2 _ c.in-Some.word.now _ _ c.in-Some.ensures.word (family_leads c.in-Some.word.now c.in-Some-family_in.family (sym c.in-Some-family_in.ensures))
    (read_end (IsTargetTail c.in-Some-family_in.family) 3 _ c.in-None.ensures.ended (λ line none. none) (some_target c.in-Some-family_in.family) (lit< tt))
