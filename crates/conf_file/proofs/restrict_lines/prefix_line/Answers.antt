use Rattle.std.proofs.Common.{◌<◌, ◌^◌, refl, None, sym, ◌∙◌, arith}
use Rattle.conf_file.specs.RestrictLines.{AreFlags, IsTargetTail}
use Rattle.conf_file.proofs.LineLemmas.{no_prefix, other_prefix, prefix_leads, some_target}
use Rattle.conf_file.proofs.ReadingLemmas.{read_after, read_bad}
use Rattle.conf_file.proofs.restrict_lines.prefix_line.Goals as goal

pub returns-in_default : goal.returns-in_default
returns-in_default c =
    let low : c.args.number < 2 ^ 32 = omega arith in
    read_bad (IsTargetTail c.args.family) c.args.number _ c.args.word.now _ refl
    (no_prefix c.args.family c.args.word.now c.requires.no_default c.requires.no_address c.in_default.ensures.only) (some_target c.args.family) low

pub returns-then-not-is_of : goal.returns-then-not-is_of
returns-then-not-is_of c =
    let low : c.args.number < 2 ^ 32 = omega arith in
    read_bad (IsTargetTail c.args.family) c.args.number _ c.args.word.now _ refl
    (other_prefix c.args.family c.args.word.now c.in-Some.prefix c.requires.no_default c.requires.no_address c.in-Some.ensures.only (sym c.is_of.ensures ∙ c.if-not-is_of.true)) (some_target c.args.family) low

pub returns : goal.returns
returns c =
    read_after (IsTargetTail c.args.family) (AreFlags c.in-Some.prefix None) c.args.number _ c.args.word.now c.args.words.now _ refl
    (prefix_leads c.args.family c.args.word.now c.in-Some.prefix c.requires.no_default c.requires.no_address c.in-Some.ensures.found c.in-Some.ensures.only (sym c.is_of.ensures ∙ c.if-not-is_of.false))
    c.flags_line.ensures
