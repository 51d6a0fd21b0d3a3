use Rattle.std.proofs.Common.{◌<◌, ◌^◌, refl, sym, ◌∙◌, arith}
use Rattle.conf_file.specs.RestrictLines.{AreFlags, IsAddressTail, IsTargetTail}
use Rattle.conf_file.proofs.LineLemmas.{address_leads, default_leads, no_address, some_target}
use Rattle.conf_file.proofs.ReadingLemmas.{read_after, read_bad}
use Rattle.conf_file.proofs.restrict_lines.target_line.Goals as goal

pub returns-then-is_word : goal.returns-then-is_word
returns-then-is_word c =
    read_after (IsTargetTail c.args.family) (AreFlags c.defaults-second.result.0 c.defaults-second.result.1) c.args.number _ c.args.word.now c.args.words.now _ refl
    (default_leads c.args.family c.args.word.now c.defaults-second.result.0 c.defaults-second.result.1 (sym c.is_word.ensures ∙ c.if-is_word.true) c.defaults-second.ensures)
    c.flags_line.ensures

pub returns-then-not-is_of : goal.returns-then-not-is_of
returns-then-not-is_of c =
    let low : c.args.number < 2 ^ 32 = omega arith in
    read_bad (IsTargetTail c.args.family) c.args.number _ c.args.word.now _ refl
    (no_address c.args.family c.args.word.now c.in-Some.ip (sym c.is_word.ensures ∙ c.if-is_word.false) c.in-Some.ensures.fits c.in-Some.ensures.found c.in-Some.ensures.only (sym c.is_of.ensures ∙ c.if-not-is_of.true)) (some_target c.args.family) low

pub returns : goal.returns
returns c =
    read_after (IsTargetTail c.args.family) (IsAddressTail c.in-Some.ip) c.args.number _ c.args.word.now c.args.words.now _ refl
    (address_leads c.args.family c.args.word.now c.in-Some.ip (sym c.is_word.ensures ∙ c.if-is_word.false) c.in-Some.ensures.fits c.in-Some.ensures.found c.in-Some.ensures.only (sym c.is_of.ensures ∙ c.if-not-is_of.false))
    c.address_line.ensures
