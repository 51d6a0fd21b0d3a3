use Rattle.std.proofs.Common.{◌∙◌, refl, subst, sym}
use Rattle.mode6_frame.specs.ItemReader.{IsToldAt, IsUnclosedValue}
use Rattle.mode6_frame.proofs.SlotLemmas.{IsUnclosedValue-quoting, IsValueRead-quoted, IsValueRead-bare}
use Rattle.mode6_frame.proofs.item_text.value_at.Goals as goal

pub returns-then-not-is_at-clause-unclosed : goal.returns-then-not-is_at-clause-unclosed
returns-then-not-is_at-clause-unclosed c =
    let opens = sym c.is_at.ensures ∙ c.if-is_at.true in
    let goes_on = sym c.is_at-then-is_at.ensures ∙ c.if-not-is_at.true in
    subst (IsToldAt (IsUnclosedValue c.args.text.now c.args.at)) (sym c.refused_at.ensures) (
      c.past_quoted-close.result,
      IsUnclosedValue-quoting c.args.text.now c.args.at c.past_white-begin.result c.past_quoted-close.result
          c.past_white-begin.ensures.past opens c.past_quoted-close.ensures.past c.past_quoted-close.ensures.within goes_on,
      refl,
    )

pub returns-then-is_at-clause-read : goal.returns-then-is_at-clause-read
returns-then-is_at-clause-read c =
    let opens = sym c.is_at.ensures ∙ c.if-is_at.true in
    let closes = sym c.is_at-then-is_at.ensures ∙ c.if-not-is_at.false in
    IsValueRead-quoted c.args.text.now c.args.at c.past_white-begin.result c.past_quoted-close.result c.past_white.result
    c.past_white-begin.ensures.past opens c.past_quoted-close.ensures.past closes c.past_white.ensures.past c.past_white.ensures.within

pub returns-clause-read : goal.returns-clause-read
returns-clause-read c =
    let other = sym c.is_at.ensures ∙ c.if-is_at.false in
    IsValueRead-bare c.args.text.now c.args.at c.past_white-begin.result c.trimmed.result c.past_bare-run.result c.past_white-2.result
    c.past_white-begin.ensures.past other c.past_bare-run.ensures.past c.past_bare-run.ensures.within c.trimmed.ensures.trimmed
    c.past_white-2.ensures.past c.past_white-2.ensures.within
