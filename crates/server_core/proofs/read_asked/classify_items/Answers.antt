use Rattle.std.proofs.Common.{Err, ap, inr, refl}
use Rattle.server_core.proofs.ReadLemmas.{no_good_nonce, only_bad_nonce, only_bad_values, only_read, unless_no_memory}
use Rattle.server_core.proofs.read_asked.classify_items.Goals as goal

pub returns-then-not-has_good_nonce-clause-only : goal.returns-then-not-has_good_nonce-clause-only
returns-then-not-has_good_nonce-clause-only c =
    only_bad_nonce _ _ _ c.args.items.now c.requires.text c.requires.one
    (no_good_nonce c.args.from.now c.args.context.now c.args.items.now c.has_good_nonce.result c.has_good_nonce.ensures c.if-not-has_good_nonce.true)

pub returns-in-Ok-clause-only : goal.returns-in-Ok-clause-only
returns-in-Ok-clause-only c =
    only_read _ _ _ c.args.items.now _ c.requires.text c.requires.one (c.has_good_nonce.ensures.0 c.if-not-has_good_nonce.false) c.in-Ok.ensures.found
    (λ other is. unless_no_memory _ _ (c.in-Ok.ensures.only other is)) refl c.head_of.ensures

pub returns-in-Err-BadValue-clause-found : goal.returns-in-Err-BadValue-clause-found
returns-in-Err-BadValue-clause-found c = inr (record {
  items = c.args.items.now;
  are = c.requires.text;
  good = c.has_good_nonce.ensures.0 c.if-not-has_good_nonce.false;
  none = c.in-Err-BadValue.ensures.refused (ap Err c.in-Err-BadValue.field-0-is);
  from_is = c.refused.ensures.from;
  head_is = c.refused.ensures.head;
  what_is = c.refused.ensures.what;
})

pub returns-in-Err-BadValue-clause-only : goal.returns-in-Err-BadValue-clause-only
returns-in-Err-BadValue-clause-only c =
    only_bad_values _ _ _ c.args.items.now _ c.requires.text c.requires.one (c.has_good_nonce.ensures.0 c.if-not-has_good_nonce.false) (c.in-Err-BadValue.ensures.refused (ap Err c.in-Err-BadValue.field-0-is))
    c.refused.ensures.from c.refused.ensures.head c.refused.ensures.what
