use Rattle.std.proofs.Common.{◌++◌, ap, sym, ◌∙◌, arith}
use Rattle.std.proofs.Math.ListN.{drop_of_length-le}
use Rattle.std.proofs.lemmas.Result.{IfOk-weaker}
use Rattle.mode6_frame.specs.Cuts.{octets_in}
use Rattle.mode6_frame.specs.Drafts.{parts_after, grams_of}
use Rattle.mode6_frame.proofs.DraftLemmas.{parts_after-begun, grams-ended}
use Rattle.mode6_frame.proofs.cutting.cut_tagged.Goals as goal

pub loop-i-init : goal.loop-i-init
loop-i-init c =
    let parts = ap (λ front. parts_after c.args.tag 0 front c.args.items.now) c.tag_octets.ensures.tag ∙ parts_after-begun c.args.tag c.args.items.now in
    record {
      grams = (λ i. c.new.ensures.items i ++ grams_of c.args.head.now (parts i));
      octets = omega (arith, ap octets_in parts);
      room = omega (arith, c.tag_octets.ensures.length);
    }

pub returns : goal.returns
returns c =
    let draft = c.loop-i.draft in
    let none = drop_of_length-le c.args.items.now (omega (arith, c.loop-i-test.false, c.len-i-end.ensures)) in
    let left = ap (λ items. draft.grams.items ++ grams_of c.args.head.now (parts_after c.args.tag draft.offset draft.body items)) (sym none) in
    let all = sym (grams-ended c.args.head.now draft.grams.items c.args.tag draft.offset draft.body) ∙ left ∙ c.loop-i.invariant.grams in
    IfOk-weaker c.end_draft.result _ _ (λ grams is. is ∙ all) c.end_draft.ensures
