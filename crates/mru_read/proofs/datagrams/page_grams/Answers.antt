use Rattle.std.proofs.Common.{◌∙◌, ap, arith, List}
use Rattle.std.proofs.lemmas.Result.{IfOk-weaker}
use Rattle.mode6_frame.specs.declared.items.Item.{Item}
use Rattle.mode6_frame.specs.Cuts.{lengths_of, parts_count}
use Rattle.mru_items.specs.Answers.{answer_items}
use Rattle.mru_read.proofs.GramLemmas.{page-cuttable, parts-any, parts-unquoted}
use Rattle.mru_read.proofs.datagrams.page_grams.Goals as goal

pub cut-requires : goal.cut-requires
cut-requires c =
    let are = c.in_ok-items.ensures ∙ ap answer_items c.in_ok-answer.ensures.told in
    page-cuttable c.args.page.now c.args.nonce.now c.args.origin.0 c.in_ok-items.items are c.requires.tellable c.in_ok-answer.ensures.few c.told_page.ensures.nonce c.requires.few

pub returns-clause-count : goal.returns-clause-count
returns-clause-count c plain =
    let are = c.in_ok-items.ensures ∙ ap answer_items c.in_ok-answer.ensures.told in
    let count = ap (λ (them : List Item). parts_count (lengths_of them)) are ∙ parts-unquoted c.args.page.now c.args.nonce.now c.args.origin.0 c.told_page.ensures.nonce plain in
    IfOk-weaker c.cut.result _ _ (λ grams is. is ∙ count) c.cut.ensures.count

pub returns-clause-at_most : goal.returns-clause-at_most
returns-clause-at_most c =
    let are = c.in_ok-items.ensures ∙ ap answer_items c.in_ok-answer.ensures.told in
    let count = ap (λ (them : List Item). parts_count (lengths_of them)) are in
    let most = parts-any c.args.page.now c.args.nonce.now c.args.origin.0 c.told_page.ensures.nonce in
    IfOk-weaker c.cut.result _ _ (λ grams is. omega (arith, is, count, most)) c.cut.ensures.count
