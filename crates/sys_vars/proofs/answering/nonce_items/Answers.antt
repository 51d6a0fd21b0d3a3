use Rattle.std.proofs.Common.{◌≡◌, List, [], ◌∷◌, arith, rules, sym, subst}
use Rattle.mode6_frame.specs.declared.items.Item.{Item}
use Rattle.mode6_frame.specs.Cuts.{IsCuttable}
use Rattle.sys_vars.specs.Answers.{nonce_item}
use Rattle.sys_vars.proofs.AnswerLemmas.{IsCuttable-nonce}
use Rattle.sys_vars.proofs.answering.nonce_items.Goals as goal

pub returns-clause-cuttable : goal.returns-clause-cuttable
returns-clause-cuttable c = λ tag.
    let is : c.of.result ≡ nonce_item c.args.nonce.now ∷ [] = search rules in
    subst (λ (items : List Item). IsCuttable tag items) (sym is) (IsCuttable-nonce c.args.nonce.now tag (omega (arith, c.fits-nonce)))
