use Rattle.std.proofs.Common.{◌≡◌, ◌-◌, true, false, List, get_or, map, slice_get, sym, ap, subst, ◌∙◌, arith}
use Rattle.std.proofs.lemmas.Option.{slice_get-get_or}
use Rattle.std.specs.List.{All, Contains}
use Rattle.select_cluster.specs.declared.candidates.Candidate.{Candidate}
use Rattle.associations.specs.Associations.{IsAssociation}
use Rattle.associations.specs.Candidates.{candidates_of}
use Rattle.associations.specs.Choices.{IsChoice, survivors_in}
use Rattle.associations.specs.Settling.{case_of, forgotten, is_stepped, peers_by}
use Rattle.associations.proofs.ChoosingLemmas.{system_near}
use Rattle.associations.proofs.MarkLemmas.{marked_are}
use Rattle.associations.specs.Marks.{marked}
use Rattle.associations.proofs.settling.settle_all.Goals as goal
use Rattle.associations.proofs.settling.settle_all.Goals.{then-settled, else-settled}

-- the candidates that were chosen among are those of the list
pub apply_choice-settled-requires-clause-near : goal.apply_choice-settled-requires-clause-near
apply_choice-settled-requires-clause-near c = λ is.
    let seen : c.deref.result.now ≡ candidates_of c.args.moment c.args.list.now = c.deref.ensures.0 ∙ c.gather.ensures in
    system_near c.args.moment c.args.peer (c.from.result - 1) c.args.list.now c.index-list-from.result (survivors_in c.choose-choice.result)
    (λ x has. subst (λ (cs : List Candidate). Contains cs x) seen (c.choose-choice.ensures.among x has))
    (omega arith) is (omega arith)

-- the servers are marked, and forget where the clock was stepped
others : (c : goal.After-result-1) → c.if-settled.list ≡ peers_by (case_of c.choose-choice.result c.args.peer c.args.engine.now c.args.moment) (marked c.choose-choice.result c.args.moment c.args.list.now)
others c =
    let marks = c.mark.ensures.value in
    let step = c.apply_choice-settled.ensures.stepped in
    elim c.if-settled.branch [
      | then-settled w ↦
          let is : is_stepped (case_of c.choose-choice.result c.args.peer c.args.engine.now c.args.moment) ≡ true = sym step ∙ w.if-settled.true in
          rw is (w.list-is ∙ w.forget_all.ensures.value ∙ ap (map forgotten) marks)
      | else-settled w ↦
          let is : is_stepped (case_of c.choose-choice.result c.args.peer c.args.engine.now c.args.moment) ≡ false = sym step ∙ w.if-settled.false in
          rw is (w.list-is ∙ marks)
    ]

pub returns-clause-settled : goal.returns-clause-settled
returns-clause-settled c =
    let p = get_or c.args.list.now (c.from.result - 1) c.index-list-from.result in
    let seen : c.deref.result.now ≡ candidates_of c.args.moment c.args.list.now = c.deref.ensures.0 ∙ c.gather.ensures in
    let place : c.from.result - 1 ≡ c.args.peer - 1 = omega arith in
    record {
      server = p;
      there = ap (slice_get c.args.list.now) (sym place) ∙ slice_get-get_or c.args.list.now (c.from.result - 1) c.index-list-from.result (omega arith);
      choice = c.choose-choice.result;
      chosen = subst (λ (cs : List Candidate). IsChoice cs c.choose-choice.result) seen c.choose-choice.ensures.chosen;
      marks = marked c.choose-choice.result c.args.moment c.args.list.now;
      marked = marked_are c.choose-choice.result c.args.moment c.args.list.now;
      others = others c;
      steered = c.apply_choice-settled.ensures.steered;
      shown = c.apply_choice-settled.ensures.shown;
    }

pub returns-clause-sound : goal.returns-clause-sound
returns-clause-sound c =
    let marked_sound = c.mark.ensures.sound c.requires.sound in
    elim c.if-settled.branch [
      | then-settled w ↦ subst (All IsAssociation) (sym w.list-is) (w.forget_all.ensures.sound marked_sound)
      | else-settled w ↦ subst (All IsAssociation) (sym w.list-is) marked_sound
    ]
