use Rattle.std.proofs.Common.{◌+◌, OnOk, refl, sym, subst}
use Rattle.drawn_link.specs.Links.{IsBegun}
use Rattle.drawn_link.proofs.BeginLemmas.{IsBegun-next}
use Rattle.drawn_link.proofs.begin.arrive_first.Goals.{in-Ok, in-Err-NoMemory}
use Rattle.drawn_link.proofs.begin.arrive_first.Goals as goal

pub returns : goal.returns
returns c = elim c.match-step.branch [
  | in-Ok w ↦ subst (λ r. OnOk r (IsBegun (c.args.number + 1) c.step.new.self)) (sym w.result-is)
      (IsBegun-next c.args.number c.args.book.now c.step.new.self c.ask_of.result _ c.requires.begun c.ask_of.ensures refl w.in-Ok.ensures.answered.0 w.in-Ok.ensures.next w.in-Ok.ensures.entered)
  | in-Err-NoMemory w ↦ subst (λ r. OnOk r (IsBegun (c.args.number + 1) c.step.new.self)) (sym w.result-is) tt
]
