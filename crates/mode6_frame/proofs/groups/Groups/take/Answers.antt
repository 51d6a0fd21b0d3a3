use Rattle.std.proofs.Common.{◌≡◌, ◌+◌, ◌≤◌, subst}
use Rattle.mode6_frame.specs.Frames.{parts_of}
use Rattle.mode6_frame.specs.Groups.{GroupsParts, pieces_kept}
use Rattle.mode6_frame.proofs.GroupLemmas.{kept_after-answer, kept_after-mismatch, step_of-answer, step_of-mismatch}
use Rattle.mode6_frame.proofs.KeptLemmas.{AreFew-after, grows-after, pieces_in, pieces_in-le, waiting-after}
use Rattle.mode6_frame.proofs.groups.Groups.take.Goals as goal

pub returns-in-Some-clause-step : goal.returns-in-Some-clause-step
returns-in-Some-clause-step c = step_of-mismatch c.args.self.now (parts_of c.args.frame.now) c.in-Some.why c.in-Some.ensures

pub returns-in-Some-clause-after : goal.returns-in-Some-clause-after
returns-in-Some-clause-after c = kept_after-mismatch c.args.self.now (parts_of c.args.frame.now) c.in-Some.why c.in-Some.ensures

pub returns-in-Some-clause-at_most : goal.returns-in-Some-clause-at_most
returns-in-Some-clause-at_most c =
    let At_most : GroupsParts → Type 0 = λ g. pieces_kept g ≤ 1024 in
    subst At_most c.self.view_is (pieces_in-le c.self.inside.groups.items c.self.invariant)

pub invariant_of-self : goal.invariant_of-self
invariant_of-self c =
    AreFew-after c.take_answer.result c.self.inside.groups.items c.take_answer.new.groups.items (parts_of c.args.frame.now) c.take_answer.ensures.after c.take_answer.ensures.kept c.self.invariant

pub returns-clause-step : goal.returns-clause-step
returns-clause-step c =
    step_of-answer c.take_answer.result c.self.inside.opcode c.self.inside.sequence c.self.inside.groups.items c.args.self.now (parts_of c.args.frame.now) c.self.view_is c.in_default.ensures
    c.take_answer.ensures.step

pub returns-clause-after : goal.returns-clause-after
returns-clause-after c =
    kept_after-answer c.take_answer.result c.self.inside.opcode c.self.inside.sequence c.self.inside.groups.items c.take_answer.new.groups.items c.args.self.now (parts_of c.args.frame.now)
    c.self.view_is c.in_default.ensures c.take_answer.ensures.after

pub returns-clause-grows : goal.returns-clause-grows
returns-clause-grows c =
    let Grown : GroupsParts → Type 0 = λ g. pieces_kept g ≤ pieces_in c.take_answer.new.groups.items in
    subst Grown c.self.view_is
    (grows-after c.take_answer.result c.self.inside.groups.items c.take_answer.new.groups.items (parts_of c.args.frame.now) c.take_answer.ensures.after c.take_answer.ensures.kept)

pub returns-clause-waiting : goal.returns-clause-waiting
returns-clause-waiting c = λ waiting.
    let One_more : GroupsParts → Type 0 = λ g. pieces_in c.take_answer.new.groups.items ≡ pieces_kept g + 1 in
    subst One_more c.self.view_is
    (waiting-after c.take_answer.result c.self.inside.groups.items c.take_answer.new.groups.items (parts_of c.args.frame.now) c.take_answer.ensures.after c.take_answer.ensures.step waiting)

pub returns-clause-at_most : goal.returns-clause-at_most
returns-clause-at_most c =
    pieces_in-le c.take_answer.new.groups.items
    (AreFew-after c.take_answer.result c.self.inside.groups.items c.take_answer.new.groups.items (parts_of c.args.frame.now) c.take_answer.ensures.after c.take_answer.ensures.kept c.self.invariant)
