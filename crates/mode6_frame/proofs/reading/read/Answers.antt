use Rattle.std.proofs.Common.{arith, ◌∙◌, sym}
use Rattle.mode6_frame.proofs.FrameLemmas.{frame_at-frame, frame_fault_of-frame, frame-frame_at}
use Rattle.mode6_frame.proofs.reading.read.Goals as goal

pub returns-in-Some-clause-only : goal.returns-in-Some-clause-only
returns-in-Some-clause-only c f is =
    let none = frame_fault_of-frame c.args.bytes.now f is in
    cc

pub returns-in-None-clause-found : goal.returns-in-None-clause-found
returns-in-None-clause-found c =
    let none = sym c.first_fault.ensures ∙ c.in-None.is in
    rw c.frame_in.ensures.parts (frame-frame_at c.args.bytes.now (λ i. omega (arith, c.type_inv.bytes i)) none)

pub returns-in-None-clause-only : goal.returns-in-None-clause-only
returns-in-None-clause-only c f is = c.frame_in.ensures.parts ∙ frame_at-frame c.args.bytes.now f is
