use Rattle.std.proofs.Common.{length, arith}
use Rattle.mode6_frame.specs.Frames.{parts_of}
use Rattle.mode6_frame.proofs.GroupLemmas.{step-begun}
use Rattle.mode6_frame.proofs.groups.begin.Goals as goal

pub returns-clause-step : goal.returns-clause-step
returns-clause-step c = step-begun (parts_of c.args.frame.now) (length c.args.groups.now.items) (omega arith) c.requires
