use Rattle.std.proofs.Common.{subst}
use Rattle.mode6_frame.specs.Frames.{parts_of}
use Rattle.mode6_frame.specs.Items.{IsDue}
use Rattle.server_core.proofs.ControlLemmas.{unless_no_memory}
use Rattle.server_core.proofs.ReadLemmas.{only_bad_text}
use Rattle.server_core.proofs.read_asked.classify_read.Goals as goal

pub classify_items-requires-clause-one : goal.classify_items-requires-clause-one
classify_items-requires-clause-one c others are = unless_no_memory _ _ (c.in-Ok.ensures.only others are.text)

pub returns-in-Err-At-clause-only : goal.returns-in-Err-At-clause-only
returns-in-Err-At-clause-only c =
    let due = subst (IsDue c.args.frame.now.body.now) c.in-Err-At.field-0-is c.in-Err-At.ensures.refused in
    only_bad_text (parts_of c.args.frame.now) _ _ _ due.0 c.requires.reads due.1 c.refused.ensures.from c.refused.ensures.head c.refused.ensures.what
