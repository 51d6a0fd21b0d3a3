use Rattle.std.proofs.Common.{subst, arith, inl}
use Rattle.mode6_frame.specs.Frames.{parts_of}
use Rattle.mode6_frame.specs.Items.{IsDue}
use Rattle.server_core.proofs.ControlLemmas.{only_variables, only_bad_format, unless_no_memory}
use Rattle.server_core.proofs.control.variables_asked.Goals as goal

pub numbers_asked-requires : goal.numbers_asked-requires
numbers_asked-requires c = omega (arith, c.in-Ok.ensures.room, c.requires.fits.body)

pub returns-in_ok-numbers_asked-in-Ok-clause-only :
    goal.returns-in_ok-numbers_asked-in-Ok-clause-only
returns-in_ok-numbers_asked-in-Ok-clause-only c =
    only_variables (parts_of c.args.frame.now) c.in-Ok.items _ c.requires.reads c.in-Ok.ensures.found (λ others text. unless_no_memory _ _ (c.in-Ok.ensures.only others text)) c.in_ok-numbers_asked-in-Ok.ensures

pub returns-in-Err-At-clause-only : goal.returns-in-Err-At-clause-only
returns-in-Err-At-clause-only c =
    let due = subst (IsDue c.args.frame.now.body.now) c.in-Err-At.field-0-is c.in-Err-At.ensures.refused in
    only_bad_format (parts_of c.args.frame.now) due.0 (inl c.requires.reads) due.1
