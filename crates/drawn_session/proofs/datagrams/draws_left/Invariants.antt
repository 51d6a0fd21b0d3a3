use Rattle.std.proofs.Common.{◌≡◌, ◌-◌}
use Rattle.drawn_session.specs.Datagrams.{state_behind}
use Rattle.drawn_session.specs.declared.datagrams.TheConstants.{DATAGRAMS}
use Rattle.drawn_session.proofs.datagrams.draws_left.Given as goal

-- the draws that are left lead to the last state
abbrev pub invariant-loop-place : goal.invariant-loop-place
invariant-loop-place l = state_behind (DATAGRAMS - l.place) l.draws ≡ state_behind DATAGRAMS l.number
