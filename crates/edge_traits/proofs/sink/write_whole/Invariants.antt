use Rattle.std.proofs.Common.{◌≡◌, ◌≤◌, ◌-◌, length, take}
use Rattle.edge_traits.specs.Told.{gained}
use Rattle.edge_traits.proofs.sink.write_whole.Given as goal

-- the sink has gained what is done
abbrev pub invariant-loop-done : goal.invariant-loop-done
invariant-loop-done g l = record {
  within : l.done ≤ length l.from;
  told : g.S.Sink.contents l.sink ≡ gained (g.S.Sink.contents l.initial.sink) (take l.done l.from);
  kept : g.S.Sink.faults l.initial.sink ≤ g.S.Sink.faults l.sink;
}

abbrev pub decreases-loop-done : goal.decreases-loop-done
decreases-loop-done g l = length l.from - l.done
