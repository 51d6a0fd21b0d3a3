use Rattle.std.proofs.Common.{◌≡◌, ◌+◌, ◌≤◌, drop}
use Rattle.std.specs.List.{count_by}
use Rattle.drawn_link.specs.Runs.{is_sent}
use Rattle.wire.specs.Wires.{client_events}
use Rattle.drawn_link.proofs.run.requests_in.Given as goal

-- what is counted so far, and what is left to be counted, is the whole
abbrev pub invariant-loop-event : goal.invariant-loop-event
invariant-loop-event l = record {
  counted : l.given + count_by is_sent (client_events (drop l.event-index l.events)) ≡ count_by is_sent (client_events l.events);
  fits : l.given ≤ l.event-index;
}
