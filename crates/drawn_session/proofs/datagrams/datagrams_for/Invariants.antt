use Rattle.std.proofs.Common.{◌≡◌, ◌-◌, ◌++◌}
use Rattle.std.specs.List.{AllByRecursion, filter}
use Rattle.drawn_session.specs.Datagrams.{IsDrawn, datagrams_for, datagrams_from, is_for}
use Rattle.drawn_session.specs.declared.datagrams.TheConstants.{DATAGRAMS}
use Rattle.drawn_session.proofs.datagrams.datagrams_for.Given as goal

-- those that were found, and those of the datagrams that are left, are all that go to the host
abbrev pub invariant-loop-place : goal.invariant-loop-place
invariant-loop-place l = record {
  found : l.datagrams.items ++ filter (is_for l.host) (datagrams_from (DATAGRAMS - l.place) l.place l.draws) ≡ datagrams_for l.number l.host;
  drawn : AllByRecursion IsDrawn l.datagrams.items;
}
