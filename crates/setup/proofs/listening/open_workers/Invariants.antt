use Rattle.std.proofs.Common.{◌≡◌, ◌≤◌, length, take}
use Rattle.std.specs.List.{AllByRecursion}
use Rattle.edge_traits.specs.Told.{gained}
use Rattle.responders.specs.Workers.{AreNumbered}
use Rattle.setup.specs.Setups.{AreNewWorkers}
use Rattle.setup.proofs.listening.open_workers.Given as goal

-- so far there is a new worker at each of the first addresses
abbrev pub invariant-loop-place : goal.invariant-loop-place
invariant-loop-place g l = record {
  new : AreNewWorkers g.H.P.Port.trace g.H.P.Port.faults g.H.P.Port.quiets g.H.P.Port.address g.H.C.Clock.readings (take l.place l.listen) l.workers.items;
  numbered : AreNumbered 0 l.workers.items;
  most : AllByRecursion (λ worker. 1024 ≤ g.H.P.Port.most worker.port) l.workers.items;
  length : length l.workers.items ≡ l.place;
  bound : g.H.Host.binds l.host ≡ gained (g.H.Host.binds l.initial.host) (take l.place l.listen);
  faults_kept : g.H.Host.faults l.initial.host ≤ g.H.Host.faults l.host;
  files_kept : g.H.Host.files l.host ≡ g.H.Host.files l.initial.host;
  origin_kept : g.H.Host.origin l.host ≡ g.H.Host.origin l.initial.host;
  salt_kept : g.H.Host.salt l.host ≡ g.H.Host.salt l.initial.host;
}
