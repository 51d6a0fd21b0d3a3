use Rattle.std.proofs.Common.{◌≤◌, ◌∙◌, arith}
use Rattle.worker.specs.Workers.{WorkerView}
use Rattle.setup.proofs.ListeningLemmas.{AllByRecursion-next, AreNewWorkers-next, AreNumbered-next, gained-next, length-next}
use Rattle.setup.proofs.listening.open_workers.Goals as goal

pub loop-place-preserved : goal.loop-place-preserved
loop-place-preserved g c =
    let so_far = c.loop-place.invariant in
    let opened = c.in_ok-port.ensures in
    let worker = c.new.result in
    let before = c.loop-place.workers.items in
    let after = c.push_reserved.new.self.items in
    let made = c.push_reserved.ensures.items in
    record {
      new = AreNewWorkers-next g.H.P.Port.trace g.H.P.Port.faults g.H.P.Port.quiets g.H.P.Port.address g.H.C.Clock.readings c.args.listen.now c.loop-place.place before after c.get.result worker c.get.ensures made so_far.new (record {
        outside = rw (c.new.ensures.port, c.new.ensures.clock) opened.new;
        empty = c.new.ensures.carry;
        idle = c.new.ensures.acts;
      });
      numbered = AreNumbered-next before after worker c.loop-place.place made so_far.length c.new.ensures.who so_far.numbered;
      most = AllByRecursion-next (λ (w : WorkerView g.row.H-P.Denot g.row.H-C.Denot). 1024 ≤ g.H.P.Port.most w.port) before after worker made so_far.most (rw c.new.ensures.port opened.most);
      length = length-next before after worker c.loop-place.place made so_far.length;
      bound = gained-next _ _ _ c.args.listen.now c.loop-place.place c.get.result c.get.ensures so_far.bound opened.bound;
      faults_kept = omega (arith, so_far.faults_kept, opened.faults_kept);
      files_kept = opened.files_kept ∙ so_far.files_kept;
      origin_kept = opened.origin_kept ∙ so_far.origin_kept;
      salt_kept = opened.salt_kept ∙ so_far.salt_kept;
    }
