use Rattle.std.proofs.Common.{◌≡◌, ◌+◌, drop}
use Rattle.std.specs.List.{count_by}
use Rattle.drawn_session.specs.Counts.{gives_time, is_control, is_silent}
use Rattle.drawn_session.proofs.counts.Counts.add_all.Given as goal

-- what is counted so far, and what is left to be counted, is the whole
abbrev pub invariant-loop-act : goal.invariant-loop-act
invariant-loop-act l = record {
  times : l.self.times + count_by (λ act. gives_time act.kind) (drop l.act-index l.acts) ≡ l.fn.self.times + count_by (λ act. gives_time act.kind) l.acts;
  controls : l.self.controls + count_by (λ act. is_control act.kind) (drop l.act-index l.acts) ≡ l.fn.self.controls + count_by (λ act. is_control act.kind) l.acts;
  silent : l.self.silent + count_by (λ act. is_silent act.kind) (drop l.act-index l.acts) ≡ l.fn.self.silent + count_by (λ act. is_silent act.kind) l.acts;
  clients : l.self.clients ≡ l.fn.self.clients;
}
