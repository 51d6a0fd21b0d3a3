use Rattle.std.proofs.Common.{◌≡◌, ◌+◌, ℕ, Bool, List, ◌∷◌, [], ap, sym, subst, ◌∙◌}
use Rattle.std.specs.List.{AllByRecursion, count_by}
use Rattle.edge_traits.specs.declared.memory_clock.MemoryClock.{MemoryClock}
use Rattle.worker.specs.Workers.{WorkerView}
use Rattle.worker.specs.declared.act.Act.{Act}
use Rattle.drawn_session.specs.Counts.{gives_time, is_control, is_silent}
use Rattle.drawn_session.specs.Ports.{IsDrawnPort, PortParts}
use Rattle.drawn_session.proofs.RunLemmas.{added-two, counted-two, two-of}
use Rattle.drawn_session.proofs.counts.counts_of.Goals as goal

-- the session has these two workers
workers-two : (c : goal.After-add_all-2) → c.args.session.now.workers ≡ c.get-first.result.now ∷ c.get-second.result.now ∷ []
workers-two c = two-of c.args.session.now.workers c.get-first.result.now c.get-second.result.now c.requires c.get-first.ensures c.get-second.ensures

-- a count after the acts of both were added to nothing
both : (c : goal.After-add_all-2) (test : Act → Bool) (between after : ℕ) → between ≡ 0 + count_by test c.acts.result.now → after ≡ between + count_by test c.acts-2.result.now
    → after ≡ count_by test c.get-first.result.now.acts + count_by test c.get-second.result.now.acts
both c test between after first second =
    second ∙ ap (λ n. n + count_by test c.acts-2.result.now) first
    ∙ ap (λ (acts : List Act). 0 + count_by test acts + count_by test c.acts-2.result.now) c.acts.ensures
    ∙ ap (λ (acts : List Act). 0 + count_by test c.get-first.result.now.acts + count_by test acts) c.acts-2.ensures
    ∙ added-two (count_by test c.get-first.result.now.acts) (count_by test c.get-second.result.now.acts)

pub returns-clause-counts : goal.returns-clause-counts
returns-clause-counts c =
    counted-two c.args.session.now c.get-first.result.now c.get-second.result.now c.add_all-2.new.self (workers-two c)
    (both c (λ a. gives_time a.kind) c.add_all.new.self.times c.add_all-2.new.self.times c.add_all.ensures.times c.add_all-2.ensures.times)
    (both c (λ a. is_control a.kind) c.add_all.new.self.controls c.add_all-2.new.self.controls c.add_all.ensures.controls c.add_all-2.ensures.controls)
    (both c (λ a. is_silent a.kind) c.add_all.new.self.silent c.add_all-2.new.self.silent c.add_all.ensures.silent c.add_all-2.ensures.silent)
    (c.add_all-2.ensures.clients ∙ c.add_all.ensures.clients ∙ c.from.ensures ∙ c.listed.ensures.listed)

pub returns-clause-ports : goal.returns-clause-ports
returns-clause-ports c =
    subst (AllByRecursion (λ (worker : WorkerView PortParts MemoryClock). IsDrawnPort worker.port)) (sym (workers-two c))
    (subst IsDrawnPort c.port.ensures c.events-first_events.ensures.drawn, (subst IsDrawnPort c.port-2.ensures c.events-second_events.ensures.drawn, tt))
