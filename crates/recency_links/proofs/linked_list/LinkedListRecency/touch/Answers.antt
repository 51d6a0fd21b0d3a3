use Rattle.std.proofs.Common.{◌≡◌, ◌↔◌, Option, None, IfOk, OnOk, OnErr, IsTrue, subst, ◌∙◌}
use Rattle.recency.specs.Arrivals.{IsTouched, has_new_row, touch_answer, touched_row, touched_rows}
use Rattle.recency.specs.Rows.{ClientList, find_row}
use Rattle.recency.specs.declared.visit.Touched.{Touched}
use Rattle.recency.specs.declared.visit.Touched.TheVariants.{Untracked}
use Rattle.recency.proofs.ClientLemmas.{IsTouched-client}
use Rattle.recency_links.specs.Lists.{rows_of}
use Rattle.recency_links.proofs.TouchedLemmas.{before-seen, kept-arrived, map-IfOk}
use Rattle.recency_links.proofs.linked_list.LinkedListRecency.touch.Goals as goal

pub invariant_of-self : goal.invariant_of-self
invariant_of-self g c = record {
  list = c.arrive.ensures.list;
  kept = kept-arrived c.self.inside.limits (rows_of c.self.inside.links) c.args.visit.now c.args.stamp (rows_of c.arrive.new.links) c.arrive.result c.self.inside.limits.depths c.self.invariant.kept
      (before-seen c.args.stamp c.args.self.now c.self.inside.limits (rows_of c.self.inside.links) c.self.view_is c.requires) c.arrive.ensures.touched c.arrive.ensures.no_memory;
  nodes = c.arrive.ensures.nodes ∙ c.self.invariant.nodes;
}

pub returns-clause-answer : goal.returns-clause-answer
returns-clause-answer g c =
    let P : ClientList → Type 0 = λ list. IfOk c.arrive.result (λ answer. answer ≡ touch_answer list.limits list.rows c.args.visit.now c.args.stamp) in
    subst P c.self.view_is
    (map-IfOk (λ answer. IsTouched c.self.inside.limits (rows_of c.self.inside.links) c.args.visit.now c.args.stamp answer (rows_of c.arrive.new.links))
    (λ answer. answer ≡ touch_answer c.self.inside.limits (rows_of c.self.inside.links) c.args.visit.now c.args.stamp) (λ answer touched. touched.answers) c.arrive.result c.arrive.ensures.touched)

pub returns-clause-rows : goal.returns-clause-rows
returns-clause-rows g c =
    let P : ClientList → Type 0 = λ list. OnOk c.arrive.result (rows_of c.arrive.new.links ≡ touched_rows list.limits list.rows c.args.visit.now c.args.stamp) in
    subst P c.self.view_is
    (map-IfOk (λ answer. IsTouched c.self.inside.limits (rows_of c.self.inside.links) c.args.visit.now c.args.stamp answer (rows_of c.arrive.new.links))
    (λ answer. rows_of c.arrive.new.links ≡ touched_rows c.self.inside.limits (rows_of c.self.inside.links) c.args.visit.now c.args.stamp) (λ answer touched. touched.leaves) c.arrive.result c.arrive.ensures.touched)

pub returns-clause-client : goal.returns-clause-client
returns-clause-client g c =
    map-IfOk (λ answer. IsTouched c.self.inside.limits (rows_of c.self.inside.links) c.args.visit.now c.args.stamp answer (rows_of c.arrive.new.links))
    (λ answer. find_row (rows_of c.arrive.new.links) c.args.visit.now.ip ≡ touched_row answer (rows_of c.arrive.new.links))
    (λ answer touched. (IsTouched-client c.self.inside.limits (rows_of c.self.inside.links) c.args.visit.now c.args.stamp answer (rows_of c.arrive.new.links) touched).row) c.arrive.result c.arrive.ensures.touched

pub returns-clause-untracked : goal.returns-clause-untracked
returns-clause-untracked g c =
    map-IfOk (λ answer. IsTouched c.self.inside.limits (rows_of c.self.inside.links) c.args.visit.now c.args.stamp answer (rows_of c.arrive.new.links))
    (λ answer. (answer ≡ Untracked) ↔ (find_row (rows_of c.arrive.new.links) c.args.visit.now.ip ≡ None))
    (λ answer touched. (IsTouched-client c.self.inside.limits (rows_of c.self.inside.links) c.args.visit.now c.args.stamp answer (rows_of c.arrive.new.links) touched).untracked) c.arrive.result c.arrive.ensures.touched

pub returns-clause-memory : goal.returns-clause-memory
returns-clause-memory g c =
    let P : ClientList → Type 0 = λ list. OnErr c.arrive.result (IsTrue (has_new_row (touch_answer list.limits list.rows c.args.visit.now c.args.stamp))) in
    subst P c.self.view_is c.arrive.ensures.memory

pub returns-clause-no_memory : goal.returns-clause-no_memory
returns-clause-no_memory g c =
    let P : ClientList → Type 0 = λ list. OnErr c.arrive.result (rows_of c.arrive.new.links ≡ list.rows) in
    subst P c.self.view_is c.arrive.ensures.no_memory

pub returns-clause-kept : goal.returns-clause-kept
returns-clause-kept g c =
    kept-arrived c.self.inside.limits (rows_of c.self.inside.links) c.args.visit.now c.args.stamp (rows_of c.arrive.new.links) c.arrive.result c.self.inside.limits.depths c.self.invariant.kept
    (before-seen c.args.stamp c.args.self.now c.self.inside.limits (rows_of c.self.inside.links) c.self.view_is c.requires) c.arrive.ensures.touched c.arrive.ensures.no_memory
