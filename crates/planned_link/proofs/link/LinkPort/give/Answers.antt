use Rattle.std.proofs.Common.{◌≡◌, List, ℕ, ◌++◌, ◌∷◌, [], ap, refl, ◌∙◌}
use Rattle.edge_traits.specs.declared.port.Event.TheVariants.{Sent}
use Rattle.planned_link.specs.contracts.link.Link.{the_view}
use Rattle.planned_link.proofs.LinkLemmas.{IsBrought-served, IsGiven-done, IsGiven-wanting, comes_at, delivered, is_after}
use Rattle.planned_link.proofs.link.LinkPort.give.Goals as goal

pub returns-in-Err-clause-given : goal.returns-in-Err-clause-given
returns-in-Err-clause-given c =
    let l = the_view c.self.inside in
    let moment = c.saturating_add-self-inside in
    let deed = c.next_deed-ops in
    let comes = comes_at l c.args.to.now c.args.octets.now c.new-keys.result (record { salt = l.salt; origin = c.origin.result; moment = moment.result }) c.new-keys.ensures refl c.origin.ensures moment.ensures in
    rw (← c.self.view_is) (IsGiven-wanting l c.args.to.now c.args.octets.now deed.result _ c.serve.new.book _ deed.ensures.first comes c.in-Err.ensures.brought
    (is_after l c.serve.new.book moment.result c.saturating_add-self-inside-2.result deed.new.plan.items l.queue l.queue l.trace l.trace moment.ensures deed.ensures.rest refl c.saturating_add-self-inside-2.ensures refl))

pub returns-clause-given : goal.returns-clause-given
returns-clause-given c =
    let l = the_view c.self.inside in
    let moment = c.saturating_add-self-inside in
    let deed = c.next_deed-ops in
    let comes = comes_at l c.args.to.now c.args.octets.now c.new-keys.result (record { salt = l.salt; origin = c.origin.result; moment = moment.result }) c.new-keys.ensures refl c.origin.ensures moment.ensures in
    let brought = IsBrought-served deed.result (delivered l c.args.to.now c.args.octets.now c.new-keys.result (record { salt = l.salt; origin = c.origin.result; moment = moment.result })) l.book c.in-Ok.answers.items c.serve.new.book c.in-Ok.ensures.served in
    rw (← c.self.view_is) (IsGiven-wanting l c.args.to.now c.args.octets.now deed.result _ c.serve.new.book _ deed.ensures.first comes brought
    (is_after l c.serve.new.book moment.result c.saturating_add-self-inside-2.result deed.new.plan.items c.settle.new.queue.items l.queue c.settle.new.events.items l.trace moment.ensures deed.ensures.rest c.in-Err-settle.ensures.unqueued c.saturating_add-self-inside-2.ensures c.in-Err-settle.ensures.untold))

pub returns-in-Ok-settle-clause-given : goal.returns-in-Ok-settle-clause-given
returns-in-Ok-settle-clause-given c =
    let l = the_view c.self.inside in
    let moment = c.saturating_add-self-inside in
    let deed = c.next_deed-ops in
    let comes = comes_at l c.args.to.now c.args.octets.now c.new-keys.result (record { salt = l.salt; origin = c.origin.result; moment = moment.result }) c.new-keys.ensures refl c.origin.ensures moment.ensures in
    let copied : c.put.new.self ≡ c.args.octets.now = c.put.ensures ∙ ap (λ (front : List ℕ). front ++ c.args.octets.now) c.new-copy.ensures in
    let told = c.in-Ok-settle.ensures.told ∙ ap (λ (octets : List ℕ). l.trace ++ Sent c.args.to.now octets ∷ []) copied in
    rw (← c.self.view_is) (IsGiven-done l c.args.to.now c.args.octets.now deed.result _ c.serve.new.book c.in-Ok.answers.items _ deed.ensures.first comes c.in-Ok.ensures.served
    (is_after l c.serve.new.book moment.result c.saturating_add-self-inside-2.result deed.new.plan.items c.settle.new.queue.items _ c.settle.new.events.items _ moment.ensures deed.ensures.rest c.in-Ok-settle.ensures.queued c.saturating_add-self-inside-2.ensures told))
