use Rattle.std.proofs.Common.{◌≡◌, Some, List, ℕ, refl, ap, ◌∙◌, ◌++◌, ◌∷◌}
use Rattle.std.specs.Prelude.{nat_le}
use Rattle.drawn_link.specs.declared.link.TheConstants.{DRAWN_GIVES}
use Rattle.edge_traits.specs.declared.port.Event.TheVariants.{Sent}
use Rattle.wire.specs.declared.wire.WireEvent.{WireEvent}
use Rattle.wire.specs.declared.wire.WireEvent.TheVariants.{Client}
use Rattle.worker.specs.declared.act.Act.{Act}
use Rattle.drawn_link.specs.declared.serving.Service.{Service}
use Rattle.drawn_link.specs.Links.{queue_after}
use Rattle.drawn_link.specs.Services.{acts_of, grams_in, service_events}
use Rattle.drawn_link.proofs.LinkLemmas.{IsDrawn-given, IsDrawn-runs, IsDrawn-same, told-given}
use Rattle.drawn_link.proofs.link.DrawnLinkPort.give.Goals as goal

pub invariant_of-self : goal.invariant_of-self
invariant_of-self c =
    IsDrawn-runs c.self.inside.common c.self.inside.server c.self.inside.client c.self.inside.book c.serve_drawn.new.book c.self.inside.acts.items c.self.inside.log.items c.self.inside.queue.items c.in-Err.ensures.runs c.self.invariant

pub invariant_of-self-in-Err-news_of : goal.invariant_of-self-in-Err-news_of
invariant_of-self-in-Err-news_of c =
    IsDrawn-runs c.self.inside.common c.self.inside.server c.self.inside.client c.self.inside.book c.serve_drawn.new.book c.self.inside.acts.items c.self.inside.log.items c.self.inside.queue.items c.in-Ok.ensures.runs c.self.invariant

pub invariant_of-self-in-Ok-settle : goal.invariant_of-self-in-Ok-settle
invariant_of-self-in-Ok-settle c =
    let told = c.in-Ok-news_of.ensures in
    let services : c.as_slice.result.now ≡ c.in-Ok.services.items = c.as_slice.ensures.value in
    IsDrawn-given c.self.inside.common c.self.inside.server c.self.inside.client c.args.to.now c.args.octets.now c.is_same_addr-is_served.result (nat_le c.saturating_add-self-inside-2.result DRAWN_GIVES) c.serve_drawn.new.draws c.self.inside.book c.serve_drawn.new.book c.in-Ok.services.items
    c.self.inside.acts.items c.settle.new.acts.items c.self.inside.log.items c.settle.new.log.items c.self.inside.queue.items c.settle.new.queue.items
    (λ same. c.is_same_addr-is_served.ensures.exact.0 same)
    c.in-Ok.ensures.served
    (c.in-Ok-settle.ensures.acts ∙ ap (λ (more : List Act). c.self.inside.acts.items ++ more) (told.acts ∙ ap acts_of services))
    (c.in-Ok-settle.ensures.log ∙ ap (λ (more : List WireEvent). c.self.inside.log.items ++ more) (told.log ∙ ap (λ (all : List Service). Client (Sent c.args.to.now c.args.octets.now) ∷ service_events c.self.inside.client c.args.octets.now all) services))
    (c.in-Ok-settle.ensures.queue ∙ ap (λ (answers : List (List ℕ)). queue_after (nat_le c.saturating_add-self-inside-2.result DRAWN_GIVES) c.serve_drawn.new.draws answers c.self.inside.queue.items) (told.answers ∙ ap grams_in services))
    c.self.invariant

pub returns-in-Ok-settle-clause-told : goal.returns-in-Ok-settle-clause-told
returns-in-Ok-settle-clause-told c =
    rw (← c.self.view_is) (ap Some (told-given c.self.inside.log.items c.settle.new.log.items c.args.to.now c.self.inside.client c.args.octets.now c.in-Ok.services.items
    (c.in-Ok-settle.ensures.log ∙ ap (λ (more : List WireEvent). c.self.inside.log.items ++ more) (c.in-Ok-news_of.ensures.log ∙ ap (λ (all : List Service). Client (Sent c.args.to.now c.args.octets.now) ∷ service_events c.self.inside.client c.args.octets.now all) c.as_slice.ensures.value))))

pub invariant_of-self-2 : goal.invariant_of-self-2
invariant_of-self-2 c =
    IsDrawn-same c.self.inside.common c.self.inside.server c.self.inside.client c.serve_drawn.new.book c.serve_drawn.new.book c.self.inside.acts.items c.settle.new.acts.items c.self.inside.log.items c.settle.new.log.items c.self.inside.queue.items c.settle.new.queue.items
    refl c.in-Err-settle.ensures.acts_kept c.in-Err-settle.ensures.log_kept c.in-Err-settle.ensures.queue_kept
    (IsDrawn-runs c.self.inside.common c.self.inside.server c.self.inside.client c.self.inside.book c.serve_drawn.new.book c.self.inside.acts.items c.self.inside.log.items c.self.inside.queue.items c.in-Ok.ensures.runs c.self.invariant)
