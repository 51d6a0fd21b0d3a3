use Rattle.std.proofs.Common.{Some, ap, ◌∙◌, ◌++◌, ◌∷◌, [], List}
use Rattle.edge_traits.specs.declared.port.Event.TheVariants.{Took, Silence}
use Rattle.wire.specs.declared.wire.WireEvent.{WireEvent}
use Rattle.wire.specs.declared.wire.WireEvent.TheVariants.{Client}
use Rattle.drawn_link.proofs.LinkLemmas.{IsDrawn-silence, IsDrawn-took, told-one}
use Rattle.drawn_link.proofs.link.DrawnLinkPort.take.Goals as goal

pub invariant_of-self-in-None : goal.invariant_of-self-in-None
invariant_of-self-in-None c =
    IsDrawn-silence c.self.inside.common c.self.inside.server c.self.inside.client c.self.inside.book c.self.inside.acts.items c.self.inside.log.items c.push_reserved.new.self.items c.self.inside.queue.items c.pop_front.new.self.items
    c.in-None.ensures.items
    (c.push_reserved.ensures.items ∙ ap (λ (log : List WireEvent). log ++ Client Silence ∷ []) c.reserve.ensures.items)
    c.self.invariant

pub invariant_of-self-in-Some : goal.invariant_of-self-in-Some
invariant_of-self-in-Some c =
    IsDrawn-took c.self.inside.common c.self.inside.server c.self.inside.client c.self.inside.book c.self.inside.acts.items c.self.inside.log.items c.push_reserved-in-Some.new.self.items c.self.inside.queue.items c.pop_front.new.self.items c.in-Some.octets
    c.in-Some.ensures.items
    (c.push_reserved-in-Some.ensures.items ∙ (λ i. c.reserve.ensures.items i ++ Client (Took c.self.inside.server (c.copy.ensures i)) ∷ []))
    c.self.invariant

pub returns-in-None-clause-told : goal.returns-in-None-clause-told
returns-in-None-clause-told c =
    rw (← c.self.view_is) (ap Some (told-one c.self.inside.log.items c.push_reserved.new.self.items Silence
    (c.push_reserved.ensures.items ∙ ap (λ (log : List WireEvent). log ++ Client Silence ∷ []) c.reserve.ensures.items)))

pub returns-in-Some-clause-told : goal.returns-in-Some-clause-told
returns-in-Some-clause-told c =
    rw (← c.self.view_is) (ap Some (told-one c.self.inside.log.items c.push_reserved-in-Some.new.self.items (Took c.self.inside.server c.in-Some.octets)
    (c.push_reserved-in-Some.ensures.items ∙ (λ i. c.reserve.ensures.items i ++ Client (Took c.self.inside.server (c.copy.ensures i)) ∷ []))))
