use Rattle.std.proofs.Common.{◌≡◌, List, ap, refl, sym, subst, ◌∙◌}
use Rattle.std.specs.List.{count_by}
use Rattle.list_telling.specs.Histories.{AreTellableOps}
use Rattle.server_core.specs.Moves.{HaveMoments}
use Rattle.wire.specs.declared.wire.WireEvent.{WireEvent}
use Rattle.wire.specs.Placing.{places_in}
use Rattle.wire.specs.Wires.{client_events}
use Rattle.worker.specs.declared.act.Act.{Act}
use Rattle.drawn_link.specs.declared.link.TheConstants.{HERE}
use Rattle.drawn_link.specs.Runs.{IsListed, is_sent}
use Rattle.drawn_link.proofs.EndLemmas.{IsEnded-drawn}
use Rattle.drawn_link.proofs.LinkLemmas.{IsDrawn-same}
use Rattle.drawn_link.proofs.run.finish.Goals as goal

pub returns : goal.returns
returns c =
    let link = c.args.link in
    let rest = c.into_rest-book in
    let drawn = rest.ensures.drawn in
    let wire_is : c.of-wire.result ≡ link.log = c.of-wire.ensures ∙ rest.ensures.log in
    IsEnded-drawn _ link.common link.server link.client drawn.0
    (IsDrawn-same link.common link.server link.client link.book rest.result.book link.acts rest.result.acts.items link.log c.of-wire.result drawn.0 drawn.0 rest.ensures.book rest.ensures.acts wire_is refl drawn.1)
    (subst AreTellableOps c.journal.ensures c.journals_are_tellable.ensures.tellable)
    (subst HaveMoments c.journal.ensures c.journals_are_tellable.ensures.moments)
    (subst (λ (log : List WireEvent). IsListed c.args.listed (client_events log)) (sym wire_is) c.requires)
    (c.requests_in-given.ensures ∙ ap (λ (log : List WireEvent). count_by is_sent (client_events log)) c.events.ensures)
    (c.in_ok-places.ensures ∙ ap (λ (acts : List Act). places_in HERE acts c.of-wire.result) c.as_slice.ensures.value)
