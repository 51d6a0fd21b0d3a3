use Rattle.std.proofs.Common.{◌∙◌, ℕ, List, ap, refl, slice_set, subst, sym}
use Rattle.associations.specs.Taking.{HasPeer}
use Rattle.edge_traits.specs.Told.{gained}
use Rattle.edge_traits.specs.Trace.{given_events}
use Rattle.pilot.specs.Views.{HelmParts}
use Rattle.pilot.proofs.StepLemmas.{Asks-same, IsAsk-by, Rose-give}
use Rattle.pilot.proofs.helm.Helm.ask.Goals as goal

pub returns : goal.returns
returns g c = Asks-same c.args.keys.now c.args.at c.args.peer _ c.args.self.now _ c.self.view_is (record {
  to = c.addr_of-to.result;
  octets = c.request_for-request.result;
  gave = c.give-gave.result;
  asked = IsAsk-by c.args.keys.now c.args.at c.self.inside.steering c.args.peer c.clock-clock.result c.addr_of-to.result c.request_for-request.result _ c.next_request-next.result _
      (subst (λ (h : HelmParts). HasPeer h.steering.peers c.args.peer) (sym c.self.view_is) c.requires.there)
      c.clock-clock.ensures.value
      c.addr_of-to.ensures
      c.next_request-next.ensures
      c.request_for-request.ensures.request
      c.request_for-request.ensures.asked
      (c.put.ensures ∙ ap (λ (key : ℕ). slice_set c.self.inside.steering.due key c.next_request-next.result) c.from.ensures);
  trace = c.give-gave.ensures.told
      ∙ ap (λ (octets : List ℕ). gained (g.P.Port.trace c.self.inside.port) (given_events c.give-gave.result c.addr_of-to.result octets)) c.as_slice.ensures.same;
  failed = Rose-give c.give-gave.result _ _ c.give-gave.ensures.failed c.give-gave.ensures.faults_kept;
  faults_kept = c.give-gave.ensures.faults_kept;
  quiets_kept = c.give-gave.ensures.quiets_kept;
  address_kept = c.give-gave.ensures.address_kept;
  most_kept = c.give-gave.ensures.most_kept;
  readings_kept = refl;
  left = c.left_after-self-inside.ensures;
})
