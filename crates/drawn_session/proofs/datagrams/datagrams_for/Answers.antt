use Rattle.std.proofs.Common.{◌≡◌, ◌+◌, ◌-◌, ◌++◌, [], ◌∷◌, List, sym, ap, subst, ◌∙◌, arith}
use Rattle.std.specs.List.{AllByRecursion, filter}
use Rattle.drawn_session.specs.Datagrams.{IsDrawn, datagrams_for, datagrams_from, is_for}
use Rattle.drawn_session.specs.declared.datagrams.DrawnDatagram.{DrawnDatagram}
use Rattle.drawn_session.specs.declared.datagrams.TheConstants.{DATAGRAMS}
use Rattle.drawn_session.proofs.DrawLemmas.{drawn-next, found-first, found-last, found-next}
use Rattle.drawn_session.proofs.datagrams.datagrams_for.Goals as goal

pub loop-place-init : goal.loop-place-init
loop-place-init c = record {
  found = found-first c.args.host c.args.number c.of-draws.result c.new-datagrams.result.items c.new-datagrams.ensures.items c.of-draws.ensures;
  drawn = subst (AllByRecursion IsDrawn) (sym c.new-datagrams.ensures.items) tt;
}

pub loop-place-preserved : goal.loop-place-preserved
loop-place-preserved c =
    let d = c.next_datagram-datagram.result in
    let found = c.loop-place.datagrams.items in
    let more = c.in_ok-push_for.ensures in
    record {
      found = ap (λ (them : List DrawnDatagram). them ++ filter (is_for c.args.host) (datagrams_from (DATAGRAMS - (c.loop-place.place + 1)) (c.loop-place.place + 1) c.next_datagram-datagram.new.draws)) more
          ∙ subst (λ x. (found ++ filter (is_for c.args.host) (d ∷ [])) ++ filter (is_for c.args.host) (datagrams_from (DATAGRAMS - (c.loop-place.place + 1)) (c.loop-place.place + 1) x) ≡ datagrams_for c.args.number c.args.host)
          (sym c.next_datagram-datagram.ensures.state)
          (found-next c.args.host DATAGRAMS c.loop-place.place c.loop-place.draws found (datagrams_for c.args.number c.args.host) d c.loop-place-test.true c.next_datagram-datagram.ensures.datagram c.loop-place.invariant.found);
      drawn = subst (AllByRecursion IsDrawn) (sym more) (drawn-next c.args.host found d c.next_datagram-datagram.ensures.drawn c.loop-place.invariant.drawn);
    }

pub returns-clause-datagrams : goal.returns-clause-datagrams
returns-clause-datagrams c =
    found-last c.args.host DATAGRAMS c.loop-place.place c.loop-place.draws c.loop-place.datagrams.items (datagrams_for c.args.number c.args.host) (λ below. omega (arith, below, c.loop-place-test.false)) c.loop-place.invariant.found
