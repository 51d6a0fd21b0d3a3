use Rattle.std.proofs.Common.{◌+◌, length, arith, length-take}
use Rattle.edge_traits.proofs.ReadLemmas.{Passed-more}
use Rattle.edge_traits.proofs.source.read_whole.Goals as goal

pub returns-in-Ok-clause-too_long : goal.returns-in-Ok-clause-too_long
returns-in-Ok-clause-too_long g c = λ _.
    let asked = length-take (c.min-wanted.result + 1) c.loop-octets.piece in
    Passed-more _ c.in-Ok.n c.loop-octets.octets.items c.read.new.into _ _ _ c.loop-octets.invariant.told c.in-Ok.ensures.told (omega (arith, c.read.auto.into, c.in-Ok.ensures.within))
    (omega (arith, asked, c.in-Ok.ensures.within, c.loop-octets.octets.ok.0))

pub returns-in-Ok-clause-front : goal.returns-in-Ok-clause-front
returns-in-Ok-clause-front g c =
    let asked = length-take (c.min-wanted.result + 1) c.loop-octets.piece in (
      c.args.most + 1,
      omega arith,
      Passed-more _ c.in-Ok.n c.loop-octets.octets.items c.read.new.into _ _ _ c.loop-octets.invariant.told c.in-Ok.ensures.told (omega (arith, c.read.auto.into, c.in-Ok.ensures.within))
          (omega (arith, asked, c.in-Ok.ensures.within, c.loop-octets.octets.ok.0)),
    )

pub returns-then-is_err-clause-front : goal.returns-then-is_err-clause-front
returns-then-is_err-clause-front g c = (
  length c.loop-octets.octets.items + c.in-Ok.n,
  omega (arith, c.loop-octets.octets.ok.0),
  Passed-more _ c.in-Ok.n c.loop-octets.octets.items c.read.new.into _ _ _ c.loop-octets.invariant.told c.in-Ok.ensures.told (omega (arith, c.read.auto.into, c.in-Ok.ensures.within)) (omega arith),
)
