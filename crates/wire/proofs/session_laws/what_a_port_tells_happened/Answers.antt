use Rattle.wire.proofs.Happenings.{told-happened}
use Rattle.wire.proofs.session_laws.what_a_port_tells_happened.Goals as goal

pub returns : goal.returns
returns g c =
    let given = g.given in
    let s = given.session in
    let (there, traces) = c.requires in
    λ is. told-happened s.common s.opening s.history given.number s.parts is.worked given.part given.before given.events there traces.0 traces.1
