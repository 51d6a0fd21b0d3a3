use Rattle.list_telling.proofs.Told.{answer-told}
use Rattle.list_telling.proofs.laws.an_answer_is_told.Goals as goal

pub returns : goal.returns
returns g c =
    let it = g.given in
    let (history, rest) = c.requires in
    let (taken, among) = rest in
    answer-told it.opening it.keys it.context it.from it.octets it.class it.before it.op it.after it.sent it.gram history taken among
