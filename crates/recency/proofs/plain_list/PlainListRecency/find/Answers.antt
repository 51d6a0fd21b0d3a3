use Rattle.std.proofs.Common.{◌∙◌, ap}
use Rattle.recency.specs.Rows.{ClientList}
use Rattle.recency.proofs.PlaceLemmas.{found-at}
use Rattle.recency.proofs.plain_list.PlainListRecency.find.Goals as goal

pub returns-clause-row : goal.returns-clause-row
returns-clause-row g c =
    let seen = ap (λ (list : ClientList). list.rows) c.self.view_is in
    found-at c.args.self.now.rows c.deref.result.now c.deref-2.result.now c.args.ip.now c.place_of-place.result c.row_at.result (c.deref.ensures.value ∙ seen) (c.deref-2.ensures.value ∙ seen)
    c.place_of-place.ensures.place c.row_at.ensures.row
