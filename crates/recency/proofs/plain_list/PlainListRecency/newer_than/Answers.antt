use Rattle.std.proofs.Common.{◌∙◌, ap}
use Rattle.recency.specs.Rows.{ClientList}
use Rattle.recency.proofs.PlaceLemmas.{after-found}
use Rattle.recency.proofs.plain_list.PlainListRecency.newer_than.Goals as goal

pub returns-in-Some-clause-row : goal.returns-in-Some-clause-row
returns-in-Some-clause-row g c =
    let seen = ap (λ (list : ClientList). list.rows) c.self.view_is in
    let behind = after-found c.args.self.now.rows c.deref-in-Some.result.now c.deref-in-Some-2.result.now c.in-Some.ip.now c.place_of-place.result c.row_at-in-Some.result
    (c.deref-in-Some.ensures.value ∙ seen) (c.deref-in-Some-2.ensures.value ∙ seen) c.place_of-place.ensures.place c.row_at-in-Some.ensures.row in
    rw c.in-Some.is behind
