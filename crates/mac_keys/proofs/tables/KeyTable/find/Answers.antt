use Rattle.std.proofs.Common.{◌∙◌}
use Rattle.mac_keys.proofs.TableLemmas.{found_there, not_found_at_end, not_found_there}
use Rattle.mac_keys.proofs.tables.KeyTable.find.Goals as goal

pub returns-in_err-key : goal.returns-in_err-key
returns-in_err-key c =
    rw c.from_residual.ensures
    (not_found_at_end c.args.self.now c.deref.result.now c.args.id c.place-place.result (c.deref.ensures.value ∙ c.self.view_is) c.place-place.ensures.place c.place-place.ensures.table
    c.in_err-key.ensures.lookup.3)

pub returns-then-key-id : goal.returns-then-key-id
returns-then-key-id c =
    found_there c.args.self.now c.deref.result.now c.args.id c.place-place.result c.in_ok-key.key.now (c.deref.ensures.value ∙ c.self.view_is) c.place-place.ensures.place c.place-place.ensures.table
    c.in_ok-key.ensures.lookup.3.0 c.in_ok-key.ensures.lookup.1 c.if-key-id.true

pub returns-else-key-id : goal.returns-else-key-id
returns-else-key-id c =
    not_found_there c.args.self.now c.deref.result.now c.args.id c.place-place.result c.in_ok-key.key.now (c.deref.ensures.value ∙ c.self.view_is) c.place-place.ensures.place c.place-place.ensures.table
    c.in_ok-key.ensures.lookup.3.1 c.if-key-id.false
