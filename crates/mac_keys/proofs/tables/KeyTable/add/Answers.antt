use Rattle.mac_keys.proofs.TableLemmas.{IsKeyTable-with_key}
use Rattle.mac_keys.proofs.tables.KeyTable.add.Goals as goal

pub invariant_of-self-2 : goal.invariant_of-self-2
invariant_of-self-2 c =
    let kept = IsKeyTable-with_key c.args.self.now c.args.key c.place-place.ensures.table c.requires.room c.requires.new in
    rw (c.in_ok-insert.ensures.items, c.place-place.ensures.place, c.self.view_is) kept
