use Rattle.std.proofs.Common.{[], ap, ◌∙◌}
use Rattle.mrulist_reader.specs.Readers.{with_rows}
use Rattle.mrulist_reader.proofs.TableLemmas.{with_rows-again}
use Rattle.mrulist_reader.proofs.table.Table.make_room.Goals as goal

pub returns : goal.returns
returns c =
    ap (with_rows []) (c.in_ok-rows.ensures ∙ ap (with_rows []) c.as_slice.ensures.value)
    ∙ with_rows-again c.self.inside.told.items ∙ c.self.view_is
