use Rattle.std.proofs.Common.{[], List, ap, ◌∙◌}
use Rattle.mru_items.specs.declared.shown.ShownRow.{ShownRow}
use Rattle.mrulist_reader.specs.Readers.{with_rows}
use Rattle.mrulist_reader.proofs.TableLemmas.{with_rows-append}
use Rattle.mrulist_reader.proofs.table.Table.add.Goals as goal

pub returns : goal.returns
returns c =
    ap (with_rows []) c.in_ok-extend_from_slice.ensures.items
    ∙ with_rows-append [] c.self.inside.told.items c.args.rows.now
    ∙ ap (λ (rows : List ShownRow). with_rows rows c.args.rows.now) (c.self.view_is ∙ c.in_ok-make_room.ensures)
