use Rattle.std.proofs.Common.{◌<◌, length, arith}
use Rattle.std.proofs.lemmas.List.Edits.{map_over_more}
use Rattle.recency.specs.Rows.{told_row}
use Rattle.recency.proofs.plain_list.tell_in.Goals as goal

pub loop-place-preserved : goal.loop-place-preserved
loop-place-preserved c =
    let within : c.loop-place.place < length c.args.rows.now.items = omega (arith, c.args.rows.now.ok.0, c.loop-place-test.true, c.len-place-end.ensures) in
    record {
      told = rw c.tell_row.ensures (map_over_more (told_row c.args.ip.now c.args.stamp) c.args.rows.now.items c.loop-place.rows.items c.loop-place.place c.index_mut.result.now within c.loop-place.invariant.told c.index_mut.ensures.value);
      len = c.loop-place.invariant.len;
      capacity = c.loop-place.invariant.capacity;
    }
