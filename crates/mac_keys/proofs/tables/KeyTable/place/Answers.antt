use Rattle.std.proofs.Common.{rules, sym, ap, ◌∙◌, nat_lt}
use Rattle.std.proofs.lemmas.List.Sorted.{IsPartitionPoint-from_clause}
use Rattle.mac_keys.specs.declared.keys.Key.{Key}
use Rattle.mac_keys.specs.Tables.{IsKeyTable, place_of}
use Rattle.mac_keys.proofs.TableLemmas.{lower_in_front, place_of-point}
use Rattle.mac_keys.proofs.tables.KeyTable.place.Goals as goal

pub returns-clause-place : goal.returns-clause-place
returns-clause-place c =
    let table : IsKeyTable c.as_slice.result.now = rw c.as_slice.ensures.value c.self.invariant in
    let point = IsPartitionPoint-from_clause (λ (key : Key). nat_lt key.id c.args.id) c.as_slice.result.now c.partition_point.result c.partition_point.ensures.partitioned
    (lower_in_front c.as_slice.result.now c.args.id table) (λ a r q k. search rules) in
    let place = place_of-point c.as_slice.result.now c.args.id c.partition_point.result c.partition_point.ensures.bound point in
    sym place ∙ ap (λ keys. place_of keys c.args.id) (c.as_slice.ensures.value ∙ c.self.view_is)
