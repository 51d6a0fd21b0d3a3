use Rattle.std.proofs.Common.{◌-◌}
use Rattle.mru_items.specs.Queries.{NamesNoneFrom}
use Rattle.mru_items.specs.declared.pair.TheConstants.{MAX_PAIRS}
use Rattle.mru_items.proofs.query_reading.name_none_from.Given as goal

abbrev pub invariant-loop-place : goal.invariant-loop-place
invariant-loop-place l = record {
  onto : NamesNoneFrom l.items (MAX_PAIRS - l.number) l.number → NamesNoneFrom l.items (MAX_PAIRS - l.place) l.place;
  into : NamesNoneFrom l.items (MAX_PAIRS - l.place) l.place → NamesNoneFrom l.items (MAX_PAIRS - l.number) l.number;
}
