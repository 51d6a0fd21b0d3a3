use Rattle.mru_items.proofs.ValueLemmas.{number-is}
use Rattle.mru_items.proofs.value_reading.number_in.Goals as goal

pub returns : goal.returns
returns c = record {
  value = number-is c.args.least c.args.most c.args.value.now c.read_decimal_within.result c.ranges.most.fits
      c.read_decimal_within.ensures.found c.read_decimal_within.ensures.only;
}
