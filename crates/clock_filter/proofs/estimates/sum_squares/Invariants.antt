use Rattle.std.proofs.Common.{◌≡◌, ◌≤◌, ◌*◌, ◌^◌, sum_by, take}
use Rattle.fixed_time.specs.Apart.{squared_apart_of}
use Rattle.clock_filter.proofs.estimates.sum_squares.Given as goal

abbrev pub invariant-loop-s : goal.invariant-loop-s
invariant-loop-s l = record {
  summed : l.squares ≡ sum_by (λ s. squared_apart_of s.offset.0 l.about.0) (take l.s-index l.samples);
  bounded : l.squares ≤ l.s-index * 2 ^ 120;
}
