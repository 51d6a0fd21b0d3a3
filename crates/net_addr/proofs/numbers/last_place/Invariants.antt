use Rattle.std.proofs.Common.{◌≤◌, ◌≢◌, All, drop, length}
use Rattle.net_addr.proofs.numbers.last_place.Given as goal

-- no mark stands in what was passed
abbrev pub invariant-loop-rest : goal.invariant-loop-rest
invariant-loop-rest l = record {
  within : l.rest ≤ length l.text;
  last : All (λ octet. octet ≢ l.mark) (drop l.rest l.text);
}

abbrev pub decreases-loop-rest : goal.decreases-loop-rest
decreases-loop-rest l = l.rest
