use Rattle.std.proofs.Common.{◌+◌, ◌-◌, ◌*◌, ◌^◌, ◌≤◌, ◌<◌, ◌≢◌, ℕ}
use Rattle.net_addr.proofs.masks.mask_length_v6.Given as goal

-- no length so far is the mask's
abbrev pub invariant-loop-length : goal.invariant-loop-length
invariant-loop-length l = record {
  within : l.length ≤ 128 + 1;
  none : (k : ℕ) → k < l.length → l.mask ≢ (2 ^ k - 1) * 2 ^ (128 - k);
}

abbrev pub decreases-loop-length : goal.decreases-loop-length
decreases-loop-length l = 128 + 1 - l.length
