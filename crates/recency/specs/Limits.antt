-- Which limits a client list may have: our own rule, after the `mru` line of NTPsec's configuration.
use Rattle.std.specs.Prelude.{ℕ, ◌≤◌}
use Rattle.recency.specs.declared.limits.TheConstants.{MAX_DEPTH}

-- limits that fit together: 1 to 16,384 rows, and neither least value over its greatest one
pub record AreLimits (mindepth maxdepth minage maxage : ℕ) : Type 0 where
  pub some : 1 ≤ maxdepth
  pub most : maxdepth ≤ MAX_DEPTH
  pub depths : mindepth ≤ maxdepth
  pub ages : minage ≤ maxage
