-- What reads take from a source: our own words.
use Rattle.std.specs.Prelude.{ℕ, ◌≡◌, ◌≤◌, Option, Some, None, Result, Ok, Err, List, [], ◌++◌, length, take, drop}
use Rattle.edge_traits.specs.declared.source.Failed.{Failed}

-- what was to come before these octets were read, where it is told
abbrev pub preceded : List ℕ → Option (List ℕ) → Option (List ℕ)
preceded octets None = None
preceded octets (Some rest) = Some (octets ++ rest)

-- the octets that one read gave, which left `into` so
abbrev pub octets_read : Result ℕ Failed → List ℕ → List ℕ
octets_read (Ok n) into = take n into
octets_read (Err fault) into = []

-- of the octets that were to come, where they are told, the first `n` have come
abbrev pub Passed : ℕ → Option (List ℕ) → Option (List ℕ) → Type 0
Passed n None new = new ≡ None
Passed n (Some octets) new = (n ≤ length octets) × (new ≡ Some (drop n octets))

-- so many of them at most have come
abbrev pub PassedAtMost : ℕ → Option (List ℕ) → Option (List ℕ) → Type 0
PassedAtMost most old new = (n : ℕ) × (n ≤ most) × Passed n old new
