-- The index from an address to the number of a node: our own words.
use Rattle.std.specs.Prelude.{◌≡◌, ℕ, cond, List, [], ◌∷◌, Option, Some, None}
use Rattle.net_addr.specs.Addresses.{same_ip}
use Rattle.net_addr.specs.declared.addr.Ip.{Ip}

-- the number that the entries have for an address
abbrev pub number_at : List (Ip × ℕ) → Ip → Option ℕ
number_at [] ip = None
number_at (entry ∷ entries) ip = cond (same_ip ip entry.0) (Some entry.1) (number_at entries ip)

-- the entries have this number for one address, or none, and for each other one what they had
abbrev pub IsNumbered : List (Ip × ℕ) → Ip → Option ℕ → List (Ip × ℕ) → Type 0
IsNumbered old ip number new = (other : Ip) → number_at new other ≡ cond (same_ip ip other) number (number_at old other)
