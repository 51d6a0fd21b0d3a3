-- What a reader cuts off a text.
use Rattle.std.specs.Prelude.{ℕ, List, Option, option_map}
use Rattle.std.specs.Borrow.{Bor}

-- the octets before the cut, and the number after it
abbrev pub cut_parts : Option (Bor (List ℕ) × ℕ) → Option (List ℕ × ℕ)
cut_parts cut = option_map (λ parts. (parts.0.now, parts.1)) cut
