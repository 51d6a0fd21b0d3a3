-- Lists of octets, and parts of them.
use Rattle.std.proofs.Common.{ℕ, zero, suc, ◌+◌, ◌^◌, ◌<◌, List, [], ◌∷◌, drop, take, slice_index, lit<}
use Rattle.std.proofs.lemmas.List.{get_or-drop}

-- each item of the list is an octet
abbrev pub AreOctets : List ℕ → Type 0
AreOctets xs = (i : ℕ) → slice_index xs i < 2 ^ 8

-- the items past a place are octets too
pub AreOctets-drop : (n : ℕ) (xs : List ℕ) → AreOctets xs → AreOctets (drop n xs)
AreOctets-drop n xs small i = rw (get_or-drop n xs i 0) (small (n + i))

-- the items before a place are octets too
pub AreOctets-take : (n : ℕ) (xs : List ℕ) → AreOctets xs → AreOctets (take n xs)
AreOctets-take zero xs small i = lit< tt
AreOctets-take (suc n) [] small i = lit< tt
AreOctets-take (suc n) (x ∷ xs) small zero = small 0
AreOctets-take (suc n) (x ∷ xs) small (suc i) = AreOctets-take n xs (λ k. small (suc k)) i
