-- Words of key files, octet by octet.
use Rattle.std.proofs.Common.{◌≡◌, ℕ, ◌+◌, ◌<◌, ◌==◌, ◌&&◌, Bool, true, false, List, [], ◌∷◌, length, get_or, drop, drop-cons, add-one, refl, arith}
use Rattle.std.specs.List.{list_all}
use Rattle.std.specs.Char.{to_ascii_uppercase}
use Rattle.mac_keys.specs.KeyLines.{begins}

-- nothing is a fact beside one that isn't
both_false : (b : Bool) → (b && false) ≡ false
both_false true = refl
both_false false = refl

-- a word that is shorter than a name does not begin with it
pub begins-short : (word name : List ℕ) → length word < length name → begins word name ≡ false
begins-short word [] short = absurd (omega arith)
begins-short [] (letter ∷ letters) short = refl
begins-short (octet ∷ word) (letter ∷ letters) short =
    rw (begins-short word letters (omega arith)) (both_false (to_ascii_uppercase octet == letter))

-- each word begins with nothing
pub begins-none : (word : List ℕ) → begins word [] ≡ true
begins-none [] = refl
begins-none (octet ∷ word) = refl

-- what a word begins with, octet by octet
pub begins-step : (word name : List ℕ) (i : ℕ) → i < length word → i < length name
    → begins (drop i word) (drop i name) ≡ (to_ascii_uppercase (get_or word i 0) == get_or name i 0 && begins (drop (i + 1) word) (drop (i + 1) name))
begins-step word name i in_word in_name = rw (add-one, drop-cons word i 0, drop-cons name i 0) refl

-- whether all octets pass, octet by octet
pub list_all-step : (p : ℕ → Bool) (word : List ℕ) (i : ℕ) → i < length word → list_all p (drop i word) ≡ (p (get_or word i 0) && list_all p (drop (i + 1) word))
list_all-step p word i within = rw (add-one, drop-cons word i 0) refl
