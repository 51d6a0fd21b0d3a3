-- Frequencies: their texts, with a minus or without, and that they are known by their numbers.
use Rattle.std.proofs.Common.{◌≡◌, ℕ, ℤ, zero, suc, pos, negsuc, ◌^◌, ◌<◌, ◌≤◌, ◌≤ℤ◌, neg_ℤ, List, ◌∷◌, Option, Some, ◌-ℤ◌, to_z, of_z, w32, get_or, drop, decimal, ap, lit<, refl, sym, ◌∙◌, arith}
use Rattle.std.specs.Option.{ForSome}
use Rattle.std.specs.Int.Signed.{le_z}
use Rattle.std.proofs.Math.Dec.{T_prop}
use Rattle.std.proofs.lemmas.Fmt.{decimal_digit, first_decimal}
use Rattle.std.proofs.lemmas.Int.{ints}
use Rattle.text_words.specs.Numbers.{SpellsNumber}
use Rattle.discipline.specs.Frequency.{IsFrequency}
use Rattle.conf_file.specs.ShortLines.{IsFrequencyWord}

-- a number's text begins with no minus
no_minus : (n : ℕ) (digits : List ℕ) → n < 2 ^ 64 → ¬ (decimal n ≡ 45 ∷ digits)
no_minus zero digits small same = omega (arith, ap (λ w. get_or w 0 0) (sym (decimal_digit 0 (lit< tt)) ∙ same))
no_minus (suc n) digits small same = omega (arith, first_decimal (suc n) (omega arith) small, ap (λ w. get_or w 0 0) same)

-- a number without a minus, and one behind it, are frequencies
pub plain_frequency : (word : List ℕ) (n : ℕ) → SpellsNumber 0 2147483 word n → IsFrequencyWord word (pos n)
plain_frequency word n (is, low, high) = (is, record { low = omega (arith, ints); high = omega (arith, ints) })

pub minus_frequency : (word digits : List ℕ) (n : ℕ) → word ≡ 45 ∷ digits → SpellsNumber 1 2147483 digits n → IsFrequencyWord word (neg_ℤ (pos n))
minus_frequency word digits zero cut (is, low, high) = absurd (omega (arith, low))
minus_frequency word digits (suc n) cut (is, low, high) = (cut ∙ ap (λ d. 45 ∷ d) is, record { low = omega (arith, ints); high = omega (arith, ints) })

-- and a frequency without a minus, and one with it, have no other numbers
pub plain_number : (word : List ℕ) (frequency : ℤ) → ((digits : List ℕ) → ¬ (word ≡ 45 ∷ digits)) → IsFrequencyWord word frequency → (n : ℕ) × SpellsNumber 0 2147483 word n × (frequency ≡ pos n)
plain_number word (pos n) plain (is, within) = (n, (is, omega arith, omega (arith, ints, within.high)), refl)
plain_number word (negsuc n) plain (is, within) = absurd (plain (decimal (suc n)) is)

pub minus_number : (word digits : List ℕ) (frequency : ℤ) → word ≡ 45 ∷ digits → IsFrequencyWord word frequency → (n : ℕ) × SpellsNumber 1 2147483 digits n × (frequency ≡ neg_ℤ (pos n))
minus_number word digits (pos n) cut (is, within) = absurd (no_minus n digits (omega (arith, ints, within.high)) (sym is ∙ cut))
minus_number word digits (negsuc n) cut (is, within) = (suc n, (ap (drop 1) (sym cut ∙ is), omega arith, omega (arith, ints, within.low)), refl)

-- the code's number behind a minus is the frequency
pub minus_reads : (number n : ℕ) (frequency : ℤ) → Some number ≡ Some n → n ≤ 2147483 → frequency ≡ neg_ℤ (pos n) → Some (to_z w32 (of_z w32 (pos 0 -ℤ to_z w32 number))) ≡ Some frequency
minus_reads number n frequency read few is =
    let same : number ≡ n = cc in
    ap Some (omega (arith, ints, same, few, is))

order_prop : (a b : ℤ) → IsProp (a ≤ℤ b)
order_prop a b one other i = record { le = T_prop (le_z a b) one.le other.le i }

-- a frequency is bounded in one way
pub bounded_prop : (freq : Option ℤ) → IsProp (ForSome freq IsFrequency)
bounded_prop freq one other i x is = record {
  low = order_prop _ _ (one x is).low (other x is).low i;
  high = order_prop _ _ (one x is).high (other x is).high i;
}
