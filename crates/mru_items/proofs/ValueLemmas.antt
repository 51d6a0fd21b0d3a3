-- Values that are read: numbers, flags and masks.
use Rattle.std.proofs.Common.{◌≡◌, ℕ, ◌^◌, ◌<◌, nat_le, Bool, true, ◌&&◌, inl, inr, Option, Some, None, List, decimal, bytes_eq, refl, sym, ap, ◌∙◌, arith}
use Rattle.std.proofs.lemmas.Bool.{and_parts, cases_Bool, le-leb, leb-true}
use Rattle.std.proofs.lemmas.Bool.Decides.{nat_tests}
use Rattle.std.proofs.lemmas.Fmt.{decimal_is_IsNumeral}
use Rattle.std.proofs.lemmas.Slice.Eq.{bytes_eq-Decides}
use Rattle.std.specs.Net.Text.{hex}
use Rattle.std.specs.Prelude.{IfSome}
use Rattle.std.specs.Str.Parse.{digits_value}
use Rattle.text_words.specs.Numbers.{SpellsNumber}
use Rattle.mru_items.specs.Values.{flags_in, mask_digits, number_in}

-- a number that is spelled is told
pub number_in-spelled : (least most : ℕ) (text : List ℕ) (number : ℕ) → most < 2 ^ 32 → SpellsNumber least most text number
    → number_in least most text ≡ Some number
number_in-spelled least most text number fits spelled =
    let value : digits_value 10 text ≡ number = ap (digits_value 10) spelled.0 ∙ (decimal_is_IsNumeral number (omega (arith, spelled.2))).1 in
    let same : bytes_eq text (decimal number) ≡ true = (bytes_eq-Decides text (decimal number)).1 spelled.0 in
    rw (value, same, le-leb least number spelled.1, le-leb number most spelled.2) refl

-- a number that is told is spelled
pub spelled-number_in : (least most : ℕ) (text : List ℕ) (test : Bool)
    → (bytes_eq text (decimal (digits_value 10 text)) && nat_le least (digits_value 10 text) && nat_le (digits_value 10 text) most) ≡ test
    → (test ≡ true → SpellsNumber least most text (digits_value 10 text))
spelled-number_in least most text test is passes =
    let value = digits_value 10 text in
    let parts = and_parts (bytes_eq text (decimal value) && nat_le least value) (nat_le value most) (is ∙ passes) in
    let front = and_parts (bytes_eq text (decimal value)) (nat_le least value) parts.0 in
    ((bytes_eq-Decides text (decimal value)).0 front.0, leb-true least value front.1, leb-true value most parts.1)

-- what spells a number exactly is what tells it
pub number-is : (least most : ℕ) (text : List ℕ) (result : Option ℕ) → most < 2 ^ 32 → IfSome result (SpellsNumber least most text)
    → ((number : ℕ) → SpellsNumber least most text number → result ≡ Some number) → result ≡ number_in least most text
number-is least most text (Some number) fits found only = sym (number_in-spelled least most text number fits found)
number-is least most text None fits found only =
    let test = bytes_eq text (decimal (digits_value 10 text)) && nat_le least (digits_value 10 text) && nat_le (digits_value 10 text) most in
    elim (cases_Bool test) [
      | inl passes ↦ absurd (cc (only (digits_value 10 text) (spelled-number_in least most text test refl passes)))
      | inr fails ↦ rw fails refl
    ]

-- flags without one to four digits are none
pub flags_in-none : (text : List ℕ) → mask_digits text ≡ None → flags_in text ≡ None
unfolding hex
flags_in-none text none = grind (arith, nat_tests)
