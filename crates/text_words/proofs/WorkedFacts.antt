-- Worked lines, words and numbers, computed.
use Rattle.std.proofs.Common.{◌≡◌, ℕ, [], ◌∷◌, decimal, refl, sym, ap, ◌∙◌, length, lit≤, lit<, arith}
use Rattle.std.proofs.lemmas.Fmt.{decimal_digit}
use Rattle.std.specs.Prelude.{codes}
use Rattle.text_words.specs.Lines.{lines_of}
use Rattle.text_words.specs.Numbers.{SpellsNumber}
use Rattle.text_words.specs.Words.{words_of}

-- words stand between spaces and tabs, and a comment has none
two_words : words_of (codes " ab\tc #d e") ≡ codes "ab" ∷ codes "c" ∷ []
two_words = refl

no_words : words_of (codes "\t #a") ≡ []
no_words = refl

-- a number sign ends a word that stands right before it
sign_ends_word : words_of (codes "a#b") ≡ codes "a" ∷ []
sign_ends_word = refl

-- a carriage return is dropped before a line feed alone, and what follows the last one is a line
three_lines : lines_of (codes "a\r\n\rb\r\r\nc\r") ≡ codes "a" ∷ codes "\rb\r" ∷ codes "c\r" ∷ []
three_lines = refl

empty_lines : lines_of (codes "\n") ≡ [] ∷ [] ∷ []
empty_lines = refl

-- a number stands within its bounds, and has no zero that says nothing
at_least : SpellsNumber 4 17 (codes "4") 4
at_least = (sym (decimal_digit 4 (lit< tt)), lit≤ tt, lit≤ tt)

above : (number : ℕ) → ¬ SpellsNumber 18 17 (codes "18") number
above number (spelled, least, most) = omega (arith, least, most)

two_zeros : ¬ (codes "00" ≡ decimal 0)
two_zeros same = omega (arith, ap length (same ∙ decimal_digit 0 (lit< tt)))
