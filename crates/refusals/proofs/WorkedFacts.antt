-- Worked texts: with the grammar "a one, and a number, which it means", some texts and where they are refused.
use Rattle.std.proofs.Common.{◌≡◌, ℕ, ◌-◌, ◌^◌, List, [], ◌∷◌, refl, lit≤}
use Rattle.refusals.specs.Refusals.{IsRefusedAt}
use Rattle.refusals.specs.Told.{told_number}

-- the text is a one and the number
abbrev IsPair : List ℕ → ℕ → Type 0
IsPair text number = text ≡ 1 ∷ number ∷ []

-- a one alone ends too soon: it is refused at its end
one_alone : IsRefusedAt IsPair (1 ∷ []) 1
one_alone = record {
  within = lit≤ tt;
  goes_on = (7 ∷ [], 7, refl);
  stops = λ number is. cc;
}

-- a two is refused at once
two_first : IsRefusedAt IsPair (2 ∷ 7 ∷ []) 0
two_first = record {
  within = lit≤ tt;
  goes_on = (1 ∷ 7 ∷ [], 7, refl);
  stops = λ (more, number, is). cc;
}

-- a third number is refused, whatever it is
third_number : (number : ℕ) → IsRefusedAt IsPair (1 ∷ 7 ∷ number ∷ []) 2
third_number number = record {
  within = lit≤ tt;
  goes_on = ([], 7, refl);
  stops = λ (more, other, is). cc;
}

-- the greatest number that is told, and the next one, which is told as it
greatest : told_number (2 ^ 32 - 1) ≡ 4294967295
greatest = refl

beyond : told_number (2 ^ 32) ≡ 4294967295
beyond = refl
