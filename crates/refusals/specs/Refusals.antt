-- The first refused place of a text, whatever its grammar: our own rule. `means text m` says that the text means m.
use Rattle.std.proofs.Common.{◌≡◌, ℕ, suc, ◌+◌, ◌-◌, ◌<◌, ◌≤◌, List, [], ◌∷◌, ◌++◌, length, take, drop, ap, sym, subst, ◌∙◌, append_assoc, length-drop, take-add, arith}
use Rattle.std.proofs.lemmas.List.{append-nil, take-append-drop}

-- some text that begins so means something
abbrev pub GoesOn : {X M : Type 0} → (List X → M → Type 0) → List X → Type 0
GoesOn {X = X} {M = M} means front = (more : List X) × (m : M) × means (front ++ more) m

-- a text stops after its front: it ends there and means nothing, or with the next symbol no text goes on
abbrev pub Stops : {X M : Type 0} → (List X → M → Type 0) → List X → List X → Type 0
Stops {M = M} means front [] = (m : M) → ¬ means front m
Stops means front (x ∷ rest) = ¬ GoesOn means (front ++ x ∷ [])

-- so many symbols stand before the first one that is refused, which is the text's end where it ends too soon
pub record IsRefusedAt {X M : Type 0} (means : List X → M → Type 0) (text : List X) (place : ℕ) : Type 0 where
  pub within : place ≤ length text
  pub goes_on : GoesOn means (take place text)
  pub stops : Stops means (take place text) (drop place text)

-- the front of what goes on goes on
pub GoesOn-front : {X M : Type 0} (means : List X → M → Type 0) (front more : List X) → GoesOn means (front ++ more) → GoesOn means front
GoesOn-front {X = X} means front more (rest, m, is) =
    let P : List X → Type 0 = λ text. means text m in
    (more ++ rest, m, subst P (append_assoc front more rest) is)

-- a text that goes on past a place does not stop there
not_past : {X M : Type 0} (means : List X → M → Type 0) (front rest : List X) (n : ℕ) → Stops means front rest → suc n ≤ length rest → ¬ GoesOn means (front ++ take (suc n) rest)
not_past means front [] n stops long goes_on = absurd (omega arith)
not_past {X = X} means front (x ∷ rest) n stops long goes_on =
    let P : List X → Type 0 = GoesOn means in
    stops (GoesOn-front means (front ++ x ∷ []) (take n rest) (subst P (sym (append_assoc front (x ∷ []) (take n rest))) goes_on))

-- a text goes on no further than to the place at which it is refused
goes_no_further : {X M : Type 0} (means : List X → M → Type 0) (text : List X) (j k : ℕ) → IsRefusedAt means text j → IsRefusedAt means text k → ¬ (j < k)
goes_no_further {X = X} means text j k first second below =
    let n = k - suc j in
    let P : List X → Type 0 = GoesOn means in
    let reach : j + suc n ≡ k = omega arith in
    let cut : take k text ≡ take j text ++ take (suc n) (drop j text) = ap (λ i. take i text) (sym reach) ∙ take-add j (suc n) text in
    let room : suc n ≤ length (drop j text) = omega (arith, length-drop j text, second.within) in
    not_past means (take j text) (drop j text) n first.stops room (subst P cut second.goes_on)

-- a text is refused at one place at most
pub one_place : {X M : Type 0} (means : List X → M → Type 0) (text : List X) (j k : ℕ) → IsRefusedAt means text j → IsRefusedAt means text k → j ≡ k
one_place means text j k first second =
    let not_below = goes_no_further means text j k first second in
    let not_above = goes_no_further means text k j second first in
    omega (arith, not_below, not_above)

-- a text that stops means nothing
Stops-means : {X M : Type 0} (means : List X → M → Type 0) (front rest : List X) (m : M) → Stops means front rest → ¬ means (front ++ rest) m
Stops-means {X = X} means front [] m stops is =
    let P : List X → Type 0 = λ text. means text m in
    stops m (subst P (append-nil front) is)
Stops-means {X = X} means front (x ∷ rest) m stops is =
    let P : List X → Type 0 = λ text. means text m in
    stops (rest, m, subst P (sym (append_assoc front (x ∷ []) rest)) is)

-- a text that means something is refused nowhere
pub refused_nowhere : {X M : Type 0} (means : List X → M → Type 0) (text : List X) (m : M) (place : ℕ) → means text m → ¬ IsRefusedAt means text place
refused_nowhere {X = X} means text m place is refused =
    let P : List X → Type 0 = λ all. means all m in
    Stops-means means (take place text) (drop place text) m refused.stops (subst P (sym (take-append-drop place text)) is)
