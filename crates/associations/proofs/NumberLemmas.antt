-- Lists whose elements have numbers, which count from 1.
use Rattle.std.proofs.Common.{◌≡◌, ℕ, zero, suc, ◌+◌, ◌<◌, ◌≤◌, ◌⊎◌, inl, inr, List, [], ◌∷◌, ◌++◌, length, get_or, map, take, drop, Option, Some, None, sym, ap, ◌∙◌, append_assoc, arith}
use Rattle.std.proofs.Math.ListN.{set}
use Rattle.std.proofs.Math.Seq.{get_or-append_seam, set-append_seam}
use Rattle.std.proofs.lemmas.List.{append-nil, drop_all, drop_more, length-map, length-take-le, map-append, take_all, take_more}
use Rattle.std.proofs.lemmas.List.FromFn.{get_or-enumerate_from, length-enumerate_from}
use Rattle.std.specs.List.{Contains, cons_option, enumerate_from, filter_map}

-- what stands at a place has the next number
pub number_at : {X : Type 0} (xs : List X) (i : ℕ) (d : X) → i < length xs → get_or (enumerate_from 1 xs) i (0, d) ≡ (i + 1, get_or xs i d)
number_at {X} xs i d within =
    let number : 1 + i ≡ i + 1 = omega arith in
    get_or-enumerate_from 1 xs i (0, d) within ∙ ap (λ n. (n, get_or xs i d)) number

-- at the end all have their numbers
pub numbered_all : {X : Type 0} (xs : List X) (i : ℕ) → length xs ≤ i → take i (enumerate_from 1 xs) ≡ enumerate_from 1 xs
numbered_all {X} xs i end = take_all i (enumerate_from 1 xs) (omega (arith, end, length-enumerate_from 1 xs))

-- at the end all are changed
pub changed_all : {X : Type 0} (g : ℕ × X → X) (xs ys : List X) (i : ℕ) → length xs ≤ i
    → ys ≡ map g (take i (enumerate_from 1 xs)) ++ drop i xs → ys ≡ map g (enumerate_from 1 xs)
changed_all {X} g xs ys i end so_far =
    so_far
    ∙ ap (λ rest. map g (take i (enumerate_from 1 xs)) ++ rest) (drop_all i xs end)
    ∙ append-nil (map g (take i (enumerate_from 1 xs)))
    ∙ ap (map g) (numbered_all xs i end)

-- the step of a loop that changes each element in its place, by its number
pub changed_more : {X : Type 0} (g : ℕ × X → X) (xs ys : List X) (i : ℕ) (d y : X)
    → i < length xs → ys ≡ map g (take i (enumerate_from 1 xs)) ++ drop i xs → y ≡ g (i + 1, get_or ys i d)
    → set ys i y ≡ map g (take (i + 1) (enumerate_from 1 xs)) ++ drop (i + 1) xs
changed_more {X} g xs ys i d y within so_far is =
    let all = enumerate_from 1 xs in
    let inside : i < length all = omega (arith, within, length-enumerate_from 1 xs) in
    let done = map g (take i all) in
    let count : length done ≡ i = length-map (take i all) g ∙ length-take-le i all (omega arith) in
    let split : ys ≡ done ++ get_or xs i d ∷ drop (i + 1) xs = so_far ∙ ap (λ rest. done ++ rest) (drop_more xs i d within) in
    let read : get_or ys i d ≡ get_or xs i d =
    ap (λ zs. get_or zs i d) split
    ∙ ap (λ k. get_or (done ++ get_or xs i d ∷ drop (i + 1) xs) k d) (sym count)
    ∙ get_or-append_seam done (get_or xs i d) (drop (i + 1) xs) d in
    let changed : y ≡ g (get_or all i (0, d)) =
    is ∙ ap (λ z. g (i + 1, z)) read ∙ ap g (sym (number_at xs i d within)) in
    ap (λ zs. set zs i y) split
    ∙ ap (λ k. set (done ++ get_or xs i d ∷ drop (i + 1) xs) k y) (sym count)
    ∙ set-append_seam done (get_or xs i d) (drop (i + 1) xs) y
    ∙ ap (λ z. done ++ z ∷ drop (i + 1) xs) changed
    ∙ sym (append_assoc done (g (get_or all i (0, d)) ∷ []) (drop (i + 1) xs))
    ∙ ap (λ front. front ++ drop (i + 1) xs) (sym (map-append g (take i all) (get_or all i (0, d) ∷ [])))
    ∙ ap (λ front. map g front ++ drop (i + 1) xs) (sym (take_more all i (0, d) inside))

-- where what is kept has an element of `o` or of the rest
kept_cases : {Y : Type 0} (o : Option Y) (rest : List Y) (y : Y) → Contains (cons_option o rest) y → (o ≡ Some y) ⊎ Contains rest y
kept_cases None rest y has = inr has
kept_cases (Some z) rest y (zero, within, at) = inl (ap Some at)
kept_cases (Some z) rest y (suc k, within, at) = inr (k, omega arith, at)

-- an element that is kept is given by some element and its number
pub kept_at : {X Y : Type 0} (h : ℕ × X → Option Y) (n : ℕ) (xs : List X) (y : Y) → Contains (filter_map h (enumerate_from n xs)) y
    → (k : ℕ) × (k < length xs) × ((d : X) → h (n + k, get_or xs k d) ≡ Some y)
kept_at {X} {Y} h n [] y (k, within, at) = absurd (omega (arith, within))
kept_at {X} {Y} h n (x ∷ xs) y has =
    elim (kept_cases (h (n, x)) (filter_map h (enumerate_from (n + 1) xs)) y has) [
      | inl here ↦ let first : n + 0 ≡ n = omega arith in (0, omega arith, λ d. ap (λ m. h (m, x)) first ∙ here)
      | inr later ↦
          let found = kept_at h (n + 1) xs y later in
          let number : n + suc found.0 ≡ n + 1 + found.0 = omega arith in
          (suc found.0, omega (arith, found.1), λ d. ap (λ m. h (m, get_or xs found.0 d)) number ∙ found.2 d)
    ]
