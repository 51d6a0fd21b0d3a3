-- What is kept of one variable more.
use Rattle.std.proofs.Common.{◌≡◌, ℕ, ◌+◌, ◌<◌, List, [], ◌∷◌, ◌++◌, length, get_or, take, Option, Some, None, refl, sym, ap, ◌∙◌}
use Rattle.std.proofs.lemmas.List.{take_more}
use Rattle.std.proofs.lemmas.List.Elements.{filter_map-append}
use Rattle.std.specs.List.{filter_map, cons_option}
use Rattle.std.specs.Option.{option_to_list}

-- what is kept of one element
option_to_list-cons : {Y : Type 0} (o : Option Y) → cons_option o [] ≡ option_to_list o
option_to_list-cons None = refl
option_to_list-cons (Some y) = refl

-- what is kept of one element more
filter_map-more : {X Y : Type 0} (h : X → Option Y) (xs : List X) (i : ℕ) (d : X) → i < length xs
    → filter_map h (take (i + 1) xs) ≡ filter_map h (take i xs) ++ option_to_list (h (get_or xs i d))
filter_map-more h xs i d within =
    ap (filter_map h) (take_more xs i d within)
    ∙ filter_map-append h (take i xs) (get_or xs i d ∷ [])
    ∙ ap (λ kept. filter_map h (take i xs) ++ kept) (option_to_list-cons (h (get_or xs i d)))

-- the step of a loop that keeps what each element gives
pub filter_map-step : {X Y : Type 0} (h : X → Option Y) (xs : List X) (i : ℕ) (d : X) (kept more : List Y) (item : Option Y)
    → kept ≡ filter_map h (take i xs) → i < length xs → item ≡ h (get_or xs i d) → more ≡ kept ++ option_to_list item
    → more ≡ filter_map h (take (i + 1) xs)
filter_map-step h xs i d kept more item before within is pushed =
    pushed
    ∙ ap (λ front. front ++ option_to_list item) before
    ∙ ap (λ last. filter_map h (take i xs) ++ option_to_list last) is
    ∙ sym (filter_map-more h xs i d within)
