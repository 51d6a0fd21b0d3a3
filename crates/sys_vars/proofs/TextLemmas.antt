-- The text of one item more.
use Rattle.std.proofs.Common.{◌≡◌, ℕ, ◌+◌, ◌<◌, false, List, [], ◌∷◌, ◌++◌, length, get_or, take, Some, refl, sym, ap, ◌∙◌, append_assoc, arith}
use Rattle.std.specs.Prelude.{◌==◌, if◌then◌else◌, slice_get}
use Rattle.std.proofs.lemmas.List.{take_more, append-nil, length-take-le}
use Rattle.std.proofs.lemmas.Bool.Decides.{nat_tests}
use Rattle.std.proofs.lemmas.List.Concat.{flat_map-append}
use Rattle.std.proofs.lemmas.Option.{get_or_from_slice_get}
use Rattle.std.specs.List.{flat_map, join_by}

-- what stands before a piece that so many others precede
abbrev between : List ℕ → ℕ → List ℕ
between sep n = if n == 0 then [] else sep

-- it is the separator, where a piece precedes
between-more : (sep : List ℕ) (n : ℕ) → 0 < n → between sep n ≡ sep
between-more sep n some =
    let test : (n == 0) ≡ false = grind (arith, nat_tests) in
    rw test refl

-- the pieces joined, and one more behind them
join_by-push : {X : Type 0} (f : X → List ℕ) (sep : List ℕ) (xs : List X) (x : X)
    → join_by f sep (xs ++ x ∷ []) ≡ (join_by f sep xs ++ between sep (length xs)) ++ f x
join_by-push {X} f sep [] x = append-nil (f x)
join_by-push {X} f sep (y ∷ ys) x =
    let with_sep : X → List ℕ = λ z. sep ++ f z in
    ap (λ rest. f y ++ rest) (flat_map-append with_sep ys (x ∷ []) ∙ ap (λ last. flat_map with_sep ys ++ last) (append-nil (sep ++ f x)))
    ∙ sym (append_assoc (f y) (flat_map with_sep ys) (sep ++ f x))
    ∙ sym (append_assoc (f y ++ flat_map with_sep ys) sep (f x))
    ∙ ap (λ gap. ((f y ++ flat_map with_sep ys) ++ gap) ++ f x) (sym (between-more sep (length (y ∷ ys)) (omega arith)))

-- the step of a loop that joins the pieces in their order
pub join_by-step : {X : Type 0} (f : X → List ℕ) (sep : List ℕ) (xs : List X) (i : ℕ) (x : X) (text more before : List ℕ)
    → text ≡ join_by f sep (take i xs) → i < length xs → x ≡ get_or xs i x → before ≡ between sep i
    → more ≡ (text ++ before) ++ f x → more ≡ join_by f sep (take (i + 1) xs)
join_by-step f sep xs i x text more before so_far within is sep_is pushed =
    let count : length (take i xs) ≡ i = length-take-le i xs (omega arith) in
    pushed
    ∙ ap (λ piece. (text ++ before) ++ f piece) is
    ∙ ap (λ front. (front ++ before) ++ f (get_or xs i x)) so_far
    ∙ ap (λ gap. (join_by f sep (take i xs) ++ gap) ++ f (get_or xs i x)) (sep_is ∙ ap (between sep) (sym count))
    ∙ sym (join_by-push f sep (take i xs) (get_or xs i x))
    ∙ sym (ap (join_by f sep) (take_more xs i x within))

-- the step of a loop that joins what each element gives, with nothing between
pub flat_map-step : {X : Type 0} (f : X → List ℕ) (xs : List X) (i : ℕ) (x : X) (octets more : List ℕ)
    → octets ≡ flat_map f (take i xs) → i < length xs → slice_get xs i ≡ Some x → more ≡ octets ++ f x → more ≡ flat_map f (take (i + 1) xs)
flat_map-step f xs i x octets more so_far within is pushed =
    let here : get_or xs i x ≡ x = get_or_from_slice_get xs i x x is in
    pushed
    ∙ ap (λ front. front ++ f x) so_far
    ∙ ap (λ last. flat_map f (take i xs) ++ last) (sym (append-nil (f x)))
    ∙ sym (flat_map-append f (take i xs) (x ∷ []))
    ∙ ap (λ y. flat_map f (take i xs ++ y ∷ [])) (sym here)
    ∙ sym (ap (flat_map f) (take_more xs i x within))
