-- Lists that stand in others, in their order, and what a filter keeps.
use Rattle.std.proofs.Common.{◌≡◌, ℕ, zero, suc, Bool, true, false, cond, ◌&&◌, List, [], ◌∷◌, ◌++◌, map, take, reverse, refl, sym, ap, subst, ◌∙◌, inl, inr}
use Rattle.std.proofs.lemmas.List.{reverse-append}
use Rattle.std.specs.List.{AllByRecursion, filter}
use Rattle.recency.proofs.ListLemmas.{AllByRecursion-append}
use Rattle.mrulist_coverage.specs.Coverage.{IsSublist}

-- a list stands in itself
pub IsSublist-refl : {A : Type 0} (xs : List A) → IsSublist xs xs
IsSublist-refl [] = tt
IsSublist-refl (x ∷ xs) = inl (refl, IsSublist-refl xs)

-- equal lists stand in one another
pub IsSublist-same : {A : Type 0} (xs ys : List A) → xs ≡ ys → IsSublist xs ys
IsSublist-same xs ys same =
    let P : List _ → Type 0 = λ zs. IsSublist xs zs in
    subst P same (IsSublist-refl xs)

-- and in one with one more in front
pub IsSublist-more : {A : Type 0} (xs : List A) (y : A) (ys : List A) → IsSublist xs ys → IsSublist xs (y ∷ ys)
IsSublist-more [] y ys stands = tt
IsSublist-more (x ∷ xs) y ys stands = inr stands

-- without its first element it stands there too
pub IsSublist-rest : {A : Type 0} (x : A) (xs ys : List A) → IsSublist (x ∷ xs) ys → IsSublist xs ys
IsSublist-rest x xs [] stands = absurd stands
IsSublist-rest x xs (y ∷ ys) (inl here) = IsSublist-more xs y ys here.1
IsSublist-rest x xs (y ∷ ys) (inr later) = IsSublist-more xs y ys (IsSublist-rest x xs ys later)

-- what stands in a list that stands in another stands in that
pub IsSublist-trans : {A : Type 0} (xs ys zs : List A) → IsSublist xs ys → IsSublist ys zs → IsSublist xs zs
IsSublist-trans [] ys zs these those = tt
IsSublist-trans (x ∷ xs) [] zs these those = absurd these
IsSublist-trans (x ∷ xs) (y ∷ ys) [] these those = absurd those
IsSublist-trans (x ∷ xs) (y ∷ ys) (z ∷ zs) (inl here) (inl there) = inl (here.0 ∙ there.0, IsSublist-trans xs ys zs here.1 there.1)
IsSublist-trans (x ∷ xs) (y ∷ ys) (z ∷ zs) (inr later) (inl there) = inr (IsSublist-trans (x ∷ xs) ys zs later there.1)
IsSublist-trans (x ∷ xs) (y ∷ ys) (z ∷ zs) these (inr there) = inr (IsSublist-trans (x ∷ xs) (y ∷ ys) zs these there)

-- what a filter keeps of a list that stands in another stands in what it keeps of that
pub IsSublist-filter : {A : Type 0} (test : A → Bool) (xs ys : List A) → IsSublist xs ys → IsSublist (filter test xs) (filter test ys)
IsSublist-filter test [] ys stands = tt
IsSublist-filter test (x ∷ xs) [] stands = absurd stands
IsSublist-filter {A} test (x ∷ xs) (y ∷ ys) (inl here) =
    let rest : IsSublist (filter test xs) (filter test ys) = IsSublist-filter test xs ys here.1 in
    let P : A → Type 0 = λ z. IsSublist (filter test (x ∷ xs)) (filter test (z ∷ ys)) in
    subst P here.0 (elim (test x) as (λ b. IsSublist (cond b (x ∷ filter test xs) (filter test xs)) (cond b (x ∷ filter test ys) (filter test ys))) [
      | true ↦ inl (refl, rest)
      | false ↦ rest
    ])
IsSublist-filter {A} test (x ∷ xs) (y ∷ ys) (inr later) =
    let rest : IsSublist (filter test (x ∷ xs)) (filter test ys) = IsSublist-filter test (x ∷ xs) ys later in
    elim (test y) as (λ b. IsSublist (filter test (x ∷ xs)) (cond b (y ∷ filter test ys) (filter test ys))) [
      | true ↦ IsSublist-more (filter test (x ∷ xs)) y (filter test ys) rest
      | false ↦ rest
    ]

-- what a filter keeps stands in the list
pub filter-IsSublist : {A : Type 0} (test : A → Bool) (xs : List A) → IsSublist (filter test xs) xs
filter-IsSublist test [] = tt
filter-IsSublist {A} test (x ∷ xs) =
    elim (test x) as (λ b. IsSublist (cond b (x ∷ filter test xs) (filter test xs)) (x ∷ xs)) [
      | true ↦ inl (refl, filter-IsSublist test xs)
      | false ↦ IsSublist-more (filter test xs) x xs (filter-IsSublist test xs)
    ]

-- what a map makes of a list that stands in another stands in what it makes of that
pub IsSublist-map : {A B : Type 0} (f : A → B) (xs ys : List A) → IsSublist xs ys → IsSublist (map f xs) (map f ys)
IsSublist-map f [] ys stands = tt
IsSublist-map f (x ∷ xs) [] stands = absurd stands
IsSublist-map f (x ∷ xs) (y ∷ ys) (inl here) = inl (ap f here.0, IsSublist-map f xs ys here.1)
IsSublist-map f (x ∷ xs) (y ∷ ys) (inr later) = inr (IsSublist-map f (x ∷ xs) ys later)

-- a list stands in it behind others
pub IsSublist-behind : {A : Type 0} (xs ys zs : List A) → IsSublist xs zs → IsSublist xs (ys ++ zs)
IsSublist-behind xs [] zs stands = stands
IsSublist-behind xs (y ∷ ys) zs stands = IsSublist-more xs y (ys ++ zs) (IsSublist-behind xs ys zs stands)

-- lists that stand in others stand so one after another
pub IsSublist-append : {A : Type 0} (xs ys more others : List A) → IsSublist xs ys → IsSublist more others → IsSublist (xs ++ more) (ys ++ others)
IsSublist-append [] ys more others these those = IsSublist-behind more ys others those
IsSublist-append (x ∷ xs) [] more others these those = absurd these
IsSublist-append (x ∷ xs) (y ∷ ys) more others (inl here) those = inl (here.0, IsSublist-append xs ys more others here.1 those)
IsSublist-append (x ∷ xs) (y ∷ ys) more others (inr later) those = inr (IsSublist-append (x ∷ xs) ys more others later those)

-- a filter goes through two lists one after another
pub filter-append : {A : Type 0} (test : A → Bool) (xs ys : List A) → filter test (xs ++ ys) ≡ filter test xs ++ filter test ys
filter-append test [] ys = refl
filter-append {A} test (x ∷ xs) ys =
    let rest : filter test (xs ++ ys) ≡ filter test xs ++ filter test ys = filter-append test xs ys in
    elim (test x) as (λ b. cond b (x ∷ filter test (xs ++ ys)) (filter test (xs ++ ys)) ≡ cond b (x ∷ filter test xs) (filter test xs) ++ filter test ys) [
      | true ↦ ap (λ (kept : List A). x ∷ kept) rest
      | false ↦ rest
    ]

-- a filter keeps a list whose elements all pass
pub filter-all : {A : Type 0} (test : A → Bool) (xs : List A) → AllByRecursion (λ x. test x ≡ true) xs → filter test xs ≡ xs
filter-all test [] each = refl
filter-all {A} test (x ∷ xs) each = rw each.0 (ap (λ (kept : List A). x ∷ kept) (filter-all test xs each.1))

-- and nothing of one of which none passes
pub filter-none : {A : Type 0} (test : A → Bool) (xs : List A) → AllByRecursion (λ x. test x ≡ false) xs → filter test xs ≡ []
filter-none test [] each = refl
filter-none test (x ∷ xs) each = rw each.0 (filter-none test xs each.1)

-- two filters, one after the other
pub filter-filter : {A : Type 0} (first second : A → Bool) (xs : List A) → filter (λ x. first x && second x) xs ≡ filter second (filter first xs)
filter-filter first second [] = refl
filter-filter {A} first second (x ∷ xs) =
    let rest : filter (λ x. first x && second x) xs ≡ filter second (filter first xs) = filter-filter first second xs in
    elim (first x) as (λ b. cond (b && second x) (x ∷ filter (λ x. first x && second x) xs) (filter (λ x. first x && second x) xs) ≡ filter second (cond b (x ∷ filter first xs) (filter first xs))) [
      | true ↦ elim (second x) as (λ c. cond c (x ∷ filter (λ x. first x && second x) xs) (filter (λ x. first x && second x) xs) ≡ cond c (x ∷ filter second (filter first xs)) (filter second (filter first xs))) [
        | true ↦ ap (λ (kept : List A). x ∷ kept) rest
        | false ↦ rest
      ]
      | false ↦ rest
    ]

-- what holds of each element holds of those that stand among them
pub AllByRecursion-sublist : {A : Type 0} (P : A → Type 0) (xs ys : List A) → IsSublist xs ys → AllByRecursion P ys → AllByRecursion P xs
AllByRecursion-sublist P [] ys stands each = tt
AllByRecursion-sublist P (x ∷ xs) [] stands each = absurd stands
AllByRecursion-sublist P (x ∷ xs) (y ∷ ys) (inl here) each = (subst P (sym here.0) each.0, AllByRecursion-sublist P xs ys here.1 each.1)
AllByRecursion-sublist P (x ∷ xs) (y ∷ ys) (inr later) each = AllByRecursion-sublist P (x ∷ xs) ys later each.1

-- the first elements stand in the list
pub take-IsSublist : {A : Type 0} (n : ℕ) (xs : List A) → IsSublist (take n xs) xs
take-IsSublist zero xs = tt
take-IsSublist (suc n) [] = tt
take-IsSublist (suc n) (x ∷ xs) = inl (refl, take-IsSublist n xs)

-- what holds of each element holds of each from the last to the first
pub AllByRecursion-reverse : {A : Type 0} (P : A → Type 0) (xs : List A) → AllByRecursion P xs → AllByRecursion P (reverse xs)
AllByRecursion-reverse P [] each = tt
AllByRecursion-reverse {A} P (x ∷ xs) each =
    let Q : List A → Type 0 = λ zs. AllByRecursion P zs in
    subst Q (sym (reverse-append (x ∷ []) xs)) (AllByRecursion-append P (reverse xs) (x ∷ []) (AllByRecursion-reverse P xs each.1) (each.0, tt))
