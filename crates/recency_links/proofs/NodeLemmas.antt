-- What the nodes keep where one is unlinked, pushed, given or taken.
use Rattle.std.proofs.Common.{◌≡◌, ◌≢◌, ℕ, zero, suc, ◌+◌, ◌<◌, ◌≤◌, List, [], ◌∷◌, ◌++◌, length, map, refl, sym, ap, subst, ◌∙◌, append_assoc, length-append, arith}
use Rattle.std.specs.List.{AllByRecursion}
use Rattle.recency.proofs.ListLemmas.{AllByRecursion-append, AllByRecursion-weaker}
use Rattle.recency.specs.declared.row.Row.{Row}
use Rattle.recency_links.specs.declared.node.Node.{Node}
use Rattle.recency_links.specs.Nodes.{AreApart, AreJoined, AreLinked, AreNodes, AreNodesBut, AreShared, IsApartFrom, IsChain, Pushes, SetsNewer, SetsRow, Unlinks, follow, newer_at, node_at, older_at, row_at}

-- the last of these, or the one before them
abbrev pub last_from : ℕ → List ℕ → ℕ
last_from from [] = from
last_from from (number ∷ numbers) = last_from number numbers

-- the first of these, or the one behind them
abbrev pub first_or : List ℕ → ℕ → ℕ
first_or [] end = end
first_or (number ∷ numbers) end = number

-- of both parts of a list
pub split-All : {X : Type 0} (P : X → Type 0) (xs ys : List X) → AllByRecursion P (xs ++ ys) → AllByRecursion P xs × AllByRecursion P ys
split-All P [] ys each = (tt, each)
split-All P (x ∷ xs) ys each =
    let rest = split-All P xs ys each.1 in
    ((each.0, rest.0), rest.1)

-- an element moved backward over others
pub slide-All : {X : Type 0} (P : X → Type 0) (x : X) (ys zs : List X) → AllByRecursion P (x ∷ (ys ++ zs)) → AllByRecursion P (ys ++ x ∷ zs)
slide-All P x ys zs each =
    let parts = split-All P ys zs each.1 in
    AllByRecursion-append P ys (x ∷ zs) parts.0 (each.0, parts.1)

-- and forward
pub back-All : {X : Type 0} (P : X → Type 0) (x : X) (ys zs : List X) → AllByRecursion P (ys ++ x ∷ zs) → AllByRecursion P (x ∷ (ys ++ zs))
back-All P x ys zs each =
    let parts = split-All P ys (x ∷ zs) each in
    (parts.1.0, AllByRecursion-append P ys zs parts.0 parts.1.1)

flip : {m n : ℕ} → m ≢ n → n ≢ m
flip apart same = apart (sym same)

pub slide-AreApart : (n : ℕ) (ys zs : List ℕ) → AreApart (n ∷ (ys ++ zs)) → AreApart (ys ++ n ∷ zs)
slide-AreApart n [] zs apart = apart
slide-AreApart n (y ∷ ys) zs apart =
    (slide-All (λ other. y ≢ other) n ys zs (flip apart.0.0, apart.1.0), slide-AreApart n ys zs (apart.0.1, apart.1.1))

pub back-AreApart : (n : ℕ) (ys zs : List ℕ) → AreApart (ys ++ n ∷ zs) → AreApart (n ∷ (ys ++ zs))
back-AreApart n [] zs apart = apart
back-AreApart n (y ∷ ys) zs apart =
    let here = back-All (λ other. y ≢ other) n ys zs apart.0 in
    let rest = back-AreApart n ys zs apart.1 in
    ((flip here.0, rest.0), (here.1, rest.1))

-- a node that is taken out of the used ones stands before the free ones
pub moved-AreApart : (n : ℕ) (xs ys free : List ℕ) → AreApart ((xs ++ n ∷ ys) ++ free) → AreApart ((xs ++ ys) ++ n ∷ free)
moved-AreApart n xs ys free apart =
    let P : List ℕ → Type 0 = λ ns. AreApart ns in
    let first : AreApart (xs ++ n ∷ (ys ++ free)) = subst P (append_assoc xs (n ∷ ys) free) apart in
    let second : AreApart (n ∷ (xs ++ (ys ++ free))) = back-AreApart n xs (ys ++ free) first in
    let third : AreApart (n ∷ ((xs ++ ys) ++ free)) = subst (λ ns. AreApart (n ∷ ns)) (sym (append_assoc xs ys free)) second in
    slide-AreApart n (xs ++ ys) free third

pub moved-All : (P : ℕ → Type 0) (n : ℕ) (xs ys free : List ℕ) → AllByRecursion P ((xs ++ n ∷ ys) ++ free) → AllByRecursion P ((xs ++ ys) ++ n ∷ free)
moved-All P n xs ys free each =
    let Q : List ℕ → Type 0 = λ ns. AllByRecursion P ns in
    let first : AllByRecursion P (xs ++ n ∷ (ys ++ free)) = subst Q (append_assoc xs (n ∷ ys) free) each in
    let second : AllByRecursion P (n ∷ (xs ++ (ys ++ free))) = back-All P n xs (ys ++ free) first in
    let third : AllByRecursion P (n ∷ ((xs ++ ys) ++ free)) = subst (λ ns. AllByRecursion P (n ∷ ns)) (sym (append_assoc xs ys free)) second in
    slide-All P n (xs ++ ys) free third

-- nodes are shared out as well where one is taken out of the used ones and put before the free ones
pub moved-AreShared : (nodes new : List Node) (n : ℕ) (xs ys free : List ℕ) → length new ≡ length nodes → AreShared nodes (xs ++ n ∷ ys) free → AreShared new (xs ++ ys) (n ∷ free)
moved-AreShared nodes new n xs ys free same shared = record {
  apart = (moved-All (λ other. 0 ≢ other) n xs ys free shared.apart.0, moved-AreApart n xs ys free shared.apart.1);
  within = subst (λ count. AllByRecursion (λ number. number < count) (0 ∷ ((xs ++ ys) ++ n ∷ free))) (sym same) (shared.within.0, moved-All (λ number. number < length nodes) n xs ys free shared.within.1);
  all = omega (arith, shared.all, same, length-append xs (n ∷ ys), length-append xs ys);
}

-- and where it is put behind the used ones
pub pushed-AreShared : (nodes new : List Node) (n : ℕ) (used free : List ℕ) → length new ≡ length nodes → AreShared nodes used (n ∷ free) → AreShared new (used ++ n ∷ []) free
pushed-AreShared nodes new n used free same shared =
    let is : used ++ n ∷ free ≡ (used ++ n ∷ []) ++ free = sym (append_assoc used (n ∷ []) free) in
    record {
      apart = subst (λ ns. AreApart (0 ∷ ns)) is shared.apart;
      within = subst (λ count. AllByRecursion (λ number. number < count) (0 ∷ ((used ++ n ∷ []) ++ free))) (sym same)
          (shared.within.0, subst (λ ns. AllByRecursion (λ number. number < length nodes) ns) is shared.within.1);
      all = omega (arith, shared.all, same, length-append used (n ∷ []));
    }

pub same-AreShared : (nodes new : List Node) (used free : List ℕ) → length new ≡ length nodes → AreShared nodes used free → AreShared new used free
same-AreShared nodes new used free same shared = record {
  apart = shared.apart;
  within = subst (λ count. AllByRecursion (λ number. number < count) (0 ∷ (used ++ free))) (sym same) shared.within;
  all = shared.all ∙ sym same;
}

-- numbers linked in two parts
pub split-AreLinked : (nodes : List Node) (from : ℕ) (xs : List ℕ) (n : ℕ) (ys : List ℕ) (end : ℕ) → AreLinked nodes from (xs ++ n ∷ ys) end → AreLinked nodes from xs n × AreLinked nodes n ys end
split-AreLinked nodes from [] n ys end linked = (linked.0, linked.1)
split-AreLinked nodes from (x ∷ xs) n ys end linked =
    let rest = split-AreLinked nodes x xs n ys end linked.1 in
    ((linked.0, rest.0), rest.1)

pub join-AreLinked : (nodes : List Node) (from : ℕ) (xs : List ℕ) (n : ℕ) (ys : List ℕ) (end : ℕ) → AreLinked nodes from xs n → AreLinked nodes n ys end → AreLinked nodes from (xs ++ n ∷ ys) end
join-AreLinked nodes from [] n ys end before behind = (before, behind)
join-AreLinked nodes from (x ∷ xs) n ys end before behind = (before.0, join-AreLinked nodes x xs n ys end before.1 behind)

-- the older link of the end is the last, and the newer link of the start is the first
pub last-AreLinked : (nodes : List Node) (from : ℕ) (xs : List ℕ) (end : ℕ) → AreLinked nodes from xs end → older_at nodes end ≡ last_from from xs
last-AreLinked nodes from [] end linked = linked.1
last-AreLinked nodes from (x ∷ xs) end linked = last-AreLinked nodes x xs end linked.1

pub first-AreLinked : (nodes : List Node) (from : ℕ) (xs : List ℕ) (end : ℕ) → AreLinked nodes from xs end → newer_at nodes from ≡ first_or xs end
first-AreLinked nodes from [] end linked = linked.0
first-AreLinked nodes from (x ∷ xs) end linked = linked.0.0

-- what holds of the start and of the others holds of the last
pub last_from-holds : (P : ℕ → Type 0) (from : ℕ) (xs : List ℕ) → P from → AllByRecursion P xs → P (last_from from xs)
last_from-holds P from [] here each = here
last_from-holds P from (x ∷ xs) here each = last_from-holds P x xs each.0 each.1

pub first_or-holds : (P : ℕ → Type 0) (xs : List ℕ) (end : ℕ) → AllByRecursion P xs → P end → P (first_or xs end)
first_or-holds P [] end each here = here
first_or-holds P (x ∷ xs) end each here = each.0

-- links stay where they are left
pub kept-AreLinked : (nodes new : List Node) (from : ℕ) (xs : List ℕ) (end : ℕ) → AllByRecursion (λ n. newer_at new n ≡ newer_at nodes n) (from ∷ xs)
    → AllByRecursion (λ n. older_at new n ≡ older_at nodes n) xs → older_at new end ≡ older_at nodes end → AreLinked nodes from xs end → AreLinked new from xs end
kept-AreLinked nodes new from [] end newer older at_end linked = (newer.0 ∙ linked.0, at_end ∙ linked.1)
kept-AreLinked nodes new from (x ∷ xs) end newer older at_end linked =
    ((newer.0 ∙ linked.0.0, older.0 ∙ linked.0.1), kept-AreLinked nodes new x xs end newer.1 older.1 at_end linked.1)

-- and the last may be joined to another end
pub rejoined-AreLinked : (nodes new : List Node) (from : ℕ) (xs : List ℕ) (end other : ℕ) → AreApart (from ∷ xs)
    → AllByRecursion (λ n. n ≢ last_from from xs → newer_at new n ≡ newer_at nodes n) (from ∷ xs)
    → AllByRecursion (λ n. older_at new n ≡ older_at nodes n) xs → AreJoined new (last_from from xs) other → AreLinked nodes from xs end → AreLinked new from xs other
rejoined-AreLinked nodes new from [] end other apart newer older joined linked = joined
rejoined-AreLinked nodes new from (x ∷ xs) end other apart newer older joined linked =
    let not_last : from ≢ last_from x xs = last_from-holds (λ n. from ≢ n) x xs apart.0.0 apart.0.1 in
    ((newer.0 not_last ∙ linked.0.0, older.0 ∙ linked.0.1), rejoined-AreLinked nodes new x xs end other apart.1 newer.1 older.1 joined linked.1)

-- a chain stays where its links are left
pub kept-IsChain : (nodes new : List Node) (from : ℕ) (free : List ℕ) → AllByRecursion (λ n. newer_at new n ≡ newer_at nodes n) free → IsChain nodes from free → IsChain new from free
kept-IsChain nodes new from [] newer chain = chain
kept-IsChain nodes new from (n ∷ free) newer chain =
    (chain.0, subst (λ next. IsChain new next free) (sym (ap (newer_at new) chain.0 ∙ newer.0 ∙ sym (ap (newer_at nodes) chain.0))) (kept-IsChain nodes new (newer_at nodes from) free newer.1 chain.1))

-- following the newer links gives the numbers
pub followed : (nodes : List Node) (from : ℕ) (xs : List ℕ) (end : ℕ) → AreLinked nodes from xs end → follow nodes (newer_at nodes from) (length xs) ≡ xs
followed nodes from [] end linked = refl
followed nodes from (x ∷ xs) end linked =
    subst (λ n. n ∷ follow nodes (newer_at nodes n) (length xs) ≡ x ∷ xs) (sym linked.0.0) (ap (λ rest. x ∷ rest) (followed nodes x xs end linked.1))
