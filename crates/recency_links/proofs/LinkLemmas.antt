-- What each small operation makes of the used and the free nodes.
use Rattle.std.proofs.Common.{◌≡◌, ◌≢◌, ℕ, zero, suc, ◌+◌, ◌<◌, ◌≤◌, List, [], ◌∷◌, ◌++◌, length, get_or, refl, sym, ap, subst, ◌∙◌, append_assoc, length-append, arith}
use Rattle.std.proofs.lemmas.List.{append-nil, get_or_append_left, get_or_at, length_push}
use Rattle.std.specs.List.{AllByRecursion}
use Rattle.recency.proofs.ListLemmas.{AllByRecursion-append, AllByRecursion-weaker}
use Rattle.recency.specs.declared.row.Row.{Row}
use Rattle.recency_links.specs.declared.node.Node.{Node}
use Rattle.recency_links.specs.Nodes.{AreApart, AreJoined, AreLinked, AreNodes, AreNodesBut, AreShared, IsApartFrom, IsChain, Pushes, SetsNewer, SetsRow, Unlinks, newer_at, no_node, node_at, older_at, row_at}
use Rattle.recency_links.proofs.NodeLemmas.{first_or, last_from, first-AreLinked, last-AreLinked, split-AreLinked, join-AreLinked, kept-AreLinked, rejoined-AreLinked, kept-IsChain, moved-AreShared, pushed-AreShared, same-AreShared, split-All, back-AreApart, slide-All, slide-AreApart}

flip : {m n : ℕ} → m ≢ n → n ≢ m
flip apart same = apart (sym same)

-- what holds of every number
pub every : (P : ℕ → Type 0) → ((n : ℕ) → P n) → (xs : List ℕ) → AllByRecursion P xs
every P holds [] = tt
every P holds (x ∷ xs) = (holds x, every P holds xs)

-- what stands behind the used numbers is not the last of them
not_last : (from : ℕ) (xs zs : List ℕ) → AreApart (from ∷ (xs ++ zs)) → AllByRecursion (λ n. n ≢ last_from from xs) zs
not_last from [] zs apart = AllByRecursion-weaker (λ n. from ≢ n) (λ n. n ≢ from) (λ n differ. flip differ) zs apart.0
not_last from (x ∷ xs) zs apart = not_last x xs zs apart.1

-- and what stands before some is not the first of them
not_first : (from : ℕ) (xs ys : List ℕ) → AreApart (from ∷ (xs ++ ys)) → AllByRecursion (λ n. n ≢ first_or ys from) xs
not_first from xs [] apart = AllByRecursion-weaker (λ n. from ≢ n) (λ n. n ≢ from) (λ n differ. flip differ) xs (split-All (λ n. from ≢ n) xs [] apart.0).0
not_first from xs (y ∷ ys) apart =
    AllByRecursion-weaker (λ n. y ≢ n) (λ n. n ≢ y) (λ n differ. flip differ) xs (split-All (λ n. y ≢ n) xs ys (back-AreApart y xs ys apart.1).0).0

-- the front of numbers that are apart
pub front : (xs ys : List ℕ) → AreApart (xs ++ ys) → AreApart xs
front [] ys apart = tt
front (x ∷ xs) ys apart = ((split-All (λ n. x ≢ n) xs ys apart.0).0, front xs ys apart.1)

pub behind : (xs ys : List ℕ) → AreApart (xs ++ ys) → AreApart ys
behind [] ys apart = apart
behind (x ∷ xs) ys apart = behind xs ys apart.1

-- a number is none of those that stand before it
pub not_it : (xs : List ℕ) (n : ℕ) (zs : List ℕ) → AreApart (xs ++ n ∷ zs) → AllByRecursion (λ k. k ≢ n) xs
not_it xs n zs apart = AllByRecursion-weaker (λ k. n ≢ k) (λ k. k ≢ n) (λ k differ. flip differ) xs (split-All (λ k. n ≢ k) xs zs (back-AreApart n xs zs apart).0).0

-- a node is taken out
pub unlinked : (nodes new : List Node) (first : ℕ) (xs : List ℕ) (n : ℕ) (ys free : List ℕ) → AreNodes nodes first (xs ++ n ∷ ys) free → Unlinks nodes (node_at nodes n) new
    → AreNodesBut n new first (xs ++ ys) free
unlinked nodes new first xs n ys free are un = record {
  shared = shared;
  linked = by ys refl;
  chain = kept-IsChain nodes new first free (newer_of free (split-All (λ k. k ≢ last_from 0 xs) ys (n ∷ free) others).1.1) are.chain;
}
  where
    shared : AreShared new (xs ++ ys) (n ∷ free)
    shared = moved-AreShared nodes new n xs ys free un.length are.shared

    parts : AreLinked nodes 0 xs n × AreLinked nodes n ys 0
    parts = split-AreLinked nodes 0 xs n ys 0 are.linked

    before : older_at nodes n ≡ last_from 0 xs
    before = last-AreLinked nodes 0 xs n parts.0

    next : newer_at nodes n ≡ first_or ys 0
    next = first-AreLinked nodes n ys 0 parts.1

    all_apart : AreApart (0 ∷ (xs ++ (ys ++ n ∷ free)))
    all_apart = subst (λ ns. AreApart (0 ∷ ns)) (append_assoc xs ys (n ∷ free)) shared.apart

    used_apart : AreApart (0 ∷ (xs ++ ys))
    used_apart = front (0 ∷ (xs ++ ys)) (n ∷ free) shared.apart

    others : AllByRecursion (λ k. k ≢ last_from 0 xs) (ys ++ n ∷ free)
    others = not_last 0 xs (ys ++ n ∷ free) all_apart

    newer_is : (k : ℕ) → k ≢ last_from 0 xs → newer_at new k ≡ newer_at nodes k
    newer_is k differ = un.others_newer k (λ same. differ (same ∙ before))

    older_is : (k : ℕ) → k ≢ first_or ys 0 → older_at new k ≡ older_at nodes k
    older_is k differ = un.others_older k (λ same. differ (same ∙ next))

    newer_of : (ks : List ℕ) → AllByRecursion (λ k. k ≢ last_from 0 xs) ks → AllByRecursion (λ k. newer_at new k ≡ newer_at nodes k) ks
    newer_of ks each = AllByRecursion-weaker (λ k. k ≢ last_from 0 xs) (λ k. newer_at new k ≡ newer_at nodes k) newer_is ks each

    older_of : (ks : List ℕ) → AllByRecursion (λ k. k ≢ first_or ys 0) ks → AllByRecursion (λ k. older_at new k ≡ older_at nodes k) ks
    older_of ks each = AllByRecursion-weaker (λ k. k ≢ first_or ys 0) (λ k. older_at new k ≡ older_at nodes k) older_is ks each

    joined : AreJoined new (last_from 0 xs) (first_or ys 0)
    joined = (ap (newer_at new) (sym before) ∙ un.newer ∙ next, ap (older_at new) (sym next) ∙ un.older ∙ before)

    to_first : AreLinked new 0 xs (first_or ys 0)
    to_first = rejoined-AreLinked nodes new 0 xs n (first_or ys 0) (front (0 ∷ xs) ys used_apart)
        (every (λ k. k ≢ last_from 0 xs → newer_at new k ≡ newer_at nodes k) newer_is (0 ∷ xs)) (older_of xs (not_first 0 xs ys used_apart)) joined parts.0

    by : (zs : List ℕ) → ys ≡ zs → AreLinked new 0 (xs ++ ys) 0
    by [] is =
        let P : List ℕ → Type 0 = λ zs. AreLinked new 0 xs (first_or zs 0) in
        let Q : List ℕ → Type 0 = λ zs. AreLinked new 0 (xs ++ zs) 0 in
        subst Q (sym is) (subst (λ ns. AreLinked new 0 ns 0) (sym (append-nil xs)) (subst P is to_first))
    by (z ∷ zs) is =
        let P : List ℕ → Type 0 = λ zs. AreLinked new 0 xs (first_or zs 0) in
        let Q : List ℕ → Type 0 = λ zs. AreLinked new 0 (xs ++ zs) 0 in
        let ys_apart : AreApart (z ∷ zs) = subst (λ ns. AreApart ns) is (behind xs ys used_apart.1) in
        let first_is : first_or ys 0 ≡ z = ap (λ ns. first_or ns 0) is in
        let not_z : (k : ℕ) → z ≢ k → k ≢ first_or ys 0 = λ k differ same. differ (sym (same ∙ first_is)) in
        let zero_apart : AllByRecursion (λ k. 0 ≢ k) (xs ++ (z ∷ zs)) = subst (λ ns. AllByRecursion (λ k. 0 ≢ k) (xs ++ ns)) is used_apart.0 in
        let zero_not : 0 ≢ z = (split-All (λ k. 0 ≢ k) xs (z ∷ zs) zero_apart).1.0 in
        let rest : AreLinked nodes z zs 0 = (subst (λ ns. AreLinked nodes n ns 0) is parts.1).1 in
        let kept : AreLinked new z zs 0 =
        kept-AreLinked nodes new z zs 0 (newer_of (z ∷ zs) (subst (λ ns. AllByRecursion (λ k. k ≢ last_from 0 xs) ns) is (split-All (λ k. k ≢ last_from 0 xs) ys (n ∷ free) others).0))
        (older_of zs (AllByRecursion-weaker (λ k. z ≢ k) (λ k. k ≢ first_or ys 0) not_z zs ys_apart.0)) (older_is 0 (not_z 0 (flip zero_not))) rest
        in
        subst Q (sym is) (join-AreLinked new 0 xs z zs 0 (subst P is to_first) kept)

-- a node is put behind the newest one
pub pushed : (nodes new : List Node) (first : ℕ) (n : ℕ) (used free : List ℕ) → AreNodesBut n nodes first used free → Pushes nodes n new → AreNodes new first (used ++ n ∷ []) free
pushed nodes new first n used free are push = record {
  shared = pushed-AreShared nodes new n used free push.length are.shared;
  linked = join-AreLinked new 0 used n [] 0 to_it (push.end, push.last);
  chain = kept-IsChain nodes new first free (newer_of free others.1 (AllByRecursion-weaker (λ k. n ≢ k) (λ k. k ≢ n) (λ k differ. flip differ) free (behind used (n ∷ free) are.shared.apart.1).0)) are.chain;
}
  where
    last : older_at nodes 0 ≡ last_from 0 used
    last = last-AreLinked nodes 0 used 0 are.linked

    others : AllByRecursion (λ k. k ≢ last_from 0 used) (n ∷ free)
    others = not_last 0 used (n ∷ free) are.shared.apart

    before : AllByRecursion (λ k. k ≢ n) (0 ∷ used)
    before = not_it (0 ∷ used) n free are.shared.apart

    newer_is : (k : ℕ) → k ≢ last_from 0 used → k ≢ n → newer_at new k ≡ newer_at nodes k
    newer_is k differ apart = push.others_newer k (λ same. differ (same ∙ last)) apart

    newer_of : (ks : List ℕ) → AllByRecursion (λ k. k ≢ last_from 0 used) ks → AllByRecursion (λ k. k ≢ n) ks → AllByRecursion (λ k. newer_at new k ≡ newer_at nodes k) ks
    newer_of [] each apart = tt
    newer_of (k ∷ ks) each apart = (newer_is k each.0 apart.0, newer_of ks each.1 apart.1)

    older_of : (ks : List ℕ) → AllByRecursion (λ k. 0 ≢ k) ks → AllByRecursion (λ k. k ≢ n) ks → AllByRecursion (λ k. older_at new k ≡ older_at nodes k) ks
    older_of [] each apart = tt
    older_of (k ∷ ks) each apart = (push.others_older k apart.0 (flip each.0), older_of ks each.1 apart.1)

    to_it : AreLinked new 0 used n
    to_it = rejoined-AreLinked nodes new 0 used 0 n (front (0 ∷ used) (n ∷ free) are.shared.apart)
        (AllByRecursion-weaker (λ k. k ≢ n) (λ k. k ≢ last_from 0 used → newer_at new k ≡ newer_at nodes k) (λ k apart differ. newer_is k differ apart) (0 ∷ used) before)
        (older_of used (split-All (λ k. 0 ≢ k) used (n ∷ free) are.shared.apart.0).0 before.1)
        (ap (newer_at new) (sym last) ∙ push.newest, push.before ∙ last) are.linked

-- a node is put on the chain of free nodes
pub given : (nodes new : List Node) (first : ℕ) (n : ℕ) (used free : List ℕ) → AreNodesBut n nodes first used free → SetsNewer nodes n first new → AreNodes new n used (n ∷ free)
given nodes new first n used free are sets = record {
  shared = same-AreShared nodes new used (n ∷ free) sets.length are.shared;
  linked = kept-AreLinked nodes new 0 used 0 (newer_of (0 ∷ used) (not_it (0 ∷ used) n free are.shared.apart)) (every (λ k. older_at new k ≡ older_at nodes k) sets.older used) (sets.older 0) are.linked;
  chain = (
    refl,
    subst (λ from. IsChain new from free) (sym sets.to)
        (kept-IsChain nodes new first free (newer_of free (AllByRecursion-weaker (λ k. n ≢ k) (λ k. k ≢ n) (λ k differ. flip differ) free (behind used (n ∷ free) are.shared.apart.1).0)) are.chain),
  );
}
  where
    newer_of : (ks : List ℕ) → AllByRecursion (λ k. k ≢ n) ks → AllByRecursion (λ k. newer_at new k ≡ newer_at nodes k) ks
    newer_of ks each = AllByRecursion-weaker (λ k. k ≢ n) (λ k. newer_at new k ≡ newer_at nodes k) sets.others ks each

-- a node is taken from the chain
pub taken : (nodes : List Node) (first n : ℕ) (used free : List ℕ) → AreNodes nodes first used (n ∷ free) → AreNodesBut n nodes (newer_at nodes first) used free
taken nodes first n used free are = record { shared = are.shared; linked = are.linked; chain = are.chain.1 }

-- or a new one is made
pub made : (nodes : List Node) (node : Node) (first : ℕ) (used free : List ℕ) → AreNodes nodes first used free → AreNodesBut (length nodes) (nodes ++ node ∷ []) first used free
made nodes node first used free are = record {
  shared = record {
    apart = (
      slide-All (λ k. 0 ≢ k) (length nodes) used free (λ same. absurd (omega (arith, are.shared.within.0, same)), are.shared.apart.0),
      slide-AreApart (length nodes) used free (AllByRecursion-weaker (λ k. k < length nodes) (λ k. length nodes ≢ k) (λ k less same. omega (arith, less, same)) (used ++ free) are.shared.within.1, are.shared.apart.1),
    );
    within = (
      omega (arith, length_push nodes node),
      slide-All IsWithin (length nodes) used free (
        omega (arith, length_push nodes node),
        AllByRecursion-weaker (λ k. k < length nodes) IsWithin (λ k less. omega (arith, less, length_push nodes node)) (used ++ free) are.shared.within.1,
      ),
    );
    all = omega (arith, are.shared.all, length_push nodes node);
  };
  linked = kept-AreLinked nodes new 0 used 0 (newer_of (0 ∷ used) (are.shared.within.0, within.0))
      (AllByRecursion-weaker (λ k. k < length nodes) (λ k. older_at new k ≡ older_at nodes k) (λ k less. ap (λ (node : Node). node.older) (get_or_append_left nodes (node ∷ []) no_node k less)) used within.0)
      (ap (λ (node : Node). node.older) (get_or_append_left nodes (node ∷ []) no_node 0 are.shared.within.0)) are.linked;
  chain = kept-IsChain nodes new first free (newer_of free within.1) are.chain;
}
  where
    new : List Node
    new = nodes ++ node ∷ []

    IsWithin : ℕ → Type 0
    IsWithin k = k < length (nodes ++ node ∷ [])

    within : AllByRecursion (λ k. k < length nodes) used × AllByRecursion (λ k. k < length nodes) free
    within = split-All (λ k. k < length nodes) used free are.shared.within.1

    newer_of : (ks : List ℕ) → AllByRecursion (λ k. k < length nodes) ks → AllByRecursion (λ k. newer_at new k ≡ newer_at nodes k) ks
    newer_of ks each =
        AllByRecursion-weaker (λ k. k < length nodes) (λ k. newer_at new k ≡ newer_at nodes k) (λ k less. ap (λ (node : Node). node.newer) (get_or_append_left nodes (node ∷ []) no_node k less)) ks each

-- and stands before the free ones, where it is linked to the first of them
pub grown : (nodes : List Node) (node : Node) (first : ℕ) (used free : List ℕ) → AreNodes nodes first used free → node.newer ≡ first → AreNodes (nodes ++ node ∷ []) (length nodes) used (length nodes ∷ free)
grown nodes node first used free are is =
    let but = made nodes node first used free are in
    let next : newer_at (nodes ++ node ∷ []) (length nodes) ≡ first = ap (λ (node : Node). node.newer) (get_or_at nodes node [] no_node (length nodes) refl) ∙ is in
    record { shared = but.shared; linked = but.linked; chain = (refl, subst (λ from. IsChain (nodes ++ node ∷ []) from free) (sym next) but.chain) }

-- a node gets another row
pub row-AreNodesBut : (nodes new : List Node) (first n : ℕ) (row : Row) (k : ℕ) (used free : List ℕ) → AreNodesBut k nodes first used free → SetsRow nodes n row new → AreNodesBut k new first used free
row-AreNodesBut nodes new first n row k used free are sets = record {
  shared = same-AreShared nodes new used (k ∷ free) sets.length are.shared;
  linked = kept-AreLinked nodes new 0 used 0 (every (λ k. newer_at new k ≡ newer_at nodes k) sets.newer (0 ∷ used)) (every (λ k. older_at new k ≡ older_at nodes k) sets.older used) (sets.older 0) are.linked;
  chain = kept-IsChain nodes new first free (every (λ k. newer_at new k ≡ newer_at nodes k) sets.newer free) are.chain;
}

pub row-AreNodes : (nodes new : List Node) (first n : ℕ) (row : Row) (used free : List ℕ) → AreNodes nodes first used free → SetsRow nodes n row new → AreNodes new first used free
row-AreNodes nodes new first n row used free are sets = record {
  shared = same-AreShared nodes new used free sets.length are.shared;
  linked = kept-AreLinked nodes new 0 used 0 (every (λ k. newer_at new k ≡ newer_at nodes k) sets.newer (0 ∷ used)) (every (λ k. older_at new k ≡ older_at nodes k) sets.older used) (sets.older 0) are.linked;
  chain = kept-IsChain nodes new first free (every (λ k. newer_at new k ≡ newer_at nodes k) sets.newer free) are.chain;
}
