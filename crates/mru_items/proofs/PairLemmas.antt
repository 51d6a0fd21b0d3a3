-- The pairs that items name, number by number.
use Rattle.std.proofs.Common.{◌≡◌, ℕ, zero, suc, ◌-◌, ◌<◌, ◌≤◌, List, [], ◌∷◌, ◌++◌, length, Some, None, refl, sym, ap, ◌∙◌, arith, append-nil, append_assoc, length-append}
use Rattle.mode6_frame.specs.declared.items.Item.{Item}
use Rattle.mru_items.specs.Queries.{ArePairs, IsPair, NamesNone, NamesNoneFrom, NamesPair, NamesPairs}
use Rattle.mru_items.specs.Values.{IsExactly}
use Rattle.mru_items.specs.declared.pair.Pair.{Pair}
use Rattle.mru_items.specs.declared.pair.TheConstants.{MAX_PAIRS}

-- none from a number on: none of it, and none from the next on
pub none-step : (items : List Item) (left number less next : ℕ) → left ≡ suc less → next ≡ suc number
    → NamesNoneFrom items left number → NamesNone items number × NamesNoneFrom items less next
none-step items left number less next is_left is_next none = rw is_next (rw is_left at none)

-- and back
pub none-more : (items : List Item) (left number less next : ℕ) → left ≡ suc less → next ≡ suc number
    → NamesNone items number → NamesNoneFrom items less next → NamesNoneFrom items left number
none-more items left number less next is_left is_next none rest = rw is_left (none, rw (← is_next) rest)

-- a pair of a number, and pairs from the next on
pub pairs-more : (origin : ℕ) (items : List Item) (left number less next : ℕ) (pair : Pair) (rest : List Pair) → left ≡ suc less → next ≡ suc number
    → NamesPair origin items number pair → NamesPairs origin items less next rest → NamesPairs origin items left number (pair ∷ rest)
pairs-more origin items left number less next pair rest is_left is_next first more = rw is_left (first, rw (← is_next) more)

-- the first of the pairs from a number that has something of a pair
pub pairs-step : (origin : ℕ) (items : List Item) (left number less next : ℕ) (rest : List Pair) → left ≡ suc less → next ≡ suc number
    → ¬ (NamesNone items number) → NamesPairs origin items left number rest
    → (pair : Pair) × (more : List Pair) × (rest ≡ pair ∷ more) × NamesPair origin items number pair × NamesPairs origin items less next more
pairs-step origin items left number less next [] is_left is_next some named = absurd (some ((rw is_left at named).0))
pairs-step origin items left number less next (pair ∷ more) is_left is_next some named =
    let parts = rw is_left at named in
    (pair, more, refl, parts.0, rw is_next parts.1)

-- no pairs from a number on
pub pairs-none : (origin : ℕ) (items : List Item) (left number : ℕ) → NamesNoneFrom items left number → NamesPairs origin items left number []
pairs-none origin items zero number none = refl
pairs-none origin items (suc left) number none = none

-- and back
pub none-pairs : (origin : ℕ) (items : List Item) (left number : ℕ) → NamesPairs origin items left number [] → NamesNoneFrom items left number
none-pairs origin items zero number named = tt
none-pairs origin items (suc left) number named = named

-- a number has no pair under names of which none stands there
not-both : (origin : ℕ) (items : List Item) (number : ℕ) (pair : Pair) → NamesNone items number → ¬ (NamesPair origin items number pair)
not-both origin items number pair none named = rw none.0 at named.0

-- there are no pairs from a number that has none
pub pairs-end : (origin : ℕ) (items : List Item) (left number : ℕ) (rest : List Pair) → (0 < left → ¬ (¬ (NamesNone items number)))
    → NamesPairs origin items left number rest → rest ≡ []
pairs-end origin items zero number rest none named = named
pairs-end origin items (suc left) number [] none named = refl
pairs-end origin items (suc left) number (pair ∷ rest) none named = absurd (none (omega arith) (λ first. not-both origin items number pair first named.0))

-- one pair more
pub are-more : (pairs : List Pair) (pair : Pair) → ArePairs pairs → IsPair pair → ArePairs (pairs ++ pair ∷ [])
are-more [] pair are is = (is, tt)
are-more (first ∷ pairs) pair are is = (are.0, are-more pairs pair are.1 is)

-- the pairs so far and those from their number on are the pairs that are named
pub record AreSoFar (origin : ℕ) (items : List Item) (pairs : List Pair) : Type 0 where
  pub few : length pairs ≤ MAX_PAIRS
  pub fit : ArePairs pairs
  pub into : (rest : List Pair) → NamesPairs origin items (MAX_PAIRS - length pairs) (length pairs) rest → NamesPairs origin items MAX_PAIRS 0 (pairs ++ rest)
  pub onto : (named : List Pair) → NamesPairs origin items MAX_PAIRS 0 named
      → (rest : List Pair) × (named ≡ pairs ++ rest) × NamesPairs origin items (MAX_PAIRS - length pairs) (length pairs) rest

-- none at first
pub so_far-none : (origin : ℕ) (items : List Item) → AreSoFar origin items []
so_far-none origin items = record {
  few = omega arith;
  fit = tt;
  into = λ rest named. named;
  onto = λ all named. (all, refl, named);
}

-- one more
pub so_far-more : (origin : ℕ) (items : List Item) (pairs : List Pair) (pair : Pair) → AreSoFar origin items pairs → length pairs < MAX_PAIRS
    → ¬ (NamesNone items (length pairs)) → IsExactly (NamesPair origin items (length pairs)) (Some pair) → IsPair pair → AreSoFar origin items (pairs ++ pair ∷ [])
so_far-more origin items pairs pair are below some exactly is =
    let longer : length (pairs ++ pair ∷ []) ≡ suc (length pairs) = omega (arith, length-append pairs (pair ∷ [])) in
    let left : MAX_PAIRS - length pairs ≡ suc (MAX_PAIRS - length (pairs ++ pair ∷ [])) = omega arith in
    record {
      few = omega arith;
      fit = are-more pairs pair are.fit is;
      into = λ rest named.
          rw (append_assoc pairs (pair ∷ []) rest)
          (are.into (pair ∷ rest) (pairs-more origin items _ _ _ _ pair rest left longer exactly.0 named));
      onto = λ all named.
          let before = are.onto all named in
          let first = pairs-step origin items _ _ _ _ before.0 left longer some before.2 in
          let same : pair ≡ first.0 = exactly.1 first.0 first.3 in
          (first.1, before.1 ∙ ap (λ rest. pairs ++ rest) (first.2 ∙ ap (λ it. it ∷ first.1) (sym same)) ∙ sym (append_assoc pairs (pair ∷ []) first.1), first.4);
    }

-- what has something of a pair, and is none
pub so_far-wrong : (origin : ℕ) (items : List Item) (pairs : List Pair) → AreSoFar origin items pairs → length pairs < MAX_PAIRS
    → ¬ (NamesNone items (length pairs)) → IsExactly (NamesPair origin items (length pairs)) None → IsExactly (NamesPairs origin items MAX_PAIRS 0) None
so_far-wrong origin items pairs are below some exactly all named =
    let before = are.onto all named in
    let left : MAX_PAIRS - length pairs ≡ suc (MAX_PAIRS - suc (length pairs)) = omega arith in
    let first = pairs-step origin items _ _ _ (suc (length pairs)) before.0 left refl some before.2 in
    exactly first.0 first.3

-- the rest behind the last pair is none
rest-none : (origin : ℕ) (items : List Item) (pairs : List Pair) (rest : List Pair) → ¬ ((length pairs < MAX_PAIRS) × ¬ (NamesNone items (length pairs)))
    → NamesPairs origin items (MAX_PAIRS - length pairs) (length pairs) rest → rest ≡ []
rest-none origin items pairs rest ended named =
    pairs-end origin items (MAX_PAIRS - length pairs) (length pairs) rest (λ below some. ended (omega arith, some)) named

-- the pairs are whole where there is none behind them
pub so_far-whole : (origin : ℕ) (items : List Item) (pairs : List Pair) → AreSoFar origin items pairs
    → ¬ ((length pairs < MAX_PAIRS) × ¬ (NamesNone items (length pairs))) → NamesNoneFrom items (MAX_PAIRS - length pairs) (length pairs)
    → IsExactly (NamesPairs origin items MAX_PAIRS 0) (Some pairs)
so_far-whole origin items pairs are ended none = (
  rw (append-nil pairs) at (are.into [] (pairs-none origin items (MAX_PAIRS - length pairs) (length pairs) none)),
  λ all named.
      let before = are.onto all named in
      sym (before.1 ∙ ap (λ rest. pairs ++ rest) (rest-none origin items pairs before.0 ended before.2) ∙ append-nil pairs),
)

-- and are not where there is one
pub so_far-not : (origin : ℕ) (items : List Item) (pairs : List Pair) → AreSoFar origin items pairs
    → ¬ ((length pairs < MAX_PAIRS) × ¬ (NamesNone items (length pairs))) → ¬ (NamesNoneFrom items (MAX_PAIRS - length pairs) (length pairs))
    → IsExactly (NamesPairs origin items MAX_PAIRS 0) None
so_far-not origin items pairs are ended some all named =
    let before = are.onto all named in
    let empty = rest-none origin items pairs before.0 ended before.2 in
    some (none-pairs origin items (MAX_PAIRS - length pairs) (length pairs) (rw empty at before.2))
