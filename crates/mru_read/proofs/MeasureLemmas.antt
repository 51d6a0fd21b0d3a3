-- A measure counts the parts that items make, and more items make no fewer.
use Rattle.std.proofs.Common.{◌≡◌, ℕ, ◌+◌, ◌-◌, ◌<◌, ◌≤◌, Bool, true, false, List, [], ◌∷◌, ◌++◌, refl, ap, ◌∙◌, arith}
use Rattle.std.specs.Prelude.{nat_le, if◌then◌else◌, min}
use Rattle.std.proofs.lemmas.Bool.{cond_both, cond-true, cond-false, leb-true, le-leb}
use Rattle.std.proofs.lemmas.Bool.Decides.{nat_tests}
use Rattle.std.proofs.lemmas.List.Sums.{sum_by-append, sum_by-cons}
use Rattle.mode6_frame.specs.Cuts.{TAG_ITEM_LEN, has_room, parts_count, plain_len, runs_count}
use Rattle.mru_items.specs.declared.query.TheConstants.{MAX_FRAGS}
use Rattle.mru_read.specs.declared.sizes.Measure.{Measure}
use Rattle.mru_read.specs.Sizes.{measured, no_items, one_more, parts_in}

-- items measured one after another
pub measured-append : (m : Measure) (xs ys : List ℕ) → measured m (xs ++ ys) ≡ measured (measured m xs) ys
measured-append m [] ys = refl
measured-append m (x ∷ xs) ys = measured-append (one_more m x) xs ys

-- a measure has so many octets of plain text, so many in the part under way, and so many parts begun
pub record IsMeasureOf (m : Measure) (plain used begun : ℕ) : Type 0 where
  pub is_plain : m.plain ≡ min plain 469
  pub is_used : m.used ≡ used
  pub is_begun : m.begun ≡ min begun 129

more-room : (m : Measure) (plain used begun len : ℕ) → IsMeasureOf m plain used begun → has_room (used + (2 + len)) ≡ true → IsMeasureOf (one_more m len) (plain + (2 + len)) (used + (2 + len)) begun
unfolding one_more
more-room m plain used begun len is room =
    let here : has_room (m.used + (2 + len)) ≡ true = ap (λ n. has_room (n + (2 + len))) is.is_used ∙ room in
    record {
      is_plain = omega (arith, is.is_plain);
      is_used = cond-true _ _ _ here ∙ ap (λ n. n + (2 + len)) is.is_used;
      is_begun = cond-true _ _ _ here ∙ is.is_begun;
    }

more-full : (m : Measure) (plain used begun len : ℕ) → IsMeasureOf m plain used begun → has_room (used + (2 + len)) ≡ false → IsMeasureOf (one_more m len) (plain + (2 + len)) (TAG_ITEM_LEN + (2 + len)) (begun + 1)
unfolding one_more
more-full m plain used begun len is full =
    let here : has_room (m.used + (2 + len)) ≡ false = ap (λ n. has_room (n + (2 + len))) is.is_used ∙ full in
    record {
      is_plain = omega (arith, is.is_plain);
      is_used = cond-false _ _ _ here;
      is_begun = cond-false _ _ _ here ∙ omega (arith, is.is_begun);
    }

-- what items make of a measure
abbrev IsAll : Measure → ℕ → ℕ → ℕ → List ℕ → Type 0
IsAll m plain used begun lengths =
    ((measured m lengths).plain ≡ min (plain + plain_len lengths) 469) × ((measured m lengths).begun ≡ min (begun + runs_count used lengths - 1) 129)

measured-all : (m : Measure) (plain used begun : ℕ) (lengths : List ℕ) → 1 ≤ begun → IsMeasureOf m plain used begun → IsAll m plain used begun lengths
measured-all m plain used begun [] some is = (omega (arith, is.is_plain), omega (arith, is.is_begun))
measured-all m plain used begun (len ∷ lengths) some is =
    let width = 2 + len in
    let more = sum_by-cons (λ n. 2 + n) len lengths in
    cond_both (has_room (used + width)) (runs_count (used + width) lengths) (1 + runs_count (TAG_ITEM_LEN + width) lengths)
    (λ count. ((measured (one_more m len) lengths).plain ≡ min (plain + plain_len (len ∷ lengths)) 469) × ((measured (one_more m len) lengths).begun ≡ min (begun + count - 1) 129))
    (λ room.
    let rest = measured-all (one_more m len) (plain + width) (used + width) begun lengths some (more-room m plain used begun len is room) in
    (omega (arith, rest.0, more), rest.1))
    (λ full.
    let rest = measured-all (one_more m len) (plain + width) (TAG_ITEM_LEN + width) (begun + 1) lengths (omega arith) (more-full m plain used begun len is full) in
    (omega (arith, rest.0, more), omega (arith, rest.1)))

-- a bound below a cap is met where it is without the cap
le-capped : (n cap bound : ℕ) → bound < cap → nat_le (min n cap) bound ≡ nat_le n bound
le-capped n cap bound below = grind (arith, nat_tests)

begun-none : IsMeasureOf no_items 0 23 1
begun-none = record { is_plain = omega arith; is_used = refl; is_begun = omega arith }

-- there is a run
pub runs-some : (used : ℕ) (lengths : List ℕ) → 1 ≤ runs_count used lengths
runs-some used [] = omega arith
runs-some used (len ∷ lengths) =
    cond_both (has_room (used + (2 + len))) _ _ (λ count. 1 ≤ count) (λ _. runs-some (used + (2 + len)) lengths) (λ _. omega arith)

-- a measure of items is within a bound where the items are
pub measured-parts : (lengths : List ℕ) (frags : ℕ) → frags ≤ MAX_FRAGS → nat_le (parts_in (measured no_items lengths)) frags ≡ nat_le (parts_count lengths) frags
measured-parts lengths frags most =
    let all = measured-all no_items 0 23 1 lengths (omega arith) begun-none in
    let same : nat_le (measured no_items lengths).plain 468 ≡ nat_le (plain_len lengths) 468 =
    ap (λ n. nat_le n 468) (all.0 ∙ omega arith) ∙ le-capped (plain_len lengths) 469 468 (omega arith) in
    let runs : nat_le (measured no_items lengths).begun frags ≡ nat_le (runs_count 23 lengths) frags =
    ap (λ n. nat_le n frags) (all.1 ∙ omega (arith, runs-some 23 lengths)) ∙ le-capped (runs_count 23 lengths) 129 frags (omega (arith, most)) in
    cond_both (nat_le (plain_len lengths) 468) 1 (runs_count 23 lengths) (λ count. nat_le (parts_in (measured no_items lengths)) frags ≡ nat_le count frags)
    (λ is. ap (λ n. nat_le n frags) (cond-true _ _ _ (same ∙ is)))
    (λ is. ap (λ n. nat_le n frags) (cond-false _ _ _ (same ∙ is)) ∙ runs)

-- more items make no fewer runs
runs-more : (used : ℕ) (xs ys : List ℕ) → runs_count used xs ≤ runs_count used (xs ++ ys)
runs-more used [] ys = runs-some used ys
runs-more used (x ∷ xs) ys =
    let room = used + (2 + x) in
    let full = TAG_ITEM_LEN + (2 + x) in
    by (has_room room) (runs_count room xs) (runs_count room (xs ++ ys)) (1 + runs_count full xs) (1 + runs_count full (xs ++ ys)) (runs-more room xs ys) (omega (arith, runs-more full xs ys))
  where
    by : (b : Bool) (k l m n : ℕ) → k ≤ l → m ≤ n → (if b then k else m) ≤ (if b then l else n)
    by true k l m n first second = first
    by false k l m n first second = second

-- and no fewer parts
pub parts-more : (xs ys : List ℕ) → parts_count xs ≤ parts_count (xs ++ ys)
parts-more xs ys =
    cond_both (nat_le (plain_len (xs ++ ys)) 468) 1 (runs_count 23 (xs ++ ys)) (λ count. parts_count xs ≤ count)
    (λ is.
    let less : plain_len xs ≤ 468 = omega (arith, leb-true _ _ is, sum_by-append (λ n. 2 + n) xs ys) in
    let one : parts_count xs ≡ 1 = cond-true _ _ _ (le-leb _ _ less) in
    omega (arith, one))
    (λ _. cond_both (nat_le (plain_len xs) 468) 1 (runs_count 23 xs) (λ count. count ≤ runs_count 23 (xs ++ ys))
    (λ _. runs-some 23 (xs ++ ys)) (λ _. runs-more 23 xs ys))

-- there is a part
pub parts-some : (xs : List ℕ) → 1 ≤ parts_count xs
parts-some xs = cond_both (nat_le (plain_len xs) 468) 1 (runs_count 23 xs) (λ count. 1 ≤ count) (λ _. omega arith) (λ _. runs-some 23 xs)

-- a plain text that fits is one part
pub parts-one : (xs : List ℕ) → plain_len xs ≤ 468 → parts_count xs ≡ 1
parts-one xs less = cond-true _ _ _ (le-leb _ _ less)
