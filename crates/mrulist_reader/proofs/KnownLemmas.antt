-- What a set of addresses has after one was added.
use Rattle.std.proofs.Common.{◌≡◌, ℕ, Bool, true, false, cond, ◌||◌, List, bytes_eq, refl, ap, ◌∙◌, arith}
use Rattle.std.proofs.lemmas.Bool.Decides.{nat_tests}
use Rattle.std.proofs.lemmas.Cmp.{same_from_slice_cmp}
use Rattle.std.specs.BTreeMap.{is_at}
use Rattle.std.specs.BTreeSet.{BTreeSet, Updates, contains}
use Rattle.std.specs.Cmp.Lexicographic.{slice_cmp}
use Rattle.std.specs.Ordering.{nat_cmp, is_eq}
use Rattle.mrulist_reader.specs.declared.known.Known.{Known}
use Rattle.mrulist_reader.specs.Knowing.{knows}
use Rattle.net_addr.specs.Addresses.{same_ip}
use Rattle.net_addr.specs.declared.addr.Ip.{Ip}
use Rattle.net_addr.specs.declared.addr.Ip.TheVariants.{V4, V6}

-- octets stand at the place of a key exactly where they are the key's
is_at-same : (key other : List ℕ) → is_at (slice_cmp nat_cmp key) other ≡ bytes_eq other key
is_at-same key other =
    same_from_slice_cmp nat_cmp is_eq (λ (xs ys : List ℕ). bytes_eq ys xs) refl (λ _ _. refl) (λ _ _. refl) (λ x y xs ys o h. grind (arith, nat_tests)) key other _ refl

-- a choice of true is a test, or else the other
cond-or : (test other : Bool) → cond test true other ≡ (test || other)
cond-or true other = refl
cond-or false other = refl

-- what a set of octets has after some were added
contains-added : (old new : BTreeSet (List ℕ)) (octets other : List ℕ) → Updates (slice_cmp nat_cmp) old new octets true → contains (slice_cmp nat_cmp) new other ≡ (bytes_eq other octets || contains (slice_cmp nat_cmp) old other)
contains-added old new octets other updates =
    updates.0 other
    ∙ cond-or (is_at (slice_cmp nat_cmp octets) other) (contains (slice_cmp nat_cmp) old other)
    ∙ ap (λ (test : Bool). test || contains (slice_cmp nat_cmp) old other) (is_at-same octets other)

-- an IPv4 address was added
pub knows-added_v4 : (known : Known) (new : BTreeSet (List ℕ)) (octets : List ℕ) → Updates (slice_cmp nat_cmp) known.v4 new octets true → (other : Ip) → knows (record known { v4 = new }) other ≡ (same_ip other (V4 octets) || knows known other)
knows-added_v4 known new octets updates (V4 other) = contains-added known.v4 new octets other updates
knows-added_v4 known new octets updates (V6 other) = refl

-- an IPv6 address was added
pub knows-added_v6 : (known : Known) (new : BTreeSet (List ℕ)) (octets : List ℕ) → Updates (slice_cmp nat_cmp) known.v6 new octets true → (other : Ip) → knows (record known { v6 = new }) other ≡ (same_ip other (V6 octets) || knows known other)
knows-added_v6 known new octets updates (V4 other) = refl
knows-added_v6 known new octets updates (V6 other) = contains-added known.v6 new octets other updates
