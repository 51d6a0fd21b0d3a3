-- The order of prefixes: one is before the other, or they are the same.
use Rattle.std.proofs.Common.{◌≡◌, ◌<◌, ◌≤◌, true, false, arith}
use Rattle.std.proofs.lemmas.Bool.Decides.{nat_tests}
use Rattle.net_addr.specs.Addresses.{bits_of}
use Rattle.net_addr.specs.declared.prefix.Prefix.{Prefix}
use Rattle.access_rules.specs.Order.{prefix_before, same_prefix}

-- the order goes on
pub before-trans : (a b c : Prefix) → prefix_before a b ≡ true → prefix_before b c ≡ true → prefix_before a c ≡ true
unfolding prefix_before
before-trans a b c ab bc = grind (arith, nat_tests)

-- what is before another is not after it
pub before-asym : (a b : Prefix) → prefix_before a b ≡ true → prefix_before b a ≡ false
unfolding prefix_before
before-asym a b ab = grind (arith, nat_tests)

-- what is before another is not the same
pub before-other : (a b : Prefix) → prefix_before a b ≡ true → same_prefix a b ≡ false
unfolding prefix_before same_prefix
before-other a b ab = grind (arith, nat_tests)

-- what is neither before nor the same is after
pub before-else : (a b : Prefix) → prefix_before a b ≡ false → same_prefix a b ≡ false → prefix_before b a ≡ true
unfolding prefix_before same_prefix
before-else a b ab other = grind (arith, nat_tests)

-- the same are before the same
pub same-before : (a b c : Prefix) → same_prefix a b ≡ true → prefix_before b c ≡ true → prefix_before a c ≡ true
unfolding prefix_before same_prefix
same-before a b c ab bc = grind (arith, nat_tests)

-- to be the same goes both ways
pub same-sym : (a b : Prefix) → same_prefix a b ≡ true → same_prefix b a ≡ true
unfolding same_prefix
same-sym a b ab = grind (arith, nat_tests)

-- the same are the same as others
pub same-alike : (a b c : Prefix) → same_prefix a b ≡ true → same_prefix a c ≡ same_prefix b c
unfolding same_prefix
same-alike a b c ab = grind (arith, nat_tests)

-- what is the same as the first of two in order is not the second
pub before-apart : (a b c : Prefix) → prefix_before a b ≡ true → same_prefix a c ≡ true → same_prefix b c ≡ false
unfolding prefix_before same_prefix
before-apart a b c ab ac = grind (arith, nat_tests)

-- families stand in the order of their numbers of bits
pub before-bits : (a b : Prefix) → prefix_before a b ≡ true → bits_of a.ip ≤ bits_of b.ip
unfolding prefix_before
before-bits a b ab = grind (arith, nat_tests)

-- the same prefixes are of one family
pub same-bits : (a b : Prefix) → same_prefix a b ≡ true → bits_of a.ip ≡ bits_of b.ip
unfolding same_prefix
same-bits a b ab = grind (arith, nat_tests)

-- the same prefixes have one length
pub same-length : (a b : Prefix) → same_prefix a b ≡ true → a.length ≡ b.length
unfolding same_prefix
same-length a b ab = grind (arith, nat_tests)

-- a prefix is the same as itself
pub same-refl : (a : Prefix) → same_prefix a a ≡ true
unfolding same_prefix
same-refl a = grind (arith, nat_tests)

-- of two prefixes that differ one at most is the same as a third
pub same-apart : (a b c : Prefix) → same_prefix a b ≡ false → same_prefix a c ≡ true → same_prefix b c ≡ false
unfolding same_prefix
same-apart a b c ab ac = grind (arith, nat_tests)

-- a prefix of an earlier family is before
pub before-family : (a b : Prefix) → bits_of a.ip < bits_of b.ip → prefix_before a b ≡ true
unfolding prefix_before
before-family a b below = grind (arith, nat_tests)
