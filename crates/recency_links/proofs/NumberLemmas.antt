-- What the index answers.
use Rattle.std.proofs.Common.{◌≡◌, ℕ, Bool, true, false, cond, List, [], ◌∷◌, Option, Some, None, refl, sym, ap, ◌∙◌}
use Rattle.std.specs.Map.{lookup}
use Rattle.net_addr.specs.Addresses.{same_ip}
use Rattle.net_addr.specs.declared.addr.Ip.{Ip}
use Rattle.net_addr.specs.declared.addr.Ip.TheVariants.{V4, V6}
use Rattle.net_addr.specs.contracts.addr.IpPartialEq.TheImpl.{eq-value}
use Rattle.recency_links.specs.Numbers.{IsNumbered, number_at}

-- the derived test of addresses is that of the definition
pub eq-same : (one other : Ip) → eq-value.it one other ≡ same_ip one other
eq-same (V4 these) (V4 those) = refl
eq-same (V6 these) (V6 those) = refl
eq-same (V4 these) (V6 those) = refl
eq-same (V6 these) (V4 those) = refl

-- so a look-up by the one is a look-up by the other
pub lookup-number : (eq : Ip → Ip → Bool) → ((one other : Ip) → eq one other ≡ same_ip one other) → (entries : List (Ip × ℕ)) (ip : Ip) → lookup (eq ip) entries ≡ number_at entries ip
lookup-number eq is [] ip = refl
lookup-number eq is (entry ∷ entries) ip = rw (is ip entry.0) (ap (cond (same_ip ip entry.0) (Some entry.1)) (lookup-number eq is entries ip))

-- and an update of the one is one of the other
pub number_at-update : (eq : Ip → Ip → Bool) → ((one other : Ip) → eq one other ≡ same_ip one other) → (old new : List (Ip × ℕ)) (ip : Ip) (number : Option ℕ)
    → ((other : Ip) → lookup (eq other) new ≡ cond (eq ip other) number (lookup (eq other) old)) → IsNumbered old ip number new
number_at-update eq is old new ip number updates other =
    sym (lookup-number eq is new other) ∙ updates other
    ∙ ap (λ b. cond b number (lookup (eq other) old)) (is ip other) ∙ ap (cond (same_ip ip other) number) (lookup-number eq is old other)
