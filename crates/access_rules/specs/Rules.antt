-- Lists of access rules, in the order of their prefixes (NTPsec's access control; the order is our own rule).
use Rattle.std.specs.Prelude.{◌≡◌, ℕ, ◌≤◌, ◌==◌, ◌&&◌, Bool, IsTrue, if◌then◌else◌, List, [], ◌∷◌, length, All, Option, Some, find, reverse}
use Rattle.std.specs.List.{AllPairs, list_any}
use Rattle.std.specs.Option.{option_map, unwrap_or}
use Rattle.net_addr.specs.Addresses.{bits_of}
use Rattle.net_addr.specs.Prefixes.{has_ip}
use Rattle.net_addr.specs.declared.addr.Ip.{Ip}
use Rattle.net_addr.specs.declared.addr.Ip.TheVariants.{V4, V6}
use Rattle.net_addr.specs.declared.prefix.Prefix.{Prefix}
use Rattle.access_rules.specs.declared.rules.Rule.{Rule}
use Rattle.access_rules.specs.declared.rules.TheConstants.{MAX_RULES}
use Rattle.access_rules.specs.Flags.{joined}
use Rattle.access_rules.specs.Order.{prefix_before, same_prefix}

-- the prefix has every address of its family
abbrev pub is_default : Prefix → Bool
is_default prefix = prefix.length == 0

-- there is a rule for every address of the family with so many bits
abbrev pub has_default : ℕ → List Rule → Bool
has_default bits rules =
    list_any (λ rule. (bits_of rule.prefix.ip == bits) && is_default rule.prefix) rules

-- rules in order, distinct in their prefixes, not too many, with the defaults of both families
pub record IsRules (rules : List Rule) : Type 0 where
  pub room : length rules ≤ MAX_RULES
  pub ascending :
      AllPairs (λ (one : Rule) (later : Rule). IsTrue (prefix_before one.prefix later.prefix)) rules
  pub default_v4 : IsTrue (has_default 32 rules)
  pub default_v6 : IsTrue (has_default 128 rules)

-- the defaults of both families alone, without flags
pub record IsPlain (rules : List Rule) : Type 0 where
  pub table : IsRules rules
  pub two : length rules ≡ 2
  pub no_flags : All (λ rule. rule.flags ≡ 0) rules

-- the rule of this prefix of length 0, without flags
pub record IsWholeOf (ip : Ip) (rule : Rule) : Type 0 where
  pub same_ip : rule.prefix.ip ≡ ip
  pub all : rule.prefix.length ≡ 0
  pub no_flags : rule.flags ≡ 0

-- the rules of IPv4's whole and of IPv6's whole, each with the address whose octets are all 0
abbrev pub AreWholes : List Rule → Type 0
AreWholes rules = (v4 : Rule) × (v6 : Rule) × (rules ≡ v4 ∷ v6 ∷ [])
    × IsWholeOf (V4 (0 ∷ 0 ∷ 0 ∷ 0 ∷ [])) v4
    × IsWholeOf (V6 (0 ∷ 0 ∷ 0 ∷ 0 ∷ 0 ∷ 0 ∷ 0 ∷ 0 ∷ 0 ∷ 0 ∷ 0 ∷ 0 ∷ 0 ∷ 0 ∷ 0 ∷ 0 ∷ [])) v6

-- the flags of an address: those of the last rule whose prefix has it
abbrev pub flags_of : List Rule → Ip → ℕ
flags_of rules ip =
    unwrap_or (option_map (λ rule. rule.flags) (find (λ rule. has_ip rule.prefix ip) (reverse rules))) 0

-- the flags of the rule with this prefix, if there is one
abbrev pub flags_at : List Rule → Prefix → Option ℕ
flags_at rules prefix =
    option_map (λ rule. rule.flags) (find (λ rule. same_prefix rule.prefix prefix) rules)

-- the rules with these flags joined to those of this prefix, or with one more rule in its place
abbrev pub rules_with : List Rule → Prefix → ℕ → List Rule
rules_with [] prefix flags = record { prefix = prefix; flags = flags } ∷ []
rules_with (rule ∷ rules) prefix flags =
    if prefix_before rule.prefix prefix
    then rule ∷ rules_with rules prefix flags
    else (if same_prefix rule.prefix prefix
    then record { prefix = rule.prefix; flags = joined (Some rule.flags) flags } ∷ rules
    else record { prefix = prefix; flags = flags } ∷ rule ∷ rules)

-- the rules without that of this prefix, or without its flags where it is a default
abbrev pub rules_without : List Rule → Prefix → List Rule
rules_without [] prefix = []
rules_without (rule ∷ rules) prefix =
    if same_prefix rule.prefix prefix
    then (if is_default prefix
    then record { prefix = rule.prefix; flags = 0 } ∷ rules
    else rules)
    else rule ∷ rules_without rules prefix
