-- Places in lists of rules: where the rules before a prefix end, and where those of a family do.
use Rattle.std.specs.Prelude.{ℕ, zero, suc, nat_le, List, [], ◌∷◌, Bool, false, if◌then◌else◌}
use Rattle.net_addr.specs.Addresses.{bits_of}
use Rattle.net_addr.specs.declared.addr.Ip.{Ip}
use Rattle.net_addr.specs.declared.prefix.Prefix.{Prefix}
use Rattle.access_rules.specs.declared.rules.Rule.{Rule}
use Rattle.access_rules.specs.Order.{prefix_before, same_prefix}

-- how many rules that pass the test the list begins with
abbrev pub front_len : (Rule → Bool) → List Rule → ℕ
front_len test [] = zero
front_len test (rule ∷ rules) = if test rule then suc (front_len test rules) else zero

-- how many rules the list begins with whose prefixes are before this one
abbrev pub place_of : List Rule → Prefix → ℕ
place_of rules prefix = front_len (λ rule. prefix_before rule.prefix prefix) rules

-- the first rule that is not before the prefix has it
abbrev pub is_placed : List Rule → Prefix → Bool
is_placed [] prefix = false
is_placed (rule ∷ rules) prefix =
    if prefix_before rule.prefix prefix
    then is_placed rules prefix
    else same_prefix rule.prefix prefix

-- how many rules the list begins with whose families are not behind that of the address
abbrev pub family_end : List Rule → Ip → ℕ
family_end rules ip = front_len (λ rule. nat_le (bits_of rule.prefix.ip) (bits_of ip)) rules
