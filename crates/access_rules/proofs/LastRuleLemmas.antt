-- The last rule that has an address stands where the rules of its family end, or before.
use Rattle.std.proofs.Common.{◌≡◌, ℕ, ◌<◌, ◌≤◌, ◌==◌, ◌&&◌, nat_le, false, Bool, List, [], ◌∷◌, take, Option, None, find, reverse, refl, sym, ap, ◌∙◌, arith}
use Rattle.std.specs.Option.{option_map, option_or, unwrap_or}
use Rattle.std.proofs.lemmas.Bool.{leb-false}
use Rattle.std.proofs.lemmas.Bool.Decides.{nat_tests}
use Rattle.std.proofs.lemmas.List.{reverse-append}
use Rattle.std.proofs.lemmas.List.Folds.{find-append}
use Rattle.net_addr.specs.Addresses.{bits_of}
use Rattle.net_addr.specs.Prefixes.{has_ip}
use Rattle.net_addr.specs.declared.addr.Ip.{Ip}
use Rattle.net_addr.specs.declared.prefix.Prefix.{Prefix}
use Rattle.access_rules.specs.declared.rules.Rule.{Rule}
use Rattle.access_rules.specs.Places.{family_end}
use Rattle.access_rules.specs.Rules.{IsRules, flags_of}
use Rattle.access_rules.proofs.OrderLemmas.{before-bits}
use Rattle.access_rules.proofs.RuleLemmas.{AreBehind, Ascend, Ascend-from_pairs, either}

-- the last rule that has the address
abbrev pub last_for : List Rule → Ip → Option Rule
last_for rules ip = find (λ (rule : Rule). has_ip rule.prefix ip) (reverse rules)

other_family : (a b : ℕ) (rest : Bool) → a < b → ((a == b) && rest) ≡ false
other_family a b rest below = grind (arith, nat_tests)

-- the last of several rules is that of the later ones, or the first
last_for-cons : (rule : Rule) (rules : List Rule) (ip : Ip) → last_for (rule ∷ rules) ip ≡ option_or (last_for rules ip) (last_for (rule ∷ []) ip)
last_for-cons rule rules ip =
    ap (find (λ (r : Rule). has_ip r.prefix ip)) (reverse-append (rule ∷ []) rules)
    ∙ find-append (λ (r : Rule). has_ip r.prefix ip) (reverse rules) (rule ∷ [])

-- a prefix of a later family has no address of this one
none_beyond : (prefix : Prefix) (rules : List Rule) (ip : Ip) → bits_of ip < bits_of prefix.ip → AreBehind prefix rules → last_for rules ip ≡ None
none_beyond prefix [] ip beyond behind = refl
none_beyond prefix (rule ∷ rules) ip beyond behind =
    let further : bits_of prefix.ip ≤ bits_of rule.prefix.ip = before-bits prefix rule.prefix behind.0 in
    let not_here : has_ip rule.prefix ip ≡ false = other_family (bits_of ip) (bits_of rule.prefix.ip) _ (omega arith) in
    last_for-cons rule rules ip ∙ rw (none_beyond prefix rules ip beyond behind.1) (rw not_here refl)

-- the rules up to the end of the address's family have the last rule for it
last_for-front : (rules : List Rule) (ip : Ip) → Ascend rules → last_for (take (family_end rules ip) rules) ip ≡ last_for rules ip
last_for-front [] ip up = refl
last_for-front (rule ∷ rules) ip up =
    either (nat_le (bits_of rule.prefix.ip) (bits_of ip))
    (λ e. rw e (
    last_for-cons rule (take (family_end rules ip) rules) ip
    ∙ ap (λ (last : Option Rule). option_or last (last_for (rule ∷ []) ip)) (last_for-front rules ip up.1)
    ∙ sym (last_for-cons rule rules ip)))
    (λ e.
    let beyond : bits_of ip < bits_of rule.prefix.ip = leb-false (bits_of rule.prefix.ip) (bits_of ip) e in
    let not_here : has_ip rule.prefix ip ≡ false = other_family (bits_of ip) (bits_of rule.prefix.ip) _ beyond in
    rw e (sym (last_for-cons rule rules ip ∙ rw (none_beyond rule.prefix rules ip beyond up.0) (rw not_here refl))))

-- the flags of the last rule before the place where the family ends are those of the address
pub flags_of-front : (rules seen : List Rule) (ip : Ip) (place : ℕ) (rule : Option Rule) → IsRules rules → seen ≡ rules → place ≡ family_end rules ip
    → rule ≡ last_for (take place seen) ip → unwrap_or (option_map (λ (r : Rule). r.flags) rule) 0 ≡ flags_of rules ip
flags_of-front rules seen ip place rule table same at is =
    let front : take place seen ≡ take (family_end rules ip) rules = ap (λ n. take n seen) at ∙ ap (take (family_end rules ip)) same in
    ap (λ (last : Option Rule). unwrap_or (option_map (λ (r : Rule). r.flags) last) 0)
    (is ∙ ap (λ (xs : List Rule). last_for xs ip) front ∙ last_for-front rules ip (Ascend-from_pairs rules table.ascending))
