-- Worked words and lines, computed.
use Rattle.std.proofs.Common.{◌≡◌, ℕ, List, [], ◌∷◌, ◌*◌, ◌^◌, Some, None, refl, ℤ, negsuc, codes, decimal, ◌≤◌, lit<, lit≤, sym, subst, arith}
use Rattle.std.proofs.lemmas.Fmt.{decimal_injective}
use Rattle.conf_file.proofs.FrequencyLemmas.{minus_frequency, minus_number}
use Rattle.refusals.specs.Refusals.{IsRefusedAt}
use Rattle.conf_file.specs.declared.kinds.Kind.{Kind}
use Rattle.conf_file.specs.declared.kinds.Kind.TheVariants as kind
use Rattle.conf_file.specs.declared.lines.Line.{Line}
use Rattle.conf_file.specs.declared.lines.Line.TheVariants as line
use Rattle.conf_file.specs.ConfLines.{IsConfLine, IsTail}
use Rattle.conf_file.specs.Drafts.{rate_of}
use Rattle.conf_file.specs.Kinds.{kind_of}
use Rattle.net_addr.specs.declared.addr.Addr.{Addr}
use Rattle.conf_file.specs.OptionLines.{limit_rules, rate_with, server_with}
use Rattle.conf_file.specs.OptionRules.{Given}
use Rattle.conf_file.specs.Options.{AreOnce, IsOptionList, rule_of}
use Rattle.conf_file.specs.RestrictOptions.{flag_rules, flags_of}
use Rattle.conf_file.specs.declared.lists.TheConstants.{MAX_LISTEN}
use Rattle.conf_file.specs.declared.option_lines.TheConstants.{NTP_PORT}
use Rattle.conf_file.specs.declared.options.Value.TheVariants.{Number}
use Rattle.conf_file.specs.declared.rate_options.TheConstants.{MAX_AVERAGE, MAX_BURST, MAX_SPACING}
use Rattle.conf_file.specs.declared.short_lines.TheConstants.{MAX_LOCAL_STRATUM}
use Rattle.conf_file.specs.declared.server_options.TheConstants.{PLAIN_POLL}
use Rattle.conf_file.specs.ShortLines.{IsFrequencyWord, IsOnly, SpellsLocal}

-- a stratum stands within its bounds
stratum_15 : SpellsLocal (decimal 15) (line.Local 15)
stratum_15 = (15, (refl, lit≤ tt, lit≤ tt), refl)

-- a frequency may have a minus, but 0 has none
below_zero : IsFrequencyWord (45 ∷ decimal 1500) (negsuc 1499)
below_zero = minus_frequency _ (decimal 1500) 1500 refl (refl, lit≤ tt, lit≤ tt)

signed_zero : (frequency : ℤ) → ¬ IsFrequencyWord (45 ∷ decimal 0) frequency
signed_zero frequency is =
    let (n, (spelled, low, high), same) = minus_number _ (decimal 0) frequency refl is in
    omega (arith, low, decimal_injective 0 n (lit< tt) (omega (arith, high)) spelled)

-- first words are in lower case
ignored : kind_of (codes "tinker") ≡ Some kind.Ignored
ignored = refl

upper_case : kind_of (codes "Listen") ≡ None
upper_case = refl

-- `mask` is no flag
no_flag : rule_of flag_rules (codes "mask") ≡ None
no_flag = refl

-- flags join bit by bit, and `nopeer` adds none
joined_flags : flags_of (record { name = codes "kod"; number = 128 } ∷ record { name = codes "nopeer"; number = 0 } ∷ record { name = codes "limited"; number = 64 } ∷ []) ≡ 192
joined_flags = refl

-- a line of one option, and what it means with the defaults of the others
abbrev kod_5 : List Given
kod_5 = record { name = codes "kod"; number = 5 } ∷ []

kod_5-spelled : IsOptionList 1 limit_rules (codes "kod" ∷ decimal 5 ∷ []) kod_5
kod_5-spelled = record {
  options = (record { name = codes "kod"; value = Number 0 86400 }, decimal 5 ∷ [], [], refl, refl, (decimal 5, refl, (refl, lit≤ tt, lit≤ tt)), refl);
  once = (tt, tt);
  enough = lit≤ tt;
}

limit_line : IsConfLine (codes "limit" ∷ codes "kod" ∷ decimal 5 ∷ []) (line.Limit (record { average = None; burst = None; spacing = Some 5 }))
limit_line = (kind.Limit, refl, (kod_5, kod_5-spelled, refl))

limit_rate : rate_of (rate_with kod_5) ≡ record { average = 60; burst = 20; spacing = 5 * 2 ^ 32 }
limit_rate = refl

-- 16 is above the bounds
stratum_high : (n : ℕ) → decimal 16 ≡ decimal n → n ≤ 15 → ⊥
stratum_high n spelled high = omega (arith, decimal_injective 16 n (lit< tt) (omega arith) spelled)

not_high : (more : List (List ℕ)) (l : Line) → ¬ IsOnly SpellsLocal (decimal 16 ∷ more) l
not_high [] l (n, (spelled, low, high), is) = stratum_high n spelled high
not_high (next ∷ more) l none = none

high_stops : (more : List (List ℕ)) (l : Line) → ¬ IsConfLine (codes "local" ∷ decimal 16 ∷ more) l
high_stops more l (of, known, tail) =
    let same : kind.Local ≡ of = cc in
    let P : Kind → Type 0 = λ k. IsTail k (decimal 16 ∷ more) l in
    not_high more l (subst P (sym same) tail)

-- a stratum that is too high is refused at the second word
high_stratum : IsRefusedAt IsConfLine (codes "local" ∷ decimal 16 ∷ []) 1
high_stratum = record {
  within = lit≤ tt;
  goes_on = (decimal 1 ∷ [], line.Local 1, (kind.Local, refl, (1, (refl, lit≤ tt, lit≤ tt), refl)));
  stops = λ (more, l, is). high_stops more l is;
}

-- an option stands once, whatever stands between
key_once : (first second : ℕ) (between : Given) → ¬ AreOnce (record { name = codes "key"; number = first } ∷ between ∷ record { name = codes "key"; number = second } ∷ [])
key_once first second between once = once.0.1.0 refl

-- and their order says nothing
any_order : (addr : Addr) (key poll : ℕ)
    → server_with addr (record { name = codes "key"; number = key } ∷ record { name = codes "minpoll"; number = poll } ∷ [])
    ≡ server_with addr (record { name = codes "minpoll"; number = poll } ∷ record { name = codes "key"; number = key } ∷ [])
any_order addr key poll = refl

MAX_LISTEN-is : MAX_LISTEN ≡ 8
MAX_LISTEN-is = refl

NTP_PORT-is : NTP_PORT ≡ 123
NTP_PORT-is = refl

MAX_AVERAGE-is : MAX_AVERAGE ≡ 60000
MAX_AVERAGE-is = refl

MAX_BURST-is : MAX_BURST ≡ 1000
MAX_BURST-is = refl

MAX_SPACING-is : MAX_SPACING ≡ 86400
MAX_SPACING-is = refl

PLAIN_POLL-is : PLAIN_POLL ≡ 6
PLAIN_POLL-is = refl

MAX_LOCAL_STRATUM-is : MAX_LOCAL_STRATUM ≡ 15
MAX_LOCAL_STRATUM-is = refl
