-- Flags of a `restrict` line: our own rule, after the access control of NTPsec.
use Rattle.std.specs.Prelude.{ℕ, List, [], ◌∷◌, bit_or, codes, fold, map, Option}
use Rattle.net_addr.specs.declared.prefix.Prefix.{Prefix}
use Rattle.access_rules.specs.declared.flags.TheConstants.{IGNORE, NOSERVE, NOTRUST, VERSION, NOQUERY, NOMRULIST, LIMITED, KOD, NOMODIFY}
use Rattle.conf_file.specs.OptionRules.{Given, OptionWords}
use Rattle.conf_file.specs.declared.options.Value.TheVariants.{Alone}
use Rattle.conf_file.specs.declared.restrict_options.Restriction.{Restriction}

-- the flags by their words; `nopeer` and `notrap` have no effect
abbrev pub flag_rules : List OptionWords
flag_rules =
    record { name = codes "ignore"; value = Alone IGNORE } ∷ record { name = codes "noserve"; value = Alone NOSERVE } ∷ record { name = codes "notrust"; value = Alone NOTRUST }
    ∷ record { name = codes "version"; value = Alone VERSION } ∷ record { name = codes "noquery"; value = Alone NOQUERY } ∷ record { name = codes "nomrulist"; value = Alone NOMRULIST }
    ∷ record { name = codes "limited"; value = Alone LIMITED } ∷ record { name = codes "kod"; value = Alone KOD } ∷ record { name = codes "nomodify"; value = Alone NOMODIFY }
    ∷ record { name = codes "nopeer"; value = Alone 0 } ∷ record { name = codes "notrap"; value = Alone 0 } ∷ []

-- the flags that are given, as one number
abbrev pub flags_of : List Given → ℕ
flags_of given = fold bit_or 0 (map (λ (option : Given). option.number) given)

-- the restriction of these prefixes by the flags that are given
abbrev pub restricted_by : Prefix → Option Prefix → List Given → Restriction
restricted_by first second given = record { first = first; second = second; flags = flags_of given }
