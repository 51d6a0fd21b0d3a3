-- Prefixes of a `restrict` line, before its flags: our own rule, after the access control of NTPsec.
use Rattle.std.specs.Prelude.{◌≡◌, ℕ, if◌then◌else◌, Bool, true, false, List, [], ◌∷◌, codes, bytes_eq, Option, Some, None, ◌⊎◌}
use Rattle.net_addr.specs.Addresses.{IsIp, bits_of}
use Rattle.net_addr.specs.Prefixes.{IsMask, same_family, without_host_bits}
use Rattle.net_addr.specs.Spelling.{SpellsIp, SpellsPrefix}
use Rattle.net_addr.specs.declared.addr.Ip.{Ip}
use Rattle.net_addr.specs.declared.addr.Ip.TheVariants.{V4, V6}
use Rattle.net_addr.specs.declared.prefix.Prefix.{Prefix}
use Rattle.conf_file.specs.OptionLines.{IsOptionLine}
use Rattle.conf_file.specs.RestrictOptions.{flag_rules, restricted_by}
use Rattle.conf_file.specs.declared.lines.Line.{Line}
use Rattle.conf_file.specs.declared.lines.Line.TheVariants.{Restrict}
use Rattle.conf_file.specs.declared.families.Family.{Family}
use Rattle.conf_file.specs.declared.families.Family.TheVariants.{Both, OnlyV4, OnlyV6}

-- the family that a word asks for
abbrev pub family_of : List ℕ → Option Family
family_of word =
    if bytes_eq word (codes "-4") then Some OnlyV4
    else (if bytes_eq word (codes "-6") then Some OnlyV6
    else None)

-- an address may stand where these families are asked for
abbrev pub is_allowed : Family → Ip → Bool
is_allowed Both ip = true
is_allowed OnlyV4 (V4 octets) = true
is_allowed OnlyV4 (V6 octets) = false
is_allowed OnlyV6 (V4 octets) = false
is_allowed OnlyV6 (V6 octets) = true

-- the address whose octets are all 0, of both families
abbrev pub zeros_v4 : Ip
zeros_v4 = V4 (0 ∷ 0 ∷ 0 ∷ 0 ∷ [])

abbrev pub zeros_v6 : Ip
zeros_v6 = V6 (0 ∷ 0 ∷ 0 ∷ 0 ∷ 0 ∷ 0 ∷ 0 ∷ 0 ∷ 0 ∷ 0 ∷ 0 ∷ 0 ∷ 0 ∷ 0 ∷ 0 ∷ 0 ∷ [])

-- the prefix is this address and this length
pub record IsPrefixOf (ip : Ip) (length : ℕ) (prefix : Prefix) : Type 0 where
  pub same_ip : prefix.ip ≡ ip
  pub same_length : prefix.length ≡ length

-- the prefixes that `default` stands for
abbrev pub AreDefaults : Family → Prefix → Option Prefix → Type 0
AreDefaults Both first second = IsPrefixOf zeros_v4 0 first × ((other : Prefix) × IsPrefixOf zeros_v6 0 other × (second ≡ Some other))
AreDefaults OnlyV4 first second = IsPrefixOf zeros_v4 0 first × (second ≡ None)
AreDefaults OnlyV6 first second = IsPrefixOf zeros_v6 0 first × (second ≡ None)

-- flags for these prefixes, or none
abbrev pub AreFlags : Prefix → Option Prefix → List (List ℕ) → Line → Type 0
AreFlags first second words line = IsOptionLine 0 flag_rules (λ given. Restrict (restricted_by first second given)) words line

-- flags for the first bits of an address
abbrev pub AreFlagsOf : Ip → ℕ → List (List ℕ) → Line → Type 0
AreFlagsOf ip length words line = (prefix : Prefix) × IsPrefixOf (without_host_bits length ip) length prefix × AreFlags prefix None words line

-- the word is a mask of the address's family with so many ones
abbrev pub IsMaskWord : Ip → List ℕ → ℕ → Type 0
IsMaskWord ip word length = (mask : Ip) × IsIp mask × SpellsIp word mask × (same_family mask ip ≡ true) × IsMask mask length

-- a mask, and then flags for as many bits of the address as it has ones
abbrev pub IsMaskTail : Ip → List (List ℕ) → Line → Type 0
IsMaskTail ip [] line = ⊥
IsMaskTail ip (word ∷ words) line = (length : ℕ) × IsMaskWord ip word length × AreFlagsOf ip length words line

-- `mask` and a mask, or flags for the whole address
abbrev pub IsMaskOrFlags : Bool → Ip → List ℕ → List (List ℕ) → Line → Type 0
IsMaskOrFlags true ip word words line = IsMaskTail ip words line
IsMaskOrFlags false ip word words line = AreFlagsOf ip (bits_of ip) (word ∷ words) line

-- what follows an address
abbrev pub IsAddressTail : Ip → List (List ℕ) → Line → Type 0
IsAddressTail ip [] line = AreFlagsOf ip (bits_of ip) [] line
IsAddressTail ip (word ∷ words) line = IsMaskOrFlags (bytes_eq word (codes "mask")) ip word words line

-- an address, alone or with its mask; or a prefix that is no address alone
abbrev pub IsPrefixTail : Family → List ℕ → List (List ℕ) → Line → Type 0
IsPrefixTail family word words line =
    ((ip : Ip) × IsIp ip × SpellsIp word ip × (is_allowed family ip ≡ true) × IsAddressTail ip words line)
    ⊎ ((prefix : Prefix) × ((ip : Ip) → IsIp ip → ¬ SpellsIp word ip) × SpellsPrefix word prefix × (is_allowed family prefix.ip ≡ true) × AreFlags prefix None words line)

-- `default`, or a prefix
abbrev pub IsDefaultOrPrefix : Bool → Family → List ℕ → List (List ℕ) → Line → Type 0
IsDefaultOrPrefix true family word words line = (first : Prefix) × (second : Option Prefix) × AreDefaults family first second × AreFlags first second words line
IsDefaultOrPrefix false family word words line = IsPrefixTail family word words line

-- the prefix and the flags of a line of this family
abbrev pub IsTargetTail : Family → List (List ℕ) → Line → Type 0
IsTargetTail family [] line = ⊥
IsTargetTail family (word ∷ words) line = IsDefaultOrPrefix (bytes_eq word (codes "default")) family word words line

-- `-4` or `-6` and what is of that family, or what is of any family
abbrev pub IsOfFamily : Option Family → List ℕ → List (List ℕ) → Line → Type 0
IsOfFamily None word words line = IsTargetTail Both (word ∷ words) line
IsOfFamily (Some family) word words line = IsTargetTail family words line

-- the words after `restrict`
abbrev pub IsRestrictTail : List (List ℕ) → Line → Type 0
IsRestrictTail [] line = ⊥
IsRestrictTail (word ∷ words) line = IsOfFamily (family_of word) word words line
