-- Addresses and prefixes of lines: some of each, and that a word has one.
use Rattle.std.proofs.Common.{◌≡◌, ℕ, suc, zero, ◌-◌, ◌^◌, ◌%◌, ◌<◌, ◌≤◌, List, [], ◌∷◌, ◌++◌, length, get_or, replicate, All, codes, decimal, refl, sym, ◌∙◌, inl, inr, lit<, lit≤, arith}
use Rattle.std.proofs.lemmas.List.Elements.{All-cons, All-nil}
use Rattle.std.specs.Coded.{le_prop}
use Rattle.std.proofs.Math.Nat.{ℕ_set}
use mathlib.Core.HLevel.{is_prop→PathP}
use Rattle.std.specs.Net.Addr.{segments_of}
use Rattle.std.specs.Net.Text.{hex_groups_text, ipv4_text}
use Rattle.std.specs.Net.Grammar.{IsDotted}
use Rattle.std.proofs.NetLemmas.Texts.{AllSegments, IsColonHex-hex_groups_text}
use Rattle.net_addr.specs.declared.addr.Addr.{Addr}
use Rattle.net_addr.specs.declared.addr.Ip.{Ip}
use Rattle.net_addr.specs.declared.addr.Ip.TheVariants.{V4, V6}
use Rattle.net_addr.specs.declared.prefix.Prefix.{Prefix}
use Rattle.net_addr.specs.Addresses.{IsAddr, IsIp, bits_of, number_of}
use Rattle.net_addr.specs.Prefixes.{IsMask}
use Rattle.net_addr.specs.Spelling.{Spells, StandsFor}
use Rattle.conf_file.specs.RestrictLines.{IsMaskWord, IsPrefixOf, zeros_v4, zeros_v6}

abbrev pub IsOctet : ℕ → Type 0
IsOctet octet = octet < 2 ^ 8

all_same : (n a : ℕ) → IsOctet a → All IsOctet (replicate n a)
all_same zero a low = All-nil IsOctet
all_same (suc n) a low = All-cons IsOctet a (replicate n a) low (all_same n a low)

-- the address 0.0.0.0 and its text
pub zeros_fit : IsIp zeros_v4
zeros_fit = (refl, all_same 4 0 (lit< tt))

pub zeros_dotted : IsDotted (ipv4_text (0 ∷ 0 ∷ 0 ∷ 0 ∷ [])) (0 ∷ 0 ∷ 0 ∷ 0 ∷ [])
zeros_dotted = record { a = 0; b = 0; c = 0; d = 0; fit = (lit< tt, lit< tt, lit< tt, lit< tt); value = refl; spelled = refl }

-- the address 0.0.0.0:0
abbrev pub no_addr : Addr
no_addr = record { ip = zeros_v4; port = 0 }

pub no_addr-fits : IsAddr no_addr
no_addr-fits = record { ip = zeros_fit; port = lit< tt }

abbrev pub zeros_text : List ℕ
zeros_text = ipv4_text (0 ∷ 0 ∷ 0 ∷ 0 ∷ [])

abbrev pub no_addr_text : List ℕ
no_addr_text = zeros_text ++ codes ":" ++ decimal 0

pub no_addr-spelled : Spells no_addr_text no_addr
no_addr-spelled = (zeros_text, (zeros_text, zeros_dotted, refl), refl)

-- the address 0.0.0.0 with a port that is not spelled
abbrev pub some_addr : ℕ → Addr
some_addr port = record { ip = zeros_v4; port = port }

pub some_addr-stands : (port : ℕ) → StandsFor zeros_text port (some_addr port)
some_addr-stands port = inr (inl zeros_dotted, refl)

-- the address whose bits are all ones
abbrev pub ones_v4 : List ℕ
ones_v4 = 255 ∷ 255 ∷ 255 ∷ 255 ∷ []

abbrev pub ones_v6 : List ℕ
ones_v6 = 255 ∷ 255 ∷ 255 ∷ 255 ∷ 255 ∷ 255 ∷ 255 ∷ 255 ∷ 255 ∷ 255 ∷ 255 ∷ 255 ∷ 255 ∷ 255 ∷ 255 ∷ 255 ∷ []

ones_dotted : IsDotted (ipv4_text ones_v4) ones_v4
ones_dotted = record { a = 255; b = 255; c = 255; d = 255; fit = (lit< tt, lit< tt, lit< tt, lit< tt); value = refl; spelled = refl }

is_mask_v4 : IsMask (V4 ones_v4) 32
unfolding number_of
is_mask_v4 = (lit≤ tt, refl)

is_mask_v6 : IsMask (V6 ones_v6) 128
unfolding number_of
is_mask_v6 = (lit≤ tt, refl)

more : (x : ℕ) (xs : List ℕ) → x < 2 ^ 16 → AllSegments xs → AllSegments (x ∷ xs)
more x xs low all k = elim k as (λ j. get_or (x ∷ xs) j 0 < 2 ^ 16) [ zero ↦ low | suc j ↦ all j ]

none : AllSegments []
none k = omega arith

all_segments : (n x : ℕ) → x < 2 ^ 16 → AllSegments (replicate n x)
all_segments zero x low = none
all_segments (suc n) x low = more x (replicate n x) low (all_segments n x low)

-- a word is a mask of all bits
pub full_mask : (ip : Ip) → (word : List ℕ) × IsMaskWord ip word (bits_of ip)
full_mask (V4 octets) = (ipv4_text ones_v4, (V4 ones_v4, (refl, all_same 4 255 (lit< tt)), ones_dotted, refl, is_mask_v4))
full_mask (V6 octets) = (
  hex_groups_text (segments_of ones_v6),
  (
    V6 ones_v6,
    (refl, all_same 16 255 (lit< tt)),
    IsColonHex-hex_groups_text (segments_of ones_v6) refl (all_segments 8 65535 (lit< tt)),
    refl,
    is_mask_v6,
  ),
)

-- the prefixes of all addresses
pub whole_v4 : Prefix
unfolding number_of
whole_v4 = record { ip = zeros_v4; length = 0; within = lit≤ tt; host_bits = refl }

pub whole_v6 : Prefix
unfolding number_of
whole_v6 = record { ip = zeros_v6; length = 0; within = lit≤ tt; host_bits = refl }

pub whole_v4-is : IsPrefixOf zeros_v4 0 whole_v4
unfolding whole_v4
whole_v4-is = record { same_ip = refl; same_length = refl }

pub whole_v6-is : IsPrefixOf zeros_v6 0 whole_v6
unfolding whole_v6
whole_v6-is = record { same_ip = refl; same_length = refl }

-- a prefix is known by its address and its length
pub prefix-one : (ip : Ip) (length : ℕ) (one other : Prefix) → IsPrefixOf ip length one → IsPrefixOf ip length other → one ≡ other
prefix-one ip length one other is also =
    let same_ip : one.ip ≡ other.ip = is.same_ip ∙ sym also.same_ip in
    let same_length : one.length ≡ other.length = is.same_length ∙ sym also.same_length in
    λ i. record {
      ip = same_ip i;
      length = same_length i;
      within = is_prop→PathP (λ j. same_length j ≤ bits_of (same_ip j)) (λ j. le_prop) one.within other.within i;
      host_bits = is_prop→PathP (λ j. number_of (same_ip j) % 2 ^ (bits_of (same_ip j) - same_length j) ≡ 0) (λ j. hlevel ℕ_set) one.host_bits other.host_bits i;
    }
