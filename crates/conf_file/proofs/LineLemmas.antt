-- Lines with addresses: each goes on from its beginning, and what a good first word leads to.
use Rattle.std.proofs.Common.{◌≡◌, ℕ, List, [], ◌∷◌, Bool, true, false, Option, Some, None, codes, bytes_eq, refl, sym, ap, subst, ◌∙◌, inl, inr, lit<}
use Rattle.net_addr.specs.declared.addr.Addr.{Addr}
use Rattle.net_addr.specs.declared.addr.Ip.{Ip}
use Rattle.net_addr.specs.declared.prefix.Prefix.{Prefix}
use Rattle.net_addr.specs.Addresses.{IsAddr, IsIp, bits_of}
use Rattle.net_addr.specs.Prefixes.{without_host_bits}
use Rattle.net_addr.specs.Spelling.{Spells, SpellsIp, SpellsPrefix, StandsFor}
use Rattle.refusals.specs.Refusals.{GoesOn}
use Rattle.conf_file.specs.declared.lines.Line.{Line}
use Rattle.conf_file.specs.declared.lines.Line.TheVariants.{Listen, Server, Restrict}
use Rattle.conf_file.specs.declared.families.Family.{Family}
use Rattle.conf_file.specs.declared.families.Family.TheVariants.{Both, OnlyV4, OnlyV6}
use Rattle.conf_file.specs.declared.option_lines.TheConstants.{NTP_PORT}
use Rattle.conf_file.specs.OptionLines.{IsServerAt, IsServerTail, server_rules, server_with}
use Rattle.conf_file.specs.RestrictLines.{AreDefaults, AreFlags, AreFlagsOf, IsAddressTail, IsDefaultOrPrefix, IsMaskOrFlags, IsMaskTail, IsMaskWord, IsOfFamily, IsPrefixOf, IsPrefixTail, IsRestrictTail, IsTargetTail, family_of, is_allowed, zeros_v4, zeros_v6}
use Rattle.conf_file.specs.RestrictOptions.{flag_rules, restricted_by}
use Rattle.conf_file.specs.ShortLines.{IsOnly, SpellsListen}
use Rattle.conf_file.proofs.AddressLemmas.{full_mask, no_addr, no_addr-fits, no_addr-spelled, no_addr_text, prefix-one, some_addr, some_addr-stands, whole_v4, whole_v4-is, whole_v6, whole_v6-is, zeros_fit, zeros_text}
use Rattle.conf_file.proofs.OptionLineLemmas.{none_given}
use Rattle.conf_file.proofs.RefusedLemmas.{LeadsTo, MeansAs}

same_some : {X : Type 0} (x y : X) → Some x ≡ Some y → x ≡ y
same_some x y same = cc

no_some : {X : Type 0} (x : X) → None ≡ Some x → ⊥
no_some x same = cc

-- `listen` goes on, and its word has one address
pub some_listen : GoesOn (IsOnly SpellsListen) []
some_listen = (no_addr_text ∷ [], Listen no_addr, (no_addr, no_addr-fits, no_addr-spelled, refl))

pub no_listen : (word : List ℕ) → ((a : Addr) → IsAddr a → Spells word a → None ≡ Some a) → (line : Line) → ¬ SpellsListen word line
no_listen word only line (addr, fits, spelled, is) = no_some addr (only addr fits spelled)

pub one_listen : (word : List ℕ) (addr : Addr) → ((a : Addr) → IsAddr a → Spells word a → Some addr ≡ Some a) → (other : Line) → SpellsListen word other → other ≡ Listen addr
one_listen word addr only other (also, fits, spelled, is) = is ∙ ap Listen (sym (same_some addr also (only also fits spelled)))

-- no flags may stand for prefixes
no_flags : (first : Prefix) (second : Option Prefix) → AreFlags first second [] (Restrict (restricted_by first second []))
no_flags first second = none_given flag_rules (λ given. Restrict (restricted_by first second given))

-- `server` goes on, and its address leads to options
pub some_server : GoesOn IsServerTail []
some_server = (
  zeros_text ∷ [],
  Server (server_with (some_addr NTP_PORT) []),
  (
    some_addr NTP_PORT,
    record { ip = zeros_fit; port = lit< tt },
    some_addr-stands NTP_PORT,
    none_given server_rules (λ given. Server (server_with (some_addr NTP_PORT) given)),
  ),
)

pub no_server : (word : List ℕ) → ((a : Addr) → IsAddr a → StandsFor word NTP_PORT a → None ≡ Some a) → (more : List (List ℕ)) (line : Line) → ¬ IsServerTail (word ∷ more) line
no_server word only more line (addr, fits, stands, are) = no_some addr (only addr fits stands)

pub server_leads : (word : List ℕ) (addr : Addr) → IsAddr addr → StandsFor word NTP_PORT addr → ((a : Addr) → IsAddr a → StandsFor word NTP_PORT a → Some addr ≡ Some a)
    → LeadsTo IsServerTail word (IsServerAt addr)
server_leads word addr fits stands only = record {
  onward = λ words line (also, also_fits, also_stands, are). (
      let same : also ≡ addr = sym (same_some addr also (only also also_fits also_stands)) in
      let P : Addr → Type 0 = λ a. IsServerAt a words line in
      subst P same are);
  back = λ words line are. (addr, fits, stands, are);
}

-- flags for the first bits of an address are flags for its prefix
pub flags_of_prefix : (ip : Ip) (length : ℕ) (prefix : Prefix) → IsPrefixOf (without_host_bits length ip) length prefix → (words : List (List ℕ)) (line : Line)
    → AreFlagsOf ip length words line → AreFlags prefix None words line
flags_of_prefix ip length prefix is words line (other, also, are) =
    let P : Prefix → Type 0 = λ p. AreFlags p None words line in
    subst P (prefix-one (without_host_bits length ip) length other prefix also is) are

-- a mask leads to flags
pub mask_leads : (ip : Ip) (word : List ℕ) (length : ℕ) (prefix : Prefix) → IsMaskWord ip word length → ((l : ℕ) → IsMaskWord ip word l → Some length ≡ Some l)
    → IsPrefixOf (without_host_bits length ip) length prefix → LeadsTo (IsMaskTail ip) word (AreFlags prefix None)
mask_leads ip word length prefix mask only is = record {
  onward = λ words line (other, also, are). (
      let same : other ≡ length = sym (same_some length other (only other also)) in
      let P : ℕ → Type 0 = λ l. AreFlagsOf ip l words line in
      flags_of_prefix ip length prefix is words line (subst P same are));
  back = λ words line are. (length, mask, (prefix, is, are));
}

pub no_mask : (ip : Ip) (word : List ℕ) → ((l : ℕ) → IsMaskWord ip word l → None ≡ Some l) → (more : List (List ℕ)) (line : Line) → ¬ IsMaskTail ip (word ∷ more) line
no_mask ip word only more line (length, mask, are) = no_some length (only length mask)

-- after `mask` a line goes on, where the address alone has a prefix
pub some_mask : (ip : Ip) (prefix : Prefix) → IsPrefixOf (without_host_bits (bits_of ip) ip) (bits_of ip) prefix → GoesOn (IsMaskTail ip) []
some_mask ip prefix is =
    let (word, mask) = full_mask ip in
    (word ∷ [], Restrict (restricted_by prefix None []), (bits_of ip, mask, (prefix, is, no_flags prefix None)))

-- `mask` leads to a mask, and another word is a flag's
pub mask_word_leads : (ip : Ip) (word : List ℕ) → bytes_eq word (codes "mask") ≡ true → LeadsTo (IsAddressTail ip) word (IsMaskTail ip)
mask_word_leads ip word is = record {
  onward = λ words line tail. (let P : Bool → Type 0 = λ b. IsMaskOrFlags b ip word words line in subst P is tail);
  back = λ words line tail. (let P : Bool → Type 0 = λ b. IsMaskOrFlags b ip word words line in subst P (sym is) tail);
}

pub address_means : (ip : Ip) (word : List ℕ) (prefix : Prefix) → bytes_eq word (codes "mask") ≡ false → IsPrefixOf (without_host_bits (bits_of ip) ip) (bits_of ip) prefix
    → MeansAs (IsAddressTail ip) word (AreFlags prefix None)
address_means ip word prefix unlike is = record {
  onward = λ words line tail. (
      let P : Bool → Type 0 = λ b. IsMaskOrFlags b ip word words line in
      flags_of_prefix ip (bits_of ip) prefix is (word ∷ words) line (subst P unlike tail));
  back = λ words line are. (
      let P : Bool → Type 0 = λ b. IsMaskOrFlags b ip word words line in
      let tail : IsMaskOrFlags false ip word words line = (prefix, is, are) in
      subst P (sym unlike) tail);
}

pub some_address : (ip : Ip) (prefix : Prefix) → IsPrefixOf (without_host_bits (bits_of ip) ip) (bits_of ip) prefix → GoesOn (IsAddressTail ip) []
some_address ip prefix is = ([], Restrict (restricted_by prefix None []), (prefix, is, no_flags prefix None))

-- the prefixes that `default` stands for are known
defaults-one : (family : Family) (first : Prefix) (second : Option Prefix) (other_first : Prefix) (other_second : Option Prefix) → AreDefaults family first second → AreDefaults family other_first other_second
    → (first ≡ other_first) × (second ≡ other_second)
defaults-one Both first second other_first other_second (one, (v6, is, same)) (other, (also_v6, also, also_same)) =
    (prefix-one zeros_v4 0 first other_first one other, same ∙ ap Some (prefix-one zeros_v6 0 v6 also_v6 is also) ∙ sym also_same)
defaults-one OnlyV4 first second other_first other_second (one, same) (other, also_same) = (prefix-one zeros_v4 0 first other_first one other, same ∙ sym also_same)
defaults-one OnlyV6 first second other_first other_second (one, same) (other, also_same) = (prefix-one zeros_v6 0 first other_first one other, same ∙ sym also_same)

-- `default` leads to flags
pub default_leads : (family : Family) (word : List ℕ) (first : Prefix) (second : Option Prefix) → bytes_eq word (codes "default") ≡ true → AreDefaults family first second
    → LeadsTo (IsTargetTail family) word (AreFlags first second)
default_leads family word first second is are = record {
  onward = λ words line tail. (
      let P : Bool → Type 0 = λ b. IsDefaultOrPrefix b family word words line in
      let (one, other, also, flags) = subst P is tail in
      let same = defaults-one family one other first second also are in
      let Q : Prefix → Type 0 = λ p. AreFlags p other words line in
      let R : Option Prefix → Type 0 = λ p. AreFlags first p words line in
      subst R same.1 (subst Q same.0 flags));
  back = λ words line flags. (
      let P : Bool → Type 0 = λ b. IsDefaultOrPrefix b family word words line in
      let tail : IsDefaultOrPrefix true family word words line = (first, second, are, flags) in
      subst P (sym is) tail);
}

-- what follows a word that is not `default`
prefix_tail : (family : Family) (word : List ℕ) (words : List (List ℕ)) (line : Line) → bytes_eq word (codes "default") ≡ false → IsTargetTail family (word ∷ words) line → IsPrefixTail family word words line
prefix_tail family word words line unlike tail =
    let P : Bool → Type 0 = λ b. IsDefaultOrPrefix b family word words line in
    subst P unlike tail

target_tail : (family : Family) (word : List ℕ) (words : List (List ℕ)) (line : Line) → bytes_eq word (codes "default") ≡ false → IsPrefixTail family word words line → IsTargetTail family (word ∷ words) line
target_tail family word words line unlike tail =
    let P : Bool → Type 0 = λ b. IsDefaultOrPrefix b family word words line in
    subst P (sym unlike) tail

-- an address leads to what may follow it
address_onward : (family : Family) (word : List ℕ) (ip : Ip) (words : List (List ℕ)) (line : Line) → IsIp ip → SpellsIp word ip → ((i : Ip) → IsIp i → SpellsIp word i → Some ip ≡ Some i)
    → IsPrefixTail family word words line → (is_allowed family ip ≡ true) × IsAddressTail ip words line
address_onward family word ip words line fits spelled only (inl (also, also_fits, also_spelled, allowed, tail)) =
    let same : also ≡ ip = sym (same_some ip also (only also also_fits also_spelled)) in
    let P : Ip → Type 0 = λ i. (is_allowed family i ≡ true) × IsAddressTail i words line in
    subst P same (allowed, tail)
address_onward family word ip words line fits spelled only (inr (prefix, no_ip, spells, allowed, flags)) = absurd (no_ip ip fits spelled)

pub address_leads : (family : Family) (word : List ℕ) (ip : Ip) → bytes_eq word (codes "default") ≡ false → IsIp ip → SpellsIp word ip → ((i : Ip) → IsIp i → SpellsIp word i → Some ip ≡ Some i)
    → is_allowed family ip ≡ true → LeadsTo (IsTargetTail family) word (IsAddressTail ip)
address_leads family word ip unlike fits spelled only allowed = record {
  onward = λ words line tail. (address_onward family word ip words line fits spelled only (prefix_tail family word words line unlike tail)).1;
  back = λ words line tail. target_tail family word words line unlike (inl (ip, fits, spelled, allowed, tail));
}

pub no_address : (family : Family) (word : List ℕ) (ip : Ip) → bytes_eq word (codes "default") ≡ false → IsIp ip → SpellsIp word ip → ((i : Ip) → IsIp i → SpellsIp word i → Some ip ≡ Some i)
    → is_allowed family ip ≡ false → (more : List (List ℕ)) (line : Line) → ¬ IsTargetTail family (word ∷ more) line
no_address family word ip unlike fits spelled only not_allowed more line tail =
    let allowed : is_allowed family ip ≡ true = (address_onward family word ip more line fits spelled only (prefix_tail family word more line unlike tail)).0 in
    cc

-- a prefix that is unlike address leads to flags
prefix_onward : (family : Family) (word : List ℕ) (words : List (List ℕ)) (line : Line) → ((ip : Ip) → IsIp ip → ¬ SpellsIp word ip) → IsPrefixTail family word words line
    → (prefix : Prefix) × SpellsPrefix word prefix × (is_allowed family prefix.ip ≡ true) × AreFlags prefix None words line
prefix_onward family word words line no_ip (inl (ip, fits, spelled, allowed, tail)) = absurd (no_ip ip fits spelled)
prefix_onward family word words line no_ip (inr (prefix, also, spells, allowed, flags)) = (prefix, spells, allowed, flags)

pub prefix_leads : (family : Family) (word : List ℕ) (prefix : Prefix) → bytes_eq word (codes "default") ≡ false → ((ip : Ip) → IsIp ip → ¬ SpellsIp word ip) → SpellsPrefix word prefix
    → ((p : Prefix) → SpellsPrefix word p → Some prefix ≡ Some p) → is_allowed family prefix.ip ≡ true → LeadsTo (IsTargetTail family) word (AreFlags prefix None)
prefix_leads family word prefix unlike no_ip spells only allowed = record {
  onward = λ words line tail. (
      let (also, also_spells, also_allowed, flags) = prefix_onward family word words line no_ip (prefix_tail family word words line unlike tail) in
      let P : Prefix → Type 0 = λ p. AreFlags p None words line in
      subst P (sym (same_some prefix also (only also also_spells))) flags);
  back = λ words line flags. target_tail family word words line unlike (inr (prefix, no_ip, spells, allowed, flags));
}

pub no_prefix : (family : Family) (word : List ℕ) → bytes_eq word (codes "default") ≡ false → ((ip : Ip) → IsIp ip → ¬ SpellsIp word ip)
    → ((p : Prefix) → SpellsPrefix word p → None ≡ Some p) → (more : List (List ℕ)) (line : Line) → ¬ IsTargetTail family (word ∷ more) line
no_prefix family word unlike no_ip only more line tail =
    let (prefix, spells, allowed, flags) = prefix_onward family word more line no_ip (prefix_tail family word more line unlike tail) in
    no_some prefix (only prefix spells)

pub other_prefix : (family : Family) (word : List ℕ) (prefix : Prefix) → bytes_eq word (codes "default") ≡ false → ((ip : Ip) → IsIp ip → ¬ SpellsIp word ip)
    → ((p : Prefix) → SpellsPrefix word p → Some prefix ≡ Some p) → is_allowed family prefix.ip ≡ false → (more : List (List ℕ)) (line : Line) → ¬ IsTargetTail family (word ∷ more) line
other_prefix family word prefix unlike no_ip only not_allowed more line tail =
    let (also, spells, allowed, flags) = prefix_onward family word more line no_ip (prefix_tail family word more line unlike tail) in
    let P : Prefix → Type 0 = λ p. is_allowed family p.ip ≡ true in
    let same : is_allowed family prefix.ip ≡ true = subst P (sym (same_some prefix also (only also spells))) allowed in
    cc

-- a prefix may stand in each family, and after `restrict`
pub some_target : (family : Family) → GoesOn (IsTargetTail family) []
some_target Both = (codes "default" ∷ [], Restrict (restricted_by whole_v4 (Some whole_v6) []), (whole_v4, Some whole_v6, (whole_v4-is, (whole_v6, whole_v6-is, refl)), no_flags whole_v4 (Some whole_v6)))
some_target OnlyV4 = (codes "default" ∷ [], Restrict (restricted_by whole_v4 None []), (whole_v4, None, (whole_v4-is, refl), no_flags whole_v4 None))
some_target OnlyV6 = (codes "default" ∷ [], Restrict (restricted_by whole_v6 None []), (whole_v6, None, (whole_v6-is, refl), no_flags whole_v6 None))

pub some_restrict : GoesOn IsRestrictTail []
some_restrict = (codes "default" ∷ [], Restrict (restricted_by whole_v4 (Some whole_v6) []), (whole_v4, Some whole_v6, (whole_v4-is, (whole_v6, whole_v6-is, refl)), no_flags whole_v4 (Some whole_v6)))

-- a family leads to a prefix of it, and another word is the prefix
pub family_leads : (word : List ℕ) (family : Family) → family_of word ≡ Some family → LeadsTo IsRestrictTail word (IsTargetTail family)
family_leads word family is = record {
  onward = λ words line tail. (let P : Option Family → Type 0 = λ f. IsOfFamily f word words line in subst P is tail);
  back = λ words line tail. (let P : Option Family → Type 0 = λ f. IsOfFamily f word words line in subst P (sym is) tail);
}

pub family_means : (word : List ℕ) → family_of word ≡ None → MeansAs IsRestrictTail word (IsTargetTail Both)
family_means word is = record {
  onward = λ words line tail. (let P : Option Family → Type 0 = λ f. IsOfFamily f word words line in subst P is tail);
  back = λ words line tail. (let P : Option Family → Type 0 = λ f. IsOfFamily f word words line in subst P (sym is) tail);
}
