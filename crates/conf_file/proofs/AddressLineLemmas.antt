-- Readings of what follows an address in a `restrict` line.
use Rattle.std.proofs.Common.{◌≡◌, ℕ, ◌+◌, ◌^◌, ◌<◌, List, [], ◌∷◌, true, false, Some, None, Result, Ok, Err, codes, bytes_eq, refl, subst, arith}
use Rattle.net_addr.specs.declared.addr.Ip.{Ip}
use Rattle.net_addr.specs.declared.prefix.Prefix.{Prefix}
use Rattle.net_addr.specs.Addresses.{bits_of}
use Rattle.net_addr.specs.Prefixes.{without_host_bits}
use Rattle.conf_file.specs.declared.lines.Line.{Line}
use Rattle.conf_file.specs.declared.lines.Line.TheVariants.{Restrict}
use Rattle.text_words.specs.Words.{begins_with}
use Rattle.conf_file.specs.Options.{IsReadAs}
use Rattle.conf_file.specs.RestrictLines.{AreFlags, IsAddressTail, IsMaskTail, IsMaskWord, IsPrefixOf}
use Rattle.conf_file.specs.RestrictOptions.{flag_rules, restricted_by}
use Rattle.conf_file.proofs.LineLemmas.{address_means, flags_of_prefix, mask_leads, mask_word_leads, no_mask, some_address, some_mask}
use Rattle.conf_file.proofs.OptionLineLemmas.{none_given}
use Rattle.conf_file.proofs.ReadingLemmas.{read_after, read_as, read_bad, read_end}

-- the prefix is that of the address alone
abbrev pub IsAlone : Ip → Prefix → Type 0
IsAlone ip prefix = IsPrefixOf (without_host_bits (bits_of ip) ip) (bits_of ip) prefix

-- an address and what is no mask: flags for its prefix
pub flags_read : (number : ℕ) (ip : Ip) (prefix : Prefix) (all : List (List ℕ)) (result : Result Line ℕ) → IsAlone ip prefix → begins_with all (codes "mask") ≡ false
    → IsReadAs number (AreFlags prefix None) all result → IsReadAs number (IsAddressTail ip) all result
flags_read number ip prefix [] (Ok line) is unlike read = record {
  found = (prefix, is, read.found);
  only = λ other tail. read.only other (flags_of_prefix ip (bits_of ip) prefix is [] other tail);
  refused = tt;
}
flags_read number ip prefix [] (Err told) is unlike read =
    let made = read.only (Restrict (restricted_by prefix None [])) (none_given flag_rules (λ given. Restrict (restricted_by prefix None given))) in
    absurd (no_error told (Restrict (restricted_by prefix None [])) made)
  where
    no_error : (word : ℕ) (line : Line) → ◌≡◌ {A = Result Line ℕ} (Err word) (Ok line) → ⊥
    no_error word line same = cc
flags_read number ip prefix (word ∷ words) result is unlike read =
    read_as (IsAddressTail ip) (AreFlags prefix None) number (word ∷ words) word words result refl (address_means ip word prefix unlike is) (some_address ip prefix is) read

-- `mask` and nothing else
pub mask_missing : (number : ℕ) (ip : Ip) (prefix : Prefix) (all : List (List ℕ)) (word : List ℕ) (words : List (List ℕ))
    → IsAlone ip prefix → all ≡ word ∷ words → bytes_eq word (codes "mask") ≡ true → words ≡ [] → number + 1 < 2 ^ 32
    → IsReadAs number (IsAddressTail ip) all (Err (number + 1))
mask_missing number ip prefix all word words is eq like ended low =
    read_after (IsAddressTail ip) (IsMaskTail ip) number all word words (Err (number + 1)) eq (mask_word_leads ip word like)
    (read_end (IsMaskTail ip) (number + 1) words ended (λ line none. none) (some_mask ip prefix is) low)

-- `mask` and a word that is no mask
pub mask_bad : (number : ℕ) (ip : Ip) (prefix : Prefix) (all : List (List ℕ)) (word : List ℕ) (words : List (List ℕ)) (mask : List ℕ) (rest : List (List ℕ))
    → IsAlone ip prefix → all ≡ word ∷ words → bytes_eq word (codes "mask") ≡ true → words ≡ mask ∷ rest → ((l : ℕ) → IsMaskWord ip mask l → None ≡ Some l) → number + 1 < 2 ^ 32
    → IsReadAs number (IsAddressTail ip) all (Err (number + 1))
mask_bad number ip prefix all word words mask rest is eq like next only low =
    read_after (IsAddressTail ip) (IsMaskTail ip) number all word words (Err (number + 1)) eq (mask_word_leads ip word like)
    (read_bad (IsMaskTail ip) (number + 1) words mask rest next (no_mask ip mask only) (some_mask ip prefix is) low)

-- `mask`, a mask, and flags
pub mask_read : (number : ℕ) (ip : Ip) (all : List (List ℕ)) (word : List ℕ) (words : List (List ℕ)) (mask : List ℕ) (rest : List (List ℕ)) (length : ℕ) (masked : Prefix) (result : Result Line ℕ)
    → all ≡ word ∷ words → bytes_eq word (codes "mask") ≡ true → words ≡ mask ∷ rest → IsMaskWord ip mask length → ((l : ℕ) → IsMaskWord ip mask l → Some length ≡ Some l)
    → IsPrefixOf (without_host_bits length ip) length masked → IsReadAs (number + 2) (AreFlags masked None) rest result → IsReadAs number (IsAddressTail ip) all result
mask_read number ip all word words mask rest length masked result eq like next found only is read =
    let P : ℕ → Type 0 = λ n. IsReadAs n (AreFlags masked None) rest result in
    let two : number + 2 ≡ (number + 1) + 1 = omega arith in
    read_after (IsAddressTail ip) (IsMaskTail ip) number all word words result eq (mask_word_leads ip word like)
    (read_after (IsMaskTail ip) (AreFlags masked None) (number + 1) words mask rest result next (mask_leads ip mask length masked found only is) (subst P two read))
