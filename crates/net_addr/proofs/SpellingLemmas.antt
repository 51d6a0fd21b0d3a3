-- What the texts of `specs/Spelling.antt` spell, and that no text spells two addresses.
use Rattle.std.proofs.Common.{◌≡◌, ◌≢◌, ℕ, ◌⊎◌, List, [], ◌∷◌, ◌++◌, None, codes, decimal, drop, refl, sym, ap, ◌∙◌, subst, arith, lit≤, inl, inr, append_assoc, append-nil}
use Rattle.std.proofs.lemmas.Option.{none-some}
use Rattle.std.proofs.lemmas.List.{append_cancel_right}
use Rattle.std.specs.Net.Addr.{segments_of, octets_of}
use Rattle.std.specs.Net.Grammar.{IsDotted, IsColonHex}
use Rattle.std.specs.Net.Reader.{read_ipv4, read_ipv6, read_segments, read_segment}
use Rattle.std.proofs.NetLemmas.Numbers.{NoDigit, read_number_empty}
use Rattle.std.proofs.NetLemmas.Options.{same_parts}
use Rattle.std.proofs.NetLemmas.Ipv4.{read_ipv4_complete, read_ipv4_none}
use Rattle.std.proofs.NetLemmas.Ipv6.{EndsGroups, EndsGroups-nil, IsDotted-not_colon_hex, read_ipv6_complete}
use Rattle.std.proofs.NetLemmas.Texts.{IsColonHex-hex_groups_text, IsDotted-ipv4_text}
use Rattle.net_addr.proofs.GroupLemmas.{AllSegments-segments_of, length-segments_of, octets-below, octets_of-segments_of}
use Rattle.net_addr.specs.declared.addr.Addr.{Addr}
use Rattle.net_addr.specs.declared.addr.Ip.{Ip}
use Rattle.net_addr.specs.declared.addr.Ip.TheVariants.{V4, V6}
use Rattle.net_addr.specs.Addresses.{IsAddr, IsIp, bits_of}
use Rattle.net_addr.specs.Spelling.{NamesBits, Spells, SpellsIp, SpellsHost, before_port, ip_text, text_of}

-- a text in dotted decimal has one value
pub dotted-one : (text one other : List ℕ) → IsDotted text one → IsDotted text other → one ≡ other
dotted-one text one other h k =
    (same_parts _ _ _ _ (sym (read_ipv4_complete text one [] h (lit≤ tt)) ∙ read_ipv4_complete text other [] k (lit≤ tt))).0

-- and so has a text of groups
pub colon_hex-one : (text one other : List ℕ) → IsColonHex text one → IsColonHex text other → one ≡ other
colon_hex-one text one other h k =
    (same_parts _ _ _ _ (sym (read_ipv6_complete text one [] h EndsGroups-nil) ∙ read_ipv6_complete text other [] k EndsGroups-nil)).0

-- octets are known by their segments
pub segments_of-one : (one other : List ℕ) → IsIp (V6 one) → IsIp (V6 other) → segments_of one ≡ segments_of other → one ≡ other
segments_of-one one other h k same =
    sym (octets_of-segments_of 8 one h.0 h.1) ∙ ap octets_of same ∙ octets_of-segments_of 8 other k.0 k.1

-- a text spells one IP address at most
pub SpellsIp-one : (text : List ℕ) (one other : Ip) → IsIp one → IsIp other → SpellsIp text one → SpellsIp text other → one ≡ other
SpellsIp-one text (V4 one) (V4 other) fits fits_other h k = ap V4 (dotted-one text one other h k)
SpellsIp-one text (V4 one) (V6 other) fits fits_other h k = absurd (IsDotted-not_colon_hex text one (segments_of other) h k)
SpellsIp-one text (V6 one) (V4 other) fits fits_other h k = absurd (IsDotted-not_colon_hex text other (segments_of one) k h)
SpellsIp-one text (V6 one) (V6 other) fits fits_other h k = ap V6 (segments_of-one one other fits fits_other (colon_hex-one text _ _ h k))

-- no IP address begins with a bracket
read_ipv4-bracket : (rest : List ℕ) → read_ipv4 (91 ∷ rest) ≡ None
read_ipv4-bracket rest = read_ipv4_none [] (91 ∷ rest) tt (lit≤ tt) (omega arith)

read_ipv6-bracket : (rest : List ℕ) → read_ipv6 (91 ∷ rest) ≡ None
unfolding read_ipv6 read_segments read_segment
read_ipv6-bracket rest = rw (read_ipv4-bracket rest, read_number_empty 16 0xffff (91 ∷ rest) (lit≤ tt)) refl

pub SpellsIp-not_bracket : (rest : List ℕ) (ip : Ip) → ¬ (SpellsIp (91 ∷ rest) ip)
SpellsIp-not_bracket rest (V4 octets) h =
    none-some _ (sym (read_ipv4-bracket (rest ++ [])) ∙ read_ipv4_complete (91 ∷ rest) octets [] h (lit≤ tt))
SpellsIp-not_bracket rest (V6 octets) h =
    none-some _ (sym (read_ipv6-bracket (rest ++ [])) ∙ read_ipv6_complete (91 ∷ rest) _ [] h EndsGroups-nil)

-- nor what stands before a port and begins in dotted decimal
pub dotted-not_bracket : (text octets more rest : List ℕ) → IsDotted text octets → NoDigit 10 more → text ++ more ≢ 91 ∷ rest
dotted-not_bracket text octets more rest h stop same =
    none-some _ (sym (read_ipv4-bracket rest) ∙ ap read_ipv4 (sym same) ∙ read_ipv4_complete text octets more h stop)

-- groups do not begin in dotted decimal
read_ipv6-dotted : (text octets rest : List ℕ) → IsDotted text octets → NoDigit 10 rest → read_ipv6 (text ++ rest) ≡ None
unfolding read_ipv6 read_segments
read_ipv6-dotted text octets rest h stop = rw (read_ipv4_complete text octets rest h stop, h.value) refl

-- no IP address is another one in dotted decimal with more after it
pub dotted-no_more : (text front more : List ℕ) (mark : ℕ) (octets : List ℕ) (ip : Ip) → SpellsIp text ip → IsDotted front octets → NoDigit 10 (mark ∷ more) → text ≢ front ++ mark ∷ more
dotted-no_more text front more mark octets (V4 others) h k stop same =
    let alone = read_ipv4_complete text others [] h (lit≤ tt) in
    let begun = read_ipv4_complete front octets (mark ∷ more) k stop in
    let rest : [] ≡ mark ∷ more = (same_parts _ _ _ _ (sym alone ∙ ap read_ipv4 (append-nil text ∙ same) ∙ begun)).1 in
    cc
dotted-no_more text front more mark octets (V6 others) h k stop same =
    let alone = read_ipv6_complete text _ [] h EndsGroups-nil in
    none-some _ (sym (read_ipv6-dotted front octets (mark ∷ more) k stop) ∙ ap read_ipv6 (sym same ∙ sym (append-nil text)) ∙ alone)

-- nor is it another one of groups with more after it
pub colon_hex-no_more : (text front more : List ℕ) (mark : ℕ) (segments : List ℕ) (ip : Ip) → SpellsIp text ip → IsColonHex front segments → EndsGroups (mark ∷ more) → text ≢ front ++ mark ∷ more
colon_hex-no_more text front more mark segments (V4 others) h k stop same =
    none-some _ (sym (read_ipv6-dotted text others [] h (lit≤ tt)) ∙ ap read_ipv6 (append-nil text ∙ same) ∙ read_ipv6_complete front segments (mark ∷ more) k stop)
colon_hex-no_more text front more mark segments (V6 others) h k stop same =
    let alone = read_ipv6_complete text _ [] h EndsGroups-nil in
    let begun = read_ipv6_complete front segments (mark ∷ more) k stop in
    let rest : [] ≡ mark ∷ more = (same_parts _ _ _ _ (sym alone ∙ ap read_ipv6 (append-nil text ∙ same) ∙ begun)).1 in
    cc

-- what stands in brackets is one text
pub brackets-one : (one other : List ℕ) → codes "[" ++ one ++ codes "]" ≡ codes "[" ++ other ++ codes "]" → one ≡ other
brackets-one one other same = append_cancel_right one other (93 ∷ []) (ap (drop 1) same)

-- before a port too a text spells one IP address at most
pub SpellsHost-one : (text : List ℕ) (one other : Ip) → IsIp one → IsIp other → SpellsHost text one → SpellsHost text other → one ≡ other
SpellsHost-one text (V4 one) (V4 other) fits fits_other h k =
    SpellsIp-one text (V4 one) (V4 other) fits fits_other (rw h.2 h.1) (rw k.2 k.1)
SpellsHost-one text (V4 one) (V6 other) fits fits_other h k =
    absurd (SpellsIp-not_bracket (k.0 ++ 93 ∷ []) (V4 one) (rw (sym k.2 ∙ h.2) h.1))
SpellsHost-one text (V6 one) (V4 other) fits fits_other h k =
    absurd (SpellsIp-not_bracket (h.0 ++ 93 ∷ []) (V4 other) (rw (sym h.2 ∙ k.2) k.1))
SpellsHost-one text (V6 one) (V6 other) fits fits_other h k =
    let same : h.0 ≡ k.0 = brackets-one h.0 k.0 (sym h.2 ∙ k.2) in
    SpellsIp-one k.0 (V6 one) (V6 other) fits fits_other (subst (λ inner. SpellsIp inner (V6 one)) same h.1) k.1

-- and it is the one that the text spells alone, if any
pub SpellsIp-host-one : (text : List ℕ) (one other : Ip) → IsIp one → IsIp other → SpellsIp text one → SpellsHost text other → one ≡ other
SpellsIp-host-one text one (V4 other) fits fits_other h k =
    SpellsIp-one text one (V4 other) fits fits_other h (rw k.2 k.1)
SpellsIp-host-one text one (V6 other) fits fits_other h k =
    absurd (SpellsIp-not_bracket (k.0 ++ 93 ∷ []) one (rw (sym k.2) h))

-- a text that spells an address with its port, seen by the parts of the address
abbrev SpellsParts : List ℕ → Ip → ℕ → Type 0
SpellsParts text ip port = (host : List ℕ) × SpellsHost host ip × (text ≡ host ++ codes ":" ++ decimal port)

-- what stands in brackets and is followed by a port does not end in a bracket
brackets-no_more : (one other more : List ℕ) (segments others : List ℕ) → IsColonHex one segments → IsColonHex other others → codes "[" ++ one ++ codes "]" ≢ codes "[" ++ other ++ codes "]" ++ 58 ∷ more
brackets-no_more one other more segments others h k same =
    let alone = read_ipv6_complete one segments (93 ∷ []) h ((lit≤ tt, omega arith), λ colon. absurd (omega arith)) in
    let begun = read_ipv6_complete other others (93 ∷ 58 ∷ more) k ((lit≤ tt, omega arith), λ colon. absurd (omega arith)) in
    let inner : one ++ 93 ∷ [] ≡ other ++ 93 ∷ 58 ∷ more = ap (drop 1) same ∙ append_assoc other (93 ∷ []) (58 ∷ more) in
    let rest : 93 ∷ [] ≡ 93 ∷ 58 ∷ more = (same_parts _ _ _ _ (sym alone ∙ ap read_ipv6 inner ∙ begun)).1 in
    let none : [] ≡ 58 ∷ more = ap (drop 1) rest in
    cc

-- a text with a port is none without one
SpellsParts-not_alone : (text : List ℕ) (ip : Ip) (port : ℕ) (other : Ip) → SpellsParts text ip port → ¬ (SpellsIp text other)
SpellsParts-not_alone text (V4 octets) port other (host, spelled, split) h =
    let same : text ≡ host ++ 58 ∷ decimal port = split ∙ append_assoc host (58 ∷ []) (decimal port) in
    dotted-no_more text host (decimal port) 58 octets other h (rw spelled.2 spelled.1) (lit≤ tt) same
SpellsParts-not_alone text (V6 octets) port other (host, spelled, split) h =
    SpellsIp-not_bracket (spelled.0 ++ codes "]" ++ codes ":" ++ decimal port) other (rw (sym (split ∙ ap (λ front. front ++ codes ":" ++ decimal port) spelled.2)) h)

SpellsParts-not_host : (text : List ℕ) (ip : Ip) (port : ℕ) (other : Ip) → SpellsParts text ip port → ¬ (SpellsHost text other)
SpellsParts-not_host text ip port (V4 others) parts (inner, h, same) =
    SpellsParts-not_alone text ip port (V4 others) parts (rw same h)
SpellsParts-not_host text (V4 octets) port (V6 others) (host, spelled, split) (inner, h, same) =
    let begun : host ++ 58 ∷ decimal port ≡ 91 ∷ (inner ++ 93 ∷ []) = sym (append_assoc host (58 ∷ []) (decimal port)) ∙ sym split ∙ same in
    dotted-not_bracket host octets (58 ∷ decimal port) _ (rw spelled.2 spelled.1) (lit≤ tt) begun
SpellsParts-not_host text (V6 octets) port (V6 others) (host, spelled, split) (inner, h, same) =
    let both : codes "[" ++ inner ++ codes "]" ≡ codes "[" ++ spelled.0 ++ codes "]" ++ 58 ∷ decimal port = sym same ∙ split ∙ ap (λ front. front ++ codes ":" ++ decimal port) spelled.2 ∙ append_assoc (codes "[" ++ spelled.0 ++ codes "]") (58 ∷ []) (decimal port) in
    brackets-no_more inner spelled.0 (decimal port) _ _ h spelled.1 both

pub Spells-not_bare : (text : List ℕ) (a : Addr) (ip : Ip) → Spells text a → ¬ (SpellsIp text ip ⊎ SpellsHost text ip)
Spells-not_bare text a ip named (inl h) = SpellsParts-not_alone text a.ip a.port ip named h
Spells-not_bare text a ip named (inr h) = SpellsParts-not_host text a.ip a.port ip named h

-- nor is a text with a length one without
slash : (text front : List ℕ) (length : ℕ) (one other : Ip) → SpellsIp text one → SpellsIp front other → text ≢ front ++ 47 ∷ decimal length
slash text front length one (V4 octets) h k = dotted-no_more text front (decimal length) 47 octets one h k (lit≤ tt)
slash text front length one (V6 octets) h k = colon_hex-no_more text front (decimal length) 47 _ one h k ((lit≤ tt, omega arith), λ colon. absurd (omega arith))

-- so where a text spells an IP address, it names all its bits and no others
pub bare-bits : (text : List ℕ) (ip other : Ip) (length : ℕ) → IsIp ip → IsIp other → SpellsIp text ip → NamesBits text other length → (ip ≡ other) × (bits_of ip ≡ length)
bare-bits text ip other length fits fits_other h (inl (k, all)) =
    let same = SpellsIp-one text ip other fits fits_other h k in
    (same, ap bits_of same ∙ sym all)
bare-bits text ip other length fits fits_other h (inr (front, k, within, split)) =
    absurd (slash text front length ip other h k (split ∙ append_assoc front (47 ∷ []) (decimal length)))

-- what is written of an IP address spells it
pub ip_text-spells : (ip : Ip) → IsIp ip → SpellsIp (ip_text ip) ip
unfolding ip_text
ip_text-spells (V4 octets) fits = IsDotted-ipv4_text octets fits.0 (octets-below octets fits.1)
ip_text-spells (V6 octets) fits =
    IsColonHex-hex_groups_text (segments_of octets) (length-segments_of 8 octets fits.0) (AllSegments-segments_of octets fits.1)

-- and so does what is written of an address
pub text_of-spells : (a : Addr) → IsAddr a → Spells (text_of a) a
unfolding text_of
text_of-spells a fits = (before_port a.ip (ip_text a.ip), (ip_text a.ip, ip_text-spells a.ip fits.ip, refl), refl)
