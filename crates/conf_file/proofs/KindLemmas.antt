-- The kind of a line is that of its first word.
use Rattle.std.proofs.Common.{◌≡◌, ℕ, List, [], ◌∷◌, Bool, true, false, Option, Some, None, ap, subst, ◌∙◌, inl, inr, codes, bytes_eq}
use Rattle.net_addr.specs.declared.addr.Ip.{Ip}
use Rattle.net_addr.specs.declared.prefix.Prefix.{Prefix}
use Rattle.conf_file.specs.declared.kinds.Kind.{Kind}
use Rattle.conf_file.specs.declared.kinds.Kind.TheVariants as kind
use Rattle.conf_file.specs.declared.lines.Line.{Line}
use Rattle.conf_file.specs.declared.drafts.Draft.{Draft}
use Rattle.conf_file.specs.declared.families.Family.{Family}
use Rattle.conf_file.specs.declared.families.Family.TheVariants.{Both}
use Rattle.conf_file.specs.ConfLines.{IsConfLine, IsTail}
use Rattle.conf_file.specs.Drafts.{is_closed, is_closed_kind, is_closed_to, kind_of_line}
use Rattle.conf_file.specs.Kinds.{kind_of}
use Rattle.conf_file.specs.RestrictLines.{AreFlags, IsAddressTail, IsDefaultOrPrefix, IsMaskOrFlags, IsMaskTail, IsOfFamily, IsRestrictTail, IsTargetTail, family_of}
use Rattle.conf_file.specs.OptionLines.{IsServerTail}
use Rattle.conf_file.specs.ShortLines.{IsOnly, SpellsFrequency, SpellsKeys, SpellsListen, SpellsLocal}
use Rattle.conf_file.proofs.RefusedLemmas.{LeadsTo}

flags_kind : (first : Prefix) (second : Option Prefix) (words : List (List ℕ)) (l : Line) → AreFlags first second words l → kind_of_line l ≡ kind.Restrict
flags_kind first second words l (given, list, is) = ap kind_of_line is

mask_kind : (ip : Ip) (words : List (List ℕ)) (l : Line) → IsMaskTail ip words l → kind_of_line l ≡ kind.Restrict
mask_kind ip [] l none = elim none [ ]
mask_kind ip (word ∷ words) l (length, mask, (prefix, is, flags)) = flags_kind prefix None words l flags

mask_or_flags_kind : (b : Bool) (ip : Ip) (word : List ℕ) (words : List (List ℕ)) (l : Line) → IsMaskOrFlags b ip word words l → kind_of_line l ≡ kind.Restrict
mask_or_flags_kind true ip word words l tail = mask_kind ip words l tail
mask_or_flags_kind false ip word words l (prefix, is, flags) = flags_kind prefix None (word ∷ words) l flags

address_kind : (ip : Ip) (words : List (List ℕ)) (l : Line) → IsAddressTail ip words l → kind_of_line l ≡ kind.Restrict
address_kind ip [] l (prefix, is, flags) = flags_kind prefix None [] l flags
address_kind ip (word ∷ words) l tail = mask_or_flags_kind (bytes_eq word (codes "mask")) ip word words l tail

default_kind : (b : Bool) (family : Family) (word : List ℕ) (words : List (List ℕ)) (l : Line) → IsDefaultOrPrefix b family word words l → kind_of_line l ≡ kind.Restrict
default_kind true family word words l (first, second, are, flags) = flags_kind first second words l flags
default_kind false family word words l (inl (ip, fits, spelled, allowed, tail)) = address_kind ip words l tail
default_kind false family word words l (inr (prefix, no_ip, spells, allowed, flags)) = flags_kind prefix None words l flags

target_kind : (family : Family) (words : List (List ℕ)) (l : Line) → IsTargetTail family words l → kind_of_line l ≡ kind.Restrict
target_kind family [] l none = elim none [ ]
target_kind family (word ∷ words) l tail = default_kind (bytes_eq word (codes "default")) family word words l tail

family_kind : (family : Option Family) (word : List ℕ) (words : List (List ℕ)) (l : Line) → IsOfFamily family word words l → kind_of_line l ≡ kind.Restrict
family_kind None word words l tail = target_kind Both (word ∷ words) l tail
family_kind (Some family) word words l tail = target_kind family words l tail

restrict_kind : (words : List (List ℕ)) (l : Line) → IsRestrictTail words l → kind_of_line l ≡ kind.Restrict
restrict_kind [] l none = elim none [ ]
restrict_kind (word ∷ words) l tail = family_kind (family_of word) word words l tail

only_kind : (spells : List ℕ → Line → Type 0) (of : Kind) → ((word : List ℕ) (l : Line) → spells word l → kind_of_line l ≡ of) → (words : List (List ℕ)) (l : Line) → IsOnly spells words l
    → kind_of_line l ≡ of
only_kind spells of each [] l none = elim none [ ]
only_kind spells of each (word ∷ []) l spelled = each word l spelled
only_kind spells of each (word ∷ more ∷ words) l none = elim none [ ]

server_tail_kind : (words : List (List ℕ)) (l : Line) → IsServerTail words l → kind_of_line l ≡ kind.Server
server_tail_kind [] l none = elim none [ ]
server_tail_kind (word ∷ words) l (addr, fits, stands, (given, list, is)) = ap kind_of_line is

-- the words after a first one mean a line of its kind
line_kind : (of : Kind) (words : List (List ℕ)) (l : Line) → IsTail of words l → kind_of_line l ≡ of
line_kind kind.Listen words l tail = only_kind SpellsListen kind.Listen (λ word m (addr, fits, spelled, is). ap kind_of_line is) words l tail
line_kind kind.Server words l tail = server_tail_kind words l tail
line_kind kind.Restrict words l tail = restrict_kind words l tail
line_kind kind.Limit words l (given, list, is) = ap kind_of_line is
line_kind kind.Mru words l (given, list, is) = ap kind_of_line is
line_kind kind.Keys words l tail = only_kind SpellsKeys kind.Keys (λ word m (all, is). ap kind_of_line is) words l tail
line_kind kind.Local words l tail = only_kind SpellsLocal kind.Local (λ word m (stratum, some, is). ap kind_of_line is) words l tail
line_kind kind.Frequency words l tail = only_kind SpellsFrequency kind.Frequency (λ word m (frequency, some, is). ap kind_of_line is) words l tail
line_kind kind.Ignored words l is = ap kind_of_line is

-- a line that is not closed by its first word is not closed by what it means
pub line_open : (draft : Draft) (words : List (List ℕ)) (l : Line) → is_closed_to draft words ≡ false → IsConfLine words l → is_closed draft (kind_of_line l) ≡ false
line_open draft [] l unclosed is = ap (λ k. is_closed draft (kind_of_line k)) is
line_open draft (word ∷ words) l unclosed (of, known, tail) =
    let P : Option Kind → Type 0 = λ k. is_closed_kind draft k ≡ false in
    let here : is_closed draft of ≡ false = subst P known unclosed in
    ap (is_closed draft) (line_kind of words l tail) ∙ here

one_kind : (o : Option Kind) (a b : Kind) → o ≡ Some a → o ≡ Some b → a ≡ b
one_kind o a b first second = cc

-- a known first word leads to what its kind takes
pub kind_leads : (word : List ℕ) (of : Kind) → kind_of word ≡ Some of → LeadsTo IsConfLine word (IsTail of)
kind_leads word of known = record {
  onward = λ words l (other, also, tail). (
      let P : Kind → Type 0 = λ k. IsTail k words l in
      subst P (one_kind (kind_of word) other of also known) tail);
  back = λ words l tail. (of, known, tail);
}
