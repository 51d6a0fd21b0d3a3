-- The key file of a configuration has a name of visible ASCII.
use Rattle.std.proofs.Common.{◌≡◌, ◌<◌, ◌≤◌, ◌∷◌, ℕ, zero, suc, List, [], true, false, Option, None, Some, get_or, refl, sym, subst, arith}
use Rattle.std.specs.Option.{ForSome}
use Rattle.std.specs.Str.{IsUtf8}
use Rattle.std.proofs.lemmas.Str.{IsUtf8-from_ascii}
use Rattle.refusals.specs.Lines.{IsAfter}
use Rattle.conf_file.proofs.KindLemmas.{line_open}
use Rattle.conf_file.specs.ConfLines.{IsConfLine, IsTail}
use Rattle.conf_file.specs.ConfTexts.{IsConfText, conf_grammar}
use Rattle.conf_file.specs.Drafts.{IsTakenInto, is_closed, is_closed_kind, is_closed_to}
use Rattle.conf_file.specs.Kinds.{kind_of}
use Rattle.conf_file.specs.ShortLines.{IsOnly, SpellsKeys}
use Rattle.conf_file.specs.declared.conf.Conf.{Conf}
use Rattle.conf_file.specs.declared.drafts.Draft.{Draft}
use Rattle.conf_file.specs.declared.kinds.Kind.{Kind}
use Rattle.conf_file.specs.declared.kinds.Kind.TheVariants as kind
use Rattle.conf_file.specs.declared.lines.Line.{Line}
use Rattle.conf_file.specs.declared.lines.Line.TheVariants as line
use Rattle.setup.specs.Files.{IsFileName}

-- a draft that is closed to `keys` lines alone
abbrev keyed : Draft → Draft
keyed draft = record draft { listen = []; servers = []; rate = None; limits = None; keys = Some []; local = None; freq = None }

-- a line of another kind names no key file
no_keys : (draft : Draft) (of : Kind) (word : List ℕ) (words : List (List ℕ)) (name : List ℕ) → kind_of word ≡ Some of → IsTail of words (line.Keys name) → is_closed (keyed draft) of ≡ false → ⊥
no_keys draft of word words name known tail unclosed =
    let P : Option Kind → Type 0 = λ k. is_closed_kind (keyed draft) k ≡ false in
    let here : is_closed_to (keyed draft) (word ∷ words) ≡ false = subst P (sym known) unclosed in
    let closed : true ≡ false = line_open (keyed draft) (word ∷ words) (line.Keys name) here (of, known, tail) in
    cc

same_name : (name word : List ℕ) → line.Keys name ≡ line.Keys word → name ≡ word
same_name name word same = cc

named_only : (words : List (List ℕ)) (name : List ℕ) → IsOnly SpellsKeys words (line.Keys name) → IsFileName name
named_only [] name none = elim none [ ]
named_only (word ∷ []) name (all, is) = subst IsFileName (sym (same_name name word is)) all
named_only (word ∷ more ∷ words) name none = elim none [ ]

named_tail : (draft : Draft) (of : Kind) (word : List ℕ) (words : List (List ℕ)) (name : List ℕ) → kind_of word ≡ Some of → IsTail of words (line.Keys name) → IsFileName name
named_tail draft kind.Listen word words name known tail = absurd (no_keys draft kind.Listen word words name known tail refl)
named_tail draft kind.Server word words name known tail = absurd (no_keys draft kind.Server word words name known tail refl)
named_tail draft kind.Restrict word words name known tail = absurd (no_keys draft kind.Restrict word words name known tail refl)
named_tail draft kind.Limit word words name known tail = absurd (no_keys draft kind.Limit word words name known tail refl)
named_tail draft kind.Mru word words name known tail = absurd (no_keys draft kind.Mru word words name known tail refl)
named_tail draft kind.Keys word words name known tail = named_only words name tail
named_tail draft kind.Local word words name known tail = absurd (no_keys draft kind.Local word words name known tail refl)
named_tail draft kind.Frequency word words name known tail = absurd (no_keys draft kind.Frequency word words name known tail refl)
named_tail draft kind.Ignored word words name known tail = absurd (no_keys draft kind.Ignored word words name known tail refl)

named_line : (draft : Draft) (words : List (List ℕ)) (name : List ℕ) → IsConfLine words (line.Keys name) → IsFileName name
named_line draft [] name is = cc
named_line draft (word ∷ words) name (of, known, tail) = named_tail draft of word words name known tail

-- the key file of a draft, if it has one, has a name of visible ASCII
abbrev IsNamed : Draft → Type 0
IsNamed draft = ForSome draft.keys IsFileName

named_keys : (draft : Draft) (words : List (List ℕ)) (name : List ℕ) → IsConfLine words (line.Keys name) → ForSome (Some name) IsFileName
named_keys draft words name means other same =
    let the_name : name ≡ other = cc in
    subst IsFileName the_name (named_line draft words name means)

named_taken : (draft next : Draft) (words : List (List ℕ)) (l : Line) → IsNamed draft → IsConfLine words l → IsTakenInto draft l next → IsNamed next
named_taken draft next words line.Nothing named means is = subst IsNamed (sym is) named
named_taken draft next words (line.Listen addr) named means is = subst IsNamed (sym is) named
named_taken draft next words (line.Server server) named means is = subst IsNamed (sym is) named
named_taken draft next words (line.Restrict given) named means (rules, made, is) = subst IsNamed (sym is) named
named_taken draft next words (line.Limit given) named means is = subst IsNamed (sym is) named
named_taken draft next words (line.Mru given) named means (limits, made, is) = subst IsNamed (sym is) named
named_taken draft next words (line.Keys name) named means is = subst IsNamed (sym is) (named_keys draft words name means)
named_taken draft next words (line.Local stratum) named means is = subst IsNamed (sym is) named
named_taken draft next words (line.Frequency frequency) named means is = subst IsNamed (sym is) named

named_after : (text : List (List (List ℕ))) (draft final : Draft) → IsNamed draft → IsAfter conf_grammar draft text final → IsNamed final
named_after [] draft final named is = subst IsNamed (sym is) named
named_after (words ∷ text) draft final named (next, (meaning, (unclosed, means), takes), after) =
    named_after text next final (named_taken draft next words meaning named means takes) after

-- the key file that a configuration names has a name of visible ASCII
pub IsConfText-named : (text : List ℕ) (conf : Conf) → IsConfText text conf → ForSome conf.keys IsFileName
IsConfText-named text conf (opening, final, opened, after, is) =
    let none : IsNamed opening = subst (λ k. ForSome k IsFileName) (sym opened.keys) (λ name same. cc) in
    subst (λ k. ForSome k IsFileName) (sym is.keys) (named_after _ opening final none after)

octet_of : (octet : ℕ) (name : List ℕ) → IsFileName (octet ∷ name) → octet ≤ 126
octet_of octet name named = grind arith

names_of : (octet : ℕ) (name : List ℕ) → IsFileName (octet ∷ name) → IsFileName name
names_of octet name named = grind arith

ascii : (name : List ℕ) → IsFileName name → (i : ℕ) → get_or name i 0 < 128
ascii [] named i = omega arith
ascii (octet ∷ name) named zero = omega (arith, octet_of octet name named)
ascii (octet ∷ name) named (suc i) = ascii name (names_of octet name named) i

-- such a name is a text
pub IsFileName-text : (name : List ℕ) → IsFileName name → IsUtf8 name
IsFileName-text name named = IsUtf8-from_ascii name (ascii name named)
