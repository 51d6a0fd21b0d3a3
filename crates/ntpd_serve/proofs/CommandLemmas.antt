-- Commands of two words.
use Rattle.std.proofs.Common.{◌≡◌, ◌<◌, ◌^◌, ◌↔◌, ℕ, Option, None, Some, IsNone, IfNone, List, [], ◌∷◌, codes, decimal, length, refl, sym, ap, subst, ◌∙◌, arith}
use Rattle.net_addr.specs.Spelling.{IsAddr, Spells}
use Rattle.net_addr.specs.declared.addr.Addr.{Addr}
use Rattle.ntpd_serve.specs.Command.{AsksOnce, AsksRehearse, AsksServe, IsNoCommand}

-- the words of the two commands differ
four_is_not_five : (four five : ℕ) → four ≡ five → four ≡ 4 → five ≡ 5 → ⊥
four_is_not_five four five same is_four is_five = absurd (omega arith)

once_is_not_serve : codes "once" ≡ codes "serve" → ⊥
once_is_not_serve same = four_is_not_five (length (codes "once")) (length (codes "serve")) (ap (λ (word : List ℕ). length word) same) refl refl

four_is_not_eight : (four eight : ℕ) → four ≡ eight → four ≡ 4 → eight ≡ 8 → ⊥
four_is_not_eight four eight same is_four is_eight = absurd (omega arith)

once_is_not_rehearse : codes "once" ≡ codes "rehearse" → ⊥
once_is_not_rehearse same = four_is_not_eight (length (codes "once")) (length (codes "rehearse")) (ap (λ (word : List ℕ). length word) same) refl refl

five_is_not_eight : (five eight : ℕ) → five ≡ eight → five ≡ 5 → eight ≡ 8 → ⊥
five_is_not_eight five eight same is_five is_eight = absurd (omega arith)

serve_is_not_rehearse : codes "serve" ≡ codes "rehearse" → ⊥
serve_is_not_rehearse same = five_is_not_eight (length (codes "serve")) (length (codes "rehearse")) (ap (λ (word : List ℕ). length word) same) refl refl

-- the words ask for an address that the second spells
pub AsksOnce-named : (command text : List ℕ) (at : Addr) → command ≡ codes "once" → IsAddr at → Spells text at → AsksOnce (command ∷ text ∷ []) at
AsksOnce-named command text at once fits spells = record {
  fits = fits;
  text = text;
  spells = spells;
  are = ap (λ (word : List ℕ). word ∷ text ∷ []) once;
}

-- and for none where it spells none
spelled_none : (command text : List ℕ) → ((at : Addr) → IsAddr at → ¬ Spells text at) → (at : Addr) → ¬ AsksOnce (command ∷ text ∷ []) at
spelled_none command text none at asks =
    let same : text ≡ asks.text = cc asks.are in
    none at asks.fits (subst (λ (word : List ℕ). Spells word at) (sym same) asks.spells)

not_serve : (command text name : List ℕ) → command ≡ codes "once" → ¬ AsksServe (command ∷ text ∷ []) name
not_serve command text name once are =
    let first : command ≡ codes "serve" = cc are in
    once_is_not_serve (sym once ∙ first)

not_rehearse : (command text : List ℕ) (number : ℕ) → command ≡ codes "once" → ¬ AsksRehearse (command ∷ text ∷ []) number
not_rehearse command text number once asks =
    let first : command ≡ codes "rehearse" = cc asks.are in
    once_is_not_rehearse (sym once ∙ first)

pub IsNoCommand-named : (command text : List ℕ) (named : Option Addr) → command ≡ codes "once" → IsNone named ↔ ((at : Addr) → IsAddr at → ¬ Spells text at) → IsNone named ↔ IsNoCommand (command ∷ text ∷ [])
IsNoCommand-named command text named once (to, from) = (
  λ none. record { no_once = spelled_none command text (to none); no_serve = λ name. not_serve command text name once; no_rehearse = λ number. not_rehearse command text number once },
  λ no. from (λ at fits spells. no.no_once at (AsksOnce-named command text at once fits spells)),
)

-- the words ask for a rehearsal by the number that the second spells
pub AsksRehearse-numbered : (command text : List ℕ) (number : ℕ) → command ≡ codes "rehearse" → number < 2 ^ 64 → text ≡ decimal number → AsksRehearse (command ∷ text ∷ []) number
AsksRehearse-numbered command text number rehearse fits spelled = record {
  fits = fits;
  are = ap (λ (word : List ℕ). word ∷ text ∷ []) rehearse ∙ ap (λ (word : List ℕ). codes "rehearse" ∷ word ∷ []) spelled;
}

-- and for nothing where it spells none
pub IsNoCommand-numbered : (command text : List ℕ) → command ≡ codes "rehearse" → ((number : ℕ) → number < 2 ^ 64 → ¬ (text ≡ decimal number)) → IsNoCommand (command ∷ text ∷ [])
IsNoCommand-numbered command text rehearse none = record {
  no_once = λ at asks. let first : command ≡ codes "once" = cc asks.are in once_is_not_rehearse (sym first ∙ rehearse);
  no_serve = λ name are. let first : command ≡ codes "serve" = cc are in serve_is_not_rehearse (sym first ∙ rehearse);
  no_rehearse = λ number asks. let same : text ≡ decimal number = cc asks.are in none number asks.fits same;
}

-- what holds of a value that is not there
pub IfNone-none : {A X : Type 0} (found : Option A) → IfNone found X → IsNone found → X
IfNone-none None holds none = holds
IfNone-none (Some one) holds none = absurd (cc none)
