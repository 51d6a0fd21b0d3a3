-- Lines of one word: each goes on from its beginning, and means one thing.
use Rattle.std.proofs.Common.{◌≡◌, ℕ, List, [], ◌∷◌, Option, Some, refl, false, decimal, lit≤, pos, ℤ, ap, ◌∙◌}
use Rattle.std.specs.List.{list_all}
use Rattle.refusals.specs.Refusals.{GoesOn}
use Rattle.conf_file.proofs.FrequencyLemmas.{plain_frequency}
use Rattle.conf_file.specs.declared.lines.Line.{Line}
use Rattle.conf_file.specs.declared.lines.Line.TheVariants.{Keys, Local, Frequency}
use Rattle.text_words.specs.Numbers.{SpellsNumber}
use Rattle.conf_file.specs.ShortLines.{IsFrequencyWord, IsOnly, SpellsFrequency, SpellsKeys, SpellsLocal, is_name_octet}

-- a one may stand after `local`, `frequency` and `keys`
pub some_local : GoesOn (IsOnly SpellsLocal) []
some_local = (decimal 1 ∷ [], Local 1, (1, (refl, lit≤ tt, lit≤ tt), refl))

pub some_frequency : GoesOn (IsOnly SpellsFrequency) []
some_frequency = (decimal 1 ∷ [], Frequency (pos 1), (pos 1, plain_frequency (decimal 1) 1 (refl, lit≤ tt, lit≤ tt), refl))

pub some_keys : GoesOn (IsOnly SpellsKeys) []
some_keys = ((49 ∷ []) ∷ [], Keys (49 ∷ []), (refl, refl))

-- a word that spells nothing begins no line
pub only_unspelled : (spells : List ℕ → Line → Type 0) (word : List ℕ) → ((line : Line) → ¬ spells word line) → (more : List (List ℕ)) (line : Line) → ¬ IsOnly spells (word ∷ more) line
only_unspelled spells word nothing [] line is = nothing line is
only_unspelled spells word nothing (next ∷ more) line is = is

-- a word that is no stratum, no frequency, no name
pub no_local : (word : List ℕ) → ((stratum : ℕ) → ¬ SpellsNumber 1 15 word stratum) → (line : Line) → ¬ SpellsLocal word line
no_local word none line (stratum, spelled, is) = none stratum spelled

pub no_frequency : (word : List ℕ) → ((frequency : ℤ) → ¬ IsFrequencyWord word frequency) → (line : Line) → ¬ SpellsFrequency word line
no_frequency word none line (frequency, spelled, is) = none frequency spelled

pub no_keys : (word : List ℕ) → list_all is_name_octet word ≡ false → (line : Line) → ¬ SpellsKeys word line
no_keys word none line (all, is) = cc

one_value : {X : Type 0} (o : Option X) (x y : X) → o ≡ Some x → o ≡ Some y → x ≡ y
one_value o x y first second = cc

-- a word spells one line
pub one_local : (word : List ℕ) (stratum : ℕ) (read : Option ℕ) → read ≡ Some stratum → ((also : ℕ) → SpellsNumber 1 15 word also → read ≡ Some also) → (other : Line) → SpellsLocal word other → other ≡ Local stratum
one_local word stratum read some only other (also, spelled, is) = is ∙ ap Local (one_value read also stratum (only also spelled) some)

pub one_frequency : (word : List ℕ) (frequency : ℤ) (read : Option ℤ) → read ≡ Some frequency → ((also : ℤ) → IsFrequencyWord word also → read ≡ Some also) → (other : Line) → SpellsFrequency word other → other ≡ Frequency frequency
one_frequency word frequency read some only other (also, spelled, is) = is ∙ ap Frequency (one_value read also frequency (only also spelled) some)

pub one_keys : (word : List ℕ) (other : Line) → SpellsKeys word other → other ≡ Keys word
one_keys word other (all, is) = is
