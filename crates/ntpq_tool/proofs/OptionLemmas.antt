-- What options ask for may be asked for.
use Rattle.std.proofs.Common.{ℕ, ◌^◌, ◌<◌, ◌≤◌, Option, None, Some, List, [], ◌∷◌, inl, inr, ◌-◌, length, lit≤, lit<, sym, subst, ap, arith}
use Rattle.mode6_frame.specs.declared.message.TheConstants.{MAX_BODY}
use Rattle.mru_items.specs.declared.query.Query.{Query}
use Rattle.mru_items.specs.declared.query.TheConstants.{MAX_FRAGS}
use Rattle.mru_items.specs.Queries.{IsLimit, IsOptional, IsQuery, SpellsLimit}
use Rattle.mru_items.specs.Values.{SpellsMask}
use Rattle.text_words.specs.Numbers.{SpellsNumber}
use Rattle.ntpq_tool.specs.declared.options.TheConstants.{DEFAULT_FRAGS}
use Rattle.ntpq_tool.specs.declared.words.Wanted.{Wanted}
use Rattle.ntpq_tool.specs.declared.words.Wanted.TheVariants.{Variables, Associations, Peers, Clients}
use Rattle.ntpq_tool.specs.Command.{AreFor, IsAskable}
use Rattle.ntpq_tool.specs.Options.{IsQueryOf}
use Rattle.ntpq_tool.proofs.MaskLemmas.{SpellsMask-fits}

-- what holds of the plain value, and of each that a value spells, holds of an optional one
optional-keeps : {A : Type 0} (P : A → Type 0) (Spells : List ℕ → A → Type 0) (plain : A) (values : List (Option (List ℕ))) (it : A) → IsOptional Spells plain values it → P plain → ((value : List ℕ) → Spells value it → P it) → P it
optional-keeps P Spells plain [] it is holds spelled = subst P (sym is) holds
optional-keeps P Spells plain (Some value ∷ []) it is holds spelled = spelled value is
optional-keeps P Spells plain (None ∷ []) it is holds spelled = absurd is
optional-keeps P Spells plain (None ∷ next ∷ values) it is holds spelled = absurd is
optional-keeps P Spells plain (Some value ∷ next ∷ values) it is holds spelled = absurd is

-- a limit that a value spells is one
limit-is : (value : List ℕ) (limit : Option ℕ) → SpellsLimit value limit → IsLimit limit
limit-is value None spells = tt
limit-is value (Some limit) spells = (spells.1, spells.2)

-- a number that an option gives lies within its bounds
number-within : (most plain : ℕ) (values : List (Option (List ℕ))) (n : ℕ) → 1 ≤ plain → plain ≤ most → IsOptional (SpellsNumber 1 most) plain values n → (1 ≤ n) × (n ≤ most)
number-within most plain values n some within is =
    optional-keeps (λ (m : ℕ). (1 ≤ m) × (m ≤ most)) (SpellsNumber 1 most) plain values n is (some, within) (λ value spells. (spells.1, spells.2))

-- a mask that an option gives has 16 bits
mask-fits : (values : List (Option (List ℕ))) (mask : ℕ) → IsOptional SpellsMask 0 values mask → mask < 2 ^ 16
mask-fits values mask is =
    optional-keeps (λ (m : ℕ). m < 2 ^ 16) SpellsMask 0 values mask is (lit< tt) (λ value spells. SpellsMask-fits value mask spells)

-- what options ask for may be asked for
IsQuery-of : (options : List (List ℕ)) (query : Query) → IsQueryOf options query → IsQuery query
IsQuery-of options query is =
    let count = number-within (2 ^ 32 - 1) 1 _ query.filter.mincount (lit≤ tt) (lit≤ tt) is.mincount in
    let frags = number-within MAX_FRAGS DEFAULT_FRAGS _ query.frags (lit≤ tt) (lit≤ tt) is.frags in
    record {
      mincount = count.0;
      mincount_fits = omega (arith, count.1);
      resall = mask-fits _ query.filter.resall is.resall;
      resany = mask-fits _ query.filter.resany is.resany;
      limit = optional-keeps IsLimit SpellsLimit None _ query.limit is.limit tt (λ value spells. limit-is value query.limit spells);
      least = frags.0;
      most = frags.1;
    }

-- what words want can be asked for
pub IsAskable-for : (words : List (List ℕ)) (what : Wanted) → AreFor words what → IsAskable what
IsAskable-for words (Variables assoc text) (behind, are, ask) = elim ask [
  | inl (none, zero_assoc, empty) ↦ subst (λ (n : ℕ). n ≤ MAX_BODY) (sym (ap length empty)) (omega arith)
  | inr named ↦ named.fits
]
IsAskable-for words Associations are = tt
IsAskable-for words Peers are = tt
IsAskable-for words (Clients query) (options, are, is) = IsQuery-of options query is
