-- The options of `mrulist` on the command line of `ntpq`: our own rule, after the items of RFC 9327, section 4, command 10, as
-- NTPsec's `mrulist` has them.
use Rattle.std.specs.Prelude.{◌≡◌, ℕ, ◌-◌, ◌^◌, Bool, true, ◌||◌, if◌then◌else◌, bytes_eq, Option, Some, None, List, [], ◌∷◌, codes, length, take, drop}
use Rattle.std.specs.List.{list_all}
use Rattle.text_words.specs.Numbers.{SpellsNumber}
use Rattle.mru_items.specs.declared.query.Query.{Query}
use Rattle.mru_items.specs.declared.query.TheConstants.{MAX_FRAGS}
use Rattle.mru_items.specs.Queries.{IsOptional, SpellsLimit}
use Rattle.mru_items.specs.Values.{SpellsMask}
use Rattle.ntpq_tool.specs.declared.options.TheConstants.{DEFAULT_FRAGS}

-- a word gives the option of this name, an equals sign behind it
abbrev pub gives : List ℕ → List ℕ → Bool
gives name word = bytes_eq (take (length name) word) name

-- a word gives an option of some name
abbrev pub is_option : List ℕ → Bool
is_option word =
    gives (codes "limit=") word || gives (codes "frags=") word || gives (codes "mincount=") word
    || gives (codes "resall=") word || gives (codes "resany=") word

-- the values that words give to the option of this name, in their order
abbrev pub given : List ℕ → List (List ℕ) → List (Option (List ℕ))
given name [] = []
given name (word ∷ words) =
    if gives name word then Some (drop (length name) word) ∷ given name words else given name words

-- The words are options, in any order and each once at most, and ask for the clients so: for all that arrived once, in pages
-- of 32 datagrams, where no option says otherwise.
pub record IsQueryOf (options : List (List ℕ)) (query : Query) : Type 0 where
  pub each : list_all is_option options ≡ true
  pub limit : IsOptional SpellsLimit None (given (codes "limit=") options) query.limit
  pub frags : IsOptional (SpellsNumber 1 MAX_FRAGS) DEFAULT_FRAGS (given (codes "frags=") options) query.frags
  pub mincount : IsOptional (SpellsNumber 1 (2 ^ 32 - 1)) 1 (given (codes "mincount=") options) query.filter.mincount
  pub resall : IsOptional SpellsMask 0 (given (codes "resall=") options) query.filter.resall
  pub resany : IsOptional SpellsMask 0 (given (codes "resany=") options) query.filter.resany
