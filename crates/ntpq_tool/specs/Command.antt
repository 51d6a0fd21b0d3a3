-- The command line of `ntpq`: our own rule.
use Rattle.std.specs.Prelude.{◌≡◌, ◌⊎◌, ◌≤◌, ◌==◌, ◌||◌, ℕ, Bool, true, List, [], ◌∷◌, codes, length}
use Rattle.std.specs.List.{AllByRecursion, join_by, list_all}
use Rattle.std.specs.Char.{is_ascii_alphanumeric}
use Rattle.text_words.specs.Numbers.{SpellsNumber}
use Rattle.net_addr.specs.Spelling.{IsAddr, StandsFor}
use Rattle.mode6_frame.specs.declared.message.TheConstants.{MAX_BODY}
use Rattle.mru_items.specs.Queries.{IsQuery}
use Rattle.ntpq_tool.specs.declared.words.Command.{Command}
use Rattle.ntpq_tool.specs.declared.words.Wanted.{Wanted}
use Rattle.ntpq_tool.specs.declared.words.Wanted.TheVariants.{Variables, Associations, Peers, Clients}
use Rattle.ntpq_tool.specs.declared.words.TheConstants.{NTP_PORT, MAX_ASSOC, MAX_NAME}
use Rattle.ntpq_tool.specs.Options.{IsQueryOf}

-- an octet of the name of a variable: a letter, a digit, an underscore or a point
abbrev pub is_name_octet : ℕ → Bool
is_name_octet octet = is_ascii_alphanumeric octet || octet == 95 || octet == 46

-- a name of a variable: one to 32 of these octets
pub record IsName (name : List ℕ) : Type 0 where
  pub some : 1 ≤ length name
  pub short : length name ≤ MAX_NAME
  pub octets : list_all is_name_octet name ≡ true

-- names joined by commas
abbrev pub joined : List (List ℕ) → List ℕ
joined names = join_by (λ name. name) (codes ",") names

-- the words are the number of an association, in decimal without leading zeros, and names behind it that this text joins
-- and that fit into the body of a request
pub record NameVariables (words : List (List ℕ)) (assoc : ℕ) (text : List ℕ) : Type 0 where
  pub number : List ℕ
  pub names : List (List ℕ)
  pub are : words ≡ number ∷ names
  pub spells : SpellsNumber 0 MAX_ASSOC number assoc
  pub each : AllByRecursion IsName names
  pub text_is : text ≡ joined names
  pub fits : length text ≤ MAX_BODY

-- the words behind `rv` ask for the variables of this association that this text names, or for all where it is empty:
-- without a word they ask for all variables of the system
abbrev pub AskVariables : List (List ℕ) → ℕ → List ℕ → Type 0
AskVariables words assoc text = ((words ≡ []) × (assoc ≡ 0) × (text ≡ [])) ⊎ NameVariables words assoc text

-- the words behind the host want this: `rv` and what names variables, `as` alone, `peers` alone, or `mrulist` and options
abbrev pub AreFor : List (List ℕ) → Wanted → Type 0
AreFor words (Variables assoc text) =
    (behind : List (List ℕ)) × (words ≡ codes "rv" ∷ behind) × AskVariables behind assoc text
AreFor words Associations = words ≡ codes "as" ∷ []
AreFor words Peers = words ≡ codes "peers" ∷ []
AreFor words (Clients query) = (options : List (List ℕ)) × (words ≡ codes "mrulist" ∷ options) × IsQueryOf options query

-- what is wanted can be asked for: the names of variables fit into the body of a request, and a page may be asked for so
abbrev pub IsAskable : Wanted → Type 0
IsAskable (Variables assoc text) = length text ≤ MAX_BODY
IsAskable (Clients query) = IsQuery query
IsAskable _ = Unit {0}

-- the words are this command: a text that stands for the server's address, whose port is that of NTP where none is named,
-- and what is wanted of it
pub record IsCommand (words : List (List ℕ)) (command : Command) : Type 0 where
  pub host : List ℕ
  pub behind : List (List ℕ)
  pub are : words ≡ host ∷ behind
  pub fits : IsAddr command.server
  pub stands_for : StandsFor host NTP_PORT command.server
  pub wanted : AreFor behind command.what

-- the words are no command
abbrev pub IsNoCommand : List (List ℕ) → Type 0
IsNoCommand words = (command : Command) → ¬ (IsCommand words command)
