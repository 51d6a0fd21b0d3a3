-- The command line of `ntpd`, and what the whole run does by it: our own rule.
use Rattle.std.specs.Prelude.{◌≡◌, ◌<◌, ◌^◌, ◌⊎◌, ℕ, Option, List, [], ◌∷◌, codes, decimal}
use Rattle.fixed_time.specs.declared.time.Ntp64.{Ntp64}
use Rattle.edge_traits.specs.declared.salt.Salt.{Salt}
use Rattle.net_addr.specs.Spelling.{IsAddr, Spells}
use Rattle.net_addr.specs.declared.addr.Addr.{Addr}
use Rattle.shared_book.specs.declared.common.Common.{Common}
use Rattle.setup.specs.Files.{Files}
use Rattle.ntpd_serve.specs.Serves.{HasNoSession}
use Rattle.ntpd_serve.specs.declared.command.Command.{Command}
use Rattle.ntpd_serve.specs.declared.command.Command.TheVariants.{Once, Serve, Rehearse}
use Rattle.ntpd_serve.specs.declared.ending.Ending.{Ending}
use Rattle.ntpd_serve.specs.declared.ending.Ending.TheVariants.{Failed}
use Rattle.ntpd_serve.specs.declared.ending.Failure.{Failure}
use Rattle.ntpd_serve.specs.declared.ending.Failure.TheVariants.{Words, Host, NoMemory}

-- the words are `once` and a text that spells this address, with its port
pub record AsksOnce (words : List (List ℕ)) (at : Addr) : Type 0 where
  pub fits : IsAddr at
  pub text : List ℕ
  pub spells : Spells text at
  pub are : words ≡ codes "once" ∷ text ∷ []

-- the words are `serve` and the name of a file
abbrev pub AsksServe : List (List ℕ) → List ℕ → Type 0
AsksServe words name = words ≡ codes "serve" ∷ name ∷ []

-- the words are `rehearse` and this number of 64 bits, in decimal without leading zeros
pub record AsksRehearse (words : List (List ℕ)) (number : ℕ) : Type 0 where
  pub fits : number < 2 ^ 64
  pub are : words ≡ codes "rehearse" ∷ decimal number ∷ []

-- the words are no command
pub record IsNoCommand (words : List (List ℕ)) : Type 0 where
  pub no_once : (at : Addr) → ¬ (AsksOnce words at)
  pub no_serve : (name : List ℕ) → ¬ (AsksServe words name)
  pub no_rehearse : (number : ℕ) → ¬ (AsksRehearse words number)

-- the host gave no port
abbrev pub IsHostEnding : Ending → Type 0
IsHostEnding ending = (ending ≡ Failed Host) ⊎ (ending ≡ Failed NoMemory)

-- how a run ends before it serves: by its words; where the host gave no port for `once`; where there is no session for
-- `serve`; or where memory was wanting for `rehearse`
abbrev pub EndsBefore : {S : Type 0} → (S → ℕ) → Files → ℕ → ℕ → Option S → Ending → List (List ℕ) → Type 0
EndsBefore source_faults files faults faults' source ending words =
    ((ending ≡ Failed Words) × IsNoCommand words)
    ⊎ ((((at : Addr) × AsksOnce words at) × IsHostEnding ending)
    ⊎ (((name : List ℕ) × (why : Failure) × AsksServe words name × (ending ≡ Failed why)
    × HasNoSession source_faults files name faults faults' why source)
    ⊎ (((number : ℕ) × AsksRehearse words number) × (ending ≡ Failed NoMemory))))

-- what a run of `once` knows: no keys, and the host's secret and origin
abbrev pub common_of : Salt → Ntp64 → Common
common_of salt origin = record { keys = []; salt = salt; origin = origin }

-- the words are this command
abbrev pub AsksFor : List (List ℕ) → Command → Type 0
AsksFor words (Once at) = AsksOnce words at
AsksFor words (Serve name) = AsksServe words name.now
AsksFor words (Rehearse number) = AsksRehearse words number
