-- Lines of options: `server`, `limit` and `mru`, after their first word. Our own rule, after the configuration of NTPsec.
use Rattle.std.specs.Prelude.{◌≡◌, ℕ, List, [], ◌∷◌, codes}
use Rattle.std.specs.Option.{unwrap_or}
use Rattle.net_addr.specs.Spelling.{IsAddr, StandsFor}
use Rattle.net_addr.specs.declared.addr.Addr.{Addr}
use Rattle.access_rules.specs.declared.servers.TheConstants.{MAX_POLL, MIN_POLL}
use Rattle.mac_keys.specs.declared.keys.TheConstants.{MAX_KEY_ID, MIN_KEY_ID}
use Rattle.recency.specs.declared.limits.TheConstants.{MAX_AGE, MAX_DEPTH}
use Rattle.conf_file.specs.OptionRules.{Given, OptionWords}
use Rattle.conf_file.specs.Options.{IsOptionList, number_of}
use Rattle.conf_file.specs.Servers.{ServerWords}
use Rattle.conf_file.specs.declared.lines.Line.{Line}
use Rattle.conf_file.specs.declared.lines.Line.TheVariants.{Limit, Mru, Server}
use Rattle.conf_file.specs.declared.list_options.ListOptions.{ListOptions}
use Rattle.conf_file.specs.declared.option_lines.TheConstants.{NTP_PORT}
use Rattle.conf_file.specs.declared.options.Value.TheVariants.{Alone, Number}
use Rattle.conf_file.specs.declared.rate_options.RateOptions.{RateOptions}
use Rattle.conf_file.specs.declared.rate_options.TheConstants.{MAX_AVERAGE, MAX_BURST, MAX_SPACING}
use Rattle.conf_file.specs.declared.server_options.TheConstants.{PLAIN_POLL}

-- the words are options of a table, so many at least, and the line is what those that are given make
abbrev pub IsOptionLine : ℕ → List OptionWords → (List Given → Line) → List (List ℕ) → Line → Type 0
IsOptionLine fewest rules made words line = (given : List Given) × IsOptionList fewest rules words given × (line ≡ made given)

-- the options of a `server` line; `maxpoll`, `burst` and `iburst` have no effect
abbrev pub server_rules : List OptionWords
server_rules =
    record { name = codes "key"; value = Number MIN_KEY_ID MAX_KEY_ID } ∷ record { name = codes "minpoll"; value = Number MIN_POLL MAX_POLL }
    ∷ record { name = codes "maxpoll"; value = Number MIN_POLL MAX_POLL } ∷ record { name = codes "burst"; value = Alone 0 } ∷ record { name = codes "iburst"; value = Alone 0 } ∷ []

-- the server at an address with these options: no key, and the poll exponent 6, where nothing else is said
abbrev pub server_with : Addr → List Given → ServerWords
server_with addr given = record { addr = addr; key = unwrap_or (number_of given (codes "key")) 0; poll = unwrap_or (number_of given (codes "minpoll")) PLAIN_POLL }

-- an address, whose port is 123 where it has none, and then options, or none
abbrev pub IsServerAt : Addr → List (List ℕ) → Line → Type 0
IsServerAt addr words line = IsOptionLine 0 server_rules (λ given. Server (server_with addr given)) words line

abbrev pub IsServerTail : List (List ℕ) → Line → Type 0
IsServerTail [] line = ⊥
IsServerTail (word ∷ words) line = (addr : Addr) × IsAddr addr × StandsFor word NTP_PORT addr × IsServerAt addr words line

-- the options of a `limit` line: arrivals a minute, arrivals at once, and seconds between two kiss codes
abbrev pub limit_rules : List OptionWords
limit_rules =
    record { name = codes "average"; value = Number 1 MAX_AVERAGE } ∷ record { name = codes "burst"; value = Number 1 MAX_BURST } ∷ record { name = codes "kod"; value = Number 0 MAX_SPACING } ∷ []

abbrev pub rate_with : List Given → RateOptions
rate_with given = record { average = number_of given (codes "average"); burst = number_of given (codes "burst"); spacing = number_of given (codes "kod") }

-- options of the rate limit, one at least
abbrev pub IsLimitTail : List (List ℕ) → Line → Type 0
IsLimitTail words line = IsOptionLine 1 limit_rules (λ given. Limit (rate_with given)) words line

-- the options of an `mru` line: numbers of rows, and ages in seconds
abbrev pub mru_rules : List OptionWords
mru_rules =
    record { name = codes "mindepth"; value = Number 0 MAX_DEPTH } ∷ record { name = codes "maxdepth"; value = Number 1 MAX_DEPTH } ∷ record { name = codes "minage"; value = Number 0 MAX_AGE }
    ∷ record { name = codes "maxage"; value = Number 0 MAX_AGE } ∷ []

abbrev pub list_with : List Given → ListOptions
list_with given = record {
  mindepth = number_of given (codes "mindepth");
  maxdepth = number_of given (codes "maxdepth");
  minage = number_of given (codes "minage");
  maxage = number_of given (codes "maxage");
}

-- options of the client list, one at least
abbrev pub IsMruTail : List (List ℕ) → Line → Type 0
IsMruTail words line = IsOptionLine 1 mru_rules (λ given. Mru (list_with given)) words line
