-- What the lines read so far make, and what the whole file means: our own rule.
use Rattle.std.specs.Prelude.{◌≡◌, ℕ, ◌*◌, ◌^◌, ◌==◌, ◌&&◌, nat_le, if◌then◌else◌, Bool, false, List, [], ◌∷◌, ◌++◌, length, Option, Some, None, is_some, is_none}
use Rattle.std.specs.Option.{option_and_then, option_map, unwrap_or}
use Rattle.net_addr.specs.declared.addr.Addr.{Addr}
use Rattle.net_addr.specs.declared.prefix.Prefix.{Prefix}
use Rattle.access_rules.specs.Rates.{plain_rate}
use Rattle.access_rules.specs.Rules.{AreWholes, flags_at, rules_with}
use Rattle.access_rules.specs.declared.rate.Rate.{Rate}
use Rattle.access_rules.specs.declared.rules.Rule.{Rule}
use Rattle.access_rules.specs.declared.rules.RuleFault.{RuleFault}
use Rattle.access_rules.specs.declared.rules.RuleFault.TheVariants as rule
use Rattle.access_rules.specs.declared.rules.TheConstants.{MAX_RULES}
use Rattle.recency.specs.Limits.{AreLimits}
use Rattle.recency.specs.declared.limits.Limits.{Limits}
use Rattle.recency.specs.declared.limits.TheConstants.{PLAIN_MAXAGE, PLAIN_MAXDEPTH, PLAIN_MINAGE, PLAIN_MINDEPTH}
use Rattle.conf_file.specs.Kinds.{kind_of}
use Rattle.conf_file.specs.RestrictLines.{zeros_v4}
use Rattle.conf_file.specs.declared.conf.Conf.{Conf}
use Rattle.conf_file.specs.declared.drafts.Draft.{Draft}
use Rattle.conf_file.specs.declared.drafts.Untaken.{Untaken}
use Rattle.conf_file.specs.declared.drafts.Untaken.TheVariants.{Full, Unfit, NoMemory}
use Rattle.conf_file.specs.declared.kinds.Kind.{Kind}
use Rattle.conf_file.specs.declared.kinds.Kind.TheVariants as kind
use Rattle.conf_file.specs.declared.lines.Line.{Line}
use Rattle.conf_file.specs.declared.lines.Line.TheVariants as line
use Rattle.conf_file.specs.declared.list_options.ListOptions.{ListOptions}
use Rattle.access_rules.specs.declared.servers.TheConstants.{MAX_SERVERS}
use Rattle.conf_file.specs.declared.lists.TheConstants.{MAX_LISTEN}
use Rattle.conf_file.specs.declared.option_lines.TheConstants.{NTP_PORT}
use Rattle.conf_file.specs.declared.rate_options.RateOptions.{RateOptions}
use Rattle.conf_file.specs.declared.restrict_options.Restriction.{Restriction}

-- nothing is read yet: the rules are the defaults of both families, without flags
pub record IsOpening (draft : Draft) : Type 0 where
  pub listen : draft.listen ≡ []
  pub servers : draft.servers ≡ []
  pub rules : AreWholes draft.rules
  pub rate : draft.rate ≡ None
  pub limits : draft.limits ≡ None
  pub keys : draft.keys ≡ None
  pub local : draft.local ≡ None
  pub freq : draft.freq ≡ None

-- no more lines of this kind are taken: there are as many as may be, or one of a kind that stands once
abbrev pub is_closed : Draft → Kind → Bool
is_closed draft kind.Listen = nat_le MAX_LISTEN (length draft.listen)
is_closed draft kind.Server = nat_le MAX_SERVERS (length draft.servers)
is_closed draft kind.Restrict = false
is_closed draft kind.Limit = is_some draft.rate
is_closed draft kind.Mru = is_some draft.limits
is_closed draft kind.Keys = is_some draft.keys
is_closed draft kind.Local = is_some draft.local
is_closed draft kind.Frequency = is_some draft.freq
is_closed draft kind.Ignored = false

-- the same of a first word, which may name no kind
abbrev pub is_closed_kind : Draft → Option Kind → Bool
is_closed_kind draft None = false
is_closed_kind draft (Some kind) = is_closed draft kind

-- the same of the words of a line
abbrev pub is_closed_to : Draft → List (List ℕ) → Bool
is_closed_to draft [] = false
is_closed_to draft (word ∷ words) = is_closed_kind draft (kind_of word)

-- the kind of a line by what it means
abbrev pub kind_of_line : Line → Kind
kind_of_line line.Nothing = kind.Ignored
kind_of_line (line.Listen addr) = kind.Listen
kind_of_line (line.Server server) = kind.Server
kind_of_line (line.Restrict restriction) = kind.Restrict
kind_of_line (line.Limit options) = kind.Limit
kind_of_line (line.Mru options) = kind.Mru
kind_of_line (line.Keys name) = kind.Keys
kind_of_line (line.Local stratum) = kind.Local
kind_of_line (line.Frequency frequency) = kind.Frequency

-- the rate limit of these options: the plain one, where nothing else is said
abbrev pub rate_of : RateOptions → Rate
rate_of given = record {
  average = unwrap_or given.average plain_rate.average;
  burst = unwrap_or given.burst plain_rate.burst;
  spacing = unwrap_or (option_map (λ seconds. seconds * 2 ^ 32) given.spacing) plain_rate.spacing;
}

-- the limits of the client list that these options ask for: 600 to 1,024 rows and 64 to 3,600 seconds, where nothing else
-- is said
pub record IsLimitsOf (given : ListOptions) (limits : Limits) : Type 0 where
  pub mindepth : limits.mindepth ≡ unwrap_or given.mindepth PLAIN_MINDEPTH
  pub maxdepth : limits.maxdepth ≡ unwrap_or given.maxdepth PLAIN_MAXDEPTH
  pub minage : limits.minage ≡ unwrap_or given.minage PLAIN_MINAGE * 2 ^ 32
  pub maxage : limits.maxage ≡ unwrap_or given.maxage PLAIN_MAXAGE * 2 ^ 32

-- they fit each other
abbrev pub DoFit : ListOptions → Type 0
DoFit given =
    AreLimits (unwrap_or given.mindepth PLAIN_MINDEPTH) (unwrap_or given.maxdepth PLAIN_MAXDEPTH) (unwrap_or given.minage PLAIN_MINAGE * 2 ^ 32) (unwrap_or given.maxage PLAIN_MAXAGE * 2 ^ 32)

-- the rules with these flags of a prefix, if they have it or have room for one more
abbrev pub rules_after : Prefix → ℕ → List Rule → Option (List Rule)
rules_after prefix flags rules =
    if is_none (flags_at rules prefix) && (length rules == MAX_RULES) then None else Some (rules_with rules prefix flags)

-- the rules with the flags of one prefix, or of two
abbrev pub rules_of_two : Option Prefix → ℕ → List Rule → Option (List Rule)
rules_of_two None flags rules = Some rules
rules_of_two (Some second) flags rules = rules_after second flags rules

-- the rules after a `restrict` line
abbrev pub restricted : List Rule → Restriction → Option (List Rule)
restricted rules given = option_and_then (rules_of_two given.second given.flags) (rules_after given.first given.flags rules)

-- what a line makes of what is read before it
abbrev pub IsTakenInto : Draft → Line → Draft → Type 0
IsTakenInto draft line.Nothing next = next ≡ draft
IsTakenInto draft (line.Listen addr) next = next ≡ record draft { listen = draft.listen ++ addr ∷ [] }
IsTakenInto draft (line.Server server) next = next ≡ record draft { servers = draft.servers ++ server ∷ [] }
IsTakenInto draft (line.Restrict given) next = (rules : List Rule) × (restricted draft.rules given ≡ Some rules) × (next ≡ record draft { rules = rules })
IsTakenInto draft (line.Limit given) next = next ≡ record draft { rate = Some (rate_of given) }
IsTakenInto draft (line.Mru given) next = (limits : Limits) × IsLimitsOf given limits × (next ≡ record draft { limits = Some limits })
IsTakenInto draft (line.Keys name) next = next ≡ record draft { keys = Some name }
IsTakenInto draft (line.Local stratum) next = next ≡ record draft { local = Some stratum }
IsTakenInto draft (line.Frequency frequency) next = next ≡ record draft { freq = Some frequency }

-- why a line that is read is not taken: one rule too many, limits that do not fit each other, or want of memory
abbrev pub IsUntaken : Draft → Line → Untaken → Type 0
IsUntaken draft read Full = (given : Restriction) × (read ≡ line.Restrict given) × (restricted draft.rules given ≡ None)
IsUntaken draft read Unfit = (given : ListOptions) × (read ≡ line.Mru given) × ¬ DoFit given
IsUntaken draft read NoMemory = Unit {0}

-- the address 0.0.0.0:123
abbrev pub any_addr : Addr
any_addr = record { ip = zeros_v4; port = NTP_PORT }

-- where a server listens: at 0.0.0.0:123 where no line says it
abbrev pub listen_of : List Addr → List Addr
listen_of [] = any_addr ∷ []
listen_of (addr ∷ addrs) = addr ∷ addrs

-- the limits of a file, which may have no line for them
abbrev pub IsLimitsOr : Option Limits → Limits → Type 0
IsLimitsOr None limits = IsLimitsOf (record { mindepth = None; maxdepth = None; minage = None; maxage = None }) limits
IsLimitsOr (Some given) limits = limits ≡ given

-- the configuration that the lines of a file make
pub record IsConfOf (draft : Draft) (conf : Conf) : Type 0 where
  pub listen : conf.listen ≡ listen_of draft.listen
  pub servers : conf.servers ≡ draft.servers
  pub rules : conf.rules ≡ draft.rules
  pub rate : conf.rate ≡ unwrap_or draft.rate (rate_of (record { average = None; burst = None; spacing = None }))
  pub limits : IsLimitsOr draft.limits conf.limits
  pub keys : conf.keys ≡ draft.keys
  pub local : conf.local ≡ draft.local
  pub freq : conf.freq ≡ draft.freq

-- why a line is not taken whose rules refuse its flags
abbrev pub untaken_of : RuleFault → Untaken
untaken_of rule.Full = Full
untaken_of rule.NotThere = NoMemory
untaken_of rule.NoMemory = NoMemory
