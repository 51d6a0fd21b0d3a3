-- How a run of `ntpd serve` goes: our own rule.
use Rattle.std.specs.Prelude.{◌≡◌, ◌⊎◌, ◌<◌, ◌≤◌, ℕ, Bool, Option, None, Some, List, length}
use Rattle.edge_traits.specs.declared.port.Event.{Event}
use Rattle.edge_traits.specs.declared.salt.Salt.{Salt}
use Rattle.fixed_time.specs.declared.time.Ntp64.{Ntp64}
use Rattle.net_addr.specs.declared.addr.Addr.{Addr}
use Rattle.mac_keys.specs.declared.keys.Key.{Key}
use Rattle.responders.specs.Outcomes.{IsSessionOf}
use Rattle.responders.specs.declared.session.Outcome.{Outcome}
use Rattle.responders.specs.declared.session.Session.{Session}
use Rattle.setup.specs.Setups.{IsSetUp}
use Rattle.conf_file.specs.ConfTexts.{IsConfText, IsRefusedText as IsRefusedConf}
use Rattle.conf_file.specs.declared.conf.Conf.{Conf}
use Rattle.mac_keys.specs.KeyTexts.{IsRefusedText as AreRefusedKeys}
use Rattle.setup.specs.Causes.{IsCause, IsConfRefusal, IsKeyRefusal, IsOverlongFile}
use Rattle.setup.specs.Files.{Files}
use Rattle.setup.specs.declared.files.SetupFault.{SetupFault}
use Rattle.setup.specs.declared.files.SetupFault.TheVariants as setup
use Rattle.setup.specs.declared.files.TheConstants.{MAX_FILE}
use Rattle.ntpd_serve.specs.declared.ending.Failure.{Failure}
use Rattle.ntpd_serve.specs.declared.ending.Failure.TheVariants.{Conf as InConf, Keys as InKeys, TooLong, Host, NoMemory}

-- why nothing is served where there is no session for this reason
abbrev pub failure_of_setup : {S : Type 0} → SetupFault S → Failure
failure_of_setup (setup.Conf line word) = InConf line word
failure_of_setup (setup.Keys line word) = InKeys line word
failure_of_setup setup.TooLong = TooLong
failure_of_setup setup.Host = Host
failure_of_setup (setup.Source source) = Host
failure_of_setup setup.NoMemory = NoMemory

-- the source that failed, if it was one
abbrev pub source_of : {S : Type 0} → SetupFault S → Option S
source_of (setup.Source source) = Some source
source_of _ = None

-- a run has no session, for this failure: its cause stands in the files, or in the host's count of faults, or in that of the
-- source that comes back
pub record HasNoSession {S : Type 0} (source_faults : S → ℕ) (files : Files) (name : List ℕ) (faults faults' : ℕ) (why : Failure) (source : Option S) : Type 0 where
  pub fault : SetupFault S
  pub cause : IsCause source_faults files name faults faults' fault
  pub why_is : why ≡ failure_of_setup fault
  pub source_is : source ≡ source_of fault

-- a file is refused, or is too long
abbrev pub HasRefusedFile : Files → List ℕ → Type 0
HasRefusedFile files name =
    ((line word : ℕ) × (IsConfRefusal files name line word ⊎ IsKeyRefusal files name line word)) ⊎ IsOverlongFile files name

-- this refusal is due, by octets that are told: of the configuration, of the keys that it names, or since one is too long
abbrev pub IsDueRefusal : Files → List ℕ → Failure → Type 0
IsDueRefusal files name (InConf line word) =
    (octets : List ℕ) × (files name ≡ Some octets) × (length octets ≤ MAX_FILE) × IsRefusedConf octets line word
IsDueRefusal files name (InKeys line word) =
    (text octets : List ℕ) × (conf : Conf) × (key_name : List ℕ) × (files name ≡ Some text) × (length text ≤ MAX_FILE)
    × IsConfText text conf × (conf.keys ≡ Some key_name) × (files key_name ≡ Some octets) × (length octets ≤ MAX_FILE)
    × AreRefusedKeys octets line word
IsDueRefusal files name TooLong =
    ((octets : List ℕ) × (files name ≡ Some octets) × (MAX_FILE < length octets))
    ⊎ ((text octets : List ℕ) × (conf : Conf) × (key_name : List ℕ) × (files name ≡ Some text) × (length text ≤ MAX_FILE)
    × IsConfText text conf × (conf.keys ≡ Some key_name) × (files key_name ≡ Some octets) × (MAX_FILE < length octets))
IsDueRefusal files name _ = ⊥

-- A run of `serve` made the first session of its configuration and its keys, served it, and left it so.
pub record Serves {P C : Type 0} (trace : P → Option (List Event)) (faults quiets : P → ℕ) (address : P → Addr) (most : P → ℕ) (is_closed : P → Bool) (readings : C → Option (List ℕ)) (conf : Conf) (keys : List Key) (salt : Salt) (origin : Ntp64) (outcome : Outcome) (last : Session P C) : Type 0 where
  pub first : Session P C
  pub set_up : IsSetUp trace faults quiets address readings conf keys salt origin first
  pub served : IsSessionOf trace faults quiets address most is_closed readings first outcome last
