-- Why there is no session: our own words.
use Rattle.std.specs.Prelude.{◌≡◌, ◌⊎◌, ◌≤◌, ℕ, Some, Result, Ok, Err, List}
use Rattle.conf_file.specs.ConfTexts.{IsRefusedText as IsRefusedConf}
use Rattle.conf_file.specs.declared.conf.Conf.{Conf}
use Rattle.edge_traits.specs.Told.{Rose}
use Rattle.mac_keys.specs.KeyTexts.{IsRefusedText as AreRefusedKeys}
use Rattle.setup.specs.Files.{Files, HasConf, HasOctets, IsOverlong}
use Rattle.setup.specs.declared.files.SetupFault.{SetupFault}
use Rattle.setup.specs.declared.files.SetupFault.TheVariants.{Conf as InConf, Keys as InKeys, TooLong, Host, Source, NoMemory}

-- the configuration file is refused at this word
abbrev pub IsConfRefusal : Files → List ℕ → ℕ → ℕ → Type 0
IsConfRefusal files name line word = (octets : List ℕ) × HasOctets files name octets × IsRefusedConf octets line word

-- a key file is that of the configuration
abbrev pub IsKeyFile : Files → List ℕ → List ℕ → Type 0
IsKeyFile files name key_name = (conf : Conf) × HasConf files name conf × (conf.keys ≡ Some key_name)

-- the key file is refused at this word
abbrev pub IsKeyRefusal : Files → List ℕ → ℕ → ℕ → Type 0
IsKeyRefusal files name line word =
    (key_name octets : List ℕ) × IsKeyFile files name key_name × HasOctets files key_name octets × AreRefusedKeys octets line word

-- one of the two files is too long
abbrev pub IsOverlongFile : Files → List ℕ → Type 0
IsOverlongFile files name = IsOverlong files name ⊎ ((key_name : List ℕ) × IsKeyFile files name key_name × IsOverlong files key_name)

-- the cause of a fault: the files, or the host's count of faults, or that of the source that comes back; want of memory comes
-- freely
abbrev pub IsCause : {S : Type 0} → (S → ℕ) → Files → List ℕ → ℕ → ℕ → SetupFault S → Type 0
IsCause source_faults files name faults faults' (InConf line word) = IsConfRefusal files name line word
IsCause source_faults files name faults faults' (InKeys line word) = IsKeyRefusal files name line word
IsCause source_faults files name faults faults' TooLong = IsOverlongFile files name
IsCause source_faults files name faults faults' Host = Rose 1 faults faults'
IsCause source_faults files name faults faults' (Source source) = 1 ≤ source_faults source
IsCause source_faults files name faults faults' NoMemory = Unit {0}

-- the cause of a fault of the host alone; want of memory comes freely
abbrev pub IsHostCause : {S : Type 0} → ℕ → ℕ → SetupFault S → Type 0
IsHostCause faults faults' (InConf line word) = ⊥
IsHostCause faults faults' (InKeys line word) = ⊥
IsHostCause faults faults' TooLong = ⊥
IsHostCause faults faults' Host = Rose 1 faults faults'
IsHostCause faults faults' (Source source) = ⊥
IsHostCause faults faults' NoMemory = Unit {0}

-- the cause of a fault where the file of this name was read, whatever it means
abbrev pub IsFileCause : {S : Type 0} → (S → ℕ) → Files → List ℕ → ℕ → ℕ → SetupFault S → Type 0
IsFileCause source_faults files name faults faults' (InConf line word) = ⊥
IsFileCause source_faults files name faults faults' (InKeys line word) = ⊥
IsFileCause source_faults files name faults faults' TooLong = IsOverlong files name
IsFileCause source_faults files name faults faults' Host = Rose 1 faults faults'
IsFileCause source_faults files name faults faults' (Source source) = 1 ≤ source_faults source
IsFileCause source_faults files name faults faults' NoMemory = Unit {0}

-- the cause of a fault where the key file of this name was read
abbrev pub IsKeyFileCause : {S : Type 0} → (S → ℕ) → Files → List ℕ → ℕ → ℕ → SetupFault S → Type 0
IsKeyFileCause source_faults files name faults faults' (InConf line word) = ⊥
IsKeyFileCause source_faults files name faults faults' (InKeys line word) = (octets : List ℕ) × HasOctets files name octets × AreRefusedKeys octets line word
IsKeyFileCause source_faults files name faults faults' TooLong = IsOverlong files name
IsKeyFileCause source_faults files name faults faults' Host = Rose 1 faults faults'
IsKeyFileCause source_faults files name faults faults' (Source source) = 1 ≤ source_faults source
IsKeyFileCause source_faults files name faults faults' NoMemory = Unit {0}

-- a fault of the outside, or want of memory
abbrev pub IsOutside : {S : Type 0} → SetupFault S → Type 0
IsOutside Host = Unit {0}
IsOutside (Source source) = Unit {0}
IsOutside NoMemory = Unit {0}
IsOutside _ = ⊥

-- there is no session, for this reason, or for a fault of the outside or want of memory
abbrev pub IsRefusedAs : {T S : Type 0} → SetupFault S → Result T (SetupFault S) → Type 0
IsRefusedAs why (Ok session) = ⊥
IsRefusedAs why (Err fault) = (fault ≡ why) ⊎ IsOutside fault

-- this came out, or a fault of the outside or want of memory kept it from it
abbrev pub IsMadeAs : {T S : Type 0} → T → Result T (SetupFault S) → Type 0
IsMadeAs made (Ok session) = session ≡ made
IsMadeAs made (Err fault) = IsOutside fault
