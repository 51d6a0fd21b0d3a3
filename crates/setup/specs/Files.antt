-- The files of a server: its configuration, and the keys that it names. Our own words.
use Rattle.std.specs.Prelude.{◌≡◌, ◌≤◌, ◌+◌, ℕ, true, Option, None, Some, List, [], length}
use Rattle.std.specs.List.{list_all}
use Rattle.edge_traits.specs.Reads.{Passed}
use Rattle.edge_traits.specs.Told.{TellsJust}
use Rattle.conf_file.specs.ConfTexts.{IsConfText}
use Rattle.conf_file.specs.ShortLines.{is_name_octet}
use Rattle.conf_file.specs.declared.conf.Conf.{Conf}
use Rattle.mac_keys.specs.KeyTexts.{IsKeyText}
use Rattle.mac_keys.specs.declared.keys.Key.{Key}
use Rattle.setup.specs.declared.files.TheConstants.{MAX_FILE}

-- the octets of the file of each name, where they are told
abbrev pub Files : Type 0
Files = List ℕ → Option (List ℕ)

-- a file's name in a configuration: visible ASCII
abbrev pub IsFileName : List ℕ → Type 0
IsFileName name = list_all is_name_octet name ≡ true

-- a file has these octets, where they are told, and no more than a file may have
pub record HasOctets (files : Files) (name octets : List ℕ) : Type 0 where
  pub told : TellsJust (files name) octets
  pub short : length octets ≤ MAX_FILE

-- a file has more octets than a file may have, where they are told
abbrev pub IsOverlong : Files → List ℕ → Type 0
IsOverlong files name = (rest : Option (List ℕ)) × Passed (MAX_FILE + 1) (files name) rest

-- the file of this name is this configuration
pub record HasConf (files : Files) (name : List ℕ) (conf : Conf) : Type 0 where
  pub octets : List ℕ
  pub file : HasOctets files name octets
  pub is : IsConfText octets conf

-- the file of this name has these keys
pub record HasKeys (files : Files) (name : List ℕ) (keys : List Key) : Type 0 where
  pub octets : List ℕ
  pub file : HasOctets files name octets
  pub are : IsKeyText octets keys

-- the keys of a server whose configuration names this key file, or none
abbrev pub AreKeys : Files → Option (List ℕ) → List Key → Type 0
AreKeys files None keys = keys ≡ []
AreKeys files (Some name) keys = HasKeys files name keys
