-- What is told of a file, and what a reading of it may answer.
use Rattle.std.proofs.Common.{◌≡◌, ◌<◌, ◌≤◌, ◌+◌, ℕ, List, length, Option, Some, Result, Ok, Err, IsErrAnd, ◌⊎◌, inl, inr, sym, ap, subst, ◌∙◌, arith}
use Rattle.refusals.specs.Told.{IsUnless}
use Rattle.edge_traits.specs.Reads.{Passed}
use Rattle.edge_traits.specs.Told.{TellsJust}
use Rattle.conf_file.specs.declared.conf.Conf.{Conf}
use Rattle.conf_file.specs.declared.confs.ConfFault.TheVariants as conf
use Rattle.mac_keys.specs.declared.key_files.KeysFault.TheVariants as keys
use Rattle.setup.specs.Causes.{IsCause, IsFileCause, IsKeyFileCause, IsOutside, IsRefusedAs}
use Rattle.setup.specs.Files.{Files, HasConf, HasOctets, IsOverlong}
use Rattle.setup.specs.declared.files.SetupFault.{SetupFault}
use Rattle.setup.specs.declared.files.SetupFault.TheVariants.{Conf as InConf, Keys as InKeys, TooLong, Host, Source, NoMemory}
use Rattle.setup.specs.declared.files.TheConstants.{MAX_FILE}

-- a file that is told has the octets that were read
pub same_octets : (files : Files) (name octets text read : List ℕ) → files name ≡ Some octets → HasOctets files name text → read ≡ text → octets ≡ read
same_octets files name octets text read told has is =
    subst (λ (o : Option (List ℕ)). TellsJust o text) told has.told ∙ sym is

pub HasOctets-read : (files : Files) (name octets : List ℕ) (rest : Option (List ℕ)) → rest ≡ files name → TellsJust rest octets → length octets ≤ MAX_FILE → HasOctets files name octets
HasOctets-read files name octets rest is told short = record {
  told = subst (λ (o : Option (List ℕ)). TellsJust o octets) is told;
  short = short;
}

pub IsOverlong-read : (files : Files) (name : List ℕ) (rest rest' : Option (List ℕ)) → rest ≡ files name → Passed (MAX_FILE + 1) rest rest' → IsOverlong files name
IsOverlong-read files name rest rest' is passed =
    (rest', subst (λ (o : Option (List ℕ)). Passed (MAX_FILE + 1) o rest') is passed)

-- a file that is told is too long only where it is
pub overlong_told : (files : Files) (name octets : List ℕ) → files name ≡ Some octets → IsOverlong files name → MAX_FILE < length octets
overlong_told files name octets told (rest, passed) =
    let long = subst (λ (o : Option (List ℕ)). Passed (MAX_FILE + 1) o rest) told passed in
    omega (arith, long.0)

-- a file that is told and not too long is not read only for a fault of the outside or want of memory
pub outside_told : {S : Type 0} (source_faults : S → ℕ) (files : Files) (name octets : List ℕ) (faults faults' : ℕ) (fault : SetupFault S) → files name ≡ Some octets → length octets ≤ MAX_FILE
    → IsFileCause source_faults files name faults faults' fault → IsOutside fault
outside_told source_faults files name octets faults faults' (InConf line word) told short none = elim none [ ]
outside_told source_faults files name octets faults faults' (InKeys line word) told short none = elim none [ ]
outside_told source_faults files name octets faults faults' TooLong told short long = absurd (omega (arith, overlong_told files name octets told long))
outside_told source_faults files name octets faults faults' Host told short cause = tt
outside_told source_faults files name octets faults faults' (Source source) told short cause = tt
outside_told source_faults files name octets faults faults' NoMemory told short cause = tt

-- an answer that only want of memory keeps from the one that is due: a value is that one, or none is due
pub same_value : {V F : Type 0} (fault : F) (value due : V) → IsUnless fault (Ok value) (Ok due) → value ≡ due
same_value fault value due (inl same) = cc
same_value fault value due (inr same) = cc

pub not_refused : {V F : Type 0} (fault why : F) (value : V) → ¬ IsUnless fault (Ok value) (Err why)
not_refused fault why value (inl same) = cc
not_refused fault why value (inr same) = cc

pub not_taken : {V F : Type 0} (fault why : F) (value : V) → IsUnless fault (Err why) (Ok value) → why ≡ fault
not_taken fault why value (inl same) = cc
not_taken fault why value (inr same) = cc

-- a place that is told is the one that is due
pub same_conf_place : {V S : Type 0} (line word line' word' : ℕ) → IsUnless {V = V} conf.NoMemory (Err (conf.At line word)) (Err (conf.At line' word'))
    → ◌≡◌ {A = SetupFault S} (InConf line word) (InConf line' word')
same_conf_place line word line' word' (inl same) = cc
same_conf_place line word line' word' (inr same) = cc

pub same_key_place : {V S : Type 0} (line word line' word' : ℕ) → IsUnless {V = V} keys.NoMemory (Err (keys.At line word)) (Err (keys.At line' word'))
    → ◌≡◌ {A = SetupFault S} (InKeys line word) (InKeys line' word')
same_key_place line word line' word' (inl same) = cc
same_key_place line word line' word' (inr same) = cc

-- the cause of a fault of reading the key file is one of the whole
pub IsCause-keys : {S : Type 0} (source_faults : S → ℕ) (files then_files : Files) (name key_name : List ℕ) (conf : Conf) (faults then_faults faults' : ℕ) (fault : SetupFault S) → then_files ≡ files
    → faults ≤ then_faults → HasConf files name conf → conf.keys ≡ Some key_name → IsKeyFileCause source_faults then_files key_name then_faults faults' fault
    → IsCause source_faults files name faults faults' fault
IsCause-keys source_faults files then_files name key_name conf faults then_faults faults' (InConf line word) same kept has named none = elim none [ ]
IsCause-keys source_faults files then_files name key_name conf faults then_faults faults' (InKeys line word) same kept has named (octets, file, refused) =
    (key_name, octets, (conf, has, named), subst (λ (f : Files). HasOctets f key_name octets) same file, refused)
IsCause-keys source_faults files then_files name key_name conf faults then_faults faults' TooLong same kept has named long =
    inr (key_name, (conf, has, named), subst (λ (f : Files). IsOverlong f key_name) same long)
IsCause-keys source_faults files then_files name key_name conf faults then_faults faults' Host same kept has named rose = omega (arith, rose)
IsCause-keys source_faults files then_files name key_name conf faults then_faults faults' (Source source) same kept has named cause = cause
IsCause-keys source_faults files then_files name key_name conf faults then_faults faults' NoMemory same kept has named cause = tt

pub same_some : {X : Type 0} (x y : X) → Some x ≡ Some y → x ≡ y
same_some x y same = cc

-- a fault that `?` hands on
pub handed_on : {T E : Type 0} (result : Result T E) (fault : E) → IsErrAnd result (λ (e : E). e ≡ fault) → result ≡ Err fault
handed_on (Ok value) fault none = elim none [ ]
handed_on (Err other) fault same = ap Err same

-- and it is refused as it was
pub IsRefusedAs-on : {T S : Type 0} (why fault : SetupFault S) (result : Result T (SetupFault S)) → IsErrAnd result (λ (e : SetupFault S). e ≡ fault) → (fault ≡ why) ⊎ IsOutside fault
    → IsRefusedAs why result
IsRefusedAs-on {T = T} {S = S} why fault result on due =
    subst (λ (r : Result T (SetupFault S)). IsRefusedAs why r) (sym (handed_on result fault on)) due
