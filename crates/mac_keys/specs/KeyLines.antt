-- Lines of a key file, each with an id, a type and a secret: our own rule.
use Rattle.std.specs.Prelude.{◌≡◌, ℕ, ◌==◌, ◌&&◌, if◌then◌else◌, not, Bool, true, false, List, [], ◌∷◌, length, codes, Option, Some, None}
use Rattle.std.specs.List.{list_all}
use Rattle.std.specs.Int.{is_in_range}
use Rattle.std.specs.Char.{to_ascii_uppercase}
use Rattle.std.specs.Result.{result_ok}
use Rattle.hex.specs.Hex.{decode_of}
use Rattle.text_words.specs.Numbers.{SpellsNumber}
use Rattle.mac_keys.specs.declared.keys.Key.{Key}
use Rattle.mac_keys.specs.declared.keys.Algorithm.TheVariants.{Md5, Sha1, Sha256}
use Rattle.mac_keys.specs.declared.keys.TheConstants.{MAX_HEX_DIGITS, MAX_KEY_ID, MAX_PLAIN_SECRET, MIN_HEX_DIGITS, MIN_KEY_ID}
use Rattle.mac_keys.specs.declared.key_types.KeyType.{KeyType}
use Rattle.mac_keys.specs.declared.key_types.KeyType.TheVariants.{Hashed, Skipped}

-- the word is an id: a number of 1 to 65535
abbrev pub IsId : List ℕ → ℕ → Type 0
IsId word id = SpellsNumber MIN_KEY_ID MAX_KEY_ID word id

-- whether a word begins with these capitals, in either case
abbrev pub begins : List ℕ → List ℕ → Bool
begins word [] = true
begins [] (letter ∷ letters) = false
begins (octet ∷ word) (letter ∷ letters) = to_ascii_uppercase octet == letter && begins word letters

-- whether a word has these capitals and no more, in either case
abbrev pub spells : List ℕ → List ℕ → Bool
spells word name = length word == length name && begins word name

-- the type that a word spells; those that begin with AES are known and skipped
abbrev pub type_of : List ℕ → Option KeyType
type_of word =
    if spells word (codes "MD5") then Some (Hashed Md5)
    else (if spells word (codes "SHA1") then Some (Hashed Sha1)
    else (if spells word (codes "SHA256") then Some (Hashed Sha256)
    else (if begins word (codes "AES") then Some Skipped
    else None)))

-- an octet of a plain secret: visible ASCII other than the number sign
abbrev pub is_plain_octet : ℕ → Bool
is_plain_octet octet = is_in_range 33 126 octet && not (octet == 35)

-- whether a word is a plain secret
abbrev pub is_plain : List ℕ → Bool
is_plain word = is_in_range 1 MAX_PLAIN_SECRET (length word) && list_all is_plain_octet word

-- the octets of a word of hexadecimal digits, 22 to 128 of them and an even number
abbrev pub hex_secret_of : List ℕ → Option (List ℕ)
hex_secret_of word = if is_in_range MIN_HEX_DIGITS MAX_HEX_DIGITS (length word) then result_ok (decode_of word) else None

-- the octets of the secret that a word spells: its own, or those that its hexadecimal digits spell
abbrev pub secret_of : List ℕ → Option (List ℕ)
secret_of word = if is_plain word then Some word else hex_secret_of word

-- the key that an id, a type and a secret mean: none where the type is skipped
abbrev pub IsKeyOf : ℕ → KeyType → List ℕ → Option Key → Type 0
IsKeyOf id (Hashed algorithm) secret meaning = (octets : List ℕ) × (secret_of secret ≡ Some octets) × (meaning ≡ Some (record { id = id; algorithm = algorithm; secret = octets }))
IsKeyOf id Skipped secret meaning = meaning ≡ None

-- the words of a line mean a key, or none: a line has no words, or three
abbrev pub IsKeyLine : List (List ℕ) → Option Key → Type 0
IsKeyLine [] meaning = meaning ≡ None
IsKeyLine (id ∷ []) meaning = ⊥
IsKeyLine (id ∷ type ∷ []) meaning = ⊥
IsKeyLine (id ∷ type ∷ secret ∷ []) meaning = (number : ℕ) × (key_type : KeyType) × IsId id number × (type_of type ≡ Some key_type) × IsKeyOf number key_type secret meaning
IsKeyLine (id ∷ type ∷ secret ∷ more ∷ words) meaning = ⊥
