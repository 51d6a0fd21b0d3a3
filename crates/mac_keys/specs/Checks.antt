-- Which digests are authentic: RFC 5905, section 7.3.
use Rattle.std.specs.Prelude.{◌≡◌, ℕ, Bool, true, false, List, IsSomeAnd}
use Rattle.mac_keys.specs.declared.checking.Auth.{Auth}
use Rattle.mac_keys.specs.declared.checking.Auth.TheVariants.{Absent, Good, Bad}
use Rattle.mac_keys.specs.declared.keys.Key.{Key}
use Rattle.mac_keys.specs.Digests.{digest_of}
use Rattle.mac_keys.specs.Tables.{key_of}

-- the table has the key with this id, and the digest given is that of the message under it
abbrev pub IsAuthentic : List Key → ℕ → List ℕ → List ℕ → Type 0
IsAuthentic keys id message given = IsSomeAnd (key_of keys id) (λ key. given ≡ digest_of key message)

-- what a message authentication code shows is good: it is that of a key
abbrev pub is_good : Auth → Bool
is_good Absent = false
is_good (Good id) = true
is_good Bad = false
