-- Digests over a secret: RFC 5905, section 7.3, with the hash functions of RFC 1321 and FIPS 180-4.
use Rattle.std.specs.Prelude.{ℕ, List, ◌++◌, take}
use Rattle.md5.specs.Md5.{md5}
use Rattle.sha1.specs.Sha1.{sha1}
use Rattle.sha2.specs.Sha256.{sha256}
use Rattle.mac_keys.specs.declared.keys.Algorithm.{Algorithm}
use Rattle.mac_keys.specs.declared.keys.Algorithm.TheVariants.{Md5, Sha1, Sha256}
use Rattle.mac_keys.specs.declared.keys.Key.{Key}

-- the hash of some octets, of which a message authentication code takes 20 at most
abbrev pub hash_of : Algorithm → List ℕ → List ℕ
hash_of Md5 octets = md5 octets
hash_of Sha1 octets = sha1 octets
hash_of Sha256 octets = take 20 (sha256 octets)

-- the digest of a message under a key: the hash of its secret followed by the message
abbrev pub digest_of : Key → List ℕ → List ℕ
digest_of key message = hash_of key.algorithm (key.secret ++ message)
