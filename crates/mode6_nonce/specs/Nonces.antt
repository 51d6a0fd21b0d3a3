-- Nonces of control requests: a timestamp, and 32 bits of hash of that timestamp, the address and the server's salt
-- (RFC 9327, section 4, command 12; their spelling, the hash and the lifetime are our own rules).
use Rattle.std.specs.Prelude.{◌≡◌, ℕ, ◌^◌, ◌<◌, pos, ◌≤ℤ◌, List, ◌++◌, take}
use Rattle.byteorder.specs.Endian.{big_bytes}
use Rattle.edge_traits.specs.declared.salt.Salt.{Salt}
use Rattle.fixed_time.specs.Time.{diff_of}
use Rattle.hex.specs.Hex.{encode_lower}
use Rattle.md5.specs.Md5.{md5}
use Rattle.mode6_nonce.specs.declared.checking.TheConstants.{LIFETIME}
use Rattle.net_addr.specs.declared.addr.Ip.{Ip}
use Rattle.net_addr.specs.declared.addr.Ip.TheVariants.{V4, V6}

-- the octets of an IP address in network order, four or sixteen
abbrev pub octets_of : Ip → List ℕ
octets_of (V4 octets) = octets
octets_of (V6 octets) = octets

-- what a nonce's digest is made of: the salt, the octets of the address, and the time's eight, the highest first
abbrev pub digested_for : Salt → Ip → ℕ → List ℕ
digested_for salt ip time = salt.0 ++ octets_of ip ++ big_bytes 8 time

-- the 96 bits of a nonce for an address and a time: the time, and the first four octets of the digest
abbrev pub nonce_octets : Salt → Ip → ℕ → List ℕ
nonce_octets salt ip time = big_bytes 8 time ++ take 4 (md5 (digested_for salt ip time))

-- the nonce for an address and a time: its 96 bits in lower-case hexadecimal digits, 16 of the time and 8 of the digest
unfoldable pub nonce_of : Salt → Ip → ℕ → List ℕ
nonce_of salt ip time = encode_lower (nonce_octets salt ip time)

-- a nonce that was made at this time is taken now: the time lies no longer back than a nonce lives, and not ahead
abbrev pub IsAlive : ℕ → ℕ → Type 0
IsAlive now time = (pos 0 ≤ℤ diff_of now time) × (diff_of now time ≤ℤ LIFETIME)

-- octets are a good nonce for an address now: they are its nonce for some time that lies no longer back than a nonce
-- lives, and not ahead
pub record IsGood (salt : Salt) (ip : Ip) (nonce : List ℕ) (now : ℕ) : Type 0 where
  pub time : ℕ
  pub in_era : time < 2 ^ 64
  pub made : nonce ≡ nonce_of salt ip time
  pub alive : IsAlive now time
