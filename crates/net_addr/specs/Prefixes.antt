-- Prefixes of addresses, in the notation of RFC 4632, section 3.1, and RFC 4291, section 2.3.
use Rattle.std.specs.Prelude.{◌≡◌, ℕ, ◌*◌, ◌/◌, ◌-◌, ◌^◌, ◌≤◌, ◌==◌, ◌&&◌, Bool}
use Rattle.std.specs.Int.{w32, w128, to_be_bytes}
use Rattle.net_addr.specs.declared.addr.Ip.{Ip}
use Rattle.net_addr.specs.declared.addr.Ip.TheVariants.{V4, V6}
use Rattle.net_addr.specs.declared.prefix.Prefix.{Prefix}
use Rattle.net_addr.specs.Addresses.{bits_of, number_of}
pub use Rattle.net_addr.specs.Addresses.{same_family}

-- the address without its last bits: the number of its first `length` bits
abbrev pub first_bits : ℕ → Ip → ℕ
first_bits length ip = number_of ip / 2 ^ (bits_of ip - length)

-- the prefix has the address: they are of one family and agree in the first `length` bits
abbrev pub has_ip : Prefix → Ip → Bool
has_ip prefix ip =
    same_family ip prefix.ip && (first_bits prefix.length ip == first_bits prefix.length prefix.ip)

-- the address of the family of `ip` whose number is n
unfoldable pub numbered : Ip → ℕ → Ip
numbered (V4 octets) n = V4 (to_be_bytes w32 n)
numbered (V6 octets) n = V6 (to_be_bytes w128 n)

-- the first `length` bits of an address, and zeros after them
abbrev pub without_host_bits : ℕ → Ip → Ip
without_host_bits length ip = numbered ip (first_bits length ip * 2 ^ (bits_of ip - length))

-- the mask has this length: it is as many ones, and then zeros
abbrev pub IsMask : Ip → ℕ → Type 0
IsMask mask length =
    (length ≤ bits_of mask) × (number_of mask ≡ (2 ^ length - 1) * 2 ^ (bits_of mask - length))
