-- Prefixes are known by their address and their length.
use Rattle.std.proofs.Common.{◌≡◌, ◌≤◌, ◌%◌, ◌^◌, ◌-◌, ℕ, Option, Some}
use Rattle.std.proofs.NetLemmas.Options.{same_parts}
use Rattle.std.specs.Coded.{le_prop}
use Rattle.std.proofs.Math.Nat.{ℕ_set}
use mathlib.Core.HLevel.{is_prop→PathP}
use Rattle.net_addr.specs.declared.addr.Ip.{Ip}
use Rattle.net_addr.specs.declared.prefix.Prefix.{Prefix}
use Rattle.net_addr.specs.Addresses.{bits_of, number_of}

pub prefix-one : (one other : Prefix) → one.ip ≡ other.ip → one.length ≡ other.length → one ≡ other
prefix-one one other same_ip same_length = λ i. record {
  ip = same_ip i;
  length = same_length i;
  within = is_prop→PathP (λ j. same_length j ≤ bits_of (same_ip j)) (λ j. le_prop) one.within other.within i;
  host_bits = is_prop→PathP (λ j. number_of (same_ip j) % 2 ^ (bits_of (same_ip j) - same_length j) ≡ 0) (λ j. hlevel ℕ_set) one.host_bits other.host_bits i;
}

pub some-parts : (one other : Ip) (m n : ℕ) → ◌≡◌ {A = Option (Ip × ℕ)} (Some (one, m)) (Some (other, n)) → (one ≡ other) × (m ≡ n)
some-parts one other m n same = same_parts one other m n same
