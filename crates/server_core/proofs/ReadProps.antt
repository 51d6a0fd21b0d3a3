-- That a server can read a page so is a fact that is shown in one way.
use Rattle.std.proofs.Common.{◌<◌, ◌^◌, ℕ, length, Option, None, Some, refl}
use Rattle.std.specs.List.{AllByRecursion-prop}
use Rattle.std.proofs.Math.Bridge.{le_prop}
use Rattle.std.proofs.Math.Logic.{∥∥₁_elim}
use Rattle.std.proofs.Math.Nat.{ℕ_set}
use Rattle.net_addr.specs.declared.addr.Addr.{Addr}
use Rattle.net_addr.specs.declared.addr.Ip.{Ip}
use Rattle.net_addr.specs.declared.addr.Ip.TheVariants.{V4, V6}
use Rattle.net_addr.specs.Addresses.{IsIp, IsAddr}
use Rattle.mru_items.specs.declared.pair.Pair.{Pair}
use Rattle.mru_items.specs.declared.query.ReadRequest.{ReadRequest}
use Rattle.mru_items.specs.Queries.{IsLimit, IsRead}

-- that an address is one is shown in one way
IsIp-prop : (ip : Ip) → IsProp (IsIp ip)
IsIp-prop (V4 octets) a b = λ i. (ℕ_set (length octets) 4 a.0 b.0 i, λ place other within. le_prop (a.1 place other within) (b.1 place other within) i)
IsIp-prop (V6 octets) a b = λ i. (ℕ_set (length octets) 16 a.0 b.0 i, λ place other within. le_prop (a.1 place other within) (b.1 place other within) i)

IsAddr-prop : (addr : Addr) → IsProp (IsAddr addr)
IsAddr-prop addr a b = λ i. record { ip = IsIp-prop addr.ip a.ip b.ip i; port = le_prop a.port b.port i }

-- so is it that a pair has an address and a stamp
abbrev IsPair : Pair → Type 0
IsPair pair = IsAddr pair.addr × (pair.last < 2 ^ 64)

IsPair-prop : (pair : Pair) → IsProp (IsPair pair)
IsPair-prop pair a b = λ i. (IsAddr-prop pair.addr a.0 b.0 i, le_prop a.1 b.1 i)

-- and that a limit is one
IsLimit-prop : (limit : Option ℕ) → IsProp (IsLimit limit)
IsLimit-prop None a b = refl
IsLimit-prop (Some limit) a b = λ i. (le_prop a.0 b.0 i, le_prop a.1 b.1 i)

-- that a server can read a page so is shown in one way
IsRead-prop : (request : ReadRequest) → IsProp (IsRead request)
IsRead-prop request a b = λ i. record {
  limit = IsLimit-prop request.limit a.limit b.limit i;
  least = le_prop a.least b.least i;
  most = le_prop a.most b.most i;
  few = le_prop a.few b.few i;
  pairs = AllByRecursion-prop IsPair IsPair-prop request.pairs a.pairs b.pairs i;
}

-- so where it is known to be so, it can
pub IsRead-known : (request : ReadRequest) → ∥ IsRead request ∥₁ → IsRead request
IsRead-known request known = ∥∥₁_elim known (IsRead-prop request) (λ read. read)
