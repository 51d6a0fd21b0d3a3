-- The clients that arrive at a server: our own rule.
use Rattle.std.specs.Prelude.{ℕ, zero, suc, ◌+◌, ◌*◌, ◌^◌, pos, List, [], ◌∷◌, ◌++◌}
use Rattle.std.proofs.Common.{lit≤}
use Rattle.draws.specs.Clients.{client_addr}
use Rattle.mac_keys.specs.declared.checking.Auth.TheVariants.{Absent}
use Rattle.server_core.specs.declared.class.Ask.{Ask}
use Rattle.server_core.specs.declared.op.Op.{Op}
use Rattle.server_core.specs.declared.op.Op.TheVariants.{Publish, Arrive, Look, Read, Sweep, Stop}

-- what it asks
abbrev pub ask_of : ℕ → Ask
ask_of number = record {
  from = client_addr number;
  version = 4;
  poll = pos 6;
  transmit = record { 0 = 0 };
  auth = Absent;
  version_least = lit≤ tt;
  version_most = lit≤ tt;
}

-- it arrives first as many seconds after the origin as there are clients up to it
abbrev pub first_arrival : ℕ → Op
first_arrival number = Arrive (ask_of number) ((number + 1) * 2 ^ 32)

-- so many clients arrive first, one after another
unfoldable pub first_arrivals : ℕ → List Op
first_arrivals zero = []
first_arrivals (suc number) = first_arrivals number ++ first_arrival number ∷ []

-- what happens amidst: a client arrives, or old rows go
abbrev pub IsAmidst : Op → Type 0
IsAmidst (Arrive ask moment) = Unit {0}
IsAmidst (Sweep moment) = Unit {0}
IsAmidst (Publish boxed) = ⊥
IsAmidst (Look asked context) = ⊥
IsAmidst (Read ask moment) = ⊥
IsAmidst (Stop stop) = ⊥
