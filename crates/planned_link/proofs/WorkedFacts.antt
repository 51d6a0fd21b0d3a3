-- The constant by its number, and fates by example.
use Rattle.std.proofs.Common.{◌≡◌, ℕ, ◌-◌, ◌^◌, None, [], ◌∷◌, refl}
use Rattle.net_addr.specs.declared.addr.Addr.{Addr}
use Rattle.planned_link.specs.declared.fate.Fate.TheVariants.{Lost, Twice, Front}
use Rattle.planned_link.specs.declared.link.TheConstants.{TICK}
use Rattle.planned_link.specs.declared.queued.Queued.{Queued}
use Rattle.planned_link.specs.Fates.{fated}
use Rattle.planned_link.specs.Links.{next_moment}

-- a sixteenth of a second
TICK-is : TICK ≡ 2 ^ 28
TICK-is = refl

-- the moment stays at the greatest that there is
last_moment : next_moment (2 ^ 64 - 1) ≡ 2 ^ 64 - 1
last_moment = refl

-- a datagram of these octets
gram : Addr → ℕ → Queued
gram from octet = record { from = from; octets = octet ∷ []; place = None }

-- one is lost, one comes twice, one comes early, and one beyond the fates waits at the end
each_fate : (from : Addr) → fated (Lost ∷ Twice ∷ Front ∷ []) (gram from 1 ∷ gram from 2 ∷ gram from 3 ∷ gram from 4 ∷ []) (gram from 0 ∷ [])
    ≡ gram from 3 ∷ gram from 0 ∷ gram from 2 ∷ gram from 2 ∷ gram from 4 ∷ []
each_fate from = refl
