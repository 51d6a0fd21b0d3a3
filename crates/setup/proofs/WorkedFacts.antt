-- The limit and the address of this crate, by their numbers.
use Rattle.std.proofs.Common.{◌≡◌, ◌∷◌, [], refl}
use Rattle.net_addr.specs.declared.addr.Addr.{Addr}
use Rattle.net_addr.specs.declared.addr.Ip.TheVariants.{V4}
use Rattle.setup.specs.declared.files.TheConstants.{MAX_FILE}
use Rattle.setup.specs.declared.listening.TheConstants.{UPSTREAM}

-- a file of 1 MiB
file_limit : MAX_FILE ≡ 1048576
file_limit = refl

-- the upstream port is bound at 0.0.0.0, and the system chooses its number
upstream : ◌≡◌ {A = Addr} UPSTREAM (record { ip = V4 (0 ∷ 0 ∷ 0 ∷ 0 ∷ []); port = 0 })
upstream = refl
