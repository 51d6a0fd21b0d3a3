-- The session of a configuration, as a whole.
use Rattle.std.proofs.Common.{◌≡◌, ℕ, List, Option, Result, Ok, Err, IfOk, OnOk}
use Rattle.conf_file.specs.declared.conf.Conf.{Conf}
use Rattle.edge_traits.specs.Told.{gained}
use Rattle.edge_traits.specs.declared.port.Event.{Event}
use Rattle.edge_traits.specs.declared.salt.Salt.{Salt}
use Rattle.fixed_time.specs.declared.time.Ntp64.{Ntp64}
use Rattle.mac_keys.specs.declared.keys.Key.{Key}
use Rattle.net_addr.specs.declared.addr.Addr.{Addr}
use Rattle.responders.specs.declared.session.Session.{Session}
use Rattle.setup.specs.Files.{AreKeys, Files, HasConf}
use Rattle.setup.specs.Setups.{IsSetUp, binds_for}

-- a session is that of the configuration and the keys that were read, and its ports were bound
pub session_made : {P C E : Type 0} (trace : P → Option (List Event)) (faults quiets : P → ℕ) (address : P → Addr) (readings : C → Option (List ℕ)) (files : Files) (name : List ℕ)
    (before after : Option (List Addr)) (conf : Conf) (keys : List Key) (salt : Salt) (origin : Ntp64) (result : Result (Session P C) E) → HasConf files name conf → AreKeys files conf.keys keys
    → IfOk result (IsSetUp trace faults quiets address readings conf keys salt origin) → OnOk result (after ≡ gained before (binds_for conf))
    → IfOk result (λ session. (read : Conf) × (known : List Key) × HasConf files name read × AreKeys files read.keys known × (after ≡ gained before (binds_for read))
    × IsSetUp trace faults quiets address readings read known salt origin session)
session_made trace faults quiets address readings files name before after conf keys salt origin (Ok session) has are is bound = (conf, keys, has, are, bound, is)
session_made trace faults quiets address readings files name before after conf keys salt origin (Err fault) has are is bound = tt
