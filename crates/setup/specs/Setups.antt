-- The session that a configuration asks for: our own words.
use Rattle.std.specs.Prelude.{◌≡◌, ℕ, false, Option, None, List, [], ◌∷◌, ◌++◌, map}
use Rattle.access_rules.specs.declared.servers.ServerLine.{ServerLine}
use Rattle.associations.specs.Associations.{opened}
use Rattle.conf_file.specs.Servers.{words_of_server}
use Rattle.conf_file.specs.declared.conf.Conf.{Conf}
use Rattle.discipline.specs.Feedback.{begun}
use Rattle.edge_traits.specs.Told.{TellsJust}
use Rattle.edge_traits.specs.declared.port.Event.{Event}
use Rattle.edge_traits.specs.declared.salt.Salt.{Salt}
use Rattle.fixed_time.specs.declared.time.Ntp64.{Ntp64}
use Rattle.mac_keys.specs.declared.keys.Key.{Key}
use Rattle.net_addr.specs.declared.addr.Addr.{Addr}
use Rattle.pilot.specs.Views.{PilotParts}
use Rattle.responders.specs.declared.session.Session.{Session}
use Rattle.worker.specs.Workers.{WorkerView}
use Rattle.setup.specs.Openings.{first_state, opening_clock}
use Rattle.setup.specs.declared.listening.TheConstants.{UPSTREAM}

-- what a port and a clock tell that are new: where the port was bound, and that nothing happened yet
pub record IsNew (at : Addr) (trace : Option (List Event)) (faults quiets : ℕ) (address : Addr) (readings : Option (List ℕ)) : Type 0 where
  pub untouched : TellsJust trace []
  pub faultless : faults ≡ 0
  pub unquiet : quiets ≡ 0
  pub bound : address ≡ at
  pub unread : TellsJust readings []

module _ {P C : Type 0} (trace : P → Option (List Event)) (faults quiets : P → ℕ) (address : P → Addr) (readings : C → Option (List ℕ)) where
  -- a worker that has done nothing yet, at a new port of this address
  pub record IsNewWorker (at : Addr) (worker : WorkerView P C) : Type 0 where
    pub outside : IsNew at (trace worker.port) (faults worker.port) (quiets worker.port) (address worker.port) (readings worker.clock)
    pub empty : worker.carry ≡ None
    pub idle : worker.acts ≡ []

  -- one such worker at each address, in their order
  abbrev pub AreNewWorkers : List Addr → List (WorkerView P C) → Type 0
  AreNewWorkers [] [] = Unit {0}
  AreNewWorkers (at ∷ ats) (worker ∷ workers) = IsNewWorker at worker × AreNewWorkers ats workers
  AreNewWorkers _ _ = ⊥

-- a pilot that has done nothing yet, at a new port, for the servers of a configuration
pub record IsNewPilot (conf : Conf) (origin : Ntp64) (pilot : PilotParts) : Type 0 where
  pub outside : IsNew UPSTREAM pilot.helm.outside.trace pilot.helm.outside.faults pilot.helm.outside.quiets pilot.helm.outside.address pilot.helm.outside.readings
  pub lines : List ServerLine
  pub lines_are : map words_of_server lines ≡ conf.servers
  pub peers : pilot.helm.steering.peers ≡ map opened lines
  pub engine : pilot.helm.steering.engine ≡ begun (opening_clock origin conf.freq) conf.freq
  pub epoch : pilot.helm.steering.epoch ≡ 0
  pub due : pilot.helm.steering.due ≡ []
  pub unbegun : pilot.helm.steering.begun ≡ false
  pub left : pilot.helm.left ≡ 0
  pub unready : pilot.basis ≡ None

-- The first session of a server of this configuration, with these keys, of a host with this secret and this origin.
pub record IsSetUp {P C : Type 0} (trace : P → Option (List Event)) (faults quiets : P → ℕ) (address : P → Addr) (readings : C → Option (List ℕ)) (conf : Conf) (keys : List Key) (salt : Salt) (origin : Ntp64) (session : Session P C) : Type 0 where
  pub common : session.common ≡ record { keys = keys; salt = salt; origin = origin }
  pub state : session.book.state ≡ first_state conf origin
  pub journal : session.book.journal ≡ []
  pub workers : AreNewWorkers trace faults quiets address readings conf.listen session.workers
  pub pilot : IsNewPilot conf origin session.pilot

-- the addresses that are bound for a configuration, in their order: where it listens, and then that of the upstream port
abbrev pub binds_for : Conf → List Addr
binds_for conf = conf.listen ++ UPSTREAM ∷ []
