-- Acts and the datagrams that they answer, and what clients an operation names.
use Rattle.std.proofs.Common.{◌≡◌, ◌<◌, ℕ, Bool, true, false, Some, List, [], ◌∷◌, slice_get}
use mathlib.Core.List.{IsPrefix}
use Rattle.std.specs.List.{list_any}
use Rattle.access_rules.specs.Rules.{flags_of}
use Rattle.draws.specs.Clients.{client_addr, client_ip}
use Rattle.draws.specs.declared.clients.TheConstants.{CLIENTS}
use Rattle.net_addr.specs.Addresses.{same_ip}
use Rattle.net_addr.specs.declared.addr.Ip.{Ip}
use Rattle.server_core.specs.Histories.{state_after_all}
use Rattle.server_core.specs.States.{ServerState}
use Rattle.server_core.specs.declared.class.Ask.{Ask}
use Rattle.server_core.specs.declared.op.Op.{Op}
use Rattle.server_core.specs.declared.op.Op.TheVariants.{Publish, Arrive, Look, Read, Sweep, Stop}
use Rattle.sys_vars.specs.declared.asked.Asked.{Asked}
use Rattle.sys_vars.specs.declared.context.Context.{Context}
use Rattle.worker.specs.Acts.{place_in}
use Rattle.worker.specs.declared.act.Act.{Act}
use Rattle.drawn_session.specs.Counts.{gives_time, is_control, is_silent}
use Rattle.drawn_session.specs.declared.datagrams.DrawnDatagram.{DrawnDatagram}
use Rattle.drawn_session.specs.declared.datagrams.Kind.{Kind}
use Rattle.drawn_session.specs.declared.datagrams.Kind.TheVariants.{Cut, Control, Time}

-- the act gave the time for an arrival of this client, which stands in the history at the act's place
pub record IsTimeFor (history : List Op) (client : ℕ) (act : Act) : Type 0 where
  pub gives : gives_time act.kind ≡ true
  pub place : ℕ
  pub place_is : place_in act.kind ≡ place ∷ []
  pub ask : Ask
  pub moment : ℕ
  pub stands : slice_get history place ≡ Some (Arrive ask moment)
  pub from_is : ask.from ≡ client_addr client

-- the act answered a control request, which stands in the history at the act's place
pub record IsControlFor (history : List Op) (act : Act) : Type 0 where
  pub controls : is_control act.kind ≡ true
  pub place : ℕ
  pub place_is : place_in act.kind ≡ place ∷ []
  pub asked : Asked
  pub context : Context
  pub stands : slice_get history place ≡ Some (Look asked context)

-- the act heard nothing, and names no place
pub record IsSilentFor (act : Act) : Type 0 where
  pub silent : is_silent act.kind ≡ true
  pub placeless : place_in act.kind ≡ []

-- the act is that of a datagram of this kind from this client
abbrev pub IsActBy : List Op → Kind → ℕ → Act → Type 0
IsActBy history Time client act = IsTimeFor history client act
IsActBy history Control client act = IsControlFor history act
IsActBy history Cut client act = IsSilentFor act

-- acts are those of these datagrams, one for each, in their order
abbrev pub AreActsFor : List Op → List DrawnDatagram → List Act → Type 0
AreActsFor history [] [] = Unit {0}
AreActsFor history (d ∷ ds) (act ∷ acts) = IsActBy history d.kind d.client act × AreActsFor history ds acts
AreActsFor history _ _ = ⊥

-- nobody is refused or limited, at any place of the history: no address has a restrict flag
abbrev pub RefusesNobody : ServerState → List Op → Type 0
RefusesNobody opening history =
    (front : List Op) → IsPrefix front history → (ip : Ip) → flags_of (state_after_all opening front).published.rules ip ≡ 0

-- an arrival is that of a client with a number; any other operation is none
abbrev pub IsOfClient : Op → Type 0
IsOfClient (Arrive ask moment) = (client : ℕ) × (client < CLIENTS) × (ask.from ≡ client_addr client)
IsOfClient (Publish boxed) = Unit {0}
IsOfClient (Look asked context) = Unit {0}
IsOfClient (Read ask moment) = Unit {0}
IsOfClient (Sweep moment) = Unit {0}
IsOfClient (Stop stop) = Unit {0}

-- an operation is an arrival of this client
abbrev pub is_arrival_of : ℕ → Op → Bool
is_arrival_of client (Arrive ask moment) = same_ip ask.from.ip (client_ip client)
is_arrival_of client (Publish boxed) = false
is_arrival_of client (Look asked context) = false
is_arrival_of client (Read ask moment) = false
is_arrival_of client (Sweep moment) = false
is_arrival_of client (Stop stop) = false

-- this client arrives in a history
abbrev pub arrives : List Op → ℕ → Bool
arrives history client = list_any (is_arrival_of client) history
