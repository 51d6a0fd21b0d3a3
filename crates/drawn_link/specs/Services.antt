-- How a server goes on, and what becomes of a datagram that it takes: our own words.
use Rattle.std.specs.Prelude.{◌≡◌, ◌⊎◌, ℕ, Bool, false, Some, List, [], ◌∷◌, ◌++◌, length, map}
use Rattle.std.specs.List.{flat_map}
use Rattle.edge_traits.specs.declared.port.Event.TheVariants.{Took, Sent}
use Rattle.net_addr.specs.declared.addr.Addr.{Addr}
use Rattle.server_core.specs.declared.op.Op.{Op}
use Rattle.server_core.specs.Books.{BookParts}
use Rattle.server_core.specs.Histories.{IsLegal, state_after_all}
use Rattle.server_core.specs.declared.class.Class.{Class}
use Rattle.server_core.specs.declared.request.Request.{Request}
use Rattle.server_core.specs.Class.{IsClass}
use Rattle.server_core.specs.Responses.{op_of, response_of, response_to}
use Rattle.server_core.specs.States.{ServerState, reply_to}
use Rattle.sys_vars.specs.declared.context.Context.{Context}
use Rattle.shared_book.specs.declared.common.Common.{Common}
use Rattle.wire.specs.declared.wire.WireEvent.{WireEvent}
use Rattle.wire.specs.declared.wire.WireEvent.TheVariants.{Worker}
use Rattle.worker.specs.declared.act.Act.{Act}
use Rattle.worker.specs.Acts.{Climbs, IsAct, place_in}
use Rattle.drawn_link.specs.declared.serving.Service.{Service}

-- a server went on by some operations, all of them legal
pub record Runs (old new : BookParts) : Type 0 where
  pub more : List Op
  pub journal_is : new.journal ≡ old.journal ++ more
  pub state_is : new.state ≡ state_after_all old.state more
  pub legal : IsLegal old.state more

-- a datagram from this address was served: it became this act over each history that leads to the server, with all of its
-- answer, and names no earlier place
pub record IsService (common : Common) (from : Addr) (octets : List ℕ) (old : BookParts) (service : Service) (new : BookParts) : Type 0 where
  pub runs : Runs old new
  pub becomes : (opening : ServerState) → old.state ≡ state_after_all opening old.journal
      → IsAct common opening new.journal service.act octets service.grams
      × Climbs (length old.journal) (place_in service.act.kind) (length new.journal)
  pub from_is : service.act.from ≡ from
  pub whole : service.act.given ≡ length service.grams

-- a datagram was served so, one time after another
abbrev pub AreServices : Common → Addr → List ℕ → BookParts → List Service → BookParts → Type 0
AreServices common from octets old [] last = Runs old last
AreServices common from octets old (service ∷ services) last =
    (next : BookParts) × IsService common from octets old service next × AreServices common from octets next services last

-- a datagram was refused and passed over, or served once, whose service comes behind these
abbrev pub IsServedOnce : Common → Addr → List ℕ → BookParts → List Service → List Service → BookParts → Type 0
IsServedOnce common from octets old before after new =
    ((new ≡ old) × (after ≡ before))
    ⊎ ((service : Service) × IsService common from octets old service new × (after ≡ before ++ service ∷ []))

-- a datagram from this address that came in this context asks a server for this operation, and its response is made of this
-- request
pub record IsAsking (common : Common) (from : Addr) (octets : List ℕ) (context : Context) (op : Op) (request : Request) : Type 0 where
  pub class : Class
  pub is_class : IsClass octets from common.keys context class
  pub is_op : op_of context class ≡ Some op
  pub responds : (s : ServerState) → response_of s context class ≡ response_to request (reply_to s op)

-- a datagram was given to a server, to its address or not: other operations came, and then it was served as often as it
-- may be, where it was for the server
pub record IsGiven (common : Common) (from : Addr) (octets : List ℕ) (is_served : Bool) (old : BookParts) (services : List Service) (new : BookParts) : Type 0 where
  pub between : BookParts
  pub runs : Runs old between
  pub are : AreServices common from octets between services new
  pub none : is_served ≡ false → services ≡ []

-- the acts of services
abbrev pub acts_of : List Service → List Act
acts_of services = map (λ service. service.act) services

-- the datagrams of their answers
abbrev pub grams_in : List Service → List (List ℕ)
grams_in services = flat_map (λ service. service.grams) services

-- what happened at the worker's port while a datagram from this address was served
abbrev pub service_events : Addr → List ℕ → List Service → List WireEvent
service_events from octets [] = []
service_events from octets (service ∷ services) =
    Worker (Took from octets) ∷ (map (λ gram. Worker (Sent from gram)) service.grams ++ service_events from octets services)
