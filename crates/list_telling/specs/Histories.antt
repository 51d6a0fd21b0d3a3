-- What a server tells of its client list over a history: our own words.
use Rattle.std.specs.Prelude.{◌≡◌, ℕ, ◌^◌, ◌<◌, ◌≤◌, Option, Some, List, slice_get}
use Rattle.std.specs.List.{AllByRecursion}
use Rattle.access_rules.specs.declared.rules.Rule.{Rule}
use Rattle.edge_traits.specs.declared.salt.Salt.{Salt}
use Rattle.mac_keys.specs.declared.keys.Key.{Key}
use Rattle.mode6_frame.specs.Frames.{FrameParts}
use Rattle.mode6_frame.specs.Places.{frame_at}
use Rattle.mru_read.specs.Pages.{IsTellableRow}
use Rattle.mrulist_coverage.specs.Tellings.{Answers, Telling}
use Rattle.net_addr.specs.Addresses.{IsAddr}
use Rattle.net_addr.specs.declared.addr.Addr.{Addr}
use Rattle.net_addr.specs.declared.addr.Ip.{Ip}
use Rattle.recency.specs.Rows.{IsClientList}
use Rattle.server_core.specs.declared.class.Ask.{Ask}
use Rattle.server_core.specs.declared.class.Class.{Class}
use Rattle.server_core.specs.declared.op.Op.{Op}
use Rattle.server_core.specs.declared.op.Op.TheVariants.{Publish, Arrive, Read}
use Rattle.server_core.specs.Class.{IsClass}
use Rattle.server_core.specs.Control.{IsRequest}
use Rattle.server_core.specs.Histories.{IsLegal, state_at}
use Rattle.server_core.specs.Moves.{HaveMoments, list_history}
use Rattle.server_core.specs.Responses.{op_of}
use Rattle.server_core.specs.States.{ServerState}
use Rattle.sys_vars.specs.Contexts.{nonce_for}
use Rattle.sys_vars.specs.Status.{system_status_of}
use Rattle.sys_vars.specs.declared.context.Context.{Context}
use Rattle.list_telling.specs.Requests.{IsListRequest}

-- the moment of a read, and 0 of any other operation
abbrev pub read_moment : Option Op → ℕ
read_moment (Some (Read ask moment)) = moment
read_moment _ = 0

-- what a server with this secret tells a client at this address, over operations on this state: the history of its client
-- list, the time at which its clocks begin, and for the read at a place the nonce that was made then and the status
-- of the system
abbrev pub telling_of : Salt → Ip → ServerState → List Op → Telling
telling_of salt client opening ops = record {
  history = list_history opening ops;
  origin = opening.origin.0;
  nonce = λ place. nonce_for (record { origin = opening.origin; moment = read_moment (slice_get ops place); salt = salt }) client;
  status = λ place. system_status_of (state_at opening ops place).published.system;
}

-- a request for the time has numbers of their widths
abbrev pub IsTellableAsk : Ask → Type 0
IsTellableAsk ask = IsAddr ask.from × (ask.version ≤ 4)

-- rules have flags of 16 bits
abbrev pub HaveFlags : List Rule → Type 0
HaveFlags rules = AllByRecursion (λ rule. rule.flags < 2 ^ 16) rules

-- an operation has: only a request for the time makes a row, with the flags that the rules give its sender
abbrev pub IsTellableOp : Op → Type 0
IsTellableOp (Publish boxed) = HaveFlags boxed.value.rules
IsTellableOp (Arrive ask moment) = IsTellableAsk ask
IsTellableOp _ = Unit {0}

-- operations have
abbrev pub AreTellableOps : List Op → Type 0
AreTellableOps ops = AllByRecursion IsTellableOp ops

-- A history that a server can have: it opens with a client list, whose rows have numbers of their widths, the operations
-- are legal, and their numbers have their widths too.
pub record IsServersHistory (opening : ServerState) (ops : List Op) : Type 0 where
  pub list : IsClientList opening.limits opening.rows opening.stamp
  pub rows : AllByRecursion IsTellableRow opening.rows
  pub flags : HaveFlags opening.published.rules
  pub stamp : opening.stamp < 2 ^ 64
  pub origin : opening.origin.0 < 2 ^ 64
  pub legal : IsLegal opening ops
  pub moments : HaveMoments ops
  pub tellable : AreTellableOps ops

-- A datagram of a listing's request from this address that a server took: it is a whole control message, it came in this
-- context, its class is this, and its operation stands in the history between these.
pub record IsTakenIn (opening : ServerState) (keys : List Key) (context : Context) (from : Addr) (octets : List ℕ) (class : Class) (before after : List Op) (op : Op) : Type 0 where
  pub control : (f : FrameParts) × IsRequest octets f
  pub is_class : IsClass octets from keys context class
  pub is_op : op_of context class ≡ Some op
  pub origin : context.origin ≡ opening.origin
  pub request : IsListRequest (frame_at octets) opening.origin.0

-- A datagram of the answer to a request, of which these octets are told: it has the request's sequence number, and answers
-- the request by the read at the place of its operation, where the place is not below this number.
pub record IsTold (t : Telling) (request gram : List ℕ) (place : Option ℕ) : Type 0 where
  pub sequence : (frame_at gram).sequence ≡ (frame_at request).sequence
  pub answers : (floor : ℕ) → ((number : ℕ) → place ≡ Some number → floor ≤ number)
      → Answers t (frame_at request) floor place (frame_at gram)
