-- A book: a server between two operations, with the journal of those that it took. Our own words.
use Rattle.std.specs.Prelude.{◌≡◌, false, List, [], ◌∷◌, ◌++◌, None}
use Rattle.recency.specs.Rows.{find_row}
use Rattle.sys_vars.specs.Answers.{IsWithin}
use Rattle.server_core.specs.declared.op.Op.{Op}
use Rattle.server_core.specs.declared.op.Op.TheVariants.{Publish, Arrive, Look, Read, Sweep, Stop}
use Rattle.server_core.specs.declared.step.Reply.{Reply}
use Rattle.server_core.specs.declared.step.Reply.TheVariants.{Published, Time, Looked, Read as ReadReplied, Swept, Stopped}
use Rattle.server_core.specs.ReadReplies.{IsTellableRead}
use Rattle.server_core.specs.States.{ServerState, refusal_of, state_after}
use Rattle.server_core.specs.Verdicts.{is_ignored}

-- the server as it stands, and its journal
pub record BookParts : Type 0 where
  pub state : ServerState
  pub journal : List Op

-- the server one operation further, which its journal has at its end
abbrev pub stepped : BookParts → Op → BookParts
stepped book op = record { state = state_after book.state op; journal = book.journal ++ op ∷ [] }

-- an operation may want memory: what a control request is answered with, a page of the client list, and a client that is
-- new to the list
abbrev pub MayWant : ServerState → Op → Type 0
MayWant s (Look asked context) = Unit {0}
MayWant s (Read ask moment) = Unit {0}
MayWant s (Arrive ask moment) = (is_ignored s.published ask ≡ false) × (find_row s.rows ask.from.ip ≡ None)
MayWant s (Publish rec) = ⊥
MayWant s (Sweep moment) = ⊥
MayWant s (Stop stop) = ⊥

-- no operation is refused, but for want of memory
abbrev pub IsOpen : BookParts → Type 0
IsOpen book = (op : Op) → refusal_of book.journal book.state.stamp op ≡ None

-- no datagram that answers a control request is longer than a control message can be
abbrev pub IsShort : Reply → Type 0
IsShort (Looked answer) = IsWithin answer
IsShort Published = Unit {0}
IsShort (Time verdict) = Unit {0}
IsShort (ReadReplied reply) = Unit {0}
IsShort (Swept count) = Unit {0}
IsShort Stopped = Unit {0}

-- the page of a reply can be told
abbrev pub IsTellableReply : Reply → Type 0
IsTellableReply (ReadReplied reply) = IsTellableRead reply
IsTellableReply (Looked answer) = Unit {0}
IsTellableReply Published = Unit {0}
IsTellableReply (Time verdict) = Unit {0}
IsTellableReply (Swept count) = Unit {0}
IsTellableReply Stopped = Unit {0}
