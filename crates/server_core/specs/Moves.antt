-- What the operations of a server are to its client list: moves of a list, as reads can tell. Our own words.
use Rattle.std.specs.Prelude.{ℕ, ◌^◌, ◌<◌, Bool, true, false, if◌then◌else◌, List, [], ◌∷◌}
use Rattle.mru_items.specs.declared.query.ReadRequest.{ReadRequest}
use Rattle.mru_read.specs.Histories.{Listing, ListHistory, Move, Still, Touch, Sweep as Sweeping, Read as Reading}
use Rattle.server_core.specs.declared.class.Ask.{Ask}
use Rattle.server_core.specs.declared.op.Op.{Op}
use Rattle.server_core.specs.declared.op.Op.TheVariants.{Publish, Arrive, Look, Read, Sweep, Stop}
use Rattle.server_core.specs.declared.read_reply.ReadReply.{ReadReply}
use Rattle.server_core.specs.declared.read_reply.ReadReply.TheVariants.{Ignored, Prohibited, Refused, Page}
use Rattle.server_core.specs.declared.verdict.Verdict.{Verdict}
use Rattle.server_core.specs.declared.verdict.Verdict.TheVariants.{Ignored as IgnoredAsk, Limited, Rate, Served}
use Rattle.server_core.specs.ReadReplies.{read_reply}
use Rattle.server_core.specs.States.{ServerState, state_after}
use Rattle.server_core.specs.Verdicts.{arrival_verdict, is_ignored, visit_of}

-- a client that gets this verdict is told to slow down
abbrev pub is_told : Verdict → Bool
is_told Rate = true
is_told IgnoredAsk = false
is_told Limited = false
is_told (Served basis) = false

-- a request for the time touches the list, but for that of a client that is ignored
abbrev pub arrival_move : ServerState → Ask → ℕ → Move
arrival_move s ask moment =
    if is_ignored s.published ask then Still
    else Touch (visit_of s.published ask) moment (is_told (arrival_verdict s.published s.limits s.rows s.stamp ask moment))

-- a read that got this reply reads the list, but for one that is ignored or prohibited
abbrev pub read_move : ReadReply → ReadRequest → ℕ → Move
read_move Ignored request moment = Still
read_move Prohibited request moment = Still
read_move Refused request moment = Reading request moment
read_move (Page status page) request moment = Reading request moment

-- what an operation is to the list of a server in this state
abbrev pub move_of : ServerState → Op → Move
move_of s (Publish rec) = Still
move_of s (Arrive ask moment) = arrival_move s ask moment
move_of s (Look asked context) = Still
move_of s (Read ask moment) = read_move (read_reply s.published s.rows s.stamp ask moment) ask.request moment
move_of s (Sweep moment) = Sweeping moment
move_of s (Stop stop) = Still

-- what operations are to the list of a server, one after another
abbrev pub moves_of : ServerState → List Op → List Move
moves_of s [] = []
moves_of s (op ∷ ops) = move_of s op ∷ moves_of (state_after s op) ops

-- the client list of a server, and its last stamp
abbrev pub listing_of : ServerState → Listing
listing_of s = record { rows = s.rows; stamp = s.stamp }

-- the history of a server's client list over operations
abbrev pub list_history : ServerState → List Op → ListHistory
list_history s ops = record { limits = s.limits; opening = listing_of s; moves = moves_of s ops }

-- the moment of an operation has 64 bits
abbrev pub HasMoment : Op → Type 0
HasMoment (Arrive ask moment) = moment < 2 ^ 64
HasMoment (Read ask moment) = moment < 2 ^ 64
HasMoment (Sweep moment) = moment < 2 ^ 64
HasMoment _ = Unit {0}

-- the moments of operations have 64 bits
abbrev pub HaveMoments : List Op → Type 0
HaveMoments [] = Unit {0}
HaveMoments (op ∷ ops) = HasMoment op × HaveMoments ops

-- operations over a server, one after another
pub record Run : Type 0 where
  pub opening : ServerState
  pub ops : List Op
