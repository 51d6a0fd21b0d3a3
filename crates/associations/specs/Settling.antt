-- From a taken reply to the system: selection, clustering, combining and the discipline (RFC 5905, sections 11.2 and 11.3; that the discipline takes the offset only after a reply of the system peer, and what a step forgets, are our own rules).
use Rattle.std.specs.Prelude.{ℕ, ◌≡◌, ◌==◌, Bool, true, false, if◌then◌else◌, List, map, None, Some}
use Rattle.clock_filter.specs.Filtering.{empty_state}
use Rattle.discipline.specs.Feedback.{LoopState, change_of, updated as updated_loop}
use Rattle.discipline.specs.declared.feedback.Change.{Change}
use Rattle.discipline.specs.declared.feedback.Change.TheVariants.{Ignored, Adjusted, Stepped, Panic}
use Rattle.select_cluster.specs.declared.combining.Combined.{Combined}
use Rattle.sys_vars.specs.declared.system.System.{System}
use Rattle.associations.specs.Candidates.{candidates_of}
use Rattle.associations.specs.Choices.{AreMarked, IsChoice, combined_of, survivors_in}
use Rattle.associations.specs.Systems.{SystemValues, after_change, unselected, values_of}
use Rattle.associations.specs.Taking.{peer_at}
use Rattle.associations.specs.declared.association.Association.{Association}
use Rattle.associations.specs.declared.choosing.Choice.{Choice}
use Rattle.associations.specs.declared.choosing.Choice.TheVariants.{NoMajority, Majority}

-- how a settle goes: no majority agrees; the system peer is another server than the one whose reply was taken; or the loop is updated with the combined offset
pub data SettleCase : Type 0 where
  no_majority : SettleCase
  not_system_peer : SettleCase
  updated : Change → SettleCase

-- by what the survivors combine to
abbrev pub case_by : Combined → ℕ → LoopState → ℕ → SettleCase
case_by combined peer engine moment =
    if combined.system == peer then updated (change_of engine combined.offset.0 moment) else not_system_peer

abbrev pub case_of : Choice → ℕ → LoopState → ℕ → SettleCase
case_of NoMajority peer engine moment = no_majority
case_of (Majority interval survivors) peer engine moment = case_by (combined_of survivors) peer engine moment

-- the clock is stepped
abbrev pub is_step : Change → Bool
is_step Ignored = false
is_step Adjusted = false
is_step Stepped = true
is_step Panic = false

abbrev pub is_stepped : SettleCase → Bool
is_stepped no_majority = false
is_stepped not_system_peer = false
is_stepped (updated change) = is_step change

-- a server after the clock was stepped: its samples and its estimate are of another time, and no reply is awaited
abbrev pub forgotten : Association → Association
forgotten server = record server { pending = None; filter = empty_state; estimate = None }

-- the servers after it: a step has all of them forget what was measured
abbrev pub peers_by : SettleCase → List Association → List Association
peers_by case peers = if is_stepped case then map forgotten peers else peers

-- the loop after it: updated where the discipline takes the offset, by the poll exponent of the server's line
abbrev pub loop_by : SettleCase → Combined → ℕ → LoopState → ℕ → LoopState
loop_by no_majority combined poll engine moment = engine
loop_by not_system_peer combined poll engine moment = engine
loop_by (updated change) combined poll engine moment = updated_loop engine combined.offset.0 poll moment

-- the system's values after it, by the loop as it is then
abbrev pub values_by : SettleCase → Association → Combined → LoopState → ℕ → SystemValues → SystemValues
values_by no_majority server combined engine moment old = unselected old
values_by not_system_peer server combined engine moment old = old
values_by (updated change) server combined engine moment old = after_change change server combined engine moment old

-- what a settle changes: the servers, the loop and the system
pub record SettleState : Type 0 where
  pub peers : List Association
  pub engine : LoopState
  pub system : System

-- what a settle at a moment makes of a state, after a reply of the server of this number
pub record IsSettled (before : SettleState) (peer moment : ℕ) (after : SettleState) : Type 0 where
  pub server : Association
  pub there : peer_at before.peers peer ≡ Some server
  pub choice : Choice
  pub chosen : IsChoice (candidates_of moment before.peers) choice
  pub marks : List Association
  pub marked : AreMarked choice moment before.peers marks
  pub others : after.peers ≡ peers_by (case_of choice peer before.engine moment) marks
  pub steered : after.engine
      ≡ loop_by (case_of choice peer before.engine moment) (combined_of (survivors_in choice)) server.line.poll before.engine moment
  pub shown : values_of after.system
      ≡ values_by (case_of choice peer before.engine moment) server (combined_of (survivors_in choice)) after.engine moment (values_of before.system)
