-- What one worker did in a session: our own words.
use Rattle.std.specs.Prelude.{◌≡◌, ℕ, Some, List, []}
use Rattle.server_core.specs.declared.op.Op.{Op}
use Rattle.server_core.specs.States.{ServerState, stop_in}
use Rattle.shared_book.specs.declared.common.Common.{Common}
use Rattle.shared_book.specs.Entries.{View}
use Rattle.worker.specs.declared.working.WorkEnd.{WorkEnd}
use Rattle.worker.specs.declared.working.WorkEnd.TheVariants.{Closed, Ended}
use Rattle.worker.specs.Doings.{Did, Doing}
use Rattle.worker.specs.Turns.{MayLackAtEnd}

-- a seat that has seen nothing and made no call, over this opening
pub record IsNewSeat (opening : ServerState) (seat : View) : Type 0 where
  pub opened : seat.opening ≡ Some opening
  pub unseen : seat.front ≡ []
  pub uncalled : seat.own ≡ []

-- a stop by which work ended stands in the history
abbrev pub StandsAtEnd : List Op → WorkEnd → Type 0
StandsAtEnd history Closed = Unit {0}
StandsAtEnd history (Ended stop) = stop_in history ≡ Some stop

-- a worker at its seat before a session and after it, how its work ended, and how many of its silences lack their sweep
pub record Part : Type 0 where
  pub before : Doing
  pub after : Doing
  pub end : WorkEnd
  pub lacking : ℕ

-- A worker did its part in this history: it began without acts, at a new seat, and what it did from then on is told of the
-- history.
pub record IsPart (common : Common) (opening : ServerState) (history : List Op) (part : Part) : Type 0 where
  pub new_seat : IsNewSeat opening part.before.seat
  pub idle : part.before.acts ≡ []
  pub did : Did common opening history part.lacking part.before part.after
  pub may_lack : MayLackAtEnd part.end part.lacking
  pub stands : StandsAtEnd history part.end
