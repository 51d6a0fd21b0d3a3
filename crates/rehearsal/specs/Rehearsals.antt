-- A rehearsal: our own words.
use Rattle.std.specs.Prelude.{ℕ}
use Rattle.drawn_link.specs.Runs.{IsEnded}
use Rattle.drawn_session.specs.Sessions.{IsSessionEnd}
use Rattle.rehearsal.specs.declared.rehearsing.Rehearsed.{Rehearsed}

-- a rehearsal of a number: the session that it draws was served, and a listing was run over a link
pub record IsRehearsed (number : ℕ) (r : Rehearsed) : Type 0 where
  pub session : IsSessionEnd number r.session
  pub link : IsEnded r.link
