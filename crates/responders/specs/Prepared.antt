-- What a session needs before it begins: our own words.
use Rattle.std.specs.Prelude.{◌≡◌, ◌≤◌, ◌^◌, ℕ, Some, []}
use Rattle.std.specs.Vec.{vec_capacity}
use Rattle.server_core.specs.Books.{BookParts}
use Rattle.responders.specs.declared.opening.Prepared.{Prepared}

-- a session of so many workers was prepared over this book: its first seat is that of a turnstile that has just begun, and
-- there is room for what is made of each worker
pub record IsPrepared {P C : Type 0} (book : BookParts) (count : ℕ) (prepared : Prepared P C) : Type 0 where
  pub first_is : prepared.first ≡ record {
    door = prepared.door;
    share = 2 ^ 32;
    opening = Some book.state;
    front = [];
    own = [];
  }
  pub no_jobs : prepared.room.jobs.items ≡ []
  pub no_workers : prepared.room.workers.items ≡ []
  pub no_seats : prepared.room.seats.items ≡ []
  pub room_for_jobs : count ≤ vec_capacity prepared.room.jobs
  pub room_for_workers : count ≤ vec_capacity prepared.room.workers
  pub room_for_seats : count ≤ vec_capacity prepared.room.seats
