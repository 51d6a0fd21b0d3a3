-- How much was done in a session: our own words.
use Rattle.std.specs.Prelude.{◌≡◌, ◌==◌, ◌&&◌, ℕ, Bool, true, false, List, length}
use Rattle.std.specs.List.{AllByRecursion, count_by, flat_map, list_any, range_with_len}
use Rattle.responders.specs.declared.session.Session.{Session}
use Rattle.worker.specs.Turns.{is_dropped}
use Rattle.worker.specs.Workers.{WorkerView}
use Rattle.worker.specs.declared.act.Act.{Act}
use Rattle.worker.specs.declared.act.ActKind.{ActKind}
use Rattle.worker.specs.declared.act.ActKind.TheVariants as act
use Rattle.worker.specs.declared.act.VerdictKind.{VerdictKind}
use Rattle.worker.specs.declared.act.VerdictKind.TheVariants.{Ignored, Limited, Rate, Served}
use Rattle.draws.specs.declared.clients.TheConstants.{CLIENTS}
use Rattle.drawn_session.specs.declared.counts.Counts.{Counts}
use Rattle.drawn_session.specs.declared.datagrams.DrawnDatagram.{DrawnDatagram}
use Rattle.drawn_session.specs.declared.datagrams.Kind.{Kind}
use Rattle.drawn_session.specs.declared.datagrams.Kind.TheVariants.{Cut, Control, Time}

-- the verdict by which a client gets the time
abbrev pub is_served : VerdictKind → Bool
is_served Served = true
is_served Ignored = false
is_served Limited = false
is_served Rate = false

-- an act by which a client gets the time
abbrev pub gives_time : ActKind → Bool
gives_time (act.Time place xmt verdict) = is_served verdict
gives_time (act.Control mark ignored) = false
gives_time (act.Read place reply) = false
gives_time (act.Silent why) = false
gives_time (act.Dropped place) = false

-- the act of a control request
abbrev pub is_control : ActKind → Bool
is_control (act.Control mark ignored) = true
is_control (act.Time place xmt verdict) = false
is_control (act.Read place reply) = false
is_control (act.Silent why) = false
is_control (act.Dropped place) = false

-- the act of a datagram that is not heard
abbrev pub is_silent : ActKind → Bool
is_silent (act.Silent why) = true
is_silent (act.Time place xmt verdict) = false
is_silent (act.Control mark ignored) = false
is_silent (act.Read place reply) = false
is_silent (act.Dropped place) = false

-- the acts of all workers, in their order
abbrev pub acts_of : {P C : Type 0} → List (WorkerView P C) → List Act
acts_of workers = flat_map (λ worker. worker.acts) workers

-- memory was wanting for none of these acts
abbrev pub NoneDropped : List Act → Type 0
NoneDropped acts = AllByRecursion (λ (a : Act). is_dropped a.kind ≡ false) acts

-- how much was done in a session, and how many clients are listed at its end
abbrev pub counts_of : {P C : Type 0} → Session P C → Counts
counts_of session = record {
  times = count_by (λ (a : Act). gives_time a.kind) (acts_of session.workers);
  controls = count_by (λ (a : Act). is_control a.kind) (acts_of session.workers);
  silent = count_by (λ (a : Act). is_silent a.kind) (acts_of session.workers);
  clients = length session.book.state.rows;
}

-- what a drawn datagram is
abbrev pub is_kind : Kind → Kind → Bool
is_kind Cut Cut = true
is_kind Control Control = true
is_kind Time Time = true
is_kind _ _ = false

-- a client asks for the time in one of these
abbrev pub asks : List DrawnDatagram → ℕ → Bool
asks ds client = list_any (λ (d : DrawnDatagram). is_kind Time d.kind && (d.client == client)) ds

-- how much the draws say of a session: the datagrams of each kind, and the distinct clients that ask for the time
abbrev pub drawn_counts : List DrawnDatagram → Counts
drawn_counts ds = record {
  times = count_by (λ (d : DrawnDatagram). is_kind Time d.kind) ds;
  controls = count_by (λ (d : DrawnDatagram). is_kind Control d.kind) ds;
  silent = count_by (λ (d : DrawnDatagram). is_kind Cut d.kind) ds;
  clients = count_by (asks ds) (range_with_len 0 CLIENTS);
}
