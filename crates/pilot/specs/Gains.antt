-- What a script gains at the port, at the clock and in the one history: our own words.
use Rattle.std.specs.Prelude.{◌≡◌, ◌+◌, ◌≤◌, ℕ, Option, None, Some, Result, Ok, Err, List, [], ◌∷◌, ◌++◌}
use Rattle.edge_traits.specs.Told.{gained, Grows, Rose}
use Rattle.edge_traits.specs.Trace.{given_events}
use Rattle.edge_traits.specs.declared.port.Event.{Event}
use Rattle.edge_traits.specs.declared.port.Event.TheVariants.{Took, Silence}
use Rattle.edge_traits.specs.declared.port.PortFault.{PortFault}
use Rattle.edge_traits.specs.declared.port.PortFault.TheVariants.{Failed, NoMemory}
use Rattle.net_addr.specs.declared.addr.Addr.{Addr}
use Rattle.server_core.specs.declared.op.Op.{Op}
use Rattle.server_core.specs.declared.op.Op.TheVariants.{Sweep}
use Rattle.server_core.specs.declared.op.Stop.{Stop}
use Rattle.server_core.specs.States.{ServerState}
use Rattle.shared_book.specs.Entries.{View}
use Rattle.pilot.specs.Calls.{Called, Cause, Entry, stop_entries}
use Rattle.pilot.specs.Script.{Fate, stands, lacking, refused, Deed, ticks, asks, Got, datagram, swept, unswept, failure, passed, closed, After, takes, breaks, Turn}
use Rattle.pilot.specs.Views.{HelmParts}

-- what is gained: events of the port, readings of the clock, how often the port failed and how often it found nothing, how
-- much was left out, and entries of the history, with the causes of the stops that were met
pub record Gain : Type 0 where
  pub events : List Event
  pub readings : List ℕ
  pub failed : ℕ
  pub quiet : ℕ
  pub left : ℕ
  pub entries : List Entry
  pub causes : List Cause

-- nothing
abbrev pub nothing : Gain
nothing = record { events = []; readings = []; failed = 0; quiet = 0; left = 0; entries = []; causes = [] }

-- one gain and then another
abbrev pub joined : Gain → Gain → Gain
joined g h = record {
  events = g.events ++ h.events;
  readings = g.readings ++ h.readings;
  failed = g.failed + h.failed;
  quiet = g.quiet + h.quiet;
  left = g.left + h.left;
  entries = g.entries ++ h.entries;
  causes = g.causes ++ h.causes;
}

-- what these gain, one after another
abbrev pub gain_of_all : {Step : Type 0} → (Step → Gain) → List Step → Gain
gain_of_all gain [] = nothing
gain_of_all gain (step ∷ steps) = joined (gain step) (gain_of_all gain steps)

-- a stop was met, and made where it is the pilot's own
abbrev pub gain_of_stop : Option Op → Option ℕ → Stop → Gain
gain_of_stop asked made stop = record nothing {
  entries = stop_entries made stop;
  causes = record { asked = asked; made = made; stop = stop } ∷ [];
}

-- a record stands in the history, or is left out, or met a stop
abbrev pub gain_of_fate : Option Fate → Gain
gain_of_fate None = nothing
gain_of_fate (Some (stands place op)) = record nothing { entries = record { place = place; op = op } ∷ [] }
gain_of_fate (Some lacking) = record nothing { left = 1 }
gain_of_fate (Some (refused op made stop)) = gain_of_stop (Some op) made stop

-- how often the port failed in one give
abbrev pub failures_of : Result (Unit {0}) PortFault → ℕ
failures_of (Ok done) = 0
failures_of (Err Failed) = 1
failures_of (Err NoMemory) = 0

-- how many requests one give left out for want of memory
abbrev pub lacks_of : Result (Unit {0}) PortFault → ℕ
lacks_of (Ok done) = 0
lacks_of (Err Failed) = 0
lacks_of (Err NoMemory) = 1

-- a request is given, or the port failed or found no memory, and it is left out
abbrev pub gain_of_give : Addr → List ℕ → Result (Unit {0}) PortFault → Gain
gain_of_give to octets gave = record nothing {
  events = given_events gave to octets;
  failed = failures_of gave;
  left = lacks_of gave;
}

-- a request goes out, and then its record is given
abbrev pub gain_of_deed : Deed → Gain
gain_of_deed (ticks fate) = gain_of_fate fate
gain_of_deed (asks peer to octets gave fate) = joined (gain_of_give to octets gave) (gain_of_fate fate)

-- a datagram is taken, the clock read and then a record given; a silence is followed by a reading, and by a sweep or a stop
abbrev pub gain_of_got : Got → Gain
gain_of_got (datagram at from octets fate) =
    joined (record nothing { events = Took from octets ∷ []; readings = at ∷ [] }) (gain_of_fate fate)
gain_of_got (swept at place) = record nothing {
  events = Silence ∷ [];
  readings = at ∷ [];
  quiet = 1;
  entries = record { place = place; op = Sweep at } ∷ [];
}
gain_of_got (unswept at made stop) =
    joined (record nothing { events = Silence ∷ []; readings = at ∷ []; quiet = 1 }) (gain_of_stop (Some (Sweep at)) made stop)
gain_of_got (failure made stop) = joined (record nothing { failed = 1 }) (gain_of_stop None made stop)
gain_of_got passed = nothing
gain_of_got closed = nothing

-- what came after the deeds of a turn
abbrev pub gain_of_after : After → Gain
gain_of_after (takes got) = gain_of_got got
gain_of_after (breaks deed) = gain_of_deed deed

-- a turn reads the clock, does what is due and goes on
abbrev pub gain_of_turn : Turn → Gain
gain_of_turn turn =
    joined (record nothing { readings = turn.at ∷ [] }) (joined (gain_of_all gain_of_deed turn.deeds) (gain_of_after turn.after))

-- a count rose by so many, as long as 64 bits can count them
abbrev pub IsCounted : ℕ → ℕ → ℕ → Type 0
IsCounted more before after = Rose more before after × (after ≤ before + more)

-- a pilot at its seat gained this
pub record Gained (opening : ServerState) (who : ℕ) (g : Gain) (a : HelmParts) (x : View) (b : HelmParts) (y : View) : Type 0 where
  pub trace : b.outside.trace ≡ gained a.outside.trace g.events
  pub readings : Grows a.outside.readings b.outside.readings g.readings
  pub failed : Rose g.failed a.outside.faults b.outside.faults
  pub quiet : Rose g.quiet a.outside.quiets b.outside.quiets
  pub left : IsCounted g.left a.left b.left
  pub called : Called opening who g.entries g.causes x y
