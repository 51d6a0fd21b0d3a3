-- The script of a pilot: what it did and what came of it, in turns. Our own words.
use Rattle.std.specs.Prelude.{ℕ, Option, None, Some, Result, List}
use Rattle.edge_traits.specs.declared.port.PortFault.{PortFault}
use Rattle.net_addr.specs.declared.addr.Addr.{Addr}
use Rattle.server_core.specs.declared.op.Op.{Op}
use Rattle.server_core.specs.declared.op.Stop.{Stop}
use Rattle.pilot.specs.declared.flight.FlightEnd.{FlightEnd}
use Rattle.pilot.specs.declared.flight.FlightEnd.TheVariants.{Closed, Ended}

-- what became of a record: this operation published it, at this place; it was left out for want of memory; or this
-- operation was refused, and this stop stands, which is the pilot's own, at a place, or another's
pub data Fate : Type 0 where
  stands : ℕ → Op → Fate
  lacking : Fate
  refused : Op → Option ℕ → Stop → Fate

-- what was due: the tick, or a request to the server of this number: where it went, its octets, and what the port answered;
-- and what became of the record that was given, if there was one
pub data Deed : Type 0 where
  ticks : Option Fate → Deed
  asks : ℕ → Addr → List ℕ → Result (Unit {0}) PortFault → Option Fate → Deed

-- what the port gave: a datagram at a moment, from an address, these octets, and what became of the record that was given,
-- if there was one; nothing for a while, upon which the client list was swept as of a moment, at a place, or not any more,
-- since a stop stands; a fault, upon which a stop stands; no memory; or nothing for ever
pub data Got : Type 0 where
  datagram : ℕ → Addr → List ℕ → Option Fate → Got
  swept : ℕ → ℕ → Got
  unswept : ℕ → Option ℕ → Stop → Got
  failure : Option ℕ → Stop → Got
  passed : Got
  closed : Got

-- how a turn went on after its deeds: nothing was due any more, and the port gave this; or this deed's record was refused,
-- and nothing was taken
pub data After : Type 0 where
  takes : Got → After
  breaks : Deed → After

-- a turn: its reading, the deeds that were due then, whose records were not refused, and what came after
pub record Turn : Type 0 where
  pub at : ℕ
  pub deeds : List Deed
  pub after : After

-- the stop at which a record was refused
abbrev pub stop_of_fate : Option Fate → Option Stop
stop_of_fate None = None
stop_of_fate (Some (stands place op)) = None
stop_of_fate (Some lacking) = None
stop_of_fate (Some (refused op made stop)) = Some stop

-- the stop at which the record of a deed was refused
abbrev pub stop_of_deed : Deed → Option Stop
stop_of_deed (ticks fate) = stop_of_fate fate
stop_of_deed (asks peer to octets gave fate) = stop_of_fate fate

-- the end that a stop makes
abbrev pub ending : Option Stop → Option FlightEnd
ending None = None
ending (Some stop) = Some (Ended stop)

-- the end that what the port gave makes
abbrev pub end_of_got : Got → Option FlightEnd
end_of_got (datagram at from octets fate) = ending (stop_of_fate fate)
end_of_got (swept at place) = None
end_of_got (unswept at made stop) = Some (Ended stop)
end_of_got (failure made stop) = Some (Ended stop)
end_of_got passed = None
end_of_got closed = Some Closed

-- the end that a turn makes
abbrev pub end_of_after : After → Option FlightEnd
end_of_after (takes got) = end_of_got got
end_of_after (breaks deed) = ending (stop_of_deed deed)
