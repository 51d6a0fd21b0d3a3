-- The kinds of the outside that stand in memory: our own words.
use Rattle.std.specs.Prelude.{◌≡◌, ℕ, ◌-◌, ◌^◌, min, nat_lt, if◌then◌else◌, Option, Some, None, Result, Ok, Err, List, [], ◌∷◌, drop, length, map, slice_index}
use Rattle.std.specs.List.{range_with_len}
use Rattle.net_addr.specs.declared.addr.Addr.{Addr}
use Rattle.edge_traits.specs.declared.memory_port.Incoming.{Incoming}
use Rattle.edge_traits.specs.declared.memory_port.Incoming.TheVariants.{Datagram as Came, Quiet as Still, Fail}
use Rattle.edge_traits.specs.declared.memory_port.MemoryPort.{MemoryPort}
use Rattle.edge_traits.specs.declared.memory_clock.MemoryClock.{MemoryClock}
use Rattle.edge_traits.specs.declared.memory_sink.MemorySink.{MemorySink}
use Rattle.edge_traits.specs.declared.port.Taken.{Taken}
use Rattle.edge_traits.specs.declared.port.Taken.TheVariants.{Datagram, Quiet, Closed}
use Rattle.edge_traits.specs.declared.port.PortFault.{PortFault}
use Rattle.edge_traits.specs.declared.port.PortFault.TheVariants.{Failed, NoMemory}

-- what the takes of a port are still to find, in order
abbrev pub coming : MemoryPort → List Incoming
coming p = drop p.found p.incoming.items

-- the numbers of the gives of a port that fail, from 0
abbrev pub failing_gives : MemoryPort → List ℕ
failing_gives p = p.gives.failing.items

-- how many gives a port had
abbrev pub gives_made : MemoryPort → ℕ
gives_made p = p.gives.made

-- a port that was not called yet
abbrev pub IsNewPort : MemoryPort → Type 0
IsNewPort p = (p.found ≡ 0) × (p.gives.made ≡ 0) × (p.events.items ≡ []) × (p.faults ≡ 0) × (p.quiets ≡ 0)

-- what a take answers where these are to come and memory suffices
abbrev pub taken_first : List Incoming → Result Taken PortFault
taken_first [] = Ok Closed
taken_first (Came from octets ∷ later) = Ok (Datagram from)
taken_first (Still ∷ later) = Ok Quiet
taken_first (Fail ∷ later) = Err Failed

-- the octets that a take leaves where these are to come, in place of those that were there
abbrev pub octets_first : List Incoming → List ℕ → List ℕ
octets_first [] before = before
octets_first (Came from octets ∷ later) before = octets
octets_first (Still ∷ later) before = before
octets_first (Fail ∷ later) before = before

-- what is still to come after a take that answered so: all of it after want of memory
abbrev pub coming_after : Result Taken PortFault → List Incoming → List Incoming
coming_after (Ok taken) these = drop 1 these
coming_after (Err Failed) these = drop 1 these
coming_after (Err NoMemory) these = these

-- the next of the ports of a host, now of this address; past their end one of no datagrams
abbrev pub IsNextPort : List MemoryPort → Addr → MemoryPort → Type 0
IsNextPort [] at p = IsNewPort p × (coming p ≡ []) × (failing_gives p ≡ []) × (p.address ≡ at)
IsNextPort (first ∷ others) at p = p ≡ record first { address = at }

-- the readings of a clock, in turn
abbrev pub readings_of : MemoryClock → List ℕ
readings_of c = c.readings.items

-- how many readings a clock gave
abbrev pub readings_given : MemoryClock → ℕ
readings_given c = c.given

-- a clock that was not called yet
abbrev pub IsNewClock : MemoryClock → Type 0
IsNewClock c = c.given ≡ 0

-- the next of the clocks of a host; past their end one of no readings
abbrev pub IsNextClock : List MemoryClock → MemoryClock → Type 0
IsNextClock [] c = IsNewClock c × (readings_of c ≡ [])
IsNextClock (first ∷ others) c = c ≡ first

-- the reading number `k` of a clock of these: the last one again past their end, and 0 where there is none
abbrev pub reading_at : List ℕ → ℕ → ℕ
reading_at readings k = slice_index readings (min k (length readings - 1))

-- the readings that were given, as long as their number is kept
abbrev pub readings_told : List ℕ → ℕ → Option (List ℕ)
readings_told readings given =
    if nat_lt given (2 ^ 64 - 1) then Some (map (reading_at readings) (range_with_len 0 given)) else None

-- the numbers of the writes to a sink that fail, from 0
abbrev pub failing_writes : MemorySink → List ℕ
failing_writes s = s.writes.failing.items

-- how many writes a sink had
abbrev pub writes_made : MemorySink → ℕ
writes_made s = s.writes.made
