-- A host that stands in memory: our own words.
use Rattle.std.specs.Prelude.{ℕ, List}
use Rattle.edge_traits.specs.declared.memory_host.MemoryHost.{MemoryHost}

-- the numbers of the sources and binds of a host that fail, counted together from 0
abbrev pub failing_calls : MemoryHost → List ℕ
failing_calls h = h.calls.failing.items

-- how many sources and binds a host was asked for
abbrev pub calls_made : MemoryHost → ℕ
calls_made h = h.calls.made
