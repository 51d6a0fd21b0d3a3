-- A source that stands in memory: our own words.
use Rattle.std.specs.Prelude.{◌≡◌, ℕ, List, drop}
use Rattle.edge_traits.specs.declared.memory_source.MemorySource.{MemorySource}

-- the octets that a source is still to give
abbrev pub octets_left : MemorySource → List ℕ
octets_left s = drop s.given s.octets.items

-- the numbers of the reads of a source that fail, from 0
abbrev pub failing_reads : MemorySource → List ℕ
failing_reads s = s.reads.failing.items

-- how many reads a source had
abbrev pub reads_made : MemorySource → ℕ
reads_made s = s.reads.made

-- a source that was not read yet
abbrev pub IsNewSource : MemorySource → Type 0
IsNewSource s = (s.given ≡ 0) × (s.reads.made ≡ 0) × (s.faults ≡ 0)
