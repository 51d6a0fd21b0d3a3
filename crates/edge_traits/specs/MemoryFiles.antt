-- The files of a host that stands in memory: our own words.
use Rattle.std.specs.Prelude.{ℕ, ◌≡◌, List, Option, option_map, find, bytes_eq}
use Rattle.edge_traits.specs.declared.memory_file.MemoryFile.{MemoryFile}
use Rattle.edge_traits.specs.declared.memory_source.MemorySource.{MemorySource}
use Rattle.edge_traits.specs.MemorySources.{IsNewSource, octets_left, failing_reads}

-- the first file of this name
abbrev pub file_named : List MemoryFile → List ℕ → Option MemoryFile
file_named files name = find (λ file. bytes_eq file.name name) files

-- its octets
abbrev pub octets_named : List MemoryFile → List ℕ → Option (List ℕ)
octets_named files name = option_map (λ file. file.octets.items) (file_named files name)

-- a source of this file's octets and failing reads that was not read yet
abbrev pub IsSourceOf : MemoryFile → MemorySource → Type 0
IsSourceOf file s =
    IsNewSource s × (octets_left s ≡ file.octets.items) × (failing_reads s ≡ file.failing.items)
