use Rattle.std.proofs.Common.{◌≡◌, drop}
use Rattle.edge_traits.specs.MemoryFiles.{file_named}
use Rattle.edge_traits.proofs.memory_file.open_first.Given as goal

-- the file is the first of that name among those that are left
abbrev pub invariant-loop-file : goal.invariant-loop-file
invariant-loop-file l = file_named (drop l.file-index l.files) l.name ≡ file_named l.files l.name
