use Rattle.std.proofs.Common.{◌≡◌, ◌+◌, ℕ, length}
use Rattle.refusals.specs.Told.{told_number}
use Rattle.conf_file.proofs.line_reader.number_after.Given as goal

-- what is counted, and the words that are left
abbrev pub invariant-words : goal.invariant-words
invariant-words l = (done : ℕ) × (l.number ≡ told_number (done + 1)) × (done + length l.words ≡ length l.initial.words)

abbrev pub decreases-words : goal.decreases-words
decreases-words l = length l.words
