-- Readings of the words after the first, by the kind of line.
use Rattle.std.proofs.Common.{◌≡◌, ℕ, List, Result, Ok, Err, sym, subst}
use Rattle.conf_file.specs.declared.kinds.Kind.{Kind}
use Rattle.conf_file.specs.declared.lines.Line.{Line}
use Rattle.conf_file.specs.declared.tails.Refusal.{Refusal}
use Rattle.conf_file.specs.ConfLines.{IsReadOr, IsTail, placed}
use Rattle.conf_file.specs.Options.{IsReadAs}

placed_reads : (means : List (List ℕ) → Line → Type 0) (all : List (List ℕ)) (read : Result Line ℕ) → IsReadAs 2 means all read → IsReadOr 2 means all (placed read)
placed_reads means all (Ok line) is = is
placed_reads means all (Err word) is = is

-- a reading of a line of this kind
pub tail_placed : (kind other : Kind) (all : List (List ℕ)) (read : Result Line ℕ) (result : Result Line Refusal) → kind ≡ other → result ≡ placed read → IsReadAs 2 (IsTail other) all read
    → IsReadOr 2 (IsTail kind) all result
tail_placed kind other all read result is same reads =
    let P : Kind → Type 0 = λ k. IsReadOr 2 (IsTail k) all result in
    let Q : Result Line Refusal → Type 0 = λ r. IsReadOr 2 (IsTail other) all r in
    subst P (sym is) (subst Q (sym same) (placed_reads (IsTail other) all read reads))

pub tail_read : (kind other : Kind) (all : List (List ℕ)) (result : Result Line Refusal) → kind ≡ other → IsReadOr 2 (IsTail other) all result → IsReadOr 2 (IsTail kind) all result
tail_read kind other all result is reads =
    let P : Kind → Type 0 = λ k. IsReadOr 2 (IsTail k) all result in
    subst P (sym is) reads
