-- The journal of a server: the operations that it took, oldest first. Our own words.
use Rattle.std.specs.Prelude.{◌≡◌, ◌⊎◌, true, ℕ, ◌+◌, ◌≤◌, ◌<◌, Option, Some, None, IfSome, List, [], ◌∷◌, length, slice_get}
use Rattle.sys_vars.specs.declared.published.Record.{Record}
use Rattle.server_core.specs.declared.op.Op.{Op}
use Rattle.server_core.specs.declared.index.Index.{Index}
use Rattle.server_core.specs.declared.op.TheConstants.{MAX_ENTRIES}
use Rattle.server_core.specs.States.{is_stop, record_of, stop_in, publications_in}

-- what is published after these operations, where this record was before them
abbrev pub published_in : Record → List Op → Record
published_in rec [] = rec
published_in rec (op ∷ ops) = published_in (record_of op rec) ops

-- the record that the operation at a place publishes, or else this one
abbrev pub record_at : Option Op → Record → Record
record_at None before = before
record_at (Some op) before = record_of op before

-- the operation at a place, where one is named
abbrev pub op_at : List Op → Option ℕ → Option Op
op_at ops None = None
op_at ops (Some place) = slice_get ops place

-- what a journal keeps beside its operations: where the last record was published, how many were, and the stop
pub record IsIndexed (ops : List Op) (index : Index) : Type 0 where
  pub last_is : (rec : Record) → record_at (op_at ops index.last) rec ≡ published_in rec ops
  pub within : IfSome index.last (λ place. place < length ops)
  pub publications_is : index.publications ≡ publications_in ops
  pub stop_is : index.stop ≡ stop_in ops
  pub most : length ops ≤ MAX_ENTRIES + 1
  pub open_ : stop_in ops ≡ None → length ops ≤ MAX_ENTRIES

-- a journal takes an operation: it has no stop, and room for more than a stop, or the operation is one
pub record CanTake (ops : List Op) (op : Op) : Type 0 where
  pub is_open : stop_in ops ≡ None
  pub room : (is_stop op ≡ true) ⊎ (length ops < MAX_ENTRIES)
