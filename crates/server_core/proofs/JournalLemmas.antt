-- A journal that takes one operation more.
use Rattle.std.proofs.Common.{◌≡◌, ℕ, zero, suc, ◌+◌, ◌≤◌, ◌<◌, ◌⊎◌, inl, inr, Bool, true, false, cond, Option, Some, None, IfSome, List, [], ◌∷◌, ◌++◌, length, slice_get, refl, sym, ap, subst, ◌∙◌, arith, length-append}
use Rattle.std.specs.Option.{option_or}
use Rattle.std.specs.List.{count_by}
use Rattle.std.proofs.lemmas.List.Sums.{count_by-le-length, fold-append}
use Rattle.sys_vars.specs.declared.published.Record.{Record}
use Rattle.server_core.specs.declared.index.Index.{Index}
use Rattle.server_core.specs.declared.op.Op.{Op}
use Rattle.server_core.specs.declared.op.Op.TheVariants.{Publish, Arrive, Look, Read, Sweep, Stop}
use Rattle.server_core.specs.declared.op.Stop.{Stop as Stopping}
use Rattle.server_core.specs.declared.op.TheConstants.{MAX_ENTRIES}
use Rattle.server_core.specs.Journals.{CanTake, IsIndexed, op_at, published_in, record_at}
use Rattle.server_core.specs.States.{is_publish, is_stop, record_of, stop_in, stop_of}

-- what is published after one operation more
pub published_in-append : (rec : Record) (ops : List Op) (op : Op) → published_in rec (ops ++ op ∷ []) ≡ record_of op (published_in rec ops)
published_in-append rec [] op = refl
published_in-append rec (first ∷ ops) op = published_in-append (record_of first rec) ops op

-- the stop of a journal that had none
pub stop_in-append : (ops : List Op) (op : Op) → stop_in ops ≡ None → stop_in (ops ++ op ∷ []) ≡ stop_of op
stop_in-append [] op is_open = or_none (stop_of op)
  where
    or_none : (o : Option Stopping) → option_or o None ≡ o
    or_none None = refl
    or_none (Some stop) = refl
stop_in-append (first ∷ ops) op is_open = later (stop_of first) (stop_in-append ops op) is_open
  where
    later : (o : Option Stopping) → (stop_in ops ≡ None → stop_in (ops ++ op ∷ []) ≡ stop_of op) → option_or o (stop_in ops) ≡ None → option_or o (stop_in (ops ++ op ∷ [])) ≡ stop_of op
    later None rest none = rest none
    later (Some stop) rest none = absurd cc

-- one element more that passes, or none
count_by-end : (p : Op → Bool) (ops : List Op) (op : Op) → count_by p (ops ++ op ∷ []) ≡ count_by p ops + count_by p (op ∷ [])
count_by-end p ops op = fold-append (λ n o. n + cond (p o) 1 0) 0 ops (op ∷ []) ∙ omega arith

-- what stood at a place stands there still
slice_get-front : (ops : List Op) (op : Op) (place : ℕ) → place < length ops → slice_get (ops ++ op ∷ []) place ≡ slice_get ops place
slice_get-front [] op place within = absurd (omega arith)
slice_get-front (first ∷ ops) op zero within = refl
slice_get-front (first ∷ ops) op (suc place) within = slice_get-front ops op place (omega arith)

-- and the new one stands at the end
slice_get-end : (ops : List Op) (op : Op) → slice_get (ops ++ op ∷ []) (length ops) ≡ Some op
slice_get-end [] op = refl
slice_get-end (first ∷ ops) op = slice_get-end ops op

-- the record published last stands where it stood
op_at-front : (ops : List Op) (op : Op) (last : Option ℕ) → IfSome last (λ place. place < length ops) → op_at (ops ++ op ∷ []) last ≡ op_at ops last
op_at-front ops op None within = refl
op_at-front ops op (Some place) within = slice_get-front ops op place within

-- a place within a journal is within a longer one
within-more : (ops : List Op) (op : Op) (last : Option ℕ) → IfSome last (λ place. place < length ops) → IfSome last (λ place. place < length (ops ++ op ∷ []))
within-more ops op None within = tt
within-more ops op (Some place) within = omega (arith, within, length-append ops (op ∷ []))

-- no more operations publish than there are
pub publications-at_most : (ops now : List Op) (index : Index) → IsIndexed ops index → ops ≡ now → stop_in now ≡ None → index.publications ≤ MAX_ENTRIES
publications-at_most ops now index is same none =
    omega (arith, is.publications_is, count_by-le-length is_publish ops, is.open_ (ap stop_in same ∙ none))

-- where an operation that publishes nothing keeps the record that was published
last-kept : (ops : List Op) (op : Op) (index : Index) → IsIndexed ops index → ((rec : Record) → record_of op rec ≡ rec)
    → (rec : Record) → record_at (op_at (ops ++ op ∷ []) index.last) rec ≡ published_in rec (ops ++ op ∷ [])
last-kept ops op index is keeps rec =
    ap (λ o. record_at o rec) (op_at-front ops op index.last is.within)
    ∙ is.last_is rec ∙ sym (keeps (published_in rec ops)) ∙ sym (published_in-append rec ops op)

-- how long the journal is then
length-one_more : (ops : List Op) (op : Op) → stop_in ops ≡ None → length ops ≤ MAX_ENTRIES → length (ops ++ op ∷ []) ≤ MAX_ENTRIES + 1
length-one_more ops op none most = omega (arith, most, length-append ops (op ∷ []))

-- an operation that does not stop the server leaves the journal open
still_open : (ops : List Op) (op : Op) → (is_stop op ≡ true) ⊎ (length ops < MAX_ENTRIES) → is_stop op ≡ false → length (ops ++ op ∷ []) ≤ MAX_ENTRIES
still_open ops op (inl stops) other = absurd (cc (stops, other))
still_open ops op (inr room) other = omega (arith, room, length-append ops (op ∷ []))

-- what a journal keeps of an operation that neither publishes nor stops
kept-append : (ops : List Op) (index : Index) (op : Op) → IsIndexed ops index → stop_in ops ≡ None → (is_stop op ≡ true) ⊎ (length ops < MAX_ENTRIES)
    → ((rec : Record) → record_of op rec ≡ rec) → is_stop op ≡ false → stop_of op ≡ None → count_by is_publish (op ∷ []) ≡ 0
    → IsIndexed (ops ++ op ∷ []) index
kept-append ops index op is none room keeps goes_on no_stop no_publication = record {
  last_is = last-kept ops op index is keeps;
  within = within-more ops op index.last is.within;
  publications_is = is.publications_is ∙ omega (arith, no_publication, count_by-end is_publish ops op);
  stop_is = is.stop_is ∙ none ∙ sym no_stop ∙ sym (stop_in-append ops op none);
  most = length-one_more ops op none (is.open_ none);
  open_ = λ still. still_open ops op room goes_on;
}

-- what a journal keeps beside its operations, once another stands at a place
abbrev pub index_with : Index → Op → ℕ → Index
index_with index (Publish boxed) place = record { last = Some place; publications = index.publications + 1; stop = index.stop }
index_with index (Stop stop) place = record { last = index.last; publications = index.publications; stop = Some stop }
index_with index _ place = index

-- what a journal keeps, once it has one operation more
pub IsIndexed-append : (ops : List Op) (index : Index) (op : Op) → IsIndexed ops index → stop_in ops ≡ None → (is_stop op ≡ true) ⊎ (length ops < MAX_ENTRIES)
    → IsIndexed (ops ++ op ∷ []) (index_with index op (length ops))
IsIndexed-append ops index (Publish rec) is none room = record {
  last_is = λ before. ap (λ o. record_at o before) (slice_get-end ops (Publish rec)) ∙ sym (published_in-append before ops (Publish rec));
  within = omega (arith, length-append ops (Publish rec ∷ []));
  publications_is = ap (λ n. n + 1) is.publications_is ∙ sym (count_by-end is_publish ops (Publish rec));
  stop_is = is.stop_is ∙ none ∙ sym (stop_in-append ops (Publish rec) none);
  most = length-one_more ops (Publish rec) none (is.open_ none);
  open_ = λ still. still_open ops (Publish rec) room refl;
}
IsIndexed-append ops index (Stop stop) is none room = record {
  last_is = last-kept ops (Stop stop) index is (λ rec. refl);
  within = within-more ops (Stop stop) index.last is.within;
  publications_is = is.publications_is ∙ omega (arith, count_by-end is_publish ops (Stop stop));
  stop_is = sym (stop_in-append ops (Stop stop) none);
  most = length-one_more ops (Stop stop) none (is.open_ none);
  open_ = λ still. let stopped = stop_in-append ops (Stop stop) none in absurd (cc (still, stopped));
}
IsIndexed-append ops index (Arrive ask moment) is none room = kept-append ops index (Arrive ask moment) is none room (λ rec. refl) refl refl refl
IsIndexed-append ops index (Look asked context) is none room = kept-append ops index (Look asked context) is none room (λ rec. refl) refl refl refl
IsIndexed-append ops index (Read ask moment) is none room = kept-append ops index (Read ask moment) is none room (λ rec. refl) refl refl refl
IsIndexed-append ops index (Sweep moment) is none room = kept-append ops index (Sweep moment) is none room (λ rec. refl) refl refl refl

-- the record of the place that a journal keeps is the one that is published
pub latest_is : (rec : Record) (ops now : List Op) (index : Index) (last : Option ℕ) → IsIndexed ops index → ops ≡ now → index.last ≡ last
    → record_at (op_at now last) rec ≡ published_in rec now
latest_is rec ops now index last is same at =
    subst (λ o. record_at (op_at now o) rec ≡ published_in rec now) at
    (subst (λ all. record_at (op_at all index.last) rec ≡ published_in rec all) same (is.last_is rec))

-- and that place is within the journal
pub place_within : (ops now : List Op) (index : Index) (place : ℕ) → IsIndexed ops index → ops ≡ now → index.last ≡ Some place → place < length now
place_within ops now index place is same at =
    subst (λ o. IfSome o (λ p. p < length now)) at (subst (λ all. IfSome index.last (λ p. p < length all)) same is.within)

-- what is kept once an operation stands at the end
pub IsIndexed-with : (index : Index) (op : Op) (place : ℕ) (next : Index) → next ≡ index_with index op place
    → (ops : List Op) → IsIndexed ops index → CanTake ops op → place ≡ length ops → IsIndexed (ops ++ op ∷ []) next
IsIndexed-with index op place next with_op ops is can at =
    subst (λ i. IsIndexed (ops ++ op ∷ []) i) (sym (with_op ∙ ap (index_with index op) at)) (IsIndexed-append ops index op is can.is_open can.room)

-- a journal takes an operation more
pub IsIndexed-pushed : (ops now : List Op) (index next : Index) (op : Op) (after : List Op) (place : ℕ) → IsIndexed ops index → ops ≡ now → CanTake now op
    → ((all : List Op) → IsIndexed all index → CanTake all op → place ≡ length all → IsIndexed (all ++ op ∷ []) next)
    → after ≡ ops ++ op ∷ [] → place ≡ length now → IsIndexed after next
IsIndexed-pushed ops now index next op after place is same can keeps appended at =
    subst (λ all. IsIndexed all next) (sym appended) (keeps ops is (subst (λ all. CanTake all op) (sym same) can) (at ∙ ap length (sym same)))
