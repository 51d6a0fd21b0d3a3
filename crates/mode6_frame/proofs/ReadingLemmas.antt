-- The items that are read of a text are those that it is a text of.
use Rattle.std.proofs.Common.{◌≡◌, ℕ, List, [], Option, Some, None, Result, Ok, Err, refl}
use Rattle.std.specs.Prelude.{IfErr}
use Rattle.std.proofs.NetLemmas.Options.{and_then_some}
use Rattle.refusals.specs.Machines.{after}
use Rattle.refusals.specs.Refusals.{IsRefusedAt, refused_nowhere}
use Rattle.mode6_frame.specs.declared.items.Item.{Item}
use Rattle.mode6_frame.specs.declared.items.ItemFault.{ItemFault}
use Rattle.mode6_frame.specs.declared.items.ItemFault.TheVariants.{At, NoMemory}
use Rattle.mode6_frame.specs.Items.{Blank, IsItemText, IsDue}
use Rattle.mode6_frame.specs.ItemReader.{Within, item_reader, items_in}
use Rattle.mode6_frame.specs.Readings.{items_read}
use Rattle.mode6_frame.proofs.ItemLemmas.{reads_items}

-- what is read is what the text says
pub items_read_sound : (text : List ℕ) (items : List Item) → items_read text ≡ Some items → IsItemText text items
unfolding items_read
items_read_sound text items is =
    and_then_some items_in (after item_reader text (Within [] (Blank []))) items is λ s leads value.
    reads_items.sound text s items leads value

-- and what it says is read
pub items_read_complete : (text : List ℕ) (items : List Item) → IsItemText text items → items_read text ≡ Some items
unfolding items_read
items_read_complete text items is =
    let (s, leads, value) = reads_items.complete text items is in
    rw leads value

-- of a text that is refused nothing is read
items_read_refused : (text : List ℕ) (octets : ℕ) → IsRefusedAt IsItemText text octets → items_read text ≡ None
items_read_refused text octets refused = by (items_read text) refl
  where
    by : (read : Option (List Item)) → items_read text ≡ read → items_read text ≡ None
    by None is = is
    by (Some items) is = absurd (refused_nowhere IsItemText text items octets (items_read_sound text items is) refused)

-- nor where a place is due as the fault
unread_fault : (text : List ℕ) (fault : ItemFault) (place : ℕ) → IsDue text fault → fault ≡ At place → items_read text ≡ None
unread_fault text (At told) place due is = items_read_refused text due.0 due.1
unread_fault text NoMemory place due is = cc

pub items_read_due : {A : Type 0} (text : List ℕ) (result : Result A ItemFault) → IfErr result (IsDue text) → (place : ℕ) → result ≡ Err (At place) → items_read text ≡ None
items_read_due text (Ok items) due place is = cc
items_read_due text (Err fault) due place is = unread_fault text fault place due (cc)
