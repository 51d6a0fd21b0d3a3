-- What is made of an answer.
use Rattle.std.proofs.Common.{◌≡◌, ℕ, List, Ok, Err, inl, inr, sym, subst}
use Rattle.mode6_frame.specs.Told.{IsUnless}
use Rattle.mode6_frame.specs.declared.items.Item.{Item}
use Rattle.mode6_frame.specs.declared.items.ItemFault.{ItemFault}
use Rattle.mode6_frame.specs.declared.items.ItemFault.TheVariants.{At, NoMemory as NoItemMemory}
use Rattle.mode6_frame.specs.Items.{IsItemText}
use Rattle.ntpq_report.specs.declared.associations.AssociationStatus.{AssociationStatus}
use Rattle.ntpq_report.specs.Peers.{ArePeerValues, PeerValues}
use Rattle.ntpq_tool.specs.declared.ending.Failure.{Failure}
use Rattle.ntpq_tool.specs.declared.ending.Failure.TheVariants.{Words, Ask, BadReply, NoMemory}
use Rattle.ntpq_tool.specs.Answers.{IsPeerLine, Judges}
use Rattle.ntpq_tool.specs.declared.answers.Answer.{Answer}

-- where a part cannot be made, the whole cannot
pub Judges-part : {A B : Type 0} (IsPart : A → Type 0) (IsWhole : B → Type 0) (why : Failure) → ((whole : B) → IsWhole whole → (part : A) × IsPart part) → Judges IsPart (Err why) → Judges IsWhole (Err why)
Judges-part IsPart IsWhole BadReply has none = λ whole is. none (has whole is).0 (has whole is).1
Judges-part IsPart IsWhole NoMemory has none = tt
Judges-part IsPart IsWhole Words has none = absurd none
Judges-part IsPart IsWhole (Ask fault) has none = absurd none

-- a text that is refused at a place has no items
pub no_items : (fault : ItemFault) (place : ℕ) (items : List Item) → fault ≡ At place → IsUnless NoItemMemory (Err fault) (Ok items) → ⊥
no_items fault place items is (inl made) = absurd (cc made)
no_items fault place items is (inr none) = absurd (cc (none, is))

-- an answer whose items give no values has no line
pub no_line : (a : AssociationStatus) (answer : Answer) (items : List Item) (line : List ℕ) → ((its : List Item) → IsItemText answer.text its → items ≡ its) → ((values : PeerValues) → ¬ ArePeerValues items values) → ¬ IsPeerLine a answer line
no_line a answer items line only none is =
    none is.values (subst (λ (its : List Item). ArePeerValues its is.values) (sym (only is.items is.read)) is.given)

-- the items that were read are the only ones
pub one_items : (made items : List Item) → IsUnless NoItemMemory (Ok made) (Ok items) → made ≡ items
one_items made items (inl same) = cc same
one_items made items (inr none) = absurd (cc none)
