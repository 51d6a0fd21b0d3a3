-- A read of the client list has one class.
use Rattle.std.proofs.Common.{◌≡◌, ◌≢◌, ◌<◌, ℕ, zero, suc, Bool, true, false, cond, List, [], ◌∷◌, length, codes, map, take, refl, sym, ap, subst, ◌∙◌, ◌⊎◌, ◌↔◌, IsTrue, Result, Ok, Err, inl, inr, arith}
use Rattle.std.specs.Prelude.{bytes_eq, slice_index_or}
use Rattle.std.proofs.Math.Logic.{∥∥₁_prop}
use Rattle.net_addr.specs.declared.addr.Addr.{Addr}
use Rattle.mode6_frame.specs.declared.errors.TheConstants.{BAD_FORMAT, BAD_VALUE}
use Rattle.mode6_frame.specs.declared.items.Item.{Item}
use Rattle.mode6_frame.specs.declared.message.Head.{Head}
use Rattle.mode6_frame.specs.declared.operations.TheConstants.{OP_READ_MRU}
use Rattle.mode6_frame.specs.Frames.{FrameParts}
use Rattle.mode6_frame.specs.Items.{IsItemText}
use Rattle.mode6_frame.specs.Refusals.{IsRefusedAt, refused_nowhere}
use Rattle.mru_items.specs.declared.query.ReadRequest.{ReadRequest}
use Rattle.mru_items.specs.declared.query_reading.RequestFault.{RequestFault}
use Rattle.mru_items.specs.declared.query_reading.RequestFault.TheVariants.{NoMemory}
use Rattle.mru_items.specs.Queries.{IsRead, IsReadOf}
use Rattle.sys_vars.specs.declared.asked.Asked.{Asked}
use Rattle.sys_vars.specs.declared.asked.What.{What}
use Rattle.sys_vars.specs.declared.asked.What.TheVariants.{Status, Vars, Nonce, Bad}
use Rattle.sys_vars.specs.declared.context.Context.{Context}
use Rattle.server_core.specs.declared.class.Class.{Class}
use Rattle.server_core.specs.declared.class.Class.TheVariants.{Silent, Time, Look, Read}
use Rattle.server_core.specs.declared.class.ReadAsk.{ReadAsk}
use Rattle.server_core.specs.declared.class.Unheard.TheVariants.{BadNonce}
use Rattle.server_core.specs.Control.{IsAskedOf, IsHeadOf, IsWhat}
use Rattle.mru_items.specs.Names.{items_named, values_of}
use Rattle.server_core.specs.Reads.{HasGoodNonce, IsReadText, IsRequestClass, first_value, nonce_in}
use Rattle.server_core.proofs.ControlLemmas.{asked_same, head_same, only_bad_format}

-- a read by its parts
abbrev read_of_parts : (from : Addr) (head : Head) (request : ReadRequest) → ∥ IsRead request ∥₁ → ReadAsk
read_of_parts from head request read = record { from = from; head = head; request = request; read = read }

-- reads for one page are equal where their other parts are
same_but_for_proofs : (from : Addr) (head : Head) (r s : ReadRequest) → r ≡ s → (a : ∥ IsRead r ∥₁) (b : ∥ IsRead s ∥₁) → read_of_parts from head r a ≡ read_of_parts from head s b
same_but_for_proofs from head r s same a =
    subst (λ (t : ReadRequest). (b : ∥ IsRead t ∥₁) → read_of_parts from head r a ≡ read_of_parts from head t b) same
    (λ b. ap (λ (p : ∥ IsRead r ∥₁). read_of_parts from head r p) (∥∥₁_prop a b))

-- a request is one read
read_same : (f : FrameParts) (from : Addr) (a b : ReadAsk) → a.from ≡ from → b.from ≡ from → IsHeadOf f a.head → IsHeadOf f b.head → a.request ≡ b.request → a ≡ b
read_same f from a b a_from b_from a_head b_head request =
    ap (λ (x : Addr). read_of_parts x a.head a.request a.read) (a_from ∙ sym b_from)
    ∙ ap (λ (h : Head). read_of_parts b.from h a.request a.read) (head_same f a.head b.head a_head b_head)
    ∙ same_but_for_proofs b.from b.head a.request b.request request a.read b.read

-- a request of another operation is what it asks for and nothing else
pub only_other : (f : FrameParts) (from : Addr) (context : Context) (asked : Asked) → f.opcode ≢ OP_READ_MRU → ((other : Asked) → IsAskedOf f from other → asked ≡ other)
    → (class : Class) → IsRequestClass f from context class → Look asked ≡ class
only_other f from context asked other one (Silent BadNonce) is = absurd (other is.are.reads)
only_other f from context asked other one (Silent _) is = absurd is
only_other f from context asked other one (Time ask) is = absurd is
only_other f from context asked other one (Look its) (inl is) = ap Look (one its is)
only_other f from context asked other one (Look its) (inr is) = absurd (other is.are.reads)
only_other f from context asked other one (Read ask) is = absurd (other is.are.reads)

-- a read whose body is no text of items is refused so and not otherwise
pub only_bad_text : (f : FrameParts) (from : Addr) (context : Context) (asked : Asked) (place : ℕ) → f.opcode ≡ OP_READ_MRU → IsRefusedAt IsItemText f.body place
    → asked.from ≡ from → IsHeadOf f asked.head → asked.what ≡ Bad BAD_FORMAT
    → (class : Class) → IsRequestClass f from context class → Look asked ≡ class
only_bad_text f from context asked place reads refused from_is head_is what_is (Silent BadNonce) is = absurd (refused_nowhere IsItemText f.body is.items place is.are.text refused)
only_bad_text f from context asked place reads refused from_is head_is what_is (Silent _) is = absurd is
only_bad_text f from context asked place reads refused from_is head_is what_is (Time ask) is = absurd is
only_bad_text f from context asked place reads refused from_is head_is what_is (Look its) (inl is) =
    ap Look (asked_same f from asked its from_is is.from_is head_is is.head_is (what_is ∙ only_bad_format f place (inr reads) refused its.what is.what_is))
only_bad_text f from context asked place reads refused from_is head_is what_is (Look its) (inr is) = absurd (refused_nowhere IsItemText f.body is.items place is.are.text refused)
only_bad_text f from context asked place reads refused from_is head_is what_is (Read ask) is = absurd (refused_nowhere IsItemText f.body is.items place is.are.text refused)

-- a read with items asks for nothing that its body alone tells
no_what : (f : FrameParts) (items : List Item) → IsReadText f items → (what : What) → ¬ IsWhat f what
no_what f items are Status is = omega (arith, are.reads, is)
no_what f items are Nonce is = omega (arith, are.reads, is)
no_what f items are (Vars numbers) is = omega (arith, are.reads, is.0)
no_what f items are (Bad code) (inl (_, (place, refused), _)) = refused_nowhere IsItemText f.body items place are.text refused
no_what f items are (Bad code) (inr (other, _)) = other.list are.reads

-- a read without a good nonce is that and nothing else
pub only_bad_nonce : (f : FrameParts) (from : Addr) (context : Context) (items : List Item) → IsReadText f items → ((others : List Item) → IsReadText f others → items ≡ others)
    → ¬ HasGoodNonce from context items → (class : Class) → IsRequestClass f from context class → Silent BadNonce ≡ class
only_bad_nonce f from context items are one bad (Silent BadNonce) is = refl
only_bad_nonce f from context items are one bad (Silent _) is = absurd is
only_bad_nonce f from context items are one bad (Time ask) is = absurd is
only_bad_nonce f from context items are one bad (Look its) (inl is) = absurd (no_what f items are its.what is.what_is)
only_bad_nonce f from context items are one bad (Look its) (inr is) = absurd (bad (subst (HasGoodNonce from context) (sym (one is.items is.are)) is.good))
only_bad_nonce f from context items are one bad (Read ask) is = absurd (bad (subst (HasGoodNonce from context) (sym (one is.items is.are)) is.good))

-- nor one whose items ask for no page
pub only_bad_values : (f : FrameParts) (from : Addr) (context : Context) (items : List Item) (asked : Asked) → IsReadText f items → ((others : List Item) → IsReadText f others → items ≡ others)
    → HasGoodNonce from context items → ((request : ReadRequest) → ¬ IsReadOf items context.origin.0 request)
    → asked.from ≡ from → IsHeadOf f asked.head → asked.what ≡ Bad BAD_VALUE
    → (class : Class) → IsRequestClass f from context class → Look asked ≡ class
only_bad_values f from context items asked are one good none from_is head_is what_is (Silent BadNonce) is = absurd (is.bad (subst (HasGoodNonce from context) (one is.items is.are) good))
only_bad_values f from context items asked are one good none from_is head_is what_is (Silent _) is = absurd is
only_bad_values f from context items asked are one good none from_is head_is what_is (Time ask) is = absurd is
only_bad_values f from context items asked are one good none from_is head_is what_is (Look its) (inl is) = absurd (no_what f items are its.what is.what_is)
only_bad_values f from context items asked are one good none from_is head_is what_is (Look its) (inr is) =
    ap Look (asked_same f from asked its from_is is.from_is head_is is.head_is (what_is ∙ sym is.what_is))
only_bad_values f from context items asked are one good none from_is head_is what_is (Read ask) is =
    absurd (none ask.request (subst (λ (its : List Item). IsReadOf its context.origin.0 ask.request) (sym (one is.items is.are)) is.request_is))

-- nor one whose items ask for a page
pub only_read : (f : FrameParts) (from : Addr) (context : Context) (items : List Item) (ask : ReadAsk) → IsReadText f items → ((others : List Item) → IsReadText f others → items ≡ others)
    → HasGoodNonce from context items → IsReadOf items context.origin.0 ask.request → ((other : ReadRequest) → IsReadOf items context.origin.0 other → ask.request ≡ other)
    → ask.from ≡ from → IsHeadOf f ask.head → (class : Class) → IsRequestClass f from context class → Read ask ≡ class
only_read f from context items ask are one good found request from_is head_is (Silent BadNonce) is = absurd (is.bad (subst (HasGoodNonce from context) (one is.items is.are) good))
only_read f from context items ask are one good found request from_is head_is (Silent _) is = absurd is
only_read f from context items ask are one good found request from_is head_is (Time its) is = absurd is
only_read f from context items ask are one good found request from_is head_is (Look its) (inl is) = absurd (no_what f items are its.what is.what_is)
only_read f from context items ask are one good found request from_is head_is (Look its) (inr is) =
    absurd (is.none ask.request (subst (λ (its : List Item). IsReadOf its context.origin.0 ask.request) (one is.items is.are) found))
only_read f from context items ask are one good found request from_is head_is (Read its) is =
    ap Read (read_same f from ask its from_is is.from_is head_is is.head_is
    (request its.request (subst (λ (other : List Item). IsReadOf other context.origin.0 its.request) (sym (one is.items is.are)) is.request_is)))

-- where none of the items before one is a nonce, and that one is, its value is the first
pub nonce_in-here : (items : List Item) (i : ℕ) (item : Item) → values_of (codes "nonce") (take i items) ≡ [] → i < length items → item ≡ slice_index_or items i item
    → bytes_eq item.name (codes "nonce") ≡ true → nonce_in items ≡ item.value
nonce_in-here [] i item before within here is = absurd (omega (arith, within))
nonce_in-here (first ∷ items) zero item before within here is =
    let first_is : bytes_eq first.name (codes "nonce") ≡ true = ap (λ (it : Item). bytes_eq it.name (codes "nonce")) (sym here) ∙ is in
    ap (λ (test : Bool). first_value (map (λ (it : Item). it.value) (cond test (first ∷ items_named (codes "nonce") items) (items_named (codes "nonce") items)))) first_is
    ∙ ap (λ (it : Item). it.value) (sym here)
nonce_in-here (first ∷ items) (suc i) item before within here is =
    by_test (λ none. nonce_in-here items i item none (omega (arith, within)) here is) (bytes_eq first.name (codes "nonce")) before
  where
    by_test : (values_of (codes "nonce") (take i items) ≡ [] → nonce_in items ≡ item.value) → (test : Bool) → map (λ (it : Item). it.value) (cond test (first ∷ items_named (codes "nonce") (take i items)) (items_named (codes "nonce") (take i items))) ≡ []
        → first_value (map (λ (it : Item). it.value) (cond test (first ∷ items_named (codes "nonce") items) (items_named (codes "nonce") items))) ≡ item.value
    by_test rest true some = absurd (cc some)
    by_test rest false none = rest none

-- a request that a reader answers
abbrev as_read : ReadRequest → Result ReadRequest RequestFault
as_read request = Ok request

-- where a request is read it is the one, whatever memory is wanting for
pub unless_no_memory : (request other : ReadRequest) → (as_read request ≡ as_read other) ⊎ (as_read request ≡ Err NoMemory) → request ≡ other
unless_no_memory request other (inl same) = cc
unless_no_memory request other (inr wanting) = absurd cc

-- a test that answers no shows that there is no good nonce
pub no_good_nonce : (from : Addr) (context : Context) (items : List Item) (answer : Bool) → IsTrue answer ↔ HasGoodNonce from context items → answer ≡ false → ¬ HasGoodNonce from context items
no_good_nonce from context items answer exact fails good = absurd (cc (exact.1 good, fails))
