-- A control message asks for one thing.
use Rattle.std.proofs.Common.{◌≡◌, ◌≢◌, ◌≤◌, ◌<◌, ◌+◌, ◌⊎◌, ℕ, suc, List, [], ◌∷◌, ◌++◌, length, take, slice_index, slice_index_or, Result, Ok, Err, refl, sym, ap, subst, ◌∙◌, inl, inr, arith, length-take}
use Rattle.std.proofs.lemmas.Bool.{cases_lt}
use Rattle.std.proofs.lemmas.List.{take_more, take_all, get_or-take}
use Rattle.std.proofs.Math.Bridge.{le_prop}
use Rattle.net_addr.specs.declared.addr.Addr.{Addr}
use Rattle.mode6_frame.specs.declared.items.Item.{Item}
use Rattle.mode6_frame.specs.declared.items.ItemFault.{ItemFault}
use Rattle.mode6_frame.specs.declared.items.ItemFault.TheVariants.{NoMemory}
use Rattle.mode6_frame.specs.declared.message.TheConstants.{HEAD_LEN}
use Rattle.mode6_frame.specs.declared.message.Head.{Head}
use Rattle.mode6_frame.specs.Frames.{FrameParts, IsFrame, head_of, first_octet_of, mode_of}
use Rattle.mode6_frame.specs.Items.{IsItemText}
use Rattle.mode6_frame.specs.Refusals.{IsRefusedAt, refused_nowhere}
use Rattle.sys_vars.specs.declared.asked.TheConstants.{MAX_NAMES}
use Rattle.sys_vars.specs.declared.asked.Asked.{Asked}
use Rattle.sys_vars.specs.declared.asked.What.{What}
use Rattle.sys_vars.specs.declared.asked.What.TheVariants.{Status, Vars, Nonce, Bad}
use Rattle.sys_vars.specs.declared.names.TheConstants.{UNKNOWN_NAME}
use Rattle.ntp_packet.specs.declared.leap_version_mode.TheConstants.{MODE_CONTROL}
use Rattle.mode6_frame.specs.declared.errors.TheConstants.{BAD_FORMAT, BAD_OPERATION}
use Rattle.mode6_frame.specs.declared.operations.TheConstants.{OP_READ_STATUS, OP_READ_VARIABLES, OP_READ_NONCE}
use Rattle.server_core.specs.Control.{HasItems, IsUnservedOperation, IsNumberAsked, AreNumbersAsked, IsWhat, IsHeadOf, IsAskedOf}

-- one more item, and one more number
pub AreNumbersAsked-push : (assoc : ℕ) (items : List Item) (numbers : List ℕ) (item : Item) (number : ℕ) → AreNumbersAsked assoc items numbers → IsNumberAsked assoc item.name number
    → AreNumbersAsked assoc (items ++ item ∷ []) (numbers ++ number ∷ [])
AreNumbersAsked-push assoc [] [] item number are one = (one, tt)
AreNumbersAsked-push assoc [] (n ∷ numbers) item number are one = absurd are
AreNumbersAsked-push assoc (i ∷ items) [] item number are one = absurd are
AreNumbersAsked-push assoc (i ∷ items) (n ∷ numbers) item number are one = (are.0, AreNumbersAsked-push assoc items numbers item number are.1 one)

-- there are as many numbers as items
pub AreNumbersAsked-length : (assoc : ℕ) (items : List Item) (numbers : List ℕ) → AreNumbersAsked assoc items numbers → length items ≡ length numbers
AreNumbersAsked-length assoc [] [] are = refl
AreNumbersAsked-length assoc [] (n ∷ numbers) are = absurd are
AreNumbersAsked-length assoc (i ∷ items) [] are = absurd are
AreNumbersAsked-length assoc (i ∷ items) (n ∷ numbers) are = ap suc (AreNumbersAsked-length assoc items numbers are.1)

-- a number is that of no name, or another
unknown_or_known : (number : ℕ) → (number ≡ UNKNOWN_NAME) ⊎ (number ≢ UNKNOWN_NAME)
unknown_or_known number = from_order (cases_lt number UNKNOWN_NAME) (cases_lt UNKNOWN_NAME number)
  where
    from_order : (number < UNKNOWN_NAME) ⊎ (UNKNOWN_NAME ≤ number) → (UNKNOWN_NAME < number) ⊎ (number ≤ UNKNOWN_NAME) → (number ≡ UNKNOWN_NAME) ⊎ (number ≢ UNKNOWN_NAME)
    from_order (inl below) above = inr (λ e. omega (arith, below, e))
    from_order (inr not_below) (inl above) = inr (λ e. omega (arith, above, e))
    from_order (inr not_below) (inr not_above) = inl (omega (arith, not_below, not_above))

-- a name is asked for by one number
number_same : (assoc : ℕ) (name : List ℕ) (m n : ℕ) → IsNumberAsked assoc name m → IsNumberAsked assoc name n → m ≡ n
number_same assoc name m n first second = by_cases (unknown_or_known m) (unknown_or_known n)
  where
    by_cases : (m ≡ UNKNOWN_NAME) ⊎ (m ≢ UNKNOWN_NAME) → (n ≡ UNKNOWN_NAME) ⊎ (n ≢ UNKNOWN_NAME) → m ≡ n
    by_cases any (inr known) = first.only n (second.known known)
    by_cases (inr known) (inl none) = sym (second.only m (first.known known))
    by_cases (inl none) (inl none_too) = none ∙ sym none_too

-- names have one list of numbers
pub numbers_same : (assoc : ℕ) (items : List Item) (ms ns : List ℕ) → AreNumbersAsked assoc items ms → AreNumbersAsked assoc items ns → ms ≡ ns
numbers_same assoc [] [] [] first second = refl
numbers_same assoc [] [] (n ∷ ns) first second = absurd second
numbers_same assoc [] (m ∷ ms) ns first second = absurd first
numbers_same assoc (i ∷ items) [] ns first second = absurd first
numbers_same assoc (i ∷ items) (m ∷ ms) [] first second = absurd second
numbers_same assoc (i ∷ items) (m ∷ ms) (n ∷ ns) first second =
    let head = number_same assoc i.name m n first.0 second.0 in
    let tail = numbers_same assoc items ms ns first.1 second.1 in
    cc

-- one more turn over the items
pub AreNumbersAsked-more : (assoc : ℕ) (items : List Item) (numbers : List ℕ) (i : ℕ) (item : Item) (number : ℕ) → i < length items → item ≡ slice_index_or items i item
    → AreNumbersAsked assoc (take i items) numbers → IsNumberAsked assoc item.name number → AreNumbersAsked assoc (take (i + 1) items) (numbers ++ number ∷ [])
AreNumbersAsked-more assoc items numbers i item number within is are one =
    let further : take (i + 1) items ≡ take i items ++ item ∷ [] = take_more items i item within ∙ ap (λ last. take i items ++ last ∷ []) (sym is) in
    subst (λ (all : List Item). AreNumbersAsked assoc all (numbers ++ number ∷ [])) (sym further) (AreNumbersAsked-push assoc (take i items) numbers item number are one)

-- there are no more numbers than a request has room for
pub numbers_room : (assoc : ℕ) (items : List Item) (numbers : List ℕ) (i : ℕ) → length items ≤ MAX_NAMES → AreNumbersAsked assoc (take i items) numbers → length numbers ≤ MAX_NAMES
numbers_room assoc items numbers i room are = omega (arith, AreNumbersAsked-length assoc (take i items) numbers are, length-take i items)

-- where every item has its number, they all have
pub AreNumbersAsked-whole : (assoc : ℕ) (items : List Item) (numbers : List ℕ) (i : ℕ) → length items ≤ i → AreNumbersAsked assoc (take i items) numbers → AreNumbersAsked assoc items numbers
AreNumbersAsked-whole assoc items numbers i all are =
    subst (λ (front : List Item). AreNumbersAsked assoc front numbers) (take_all i items all) are

-- items that a reader answers
abbrev as_read : List Item → Result (List Item) ItemFault
as_read items = Ok items

-- where items are read, they are the ones, whatever memory is wanting for
pub unless_no_memory : (items others : List Item) → (as_read items ≡ as_read others) ⊎ (as_read items ≡ Err NoMemory) → items ≡ others
unless_no_memory items others (inl same) = cc
unless_no_memory items others (inr wanting) = absurd cc

-- a request whose body is a text of items asks for their numbers and nothing else
pub only_variables : (f : FrameParts) (items : List Item) (numbers : List ℕ) → f.opcode ≡ OP_READ_VARIABLES → IsItemText f.body items
    → ((others : List Item) → IsItemText f.body others → items ≡ others) → AreNumbersAsked f.assoc items numbers
    → (what : What) → IsWhat f what → Vars numbers ≡ what
only_variables f items numbers reads text one are Status status = absurd (omega (arith, reads, status))
only_variables f items numbers reads text one are Nonce nonce = absurd (omega (arith, reads, nonce))
only_variables f items numbers reads text one are (Vars its) (_, (others, other_text, other_are)) =
    let same = one others other_text in
    ap Vars (numbers_same f.assoc items numbers its are (subst (λ (all : List Item). AreNumbersAsked f.assoc all its) (sym same) other_are))
only_variables f items numbers reads text one are (Bad code) (inl (_, (place, refused), _)) = absurd (refused_nowhere IsItemText f.body items place text refused)
only_variables f items numbers reads text one are (Bad code) (inr (other, _)) = absurd (other.variables reads)

-- an operation that has items in its requests is served
served_items : (opcode : ℕ) → HasItems opcode → ¬ IsUnservedOperation opcode
served_items opcode (inl reads) other = other.variables reads
served_items opcode (inr reads) other = other.list reads

-- and is neither the read of a status nor that of a nonce
no_status : (opcode : ℕ) → HasItems opcode → opcode ≢ OP_READ_STATUS
no_status opcode (inl reads) status = omega (arith, reads, status)
no_status opcode (inr reads) status = omega (arith, reads, status)

no_nonce : (opcode : ℕ) → HasItems opcode → opcode ≢ OP_READ_NONCE
no_nonce opcode (inl reads) nonce = omega (arith, reads, nonce)
no_nonce opcode (inr reads) nonce = omega (arith, reads, nonce)

-- a request whose body is no text of items is refused so and not otherwise
pub only_bad_format : (f : FrameParts) (place : ℕ) → HasItems f.opcode → IsRefusedAt IsItemText f.body place
    → (what : What) → IsWhat f what → Bad BAD_FORMAT ≡ what
only_bad_format f place has refused Status status = absurd (no_status f.opcode has status)
only_bad_format f place has refused Nonce nonce = absurd (no_nonce f.opcode has nonce)
only_bad_format f place has refused (Vars its) (_, (items, text, _)) = absurd (refused_nowhere IsItemText f.body items place text refused)
only_bad_format f place has refused (Bad code) (inl (_, _, is)) = ap Bad (sym is)
only_bad_format f place has refused (Bad code) (inr (other, _)) = absurd (served_items f.opcode has other)

-- nor a request of another operation
pub only_bad_operation : (f : FrameParts) → IsUnservedOperation f.opcode → (what : What) → IsWhat f what → Bad BAD_OPERATION ≡ what
only_bad_operation f other Status status = absurd (other.status status)
only_bad_operation f other Nonce nonce = absurd (other.nonce nonce)
only_bad_operation f other (Vars its) is = absurd (other.variables is.0)
only_bad_operation f other (Bad code) (inl is) = absurd (served_items f.opcode is.0 other)
only_bad_operation f other (Bad code) (inr (_, is)) = ap Bad (sym is)

-- a request for a status asks for nothing else
pub only_status : (f : FrameParts) → f.opcode ≡ OP_READ_STATUS → (what : What) → IsWhat f what → Status ≡ what
only_status f reads Status is = refl
only_status f reads Nonce nonce = absurd (omega (arith, reads, nonce))
only_status f reads (Vars its) is = absurd (omega (arith, reads, is.0))
only_status f reads (Bad code) (inl is) = absurd (no_status f.opcode is.0 reads)
only_status f reads (Bad code) (inr is) = absurd (is.0.status reads)

-- nor does a request for a nonce
pub only_nonce : (f : FrameParts) → f.opcode ≡ OP_READ_NONCE → (what : What) → IsWhat f what → Nonce ≡ what
only_nonce f reads Status status = absurd (omega (arith, reads, status))
only_nonce f reads Nonce is = refl
only_nonce f reads (Vars its) is = absurd (omega (arith, reads, is.0))
only_nonce f reads (Bad code) (inl is) = absurd (no_nonce f.opcode is.0 reads)
only_nonce f reads (Bad code) (inr is) = absurd (is.0.nonce reads)

-- a head by its parts
abbrev head_of_parts : (version opcode sequence status assoc : ℕ) → version ≤ 7 → opcode ≤ 31 → Head
head_of_parts version opcode sequence status assoc version_in opcode_in =
    record { version = version; opcode = opcode; sequence = sequence; status = status; assoc = assoc; version_in = version_in; opcode_in = opcode_in }

-- heads of one version and operation are equal where their other parts are
same_but_for_proofs : (v w o p sequence status assoc : ℕ) → v ≡ w → o ≡ p → (v_in : v ≤ 7) (w_in : w ≤ 7) (o_in : o ≤ 31) (p_in : p ≤ 31)
    → head_of_parts v o sequence status assoc v_in o_in ≡ head_of_parts w p sequence status assoc w_in p_in
same_but_for_proofs v w o p sequence status assoc versions opcodes v_in =
    subst (λ (x : ℕ). (x_in : x ≤ 7) (o_in : o ≤ 31) (p_in : p ≤ 31) → head_of_parts v o sequence status assoc v_in o_in ≡ head_of_parts x p sequence status assoc x_in p_in) versions
    (λ x_in. subst (λ (y : ℕ). (o_in : o ≤ 31) (y_in : y ≤ 31) → head_of_parts v o sequence status assoc v_in o_in ≡ head_of_parts v y sequence status assoc x_in y_in) opcodes
    (λ o_in y_in.
    ap (λ (q : v ≤ 7). head_of_parts v o sequence status assoc q o_in) (le_prop v_in x_in)
    ∙ ap (λ (q : o ≤ 31). head_of_parts v o sequence status assoc x_in q) (le_prop o_in y_in)))

-- a request has one head
pub head_same : (f : FrameParts) (a b : Head) → IsHeadOf f a → IsHeadOf f b → a ≡ b
head_same f a b first second =
    let sequence_is : a.sequence ≡ b.sequence = first.sequence ∙ sym second.sequence in
    let status_is : a.status ≡ b.status = first.status ∙ sym second.status in
    let assoc_is : a.assoc ≡ b.assoc = first.assoc ∙ sym second.assoc in
    ap (λ (n : ℕ). head_of_parts a.version a.opcode n a.status a.assoc a.version_in a.opcode_in) sequence_is
    ∙ ap (λ (n : ℕ). head_of_parts a.version a.opcode b.sequence n a.assoc a.version_in a.opcode_in) status_is
    ∙ ap (λ (n : ℕ). head_of_parts a.version a.opcode b.sequence b.status n a.version_in a.opcode_in) assoc_is
    ∙ same_but_for_proofs a.version b.version a.opcode b.opcode b.sequence b.status b.assoc
    (first.version ∙ sym second.version) (first.opcode ∙ sym second.opcode) a.version_in b.version_in a.opcode_in b.opcode_in

-- what is asked by its parts
abbrev asked_of_parts : Addr → Head → What → Asked
asked_of_parts from head what = record { from = from; head = head; what = what }

-- a request that asks for one thing from one address is one
pub asked_same : (f : FrameParts) (from : Addr) (a b : Asked) → a.from ≡ from → b.from ≡ from → IsHeadOf f a.head → IsHeadOf f b.head → a.what ≡ b.what → a ≡ b
asked_same f from a b a_from b_from a_head b_head what =
    ap (λ (x : Addr). asked_of_parts x a.head a.what) (a_from ∙ sym b_from)
    ∙ ap (λ (h : Head). asked_of_parts b.from h a.what) (head_same f a.head b.head a_head b_head)
    ∙ ap (λ (w : What). asked_of_parts b.from b.head w) what

-- a request asks for one thing
pub only_asked : (f : FrameParts) (from : Addr) (head : Head) (what : What) → IsHeadOf f head → ((other : What) → IsWhat f other → what ≡ other)
    → (asked : Asked) → IsAskedOf f from asked → record { from = from; head = head; what = what } ≡ asked
only_asked f from head what is_head one asked is =
    asked_same f from (asked_of_parts from head what) asked refl is.from_is is_head is.head_is (one asked.what is.what_is)

-- a control message's mode is that of control messages
pub frame_mode : (octets : List ℕ) (f : FrameParts) → IsFrame octets f → mode_of octets ≡ MODE_CONTROL
unfolding head_of
frame_mode octets f is =
    let n = HEAD_LEN + length f.body in
    let front : slice_index (take n octets) 0 ≡ slice_index octets 0 = get_or-take n octets 0 0 (omega arith) in
    let first : slice_index (take n octets) 0 ≡ first_octet_of f = ap (λ (xs : List ℕ). slice_index xs 0) is.spelled in
    omega (arith, front, first)
