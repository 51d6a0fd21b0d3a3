-- What a control message asks for (RFC 9327, sections 2, 3.4 and 4; what is answered by which error is our own rule).
use Rattle.std.specs.Prelude.{◌≡◌, ◌≢◌, ◌⊎◌, ℕ, Bool, false, ◌||◌, List, [], ◌∷◌, Some}
use Rattle.net_addr.specs.declared.addr.Addr.{Addr}
use Rattle.mode6_frame.specs.declared.items.Item.{Item}
use Rattle.mode6_frame.specs.declared.message.Head.{Head}
use Rattle.mode6_frame.specs.declared.message.FrameFault.{FrameFault}
use Rattle.mode6_frame.specs.declared.message.FrameFault.TheVariants.{Short, BadVersion, BadMode, BadCount}
use Rattle.mode6_frame.specs.Frames.{FrameParts, IsFrame}
use Rattle.mode6_frame.specs.Items.{IsItemText}
use Rattle.mode6_frame.specs.Refusals.{IsRefusedAt}
use Rattle.sys_vars.specs.declared.asked.Asked.{Asked}
use Rattle.sys_vars.specs.declared.asked.What.{What}
use Rattle.sys_vars.specs.declared.asked.What.TheVariants.{Status, Vars, Nonce, Bad}
use Rattle.sys_vars.specs.declared.names.TheConstants.{UNKNOWN_NAME}
use Rattle.sys_vars.specs.Names.{name_of}
use Rattle.mode6_frame.specs.declared.errors.TheConstants.{BAD_FORMAT, BAD_OPERATION}
use Rattle.mode6_frame.specs.declared.operations.TheConstants.{OP_READ_STATUS, OP_READ_VARIABLES, OP_READ_MRU, OP_READ_NONCE}

-- the number of a control message's fault, in the order of the tests
abbrev pub frame_number : FrameFault → ℕ
frame_number Short = 1
frame_number BadVersion = 2
frame_number BadMode = 3
frame_number BadCount = 4

-- a bit is set that no request has: the response, the error or the more bit
abbrev pub has_answer_bit : FrameParts → Bool
has_answer_bit f = f.response || f.error || f.more

-- the octets begin with a control message that is a request
pub record IsRequest (octets : List ℕ) (f : FrameParts) : Type 0 where
  pub frame : IsFrame octets f
  pub no_answer : has_answer_bit f ≡ false

-- the operations that have items in the bodies of their requests: a read of variables, and one of the client list
abbrev pub HasItems : ℕ → Type 0
HasItems opcode = (opcode ≡ OP_READ_VARIABLES) ⊎ (opcode ≡ OP_READ_MRU)

-- the octets begin with a request to read variables, or the client list
abbrev pub IsReadRequest : List ℕ → Type 0
IsReadRequest octets = (f : FrameParts) × IsRequest octets f × HasItems f.opcode

-- an operation that is not served
pub record IsUnservedOperation (opcode : ℕ) : Type 0 where
  pub status : opcode ≢ OP_READ_STATUS
  pub variables : opcode ≢ OP_READ_VARIABLES
  pub list : opcode ≢ OP_READ_MRU
  pub nonce : opcode ≢ OP_READ_NONCE

-- the number by which a name is asked for: that of the association's variable of this name, or that of none
pub record IsNumberAsked (assoc : ℕ) (name : List ℕ) (number : ℕ) : Type 0 where
  pub known : number ≢ UNKNOWN_NAME → name_of assoc number ≡ Some name
  pub only : (other : ℕ) → name_of assoc other ≡ Some name → number ≡ other

-- the numbers by which the names of these items are asked for, in their order
abbrev pub AreNumbersAsked : ℕ → List Item → List ℕ → Type 0
AreNumbersAsked assoc [] [] = Unit {0}
AreNumbersAsked assoc [] (number ∷ numbers) = ⊥
AreNumbersAsked assoc (item ∷ items) [] = ⊥
AreNumbersAsked assoc (item ∷ items) (number ∷ numbers) =
    IsNumberAsked assoc item.name number × AreNumbersAsked assoc items numbers

-- what a request asks for that is no read of the client list, or has no items: a status or a nonce, whatever its body; the
-- variables that its body names, whatever values stand there; or what is refused with an error code
abbrev pub IsWhat : FrameParts → What → Type 0
IsWhat f Status = f.opcode ≡ OP_READ_STATUS
IsWhat f (Vars numbers) =
    (f.opcode ≡ OP_READ_VARIABLES)
    × ((items : List Item) × IsItemText f.body items × AreNumbersAsked f.assoc items numbers)
IsWhat f Nonce = f.opcode ≡ OP_READ_NONCE
IsWhat f (Bad code) =
    (HasItems f.opcode × ((place : ℕ) × IsRefusedAt IsItemText f.body place) × (code ≡ BAD_FORMAT))
    ⊎ (IsUnservedOperation f.opcode × (code ≡ BAD_OPERATION))

-- what an answer repeats of a request; the status is still to be filled in
pub record IsHeadOf (f : FrameParts) (head : Head) : Type 0 where
  pub version : head.version ≡ f.version
  pub opcode : head.opcode ≡ f.opcode
  pub sequence : head.sequence ≡ f.sequence
  pub status : head.status ≡ 0
  pub assoc : head.assoc ≡ f.assoc

-- what a request asks for, and from where
pub record IsAskedOf (f : FrameParts) (from : Addr) (asked : Asked) : Type 0 where
  pub from_is : asked.from ≡ from
  pub head_is : IsHeadOf f asked.head
  pub what_is : IsWhat f asked.what
