-- What a read of the client list asks for (RFC 9327, section 4, commands 10 and 12; the order of the tests is our own rule).
use Rattle.std.specs.Prelude.{◌≡◌, ◌⊎◌, ℕ, Option, None, IsSomeAnd, List, [], ◌∷◌, codes}
use Rattle.net_addr.specs.declared.addr.Addr.{Addr}
use Rattle.mode6_frame.specs.declared.errors.TheConstants.{BAD_VALUE}
use Rattle.mode6_frame.specs.declared.items.Item.{Item}
use Rattle.mode6_frame.specs.declared.operations.TheConstants.{OP_READ_MRU}
use Rattle.mode6_frame.specs.Frames.{FrameParts}
use Rattle.mode6_frame.specs.Items.{IsItemText}
use Rattle.mode6_nonce.specs.Nonces.{IsGood}
use Rattle.mru_items.specs.declared.query.ReadRequest.{ReadRequest}
use Rattle.mru_items.specs.Names.{values_of}
use Rattle.mru_items.specs.Queries.{IsReadOf}
use Rattle.sys_vars.specs.declared.asked.Asked.{Asked}
use Rattle.sys_vars.specs.declared.asked.What.TheVariants.{Bad}
use Rattle.sys_vars.specs.declared.context.Context.{Context}
use Rattle.sys_vars.specs.Contexts.{time_of}
use Rattle.server_core.specs.declared.class.Class.{Class}
use Rattle.server_core.specs.declared.class.Class.TheVariants.{Silent, Time, Look, Read}
use Rattle.server_core.specs.declared.class.ReadAsk.{ReadAsk}
use Rattle.server_core.specs.declared.class.Unheard.TheVariants.{BadNonce}
use Rattle.server_core.specs.Control.{IsAskedOf, IsHeadOf}

-- a request is a read of the client list, and its body is the text of these items
pub record IsReadText (f : FrameParts) (items : List Item) : Type 0 where
  pub reads : f.opcode ≡ OP_READ_MRU
  pub text : IsItemText f.body items

-- the first of these values, where there is one
abbrev pub first_value : List (Option (List ℕ)) → Option (List ℕ)
first_value [] = None
first_value (value ∷ values) = value

-- the value of the first item `nonce`, where there is one and it has a value
abbrev pub nonce_in : List Item → Option (List ℕ)
nonce_in items = first_value (values_of (codes "nonce") items)

-- the first item `nonce` has a value that is a good nonce for this sender at the time of this context
abbrev pub HasGoodNonce : Addr → Context → List Item → Type 0
HasGoodNonce from context items =
    IsSomeAnd (nonce_in items) (λ nonce. IsGood context.salt from.ip nonce (time_of context))

-- a read without a good nonce
pub record HasBadNonce (f : FrameParts) (from : Addr) (context : Context) : Type 0 where
  pub items : List Item
  pub are : IsReadText f items
  pub bad : ¬ HasGoodNonce from context items

-- a read with a good nonce whose items ask for no page is refused as bad values
pub record HasBadValues (f : FrameParts) (from : Addr) (context : Context) (asked : Asked) : Type 0 where
  pub items : List Item
  pub are : IsReadText f items
  pub good : HasGoodNonce from context items
  pub none : (request : ReadRequest) → ¬ (IsReadOf items context.origin.0 request)
  pub from_is : asked.from ≡ from
  pub head_is : IsHeadOf f asked.head
  pub what_is : asked.what ≡ Bad BAD_VALUE

-- a read with a good nonce whose items ask for this page
pub record IsReadAsk (f : FrameParts) (from : Addr) (context : Context) (ask : ReadAsk) : Type 0 where
  pub items : List Item
  pub are : IsReadText f items
  pub good : HasGoodNonce from context items
  pub from_is : ask.from ≡ from
  pub head_is : IsHeadOf f ask.head
  pub request_is : IsReadOf items context.origin.0 ask.request

-- what a control request from this address that came in this context is
abbrev pub IsRequestClass : FrameParts → Addr → Context → Class → Type 0
IsRequestClass f from context (Silent BadNonce) = HasBadNonce f from context
IsRequestClass f from context (Silent _) = ⊥
IsRequestClass f from context (Time ask) = ⊥
IsRequestClass f from context (Look asked) = IsAskedOf f from asked ⊎ HasBadValues f from context asked
IsRequestClass f from context (Read ask) = IsReadAsk f from context ask
