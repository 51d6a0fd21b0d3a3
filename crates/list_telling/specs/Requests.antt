-- A request of a listing, as a server takes it: our own words.
use Rattle.std.specs.Prelude.{◌≡◌, ◌⊎◌, ℕ, Option, Some, None, List}
use Rattle.mode6_frame.specs.declared.items.Item.{Item}
use Rattle.mode6_frame.specs.declared.operations.TheConstants.{OP_READ_MRU, OP_READ_NONCE}
use Rattle.mode6_frame.specs.Frames.{FrameParts}
use Rattle.mode6_frame.specs.Items.{IsItemText}
use Rattle.mru_items.specs.declared.query.ReadRequest.{ReadRequest}
use Rattle.mru_items.specs.Queries.{IsReadOf}
use Rattle.server_core.specs.declared.read_reply.ReadReply.TheVariants.{Refused, Page}
use Rattle.server_core.specs.declared.response.Response.{Response}
use Rattle.server_core.specs.declared.response.Response.TheVariants.{Read}

-- a request reads the client list, and its items ask a server whose clocks begin at this time for a page
pub record ReadsPage (f : FrameParts) (origin : ℕ) : Type 0 where
  pub opcode : f.opcode ≡ OP_READ_MRU
  pub items : List Item
  pub text : IsItemText f.body items
  pub read : ReadRequest
  pub asks : IsReadOf items origin read

-- a request asks for a nonce, or for a page
abbrev pub IsListRequest : FrameParts → ℕ → Type 0
IsListRequest f origin = (f.opcode ≡ OP_READ_NONCE) ⊎ ReadsPage f origin

-- the place of the read that a response answers, where this is the number of its operation in the history: a read that
-- comes to a page has one, and one whose clients do not stand as named
abbrev pub place_of : ℕ → Response → Option ℕ
place_of number (Read from head Refused) = Some number
place_of number (Read from head (Page status page)) = Some number
place_of number _ = None
