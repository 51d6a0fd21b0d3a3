-- How a server takes a datagram, as often as it is served: our own words.
use Rattle.std.specs.Prelude.{◌≡◌, ◌⊎◌, ℕ, zero, suc, ◌≤◌, Option, Some, None, Result, List, [], ◌++◌, length, map}
use Rattle.mac_keys.specs.declared.keys.Key.{Key}
use Rattle.net_addr.specs.declared.addr.Addr.{Addr}
use Rattle.sys_vars.specs.declared.context.Context.{Context}
use Rattle.server_core.specs.declared.class.Class.{Class}
use Rattle.server_core.specs.declared.op.Op.{Op}
use Rattle.server_core.specs.declared.read_reply.ReadReply.TheVariants.{Refused, Page}
use Rattle.server_core.specs.declared.response.Response.{Response}
use Rattle.server_core.specs.declared.response.Response.TheVariants.{Read}
use Rattle.server_core.specs.declared.step.Reply.{Reply}
use Rattle.server_core.specs.declared.step.StepFault.{StepFault}
use Rattle.server_core.specs.Books.{BookParts}
use Rattle.server_core.specs.Class.{IsClass}
use Rattle.server_core.specs.Histories.{AreSteps}
use Rattle.server_core.specs.Responses.{IsAccepted, book_after, grams_of, op_of, response_of}
use Rattle.server_core.specs.States.{refusal_of}
use Rattle.planned_link.specs.declared.queued.Queued.{Queued}
use Rattle.planned_link.specs.declared.serving.Delivery.{Delivery}

-- a datagram on its way to a server: who sent it, to which address, in what context it comes, and the keys that are known
pub record DeliveryParts : Type 0 where
  pub keys : List Key
  pub context : Context
  pub from : Addr
  pub to : Addr
  pub octets : List ℕ

-- a delivery by its values
abbrev pub parts_of : Delivery → DeliveryParts
parts_of d = record {
  keys = d.keys.now;
  context = d.context;
  from = d.from;
  to = d.to;
  octets = d.octets.now;
}

-- the place of the read that a response answers, where this is the number of its operation in the journal: a read that
-- comes to a page has one, and one whose clients do not stand as named
abbrev pub place_of : ℕ → Response → Option ℕ
place_of number (Read from head Refused) = Some number
place_of number (Read from head (Page status page)) = Some number
place_of number _ = None

-- these datagrams as they are queued, where they come from this address and answer the read at this place
abbrev pub queued_as : Addr → Option ℕ → List (List ℕ) → List Queued
queued_as from place grams = map (λ gram. record { from = from; octets = gram; place = place }) grams

-- the datagrams of a response, which is given at once, as they are queued: they come from where the request went
abbrev pub answers_of : DeliveryParts → ℕ → Response → List Queued
answers_of d number response =
    queued_as d.to (place_of number response) (grams_of d.keys d.context d.context.moment response)

-- the server takes a datagram, and these are the datagrams of its response
pub record IsAnswered (d : DeliveryParts) (book : BookParts) (answers : List Queued) (next : BookParts) : Type 0 where
  pub class : Class
  pub is_class : IsClass d.octets d.from d.keys d.context class
  pub accepted : IsAccepted book (op_of d.context class)
  pub goes_on : next ≡ book_after book (op_of d.context class)
  pub response_is : answers ≡ answers_of d (length book.journal) (response_of book.state d.context class)

-- the server refuses this operation
abbrev pub Refuses : BookParts → Option Op → Type 0
Refuses book None = ⊥
Refuses book (Some op) = (fault : StepFault) × (refusal_of book.journal book.state.stamp op ≡ Some fault)

-- the server refuses a datagram, whatever its class is: it stays as it was, and nothing is answered
pub record IsRefused (d : DeliveryParts) (book : BookParts) (answers : List Queued) (next : BookParts) : Type 0 where
  pub refuses : (class : Class) → IsClass d.octets d.from d.keys d.context class → Refuses book (op_of d.context class)
  pub stays : next ≡ book
  pub nothing : answers ≡ []

-- a datagram is served once
abbrev pub IsService : DeliveryParts → BookParts → List Queued → BookParts → Type 0
IsService d book answers next = IsAnswered d book answers next ⊎ IsRefused d book answers next

-- a datagram is served so many times, one after another
abbrev pub AreServices : ℕ → DeliveryParts → BookParts → List Queued → BookParts → Type 0
AreServices zero d book answers last = (answers ≡ []) × (last ≡ book)
AreServices (suc n) d book answers last =
    (next : BookParts) × (first : List Queued) × (others : List Queued)
    × IsService d book first next × AreServices n d next others last × (answers ≡ first ++ others)

-- a server takes these operations, passing over what it refuses, and then so many times the datagram
pub record IsServed (ops : List Op) (n : ℕ) (d : DeliveryParts) (book : BookParts) (answers : List Queued) (last : BookParts) : Type 0 where
  pub replies : List (Result Reply StepFault)
  pub between : BookParts
  pub steps : AreSteps book ops replies between
  pub services : AreServices n d between answers last

-- where memory was wanting, the server is as it was, or took the operations and then some of the times the datagram
abbrev pub IsBrought : List Op → ℕ → DeliveryParts → BookParts → BookParts → Type 0
IsBrought ops n d book last =
    (last ≡ book) ⊎ ((k : ℕ) × (k ≤ n) × (answers : List Queued) × IsServed ops k d book answers last)
