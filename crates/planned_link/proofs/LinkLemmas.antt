-- A give, put together of its parts.
use Rattle.std.proofs.Common.{◌≡◌, ◌+◌, ◌-◌, ◌^◌, ℕ, Ok, Err, List, [], ◌∷◌, ◌++◌, inr, ap, arith, subst, ◌∙◌}
use Rattle.std.specs.Prelude.{drop, min}
use Rattle.mac_keys.specs.declared.keys.Key.{Key}
use Rattle.net_addr.specs.declared.addr.Addr.{Addr}
use Rattle.edge_traits.specs.declared.port.Event.{Event}
use Rattle.edge_traits.specs.declared.port.Event.TheVariants.{Sent}
use Rattle.edge_traits.specs.declared.port.PortFault.TheVariants.{NoMemory}
use Rattle.sys_vars.specs.declared.context.Context.{Context}
use Rattle.server_core.specs.Books.{BookParts}
use Rattle.planned_link.specs.declared.deed.Deed.{Deed}
use Rattle.planned_link.specs.declared.queued.Queued.{Queued}
use Rattle.planned_link.specs.Fates.{fated, first_deed}
use Rattle.planned_link.specs.Links.{IsGiven, LinkParts, delivery_at, giving, next_moment}
use Rattle.planned_link.specs.Services.{DeliveryParts, IsBrought, IsServed}

-- a datagram from the client of a link in this context, where these keys are known
abbrev pub delivered : LinkParts → Addr → List ℕ → List Key → Context → DeliveryParts
delivered l to octets keys context = record { keys = keys; context = context; from = l.from; to = to; octets = octets }

-- so a datagram comes to the server of a link
pub comes_at : (l : LinkParts) (to : Addr) (octets : List ℕ) (keys : List Key) (context : Context)
    → keys ≡ [] → context.salt ≡ l.salt → context.origin ≡ l.book.state.origin → context.moment ≡ next_moment l.moment
    → delivered l to octets keys context ≡ delivery_at l to octets
comes_at l to octets keys context none salt origin moment = λ i.
    delivered l to octets (none i) (record { salt = salt i; origin = origin i; moment = moment i })

-- a link after a give, with this queue and this trace
abbrev link_after : LinkParts → BookParts → ℕ → List Deed → List Queued → ℕ → List Event → LinkParts
link_after l book moment plan queue given trace =
    record l { book = book; moment = moment; plan = plan; queue = queue; given = given; trace = trace }

pub is_after : (l : LinkParts) (book : BookParts) (moment given : ℕ) (plan : List Deed) (queue queue' : List Queued) (trace trace' : List Event)
    → moment ≡ next_moment l.moment → plan ≡ drop 1 l.plan → queue ≡ queue' → given ≡ min (l.given + 1) (2 ^ 32 - 1) → trace ≡ trace'
    → link_after l book moment plan queue given trace ≡ record (giving l) { book = book; queue = queue'; trace = trace' }
is_after l book moment given plan queue queue' trace trace' comes left queued counted told = λ i.
    link_after l book (comes i) (left i) (queued i) (counted i) (told i)

-- a give whose answers are queued
pub IsGiven-done : (old : LinkParts) (to : Addr) (octets : List ℕ) (deed : Deed) (d : DeliveryParts) (book : BookParts) (answers : List Queued) (new : LinkParts)
    → deed ≡ first_deed old.plan → d ≡ delivery_at old to octets → IsServed deed.ops deed.served d old.book answers book
    → new ≡ record (giving old) { book = book; queue = fated deed.fates answers old.queue; trace = old.trace ++ Sent to octets ∷ [] }
    → IsGiven old to octets (Ok tt) new
IsGiven-done old to octets deed d book answers new first comes served same = (
  book,
  answers,
  subst (λ (e : DeliveryParts). IsServed (first_deed old.plan).ops (first_deed old.plan).served e old.book answers book) comes
      (subst (λ (e : Deed). IsServed e.ops e.served d old.book answers book) first served),
  same ∙ ap (λ (e : Deed). record (giving old) { book = book; queue = fated e.fates answers old.queue; trace = old.trace ++ Sent to octets ∷ [] }) first,
)

-- a give for which memory was wanting
pub IsGiven-wanting : (old : LinkParts) (to : Addr) (octets : List ℕ) (deed : Deed) (d : DeliveryParts) (book : BookParts) (new : LinkParts)
    → deed ≡ first_deed old.plan → d ≡ delivery_at old to octets → IsBrought deed.ops deed.served d old.book book
    → new ≡ record (giving old) { book = book } → IsGiven old to octets (Err NoMemory) new
IsGiven-wanting old to octets deed d book new first comes brought same = (
  book,
  subst (λ (e : DeliveryParts). IsBrought (first_deed old.plan).ops (first_deed old.plan).served e old.book book) comes
      (subst (λ (e : Deed). IsBrought e.ops e.served d old.book book) first brought),
  same,
)

-- where memory is wanting once the datagram was served, the server is where the services brought it
pub IsBrought-served : (deed : Deed) (d : DeliveryParts) (book : BookParts) (answers : List Queued) (last : BookParts)
    → IsServed deed.ops deed.served d book answers last → IsBrought deed.ops deed.served d book last
IsBrought-served deed d book answers last served = inr (deed.served, omega arith, answers, served)
