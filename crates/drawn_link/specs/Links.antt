-- A link between two calls: our own words.
use Rattle.std.specs.Prelude.{◌≡◌, ℕ, ◌*◌, ◌≤◌, Bool, true, false, cond, ◌==◌, ◌%◌, None, List, [], ◌∷◌, ◌++◌, length, Contains}
use Rattle.std.specs.List.{AllByRecursion}
use mathlib.Core.List.{IsPrefix}
use Rattle.edge_traits.specs.declared.port.Event.TheVariants.{Sent}
use Rattle.net_addr.specs.declared.addr.Addr.{Addr}
use Rattle.server_core.specs.Books.{BookParts}
use Rattle.server_core.specs.Histories.{IsLegal, state_after_all}
use Rattle.server_core.specs.States.{ServerState, stop_in}
use Rattle.shared_book.specs.declared.common.Common.{Common}
use Rattle.sys_vars.specs.Opening.{IsOpening}
use Rattle.wire.specs.declared.wire.WireEvent.{WireEvent}
use Rattle.wire.specs.declared.wire.WireEvent.TheVariants.{Worker}
use Rattle.wire.specs.Wires.{AreCarried, worker_events}
use Rattle.worker.specs.declared.act.Act.{Act}
use Rattle.worker.specs.Acts.{AreActs, Climbs, places_of}
use Rattle.drawn_link.specs.Arrivals.{first_arrivals}
use Rattle.draws.specs.Draws.{drawn, next_state}
use Rattle.draws.specs.declared.clients.TheConstants.{CLIENTS}
use Rattle.drawn_link.specs.declared.begin.TheConstants.{MAX_AGE, MAX_DEPTH, MIN_DEPTH, ORIGIN, SECOND}
use Rattle.drawn_link.specs.declared.link.TheConstants.{HERE, SALT}
use Rattle.drawn_link.specs.declared.settling.TheConstants.{LAST}

-- the server of a link before its first client: an opening record is published, and nobody has asked yet
pub record IsOpeningState (s : ServerState) : Type 0 where
  pub published : IsOpening s.origin s.published
  pub rows : s.rows ≡ []
  pub stamp : s.stamp ≡ 0
  pub mindepth : s.limits.mindepth ≡ MIN_DEPTH
  pub maxdepth : s.limits.maxdepth ≡ MAX_DEPTH
  pub minage : s.limits.minage ≡ 0
  pub maxage : s.limits.maxage ≡ MAX_AGE * SECOND
  pub origin : s.origin.0 ≡ ORIGIN

-- a server at which so many clients have arrived first, and nothing else has happened
pub record IsBegun (number : ℕ) (book : BookParts) : Type 0 where
  pub opening : ServerState
  pub opens : IsOpeningState opening
  pub origin : book.state.origin ≡ opening.origin
  pub reached : book.state ≡ state_after_all opening book.journal
  pub legal : IsLegal opening book.journal
  pub begins : book.journal ≡ first_arrivals number
  pub counted : length book.journal ≡ number
  pub going : stop_in book.journal ≡ None
  pub stamp : book.state.stamp ≤ number * SECOND

-- the worker of a wire had sent this datagram to a client of this address
abbrev pub WasSent : Addr → List WireEvent → List ℕ → Type 0
WasSent client log octets = Contains log (Worker (Sent client octets))

-- A link whose server has this journal, whose worker has these acts, at whose ends this happened, and on whose way to the
-- client these datagrams are: the server began as one that nobody had asked, and went on by legal operations, the first of
-- which are the first arrivals; it is here, and has this secret; each datagram that its worker took is that of one act; and what an end took, or may take,
-- the other had sent.
pub record IsDrawn (common : Common) (server client : Addr) (book : BookParts) (acts : List Act) (log : List WireEvent) (queue : List (List ℕ)) : Type 0 where
  pub opening : ServerState
  pub opens : IsOpeningState opening
  pub server_is : server ≡ HERE
  pub client_is : client ≡ HERE
  pub salt_is : common.salt ≡ SALT
  pub origin : common.origin ≡ opening.origin
  pub reached : book.state ≡ state_after_all opening book.journal
  pub legal : IsLegal opening book.journal
  pub begins : IsPrefix (first_arrivals CLIENTS) book.journal
  pub answered : AreActs common opening book.journal acts (worker_events log)
  pub climb : Climbs 0 (places_of acts) (length book.journal)
  pub carried : AreCarried server client [] log
  pub queued : AllByRecursion (WasSent client log) queue

-- a link between two calls: its server, what the parts of the server know, the addresses of its ends, the acts of its
-- worker, what happened at both ends, and how many takes found nothing
pub record LinkParts : Type 0 where
  pub book : BookParts
  pub common : Common
  pub server : Addr
  pub client : Addr
  pub acts : List Act
  pub log : List WireEvent
  pub quiets : ℕ

-- a queue after this datagram came to it, by this number: it is lost, queued twice, at the front, or at the end
abbrev pub placed : ℕ → List ℕ → List (List ℕ) → List (List ℕ)
placed fate gram queue =
    cond (fate == 0) queue
    (cond (fate == 1) (queue ++ gram ∷ gram ∷ [])
    (cond (fate == 2) (gram ∷ queue)
    (queue ++ gram ∷ [])))

-- the number by which a datagram is queued, drawn from this state or not
abbrev pub fate_of : Bool → ℕ → ℕ
fate_of true x = drawn x % 16
fate_of false x = LAST

-- the state after that
abbrev pub state_after : Bool → ℕ → ℕ
state_after true x = next_state x
state_after false x = x

-- a queue after these datagrams came to it, one after another: by the draws from this state, or all at the end
abbrev pub queue_after : Bool → ℕ → List (List ℕ) → List (List ℕ) → List (List ℕ)
queue_after is_drawn x [] queue = queue
queue_after is_drawn x (gram ∷ grams) queue =
    queue_after is_drawn (state_after is_drawn x) grams (placed (fate_of is_drawn x) gram queue)
