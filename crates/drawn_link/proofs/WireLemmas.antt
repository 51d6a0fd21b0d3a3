-- What is carried over a wire, as it grows.
use Rattle.std.proofs.Common.{◌≡◌, ◌⊎◌, ℕ, Bool, List, [], ◌∷◌, ◌++◌, length, take, inl, inr, refl, sym, ap, subst, ◌∙◌, arith}
use Rattle.std.specs.Prelude.{◌==◌, Contains, map}
use Rattle.std.specs.List.{AllByRecursion}
use Rattle.std.proofs.lemmas.Bool.{cond_both}
use Rattle.std.proofs.lemmas.List.{append-nil, take_all}
use Rattle.std.proofs.lemmas.List.Elements.{Contains-append_cases, Contains-append_left, Contains-append_right}
use Rattle.edge_traits.specs.declared.port.Event.{Event}
use Rattle.edge_traits.specs.declared.port.Event.TheVariants.{Took, Silence, Sent}
use Rattle.giving.specs.Gives.{sent_events}
use Rattle.net_addr.specs.declared.addr.Addr.{Addr}
use Rattle.server_core.specs.declared.op.Op.{Op}
use Rattle.server_core.specs.Books.{BookParts}
use Rattle.server_core.specs.Histories.{state_after_all}
use Rattle.server_core.specs.States.{ServerState}
use Rattle.shared_book.specs.declared.common.Common.{Common}
use Rattle.wire.specs.declared.wire.WireEvent.{WireEvent}
use Rattle.wire.specs.declared.wire.WireEvent.TheVariants.{Client, Worker}
use Rattle.wire.specs.Wires.{AreCarried, client_events, worker_events}
use Rattle.worker.specs.declared.act.Act.{Act}
use Rattle.worker.specs.Acts.{AreActs, Climbs, place_in, places_of}
use Rattle.worker.specs.Doings.{heard}
use Rattle.worker.proofs.ActLemmas.{AreActs-longer, AreActs-then}
use Rattle.worker.proofs.AddingLemmas.{Climbs-then}
use Rattle.shared_book.proofs.EntryLemmas.{prefix_length}
use Rattle.drawn_link.specs.declared.serving.Service.{Service}
use Rattle.drawn_link.specs.Links.{WasSent, fate_of, placed, queue_after, state_after}
use Rattle.drawn_link.specs.Services.{AreServices, IsService, acts_of, grams_in, service_events}
use Rattle.drawn_link.proofs.GoingLemmas.{front-Runs, reached-Runs}
use Rattle.drawn_link.proofs.ServiceLemmas.{Runs-AreServices}

-- the events of the client's port, as the wire grows
pub client_events-then : (xs ys : List WireEvent) → client_events (xs ++ ys) ≡ client_events xs ++ client_events ys
client_events-then [] ys = refl
client_events-then (Client event ∷ xs) ys = ap (λ (events : List Event). event ∷ events) (client_events-then xs ys)
client_events-then (Worker event ∷ xs) ys = client_events-then xs ys

-- and of the worker's
pub worker_events-then : (xs ys : List WireEvent) → worker_events (xs ++ ys) ≡ worker_events xs ++ worker_events ys
worker_events-then [] ys = refl
worker_events-then (Client event ∷ xs) ys = worker_events-then xs ys
worker_events-then (Worker event ∷ xs) ys = ap (λ (events : List Event). event ∷ events) (worker_events-then xs ys)

-- gives of the worker
client-sent : (to : Addr) (grams : List (List ℕ)) (rest : List WireEvent) → client_events (map (λ gram. Worker (Sent to gram)) grams ++ rest) ≡ client_events rest
client-sent to [] rest = refl
client-sent to (gram ∷ grams) rest = client-sent to grams rest

worker-sent : (to : Addr) (grams : List (List ℕ)) (rest : List WireEvent) → worker_events (map (λ gram. Worker (Sent to gram)) grams ++ rest) ≡ sent_events to grams ++ worker_events rest
worker-sent to [] rest = refl
worker-sent to (gram ∷ grams) rest = ap (λ (events : List Event). Sent to gram ∷ events) (worker-sent to grams rest)

-- a service is nothing at the client's port
pub client-services : (from : Addr) (octets : List ℕ) (services : List Service) → client_events (service_events from octets services) ≡ []
client-services from octets [] = refl
client-services from octets (service ∷ services) = client-sent from service.grams (service_events from octets services) ∙ client-services from octets services

-- what happened so far, newest first, after these events
abbrev pub behind : List WireEvent → List WireEvent → List WireEvent
behind before [] = before
behind before (event ∷ events) = behind (event ∷ before) events

behind-before : (before events : List WireEvent) (it : WireEvent) → Contains before it → Contains (behind before events) it
behind-before before [] it has = has
behind-before before (event ∷ events) it has = behind-before (event ∷ before) events it (Contains-append_right (event ∷ []) before it has)

-- what is one of them happened so far
pub behind-has : (before events : List WireEvent) (it : WireEvent) → Contains events it → Contains (behind before events) it
behind-has before [] it has = absurd (omega (arith, has.1))
behind-has before (event ∷ events) it has =
    by_case (Contains-append_cases (event ∷ []) events it has) (λ later. behind-has (event ∷ before) events it later)
  where
    by_case : Contains (event ∷ []) it ⊎ Contains events it → (Contains events it → Contains (behind (event ∷ before) events) it) → Contains (behind (event ∷ before) events) it
    by_case (inl here) rest = behind-before (event ∷ before) events it (Contains-append_left (event ∷ []) before it here)
    by_case (inr later) rest = rest later

-- what is carried over a wire, and then over more of it
pub AreCarried-then : (server client : Addr) (before xs ys : List WireEvent) → AreCarried server client before xs → AreCarried server client (behind before xs) ys → AreCarried server client before (xs ++ ys)
AreCarried-then server client before [] ys first second = second
AreCarried-then server client before (Client (Took from octets) ∷ xs) ys first second = (first.0, AreCarried-then server client (Client (Took from octets) ∷ before) xs ys first.1 second)
AreCarried-then server client before (Client Silence ∷ xs) ys first second = AreCarried-then server client (Client Silence ∷ before) xs ys first second
AreCarried-then server client before (Client (Sent to octets) ∷ xs) ys first second = AreCarried-then server client (Client (Sent to octets) ∷ before) xs ys first second
AreCarried-then server client before (Worker (Took from octets) ∷ xs) ys first second = (first.0, AreCarried-then server client (Worker (Took from octets) ∷ before) xs ys first.1 second)
AreCarried-then server client before (Worker Silence ∷ xs) ys first second = AreCarried-then server client (Worker Silence ∷ before) xs ys first second
AreCarried-then server client before (Worker (Sent to octets) ∷ xs) ys first second = AreCarried-then server client (Worker (Sent to octets) ∷ before) xs ys first second

-- gives of the worker, and what comes behind them
carried-sent : (server client to : Addr) (it : WireEvent) (before : List WireEvent) (grams : List (List ℕ)) (rest : List WireEvent)
    → ((more : List WireEvent) → Contains more it → AreCarried server client more rest) → Contains before it → AreCarried server client before (map (λ gram. Worker (Sent to gram)) grams ++ rest)
carried-sent server client to it before [] rest later has = later before has
carried-sent server client to it before (gram ∷ grams) rest later has =
    carried-sent server client to it (Worker (Sent to gram) ∷ before) grams rest later (Contains-append_right (Worker (Sent to gram) ∷ []) before it has)

-- services of a datagram that the client had sent
pub carried-services : (server client : Addr) (octets : List ℕ) (services : List Service) (before : List WireEvent) → Contains before (Client (Sent server octets)) → AreCarried server client before (service_events client octets services)
carried-services server client octets [] before has = tt
carried-services server client octets (service ∷ services) before has = (
  λ same. has,
  carried-sent server client client (Client (Sent server octets)) (Worker (Took client octets) ∷ before) service.grams (service_events client octets services)
      (λ more there. carried-services server client octets services more there)
      (Contains-append_right (Worker (Took client octets) ∷ []) before (Client (Sent server octets)) has),
)

-- what is so of each is so of each of both
all-then : (P : List ℕ → Type 0) (xs ys : List (List ℕ)) → AllByRecursion P xs → AllByRecursion P ys → AllByRecursion P (xs ++ ys)
all-then P [] ys first second = second
all-then P (x ∷ xs) ys first second = (first.0, all-then P xs ys first.1 second)

pub all-weaker : (P Q : List ℕ → Type 0) (xs : List (List ℕ)) → ((x : List ℕ) → P x → Q x) → AllByRecursion P xs → AllByRecursion Q xs
all-weaker P Q [] weaker all = tt
all-weaker P Q (x ∷ xs) weaker all = (weaker x all.0, all-weaker P Q xs weaker all.1)

-- each of these gives stands among them
sent-among : (to : Addr) (grams : List (List ℕ)) → AllByRecursion (λ gram. Contains (map (λ (it : List ℕ). Worker (Sent to it)) grams) (Worker (Sent to gram))) grams
sent-among to [] = tt
sent-among to (gram ∷ grams) = (
  Contains-append_left (Worker (Sent to gram) ∷ []) (map (λ (it : List ℕ). Worker (Sent to it)) grams) (Worker (Sent to gram)) (0, omega arith, refl),
  all-weaker _ _ grams (λ it has. Contains-append_right (Worker (Sent to gram) ∷ []) (map (λ (one : List ℕ). Worker (Sent to one)) grams) (Worker (Sent to it)) has) (sent-among to grams),
)

-- each datagram of an answer was sent
pub sent-services : (client : Addr) (octets : List ℕ) (services : List Service) → AllByRecursion (WasSent client (service_events client octets services)) (grams_in services)
sent-services client octets [] = tt
sent-services client octets (service ∷ services) =
    let sent = map (λ (it : List ℕ). Worker (Sent client it)) service.grams in
    let rest = service_events client octets services in
    all-then (WasSent client (Worker (Took client octets) ∷ (sent ++ rest))) service.grams (grams_in services)
    (all-weaker _ _ service.grams (λ gram has. Contains-append_right (Worker (Took client octets) ∷ []) (sent ++ rest) (Worker (Sent client gram)) (Contains-append_left sent rest (Worker (Sent client gram)) has)) (sent-among client service.grams))
    (all-weaker _ _ (grams_in services) (λ gram has. Contains-append_right (Worker (Took client octets) ∷ []) (sent ++ rest) (Worker (Sent client gram)) (Contains-append_right sent rest (Worker (Sent client gram)) has)) (sent-services client octets services))

-- what is so of each datagram in a queue and of one that comes to it
all-placed : (P : List ℕ → Type 0) (fate : ℕ) (gram : List ℕ) (queue : List (List ℕ)) → P gram → AllByRecursion P queue → AllByRecursion P (placed fate gram queue)
all-placed P fate gram queue is all =
    cond_both (fate == 0) queue _ (AllByRecursion P) (λ _. all)
    (λ _. cond_both (fate == 1) (queue ++ gram ∷ gram ∷ []) _ (AllByRecursion P) (λ _. all-then P queue (gram ∷ gram ∷ []) all (is, (is, tt)))
    (λ _. cond_both (fate == 2) (gram ∷ queue) _ (AllByRecursion P) (λ _. (is, all)) (λ _. all-then P queue (gram ∷ []) all (is, tt))))

-- what is so of each datagram in a queue and of each that comes to it is so of each afterwards
pub all-queued : (P : List ℕ → Type 0) (is_drawn : Bool) (x : ℕ) (grams queue : List (List ℕ)) → AllByRecursion P grams → AllByRecursion P queue → AllByRecursion P (queue_after is_drawn x grams queue)
all-queued P is_drawn x [] queue come all = all
all-queued P is_drawn x (gram ∷ grams) queue come all = all-queued P is_drawn (state_after is_drawn x) grams (placed (fate_of is_drawn x) gram queue) come.1 (all-placed P (fate_of is_drawn x) gram queue come.0 all)

-- one act and what it tells
one-act : (common : Common) (opening : ServerState) (from : Addr) (octets : List ℕ) (old new : BookParts) (service : Service) → IsService common from octets old service new → old.state ≡ state_after_all opening old.journal
    → AreActs common opening new.journal (service.act ∷ []) (Took from octets ∷ sent_events from service.grams)
one-act common opening from octets old new service is reached =
    let all : take service.act.given service.grams ≡ service.grams = take_all service.act.given service.grams (omega (arith, is.whole)) in (
      octets,
      service.grams,
      [],
      (is.becomes opening reached).0,
      (λ i. Took (sym is.from_is i) octets ∷ sent_events (sym is.from_is i) (sym all i))
          ∙ ap (λ (events : List Event). Took service.act.from octets ∷ events) (sym (append-nil (sent_events service.act.from (take service.act.given service.grams)))),
      refl,
    )

-- the acts of services tell what happened at the worker's port
pub AreActs-services : (common : Common) (opening : ServerState) (from : Addr) (octets : List ℕ) (old : BookParts) (services : List Service) (new : BookParts) → AreServices common from octets old services new → old.state ≡ state_after_all opening old.journal
    → AreActs common opening new.journal (acts_of services) (worker_events (service_events from octets services))
AreActs-services common opening from octets old [] new runs reached = refl
AreActs-services common opening from octets old (service ∷ services) new (next, is, rest) reached =
    subst (AreActs common opening new.journal (service.act ∷ acts_of services)) (sym (ap (λ (events : List Event). Took from octets ∷ events) (worker-sent from service.grams (service_events from octets services))))
    (AreActs-then common opening new.journal (service.act ∷ []) (acts_of services) (Took from octets ∷ sent_events from service.grams) (worker_events (service_events from octets services))
    (AreActs-longer common opening next.journal new.journal (service.act ∷ []) (Took from octets ∷ sent_events from service.grams) (front-Runs next new (Runs-AreServices common from octets next services new rest)) (one-act common opening from octets old next service is reached))
    (AreActs-services common opening from octets next services new rest (reached-Runs opening old next is.runs reached)))

-- and name later places one after another
pub Climbs-services : (common : Common) (opening : ServerState) (from : Addr) (octets : List ℕ) (old : BookParts) (services : List Service) (new : BookParts) → AreServices common from octets old services new → old.state ≡ state_after_all opening old.journal
    → Climbs (length old.journal) (places_of (acts_of services)) (length new.journal)
Climbs-services common opening from octets old [] new runs reached = prefix_length old.journal new.journal (front-Runs old new runs)
Climbs-services common opening from octets old (service ∷ services) new (next, is, rest) reached =
    Climbs-then (length old.journal) (length next.journal) (length new.journal) (place_in service.act.kind) (places_of (acts_of services)) (is.becomes opening reached).1
    (Climbs-services common opening from octets next services new rest (reached-Runs opening old next is.runs reached))

-- gives are heard, and what is heard behind them
sent-heard : (to : Addr) (grams : List (List ℕ)) (rest : List Event) → heard rest ≡ rest → heard (sent_events to grams ++ rest) ≡ sent_events to grams ++ rest
sent-heard to [] rest same = same
sent-heard to (gram ∷ grams) rest same = ap (λ (events : List Event). Sent to gram ∷ events) (sent-heard to grams rest same)

-- what acts tell has no silence
pub heard-AreActs : (common : Common) (opening : ServerState) (history : List Op) (acts : List Act) (told : List Event) → AreActs common opening history acts told → heard told ≡ told
heard-AreActs common opening history [] told none = subst (λ (events : List Event). heard events ≡ events) (sym none) refl
heard-AreActs common opening history (act ∷ acts) told are =
    subst (λ (events : List Event). heard events ≡ events) (sym are.4)
    (ap (λ (events : List Event). Took act.from are.0 ∷ events) (sent-heard act.from (take act.given are.1) are.2 (heard-AreActs common opening history acts are.2 are.5)))
