-- A link between two calls, as it goes on.
use Rattle.std.proofs.Common.{◌≡◌, ℕ, Bool, true, false, List, [], ◌∷◌, ◌++◌, length, refl, sym, ap, subst, ◌∙◌, arith}
use Rattle.std.specs.Prelude.{Contains}
use Rattle.std.specs.List.{AllByRecursion}
use Rattle.std.proofs.lemmas.List.{append-nil}
use Rattle.std.proofs.lemmas.List.Elements.{Contains-append_left, Contains-append_right}
use Rattle.edge_traits.specs.declared.port.Event.{Event}
use Rattle.edge_traits.specs.declared.port.Event.TheVariants.{Took, Silence, Sent}
use Rattle.net_addr.specs.declared.addr.Addr.{Addr}
use Rattle.server_core.specs.Books.{BookParts}
use Rattle.server_core.specs.Histories.{state_after_all}
use Rattle.shared_book.specs.declared.common.Common.{Common}
use Rattle.shared_book.proofs.EntryLemmas.{prefix_length, prefix_trans}
use Rattle.wire.specs.declared.wire.WireEvent.{WireEvent}
use Rattle.wire.specs.declared.wire.WireEvent.TheVariants.{Client, Worker}
use Rattle.wire.specs.Wires.{AreCarried, client_events, worker_events}
use Rattle.worker.specs.declared.act.Act.{Act}
use Rattle.worker.specs.Acts.{AreActs, Climbs, place_in, places_of}
use Rattle.worker.proofs.ActLemmas.{AreActs-longer, AreActs-then}
use Rattle.worker.proofs.AddingLemmas.{Climbs-then}
use Rattle.std.proofs.lemmas.Grind.{flat_map-append}
use Rattle.drawn_link.specs.declared.serving.Service.{Service}
use Rattle.drawn_link.specs.Arrivals.{first_arrivals}
use Rattle.draws.specs.declared.clients.TheConstants.{CLIENTS}
use Rattle.drawn_link.specs.Links.{IsDrawn, WasSent, queue_after}
use Rattle.drawn_link.specs.Services.{IsGiven, Runs, acts_of, grams_in, service_events}
use Rattle.drawn_link.proofs.GoingLemmas.{Runs-then, front-Runs, legal-Runs, reached-Runs}
use Rattle.drawn_link.proofs.ServiceLemmas.{Runs-AreServices}
use Rattle.drawn_link.proofs.WireLemmas.{AreActs-services, AreCarried-then, Climbs-services, all-queued, all-weaker, behind, behind-has, carried-services, client-services, client_events-then, sent-services, worker_events-then}

-- places that climb to one length climb to a greater one
Climbs-higher : (low mid high : ℕ) (places : List ℕ) → Climbs low places mid → Climbs mid [] high → Climbs low places high
Climbs-higher low mid high places first second = subst (λ (these : List ℕ). Climbs low these high) (append-nil places) (Climbs-then low mid high places [] first second)

-- its server goes on
pub IsDrawn-runs : (common : Common) (server client : Addr) (old new : BookParts) (acts : List Act) (log : List WireEvent) (queue : List (List ℕ)) → Runs old new → IsDrawn common server client old acts log queue → IsDrawn common server client new acts log queue
IsDrawn-runs common server client old new acts log queue runs is = record {
  opening = is.opening;
  opens = is.opens;
  server_is = is.server_is;
  client_is = is.client_is;
  salt_is = is.salt_is;
  origin = is.origin;
  reached = reached-Runs is.opening old new runs is.reached;
  legal = legal-Runs is.opening old new runs is.reached is.legal;
  begins = prefix_trans (first_arrivals CLIENTS) old.journal new.journal is.begins (front-Runs old new runs);
  answered = AreActs-longer common is.opening old.journal new.journal acts (worker_events log) (front-Runs old new runs) is.answered;
  climb = Climbs-higher 0 (length old.journal) (length new.journal) (places_of acts) is.climb (prefix_length old.journal new.journal (front-Runs old new runs));
  carried = is.carried;
  queued = is.queued;
}

-- what was sent was sent on a longer wire
sent-longer : (client : Addr) (log more : List WireEvent) (queue : List (List ℕ)) → AllByRecursion (WasSent client log) queue → AllByRecursion (WasSent client (log ++ more)) queue
sent-longer client log more queue all = all-weaker (WasSent client log) (WasSent client (log ++ more)) queue (λ octets has. Contains-append_left log more (Worker (Sent client octets)) has) all

-- the client's end has one event more, and the queue these datagrams left
one-more : (common : Common) (server client : Addr) (book : BookParts) (acts : List Act) (log : List WireEvent) (queue left : List (List ℕ)) (event : Event) → AreCarried server client (behind [] log) (Client event ∷ [])
    → AllByRecursion (WasSent client log) left → IsDrawn common server client book acts log queue → IsDrawn common server client book acts (log ++ Client event ∷ []) left
one-more common server client book acts log queue left event one few is = record {
  opening = is.opening;
  opens = is.opens;
  server_is = is.server_is;
  client_is = is.client_is;
  salt_is = is.salt_is;
  origin = is.origin;
  reached = is.reached;
  legal = is.legal;
  begins = is.begins;
  answered = subst (AreActs common is.opening book.journal acts) (sym (worker_events-then log (Client event ∷ []) ∙ append-nil (worker_events log))) is.answered;
  climb = is.climb;
  carried = AreCarried-then server client [] log (Client event ∷ []) is.carried one;
  queued = sent-longer client log (Client event ∷ []) left few;
}

-- a take finds nothing
pub IsDrawn-silence : (common : Common) (server client : Addr) (book : BookParts) (acts : List Act) (log longer : List WireEvent) (queue left : List (List ℕ)) → queue ≡ left → longer ≡ log ++ Client Silence ∷ []
    → IsDrawn common server client book acts log queue → IsDrawn common server client book acts longer left
IsDrawn-silence common server client book acts log longer queue left same told is =
    subst (λ (wire : List WireEvent). IsDrawn common server client book acts wire left) (sym told)
    (one-more common server client book acts log queue left Silence tt (subst (AllByRecursion (WasSent client log)) same is.queued) is)

-- a take finds the front of the queue
pub IsDrawn-took : (common : Common) (server client : Addr) (book : BookParts) (acts : List Act) (log longer : List WireEvent) (queue left : List (List ℕ)) (octets : List ℕ) → queue ≡ octets ∷ left → longer ≡ log ++ Client (Took server octets) ∷ []
    → IsDrawn common server client book acts log queue → IsDrawn common server client book acts longer left
IsDrawn-took common server client book acts log longer queue left octets same told is =
    let all : AllByRecursion (WasSent client log) (octets ∷ left) = subst (AllByRecursion (WasSent client log)) same is.queued in
    subst (λ (wire : List WireEvent). IsDrawn common server client book acts wire left) (sym told)
    (one-more common server client book acts log queue left (Took server octets) (λ _. behind-has [] log (Worker (Sent client octets)) all.0, tt) all.1 is)

-- a give is served
pub IsDrawn-given : (common : Common) (server client to : Addr) (octets : List ℕ) (is_served is_drawn : Bool) (x : ℕ) (old new : BookParts) (services : List Service) (acts acts' : List Act) (log log' : List WireEvent) (queue queue' : List (List ℕ))
    → (is_served ≡ true → to ≡ server) → IsGiven common client octets is_served old services new
    → acts' ≡ acts ++ acts_of services → log' ≡ log ++ Client (Sent to octets) ∷ service_events client octets services → queue' ≡ queue_after is_drawn x (grams_in services) queue
    → IsDrawn common server client old acts log queue → IsDrawn common server client new acts' log' queue'
IsDrawn-given common server client to octets is_served is_drawn x old new services acts acts' log log' queue queue' served given acts_are log_is queue_is is = record {
  opening = is.opening;
  opens = is.opens;
  server_is = is.server_is;
  client_is = is.client_is;
  salt_is = is.salt_is;
  origin = is.origin;
  reached = reached-Runs is.opening old new runs is.reached;
  legal = legal-Runs is.opening old new runs is.reached is.legal;
  begins = prefix_trans (first_arrivals CLIENTS) old.journal new.journal is.begins (front-Runs old new runs);
  answered = subst (λ (these : List Act). AreActs common is.opening new.journal these (worker_events log')) (sym acts_are)
      (subst (AreActs common is.opening new.journal (acts ++ acts_of services)) (sym (ap worker_events log_is ∙ worker_events-then log (Client (Sent to octets) ∷ service_events client octets services)))
      (AreActs-then common is.opening new.journal acts (acts_of services) (worker_events log) (worker_events (service_events client octets services))
      (AreActs-longer common is.opening old.journal new.journal acts (worker_events log) (front-Runs old new runs) is.answered)
      (AreActs-services common is.opening client octets given.between services new given.are reached)));
  climb = subst (λ (these : List Act). Climbs 0 (places_of these) (length new.journal)) (sym acts_are)
      (subst (λ (places : List ℕ). Climbs 0 places (length new.journal)) (sym (flat_map-append (λ (act : Act). place_in act.kind) acts (acts_of services)))
      (Climbs-then 0 (length given.between.journal) (length new.journal) (places_of acts) (places_of (acts_of services))
      (Climbs-higher 0 (length old.journal) (length given.between.journal) (places_of acts) is.climb (prefix_length old.journal given.between.journal (front-Runs old given.between given.runs)))
      (Climbs-services common is.opening client octets given.between services new given.are reached)));
  carried = subst (AreCarried server client []) (sym log_is) (AreCarried-then server client [] log (Client (Sent to octets) ∷ service_events client octets services) is.carried (by_served is_served refl));
  queued = subst (AllByRecursion (WasSent client log')) (sym queue_is)
      (all-queued (WasSent client log') is_drawn x (grams_in services) queue
      (subst (λ (wire : List WireEvent). AllByRecursion (WasSent client wire) (grams_in services)) (sym log_is)
      (all-weaker (WasSent client (service_events client octets services)) (WasSent client (log ++ Client (Sent to octets) ∷ service_events client octets services)) (grams_in services)
      (λ gram has. Contains-append_right log (Client (Sent to octets) ∷ service_events client octets services) (Worker (Sent client gram)) (Contains-append_right (Client (Sent to octets) ∷ []) (service_events client octets services) (Worker (Sent client gram)) has))
      (sent-services client octets services)))
      (subst (λ (wire : List WireEvent). AllByRecursion (WasSent client wire) queue) (sym log_is) (sent-longer client log (Client (Sent to octets) ∷ service_events client octets services) queue is.queued)));
} where
  runs : Runs old new
  runs = Runs-then old given.between new given.runs (Runs-AreServices common client octets given.between services new given.are)

  reached : given.between.state ≡ state_after_all is.opening given.between.journal
  reached = reached-Runs is.opening old given.between given.runs is.reached

  here : (it : Addr) → it ≡ server → Contains (Client (Sent it octets) ∷ behind [] log) (Client (Sent server octets))
  here it same = subst (λ (one : Addr). Contains (Client (Sent one octets) ∷ behind [] log) (Client (Sent server octets))) (sym same)
      (Contains-append_left (Client (Sent server octets) ∷ []) (behind [] log) (Client (Sent server octets)) (0, omega arith, refl))

  by_served : (it : Bool) → is_served ≡ it → AreCarried server client (Client (Sent to octets) ∷ behind [] log) (service_events client octets services)
  by_served true same = carried-services server client octets services (Client (Sent to octets) ∷ behind [] log) (here to (served same))
  by_served false same = subst (λ (none : List Service). AreCarried server client (Client (Sent to octets) ∷ behind [] log) (service_events client octets none)) (sym (given.none same)) tt

-- what the client's end tells of a give
pub told-given : (log log' : List WireEvent) (to from : Addr) (octets : List ℕ) (services : List Service) → log' ≡ log ++ Client (Sent to octets) ∷ service_events from octets services → client_events log' ≡ client_events log ++ Sent to octets ∷ []
told-given log log' to from octets services log_is =
    ap client_events log_is ∙ client_events-then log (Client (Sent to octets) ∷ service_events from octets services)
    ∙ ap (λ (events : List Event). client_events log ++ Sent to octets ∷ events) (client-services from octets services)

-- what it tells of a take
pub told-one : (log log' : List WireEvent) (event : Event) → log' ≡ log ++ Client event ∷ [] → client_events log' ≡ client_events log ++ event ∷ []
told-one log log' event log_is = ap client_events log_is ∙ client_events-then log (Client event ∷ [])

-- it is the same by its parts
pub IsDrawn-same : (common : Common) (server client : Addr) (book book' : BookParts) (acts acts' : List Act) (log log' : List WireEvent) (queue queue' : List (List ℕ)) → book' ≡ book → acts' ≡ acts → log' ≡ log → queue' ≡ queue
    → IsDrawn common server client book acts log queue → IsDrawn common server client book' acts' log' queue'
IsDrawn-same common server client book book' acts acts' log log' queue queue' same_book same_acts same_log same_queue is =
    subst (λ (it : BookParts). IsDrawn common server client it acts' log' queue') (sym same_book)
    (subst (λ (it : List Act). IsDrawn common server client book it log' queue') (sym same_acts)
    (subst (λ (it : List WireEvent). IsDrawn common server client book acts it queue') (sym same_log)
    (subst (λ (it : List (List ℕ)). IsDrawn common server client book acts log it) (sym same_queue) is)))
