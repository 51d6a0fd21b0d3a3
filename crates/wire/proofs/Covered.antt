-- A listing of a session, over an honest wire to one of its workers, covers.
use Rattle.std.proofs.Common.{◌≡◌, ℕ, zero, suc, None, List, [], ◌∷◌, sym, subst}
use Rattle.std.specs.List.{AllByRecursion}
use Rattle.edge_traits.specs.declared.port.Event.{Event}
use Rattle.list_telling.specs.Histories.{IsServersHistory, telling_of}
use Rattle.list_telling.proofs.Told.{answer-told, server-tells}
use Rattle.mru_items.specs.declared.query.Query.{Query}
use Rattle.mru_items.specs.Queries.{IsQuery}
use Rattle.mrulist_coverage.specs.Coverage.{IsCoveredListing}
use Rattle.mrulist_coverage.proofs.LowerFacts.{lower-laws}
use Rattle.mrulist_coverage.proofs.RunLemmas.{covered-listing}
use Rattle.mrulist_reader.specs.Readers.{listing_dialogue, new_reader}
use Rattle.net_addr.specs.declared.addr.Addr.{Addr}
use Rattle.ntpq_client.specs.Dialogues.{Follows, after_all, ready}
use Rattle.ntpq_client.specs.Talks.{new_talk}
use Rattle.responders.specs.Parts.{IsPart, Part}
use Rattle.server_core.specs.declared.op.Op.{Op}
use Rattle.server_core.specs.States.{ServerState}
use Rattle.shared_book.specs.declared.common.Common.{Common}
use Rattle.wire.specs.Placing.{places_in}
use Rattle.wire.specs.Sessions.{HappenedAt}
use Rattle.wire.specs.Wires.{AreCarried, IsWorkers, client_events, worker_events}
use Rattle.wire.specs.declared.wire.WireEvent.{WireEvent}
use Rattle.wire.proofs.Listings.{listing-sends}
use Rattle.wire.proofs.Parts.{workers-part}
use Rattle.wire.proofs.Walks.{wire-told}

-- a part of the session whose events these are
record IsPartOf (common : Common) (opening : ServerState) (history : List Op) (part : Part) (events : List Event) : Type 0 where
  is : IsPart common opening history part
  happened : is.did.events ≡ events

part-same : (common : Common) (opening : ServerState) (history : List Op) (one part : Part) (events : List Event) → part ≡ one → IsPartOf common opening history one events → IsPartOf common opening history part events
part-same common opening history one part events same its = subst (λ (p : Part). IsPartOf common opening history p events) (sym same) its

-- the part of a number
part-at : (common : Common) (opening : ServerState) (history : List Op) (number : ℕ) (parts : List Part) (worked : AllByRecursion (IsPart common opening history) parts) (part : Part) (events : List Event)
    → HappenedAt common opening history number parts worked part events → IsPartOf common opening history part events
part-at common opening history number [] worked part events happened = absurd happened
part-at common opening history zero (first ∷ parts) worked part events (same, happened) =
    part-same common opening history first part events same (record { is = worked.0; happened = happened })
part-at common opening history (suc number) (first ∷ parts) worked part events happened =
    part-at common opening history number parts worked.1 part events happened

-- its worker is that of a wire
pub workers-at : (common : Common) (opening : ServerState) (history : List Op) (number : ℕ) (parts : List Part) (worked : AllByRecursion (IsPart common opening history) parts) (part : Part) (wire : List WireEvent)
    → part.before.carry ≡ None → HappenedAt common opening history number parts worked part (worker_events wire) → IsWorkers common opening history part.after.acts wire
workers-at common opening history number parts worked part wire none happened =
    let its = part-at common opening history number parts worked part (worker_events wire) happened in
    workers-part common opening history part wire its.is none its.happened

-- a listing over an honest wire to a worker of a server's history is a covered one
pub listing-covered : (common : Common) (opening : ServerState) (history : List Op) (server client : Addr) (query : Query) (part : Part) (wire : List WireEvent)
    → IsServersHistory opening history → common.origin ≡ opening.origin → IsWorkers common opening history part.after.acts wire → AreCarried server client [] wire → IsQuery query
    → Follows listing_dialogue (ready (new_talk server) (new_reader query)) (client_events wire)
    → IsCoveredListing (telling_of common.salt client.ip opening history) (places_in client part.after.acts wire) query
    (after_all listing_dialogue (client_events wire) (ready (new_talk server) (new_reader query))).plan
listing-covered common opening history server client query part wire is origin workers carried is_query follows =
    let listing = listing-sends server query opening.origin.0 (client_events wire) is_query is.origin follows in
    let told = wire-told answer-told common opening history server client is origin part.after.acts wire workers (record { carried = carried; listing = listing }) in
    covered-listing lower-laws (telling_of common.salt client.ip opening history) (new_talk server) query (client_events wire) (places_in client part.after.acts wire)
    (server-tells common.salt client.ip opening history is) is_query follows told
