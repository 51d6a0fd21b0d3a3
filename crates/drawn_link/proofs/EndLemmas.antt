-- What a listing over a link came to.
use Rattle.std.proofs.Common.{◌≡◌, ℕ, ◌+◌, ◌<◌, ◌≤◌, ◌^◌, Option, Some, Result, Ok, Err, List, [], ◌∷◌, ◌++◌, length, inl, inr, sym, subst, ◌∙◌, arith}
use Rattle.std.specs.List.{AllByRecursion, count_by}
use Rattle.std.proofs.lemmas.List.{append-nil}
use Rattle.std.proofs.lemmas.List.Elements.{recursion_from_All}
use Rattle.access_rules.specs.declared.rules.Rule.{Rule}
use Rattle.edge_traits.specs.declared.port.Event.{Event}
use Rattle.edge_traits.specs.declared.port.Event.TheVariants.{Took, Silence, Sent}
use Rattle.list_telling.specs.Histories.{AreTellableOps, HaveFlags, IsServersHistory, telling_of}
use Rattle.list_telling.proofs.Told.{answer-told, server-tells}
use Rattle.mru_items.specs.declared.query.Query.{Query}
use Rattle.mru_items.specs.Queries.{IsQuery}
use Rattle.mru_read.specs.Pages.{IsTellableRow}
use Rattle.mrulist_coverage.specs.Coverage.{CoversLast}
use Rattle.mrulist_coverage.specs.Tellings.{IsTelling, IsToldFrom, Telling, nothing_known}
use Rattle.mrulist_reader.specs.declared.listing.Listing.{Listing}
use Rattle.mrulist_reader.specs.Readers.{listing_dialogue, new_reader}
use Rattle.mrulist_run.specs.declared.fault.RunFault.{RunFault}
use Rattle.mrulist_run.specs.declared.fault.RunFault.TheVariants.{Ask, BadReply, NoMemory}
use Rattle.mrulist_run.specs.Runs.{IsCovering, RunMisses}
use Rattle.net_addr.specs.declared.addr.Addr.{Addr}
use Rattle.ntpq_client.specs.declared.fault.AskFault.TheVariants as Fault
use Rattle.ntpq_client.specs.Dialogues.{Follows, ready}
use Rattle.ntpq_client.specs.Ends.{MissesOne}
use Rattle.ntpq_client.specs.Talks.{new_talk}
use Rattle.recency.specs.declared.row.Row.{Row}
use Rattle.recency.specs.Rows.{AreUpTo, IsDistinct, IsRising, IsRow}
use Rattle.edge_traits.specs.declared.salt.Salt.{Salt}
use Rattle.server_core.specs.declared.op.Op.{Op}
use Rattle.server_core.specs.Histories.{IsLegal}
use Rattle.server_core.specs.Moves.{HaveMoments}
use Rattle.server_core.specs.States.{ServerState}
use Rattle.shared_book.specs.declared.common.Common.{Common}
use Rattle.sys_vars.specs.declared.published.Record.{Record}
use Rattle.wire.specs.declared.wire.WireEvent.{WireEvent}
use Rattle.wire.specs.Placing.{places_in}
use Rattle.wire.specs.Wires.{AreListing, IsHonest, IsWorkers, client_events, worker_events}
use Rattle.wire.proofs.Listings.{listing-sends}
use Rattle.wire.proofs.Walks.{wire-told}
use Rattle.worker.specs.declared.act.Act.{Act}
use Rattle.worker.specs.Acts.{AreActs, Climbs, places_of}
use Rattle.drawn_link.specs.Links.{IsDrawn, IsOpeningState}
use Rattle.drawn_link.specs.Runs.{IsEnded, IsListed, is_sent, listing_query}
use Rattle.drawn_link.specs.declared.run.LinkEnd.{LinkEnd}
use Rattle.drawn_link.specs.declared.link.TheConstants.{HERE, SALT}
use Rattle.drawn_link.proofs.WireLemmas.{heard-AreActs}

-- what a client sends that lists the clients of a server
AreListings : Type 0
AreListings = (server : Addr) (query : Query) (origin : ℕ) (events : List Event) → IsQuery query → origin < 2 ^ 64 → Follows listing_dialogue (ready (new_talk server) (new_reader query)) events → AreListing server origin 0 events

-- the rules of an opening record have flags of 16 bits
no-flags : (rules : List Rule) → AllByRecursion (λ rule. rule.flags ≡ 0) rules → HaveFlags rules
no-flags [] none = tt
no-flags (rule ∷ rules) none = (omega (arith, none.0), no-flags rules none.1)

-- the opening state of a link, and what its server took, are a history
history-of : (opening : ServerState) (ops : List Op) → IsOpeningState opening → IsLegal opening ops → HaveMoments ops → AreTellableOps ops → IsServersHistory opening ops
history-of opening ops is legal moments tellable = record {
  list = record {
    kept = record {
      distinct = subst IsDistinct (sym is.rows) tt;
      rising = subst IsRising (sym is.rows) tt;
      each = subst (AllByRecursion IsRow) (sym is.rows) tt;
      depth = subst (λ (rows : List Row). length rows ≤ opening.limits.maxdepth) (sym is.rows) (omega arith);
    };
    up_to = subst (AreUpTo opening.stamp) (sym is.rows) tt;
  };
  rows = subst (AllByRecursion IsTellableRow) (sym is.rows) tt;
  flags = subst (λ (rec : Record). HaveFlags rec.rules) (sym is.published.2) (no-flags is.published.0 (recursion_from_All (λ rule. rule.flags ≡ 0) is.published.0 is.published.1.no_flags));
  stamp = omega (arith, is.stamp);
  origin = omega (arith, is.origin);
  legal = legal;
  moments = moments;
  tellable = tellable;
}

-- the worker of a link is one of its wire
workers-of : (common : Common) (opening : ServerState) (history : List Op) (acts : List Act) (wire : List WireEvent)
    → AreActs common opening history acts (worker_events wire) → Climbs 0 (places_of acts) (length history) → IsWorkers common opening history acts wire
workers-of common opening history acts wire answered climb = record {
  told = worker_events wire;
  carried = [];
  answered = answered;
  heard_are = heard-AreActs common opening history acts (worker_events wire) answered ∙ sym (append-nil (worker_events wire));
  takes = tt;
  climb = climb;
}

-- what a run may miss is one datagram
misses-one : (result : Result Listing RunFault) (reached after : Option (List Event)) → RunMisses result reached after → MissesOne reached after
misses-one (Ok listing) reached after same = inl same
misses-one (Err (BadReply place)) reached after same = inl same
misses-one (Err (Ask (Fault.Refused code))) reached after same = inl same
misses-one (Err (Ask Fault.Port)) reached after same = inl same
misses-one (Err (Ask Fault.Closed)) reached after same = inl same
misses-one (Err (Ask Fault.NoReply)) reached after same = inl same
misses-one (Err (Ask Fault.Incomplete)) reached after same = inl same
misses-one (Err (Ask Fault.Flooded)) reached after same = inl same
misses-one (Err (Ask Fault.NoMemory)) reached after misses = misses
misses-one (Err NoMemory) reached after misses = misses

-- one datagram more is taken
listing-took : (server : Addr) (origin posted : ℕ) (events : List Event) (from : Addr) (octets : List ℕ) → AreListing server origin posted events → AreListing server origin posted (events ++ Took from octets ∷ [])
listing-took server origin posted [] from octets is = is
listing-took server origin posted (Sent to gram ∷ events) from octets is = (is.0, is.1, is.2, is.3, listing-took server origin (posted + 1) events from octets is.4)
listing-took server origin posted (Took whom gram ∷ events) from octets is = listing-took server origin posted events from octets is
listing-took server origin posted (Silence ∷ events) from octets is = listing-took server origin posted events from octets is

-- what the client's end tells is what it tells of a listing
listing-missed : (server : Addr) (origin : ℕ) (events all : List Event) → MissesOne (Some events) (Some all) → AreListing server origin 0 events → AreListing server origin 0 all
listing-missed server origin events all (inl same) is =
    let here : events ≡ all = cc same in
    subst (AreListing server origin 0) here is
listing-missed server origin events all (inr (from, octets, same)) is =
    let here : events ++ Took from octets ∷ [] ≡ all = cc same in
    subst (AreListing server origin 0) here (listing-took server origin 0 events from octets is)

listing-of : AreListings → (listed : Result Listing RunFault) (events : List Event) (origin : ℕ) → IsQuery listing_query → origin < 2 ^ 64 → IsListed listed events → AreListing HERE origin 0 events
unfolding AreListings
listing-of sends listed events origin query below is =
    let run = is.ran in
    let misses : MissesOne (Some run.goes.events) (Some events) = subst (λ (reached : Option (List Event)). MissesOne reached (Some events)) run.goes.gains (misses-one listed run.reached (Some events) run.misses) in
    listing-missed HERE origin run.goes.events events misses (sends HERE listing_query origin run.goes.events query below run.goes.follows)

-- a listing that completed covers
covering : (t : Telling) (places : List (Option ℕ)) (result : Result Listing RunFault) (listing : Listing) → result ≡ Ok listing → IsCovering listing_query t places result → CoversLast t places listing_query.filter listing.rows listing.now
covering t places (Ok one) listing same covers =
    let here : one ≡ listing = cc same in
    subst (λ (it : Listing). CoversLast t places listing_query.filter it.rows it.now) here (covers.1, covers.0, covers.2, covers.3)
covering t places (Err fault) listing same covers = absurd (cc same)

-- where it completed, all that happened reached it
reached-all : (result : Result Listing RunFault) (listing : Listing) (events all : List Event) → result ≡ Ok listing → RunMisses result (Some events) (Some all) → all ≡ events
reached-all (Ok one) listing events all same misses = cc misses
reached-all (Err fault) listing events all same misses = absurd (cc same)

covers-of : (listed : Result Listing RunFault) (events : List Event) (t : Telling) (places : List (Option ℕ)) → IsListed listed events → IsTelling t → IsToldFrom t HERE nothing_known events places
    → (listing : Listing) → listed ≡ Ok listing → CoversLast t places listing_query.filter listing.rows listing.now
covers-of listed events t places is telling told listing same =
    let run = is.ran in
    let all : events ≡ run.goes.events = reached-all listed listing run.goes.events events same (subst (λ (reached : Option (List Event)). RunMisses listed reached (Some events)) run.goes.gains run.misses) in
    covering t places listed listing same (run.covers t places telling (subst (λ (these : List Event). IsToldFrom t HERE nothing_known these places) all told))

-- all of it, where both ends are here
ended-here : AreListings → (end : LinkEnd) (common : Common) (queue : List (List ℕ)) → IsQuery listing_query → IsDrawn common HERE HERE end.book end.acts.items end.wire queue → common.salt ≡ SALT
    → AreTellableOps end.book.journal → HaveMoments end.book.journal → IsListed end.result (client_events end.wire) → end.given ≡ count_by is_sent (client_events end.wire)
    → end.places ≡ places_in HERE end.acts.items end.wire → IsEnded end
ended-here sends end common queue query is salt tellable moments listed requests places_are =
    record {
      opening = is.opening;
      opens = is.opens;
      history = history;
      begins = is.begins;
      ran = listed;
      requests = requests;
      told = told;
      covers = covers-of end.result (client_events end.wire) telling end.places listed (server-tells SALT HERE.ip is.opening end.book.journal history) told;
    }
  where
    telling : Telling
    telling = telling_of SALT HERE.ip is.opening end.book.journal

    history : IsServersHistory is.opening end.book.journal
    history = history-of is.opening end.book.journal is.opens is.legal moments tellable

    honest : IsHonest HERE HERE is.opening.origin.0 end.wire
    honest = record { carried = is.carried; listing = listing-of sends end.result (client_events end.wire) is.opening.origin.0 query history.origin listed }

    told : IsToldFrom telling HERE nothing_known (client_events end.wire) end.places
    told = subst (IsToldFrom telling HERE nothing_known (client_events end.wire)) (sym places_are)
        (subst (λ (it : Salt). IsToldFrom (telling_of it HERE.ip is.opening end.book.journal) HERE nothing_known (client_events end.wire) (places_in HERE end.acts.items end.wire)) salt
        (wire-told answer-told common is.opening end.book.journal HERE HERE history is.origin end.acts.items end.wire
        (workers-of common is.opening end.book.journal end.acts.items end.wire is.answered is.climb) honest))

-- what a client sends that lists the clients of a server
listings-sent : AreListings
unfolding AreListings
listings-sent = listing-sends

-- the query of a link is one
listing-query : IsQuery listing_query
listing-query = record {
  mincount = omega arith;
  mincount_fits = omega arith;
  resall = omega arith;
  resany = omega arith;
  limit = (omega arith, omega arith);
  least = omega arith;
  most = omega arith;
}

-- all of it
pub IsEnded-drawn : (end : LinkEnd) (common : Common) (server client : Addr) (queue : List (List ℕ)) → IsDrawn common server client end.book end.acts.items end.wire queue
    → AreTellableOps end.book.journal → HaveMoments end.book.journal → IsListed end.result (client_events end.wire) → end.given ≡ count_by is_sent (client_events end.wire)
    → end.places ≡ places_in HERE end.acts.items end.wire → IsEnded end
IsEnded-drawn end common server client queue is tellable moments listed requests places_are =
    ended-here listings-sent end common queue listing-query
    (subst (λ (it : Addr). IsDrawn common HERE it end.book end.acts.items end.wire queue) is.client_is
    (subst (λ (it : Addr). IsDrawn common it client end.book end.acts.items end.wire queue) is.server_is is))
    is.salt_is tellable moments listed requests places_are
