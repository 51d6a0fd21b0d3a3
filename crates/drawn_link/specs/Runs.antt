-- A listing over a drawn link: our own words.
use Rattle.std.specs.Prelude.{◌≡◌, Bool, true, false, Some, Result, Ok, List, []}
use Rattle.std.specs.List.{count_by}
use mathlib.Core.List.{IsPrefix}
use Rattle.list_telling.specs.Histories.{IsServersHistory, telling_of}
use Rattle.mru_items.specs.declared.query.Query.{Query}
use Rattle.mrulist_coverage.specs.Coverage.{CoversLast}
use Rattle.mrulist_coverage.specs.Tellings.{IsToldFrom, nothing_known}
use Rattle.mrulist_reader.specs.declared.listing.Listing.{Listing}
use Rattle.edge_traits.specs.declared.port.Event.{Event}
use Rattle.edge_traits.specs.declared.port.Event.TheVariants.{Took, Silence, Sent}
use Rattle.mrulist_run.specs.declared.fault.RunFault.{RunFault}
use Rattle.mrulist_run.specs.Runs.{Run}
use Rattle.ntpq_client.specs.Talks.{Talk, new_talk}
use Rattle.server_core.specs.States.{ServerState}
use Rattle.wire.specs.Wires.{client_events}
use Rattle.drawn_link.specs.Arrivals.{first_arrivals}
use Rattle.drawn_link.specs.Links.{IsOpeningState}
use Rattle.draws.specs.declared.clients.TheConstants.{CLIENTS}
use Rattle.drawn_link.specs.declared.run.LinkEnd.{LinkEnd}
use Rattle.drawn_link.specs.declared.link.TheConstants.{HERE, SALT}

-- what is asked for: pages of 32 rows in eight datagrams, of all clients
abbrev pub listing_query : Query
listing_query = record { filter = record { mincount = 1; resall = 0; resany = 0 }; limit = Some 32; frags = 8 }

-- a listing came to this over a port at which this happened
pub record IsListed (listed : Result Listing RunFault) (events : List Event) : Type 0 where
  pub client : Talk
  pub ran : Run listing_query (new_talk HERE) client listed (Some []) (Some events)

-- a datagram was given
abbrev pub is_sent : Event → Bool
is_sent (Sent to octets) = true
is_sent (Took from octets) = false
is_sent Silence = false

-- A listing over a link ended so: over one history of the server, which begins with the first arrivals, it ran by the rules
-- of a listing, and its requests are counted; all that it took is told from the history, by the places that are found for it;
-- and if it completed, it covers the client list as it stood at the last of these places.
pub record IsEnded (end : LinkEnd) : Type 0 where
  pub opening : ServerState
  pub opens : IsOpeningState opening
  pub history : IsServersHistory opening end.book.journal
  pub begins : IsPrefix (first_arrivals CLIENTS) end.book.journal
  pub ran : IsListed end.result (client_events end.wire)
  pub requests : end.given ≡ count_by is_sent (client_events end.wire)
  pub told : IsToldFrom (telling_of SALT HERE.ip opening end.book.journal) HERE nothing_known (client_events end.wire) end.places
  pub covers : (listing : Listing) → end.result ≡ Ok listing
      → CoversLast (telling_of SALT HERE.ip opening end.book.journal) end.places listing_query.filter listing.rows listing.now
