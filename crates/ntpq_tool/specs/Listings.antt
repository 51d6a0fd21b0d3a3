-- How the command `mrulist` ends: our own rule, over the run of a listing.
use Rattle.std.specs.Prelude.{◌≡◌, ◌⊎◌, ℕ, Option, List, Result, Ok, Err}
use Rattle.net_addr.specs.declared.addr.Addr.{Addr}
use Rattle.edge_traits.specs.declared.port.Event.{Event}
use Rattle.ntpq_client.specs.Talks.{Talk, new_talk}
use Rattle.mru_items.specs.declared.query.Query.{Query}
use Rattle.mrulist_reader.specs.declared.listing.Listing.{Listing}
use Rattle.mrulist_run.specs.declared.fault.RunFault.{RunFault}
use Rattle.mrulist_run.specs.declared.fault.RunFault.TheVariants as Listed
use Rattle.mrulist_run.specs.Runs.{Run}
use Rattle.ntpq_report.specs.Clients.{mru_report}
use Rattle.ntpq_tool.specs.declared.ending.Failure.{Failure}
use Rattle.ntpq_tool.specs.declared.ending.Failure.TheVariants.{Words, Ask, BadReply, NoMemory}

-- what the run of a listing answers, by how the command ends: a listing, whose report is printed; or the fault of asking; or a
-- bad reply; or, where memory is wanting, that, or a listing whose report had no room
abbrev pub ListingEnds : Result (List ℕ) Failure → Result Listing RunFault → Type 0
ListingEnds (Ok report) result = (listing : Listing) × (result ≡ Ok listing) × (report ≡ mru_report listing)
ListingEnds (Err (Ask fault)) result = result ≡ Err (Listed.Ask fault)
ListingEnds (Err BadReply) result = (place : ℕ) × (result ≡ Err (Listed.BadReply place))
ListingEnds (Err NoMemory) result = (result ≡ Err Listed.NoMemory) ⊎ ((listing : Listing) × (result ≡ Ok listing))
ListingEnds (Err Words) result = ⊥

-- The clients were listed with a new client of a server: a listing ran, and the command ends by what it came to. So a report is
-- that of a listing which covers the client list, whatever history of the list the server's answers are told from.
pub record RanListing (query : Query) (server : Addr) (ending : Result (List ℕ) Failure) (before after : Option (List Event)) : Type 0 where
  pub talk : Talk
  pub result : Result Listing RunFault
  pub run : Run query (new_talk server) talk result before after
  pub ends : ListingEnds ending result
