-- A command runs as it is wanted, with a new client of its server.
use Rattle.std.proofs.Common.{◌≡◌, ℕ, Option, List, Result, sym, ap, subst}
use Rattle.net_addr.specs.declared.addr.Addr.{Addr}
use Rattle.edge_traits.specs.declared.port.Event.{Event}
use Rattle.mru_items.specs.declared.query.Query.{Query}
use Rattle.ntpq_client.specs.Talks.{Talk, new_talk}
use Rattle.ntpq_tool.specs.declared.ending.Failure.{Failure}
use Rattle.ntpq_tool.specs.declared.words.Wanted.{Wanted}
use Rattle.ntpq_tool.specs.Listings.{RanListing}
use Rattle.ntpq_tool.specs.Runs.{Ran}

-- what ran for this ran for the same
pub Ran-same : (what its : Wanted) (server : Addr) (ending : Result (List ℕ) Failure) (before after : Option (List Event)) → what ≡ its → Ran its server ending before after → Ran what server ending before after
Ran-same what its server ending before after same ran = subst (λ (w : Wanted). Ran w server ending before after) (sym same) ran

-- the server of a new client is the one that it was made for
pub RanListing-new : (query : Query) (server : Addr) (old : Talk) (ending : Result (List ℕ) Failure) (before after : Option (List Event)) → old ≡ new_talk server → RanListing query old.server ending before after → RanListing query server ending before after
RanListing-new query server old ending before after same ran =
    subst (λ (s : Addr). RanListing query s ending before after) (ap (λ (t : Talk). t.server) same) ran
