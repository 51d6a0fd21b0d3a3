use Rattle.std.proofs.Common.{refl}
use Rattle.ntpq_tool.proofs.RunLemmas.{Runs-inquired, Runs-same, only_variables, only_associations}
use Rattle.ntpq_tool.proofs.ListingLemmas.{Ran-same, RanListing-new}
use Rattle.ntpq_tool.proofs.ServedLemmas.{RanScript-Runs}
use Rattle.ntpq_tool.proofs.command.run.Goals as goal

pub returns-in-Variables-clause-ran : goal.returns-in-Variables-clause-ran
returns-in-Variables-clause-ran g c =
    Ran-same _ _ _ _ _ _ c.in-Variables.is
    (RanScript-Runs _ _ _ _ _ (Runs-same _ _ _ _ _ _ _ refl c.new-client.ensures
    (Runs-inquired _ _ _ _ _ _ _ _ (only_variables c.in-Variables.assoc c.in-Variables.names) c.ask_variables.ensures.inquired)))

pub returns-in-Associations-clause-ran : goal.returns-in-Associations-clause-ran
returns-in-Associations-clause-ran g c =
    Ran-same _ _ _ _ _ _ c.in-Associations.is
    (RanScript-Runs _ _ _ _ _ (Runs-same _ _ _ _ _ _ _ refl c.new-client.ensures
    (Runs-inquired _ _ _ _ _ _ _ _ only_associations c.ask_associations.ensures.inquired)))

pub returns-in-Peers-clause-ran : goal.returns-in-Peers-clause-ran
returns-in-Peers-clause-ran g c =
    Ran-same _ _ _ _ _ _ c.in-Peers.is
    (RanScript-Runs _ _ _ _ _ (Runs-same _ _ _ _ _ _ _ refl c.new-client.ensures c.ask_peers.ensures.ran))

pub returns-clause-ran : goal.returns-clause-ran
returns-clause-ran g c =
    Ran-same _ _ _ _ _ _ c.in-Clients.is (RanListing-new _ _ _ _ _ _ c.new-client.ensures c.list_clients.ensures.ran)
