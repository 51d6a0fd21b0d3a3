-- A client list of linked nodes: our own words.
use Rattle.std.specs.Prelude.{◌≡◌, ℕ, ◌+◌, List, length, map, nat_eq, if◌then◌else◌, Option, Some, None, find}
use Rattle.net_addr.specs.Addresses.{same_ip}
use Rattle.net_addr.specs.declared.addr.Ip.{Ip}
use Rattle.recency.specs.declared.limits.Limits.{Limits}
use Rattle.recency.specs.declared.row.Row.{Row}
use Rattle.recency.specs.Rows.{AreRows}
use Rattle.recency_links.specs.declared.node.Node.{Node}
use Rattle.recency_links.specs.declared.links.Links.{Links}
use Rattle.recency_links.specs.Nodes.{AreNodes, follow, newer_at, row_at}
use Rattle.recency_links.specs.Numbers.{number_at}

-- the rows of so many nodes, from the oldest one on
abbrev pub rows_from : List Node → ℕ → List Row
rows_from nodes count = map (row_at nodes) (follow nodes (newer_at nodes 0) count)

-- the first of these nodes whose row is of an address
abbrev pub search_in : List Node → List ℕ → Ip → Option ℕ
search_in nodes numbers ip = find (λ number. same_ip (row_at nodes number).ip ip) numbers

-- a client list in nodes: the used ones are counted, and the index has exactly them, under the addresses of their rows
pub record IsListed (nodes : List Node) (first_free count : ℕ) (entries : List (Ip × ℕ)) : Type 0 where
  pub used : List ℕ
  pub free : List ℕ
  pub nodes_are : AreNodes nodes first_free used free
  pub counted : count ≡ length used
  pub indexed : (ip : Ip) → number_at entries ip ≡ search_in nodes used ip

-- the rows, oldest first
abbrev pub rows_of : Links → List Row
rows_of links = rows_from links.nodes.items links.count

-- the links are those of a client list
abbrev pub IsList : Links → Type 0
IsList links = IsListed links.nodes.items links.free links.count links.index.entries

-- the row of a node, but none of node 0
abbrev pub row_unless_end : List Node → ℕ → Option Row
row_unless_end nodes number = if nat_eq number 0 then None else Some (row_at nodes number)

-- a client list under limits, in as many nodes as it may have rows, and node 0
pub record IsLinked (limits : Limits) (links : Links) : Type 0 where
  pub list : IsList links
  pub kept : AreRows limits (rows_of links)
  pub nodes : length links.nodes.items ≡ limits.maxdepth + 1
