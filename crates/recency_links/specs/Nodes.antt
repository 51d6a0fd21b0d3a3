-- Nodes of a client list, and their links: our own words.
use Rattle.std.specs.Prelude.{◌≡◌, ◌≢◌, ℕ, zero, suc, ◌+◌, ◌<◌, List, [], ◌∷◌, ◌++◌, length, get_or, None}
use Rattle.std.specs.List.{AllByRecursion}
use Rattle.recency.specs.declared.row.Row.{Row}
use Rattle.net_addr.specs.declared.addr.Ip.TheVariants.{V4}
use Rattle.recency_links.specs.declared.node.Node.{Node}

-- what stands for a node where there is none: no fact depends on it
pub no_node : Node
no_node = record {
  row = record { ip = V4 []; port = 0; first = 0; last = 0; count = 0; mv = 0; flags = 0; score = 0; told = None };
  older = 0;
  newer = 0;
}

-- the node of a number
abbrev pub node_at : List Node → ℕ → Node
node_at nodes number = get_or nodes number no_node

-- its row
abbrev pub row_at : List Node → ℕ → Row
row_at nodes number = (node_at nodes number).row

-- the number of the next newer node
abbrev pub newer_at : List Node → ℕ → ℕ
newer_at nodes number = (node_at nodes number).newer

-- the number of the next older node
abbrev pub older_at : List Node → ℕ → ℕ
older_at nodes number = (node_at nodes number).older

-- so many numbers from one on, each the newer one of that before
abbrev pub follow : List Node → ℕ → ℕ → List ℕ
follow nodes from zero = []
follow nodes from (suc count) = from ∷ follow nodes (newer_at nodes from) count

-- one node has the other as its newer one, and the other has the one as its older one
abbrev pub AreJoined : List Node → ℕ → ℕ → Type 0
AreJoined nodes one other = (newer_at nodes one ≡ other) × (older_at nodes other ≡ one)

-- from one node over these to a last one each is joined to the next
abbrev pub AreLinked : List Node → ℕ → List ℕ → ℕ → Type 0
AreLinked nodes from [] end = AreJoined nodes from end
AreLinked nodes from (number ∷ numbers) end = AreJoined nodes from number × AreLinked nodes number numbers end

-- the newer links from a node on visit these and end at 0
abbrev pub IsChain : List Node → ℕ → List ℕ → Type 0
IsChain nodes from [] = from ≡ 0
IsChain nodes from (number ∷ numbers) = (from ≡ number) × IsChain nodes (newer_at nodes from) numbers

-- a number is none of these
abbrev pub IsApartFrom : ℕ → List ℕ → Type 0
IsApartFrom number numbers = AllByRecursion (λ other. number ≢ other) numbers

-- no number stands twice
abbrev pub AreApart : List ℕ → Type 0
AreApart [] = Unit {0}
AreApart (number ∷ numbers) = IsApartFrom number numbers × AreApart numbers

-- node 0, the used nodes and the free ones are all, and no node is two of them
pub record AreShared (nodes : List Node) (used free : List ℕ) : Type 0 where
  pub apart : AreApart (0 ∷ (used ++ free))
  pub within : AllByRecursion (λ number. number < length nodes) (0 ∷ (used ++ free))
  pub all : length used + length free + 1 ≡ length nodes

-- the used nodes in the order of their arrivals, the free ones in the order of their chain: from node 0 the newer links
-- visit each used node once and come back, the older links are their reverse, and the chain visits each other node once
pub record AreNodes (nodes : List Node) (first_free : ℕ) (used free : List ℕ) : Type 0 where
  pub shared : AreShared nodes used free
  pub linked : AreLinked nodes 0 used 0
  pub chain : IsChain nodes first_free free

-- the same with one node that is neither used nor free
pub record AreNodesBut (number : ℕ) (nodes : List Node) (first_free : ℕ) (used free : List ℕ) : Type 0 where
  pub shared : AreShared nodes used (number ∷ free)
  pub linked : AreLinked nodes 0 used 0
  pub chain : IsChain nodes first_free free

-- the neighbours of a node are joined, and nothing else changes
pub record Unlinks (nodes : List Node) (node : Node) (new : List Node) : Type 0 where
  pub newer : newer_at new node.older ≡ node.newer
  pub older : older_at new node.newer ≡ node.older
  pub others_newer : (number : ℕ) → number ≢ node.older → newer_at new number ≡ newer_at nodes number
  pub others_older : (number : ℕ) → number ≢ node.newer → older_at new number ≡ older_at nodes number
  pub rows : (number : ℕ) → row_at new number ≡ row_at nodes number
  pub length : length new ≡ length nodes

-- a node is joined to the newest one and to node 0, and nothing else changes
pub record Pushes (nodes : List Node) (number : ℕ) (new : List Node) : Type 0 where
  pub newest : newer_at new (older_at nodes 0) ≡ number
  pub before : older_at new number ≡ older_at nodes 0
  pub end : newer_at new number ≡ 0
  pub last : older_at new 0 ≡ number
  pub others_newer : (other : ℕ) → other ≢ older_at nodes 0 → other ≢ number → newer_at new other ≡ newer_at nodes other
  pub others_older : (other : ℕ) → other ≢ number → other ≢ 0 → older_at new other ≡ older_at nodes other
  pub rows : (other : ℕ) → row_at new other ≡ row_at nodes other
  pub length : length new ≡ length nodes

-- a node gets another newer link, and nothing else changes
pub record SetsNewer (nodes : List Node) (number newer : ℕ) (new : List Node) : Type 0 where
  pub to : newer_at new number ≡ newer
  pub others : (other : ℕ) → other ≢ number → newer_at new other ≡ newer_at nodes other
  pub older : (other : ℕ) → older_at new other ≡ older_at nodes other
  pub rows : (other : ℕ) → row_at new other ≡ row_at nodes other
  pub length : length new ≡ length nodes

-- a node gets another older link, and nothing else changes
pub record SetsOlder (nodes : List Node) (number older : ℕ) (new : List Node) : Type 0 where
  pub to : older_at new number ≡ older
  pub others : (other : ℕ) → other ≢ number → older_at new other ≡ older_at nodes other
  pub newer : (other : ℕ) → newer_at new other ≡ newer_at nodes other
  pub rows : (other : ℕ) → row_at new other ≡ row_at nodes other
  pub length : length new ≡ length nodes

-- a node gets another row, and nothing else changes
pub record SetsRow (nodes : List Node) (number : ℕ) (row : Row) (new : List Node) : Type 0 where
  pub to : row_at new number ≡ row
  pub others : (other : ℕ) → other ≢ number → row_at new other ≡ row_at nodes other
  pub newer : (other : ℕ) → newer_at new other ≡ newer_at nodes other
  pub older : (other : ℕ) → older_at new other ≡ older_at nodes other
  pub length : length new ≡ length nodes
