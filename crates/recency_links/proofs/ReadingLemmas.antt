-- What is read of a client list in nodes.
use Rattle.std.proofs.Common.{◌≡◌, ◌≢◌, ℕ, zero, suc, ◌+◌, ◌-◌, ◌<◌, true, false, cond, List, [], ◌∷◌, ◌++◌, length, map, nat_eq, ne_eqb, slice_get, IsSome, Option, Some, None, option_map, refl, sym, ap, subst, ◌∙◌, get_or, arith}
use Rattle.std.proofs.lemmas.List.{get_or_read, length-map}
use Rattle.std.specs.List.{AllByRecursion}
use Rattle.net_addr.specs.declared.addr.Ip.{Ip}
use Rattle.recency.specs.declared.row.Row.{Row}
use Rattle.recency.specs.Rows.{IsDistinct, after, find_row, newest, oldest}
use Rattle.recency_links.specs.declared.node.Node.{Node}
use Rattle.recency_links.specs.Nodes.{AreLinked, newer_at, no_node, node_at, older_at, row_at}
use Rattle.recency_links.specs.Numbers.{number_at}
use Rattle.recency_links.specs.Lists.{IsListed, row_unless_end, rows_from}
use Rattle.recency_links.proofs.NodeLemmas.{first_or, first-AreLinked, first_or-holds, last_from, last-AreLinked, last_from-holds, split-AreLinked, split-All}
use Rattle.recency_links.proofs.ListedLemmas.{IsFound, found, found-row, rows-listed, rows-used}
use Rattle.recency_links.proofs.SearchLemmas.{after-split}

-- the first row of nodes is that of the first number
oldest-first : (nodes : List Node) (ks : List ℕ) → AllByRecursion (λ k. 0 ≢ k) ks → row_unless_end nodes (first_or ks 0) ≡ oldest (map (row_at nodes) ks)
oldest-first nodes [] apart = refl
oldest-first nodes (k ∷ ks) apart = ap (λ b. cond b None (Some (row_at nodes k))) (ne_eqb k 0 (λ same. apart.0 (sym same)))

last-slice_get : (row : ℕ → Row) (k : ℕ) (ks : List ℕ) (n : ℕ) → n ≡ length ks → slice_get (map row (k ∷ ks)) n ≡ Some (row (last_from k ks))
last-slice_get row k [] n is = ap (slice_get (row k ∷ [])) is
last-slice_get row k (j ∷ ks) n is = ap (slice_get (row k ∷ map row (j ∷ ks))) is ∙ last-slice_get row j ks (length ks) refl

newest-last : (nodes : List Node) (ks : List ℕ) → AllByRecursion (λ k. 0 ≢ k) ks → row_unless_end nodes (last_from 0 ks) ≡ newest (map (row_at nodes) ks)
newest-last nodes [] apart = refl
newest-last nodes (k ∷ ks) apart =
    let some : 0 ≢ last_from k ks = last_from-holds (λ n. 0 ≢ n) k ks apart.0 apart.1 in
    let n : length (map (row_at nodes) (k ∷ ks)) - 1 ≡ length ks = omega (arith, length-map ks (row_at nodes)) in
    ap (λ b. cond b None (Some (row_at nodes (last_from k ks)))) (ne_eqb (last_from k ks) 0 (λ same. some (sym same))) ∙ sym (last-slice_get (row_at nodes) k ks _ n)

module _ {nodes : List Node} {first count : ℕ} {entries : List (Ip × ℕ)} (listed : IsListed nodes first count entries) where
  apart : AllByRecursion (λ k. 0 ≢ k) listed.used
  apart = (split-All (λ k. 0 ≢ k) listed.used listed.free listed.nodes_are.shared.apart.0).0

  -- node 0 is there, and its neighbours are
  pub end-within : 0 < length nodes
  end-within = listed.nodes_are.shared.within.0

  pub oldest-within : newer_at nodes 0 < length nodes
  oldest-within =
      subst (λ k. k < length nodes) (sym (first-AreLinked nodes 0 listed.used 0 listed.nodes_are.linked))
      (first_or-holds (λ k. k < length nodes) listed.used 0 (split-All (λ k. k < length nodes) listed.used listed.free listed.nodes_are.shared.within.1).0 end-within)

  pub newest-within : older_at nodes 0 < length nodes
  newest-within =
      subst (λ k. k < length nodes) (sym (last-AreLinked nodes 0 listed.used 0 listed.nodes_are.linked))
      (last_from-holds (λ k. k < length nodes) 0 listed.used end-within (split-All (λ k. k < length nodes) listed.used listed.free listed.nodes_are.shared.within.1).0)

  -- its newer neighbour has the oldest row, its older one the newest
  pub oldest-is : row_unless_end nodes (newer_at nodes 0) ≡ oldest (rows_from nodes count)
  oldest-is =
      ap (row_unless_end nodes) (first-AreLinked nodes 0 listed.used 0 listed.nodes_are.linked) ∙ oldest-first nodes listed.used apart ∙ sym (ap oldest (rows-listed nodes first count entries listed))

  pub newest-is : row_unless_end nodes (older_at nodes 0) ≡ newest (rows_from nodes count)
  newest-is =
      ap (row_unless_end nodes) (last-AreLinked nodes 0 listed.used 0 listed.nodes_are.linked) ∙ newest-last nodes listed.used apart ∙ sym (ap newest (rows-listed nodes first count entries listed))

  -- there are as many rows as are counted
  pub count-is : count ≡ length (rows_from nodes count)
  count-is = listed.counted ∙ sym (length-map listed.used (row_at nodes)) ∙ sym (ap length (rows-listed nodes first count entries listed))

  -- a client without a number has no row
  pub absent-is : (ip : Ip) (answer : Option ℕ) → answer ≡ number_at entries ip → answer ≡ None → find_row (rows_from nodes count) ip ≡ None
  absent-is ip answer is none = found-row nodes first count entries ip listed ∙ ap (option_map (row_at nodes)) (sym is ∙ none)

  -- behind a listed client's node is the row after its own
  pub after-is : (ip : Ip) (n : ℕ) → IsDistinct (rows_from nodes count) → number_at entries ip ≡ Some n → row_unless_end nodes (newer_at nodes n) ≡ after (rows_from nodes count) ip
  after-is ip n distinct is =
      let at : IsFound nodes first count entries ip n = found nodes first count entries ip n listed distinct is in
      let links = split-AreLinked nodes 0 at.xs n at.ys 0 at.are.linked in
      let used = (split-All (λ k. 0 ≢ k) (at.xs ++ n ∷ at.ys) at.free at.are.shared.apart.0).0 in
      let behind = (split-All (λ k. 0 ≢ k) at.xs (n ∷ at.ys) used).1.1 in
      ap (row_unless_end nodes) (first-AreLinked nodes n at.ys 0 links.1) ∙ oldest-first nodes at.ys behind ∙ sym (after-split (row_at nodes) ip at.xs n at.ys at.older at.here)
      ∙ sym (ap (λ rows. after rows ip) (rows-used nodes count first (at.xs ++ n ∷ at.ys) at.free at.are at.counted))

  -- what was read of node 0
  pub end-newer : (node : Node) → node ≡ get_or nodes 0 node → node.newer ≡ newer_at nodes 0
  end-newer node is = ap (λ (node : Node). node.newer) (get_or_read nodes 0 node end-within is no_node)

  pub end-older : (node : Node) → node ≡ get_or nodes 0 node → node.older ≡ older_at nodes 0
  end-older node is = ap (λ (node : Node). node.older) (get_or_read nodes 0 node end-within is no_node)

  -- where there are rows the newer neighbour of node 0 has the oldest one
  pub oldest-node : (node : Node) (number : ℕ) → 0 < count → number ≡ newer_at nodes 0 → node ≡ node_at nodes number → oldest (rows_from nodes count) ≡ Some node.row
  oldest-node node number some at is = by listed.used refl
    where
      by : (used : List ℕ) → listed.used ≡ used → oldest (rows_from nodes count) ≡ Some node.row
      by [] same = absurd (omega (arith, some, listed.counted, ap length same))
      by (k ∷ ks) same =
          let linked : newer_at nodes 0 ≡ k = (subst (λ used. AreLinked nodes 0 used 0) same listed.nodes_are.linked).0.0 in
          ap oldest (rows-listed nodes first count entries listed ∙ ap (map (row_at nodes)) same) ∙ sym (ap (λ (node : Node). Some node.row) is ∙ ap (λ n. Some (row_at nodes n)) (at ∙ linked))
