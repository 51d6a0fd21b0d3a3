-- What each operation on a client list in nodes comes to.
use Rattle.std.proofs.Common.{◌≡◌, ◌≢◌, ℕ, suc, ◌+◌, ◌-◌, ◌<◌, ◌≤◌, Bool, true, false, cond, List, [], ◌∷◌, ◌++◌, length, map, drop, Option, Some, None, option_map, nat_eq, eq-eqb, eqb-true, true≢false, refl, sym, ap, subst, ◌∙◌, length-append, arith}
use Rattle.std.specs.List.{AllByRecursion}
use Rattle.net_addr.specs.Addresses.{same_ip}
use Rattle.net_addr.specs.declared.addr.Ip.{Ip}
use Rattle.net_addr.proofs.AddressLemmas.{same_ip-eq, same_ip-sym}
use Rattle.recency.proofs.ListLemmas.{AllByRecursion-append}
use Rattle.recency.specs.declared.row.Row.{Row}
use Rattle.recency.specs.Rows.{IsDistinct, find_row, others, told_row, told_rows}
use Rattle.recency_links.specs.declared.node.Node.{Node}
use Rattle.recency_links.specs.Nodes.{AreNodes, AreNodesBut, Pushes, SetsNewer, SetsRow, Unlinks, newer_at, node_at, row_at}
use Rattle.recency_links.specs.Numbers.{IsNumbered, number_at}
use Rattle.recency_links.specs.Lists.{IsListed, rows_from}
use Rattle.recency_links.proofs.LinkLemmas.{front, given, row-AreNodes, row-AreNodesBut, taken}
use Rattle.recency_links.proofs.NodeLemmas.{back-AreApart, split-All}
use Rattle.recency_links.proofs.ListedLemmas.{Comes, IsFirst, IsFound, IsLoose, IsWithin, begins, but-IsLoose, finished, found, found-row, rows-used, taken_out, used-IsWithin}
use Rattle.recency_links.proofs.SearchLemmas.{IsOther, found_in, found_in-addresses, found_in-first, found_in-same, found_in-split, map-same, map-told, none-found_in, others-split}

-- a listed client's node with its changed row, as the newest
pub renewed : (nodes n1 n2 n3 : List Node) (first count : ℕ) (entries : List (Ip × ℕ)) (ip : Ip) (n : ℕ) (node : Node) (row : Row) → IsFound nodes first count entries ip n → node ≡ node_at nodes n
    → Unlinks nodes node n1 → SetsRow n1 n row n2 → Pushes n2 n n3 → row.ip ≡ node.row.ip → Comes n3 first count entries (others (rows_from nodes count) ip ++ row ∷ [])
renewed nodes n1 n2 n3 first count entries ip n node row at is un sets push own =
    subst (λ rows. Comes n3 first count entries (rows ++ row ∷ [])) (sym left)
    (finished nodes n1 n2 n3 first count entries n row ip (at.xs ++ at.ys) at.free (taken_out nodes n1 first node n at.xs at.ys at.free at.are is un) un.rows sets push
    (own ∙ ap (λ (node : Node). node.row.ip) is ∙ same_ip-eq (row_at nodes n).ip ip at.here)
    (AllByRecursion-append (IsOther (row_at nodes) ip) at.xs at.ys at.older at.newer)
    (λ other. at.indexed other ∙ found_in-split (row_at nodes) ip at.xs n at.ys at.older at.here other)
    (omega (arith, at.counted, length-append at.xs (n ∷ at.ys), length-append at.xs at.ys)))
  where
    left : others (rows_from nodes count) ip ≡ map (row_at nodes) (at.xs ++ at.ys)
    left = ap (λ rows. others rows ip) (rows-used nodes count first (at.xs ++ n ∷ at.ys) at.free at.are at.counted) ∙ others-split (row_at nodes) ip at.xs n at.ys at.older at.here at.newer

-- a client without a row has no number
pub unnumbered : (nodes : List Node) (first count : ℕ) (entries : List (Ip × ℕ)) (ip : Ip) → IsListed nodes first count entries → find_row (rows_from nodes count) ip ≡ None → number_at entries ip ≡ None
unnumbered nodes first count entries ip listed absent = by (number_at entries ip) refl
  where
    some_none : (row : Row) → Some row ≡ None → ⊥
    some_none row same = cc

    by : (answer : Option ℕ) → number_at entries ip ≡ answer → number_at entries ip ≡ None
    by None is = is
    by (Some n) is = absurd (some_none (row_at nodes n) (sym (found-row nodes first count entries ip listed ∙ ap (option_map (row_at nodes)) is) ∙ absent))

-- a free node
pub record IsFree (nodes : List Node) (first count : ℕ) (entries : List (Ip × ℕ)) : Type 0 where
  pub used : List ℕ
  pub rest : List ℕ
  pub but : AreNodesBut first nodes (newer_at nodes first) used rest
  pub are : AreNodes nodes first used (first ∷ rest)
  pub counted : count ≡ length used
  pub indexed : (other : Ip) → number_at entries other ≡ found_in (row_at nodes) used other

pub has_free : (nodes : List Node) (first count : ℕ) (entries : List (Ip × ℕ)) → IsListed nodes first count entries → count + 1 < length nodes → IsFree nodes first count entries
has_free nodes first count entries listed room = by listed.free listed.nodes_are
  where
    by : (free : List ℕ) → AreNodes nodes first listed.used free → IsFree nodes first count entries
    by [] are = absurd (omega (arith, room, are.shared.all, listed.counted))
    by (n ∷ free) are =
        let here : AreNodes nodes first listed.used (first ∷ free) = subst (λ n. AreNodes nodes first listed.used (n ∷ free)) (sym are.chain.0) are in
        record {
          used = listed.used;
          rest = free;
          but = taken nodes first first listed.used free here;
          are = here;
          counted = listed.counted;
          indexed = listed.indexed;
        }

-- the free node with a new client's row, as the newest
pub added : (nodes n2 n3 : List Node) (first count : ℕ) (old new : List (Ip × ℕ)) (ip : Ip) (row : Row) → IsFree nodes first count old → number_at old ip ≡ None → IsNumbered old ip (Some first) new
    → SetsRow nodes first row n2 → Pushes n2 first n3 → row.ip ≡ ip → Comes n3 (newer_at nodes first) (count + 1) new (rows_from nodes count ++ row ∷ [])
added nodes n2 n3 first count old new ip row at absent noted sets push own =
    subst (λ rows. Comes n3 (newer_at nodes first) (count + 1) new (rows ++ row ∷ [])) (sym (rows-used nodes count first at.used (first ∷ at.rest) at.are at.counted))
    (finished nodes nodes n2 n3 (newer_at nodes first) (count + 1) new first row ip at.used at.rest at.but (λ k. refl) sets push own
    (none-found_in (row_at nodes) ip at.used (sym (at.indexed ip) ∙ absent))
    (λ other. noted other ∙ ap (cond (same_ip ip other) (Some first)) (at.indexed other)) (ap (λ n. n + 1) at.counted))

-- the rows of the first node and of the rest
first-rows : (nodes : List Node) (first count : ℕ) (entries : List (Ip × ℕ)) (n : ℕ) (at : IsFirst nodes first count entries n) → rows_from nodes count ≡ map (row_at nodes) (n ∷ at.ys)
first-rows nodes first count entries n at = rows-used nodes count first (n ∷ at.ys) at.free at.are at.counted

-- the oldest client's node with a new client's row, as the newest
pub replaced : (nodes n1 n2 n3 : List Node) (first count : ℕ) (old noted new : List (Ip × ℕ)) (ip : Ip) (n : ℕ) (node : Node) (row : Row) → IsFirst nodes first count old n → IsDistinct (rows_from nodes count)
    → number_at old ip ≡ None → IsNumbered old ip (Some n) noted → IsNumbered noted node.row.ip None new → node ≡ node_at nodes n → Unlinks nodes node n1 → SetsRow n1 n row n2 → Pushes n2 n n3 → row.ip ≡ ip
    → Comes n3 first count new (drop 1 (rows_from nodes count) ++ row ∷ [])
replaced nodes n1 n2 n3 first count old noted new ip n node row at distinct absent notes forgets is un sets push own =
    subst (λ rows. Comes n3 first count new (rows ++ row ∷ [])) (sym (ap (drop 1) (first-rows nodes first count old n at)))
    (finished nodes n1 n2 n3 first count new n row ip at.ys at.free (taken_out nodes n1 first node n [] at.ys at.free at.are is un) un.rows sets push own none.1 numbers (omega (arith, at.counted)))
  where
    none : AllByRecursion (IsOther (row_at nodes) ip) (n ∷ at.ys)
    none = none-found_in (row_at nodes) ip (n ∷ at.ys) (sym (at.indexed ip) ∙ absent)

    apart : IsDistinct (map (row_at nodes) (n ∷ at.ys))
    apart = subst (λ rows. IsDistinct rows) (first-rows nodes first count old n at) distinct

    swapped : (b c : Bool) → (c ≡ true → b ≡ false) → (x rest : Option ℕ) → cond c None (cond b x rest) ≡ cond b x (cond c None rest)
    swapped true true differ x rest = absurd (true_false (differ refl))
      where
        true_false : true ≡ false → ⊥
        true_false same = cc
    swapped true false differ x rest = refl
    swapped false true differ x rest = refl
    swapped false false differ x rest = refl

    numbers : (other : Ip) → number_at new other ≡ cond (same_ip ip other) (Some n) (found_in (row_at nodes) at.ys other)
    numbers other =
        let own_ip : same_ip node.row.ip other ≡ same_ip (row_at nodes n).ip other = ap (λ (node : Node). same_ip node.row.ip other) is in
        let differ : same_ip (row_at nodes n).ip other ≡ true → same_ip ip other ≡ false =
        λ same. subst (λ other. same_ip ip other ≡ false) (same_ip-eq (row_at nodes n).ip other same) (same_ip-sym (row_at nodes n).ip ip none.0)
        in
        forgets other ∙ ap (λ b. cond b None (number_at noted other)) own_ip
        ∙ ap (cond (same_ip (row_at nodes n).ip other) None) (notes other ∙ ap (cond (same_ip ip other) (Some n)) (at.indexed other))
        ∙ swapped (same_ip ip other) (same_ip (row_at nodes n).ip other) differ (Some n) (found_in (row_at nodes) (n ∷ at.ys) other)
        ∙ ap (cond (same_ip ip other) (Some n)) (sym (found_in-first (row_at nodes) n at.ys apart other))

-- the oldest client's node among the free ones
pub dropped : (nodes n1 n2 : List Node) (first count : ℕ) (old new : List (Ip × ℕ)) (n : ℕ) (node : Node) → IsFirst nodes first count old n → IsDistinct (rows_from nodes count)
    → IsNumbered old node.row.ip None new → node ≡ node_at nodes n → Unlinks nodes node n1 → SetsNewer n1 n first n2
    → IsListed n2 n (count - 1) new × (rows_from nodes count ≡ node.row ∷ rows_from n2 (count - 1))
dropped nodes n1 n2 first count old new n node at distinct forgets is un sets = (
  record { used = at.ys; free = n ∷ at.free; nodes_are = nodes_are; counted = counted; indexed = numbers },
  first-rows nodes first count old n at ∙ ap (λ (node : Node). node.row ∷ map (row_at nodes) at.ys) (sym is)
      ∙ ap (λ rows. node.row ∷ rows) (sym (rows-used n2 (count - 1) n at.ys (n ∷ at.free) nodes_are counted ∙ map-same (row_at nodes) (row_at n2) at.ys (same at.ys))),
)
  where
    nodes_are : AreNodes n2 n at.ys (n ∷ at.free)
    nodes_are = given n1 n2 first n at.ys at.free (taken_out nodes n1 first node n [] at.ys at.free at.are is un) sets

    counted : count - 1 ≡ length at.ys
    counted = omega (arith, at.counted)

    same : (ks : List ℕ) → AllByRecursion (λ k. row_at n2 k ≡ row_at nodes k) ks
    same [] = tt
    same (k ∷ ks) = (sets.rows k ∙ un.rows k, same ks)

    apart : IsDistinct (map (row_at nodes) (n ∷ at.ys))
    apart = subst (λ rows. IsDistinct rows) (first-rows nodes first count old n at) distinct

    numbers : (other : Ip) → number_at new other ≡ found_in (row_at n2) at.ys other
    numbers other =
        forgets other ∙ ap (λ (node : Node). cond (same_ip node.row.ip other) None (number_at old other)) is ∙ ap (cond (same_ip (row_at nodes n).ip other) None) (at.indexed other)
        ∙ sym (found_in-first (row_at nodes) n at.ys apart other) ∙ sym (found_in-same (row_at nodes) (row_at n2) other at.ys (same at.ys))

-- a listed client's node with its row told
pub told : (nodes new : List Node) (first count : ℕ) (entries : List (Ip × ℕ)) (ip : Ip) (n stamp : ℕ) (row : Row) → IsFound nodes first count entries ip n → row ≡ record (row_at nodes n) { told = Some stamp }
    → SetsRow nodes n row new → Comes new first count entries (told_rows (rows_from nodes count) ip stamp)
told nodes new first count entries ip n stamp row at is sets = record {
  list = record {
    used = used;
    free = at.free;
    nodes_are = nodes_are;
    counted = at.counted;
    indexed = λ other. at.indexed other ∙ sym (found_in-addresses (row_at nodes) (row_at new) other used (addresses used));
  };
  rows_are = rows-used new count first used at.free nodes_are at.counted
      ∙ map-told (row_at nodes) (row_at new) ip stamp used (AllByRecursion-append IsTold at.xs (n ∷ at.ys) (others_told at.xs apart.0 at.older) (here, others_told at.ys apart.1 at.newer))
      ∙ ap (λ rows. told_rows rows ip stamp) (sym (rows-used nodes count first used at.free at.are at.counted));
}
  where
    used : List ℕ
    used = at.xs ++ n ∷ at.ys

    IsTold : ℕ → Type 0
    IsTold k = row_at new k ≡ told_row ip stamp (row_at nodes k)

    nodes_are : AreNodes new first used at.free
    nodes_are = row-AreNodes nodes new first n row used at.free at.are sets

    written : row_at new n ≡ record (row_at nodes n) { told = Some stamp }
    written = sets.to ∙ is

    here : IsTold n
    here = written ∙ sym (ap (λ b. cond b (record (row_at nodes n) { told = Some stamp }) (row_at nodes n)) at.here)

    flip : {m k : ℕ} → m ≢ k → k ≢ m
    flip apart same = apart (sym same)

    turn : (ks : List ℕ) → AllByRecursion (λ k. n ≢ k) ks → AllByRecursion (λ k. k ≢ n) ks
    turn [] each = tt
    turn (k ∷ ks) each = (flip each.0, turn ks each.1)

    apart : AllByRecursion (λ k. k ≢ n) at.xs × AllByRecursion (λ k. k ≢ n) at.ys
    apart =
        let all = (back-AreApart n at.xs at.ys (front used at.free at.are.shared.apart.1)).0 in
        let both = split-All (λ k. n ≢ k) at.xs at.ys all in
        (turn at.xs both.0, turn at.ys both.1)

    others_told : (ks : List ℕ) → AllByRecursion (λ k. k ≢ n) ks → AllByRecursion (IsOther (row_at nodes) ip) ks → AllByRecursion IsTold ks
    others_told [] differ none = tt
    others_told (k ∷ ks) differ none =
        (sets.others k differ.0 ∙ sym (ap (λ b. cond b (record (row_at nodes k) { told = Some stamp }) (row_at nodes k)) none.0), others_told ks differ.1 none.1)

    differs : {k : ℕ} → nat_eq k n ≡ false → k ≡ n → ⊥
    differs {k} differ same = true≢false (sym (eq-eqb k n same) ∙ differ)

    address : (k : ℕ) → (row_at new k).ip ≡ (row_at nodes k).ip
    address k =
        elim (nat_eq k n) as (λ b. (nat_eq k n ≡ b) → (row_at new k).ip ≡ (row_at nodes k).ip) [
          | true ↦ λ same. subst (λ k. (row_at new k).ip ≡ (row_at nodes k).ip) (sym (eqb-true k n same)) (ap (λ (row : Row). row.ip) written)
          | false ↦ λ differ. ap (λ (row : Row). row.ip) (sets.others k (λ same. differs differ same))
        ] refl

    addresses : (ks : List ℕ) → AllByRecursion (λ k. (row_at new k).ip ≡ (row_at nodes k).ip) ks
    addresses [] = tt
    addresses (k ∷ ks) = (address k, addresses ks)

module _ {nodes : List Node} {first count : ℕ} {entries : List (Ip × ℕ)} (ip : Ip) {n : ℕ} (listed : IsListed nodes first count entries) (distinct : IsDistinct (rows_from nodes count)) (is : number_at entries ip ≡ Some n) where
  -- a listed client's node, and its neighbours
  pub found-IsWithin : IsWithin nodes n
  found-IsWithin =
      let at = found nodes first count entries ip n listed distinct is in
      used-IsWithin nodes first at.xs n at.ys at.free at.are

  -- it may be pushed once it is out
  pub found-IsLoose : {n1 n2 : List Node} {node : Node} {row : Row} → node ≡ node_at nodes n → Unlinks nodes node n1 → SetsRow n1 n row n2 → IsLoose n2 n
  found-IsLoose {n1} {n2} {node} {row} here un sets =
      let at = found nodes first count entries ip n listed distinct is in
      but-IsLoose n2 first n (at.xs ++ at.ys) at.free (row-AreNodesBut n1 n2 first n row n (at.xs ++ at.ys) at.free (taken_out nodes n1 first node n at.xs at.ys at.free at.are here un) sets)

  -- what it comes to
  pub found-renewed : {n1 n2 n3 : List Node} {node : Node} {row : Row} → node ≡ node_at nodes n → Unlinks nodes node n1 → SetsRow n1 n row n2 → Pushes n2 n n3 → row.ip ≡ node.row.ip
      → Comes n3 first count entries (others (rows_from nodes count) ip ++ row ∷ [])
  found-renewed {n1} {n2} {n3} {node} {row} here un sets push own =
      renewed nodes n1 n2 n3 first count entries ip n node row (found nodes first count entries ip n listed distinct is) here un sets push own

  -- the row of the client is that of the node
  pub found-find_row : {node : Node} → node ≡ node_at nodes n → find_row (rows_from nodes count) ip ≡ Some node.row
  found-find_row {node} here = found-row nodes first count entries ip listed ∙ ap (option_map (row_at nodes)) is ∙ sym (ap (λ (node : Node). Some node.row) here)

module _ {nodes : List Node} {first count : ℕ} {entries : List (Ip × ℕ)} (listed : IsListed nodes first count entries) (room : count + 1 < length nodes) where
  -- a free node
  pub free-IsWithin : first < length nodes
  free-IsWithin = (but-IsLoose nodes (newer_at nodes first) first _ _ (has_free nodes first count entries listed room).but).it

  -- it may be pushed
  pub free-IsLoose : {n2 : List Node} {row : Row} → SetsRow nodes first row n2 → IsLoose n2 first
  free-IsLoose {n2} {row} sets =
      let at = has_free nodes first count entries listed room in
      but-IsLoose n2 (newer_at nodes first) first at.used at.rest (row-AreNodesBut nodes n2 (newer_at nodes first) first row first at.used at.rest at.but sets)

  -- what it comes to
  pub free-added : {n2 n3 : List Node} {new : List (Ip × ℕ)} {ip : Ip} {row : Row} {node : Node} → find_row (rows_from nodes count) ip ≡ None → IsNumbered entries ip (Some first) new → node ≡ node_at nodes first → SetsRow nodes first row n2
      → Pushes n2 first n3 → row.ip ≡ ip → Comes n3 node.newer (count + 1) new (rows_from nodes count ++ row ∷ [])
  free-added {n2} {n3} {new} {ip} {row} {node} absent noted here sets push own =
      subst (λ (next : ℕ). Comes n3 next (count + 1) new (rows_from nodes count ++ row ∷ [])) (sym (ap (λ (node : Node). node.newer) here))
      (added nodes n2 n3 first count entries new ip row (has_free nodes first count entries listed room) (unnumbered nodes first count entries ip listed absent) noted sets push own)

module _ {nodes : List Node} {first count : ℕ} {entries : List (Ip × ℕ)} {n : ℕ} (listed : IsListed nodes first count entries) (some : 0 < count) (is : n ≡ newer_at nodes 0) where
  -- the oldest client's node, and its neighbours
  pub oldest-IsWithin : IsWithin nodes n
  oldest-IsWithin =
      let at = begins nodes first count entries n listed some is in
      used-IsWithin nodes first [] n at.ys at.free at.are

  -- it may be pushed once it is out
  pub oldest-IsLoose : {n1 n2 : List Node} {node : Node} {row : Row} → node ≡ node_at nodes n → Unlinks nodes node n1 → SetsRow n1 n row n2 → IsLoose n2 n
  oldest-IsLoose {n1} {n2} {node} {row} here un sets =
      let at = begins nodes first count entries n listed some is in
      but-IsLoose n2 first n at.ys at.free (row-AreNodesBut n1 n2 first n row n at.ys at.free (taken_out nodes n1 first node n [] at.ys at.free at.are here un) sets)

  -- what its place for a new client comes to
  pub oldest-replaced : {n1 n2 n3 : List Node} (noted : List (Ip × ℕ)) {new : List (Ip × ℕ)} {ip : Ip} {node : Node} {row : Row} → IsDistinct (rows_from nodes count) → find_row (rows_from nodes count) ip ≡ None
      → IsNumbered entries ip (Some n) noted → IsNumbered noted node.row.ip None new → node ≡ node_at nodes n → Unlinks nodes node n1 → SetsRow n1 n row n2 → Pushes n2 n n3 → row.ip ≡ ip
      → Comes n3 first count new (drop 1 (rows_from nodes count) ++ row ∷ [])
  oldest-replaced {n1} {n2} {n3} noted {new} {ip} {node} {row} distinct absent notes forgets here un sets push own =
      replaced nodes n1 n2 n3 first count entries noted new ip n node row (begins nodes first count entries n listed some is) distinct (unnumbered nodes first count entries ip listed absent) notes forgets here un sets
      push own

  -- what comes of taking it out
  pub oldest-dropped : {n1 n2 : List Node} {new : List (Ip × ℕ)} {node : Node} → IsDistinct (rows_from nodes count) → IsNumbered entries node.row.ip None new → node ≡ node_at nodes n → Unlinks nodes node n1
      → SetsNewer n1 n first n2 → IsListed n2 n (count - 1) new × (rows_from nodes count ≡ node.row ∷ rows_from n2 (count - 1))
  oldest-dropped {n1} {n2} {new} {node} distinct forgets here un sets = dropped nodes n1 n2 first count entries new n node (begins nodes first count entries n listed some is) distinct forgets here un sets
