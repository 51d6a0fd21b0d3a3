-- What each operation makes of a client list in nodes.
use Rattle.std.proofs.Common.{◌≡◌, ◌≢◌, ℕ, suc, ◌+◌, ◌-◌, ◌<◌, ◌≤◌, cond, List, [], ◌∷◌, ◌++◌, length, map, drop, Option, Some, None, option_map, refl, sym, ap, subst, ◌∙◌, true, length-append, arith}
use Rattle.std.proofs.lemmas.List.{map-append}
use Rattle.std.specs.List.{AllByRecursion}
use Rattle.net_addr.specs.Addresses.{same_ip}
use Rattle.net_addr.specs.declared.addr.Ip.{Ip}
use Rattle.net_addr.proofs.AddressLemmas.{same_ip-eq, same_ip-refl, same_ip-sym}
use Rattle.recency.specs.declared.row.Row.{Row}
use Rattle.recency.specs.Rows.{IsDistinct, find_row, others}
use Rattle.recency_links.specs.declared.node.Node.{Node}
use Rattle.recency_links.specs.Nodes.{AreNodes, AreNodesBut, Pushes, SetsNewer, SetsRow, Unlinks, follow, newer_at, node_at, older_at, row_at}
use Rattle.recency_links.specs.Numbers.{IsNumbered, number_at}
use Rattle.recency_links.specs.Lists.{IsListed, rows_from}
use Rattle.recency_links.proofs.NodeLemmas.{first_or, last_from, first-AreLinked, first_or-holds, followed, last-AreLinked, last_from-holds, split-AreLinked, split-All}
use Rattle.recency_links.proofs.LinkLemmas.{given, not_it, pushed, row-AreNodes, row-AreNodesBut, taken, unlinked}
use Rattle.recency_links.proofs.SearchLemmas.{IsOther, IsSplit, find_row-found_in, found_in, found_in-first, found_in-pushed, found_in-same, found_in-split, map-same, none-found_in, others-split, split-found}

-- the rows are those of the used nodes
pub rows-used : (nodes : List Node) (count : ℕ) (first : ℕ) (used free : List ℕ) → AreNodes nodes first used free → count ≡ length used → rows_from nodes count ≡ map (row_at nodes) used
rows-used nodes count first used free are counted = ap (λ n. map (row_at nodes) (follow nodes (newer_at nodes 0) n)) counted ∙ ap (map (row_at nodes)) (followed nodes 0 used 0 are.linked)

pub rows-listed : (nodes : List Node) (first count : ℕ) (entries : List (Ip × ℕ)) (listed : IsListed nodes first count entries) → rows_from nodes count ≡ map (row_at nodes) listed.used
rows-listed nodes first count entries listed = rows-used nodes count first listed.used listed.free listed.nodes_are listed.counted

-- numbers that lie within the nodes
pub record IsWithin (nodes : List Node) (n : ℕ) : Type 0 where
  pub it : n < length nodes
  pub older : older_at nodes n < length nodes
  pub newer : newer_at nodes n < length nodes

pub used-IsWithin : (nodes : List Node) (first : ℕ) (xs : List ℕ) (n : ℕ) (ys free : List ℕ) → AreNodes nodes first (xs ++ n ∷ ys) free → IsWithin nodes n
used-IsWithin nodes first xs n ys free are =
    let P : ℕ → Type 0 = λ k. k < length nodes in
    let links = split-AreLinked nodes 0 xs n ys 0 are.linked in
    let both = split-All P xs (n ∷ ys) (split-All P (xs ++ n ∷ ys) free are.shared.within.1).0 in
    record {
      it = both.1.0;
      older = subst P (sym (last-AreLinked nodes 0 xs n links.0)) (last_from-holds P 0 xs are.shared.within.0 both.0);
      newer = subst P (sym (first-AreLinked nodes n ys 0 links.1)) (first_or-holds P ys 0 both.1.1 are.shared.within.0);
    }

-- a node that is neither used nor free may be pushed
pub record IsLoose (nodes : List Node) (n : ℕ) : Type 0 where
  pub some : 0 < length nodes
  pub it : n < length nodes
  pub newest : older_at nodes 0 < length nodes
  pub used : n ≢ 0
  pub apart : n ≢ older_at nodes 0

pub but-IsLoose : (nodes : List Node) (first n : ℕ) (used free : List ℕ) → AreNodesBut n nodes first used free → IsLoose nodes n
but-IsLoose nodes first n used free are =
    let P : ℕ → Type 0 = λ k. k < length nodes in
    let within = split-All P used (n ∷ free) are.shared.within.1 in
    let before = not_it (0 ∷ used) n free are.shared.apart in
    let last = last-AreLinked nodes 0 used 0 are.linked in
    record {
      some = are.shared.within.0;
      it = within.1.0;
      newest = subst P (sym last) (last_from-holds P 0 used are.shared.within.0 within.0);
      used = λ same. before.0 (sym same);
      apart = λ same. last_from-holds (λ k. k ≢ n) 0 used before.0 before.1 (sym (same ∙ last));
    }

-- a listed client's node among the used ones
pub record IsFound (nodes : List Node) (first count : ℕ) (entries : List (Ip × ℕ)) (ip : Ip) (n : ℕ) : Type 0 where
  pub xs : List ℕ
  pub ys : List ℕ
  pub free : List ℕ
  pub older : AllByRecursion (IsOther (row_at nodes) ip) xs
  pub here : same_ip (row_at nodes n).ip ip ≡ true
  pub newer : AllByRecursion (IsOther (row_at nodes) ip) ys
  pub are : AreNodes nodes first (xs ++ n ∷ ys) free
  pub counted : count ≡ length (xs ++ n ∷ ys)
  pub indexed : (other : Ip) → number_at entries other ≡ found_in (row_at nodes) (xs ++ n ∷ ys) other

pub found : (nodes : List Node) (first count : ℕ) (entries : List (Ip × ℕ)) (ip : Ip) (n : ℕ) → IsListed nodes first count entries → IsDistinct (rows_from nodes count) → number_at entries ip ≡ Some n
    → IsFound nodes first count entries ip n
found nodes first count entries ip n listed distinct is =
    let split : IsSplit (row_at nodes) ip listed.used n =
    split-found (row_at nodes) ip listed.used n (subst (λ rows. IsDistinct rows) (rows-listed nodes first count entries listed) distinct) (sym (listed.indexed ip) ∙ is)
    in
    record {
      xs = split.before;
      ys = split.behind;
      free = listed.free;
      older = split.older;
      here = split.here;
      newer = split.newer;
      are = subst (λ used. AreNodes nodes first used listed.free) split.is listed.nodes_are;
      counted = listed.counted ∙ ap length split.is;
      indexed = λ other. listed.indexed other ∙ ap (λ used. found_in (row_at nodes) used other) split.is;
    }

-- the row that is found
pub found-row : (nodes : List Node) (first count : ℕ) (entries : List (Ip × ℕ)) (ip : Ip) (listed : IsListed nodes first count entries) → find_row (rows_from nodes count) ip ≡ option_map (row_at nodes) (number_at entries ip)
found-row nodes first count entries ip listed =
    ap (λ rows. find_row rows ip) (rows-listed nodes first count entries listed) ∙ find_row-found_in (row_at nodes) ip listed.used ∙ ap (option_map (row_at nodes)) (sym (listed.indexed ip))

-- a client without a row has no node
pub unlisted : (nodes : List Node) (first count : ℕ) (entries : List (Ip × ℕ)) (ip : Ip) (listed : IsListed nodes first count entries) → find_row (rows_from nodes count) ip ≡ None
    → AllByRecursion (IsOther (row_at nodes) ip) listed.used
unlisted nodes first count entries ip listed absent = by (number_at entries ip) refl
  where
    some_none : (row : Row) → Some row ≡ None → ⊥
    some_none row same = cc

    by : (answer : Option ℕ) → number_at entries ip ≡ answer → AllByRecursion (IsOther (row_at nodes) ip) listed.used
    by None is = none-found_in (row_at nodes) ip listed.used (sym (listed.indexed ip) ∙ is)
    by (Some n) is = absurd (some_none (row_at nodes n) (sym (found-row nodes first count entries ip listed ∙ ap (option_map (row_at nodes)) is) ∙ absent))

-- what a list of nodes comes to: its shape and its rows
pub record Comes (nodes : List Node) (first count : ℕ) (entries : List (Ip × ℕ)) (rows : List Row) : Type 0 where
  pub list : IsListed nodes first count entries
  pub rows_are : rows_from nodes count ≡ rows

-- a node outside of the others gets a client's row and is pushed
pub finished : (nodes n1 n2 n3 : List Node) (first count : ℕ) (entries : List (Ip × ℕ)) (n : ℕ) (row : Row) (ip : Ip) (rest free : List ℕ) → AreNodesBut n n1 first rest free
    → ((k : ℕ) → row_at n1 k ≡ row_at nodes k) → SetsRow n1 n row n2 → Pushes n2 n n3 → row.ip ≡ ip → AllByRecursion (IsOther (row_at nodes) ip) rest
    → ((other : Ip) → number_at entries other ≡ cond (same_ip ip other) (Some n) (found_in (row_at nodes) rest other)) → count ≡ length rest + 1
    → Comes n3 first count entries (map (row_at nodes) rest ++ row ∷ [])
finished nodes n1 n2 n3 first count entries n row ip rest free are same sets push own none numbers counted = record {
  list = record {
    used = rest ++ n ∷ [];
    free = free;
    nodes_are = nodes_are;
    counted = counted_all;
    indexed = λ other. numbers other ∙ sym (found_in-pushed (row_at nodes) (row_at n3) rest n ip rows_same (ap (λ (row : Row). row.ip) new_row_is ∙ own) none other);
  };
  rows_are = rows-used n3 count first (rest ++ n ∷ []) free nodes_are counted_all ∙ map-append (row_at n3) rest (n ∷ [])
      ∙ ap (λ rows. rows ++ row_at n3 n ∷ []) (map-same (row_at nodes) (row_at n3) rest rows_same) ∙ ap (λ row. map (row_at nodes) rest ++ row ∷ []) new_row_is;
}
  where
    nodes_are : AreNodes n3 first (rest ++ n ∷ []) free
    nodes_are = pushed n2 n3 first n rest free (row-AreNodesBut n1 n2 first n row n rest free are sets) push

    counted_all : count ≡ length (rest ++ n ∷ [])
    counted_all = omega (arith, counted, length-append rest (n ∷ []))

    new_row_is : row_at n3 n ≡ row
    new_row_is = push.rows n ∙ sets.to

    still : (ks : List ℕ) → AllByRecursion (λ k. k ≢ n) ks → AllByRecursion (λ k. row_at n3 k ≡ row_at nodes k) ks
    still [] apart = tt
    still (k ∷ ks) apart = (push.rows k ∙ sets.others k apart.0 ∙ same k, still ks apart.1)

    rows_same : AllByRecursion (λ k. row_at n3 k ≡ row_at nodes k) rest
    rows_same = still rest (not_it (0 ∷ rest) n free are.shared.apart).1

-- where a node is taken out it is neither used nor free
pub taken_out : (nodes n1 : List Node) (first : ℕ) (node : Node) (n : ℕ) (xs ys free : List ℕ) → AreNodes nodes first (xs ++ n ∷ ys) free → node ≡ node_at nodes n → Unlinks nodes node n1
    → AreNodesBut n n1 first (xs ++ ys) free
taken_out nodes n1 first node n xs ys free are is un = unlinked nodes n1 first xs n ys free are (subst (λ node. Unlinks nodes node n1) is un)

-- the used nodes begin with the oldest
pub record IsFirst (nodes : List Node) (first count : ℕ) (entries : List (Ip × ℕ)) (n : ℕ) : Type 0 where
  pub ys : List ℕ
  pub free : List ℕ
  pub are : AreNodes nodes first (n ∷ ys) free
  pub counted : count ≡ length (n ∷ ys)
  pub indexed : (other : Ip) → number_at entries other ≡ found_in (row_at nodes) (n ∷ ys) other

pub begins : (nodes : List Node) (first count : ℕ) (entries : List (Ip × ℕ)) (n : ℕ) → IsListed nodes first count entries → 0 < count → n ≡ newer_at nodes 0 → IsFirst nodes first count entries n
begins nodes first count entries n listed some is = by listed.used refl
  where
    by : (used : List ℕ) → listed.used ≡ used → IsFirst nodes first count entries n
    by [] at = absurd (omega (arith, some, listed.counted, ap length at))
    by (k ∷ ks) at =
        let here : AreNodes nodes first (k ∷ ks) listed.free = subst (λ used. AreNodes nodes first used listed.free) at listed.nodes_are in
        let same : k ≡ n = sym (is ∙ here.linked.0.0) in
        record {
          ys = ks;
          free = listed.free;
          are = subst (λ k. AreNodes nodes first (k ∷ ks) listed.free) same here;
          counted = listed.counted ∙ ap length at;
          indexed = λ other. listed.indexed other ∙ ap (λ used. found_in (row_at nodes) used other) at ∙ ap (λ k. found_in (row_at nodes) (k ∷ ks) other) same;
        }
