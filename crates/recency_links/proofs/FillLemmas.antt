-- What a client list in nodes begins with.
use Rattle.std.proofs.Common.{◌≡◌, ◌≢◌, ℕ, zero, suc, ◌+◌, ◌<◌, List, [], ◌∷◌, ◌++◌, length, None, refl, sym, ap, subst, ◌∙◌, arith}
use Rattle.std.proofs.lemmas.List.{length_push}
use Rattle.net_addr.specs.declared.addr.Ip.{Ip}
use Rattle.recency_links.specs.declared.node.Node.{Node}
use Rattle.recency_links.specs.Nodes.{AreNodes}
use Rattle.recency_links.specs.Numbers.{number_at}
use Rattle.recency_links.specs.Lists.{IsListed, search_in}
use Rattle.recency_links.proofs.LinkLemmas.{grown}

-- node 0 alone is an empty list with no free node
pub single : (node : Node) → node.older ≡ 0 → node.newer ≡ 0 → IsListed (node ∷ []) 0 0 []
single node older newer = record {
  used = [];
  free = [];
  nodes_are = record {
    shared = record { apart = (tt, tt); within = (omega arith, tt); all = refl };
    linked = (newer, older);
    chain = refl;
  };
  counted = refl;
  indexed = λ ip. refl;
}

-- with one more free node, linked to the first one before, it is the first one
pub grown-IsListed : (nodes : List Node) (node : Node) (first : ℕ) → IsListed nodes first 0 [] → length nodes ≡ first + 1 → node.newer ≡ first → IsListed (nodes ++ node ∷ []) (first + 1) 0 []
grown-IsListed nodes node first listed is next = by listed.used refl
  where
    by : (used : List ℕ) → listed.used ≡ used → IsListed (nodes ++ node ∷ []) (first + 1) 0 []
    by [] at = record {
      used = [];
      free = length nodes ∷ listed.free;
      nodes_are = subst (λ n. AreNodes (nodes ++ node ∷ []) n [] (length nodes ∷ listed.free)) is
          (grown nodes node first [] listed.free (subst (λ used. AreNodes nodes first used listed.free) at listed.nodes_are) next);
      counted = refl;
      indexed = λ ip. refl;
    }
    by (k ∷ ks) at = absurd (omega (arith, listed.counted, ap length at))
