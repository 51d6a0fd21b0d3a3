use Rattle.std.proofs.Common.{◌≡◌, ◌+◌, ◌++◌, ◌∷◌, [], List, length, sym, subst, ap, ◌∙◌, arith, ℕ}
use Rattle.std.proofs.lemmas.List.{length_push}
use Rattle.recency_links.specs.declared.node.Node.{Node}
use Rattle.recency_links.specs.Lists.{IsListed}
use Rattle.recency_links.proofs.FillLemmas.{grown-IsListed, single}
use Rattle.recency_links.proofs.filling.fill.Goals as goal

pub loop-number-init : goal.loop-number-init
loop-number-init c =
    let is = c.push_reserved.ensures.items ∙ ap (λ (nodes : List Node). nodes ++ c.unlinked.result ∷ []) c.requires.empty in
    let P : List Node → Type 0 = λ nodes. IsListed nodes 0 0 [] in
    record {
      list = subst P (sym is) (single c.unlinked.result c.unlinked.ensures.older c.unlinked.ensures.newer);
      nodes = ap length is;
      capacity = c.push_reserved.ensures.capacity;
    }

pub loop-number-preserved : goal.loop-number-preserved
loop-number-preserved c =
    let before = c.loop-number.invariant in
    let P : List Node → Type 0 = λ nodes. IsListed nodes (c.loop-number.number + 1) 0 [] in
    record {
      list = subst P (sym c.push_reserved-in-loop-number.ensures.items) (grown-IsListed c.loop-number.nodes.items c.unlinked-in-loop-number.result c.loop-number.number before.list before.nodes c.unlinked-in-loop-number.ensures.newer);
      nodes = omega (arith, before.nodes, ap length c.push_reserved-in-loop-number.ensures.items, length_push c.loop-number.nodes.items c.unlinked-in-loop-number.result);
      capacity = c.push_reserved-in-loop-number.ensures.capacity ∙ before.capacity;
    }
