use Rattle.recency_links.proofs.NodeLemmas as nodes
