use Rattle.std.proofs.Common.{◌≡◌, ◌++◌, [], ◌∷◌, take}
use Rattle.std.specs.Prelude.{map}
use Rattle.edge_traits.specs.declared.port.Event.TheVariants.{Took, Sent}
use Rattle.wire.specs.declared.wire.WireEvent.TheVariants.{Worker}
use Rattle.drawn_link.proofs.settling.News.add.Given as goal

-- the datagrams before this one were told and kept
abbrev pub invariant-loop-place : goal.invariant-loop-place
invariant-loop-place l = record {
  log : l.self.log.items ≡ l.fn.self.log.items ++ Worker (Took l.visit.from l.visit.octets.now) ∷ map (λ gram. Worker (Sent l.visit.from gram)) (take l.place l.service.grams);
  acts : l.self.acts.items ≡ l.fn.self.acts.items ++ l.service.act ∷ [];
  answers : l.self.answers.items ≡ l.fn.self.answers.items ++ take l.place l.service.grams;
}
