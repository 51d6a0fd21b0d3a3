use Rattle.std.proofs.Common.{◌≡◌, ◌++◌, ◌∷◌, drop}
use Rattle.edge_traits.specs.declared.port.Event.TheVariants.{Sent}
use Rattle.wire.specs.declared.wire.WireEvent.TheVariants.{Client}
use Rattle.drawn_link.specs.Services.{acts_of, grams_in, service_events}
use Rattle.drawn_link.proofs.settling.news_of.Given as goal

-- what is told of the services before this one, and what is to be told of the others, is what is told of all
abbrev pub invariant-loop-service : goal.invariant-loop-service
invariant-loop-service l = record {
  log : l.news.log.items ++ service_events l.visit.from l.visit.octets.now (drop l.service-index l.services) ≡ Client (Sent l.to l.visit.octets.now) ∷ service_events l.visit.from l.visit.octets.now l.services;
  acts : l.news.acts.items ++ acts_of (drop l.service-index l.services) ≡ acts_of l.services;
  answers : l.news.answers.items ++ grams_in (drop l.service-index l.services) ≡ grams_in l.services;
}
