-- How far the code has come with the places that a client's datagrams tell of.
use Rattle.std.specs.Prelude.{ℕ, Option, List, ◌++◌, drop, map}
use Rattle.net_addr.specs.declared.addr.Addr.{Addr}
use Rattle.worker.specs.declared.act.Act.{Act}
use Rattle.wire.specs.Placing.{Offer, places_by}
use Rattle.wire.specs.declared.placing.Kept.{Kept}
use Rattle.wire.specs.declared.placing.Placing.{Placing}
use Rattle.wire.specs.declared.wire.WireEvent.{WireEvent}

-- datagrams that were given, by their places and octets
abbrev pub offers_of : List Kept → List Offer
offers_of kept = map (λ one. record { place = one.place; octets = one.octets }) kept

-- the places that were found so far, and then those for what the client takes from here on
abbrev pub placed : Addr → List Act → Placing → List WireEvent → List (Option ℕ)
placed client acts placing wire =
    placing.places.items ++ places_by client (drop placing.begun acts) placing.place (offers_of placing.offers.items) wire
