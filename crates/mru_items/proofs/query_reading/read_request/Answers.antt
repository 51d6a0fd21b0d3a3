use Rattle.mru_items.proofs.QueryLemmas.{read_of-same}
use Rattle.mru_items.proofs.query_reading.read_request.Goals as goal

pub returns-in-Some-clause-only : goal.returns-in-Some-clause-only
returns-in-Some-clause-only c =
    λ request is.
    let asks = c.in-Some.ensures.exactly.1 (record { filter = request.filter; limit = request.limit; frags = request.frags }) is.asks in
    rw (read_of-same c.in-Some.query request asks) at (c.read_behind.ensures.only request.pairs is.pairs)

pub returns-in-Some-clause-refused : goal.returns-in-Some-clause-refused
returns-in-Some-clause-refused c = λ bad request is. c.read_behind.ensures.refused bad request.pairs is.pairs

pub returns-in-None-clause-only : goal.returns-in-None-clause-only
returns-in-None-clause-only c =
    λ request is. absurd (c.in-None.ensures.exactly (record { filter = request.filter; limit = request.limit; frags = request.frags }) is.asks)

pub returns-in-None-clause-refused : goal.returns-in-None-clause-refused
returns-in-None-clause-refused c =
    λ _ request is. c.in-None.ensures.exactly (record { filter = request.filter; limit = request.limit; frags = request.frags }) is.asks
