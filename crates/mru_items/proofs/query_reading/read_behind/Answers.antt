use Rattle.std.proofs.Common.{inl, ap, Ok}
use Rattle.mru_items.specs.Queries.{read_of}
use Rattle.mru_items.proofs.query_reading.read_behind.Goals as goal

pub returns-in-Some-clause-only : goal.returns-in-Some-clause-only
returns-in-Some-clause-only c =
    let exactly = rw c.in-Some.is at c.in_ok-pairs.ensures.exactly in
    λ pairs named. inl (ap (λ these. Ok (read_of c.args.query these)) (exactly.1 pairs named))

pub returns-in-None-clause-only : goal.returns-in-None-clause-only
returns-in-None-clause-only c =
    let exactly = rw c.in-None.is at c.in_ok-pairs.ensures.exactly in
    λ pairs named. absurd (exactly pairs named)
