use Rattle.std.proofs.Common.{◌^◌, arith}
use Rattle.std.proofs.lemmas.Nat.{mul-le}
use Rattle.fixed_time.proofs.apart.squared_apart.Goals as goal

pub returns-clause-bound : goal.returns-clause-bound
returns-clause-bound c =
    let apart = c.from-apart.result in
    mul-le apart apart (2 ^ 60) (2 ^ 60) (omega arith) (omega arith)
