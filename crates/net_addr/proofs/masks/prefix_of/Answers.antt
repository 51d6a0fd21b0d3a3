use Rattle.std.proofs.Common.{arith}
use Rattle.std.proofs.lemmas.Bool.Decides.{nat_tests}
use Rattle.net_addr.proofs.NumberLemmas.{cleared-first_bits}
use Rattle.net_addr.proofs.masks.prefix_of.Goals as goal

pub returns-clause-has : goal.returns-clause-has
returns-clause-has c =
    let begins = cleared-first_bits c.args.length c.args.ip.now c.cleared-ip.result c.cleared-ip.ensures.family c.cleared-ip.ensures.number in
    grind (arith, nat_tests)
