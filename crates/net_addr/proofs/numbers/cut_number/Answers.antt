use Rattle.net_addr.proofs.NumberTextLemmas.{Lacks-at_end, cut_at}
use Rattle.net_addr.proofs.numbers.cut_number.Goals as goal

pub returns-in_default-clause-only : goal.returns-in_default-clause-only
returns-in_default-clause-only c = λ front n small same. absurd (Lacks-at_end c.args.mark c.args.text.now front n c.in_default.ensures.none same)

pub returns-in-Some-read_number-clause-only : goal.returns-in-Some-read_number-clause-only
returns-in-Some-read_number-clause-only c = λ front n small same.
    let cut = cut_at c.args.mark c.args.text.now c.in-Some.place front n c.requires c.in-Some.ensures.within c.in-Some.ensures.marked c.in-Some.ensures.last small same in
    let read = c.read_number.ensures.only n small cut.1 in cc

pub returns-in-None-clause-only : goal.returns-in-None-clause-only
returns-in-None-clause-only c = λ front n small same.
    let cut = cut_at c.args.mark c.args.text.now c.in-Some.place front n c.requires c.in-Some.ensures.within c.in-Some.ensures.marked c.in-Some.ensures.last small same in
    let read = c.read_number.ensures.only n small cut.1 in cc
