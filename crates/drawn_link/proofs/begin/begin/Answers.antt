use Rattle.std.proofs.Common.{◌≡◌, ℕ, arith, subst}
use Rattle.drawn_link.specs.Links.{IsBegun}
use Rattle.draws.specs.declared.clients.TheConstants.{CLIENTS}
use Rattle.drawn_link.proofs.BeginLemmas.{IsBegun-none}
use Rattle.drawn_link.proofs.begin.begin.Goals as goal

pub loop-number-init : goal.loop-number-init
loop-number-init c =
    let begun = c.in_ok-book.ensures in
    let limits = c.limits.ensures in
    IsBegun-none c.in_ok-book.book c.in_ok-record.record c.limits.result c.in_ok-record.ensures limits.mindepth limits.maxdepth limits.minage limits.maxage begun.published begun.rows begun.stamp begun.limits begun.origin begun.journal

pub returns : goal.returns
returns c =
    let all : c.loop-number.number ≡ CLIENTS = omega (arith, c.loop-number-test.false, c.loop-number.auto.number-end) in
    subst (λ (number : ℕ). IsBegun number c.loop-number.book) all c.loop-number.invariant
