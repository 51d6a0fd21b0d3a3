use Rattle.std.proofs.Common.{List, ℕ, ◌+◌, take, Some, sym, ap, subst, ◌∙◌, arith}
use Rattle.server_core.specs.Control.{IsNumberAsked, AreNumbersAsked}
use Rattle.server_core.proofs.ControlLemmas.{AreNumbersAsked-more, AreNumbersAsked-whole, numbers_room}
use Rattle.server_core.proofs.control.numbers_asked.Goals as goal

pub loop-i-init : goal.loop-i-init
loop-i-init c =
    subst (λ (numbers : List ℕ). AreNumbersAsked c.args.assoc (take 0 c.args.items.now) numbers) (sym c.new-numbers.ensures.items) tt

pub loop-i-preserved : goal.loop-i-preserved
loop-i-preserved c =
    let name_is = c.as_slice.ensures.value in
    let number : IsNumberAsked c.args.assoc c.get.result.now.name c.name_number.result = record {
      known = λ is. c.name_number.ensures.known is ∙ ap Some name_is;
      only = λ other is. c.name_number.ensures.only other (is ∙ ap Some (sym name_is));
    } in
    let more = AreNumbersAsked-more _ _ _ c.loop-i.i c.get.result.now _ (omega (arith, c.loop-i-test.true, c.len-i-end.ensures)) c.get.ensures c.loop-i.invariant number in
    subst (λ (numbers : List ℕ). AreNumbersAsked c.args.assoc (take (c.loop-i.i + 1) c.args.items.now) numbers) (sym c.in_ok-push.ensures.items) more

pub of-requires : goal.of-requires
of-requires c = numbers_room _ _ _ c.loop-i.i c.requires c.loop-i.invariant

pub returns : goal.returns
returns c =
    let all = AreNumbersAsked-whole _ _ _ c.loop-i.i (omega (arith, c.loop-i-test.false, c.len-i-end.ensures)) c.loop-i.invariant in
    subst (λ (numbers : List ℕ). AreNumbersAsked c.args.assoc c.args.items.now numbers) (sym c.of.ensures) all
