use Rattle.std.proofs.Common.{◌≡◌, ◌+◌, ℕ, sym, ap, ◌∙◌, subst}
use Rattle.std.proofs.lemmas.List.Elements.{All-cons, All-tail}
use mathlib.Core.List.{IsPrefix}
use Rattle.turnstile.specs.Histories.{times, times_of_all}
use Rattle.turnstile.proofs.door.Turnstile.close.Goals as goal

pub gather-requires-clause-all_own : goal.gather-requires-clause-all_own
gather-requires-clause-all_own g c = All-tail (λ seat. seat.door ≡ c.args.self) c.args.first c.args.rest.items c.requires.own

pub returns-clause-state : goal.returns-clause-state
returns-clause-state g c o is_open = c.end.ensures.state_is o (c.gather.ensures.opening ∙ (ap (λ v. v.opening) c.first.view_is ∙ is_open))

pub returns-clause-history : goal.returns-clause-history
returns-clause-history g c o is_open = c.end.ensures.legal o (c.gather.ensures.opening ∙ (ap (λ v. v.opening) c.first.view_is ∙ is_open))

pub returns-clause-fronts : goal.returns-clause-fronts
returns-clause-fronts g c =
    let journal = g.O.Object.journal c.end.result in
    All-cons (λ seat. IsPrefix seat.front journal) c.args.first c.args.rest.items
    (subst (λ l. IsPrefix l journal) (c.gather.ensures.front ∙ ap (λ v. v.front) c.first.view_is) c.end.ensures.seen)
    (c.gather.ensures.fronts journal c.end.ensures.heard)

pub returns-clause-once : goal.returns-clause-once
returns-clause-once g c place =
    let own : times place c.args.first.own ≡ times place c.first.inside.inner.me.0.own = ap (λ v. times place v.own) (sym c.first.view_is) in
    let all = c.gather.ensures.calls place in
    ap (λ (n : ℕ). n + times_of_all place c.args.rest.items) own ∙ (sym all ∙ c.end.ensures.once place)

pub returns-clause-short : goal.returns-clause-short
returns-clause-short g c = c.end.ensures.short
