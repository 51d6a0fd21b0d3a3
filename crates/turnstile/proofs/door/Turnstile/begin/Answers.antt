use Rattle.std.proofs.Common.{◌≡◌, [], ◌∷◌, ◌++◌, List, sym, ap, ◌∙◌, subst}
use Rattle.turnstile.proofs.Keeps.{begins}
use Rattle.turnstile.specs.Turns.{InOneHistory, first_seen}
use Rattle.atomic_table.specs.Table.{opening}
use Rattle.turnstile.proofs.door.Turnstile.begin.Goals as goal

pub new-requires : goal.new-requires
new-requires g c =
    let only : c.push_reserved.new.self.items ≡ c.args.object ∷ [] = c.push_reserved.ensures.items ∙ ap (λ l. l ++ c.args.object ∷ []) (c.reserve.ensures.items ∙ c.new-slots.ensures.items) in
    subst (λ (z : List g.row.O.Denot × g.row.O.Denot). InOneHistory g.O.Object.journal g.O.Object.state g.O.Object.next g.O.Object.refusal (opening (0 ∷ 0 ∷ 0 ∷ []) z.0 (first_seen (g.O.Object.state z.1))))
    (λ i. (sym only i, sym c.of-was.ensures i)) (begins g.O.Object.journal g.O.Object.state g.O.Object.next g.O.Object.refusal c.args.object c.requires)
