use Rattle.std.proofs.Common.{None, [], ◌∷◌, List, ap, ◌∙◌, get_or}
use Rattle.mode6_frame.specs.declared.items.Item.{Item}
use Rattle.ntpq_report.specs.Peers.{only_value}
use Rattle.ntpq_report.proofs.peer_variables.value_in.Goals as goal

-- any item
blank : Item
blank = record { name = []; value = None }

pub returns-in-Some : goal.returns-in-Some
returns-in-Some c =
    let one = get_or c.args.items.now c.in_ok-place.place blank in
    ap only_value (c.in_ok-place.ensures.next blank) ∙ ap (λ (others : List Item). only_value (one ∷ others)) (c.in-Some.ensures.next blank)
