use Rattle.std.proofs.Common.{◌≡◌, IsSome, Option, true≢false, sym, subst, ◌∙◌}
use Rattle.recency.specs.declared.row.Row.{Row}
use Rattle.recency_links.proofs.ReadingLemmas.{absent-is}
use Rattle.recency_links.proofs.touching.tell_in.Goals as goal

pub tell-requires-clause-number : goal.tell-requires-clause-number
tell-requires-clause-number c = sym c.number_of.ensures ∙ c.in-Some.is

pub returns-in-None-clause-rows : goal.returns-in-None-clause-rows
returns-in-None-clause-rows c =
    let P : Option Row → Type 0 = λ found. IsSome found in
    absurd (true≢false (sym (subst P (absent-is c.requires.list c.args.ip.now c.number_of.result c.number_of.ensures c.in-None.is) c.requires.listed)))
