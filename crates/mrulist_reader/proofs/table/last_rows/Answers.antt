use Rattle.std.proofs.Common.{◌≡◌, ℕ, drop, ap, sym, ◌∙◌, arith}
use Rattle.mrulist_reader.proofs.TableLemmas.{lasting, with_rows-are}
use Rattle.mrulist_reader.proofs.table.last_rows.Goals as goal

pub returns : goal.returns
returns c =
    let all : c.loop-left.left ≡ 0 = omega arith in
    c.reverse.ensures.items ∙ c.loop-left.invariant.rows ∙ ap (λ (left : ℕ). lasting (drop left c.args.told.now)) all
    ∙ sym (with_rows-are c.args.told.now)
