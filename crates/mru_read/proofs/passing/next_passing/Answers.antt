use Rattle.std.proofs.Common.{◌∷◌, ◌∙◌, sym, ap, drop, arith, length, List}
use Rattle.recency.specs.declared.row.Row.{Row}
use Rattle.mru_read.specs.Walks.{left_after, rows_behind}
use Rattle.mru_read.proofs.WalkLemmas.{first-left, next-none, next-taken, oldest-none, oldest-some, one-read, skipped-none, skipped-one, skipped-to}
use Rattle.mru_read.proofs.passing.next_passing.Goals as goal

pub loop-row-init : goal.loop-row-init
loop-row-init g c = record {
  listed = c.requires.listed;
  skipped = skipped-none c.args.wanted.now (left_after (g.R.Recency.rows c.args.list.now) c.args.from);
  counted = omega arith;
  cost = omega arith;
}

pub returns-then-passes-clause-next : goal.returns-then-passes-clause-next
returns-then-passes-clause-next g c =
    let rows = g.R.Recency.rows c.args.list.now in
    let left = left_after rows c.loop-row.place in
    let is = oldest-some left c.in-Some.row (sym c.in-Some.ensures.row) in
    let first = first-left rows c.loop-row.place c.in-Some.row (drop 1 left) c.requires.distinct is in
    next-taken rows c.args.wanted.now (left_after rows c.args.from) c.in-Some.row (drop 1 left) (sym c.passes.ensures ∙ c.if-passes.true)
    (skipped-to c.args.wanted.now (left_after rows c.args.from) left _ is c.loop-row.invariant.skipped) first.0 first.1

pub returns-then-passes-clause-cost : goal.returns-then-passes-clause-cost
returns-then-passes-clause-cost g c =
    let rows = g.R.Recency.rows c.args.list.now in
    let left = left_after rows c.loop-row.place in
    let is = oldest-some left c.in-Some.row (sym c.in-Some.ensures.row) in
    let first = first-left rows c.loop-row.place c.in-Some.row (drop 1 left) c.requires.distinct is in
    one-read left (rows_behind rows c.in-Some.row.ip) c.in-Some.row _ c.loop-row.steps c.row_after.new.steps (g.R.Recency.newer_steps c.args.list.now)
    (is ∙ ap (λ (them : List Row). c.in-Some.row ∷ them) (sym first.0)) c.loop-row.invariant.cost c.in-Some.ensures.cost

pub loop-row-smaller : goal.loop-row-smaller
loop-row-smaller g c =
    let rows = g.R.Recency.rows c.args.list.now in
    let left = left_after rows c.loop-row.place in
    let is = oldest-some left c.in-Some.row (sym c.in-Some.ensures.row) in
    let first = first-left rows c.loop-row.place c.in-Some.row (drop 1 left) c.requires.distinct is in
    omega (arith, ap (λ (them : List Row). length them) is, ap (λ (them : List Row). length them) first.0)

pub loop-row-preserved : goal.loop-row-preserved
loop-row-preserved g c =
    let rows = g.R.Recency.rows c.args.list.now in
    let left = left_after rows c.loop-row.place in
    let is = oldest-some left c.in-Some.row (sym c.in-Some.ensures.row) in
    let first = first-left rows c.loop-row.place c.in-Some.row (drop 1 left) c.requires.distinct is in
    let behind = is ∙ ap (λ (them : List Row). c.in-Some.row ∷ them) (sym first.0) in
    record {
      listed = first.1;
      skipped = skipped-one c.args.wanted.now (left_after rows c.args.from) c.in-Some.row (rows_behind rows c.in-Some.row.ip) (sym c.passes.ensures ∙ c.if-passes.false)
          (skipped-to c.args.wanted.now (left_after rows c.args.from) left _ behind c.loop-row.invariant.skipped);
      counted = omega (arith, c.in-Some.ensures.counted, c.loop-row.invariant.counted);
      cost = one-read left (rows_behind rows c.in-Some.row.ip) c.in-Some.row _ c.loop-row.steps c.row_after.new.steps (g.R.Recency.newer_steps c.args.list.now)
          behind c.loop-row.invariant.cost c.in-Some.ensures.cost;
    }

pub returns-clause-next : goal.returns-clause-next
returns-clause-next g c =
    let rows = g.R.Recency.rows c.args.list.now in
    let left = left_after rows c.loop-row.place in
    next-none rows c.args.wanted.now (left_after rows c.args.from) left (oldest-none left (sym c.row_after.ensures.row ∙ c.in_default.is)) c.loop-row.invariant.skipped
