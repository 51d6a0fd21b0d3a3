use Rattle.std.proofs.Common.{◌≡◌, ◌∙◌, ◌++◌, ◌∷◌, [], ap, sym, subst, arith, length, refl}
use Rattle.std.specs.Prelude.{◌&&◌, ◌+◌, nat_le}
use Rattle.mru_read.specs.Pages.{is_within, rows_from}
use Rattle.mru_read.specs.Sizes.{parts_in}
use Rattle.mru_read.specs.Walks.{IsListed, IsNext, left_after, start_at}
use Rattle.mru_read.proofs.EndingLemmas.{look-had, look-is, look-refused, look-spent, taken-all, turn-is, turn-refused}
use Rattle.mru_read.proofs.TakingLemmas.{from-left, had-none, listed-place, spent-at, spent-begins, spent-goes_on, spent-walk, walk-begins}
use Rattle.mru_read.proofs.taking.taken_rows.Goals as goal

pub next_passing-next-requires-clause-listed : goal.next_passing-next-requires-clause-listed
next_passing-next-requires-clause-listed g c =
    let rows = g.R.Recency.rows c.args.list.now in
    subst (IsListed rows) (sym c.place_of.ensures) (listed-place rows c.args.confirmed.now c.requires.place)

pub loop-next-init : goal.loop-next-init
loop-next-init g c =
    let rows = g.R.Recency.rows c.args.list.now in
    let confirmed = c.args.confirmed.now in
    let place = c.place_of.ensures in
    let next = c.next_passing-next.result in
    record {
      walk = walk-begins rows c.args.request.now confirmed next c.front_size-size.result c.new-rows.result.items c.new-rows.ensures.items c.requires.distinct c.requires.place
          (subst (λ it. IsNext rows c.args.request.now.filter (left_after rows it) next) place c.next_passing-next.ensures.next) c.next_passing-next.ensures.tellable c.front_size-size.ensures.measure;
      had = had-none rows c.args.request.now (start_at confirmed) c.new-rows.result.items c.new-rows.ensures.items;
      spent = spent-begins rows (rows_from rows (start_at confirmed)) (left_after rows c.place_of.result) next c.args.steps.now c.next_passing-next.new.steps (g.R.Recency.newer_steps c.args.list.now)
          (from-left rows confirmed c.requires.distinct c.requires.place ∙ ap (left_after rows) (sym place)) c.next_passing-next.ensures.cost c.next_passing-next.ensures.cost_at_end;
      bounds = c.front_size-size.ensures.bounds;
      counted = c.next_passing-next.ensures.counted;
    }

pub returns-then-not-is_allowed-clause-taken : goal.returns-then-not-is_allowed-clause-taken
returns-then-not-is_allowed-clause-taken g c =
    let rows = g.R.Recency.rows c.args.list.now in
    let request = c.args.request.now in
    let confirmed = c.args.confirmed.now in
    let taken = c.loop-next.rows.items in
    let size = c.loop-next.size in
    let row = c.in-Some.row in
    let grown = c.with_row-grown.result in
    let count : c.len.result ≡ length taken = omega (arith, c.len.ensures, c.loop-next.rows.ok.0) in
    let turn = turn-is rows request confirmed taken c.loop-next.next row size grown c.len.result c.requires.read c.requires.pair c.loop-next.invariant.walk c.loop-next.invariant.had c.in-Some.is count c.with_row-grown.ensures.measure in
    let again : c.len-in-Some.result ≡ length taken = omega (arith, c.len-in-Some.ensures, c.loop-next.rows.ok.0) in
    turn-refused rows request confirmed taken row size grown c.len-in-Some.result turn again (sym c.is_allowed.ensures ∙ c.if-not-is_allowed.true)

pub returns-then-not-is_allowed-clause-cost : goal.returns-then-not-is_allowed-clause-cost
returns-then-not-is_allowed-clause-cost g c =
    spent-walk (g.R.Recency.rows c.args.list.now) c.args.request.now (start_at c.args.confirmed.now) c.loop-next.rows.items c.loop-next.next c.loop-next.size c.args.steps.now c.loop-next.steps
    (g.R.Recency.newer_steps c.args.list.now) c.loop-next.invariant.walk c.loop-next.invariant.had c.loop-next.invariant.spent

pub returns-then-not-is_allowed-2-clause-taken : goal.returns-then-not-is_allowed-2-clause-taken
returns-then-not-is_allowed-2-clause-taken g c =
    let rows = g.R.Recency.rows c.args.list.now in
    let request = c.args.request.now in
    let confirmed = c.args.confirmed.now in
    let taken = c.loop-next.rows.items in
    let size = c.loop-next.size in
    let row = c.in-Some.row in
    let grown = c.with_row-grown.result in
    let count : c.len.result ≡ length taken = omega (arith, c.len.ensures, c.loop-next.rows.ok.0) in
    let turn = turn-is rows request confirmed taken c.loop-next.next row size grown c.len.result c.requires.read c.requires.pair c.loop-next.invariant.walk c.loop-next.invariant.had c.in-Some.is count c.with_row-grown.ensures.measure in
    let next = c.next_passing-next-in-Some.result in
    let is_last = c.is_none.result in
    let told = c.told_size-told.result in
    let again : c.len-in-Some-2.result ≡ length taken = omega (arith, c.len-in-Some-2.ensures, c.loop-next.rows.ok.0) in
    let look = look-is rows request confirmed taken row next is_last size grown told c.newest_last-newest.result turn c.next_passing-next-in-Some.ensures.next c.next_passing-next-in-Some.ensures.tellable
    c.is_none.ensures c.newest_last-newest.ensures c.told_size-told.ensures in
    look-refused rows request confirmed taken row next is_last size grown told c.len-in-Some-2.result turn look again (sym c.is_allowed-in-Some.ensures ∙ c.if-not-is_allowed-2.true)

pub returns-then-not-is_allowed-2-clause-cost : goal.returns-then-not-is_allowed-2-clause-cost
returns-then-not-is_allowed-2-clause-cost g c =
    let rows = g.R.Recency.rows c.args.list.now in
    let request = c.args.request.now in
    let confirmed = c.args.confirmed.now in
    let taken = c.loop-next.rows.items in
    let size = c.loop-next.size in
    let row = c.in-Some.row in
    let grown = c.with_row-grown.result in
    let count : c.len.result ≡ length taken = omega (arith, c.len.ensures, c.loop-next.rows.ok.0) in
    let turn = turn-is rows request confirmed taken c.loop-next.next row size grown c.len.result c.requires.read c.requires.pair c.loop-next.invariant.walk c.loop-next.invariant.had c.in-Some.is count c.with_row-grown.ensures.measure in
    let next = c.next_passing-next-in-Some.result in
    let is_last = c.is_none.result in
    let told = c.told_size-told.result in
    let again : c.len-in-Some-2.result ≡ length taken = omega (arith, c.len-in-Some-2.ensures, c.loop-next.rows.ok.0) in
    let look = look-is rows request confirmed taken row next is_last size grown told c.newest_last-newest.result turn c.next_passing-next-in-Some.ensures.next c.next_passing-next-in-Some.ensures.tellable
    c.is_none.ensures c.newest_last-newest.ensures c.told_size-told.ensures in
    let width = g.R.Recency.newer_steps c.args.list.now in
    let here = spent-at rows (rows_from rows (start_at confirmed)) c.loop-next.next row c.args.steps.now c.loop-next.steps width c.in-Some.is c.loop-next.invariant.spent in
    let spent = spent-goes_on rows (rows_from rows (start_at confirmed)) row next c.args.steps.now c.loop-next.steps c.next_passing-next-in-Some.new.steps width here
    c.next_passing-next-in-Some.ensures.cost c.next_passing-next-in-Some.ensures.cost_at_end in
    let same : c.len-in-Some.result ≡ c.len-in-Some-2.result = omega (arith, c.len-in-Some.ensures, c.len-in-Some-2.ensures) in
    look-spent rows request confirmed taken row next is_last (is_within request.limit (c.len-in-Some-2.result + 1)) size grown told c.args.steps.now c.next_passing-next-in-Some.new.steps width turn look spent
    (ap (λ n. is_within request.limit (n + 1) && nat_le (parts_in grown) request.frags) (sym same) ∙ sym c.is_allowed.ensures ∙ c.if-not-is_allowed.false)
    (sym c.is_allowed-in-Some.ensures ∙ c.if-not-is_allowed-2.true)

pub returns-in_err-push-clause-cost : goal.returns-in_err-push-clause-cost
returns-in_err-push-clause-cost g c =
    let rows = g.R.Recency.rows c.args.list.now in
    let request = c.args.request.now in
    let confirmed = c.args.confirmed.now in
    let taken = c.loop-next.rows.items in
    let size = c.loop-next.size in
    let row = c.in-Some.row in
    let grown = c.with_row-grown.result in
    let count : c.len.result ≡ length taken = omega (arith, c.len.ensures, c.loop-next.rows.ok.0) in
    let turn = turn-is rows request confirmed taken c.loop-next.next row size grown c.len.result c.requires.read c.requires.pair c.loop-next.invariant.walk c.loop-next.invariant.had c.in-Some.is count c.with_row-grown.ensures.measure in
    let next = c.next_passing-next-in-Some.result in
    let is_last = c.is_none.result in
    let told = c.told_size-told.result in
    let again : c.len-in-Some-2.result ≡ length taken = omega (arith, c.len-in-Some-2.ensures, c.loop-next.rows.ok.0) in
    let look = look-is rows request confirmed taken row next is_last size grown told c.newest_last-newest.result turn c.next_passing-next-in-Some.ensures.next c.next_passing-next-in-Some.ensures.tellable
    c.is_none.ensures c.newest_last-newest.ensures c.told_size-told.ensures in
    let width = g.R.Recency.newer_steps c.args.list.now in
    let here = spent-at rows (rows_from rows (start_at confirmed)) c.loop-next.next row c.args.steps.now c.loop-next.steps width c.in-Some.is c.loop-next.invariant.spent in
    let spent = spent-goes_on rows (rows_from rows (start_at confirmed)) row next c.args.steps.now c.loop-next.steps c.next_passing-next-in-Some.new.steps width here
    c.next_passing-next-in-Some.ensures.cost c.next_passing-next-in-Some.ensures.cost_at_end in
    let had = look-had rows request confirmed taken (taken ++ row ∷ []) row next is_last size grown told c.len-in-Some-2.result turn look again refl (sym c.is_allowed-in-Some.ensures ∙ c.if-not-is_allowed-2.false) in
    spent-walk rows request (start_at confirmed) (taken ++ row ∷ []) next grown c.args.steps.now c.next_passing-next-in-Some.new.steps width had.0 had.1 spent

pub loop-next-preserved : goal.loop-next-preserved
loop-next-preserved g c =
    let rows = g.R.Recency.rows c.args.list.now in
    let request = c.args.request.now in
    let confirmed = c.args.confirmed.now in
    let taken = c.loop-next.rows.items in
    let size = c.loop-next.size in
    let row = c.in-Some.row in
    let grown = c.with_row-grown.result in
    let count : c.len.result ≡ length taken = omega (arith, c.len.ensures, c.loop-next.rows.ok.0) in
    let turn = turn-is rows request confirmed taken c.loop-next.next row size grown c.len.result c.requires.read c.requires.pair c.loop-next.invariant.walk c.loop-next.invariant.had c.in-Some.is count c.with_row-grown.ensures.measure in
    let next = c.next_passing-next-in-Some.result in
    let is_last = c.is_none.result in
    let told = c.told_size-told.result in
    let again : c.len-in-Some-2.result ≡ length taken = omega (arith, c.len-in-Some-2.ensures, c.loop-next.rows.ok.0) in
    let look = look-is rows request confirmed taken row next is_last size grown told c.newest_last-newest.result turn c.next_passing-next-in-Some.ensures.next c.next_passing-next-in-Some.ensures.tellable
    c.is_none.ensures c.newest_last-newest.ensures c.told_size-told.ensures in
    let width = g.R.Recency.newer_steps c.args.list.now in
    let here = spent-at rows (rows_from rows (start_at confirmed)) c.loop-next.next row c.args.steps.now c.loop-next.steps width c.in-Some.is c.loop-next.invariant.spent in
    let spent = spent-goes_on rows (rows_from rows (start_at confirmed)) row next c.args.steps.now c.loop-next.steps c.next_passing-next-in-Some.new.steps width here
    c.next_passing-next-in-Some.ensures.cost c.next_passing-next-in-Some.ensures.cost_at_end in
    let had = look-had rows request confirmed taken c.push.new.self.items row next is_last size grown told c.len-in-Some-2.result turn look again c.in_ok-push.ensures.items (sym c.is_allowed-in-Some.ensures ∙ c.if-not-is_allowed-2.false) in
    record {
      walk = had.0;
      had = had.1;
      spent = spent;
      bounds = c.with_row-grown.ensures.bounds;
      counted = omega (arith, c.loop-next.invariant.counted, c.next_passing-next-in-Some.ensures.counted);
    }

pub returns-clause-taken : goal.returns-clause-taken
returns-clause-taken g c =
    taken-all (g.R.Recency.rows c.args.list.now) c.args.request.now (start_at c.args.confirmed.now) c.loop-next.rows.items c.loop-next.next c.loop-next.size c.in_default.is c.loop-next.invariant.walk c.loop-next.invariant.had

pub returns-clause-cost : goal.returns-clause-cost
returns-clause-cost g c =
    spent-walk (g.R.Recency.rows c.args.list.now) c.args.request.now (start_at c.args.confirmed.now) c.loop-next.rows.items c.loop-next.next c.loop-next.size c.args.steps.now c.loop-next.steps
    (g.R.Recency.newer_steps c.args.list.now) c.loop-next.invariant.walk c.loop-next.invariant.had c.loop-next.invariant.spent
