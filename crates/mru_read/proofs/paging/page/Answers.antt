use Rattle.std.proofs.Common.{◌≡◌, ◌∙◌, ◌+◌, ◌*◌, ◌≤◌, ap, sym, subst, length, List, refl}
use Rattle.std.specs.Prelude.{Some, find}
use Rattle.mru_items.specs.declared.pair.Pair.{Pair}
use Rattle.mru_read.specs.declared.pages.Page.{Page}
use Rattle.mru_read.specs.Pages.{page_parts, stands_in}
use Rattle.mru_read.specs.Walks.{start_at}
use Rattle.mru_read.proofs.StartLemmas.{cost-of, made-is, made-of, not-none, not-refused, page-few, page-made, page-none, page-some, place-is, start-is, start-nowhere}
use Rattle.mru_read.proofs.paging.page.Goals as goal

pub returns-then-is_nowhere-clause-refused : goal.returns-then-is_nowhere-clause-refused
returns-then-is_nowhere-clause-refused g c =
    let rows = g.R.Recency.rows c.args.list.now in
    let request = c.args.request.now in
    let confirmed = c.first_in_place-confirmed.result in
    let found : confirmed ≡ find (stands_in rows) request.pairs = c.first_in_place-confirmed.ensures.pair ∙ ap (find (stands_in rows)) c.as_slice.ensures.same in
    let none = page-none rows request c.args.now (start-nowhere rows request.pairs confirmed found (sym c.is_nowhere.ensures ∙ c.if-is_nowhere.true)) in
    (λ _. none, λ _. refl)

pub taken_rows-requires-clause-place : goal.taken_rows-requires-clause-place
taken_rows-requires-clause-place g c =
    let rows = g.R.Recency.rows c.args.list.now in
    let request = c.args.request.now in
    let confirmed = c.first_in_place-confirmed.result in
    let found : confirmed ≡ find (stands_in rows) request.pairs = c.first_in_place-confirmed.ensures.pair ∙ ap (find (stands_in rows)) c.as_slice.ensures.same in
    (place-is rows request.pairs confirmed c.requires.pairs found).0

pub taken_rows-requires-clause-pair : goal.taken_rows-requires-clause-pair
taken_rows-requires-clause-pair g c =
    let rows = g.R.Recency.rows c.args.list.now in
    let request = c.args.request.now in
    let confirmed = c.first_in_place-confirmed.result in
    let found : confirmed ≡ find (stands_in rows) request.pairs = c.first_in_place-confirmed.ensures.pair ∙ ap (find (stands_in rows)) c.as_slice.ensures.same in
    (place-is rows request.pairs confirmed c.requires.pairs found).1

pub returns-in_err-taken-clause-refused : goal.returns-in_err-taken-clause-refused
returns-in_err-taken-clause-refused g c =
    let rows = g.R.Recency.rows c.args.list.now in
    let request = c.args.request.now in
    let confirmed = c.first_in_place-confirmed.result in
    let found : confirmed ≡ find (stands_in rows) request.pairs = c.first_in_place-confirmed.ensures.pair ∙ ap (find (stands_in rows)) c.as_slice.ensures.same in
    let start = start-is rows request.pairs confirmed found (sym c.is_nowhere.ensures ∙ c.if-is_nowhere.false) in
    let some = page-some rows request (start_at confirmed) c.args.now start in
    (λ is. absurd (not-refused c.from_residual.result c.from_residual.ensures.1 is), λ none. absurd (not-none _ _ some none))

pub returns-in_err-taken-clause-cost : goal.returns-in_err-taken-clause-cost
returns-in_err-taken-clause-cost g c =
    let rows = g.R.Recency.rows c.args.list.now in
    let request = c.args.request.now in
    let confirmed = c.first_in_place-confirmed.result in
    let found : confirmed ≡ find (stands_in rows) request.pairs = c.first_in_place-confirmed.ensures.pair ∙ ap (find (stands_in rows)) c.as_slice.ensures.same in
    let start = start-is rows request.pairs confirmed found (sym c.is_nowhere.ensures ∙ c.if-is_nowhere.false) in
    let looked : c.first_in_place-confirmed.new.steps ≤ c.args.steps.now + length request.pairs * g.R.Recency.find_steps c.args.list.now =
    subst (λ (them : List Pair). c.first_in_place-confirmed.new.steps ≤ c.args.steps.now + length them * g.R.Recency.find_steps c.args.list.now) c.as_slice.ensures.same c.first_in_place-confirmed.ensures.cost in
    cost-of rows request (start_at confirmed) c.args.steps.now c.first_in_place-confirmed.new.steps c.taken_rows.new.steps (length request.pairs * g.R.Recency.find_steps c.args.list.now) (g.R.Recency.newer_steps c.args.list.now)
    start looked c.in_err-taken.ensures.cost

pub returns-clause-page : goal.returns-clause-page
returns-clause-page g c =
    let rows = g.R.Recency.rows c.args.list.now in
    let request = c.args.request.now in
    let confirmed = c.first_in_place-confirmed.result in
    let found : confirmed ≡ find (stands_in rows) request.pairs = c.first_in_place-confirmed.ensures.pair ∙ ap (find (stands_in rows)) c.as_slice.ensures.same in
    let start = start-is rows request.pairs confirmed found (sym c.is_nowhere.ensures ∙ c.if-is_nowhere.false) in
    let taken = c.in_ok-taken.taken.rows.items in
    let ended = c.in_ok-taken.taken.ended in
    let now = c.args.now in
    let page = made-of rows confirmed taken c.of.result ended now c.newest_last.result c.of.ensures c.newest_last.ensures in
    page-made rows request confirmed taken ended now start c.in_ok-taken.ensures.taken ∙ ap (λ (it : Page). Some it) page

pub returns-clause-refused : goal.returns-clause-refused
returns-clause-refused g c =
    let rows = g.R.Recency.rows c.args.list.now in
    let request = c.args.request.now in
    let confirmed = c.first_in_place-confirmed.result in
    let found : confirmed ≡ find (stands_in rows) request.pairs = c.first_in_place-confirmed.ensures.pair ∙ ap (find (stands_in rows)) c.as_slice.ensures.same in
    let start = start-is rows request.pairs confirmed found (sym c.is_nowhere.ensures ∙ c.if-is_nowhere.false) in
    let some = page-some rows request (start_at confirmed) c.args.now start in
    (λ is. absurd cc, λ none. absurd (not-none _ _ some none))

pub returns-clause-few : goal.returns-clause-few
returns-clause-few g c =
    let rows = g.R.Recency.rows c.args.list.now in
    let request = c.args.request.now in
    let confirmed = c.first_in_place-confirmed.result in
    let found : confirmed ≡ find (stands_in rows) request.pairs = c.first_in_place-confirmed.ensures.pair ∙ ap (find (stands_in rows)) c.as_slice.ensures.same in
    let start = start-is rows request.pairs confirmed found (sym c.is_nowhere.ensures ∙ c.if-is_nowhere.false) in
    let taken = c.in_ok-taken.taken.rows.items in
    let ended = c.in_ok-taken.taken.ended in
    let now = c.args.now in
    let page = made-of rows confirmed taken c.of.result ended now c.newest_last.result c.of.ensures c.newest_last.ensures in
    subst (λ (it : Page). page_parts it ≤ request.frags) (sym (made-is rows request confirmed taken ended now c.in_ok-taken.ensures.taken) ∙ page)
    (page-few rows request confirmed now c.requires (place-is rows request.pairs confirmed c.requires.pairs found).1)

pub returns-clause-tellable : goal.returns-clause-tellable
returns-clause-tellable g c =
    let rows = g.R.Recency.rows c.args.list.now in
    let request = c.args.request.now in
    let confirmed = c.first_in_place-confirmed.result in
    let found : confirmed ≡ find (stands_in rows) request.pairs = c.first_in_place-confirmed.ensures.pair ∙ ap (find (stands_in rows)) c.as_slice.ensures.same in
    record {
      rows = rw c.of.ensures c.in_ok-taken.ensures.taken.tellable;
      confirmed = (place-is rows request.pairs confirmed c.requires.pairs found).1;
    }

pub returns-clause-cost : goal.returns-clause-cost
returns-clause-cost g c =
    let rows = g.R.Recency.rows c.args.list.now in
    let request = c.args.request.now in
    let confirmed = c.first_in_place-confirmed.result in
    let found : confirmed ≡ find (stands_in rows) request.pairs = c.first_in_place-confirmed.ensures.pair ∙ ap (find (stands_in rows)) c.as_slice.ensures.same in
    let start = start-is rows request.pairs confirmed found (sym c.is_nowhere.ensures ∙ c.if-is_nowhere.false) in
    let looked : c.first_in_place-confirmed.new.steps ≤ c.args.steps.now + length request.pairs * g.R.Recency.find_steps c.args.list.now =
    subst (λ (them : List Pair). c.first_in_place-confirmed.new.steps ≤ c.args.steps.now + length them * g.R.Recency.find_steps c.args.list.now) c.as_slice.ensures.same c.first_in_place-confirmed.ensures.cost in
    cost-of rows request (start_at confirmed) c.args.steps.now c.first_in_place-confirmed.new.steps c.taken_rows.new.steps (length request.pairs * g.R.Recency.find_steps c.args.list.now) (g.R.Recency.newer_steps c.args.list.now)
    start looked c.in_ok-taken.ensures.cost
