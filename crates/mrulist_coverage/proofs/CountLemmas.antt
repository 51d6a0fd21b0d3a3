-- A page of few parts has few rows.
use Rattle.std.proofs.Common.{ℕ, suc, ◌+◌, ◌*◌, ◌^◌, ◌<◌, ◌≤◌, min, List, [], ◌∷◌, ◌++◌, length, replicate, codes, arith, length-append, nat_le}
use Rattle.std.proofs.lemmas.Bool.{cond_both, leb-true}
use Rattle.std.proofs.lemmas.List.{length-map}
use Rattle.std.proofs.lemmas.List.Sums.{sum_by-cons}
use Rattle.mode6_frame.specs.declared.items.Item.{Item}
use Rattle.mode6_frame.specs.declared.message.TheConstants.{MAX_BODY}
use Rattle.mode6_frame.specs.Cuts.{TAG_ITEM_LEN, has_room, lengths_of, parts_count, plain_len, runs_count}
use Rattle.mode6_frame.specs.ItemTexts.{item_text}
use Rattle.mru_items.specs.declared.answer.PageAnswer.{PageAnswer}
use Rattle.mru_items.specs.declared.answer.TheConstants.{NONCE_OCTETS}
use Rattle.mru_items.specs.declared.shown.ShownRow.{ShownRow}
use Rattle.mru_items.specs.Answers.{answer_items, older_items, row_items, rows_items, time_items}
use Rattle.mru_items.specs.Names.{valued}
use Rattle.mru_read.specs.declared.pages.Page.{Page}
use Rattle.mru_read.specs.Pages.{items_of_page, page_parts, shown_row, told_page}

-- each item takes two octets of a run at least
runs-items : (used : ℕ) (lengths : List ℕ) → 2 * length lengths + min used 468 ≤ 468 * runs_count used lengths
runs-items used [] = omega arith
runs-items used (n ∷ lengths) =
    cond_both (has_room (used + (2 + n))) (runs_count (used + (2 + n)) lengths) (1 + runs_count (TAG_ITEM_LEN + (2 + n)) lengths)
    (λ count. 2 * suc (length lengths) + min used 468 ≤ 468 * count)
    (λ room. omega (arith, runs-items (used + (2 + n)) lengths, leb-true _ _ room))
    (λ _. omega (arith, runs-items (TAG_ITEM_LEN + (2 + n)) lengths))

plain-items : (lengths : List ℕ) → 2 * length lengths ≤ plain_len lengths
plain-items [] = omega arith
plain-items (n ∷ lengths) = omega (arith, plain-items lengths, sum_by-cons (λ n. 2 + n) n lengths)

-- so many parts have so many items at most
parts-items : (lengths : List ℕ) → length lengths ≤ 234 * parts_count lengths
parts-items lengths =
    cond_both (nat_le (plain_len lengths) MAX_BODY) 1 (runs_count TAG_ITEM_LEN lengths) (λ count. length lengths ≤ 234 * count)
    (λ fits. omega (arith, plain-items lengths, leb-true _ _ fits))
    (λ _. omega (arith, runs-items TAG_ITEM_LEN lengths))

rows-items : (number : ℕ) (rows : List ShownRow) → length rows ≤ length (rows_items number rows)
rows-items number [] = omega arith
rows-items number (row ∷ rows) =
    omega (arith, rows-items (suc number) rows, length-append (row_items number row) (rows_items (suc number) rows))

-- an answer has more items than rows
answer-items : (a : PageAnswer) → length a.rows ≤ length (answer_items a)
unfolding answer_items
answer-items a =
    let front = (valued (codes "nonce") a.nonce ∷ []) ++ older_items a.older in
    let rows = rows_items 0 a.rows in
    let ended = time_items (codes "now") a.ended in
    let newest = time_items (codes "last.newest") a.newest in
    omega (arith, rows-items 0 a.rows, length-append front rows, length-append (front ++ rows) ended, length-append ((front ++ rows) ++ ended) newest)

-- a page of few parts has few rows
pub parts-rows : (page : Page) → page_parts page ≤ 128 → length page.rows < 2 ^ 64
unfolding page_parts
parts-rows page few =
    let answer = told_page (replicate NONCE_OCTETS 48) 0 page in
    let items = items_of_page page (replicate NONCE_OCTETS 48) 0 in
    omega (arith, answer-items answer, length-map page.rows (shown_row 0), length-map items (λ (item : Item). length (item_text item)), parts-items (lengths_of items), few)
