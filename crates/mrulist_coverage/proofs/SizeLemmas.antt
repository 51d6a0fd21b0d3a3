-- The page of a read has a row or ends the list, and has no more datagrams than the read allows, whatever its nonce.
use Rattle.std.proofs.Common.{◌≡◌, ◌⊎◌, inl, inr, ℕ, ◌≤◌, true, false, not, List, [], ◌∷◌, ◌++◌, length, take, Option, Some, refl, sym, ap, subst, ◌∙◌, arith, nat_le, length-take}
use Rattle.std.specs.Prelude.{Contains}
use Rattle.std.specs.List.{AllByRecursion, list_any}
use Rattle.std.proofs.lemmas.Bool.{le-leb, not-true, or_from}
use Rattle.hex.specs.Hex.{lower_digits}
use Rattle.mode6_frame.specs.Cuts.{lengths_of, parts_count}
use Rattle.mode6_frame.specs.ItemTexts.{is_separator}
use Rattle.mode6_frame.proofs.ItemLemmas.{all_pass}
use Rattle.mru_items.specs.declared.pair.Pair.{Pair}
use Rattle.mru_items.specs.declared.query.ReadRequest.{ReadRequest}
use Rattle.mru_items.specs.Queries.{IsRead, greatest}
use Rattle.mru_read.specs.declared.pages.Page.{Page}
use Rattle.mru_read.specs.Pages.{IsTellablePair, IsTellableRow, items_of_page, may_have, page_from, page_of, page_parts, passes, passing_from, row_count, rows_from}
use Rattle.mru_read.specs.Sizes.{is_allowed, lengths_with}
use Rattle.mru_read.specs.Walks.{start_at}
use Rattle.mru_read.proofs.EndingLemmas.{first-allowed}
use Rattle.mru_read.proofs.GramLemmas.{parts-unquoted}
use Rattle.mru_read.proofs.LongestLemmas.{begun-few, page-begun}
use Rattle.mru_read.proofs.PageLemmas.{end_of, greatest-least, may_have-is, newest_in}
use Rattle.mru_read.proofs.TakingLemmas.{confirmed-at}
use Rattle.mrulist_coverage.specs.Tellings.{IsNonce}
use Rattle.mrulist_coverage.proofs.NonceLemmas.{passes_among}
use Rattle.mrulist_coverage.proofs.FrontLemmas.{AllByRecursion-from}
use Rattle.recency.specs.declared.row.Row.{Row}
use Rattle.recency.proofs.ListLemmas.{AllByRecursion-filter}

-- digits do not part a value
digits-unquoted : (nonce : List ℕ) → AllByRecursion (λ digit. Contains lower_digits digit) nonce → list_any is_separator nonce ≡ false
digits-unquoted [] all = refl
digits-unquoted (digit ∷ nonce) all =
    let one : is_separator digit ≡ false = not-true _ (passes_among (λ octet. not (is_separator octet)) lower_digits (all_pass (λ octet. not (is_separator octet)) lower_digits refl) digit all.0) in
    or_from _ _ one (digits-unquoted nonce all.1)

-- with any nonce a page has as many datagrams as are counted for it
pub page-counted : (page : Page) (nonce : List ℕ) (origin : ℕ) → IsNonce nonce → parts_count (lengths_of (items_of_page page nonce origin)) ≡ page_parts page
page-counted page nonce origin is = parts-unquoted page nonce origin is.length_is (digits-unquoted nonce is.digits)

-- and no more than its read allows
pub page-few : (rows : List Row) (read : ReadRequest) (now : ℕ) (page : Page) → IsRead read → page_of rows read now ≡ Some page → page_parts page ≤ read.frags
page-few rows read now page is_read is = begun-few rows read now page is_read (page-begun rows read now page is_read is)

-- one row may always be had
one-had : (rows : List Row) (read : ReadRequest) (now : ℕ) (confirmed : Option Pair) (row : Row) (rest : List Row) → IsRead read → IsTellablePair confirmed → IsTellableRow row
    → may_have rows read (start_at confirmed) (row ∷ rest) now 1 ≡ true
one-had rows read now confirmed row rest is_read pair is =
    let ended = nat_le (length (row ∷ rest)) 1 in
    may_have-is rows read (start_at confirmed) (row ∷ rest) now 1
    ∙ ap (λ (older : Option Pair). is_allowed read 1 (lengths_with older (row ∷ []) ++ end_of ended (newest_in rows))) (confirmed-at confirmed)
    ∙ first-allowed read confirmed row ended (newest_in rows) is_read pair is

-- a page with as many rows as it may has one, or nothing is left behind it
some-had : (rows : List Row) (read : ReadRequest) (now : ℕ) (confirmed : Option Pair) (passing : List Row) → IsRead read → IsTellablePair confirmed → AllByRecursion IsTellableRow passing
    → (count : ℕ) → count ≡ greatest (may_have rows read (start_at confirmed) passing now) (length passing)
    → (1 ≤ length (take count passing)) ⊎ (nat_le (length passing) count ≡ true)
some-had rows read now confirmed [] is_read pair all count is = inr (le-leb 0 count (omega arith))
some-had rows read now confirmed (row ∷ rest) is_read pair all count is =
    let some : 1 ≤ greatest (may_have rows read (start_at confirmed) (row ∷ rest) now) (length (row ∷ rest)) =
    greatest-least (may_have rows read (start_at confirmed) (row ∷ rest) now) (length (row ∷ rest)) 1 (omega arith)
    (λ _. one-had rows read now confirmed row rest is_read pair all.0) in
    inl (omega (arith, some, is, length-take count (row ∷ rest)))

some-from : (rows : List Row) (read : ReadRequest) (now : ℕ) (confirmed : Option Pair) → IsRead read → IsTellablePair confirmed → AllByRecursion IsTellableRow rows
    → (1 ≤ length (page_from rows read now (start_at confirmed)).rows) ⊎ ((page_from rows read now (start_at confirmed)).ended ≡ true)
unfolding row_count
some-from rows read now confirmed is_read pair all =
    some-had rows read now confirmed (passing_from rows read (start_at confirmed)) is_read pair
    (AllByRecursion-filter IsTellableRow (passes read.filter) (rows_from rows (start_at confirmed)) (AllByRecursion-from IsTellableRow rows (start_at confirmed) all))
    (row_count rows read (start_at confirmed) now) refl

-- the page of a read has a row or ends the list
pub page-some : (rows : List Row) (read : ReadRequest) (now : ℕ) (page : Page) → IsRead read → AllByRecursion IsTellableRow rows → page_of rows read now ≡ Some page
    → (1 ≤ length page.rows) ⊎ (page.ended ≡ true)
page-some rows read now page is_read all is =
    let begun = page-begun rows read now page is_read is in
    subst (λ (it : Page). (1 ≤ length it.rows) ⊎ (it.ended ≡ true)) (sym begun.is) (some-from rows read now begun.confirmed is_read begun.pair all)
