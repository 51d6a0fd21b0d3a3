-- The page of a read can be told, sent and read back.
use Rattle.std.proofs.Common.{length, ◌≤◌, ◌≡◌, ℕ, ◌-◌, ◌^◌, ◌<◌, Bool, true, false, List, [], ◌∷◌, find, slice_get, Option, Some, None, option_map, option_and_then, refl, ap, subst, ◌∙◌, arith}
use Rattle.std.specs.List.{AllByRecursion}
use Rattle.std.proofs.lemmas.List.{length-map}
use Rattle.mode6_frame.specs.declared.items.Item.{Item}
use Rattle.mode6_frame.specs.Items.{IsItemText}
use Rattle.mode6_frame.specs.Served.{IsServed, Listed}
use Rattle.mode6_frame.proofs.CutLemmas.{IsCuttable-counted}
use Rattle.mode6_frame.proofs.ReadingLemmas.{items_read_complete}
use Rattle.mru_items.specs.declared.pair.Pair.{Pair}
use Rattle.mru_items.specs.declared.query.ReadRequest.{ReadRequest}
use Rattle.mru_items.specs.Answers.{IsAnswer, IsOlder, IsShownRow, IsTime, answer_in, answer_told}
use Rattle.mru_items.specs.Queries.{IsRead, IsReadOf, told_time}
use Rattle.mru_read.specs.declared.pages.Page.{Page}
use Rattle.mru_read.specs.Histories.{Read, drawn, list_at, page_at}
use Rattle.mru_read.specs.Pages.{page_parts, Start, Beginning, Behind, IsTellable, IsTellablePair, IsTellableRow, at_end, confirmed_by, items_of_page, page_from, page_of, passes, passing_from, row_count, rows_from, shown_row, stands_in, start_of, told_page, told_pair}
use Rattle.mru_items.proofs.RoomLemmas.{digits-names}
use Rattle.mrulist_coverage.specs.Tellings.{IsNonce, IsTelling, Telling}
use Rattle.mru_items.specs.declared.query.TheConstants.{MAX_FRAGS}
use Rattle.mrulist_coverage.proofs.CountLemmas.{parts-rows}
use Rattle.mrulist_coverage.proofs.FrontLemmas.{AllByRecursion-find, AllByRecursion-from, AllByRecursion-take}
use Rattle.mrulist_coverage.proofs.SizeLemmas.{page-counted, page-few}
use Rattle.mru_read.proofs.GramLemmas.{page-short}
use Rattle.mrulist_coverage.proofs.HistoryLemmas.{IsMoveAt-place, page_of-now}
use Rattle.mrulist_coverage.proofs.RequestLemmas.{read-IsRead}
use Rattle.mrulist_coverage.proofs.LowerFacts.{LowerLaws}
use Rattle.net_addr.specs.Addresses.{IsAddr}
use Rattle.recency.specs.declared.row.Row.{Row}
use Rattle.recency.proofs.ListLemmas.{AllByRecursion-filter, AllByRecursion-map}

-- a time that is told has 64 bits
pub told_time-fits : (origin stamp : ℕ) → told_time origin stamp < 2 ^ 64
told_time-fits origin stamp = omega arith

start-behind : (found : Option Pair) (start : Start) → ((pair : Pair) → found ≡ Some pair → IsAddr pair.addr) → option_map Behind found ≡ Some start → IsTellablePair (confirmed_by start)
start-behind None start named is = absurd (cc is)
start-behind (Some pair) start named is =
    let same : Behind pair ≡ start = cc is in
    let addr = named pair refl in
    subst (λ (s : Start). IsTellablePair (confirmed_by s)) same (addr.ip, addr.port)

-- a page begins behind a pair that can be told
start-tellable : (rows : List Row) (pairs : List Pair) (start : Start) → AllByRecursion (λ pair. IsAddr pair.addr × (pair.last < 2 ^ 64)) pairs → start_of rows pairs ≡ Some start
    → IsTellablePair (confirmed_by start)
start-tellable rows [] start all is =
    let same : Beginning ≡ start = cc is in
    subst (λ (s : Start). IsTellablePair (confirmed_by s)) same tt
start-tellable rows (pair ∷ pairs) start all is =
    start-behind (find (stands_in rows) (pair ∷ pairs)) start
    (λ one found. (AllByRecursion-find (λ (p : Pair). IsAddr p.addr × (p.last < 2 ^ 64)) (stands_in rows) (pair ∷ pairs) one all found).0) is

from-start-tellable : (rows : List Row) (read : ReadRequest) (now : ℕ) (page : Page) (start : Option Start) → AllByRecursion IsTellableRow rows
    → ((one : Start) → start ≡ Some one → IsTellablePair (confirmed_by one)) → option_map (page_from rows read now) start ≡ Some page → IsTellable page
from-start-tellable rows read now page None all confirmed is = absurd (cc is)
from-start-tellable rows read now page (Some start) all confirmed is =
    let same : page_from rows read now start ≡ page = cc is in
    subst IsTellable same (record {
      rows = AllByRecursion-take IsTellableRow (row_count rows read start now) (passing_from rows read start)
          (AllByRecursion-filter IsTellableRow (passes read.filter) (rows_from rows start) (AllByRecursion-from IsTellableRow rows start all));
      confirmed = confirmed start refl;
    })

-- the page of clients that can be told can be told
pub page-tellable : (rows : List Row) (read : ReadRequest) (now : ℕ) (page : Page) → AllByRecursion IsTellableRow rows → IsRead read → page_of rows read now ≡ Some page → IsTellable page
unfolding page_of
page-tellable rows read now page all is_read is =
    from-start-tellable rows read now page (start_of rows read.pairs) all (λ one start. start-tellable rows read.pairs one is_read.pairs start) is

older-told : (origin : ℕ) (confirmed : Option Pair) → IsTellablePair confirmed → IsOlder (option_map (told_pair origin) confirmed)
older-told origin None tellable = tt
older-told origin (Some pair) tellable = (record { ip = tellable.0; port = tellable.1 }, told_time-fits origin pair.last)

end-told : (ended : Bool) (time : Option ℕ) → IsTime time → IsTime (at_end ended time)
end-told true time is = is
end-told false time is = tt

newest-told : (origin : ℕ) (newest : Option ℕ) → IsTime (option_map (told_time origin) newest)
newest-told origin None = tt
newest-told origin (Some stamp) = told_time-fits origin stamp

-- a row as it is told
row-told : (origin : ℕ) (row : Row) → IsTellableRow row → IsShownRow (shown_row origin row)
row-told origin row is = record {
  addr = record { ip = is.ip; port = is.port };
  last = told_time-fits origin row.last;
  first = told_time-fits origin row.first;
  count = is.count;
  mv = is.mv;
  flags = is.flags;
}

-- what a page tells is an answer
pub told-IsAnswer : (page : Page) (nonce : List ℕ) (origin : ℕ) → IsTellable page → IsNonce nonce → IsAnswer (told_page nonce origin page)
told-IsAnswer page nonce origin tellable is_nonce = record {
  nonce = is_nonce.length_is;
  bare = digits-names nonce is_nonce.digits;
  older = older-told origin page.confirmed tellable.confirmed;
  rows = AllByRecursion-map IsTellableRow IsShownRow (shown_row origin) (row-told origin) page.rows tellable.rows;
  ended = end-told page.ended (Some (told_time origin page.now)) (told_time-fits origin page.now);
  newest = end-told page.ended (option_map (told_time origin) page.newest) (newest-told origin page.newest);
}

-- the page of a read that stands in a history
pub record IsPageOf (t : Telling) (place : ℕ) (items : List Item) (read : ReadRequest) (moment : ℕ) (page : Page) : Type 0 where
  pub telling : IsTelling t
  pub asks : IsReadOf items t.origin read
  pub stands : slice_get t.history.moves place ≡ Some (Read read moment)
  pub is_page : page_at (list_at t.history place) read moment ≡ Some page

module _ (lower : LowerLaws) (t : Telling) (place : ℕ) (items : List Item) (read : ReadRequest) (moment : ℕ) (page : Page) (is : IsPageOf t place items read moment page) where
  -- it can be told
  pub page-IsTellable : IsTellable page
  page-IsTellable =
      page-tellable (list_at t.history place).rows read _ page (is.telling.rows place) (read-IsRead items t.origin read is.asks) is.is_page

  -- it has few parts
  page-parts : page_parts page ≤ MAX_FRAGS
  page-parts =
      let bounds = read-IsRead items t.origin read is.asks in
      omega (arith, page-few (list_at t.history place).rows read _ page bounds is.is_page, bounds.most)

  -- and so it tells few rows
  told-rows : length (told_page (t.nonce place) t.origin page).rows < 2 ^ 64
  told-rows = omega (arith, parts-rows page page-parts, length-map page.rows (shown_row t.origin))

  -- its items tell it
  pub page-told : (text : List ℕ) → IsItemText text (items_of_page page (t.nonce place) t.origin) → answer_told text ≡ Some (told_page (t.nonce place) t.origin page)
  unfolding answer_told
  page-told text text_is =
      let answer = told_page (t.nonce place) t.origin page in
      let nonce = is.telling.nonces place in
      ap (option_and_then answer_in) (items_read_complete text (items_of_page page (t.nonce place) t.origin) text_is)
      ∙ lower.answer_read answer (told-IsAnswer page (t.nonce place) t.origin page-IsTellable nonce) told-rows nonce.digits

  -- its time is a stamp
  page-time : page.now < 2 ^ 64
  page-time =
      let list = list_at t.history place in
      let at : (list.stamp < 2 ^ 64 - 1) × (moment < 2 ^ 64) =
      IsMoveAt-place t.history.limits t.history.opening t.history.moves place (Read read moment) is.telling.is_history.moves is.stands in
      omega (arith, page_of-now list.rows read (drawn moment list.stamp) page is.is_page, at.0, at.1)

  -- it can be sent
  pub page-IsServed : IsServed (Listed (t.status place) page.now (items_of_page page (t.nonce place) t.origin))
  page-IsServed =
      let answer = told_page (t.nonce place) t.origin page in
      let nonce = is.telling.nonces place in
      let is_answer = told-IsAnswer page (t.nonce place) t.origin page-IsTellable nonce in
      let counted = page-counted page (t.nonce place) t.origin nonce in (
        page-time,
        lower.answer_written answer is_answer told-rows nonce.digits,
        IsCuttable-counted page.now (items_of_page page (t.nonce place) t.origin)
            (page-short page (t.nonce place) t.origin page-IsTellable (parts-rows page page-parts) nonce.length_is)
            (omega (arith, page-parts, counted)),
      )
