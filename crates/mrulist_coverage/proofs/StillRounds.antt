-- What a whole answer does to a listing over a list that stands still, and that no refusal comes.
use Rattle.std.proofs.Common.{◌≡◌, ◌⊎◌, inl, inr, ℕ, suc, ◌+◌, ◌*◌, ◌^◌, ◌<◌, ◌≤◌, ◌||◌, Bool, true, false, List, [], ◌∷◌, ◌++◌, length, map, take, drop, reverse, replicate, codes, Option, Some, None, option_map, slice_get, is_some, nat_le, nat_lt, refl, sym, ap, subst, ◌∙◌, arith, append_assoc, length-append}
use Rattle.std.proofs.lemmas.Bool.{and_from, cond-true, cond_both, lt-ltb, or_left, or_right}
use Rattle.std.proofs.lemmas.List.{length-map, length-reverse, length-take, take-append-drop}
use Rattle.std.specs.List.{AllByRecursion, filter}
use Rattle.mode6_frame.specs.Cuts.{TAG_ITEM_LEN, has_room, lengths_of, parts_count, plain_len, runs_count}
use Rattle.mode6_frame.specs.declared.items.Item.{Item}
use Rattle.mode6_frame.specs.declared.message.TheConstants.{MAX_BODY}
use Rattle.mode6_frame.specs.Frames.{FrameParts}
use Rattle.mode6_frame.specs.ItemTexts.{item_text}
use Rattle.mode6_frame.specs.Served.{Refusal, Tells}
use Rattle.mru_items.specs.declared.answer.PageAnswer.{PageAnswer}
use Rattle.mru_items.specs.declared.answer.TheConstants.{NONCE_OCTETS}
use Rattle.mru_items.specs.declared.pair.Pair.{Pair}
use Rattle.mru_items.specs.declared.query.MruFilter.{MruFilter}
use Rattle.mru_items.specs.declared.query.Query.{Query}
use Rattle.mru_items.specs.declared.query.ReadRequest.{ReadRequest}
use Rattle.mru_items.specs.declared.shown.ShownRow.{ShownRow}
use Rattle.mru_items.specs.Answers.{answer_items, answer_told, nonce_told, older_items, row_items, rows_items, time_items}
use Rattle.mru_items.specs.Names.{valued}
use Rattle.mru_items.specs.Queries.{ArePairsTold, IsQuery, named_count, told_time}
use Rattle.mru_read.specs.declared.pages.Page.{Page}
use Rattle.mru_read.specs.Histories.{Move, Read, drawn, list_at, page_at}
use Rattle.mru_read.specs.Pages.{IsTellableRow, Start, at_end, items_of_page, page_from, page_of, page_parts, passes, passing_from, row_count, rows_from, shown_row, start_of, told_page, told_pair}
use Rattle.mrulist_coverage.proofs.LowerFacts.{LowerLaws, NamesFour}
use Rattle.mrulist_coverage.specs.Still.{IsCompleteIf, IsOfList, parts_after, parts_at, parts_of}
use Rattle.mrulist_coverage.specs.Tellings.{Answers, IsNonce, IsOfNonce, IsOfRead, IsTelling, Telling}
use Rattle.mrulist_coverage.proofs.Grows.{IsListing, list_at-IsListing}
use Rattle.mrulist_coverage.proofs.NonceLemmas.{nonce-told}
use Rattle.mrulist_coverage.proofs.PageLemmas.{IsPageOf, page-told, told_time-fits}
use Rattle.mrulist_coverage.proofs.PairLemmas.{AreAddrs, named-AreAddrs, named-few, named-told, rows-AreAddrs}
use Rattle.mrulist_coverage.proofs.Placed.{page-start}
use Rattle.mrulist_coverage.proofs.RequestLemmas.{read-IsRead}
use Rattle.mrulist_coverage.proofs.Rounds.{IsNonceIf}
use Rattle.mrulist_coverage.proofs.ServedBy.{served_alone, served_by, served_move, served_page}
use Rattle.mrulist_coverage.proofs.SizeLemmas.{page-some}
use Rattle.mrulist_coverage.proofs.StillPages.{IsStillStart, still-start, told_rows_pairs, told_rows_pairs-append}
use Rattle.mrulist_coverage.proofs.Sublists.{AllByRecursion-reverse}
use Rattle.mrulist_coverage.proofs.Trails.{row_pair, rows-ArePairsTold}
use Rattle.mrulist_reader.specs.declared.listing.End.{End}
use Rattle.mrulist_reader.specs.declared.listing.End.TheVariants as Over
use Rattle.mrulist_reader.specs.Readers.{ReaderParts, after_answer, after_nonce, after_page, after_text, confirms, cut_behind, ended_badly, is_asked, named_by, pair_of, request_with}
use Rattle.net_addr.specs.Addresses.{IsAddr}
use Rattle.ntpq_client.specs.Requests.{request_parts}
use Rattle.recency.specs.declared.limits.TheConstants.{MAX_DEPTH}
use Rattle.recency.specs.declared.row.Row.{Row}
use Rattle.recency.specs.Rows.{IsRising}
use Rattle.recency.proofs.ListLemmas.{AllByRecursion-filter, AllByRecursion-weaker, length-filter-le}

-- how many requests a listing may post that its trail does not tell of: those to come, and the next
abbrev pub left_to_post : Bool → Option (List ℕ) → Option End → ℕ
left_to_post true None end = 1
left_to_post true (Some nonce) end = 0
left_to_post false _ (Some end) = 0
left_to_post false None None = 2
left_to_post false (Some nonce) None = 1

-- a listing over a list that stands still: its trail tells the first rows that pass
pub record IsStillListing (t : Telling) (query : Query) (passing : List Row) (r : ReaderParts) : Type 0 where
  pub query_is : r.query ≡ query
  pub nonce : IsNonceIf r.nonce
  pub front : List Row
  pub rest : List Row
  pub parts : passing ≡ front ++ rest
  pub tellable : AllByRecursion IsTellableRow front
  pub fits : AllByRecursion (λ row. row.last < 2 ^ 64) front
  pub few : length front ≤ MAX_DEPTH
  pub trail : r.trail ≡ told_rows_pairs t.origin front
  pub end : IsCompleteIf r.end

-- it is so after an answer by this place, which has few datagrams
pub record IsStillAnswer (t : Telling) (query : Query) (passing : List Row) (r : ReaderParts) (count : ℕ) (place : Option ℕ) (other : ReaderParts) : Type 0 where
  pub next : IsStillListing t query passing other
  pub posts : left_to_post false other.nonce other.end + count ≤ length next.front + left_to_post true r.nonce r.end
  pub parts : parts_at t place + 6 * count ≤ 6 * length next.front + 7

runs-most : (used : ℕ) (lengths : List ℕ) → runs_count used lengths ≤ 1 + length lengths
runs-most used [] = omega arith
runs-most used (n ∷ lengths) =
    cond_both (has_room (used + (2 + n))) (runs_count (used + (2 + n)) lengths) (1 + runs_count (TAG_ITEM_LEN + (2 + n)) lengths)
    (λ count. count ≤ 1 + suc (length lengths))
    (λ _. omega (arith, runs-most (used + (2 + n)) lengths))
    (λ _. omega (arith, runs-most (TAG_ITEM_LEN + (2 + n)) lengths))

parts-most : (lengths : List ℕ) → parts_count lengths ≤ 1 + length lengths
parts-most lengths =
    cond_both (nat_le (plain_len lengths) MAX_BODY) 1 (runs_count TAG_ITEM_LEN lengths) (λ count. count ≤ 1 + length lengths)
    (λ _. omega arith) (λ _. runs-most TAG_ITEM_LEN lengths)

rows-items-most : (number : ℕ) (rows : List ShownRow) → length (rows_items number rows) ≡ 6 * length rows
rows-items-most number [] = refl
rows-items-most number (row ∷ rows) =
    omega (arith, rows-items-most (suc number) rows, length-append (row_items number row) (rows_items (suc number) rows))

time-items-most : (name : List ℕ) (time : Option ℕ) → length (time_items name time) ≤ 1
time-items-most name None = omega arith
time-items-most name (Some time) = omega arith

older-items-most : (older : Option Pair) → length (older_items older) ≤ 2
older-items-most None = omega arith
older-items-most (Some pair) = omega arith

answer-items-most : (a : PageAnswer) → length (answer_items a) ≤ 6 * length a.rows + 5
unfolding answer_items
answer-items-most a =
    let nonce = valued (codes "nonce") a.nonce ∷ [] in
    let front = nonce ++ older_items a.older in
    let rows = rows_items 0 a.rows in
    let ended = time_items (codes "now") a.ended in
    let newest = time_items (codes "last.newest") a.newest in
    omega (
      arith,
      rows-items-most 0 a.rows,
      older-items-most a.older,
      time-items-most (codes "now") a.ended,
      time-items-most (codes "last.newest") a.newest,
      length-append nonce (older_items a.older),
      length-append front rows,
      length-append (front ++ rows) ended,
      length-append ((front ++ rows) ++ ended) newest,
    )

-- a page of few rows has few parts
pub page-parts-most : (page : Page) → page_parts page ≤ 6 * length page.rows + 7
unfolding page_parts
page-parts-most page =
    let answer = told_page (replicate NONCE_OCTETS 48) 0 page in
    let items = items_of_page page (replicate NONCE_OCTETS 48) 0 in
    omega (arith, answer-items-most answer, length-map page.rows (shown_row 0), length-map items (λ (item : Item). length (item_text item)), parts-most (lengths_of items))

-- of the rows of a list, each arrived before 2^64, and they are few
record IsList (rows : List Row) : Type 0 where
  rising : IsRising rows
  fits : AllByRecursion (λ row. row.last < 2 ^ 64) rows
  few : length rows ≤ MAX_DEPTH
  tellable : AllByRecursion IsTellableRow rows

list-IsList : (t : Telling) (p : ℕ) → IsTelling t → IsList (list_at t.history p).rows
list-IsList t p is =
    let list = list_at t.history p in
    let here : IsListing t.history.limits list = list_at-IsListing t.history.limits t.history.opening t.history.moves p (record { kept = is.is_history.list; stamp = is.is_history.stamp }) is.is_history.moves in
    let stamp_fits : list.stamp < 2 ^ 64 = here.stamp in
    record {
      rising = here.kept.kept.rising;
      fits = AllByRecursion-weaker (λ (row : Row). row.last ≤ list.stamp) (λ (row : Row). row.last < 2 ^ 64) (λ row at_most. omega (arith, at_most, stamp_fits)) list.rows here.kept.up_to;
      few = omega (arith, here.kept.kept.depth, t.history.limits.most);
      tellable = is.rows p;
    }

each-append_left : {X : Type 0} (P : X → Type 0) (xs ys : List X) → AllByRecursion P (xs ++ ys) → AllByRecursion P xs
each-append_left P [] ys all = tt
each-append_left P (x ∷ xs) ys all = (all.0, each-append_left P xs ys all.1)

complete-end : (ended : Bool) (now : ℕ) → IsCompleteIf (option_map Over.Listed (at_end ended (Some now)))
complete-end true now = tt
complete-end false now = tt

-- what is told of a row that can be told is a pair that may be named
told-pairs : (origin : ℕ) (rows : List Row) → AllByRecursion IsTellableRow rows → AllByRecursion (λ pair. IsAddr pair.addr × (pair.last < 2 ^ 64)) (told_rows_pairs origin rows)
told-pairs origin [] all = tt
told-pairs origin (row ∷ rows) all = ((record { ip = all.0.ip; port = all.0.port }, told_time-fits origin row.last), told-pairs origin rows all.1)

-- a page that ends no list has a row
posts-page : (nonce : List ℕ) (ended : Bool) (now more : ℕ) → (1 ≤ more) ⊎ (ended ≡ true) → left_to_post false (Some nonce) (option_map Over.Listed (at_end ended (Some now))) ≤ more
posts-page nonce true now more some = omega arith
posts-page nonce false now more (inl some) = some
posts-page nonce false now more (inr ended) = absurd (cc ended)

-- a read that has a start has a page
no-page : (rows : List Row) (read : ReadRequest) (now : ℕ) (start : Start) → page_of rows read now ≡ None → start_of rows read.pairs ≡ Some start → ⊥
unfolding page_of
no-page rows read now start is start_is =
    let same : Some (page_from rows read now start) ≡ None = sym (ap (option_map (page_from rows read now)) start_is) ∙ is in
    cc same

module _ (lower : LowerLaws) (names : NamesFour) (t : Telling) (query : Query) (passing : List Row) (floor n : ℕ) (r : ReaderParts) (f : FrameParts)
    (telling : IsTelling t) (is_query : IsQuery query) (going : IsStillListing t query passing r) (goes_on : r.end ≡ None) where
  told-trail : ArePairsTold t.origin (map row_pair going.front) r.trail
  told-trail = subst (λ (pairs : List Pair). ArePairsTold t.origin (map row_pair going.front) pairs) (sym going.trail) (rows-ArePairsTold t.origin going.front going.fits)

  addrs : AreAddrs r.trail
  addrs = subst AreAddrs (sym going.trail) (rows-AreAddrs t.origin going.front going.tellable)

  query-here : IsQuery r.query
  query-here = subst IsQuery (sym going.query_is) is_query

  -- where there are pairs to name, one is named
  names-one : 0 < length r.trail → 0 < named_count r.query (reverse r.trail)
  names-one some =
      let P = λ (pair : Pair). IsAddr pair.addr × (pair.last < 2 ^ 64) in
      let are : AllByRecursion P (reverse r.trail) = AllByRecursion-reverse P r.trail (subst (AllByRecursion P) (sym going.trail) (told-pairs t.origin going.front going.tellable)) in
      let four = names.four_named r.query (reverse r.trail) query-here are in
      omega (arith, some, four, length-reverse r.trail, length-take (named_count r.query (reverse r.trail)) (reverse r.trail))

  -- the read at the place asks for what the listing asks for
  read-asked : (nonce : List ℕ) → r.nonce ≡ Some nonce → (p : ℕ) (of : IsOfRead t (request_parts (request_with r (Some nonce)) n) f p)
      → (of.read.filter ≡ r.query.filter) × ArePairsTold t.origin of.read.pairs (named_by r)
  read-asked nonce has p of =
      let is_nonce : IsNonce nonce = subst IsNonceIf has going.nonce in
      lower.request_read nonce r.query _ (named_by r) t.origin of.is_at.items of.read is_nonce query-here telling.origin
      (named-AreAddrs r addrs) (named-told t.origin (map row_pair going.front) r told-trail) (named-few r) of.is_at.text of.is_at.asks

  -- so its page begins behind the trail
  read-start : (nonce : List ℕ) → r.nonce ≡ Some nonce → (p : ℕ) (of : IsOfRead t (request_parts (request_with r (Some nonce)) n) f p) → filter (passes query.filter) (list_at t.history p).rows ≡ passing
      → IsStillStart t.origin query.filter (list_at t.history p).rows going.rest r.trail (named_by r) of.read.pairs
  read-start nonce has p of passing_is =
      let its = (list_at t.history p).rows in
      still-start t.origin query.filter its going.front going.rest r.query r.trail of.read.pairs telling.origin (list-IsList t p telling).rising going.fits
      (passing_is ∙ going.parts) going.trail names-one (read-asked nonce has p of).1

  -- a whole answer to the request for a nonce tells it
  nonce-whole : r.nonce ≡ None → (status : ℕ) (text : List ℕ) → IsOfNonce f → Tells status text (served_alone f.error f) → IsStillAnswer t query passing r (length going.front) None (after_nonce (nonce_told text) r)
  nonce-whole has status text (its_status, nonce, is, (error, status_is, carries)) tells =
      let told : (status ≡ f.status) × (text ≡ f.body) = subst (λ (b : Bool). Tells status text (served_alone b f)) error tells in
      let found : nonce_told text ≡ Some nonce = ap nonce_told (told.1 ∙ carries.body) ∙ nonce-told nonce is in
      let left : left_to_post false (Some nonce) r.end ≡ 1 = ap (left_to_post false (Some nonce)) goes_on in
      let waits : left_to_post true r.nonce r.end ≡ 1 = ap (λ (o : Option (List ℕ)). left_to_post true o r.end) has in
      subst (λ (o : Option (List ℕ)). IsStillAnswer t query passing r (length going.front) None (after_nonce o r)) (sym found)
      (record {
        next = record {
          query_is = going.query_is;
          nonce = is;
          front = going.front;
          rest = going.rest;
          parts = going.parts;
          tellable = going.tellable;
          fits = going.fits;
          few = going.few;
          trail = going.trail;
          end = going.end;
        };
        posts = omega (arith, left, waits);
        parts = omega arith;
      })

  -- after a page the trail tells of its rows too
  page-after : (p : ℕ) (read : ReadRequest) (now : ℕ) → filter (passes query.filter) (list_at t.history p).rows ≡ passing → read.filter ≡ query.filter
      → (still : IsStillStart t.origin query.filter (list_at t.history p).rows going.rest r.trail (named_by r) read.pairs)
      → (1 ≤ length (page_from (list_at t.history p).rows read now still.start).rows) ⊎ ((page_from (list_at t.history p).rows read now still.start).ended ≡ true)
      → parts_at t (Some p) ≡ page_parts (page_from (list_at t.history p).rows read now still.start)
      → IsStillAnswer t query passing r (length going.front) (Some p) (after_page (told_page (t.nonce p) t.origin (page_from (list_at t.history p).rows read now still.start)) r)
  page-after p read now passing_is filter_is still some parts_is =
      let its = (list_at t.history p).rows in
      let page = page_from its read now still.start in
      let is_list = list-IsList t p telling in
      let front = going.front in
      let count = row_count its read still.start now in
      let behind_is : passing_from its read still.start ≡ going.rest = ap (λ (wanted : MruFilter). filter (passes wanted) (rows_from its still.start)) filter_is ∙ still.rest_is in
      let shown : page.rows ≡ take count going.rest = ap (take count) behind_is in
      let all : front ++ going.rest ≡ (front ++ page.rows) ++ drop count going.rest =
      ap (λ (those : List Row). front ++ those) (sym (take-append-drop count going.rest)) ∙ sym (append_assoc front (take count going.rest) (drop count going.rest))
      ∙ ap (λ (those : List Row). (front ++ those) ++ drop count going.rest) (sym shown) in
      let parts : filter (passes query.filter) its ≡ (front ++ page.rows) ++ drop count going.rest = passing_is ∙ going.parts ∙ all in
      let each = λ (P : Row → Type 0) (of : AllByRecursion P its).
      each-append_left P (front ++ page.rows) (drop count going.rest) (subst (AllByRecursion P) parts (AllByRecursion-filter P (passes query.filter) its of)) in
      let few : length (front ++ page.rows) ≤ MAX_DEPTH =
      omega (arith, length-append (front ++ page.rows) (drop count going.rest), ap (λ (those : List Row). length those) parts, length-filter-le (passes query.filter) its, is_list.few) in
      let answer = told_page (t.nonce p) t.origin page in
      let trail : cut_behind answer.older r.trail ++ map pair_of answer.rows ≡ told_rows_pairs t.origin (front ++ page.rows) =
      ap (λ (those : List Pair). those ++ map pair_of answer.rows) (still.cut ∙ going.trail) ∙ sym (told_rows_pairs-append t.origin front page.rows) in
      let posts = posts-page (t.nonce p) page.ended (told_time t.origin page.now) (length page.rows) some in
      record {
        next = record {
          query_is = going.query_is;
          nonce = telling.nonces p;
          front = front ++ page.rows;
          rest = drop count going.rest;
          parts = going.parts ∙ all;
          tellable = each IsTellableRow is_list.tellable;
          fits = each (λ (row : Row). row.last < 2 ^ 64) is_list.fits;
          few = few;
          trail = trail;
          end = complete-end page.ended (told_time t.origin page.now);
        };
        posts = omega (arith, posts, length-append front page.rows);
        parts = omega (arith, parts_is, page-parts-most page, length-append front page.rows);
      }

  -- the answer that a read has
  answer-parts : (p : ℕ) (read : ReadRequest) (moment : ℕ) (page : Option Page) → slice_get t.history.moves p ≡ Some (Read read moment) → page_at (list_at t.history p) read moment ≡ page
      → parts_at t (Some p) ≡ parts_of page
  answer-parts p read moment page stands is = ap (parts_after (list_at t.history p)) stands ∙ ap parts_of is

  -- a whole answer to a read tells the page of its place, which was asked for
  page-whole : (nonce : List ℕ) → r.nonce ≡ Some nonce → (p : ℕ) (of : IsOfRead t (request_parts (request_with r (Some nonce)) n) f p) (page : Option Page) (status : ℕ) (text : List ℕ)
      → filter (passes query.filter) (list_at t.history p).rows ≡ passing → page_at (list_at t.history p) of.read of.moment ≡ page → Tells status text (served_page t p page)
      → IsStillAnswer t query passing r (length going.front) (Some p) (after_answer (answer_told text) r)
  page-whole nonce has p of None status text passing_is is tells = absurd tells
  page-whole nonce has p of (Some page) status text passing_is is tells =
      let its = (list_at t.history p).rows in
      let now = drawn of.moment (list_at t.history p).stamp in
      let asks = read-asked nonce has p of in
      let still = read-start nonce has p of passing_is in
      let of_page : IsPageOf t p of.is_at.items of.read of.moment page = record { telling = telling; asks = of.is_at.asks; stands = of.is_at.stands; is_page = is } in
      let found = page-told lower t p of.is_at.items of.read of.moment page of_page text tells.1 in
      let begun = page-start its of.read now page is in
      let starts : Some begun.0 ≡ Some still.start = sym begun.1 ∙ still.start_is in
      let start : begun.0 ≡ still.start = cc starts in
      let page_is : page ≡ page_from its of.read now still.start = sym begun.2 ∙ ap (page_from its of.read now) start in
      let some = page-some its of.read now page (read-IsRead of.is_at.items t.origin of.read of.is_at.asks) (telling.rows p) is in
      let parts_is = answer-parts p of.read of.moment (Some page) of.is_at.stands is in
      let answer = told_page (t.nonce p) t.origin page in
      let confirmed : confirms (named_by r) answer.older ≡ true = subst (λ (one : Page). confirms (named_by r) (option_map (told_pair t.origin) one.confirmed) ≡ true) (sym page_is) still.asked in
      let asked : is_asked (named_by r) answer ≡ true = and_from _ _ confirmed (has-some page some) in
      subst (λ (o : Option PageAnswer). IsStillAnswer t query passing r (length going.front) (Some p) (after_answer o r)) (sym found)
      (subst (IsStillAnswer t query passing r (length going.front) (Some p)) (sym (cond-true (is_asked (named_by r) answer) (after_page answer r) (ended_badly r) asked))
      (subst (λ (one : Page). IsStillAnswer t query passing r (length going.front) (Some p) (after_page (told_page (t.nonce p) t.origin one) r)) (sym page_is)
      (page-after p of.read now passing_is (asks.0 ∙ ap (λ (q : Query). q.filter) going.query_is) still
      (subst (λ (one : Page). (1 ≤ length one.rows) ⊎ (one.ended ≡ true)) page_is some) (parts_is ∙ ap page_parts page_is))))
    where
      has-some : (page : Page) → (1 ≤ length page.rows) ⊎ (page.ended ≡ true) → (nat_lt 0 (length (map (shown_row t.origin) page.rows)) || is_some (at_end page.ended (Some (told_time t.origin page.now)))) ≡ true
      has-some page (inl some) = or_left _ _ (lt-ltb 0 (length (map (shown_row t.origin) page.rows)) (omega (arith, some, length-map page.rows (shown_row t.origin))))
      has-some page (inr ended) = or_right _ _ (subst (λ (b : Bool). is_some (at_end b (Some (told_time t.origin page.now))) ≡ true) (sym ended) refl)

  -- what a whole answer does to a listing that has such a nonce, or none
  pub still-whole : (nonce : Option (List ℕ)) → r.nonce ≡ nonce → (place : Option ℕ) (status : ℕ) (text : List ℕ) → Answers t (request_parts (request_with r nonce) n) floor place f
      → IsOfList t query.filter passing f place → Tells status text (served_by t f place) → IsStillAnswer t query passing r (length going.front) place (after_text nonce text r)
  still-whole None has None status text (inl told) of_list tells = nonce-whole has status text told.1 tells
  still-whole None has None status text (inr told) of_list tells = absurd (omega (arith, told.0))
  still-whole None has (Some p) status text told of_list tells = absurd (omega (arith, told.0))
  still-whole (Some nonce) has None status text (inl told) of_list tells = absurd (omega (arith, told.0))
  still-whole (Some nonce) has None status text (inr told) of_list tells = absurd (subst (λ (b : Bool). Tells status text (served_alone b f)) told.1.0 tells)
  still-whole (Some nonce) has (Some p) status text (opcode, after, of) of_list tells =
      page-whole nonce has p of (page_at (list_at t.history p) of.read of.moment) status text of_list refl
      (subst (λ (move : Option Move). Tells status text (served_move t p move)) of.is_at.stands tells)

  -- no read is refused
  read-answered : (nonce : List ℕ) → r.nonce ≡ Some nonce → (p : ℕ) (of : IsOfRead t (request_parts (request_with r (Some nonce)) n) f p) (page : Option Page) (code : ℕ)
      → filter (passes query.filter) (list_at t.history p).rows ≡ passing → page_at (list_at t.history p) of.read of.moment ≡ page → served_page t p page ≡ Refusal code → ⊥
  read-answered nonce has p of None code passing_is is denied =
      let still = read-start nonce has p of passing_is in
      no-page (list_at t.history p).rows of.read _ still.start is still.start_is
  read-answered nonce has p of (Some page) code passing_is is denied = cc denied

  -- and no refusal comes
  pub still-answered : (nonce : Option (List ℕ)) → r.nonce ≡ nonce → (place : Option ℕ) (code : ℕ) → Answers t (request_parts (request_with r nonce) n) floor place f
      → IsOfList t query.filter passing f place → served_by t f place ≡ Refusal code → ⊥
  still-answered _ has None code told no_error denied =
      let body : served_alone false f ≡ Refusal code = subst (λ (b : Bool). served_alone b f ≡ Refusal code) no_error denied in
      cc body
  still-answered None has (Some p) code told of_list denied = omega (arith, told.0)
  still-answered (Some nonce) has (Some p) code (opcode, after, of) of_list denied =
      read-answered nonce has p of (page_at (list_at t.history p) of.read of.moment) code of_list refl
      (subst (λ (move : Option Move). served_move t p move ≡ Refusal code) of.is_at.stands denied)
