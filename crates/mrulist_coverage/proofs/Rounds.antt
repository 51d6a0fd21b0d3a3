-- How a listing stands while it goes on, and what a whole answer and a refusal do to it.
use Rattle.std.proofs.Common.{◌≡◌, ◌≢◌, ◌⊎◌, inl, inr, ℕ, suc, ◌/◌, ◌^◌, ◌<◌, ◌≤◌, Bool, true, false, List, [], ◌∷◌, ◌++◌, length, map, Option, Some, None, option_map, slice_get, is_some, nat_lt, refl, sym, ap, subst, ◌∙◌, arith}
use Rattle.std.proofs.lemmas.Bool.{and_from, cond-false, cond-true, eq-eqb, lt-ltb}
use Rattle.std.proofs.lemmas.List.Elements.{Contains-append_right}
use Rattle.mode6_frame.specs.declared.errors.TheConstants.{BAD_NAME, PROHIBITED}
use Rattle.mode6_frame.specs.Frames.{FrameParts}
use Rattle.mode6_frame.specs.Served.{Refusal, Tells}
use Rattle.mru_items.specs.declared.answer.PageAnswer.{PageAnswer}
use Rattle.mru_items.specs.declared.pair.Pair.{Pair}
use Rattle.mru_items.specs.declared.query.MruFilter.{MruFilter}
use Rattle.mru_items.specs.declared.query.Query.{Query}
use Rattle.mru_items.specs.declared.query.ReadRequest.{ReadRequest}
use Rattle.mru_items.specs.declared.shown.ShownRow.{ShownRow}
use Rattle.mru_items.specs.Answers.{answer_told, nonce_told}
use Rattle.mru_items.specs.Queries.{ArePairsTold, IsQuery, told_time}
use Rattle.mru_read.specs.declared.pages.Page.{Page}
use Rattle.mru_read.specs.Histories.{Move, Read, list_at, page_at}
use Rattle.mru_read.specs.Pages.{IsTellable, at_end, told_page}
use Rattle.mrulist_coverage.specs.Coverage.{Covers}
use Rattle.mrulist_coverage.specs.Tellings.{Answers, IsNonce, IsOfNonce, IsOfRead, IsTelling, Telling}
use Rattle.mrulist_coverage.proofs.RequestLemmas.{read-IsRead}
use Rattle.mrulist_coverage.proofs.LowerFacts.{LowerLaws}
use Rattle.mrulist_coverage.proofs.Invariant.{IsCovered}
use Rattle.mrulist_coverage.proofs.FrontLemmas.{AllByRecursion-take}
use Rattle.mrulist_coverage.proofs.SizeLemmas.{page-some}
use Rattle.mrulist_coverage.proofs.NonceLemmas.{nonce-told}
use Rattle.mrulist_coverage.proofs.PageLemmas.{IsPageOf, page-IsTellable, page-told}
use Rattle.mrulist_coverage.proofs.PairLemmas.{AreAddrs, cut-AreAddrs, named-AreAddrs, named-few, named-told, rows-AreAddrs}
use Rattle.mrulist_coverage.proofs.ServedBy.{served_alone, served_by, served_move, served_page}
use Rattle.mrulist_coverage.proofs.Steps.{covered-more-places, covered-page, covered-refused, covered-same, page-asked, refused-named}
use Rattle.mrulist_reader.specs.declared.listing.End.{End}
use Rattle.mrulist_reader.specs.declared.listing.End.TheVariants as Over
use Rattle.mrulist_reader.specs.Readers.{ReaderParts, after_answer, after_nonce, after_page, after_refusal, after_text, backed_off, cut_behind, ended_badly, is_asked, is_turned_down, named_by, one_more, pair_of, request_with}
use Rattle.net_addr.specs.Addresses.{IsAddr}
use Rattle.ntpq_client.specs.Requests.{request_parts}
use Rattle.recency.proofs.ListLemmas.{AllByRecursion-append}

-- a listing ended as the law says: if it completed, it covers the list of the last answer; else it was refused, for another
-- reason than that its pairs do not stand
abbrev pub IsEnd : Telling → List (Option ℕ) → MruFilter → List ShownRow → Option End → Type 0
IsEnd t places wanted rows None = Unit {0}
IsEnd t places wanted rows (Some (Over.Listed now)) =
    (place : ℕ) × (before : List (Option ℕ)) × (places ≡ before ++ Some place ∷ []) × Covers t places wanted place rows now
IsEnd t places wanted rows (Some Over.BadReply) = ⊥
IsEnd t places wanted rows (Some (Over.Refused code)) = code ≢ BAD_NAME

-- the page of a read at a place, which asks for what the listing does
record IsPageFor (t : Telling) (r : ReaderParts) (p : ℕ) (read : ReadRequest) (moment : ℕ) (page : Page) : Type 0 where
  stands : slice_get t.history.moves p ≡ Some (Read read moment)
  is_page : page_at (list_at t.history p) read moment ≡ Some page
  filter : read.filter ≡ r.query.filter
  pairs : ArePairsTold t.origin read.pairs (named_by r)

-- a nonce is one, where there is one
abbrev pub IsNonceIf : Option (List ℕ) → Type 0
IsNonceIf None = Unit {0}
IsNonceIf (Some nonce) = IsNonce nonce

-- a listing goes on or has ended so: it covers what it was told of the list up to a place
pub record IsGoing (t : Telling) (query : Query) (places : List (Option ℕ)) (r : ReaderParts) (place : ℕ) : Type 0 where
  pub query_is : r.query ≡ query
  pub nonce : IsNonceIf r.nonce
  pub addrs : AreAddrs r.trail
  pub covered : IsCovered t places query.filter r place
  pub end : IsEnd t places query.filter r.rows r.end

-- a place up to which a listing covers the list, after an answer by this place, is the one before or that behind it
abbrev pub IsUpTo : ℕ → Option ℕ → ℕ → Type 0
IsUpTo before None after = after ≡ before
IsUpTo before (Some place) after = (after ≡ before) ⊎ (after ≡ suc place)

-- a listing after an answer by this place
pub record IsAfter (t : Telling) (query : Query) (places : List (Option ℕ)) (before : ℕ) (place : Option ℕ) (r : ReaderParts) : Type 0 where
  pub after : ℕ
  pub up_to : IsUpTo before place after
  pub going : IsGoing t query (places ++ place ∷ []) r after

IsUpTo-same : (before : ℕ) (place : Option ℕ) → IsUpTo before place before
IsUpTo-same before None = refl
IsUpTo-same before (Some place) = inl refl

-- an answer that leaves rows and trail
pub after-kept : (t : Telling) (query : Query) (places : List (Option ℕ)) (k : ℕ) (place : Option ℕ) (r other : ReaderParts) → IsGoing t query places r k
    → other.query ≡ r.query → other.rows ≡ r.rows → other.trail ≡ r.trail → IsNonceIf other.nonce → IsEnd t (places ++ place ∷ []) query.filter other.rows other.end
    → IsAfter t query places k place other
after-kept t query places k place r other going query_is rows trail nonce end = record {
  after = k;
  up_to = IsUpTo-same k place;
  going = record {
    query_is = query_is ∙ going.query_is;
    nonce = nonce;
    addrs = subst AreAddrs (sym trail) going.addrs;
    covered = covered-same t (places ++ place ∷ []) query.filter r other k (sym rows) (sym trail) (covered-more-places t places (place ∷ []) query.filter r k going.covered);
    end = end;
  };
}

-- a page that ends the list ends the listing, which covers it
page-end : (t : Telling) (places : List (Option ℕ)) (wanted : MruFilter) (p now : ℕ) (rows : List ShownRow) (ended : Bool) → (ended ≡ true → Covers t (places ++ Some p ∷ []) wanted p rows now)
    → IsEnd t (places ++ Some p ∷ []) wanted rows (option_map Over.Listed (at_end ended (Some now)))
page-end t places wanted p now rows true covers = (p, places, refl, covers refl)
page-end t places wanted p now rows false covers = tt

module _ (lower : LowerLaws) (t : Telling) (query : Query) (places : List (Option ℕ)) (k floor n : ℕ) (r : ReaderParts) (f : FrameParts)
    (telling : IsTelling t) (is_query : IsQuery query) (going : IsGoing t query places r k) (goes_on : r.end ≡ None) (late : k ≤ floor) where
  -- a listing that goes on after an answer has not ended
  open-end : (more : List (Option ℕ)) → IsEnd t (places ++ more) query.filter r.rows r.end
  open-end more = subst (λ (e : Option End). IsEnd t (places ++ more) query.filter r.rows e) (sym goes_on) tt

  -- a whole answer to the request for a nonce tells it
  nonce-whole : (status : ℕ) (text : List ℕ) → IsOfNonce f → Tells status text (served_alone f.error f) → IsAfter t query places k None (after_nonce (nonce_told text) r)
  nonce-whole status text (its_status, nonce, is, (error, status_is, carries)) tells =
      let told : (status ≡ f.status) × (text ≡ f.body) = subst (λ (b : Bool). Tells status text (served_alone b f)) error tells in
      let found : nonce_told text ≡ Some nonce = ap nonce_told (told.1 ∙ carries.body) ∙ nonce-told nonce is in
      subst (λ (o : Option (List ℕ)). IsAfter t query places k None (after_nonce o r)) (sym found)
      (after-kept t query places k None r (record r { nonce = Some nonce; whole = one_more r.whole }) going refl refl refl is (open-end (None ∷ [])))

  -- the read at a place asks for what the listing asks for
  read-asked : (nonce : List ℕ) → r.nonce ≡ Some nonce → (p : ℕ) (of : IsOfRead t (request_parts (request_with r (Some nonce)) n) f p)
      → (of.read.filter ≡ r.query.filter) × ArePairsTold t.origin of.read.pairs (named_by r)
  read-asked nonce has p of =
      let is_nonce : IsNonce nonce = subst IsNonceIf has going.nonce in
      lower.request_read nonce r.query _ (named_by r) t.origin of.is_at.items of.read is_nonce (subst IsQuery (sym going.query_is) is_query) telling.origin
      (named-AreAddrs r going.addrs) (named-told t.origin going.covered.stamps r going.covered.told) (named-few r) of.is_at.text of.is_at.asks

  covered-here : IsCovered t places r.query.filter r k
  covered-here = subst (λ (q : Query). IsCovered t places q.filter r k) (sym going.query_is) going.covered

  -- after a page that was asked for, the listing covers the list behind its place
  page-after : (p : ℕ) (read : ReadRequest) (moment : ℕ) (page : Page) → IsTellable page → k ≤ p → IsPageFor t r p read moment page
      → IsAfter t query places k (Some p) (after_page (told_page (t.nonce p) t.origin page) r)
  page-after p read moment page tellable before is_for =
      let answer = told_page (t.nonce p) t.origin page in
      let all = places ++ Some p ∷ [] in
      let covered = covered-page t all r k p read moment page telling (covered-more-places t places (Some p ∷ []) r.query.filter r k covered-here) before
      is_for.stands is_for.is_page is_for.filter is_for.pairs (Contains-append_right places (Some p ∷ []) (Some p) (0, omega arith, refl)) in
      record {
        after = suc p;
        up_to = inr refl;
        going = record {
          query_is = going.query_is;
          nonce = telling.nonces p;
          addrs = AllByRecursion-append (λ (pair : Pair). IsAddr pair.addr) (cut_behind answer.older r.trail) (map pair_of answer.rows)
              (cut-AreAddrs answer.older r.trail going.addrs) (rows-AreAddrs t.origin page.rows tellable.rows);
          covered = subst (λ (q : Query). IsCovered t all q.filter (after_page answer r) (suc p)) going.query_is covered.0;
          end = page-end t places query.filter p (told_time t.origin page.now) (after_page answer r).rows page.ended
              (λ ended. subst (λ (q : Query). Covers t all q.filter p (after_page answer r).rows (told_time t.origin page.now)) going.query_is (covered.1 ended));
        };
      }

  -- a whole answer to a read tells the page of its place, which was asked for
  page-whole : (nonce : List ℕ) → r.nonce ≡ Some nonce → (p : ℕ) (of : IsOfRead t (request_parts (request_with r (Some nonce)) n) f p) (page : Option Page) (status : ℕ) (text : List ℕ)
      → floor ≤ p → page_at (list_at t.history p) of.read of.moment ≡ page → Tells status text (served_page t p page) → IsAfter t query places k (Some p) (after_answer (answer_told text) r)
  page-whole nonce has p of None status text after is tells = absurd tells
  page-whole nonce has p of (Some page) status text after is tells =
      let asks = read-asked nonce has p of in
      let is_for : IsPageFor t r p of.read of.moment page = record { stands = of.is_at.stands; is_page = is; filter = asks.0; pairs = asks.1 } in
      let of_page : IsPageOf t p of.is_at.items of.read of.moment page = record { telling = telling; asks = of.is_at.asks; stands = of.is_at.stands; is_page = is } in
      let tellable = page-IsTellable lower t p of.is_at.items of.read of.moment page of_page in
      let found = page-told lower t p of.is_at.items of.read of.moment page of_page text tells.1 in
      let before : k ≤ p = omega arith in
      let some = page-some (list_at t.history p).rows of.read _ page (read-IsRead of.is_at.items t.origin of.read of.is_at.asks) (telling.rows p) is in
      let asked = page-asked t places r k p of.read of.moment page telling covered-here before is_for.stands is_for.is_page is_for.filter is_for.pairs some in
      let answer = told_page (t.nonce p) t.origin page in
      subst (λ (o : Option PageAnswer). IsAfter t query places k (Some p) (after_answer o r)) (sym found)
      (subst (IsAfter t query places k (Some p)) (sym (cond-true (is_asked (named_by r) answer) (after_page answer r) (ended_badly r) asked))
      (page-after p of.read of.moment page tellable before is_for))

  -- what a whole answer does to a listing that has such a nonce, or none
  pub whole-by : (nonce : Option (List ℕ)) → r.nonce ≡ nonce → (place : Option ℕ) (status : ℕ) (text : List ℕ) → Answers t (request_parts (request_with r nonce) n) floor place f
      → Tells status text (served_by t f place) → IsAfter t query places k place (after_text nonce text r)
  whole-by None has None status text (inl told) tells = nonce-whole status text told.1 tells
  whole-by None has None status text (inr told) tells = absurd (omega (arith, told.0))
  whole-by None has (Some p) status text told tells = absurd (omega (arith, told.0))
  whole-by (Some nonce) has None status text (inl told) tells = absurd (omega (arith, told.0))
  whole-by (Some nonce) has None status text (inr told) tells = absurd (subst (λ (b : Bool). Tells status text (served_alone b f)) told.1.0 tells)
  whole-by (Some nonce) has (Some p) status text (opcode, after, of) tells =
      page-whole nonce has p of (page_at (list_at t.history p) of.read of.moment) status text after refl
      (subst (λ (move : Option Move). Tells status text (served_move t p move)) of.is_at.stands tells)

  -- a refusal of a read that names pairs takes them from the trail
  turned-down : (nonce : List ℕ) → r.nonce ≡ Some nonce → (p code : ℕ) → code ≡ BAD_NAME → 0 < length (named_by r) → IsAfter t query places k (Some p) (after_refusal code r)
  turned-down nonce has p code is named =
      let named_is : nat_lt 0 (length (named_by r)) ≡ true = lt-ltb _ _ named in
      let has_one : is_some r.nonce ≡ true = ap is_some has in
      let turned : is_turned_down r code ≡ true = and_from _ _ (and_from _ _ (eq-eqb _ _ is) has_one) named_is in
      let on = record r { trail = backed_off r; refused = one_more r.refused } in
      let after : IsAfter t query places k (Some p) on = record {
        after = k;
        up_to = inl refl;
        going = record {
          query_is = going.query_is;
          nonce = going.nonce;
          addrs = AllByRecursion-take (λ (pair : Pair). IsAddr pair.addr) _ r.trail going.addrs;
          covered = covered-refused t (places ++ Some p ∷ []) query.filter r k (covered-more-places t places (Some p ∷ []) query.filter r k going.covered);
          end = open-end (Some p ∷ []);
        };
      } in
      subst (IsAfter t query places k (Some p)) (sym (cond-true (is_turned_down r code) on (record r { end = Some (Over.Refused code) }) turned)) after

  -- any other refusal ends the listing
  denied-else : (place : Option ℕ) (code : ℕ) → code ≡ PROHIBITED → IsAfter t query places k place (after_refusal code r)
  denied-else place code is =
      let turned : is_turned_down r code ≡ false = ap (is_turned_down r) is in
      let over = record r { end = Some (Over.Refused code) } in
      subst (IsAfter t query places k place) (sym (cond-false (is_turned_down r code) (record r { trail = backed_off r; refused = one_more r.refused }) over turned))
      (after-kept t query places k place r over going refl refl refl going.nonce (λ same. absurd (omega (arith, same, is))))

  read-denied : (nonce : List ℕ) → r.nonce ≡ Some nonce → (p : ℕ) (of : IsOfRead t (request_parts (request_with r (Some nonce)) n) f p) (page : Option Page) (code : ℕ)
      → page_at (list_at t.history p) of.read of.moment ≡ page → served_page t p page ≡ Refusal code → IsAfter t query places k (Some p) (after_refusal code r)
  read-denied nonce has p of None code is denied =
      turned-down nonce has p code (cc denied) (refused-named t r p of.read of.moment is (read-asked nonce has p of).1)
  read-denied nonce has p of (Some page) code is denied = absurd (cc denied)

  -- what a refusal does to a listing that has such a nonce, or none
  pub denied-by : (nonce : Option (List ℕ)) → r.nonce ≡ nonce → (place : Option ℕ) (code : ℕ) → Answers t (request_parts (request_with r nonce) n) floor place f
      → served_by t f place ≡ Refusal code → IsAfter t query places k place (after_refusal code r)
  denied-by None has None code (inl (opcode, (status, nonce, is, (error, status_is, carries)))) denied =
      absurd (cc (subst (λ (b : Bool). served_alone b f ≡ Refusal code) error denied))
  denied-by None has None code (inr told) denied = absurd (omega (arith, told.0))
  denied-by None has (Some p) code told denied = absurd (omega (arith, told.0))
  denied-by (Some nonce) has None code (inl told) denied = absurd (omega (arith, told.0))
  denied-by (Some nonce) has None code (inr (opcode, (error, prohibited))) denied =
      let here : Refusal (f.status / 2 ^ 8) ≡ Refusal code = subst (λ (b : Bool). served_alone b f ≡ Refusal code) error denied in
      let same : f.status / 2 ^ 8 ≡ code = cc here in
      denied-else None code (sym same ∙ prohibited)
  denied-by (Some nonce) has (Some p) code (opcode, after, of) denied =
      read-denied nonce has p of (page_at (list_at t.history p) of.read of.moment) code refl
      (subst (λ (move : Option Move). served_move t p move ≡ Refusal code) of.is_at.stands denied)
