-- Of the answers that a history has, a tag names one.
use Rattle.std.proofs.Common.{◌≡◌, inl, inr, ℕ, ◌<◌, List, Option, Some, None, slice_get, refl, sym, ap, subst, ◌∙◌, arith}
use Rattle.std.proofs.lemmas.Bool.{cases_order}
use Rattle.mode6_frame.specs.declared.items.Item.{Item}
use Rattle.mode6_frame.specs.Served.{Served, Refusal, Body, Listed, IsOneByTag}
use Rattle.mru_items.specs.declared.query.ReadRequest.{ReadRequest}
use Rattle.mru_read.specs.declared.pages.Page.{Page}
use Rattle.mru_read.specs.Histories.{Move, Still, Touch, Sweep, Read, list_at, page_at}
use Rattle.mrulist_coverage.specs.Tellings.{Telling}
use Rattle.mrulist_coverage.proofs.HistoryLemmas.{times-rise}
use Rattle.mrulist_coverage.proofs.ServedBy.{served_at, served_move, served_page}

-- the page that is listed at a place with this tag
pub record IsListedAt (t : Telling) (place tag : ℕ) : Type 0 where
  pub read : ReadRequest
  pub moment : ℕ
  pub page : Page
  pub stands : slice_get t.history.moves place ≡ Some (Read read moment)
  pub is_page : page_at (list_at t.history place) read moment ≡ Some page
  pub tag_is : page.now ≡ tag

listed-page : (t : Telling) (place : ℕ) (read : ReadRequest) (moment : ℕ) (page : Option Page) (status tag : ℕ) (items : List Item)
    → slice_get t.history.moves place ≡ Some (Read read moment) → page_at (list_at t.history place) read moment ≡ page
    → served_page t place page ≡ Listed status tag items → IsListedAt t place tag
listed-page t place read moment None status tag items stands is listed = absurd (cc listed)
listed-page t place read moment (Some page) status tag items stands is listed = record {
  read = read;
  moment = moment;
  page = page;
  stands = stands;
  is_page = is;
  tag_is = cc listed;
}

listed-move : (t : Telling) (place : ℕ) (move : Option Move) (status tag : ℕ) (items : List Item) → slice_get t.history.moves place ≡ move
    → served_move t place move ≡ Listed status tag items → IsListedAt t place tag
listed-move t place None status tag items stands listed = absurd (cc listed)
listed-move t place (Some Still) status tag items stands listed = absurd (cc listed)
listed-move t place (Some (Touch visit moment is_told)) status tag items stands listed = absurd (cc listed)
listed-move t place (Some (Sweep moment)) status tag items stands listed = absurd (cc listed)
listed-move t place (Some (Read read moment)) status tag items stands listed =
    listed-page t place read moment (page_at (list_at t.history place) read moment) status tag items stands refl listed

-- what is listed at a place is the page of a read
pub listed-at : (t : Telling) (place status tag : ℕ) (items : List Item) → served_at t place ≡ Listed status tag items → IsListedAt t place tag
listed-at t place status tag items listed = listed-move t place (slice_get t.history.moves place) status tag items refl listed

-- pages at two places have two tags
tags-differ : (t : Telling) (place later tag : ℕ) → IsListedAt t place tag → IsListedAt t later tag → place < later → ⊥
tags-differ t place later tag one other before =
    omega (
      arith,
      one.tag_is,
      other.tag_is,
      times-rise t.history place later one.read other.read one.moment other.moment one.page other.page one.stands one.is_page other.is_page before,
    )

-- an answer of a history: where it is listed, it is that of a place
pub IsOfHistory : Telling → Served → Type 0
IsOfHistory t answer = (status tag : ℕ) (items : List Item) → answer ≡ Listed status tag items → (place : ℕ) × (served_at t place ≡ answer)

-- so is that of a place
pub at-IsOfHistory : (t : Telling) (place : ℕ) → IsOfHistory t (served_at t place)
unfolding IsOfHistory
at-IsOfHistory t place = λ status tag items is. (place, refl)

-- and one that is not listed
pub refusal-IsOfHistory : (t : Telling) (code : ℕ) → IsOfHistory t (Refusal code)
unfolding IsOfHistory
refusal-IsOfHistory t code = λ status tag items is. absurd (cc is)

pub body-IsOfHistory : (t : Telling) (status : ℕ) (body : List ℕ) → IsOfHistory t (Body status body)
unfolding IsOfHistory
body-IsOfHistory t status body = λ status tag items is. absurd (cc is)

IsOneByTag-listed : (one other : Served)
    → ((status tag its_status its_tag : ℕ) (items its_items : List Item) → one ≡ Listed status tag items → other ≡ Listed its_status its_tag its_items → tag ≡ its_tag → one ≡ other)
    → IsOneByTag one other
IsOneByTag-listed (Listed status tag items) (Listed its_status its_tag its_items) by = λ same.
    let whole : Listed status tag items ≡ Listed its_status its_tag its_items = by status tag its_status its_tag items its_items refl refl same in
    (cc whole, cc whole)
IsOneByTag-listed (Listed status tag items) (Refusal code) by = tt
IsOneByTag-listed (Listed status tag items) (Body its body) by = tt
IsOneByTag-listed (Refusal code) other by = tt
IsOneByTag-listed (Body status body) other by = tt

-- two answers of a history with one tag are one
pub one_by_tag : (t : Telling) (one other : Served) → IsOfHistory t one → IsOfHistory t other → IsOneByTag one other
unfolding IsOfHistory
one_by_tag t one other of of_other = IsOneByTag-listed one other λ status tag its_status its_tag items its_items is its same.
    let (place, at) = of status tag items is in
    let (its_place, its_at) = of_other its_status its_tag its_items its in
    let here = listed-at t place status tag items (at ∙ is) in
    let there : IsListedAt t its_place tag = subst (IsListedAt t its_place) (sym same) (listed-at t its_place its_status its_tag its_items (its_at ∙ its)) in
    elim (cases_order place its_place) [
      | inl equal ↦ sym at ∙ ap (served_at t) equal ∙ its_at
      | inr (inl before) ↦ absurd (tags-differ t place its_place tag here there before)
      | inr (inr behind) ↦ absurd (tags-differ t its_place place tag there here behind)
    ]
