-- What a table of clients keeps where rows take the places of their clients' rows.
use Rattle.std.proofs.Common.{◌≡◌, Bool, true, false, not, List, [], ◌∷◌, ◌++◌, refl, sym, ap, subst, inl, inr}
use Rattle.std.proofs.lemmas.List.{append-nil, append_assoc}
use Rattle.std.proofs.lemmas.Bool.{cond_both}
use Rattle.std.specs.List.{AllByRecursion, filter}
use Rattle.mru_items.specs.declared.shown.ShownRow.{ShownRow}
use Rattle.mrulist_coverage.specs.Coverage.{IsSublist, AreDistinct}
use Rattle.mrulist_coverage.proofs.Sublists.{IsSublist-refl, IsSublist-filter, IsSublist-append, AllByRecursion-sublist, filter-IsSublist, filter-all}
use Rattle.mrulist_reader.specs.Readers.{with_row, with_rows}
use Rattle.net_addr.specs.Addresses.{same_ip}
use Rattle.net_addr.proofs.AddressLemmas.{same_ip-sym}
use Rattle.recency.proofs.ListLemmas.{AllByRecursion-append, AllByRecursion-filter, AllByRecursion-weaker}

-- none of these rows is of the client of this one
abbrev pub IsApart : List ShownRow → ShownRow → Type 0
IsApart rows row = AllByRecursion (λ later. same_ip later.addr.ip row.addr.ip ≡ false) rows

-- what stands in distinct rows is distinct
pub AreDistinct-sublist : (these those : List ShownRow) → IsSublist these those → AreDistinct those → AreDistinct these
AreDistinct-sublist [] those stand distinct = tt
AreDistinct-sublist (this ∷ these) [] stand distinct = absurd stand
AreDistinct-sublist (this ∷ these) (that ∷ those) (inl here) distinct =
    let P : ShownRow → Type 0 = λ row. AllByRecursion (λ later. same_ip later.addr.ip row.addr.ip ≡ false) these in
    (subst P (sym here.0) (AllByRecursion-sublist (λ (later : ShownRow). same_ip later.addr.ip that.addr.ip ≡ false) these those here.1 distinct.0), AreDistinct-sublist these those here.1 distinct.1)
AreDistinct-sublist (this ∷ these) (that ∷ those) (inr later) distinct = AreDistinct-sublist (this ∷ these) those later distinct.1

-- distinct rows with one more of another client are distinct
AreDistinct-push : (rows : List ShownRow) (new : ShownRow) → AreDistinct rows → IsApart rows new → AreDistinct (rows ++ new ∷ [])
AreDistinct-push [] new distinct apart = (tt, tt)
AreDistinct-push (row ∷ rows) new distinct apart =
    (AllByRecursion-append (λ (later : ShownRow). same_ip later.addr.ip row.addr.ip ≡ false) rows (new ∷ []) distinct.0 (same_ip-sym row.addr.ip new.addr.ip apart.0, tt), AreDistinct-push rows new distinct.1 apart.1)

-- a filter takes a client's rows out
filter-IsApart : (rows : List ShownRow) (row : ShownRow) → IsApart (filter (λ other. not (same_ip other.addr.ip row.addr.ip)) rows) row
filter-IsApart [] row = tt
filter-IsApart (other ∷ rows) row =
    let kept : List ShownRow = filter (λ other. not (same_ip other.addr.ip row.addr.ip)) rows in
    let P : List ShownRow → Type 0 = λ left. IsApart left row in
    cond_both (not (same_ip other.addr.ip row.addr.ip)) (other ∷ kept) kept P (λ apart. (not_true _ apart, filter-IsApart rows row)) (λ same. filter-IsApart rows row)
  where
    not_true : (b : Bool) → not b ≡ true → b ≡ false
    not_true true test = cc
    not_true false test = refl

-- a table stays distinct
with_row-AreDistinct : (rows : List ShownRow) (row : ShownRow) → AreDistinct rows → AreDistinct (with_row rows row)
with_row-AreDistinct rows row distinct =
    let test : ShownRow → Bool = λ other. not (same_ip other.addr.ip row.addr.ip) in
    AreDistinct-push (filter test rows) row (AreDistinct-sublist (filter test rows) rows (filter-IsSublist test rows) distinct) (filter-IsApart rows row)

pub with_rows-AreDistinct : (rows more : List ShownRow) → AreDistinct rows → AreDistinct (with_rows rows more)
with_rows-AreDistinct rows [] distinct = distinct
with_rows-AreDistinct rows (row ∷ more) distinct = with_rows-AreDistinct (with_row rows row) more (with_row-AreDistinct rows row distinct)

-- what holds of each row of it and of each new one holds of each afterwards
pub with_rows-each : (P : ShownRow → Type 0) (rows more : List ShownRow) → AllByRecursion P rows → AllByRecursion P more → AllByRecursion P (with_rows rows more)
with_rows-each P rows [] each new = each
with_rows-each P rows (row ∷ more) each new =
    let test : ShownRow → Bool = λ other. not (same_ip other.addr.ip row.addr.ip) in
    with_rows-each P (with_row rows row) more (AllByRecursion-append P (filter test rows) (row ∷ []) (AllByRecursion-filter P test rows each) (new.0, tt)) new.1

-- where others stand in it, of clients that the new rows are not of, those stand there with the new rows behind them
pub with_rows-sublist : (others rows more : List ShownRow) → IsSublist others rows → AllByRecursion (λ other. IsApart more other) others → AreDistinct more → IsSublist (others ++ more) (with_rows rows more)
with_rows-sublist others rows [] stand apart distinct =
    let P : List ShownRow → Type 0 = λ front. IsSublist front rows in
    subst P (sym (append-nil others)) stand
with_rows-sublist others rows (row ∷ more) stand apart distinct =
    let test : ShownRow → Bool = λ other. not (same_ip other.addr.ip row.addr.ip) in
    let passes : AllByRecursion (λ (other : ShownRow). test other ≡ true) others =
    AllByRecursion-weaker (λ (other : ShownRow). IsApart (row ∷ more) other) (λ (other : ShownRow). test other ≡ true) (λ other each. ap not (same_ip-sym row.addr.ip other.addr.ip each.0)) others apart in
    let kept : IsSublist (filter test others) (filter test rows) = IsSublist-filter test others rows stand in
    let P : List ShownRow → Type 0 = λ front. IsSublist front (filter test rows) in
    let front : IsSublist others (filter test rows) = subst P (filter-all test others passes) kept in
    let pushed : IsSublist (others ++ row ∷ []) (with_row rows row) = IsSublist-append others (filter test rows) (row ∷ []) (row ∷ []) front (IsSublist-refl (row ∷ [])) in
    let rest : AllByRecursion (λ (other : ShownRow). IsApart more other) (others ++ row ∷ []) =
    AllByRecursion-append (λ (other : ShownRow). IsApart more other) others (row ∷ [])
    (AllByRecursion-weaker (λ (other : ShownRow). IsApart (row ∷ more) other) (λ (other : ShownRow). IsApart more other) (λ other each. each.1) others apart) (distinct.0, tt) in
    let Q : List ShownRow → Type 0 = λ front. IsSublist front (with_rows (with_row rows row) more) in
    subst Q (append_assoc others (row ∷ []) more) (with_rows-sublist (others ++ row ∷ []) (with_row rows row) more pushed rest distinct.1)
