-- How a client list grows: what stood before a mark stands there or goes, and what comes is behind it.
use Rattle.std.proofs.Common.{◌≡◌, ℕ, zero, suc, ◌+◌, ◌^◌, ◌<◌, ◌≤◌, ◌&&◌, nat_lt, Bool, true, false, cond, not, Option, Some, None, slice_get, List, [], ◌∷◌, ◌++◌, map, take, drop, length, refl, sym, ap, subst, ◌∙◌, arith}
use Rattle.std.proofs.lemmas.Bool.{le-ltb, and_right}
use Rattle.std.proofs.lemmas.List.{append-nil}
use Rattle.std.specs.List.{filter}
use Rattle.net_addr.specs.Addresses.{same_ip}
use Rattle.net_addr.specs.declared.addr.Ip.{Ip}
use Rattle.mru_items.specs.declared.query.MruFilter.{MruFilter}
use Rattle.mru_items.specs.declared.shown.ShownRow.{ShownRow}
use Rattle.mru_read.specs.declared.pages.Page.{Page}
use Rattle.mru_read.specs.Histories.{Listing, Move, Still, Touch, Sweep, Read, drawn, told_if, after_read, page_at, after_move, after_moves, IsMoveAt, AreMoves}
use Rattle.mru_read.specs.Pages.{passes, shown_row}
use Rattle.recency.specs.declared.limits.Limits.{Limits}
use Rattle.recency.specs.declared.row.Row.{Row}
use Rattle.recency.specs.declared.visit.Visit.{Visit}
use Rattle.recency.specs.declared.visit.Touched.{Touched}
use Rattle.recency.specs.declared.visit.Touched.TheVariants.{Known, Added, Replaced, Untracked}
use Rattle.recency.specs.Arrivals.{admission, admitted, new_row, row_after, rows_by, touched_rows}
use Rattle.recency.specs.Rows.{IsClientList, find_row, others, told_row, told_rows}
use Rattle.recency.specs.Sweeps.{is_dropped, swept_rows}
use Rattle.recency.proofs.ArrivalLemmas.{IsClientList-touched}
use Rattle.recency.proofs.ListLemmas.{AllByRecursion-weaker}
use Rattle.recency.proofs.RowLemmas.{IsClientList-told}
use Rattle.recency.proofs.SweepLemmas.{IsClientList-swept}
use Rattle.mrulist_coverage.specs.Coverage.{IsSublist}
use Rattle.mrulist_coverage.proofs.Invariant.{passing_before}
use Rattle.mrulist_coverage.proofs.Sublists.{IsSublist-refl, IsSublist-trans, IsSublist-more, IsSublist-filter, IsSublist-map, filter-IsSublist, filter-append}

-- rows that stand in others: so do those that pass before a mark
pub passing_before-sublist : (origin : ℕ) (wanted : MruFilter) (mark : ℕ) (these those : List Row) → IsSublist these those → IsSublist (passing_before origin wanted mark these) (passing_before origin wanted mark those)
passing_before-sublist origin wanted mark these those stand =
    let test : Row → Bool = λ row. passes wanted row && nat_lt row.last mark in
    IsSublist-map (shown_row origin) (filter test these) (filter test those) (IsSublist-filter test these those stand)

-- one more row at the mark or behind it adds nothing
pub passing_before-push : (origin : ℕ) (wanted : MruFilter) (mark : ℕ) (rows : List Row) (new : Row) → mark ≤ new.last → passing_before origin wanted mark (rows ++ new ∷ []) ≡ passing_before origin wanted mark rows
passing_before-push origin wanted mark rows new behind =
    let test : Row → Bool = λ row. passes wanted row && nat_lt row.last mark in
    let fails : test new ≡ false = and_right (passes wanted new) (nat_lt new.last mark) (le-ltb new.last mark behind) in
    ap (map (shown_row origin)) (filter-append test rows (new ∷ []) ∙ ap (λ (kept : List Row). filter test rows ++ kept) (one fails) ∙ append-nil (filter test rows))
  where
    one : (passes wanted new && nat_lt new.last mark) ≡ false → filter (λ (row : Row). passes wanted row && nat_lt row.last mark) (new ∷ []) ≡ []
    one fails = rw fails refl

-- the first elements of two lists are taken or left alike
map_cond : {A B : Type 0} (f : A → B) (b : Bool) (x y : A) (xs ys : List A) → f x ≡ f y → map f xs ≡ map f ys → map f (cond b (x ∷ xs) xs) ≡ map f (cond b (y ∷ ys) ys)
map_cond f true x y xs ys first rest = ap (λ z. z ∷ map f xs) first ∙ ap (λ zs. f y ∷ zs) rest
map_cond f false x y xs ys first rest = rest

-- a told row passes and is shown as the row
told_row-step : (origin : ℕ) (wanted : MruFilter) (mark : ℕ) (ip : Ip) (stamp : ℕ) (row : Row) (told more : List Row) → passing_before origin wanted mark told ≡ passing_before origin wanted mark more
    → passing_before origin wanted mark (told_row ip stamp row ∷ told) ≡ passing_before origin wanted mark (row ∷ more)
told_row-step origin wanted mark ip stamp row told more same =
    let test : Row → Bool = λ row. passes wanted row && nat_lt row.last mark in
    elim (same_ip row.ip ip) as (λ b. passing_before origin wanted mark (cond b (record row { told = Some stamp }) row ∷ told) ≡ passing_before origin wanted mark (row ∷ more)) [
      | true ↦ map_cond (shown_row origin) (test row) (record row { told = Some stamp }) row (filter test told) (filter test more) refl same
      | false ↦ map_cond (shown_row origin) (test row) row row (filter test told) (filter test more) refl same
    ]

-- a client that is told changes nothing that is shown
pub passing_before-told : (origin : ℕ) (wanted : MruFilter) (mark : ℕ) (ip : Ip) (stamp : ℕ) (rows : List Row) → passing_before origin wanted mark (told_rows rows ip stamp) ≡ passing_before origin wanted mark rows
passing_before-told origin wanted mark ip stamp [] = refl
passing_before-told origin wanted mark ip stamp (row ∷ rows) =
    told_row-step origin wanted mark ip stamp row (told_rows rows ip stamp) rows (passing_before-told origin wanted mark ip stamp rows)

-- where the oldest row goes, the others stand
drop-IsSublist : (rows : List Row) → IsSublist (drop 1 rows) rows
drop-IsSublist [] = tt
drop-IsSublist (row ∷ rows) = IsSublist-more rows row rows (IsSublist-refl rows)

-- what a sweep leaves stands in the rows
pub swept-IsSublist : (limits : Limits) (rows : List Row) (moment : ℕ) → IsSublist (swept_rows limits rows moment) rows
swept-IsSublist limits [] moment = tt
swept-IsSublist limits (row ∷ rows) moment =
    elim (is_dropped limits row (length (row ∷ rows)) moment) as (λ b. IsSublist (cond b (swept_rows limits rows moment) (row ∷ rows)) (row ∷ rows)) [
      | true ↦ IsSublist-more (swept_rows limits rows moment) row rows (swept-IsSublist limits rows moment)
      | false ↦ IsSublist-refl (row ∷ rows)
    ]

-- an arrival at the mark or behind it adds nothing before it
pub touched-sublist : (origin : ℕ) (wanted : MruFilter) (mark : ℕ) (limits : Limits) (rows : List Row) (visit : Visit) (stamp : ℕ) → mark ≤ stamp
    → IsSublist (passing_before origin wanted mark (touched_rows limits rows visit stamp)) (passing_before origin wanted mark rows)
touched-sublist origin wanted mark limits rows visit stamp behind = by (find_row rows visit.ip)
  where
    Stands : List Row → Type 0
    Stands left = IsSublist (passing_before origin wanted mark left) (passing_before origin wanted mark rows)

    push : (kept : List Row) (new : Row) → IsSublist kept rows → mark ≤ new.last → IsSublist (passing_before origin wanted mark (kept ++ new ∷ [])) (passing_before origin wanted mark rows)
    push kept new stand later =
        let P : List ShownRow → Type 0 = λ shown. IsSublist shown (passing_before origin wanted mark rows) in
        subst P (sym (passing_before-push origin wanted mark kept new later)) (passing_before-sublist origin wanted mark kept rows stand)

    admits : (answer : Touched) → IsSublist (passing_before origin wanted mark (admitted answer rows (new_row visit stamp))) (passing_before origin wanted mark rows)
    admits Known = IsSublist-refl (passing_before origin wanted mark rows)
    admits Added = push rows (new_row visit stamp) (IsSublist-refl rows) behind
    admits (Replaced ip) = push (drop 1 rows) (new_row visit stamp) (drop-IsSublist rows) behind
    admits Untracked = IsSublist-refl (passing_before origin wanted mark rows)

    by : (found : Option Row) → IsSublist (passing_before origin wanted mark (rows_by found limits rows visit stamp)) (passing_before origin wanted mark rows)
    by None = admits (admission limits rows stamp)
    by (Some row) = push (others rows visit.ip) (row_after row visit stamp) (filter-IsSublist (λ (row : Row). not (same_ip row.ip visit.ip)) rows) behind

-- after a move the list has what it had before a mark, or less; and no earlier stamp was drawn last
pub after_move-sublist : (origin : ℕ) (wanted : MruFilter) (mark : ℕ) (limits : Limits) (list : Listing) (move : Move) → mark ≤ list.stamp + 1
    → IsSublist (passing_before origin wanted mark (after_move limits list move).rows) (passing_before origin wanted mark list.rows) × (list.stamp ≤ (after_move limits list move).stamp)
after_move-sublist origin wanted mark limits list Still within = (IsSublist-refl (passing_before origin wanted mark list.rows), omega arith)
after_move-sublist origin wanted mark limits list (Touch visit moment is_told) within =
    let stamp : ℕ = drawn moment list.stamp in
    let later : list.stamp + 1 ≤ stamp = omega arith in
    let touched : List Row = touched_rows limits list.rows visit stamp in
    let P : List ShownRow → Type 0 = λ shown. IsSublist shown (passing_before origin wanted mark list.rows) in
    let stands : P (passing_before origin wanted mark touched) = touched-sublist origin wanted mark limits list.rows visit stamp (omega arith) in (
      elim is_told as (λ b. P (passing_before origin wanted mark (told_if b touched visit stamp))) [
        | true ↦ subst P (sym (passing_before-told origin wanted mark visit.ip stamp touched)) stands
        | false ↦ stands
      ],
      omega arith,
    )
after_move-sublist origin wanted mark limits list (Sweep moment) within =
    (passing_before-sublist origin wanted mark (swept_rows limits list.rows moment) list.rows (swept-IsSublist limits list.rows moment), omega arith)
after_move-sublist origin wanted mark limits list (Read read moment) within = by (page_at list read moment)
  where
    by : (page : Option Page) → IsSublist (passing_before origin wanted mark (after_read list page moment).rows) (passing_before origin wanted mark list.rows) × (list.stamp ≤ (after_read list page moment).stamp)
    by None = (IsSublist-refl (passing_before origin wanted mark list.rows), omega arith)
    by (Some page) = (IsSublist-refl (passing_before origin wanted mark list.rows), omega arith)

-- and so it is after moves
pub after_moves-sublist : (origin : ℕ) (wanted : MruFilter) (mark : ℕ) (limits : Limits) (list : Listing) (moves : List Move) → mark ≤ list.stamp + 1
    → IsSublist (passing_before origin wanted mark (after_moves limits list moves).rows) (passing_before origin wanted mark list.rows) × (list.stamp ≤ (after_moves limits list moves).stamp)
after_moves-sublist origin wanted mark limits list [] within = (IsSublist-refl (passing_before origin wanted mark list.rows), omega arith)
after_moves-sublist origin wanted mark limits list (move ∷ moves) within =
    let one = after_move-sublist origin wanted mark limits list move within in
    let next : Listing = after_move limits list move in
    let rest = after_moves-sublist origin wanted mark limits next moves (omega (arith, one.1)) in
    (IsSublist-trans (passing_before origin wanted mark (after_moves limits next moves).rows) (passing_before origin wanted mark next.rows) (passing_before origin wanted mark list.rows) rest.0 one.0, omega (arith, one.1, rest.1))

-- from one place of a history to a later one
pub later-sublist : (origin : ℕ) (wanted : MruFilter) (mark : ℕ) (limits : Limits) (list : Listing) (moves : List Move) (k p : ℕ) → k ≤ p → mark ≤ (after_moves limits list (take k moves)).stamp + 1
    → IsSublist (passing_before origin wanted mark (after_moves limits list (take p moves)).rows) (passing_before origin wanted mark (after_moves limits list (take k moves)).rows)
    × ((after_moves limits list (take k moves)).stamp ≤ (after_moves limits list (take p moves)).stamp)
later-sublist origin wanted mark limits list moves zero p before within = after_moves-sublist origin wanted mark limits list (take p moves) within
later-sublist origin wanted mark limits list moves (suc k) zero before within = absurd (omega arith)
later-sublist origin wanted mark limits list [] (suc k) (suc p) before within = (IsSublist-refl (passing_before origin wanted mark list.rows), omega arith)
later-sublist origin wanted mark limits list (move ∷ moves) (suc k) (suc p) before within = later-sublist origin wanted mark limits (after_move limits list move) moves k p (omega arith) within

-- a list is one under its limits, up to its stamp, which has 64 bits
pub record IsListing (limits : Limits) (list : Listing) : Type 0 where
  pub kept : IsClientList limits list.rows list.stamp
  pub stamp : list.stamp < 2 ^ 64

-- it stays one under a move
pub after_move-IsListing : (limits : Limits) (list : Listing) (move : Move) → IsListing limits list → IsMoveAt limits list move → IsListing limits (after_move limits list move)
after_move-IsListing limits list Still is may = is
after_move-IsListing limits list (Touch visit moment is_told) is may =
    let stamp : ℕ = drawn moment list.stamp in
    let fits : stamp < 2 ^ 64 = omega (arith, may.0, may.1) in
    let touched : List Row = touched_rows limits list.rows visit stamp in
    let kept : IsClientList limits touched stamp = IsClientList-touched limits list.rows list.stamp visit stamp limits.depths is.kept (omega arith) in
    elim is_told as (λ b. IsListing limits (record { rows = told_if b touched visit stamp; stamp = stamp })) [
      | true ↦ record { kept = IsClientList-told limits touched stamp visit.ip stamp kept; stamp = fits }
      | false ↦ record { kept = kept; stamp = fits }
    ]
after_move-IsListing limits list (Sweep moment) is may = record { kept = IsClientList-swept limits list.rows list.stamp moment is.kept; stamp = is.stamp }
after_move-IsListing limits list (Read read moment) is may = by (page_at list read moment)
  where
    by : (page : Option Page) → IsListing limits (after_read list page moment)
    by None = is
    by (Some page) = record { kept = record { kept = is.kept.kept; up_to = AllByRecursion-weaker (λ (row : Row). row.last ≤ list.stamp) (λ (row : Row). row.last ≤ drawn moment list.stamp) (λ row at_most. omega (arith, at_most)) list.rows is.kept.up_to }; stamp = omega (arith, may.0, may.1, is.stamp) }

-- at each place of a history there is one, and the move that stands there may stand
pub list_at-IsListing : (limits : Limits) (list : Listing) (moves : List Move) (p : ℕ) → IsListing limits list → AreMoves limits list moves → IsListing limits (after_moves limits list (take p moves))
list_at-IsListing limits list moves zero is may = is
list_at-IsListing limits list [] (suc p) is may = is
list_at-IsListing limits list (move ∷ moves) (suc p) is may = list_at-IsListing limits (after_move limits list move) moves p (after_move-IsListing limits list move is may.0) may.1

-- the move at a place may stand there, and comes next
pub move_at : (limits : Limits) (list : Listing) (moves : List Move) (p : ℕ) (move : Move) → AreMoves limits list moves → slice_get moves p ≡ Some move
    → IsMoveAt limits (after_moves limits list (take p moves)) move × (after_moves limits list (take (suc p) moves) ≡ after_move limits (after_moves limits list (take p moves)) move)
move_at limits list [] p move may here = absurd (none_some move here)
  where
    none_some : (move : Move) → None ≡ Some move → ⊥
    none_some move same = cc
move_at limits list (first ∷ moves) zero move may here = by (some_some first move here)
  where
    some_some : (one other : Move) → Some one ≡ Some other → one ≡ other
    some_some one other same = cc

    by : first ≡ move → IsMoveAt limits list move × (after_move limits list first ≡ after_move limits list move)
    by same =
        let P : Move → Type 0 = λ one. IsMoveAt limits list one in
        (subst P same may.0, ap (after_move limits list) same)
move_at limits list (first ∷ moves) (suc p) move may here = move_at limits (after_move limits list first) moves p move may.1 here
