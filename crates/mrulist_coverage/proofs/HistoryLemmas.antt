-- Of a list history: its moves may stand, and its stamps rise.
use Rattle.std.proofs.Common.{◌≡◌, ℕ, zero, suc, ◌<◌, ◌≤◌, List, [], ◌∷◌, take, slice_get, Option, Some, None, option_map, sym, ap, subst, ◌∙◌, arith}
use Rattle.mru_items.specs.declared.query.ReadRequest.{ReadRequest}
use Rattle.mru_read.specs.declared.pages.Page.{Page}
use Rattle.mru_read.specs.Histories.{Move, Still, Touch, Sweep, Read, Listing, ListHistory, AreMoves, IsMoveAt, after_move, after_moves, after_read, drawn, list_at, page_at}
use Rattle.mru_read.specs.Pages.{Start, page_from, page_of, start_of}
use Rattle.recency.specs.declared.limits.Limits.{Limits}
use Rattle.recency.specs.declared.row.Row.{Row}

-- the list behind a place is the one after the place's move
after_moves-suc : (limits : Limits) (list : Listing) (moves : List Move) (place : ℕ) (move : Move) → slice_get moves place ≡ Some move
    → after_moves limits list (take (suc place) moves) ≡ after_move limits (after_moves limits list (take place moves)) move
after_moves-suc limits list [] place move is = absurd (cc)
after_moves-suc limits list (first ∷ moves) zero move is =
    let same : first ≡ move = cc in
    ap (after_move limits list) same
after_moves-suc limits list (first ∷ moves) (suc place) move is = after_moves-suc limits (after_move limits list first) moves place move is

-- a move that stands in a history may stand there
pub IsMoveAt-place : (limits : Limits) (list : Listing) (moves : List Move) (place : ℕ) (move : Move) → AreMoves limits list moves → slice_get moves place ≡ Some move
    → IsMoveAt limits (after_moves limits list (take place moves)) move
IsMoveAt-place limits list [] place move are is = absurd (cc)
IsMoveAt-place limits list (first ∷ moves) zero move are is =
    let same : first ≡ move = cc in
    subst (IsMoveAt limits list) same are.0
IsMoveAt-place limits list (first ∷ moves) (suc place) move are is = IsMoveAt-place limits (after_move limits list first) moves place move are.1 is

read-stamp : (list : Listing) (page : Option Page) (moment : ℕ) → list.stamp ≤ (after_read list page moment).stamp
read-stamp list None moment = omega arith
read-stamp list (Some page) moment = omega arith

-- no move draws back the stamp
move-stamp : (limits : Limits) (list : Listing) (move : Move) → list.stamp ≤ (after_move limits list move).stamp
move-stamp limits list Still = omega arith
move-stamp limits list (Touch visit moment is_told) = omega arith
move-stamp limits list (Sweep moment) = omega arith
move-stamp limits list (Read request moment) = read-stamp list (page_at list request moment) moment

moves-stamp : (limits : Limits) (list : Listing) (moves : List Move) → list.stamp ≤ (after_moves limits list moves).stamp
moves-stamp limits list [] = omega arith
moves-stamp limits list (move ∷ moves) = omega (arith, move-stamp limits list move, moves-stamp limits (after_move limits list move) moves)

-- stamps do not fall from place to place
stamps-rise : (limits : Limits) (list : Listing) (moves : List Move) (place later : ℕ) → place ≤ later
    → (after_moves limits list (take place moves)).stamp ≤ (after_moves limits list (take later moves)).stamp
stamps-rise limits list moves zero later le = moves-stamp limits list (take later moves)
stamps-rise limits list moves (suc place) zero le = absurd (omega arith)
stamps-rise limits list [] (suc place) (suc later) le = omega arith
stamps-rise limits list (move ∷ moves) (suc place) (suc later) le = stamps-rise limits (after_move limits list move) moves place later (omega arith)

from_start-now : (rows : List Row) (request : ReadRequest) (now : ℕ) (page : Page) (start : Option Start) → option_map (page_from rows request now) start ≡ Some page → page.now ≡ now
from_start-now rows request now page None is = absurd (cc)
from_start-now rows request now page (Some start) is =
    let same : page_from rows request now start ≡ page = cc in
    sym (ap (λ (p : Page). p.now) same)

-- the time of a page is that of its read
pub page_of-now : (rows : List Row) (request : ReadRequest) (now : ℕ) (page : Page) → page_of rows request now ≡ Some page → page.now ≡ now
unfolding page_of
page_of-now rows request now page is = from_start-now rows request now page (start_of rows request.pairs) is

-- a page of a later read has a later time
pub times-rise : (history : ListHistory) (place later : ℕ) (read its_read : ReadRequest) (moment its_moment : ℕ) (page its_page : Page)
    → slice_get history.moves place ≡ Some (Read read moment) → page_at (list_at history place) read moment ≡ Some page
    → page_at (list_at history later) its_read its_moment ≡ Some its_page → place < later → page.now < its_page.now
times-rise history place later read its_read moment its_moment page its_page stands is its_is before =
    let now = page_of-now _ _ _ _ is in
    let its_now = page_of-now _ _ _ _ its_is in
    let list = list_at history place in
    let next : list_at history (suc place) ≡ after_read list (page_at list read moment) moment =
    after_moves-suc history.limits history.opening history.moves place (Read read moment) stands in
    let stamp : (list_at history (suc place)).stamp ≡ drawn moment list.stamp =
    ap (λ (l : Listing). l.stamp) (next ∙ ap (λ (p : Option Page). after_read list p moment) is) in
    omega (arith, now, its_now, stamp, stamps-rise history.limits history.opening history.moves (suc place) later before)
