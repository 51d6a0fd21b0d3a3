-- What an arrival comes to in nodes.
use Rattle.std.proofs.Common.{◌≡◌, ℕ, ◌+◌, ◌-◌, ◌≤◌, List, [], ◌∷◌, ◌++◌, length, Option, Some, None, Result, Ok, Err, IfOk, OnErr, IfSome, IsSome, true≢false, refl, sym, ap, subst, ◌∙◌, arith}
use Rattle.recency.specs.declared.limits.Limits.{Limits}
use Rattle.recency.specs.declared.row.Row.{Row}
use Rattle.recency.specs.declared.visit.Visit.{Visit}
use Rattle.recency.specs.declared.visit.Touched.{Touched}
use Rattle.recency.specs.declared.visit.Touched.TheVariants.{Known}
use Rattle.recency.specs.Arrivals.{HasRoom, IsTouched, admission, admitted, answer_by, new_row, row_after, rows_by, touch_answer}
use Rattle.recency.specs.Rows.{AreBefore, AreRows, ClientList, find_row, oldest, others}
use Rattle.recency.proofs.ArrivalLemmas.{AreRows-touched, admission-HasRoom}
use Rattle.recency_links.specs.Admissions.{admission_by}

-- by the client's row, where it is known
touched-by : (limits : Limits) (rows : List Row) (visit : Visit) (stamp : ℕ) (found : Option Row) (answer : Touched) (left : List Row) → find_row rows visit.ip ≡ found
    → answer ≡ answer_by found limits rows stamp → left ≡ rows_by found limits rows visit stamp → IsTouched limits rows visit stamp answer left
touched-by limits rows visit stamp found answer left is answers leaves = record {
  answers = answers ∙ sym (ap (λ (found : Option Row). answer_by found limits rows stamp) is);
  leaves = leaves ∙ sym (ap (λ (found : Option Row). rows_by found limits rows visit stamp) is);
}

-- the answer by the oldest row and the number of rows is that by all rows
pub admission-by : (limits : Limits) (rows : List Row) (stamp : ℕ) → admission_by limits (oldest rows) (length rows) stamp ≡ admission limits rows stamp
admission-by limits [] stamp = refl
admission-by limits (row ∷ rows) stamp = refl

pub admission-is : (limits : Limits) (rows : List Row) (stamp : ℕ) (first : Option Row) (count : ℕ) (answer : Touched) → first ≡ oldest rows → count ≡ length rows → answer ≡ admission_by limits first count stamp
    → answer ≡ admission limits rows stamp
admission-is limits rows stamp first count answer at counted is =
    is ∙ ap (λ first. admission_by limits first count stamp) at ∙ ap (λ count. admission_by limits (oldest rows) count stamp) counted ∙ admission-by limits rows stamp

-- the answer to a client without a row can be followed in as many nodes as there may be rows, and node 0
pub admission-room : (limits : Limits) (rows : List Row) (stamp count nodes : ℕ) (answer : Touched) → limits.mindepth ≤ limits.maxdepth → AreRows limits rows → count ≡ length rows → nodes ≡ limits.maxdepth + 1
    → answer ≡ admission limits rows stamp → HasRoom answer count (nodes - 1)
admission-room limits rows stamp count nodes answer depths kept counted all is =
    let P : Touched → Type 0 = λ answer. HasRoom answer count (nodes - 1) in
    let Q : ℕ → Type 0 = λ count. HasRoom (admission limits rows stamp) count (nodes - 1) in
    subst P (sym is) (subst Q (sym counted) (admission-HasRoom limits rows stamp (nodes - 1) depths kept.depth (omega (arith, all))))

-- another client's answer, followed
pub admitted-touched : (limits : Limits) (rows : List Row) (visit : Visit) (stamp : ℕ) (answer : Touched) (left : List Row) → find_row rows visit.ip ≡ None → answer ≡ admission limits rows stamp
    → left ≡ admitted answer rows (new_row visit stamp) → IsTouched limits rows visit stamp answer left
admitted-touched limits rows visit stamp answer left absent is leaves =
    touched-by limits rows visit stamp None answer left absent is (leaves ∙ ap (λ (answer : Touched). admitted answer rows (new_row visit stamp)) is)

-- the answer to a client without a row
pub absent-answer : (limits : Limits) (rows : List Row) (visit : Visit) (stamp : ℕ) (answer : Touched) → find_row rows visit.ip ≡ None → answer ≡ admission limits rows stamp → answer ≡ touch_answer limits rows visit stamp
absent-answer limits rows visit stamp answer absent is = is ∙ sym (ap (λ (found : Option Row). answer_by found limits rows stamp) absent)

-- a listed client's row, moved
pub moved-touched : (limits : Limits) (rows : List Row) (visit : Visit) (stamp : ℕ) (left : List Row) (row : Row) → find_row rows visit.ip ≡ Some row → left ≡ others rows visit.ip ++ row_after row visit stamp ∷ []
    → IsTouched limits rows visit stamp Known left
moved-touched limits rows visit stamp left row found leaves = touched-by limits rows visit stamp (Some row) Known left found refl leaves

pub renewed-touched : (limits : Limits) (rows : List Row) (visit : Visit) (stamp : ℕ) (left : List Row) → IsSome (find_row rows visit.ip)
    → IfSome (find_row rows visit.ip) (λ row. left ≡ others rows visit.ip ++ row_after row visit stamp ∷ []) → IsTouched limits rows visit stamp Known left
renewed-touched limits rows visit stamp left listed leaves = by (find_row rows visit.ip) refl
  where
    P : Option Row → Type 0
    P found = IfSome found (λ row. left ≡ others rows visit.ip ++ row_after row visit stamp ∷ [])

    Q : Option Row → Type 0
    Q found = IsSome found

    by : (found : Option Row) → find_row rows visit.ip ≡ found → IsTouched limits rows visit stamp Known left
    by None is = absurd (true≢false (sym (subst Q is listed)))
    by (Some row) is = moved-touched limits rows visit stamp left row is (subst P is leaves)

-- an arrival after all rows keeps a client list
pub kept-touched : (limits : Limits) (rows : List Row) (visit : Visit) (stamp : ℕ) (answer : Touched) (left : List Row) → limits.mindepth ≤ limits.maxdepth → AreRows limits rows → AreBefore stamp rows
    → IsTouched limits rows visit stamp answer left → AreRows limits left
kept-touched limits rows visit stamp answer left depths kept before touched =
    let P : List Row → Type 0 = λ rows. AreRows limits rows in
    subst P (sym touched.leaves) (AreRows-touched limits rows visit stamp depths kept before)

-- and so does none
pub kept-same : (limits : Limits) (rows left : List Row) → left ≡ rows → AreRows limits rows → AreRows limits left
kept-same limits rows left same kept =
    let P : List Row → Type 0 = λ rows. AreRows limits rows in
    subst P (sym same) kept

-- what is before a stamp as a list is seen
pub before-seen : (stamp : ℕ) (list : ClientList) (limits : Limits) (rows : List Row) → record { limits = limits; rows = rows } ≡ list → AreBefore stamp list.rows → AreBefore stamp rows
before-seen stamp list limits rows view before =
    let P : ClientList → Type 0 = λ list. AreBefore stamp list.rows in
    subst P (sym view) before

-- a fact of an answer, so another that follows
pub map-IfOk : {T E : Type 0} (P Q : T → Type 0) → ((value : T) → P value → Q value) → (result : Result T E) → IfOk result P → IfOk result Q
map-IfOk P Q follows (Ok value) holds = follows value holds
map-IfOk P Q follows (Err fault) holds = tt

-- an arrival keeps a client list, also where it wants memory
pub kept-arrived : {E : Type 0} (limits : Limits) (rows : List Row) (visit : Visit) (stamp : ℕ) (left : List Row) (result : Result Touched E) → limits.mindepth ≤ limits.maxdepth → AreRows limits rows → AreBefore stamp rows
    → IfOk result (λ answer. IsTouched limits rows visit stamp answer left) → OnErr result (left ≡ rows) → AreRows limits left
kept-arrived limits rows visit stamp left (Ok answer) depths kept before touched same = kept-touched limits rows visit stamp answer left depths kept before touched
kept-arrived limits rows visit stamp left (Err fault) depths kept before touched same = kept-same limits rows left same kept
