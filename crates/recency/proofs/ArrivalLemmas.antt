-- What an arrival keeps.
use Rattle.std.proofs.Common.{◌≡◌, ℕ, ◌+◌, ◌<◌, ◌≤◌, nat_lt, not, Bool, true, List, [], ◌∷◌, ◌++◌, length, drop, Option, Some, None, refl, sym, subst, arith}
use Rattle.std.specs.List.{AllByRecursion}
use Rattle.std.proofs.lemmas.Bool.{cond_both, ltb-true}
use Rattle.std.proofs.lemmas.List.{length_push}
use Rattle.net_addr.specs.Addresses.{same_ip}
use Rattle.net_addr.specs.declared.addr.Ip.{Ip}
use Rattle.recency.specs.declared.limits.Limits.{Limits}
use Rattle.recency.specs.declared.row.Row.{Row}
use Rattle.recency.specs.declared.visit.Visit.{Visit}
use Rattle.recency.specs.declared.visit.Touched.{Touched}
use Rattle.recency.specs.declared.visit.Touched.TheVariants.{Known, Added, Replaced, Untracked}
use Rattle.recency.specs.Arrivals.{HasRoom, admission, admitted, has_aged, new_row, replaced, row_after, rows_by, touched_rows}
use Rattle.recency.specs.Rows.{AreBefore, AreRows, AreUpTo, IsClientList, IsDistinct, IsRising, IsRow, find_row, others}
use Rattle.net_addr.proofs.AddressLemmas.{same_ip-eq}
use Rattle.recency.proofs.ListLemmas.{AllByRecursion-append, AllByRecursion-filter, AllByRecursion-weaker}
use Rattle.recency.proofs.RowLemmas.{IsDistinct-filter, IsDistinct-push, IsNoneOf, IsRising-filter, IsRising-push, find_row-none, find_row-some, length-others, others-none}

-- where the oldest row has aged there is one
some_aged : (age : ℕ) (rows : List Row) (stamp : ℕ) → has_aged age rows stamp ≡ true → 1 ≤ length rows
some_aged age [] stamp aged = cc
some_aged age (row ∷ rows) stamp aged = omega arith

-- the oldest row goes from a list that has one and no more than its room
replaced-HasRoom : (rows : List Row) (room : ℕ) → 1 ≤ length rows → length rows ≤ room → HasRoom (replaced rows) (length rows) room
replaced-HasRoom [] room some within = tt
replaced-HasRoom (row ∷ rows) room some within = (some, within)

-- the answer to a client without a row can be followed in a list that has room for maxdepth rows
pub admission-HasRoom : (limits : Limits) (rows : List Row) (stamp room : ℕ) → limits.mindepth ≤ limits.maxdepth → length rows ≤ limits.maxdepth → limits.maxdepth ≤ room → HasRoom (admission limits rows stamp) (length rows) room
admission-HasRoom limits rows stamp room depths within enough =
    let P : Touched → Type 0 = λ answer. HasRoom answer (length rows) room in
    cond_both (nat_lt (length rows) limits.mindepth) _ _ P (λ few. omega (arith, ltb-true _ _ few)) (λ _.
    cond_both (has_aged limits.maxage rows stamp) _ _ P (λ aged. replaced-HasRoom rows room (some_aged _ rows stamp aged) (omega arith)) (λ _.
    cond_both (nat_lt (length rows) limits.maxdepth) _ _ P (λ few. omega (arith, ltb-true _ _ few)) (λ _.
    cond_both (has_aged limits.minage rows stamp) _ _ P (λ aged. replaced-HasRoom rows room (some_aged _ rows stamp aged) (omega arith)) (λ _. tt))))

-- a client list with one more row of another client, later than all, stays one where there is room
AreRows-push : (limits : Limits) (rows : List Row) (new : Row) → IsDistinct rows → IsRising rows → AllByRecursion IsRow rows → length rows + 1 ≤ limits.maxdepth
    → IsNoneOf new.ip rows → AreBefore new.last rows → IsRow new → AreRows limits (rows ++ new ∷ [])
AreRows-push limits rows new distinct rising each room none before is = record {
  distinct = IsDistinct-push rows new distinct none;
  rising = IsRising-push rows new rising before;
  each = AllByRecursion-append IsRow rows (new ∷ []) each (is, tt);
  depth = omega (arith, length_push rows new);
}

-- following an answer keeps a client list
AreRows-admitted : (limits : Limits) (answer : Touched) (rows : List Row) (new : Row) → AreRows limits rows → HasRoom answer (length rows) limits.maxdepth
    → IsNoneOf new.ip rows → AreBefore new.last rows → IsRow new → AreRows limits (admitted answer rows new)
AreRows-admitted limits Known rows new kept room none before is = kept
AreRows-admitted limits Added rows new kept room none before is = AreRows-push limits rows new kept.distinct kept.rising kept.each (omega (arith, room)) none before is
AreRows-admitted limits (Replaced ip) [] new kept room none before is = absurd (omega (arith, room.0))
AreRows-admitted limits (Replaced ip) (row ∷ rows) new kept room none before is =
    AreRows-push limits rows new kept.distinct.1 kept.rising.1 kept.each.1 (omega (arith, room.1)) none.1 before.1 is
AreRows-admitted limits Untracked rows new kept room none before is = kept

-- a listed client's row stays a row after another arrival
IsRow-after : (row : Row) (visit : Visit) (stamp : ℕ) → IsRow row → row.last < stamp → IsRow (row_after row visit stamp)
IsRow-after row visit stamp is before = record { seen = omega (arith, is.seen); first = omega (arith, is.first, before) }

-- the other rows with the client's changed one stay a client list
AreRows-moved : (limits : Limits) (rows : List Row) (visit : Visit) (stamp : ℕ) (row : Row) → AreRows limits rows → AreBefore stamp rows → find_row rows visit.ip ≡ Some row
    → AreRows limits (others rows visit.ip ++ row_after row visit stamp ∷ [])
AreRows-moved limits rows visit stamp row kept before found =
    let both = find_row-some (λ (row : Row). IsRow row) rows visit.ip row found kept.each in
    let earlier = find_row-some (λ (row : Row). row.last < stamp) rows visit.ip row found before in
    let test : Row → Bool = λ row. not (same_ip row.ip visit.ip) in
    AreRows-push limits (others rows visit.ip) (row_after row visit stamp) (IsDistinct-filter test rows kept.distinct) (IsRising-filter test rows kept.rising) (AllByRecursion-filter IsRow test rows kept.each)
    (omega (arith, length-others rows visit.ip row found, kept.depth))
    (none-of row.ip (same_ip-eq row.ip visit.ip both.0))
    (AllByRecursion-filter (λ (row : Row). row.last < stamp) test rows before) (IsRow-after row visit stamp both.1 earlier.1)
  where
    none-of : (ip : Ip) → ip ≡ visit.ip → IsNoneOf ip (others rows visit.ip)
    none-of ip same =
        let P : Ip → Type 0 = λ ip. IsNoneOf ip (others rows visit.ip) in
        subst P (sym same) (others-none rows visit.ip)

-- a client list stays one under an arrival
pub AreRows-touched : (limits : Limits) (rows : List Row) (visit : Visit) (stamp : ℕ) → limits.mindepth ≤ limits.maxdepth → AreRows limits rows → AreBefore stamp rows
    → AreRows limits (touched_rows limits rows visit stamp)
AreRows-touched limits rows visit stamp depths kept before = by (find_row rows visit.ip) refl
  where
    by : (found : Option Row) → find_row rows visit.ip ≡ found → AreRows limits (rows_by found limits rows visit stamp)
    by None found =
        AreRows-admitted limits (admission limits rows stamp) rows (new_row visit stamp) kept (admission-HasRoom limits rows stamp limits.maxdepth depths kept.depth (omega arith))
        (find_row-none rows visit.ip found) before (record { seen = omega arith; first = omega arith })
    by (Some row) found = AreRows-moved limits rows visit stamp row kept before found

-- what is before a stamp is up to it
pub AreUpTo-before : (stamp : ℕ) (rows : List Row) → AreBefore stamp rows → AreUpTo stamp rows
AreUpTo-before stamp rows before = AllByRecursion-weaker (λ (row : Row). row.last < stamp) (λ (row : Row). row.last ≤ stamp) (λ row earlier. omega (arith, earlier)) rows before

-- what is up to a stamp is before a later one
pub AreBefore-later : (until stamp : ℕ) (rows : List Row) → until < stamp → AreUpTo until rows → AreBefore stamp rows
AreBefore-later until stamp rows later up_to = AllByRecursion-weaker (λ (row : Row). row.last ≤ until) (λ (row : Row). row.last < stamp) (λ row at_most. omega (arith, at_most)) rows up_to

-- after an arrival all are up to its stamp
pub AreUpTo-touched : (limits : Limits) (rows : List Row) (visit : Visit) (stamp : ℕ) → AreBefore stamp rows → AreUpTo stamp (touched_rows limits rows visit stamp)
AreUpTo-touched limits rows visit stamp before = by (find_row rows visit.ip)
  where
    IsUpTo : Row → Type 0
    IsUpTo row = row.last ≤ stamp

    up_to : AllByRecursion IsUpTo rows
    up_to = AreUpTo-before stamp rows before

    rest : (rows : List Row) → AllByRecursion IsUpTo rows → AllByRecursion IsUpTo (drop 1 rows)
    rest [] each = tt
    rest (row ∷ rows) each = each.1

    push : (rows : List Row) (new : Row) → AllByRecursion IsUpTo rows → IsUpTo new → AllByRecursion IsUpTo (rows ++ new ∷ [])
    push rows new each is = AllByRecursion-append IsUpTo rows (new ∷ []) each (is, tt)

    admits : (answer : Touched) → AllByRecursion IsUpTo (admitted answer rows (new_row visit stamp))
    admits Known = up_to
    admits Added = push rows (new_row visit stamp) up_to (omega arith)
    admits (Replaced ip) = push (drop 1 rows) (new_row visit stamp) (rest rows up_to) (omega arith)
    admits Untracked = up_to

    by : (found : Option Row) → AllByRecursion IsUpTo (rows_by found limits rows visit stamp)
    by None = admits (admission limits rows stamp)
    by (Some row) = push (others rows visit.ip) (row_after row visit stamp) (AllByRecursion-filter IsUpTo (λ (row : Row). not (same_ip row.ip visit.ip)) rows up_to) (omega arith)

-- a client list stays one under a later arrival, up to its stamp
pub IsClientList-touched : (limits : Limits) (rows : List Row) (until : ℕ) (visit : Visit) (stamp : ℕ) → limits.mindepth ≤ limits.maxdepth → IsClientList limits rows until → until < stamp
    → IsClientList limits (touched_rows limits rows visit stamp) stamp
IsClientList-touched limits rows until visit stamp depths list later =
    let before = AreBefore-later until stamp rows later list.up_to in
    record { kept = AreRows-touched limits rows visit stamp depths list.kept before; up_to = AreUpTo-touched limits rows visit stamp before }
