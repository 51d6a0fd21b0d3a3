-- The row of a client after its arrival.
use Rattle.std.proofs.Common.{◌≡◌, ℕ, ◌↔◌, ◌-◌, nat_lt, true, List, [], ◌∷◌, ◌++◌, length, get_or, Option, Some, None, refl, sym, ap, ◌∙◌, arith}
use Rattle.std.specs.List.{AllByRecursion}
use Rattle.std.proofs.lemmas.Bool.{cond_both}
use Rattle.std.proofs.lemmas.List.{length_push}
use Rattle.std.proofs.lemmas.Option.{slice_get-get_or}
use Rattle.std.proofs.Math.Seq.{get_or-append_seam}
use Rattle.net_addr.specs.Addresses.{same_ip}
use Rattle.net_addr.specs.declared.addr.Ip.{Ip}
use Rattle.net_addr.proofs.AddressLemmas.{same_ip-refl}
use Rattle.recency.specs.declared.limits.Limits.{Limits}
use Rattle.recency.specs.declared.row.Row.{Row}
use Rattle.recency.specs.declared.visit.Visit.{Visit}
use Rattle.recency.specs.declared.visit.Touched.{Touched}
use Rattle.recency.specs.declared.visit.Touched.TheVariants.{Added, Untracked}
use Rattle.recency.specs.Arrivals.{IsTouched, admission, admitted, answer_by, has_aged, new_row, replaced, row_after, rows_by, touch_answer, touched_row, touched_rows}
use Rattle.recency.specs.Rows.{find_row, newest, others}
use Rattle.recency.proofs.RowLemmas.{IsNoneOf, find_row-none, find_row-some, others-none}

-- what an answer says of the client, by the rows after it
pub record IsOfClient (ip : Ip) (answer : Touched) (left : List Row) : Type 0 where
  pub row : find_row left ip ≡ touched_row answer left
  pub untracked : (answer ≡ Untracked) ↔ (find_row left ip ≡ None)

-- the row that was added is the newest
newest-push : (rows : List Row) (new : Row) → newest (rows ++ new ∷ []) ≡ Some new
newest-push rows new =
    let more : List Row = rows ++ new ∷ [] in
    let last : length more - 1 ≡ length rows = omega (arith, length_push rows new) in
    slice_get-get_or more (length more - 1) new (omega (arith, length_push rows new))
    ∙ ap (λ n. Some (get_or more n new)) last ∙ ap Some (get_or-append_seam rows new [] new)

-- and it is found where no other one is of its client
find_row-push : (rows : List Row) (new : Row) (ip : Ip) → IsNoneOf ip rows → same_ip new.ip ip ≡ true → find_row (rows ++ new ∷ []) ip ≡ Some new
find_row-push [] new ip none same = rw same refl
find_row-push (row ∷ rows) new ip none same = rw none.0 (find_row-push rows new ip none.1 same)

-- so it is what an answer that tracks the client says
pushed : (rows : List Row) (new : Row) (ip : Ip) → IsNoneOf ip rows → same_ip new.ip ip ≡ true
    → (find_row (rows ++ new ∷ []) ip ≡ newest (rows ++ new ∷ [])) × (find_row (rows ++ new ∷ []) ip ≡ None → ⊥)
pushed rows new ip none same =
    let found = find_row-push rows new ip none same in
    (found ∙ sym (newest-push rows new), λ absent. some_none new (sym found ∙ absent))
  where
    some_none : (row : Row) → Some row ≡ None → ⊥
    some_none row same = cc

-- and a client that is not tracked has no row
unlisted : (rows : List Row) (ip : Ip) → find_row rows ip ≡ None → IsOfClient ip Untracked rows
unlisted rows ip absent = record { row = absent; untracked = (λ _. absent, λ _. refl) }

added : (rows : List Row) (new : Row) (ip : Ip) → IsNoneOf ip rows → same_ip new.ip ip ≡ true → IsOfClient ip Added (rows ++ new ∷ [])
added rows new ip none same =
    let is = pushed rows new ip none same in
    record { row = is.0; untracked = (λ wrong. absurd cc, λ absent. absurd (is.1 absent)) }

replaced-client : (rows : List Row) (new : Row) (ip : Ip) → find_row rows ip ≡ None → IsNoneOf ip rows → same_ip new.ip ip ≡ true → IsOfClient ip (replaced rows) (admitted (replaced rows) rows new)
replaced-client [] new ip absent none same = unlisted [] ip refl
replaced-client (row ∷ rows) new ip absent none same =
    let is = pushed rows new ip none.1 same in
    record { row = is.0; untracked = (λ wrong. absurd cc, λ absent. absurd (is.1 absent)) }

-- a client without a row
admission-client : (limits : Limits) (rows : List Row) (stamp : ℕ) (new : Row) (ip : Ip) → find_row rows ip ≡ None → same_ip new.ip ip ≡ true
    → IsOfClient ip (admission limits rows stamp) (admitted (admission limits rows stamp) rows new)
admission-client limits rows stamp new ip absent same =
    let none = find_row-none rows ip absent in
    let P : Touched → Type 0 = λ answer. IsOfClient ip answer (admitted answer rows new) in
    cond_both (nat_lt (length rows) limits.mindepth) _ _ P (λ _. added rows new ip none same) (λ _.
    cond_both (has_aged limits.maxage rows stamp) _ _ P (λ _. replaced-client rows new ip absent none same) (λ _.
    cond_both (nat_lt (length rows) limits.maxdepth) _ _ P (λ _. added rows new ip none same) (λ _.
    cond_both (has_aged limits.minage rows stamp) _ _ P (λ _. replaced-client rows new ip absent none same) (λ _. unlisted rows ip absent))))

any : (rows : List Row) → AllByRecursion (λ (row : Row). Unit {0}) rows
any [] = tt
any (row ∷ rows) = (tt, any rows)

-- after an arrival the client's row is the newest, or it has none where it is not tracked
pub newest_is_client : (limits : Limits) (rows : List Row) (visit : Visit) (stamp : ℕ) → IsOfClient visit.ip (touch_answer limits rows visit stamp) (touched_rows limits rows visit stamp)
newest_is_client limits rows visit stamp = by (find_row rows visit.ip) refl
  where
    by : (found : Option Row) → find_row rows visit.ip ≡ found → IsOfClient visit.ip (answer_by found limits rows stamp) (rows_by found limits rows visit stamp)
    by None found = admission-client limits rows stamp (new_row visit stamp) visit.ip found (same_ip-refl visit.ip)
    by (Some row) found =
        let both = find_row-some (λ (row : Row). Unit {0}) rows visit.ip row found (any rows) in
        let is = pushed (others rows visit.ip) (row_after row visit stamp) visit.ip (others-none rows visit.ip) both.0 in
        record { row = is.0; untracked = (λ wrong. absurd cc, λ absent. absurd (is.1 absent)) }

pub IsTouched-client : (limits : Limits) (rows : List Row) (visit : Visit) (stamp : ℕ) (answer : Touched) (left : List Row) → IsTouched limits rows visit stamp answer left → IsOfClient visit.ip answer left
IsTouched-client limits rows visit stamp answer left touched = rw (touched.answers, touched.leaves) (newest_is_client limits rows visit stamp)
