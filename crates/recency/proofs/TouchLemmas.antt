-- What a touch comes to, by the place of the client.
use Rattle.std.proofs.Common.{◌≡◌, ℕ, ◌<◌, ◌≤◌, List, [], ◌∷◌, ◌++◌, length, Option, Some, None, slice_get, refl, sym, ap, subst, ◌∙◌, arith, inl, inr}
use Rattle.std.specs.List.{remove}
use Rattle.std.specs.Option.{IfSome}
use Rattle.std.proofs.lemmas.Option.{slice_get_cases}
use Rattle.recency.specs.declared.limits.Limits.{Limits}
use Rattle.recency.specs.declared.row.Row.{Row}
use Rattle.recency.specs.declared.visit.Visit.{Visit}
use Rattle.recency.specs.declared.visit.Touched.{Touched}
use Rattle.recency.specs.declared.visit.Touched.TheVariants.{Known}
use Rattle.recency.specs.Arrivals.{admission, admitted, answer_by, new_row, row_after, rows_by, IsTouched}
use Rattle.recency.specs.Places.{place_of}
use Rattle.recency.specs.Rows.{AreBefore, AreRows, ClientList, IsDistinct, find_row, others}
use Rattle.recency.proofs.ArrivalLemmas.{AreRows-touched}
use Rattle.recency.proofs.PlaceLemmas.{find_row-at, remove-place}

-- by a client's row, where it is known
found-IsTouched : (limits : Limits) (rows : List Row) (visit : Visit) (stamp : ℕ) (found : Option Row) (answer : Touched) (left : List Row) → find_row rows visit.ip ≡ found
    → answer ≡ answer_by found limits rows stamp → left ≡ rows_by found limits rows visit stamp → IsTouched limits rows visit stamp answer left
found-IsTouched limits rows visit stamp found answer left is answers leaves = record {
  answers = answers ∙ sym (ap (λ (found : Option Row). answer_by found limits rows stamp) is);
  leaves = leaves ∙ sym (ap (λ (found : Option Row). rows_by found limits rows visit stamp) is);
}

-- a listed client's row, taken out at its place and added as the arrival changes it
pub moved-IsTouched : (limits : Limits) (rows seen : List Row) (visit : Visit) (stamp place : ℕ) (left : List Row) → IsDistinct rows → seen ≡ rows → place ≡ place_of seen visit.ip → place < length rows
    → IfSome (slice_get rows place) (λ row. left ≡ remove rows place ++ row_after row visit stamp ∷ []) → IsTouched limits rows visit stamp Known left
moved-IsTouched limits rows seen visit stamp place left distinct same place_is within moved =
    elim (slice_get_cases rows place).1 as (λ _. IsTouched limits rows visit stamp Known left) [
      | inl (row, _, is, _) ↦
          let at : place ≡ place_of rows visit.ip = place_is ∙ ap (λ xs. place_of xs visit.ip) same in
          let P : Option Row → Type 0 = λ o. IfSome o (λ row. left ≡ remove rows place ++ row_after row visit stamp ∷ []) in
          let leaves : left ≡ remove rows place ++ row_after row visit stamp ∷ [] = subst P is moved in
          let Q : ℕ → Type 0 = λ n. n < length rows in
          let kept : remove rows place ≡ others rows visit.ip = ap (remove rows) at ∙ remove-place rows visit.ip distinct (subst Q at within) in
          let found : find_row rows visit.ip ≡ Some row = find_row-at rows visit.ip ∙ sym (ap (slice_get rows) at) ∙ is in
          found-IsTouched limits rows visit stamp (Some row) Known left found refl (leaves ∙ ap (λ (xs : List Row). xs ++ row_after row visit stamp ∷ []) kept)
      | inr (past, _) ↦ absurd (omega (arith, past, within))
    ]

-- another client's answer, followed
pub admitted-IsTouched : (limits : Limits) (rows seen again : List Row) (visit : Visit) (stamp place : ℕ) (answer : Touched) (new : Row) (left : List Row) → seen ≡ rows → again ≡ rows
    → place ≡ place_of seen visit.ip → length rows ≤ place → answer ≡ admission limits again stamp → new ≡ new_row visit stamp → left ≡ admitted answer rows new
    → IsTouched limits rows visit stamp answer left
admitted-IsTouched limits rows seen again visit stamp place answer new left same once_more place_is past answers is leaves =
    elim (slice_get_cases rows place).1 as (λ _. IsTouched limits rows visit stamp answer left) [
      | inl (_, within, _, _) ↦ absurd (omega (arith, past, within))
      | inr (_, none) ↦
          let at : place ≡ place_of rows visit.ip = place_is ∙ ap (λ xs. place_of xs visit.ip) same in
          let absent : find_row rows visit.ip ≡ None = find_row-at rows visit.ip ∙ sym (ap (slice_get rows) at) ∙ none in
          let admits : answer ≡ admission limits rows stamp = answers ∙ ap (λ xs. admission limits xs stamp) once_more in
          found-IsTouched limits rows visit stamp None answer left absent admits
          (leaves ∙ ap (λ (a : Touched). admitted a rows new) admits ∙ ap (admitted (admission limits rows stamp) rows) is)
    ]

-- a client list stays one under an arrival after all of its rows
pub AreRows-IsTouched : (list : ClientList) (limits : Limits) (rows : List Row) (visit : Visit) (stamp : ℕ) (answer : Touched) (left : List Row) → record { limits = limits; rows = rows } ≡ list
    → limits.mindepth ≤ limits.maxdepth → AreRows limits rows → AreBefore stamp list.rows → IsTouched limits rows visit stamp answer left → AreRows limits left
AreRows-IsTouched list limits rows visit stamp answer left view depths kept before touched =
    let P : ClientList → Type 0 = λ list. AreBefore stamp list.rows in
    let Q : List Row → Type 0 = λ rows. AreRows limits rows in
    subst Q (sym touched.leaves) (AreRows-touched limits rows visit stamp depths kept (subst P (sym view) before))
