-- Places of rows, and what stands there.
use Rattle.std.proofs.Common.{◌≡◌, ℕ, suc, ◌+◌, ◌<◌, ◌≤◌, Bool, true, false, cond, not, List, [], ◌∷◌, length, get_or, Option, slice_get, refl, sym, ap, subst, ◌∙◌, arith}
use Rattle.std.specs.List.{remove}
use Rattle.std.proofs.lemmas.List.Folds.{find_at}
use Rattle.std.proofs.lemmas.List.Sums.{prefix_len_is}
use Rattle.net_addr.specs.Addresses.{same_ip}
use Rattle.net_addr.specs.declared.addr.Ip.{Ip}
use Rattle.recency.specs.declared.row.Row.{Row}
use Rattle.recency.specs.Places.{place_of}
use Rattle.recency.specs.Rows.{IsDistinct, after, find_row, oldest, others}
use Rattle.net_addr.proofs.AddressLemmas.{same_ip-eq}
use Rattle.recency.proofs.RowLemmas.{IsNoneOf, others-all}

-- the place of a client is the first one whose row is the client's, or the end
pub place_of-is : (rows : List Row) (ip : Ip) (place : ℕ) (d : Row) → place ≤ length rows
    → ((k : ℕ) (d : Row) → k < place → not (same_ip (get_or rows k d).ip ip) ≡ true) → (place < length rows → same_ip (get_or rows place d).ip ip ≡ true) → place ≡ place_of rows ip
place_of-is rows ip place d within before here =
    sym (prefix_len_is (λ (row : Row). not (same_ip row.ip ip)) rows place d within (λ k less. before k d less) (λ less. ap not (here less)))

-- what stands at the place of a client is its row
pub find_row-at : (rows : List Row) (ip : Ip) → find_row rows ip ≡ slice_get rows (place_of rows ip)
find_row-at rows ip = find_at (λ (row : Row). same_ip row.ip ip) rows

-- what stands behind the place of a client is the row after its own
pub after-at : (rows : List Row) (ip : Ip) → after rows ip ≡ slice_get rows (place_of rows ip + 1)
after-at [] ip = refl
after-at (row ∷ rows) ip =
    let P : Bool → Type 0 = λ b. cond b (oldest rows) (after rows ip) ≡ slice_get (row ∷ rows) (cond (not b) (1 + place_of rows ip) 0 + 1) in
    elim (same_ip row.ip ip) as P [ true ↦ refl | false ↦ after-at rows ip ∙ ap (slice_get (row ∷ rows)) (behind (place_of rows ip)) ]
  where
    behind : (n : ℕ) → suc (n + 1) ≡ 1 + n + 1
    behind n = omega arith

-- taking out what stands at the place of a listed client leaves the rows of all others
pub remove-place : (rows : List Row) (ip : Ip) → IsDistinct rows → place_of rows ip < length rows → remove rows (place_of rows ip) ≡ others rows ip
remove-place [] ip distinct within = absurd (omega arith)
remove-place (row ∷ rows) ip distinct within =
    let P : Bool → Type 0 = λ b. (same_ip row.ip ip ≡ b) → (cond (not b) (1 + place_of rows ip) 0) < length (row ∷ rows) → remove (row ∷ rows) (cond (not b) (1 + place_of rows ip) 0) ≡ cond (not b) (row ∷ others rows ip) (others rows ip) in
    (elim (same_ip row.ip ip) as P [
      | true ↦ λ same less. sym (others-all rows ip (apart-from row ip same rows distinct.0))
      | false ↦ λ apart less. step row rows (place_of rows ip) (others rows ip) (remove-place rows ip distinct.1 (omega arith))
    ]) refl within
  where
    apart-from : (row : Row) (ip : Ip) → same_ip row.ip ip ≡ true → (rows : List Row) → IsNoneOf row.ip rows → IsNoneOf ip rows
    apart-from row ip same rows none =
        let P : Ip → Type 0 = λ ip. IsNoneOf ip rows in
        subst P (same_ip-eq row.ip ip same) none

    step : (row : Row) (rows : List Row) (n : ℕ) (left : List Row) → remove rows n ≡ left → remove (row ∷ rows) (1 + n) ≡ row ∷ left
    step row rows n left rest =
        let up : 1 + n ≡ suc n = omega arith in
        rw up (ap (λ kept. row ∷ kept) rest)

-- where no row is the client's its place is the end
pub place_of-end : (rows : List Row) (ip : Ip) → ((k : ℕ) (d : Row) → k < length rows → not (same_ip (get_or rows k d).ip ip) ≡ true) → length rows ≡ place_of rows ip
place_of-end [] ip before = refl
place_of-end (row ∷ rows) ip before = place_of-is (row ∷ rows) ip (length (row ∷ rows)) row (omega arith) before (λ less. absurd (omega (arith, less)))

-- what was read at the place of a client is its row
pub found-at : (rows seen again : List Row) (ip : Ip) (place : ℕ) (answer : Option Row) → seen ≡ rows → again ≡ rows → place ≡ place_of seen ip → answer ≡ slice_get again place → answer ≡ find_row rows ip
found-at rows seen again ip place answer same once_more at is =
    is ∙ ap (λ xs. slice_get xs place) once_more ∙ ap (slice_get rows) (at ∙ ap (λ xs. place_of xs ip) same) ∙ sym (find_row-at rows ip)

-- what was read behind the place of a client is the row after its own
pub after-found : (rows seen again : List Row) (ip : Ip) (place : ℕ) (answer : Option Row) → seen ≡ rows → again ≡ rows → place ≡ place_of seen ip → answer ≡ slice_get again (place + 1) → answer ≡ after rows ip
after-found rows seen again ip place answer same once_more at is =
    is ∙ ap (λ xs. slice_get xs (place + 1)) once_more ∙ ap (λ n. slice_get rows (n + 1)) (at ∙ ap (λ xs. place_of xs ip) same) ∙ sym (after-at rows ip)
