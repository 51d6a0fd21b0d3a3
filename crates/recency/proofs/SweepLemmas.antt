-- What a sweep keeps.
use Rattle.std.proofs.Common.{◌≡◌, ℕ, true, false, cond, List, [], ◌∷◌, length, drop, sym, subst, ◌∙◌, arith}
use Rattle.recency.specs.declared.limits.Limits.{Limits}
use Rattle.recency.specs.declared.row.Row.{Row}
use Rattle.recency.specs.Rows.{AreRows, AreUpTo, IsClientList}
use Rattle.recency.specs.Sweeps.{is_dropped, swept_rows}

-- what holds of rows and of their rests holds of what a sweep leaves
swept_rows-keeps : (P : List Row → Type 0) → ((row : Row) (rows : List Row) → P (row ∷ rows) → P rows) → (limits : Limits) (rows : List Row) (moment : ℕ) → P rows → P (swept_rows limits rows moment)
swept_rows-keeps P rest limits [] moment holds = holds
swept_rows-keeps P rest limits (row ∷ rows) moment holds =
    elim (is_dropped limits row (length (row ∷ rows)) moment) as (λ b. P (cond b (swept_rows limits rows moment) (row ∷ rows))) [
      | true ↦ swept_rows-keeps P rest limits rows moment (rest row rows holds)
      | false ↦ holds
    ]

-- a client list stays one where it is swept
pub AreRows-swept : (limits : Limits) (rows : List Row) (moment : ℕ) → AreRows limits rows → AreRows limits (swept_rows limits rows moment)
AreRows-swept limits rows moment kept =
    swept_rows-keeps (λ rows. AreRows limits rows) (λ row rows kept. record { distinct = kept.distinct.1; rising = kept.rising.1; each = kept.each.1; depth = omega (arith, kept.depth) }) limits rows moment kept

-- the arrivals stay up to a stamp where a list is swept
pub AreUpTo-swept : (stamp : ℕ) (limits : Limits) (rows : List Row) (moment : ℕ) → AreUpTo stamp rows → AreUpTo stamp (swept_rows limits rows moment)
AreUpTo-swept stamp limits rows moment up_to = swept_rows-keeps (λ rows. AreUpTo stamp rows) (λ row rows up_to. up_to.1) limits rows moment up_to

-- what was left of rows as a sweep leaves them is a client list
pub AreRows-left : (limits : Limits) (rows seen : List Row) (moment gone : ℕ) (left : List Row) → seen ≡ rows → drop gone seen ≡ swept_rows limits seen moment → left ≡ drop gone rows → AreRows limits rows → AreRows limits left
AreRows-left limits rows seen moment gone left same sweeps leaves kept =
    let P : List Row → Type 0 = λ xs. drop gone xs ≡ swept_rows limits xs moment in
    let swept : left ≡ swept_rows limits rows moment = leaves ∙ subst P same sweeps in
    let Q : List Row → Type 0 = λ xs. AreRows limits xs in
    subst Q (sym swept) (AreRows-swept limits rows moment kept)

-- a client list stays one where it is swept, up to the same stamp
pub IsClientList-swept : (limits : Limits) (rows : List Row) (stamp moment : ℕ) → IsClientList limits rows stamp → IsClientList limits (swept_rows limits rows moment) stamp
IsClientList-swept limits rows stamp moment list = record { kept = AreRows-swept limits rows moment list.kept; up_to = AreUpTo-swept stamp limits rows moment list.up_to }
