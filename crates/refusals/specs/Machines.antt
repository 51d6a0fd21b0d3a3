-- Readers of one symbol after another, and where they refuse a text: our own words.
use Rattle.std.proofs.Common.{◌≡◌, ℕ, ◌≤◌, List, [], ◌∷◌, ◌++◌, length, take, drop, Option, Some, None, refl, sym, ap, ◌∙◌}
use Rattle.std.specs.Option.{option_and_then}
use Rattle.refusals.specs.Refusals.{GoesOn, Stops, IsRefusedAt}

-- a reader: the state to which a symbol leads, if it does, and what a text means that ends in a state, if it may end there
pub record Machine (S X M : Type 0) : Type 0 where
  pub next : S → X → Option S
  pub value : S → Option M

-- the state after a text, if it leads anywhere
abbrev pub after : {S X M : Type 0} → Machine S X M → List X → S → Option S
after machine [] s = Some s
after machine (x ∷ text) s = option_and_then (after machine text) (machine.next s x)

-- a state from which the text leads nowhere: its first symbol does not, or it ends where it may not
abbrev pub IsStuck : {S X M : Type 0} → Machine S X M → S → List X → Type 0
IsStuck machine s [] = machine.value s ≡ None
IsStuck machine s (x ∷ rest) = machine.next s x ≡ None

-- the machine reads exactly the texts that mean something, and can go on from each state that it reaches
pub record Reads {S X M : Type 0} (machine : Machine S X M) (start : S) (means : List X → M → Type 0) : Type 0 where
  pub sound : (text : List X) (s : S) (m : M) → after machine text start ≡ Some s → machine.value s ≡ Some m → means text m
  pub complete : (text : List X) (m : M) → means text m → (s : S) × (after machine text start ≡ Some s) × (machine.value s ≡ Some m)
  pub goes_on : (text : List X) (s : S) → after machine text start ≡ Some s → (more : List X) × (t : S) × (m : M) × (after machine more s ≡ Some t) × (machine.value t ≡ Some m)

-- a text leads on from where its front leads
pub after-append : {S X M : Type 0} (machine : Machine S X M) (front rest : List X) (s : S) → after machine (front ++ rest) s ≡ option_and_then (after machine rest) (after machine front s)
after-append machine [] rest s = refl
after-append machine (x ∷ front) rest s =
    elim (machine.next s x) as (λ o. option_and_then (after machine (front ++ rest)) o ≡ option_and_then (after machine rest) (option_and_then (after machine front) o)) [
      | None ↦ refl
      | Some t ↦ after-append machine front rest t
    ]

-- the same, where the front leads to a state
pub after-front : {S X M : Type 0} (machine : Machine S X M) (front rest : List X) (s t : S) → after machine front s ≡ Some t → after machine (front ++ rest) s ≡ after machine rest t
after-front machine front rest s t leads =
    after-append machine front rest s ∙ ap (option_and_then (after machine rest)) leads

-- a front on which a machine that reads the grammar is somewhere goes on
GoesOn-after : {S X M : Type 0} (machine : Machine S X M) (start : S) (means : List X → M → Type 0) → Reads machine start means
    → (front : List X) (s : S) → after machine front start ≡ Some s → GoesOn means front
GoesOn-after machine start means reads front s leads =
    let (more, t, m, on, value) = reads.goes_on front s leads in
    (more, m, reads.sound (front ++ more) t m (after-front machine front more start s leads ∙ on) value)

-- a text stops where the machine is stuck
Stops-stuck : {S X M : Type 0} (machine : Machine S X M) (start : S) (means : List X → M → Type 0) → Reads machine start means
    → (front rest : List X) (s : S) → after machine front start ≡ Some s → IsStuck machine s rest → Stops means front rest
Stops-stuck {M = M} machine start means reads front [] s leads stuck =
    λ (m : M). λ (is : means front m). (
    let (t, on, value) = reads.complete front m is in
    let same : Some s ≡ Some t = sym leads ∙ on in
    cc)
Stops-stuck machine start means reads front (x ∷ rest) s leads stuck =
    λ (more, m, is). (
    let (t, on, value) = reads.complete ((front ++ x ∷ []) ++ more) m is in
    let with_x = after-front machine front (x ∷ []) start s leads ∙ ap (option_and_then (after machine [])) stuck in
    let nowhere = after-append machine (front ++ x ∷ []) more start ∙ ap (option_and_then (after machine more)) with_x in
    let same : None ≡ Some t = sym nowhere ∙ on in
    cc)

-- what a machine that reads the grammar is stuck at is refused exactly there
pub refused_where_stuck : {S X M : Type 0} (machine : Machine S X M) (start : S) (means : List X → M → Type 0) → Reads machine start means
    → (text : List X) (place : ℕ) (s : S) → place ≤ length text → after machine (take place text) start ≡ Some s → IsStuck machine s (drop place text)
    → IsRefusedAt means text place
refused_where_stuck machine start means reads text place s within leads stuck = record {
  within = within;
  goes_on = GoesOn-after machine start means reads (take place text) s leads;
  stops = Stops-stuck machine start means reads (take place text) (drop place text) s leads stuck;
}

-- a text that a machine reads means one thing at most
pub one_meaning : {S X M : Type 0} (machine : Machine S X M) (start : S) (means : List X → M → Type 0) → Reads machine start means
    → (text : List X) (m n : M) → means text m → means text n → m ≡ n
one_meaning machine start means reads text m n first second =
    let (s, to_s, value_s) = reads.complete text m first in
    let (t, to_t, value_t) = reads.complete text n second in
    let same : Some s ≡ Some t = sym to_s ∙ to_t in
    cc
