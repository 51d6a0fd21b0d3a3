-- Texts that are read line by line, each line in the state that those before it made: our own rule.
use Rattle.std.specs.Prelude.{◌≡◌, ℕ, ◌+◌, List, [], ◌∷◌, ◌++◌, length, ◌⊎◌}
use Rattle.refusals.specs.Refusals.{IsRefusedAt}
use Rattle.refusals.specs.Told.{told_number}

-- a grammar of lines: what a line means where a state stands, the state that a meaning makes of it, and the place at which a
-- line is refused whose meaning the state does not take
pub record Lines (S X M : Type 0) : Type 1 where
  pub means : S → List X → M → Type 0
  pub takes : S → M → S → Type 0
  pub refuses : S → M → List X → ℕ → Type 0

-- a line is taken: it means something, and that makes the next state
abbrev pub IsTaken : {S X M : Type 0} → Lines S X M → S → List X → S → Type 0
IsTaken {M = M} lines state line next = (meaning : M) × lines.means state line meaning × lines.takes state meaning next

-- so many symbols of a line stand before the first one that is refused: no line goes on with it, or the state does not take
-- what the line means
abbrev pub IsRefusedIn : {S X M : Type 0} → Lines S X M → S → List X → ℕ → Type 0
IsRefusedIn {M = M} lines state line place =
    IsRefusedAt (lines.means state) line place ⊎ ((meaning : M) × lines.means state line meaning × lines.refuses state meaning line place)

-- the state after a text, line after line
abbrev pub IsAfter : {S X M : Type 0} → Lines S X M → S → List (List X) → S → Type 0
IsAfter lines state [] final = final ≡ state
IsAfter {S = S} lines state (line ∷ text) final = (next : S) × IsTaken lines state line next × IsAfter lines next text final

-- the first refused line of a text and its first refused symbol, both counted from 1
pub record IsFirstRefused {S X M : Type 0} (lines : Lines S X M) (start : S) (text : List (List X)) (line symbol : ℕ) : Type 0 where
  pub before : List (List X)
  pub refused : List X
  pub behind : List (List X)
  pub state : S
  pub place : ℕ
  pub cut : text ≡ before ++ refused ∷ behind
  pub after : IsAfter lines start before state
  pub here : IsRefusedIn lines state refused place
  pub line_told : line ≡ told_number (length before + 1)
  pub symbol_told : symbol ≡ told_number (place + 1)

-- a line is taken into this state and no other, and refused nowhere
pub record IsTakenAlone {S X M : Type 0} (lines : Lines S X M) (state : S) (line : List X) (next : S) : Type 0 where
  pub taken : IsTaken lines state line next
  pub only : (other : S) → IsTaken lines state line other → other ≡ next
  pub not_refused : (place : ℕ) → ¬ IsRefusedIn lines state line place

-- a line is refused at this place and no other, and not taken
pub record IsRefusedAlone {S X M : Type 0} (lines : Lines S X M) (state : S) (line : List X) (place : ℕ) : Type 0 where
  pub refused : IsRefusedIn lines state line place
  pub only : (other : ℕ) → IsRefusedIn lines state line other → other ≡ place
  pub not_taken : (next : S) → ¬ IsTaken lines state line next
