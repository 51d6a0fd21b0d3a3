-- Where the words of a line are refused: at their end, at the first, after the first, as other words.
use Rattle.std.proofs.Common.{◌≡◌, ℕ, zero, suc, ◌+◌, ◌-◌, ◌^◌, ◌<◌, List, [], ◌∷◌, ◌++◌, take, drop, sym, subst, arith}
use Rattle.refusals.specs.Refusals.{GoesOn, Stops, IsRefusedAt}
use Rattle.conf_file.specs.Options.{IsRefusedFrom}

-- words that end too soon
pub refused_end : {M : Type 0} (means : List (List ℕ) → M → Type 0) (number : ℕ) (all : List (List ℕ))
    → all ≡ [] → ((line : M) → ¬ means [] line) → GoesOn means [] → number < 2 ^ 32 → IsRefusedFrom number means all number
refused_end means number all is nothing goes_on low =
    let P : List (List ℕ) → Type 0 = λ ws. IsRefusedAt means ws 0 in
    let here : IsRefusedAt means [] 0 = record { within = omega arith; goes_on = goes_on; stops = nothing } in
    (0, subst P (sym is) here, omega arith)

-- a first word with which no line goes on
pub refused_word : {M : Type 0} (means : List (List ℕ) → M → Type 0) (number : ℕ) (all : List (List ℕ)) (word : List ℕ) (words : List (List ℕ))
    → all ≡ word ∷ words → ((more : List (List ℕ)) (line : M) → ¬ means (word ∷ more) line) → GoesOn means [] → number < 2 ^ 32 → IsRefusedFrom number means all number
refused_word means number all word words is nothing goes_on low =
    let P : List (List ℕ) → Type 0 = λ ws. IsRefusedAt means ws 0 in
    let here : IsRefusedAt means (word ∷ words) 0 = record { within = omega arith; goes_on = goes_on; stops = λ (more, line, is_line). nothing more line is_line } in
    (0, subst P (sym is) here, omega arith)

-- a second word, where a line ends after the first
pub refused_more : {M : Type 0} (means : List (List ℕ) → M → Type 0) (number : ℕ) (all : List (List ℕ)) (word second : List ℕ) (words : List (List ℕ)) (line : M)
    → all ≡ word ∷ second ∷ words → ((more : List (List ℕ)) (other : M) → ¬ means (word ∷ second ∷ more) other) → means (word ∷ []) line → number < 2 ^ 32 - 1
    → IsRefusedFrom number means all (number + 1)
refused_more means number all word second words line is nothing means_line low =
    let P : List (List ℕ) → Type 0 = λ ws. IsRefusedAt means ws 1 in
    let here : IsRefusedAt means (word ∷ second ∷ words) 1 = record { within = omega arith; goes_on = ([], line, means_line); stops = λ (more, other, is_line). nothing more other is_line } in
    (1, subst P (sym is) here, omega arith)

-- the words after a first one mean what the whole means
pub record LeadsTo {M : Type 0} (means : List (List ℕ) → M → Type 0) (word : List ℕ) (rest : List (List ℕ) → M → Type 0) : Type 0 where
  pub onward : (words : List (List ℕ)) (line : M) → means (word ∷ words) line → rest words line
  pub back : (words : List (List ℕ)) (line : M) → rest words line → means (word ∷ words) line

GoesOn-onward : {M : Type 0} (means rest : List (List ℕ) → M → Type 0) (word : List ℕ) (front : List (List ℕ)) → LeadsTo means word rest → GoesOn means (word ∷ front) → GoesOn rest front
GoesOn-onward means rest word front leads (more, line, is) = (more, line, leads.onward (front ++ more) line is)

GoesOn-back : {M : Type 0} (means rest : List (List ℕ) → M → Type 0) (word : List ℕ) (front : List (List ℕ)) → LeadsTo means word rest → GoesOn rest front → GoesOn means (word ∷ front)
GoesOn-back means rest word front leads (more, line, is) = (more, line, leads.back (front ++ more) line is)

Stops-back : {M : Type 0} (means rest : List (List ℕ) → M → Type 0) (word : List ℕ) (front back : List (List ℕ)) → LeadsTo means word rest → Stops rest front back → Stops means (word ∷ front) back
Stops-back means rest word front [] leads stops = λ line is. stops line (leads.onward front line is)
Stops-back means rest word front (next ∷ back) leads stops = λ goes_on. stops (GoesOn-onward means rest word (front ++ next ∷ []) leads goes_on)

-- a place among the words after the first
pub refused_after : {M : Type 0} (means rest : List (List ℕ) → M → Type 0) (number : ℕ) (all : List (List ℕ)) (word : List ℕ) (words : List (List ℕ)) (told : ℕ)
    → all ≡ word ∷ words → LeadsTo means word rest → IsRefusedFrom (number + 1) rest words told → IsRefusedFrom number means all told
refused_after means rest number all word words told is leads (place, refused, same) =
    let P : List (List ℕ) → Type 0 = λ ws. IsRefusedAt means ws (suc place) in
    let here : IsRefusedAt means (word ∷ words) (suc place) = record {
      within = omega (arith, refused.within);
      goes_on = GoesOn-back means rest word (take place words) leads refused.goes_on;
      stops = Stops-back means rest word (take place words) (drop place words) leads refused.stops;
    } in
    (suc place, subst P (sym is) here, omega arith)

-- words that begin with this one mean the same by two grammars
pub record MeansAs {M : Type 0} (means : List (List ℕ) → M → Type 0) (word : List ℕ) (other : List (List ℕ) → M → Type 0) : Type 0 where
  pub onward : (words : List (List ℕ)) (line : M) → means (word ∷ words) line → other (word ∷ words) line
  pub back : (words : List (List ℕ)) (line : M) → other (word ∷ words) line → means (word ∷ words) line

GoesOn-as : {M : Type 0} (means other : List (List ℕ) → M → Type 0) (word : List ℕ) (front : List (List ℕ)) → MeansAs means word other → GoesOn means (word ∷ front) → GoesOn other (word ∷ front)
GoesOn-as means other word front alike (more, line, is) = (more, line, alike.onward (front ++ more) line is)

flipped : {M : Type 0} (means other : List (List ℕ) → M → Type 0) (word : List ℕ) → MeansAs means word other → MeansAs other word means
flipped means other word alike = record { onward = alike.back; back = alike.onward }

Stops-as : {M : Type 0} (means other : List (List ℕ) → M → Type 0) (word : List ℕ) (front back : List (List ℕ)) → MeansAs means word other → Stops other (word ∷ front) back → Stops means (word ∷ front) back
Stops-as means other word front [] alike stops = λ line is. stops line (alike.onward front line is)
Stops-as means other word front (next ∷ back) alike stops = λ goes_on. stops (GoesOn-as means other word (front ++ next ∷ []) alike goes_on)

refused_as_at : {M : Type 0} (means other : List (List ℕ) → M → Type 0) (word : List ℕ) (words : List (List ℕ)) (place : ℕ) → MeansAs means word other → GoesOn means []
    → IsRefusedAt other (word ∷ words) place → IsRefusedAt means (word ∷ words) place
refused_as_at means other word words zero alike goes_on refused = record {
  within = omega arith;
  goes_on = goes_on;
  stops = λ on. refused.stops (GoesOn-as means other word [] alike on);
}
refused_as_at means other word words (suc place) alike goes_on refused = record {
  within = refused.within;
  goes_on = GoesOn-as other means word (take place words) (flipped means other word alike) refused.goes_on;
  stops = Stops-as means other word (take place words) (drop place words) alike refused.stops;
}

-- a place by the other grammar
pub refused_as : {M : Type 0} (means other : List (List ℕ) → M → Type 0) (number : ℕ) (all : List (List ℕ)) (word : List ℕ) (words : List (List ℕ)) (told : ℕ)
    → all ≡ word ∷ words → MeansAs means word other → GoesOn means [] → IsRefusedFrom number other all told → IsRefusedFrom number means all told
refused_as means other number all word words told is alike goes_on (place, refused, same) =
    let P : List (List ℕ) → Type 0 = λ ws. IsRefusedAt means ws place in
    let Q : List (List ℕ) → Type 0 = λ ws. IsRefusedAt other ws place in
    (place, subst P (sym is) (refused_as_at means other word words place alike goes_on (subst Q is refused)), same)

-- a place by a grammar that means the same
pub refused_same : {M : Type 0} (means other : List (List ℕ) → M → Type 0) (number : ℕ) (all : List (List ℕ)) (told : ℕ) → ((words : List (List ℕ)) (line : M) → means words line → other words line)
    → ((words : List (List ℕ)) (line : M) → other words line → means words line) → IsRefusedFrom number other all told → IsRefusedFrom number means all told
refused_same {M = M} means other number all told onward back (place, refused, same) = (
  place,
  record {
    within = refused.within;
    goes_on = on (take place all) refused.goes_on;
    stops = stopped (take place all) (drop place all) refused.stops;
  },
  same,
)
  where
    on : (front : List (List ℕ)) → GoesOn other front → GoesOn means front
    on front (more, line, is) = (more, line, back (front ++ more) line is)

    on_back : (front : List (List ℕ)) → GoesOn means front → GoesOn other front
    on_back front (more, line, is) = (more, line, onward (front ++ more) line is)

    stopped : (front rest : List (List ℕ)) → Stops other front rest → Stops means front rest
    stopped front [] stops = λ line is. stops line (onward front line is)
    stopped front (next ∷ rest) stops = λ goes_on. stops (on_back (front ++ next ∷ []) goes_on)
