-- Readings of words: refused, found, and those that go on after a first word.
use Rattle.std.proofs.Common.{◌-◌, min, arith, ◌≡◌, ℕ, ◌+◌, ◌^◌, ◌<◌, List, [], ◌∷◌, Result, Ok, Err, refl, sym, ap, subst}
use Rattle.refusals.specs.Refusals.{GoesOn, refused_nowhere}
use Rattle.conf_file.specs.Options.{IsReadAs, IsRefusedFrom}
use Rattle.conf_file.proofs.RefusedLemmas.{LeadsTo, MeansAs, refused_after, refused_as, refused_end, refused_same, refused_word}

-- words that are refused
pub read_refused : {M : Type 0} (means : List (List ℕ) → M → Type 0) (number : ℕ) (all : List (List ℕ)) (told : ℕ) → IsRefusedFrom number means all told → IsReadAs number means all (Err told)
read_refused means number all told refused = record {
  found = tt;
  only = λ line is. absurd (refused_nowhere means all line refused.0 is refused.1);
  refused = refused;
}

-- words that mean one line
pub read_found : {M : Type 0} (means : List (List ℕ) → M → Type 0) (number : ℕ) (all : List (List ℕ)) (line : M) → means all line → ((other : M) → means all other → other ≡ line)
    → IsReadAs number means all (Ok line)
read_found means number all line is one = record {
  found = is;
  only = λ other also. ap Ok (sym (one other also));
  refused = tt;
}

-- the reading of the words after a first one
pub read_after : {M : Type 0} (means rest : List (List ℕ) → M → Type 0) (number : ℕ) (all : List (List ℕ)) (word : List ℕ) (words : List (List ℕ)) (result : Result M ℕ)
    → all ≡ word ∷ words → LeadsTo means word rest → IsReadAs (number + 1) rest words result → IsReadAs number means all result
read_after means rest number all word words (Ok line) is leads read =
    let P : List (List ℕ) → Type 0 = λ ws. IsReadAs number means ws (Ok line) in
    let here : IsReadAs number means (word ∷ words) (Ok line) = record {
      found = leads.back words line read.found;
      only = λ other also. read.only other (leads.onward words other also);
      refused = tt;
    } in
    subst P (sym is) here
read_after means rest number all word words (Err told) is leads read = read_refused means number all told (refused_after means rest number all word words told is leads read.refused)

-- the reading of the same words by another grammar
pub read_as : {M : Type 0} (means other : List (List ℕ) → M → Type 0) (number : ℕ) (all : List (List ℕ)) (word : List ℕ) (words : List (List ℕ)) (result : Result M ℕ)
    → all ≡ word ∷ words → MeansAs means word other → GoesOn means [] → IsReadAs number other (word ∷ words) result → IsReadAs number means all result
read_as means other number all word words (Ok line) is alike goes_on read =
    let P : List (List ℕ) → Type 0 = λ ws. IsReadAs number means ws (Ok line) in
    let here : IsReadAs number means (word ∷ words) (Ok line) = record {
      found = alike.back words line read.found;
      only = λ one also. read.only one (alike.onward words one also);
      refused = tt;
    } in
    subst P (sym is) here
read_as means other number all word words (Err told) is alike goes_on read =
    let P : List (List ℕ) → Type 0 = λ ws. IsReadAs number means ws (Err told) in
    let here : IsReadAs number means (word ∷ words) (Err told) =
    read_refused means number (word ∷ words) told (refused_as means other number (word ∷ words) word words told refl alike goes_on read.refused) in
    subst P (sym is) here

-- words that end too soon, and a first word with which no line goes on
pub read_end : {M : Type 0} (means : List (List ℕ) → M → Type 0) (number : ℕ) (all : List (List ℕ)) → all ≡ [] → ((line : M) → ¬ means [] line) → GoesOn means [] → number < 2 ^ 32
    → IsReadAs number means all (Err number)
read_end means number all is nothing goes_on low = read_refused means number all number (refused_end means number all is nothing goes_on low)

pub read_bad : {M : Type 0} (means : List (List ℕ) → M → Type 0) (number : ℕ) (all : List (List ℕ)) (word : List ℕ) (words : List (List ℕ)) → all ≡ word ∷ words
    → ((more : List (List ℕ)) (line : M) → ¬ means (word ∷ more) line) → GoesOn means [] → number < 2 ^ 32 → IsReadAs number means all (Err number)
read_bad means number all word words is nothing goes_on low = read_refused means number all number (refused_word means number all word words is nothing goes_on low)

-- the reading by a grammar that means the same
pub read_same : {M : Type 0} (means other : List (List ℕ) → M → Type 0) (number : ℕ) (all : List (List ℕ)) (result : Result M ℕ) → ((words : List (List ℕ)) (line : M) → means words line → other words line)
    → ((words : List (List ℕ)) (line : M) → other words line → means words line) → IsReadAs number other all result → IsReadAs number means all result
read_same means other number all (Ok line) onward back read = record {
  found = back all line read.found;
  only = λ one is. read.only one (onward all one is);
  refused = tt;
}
read_same means other number all (Err told) onward back read = read_refused means number all told (refused_same means other number all told onward back read.refused)

-- a reading whose words are counted from the greatest number on is also one from the number before
told_before : {M : Type 0} (means : List (List ℕ) → M → Type 0) (number more : ℕ) (words : List (List ℕ)) (result : Result M ℕ) → more ≡ min (number + 1) (2 ^ 32 - 1) → number < 2 ^ 32
    → IsReadAs more means words result → IsReadAs (number + 1) means words result
told_before means number more words (Ok line) one low read = record { found = read.found; only = read.only; refused = tt }
told_before means number more words (Err told) one low read =
    let (place, refused, same) = read.refused in
    read_refused means (number + 1) words told (place, refused, omega (arith, same, one))

-- the reading of the words after a first one, whose number is told in 32 bits
pub read_next : {M : Type 0} (means rest : List (List ℕ) → M → Type 0) (number more : ℕ) (all : List (List ℕ)) (word : List ℕ) (words : List (List ℕ)) (result : Result M ℕ)
    → all ≡ word ∷ words → LeadsTo means word rest → more ≡ min (number + 1) (2 ^ 32 - 1) → number < 2 ^ 32 → IsReadAs more rest words result → IsReadAs number means all result
read_next means rest number more all word words result is leads one low read = read_after means rest number all word words result is leads (told_before rest number more words result one low read)
