-- Readings of lines of one word: none, a bad one, one too many, and the one.
use Rattle.std.proofs.Common.{◌≡◌, ℕ, List, [], ◌∷◌, Ok, Err, sym, subst, lit<}
use Rattle.refusals.specs.Refusals.{GoesOn}
use Rattle.conf_file.specs.declared.lines.Line.{Line}
use Rattle.conf_file.specs.Options.{IsReadAs}
use Rattle.conf_file.specs.ShortLines.{IsOnly}
use Rattle.conf_file.proofs.ReadingLemmas.{read_found, read_refused}
use Rattle.conf_file.proofs.RefusedLemmas.{refused_end, refused_more, refused_word}
use Rattle.conf_file.proofs.ShortLineLemmas.{only_unspelled}

-- a line of one word: none, a bad one, one too many, and the one
pub only_none : (spells : List ℕ → Line → Type 0) (all : List (List ℕ)) → all ≡ [] → GoesOn (IsOnly spells) [] → IsReadAs 2 (IsOnly spells) all (Err 2)
only_none spells all is goes_on = read_refused (IsOnly spells) 2 all 2 (refused_end (IsOnly spells) 2 all is (λ line none. none) goes_on (lit< tt))

pub only_bad : (spells : List ℕ → Line → Type 0) (all : List (List ℕ)) (word : List ℕ) (words : List (List ℕ)) → all ≡ word ∷ words → ((line : Line) → ¬ spells word line)
    → GoesOn (IsOnly spells) [] → IsReadAs 2 (IsOnly spells) all (Err 2)
only_bad spells all word words is nothing goes_on =
    read_refused (IsOnly spells) 2 all 2 (refused_word (IsOnly spells) 2 all word words is (only_unspelled spells word nothing) goes_on (lit< tt))

pub only_two : (spells : List ℕ → Line → Type 0) (all : List (List ℕ)) (word : List ℕ) (rest : List (List ℕ)) (second : List ℕ) (words : List (List ℕ)) (line : Line) → all ≡ word ∷ rest
    → rest ≡ second ∷ words → spells word line → IsReadAs 2 (IsOnly spells) all (Err 3)
only_two spells all word rest second words line is has spelled =
    let both : all ≡ word ∷ second ∷ words = cc in
    read_refused (IsOnly spells) 2 all 3 (refused_more (IsOnly spells) 2 all word second words line both (λ more other none. none) spelled (lit< tt))

pub only_one : (spells : List ℕ → Line → Type 0) (all : List (List ℕ)) (word : List ℕ) (rest : List (List ℕ)) (line : Line) → all ≡ word ∷ rest → rest ≡ [] → spells word line
    → ((other : Line) → spells word other → other ≡ line) → IsReadAs 2 (IsOnly spells) all (Ok line)
only_one spells all word rest line is ended spelled one =
    let whole : all ≡ word ∷ [] = cc in
    let P : List (List ℕ) → Type 0 = λ ws. IsReadAs 2 (IsOnly spells) ws (Ok line) in
    subst P (sym whole) (read_found (IsOnly spells) 2 (word ∷ []) line spelled one)
