-- Pieces joined one by one.
use Rattle.std.proofs.Common.{◌≡◌, ℕ, suc, ◌+◌, ◌-◌, ◌<◌, ◌≤◌, true, false, cond, List, [], ◌++◌, length, Option, Some, None, option_map, refl, ap, ◌∙◌, sym, append_assoc, arith}
use Rattle.std.specs.Option.{is_some, option_and_then}
use Rattle.mode6_frame.specs.declared.groups.Piece.{Piece}
use Rattle.mode6_frame.specs.declared.groups.Step.TheVariants as Then
use Rattle.mode6_frame.specs.Groups.{joined, joined_from, made_of, piece_at}

-- what follows a piece at a place, if one stands there
abbrev after_piece : ℕ → ℕ → List Piece → Option Piece → Option (List ℕ)
after_piece most place pieces found =
    option_and_then (λ (piece : Piece). cond piece.more (option_map (λ (rest : List ℕ). piece.text ++ rest) (joined_from most (place + piece.span) pieces)) (Some piece.text)) found

-- one piece of those that are left
joined_from-step : (pieces : List Piece) (count done place : ℕ) → done < count → joined_from (count - done) place pieces ≡ after_piece (count - (done + 1)) place pieces (piece_at place pieces)
joined_from-step pieces count done place before =
    let next : count - done ≡ suc (count - (done + 1)) = omega arith in
    ap (λ most. joined_from most place pieces) next

-- the pieces from a place on, behind a text, are those from the first place on
abbrev pub IsJoining : List Piece → List ℕ → ℕ → ℕ → Type 0
IsJoining pieces text done place = option_map (λ (rest : List ℕ). text ++ rest) (joined_from (length pieces - done) place pieces) ≡ joined_from (length pieces) 0 pieces

-- they are behind no text at first
pub IsJoining-first : (pieces : List Piece) → IsJoining pieces [] 0 0
IsJoining-first pieces =
    let all : length pieces - 0 ≡ length pieces = omega arith in
    ap (λ most. option_map (λ (rest : List ℕ). [] ++ rest) (joined_from most 0 pieces)) all ∙ as_it_is (joined_from (length pieces) 0 pieces)
  where
    as_it_is : (o : Option (List ℕ)) → option_map (λ (rest : List ℕ). [] ++ rest) o ≡ o
    as_it_is None = refl
    as_it_is (Some rest) = refl

-- what is joined where a piece is found, or not
IsJoining-found : (pieces : List Piece) (text : List ℕ) (done place : ℕ) (found : Option Piece) → IsJoining pieces text done place → done < length pieces → found ≡ piece_at place pieces
    → option_map (λ (rest : List ℕ). text ++ rest) (after_piece (length pieces - (done + 1)) place pieces found) ≡ joined_from (length pieces) 0 pieces
IsJoining-found pieces text done place found joining before is =
    ap (λ o. option_map (λ (rest : List ℕ). text ++ rest) (after_piece (length pieces - (done + 1)) place pieces o)) is
    ∙ ap (option_map (λ (rest : List ℕ). text ++ rest)) (sym (joined_from-step pieces (length pieces) done place before))
    ∙ joining

-- where a piece is missing there is no text yet
pub joined-missing : (pieces : List Piece) (text : List ℕ) (done place : ℕ) → IsJoining pieces text done place → done < length pieces → None ≡ piece_at place pieces → None ≡ joined pieces
unfolding joined
joined-missing pieces text done place joining before none = IsJoining-found pieces text done place None joining before none

-- the last piece ends the text
pub joined-last : (pieces : List Piece) (text : List ℕ) (done place : ℕ) (piece : Piece) → IsJoining pieces text done place → done < length pieces → Some piece ≡ piece_at place pieces
    → piece.more ≡ false → Some (text ++ piece.text) ≡ joined pieces
unfolding joined
joined-last pieces text done place piece joining before found last =
    let at = IsJoining-found pieces text done place (Some piece) joining before found in
    rw last at at

-- a piece that more follow is joined to the text
pub IsJoining-next : (pieces : List Piece) (text : List ℕ) (done place : ℕ) (piece : Piece) → IsJoining pieces text done place → done < length pieces → Some piece ≡ piece_at place pieces
    → piece.more ≡ true → IsJoining pieces (text ++ piece.text) (done + 1) (place + piece.span)
IsJoining-next pieces text done place piece joining before found more =
    let at = IsJoining-found pieces text done place (Some piece) joining before found in
    behind (joined_from (length pieces - (done + 1)) (place + piece.span) pieces) ∙ (rw more at at)
  where
    behind : (o : Option (List ℕ)) → option_map (λ (rest : List ℕ). (text ++ piece.text) ++ rest) o ≡ option_map (λ (rest : List ℕ). text ++ rest) (option_map (λ (rest : List ℕ). piece.text ++ rest) o)
    behind None = refl
    behind (Some rest) = ap Some (append_assoc text piece.text rest)

-- after as many pieces as there are, none of them the last, there is no text
pub joined-none : (pieces : List Piece) (text : List ℕ) (done place : ℕ) → IsJoining pieces text done place → length pieces ≤ done → None ≡ joined pieces
unfolding joined
joined-none pieces text done place joining all =
    let none : length pieces - done ≡ 0 = omega arith in
    ap (λ most. option_map (λ (rest : List ℕ). text ++ rest) (joined_from most place pieces)) (sym none) ∙ joining

-- pieces that are not all there make no answer
pub made_of-waiting : (first : Option ℕ) (whole : Option (List ℕ)) → is_some whole ≡ false → Then.Waiting ≡ made_of first whole
made_of-waiting None None e = refl
made_of-waiting (Some status) None e = refl
made_of-waiting None (Some text) e = refl
made_of-waiting (Some status) (Some text) e = absurd (cc)
