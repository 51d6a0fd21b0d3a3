-- A line of a key file means one thing, and makes one table or is refused at one word.
use Rattle.std.proofs.Common.{◌≡◌, ℕ, List, [], ◌∷◌, Option, Some, None, sym, ap, subst, ◌∙◌, arith}
use Rattle.std.proofs.lemmas.Fmt.{decimal_injective}
use Rattle.refusals.proofs.LineLemmas.{SaysOne}
use Rattle.mac_keys.specs.declared.keys.Key.{Key}
use Rattle.mac_keys.specs.declared.key_types.KeyType.{KeyType}
use Rattle.mac_keys.specs.declared.key_types.KeyType.TheVariants.{Hashed, Skipped}
use Rattle.mac_keys.specs.KeyLines.{IsId, IsKeyLine, IsKeyOf, type_of, secret_of}
use Rattle.mac_keys.specs.KeyTexts.{IsAdded, IsUnadmitted, key_grammar}

one_value : {X : Type 0} (o : Option X) (x y : X) → o ≡ Some x → o ≡ Some y → x ≡ y
one_value o x y first second = cc

-- a word spells one id
one_id : (word : List ℕ) (m n : ℕ) → IsId word m → IsId word n → m ≡ n
one_id word m n (spelled, least, most) (also, other_least, other_most) = decimal_injective m n (omega (arith, most)) (omega (arith, other_most)) (sym spelled ∙ also)

-- an id, a type and a secret mean one thing
one_key_of : (id : ℕ) (key_type : KeyType) (secret : List ℕ) (m n : Option Key) → IsKeyOf id key_type secret m → IsKeyOf id key_type secret n → m ≡ n
one_key_of id (Hashed algorithm) secret m n (octets, spelled, is) (others, also, one) =
    let same : octets ≡ others = one_value (secret_of secret) octets others spelled also in
    is ∙ ap (λ s. Some (record { id = id; algorithm = algorithm; secret = s })) same ∙ sym one
one_key_of id Skipped secret m n is one = is ∙ sym one

-- a line means one thing
one_meaning_of_line : (line : List (List ℕ)) (m n : Option Key) → IsKeyLine line m → IsKeyLine line n → m ≡ n
one_meaning_of_line [] m n is one = is ∙ sym one
one_meaning_of_line (id ∷ []) m n is one = absurd is
one_meaning_of_line (id ∷ type ∷ []) m n is one = absurd is
one_meaning_of_line (id ∷ type ∷ secret ∷ []) m n is one =
    let ids : is.0 ≡ one.0 = one_id id is.0 one.0 is.2 one.2 in
    let types : is.1 ≡ one.1 = one_value (type_of type) is.1 one.1 is.3 one.3 in
    let P : ℕ → Type 0 = λ i. IsKeyOf i is.1 secret m in
    let Q : KeyType → Type 0 = λ t. IsKeyOf one.0 t secret m in
    one_key_of one.0 one.1 secret m n (subst Q types (subst P ids is.4)) one.4
one_meaning_of_line (id ∷ type ∷ secret ∷ more ∷ words) m n is one = absurd is

-- what a line means makes one table
one_added : (keys : List Key) (m : Option Key) (a b : List Key) → IsAdded keys m a → IsAdded keys m b → a ≡ b
one_added keys None a b first second = first ∙ sym second
one_added keys (Some key) a b first second = first.1 ∙ sym second.1

-- or is refused at one word
one_unadmitted : (keys : List Key) (m : Option Key) (line : List (List ℕ)) (j k : ℕ) → IsUnadmitted keys m line j → IsUnadmitted keys m line k → j ≡ k
one_unadmitted keys None line j k first second = absurd first
one_unadmitted keys (Some key) line j k first second = first.1 ∙ sym second.1

added_or_not : (keys : List Key) (m : Option Key) (line : List (List ℕ)) (table : List Key) (place : ℕ) → IsAdded keys m table → ¬ IsUnadmitted keys m line place
added_or_not keys None line table place added refused = refused
added_or_not keys (Some key) line table place added refused = refused.0 added.0

pub key_grammar_is_one : SaysOne key_grammar
key_grammar_is_one = record {
  one_meaning = λ keys. one_meaning_of_line;
  one_next = one_added;
  one_refused = one_unadmitted;
  not_both = added_or_not;
}
