-- Divisions of octets into fields and a remainder: one field more, and no two that stop.
use Rattle.std.proofs.Common.{ℕ, ◌≡◌, ◌+◌, ◌%◌, ◌<◌, ◌≤◌, ◌++◌, List, [], ◌∷◌, length, take, drop, refl, sym, ◌∙◌, ap, subst, arith, append_assoc, length-append, length-drop, inl, inr}
use Rattle.std.specs.List.{concat}
use Rattle.std.proofs.lemmas.List.{append-nil, drop-append-le, append_cancel_left, length-take-le, take-append-drop, drop-drop}
use Rattle.std.proofs.lemmas.List.Folds.{concat-append}
use Rattle.std.proofs.Math.Seq.{take-append_seam}
use Rattle.byteorder.specs.Endian.{big_number}
use Rattle.byteorder.specs.Numbers.{big_from-append}
use Rattle.ntp_trailer.specs.declared.parts.TheConstants.{MAX_MAC_LEN}
use Rattle.ntp_trailer.specs.Trailers.{length_said, IsField, AreFields, IsDivision, IsEnd, IsTrailer, AreWords, place_after}
use Rattle.ntp_trailer.specs.Endings.{BeginsField, LeadsTo}

-- the length that a field says stands in its first four octets
length_said-append : (field rest : List ℕ) → 4 ≤ length field → length_said (field ++ rest) ≡ length_said field
length_said-append field rest long =
    ap (big_number 2) (drop-append-le 2 field rest (omega arith))
    ∙ big_from-append 2 (drop 2 field) rest (omega (arith, length-drop 2 field))

-- a field and what follows it, of more octets than a MAC has, begin a field
BeginsField-append : (field rest : List ℕ) → IsField field → MAX_MAC_LEN < length (field ++ rest) → BeginsField (field ++ rest)
BeginsField-append field rest is more =
    let said : length_said (field ++ rest) ≡ length field =
    length_said-append field rest (omega (arith, is.allowed)) ∙ is.said in
    record {
      more = more;
      allowed = rw said is.allowed;
      within = omega (arith, said, length-append field rest);
    }

-- the fields of a division begin one after the other
joined-assoc : (field : List ℕ) (fields : List (List ℕ)) (rest : List ℕ) → concat (field ∷ fields) ++ rest ≡ field ++ (concat fields ++ rest)
joined-assoc field fields rest = append_assoc field (concat fields) rest

-- two fields that the same octets begin with are one
same_field : (field other rest others : List ℕ) → field ++ rest ≡ other ++ others → IsField field → IsField other → field ≡ other
same_field field other rest others same is_field is_other =
    let front : length field ≡ length other =
    sym is_field.said
    ∙ sym (length_said-append field rest (omega (arith, is_field.allowed)))
    ∙ ap length_said same
    ∙ length_said-append other others (omega (arith, is_other.allowed))
    ∙ is_other.said in
    sym (take-append_seam field rest)
    ∙ (λ i. take (front i) (same i))
    ∙ take-append_seam other others

-- the same octets have one division that stops where no field begins
pub one_division : (fields others : List (List ℕ)) (left right : List ℕ) → concat fields ++ left ≡ concat others ++ right
    → AreFields fields left → AreFields others right → ¬ (BeginsField left) → ¬ (BeginsField right)
    → (fields ≡ others) × (left ≡ right)
one_division [] [] left right same are_fields are_others stops stops_too = (refl, same)
one_division [] (other ∷ others) left right same are_fields are_others stops stops_too =
    absurd (stops (subst BeginsField (sym (same ∙ joined-assoc other others right))
    (BeginsField-append other (concat others ++ right) are_others.0 are_others.1)))
one_division (field ∷ fields) [] left right same are_fields are_others stops stops_too =
    absurd (stops_too (subst BeginsField (sym (sym same ∙ joined-assoc field fields left))
    (BeginsField-append field (concat fields ++ left) are_fields.0 are_fields.1)))
one_division (field ∷ fields) (other ∷ others) left right same are_fields are_others stops stops_too =
    let spelled : field ++ (concat fields ++ left) ≡ other ++ (concat others ++ right) =
    sym (joined-assoc field fields left) ∙ same ∙ joined-assoc other others right in
    let first : field ≡ other =
    same_field field other (concat fields ++ left) (concat others ++ right) spelled are_fields.0 are_others.0 in
    let rest : concat fields ++ left ≡ concat others ++ right =
    append_cancel_left other (concat fields ++ left) (concat others ++ right)
    (ap (λ front. front ++ (concat fields ++ left)) (sym first) ∙ spelled) in
    let (more, ends) = one_division fields others left right rest are_fields.2 are_others.2 stops stops_too in
    (λ i. first i ∷ more i, ends)

-- one field more is joined at the end
joined-more : (fields : List (List ℕ)) (field rest : List ℕ) → concat (fields ++ field ∷ []) ++ rest ≡ concat fields ++ (field ++ rest)
joined-more [] field rest = ap (λ octets. octets ++ rest) (append-nil field)
joined-more (first ∷ fields) field rest =
    append_assoc first (concat (fields ++ field ∷ [])) rest
    ∙ ap (λ octets. first ++ octets) (joined-more fields field rest)
    ∙ sym (append_assoc first (concat fields) (field ++ rest))

-- one field more is a field among them
AreFields-more : (fields : List (List ℕ)) (field rest : List ℕ) → AreFields fields (field ++ rest) → IsField field
    → MAX_MAC_LEN < length (field ++ rest) → AreFields (fields ++ field ∷ []) rest
AreFields-more [] field rest are is more = (is, more, tt)
AreFields-more (first ∷ fields) field rest are is more = (
  are.0,
  subst (λ (octets : List ℕ). MAX_MAC_LEN < length (first ++ octets)) (sym (joined-more fields field rest)) are.1,
  AreFields-more fields field rest are.2 is more,
)

-- one field more ends where its octets do
place_after-more : (fields : List (List ℕ)) (field : List ℕ) → place_after (fields ++ field ∷ []) ≡ place_after fields + length field
place_after-more fields field =
    omega (arith, ap length (concat-append fields (field ∷ [])), length-append (concat fields) (field ++ []), length-append field [])

-- where a field begins, its octets are a field
IsField-begun : (octets : List ℕ) → BeginsField octets → IsField (take (length_said octets) octets)
IsField-begun octets begins =
    let said : ℕ = length_said octets in
    let long : length (take said octets) ≡ said = length-take-le said octets begins.within in
    record {
      said = sym (length_said-append (take said octets) (drop said octets) (omega (arith, long, begins.allowed)))
          ∙ ap length_said (take-append-drop said octets)
          ∙ sym long;
      allowed = rw long begins.allowed;
    }

-- where a field begins, the octets up to its end are fields too
pub LeadsTo-more : (octets : List ℕ) (place : ℕ) → LeadsTo octets place (drop place octets) → BeginsField (drop place octets)
    → LeadsTo octets (place + length_said (drop place octets)) (drop (place + length_said (drop place octets)) octets)
LeadsTo-more octets place leads begins =
    let front : List ℕ = drop place octets in
    let said : ℕ = length_said front in
    let field : List ℕ = take said front in
    let rest : List ℕ = drop said front in
    let glued : field ++ rest ≡ front = take-append-drop said front in
    let long : length field ≡ said = length-take-le said front begins.within in
    subst (LeadsTo octets (place + said)) (drop-drop said place octets) (record {
      fields = leads.fields ++ field ∷ [];
      division = record {
        joined = leads.division.joined
            ∙ ap (λ octets. concat leads.fields ++ octets) (sym glued)
            ∙ sym (joined-more leads.fields field rest);
        are_fields = AreFields-more leads.fields field rest (subst (AreFields leads.fields) (sym glued) leads.division.are_fields)
            (IsField-begun front begins) (omega (arith, ap length glued, begins.more));
      };
      place_is = omega (arith, leads.place_is, place_after-more leads.fields field, long);
    })

-- fields have whole words
length-fields : (fields : List (List ℕ)) (rest : List ℕ) → AreFields fields rest → length (concat fields) % 4 ≡ 0
length-fields [] rest are = refl
length-fields (field ∷ fields) rest are =
    omega (arith, length-append field (concat fields), are.0.allowed, length-fields fields rest are.2)

-- fields and a remainder of whole words are whole words
AreWords-division : (octets : List ℕ) (fields : List (List ℕ)) (rest : List ℕ) → IsDivision octets fields rest → length rest % 4 ≡ 0 → AreWords octets
AreWords-division octets fields rest division words =
    omega (arith, ap length division.joined, length-append (concat fields) rest, length-fields fields rest division.are_fields)

-- a MAC, or nothing, has whole words
length-end : (fields : List (List ℕ)) (mac : List ℕ) → IsEnd fields mac → length mac % 4 ≡ 0
length-end fields mac (inl (none, first)) = ap (λ (octets : List ℕ). length octets % 4) none
length-end fields mac (inr (inl long)) = ap (λ n. n % 4) long
length-end fields mac (inr (inr (inl long))) = ap (λ n. n % 4) long
length-end fields mac (inr (inr (inr long))) = ap (λ n. n % 4) long

-- a trailer has whole words
pub AreWords-trailer : (octets : List ℕ) (fields : List (List ℕ)) (mac : List ℕ) → IsTrailer octets fields mac → AreWords octets
AreWords-trailer octets fields mac is = AreWords-division octets fields mac is.division (length-end fields mac is.end)
