-- What a remainder is: an end of a trailer, or wrong in one way.
use Rattle.std.proofs.Common.{ℕ, ◌≡◌, ◌%◌, ◌<◌, ◌≤◌, ◌⊎◌, inl, inr, List, [], ◌∷◌, length, Result, Ok, Err, IfOk, IfErr, refl, sym, ◌∙◌, ap, subst, arith, length-append}
use Rattle.std.specs.List.{concat}
use Rattle.std.proofs.lemmas.Bool.{cases_lt, cases_eq}
use Rattle.std.proofs.lemmas.Bool.Decides.{nat_tests}
use Rattle.ntp_packet.specs.declared.packet.TheConstants.{HEADER_LEN}
use Rattle.ntp_trailer.specs.declared.parts.TheConstants.{MAX_MAC_LEN, MIN_FIELD_LEN}
use Rattle.ntp_trailer.specs.declared.parts.Trailer.{Trailer}
use Rattle.ntp_trailer.specs.declared.parts.TrailerFault.{TrailerFault}
use Rattle.ntp_trailer.specs.declared.parts.TrailerFault.TheVariants.{Ragged, FieldShort, FieldLong, BadRemainder}
use Rattle.ntp_trailer.specs.Trailers.{length_said, IsFieldLength, AreFields, HasMacLength, IsEnd, IsWrong, IsDivision, HasTrailer, AreWords, StopsAt, IsRefused, place_after, trailer_of}
use Rattle.ntp_trailer.specs.Endings.{BeginsField, LeadsTo, ending_of, field_fault_of}
use Rattle.ntp_trailer.proofs.DivisionLemmas.{one_division}

-- fields of no octets are none
no_fields : (fields : List (List ℕ)) (rest : List ℕ) → AreFields fields rest → place_after fields ≡ HEADER_LEN → fields ≡ []
no_fields [] rest are none = refl
no_fields (field ∷ fields) rest are none =
    absurd (omega (arith, are.0.allowed, length-append field (concat fields)))

-- octets of no length are none
no_octets : (octets : List ℕ) → length octets ≡ 0 → octets ≡ []
no_octets [] none = refl
no_octets (octet ∷ octets) none = absurd (omega arith)

-- an end of a trailer gives its places
ending_of-end : (fields : List (List ℕ)) (mac : List ℕ) → IsEnd fields mac → ending_of (place_after fields) mac ≡ Ok (trailer_of fields mac)
unfolding ending_of
ending_of-end fields mac (inl (none, first)) =
    subst (λ (octets : List ℕ). ending_of (place_after fields) octets ≡ Ok (trailer_of fields octets)) (sym none)
    (subst (λ (begun : List (List ℕ)). ending_of (place_after begun) [] ≡ Ok (trailer_of begun [])) (sym first) refl)
ending_of-end fields mac (inr (inl long)) = grind (arith, nat_tests)
ending_of-end fields mac (inr (inr (inl long))) = grind (arith, nat_tests)
ending_of-end fields mac (inr (inr (inr long))) = grind (arith, nat_tests)

-- more octets than a MAC has are judged as a field
ending_of-more : (place : ℕ) (remainder : List ℕ) → MAX_MAC_LEN < length remainder → ending_of place remainder ≡ Err (field_fault_of (length_said remainder))
unfolding ending_of
ending_of-more place remainder more = grind (arith, nat_tests)

-- a length that no field may have
field_fault_of-short : (said : ℕ) → ¬ (IsFieldLength said) → field_fault_of said ≡ FieldShort
field_fault_of-short said short =
    elim (cases_lt said MIN_FIELD_LEN) [
      | inl below ↦ grind (arith, nat_tests)
      | inr long ↦ elim (cases_eq (said % 4) 0) [
        | inl words ↦ absurd (short (long, words))
        | inr ragged ↦ grind (arith, nat_tests)
      ]
    ]

-- a length that a field may have
field_fault_of-long : (said : ℕ) → IsFieldLength said → field_fault_of said ≡ FieldLong
field_fault_of-long said (long, words) = grind (arith, nat_tests)

-- a remainder that is no end of a trailer
ending_of-bad : (place : ℕ) (remainder : List ℕ) → length remainder ≤ MAX_MAC_LEN → ((length remainder ≡ 0) × (place ≡ HEADER_LEN) → ⊥)
    → ¬ (length remainder ≡ 4) → ¬ (length remainder ≡ 20) → ¬ (length remainder ≡ 24) → ending_of place remainder ≡ Err BadRemainder
unfolding ending_of
ending_of-bad place remainder few begun four twenty most =
    elim (cases_eq (length remainder) 0) [
      | inl none ↦ elim (cases_eq place HEADER_LEN) [ inl first ↦ absurd (begun (none, first)) | inr later ↦ grind (arith, nat_tests) ]
      | inr some ↦ grind (arith, nat_tests)
    ]

-- a wrong remainder gives its fault
ending_of-wrong : (fault : TrailerFault) (fields : List (List ℕ)) (remainder : List ℕ) → AreFields fields remainder → IsWrong fault fields remainder → ending_of (place_after fields) remainder ≡ Err fault
ending_of-wrong Ragged fields remainder are wrong = absurd wrong
ending_of-wrong FieldShort fields remainder are (more, short) =
    ending_of-more (place_after fields) remainder more ∙ ap Err (field_fault_of-short (length_said remainder) short)
ending_of-wrong FieldLong fields remainder are (more, allowed, long) =
    ending_of-more (place_after fields) remainder more ∙ ap Err (field_fault_of-long (length_said remainder) allowed)
ending_of-wrong BadRemainder fields remainder are (few, bad) =
    ending_of-bad (place_after fields) remainder few
    (λ (none, first). bad (inl (no_octets remainder none, no_fields fields remainder are first)))
    (λ long. bad (inr (inl long)))
    (λ long. bad (inr (inr (inl long))))
    (λ long. bad (inr (inr (inr long))))

-- a length that a field may have, or not
field_length_cases : (n : ℕ) → IsFieldLength n ⊎ ¬ (IsFieldLength n)
field_length_cases n =
    elim (cases_lt n MIN_FIELD_LEN) [
      | inl short ↦ inr (λ is. omega (arith, is))
      | inr long ↦ elim (cases_eq (n % 4) 0) [ inl words ↦ inl (long, words) | inr ragged ↦ inr (λ is. ragged is.1) ]
    ]

-- the octets of a MAC, or not
mac_length_cases : (mac : List ℕ) → HasMacLength mac ⊎ ¬ (HasMacLength mac)
mac_length_cases mac =
    elim (cases_eq (length mac) 4) [
      | inl four ↦ inl (inl four)
      | inr not_four ↦ elim (cases_eq (length mac) 20) [
        | inl twenty ↦ inl (inr (inl twenty))
        | inr not_twenty ↦ elim (cases_eq (length mac) 24) [
          | inl most ↦ inl (inr (inr most))
          | inr not_most ↦ inr (λ long. elim long [
            | inl four ↦ not_four four
            | inr more ↦ elim more [ inl twenty ↦ not_twenty twenty | inr most ↦ not_most most ]
          ])
        ]
      ]
    ]

-- an end of a trailer, or not, where the octets are no MAC's
empty_cases : (fields : List (List ℕ)) (mac : List ℕ) → ¬ (HasMacLength mac) → IsEnd fields mac ⊎ ¬ (IsEnd fields mac)
empty_cases [] [] bad = inl (inl (refl, refl))
empty_cases [] (octet ∷ mac) bad = inr (λ is. elim is [ inl empty ↦ absurd (omega (arith, ap length empty.0)) | inr long ↦ bad long ])
empty_cases (field ∷ fields) mac bad = inr (λ is. elim is [ inl empty ↦ absurd (omega (arith, ap length empty.1)) | inr long ↦ bad long ])

-- an end of a trailer, or not
end_cases : (fields : List (List ℕ)) (mac : List ℕ) → IsEnd fields mac ⊎ ¬ (IsEnd fields mac)
end_cases fields mac = elim (mac_length_cases mac) [ inl long ↦ inl (inr long) | inr bad ↦ empty_cases fields mac bad ]

-- a remainder that no field begins is an end of a trailer, or wrong in some way
end_or_wrong : (fields : List (List ℕ)) (remainder : List ℕ) → ¬ (BeginsField remainder)
    → IsEnd fields remainder ⊎ ((fault : TrailerFault) × IsWrong fault fields remainder)
end_or_wrong fields remainder stops =
    elim (cases_lt MAX_MAC_LEN (length remainder)) [
      | inl more ↦ elim (field_length_cases (length_said remainder)) [
        | inl allowed ↦ elim (cases_lt (length remainder) (length_said remainder)) [
          | inl long ↦ inr (FieldLong, (more, allowed, long))
          | inr within ↦ absurd (stops (record { more = more; allowed = allowed; within = within }))
        ]
        | inr short ↦ inr (FieldShort, (more, short))
      ]
      | inr few ↦ elim (end_cases fields remainder) [
        | inl end ↦ inl end
        | inr bad ↦ inr (BadRemainder, (few, bad))
      ]
    ]

-- no field begins an end of a trailer
stops_end : (fields : List (List ℕ)) (mac : List ℕ) → IsEnd fields mac → ¬ (BeginsField mac)
stops_end fields mac (inl (none, first)) begins = omega (arith, ap length none, begins.more)
stops_end fields mac (inr (inl long)) begins = omega (arith, begins.more)
stops_end fields mac (inr (inr (inl long))) begins = omega (arith, begins.more)
stops_end fields mac (inr (inr (inr long))) begins = omega (arith, begins.more)

-- no field begins a wrong remainder
stops_wrong : (fault : TrailerFault) (fields : List (List ℕ)) (remainder : List ℕ) → IsWrong fault fields remainder → ¬ (BeginsField remainder)
stops_wrong Ragged fields remainder wrong begins = wrong
stops_wrong FieldShort fields remainder (more, short) begins = short begins.allowed
stops_wrong FieldLong fields remainder (more, allowed, long) begins = omega (arith, begins.within)
stops_wrong BadRemainder fields remainder (few, bad) begins = omega (arith, begins.more)

-- the place that the fields lead to gives what their remainder gives
ending_of-place : (octets : List ℕ) (place : ℕ) (remainder : List ℕ) (leads : LeadsTo octets place remainder) → ending_of place remainder ≡ ending_of (place_after leads.fields) remainder
ending_of-place octets place remainder leads = ap (λ (n : ℕ). ending_of n remainder) leads.place_is

-- any other division that stops gives the same
ending_of-same : (octets : List ℕ) (place : ℕ) (remainder : List ℕ) (fields : List (List ℕ)) (rest : List ℕ)
    → LeadsTo octets place remainder → ¬ (BeginsField remainder) → IsDivision octets fields rest → ¬ (BeginsField rest)
    → ending_of place remainder ≡ ending_of (place_after fields) rest
ending_of-same octets place remainder fields rest leads stops division stops_too =
    let (same, ends) = one_division leads.fields fields remainder rest (sym leads.division.joined ∙ division.joined)
    leads.division.are_fields division.are_fields stops stops_too in
    ending_of-place octets place remainder leads ∙ (λ i. ending_of (place_after (same i)) (ends i))

-- a fault of whole words is one of a remainder, and the other way round
refused_stops : (octets : List ℕ) (fault : TrailerFault) → AreWords octets → IsRefused octets fault → StopsAt fault octets
refused_stops octets Ragged words refused = absurd (refused words)
refused_stops octets FieldShort words refused = refused.1
refused_stops octets FieldLong words refused = refused.1
refused_stops octets BadRemainder words refused = refused.1

stops_refused : (octets : List ℕ) (fault : TrailerFault) → AreWords octets → StopsAt fault octets → IsRefused octets fault
stops_refused octets Ragged words stops = absurd stops.wrong
stops_refused octets FieldShort words stops = (words, stops)
stops_refused octets FieldLong words stops = (words, stops)
stops_refused octets BadRemainder words stops = (words, stops)

-- what is given has the octets' trailer
pub ending-found : (octets : List ℕ) (place : ℕ) (remainder : List ℕ) → LeadsTo octets place remainder → ¬ (BeginsField remainder)
    → IfOk (ending_of place remainder) (λ trailer. HasTrailer octets trailer)
ending-found octets place remainder leads stops =
    let P : Result Trailer TrailerFault → Type 0 = λ given. IfOk given (λ trailer. HasTrailer octets trailer) in
    let same : ending_of place remainder ≡ ending_of (place_after leads.fields) remainder = ending_of-place octets place remainder leads in
    elim (end_or_wrong leads.fields remainder stops) [
      | inl end ↦ subst P (sym (same ∙ ending_of-end leads.fields remainder end)) (record {
        fields = leads.fields;
        mac = remainder;
        is = record { division = leads.division; end = end };
        places = refl;
      })
      | inr (fault, wrong) ↦ subst P (sym (same ∙ ending_of-wrong fault leads.fields remainder leads.division.are_fields wrong)) tt
    ]

-- each trailer that the octets have is given
pub ending-only : (octets : List ℕ) (place : ℕ) (remainder : List ℕ) → LeadsTo octets place remainder → ¬ (BeginsField remainder)
    → (trailer : Trailer) → HasTrailer octets trailer → ending_of place remainder ≡ Ok trailer
ending-only octets place remainder leads stops trailer has =
    ending_of-same octets place remainder has.fields has.mac leads stops has.is.division (stops_end has.fields has.mac has.is.end)
    ∙ ending_of-end has.fields has.mac has.is.end
    ∙ ap Ok (sym has.places)

-- a fault that is given is the octets'
pub ending-refused : (octets : List ℕ) (place : ℕ) (remainder : List ℕ) → AreWords octets → LeadsTo octets place remainder → ¬ (BeginsField remainder)
    → IfErr (ending_of place remainder) (λ fault. IsRefused octets fault)
ending-refused octets place remainder words leads stops =
    let P : Result Trailer TrailerFault → Type 0 = λ given. IfErr given (λ fault. IsRefused octets fault) in
    let same : ending_of place remainder ≡ ending_of (place_after leads.fields) remainder = ending_of-place octets place remainder leads in
    elim (end_or_wrong leads.fields remainder stops) [
      | inl end ↦ subst P (sym (same ∙ ending_of-end leads.fields remainder end)) tt
      | inr (fault, wrong) ↦ subst P (sym (same ∙ ending_of-wrong fault leads.fields remainder leads.division.are_fields wrong))
          (stops_refused octets fault words (record { fields = leads.fields; remainder = remainder; division = leads.division; wrong = wrong }))
    ]

-- the octets' fault is given
pub ending-due : (octets : List ℕ) (place : ℕ) (remainder : List ℕ) → AreWords octets → LeadsTo octets place remainder → ¬ (BeginsField remainder)
    → (fault : TrailerFault) → IsRefused octets fault → ending_of place remainder ≡ Err fault
ending-due octets place remainder words leads stops fault refused =
    let at = refused_stops octets fault words refused in
    ending_of-same octets place remainder at.fields at.remainder leads stops at.division (stops_wrong fault at.fields at.remainder at.wrong)
    ∙ ending_of-wrong fault at.fields at.remainder at.division.are_fields at.wrong
