-- The octets of associations: how many there are, and that one list of associations alone has them.
use Rattle.std.proofs.Common.{◌≡◌, ℕ, ◌+◌, ◌*◌, ◌%◌, List, [], ◌∷◌, ◌++◌, length, take, drop, refl, sym, ap, ◌∙◌, arith, take-add, length-append}
use Rattle.std.proofs.lemmas.List.{append-nil}
use Rattle.std.proofs.lemmas.List.Concat.{flat_map-append}
use Rattle.std.specs.List.{AllByRecursion}
use Rattle.byteorder.specs.Endian.{big_bytes, big_number}
use Rattle.byteorder.specs.Numbers.{big_number-reads_back}
use Rattle.ntpq_report.specs.declared.associations.AssociationStatus.{AssociationStatus}
use Rattle.ntpq_report.specs.Associations.{FitsAssociation, IsStatusBody, association_octets, status_body}

length-association_octets : (a : AssociationStatus) → length (association_octets a) ≡ 4
length-association_octets a = refl

-- four octets stand for each association
length-status_body : (associations : List AssociationStatus) → length (status_body associations) ≡ 4 * length associations
length-status_body [] = refl
length-status_body (a ∷ associations) =
    omega (arith, length-append (association_octets a) (status_body associations), length-association_octets a, length-status_body associations)

-- a body that names associations has whole ones
pub IsStatusBody-whole : (body : List ℕ) (associations : List AssociationStatus) → IsStatusBody body associations → length body % 4 ≡ 0
IsStatusBody-whole body associations is = omega (arith, length-status_body associations, ap length is.spelled)

-- the octets are those of one association alone
association_octets-one : (a b : AssociationStatus) → FitsAssociation a → FitsAssociation b → association_octets a ≡ association_octets b → a ≡ b
association_octets-one a b fits_a fits_b same =
    let assoc : a.assoc ≡ b.assoc =
    sym (big_number-reads_back 2 a.assoc (big_bytes 2 a.status) fits_a.assoc) ∙ ap (big_number 2) same ∙ big_number-reads_back 2 b.assoc (big_bytes 2 b.status) fits_b.assoc in
    let status : a.status ≡ b.status =
    sym (big_number-reads_back 2 a.status [] fits_a.status) ∙ ap (λ octets. big_number 2 (drop 2 octets)) same ∙ big_number-reads_back 2 b.status [] fits_b.status in
    λ i. record { assoc = assoc i; status = status i }

-- the body names one list of associations alone
pub status_body-one : (these those : List AssociationStatus) → AllByRecursion FitsAssociation these → AllByRecursion FitsAssociation those
    → status_body these ≡ status_body those → these ≡ those
status_body-one [] [] fits_these fits_those same = refl
status_body-one [] (b ∷ those) fits_these fits_those same = absurd (omega (arith, length-status_body (b ∷ those), ap length same))
status_body-one (a ∷ these) [] fits_these fits_those same = absurd (omega (arith, length-status_body (a ∷ these), ap length same))
status_body-one (a ∷ these) (b ∷ those) fits_these fits_those same =
    let first : a ≡ b = association_octets-one a b fits_these.0 fits_those.0 (ap (take 4) same) in
    let rest : these ≡ those = status_body-one these those fits_these.1 fits_those.1 (ap (drop 4) same) in
    λ i. first i ∷ rest i

-- one association more fits
pub FitsAssociation-push : (associations : List AssociationStatus) (a : AssociationStatus) → AllByRecursion FitsAssociation associations → FitsAssociation a
    → AllByRecursion FitsAssociation (associations ++ a ∷ [])
FitsAssociation-push [] a fits last = (last, tt)
FitsAssociation-push (b ∷ associations) a fits last = (fits.0, FitsAssociation-push associations a fits.1 last)

-- the octets of one association more
pub status_body-step : (body : List ℕ) (associations : List AssociationStatus) (a : AssociationStatus) (place : ℕ)
    → take (4 * place) body ≡ status_body associations → association_octets a ≡ take 4 (drop (4 * place) body)
    → take (4 * (place + 1)) body ≡ status_body (associations ++ a ∷ [])
status_body-step body associations a place so_far next =
    let count : 4 * (place + 1) ≡ 4 * place + 4 = omega arith in
    ap (λ n. take n body) count
    ∙ take-add (4 * place) 4 body
    ∙ (λ i. so_far i ++ sym next i)
    ∙ sym (flat_map-append association_octets associations (a ∷ []) ∙ ap (λ last. status_body associations ++ last) (append-nil (association_octets a)))
