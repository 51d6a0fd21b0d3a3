-- Segments of IPv6 addresses and their octets.
use Rattle.std.proofs.Common.{◌≡◌, ℕ, zero, suc, ◌+◌, ◌*◌, ◌/◌, ◌%◌, ◌^◌, ◌<◌, List, [], ◌∷◌, All, length, get_or, refl, arith, lit<}
use Rattle.std.proofs.lemmas.List.Elements.{All-cons, All-nil}
use Rattle.std.specs.Net.Addr.{segments_of, octets_of}

-- segments are those of their octets
pub segments_of-octets_of : (segments : List ℕ) → ((k : ℕ) → get_or segments k 0 < 2 ^ 16) → segments_of (octets_of segments) ≡ segments
segments_of-octets_of [] fits = refl
segments_of-octets_of (segment ∷ segments) fits =
    let joined : segment / 256 * 256 + segment % 256 ≡ segment = omega arith in
    let later = segments_of-octets_of segments (λ k. fits (suc k)) in
    λ i. joined i ∷ later i

-- and octets, where each has a second, are those of their segments
pub octets_of-segments_of : (n : ℕ) (octets : List ℕ) → length octets ≡ n + n → All (λ octet. octet < 2 ^ 8) octets → octets_of (segments_of octets) ≡ octets
octets_of-segments_of zero [] even fits = refl
octets_of-segments_of zero (a ∷ octets) even fits = absurd (omega arith)
octets_of-segments_of (suc n) [] even fits = absurd (omega arith)
octets_of-segments_of (suc n) (a ∷ []) even fits = absurd (omega arith)
octets_of-segments_of (suc n) (a ∷ b ∷ octets) even fits =
    let low : b < 256 = fits 1 0 (omega arith) in
    let first : (a * 256 + b) / 256 ≡ a = omega arith in
    let second : (a * 256 + b) % 256 ≡ b = omega arith in
    let later = octets_of-segments_of n octets (omega arith) (λ k d within. fits (suc (suc k)) d (omega arith)) in
    λ i. first i ∷ second i ∷ later i

-- octets of segments are octets, two of each segment
pub length-octets_of : (segments : List ℕ) → length (octets_of segments) ≡ length segments + length segments
length-octets_of [] = refl
length-octets_of (segment ∷ segments) = omega (arith, length-octets_of segments)

pub All-octets_of : (segments : List ℕ) → ((k : ℕ) → get_or segments k 0 < 2 ^ 16) → All (λ octet. octet < 2 ^ 8) (octets_of segments)
All-octets_of [] fits = All-nil _
All-octets_of (segment ∷ segments) fits =
    let whole : segment < 65536 = fits 0 in
    let high : segment / 256 < 256 = omega arith in
    let low : segment % 256 < 256 = omega arith in
    All-cons (λ x. x < 2 ^ 8) (segment / 256) (segment % 256 ∷ octets_of segments) high (All-cons (λ x. x < 2 ^ 8) (segment % 256) (octets_of segments) low (All-octets_of segments (λ k. fits (suc k))))

-- each is a segment
abbrev pub AllSegments : List ℕ → Type 0
AllSegments segments = (k : ℕ) → get_or segments k 0 < 2 ^ 16

pub eight_segments : (a b c d e f g h : ℕ) → a < 2 ^ 16 → b < 2 ^ 16 → c < 2 ^ 16 → d < 2 ^ 16 → e < 2 ^ 16 → f < 2 ^ 16 → g < 2 ^ 16 → h < 2 ^ 16 → AllSegments (a ∷ b ∷ c ∷ d ∷ e ∷ f ∷ g ∷ h ∷ [])
eight_segments a b c d e f g h a' b' c' d' e' f' g' h' zero = a'
eight_segments a b c d e f g h a' b' c' d' e' f' g' h' (suc zero) = b'
eight_segments a b c d e f g h a' b' c' d' e' f' g' h' (suc (suc zero)) = c'
eight_segments a b c d e f g h a' b' c' d' e' f' g' h' (suc (suc (suc zero))) = d'
eight_segments a b c d e f g h a' b' c' d' e' f' g' h' (suc (suc (suc (suc zero)))) = e'
eight_segments a b c d e f g h a' b' c' d' e' f' g' h' (suc (suc (suc (suc (suc zero))))) = f'
eight_segments a b c d e f g h a' b' c' d' e' f' g' h' (suc (suc (suc (suc (suc (suc zero)))))) = g'
eight_segments a b c d e f g h a' b' c' d' e' f' g' h' (suc (suc (suc (suc (suc (suc (suc zero))))))) = h'
eight_segments a b c d e f g h a' b' c' d' e' f' g' h' (suc (suc (suc (suc (suc (suc (suc (suc k)))))))) = omega arith

-- octets, two of each segment, give segments
pub length-segments_of : (n : ℕ) (octets : List ℕ) → length octets ≡ n + n → length (segments_of octets) ≡ n
length-segments_of zero [] even = refl
length-segments_of zero (a ∷ octets) even = absurd (omega arith)
length-segments_of (suc n) [] even = absurd (omega arith)
length-segments_of (suc n) (a ∷ []) even = absurd (omega arith)
length-segments_of (suc n) (a ∷ b ∷ octets) even = omega (arith, length-segments_of n octets (omega arith))

pub AllSegments-segments_of : (octets : List ℕ) → All (λ octet. octet < 2 ^ 8) octets → AllSegments (segments_of octets)
AllSegments-segments_of [] fits k = omega arith
AllSegments-segments_of (a ∷ []) fits k = omega arith
AllSegments-segments_of (a ∷ b ∷ octets) fits zero =
    let high : a < 256 = fits 0 0 (omega arith) in
    let low : b < 256 = fits 1 0 (omega arith) in
    omega arith
AllSegments-segments_of (a ∷ b ∷ octets) fits (suc k) =
    AllSegments-segments_of octets (λ i d within. fits (suc (suc i)) d (omega arith)) k

-- std's word for octets
pub octets-below : (octets : List ℕ) → All (λ octet. octet < 2 ^ 8) octets → (k : ℕ) → get_or octets k 0 < 2 ^ 8
octets-below [] all k = lit< tt
octets-below (octet ∷ octets) all zero = all 0 0 (omega arith)
octets-below (octet ∷ octets) all (suc k) =
    octets-below octets (λ i d within. all (suc i) d (omega arith)) k
