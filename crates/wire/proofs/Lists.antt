-- Of lists and addresses, and of the first offer with some octets.
use Rattle.std.proofs.Common.{◌≡◌, inl, inr, ◌⊎◌, ℕ, zero, suc, true, false, List, [], ◌∷◌, ◌++◌, take, bytes_eq, Option, None, refl, sym, ap, subst, ◌∙◌, arith}
use Rattle.std.specs.Prelude.{Contains}
use Rattle.std.specs.List.{AllByRecursion}
use Rattle.std.proofs.lemmas.Bool.{and_from, and_parts, cond_both, eq-eqb, eqb-true}
use Rattle.std.proofs.lemmas.Slice.Eq.{bytes_eq-Decides}
use Rattle.net_addr.specs.Addresses.{same_addr}
use Rattle.net_addr.specs.declared.addr.Addr.{Addr}
use Rattle.net_addr.specs.declared.addr.Ip.{Ip}
use Rattle.net_addr.proofs.AddressLemmas.{same_ip-eq, same_ip-refl}
use Rattle.wire.specs.Placing.{Offer, place_in}

-- what is so of each is so of one among them
pub all-at : {X : Type 0} (P : X → Type 0) (xs : List X) (x : X) → AllByRecursion P xs → Contains xs x → P x
all-at P [] x all (k, within, there) = absurd (omega arith)
all-at P (y ∷ xs) x all (zero, within, there) = subst P there all.0
all-at P (y ∷ xs) x all (suc k, within, there) = all-at P xs x all.1 (k, omega arith, there)

-- what is so of each that a list contains
pub all-by : {X : Type 0} (P : X → Type 0) (xs : List X) → ((x : X) → Contains xs x → P x) → AllByRecursion P xs
all-by P [] each = tt
all-by P (x ∷ xs) each = (each x (0, omega arith, refl), all-by P xs (λ y among. each y (suc among.0, omega (arith, among.1), among.2)))

-- what the first ones contain
pub take-among : {X : Type 0} (n : ℕ) (xs : List X) (x : X) → Contains (take n xs) x → Contains xs x
take-among zero xs x (k, within, there) = absurd (omega arith)
take-among (suc n) [] x (k, within, there) = absurd (omega arith)
take-among (suc n) (y ∷ xs) x (zero, within, there) = (zero, omega arith, there)
take-among (suc n) (y ∷ xs) x (suc k, within, there) =
    let later = take-among n xs x (k, omega arith, there) in
    (suc later.0, omega (arith, later.1), later.2)

-- one of these has these octets
abbrev pub HasOffer : List Offer → List ℕ → Type 0
HasOffer [] octets = ⊥
HasOffer (offer ∷ offers) octets = (offer.octets ≡ octets) ⊎ HasOffer offers octets

pub HasOffer-before : (offers more : List Offer) (octets : List ℕ) → HasOffer offers octets → HasOffer (offers ++ more) octets
HasOffer-before [] more octets has = absurd has
HasOffer-before (offer ∷ offers) more octets (inl here) = inl here
HasOffer-before (offer ∷ offers) more octets (inr later) = inr (HasOffer-before offers more octets later)

pub HasOffer-behind : (offers more : List Offer) (octets : List ℕ) → HasOffer more octets → HasOffer (offers ++ more) octets
HasOffer-behind [] more octets has = has
HasOffer-behind (offer ∷ offers) more octets has = inr (HasOffer-behind offers more octets has)

-- what is so of each offer is so of the place of the first with some octets
pub place_in-so : (P : Option ℕ → List ℕ → Type 0) (offers : List Offer) (octets : List ℕ) → AllByRecursion (λ offer. P offer.place offer.octets) offers → HasOffer offers octets → P (place_in offers octets) octets
place_in-so P [] octets all has = absurd has
place_in-so P (offer ∷ offers) octets all has =
    let decides = bytes_eq-Decides offer.octets octets in
    cond_both (bytes_eq offer.octets octets) offer.place (place_in offers octets) (λ place. P place octets)
    (λ same. subst (P offer.place) (decides.0 same) all.0)
    (λ other. place_in-so P offers octets all.1 (later other has))
  where
    false_true : false ≡ true → ⊥
    false_true same = cc

    later : bytes_eq offer.octets octets ≡ false → (offer.octets ≡ octets) ⊎ HasOffer offers octets → HasOffer offers octets
    later other (inl here) = absurd (false_true (sym other ∙ (bytes_eq-Decides offer.octets octets).1 here))
    later other (inr rest) = rest

-- what is so of none and of each place is so of the one that is found
pub place_in-any : (P : Option ℕ → Type 0) (offers : List Offer) (octets : List ℕ) → P None → AllByRecursion (λ offer. P offer.place) offers → P (place_in offers octets)
place_in-any P [] octets none all = none
place_in-any P (offer ∷ offers) octets none all =
    cond_both (bytes_eq offer.octets octets) offer.place (place_in offers octets) P (λ _. all.0) (λ _. place_in-any P offers octets none all.1)

-- an address is the same as itself
pub same_addr-refl : (addr : Addr) → same_addr addr addr ≡ true
same_addr-refl addr = and_from _ _ (same_ip-refl addr.ip) (eq-eqb _ _ refl)

-- addresses that are the same are equal
pub same_addr-eq : (one other : Addr) → same_addr one other ≡ true → one ≡ other
same_addr-eq one other same =
    let ip : one.ip ≡ other.ip = same_ip-eq one.ip other.ip (and_parts _ _ same).0 in
    let port : one.port ≡ other.port = eqb-true _ _ (and_parts _ _ same).1 in
    let at : Ip → ℕ → Addr = λ (i : Ip) (p : ℕ). record { ip = i; port = p } in
    ap (λ (i : Ip). at i one.port) ip ∙ ap (at other.ip) port
