-- What drawn datagrams are, and what the two hosts have of them.
use Rattle.std.proofs.Common.{◌≡◌, ◌∙◌, ℕ, zero, suc, ◌+◌, ◌*◌, ◌%◌, ◌^◌, ◌<◌, ◌≤◌, ◌==◌, Bool, true, false, not, cond, ◌||◌, List, [], ◌∷◌, ◌++◌, drop, refl, sym, ap, subst, arith, w64, div-add-mod'}
use Rattle.std.specs.Prelude.{slice_index}
use Rattle.std.specs.Int.{from_be_bytes}
use Rattle.std.specs.List.{AllByRecursion, count_by, filter, list_any}
use Rattle.std.proofs.lemmas.List.Folds.{list_any-append}
use Rattle.std.proofs.lemmas.List.Sums.{sum_by-append, sum_by-cons}
use Rattle.std.proofs.lemmas.Nat.{from_be_bytes-to_be_bytes_8}
use Rattle.draws.specs.Clients.{client_ip}
use Rattle.draws.specs.declared.clients.TheConstants.{CLIENTS}
use Rattle.net_addr.specs.declared.addr.Addr.{Addr}
use Rattle.net_addr.specs.declared.addr.Ip.{Ip}
use Rattle.net_addr.specs.declared.addr.Ip.TheVariants.{V4, V6}
use Rattle.recency.proofs.ListLemmas.{AllByRecursion-filter}
use Rattle.drawn_session.specs.Counts.{asks}
use Rattle.drawn_session.specs.Datagrams.{IsDrawn, datagrams_for, datagrams_from, datagrams_of, is_for, state_behind_one}
use Rattle.drawn_session.specs.Ports.{host_addr}
use Rattle.drawn_session.specs.declared.datagrams.DrawnDatagram.{DrawnDatagram}
use Rattle.drawn_session.specs.declared.datagrams.TheConstants.{DATAGRAMS}

-- a count of one element more
pub count_by-cons : {X : Type 0} (p : X → Bool) (x : X) (xs : List X) → count_by p (x ∷ xs) ≡ cond (p x) 1 0 + count_by p xs
count_by-cons p x xs = sum_by-cons (λ y. cond (p y) 1 0) x xs

-- a count over two lists, one after another
pub count_by-append : {X : Type 0} (p : X → Bool) (xs ys : List X) → count_by p (xs ++ ys) ≡ count_by p xs + count_by p ys
count_by-append p xs ys = sum_by-append (λ x. cond (p x) 1 0) xs ys

or-around : (a b c : Bool) → (a || (b || c)) ≡ (b || (a || c))
or-around true true c = refl
or-around true false c = refl
or-around false true c = refl
or-around false false c = refl

or-regroup : (a b c : Bool) → ((a || b) || c) ≡ (a || (b || c))
or-regroup true b c = refl
or-regroup false b c = refl

-- two tests of which each element passes one share a list
module _ {X : Type 0} (one other : X → Bool) (apart : (x : X) → other x ≡ not (one x)) where
  -- one element goes to one of the shares
  counted-one : (p : X → Bool) (x : X) (ones others : List X) (b : Bool) → count_by p (cond b (x ∷ ones) ones) + count_by p (cond (not b) (x ∷ others) others) ≡ cond (p x) 1 0 + (count_by p ones + count_by p others)
  counted-one p x ones others true = omega (arith, count_by-cons p x ones)
  counted-one p x ones others false = omega (arith, count_by-cons p x others)

  shares-counted : (p : X → Bool) (xs : List X) → count_by p (filter one xs) + count_by p (filter other xs) ≡ count_by p xs
  shares-counted p [] = refl
  shares-counted p (x ∷ xs) =
      let first = counted-one p x (filter one xs) (filter other xs) (one x) in
      let whole : count_by p (filter one (x ∷ xs)) + count_by p (cond (not (one x)) (x ∷ filter other xs) (filter other xs)) ≡ count_by p (x ∷ xs) =
      omega (arith, first, count_by-cons p x xs, shares-counted p xs) in
      subst (λ (b : Bool). count_by p (filter one (x ∷ xs)) + count_by p (cond b (x ∷ filter other xs) (filter other xs)) ≡ count_by p (x ∷ xs)) (sym (apart x)) whole

  -- a count over both shares is that over the list
  pub count_by-shares : (p : X → Bool) (xs : List X) → count_by p (filter one xs ++ filter other xs) ≡ count_by p xs
  count_by-shares p xs = count_by-append p (filter one xs) (filter other xs) ∙ shares-counted p xs

  found-one : (p : X → Bool) (x : X) (ones others : List X) (b : Bool) → (list_any p (cond b (x ∷ ones) ones) || list_any p (cond (not b) (x ∷ others) others)) ≡ (p x || (list_any p ones || list_any p others))
  found-one p x ones others true = or-regroup (p x) (list_any p ones) (list_any p others)
  found-one p x ones others false = or-around (list_any p ones) (p x) (list_any p others)

  shares-found : (p : X → Bool) (xs : List X) → (list_any p (filter one xs) || list_any p (filter other xs)) ≡ list_any p xs
  shares-found p [] = refl
  shares-found p (x ∷ xs) =
      let first = found-one p x (filter one xs) (filter other xs) (one x) in
      subst (λ (b : Bool). (list_any p (filter one (x ∷ xs)) || list_any p (cond b (x ∷ filter other xs) (filter other xs))) ≡ list_any p (x ∷ xs)) (sym (apart x))
      (first ∙ ap (λ (b : Bool). p x || b) (shares-found p xs))

  -- one of both shares passes a test where one of the list does
  pub list_any-shares : (p : X → Bool) (xs : List X) → list_any p (filter one xs ++ filter other xs) ≡ list_any p xs
  list_any-shares p xs = list_any-append p (filter one xs) (filter other xs) ∙ shares-found p xs

remainder-apart : (r : ℕ) → r < 2 → (r == 1) ≡ not (r == 0)
remainder-apart zero small = refl
remainder-apart (suc zero) small = refl
remainder-apart (suc (suc r)) small = absurd (omega (arith, small))

-- a datagram is for one of the two hosts
hosts-apart : (d : DrawnDatagram) → is_for 1 d ≡ not (is_for 0 d)
hosts-apart d = remainder-apart (d.client % 2) (omega arith)

-- a count over what a number draws for both hosts is that over all that it draws
pub hosts-counted : (number : ℕ) (p : DrawnDatagram → Bool) → count_by p (datagrams_for number 0 ++ datagrams_for number 1) ≡ count_by p (datagrams_of number)
unfolding datagrams_for
hosts-counted number p = count_by-shares (is_for 0) (is_for 1) hosts-apart p (datagrams_of number)

-- a client asks in what a number draws for both hosts where it asks in all that it draws
pub hosts-asked : (number client : ℕ) → asks (datagrams_for number 0 ++ datagrams_for number 1) client ≡ asks (datagrams_of number) client
unfolding datagrams_for
hosts-asked number client = list_any-shares (is_for 0) (is_for 1) hosts-apart _ (datagrams_of number)

client-named : (n : ℕ) → n % CLIENTS < CLIENTS
client-named n = omega arith

-- datagrams that are drawn one after another have clients, and fit their sequences
drawn-from : (left number x : ℕ) → number + left ≤ DATAGRAMS → AllByRecursion IsDrawn (datagrams_from left number x)
unfolding datagrams_from
drawn-from zero number x fits = tt
drawn-from (suc left) number x fits =
    (record { named = client-named _; numbered = omega (arith, fits) }, drawn-from left (number + 1) (state_behind_one x) (omega (arith, fits)))

drawn-of : (number : ℕ) → AllByRecursion IsDrawn (datagrams_of number)
unfolding datagrams_of
drawn-of number = drawn-from DATAGRAMS 0 number (omega arith)

-- so have those that a number draws for a host
pub drawn-for : (number host : ℕ) → AllByRecursion IsDrawn (datagrams_for number host)
unfolding datagrams_for
drawn-for number host = AllByRecursion-filter IsDrawn (is_for host) (datagrams_of number) (drawn-of number)

-- the number of a client, as its address tells it
number_in : Ip → ℕ
number_in (V4 octets) = slice_index octets 2 * 256 + slice_index octets 3
number_in (V6 octets) = 0

-- two clients have two addresses
pub client_ip-one : (one other : ℕ) → client_ip one ≡ client_ip other → one ≡ other
unfolding number_in
client_ip-one one other same = sym (div-add-mod' one 256) ∙ ap number_in same ∙ div-add-mod' other 256

-- the number by which a port draws, as its address tells it
draws_in : Ip → ℕ
draws_in (V4 octets) = 0
draws_in (V6 octets) = from_be_bytes w64 (drop 8 octets)

draws-told : (number host : ℕ) → number < 2 ^ 64 → draws_in (host_addr number host).ip ≡ number
unfolding draws_in
draws-told number host fits = from_be_bytes-to_be_bytes_8 number fits

-- the address of a host tells the number by which it draws, and the host
pub host_addr-one : (one other host another : ℕ) → one < 2 ^ 64 → other < 2 ^ 64 → host_addr one host ≡ host_addr other another → (one ≡ other) × (host ≡ another)
host_addr-one one other host another fits fits_other same =
    (sym (draws-told one host fits) ∙ ap (λ (addr : Addr). draws_in addr.ip) same ∙ draws-told other another fits_other, ap (λ (addr : Addr). addr.port) same)
