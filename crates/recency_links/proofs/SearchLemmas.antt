-- What a search of nodes finds, and what it finds of their rows.
use Rattle.std.proofs.Common.{◌≡◌, ◌≢◌, ℕ, Bool, true, false, cond, not, List, [], ◌∷◌, ◌++◌, length, map, filter, find, Option, Some, None, option_map, slice_get, refl, sym, ap, subst, ◌∙◌, append_assoc}
use Rattle.std.proofs.lemmas.Bool.{cond_both}
use Rattle.std.proofs.lemmas.List.{append-nil}
use Rattle.std.specs.List.{AllByRecursion}
use Rattle.net_addr.specs.Addresses.{same_ip}
use Rattle.net_addr.specs.declared.addr.Ip.{Ip}
use Rattle.net_addr.proofs.AddressLemmas.{same_ip-eq, same_ip-refl, same_ip-sym}
use Rattle.recency.proofs.ListLemmas.{AllByRecursion-append, AllByRecursion-weaker}
use Rattle.recency.specs.declared.row.Row.{Row}
use Rattle.recency.specs.Rows.{IsDistinct, after, find_row, oldest, others, told_row, told_rows}

-- the row of a node is not of an address
abbrev pub IsOther : (ℕ → Row) → Ip → ℕ → Type 0
IsOther row ip number = same_ip (row number).ip ip ≡ false

-- the first of these nodes whose row is of an address
abbrev pub found_in : (ℕ → Row) → List ℕ → Ip → Option ℕ
found_in row numbers ip = find (λ number. same_ip (row number).ip ip) numbers

-- a search goes past those that are not of the address
pub found_in-skip : (row : ℕ → Row) (ip : Ip) (xs ys : List ℕ) → AllByRecursion (IsOther row ip) xs → found_in row (xs ++ ys) ip ≡ found_in row ys ip
found_in-skip row ip [] ys none = refl
found_in-skip row ip (x ∷ xs) ys none = rw none.0 (found_in-skip row ip xs ys none.1)

pub found_in-out : (row : ℕ → Row) (ip : Ip) (xs : List ℕ) (n : ℕ) (ys : List ℕ) → IsOther row ip n → found_in row (xs ++ n ∷ ys) ip ≡ found_in row (xs ++ ys) ip
found_in-out row ip [] n ys other = rw other refl
found_in-out row ip (x ∷ xs) n ys other = ap (cond (same_ip (row x).ip ip) (Some x)) (found_in-out row ip xs n ys other)

pub found_in-none : (row : ℕ → Row) (ip : Ip) (xs : List ℕ) → AllByRecursion (IsOther row ip) xs → found_in row xs ip ≡ None
found_in-none row ip [] none = refl
found_in-none row ip (x ∷ xs) none = rw none.0 (found_in-none row ip xs none.1)

-- where nothing is found none is of the address
pub none-found_in : (row : ℕ → Row) (ip : Ip) (xs : List ℕ) → found_in row xs ip ≡ None → AllByRecursion (IsOther row ip) xs
none-found_in row ip [] absent = tt
none-found_in row ip (x ∷ xs) absent =
    let P : Option ℕ → Type 0 = λ found. found ≡ None → IsOther row ip x × AllByRecursion (IsOther row ip) xs in
    cond_both (same_ip (row x).ip ip) (Some x) (found_in row xs ip) P (λ same found. absurd (some_none x found)) (λ apart found. (apart, none-found_in row ip xs found)) absent
  where
    some_none : (n : ℕ) → Some n ≡ None → ⊥
    some_none n same = cc

-- rows that stay are found as before
pub found_in-same : (row other : ℕ → Row) (ip : Ip) (xs : List ℕ) → AllByRecursion (λ n. other n ≡ row n) xs → found_in other xs ip ≡ found_in row xs ip
found_in-same row other ip [] same = refl
found_in-same row other ip (x ∷ xs) same = (λ i. cond (same_ip (same.0 i).ip ip) (Some x) (found_in-same row other ip xs same.1 i))

pub map-same : (row other : ℕ → Row) (xs : List ℕ) → AllByRecursion (λ n. other n ≡ row n) xs → map other xs ≡ map row xs
map-same row other [] same = refl
map-same row other (x ∷ xs) same = (λ i. same.0 i ∷ map-same row other xs same.1 i)

-- the row of a client is that of the node that is found
pub find_row-found_in : (row : ℕ → Row) (ip : Ip) (xs : List ℕ) → find_row (map row xs) ip ≡ option_map row (found_in row xs ip)
find_row-found_in row ip [] = refl
find_row-found_in row ip (x ∷ xs) =
    elim (same_ip (row x).ip ip) as (λ b. cond b (Some (row x)) (find_row (map row xs) ip) ≡ option_map row (cond b (Some x) (found_in row xs ip))) [
      | true ↦ refl
      | false ↦ find_row-found_in row ip xs
    ]

-- the node of a client, between nodes of other clients
pub record IsSplit (row : ℕ → Row) (ip : Ip) (numbers : List ℕ) (number : ℕ) : Type 0 where
  pub before : List ℕ
  pub behind : List ℕ
  pub is : numbers ≡ before ++ number ∷ behind
  pub older : AllByRecursion (IsOther row ip) before
  pub here : same_ip (row number).ip ip ≡ true
  pub newer : AllByRecursion (IsOther row ip) behind

-- what holds of each row holds at each node
at_nodes : (P : Row → Type 0) (row : ℕ → Row) (xs : List ℕ) → AllByRecursion P (map row xs) → AllByRecursion (λ n. P (row n)) xs
at_nodes P row [] each = tt
at_nodes P row (x ∷ xs) each = (each.0, at_nodes P row xs each.1)

-- the first of distinct rows is of another client than the rest
pub IsDistinct-first : (row : ℕ → Row) (n : ℕ) (ns : List ℕ) → IsDistinct (map row (n ∷ ns)) → (ip : Ip) → same_ip (row n).ip ip ≡ true → AllByRecursion (IsOther row ip) ns
IsDistinct-first row n ns distinct ip same =
    subst (λ ip. AllByRecursion (IsOther row ip) ns) (same_ip-eq (row n).ip ip same) (at_nodes (λ later. same_ip later.ip (row n).ip ≡ false) row ns distinct.0)

-- a node that is found stands between nodes of others
pub split-found : (row : ℕ → Row) (ip : Ip) (xs : List ℕ) (n : ℕ) → IsDistinct (map row xs) → found_in row xs ip ≡ Some n → IsSplit row ip xs n
split-found row ip [] n distinct found = absurd (none_some n found)
  where
    none_some : (n : ℕ) → None ≡ Some n → ⊥
    none_some n same = cc
split-found row ip (x ∷ xs) n distinct found =
    let P : Option ℕ → Type 0 = λ answer. answer ≡ Some n → IsSplit row ip (x ∷ xs) n in
    cond_both (same_ip (row x).ip ip) (Some x) (found_in row xs ip) P (λ same here. first same (some_some x n here)) (λ apart later. next apart (split-found row ip xs n distinct.1 later)) found
  where
    some_some : (one other : ℕ) → Some one ≡ Some other → one ≡ other
    some_some one other same = cc

    first : same_ip (row x).ip ip ≡ true → x ≡ n → IsSplit row ip (x ∷ xs) n
    first same here = record {
      before = [];
      behind = xs;
      is = ap (λ k. k ∷ xs) here;
      older = tt;
      here = subst (λ k. same_ip (row k).ip ip ≡ true) here same;
      newer = IsDistinct-first row x xs distinct ip same;
    }

    next : IsOther row ip x → IsSplit row ip xs n → IsSplit row ip (x ∷ xs) n
    next apart rest = record {
      before = x ∷ rest.before;
      behind = rest.behind;
      is = ap (λ ks. x ∷ ks) rest.is;
      older = (apart, rest.older);
      here = rest.here;
      newer = rest.newer;
    }

-- the rows of all other clients
pub others-skip : (row : ℕ → Row) (ip : Ip) (xs : List ℕ) (rows : List Row) → AllByRecursion (IsOther row ip) xs → others (map row xs ++ rows) ip ≡ map row xs ++ others rows ip
others-skip row ip [] rows none = refl
others-skip row ip (x ∷ xs) rows none = rw none.0 (ap (λ kept. row x ∷ kept) (others-skip row ip xs rows none.1))

pub others-all : (row : ℕ → Row) (ip : Ip) (xs : List ℕ) → AllByRecursion (IsOther row ip) xs → others (map row xs) ip ≡ map row xs
others-all row ip [] none = refl
others-all row ip (x ∷ xs) none = rw none.0 (ap (λ kept. row x ∷ kept) (others-all row ip xs none.1))

pub others-split : (row : ℕ → Row) (ip : Ip) (xs : List ℕ) (n : ℕ) (ys : List ℕ) → AllByRecursion (IsOther row ip) xs → same_ip (row n).ip ip ≡ true → AllByRecursion (IsOther row ip) ys
    → others (map row (xs ++ n ∷ ys)) ip ≡ map row (xs ++ ys)
others-split row ip [] n ys older here newer = rw here (others-all row ip ys newer)
others-split row ip (x ∷ xs) n ys older here newer = rw older.0 (ap (λ kept. row x ∷ kept) (others-split row ip xs n ys older.1 here newer))

-- the row after that of a client
pub after-split : (row : ℕ → Row) (ip : Ip) (xs : List ℕ) (n : ℕ) (ys : List ℕ) → AllByRecursion (IsOther row ip) xs → same_ip (row n).ip ip ≡ true → after (map row (xs ++ n ∷ ys)) ip ≡ oldest (map row ys)
after-split row ip [] n ys older here = rw here refl
after-split row ip (x ∷ xs) n ys older here = rw older.0 (after-split row ip xs n ys older.1 here)

-- what is found once a node with a row of an address is put behind nodes of others
pub found_in-pushed : (row new : ℕ → Row) (rest : List ℕ) (n : ℕ) (ip : Ip) → AllByRecursion (λ k. new k ≡ row k) rest → (new n).ip ≡ ip → AllByRecursion (IsOther row ip) rest
    → (other : Ip) → found_in new (rest ++ n ∷ []) other ≡ cond (same_ip ip other) (Some n) (found_in row rest other)
found_in-pushed row new rest n ip same here none other = by (same_ip ip other) refl
  where
    by : (b : Bool) → same_ip ip other ≡ b → found_in new (rest ++ n ∷ []) other ≡ cond b (Some n) (found_in row rest other)
    by true is =
        let passes : same_ip (new n).ip other ≡ true = ap (λ ip. same_ip ip other) here ∙ is in
        let still : AllByRecursion (IsOther new other) rest = newly rest same (subst (λ ip. AllByRecursion (IsOther row ip) rest) (same_ip-eq ip other is) none) in
        found_in-skip new other rest (n ∷ []) still ∙ ap (λ b. cond b (Some n) None) passes
      where
        newly : (ks : List ℕ) → AllByRecursion (λ k. new k ≡ row k) ks → AllByRecursion (IsOther row other) ks → AllByRecursion (IsOther new other) ks
        newly [] same none = tt
        newly (k ∷ ks) same none = (ap (λ (row : Row). same_ip row.ip other) same.0 ∙ none.0, newly ks same.1 none.1)
    by false is =
        let passes : same_ip (new n).ip other ≡ false = ap (λ ip. same_ip ip other) here ∙ is in
        found_in-out new other rest n [] passes ∙ ap (λ ks. found_in new ks other) (append-nil rest) ∙ found_in-same row new other rest same

-- what is found before a node is taken out
pub found_in-split : (row : ℕ → Row) (ip : Ip) (xs : List ℕ) (n : ℕ) (ys : List ℕ) → AllByRecursion (IsOther row ip) xs → same_ip (row n).ip ip ≡ true
    → (other : Ip) → found_in row (xs ++ n ∷ ys) other ≡ cond (same_ip ip other) (Some n) (found_in row (xs ++ ys) other)
found_in-split row ip xs n ys older here other = by (same_ip ip other) refl
  where
    own : (row n).ip ≡ ip
    own = same_ip-eq (row n).ip ip here

    by : (b : Bool) → same_ip ip other ≡ b → found_in row (xs ++ n ∷ ys) other ≡ cond b (Some n) (found_in row (xs ++ ys) other)
    by true is =
        let passes : same_ip (row n).ip other ≡ true = ap (λ ip. same_ip ip other) own ∙ is in
        found_in-skip row other xs (n ∷ ys) (subst (λ ip. AllByRecursion (IsOther row ip) xs) (same_ip-eq ip other is) older)
        ∙ ap (λ b. cond b (Some n) (found_in row ys other)) passes
    by false is = found_in-out row other xs n ys (ap (λ ip. same_ip ip other) own ∙ is)

-- what is found once the first of distinct rows is out
pub found_in-first : (row : ℕ → Row) (n : ℕ) (ns : List ℕ) → IsDistinct (map row (n ∷ ns)) → (other : Ip) → found_in row ns other ≡ cond (same_ip (row n).ip other) None (found_in row (n ∷ ns) other)
found_in-first row n ns distinct other = by (same_ip (row n).ip other) refl
  where
    by : (b : Bool) → same_ip (row n).ip other ≡ b → found_in row ns other ≡ cond b None (cond b (Some n) (found_in row ns other))
    by true is = found_in-none row other ns (IsDistinct-first row n ns distinct other is)
    by false is = refl

-- rows that keep their addresses are found as before
pub found_in-addresses : (row other : ℕ → Row) (ip : Ip) (xs : List ℕ) → AllByRecursion (λ n. (other n).ip ≡ (row n).ip) xs → found_in other xs ip ≡ found_in row xs ip
found_in-addresses row other ip [] same = refl
found_in-addresses row other ip (x ∷ xs) same = (λ i. cond (same_ip (same.0 i) ip) (Some x) (found_in-addresses row other ip xs same.1 i))

-- rows that are told
pub map-told : (row other : ℕ → Row) (ip : Ip) (stamp : ℕ) (xs : List ℕ) → AllByRecursion (λ n. other n ≡ told_row ip stamp (row n)) xs → map other xs ≡ told_rows (map row xs) ip stamp
map-told row other ip stamp [] told = refl
map-told row other ip stamp (x ∷ xs) told = (λ i. told.0 i ∷ map-told row other ip stamp xs told.1 i)
