-- The pairs that a read names are told as those of the trail are.
use Rattle.std.proofs.Common.{ℕ, zero, suc, ◌≤◌, min, Bool, cond, List, [], ◌∷◌, ◌++◌, length, map, take, reverse, nat_le, Option, Some, None, sym, subst, arith, length-take}
use Rattle.std.proofs.lemmas.Grind.{reverse_onto}
use Rattle.std.specs.List.{AllByRecursion, list_any}
use Rattle.std.proofs.lemmas.Bool.{cond_both}
use Rattle.mode6_frame.specs.declared.message.TheConstants.{MAX_BODY}
use Rattle.mru_items.specs.declared.pair.Pair.{Pair}
use Rattle.mru_items.specs.declared.pair.TheConstants.{MAX_PAIRS}
use Rattle.mru_items.specs.declared.query.Query.{Query}
use Rattle.mru_items.specs.Queries.{ArePairsTold, greatest, named_count, read_of, request_len}
use Rattle.mru_read.specs.Pages.{IsTellableRow, shown_row}
use Rattle.mrulist_coverage.proofs.FrontLemmas.{AllByRecursion-take}
use Rattle.mrulist_reader.specs.Readers.{ReaderParts, cut_behind, named_by, pair_of, same_pair, up_to_last}
use Rattle.net_addr.specs.Addresses.{IsAddr}
use Rattle.recency.specs.declared.row.Row.{Row}
use Rattle.recency.proofs.ListLemmas.{AllByRecursion-append}

-- pairs of addresses
abbrev pub AreAddrs : List Pair → Type 0
AreAddrs = AllByRecursion (λ pair. IsAddr pair.addr)

greatest-most : (passes : ℕ → Bool) (bound : ℕ) → greatest passes bound ≤ bound
greatest-most passes zero = omega arith
greatest-most passes (suc bound) =
    cond_both (passes (suc bound)) (suc bound) (greatest passes bound) (λ n. n ≤ suc bound) (λ _. omega arith) (λ _. omega (arith, greatest-most passes bound))

named_count-most : (query : Query) (pairs : List Pair) → named_count query pairs ≤ MAX_PAIRS
unfolding named_count
named_count-most query pairs =
    let fits : ℕ → Bool = λ count. nat_le (request_len (read_of query (take count pairs))) MAX_BODY in
    let most : named_count query pairs ≤ min MAX_PAIRS (length pairs) = greatest-most fits (min MAX_PAIRS (length pairs)) in
    omega arith

-- a read names 16 pairs at most
pub named-few : (r : ReaderParts) → length (named_by r) ≤ MAX_PAIRS
named-few r =
    let pairs = reverse r.trail in
    omega (arith, named_count-most r.query pairs, length-take (named_count r.query pairs) pairs)

told-take : (origin n : ℕ) (stamps pairs : List Pair) → ArePairsTold origin stamps pairs → ArePairsTold origin (take n stamps) (take n pairs)
told-take origin zero stamps pairs told = tt
told-take origin (suc n) [] [] told = tt
told-take origin (suc n) [] (pair ∷ pairs) told = absurd told
told-take origin (suc n) (stamp ∷ stamps) [] told = absurd told
told-take origin (suc n) (stamp ∷ stamps) (pair ∷ pairs) (addr, last, fits, told) = (addr, last, fits, told-take origin n stamps pairs told)

told-append : (origin : ℕ) (stamps pairs more its_more : List Pair) → ArePairsTold origin stamps pairs → ArePairsTold origin more its_more
    → ArePairsTold origin (stamps ++ more) (pairs ++ its_more)
told-append origin [] [] more its_more told behind = behind
told-append origin [] (pair ∷ pairs) more its_more told behind = absurd told
told-append origin (stamp ∷ stamps) [] more its_more told behind = absurd told
told-append origin (stamp ∷ stamps) (pair ∷ pairs) more its_more (addr, last, fits, told) behind =
    (addr, last, fits, told-append origin stamps pairs more its_more told behind)

told-reverse : (origin : ℕ) (stamps pairs : List Pair) → ArePairsTold origin stamps pairs → ArePairsTold origin (reverse stamps) (reverse pairs)
told-reverse origin [] [] told = tt
told-reverse origin [] (pair ∷ pairs) told = absurd told
told-reverse origin (stamp ∷ stamps) [] told = absurd told
told-reverse origin (stamp ∷ stamps) (pair ∷ pairs) (addr, last, fits, told) =
    let front = told-append origin (reverse stamps) (reverse pairs) (stamp ∷ []) (pair ∷ []) (told-reverse origin stamps pairs told) (addr, last, fits, tt) in
    subst (λ (them : List Pair). ArePairsTold origin (reverse (stamp ∷ stamps)) them) (sym (reverse_onto pairs pair []))
    (subst (λ (them : List Pair). ArePairsTold origin them (reverse pairs ++ pair ∷ [])) (sym (reverse_onto stamps stamp [])) front)

-- the stamps of the pairs that a read names
pub named-told : (origin : ℕ) (stamps : List Pair) (r : ReaderParts) → ArePairsTold origin stamps r.trail
    → ArePairsTold origin (take (named_count r.query (reverse r.trail)) (reverse stamps)) (named_by r)
named-told origin stamps r told = told-take origin _ (reverse stamps) (reverse r.trail) (told-reverse origin stamps r.trail told)

AreAddrs-reverse : (pairs : List Pair) → AreAddrs pairs → AreAddrs (reverse pairs)
AreAddrs-reverse [] all = tt
AreAddrs-reverse (pair ∷ pairs) all =
    subst AreAddrs (sym (reverse_onto pairs pair []))
    (AllByRecursion-append (λ (p : Pair). IsAddr p.addr) (reverse pairs) (pair ∷ []) (AreAddrs-reverse pairs all.1) (all.0, tt))

-- a read names pairs of addresses
pub named-AreAddrs : (r : ReaderParts) → AreAddrs r.trail → AreAddrs (named_by r)
named-AreAddrs r all = AllByRecursion-take (λ (pair : Pair). IsAddr pair.addr) _ (reverse r.trail) (AreAddrs-reverse r.trail all)

AreAddrs-up_to : (pair : Pair) (pairs : List Pair) → AreAddrs pairs → AreAddrs (up_to_last pair pairs)
AreAddrs-up_to pair [] all = tt
AreAddrs-up_to pair (one ∷ pairs) all =
    cond_both (list_any (same_pair pair) pairs) (one ∷ up_to_last pair pairs) (cond (same_pair pair one) (one ∷ []) []) AreAddrs
    (λ _. (all.0, AreAddrs-up_to pair pairs all.1))
    (λ _. cond_both (same_pair pair one) (one ∷ []) [] AreAddrs (λ _. (all.0, tt)) (λ _. tt))

-- so is a trail that was cut
pub cut-AreAddrs : (older : Option Pair) (trail : List Pair) → AreAddrs trail → AreAddrs (cut_behind older trail)
cut-AreAddrs None trail all = tt
cut-AreAddrs (Some pair) trail all = AreAddrs-up_to pair trail all

-- and so are the pairs of the rows of a page
pub rows-AreAddrs : (origin : ℕ) (rows : List Row) → AllByRecursion IsTellableRow rows → AreAddrs (map pair_of (map (shown_row origin) rows))
rows-AreAddrs origin [] all = tt
rows-AreAddrs origin (row ∷ rows) all = (record { ip = all.0.ip; port = all.0.port }, rows-AreAddrs origin rows all.1)
