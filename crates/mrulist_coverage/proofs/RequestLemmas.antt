-- What items ask for is a read that a server can make.
use Rattle.std.proofs.Common.{ℕ, zero, suc, ◌^◌, ◌<◌, ◌≤◌, List, [], ◌∷◌, length, Option, Some, None, sym, subst, arith}
use Rattle.std.specs.List.{AllByRecursion}
use Rattle.mode6_frame.specs.declared.items.Item.{Item}
use Rattle.mru_items.specs.declared.pair.Pair.{Pair}
use Rattle.mru_items.specs.declared.pair.TheConstants.{MAX_PAIRS}
use Rattle.mru_items.specs.declared.query.ReadRequest.{ReadRequest}
use Rattle.mru_items.specs.declared.query.TheConstants.{MAX_FRAGS}
use Rattle.mru_items.specs.Queries.{IsLimit, IsOnce, IsOptional, IsRead, IsReadOf, NamesPairs, SpellsLimit, TellsStamp}
use Rattle.net_addr.specs.declared.addr.Addr.{Addr}
use Rattle.net_addr.specs.Spelling.{IsAddr, Spells}
use Rattle.mru_items.specs.Numbers.{SpellsNumber}

spelled-limit : (value : List ℕ) (limit : Option ℕ) → SpellsLimit value limit → IsLimit limit
spelled-limit value None spells = absurd spells
spelled-limit value (Some limit) spells = (spells.1, spells.2)

limit-read : (values : List (Option (List ℕ))) (limit : Option ℕ) → IsOptional SpellsLimit None values limit → IsLimit limit
limit-read [] limit is = subst IsLimit (sym is) tt
limit-read (Some value ∷ []) limit is = spelled-limit value limit is
limit-read (Some value ∷ other ∷ values) limit is = absurd is
limit-read (None ∷ values) limit is = absurd is

frags-read : (values : List (Option (List ℕ))) (frags : ℕ) → IsOptional (SpellsNumber 1 MAX_FRAGS) MAX_FRAGS values frags → (1 ≤ frags) × (frags ≤ MAX_FRAGS)
frags-read [] frags is = (omega (arith, is), omega (arith, is))
frags-read (Some value ∷ []) frags is = (is.1, is.2)
frags-read (Some value ∷ other ∷ values) frags is = absurd is
frags-read (None ∷ values) frags is = absurd is

once-addr : (values : List (Option (List ℕ))) (addr : Addr) → IsOnce (λ value it. IsAddr it × Spells value it) values addr → IsAddr addr
once-addr [] addr is = absurd is
once-addr (Some value ∷ []) addr is = is.0
once-addr (Some value ∷ other ∷ values) addr is = absurd is
once-addr (None ∷ values) addr is = absurd is

once-stamp : (origin : ℕ) (values : List (Option (List ℕ))) (stamp : ℕ) → IsOnce (TellsStamp origin) values stamp → stamp < 2 ^ 64
once-stamp origin [] stamp is = absurd is
once-stamp origin (Some value ∷ []) stamp is = is.0
once-stamp origin (Some value ∷ other ∷ values) stamp is = absurd is
once-stamp origin (None ∷ values) stamp is = absurd is

named-read : (origin : ℕ) (items : List Item) (left number : ℕ) (pairs : List Pair) → NamesPairs origin items left number pairs
    → (length pairs ≤ left) × AllByRecursion (λ pair. IsAddr pair.addr × (pair.last < 2 ^ 64)) pairs
named-read origin items zero number pairs is =
    subst (λ (them : List Pair). (length them ≤ 0) × AllByRecursion (λ pair. IsAddr pair.addr × (pair.last < 2 ^ 64)) them) (sym is) (omega arith, tt)
named-read origin items (suc left) number [] is = (omega arith, tt)
named-read origin items (suc left) number (pair ∷ pairs) (names, rest) =
    let later = named-read origin items left (suc number) pairs rest in
    (omega (arith, later.0), ((once-addr _ pair.addr names.0, once-stamp origin _ pair.last names.1), later.1))

-- what items ask for is a read
pub read-IsRead : (items : List Item) (origin : ℕ) (read : ReadRequest) → IsReadOf items origin read → IsRead read
read-IsRead items origin read is =
    let frags = frags-read _ read.frags is.asks.frags in
    let pairs = named-read origin items MAX_PAIRS 0 read.pairs is.pairs in
    record { limit = limit-read _ read.limit is.asks.limit; least = frags.0; most = frags.1; few = pairs.0; pairs = pairs.1 }
