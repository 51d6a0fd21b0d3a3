-- What a read of the client list asks for, as items (after NTPsec's `mrulist`; which values are taken is our own rule).
use Rattle.std.specs.Prelude.{◌≡◌, ℕ, zero, suc, ◌+◌, ◌-◌, ◌%◌, ◌^◌, ◌<◌, ◌≤◌, ◌==◌, nat_le, Bool, if◌then◌else◌, Option, Some, None, IsSome, List, [], ◌∷◌, ◌++◌, length, take, min, codes, decimal, replicate}
use Rattle.std.specs.List.{AllByRecursion, join_by}
use Rattle.mode6_frame.specs.declared.items.Item.{Item}
use Rattle.mode6_frame.specs.declared.message.TheConstants.{MAX_BODY}
use Rattle.mode6_frame.specs.ItemTexts.{item_text}
use Rattle.mode6_frame.specs.Stamps.{stamp_in, stamp_text}
use Rattle.net_addr.specs.Spelling.{IsAddr, Spells, text_of}
use Rattle.text_words.specs.Numbers.{SpellsNumber}
use Rattle.mru_items.specs.declared.answer.TheConstants.{NONCE_OCTETS}
use Rattle.mru_items.specs.declared.pair.Pair.{Pair}
use Rattle.mru_items.specs.declared.pair.TheConstants.{MAX_PAIRS}
use Rattle.mru_items.specs.declared.query.MruFilter.{MruFilter}
use Rattle.mru_items.specs.declared.query.Query.{Query}
use Rattle.mru_items.specs.declared.query.ReadRequest.{ReadRequest}
use Rattle.mru_items.specs.declared.query.TheConstants.{MAX_LIMIT, MAX_FRAGS}
use Rattle.mru_items.specs.Names.{numbered, values_of, valued}
use Rattle.mru_items.specs.Values.{SpellsMask, mask_text}

-- an item that may be left out: without it this is the plain value, and where it stands once its value spells it
abbrev pub IsOptional : {A : Type 0} → (List ℕ → A → Type 0) → A → List (Option (List ℕ)) → A → Type 0
IsOptional Spells plain [] it = it ≡ plain
IsOptional Spells plain (Some value ∷ []) it = Spells value it
IsOptional Spells plain _ it = ⊥

-- an item that stands once, and its value spells this
abbrev pub IsOnce : {A : Type 0} → (List ℕ → A → Type 0) → List (Option (List ℕ)) → A → Type 0
IsOnce Spells (Some value ∷ []) it = Spells value it
IsOnce Spells _ it = ⊥

-- a stamp of a server whose clocks begin at this time, as a timestamp
abbrev pub told_time : ℕ → ℕ → ℕ
told_time origin stamp = (origin + stamp) % 2 ^ 64

-- the limit of a page as a request gives it
abbrev pub SpellsLimit : List ℕ → Option ℕ → Type 0
SpellsLimit value None = ⊥
SpellsLimit value (Some limit) = SpellsNumber 1 MAX_LIMIT value limit

-- a timestamp is that of a stamp below 2^64
abbrev pub TellsStamp : ℕ → List ℕ → ℕ → Type 0
TellsStamp origin value stamp = (stamp < 2 ^ 64) × (stamp_in value ≡ Some (told_time origin stamp))

-- a request names no pair of this number
abbrev pub NamesNone : List Item → ℕ → Type 0
NamesNone items number =
    (values_of (numbered (codes "addr") number) items ≡ []) × (values_of (numbered (codes "last") number) items ≡ [])

-- a request names no pair of this number, nor of so many after it
abbrev pub NamesNoneFrom : List Item → ℕ → ℕ → Type 0
NamesNoneFrom items zero number = Unit {0}
NamesNoneFrom items (suc left) number = NamesNone items number × NamesNoneFrom items left (suc number)

-- a request names a pair under these names
abbrev pub IsPairUnder : ℕ → List Item → List ℕ → List ℕ → Pair → Type 0
IsPairUnder origin items addr last pair =
    IsOnce (λ value it. IsAddr it × Spells value it) (values_of addr items) pair.addr
    × IsOnce (TellsStamp origin) (values_of last items) pair.last

-- a request names this pair of this number
abbrev pub NamesPair : ℕ → List Item → ℕ → Pair → Type 0
NamesPair origin items number pair =
    IsPairUnder origin items (numbered (codes "addr") number) (numbered (codes "last") number) pair

-- a request names pairs from this number on, and none after them up to the sixteenth
abbrev pub NamesPairs : ℕ → List Item → ℕ → ℕ → List Pair → Type 0
NamesPairs origin items zero number pairs = pairs ≡ []
NamesPairs origin items (suc left) number [] = NamesNoneFrom items (suc left) number
NamesPairs origin items (suc left) number (pair ∷ pairs) =
    NamesPair origin items number pair × NamesPairs origin items left (suc number) pairs

-- the items ask for these clients
pub record AsksForClients (items : List Item) (filter : MruFilter) : Type 0 where
  pub mincount : IsOptional (SpellsNumber 1 (2 ^ 32 - 1)) 1 (values_of (codes "mincount") items) filter.mincount
  pub resall : IsOptional SpellsMask 0 (values_of (codes "resall") items) filter.resall
  pub resany : IsOptional SpellsMask 0 (values_of (codes "resany") items) filter.resany

-- items have a nonce
abbrev pub HasNonce : List Item → Type 0
HasNonce items = (nonce : List ℕ) × IsOnce (λ value it. value ≡ it) (values_of (codes "nonce") items) nonce

-- items bound a page: its datagrams, or its rows
abbrev pub IsBounded : List Item → Option ℕ → Type 0
IsBounded items limit = (values_of (codes "frags") items ≡ []) → IsSome limit

-- The items ask for a page so. Each name stands once at most; other names say nothing. There is a nonce, and a bound on
-- the page: on its rows, or on its datagrams, which are else 128 at most.
pub record AsksFor (items : List Item) (query : Query) : Type 0 where
  pub nonce : HasNonce items
  pub limit : IsOptional SpellsLimit None (values_of (codes "limit") items) query.limit
  pub frags : IsOptional (SpellsNumber 1 MAX_FRAGS) MAX_FRAGS (values_of (codes "frags") items) query.frags
  pub bounded : IsBounded items query.limit
  pub clients : AsksForClients items query.filter

-- the items ask a server whose clocks begin at this time for a page so, behind the first of these pairs that it has
pub record IsReadOf (items : List Item) (origin : ℕ) (request : ReadRequest) : Type 0 where
  pub asks : AsksFor items (record { filter = request.filter; limit = request.limit; frags = request.frags })
  pub pairs : NamesPairs origin items MAX_PAIRS 0 request.pairs

-- a limit of a page is one that may be asked for
abbrev pub IsLimit : Option ℕ → Type 0
IsLimit None = Unit {0}
IsLimit (Some limit) = (1 ≤ limit) × (limit ≤ MAX_LIMIT)

-- a pair has an address and a stamp
abbrev pub IsPair : Pair → Type 0
IsPair pair = IsAddr pair.addr × (pair.last < 2 ^ 64)

-- each of these does
abbrev pub ArePairs : List Pair → Type 0
ArePairs = AllByRecursion IsPair

-- a server can read a page so: the bounds are those that may be asked for, and each pair has an address and a stamp
pub record IsRead (request : ReadRequest) : Type 0 where
  pub limit : IsLimit request.limit
  pub least : 1 ≤ request.frags
  pub most : request.frags ≤ MAX_FRAGS
  pub few : length request.pairs ≤ MAX_PAIRS
  pub pairs : ArePairs request.pairs

-- a page may be asked for so
pub record IsQuery (query : Query) : Type 0 where
  pub mincount : 1 ≤ query.filter.mincount
  pub mincount_fits : query.filter.mincount < 2 ^ 32
  pub resall : query.filter.resall < 2 ^ 16
  pub resany : query.filter.resany < 2 ^ 16
  pub limit : IsLimit query.limit
  pub least : 1 ≤ query.frags
  pub most : query.frags ≤ MAX_FRAGS

-- the read that asks for this and names these pairs
abbrev pub read_of : Query → List Pair → ReadRequest
read_of query pairs = record { filter = query.filter; limit = query.limit; frags = query.frags; pairs = pairs }

-- the item of a limit, where one is given
abbrev pub limit_items : Option ℕ → List Item
limit_items None = []
limit_items (Some limit) = valued (codes "limit") (decimal limit) ∷ []

-- the item of the least count, where it is not 1
abbrev pub mincount_items : ℕ → List Item
mincount_items mincount = if mincount == 1 then [] else valued (codes "mincount") (decimal mincount) ∷ []

-- the item of a mask, where it is not 0
abbrev pub mask_items : List ℕ → ℕ → List Item
mask_items name mask = if mask == 0 then [] else valued name (mask_text mask) ∷ []

-- the items of pairs whose times are timestamps, numbered from here on
abbrev pub pair_items : ℕ → List Pair → List Item
pair_items number [] = []
pair_items number (pair ∷ pairs) =
    valued (numbered (codes "addr") number) (text_of pair.addr) ∷ valued (numbered (codes "last") number) (stamp_text pair.last)
    ∷ pair_items (suc number) pairs

-- the items by which a client asks with this nonce, in their order; the pairs have timestamps
unfoldable pub request_items : List ℕ → ReadRequest → List Item
request_items nonce request =
    (valued (codes "nonce") nonce ∷ valued (codes "frags") (decimal request.frags) ∷ [])
    ++ limit_items request.limit ++ mincount_items request.filter.mincount
    ++ mask_items (codes "resall") request.filter.resall ++ mask_items (codes "resany") request.filter.resany
    ++ pair_items 0 request.pairs

-- the body by which a client asks: these items, with a comma and a space between two
unfoldable pub request_text : List ℕ → ReadRequest → List ℕ
request_text nonce request = join_by item_text (codes ", ") (request_items nonce request)

-- the greatest number up to a bound that passes a test, 0 where none does
abbrev pub greatest : (ℕ → Bool) → ℕ → ℕ
greatest passes zero = 0
greatest passes (suc bound) = if passes (suc bound) then suc bound else greatest passes bound

-- how many octets the body of a read has, whatever its nonce of 24 octets
abbrev pub request_len : ReadRequest → ℕ
request_len request = length (request_text (replicate NONCE_OCTETS 48) request)

-- how many of these pairs a read names, the first ones: as many as fit into one datagram, and 16 at most
unfoldable pub named_count : Query → List Pair → ℕ
named_count query pairs =
    greatest (λ count. nat_le (request_len (read_of query (take count pairs))) MAX_BODY) (min MAX_PAIRS (length pairs))

-- the pairs that a read names, of these
abbrev pub named_of : Query → List Pair → List Pair
named_of query pairs = take (named_count query pairs) pairs

-- pairs with timestamps, with the stamps of a server whose clocks begin at this time
abbrev pub ArePairsTold : ℕ → List Pair → List Pair → Type 0
ArePairsTold origin [] [] = Unit {0}
ArePairsTold origin [] (told ∷ more) = ⊥
ArePairsTold origin (pair ∷ pairs) [] = ⊥
ArePairsTold origin (pair ∷ pairs) (told ∷ more) =
    (told.addr ≡ pair.addr) × (told.last ≡ told_time origin pair.last) × (pair.last < 2 ^ 64) × ArePairsTold origin pairs more
