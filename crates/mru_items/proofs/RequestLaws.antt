-- A request that is written is read back, and asks for its read alone.
use Rattle.std.proofs.Common.{◌≡◌, ◌≢◌, ◌⊎◌, ℕ, zero, suc, ◌+◌, ◌-◌, ◌<◌, ◌≤◌, ◌==◌, ◌^◌, inl, inr, true, false, Option, Some, None, List, [], ◌∷◌, ◌++◌, length, decimal, bytes_eq, refl, sym, ap, subst, ◌∙◌, arith, append-nil}
use Rattle.std.specs.Prelude.{codes, Contains}
use Rattle.std.specs.Int.{to_be_bytes, w16}
use Rattle.std.specs.List.{AllByRecursion}
use Rattle.std.specs.Str.Parse.{digits_value}
use Rattle.std.proofs.lemmas.Bool.{cases_eq, cases_Bool, false_from_ne_true, ne_eqb}
use Rattle.std.proofs.lemmas.Fmt.{decimal_injective}
use Rattle.std.proofs.lemmas.List.{append_cancel_left}
use Rattle.std.proofs.lemmas.Slice.Eq.{bytes_eq-Decides}
use Rattle.hex.specs.Hex.{encode_lower, encode_with, lower_digits}
use Rattle.mode6_frame.specs.declared.items.Item.{Item}
use Rattle.mode6_frame.specs.Items.{IsItemText}
use Rattle.mode6_frame.specs.Stamps.{stamp_text}
use Rattle.mode6_frame.proofs.ItemTextLemmas.{IsItemText-one}
use Rattle.mode6_frame.proofs.StampLemmas.{list_all-encode, stamp_in-text, value-encode}
use Rattle.mode6_frame.proofs.WrittenLemmas.{IsItemText-joined}
use Rattle.net_addr.specs.declared.addr.Addr.{Addr}
use Rattle.net_addr.specs.Spelling.{IsAddr, Spells, text_of}
use Rattle.net_addr.proofs.ReadingLemmas.{addr_in_complete}
use Rattle.net_addr.proofs.SpellingLemmas.{text_of-spells}
use Rattle.text_words.specs.Numbers.{SpellsNumber}
use Rattle.mru_items.specs.declared.answer.TheConstants.{NONCE_OCTETS}
use Rattle.mru_items.specs.declared.pair.Pair.{Pair}
use Rattle.mru_items.specs.declared.pair.TheConstants.{MAX_PAIRS}
use Rattle.mru_items.specs.declared.query.MruFilter.{MruFilter}
use Rattle.mru_items.specs.declared.query.Query.{Query}
use Rattle.mru_items.specs.declared.query.ReadRequest.{ReadRequest}
use Rattle.mru_items.specs.Names.{numbered, valued, values_of}
use Rattle.mru_items.specs.Queries.{ArePairs, ArePairsTold, AsksFor, AsksForClients, IsLimit, IsOnce, IsOptional, IsQuery, IsReadOf, NamesNoneFrom, NamesPair, NamesPairs, SpellsLimit, TellsStamp, limit_items, mask_items, mincount_items, pair_items, read_of, request_items, request_text, told_time}
use Rattle.mru_items.specs.Values.{SpellsMask, mask_text}
use Rattle.mru_items.proofs.BackLemmas.{addr_in-text, values-append}
use Rattle.mru_items.proofs.GoodLemmas.{good-request, good-writable}

-- a name is itself
same-name : (name : List ℕ) → bytes_eq name name ≡ true
same-name name = (bytes_eq-Decides name name).1 refl

-- names of two numbers differ
other-number : (word : List ℕ) (one other : ℕ) → one < 2 ^ 64 → other < 2 ^ 64 → one ≢ other
    → bytes_eq (numbered word one) (numbered word other) ≡ false
other-number word one other fits fits_other differ =
    false_from_ne_true (bytes_eq (numbered word one) (numbered word other)) (λ same.
    differ (decimal_injective one other fits fits_other
    (append_cancel_left (word ++ codes ".") (decimal one) (decimal other) ((bytes_eq-Decides (numbered word one) (numbered word other)).0 same))))

-- a limit's item has no other name
lacks-limit : (name : List ℕ) (limit : Option ℕ) → bytes_eq (codes "limit") name ≡ false → values_of name (limit_items limit) ≡ []
lacks-limit name None other = refl
lacks-limit name (Some limit) other = rw other refl

-- nor has that of a least count
lacks-mincount : (name : List ℕ) (mincount : ℕ) → bytes_eq (codes "mincount") name ≡ false → values_of name (mincount_items mincount) ≡ []
lacks-mincount name mincount other =
    elim (cases_Bool (mincount == 1)) [
      | inl plain ↦ rw plain refl
      | inr not_plain ↦ rw (not_plain, other) refl
    ]

-- of a mask
lacks-mask : (word name : List ℕ) (mask : ℕ) → bytes_eq word name ≡ false → values_of name (mask_items word mask) ≡ []
lacks-mask word name mask other =
    elim (cases_Bool (mask == 0)) [
      | inl plain ↦ rw plain refl
      | inr not_plain ↦ rw (not_plain, other) refl
    ]

-- nor have those of pairs
lacks-pairs : (name : List ℕ) (number : ℕ) (pairs : List Pair) → ((k : ℕ) → bytes_eq (numbered (codes "addr") k) name ≡ false)
    → ((k : ℕ) → bytes_eq (numbered (codes "last") k) name ≡ false) → values_of name (pair_items number pairs) ≡ []
lacks-pairs name number [] no_addr no_last = refl
lacks-pairs name number (pair ∷ pairs) no_addr no_last =
    rw (no_addr number, no_last number) (lacks-pairs name (suc number) pairs no_addr no_last)

-- pairs have no address under a number before their first
lacks-addr : (k number : ℕ) (pairs : List Pair) → k < number → number + length pairs ≤ 2 ^ 64
    → values_of (numbered (codes "addr") k) (pair_items number pairs) ≡ []
lacks-addr k number [] before few = refl
lacks-addr k number (pair ∷ pairs) before few =
    rw (other-number (codes "addr") number k (omega arith) (omega arith) (λ same. absurd (omega (arith, same))))
    (lacks-addr k (suc number) pairs (omega arith) (omega arith))

-- nor a time
lacks-last : (k number : ℕ) (pairs : List Pair) → k < number → number + length pairs ≤ 2 ^ 64
    → values_of (numbered (codes "last") k) (pair_items number pairs) ≡ []
lacks-last k number [] before few = refl
lacks-last k number (pair ∷ pairs) before few =
    rw (other-number (codes "last") number k (omega arith) (omega arith) (λ same. absurd (omega (arith, same))))
    (lacks-last k (suc number) pairs (omega arith) (omega arith))

-- under their first number they have its address alone
one-addr : (number : ℕ) (pair : Pair) (pairs : List Pair) → suc number + length pairs ≤ 2 ^ 64
    → values_of (numbered (codes "addr") number) (pair_items number (pair ∷ pairs)) ≡ Some (text_of pair.addr) ∷ []
one-addr number pair pairs few =
    rw (same-name (numbered (codes "addr") number))
    (ap (λ rest. Some (text_of pair.addr) ∷ rest) (lacks-addr number (suc number) pairs (omega arith) few))

-- and its time
one-last : (number : ℕ) (pair : Pair) (pairs : List Pair) → suc number + length pairs ≤ 2 ^ 64
    → values_of (numbered (codes "last") number) (pair_items number (pair ∷ pairs)) ≡ Some (stamp_text pair.last) ∷ []
one-last number pair pairs few =
    rw (same-name (numbered (codes "last") number))
    (ap (λ rest. Some (stamp_text pair.last) ∷ rest) (lacks-last number (suc number) pairs (omega arith) few))

-- under a later number the first pair has no address
later-addr : (k number : ℕ) (pair : Pair) (pairs : List Pair) → number < k → k < 2 ^ 64
    → values_of (numbered (codes "addr") k) (pair_items number (pair ∷ pairs)) ≡ values_of (numbered (codes "addr") k) (pair_items (suc number) pairs)
later-addr k number pair pairs after fits =
    rw (other-number (codes "addr") number k (omega arith) fits (λ same. absurd (omega (arith, same)))) refl

-- nor a time
later-last : (k number : ℕ) (pair : Pair) (pairs : List Pair) → number < k → k < 2 ^ 64
    → values_of (numbered (codes "last") k) (pair_items number (pair ∷ pairs)) ≡ values_of (numbered (codes "last") k) (pair_items (suc number) pairs)
later-last k number pair pairs after fits =
    rw (other-number (codes "last") number k (omega arith) fits (λ same. absurd (omega (arith, same)))) refl

-- the first two items of a request
abbrev pub first_items : List ℕ → Query → List Item
first_items nonce query = valued (codes "nonce") nonce ∷ valued (codes "frags") (decimal query.frags) ∷ []

-- the values under a name are those of its six groups of items
request-values : (name nonce : List ℕ) (query : Query) (pairs : List Pair)
    → values_of name (request_items nonce (read_of query pairs))
    ≡ values_of name (first_items nonce query) ++ values_of name (limit_items query.limit) ++ values_of name (mincount_items query.filter.mincount)
    ++ values_of name (mask_items (codes "resall") query.filter.resall) ++ values_of name (mask_items (codes "resany") query.filter.resany)
    ++ values_of name (pair_items 0 pairs)
unfolding request_items
request-values name nonce query pairs =
    let a = first_items nonce query in
    let b = limit_items query.limit in
    let c = mincount_items query.filter.mincount in
    let d = mask_items (codes "resall") query.filter.resall in
    let e = mask_items (codes "resany") query.filter.resany in
    let two = values-append name a b in
    let three = values-append name (a ++ b) c ∙ ap (λ values. values ++ values_of name c) two in
    let four = values-append name (a ++ b ++ c) d ∙ ap (λ values. values ++ values_of name d) three in
    let five = values-append name (a ++ b ++ c ++ d) e ∙ ap (λ values. values ++ values_of name e) four in
    values-append name (a ++ b ++ c ++ d ++ e) (pair_items 0 pairs) ∙ ap (λ values. values ++ values_of name (pair_items 0 pairs)) five

-- the nonce that a request has
request-nonce : (nonce : List ℕ) (query : Query) (pairs : List Pair)
    → values_of (codes "nonce") (request_items nonce (read_of query pairs)) ≡ Some nonce ∷ []
request-nonce nonce query pairs =
    let name = codes "nonce" in
    request-values name nonce query pairs
    ∙ rw (
      lacks-limit name query.limit refl,
      lacks-mincount name query.filter.mincount refl,
      lacks-mask (codes "resall") name query.filter.resall refl,
      lacks-mask (codes "resany") name query.filter.resany refl,
      lacks-pairs name 0 pairs (λ k. refl) (λ k. refl),
    ) refl

-- its bound on datagrams
request-frags : (nonce : List ℕ) (query : Query) (pairs : List Pair)
    → values_of (codes "frags") (request_items nonce (read_of query pairs)) ≡ Some (decimal query.frags) ∷ []
request-frags nonce query pairs =
    let name = codes "frags" in
    request-values name nonce query pairs
    ∙ rw (
      lacks-limit name query.limit refl,
      lacks-mincount name query.filter.mincount refl,
      lacks-mask (codes "resall") name query.filter.resall refl,
      lacks-mask (codes "resany") name query.filter.resany refl,
      lacks-pairs name 0 pairs (λ k. refl) (λ k. refl),
    ) refl

-- its limit
request-limit : (nonce : List ℕ) (query : Query) (pairs : List Pair)
    → values_of (codes "limit") (request_items nonce (read_of query pairs)) ≡ values_of (codes "limit") (limit_items query.limit)
request-limit nonce query pairs =
    let name = codes "limit" in
    request-values name nonce query pairs
    ∙ rw (
      lacks-mincount name query.filter.mincount refl,
      lacks-mask (codes "resall") name query.filter.resall refl,
      lacks-mask (codes "resany") name query.filter.resany refl,
      lacks-pairs name 0 pairs (λ k. refl) (λ k. refl),
    ) (simp append-nil refl)

-- its least count
request-mincount : (nonce : List ℕ) (query : Query) (pairs : List Pair)
    → values_of (codes "mincount") (request_items nonce (read_of query pairs)) ≡ values_of (codes "mincount") (mincount_items query.filter.mincount)
request-mincount nonce query pairs =
    let name = codes "mincount" in
    request-values name nonce query pairs
    ∙ rw (
      lacks-limit name query.limit refl,
      lacks-mask (codes "resall") name query.filter.resall refl,
      lacks-mask (codes "resany") name query.filter.resany refl,
      lacks-pairs name 0 pairs (λ k. refl) (λ k. refl),
    ) (simp append-nil refl)

-- its masks
request-resall : (nonce : List ℕ) (query : Query) (pairs : List Pair)
    → values_of (codes "resall") (request_items nonce (read_of query pairs)) ≡ values_of (codes "resall") (mask_items (codes "resall") query.filter.resall)
request-resall nonce query pairs =
    let name = codes "resall" in
    request-values name nonce query pairs
    ∙ rw (
      lacks-limit name query.limit refl,
      lacks-mincount name query.filter.mincount refl,
      lacks-mask (codes "resany") name query.filter.resany refl,
      lacks-pairs name 0 pairs (λ k. refl) (λ k. refl),
    ) (simp append-nil refl)

request-resany : (nonce : List ℕ) (query : Query) (pairs : List Pair)
    → values_of (codes "resany") (request_items nonce (read_of query pairs)) ≡ values_of (codes "resany") (mask_items (codes "resany") query.filter.resany)
request-resany nonce query pairs =
    let name = codes "resany" in
    request-values name nonce query pairs
    ∙ rw (
      lacks-limit name query.limit refl,
      lacks-mincount name query.filter.mincount refl,
      lacks-mask (codes "resall") name query.filter.resall refl,
      lacks-pairs name 0 pairs (λ k. refl) (λ k. refl),
    ) (simp append-nil refl)

-- under the name of an address it has what its pairs have
request-addr : (k : ℕ) (nonce : List ℕ) (query : Query) (pairs : List Pair)
    → values_of (numbered (codes "addr") k) (request_items nonce (read_of query pairs)) ≡ values_of (numbered (codes "addr") k) (pair_items 0 pairs)
request-addr k nonce query pairs =
    let name = numbered (codes "addr") k in
    request-values name nonce query pairs
    ∙ rw (
      lacks-limit name query.limit refl,
      lacks-mincount name query.filter.mincount refl,
      lacks-mask (codes "resall") name query.filter.resall refl,
      lacks-mask (codes "resany") name query.filter.resany refl,
    ) refl

-- and so under that of a time
request-last : (k : ℕ) (nonce : List ℕ) (query : Query) (pairs : List Pair)
    → values_of (numbered (codes "last") k) (request_items nonce (read_of query pairs)) ≡ values_of (numbered (codes "last") k) (pair_items 0 pairs)
request-last k nonce query pairs =
    let name = numbered (codes "last") k in
    request-values name nonce query pairs
    ∙ rw (
      lacks-limit name query.limit refl,
      lacks-mincount name query.filter.mincount refl,
      lacks-mask (codes "resall") name query.filter.resall refl,
      lacks-mask (codes "resany") name query.filter.resany refl,
    ) refl

-- an item that may be left out is read back: it is the plain value and left out, or stands there once
optional-back : {A : Type 0} (Spells : List ℕ → A → Type 0) (plain it other : A) (values : List (Option (List ℕ))) (text : List ℕ)
    → ((it ≡ plain) × (values ≡ [])) ⊎ (values ≡ Some text ∷ []) → (Spells text other → other ≡ it) → IsOptional Spells plain values other → other ≡ it
optional-back Spells plain it other values text (inl left_out) back told = (rw left_out.1 at told) ∙ sym left_out.0
optional-back Spells plain it other values text (inr one) back told = back (rw one at told)

-- and told
optional-there : {A : Type 0} (Spells : List ℕ → A → Type 0) (plain it : A) (values : List (Option (List ℕ))) (text : List ℕ)
    → ((it ≡ plain) × (values ≡ [])) ⊎ (values ≡ Some text ∷ []) → Spells text it → IsOptional Spells plain values it
optional-there Spells plain it values text (inl left_out) spelled = rw left_out.1 left_out.0
optional-there Spells plain it values text (inr one) spelled = rw one spelled

-- an item that stands there once is told
once-there : {A : Type 0} (Spells : List ℕ → A → Type 0) (values : List (Option (List ℕ))) (text : List ℕ) (it : A)
    → values ≡ Some text ∷ [] → Spells text it → IsOnce Spells values it
once-there Spells values text it one spelled = rw one spelled

-- and read back
once-back : {A : Type 0} (Spells : List ℕ → A → Type 0) (values : List (Option (List ℕ))) (text : List ℕ) (it : A)
    → values ≡ Some text ∷ [] → IsOnce Spells values it → Spells text it
once-back Spells values text it one told = rw one at told

-- a number that is written is read back
number-back : (least most n other : ℕ) → most < 2 ^ 64 → n < 2 ^ 64 → SpellsNumber least most (decimal n) other → other ≡ n
number-back least most n other small fits spelled = sym (decimal_injective n other fits (omega (arith, spelled.2)) spelled.0)

-- the digits of a mask tell it
mask-value : (mask : ℕ) → mask < 2 ^ 16 → digits_value 16 (encode_lower (to_be_bytes w16 mask)) ≡ mask
mask-value mask fits = value-encode 0 (to_be_bytes w16 mask) (omega arith, (omega arith, tt)) ∙ omega arith

-- a mask that is written is told
mask-spelled : (mask : ℕ) → mask < 2 ^ 16 → SpellsMask (mask_text mask) mask
unfolding encode_with
mask-spelled mask fits = record {
  digits = encode_lower (to_be_bytes w16 mask);
  spelled = refl;
  each = list_all-encode (to_be_bytes w16 mask) (omega arith, (omega arith, tt));
  some = omega arith;
  few = omega arith;
  value = mask-value mask fits;
}

-- and read back
mask-back : (mask other : ℕ) → mask < 2 ^ 16 → SpellsMask (mask_text mask) other → other ≡ mask
mask-back mask other fits told =
    let same = append_cancel_left (codes "0x") (encode_lower (to_be_bytes w16 mask)) told.digits told.spelled in
    sym told.value ∙ ap (digits_value 16) (sym same) ∙ mask-value mask fits

-- the least count is 1 and left out, or stands there once
values-mincount : (mincount : ℕ) → ((mincount ≡ 1) × (values_of (codes "mincount") (mincount_items mincount) ≡ []))
    ⊎ (values_of (codes "mincount") (mincount_items mincount) ≡ Some (decimal mincount) ∷ [])
values-mincount mincount =
    elim (cases_eq mincount 1) [
      | inl same ↦ inl (same, rw same refl)
      | inr other ↦ inr (rw (ne_eqb mincount 1 other) refl)
    ]

-- so with a mask
values-mask : (word : List ℕ) (mask : ℕ) → ((mask ≡ 0) × (values_of word (mask_items word mask) ≡ []))
    ⊎ (values_of word (mask_items word mask) ≡ Some (mask_text mask) ∷ [])
values-mask word mask =
    elim (cases_eq mask 0) [
      | inl same ↦ inl (same, rw same refl)
      | inr other ↦ inr (rw (ne_eqb mask 0 other, same-name word) refl)
    ]

-- a limit is none, or stands there once
limit-there : (limit : Option ℕ) (values : List (Option (List ℕ))) → values ≡ values_of (codes "limit") (limit_items limit) → IsLimit limit
    → IsOptional SpellsLimit None values limit
limit-there None values is fits = rw is refl
limit-there (Some limit) values is fits = rw is (refl, fits.0, fits.1)

-- filters of the same three parts are one
filter-same : (one other : MruFilter) → one.mincount ≡ other.mincount → one.resall ≡ other.resall → one.resany ≡ other.resany → one ≡ other
filter-same one other mincount resall resany = λ i. record { mincount = mincount i; resall = resall i; resany = resany i }

-- which clients are asked for is told
clients-there : (nonce : List ℕ) (query : Query) (pairs : List Pair) → IsQuery query → AsksForClients (request_items nonce (read_of query pairs)) query.filter
clients-there nonce query pairs is = record {
  mincount = rw (request-mincount nonce query pairs)
      (optional-there (SpellsNumber 1 (2 ^ 32 - 1)) 1 query.filter.mincount _ (decimal query.filter.mincount) (values-mincount query.filter.mincount)
      (refl, is.mincount, omega (arith, is.mincount_fits)));
  resall = rw (request-resall nonce query pairs)
      (optional-there SpellsMask 0 query.filter.resall _ (mask_text query.filter.resall) (values-mask (codes "resall") query.filter.resall) (mask-spelled query.filter.resall is.resall));
  resany = rw (request-resany nonce query pairs)
      (optional-there SpellsMask 0 query.filter.resany _ (mask_text query.filter.resany) (values-mask (codes "resany") query.filter.resany) (mask-spelled query.filter.resany is.resany));
}

-- and read back
clients-back : (nonce : List ℕ) (query : Query) (pairs : List Pair) (filter : MruFilter) → IsQuery query
    → AsksForClients (request_items nonce (read_of query pairs)) filter → filter ≡ query.filter
clients-back nonce query pairs filter is asks =
    filter-same filter query.filter
    (optional-back (SpellsNumber 1 (2 ^ 32 - 1)) 1 query.filter.mincount filter.mincount _ (decimal query.filter.mincount) (values-mincount query.filter.mincount)
    (number-back 1 (2 ^ 32 - 1) query.filter.mincount filter.mincount (omega arith) (omega (arith, is.mincount_fits))) (rw (request-mincount nonce query pairs) at asks.mincount))
    (optional-back SpellsMask 0 query.filter.resall filter.resall _ (mask_text query.filter.resall) (values-mask (codes "resall") query.filter.resall)
    (mask-back query.filter.resall filter.resall is.resall) (rw (request-resall nonce query pairs) at asks.resall))
    (optional-back SpellsMask 0 query.filter.resany filter.resany _ (mask_text query.filter.resany) (values-mask (codes "resany") query.filter.resany)
    (mask-back query.filter.resany filter.resany is.resany) (rw (request-resany nonce query pairs) at asks.resany))

-- the page that is asked for is told
asked-there : (nonce : List ℕ) (query : Query) (pairs : List Pair) → IsQuery query → AsksFor (request_items nonce (read_of query pairs)) query
asked-there nonce query pairs is = record {
  nonce = (nonce, once-there (λ value it. value ≡ it) _ nonce nonce (request-nonce nonce query pairs) refl);
  limit = limit-there query.limit _ (request-limit nonce query pairs) is.limit;
  frags = rw (request-frags nonce query pairs) (refl, is.least, is.most);
  bounded = λ none. cc (sym none ∙ request-frags nonce query pairs);
  clients = clients-there nonce query pairs is;
}

-- items have under the numbers from here on what these pairs have
record AgreeFrom (items : List Item) (number : ℕ) (pairs : List Pair) : Type 0 where
  pub addr : (k : ℕ) → number ≤ k → k < 16 → values_of (numbered (codes "addr") k) items ≡ values_of (numbered (codes "addr") k) (pair_items number pairs)
  pub last : (k : ℕ) → number ≤ k → k < 16 → values_of (numbered (codes "last") k) items ≡ values_of (numbered (codes "last") k) (pair_items number pairs)

-- so from the next number on
agree-next : (items : List Item) (number : ℕ) (pair : Pair) (pairs : List Pair) → AgreeFrom items number (pair ∷ pairs) → AgreeFrom items (suc number) pairs
agree-next items number pair pairs agree = record {
  addr = λ k after before. agree.addr k (omega arith) before ∙ later-addr k number pair pairs (omega arith) (omega arith);
  last = λ k after before. agree.last k (omega arith) before ∙ later-last k number pair pairs (omega arith) (omega arith);
}

-- where there are no more pairs none is named
none-left : (items : List Item) (left number : ℕ) → AgreeFrom items number [] → number + left ≤ 16 → NamesNoneFrom items left number
none-left items zero number agree within = tt
none-left items (suc left) number agree within = (
  (agree.addr number (omega arith) (omega arith), agree.last number (omega arith) (omega arith)),
  none-left items left (suc number)
      (record { addr = λ k after before. agree.addr k (omega arith) before; last = λ k after before. agree.last k (omega arith) before }) (omega arith),
)

-- the first pair's address
agree-addr : (items : List Item) (number : ℕ) (pair : Pair) (pairs : List Pair) → AgreeFrom items number (pair ∷ pairs) → suc number + length pairs ≤ 16
    → values_of (numbered (codes "addr") number) items ≡ Some (text_of pair.addr) ∷ []
agree-addr items number pair pairs agree within = agree.addr number (omega arith) (omega arith) ∙ one-addr number pair pairs (omega arith)

-- and its time
agree-last : (items : List Item) (number : ℕ) (pair : Pair) (pairs : List Pair) → AgreeFrom items number (pair ∷ pairs) → suc number + length pairs ≤ 16
    → values_of (numbered (codes "last") number) items ≡ Some (stamp_text pair.last) ∷ []
agree-last items number pair pairs agree within = agree.last number (omega arith) (omega arith) ∙ one-last number pair pairs (omega arith)

-- a time as it stands in a request is one
told-fits : (origin stamp time : ℕ) → time ≡ told_time origin stamp → time < 2 ^ 64
told-fits origin stamp time is = omega arith

-- a pair is told
pair-there : (origin : ℕ) (items : List Item) (number : ℕ) (stamp pair : Pair) → values_of (numbered (codes "addr") number) items ≡ Some (text_of pair.addr) ∷ []
    → values_of (numbered (codes "last") number) items ≡ Some (stamp_text pair.last) ∷ [] → IsAddr pair.addr → pair.addr ≡ stamp.addr
    → pair.last ≡ told_time origin stamp.last → stamp.last < 2 ^ 64 → NamesPair origin items number stamp
pair-there origin items number stamp pair addr last is same told fits = (
  once-there (λ value it. IsAddr it × Spells value it) _ (text_of pair.addr) stamp.addr addr
      (subst (λ it. IsAddr it × Spells (text_of pair.addr) it) same (is, text_of-spells pair.addr is)),
  once-there (TellsStamp origin) _ (stamp_text pair.last) stamp.last last
      (fits, stamp_in-text pair.last (told-fits origin stamp.last pair.last told) ∙ ap Some told),
)

-- an address that is written is read back
addr-back : (addr other : Addr) → IsAddr addr → IsAddr other × Spells (text_of addr) other → addr ≡ other
addr-back addr other is spelled =
    let one = addr_in-text addr is in
    let two = addr_in_complete (text_of addr) other spelled.0 spelled.1 in
    cc (sym one ∙ two)

-- a time too
stamp-back : (origin time stamp : ℕ) → time < 2 ^ 64 → TellsStamp origin (stamp_text time) stamp → time ≡ told_time origin stamp
stamp-back origin time stamp fits told = let one = stamp_in-text time fits in cc (sym one ∙ told.1)

-- pairs are told
pairs-there : (origin : ℕ) (items : List Item) (left number : ℕ) (stamps pairs : List Pair) → AgreeFrom items number pairs → number + left ≡ 16
    → length pairs ≤ left → AllByRecursion (λ (pair : Pair). IsAddr pair.addr) pairs → ArePairsTold origin stamps pairs → NamesPairs origin items left number stamps
pairs-there origin items left number [] (pair ∷ pairs) agree all few are told = absurd told
pairs-there origin items left number (stamp ∷ stamps) [] agree all few are told = absurd told
pairs-there origin items zero number [] [] agree all few are told = refl
pairs-there origin items (suc left) number [] [] agree all few are told = none-left items (suc left) number agree (omega arith)
pairs-there origin items zero number (stamp ∷ stamps) (pair ∷ pairs) agree all few are told = absurd (omega (arith, few))
pairs-there origin items (suc left) number (stamp ∷ stamps) (pair ∷ pairs) agree all few are told = (
  pair-there origin items number stamp pair (agree-addr items number pair pairs agree (omega (arith, few))) (agree-last items number pair pairs agree (omega (arith, few)))
      are.0 told.0 told.1 told.2,
  pairs-there origin items left (suc number) stamps pairs (agree-next items number pair pairs agree) (omega arith) (omega (arith, few)) are.1 told.3,
)

-- a pair is read back
pair-back : (origin : ℕ) (items : List Item) (number : ℕ) (named pair : Pair) → values_of (numbered (codes "addr") number) items ≡ Some (text_of pair.addr) ∷ []
    → values_of (numbered (codes "last") number) items ≡ Some (stamp_text pair.last) ∷ [] → IsAddr pair.addr → pair.last < 2 ^ 64
    → NamesPair origin items number named → (pair.addr ≡ named.addr) × (pair.last ≡ told_time origin named.last) × (named.last < 2 ^ 64)
pair-back origin items number named pair addr last is fits told =
    let spelled = once-back (λ value it. IsAddr it × Spells value it) _ (text_of pair.addr) named.addr addr told.0 in
    let stamp = once-back (TellsStamp origin) _ (stamp_text pair.last) named.last last told.1 in
    (addr-back pair.addr named.addr is spelled, stamp-back origin pair.last named.last fits stamp, stamp.0)

-- pairs are read back
pairs-back : (origin : ℕ) (items : List Item) (left number : ℕ) (stamps named pairs : List Pair) → AgreeFrom items number pairs → number + left ≡ 16
    → length pairs ≤ left → AllByRecursion (λ (pair : Pair). IsAddr pair.addr) pairs → ArePairsTold origin stamps pairs → NamesPairs origin items left number named
    → ArePairsTold origin named pairs
pairs-back origin items left number [] named (pair ∷ pairs) agree all few are told names = absurd told
pairs-back origin items left number (stamp ∷ stamps) named [] agree all few are told names = absurd told
pairs-back origin items zero number [] named [] agree all few are told names = rw names tt
pairs-back origin items zero number (stamp ∷ stamps) named (pair ∷ pairs) agree all few are told names = absurd (omega (arith, few))
pairs-back origin items (suc left) number [] [] [] agree all few are told names = tt
pairs-back origin items (suc left) number [] (first ∷ named) [] agree all few are told names =
    rw (agree.addr number (omega arith) (omega arith)) at names.0.0
pairs-back origin items (suc left) number (stamp ∷ stamps) [] (pair ∷ pairs) agree all few are told names =
    absurd (cc (sym names.0.0 ∙ agree-addr items number pair pairs agree (omega (arith, few))))
pairs-back origin items (suc left) number (stamp ∷ stamps) (first ∷ named) (pair ∷ pairs) agree all few are told names =
    let one = pair-back origin items number first pair (agree-addr items number pair pairs agree (omega (arith, few)))
    (agree-last items number pair pairs agree (omega (arith, few))) are.0 (told-fits origin stamp.last pair.last told.1) names.0 in
    (one.0, one.1, one.2, pairs-back origin items left (suc number) stamps named pairs (agree-next items number pair pairs agree) (omega arith) (omega (arith, few)) are.1 told.3 names.1)

-- the items of a request have under the numbers of pairs what its pairs have
agree-request : (nonce : List ℕ) (query : Query) (pairs : List Pair) → AgreeFrom (request_items nonce (read_of query pairs)) 0 pairs
agree-request nonce query pairs = record {
  addr = λ k after before. request-addr k nonce query pairs;
  last = λ k after before. request-last k nonce query pairs;
}

-- as many are told
pub told-length : (origin : ℕ) (pairs told : List Pair) → ArePairsTold origin pairs told → length told ≡ length pairs
told-length origin [] [] are = refl
told-length origin [] (t ∷ ts) are = absurd are
told-length origin (pair ∷ pairs) [] are = absurd are
told-length origin (pair ∷ pairs) (t ∷ ts) are = let rest = told-length origin pairs ts are.3 in omega (arith, rest)

-- and they have addresses
pub told-addresses : (origin : ℕ) (pairs told : List Pair) → ArePairs pairs → ArePairsTold origin pairs told → AllByRecursion (λ (pair : Pair). IsAddr pair.addr) told
told-addresses origin [] [] is are = tt
told-addresses origin [] (t ∷ ts) is are = absurd are
told-addresses origin (pair ∷ pairs) [] is are = absurd are
told-addresses origin (pair ∷ pairs) (t ∷ ts) is are = (rw are.0 is.0.0, told-addresses origin pairs ts is.1 are.3)

-- the items of a request ask for the read that they were written for
pub request_told : (nonce : List ℕ) (query : Query) (stamps pairs : List Pair) (origin : ℕ) → IsQuery query
    → AllByRecursion (λ (pair : Pair). IsAddr pair.addr) pairs → ArePairsTold origin stamps pairs → length pairs ≤ MAX_PAIRS
    → IsReadOf (request_items nonce (read_of query pairs)) origin (read_of query stamps)
request_told nonce query stamps pairs origin is are told few = record {
  asks = asked-there nonce query pairs is;
  pairs = pairs-there origin (request_items nonce (read_of query pairs)) 16 0 stamps pairs (agree-request nonce query pairs) refl few are told;
}

-- a text that was written for a read asks for it alone, wherever the server's clocks begin
pub request_alone : (nonce : List ℕ) (query : Query) (stamps pairs : List Pair) (origin : ℕ) (items : List Item) (read : ReadRequest)
    → length nonce ≡ NONCE_OCTETS → AllByRecursion (λ digit. Contains lower_digits digit) nonce → IsQuery query
    → AllByRecursion (λ (pair : Pair). IsAddr pair.addr) pairs → ArePairsTold origin stamps pairs → length pairs ≤ MAX_PAIRS
    → IsItemText (request_text nonce (read_of query pairs)) items → IsReadOf items origin read
    → (read.filter ≡ query.filter) × ArePairsTold origin read.pairs pairs
unfolding request_text
request_alone nonce query stamps pairs origin items read long digits is are told few text reads =
    let written = request_items nonce (read_of query pairs) in
    let joined = IsItemText-joined written (good-writable written (good-request nonce query pairs long digits is few are)) in
    let same = IsItemText-one (request_text nonce (read_of query pairs)) items written text joined in
    let of_written : IsReadOf written origin read = subst (λ (them : List Item). IsReadOf them origin read) same reads in (
      clients-back nonce query pairs read.filter is of_written.asks.clients,
      pairs-back origin written 16 0 stamps read.pairs pairs (agree-request nonce query pairs) refl few are told of_written.pairs,
    )

-- and so with an origin that is a timestamp
pub request_read : (nonce : List ℕ) (query : Query) (stamps pairs : List Pair) (origin : ℕ) (items : List Item) (read : ReadRequest)
    → length nonce ≡ NONCE_OCTETS → AllByRecursion (λ digit. Contains lower_digits digit) nonce → IsQuery query → origin < 2 ^ 64
    → AllByRecursion (λ pair. IsAddr pair.addr) pairs → ArePairsTold origin stamps pairs → length pairs ≤ MAX_PAIRS
    → IsItemText (request_text nonce (read_of query pairs)) items → IsReadOf items origin read
    → (read.filter ≡ query.filter) × ArePairsTold origin read.pairs pairs
request_read nonce query stamps pairs origin items read long digits is fits are told few text reads =
    request_alone nonce query stamps pairs origin items read long digits is are told few text reads
