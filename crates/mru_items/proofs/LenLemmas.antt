-- How many octets the body of a read has.
use Rattle.std.proofs.Common.{◌≡◌, ℕ, zero, suc, ◌+◌, ◌-◌, ◌*◌, ◌<◌, ◌≤◌, ◌^◌, nat_le, Bool, true, false, Some, List, [], ◌∷◌, ◌++◌, length, take, get_or, decimal, replicate, refl, sym, ap, ◌∙◌, inl, inr, arith, add-one, le_refl, length-append, min}
use Rattle.std.specs.Prelude.{codes}
use Rattle.std.specs.List.{flat_map}
use Rattle.std.specs.List.{join_by, sum_by}
use Rattle.std.proofs.lemmas.Bool.{cases_eq, le-leb, lt-leb, ne_eqb}
use Rattle.std.proofs.lemmas.List.Sums.{sum_by-append}
use Rattle.mode6_frame.proofs.CutLemmas.{length-widths}
use Rattle.mode6_frame.specs.Cuts.{width_of}
use Rattle.mode6_frame.specs.Items.{AreNameOctets}
use Rattle.mode6_frame.specs.ItemTexts.{item_text}
use Rattle.mode6_frame.specs.Stamps.{stamp_text}
use Rattle.mode6_frame.specs.declared.items.Item.{Item}
use Rattle.net_addr.specs.Spelling.{IsAddr, text_of}
use Rattle.mru_items.specs.Names.{numbered, valued}
use Rattle.mru_items.specs.Queries.{greatest, limit_items, mask_items, mincount_items, named_count, named_of, pair_items, read_of, request_items, request_len, request_text}
use Rattle.mru_items.specs.Values.{mask_text}
use Rattle.mode6_frame.specs.declared.message.TheConstants.{MAX_BODY}
use Rattle.net_addr.specs.declared.addr.Ip.TheVariants.{V4}
use Rattle.mru_items.specs.declared.pair.Pair.{Pair}
use Rattle.mru_items.specs.declared.pair.TheConstants.{MAX_PAIRS}
use Rattle.mru_items.specs.declared.query.Query.{Query}
use Rattle.mru_items.proofs.TextLemmas.{addr-names, decimal-names, item_text-plain, length-mask_text, length-stamp_text, mask-names, stamp-names}

-- a pair for a place past the last
abbrev pub no_pair : Pair
no_pair = record { addr = record { ip = V4 []; port = 0 }; last = 0 }

-- a plain item adds its name, its value, and three octets
pub width-plain : (name value : List ℕ) → AreNameOctets value → width_of (valued name value) ≡ 3 + length name + length value
width-plain name value are =
    let text = ap length (item_text-plain name value are) in
    omega (arith, text, length-append name (codes "=" ++ value))

-- the octets of a name that ends in a number
pub length-numbered : (word : List ℕ) (number : ℕ) → length (numbered word number) ≡ length word + 1 + length (decimal number)
length-numbered word number = omega (arith, length-append (word ++ codes ".") (decimal number), length-append word (codes "."))

-- the item of a limit
pub width-limit : (limit : ℕ) → limit < 2 ^ 64 → sum_by width_of (limit_items (Some limit)) ≡ 8 + length (decimal limit)
width-limit limit fits = let plain = width-plain (codes "limit") (decimal limit) (decimal-names limit fits) in omega (arith, plain)

-- the item of a least count
pub width-mincount : (mincount : ℕ) → mincount < 2 ^ 64 → ¬ (mincount ≡ 1) → sum_by width_of (mincount_items mincount) ≡ 11 + length (decimal mincount)
width-mincount mincount fits other =
    let plain = width-plain (codes "mincount") (decimal mincount) (decimal-names mincount fits) in
    rw (ne_eqb mincount 1 other) (omega (arith, plain))

-- the item of a mask
pub width-mask : (name : List ℕ) (mask : ℕ) → length name ≡ 6 → ¬ (mask ≡ 0) → sum_by width_of (mask_items name mask) ≡ 15
width-mask name mask six other =
    let plain = width-plain name (mask_text mask) (mask-names mask) in
    let text = length-mask_text mask in
    rw (ne_eqb mask 0 other) (omega (arith, plain, text))

-- the items of a pair
pub width-pair : (number : ℕ) (pair : Pair) → IsAddr pair.addr
    → sum_by width_of (pair_items number (pair ∷ [])) ≡ 35 + 2 * length (decimal number) + length (text_of pair.addr)
width-pair number pair is =
    let addr = width-plain (numbered (codes "addr") number) (text_of pair.addr) (addr-names pair.addr is) in
    let last = width-plain (numbered (codes "last") number) (stamp_text pair.last) (stamp-names pair.last) in
    omega (arith, addr, last, length-stamp_text pair.last, length-numbered (codes "addr") number, length-numbered (codes "last") number)

-- digits of a nonce
zeros-names : (n : ℕ) → AreNameOctets (replicate n 48)
zeros-names zero = tt
zeros-names (suc n) = (refl, zeros-names n)

-- items with a comma and a space between two
joined-len : (first : Item) (rest : List Item) → length (join_by item_text (codes ", ") (first ∷ rest)) ≡ length (item_text first) + sum_by width_of rest
joined-len first rest =
    length-append (item_text first) (flat_map (λ item. codes ", " ++ item_text item) rest)
    ∙ ap (λ width. length (item_text first) + width) (length-widths rest)

-- the items behind the nonce, but for those of pairs
abbrev pub rest_items : Query → List Item
rest_items query =
    (valued (codes "frags") (decimal query.frags) ∷ []) ++ limit_items query.limit ++ mincount_items query.filter.mincount
    ++ mask_items (codes "resall") query.filter.resall ++ mask_items (codes "resany") query.filter.resany

-- the body of a read
pub body-len : (nonce : List ℕ) (query : Query) (pairs : List Pair) → AreNameOctets nonce → length nonce ≡ 24
    → length (request_text nonce (read_of query pairs)) ≡ 30 + sum_by width_of (rest_items query) + sum_by width_of (pair_items 0 pairs)
unfolding request_text request_items
body-len nonce query pairs are long =
    let first = width-plain (codes "nonce") nonce are in
    let joined = joined-len (valued (codes "nonce") nonce) (rest_items query ++ pair_items 0 pairs) in
    joined ∙ omega (arith, first, long, sum_by-append width_of (rest_items query) (pair_items 0 pairs))

-- whatever its nonce
pub request_len-is : (query : Query) (pairs : List Pair)
    → request_len (read_of query pairs) ≡ 30 + sum_by width_of (rest_items query) + sum_by width_of (pair_items 0 pairs)
request_len-is query pairs = body-len (replicate 24 48) query pairs (zeros-names 24) refl

-- pairs add their items
pub request_len-pairs : (query : Query) (pairs : List Pair)
    → request_len (read_of query pairs) ≡ request_len (read_of query []) + sum_by width_of (pair_items 0 pairs)
request_len-pairs query pairs =
    let all = request_len-is query pairs in
    let none = request_len-is query [] in
    all ∙ omega (arith, none)

-- the items before the pairs
pub request_len-head : (query : Query) → query.frags < 2 ^ 64
    → request_len (read_of query [])
    ≡ 38 + length (decimal query.frags) + sum_by width_of (limit_items query.limit) + sum_by width_of (mincount_items query.filter.mincount)
    + sum_by width_of (mask_items (codes "resall") query.filter.resall) + sum_by width_of (mask_items (codes "resany") query.filter.resany)
request_len-head query fits =
    let frags = valued (codes "frags") (decimal query.frags) in
    let limit = limit_items query.limit in
    let mincount = mincount_items query.filter.mincount in
    let resall = mask_items (codes "resall") query.filter.resall in
    let resany = mask_items (codes "resany") query.filter.resany in
    let plain = width-plain (codes "frags") (decimal query.frags) (decimal-names query.frags fits) in
    let e1 = sum_by-append width_of (frags ∷ []) limit in
    let e2 = sum_by-append width_of ((frags ∷ []) ++ limit) mincount in
    let e3 = sum_by-append width_of ((frags ∷ []) ++ limit ++ mincount) resall in
    let e4 = sum_by-append width_of ((frags ∷ []) ++ limit ++ mincount ++ resall) resany in
    request_len-is query [] ∙ omega (arith, plain, e1, e2, e3, e4)

-- the first pairs, and one more
pub pair_items-more : (pairs : List Pair) (number count place : ℕ) (d : Pair) → count < length pairs → place ≡ number + count
    → pair_items number (take (suc count) pairs) ≡ pair_items number (take count pairs) ++ pair_items place (get_or pairs count d ∷ [])
pair_items-more [] number count place d within is = absurd (omega (arith, within))
pair_items-more (pair ∷ pairs) number zero place d within is = let same : place ≡ number = omega arith in rw same refl
pair_items-more (pair ∷ pairs) number (suc count) place d within is =
    let rest = pair_items-more pairs (suc number) count place d (omega arith) (omega arith) in
    ap (λ items. valued (numbered (codes "addr") number) (text_of pair.addr) ∷ valued (numbered (codes "last") number) (stamp_text pair.last) ∷ items) rest

-- the body with one pair more
pub request_len-more : (query : Query) (pairs : List Pair) (count : ℕ) (d : Pair) → count < length pairs
    → request_len (read_of query (take (suc count) pairs))
    ≡ request_len (read_of query (take count pairs)) + sum_by width_of (pair_items count (get_or pairs count d ∷ []))
request_len-more query pairs count d within =
    let longer = request_len-is query (take (suc count) pairs) in
    let shorter = request_len-is query (take count pairs) in
    let items = ap (sum_by width_of) (pair_items-more pairs 0 count count d within (omega arith)) in
    let both = sum_by-append width_of (pair_items 0 (take count pairs)) (pair_items count (get_or pairs count d ∷ [])) in
    longer ∙ omega (arith, shorter, items ∙ both)

-- the room that is left behind one pair more
pub room-more : (query : Query) (pairs : List Pair) (count room needed : ℕ) (pair : Pair) → count < length pairs → pair ≡ get_or pairs count pair
    → needed ≡ sum_by width_of (pair_items count (pair ∷ [])) → room + request_len (read_of query (take count pairs)) ≡ MAX_BODY
    → (needed ≤ room → (room - needed) + request_len (read_of query (take (count + 1) pairs)) ≡ MAX_BODY)
    × (room < needed → MAX_BODY < request_len (read_of query (take (count + 1) pairs)))
room-more query pairs count room needed pair within is needed_is room_is =
    let more = request_len-more query pairs count pair within in
    let same = ap (λ it. sum_by width_of (pair_items count (it ∷ []))) is in
    let total = more ∙ ap (λ width. request_len (read_of query (take count pairs)) + width) (sym same ∙ sym needed_is) in
    (λ fits. rw (add-one, total) (omega (arith, fits, room_is)), λ over. rw (add-one, total) (omega (arith, over, room_is)))

-- fewer pairs have no longer a body
pub request_len-fewer : (query : Query) (pairs : List Pair) (fewer more : ℕ) → fewer ≤ more → more ≤ length pairs
    → request_len (read_of query (take fewer pairs)) ≤ request_len (read_of query (take more pairs))
request_len-fewer query pairs fewer zero few within = let none : fewer ≡ 0 = omega arith in rw none (le_refl (request_len (read_of query [])))
request_len-fewer query pairs fewer (suc more) few within =
    elim (cases_eq fewer (suc more)) [
      | inl same ↦ rw same (le_refl (request_len (read_of query (take (suc more) pairs))))
      | inr other ↦
          let before = request_len-fewer query pairs fewer more (omega (arith, other)) (omega arith) in
          let step = request_len-more query pairs more (get_or pairs more no_pair) (omega arith) in
          omega (arith, before, step)
    ]

-- the greatest number that passes a test
pub greatest-is : (passes : ℕ → Bool) (bound count : ℕ) → count ≤ bound → (0 < count → passes count ≡ true)
    → ((k : ℕ) → count < k → k ≤ bound → passes k ≡ false) → greatest passes bound ≡ count
greatest-is passes zero count within holds fails = omega arith
greatest-is passes (suc bound) count within holds fails =
    elim (cases_eq count (suc bound)) [
      | inl same ↦ let passed = rw same at (holds (omega arith)) in rw passed (sym same)
      | inr other ↦
          rw (fails (suc bound) (omega (arith, other)) (omega arith))
          (greatest-is passes bound count (omega (arith, other)) holds (λ k above below. fails k above (omega arith)))
    ]

-- pairs as many as fit, of which one more would not, are those that are named
pub named-is : (query : Query) (pairs : List Pair) (count : ℕ) → count ≤ min MAX_PAIRS (length pairs)
    → request_len (read_of query (take count pairs)) ≤ MAX_BODY
    → (count < min MAX_PAIRS (length pairs) → MAX_BODY < request_len (read_of query (take (count + 1) pairs)))
    → take count pairs ≡ named_of query pairs
unfolding named_count
named-is query pairs count within fits full =
    let passes = λ (k : ℕ). nat_le (request_len (read_of query (take k pairs))) MAX_BODY in
    let greatest_is = greatest-is passes (min MAX_PAIRS (length pairs)) count within
    (λ _. le-leb (request_len (read_of query (take count pairs))) MAX_BODY fits)
    (λ k above below.
    let more = request_len-fewer query pairs (count + 1) k (omega arith) (omega arith) in
    let past = full (omega arith) in
    lt-leb (request_len (read_of query (take k pairs))) MAX_BODY (omega (arith, more, past))) in
    ap (λ k. take k pairs) (sym greatest_is)
