-- Four pairs fit into the body of a read, whatever else it asks for.
use Rattle.std.proofs.Common.{ap, ◌≡◌, ℕ, zero, suc, ◌+◌, ◌*◌, ◌/◌, ◌%◌, ◌<◌, ◌≤◌, ◌^◌, nat_le, nat_lt, Bool, true, inl, inr, Option, Some, None, List, [], ◌∷◌, ◌++◌, length, take, drop, min, decimal, refl, sym, ◌∙◌, arith, le_refl, length-append, Contains, subst}
use Rattle.std.specs.Char.{digit_char}
use Rattle.std.specs.List.{AllByRecursion, flat_map, sum_by}
use Rattle.std.specs.Net.Addr.{segments_of}
use Rattle.std.specs.Net.Text.{compressed_text, groups_text, hex, hex_groups_text, leading_zero_digits, longest_zero_run}
use Rattle.std.specs.Prelude.{codes, slice_index}
use Rattle.std.proofs.lemmas.Bool.{both_ways, cases_Bool, cases_eq, le-leb, leb-true, ltb-true}
use Rattle.std.proofs.lemmas.Fmt.{length-decimal-le}
use Rattle.std.proofs.lemmas.List.{length-drop, length-take}
use Rattle.std.proofs.lemmas.List.Sums.{sum_by-append}
use Rattle.std.proofs.lemmas.Grind.{get_or_default_zero}
use Rattle.hex.specs.Hex.{lower_digits}
use Rattle.mode6_frame.specs.Cuts.{width_of}
use Rattle.mode6_frame.specs.Items.{AreNameOctets, is_name_octet}
use Rattle.mode6_frame.specs.declared.message.TheConstants.{MAX_BODY}
use Rattle.net_addr.specs.declared.addr.Addr.{Addr}
use Rattle.net_addr.specs.declared.addr.Ip.{Ip}
use Rattle.net_addr.specs.declared.addr.Ip.TheVariants.{V4, V6}
use Rattle.net_addr.specs.Spelling.{IsAddr, IsIp, before_port, ip_text, text_of}
use Rattle.mru_items.specs.Queries.{ArePairs, IsLimit, IsQuery, greatest, limit_items, mask_items, mincount_items, named_count, named_of, pair_items, read_of, request_len, request_text}
use Rattle.mru_items.specs.declared.pair.Pair.{Pair}
use Rattle.mru_items.specs.declared.pair.TheConstants.{MAX_PAIRS}
use Rattle.mru_items.specs.declared.query.Query.{Query}
use Rattle.mru_items.proofs.TextLemmas.{below, hex_digit-name}
use Rattle.mru_items.proofs.LenLemmas.{body-len, request_len-head, request_len-is, request_len-pairs, width-limit, width-mask, width-mincount, width-pair}

-- the digits of a group are four at most
pub length-hex : (n : ℕ) → length (hex n) ≤ 4
unfolding hex
length-hex n =
    omega (arith, length-drop (leading_zero_digits n) (digit_char (n / 0x1000) ∷ digit_char (n / 0x100 % 16) ∷ digit_char (n / 0x10 % 16) ∷ digit_char (n % 16) ∷ []))

-- groups behind colons
length-colons : (groups : List ℕ) → length (flat_map (λ t. codes ":" ++ hex t) groups) ≤ 5 * length groups
length-colons [] = omega arith
length-colons (group ∷ groups) =
    let rest = length-colons groups in
    omega (arith, rest, length-hex group, length-append (codes ":" ++ hex group) (flat_map (λ t. codes ":" ++ hex t) groups))

-- groups with colons between
length-groups : (groups : List ℕ) → length (groups_text groups) ≤ 5 * length groups
length-groups [] = omega arith
length-groups (group ∷ groups) =
    omega (arith, length-colons groups, length-hex group, length-append (hex group) (flat_map (λ t. codes ":" ++ hex t) groups))

-- eight groups, of which a run may be left out
length-compressed : (groups : List ℕ) (run : ℕ × ℕ) → length groups ≡ 8 → length (compressed_text groups run) ≤ 42
length-compressed groups run eight =
    let front = take run.0 groups in
    let back = drop (run.0 + run.1) groups in
    elim (cases_Bool (nat_lt 1 run.1)) [
      | inl long ↦
          let big = ltb-true 1 run.1 long in
          rw long
          (omega (
            arith,
            big,
            eight,
            length-groups front,
            length-groups back,
            length-take run.0 groups,
            length-drop (run.0 + run.1) groups,
            length-append (groups_text front ++ codes "::") (groups_text back),
            length-append (groups_text front) (codes "::"),
          ))
      | inr short ↦ rw short (omega (arith, eight, length-groups groups))
    ]

-- an octet has three decimal digits at most
octet-len : (n : ℕ) → n < 2 ^ 8 → length (decimal n) ≤ 3
octet-len n fits = length-decimal-le 3 n (omega arith) (omega arith) (omega arith)

-- two octets are a group
length-segments : (octets : List ℕ) (n : ℕ) → length octets ≡ 2 * n → length (segments_of octets) ≡ n
length-segments [] n is = omega (arith, is)
length-segments (a ∷ []) n is = absurd (omega (arith, is))
length-segments (a ∷ b ∷ octets) zero is = absurd (omega (arith, is))
length-segments (a ∷ b ∷ octets) (suc n) is = let rest = length-segments octets n (omega (arith, is)) in omega (arith, rest)

-- the text of an IP address before a port
length-host : (ip : Ip) → IsIp ip → length (before_port ip (ip_text ip)) ≤ 44
unfolding ip_text hex_groups_text
length-host (V4 octets) is =
    let a = octet-len (slice_index octets 0) (below octets is.1 0) in
    let b = octet-len (slice_index octets 1) (below octets is.1 1) in
    let c = octet-len (slice_index octets 2) (below octets is.1 2) in
    let d = octet-len (slice_index octets 3) (below octets is.1 3) in
    simp length-append (omega (arith, a, b, c, d))
length-host (V6 octets) is =
    let segments = segments_of octets in
    let groups = length-compressed segments (longest_zero_run segments) (length-segments octets 8 is.0) in
    let text = compressed_text segments (longest_zero_run segments) in
    omega (arith, groups, length-append (codes "[" ++ text) (codes "]"), length-append (codes "[") text)

-- the text of an address
pub length-text_of : (addr : Addr) → IsAddr addr → length (text_of addr) ≤ 50
unfolding text_of
length-text_of addr is =
    let host = before_port addr.ip (ip_text addr.ip) in
    let port = length-decimal-le 5 addr.port (omega arith) (omega (arith, is.port)) (omega (arith, is.port)) in
    omega (arith, port, length-host addr.ip is.ip, length-append (host ++ codes ":") (decimal addr.port), length-append host (codes ":"))

-- the octets of a pair, of the first ten
pub width-of_pair : (number : ℕ) (pair : Pair) → number < 10 → IsAddr pair.addr → sum_by width_of (pair_items number (pair ∷ [])) ≤ 87
width-of_pair number pair small is =
    let digits = length-decimal-le 1 number (omega arith) (omega arith) (omega arith) in
    let text = length-text_of pair.addr is in
    let width = width-pair number pair is in
    omega (arith, digits, text, width)

-- and of pairs
width-of_pairs : (number : ℕ) (pairs : List Pair) → number + length pairs ≤ 10 → ArePairs pairs → sum_by width_of (pair_items number pairs) ≤ 87 * length pairs
width-of_pairs number [] few are = omega arith
width-of_pairs number (pair ∷ pairs) few are =
    let first = width-of_pair number pair (omega (arith, few)) are.0.0 in
    let rest = width-of_pairs (suc number) pairs (omega (arith, few)) are.1 in
    let both = sum_by-append width_of (pair_items number (pair ∷ [])) (pair_items (suc number) pairs) in
    omega (arith, first, rest, both)

-- the item of a limit
limit-most : (limit : Option ℕ) → IsLimit limit → sum_by width_of (limit_items limit) ≤ 11
limit-most None is = omega arith
limit-most (Some limit) is =
    let digits = length-decimal-le 3 limit (omega arith) (omega (arith, is.1)) (omega (arith, is.1)) in
    omega (arith, digits, width-limit limit (omega (arith, is.1)))

-- that of a least count
mincount-most : (mincount : ℕ) → mincount < 2 ^ 32 → sum_by width_of (mincount_items mincount) ≤ 21
mincount-most mincount fits =
    elim (cases_eq mincount 1) [
      | inl same ↦ rw same (omega arith)
      | inr other ↦
          let digits = length-decimal-le 10 mincount (omega arith) (omega arith) (omega arith) in
          omega (arith, digits, width-mincount mincount (omega arith) other)
    ]

-- that of a mask
mask-most : (name : List ℕ) (mask : ℕ) → length name ≡ 6 → sum_by width_of (mask_items name mask) ≤ 15
mask-most name mask six =
    elim (cases_eq mask 0) [
      | inl same ↦ rw same (omega arith)
      | inr other ↦ omega (arith, width-mask name mask six other)
    ]

-- the body of a read that names no pairs
pub head-most : (query : Query) → IsQuery query → request_len (read_of query []) ≤ 103
head-most query is =
    let head = request_len-head query (omega (arith, is.most)) in
    let digits = length-decimal-le 3 query.frags (omega arith) (omega (arith, is.most)) (omega (arith, is.most)) in
    let limit = limit-most query.limit is.limit in
    let mincount = mincount-most query.filter.mincount is.mincount_fits in
    let resall = mask-most (codes "resall") query.filter.resall refl in
    let resany = mask-most (codes "resany") query.filter.resany refl in
    omega (arith, head, digits, limit, mincount, resall, resany)

-- the greatest number that passes is no less than one that does
greatest-least : (passes : ℕ → Bool) (bound count : ℕ) → count ≤ bound → passes count ≡ true → count ≤ greatest passes bound
greatest-least passes zero count within holds = omega arith
greatest-least passes (suc bound) count within holds =
    elim (cases_Bool (passes (suc bound))) [
      | inl passed ↦ rw passed within
      | inr failed ↦
          let other : ¬ (count ≡ suc bound) = λ same. both_ways _ failed (rw same at holds) in
          rw failed (greatest-least passes bound count (omega (arith, other)) holds)
    ]

-- it is within the bound
greatest-within : (passes : ℕ → Bool) (bound : ℕ) → greatest passes bound ≤ bound
greatest-within passes zero = omega arith
greatest-within passes (suc bound) =
    elim (cases_Bool (passes (suc bound))) [
      | inl passed ↦ rw passed (le_refl (suc bound))
      | inr failed ↦ rw failed (let within = greatest-within passes bound in omega (arith, within))
    ]

-- and passes, where none does
greatest-passes : (passes : ℕ → Bool) (bound : ℕ) → passes 0 ≡ true → passes (greatest passes bound) ≡ true
greatest-passes passes zero none = none
greatest-passes passes (suc bound) none =
    elim (cases_Bool (passes (suc bound))) [
      | inl passed ↦ rw (passed, passed) refl
      | inr failed ↦ rw failed (greatest-passes passes bound none)
    ]

-- fewer pairs are pairs
are-take : (n : ℕ) (pairs : List Pair) → ArePairs pairs → ArePairs (take n pairs)
are-take zero pairs are = tt
are-take (suc n) [] are = tt
are-take (suc n) (pair ∷ pairs) are = (are.0, are-take n pairs are.1)

-- four pairs fit
four-fit : (query : Query) (pairs : List Pair) (count : ℕ) → IsQuery query → ArePairs pairs → count ≤ 4 → count ≤ length pairs
    → nat_le (request_len (read_of query (take count pairs))) MAX_BODY ≡ true
four-fit query pairs count is are few within =
    let all = request_len-pairs query (take count pairs) in
    let head = head-most query is in
    let long = length-take count pairs in
    let widths = width-of_pairs 0 (take count pairs) (omega (arith, long)) (are-take count pairs are) in
    le-leb (request_len (read_of query (take count pairs))) MAX_BODY (omega (arith, all, head, long, widths))

-- so a read names four of them
pub four-named : (query : Query) (pairs : List Pair) → IsQuery query → ArePairs pairs → min 4 (length pairs) ≤ length (named_of query pairs)
unfolding named_count
four-named query pairs is are =
    let passes = λ (k : ℕ). nat_le (request_len (read_of query (take k pairs))) MAX_BODY in
    let bound = min MAX_PAIRS (length pairs) in
    let least = greatest-least passes bound (min 4 (length pairs)) (omega arith) (four-fit query pairs (min 4 (length pairs)) is are (omega arith) (omega arith)) in
    let within = greatest-within passes bound in
    omega (arith, least, within, length-take (greatest passes bound) pairs)

-- and those that it names fit
pub named-fit : (query : Query) (pairs : List Pair) → IsQuery query → ArePairs pairs → request_len (read_of query (named_of query pairs)) ≤ MAX_BODY
unfolding named_count
named-fit query pairs is are =
    let passes = λ (k : ℕ). nat_le (request_len (read_of query (take k pairs))) MAX_BODY in
    leb-true _ _ (greatest-passes passes (min MAX_PAIRS (length pairs)) (four-fit query pairs 0 is are (omega arith) (omega arith)))

-- a hexadecimal digit is an octet of a name
digit-name : (octet : ℕ) → Contains lower_digits octet → is_name_octet octet ≡ true
digit-name octet is =
    let same = get_or_default_zero lower_digits is.0 octet is.1 in
    subst (λ o. is_name_octet o ≡ true) (sym same ∙ is.2) (hex_digit-name is.0 is.1)

-- so digits are
pub digits-names : (digits : List ℕ) → AllByRecursion (Contains lower_digits) digits → AreNameOctets digits
digits-names [] are = tt
digits-names (digit ∷ digits) are = (digit-name digit are.0, digits-names digits are.1)

-- the body of a read does not depend on the digits of its nonce
pub body-fits : (query : Query) (nonce : List ℕ) (pairs : List Pair) → AllByRecursion (Contains lower_digits) nonce → length nonce ≡ 24
    → length (request_text nonce (read_of query pairs)) ≡ request_len (read_of query pairs)
body-fits query nonce pairs are long = body-len nonce query pairs (digits-names nonce are) long ∙ sym (request_len-is query pairs)

-- the body of a read whose nonce stands without quotes
pub text_len : (text nonce : List ℕ) (query : Query) (pairs : List Pair) → length nonce ≡ 24 → text ≡ request_text nonce (read_of query pairs)
    → AreNameOctets nonce → length text ≡ request_len (read_of query pairs)
text_len text nonce query pairs long is are = ap length is ∙ body-len nonce query pairs are long ∙ sym (request_len-is query pairs)
