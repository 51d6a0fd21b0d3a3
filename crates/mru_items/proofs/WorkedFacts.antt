-- Worked reads: what a request has room for, the items of a page with one client, and forms that are none (our own rules); and
-- the constants by their numbers.
use Rattle.std.proofs.Common.{◌≡◌, ℕ, ◌+◌, ◌*◌, ◌^◌, Some, None, [], ◌∷◌, replicate, codes, refl}
use Rattle.std.specs.List.{join_by}
use Rattle.std.specs.Net.Text.{hex, ipv4_text}
use Rattle.std.specs.Fmt.{digits}
use Rattle.hex.specs.Hex.{encode_with}
use Rattle.mode6_frame.specs.ItemTexts.{item_text}
use Rattle.mode6_frame.specs.Stamps.{stamp_text}
use Rattle.mru_items.specs.declared.answer.TheConstants.{NONCE_OCTETS}
use Rattle.mru_items.specs.declared.pair.Pair.{Pair}
use Rattle.mru_items.specs.declared.pair.TheConstants.{MAX_PAIRS}
use Rattle.mru_items.specs.declared.query.Query.{Query}
use Rattle.mru_items.specs.declared.query.TheConstants.{MAX_FRAGS, MAX_LIMIT}
use Rattle.mru_items.specs.Answers.{answer_items, nonce_value}
use Rattle.mru_items.specs.Queries.{named_count, read_of, request_items, request_len, request_text}
use Rattle.mru_items.specs.Values.{number_in}
use Rattle.net_addr.specs.declared.addr.Ip.TheVariants.{V4}
use Rattle.net_addr.specs.Spelling.{ip_text, text_of}

constants-are : MAX_PAIRS ∷ MAX_LIMIT ∷ MAX_FRAGS ∷ NONCE_OCTETS ∷ [] ≡ 16 ∷ 256 ∷ 128 ∷ 24 ∷ []
constants-are = refl

-- one second after the origin of Unix time
abbrev second : ℕ
second = 0x83aa7e81 * 2 ^ 32

-- the client 10.0.0.1:123
abbrev client : Pair
client = record { addr = record { ip = V4 (10 ∷ 0 ∷ 0 ∷ 1 ∷ []); port = 123 }; last = second }

-- `limit=256 frags=128`
abbrev query : Query
query = record { filter = record { mincount = 1; resall = 0; resany = 0 }; limit = Some 256; frags = 128 }

-- its items but those of pairs have 52 octets
rest-len : request_len (read_of query []) ≡ 52
unfolding digits request_text request_items
rest-len = refl

-- and a pair with an address text of twelve octets has 49 more
pair-len : request_len (read_of query (client ∷ [])) ≡ 101
unfolding digits request_text request_items stamp_text encode_with text_of ip_text
pair-len = refl

-- so eight pairs are named
eight-named : named_count query (replicate 16 client) ≡ 8
unfolding digits named_count request_text request_items stamp_text encode_with text_of ip_text
eight-named = refl

-- what a page with this client tells that was read 64 seconds after its one arrival
page-items : join_by item_text (codes ", ") (answer_items (record {
  nonce = codes "0123456789abcdef01234567";
  older = None;
  rows = record { addr = client.addr; last = second; first = second; count = 1; mv = 35; flags = 0 } ∷ [];
  ended = Some (second + 64 * 2 ^ 32);
  newest = Some second;
}))
    ≡ codes "nonce=0123456789abcdef01234567, addr.0=10.0.0.1:123, last.0=0x83aa7e81.00000000, first.0=0x83aa7e81.00000000, ct.0=1, mv.0=35, rs.0=0x0, now=0x83aa7ec1.00000000, last.newest=0x83aa7e81.00000000"
unfolding digits answer_items stamp_text encode_with text_of ip_text hex
page-items = refl

-- a count has no leading zeros, and keeps to its bounds
count-read : number_in 0 255 (codes "35") ≡ Some 35
unfolding digits
count-read = refl

count-zero : number_in 0 255 (codes "035") ≡ None
unfolding digits
count-zero = refl

count-over : number_in 0 255 (codes "256") ≡ None
unfolding digits
count-over = refl

-- a nonce has 24 octets, none of them a space
nonce-space : nonce_value (codes "0123456789abcdef 1234567") ≡ None
nonce-space = refl

nonce-short : nonce_value (codes "0123456789abcdef0123456") ≡ None
nonce-short = refl
