-- How a listing of the client list goes on, answer by answer: our own rules, over RFC 9327, section 4, commands 10 and 12.
use Rattle.std.specs.Prelude.{ℕ, ◌+◌, ◌-◌, ◌^◌, ◌==◌, min, nat_lt, Bool, true, false, not, ◌&&◌, ◌||◌, is_some, if◌then◌else◌, Option, Some, None, option_map, List, [], ◌∷◌, ◌++◌, length, take, map, reverse}
use Rattle.std.specs.List.{filter, list_any}
use Rattle.mode6_frame.specs.declared.errors.TheConstants.{BAD_NAME}
use Rattle.mode6_frame.specs.declared.operations.TheConstants.{OP_READ_MRU, OP_READ_NONCE}
use Rattle.mru_items.specs.declared.answer.PageAnswer.{PageAnswer}
use Rattle.mru_items.specs.declared.pair.Pair.{Pair}
use Rattle.mru_items.specs.declared.query.Query.{Query}
use Rattle.mru_items.specs.declared.shown.ShownRow.{ShownRow}
use Rattle.mru_items.specs.Answers.{answer_told, nonce_told}
use Rattle.mru_items.specs.Queries.{named_of, read_of, request_text}
use Rattle.net_addr.specs.Addresses.{same_addr, same_ip}
use Rattle.ntpq_client.specs.declared.request.Request.{Request}
use Rattle.ntpq_client.specs.declared.request.TheConstants.{REQUEST_VERSION}
use Rattle.ntpq_client.specs.Dialogues.{Dialogue}
use Rattle.mrulist_reader.specs.declared.listing.End.{End}
use Rattle.mrulist_reader.specs.declared.listing.End.TheVariants.{Listed, BadReply, Refused}
use Rattle.mrulist_reader.specs.declared.listing.Listing.{Listing}

-- a listing under way: what it asks for; the nonce of its next read, where it has one; the rows that it was told, a client
-- each; the pairs of the rows of its pages, oldest first; how many whole answers, accepted pages and refusals of named
-- pairs it took; and how it ended, if it did
pub record ReaderParts : Type 0 where
  pub query : Query
  pub nonce : Option (List ℕ)
  pub rows : List ShownRow
  pub trail : List Pair
  pub whole : ℕ
  pub pages : ℕ
  pub refused : ℕ
  pub end : Option End

-- a listing before its first request
abbrev pub new_reader : Query → ReaderParts
new_reader query = record {
  query = query;
  nonce = None;
  rows = [];
  trail = [];
  whole = 0;
  pages = 0;
  refused = 0;
  end = None;
}

-- a count one higher; it stays at the greatest that it has
abbrev pub one_more : ℕ → ℕ
one_more count = min (count + 1) (2 ^ 32 - 1)

-- the pairs that the next read names: the newest of the trail, newest first
abbrev pub named_by : ReaderParts → List Pair
named_by r = named_of r.query (reverse r.trail)

-- the request for a nonce
abbrev pub nonce_request : Request
nonce_request = record { version = REQUEST_VERSION; opcode = OP_READ_NONCE; assoc = 0; body = [] }

-- the request that reads a page with this nonce
abbrev pub read_request : ReaderParts → List ℕ → Request
read_request r nonce = record {
  version = REQUEST_VERSION;
  opcode = OP_READ_MRU;
  assoc = 0;
  body = request_text nonce (read_of r.query (named_by r));
}

-- the request of a listing that goes on: for a nonce, or for a page where it has one
abbrev pub request_with : ReaderParts → Option (List ℕ) → Request
request_with r None = nonce_request
request_with r (Some nonce) = read_request r nonce

-- the request that is due, none where the listing has ended
abbrev pub due_unless : Option End → Request → Option Request
due_unless None request = Some request
due_unless (Some end) request = None

-- the request that is due to a listing
abbrev pub due_of : ReaderParts → Option Request
due_of r = due_unless r.end (request_with r r.nonce)

-- two pairs are of one client, port and last arrival
abbrev pub same_pair : Pair → Pair → Bool
same_pair one other = same_addr one.addr other.addr && (one.last == other.last)

-- a page confirms one of the named pairs, or none where none was named
abbrev pub confirms : List Pair → Option Pair → Bool
confirms [] None = true
confirms [] (Some older) = false
confirms (pair ∷ pairs) None = false
confirms (pair ∷ pairs) (Some older) = list_any (same_pair older) (pair ∷ pairs)

-- an answer is a page that was asked for: it confirms what was named, and has a row or ends the list
abbrev pub is_asked : List Pair → PageAnswer → Bool
is_asked named page = confirms named page.older && (nat_lt 0 (length page.rows) || is_some page.ended)

-- pairs up to and with the last one that is this
abbrev pub up_to_last : Pair → List Pair → List Pair
up_to_last pair [] = []
up_to_last pair (one ∷ pairs) =
    if list_any (same_pair pair) pairs then one ∷ up_to_last pair pairs
    else (if same_pair pair one then one ∷ [] else [])

-- the trail without the pairs that are newer than the confirmed one; a page that begins with the oldest client begins it anew
abbrev pub cut_behind : Option Pair → List Pair → List Pair
cut_behind None trail = []
cut_behind (Some pair) trail = up_to_last pair trail

-- the pair of a row
abbrev pub pair_of : ShownRow → Pair
pair_of row = record { addr = row.addr; last = row.last }

-- rows with one more at their end, which takes the place of its client's row
abbrev pub with_row : List ShownRow → ShownRow → List ShownRow
with_row rows row = filter (λ other. not (same_ip other.addr.ip row.addr.ip)) rows ++ row ∷ []

-- rows with each of these at their end, one after another
abbrev pub with_rows : List ShownRow → List ShownRow → List ShownRow
with_rows rows [] = rows
with_rows rows (row ∷ more) = with_rows (with_row rows row) more

-- a listing that an answer ends which was not asked for
abbrev pub ended_badly : ReaderParts → ReaderParts
ended_badly r = record r { end = Some BadReply }

-- a listing after a page that was asked for: its rows take the places of their clients' rows, its nonce is the next read's,
-- and it ends the listing where it ends the list
abbrev pub after_page : PageAnswer → ReaderParts → ReaderParts
after_page page r = record r {
  nonce = Some page.nonce;
  rows = with_rows r.rows page.rows;
  trail = cut_behind page.older r.trail ++ map pair_of page.rows;
  whole = one_more r.whole;
  pages = one_more r.pages;
  end = option_map Listed page.ended;
}

-- a listing after the answer to a read
abbrev pub after_answer : Option PageAnswer → ReaderParts → ReaderParts
after_answer None r = ended_badly r
after_answer (Some page) r = if is_asked (named_by r) page then after_page page r else ended_badly r

-- a listing after the answer to a request for a nonce
abbrev pub after_nonce : Option (List ℕ) → ReaderParts → ReaderParts
after_nonce None r = ended_badly r
after_nonce (Some nonce) r = record r { nonce = Some nonce; whole = one_more r.whole }

-- a listing after a whole answer of this text to the request that was due
abbrev pub after_text : Option (List ℕ) → List ℕ → ReaderParts → ReaderParts
after_text None text r = after_nonce (nonce_told text) r
after_text (Some nonce) text r = after_answer (answer_told text) r

-- a listing after a whole answer
abbrev pub after_whole : ℕ → List ℕ → ReaderParts → ReaderParts
after_whole status text r = after_text r.nonce text r

-- a read named pairs, and was refused since none of them stands
abbrev pub is_turned_down : ReaderParts → ℕ → Bool
is_turned_down r code = (code == BAD_NAME) && is_some r.nonce && nat_lt 0 (length (named_by r))

-- the trail without the pairs that a read named
abbrev pub backed_off : ReaderParts → List Pair
backed_off r = take (length r.trail - length (named_by r)) r.trail

-- a listing after a refusal: where no named pair stands it goes back to older ones, and else it ends
abbrev pub after_refusal : ℕ → ReaderParts → ReaderParts
after_refusal code r =
    if is_turned_down r code then record r { trail = backed_off r; refused = one_more r.refused }
    else record r { end = Some (Refused code) }

-- a listing after a take that found nothing: it asks for a new nonce
abbrev pub after_silence : ReaderParts → ReaderParts
after_silence r = record r { nonce = None }

-- the dialogue of a listing
abbrev pub listing_dialogue : Dialogue ReaderParts
listing_dialogue = record {
  due = due_of;
  whole = after_whole;
  refused = after_refusal;
  silent = after_silence;
}

-- what a listing that ended at this time comes to
abbrev pub listing_of : ReaderParts → ℕ → Listing
listing_of r now = record { rows = r.rows; now = now; pages = r.pages; refused = r.refused }
