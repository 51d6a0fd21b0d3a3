-- What a listing posts is a whole control message that asks for a nonce or for a page.
use Rattle.std.proofs.Common.{◌≡◌, ◌≢◌, inl, inr, ℕ, zero, suc, ◌+◌, ◌-◌, ◌%◌, ◌^◌, ◌<◌, ◌≤◌, Option, Some, None, List, [], ◌∷◌, ◌++◌, length, map, take, reverse, replicate, bytes_eq, refl, sym, ap, subst, ◌∙◌, false, arith, append_assoc, length-append}
use Rattle.std.proofs.Math.Seq.{take-append_seam}
use Rattle.std.proofs.lemmas.Bool.{both_ways}
use Rattle.std.proofs.lemmas.Grind.{reverse_onto}
use Rattle.std.proofs.lemmas.Slice.Eq.{bytes_eq-Decides}
use Rattle.std.specs.List.{AllByRecursion}
use Rattle.std.specs.Prelude.{codes, Contains}
use Rattle.hex.specs.Hex.{lower_digits}
use Rattle.list_telling.specs.Requests.{IsListRequest, ReadsPage}
use Rattle.mode6_frame.specs.declared.message.TheConstants.{HEAD_LEN, MAX_BODY}
use Rattle.mode6_frame.specs.Frames.{FitsFrame, FrameParts, IsFrame, IsFrameVersion, head_of, padding_of, spelled_frame}
use Rattle.mode6_frame.specs.Items.{IsItemText}
use Rattle.mode6_frame.specs.ItemTexts.{IsWritable}
use Rattle.mode6_frame.proofs.WrittenLemmas.{IsItemText-joined}
use Rattle.mru_items.specs.declared.pair.Pair.{Pair}
use Rattle.mru_items.specs.declared.pair.TheConstants.{MAX_PAIRS}
use Rattle.mru_items.specs.declared.query.Query.{Query}
use Rattle.mru_items.specs.Queries.{ArePairs, ArePairsTold, IsPair, IsQuery, named_count, read_of, request_items, request_len, request_text, told_time}
use Rattle.mru_items.proofs.GoodLemmas.{good-request, good-writable}
use Rattle.mru_items.proofs.RequestLaws.{request_told}
use Rattle.mru_items.proofs.RoomLemmas.{named-fit, text_len}
use Rattle.mru_items.proofs.TextLemmas.{writable-plain}
use Rattle.mrulist_coverage.proofs.FrontLemmas.{AllByRecursion-take}
use Rattle.mrulist_coverage.proofs.PairLemmas.{AreAddrs, named-few}
use Rattle.mrulist_reader.specs.Readers.{ReaderParts, named_by, nonce_request, read_request, request_with}
use Rattle.ntpq_client.specs.declared.request.Request.{Request}
use Rattle.ntpq_client.specs.Requests.{request_octets, request_parts}
use Rattle.recency.proofs.ListLemmas.{AllByRecursion-append}
use Rattle.server_core.specs.Control.{IsRequest}
use Rattle.wire.proofs.Sound.{IsBareIfAny, IsSound}
use Rattle.wire.proofs.Widths.{IsBare, names-test}

-- the octets that spell a control message begin with it
frame-spelled : (f : FrameParts) → FitsFrame f → IsFrameVersion f.version → IsFrame (spelled_frame f) f
unfolding head_of
frame-spelled f fits version =
    let whole = head_of f ++ f.body in
    let padding = padding_of (length f.body) in
    let long : length whole ≡ HEAD_LEN + length f.body = length-append (head_of f) f.body in
    record {
      fits = fits;
      version = version;
      spelled =
          ap (take (HEAD_LEN + length f.body)) (sym (append_assoc (head_of f) f.body padding))
          ∙ subst (λ (n : ℕ). take n (whole ++ padding) ≡ whole) long (take-append_seam whole padding);
    }

-- the stamp of a server, whose clocks begin at one time, that is told as another
abbrev stamp_of : ℕ → ℕ → ℕ
stamp_of origin time = (time + (2 ^ 64 - origin)) % 2 ^ 64

time-told : (origin time : ℕ) → origin < 2 ^ 64 → time < 2 ^ 64 → time ≡ told_time origin (stamp_of origin time)
time-told origin time within fits = omega arith

-- the pairs of that server which are told as these
abbrev stamps_of : ℕ → List Pair → List Pair
stamps_of origin pairs = map (λ pair. record { addr = pair.addr; last = stamp_of origin pair.last }) pairs

pairs-told : (origin : ℕ) (pairs : List Pair) → origin < 2 ^ 64 → ArePairs pairs → ArePairsTold origin (stamps_of origin pairs) pairs
pairs-told origin [] within are = tt
pairs-told origin (pair ∷ pairs) within are =
    (refl, time-told origin pair.last within are.0.1, omega arith, pairs-told origin pairs within are.1)

pairs-addrs : (pairs : List Pair) → ArePairs pairs → AreAddrs pairs
pairs-addrs [] are = tt
pairs-addrs (pair ∷ pairs) are = (are.0.0, pairs-addrs pairs are.1)

reverse-pairs : (pairs : List Pair) → ArePairs pairs → ArePairs (reverse pairs)
reverse-pairs [] are = tt
reverse-pairs (pair ∷ pairs) are =
    subst ArePairs (sym (reverse_onto pairs pair []))
    (AllByRecursion-append IsPair (reverse pairs) (pair ∷ []) (reverse-pairs pairs are.1) (are.0, tt))

-- the pairs that a read names have addresses and times
named-pairs : (r : ReaderParts) → ArePairs r.trail → ArePairs (named_by r)
named-pairs r are = AllByRecursion-take IsPair (named_count r.query (reverse r.trail)) (reverse r.trail) (reverse-pairs r.trail are)

zeros-digits : (n : ℕ) → AllByRecursion (Contains lower_digits) (replicate n 48)
zeros-digits zero = tt
zeros-digits (suc n) = ((0, omega arith, refl), zeros-digits n)

differ : (one other : List ℕ) → bytes_eq one other ≡ false → one ≢ other
differ one other apart same = both_ways _ apart ((bytes_eq-Decides one other).1 same)

-- the items of a read are written, whatever its nonce, where that stands without quotes
items-written : (nonce : List ℕ) (query : Query) (pairs : List Pair) → IsBare nonce → IsQuery query → length pairs ≤ MAX_PAIRS → AreAddrs pairs
    → AllByRecursion IsWritable (request_items nonce (read_of query pairs))
unfolding request_items
items-written nonce query pairs bare is few are =
    let plain = good-writable (request_items (replicate 24 48) (read_of query pairs)) (good-request (replicate 24 48) query pairs refl (zeros-digits 24) is few are) in (
      writable-plain (codes "nonce") nonce (omega arith) (names-test (codes "nonce") refl) (differ (codes "nonce") (codes "resp") refl) bare.names,
      plain.1,
    )

-- so they are what its text has
text-written : (nonce : List ℕ) (query : Query) (pairs : List Pair) → IsBare nonce → IsQuery query → length pairs ≤ MAX_PAIRS → AreAddrs pairs
    → IsItemText (request_text nonce (read_of query pairs)) (request_items nonce (read_of query pairs))
unfolding request_text
text-written nonce query pairs bare is few are =
    IsItemText-joined (request_items nonce (read_of query pairs)) (items-written nonce query pairs bare is few are)

-- the read of a listing asks a server for a page
reads-page : (r : ReaderParts) (nonce : List ℕ) (origin sequence : ℕ) → origin < 2 ^ 64 → IsSound r → IsBare nonce
    → ReadsPage (request_parts (read_request r nonce) sequence) origin
reads-page r nonce origin sequence within sound bare =
    let pairs = named_by r in
    let are : ArePairs pairs = named-pairs r sound.trail in
    let addrs : AreAddrs pairs = pairs-addrs pairs are in
    let stamps = stamps_of origin pairs in
    record {
      opcode = refl;
      items = request_items nonce (read_of r.query pairs);
      text = text-written nonce r.query pairs bare sound.query (named-few r) addrs;
      read = read_of r.query stamps;
      asks = request_told nonce r.query stamps pairs origin sound.query addrs (pairs-told origin pairs within are) (named-few r);
    }

-- its body fits
read-fits : (r : ReaderParts) (nonce : List ℕ) → IsSound r → IsBare nonce → length (request_text nonce (read_of r.query (named_by r))) ≤ MAX_BODY
read-fits r nonce sound bare =
    let text = request_text nonce (read_of r.query (named_by r)) in
    let long : length text ≡ request_len (read_of r.query (named_by r)) = text_len text nonce r.query (named_by r) bare.long refl bare.names in
    let fits : request_len (read_of r.query (named_by r)) ≤ MAX_BODY = named-fit r.query (reverse r.trail) sound.query (reverse-pairs r.trail sound.trail) in
    omega (arith, long, fits)

-- a request is a whole control message that is one of a listing
pub record IsListed (request : Request) (origin sequence : ℕ) : Type 0 where
  pub control : IsRequest (request_octets request sequence) (request_parts request sequence)
  pub asks : IsListRequest (request_parts request sequence) origin

control-of : (request : Request) (sequence : ℕ) → IsFrameVersion request.version → FitsFrame (request_parts request sequence) → IsRequest (request_octets request sequence) (request_parts request sequence)
unfolding request_octets
control-of request sequence version fits = record { frame = frame-spelled (request_parts request sequence) fits version; no_answer = refl }

-- what is due to a sound listing is
pub due-listed : (r : ReaderParts) (nonce : Option (List ℕ)) (origin sequence : ℕ) → origin < 2 ^ 64 → sequence < 2 ^ 16 → IsSound r → IsBareIfAny nonce
    → IsListed (request_with r nonce) origin sequence
due-listed r None origin sequence within fits sound bare = record {
  control = control-of nonce_request sequence (omega arith, omega arith) (record {
    leap = omega arith;
    version = omega arith;
    opcode = omega arith;
    sequence = fits;
    status = omega arith;
    assoc = omega arith;
    offset = omega arith;
    body = omega arith;
  });
  asks = inl refl;
}
due-listed r (Some nonce) origin sequence within fits sound bare = record {
  control = control-of (read_request r nonce) sequence (omega arith, omega arith) (record {
    leap = omega arith;
    version = omega arith;
    opcode = omega arith;
    sequence = fits;
    status = omega arith;
    assoc = omega arith;
    offset = omega arith;
    body = read-fits r nonce sound bare;
  });
  asks = inr (reads-page r nonce origin sequence within sound bare);
}
