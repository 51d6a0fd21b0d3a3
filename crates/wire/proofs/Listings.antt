-- What a listing sends are requests of a listing, whatever it takes.
use Rattle.std.proofs.Common.{◌≡◌, ℕ, ◌+◌, ◌^◌, ◌<◌, ◌≤◌, Bool, true, false, Option, Some, None, List, [], ◌∷◌, refl, sym, ap, subst, ◌∙◌, arith}
use Rattle.edge_traits.specs.declared.port.Event.{Event}
use Rattle.edge_traits.specs.declared.port.Event.TheVariants.{Took, Silence, Sent}
use Rattle.list_telling.specs.Requests.{IsListRequest}
use Rattle.mode6_frame.specs.declared.groups.Step.{Step}
use Rattle.mode6_frame.specs.declared.groups.Step.TheVariants as Then
use Rattle.mode6_frame.specs.Frames.{FrameParts}
use Rattle.mode6_frame.specs.Groups.{GroupsParts}
use Rattle.mode6_frame.specs.Places.{frame_at}
use Rattle.mru_items.specs.declared.query.Query.{Query}
use Rattle.mru_items.specs.Queries.{IsQuery}
use Rattle.mrulist_reader.specs.declared.listing.End.{End}
use Rattle.mrulist_reader.specs.Readers.{ReaderParts, due_of, due_unless, listing_dialogue, new_reader, request_with}
use Rattle.net_addr.specs.declared.addr.Addr.{Addr}
use Rattle.ntpq_client.specs.declared.client.TheConstants.{MAX_REQUESTS}
use Rattle.ntpq_client.specs.declared.request.Request.{Request}
use Rattle.ntpq_client.specs.Dialogues.{Asking, Follows, IsNext, IsPostOf, IsTurn, after_one, ready}
use Rattle.ntpq_client.specs.Requests.{request_octets, request_parts}
use Rattle.ntpq_client.specs.Talks.{Talk, after_event, after_heard, after_step, heard, new_talk, news_of, step_heard}
use Rattle.ntpq_client.proofs.AnsweredLemmas.{after_event-server}
use Rattle.server_core.specs.Control.{IsRequest}
use Rattle.wire.specs.Wires.{AreListing}
use Rattle.wire.proofs.Posts.{due-listed}
use Rattle.wire.proofs.Sound.{IsSound, told-sound}

step-posted : (step : Option Step) (talk : Talk) (g : GroupsParts) → (after_step step talk g).posted ≡ talk.posted
step-posted None talk g = refl
step-posted (Some (Then.Unused why)) talk g = refl
step-posted (Some Then.Waiting) talk g = refl
step-posted (Some (Then.Refused code)) talk g = refl
step-posted (Some (Then.Whole status text)) talk g = refl

-- to take a datagram posts nothing
took-posted : (from : Addr) (octets : List ℕ) (talk : Talk) → (after_event (Took from octets) talk).posted ≡ talk.posted
unfolding after_event after_heard
took-posted from octets talk = step-posted (step_heard talk.current (heard talk.server from octets)) talk _

-- nor does a silence
silence-posted : (talk : Talk) → (after_event Silence talk).posted ≡ talk.posted
unfolding after_event
silence-posted talk = refl

-- and a request is one more
sent-posted : (to : Addr) (octets : List ℕ) (talk : Talk) → (after_event (Sent to octets) talk).posted ≡ talk.posted + 1
unfolding after_event
sent-posted to octets talk = refl

-- what is sent is the request that is due
sent-due : (waits : Bool) (due : Option Request) (talk : Talk) (to : Addr) (octets : List ℕ) → IsTurn waits due talk (Sent to octets)
    → (request : Request) × (due ≡ Some request) × IsPostOf request talk (Sent to octets)
sent-due true due talk to octets turn = absurd turn
sent-due false None talk to octets turn = absurd turn
sent-due false (Some request) talk to octets turn = (request, refl, turn)

-- that of a listing which goes on
due-is : (end : Option End) (request one : Request) → due_unless end request ≡ Some one → request ≡ one
due-is None request one is = cc is
due-is (Some end) request one is = absurd (cc is)

-- how a client stands amid a listing
record Stands (server : Addr) (posted : ℕ) (a : Asking ReaderParts) : Type 0 where
  server_is : a.talk.server ≡ server
  posted_is : a.talk.posted ≡ posted
  few : posted ≤ MAX_REQUESTS
  sound : IsSound a.plan

-- it stands so after each event, with one request more where that was one
after-stands : (server : Addr) (posted more : ℕ) (a : Asking ReaderParts) (event : Event) → Stands server posted a → (after_event event a.talk).posted ≡ more → more ≤ MAX_REQUESTS
    → Stands server more (after_one listing_dialogue event a)
after-stands server posted more a event stands same few = record {
  server_is = after_event-server event a.talk ∙ stands.server_is;
  posted_is = same;
  few = few;
  sound = told-sound (news_of event a.talk) a.plan stands.sound;
}

-- a request that was sent
record IsSent (server : Addr) (origin posted : ℕ) (to : Addr) (octets : List ℕ) : Type 0 where
  to_is : to ≡ server
  sequence : (frame_at octets).sequence ≡ posted + 1
  control : (f : FrameParts) × IsRequest octets f
  asks : IsListRequest (frame_at octets) origin
  more : posted + 1 ≤ MAX_REQUESTS

sent-is : (server : Addr) (origin posted : ℕ) (a : Asking ReaderParts) (to : Addr) (octets : List ℕ) → origin < 2 ^ 64 → Stands server posted a
    → IsNext listing_dialogue a (Sent to octets) → IsSent server origin posted to octets
sent-is server origin posted a to octets within stands next =
    let (request, due, post) = sent-due a.waits (due_of a.plan) a.talk to octets next.turn in
    let n = a.talk.posted + 1 in
    let few : n ≤ MAX_REQUESTS = omega (arith, post.few) in
    let same : request_with a.plan a.plan.nonce ≡ request = due-is a.plan.end (request_with a.plan a.plan.nonce) request due in
    let listed = due-listed a.plan a.plan.nonce origin n within (omega (arith, few)) stands.sound stands.sound.nonce in
    let octets_are : octets ≡ request_octets request n = cc post.posted in
    let reads : frame_at octets ≡ request_parts request n = ap frame_at octets_are ∙ post.reads in
    let to_server : to ≡ a.talk.server = cc post.posted in
    record {
      to_is = to_server ∙ stands.server_is;
      sequence = ap (λ (f : FrameParts). f.sequence) reads ∙ ap (λ (k : ℕ). k + 1) stands.posted_is;
      control = (
        request_parts request n,
        subst (λ (those : List ℕ). IsRequest those (request_parts request n)) (sym octets_are)
            (subst (λ (one : Request). IsRequest (request_octets one n) (request_parts one n)) same listed.control),
      );
      asks = subst (λ (f : FrameParts). IsListRequest f origin) (sym reads)
          (subst (λ (one : Request). IsListRequest (request_parts one n) origin) same listed.asks);
      more = omega (arith, few, stands.posted_is);
    }

sends-from : (server : Addr) (origin posted : ℕ) (a : Asking ReaderParts) (events : List Event) → origin < 2 ^ 64 → Stands server posted a
    → Follows listing_dialogue a events → AreListing server origin posted events
sends-from server origin posted a [] within stands follows = stands.few
sends-from server origin posted a (Silence ∷ events) within stands (next, follows) =
    sends-from server origin posted (after_one listing_dialogue Silence a) events within
    (after-stands server posted posted a Silence stands (silence-posted a.talk ∙ stands.posted_is) stands.few) follows
sends-from server origin posted a (Took from octets ∷ events) within stands (next, follows) =
    sends-from server origin posted (after_one listing_dialogue (Took from octets) a) events within
    (after-stands server posted posted a (Took from octets) stands (took-posted from octets a.talk ∙ stands.posted_is) stands.few) follows
sends-from server origin posted a (Sent to octets ∷ events) within stands (next, follows) =
    let sent = sent-is server origin posted a to octets within stands next in
    let one_more : (after_event (Sent to octets) a.talk).posted ≡ posted + 1 = sent-posted to octets a.talk ∙ ap (λ (k : ℕ). k + 1) stands.posted_is in (
      sent.to_is,
      sent.sequence,
      sent.control,
      sent.asks,
      sends-from server origin (posted + 1) (after_one listing_dialogue (Sent to octets) a) events within
          (after-stands server posted (posted + 1) a (Sent to octets) stands one_more sent.more) follows,
    )

-- what a listing sends are requests of a listing, from the first one on
pub listing-sends : (server : Addr) (query : Query) (origin : ℕ) (events : List Event) → IsQuery query → origin < 2 ^ 64
    → Follows listing_dialogue (ready (new_talk server) (new_reader query)) events → AreListing server origin 0 events
listing-sends server query origin events is within follows =
    sends-from server origin 0 (ready (new_talk server) (new_reader query)) events within
    (record { server_is = refl; posted_is = refl; few = omega arith; sound = record { query = is; nonce = tt; trail = tt } }) follows
