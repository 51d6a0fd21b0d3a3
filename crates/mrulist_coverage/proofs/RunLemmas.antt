-- A listing ends as the law says: by induction over what happens at the port.
use Rattle.std.proofs.Common.{◌≡◌, inl, inr, ℕ, ◌+◌, ◌≤◌, ◌==◌, Bool, true, false, cond, List, [], ◌∷◌, ◌++◌, Option, Some, None, refl, sym, ap, subst, ◌∙◌, arith, append_assoc, append-nil}
use Rattle.std.specs.Prelude.{Contains}
use Rattle.std.proofs.lemmas.Bool.{cond-true, eq-eqb}
use Rattle.edge_traits.specs.declared.port.Event.{Event}
use Rattle.edge_traits.specs.declared.port.Event.TheVariants.{Took, Silence, Sent}
use Rattle.mode6_frame.specs.declared.groups.Step.{Step}
use Rattle.mode6_frame.specs.declared.groups.Step.TheVariants as Then
use Rattle.mode6_frame.specs.Frames.{FrameParts}
use Rattle.mode6_frame.specs.Groups.{GroupsParts}
use Rattle.mode6_frame.specs.Places.{frame_at}
use Rattle.mode6_frame.specs.Served.{IsDatagramOf, Refusal, Served, Tells}
use Rattle.mru_items.specs.declared.query.Query.{Query}
use Rattle.mru_items.specs.Queries.{IsQuery}
use Rattle.mrulist_coverage.specs.Tellings.{AnswersSent, IsTelling, IsToldAt, IsToldFrom, Known, Telling, after_sent, after_taken, nothing_known}
use Rattle.mrulist_coverage.specs.Coverage.{IsCoveredListing}
use Rattle.mrulist_coverage.proofs.LowerFacts.{LowerLaws}
use Rattle.mrulist_coverage.proofs.Rounds.{IsAfter, IsEnd, IsGoing, IsUpTo, after-kept, denied-by, whole-by}
use Rattle.mrulist_coverage.proofs.ServedBy.{answers_by, served_by}
use Rattle.mrulist_coverage.proofs.TakenLemmas.{Include, Include-here, Include-later, each-told, sent-given}
use Rattle.mrulist_coverage.proofs.Steps.{covered-more-places, covered-new, covered-same}
use Rattle.mrulist_reader.specs.declared.listing.End.{End}
use Rattle.mrulist_reader.specs.Readers.{ReaderParts, after_refusal, after_silence, after_whole, due_of, due_unless, listing_dialogue, new_reader, request_with}
use Rattle.net_addr.specs.declared.addr.Addr.{Addr}
use Rattle.ntpq_client.specs.declared.news.News.{News}
use Rattle.ntpq_client.specs.declared.news.News.TheVariants.{Nothing, Answered, Denied, Quiet}
use Rattle.ntpq_client.specs.declared.request.Request.{Request}
use Rattle.ntpq_client.specs.Answered.{EachIsTold, IsNewsOf, TookOf}
use Rattle.ntpq_client.specs.Dialogues.{Asking, Follows, IsNext, IsTurn, after_all, after_one, ready, told, waits_on}
use Rattle.ntpq_client.specs.Requests.{request_octets, request_parts}
use Rattle.ntpq_client.specs.Talks.{Talk, after_event, after_heard, after_step, heard, news_of, step_heard}
use Rattle.ntpq_client.proofs.AnsweredLemmas.{after_event-server}

after_step-posted : (step : Option Step) (talk : Talk) (g : GroupsParts) → (after_step step talk g).posted ≡ talk.posted
after_step-posted None talk g = refl
after_step-posted (Some (Then.Unused why)) talk g = refl
after_step-posted (Some Then.Waiting) talk g = refl
after_step-posted (Some (Then.Refused code)) talk g = refl
after_step-posted (Some (Then.Whole status text)) talk g = refl

-- to take a datagram posts nothing
took-posted : (from : Addr) (octets : List ℕ) (talk : Talk) → (after_event (Took from octets) talk).posted ≡ talk.posted
unfolding after_event after_heard
took-posted from octets talk = after_step-posted (step_heard talk.current (heard talk.server from octets)) talk _

-- a client that waits has asked for what is due to its listing, which has not ended, after it covered the list up to here
abbrev IsAwaited : Bool → Known → Talk → ReaderParts → ℕ → Type 0
IsAwaited false known talk r place = Unit {0}
IsAwaited true known talk r place =
    (r.end ≡ None) × (known.asked talk.posted ≡ Some (request_parts (request_with r r.nonce) talk.posted)) × (place ≤ known.floor talk.posted)

-- how a client stands amid a listing
record Stands (t : Telling) (query : Query) (server : Addr) (known : Known) (places : List (Option ℕ)) (a : Asking ReaderParts) : Type 0 where
  place : ℕ
  seen : place ≤ known.seen
  going : IsGoing t query places a.plan place
  server_is : a.talk.server ≡ server
  awaited : IsAwaited a.waits known a.talk a.plan place

-- what is sent is the request that is due
sent-due : (waits : Bool) (due : Option Request) (talk : Talk) (to : Addr) (octets : List ℕ) → IsTurn waits due talk (Sent to octets)
    → (request : Request) × (due ≡ Some request) × (frame_at octets ≡ request_parts request (talk.posted + 1))
sent-due true due talk to octets turn = absurd turn
sent-due false None talk to octets turn = absurd turn
sent-due false (Some request) talk to octets turn =
    let same : octets ≡ request_octets request (talk.posted + 1) = cc turn.posted in
    (request, refl, ap frame_at same ∙ turn.reads)

-- a listing to which a request is due has not ended
due-open : (end : Option End) (request one : Request) → due_unless end request ≡ Some one → (end ≡ None) × (request ≡ one)
due-open None request one is = (refl, cc is)
due-open (Some end) request one is = absurd (cc is)

-- one that takes a datagram waits
took-waits : (waits : Bool) (due : Option Request) (talk : Talk) (from : Addr) (octets : List ℕ) → IsTurn waits due talk (Took from octets) → waits ≡ true
took-waits true due talk from octets turn = refl
took-waits false None talk from octets turn = absurd turn
took-waits false (Some request) talk from octets turn = absurd (cc turn.posted)

-- after a request was sent
sent-stands : (t : Telling) (query : Query) (server : Addr) (known : Known) (places : List (Option ℕ)) (a : Asking ReaderParts) (to : Addr) (octets : List ℕ)
    → IsNext listing_dialogue a (Sent to octets) → Stands t query server known places a
    → Stands t query server (after_sent (frame_at octets) known) places (after_one listing_dialogue (Sent to octets) a)
unfolding after_event news_of
sent-stands t query server known places a to octets next stands =
    let f = frame_at octets in
    let n = a.talk.posted + 1 in
    let (request, due, reads) = sent-due a.waits (due_of a.plan) a.talk to octets next.turn in
    let (open_still, request_is) = due-open a.plan.end (request_with a.plan a.plan.nonce) request due in
    let number : (n == f.sequence) ≡ true = eq-eqb _ _ (sym (ap (λ (k : FrameParts). k.sequence) reads)) in
    let asked : cond (n == f.sequence) (Some f) (known.asked n) ≡ Some (request_parts (request_with a.plan a.plan.nonce) n) =
    cond-true (n == f.sequence) (Some f) (known.asked n) number ∙ ap (λ (k : FrameParts). Some k) reads ∙ ap (λ (q : Request). Some (request_parts q n)) (sym request_is) in
    let floor : cond (n == f.sequence) known.seen (known.floor n) ≡ known.seen = cond-true (n == f.sequence) known.seen (known.floor n) number in
    let seen : stands.place ≤ known.seen = stands.seen in
    record {
      place = stands.place;
      seen = stands.seen;
      going = stands.going;
      server_is = stands.server_is;
      awaited = (open_still, asked, subst (λ (m : ℕ). stands.place ≤ m) (sym floor) seen);
    }

-- after a silence
silent-stands : (t : Telling) (query : Query) (server : Addr) (known : Known) (places : List (Option ℕ)) (a : Asking ReaderParts)
    → Stands t query server known places a → Stands t query server known places (after_one listing_dialogue Silence a)
unfolding after_event news_of
silent-stands t query server known places a stands = record {
  place = stands.place;
  seen = stands.seen;
  going = record {
    query_is = stands.going.query_is;
    nonce = tt;
    addrs = stands.going.addrs;
    covered = covered-same t places query.filter a.plan (after_silence a.plan) stands.place refl refl stands.going.covered;
    end = stands.going.end;
  };
  server_is = stands.server_is;
  awaited = tt;
}

up_to-seen : (known : Known) (before : ℕ) (place : Option ℕ) (after : ℕ) → before ≤ known.seen → IsUpTo before place after → after ≤ (after_taken place known).seen
up_to-seen known before None after seen up_to = omega (arith, up_to)
up_to-seen known before (Some place) after seen (inl same) = omega (arith, same)
up_to-seen known before (Some place) after seen (inr behind) = omega (arith, behind)

seen-more : (known : Known) (place : Option ℕ) → known.seen ≤ (after_taken place known).seen
seen-more known None = omega arith
seen-more known (Some place) = omega arith

-- what is taken leaves what was asked
awaited-taken : (known : Known) (place : Option ℕ) (waits : Bool) (talk : Talk) (r : ReaderParts) (k : ℕ) → IsAwaited waits known talk r k → IsAwaited waits (after_taken place known) talk r k
awaited-taken known None waits talk r k awaited = awaited
awaited-taken known (Some place) false talk r k awaited = tt
awaited-taken known (Some place) true talk r k awaited = awaited

awaited-talk : (known : Known) (one other : Talk) (r : ReaderParts) (k : ℕ) → other.posted ≡ one.posted → IsAwaited true known one r k → IsAwaited true known other r k
awaited-talk known one other r k posted (goes_on, asked, late) = (
  goes_on,
  subst (λ (n : ℕ). known.asked n ≡ Some (request_parts (request_with r r.nonce) n)) (sym posted) asked,
  subst (λ (n : ℕ). k ≤ known.floor n) (sym posted) late,
)

module _ (lower : LowerLaws) (t : Telling) (query : Query) (server : Addr) (answers : ℕ → List Served) (telling : IsTelling t) (is_query : IsQuery query) where
  -- what is told of a datagram is so of the answer that its place has, which answers what was asked
  record IsTaken (known : Known) (talk : Talk) (f : FrameParts) (place : Option ℕ) (P : Served → Type 0) : Type 0 where
    answered : AnswersSent t (known.asked talk.posted) (known.floor talk.posted) place f
    so : P (served_by t f place)

  taken-told : (known : Known) (talk : Talk) (from : Addr) (octets : List ℕ) (events : List Event) (place : Option ℕ) (rest : List (Option ℕ)) (P : Served → Type 0)
      → talk.server ≡ server → Include answers t server (Took from octets ∷ events) (place ∷ rest) → IsToldAt t server known from (frame_at octets) place
      → TookOf answers (Took from octets) talk P → IsTaken known talk (frame_at octets) place P
  taken-told known talk from octets events place rest P server_is include told (its, took, by) =
      let f = frame_at octets in
      let from_is : from ≡ talk.server = cc took in
      let same : its ≡ octets = cc took in
      let from_server : from ≡ server = from_is ∙ server_is in
      let current : f.sequence ≡ talk.posted = subst (λ (o : List ℕ). (frame_at o).sequence ≡ talk.posted) same by.current in
      let sent : AnswersSent t (known.asked f.sequence) (known.floor f.sequence) place f = told from_server in
      let datagram = (sent-given lower t (known.asked f.sequence) (known.floor f.sequence) place f telling sent).1 in
      let among = Include-here answers t server from octets events place rest include from_server in
      record {
        answered = subst (λ (n : ℕ). AnswersSent t (known.asked n) (known.floor n) place f) current sent;
        so = by.each (served_by t f place) (subst (λ (n : ℕ). Contains (answers n) (served_by t f place)) current among)
            (subst (λ (o : List ℕ). IsDatagramOf (served_by t f place) (frame_at o)) (sym same) datagram);
      }

  -- a listing after an answer is one that does not wait
  after-stands : (known : Known) (places : List (Option ℕ)) (place : Option ℕ) (k : ℕ) (talk : Talk) (r : ReaderParts) → talk.server ≡ server → k ≤ known.seen
      → IsAfter t query places k place r → Stands t query server (after_taken place known) (places ++ place ∷ []) (ready talk r)
  after-stands known places place k talk r server_is seen after = record {
    place = after.after;
    seen = up_to-seen known k place after.after seen after.up_to;
    going = after.going;
    server_is = server_is;
    awaited = tt;
  }

  -- what news of a datagram do
  news-stands : (known : Known) (places : List (Option ℕ)) (a : Asking ReaderParts) (from : Addr) (octets : List ℕ) (events : List Event) (place : Option ℕ) (rest : List (Option ℕ)) (news : News)
      → (stands : Stands t query server known places a) → IsAwaited true known a.talk a.plan stands.place
      → Include answers t server (Took from octets ∷ events) (place ∷ rest) → IsToldAt t server known from (frame_at octets) place
      → IsNewsOf answers (Took from octets) a.talk news
      → Stands t query server (after_taken place known) (places ++ place ∷ [])
      (record { talk = after_event (Took from octets) a.talk; plan = told listing_dialogue news a.plan; waits = waits_on news })
  news-stands known places a from octets events place rest Nothing stands awaited include told_at here = record {
    place = stands.place;
    seen = omega (arith, stands.seen, seen-more known place);
    going = record {
      query_is = stands.going.query_is;
      nonce = stands.going.nonce;
      addrs = stands.going.addrs;
      covered = covered-more-places t places (place ∷ []) query.filter a.plan stands.place stands.going.covered;
      end = subst (λ (e : Option End). IsEnd t (places ++ place ∷ []) query.filter a.plan.rows e) (sym awaited.0) tt;
    };
    server_is = after_event-server (Took from octets) a.talk ∙ stands.server_is;
    awaited = awaited-talk (after_taken place known) a.talk (after_event (Took from octets) a.talk) a.plan stands.place (took-posted from octets a.talk)
        (awaited-taken known place true a.talk a.plan stands.place awaited);
  }
  news-stands known places a from octets events place rest Quiet stands awaited include told_at here =
      after-stands known places place stands.place (after_event (Took from octets) a.talk) (after_silence a.plan) (after_event-server (Took from octets) a.talk ∙ stands.server_is) stands.seen
      (after-kept t query places stands.place place a.plan (after_silence a.plan) stands.going refl refl refl tt
      (subst (λ (e : Option End). IsEnd t (places ++ place ∷ []) query.filter a.plan.rows e) (sym awaited.0) tt))
  news-stands known places a from octets events place rest (Answered status text) stands awaited include told_at here =
      let taken = taken-told known a.talk from octets events place rest (Tells status text) stands.server_is include told_at here in
      let answered = subst (λ (request : Option FrameParts). AnswersSent t request (known.floor a.talk.posted) place (frame_at octets)) awaited.1 taken.answered in
      after-stands known places place stands.place (after_event (Took from octets) a.talk) (after_whole status text a.plan) (after_event-server (Took from octets) a.talk ∙ stands.server_is) stands.seen
      (whole-by lower t query places stands.place (known.floor a.talk.posted) a.talk.posted a.plan (frame_at octets) telling is_query stands.going awaited.0 awaited.2
      a.plan.nonce refl place status text answered taken.so)
  news-stands known places a from octets events place rest (Denied code) stands awaited include told_at here =
      let taken = taken-told known a.talk from octets events place rest (λ answer. answer ≡ Refusal code) stands.server_is include told_at here in
      let answered = subst (λ (request : Option FrameParts). AnswersSent t request (known.floor a.talk.posted) place (frame_at octets)) awaited.1 taken.answered in
      after-stands known places place stands.place (after_event (Took from octets) a.talk) (after_refusal code a.plan) (after_event-server (Took from octets) a.talk ∙ stands.server_is) stands.seen
      (denied-by lower t query places stands.place (known.floor a.talk.posted) a.talk.posted a.plan (frame_at octets) telling is_query stands.going awaited.0 awaited.2
      a.plan.nonce refl place code answered taken.so)

  -- a listing ends as the law says, from where it stands on
  ends-well : (events : List Event) (rest places : List (Option ℕ)) (known : Known) (a : Asking ReaderParts) → Follows listing_dialogue a events → IsToldFrom t server known events rest
      → EachIsTold listing_dialogue answers a events → Include answers t server events rest → Stands t query server known places a
      → IsEnd t (places ++ rest) query.filter (after_all listing_dialogue events a).plan.rows (after_all listing_dialogue events a).plan.end
  ends-well [] rest places known a follows told_from each include stands =
      subst (λ (all : List (Option ℕ)). IsEnd t all query.filter a.plan.rows a.plan.end) (sym (ap (λ (more : List (Option ℕ)). places ++ more) told_from ∙ append-nil places)) stands.going.end
  ends-well (Silence ∷ events) rest places known a (next, follows) told_from each include stands =
      ends-well events rest places known (after_one listing_dialogue Silence a) follows told_from each.1 include (silent-stands t query server known places a stands)
  ends-well (Sent to octets ∷ events) rest places known a (next, follows) told_from each include stands =
      ends-well events rest places (after_sent (frame_at octets) known) (after_one listing_dialogue (Sent to octets) a) follows told_from each.1 include
      (sent-stands t query server known places a to octets next stands)
  ends-well (Took from octets ∷ events) [] places known a (next, follows) told_from each include stands = absurd told_from
  ends-well (Took from octets ∷ events) (place ∷ rest) places known a (next, follows) told_from each include stands =
      let awaited = subst (λ (w : Bool). IsAwaited w known a.talk a.plan stands.place) (took-waits a.waits (due_of a.plan) a.talk from octets next.turn) stands.awaited in
      let after = after_all listing_dialogue events (after_one listing_dialogue (Took from octets) a) in
      subst (λ (all : List (Option ℕ)). IsEnd t all query.filter after.plan.rows after.plan.end) (append_assoc places (place ∷ []) rest)
      (ends-well events rest (places ++ place ∷ []) (after_taken place known) (after_one listing_dialogue (Took from octets) a) follows told_from.1 each.1
      (Include-later answers t server from octets events place rest include)
      (news-stands known places a from octets events place rest (news_of (Took from octets) a.talk) stands awaited include told_from.0 each.0))

-- a listing at its beginning
begins : (t : Telling) (query : Query) (client : Talk) → IsTelling t → Stands t query client.server nothing_known [] (ready client (new_reader query))
begins t query client telling = record {
  place = 0;
  seen = omega arith;
  going = record { query_is = refl; nonce = tt; addrs = tt; covered = covered-new t [] query telling; end = tt };
  server_is = refl;
  awaited = tt;
}

-- a listing that was told from a history is a covered one
pub covered-listing : (lower : LowerLaws) (t : Telling) (client : Talk) (query : Query) (events : List Event) (places : List (Option ℕ)) → IsTelling t → IsQuery query
    → Follows listing_dialogue (ready client (new_reader query)) events → IsToldFrom t client.server nothing_known events places
    → IsCoveredListing t places query (after_all listing_dialogue events (ready client (new_reader query))).plan
covered-listing lower t client query events places telling is_query follows told_from =
    let a = ready client (new_reader query) in
    let answers = answers_by t client.server events places in
    let r = (after_all listing_dialogue events a).plan in
    let ended : IsEnd t places query.filter r.rows r.end =
    ends-well lower t query client.server answers telling is_query events places [] nothing_known a follows told_from
    (each-told lower t client query events places telling told_from follows) (λ sequence answer among. among) (begins t query client telling) in
    record {
      covers = λ now is. subst (λ (e : Option End). IsEnd t places query.filter r.rows e) is ended;
      never_bad = λ is. subst (λ (e : Option End). IsEnd t places query.filter r.rows e) is ended;
      never_refused = λ is. (subst (λ (e : Option End). IsEnd t places query.filter r.rows e) is ended) refl;
    }
