-- A listing over a still trace ends by completing: by induction over what happens at the port.
use Rattle.std.proofs.Common.{◌≡◌, ℕ, suc, ◌+◌, ◌*◌, ◌<◌, ◌≤◌, ◌==◌, Bool, true, false, cond, List, [], ◌∷◌, length, Option, Some, None, refl, sym, ap, subst, ◌∙◌, arith}
use Rattle.std.specs.Prelude.{Contains}
use Rattle.std.proofs.lemmas.Bool.{cond-true, eq-eqb, eqb-true}
use Rattle.edge_traits.specs.declared.port.Event.{Event}
use Rattle.edge_traits.specs.declared.port.Event.TheVariants.{Took, Silence, Sent}
use Rattle.mode6_frame.specs.declared.groups.Step.{Step}
use Rattle.mode6_frame.specs.declared.groups.Step.TheVariants as Then
use Rattle.mode6_frame.specs.Frames.{FrameParts}
use Rattle.mode6_frame.specs.Groups.{GroupsParts}
use Rattle.mode6_frame.specs.Places.{frame_at}
use Rattle.mode6_frame.specs.Served.{IsDatagramOf, Refusal, Served, Tells}
use Rattle.mru_items.specs.declared.query.MruFilter.{MruFilter}
use Rattle.mru_items.specs.declared.query.Query.{Query}
use Rattle.mru_items.specs.Queries.{IsQuery}
use Rattle.mrulist_coverage.proofs.LowerFacts.{LowerLaws, NamesFour}
use Rattle.mrulist_coverage.specs.Still.{AreOfList, EachTake, IsCompleteIf, IsFew, IsOfList, IsStill, parts_at, takes_of}
use Rattle.mrulist_coverage.specs.Tellings.{AnswersSent, IsTelling, IsToldAt, IsToldFrom, Known, Telling, after_sent, after_taken, nothing_known}
use Rattle.mrulist_coverage.proofs.ServedBy.{answers_by, served_by}
use Rattle.mrulist_coverage.proofs.StillCounts.{takes-most, taken_to, taken_to-here, taken_to-sent}
use Rattle.mrulist_coverage.proofs.StillRounds.{IsStillAnswer, IsStillListing, left_to_post, still-answered, still-whole}
use Rattle.mrulist_coverage.proofs.TakenLemmas.{Include, Include-here, Include-later, each-told, sent-given}
use Rattle.mrulist_reader.specs.declared.listing.End.{End}
use Rattle.mrulist_reader.specs.Readers.{ReaderParts, after_whole, due_of, due_unless, listing_dialogue, new_reader, request_with}
use Rattle.net_addr.specs.declared.addr.Addr.{Addr}
use Rattle.ntpq_client.specs.declared.news.News.{News}
use Rattle.ntpq_client.specs.declared.news.News.TheVariants.{Nothing, Answered, Denied, Quiet}
use Rattle.ntpq_client.specs.declared.request.Request.{Request}
use Rattle.ntpq_client.specs.Answered.{EachIsTold, IsNewsOf, TookOf}
use Rattle.ntpq_client.specs.Dialogues.{Asking, Follows, IsNext, IsTurn, after_all, after_one, ready, told, waits_on}
use Rattle.ntpq_client.specs.Requests.{request_octets, request_parts}
use Rattle.ntpq_client.specs.Talks.{Talk, after_event, after_heard, after_step, heard, heard_news, news_of, new_talk, step_heard, step_news, stuck}
use Rattle.ntpq_client.proofs.AnsweredLemmas.{after_event-server}
use Rattle.ntpq_client.proofs.TalkLemmas.{None-stuck}
use Rattle.recency.specs.declared.limits.TheConstants.{MAX_DEPTH}
use Rattle.recency.specs.declared.row.Row.{Row}

-- what a datagram does to a talk that heard no silence
record IsTookTalk (talk other : Talk) : Type 0 where
  posted : other.posted ≡ talk.posted
  quiet : talk.quiets ≡ 0 → other.quiets ≡ 0
  unused : other.unused ≤ talk.unused + 1

after_step-took : (step : Option Step) (talk : Talk) (g : GroupsParts) → IsTookTalk talk (after_step step talk g)
after_step-took None talk g = record { posted = refl; quiet = λ is. is; unused = omega arith }
after_step-took (Some (Then.Unused why)) talk g = record { posted = refl; quiet = λ is. is; unused = omega arith }
after_step-took (Some Then.Waiting) talk g = record { posted = refl; quiet = λ is. refl; unused = omega arith }
after_step-took (Some (Then.Refused code)) talk g = record { posted = refl; quiet = λ is. refl; unused = omega arith }
after_step-took (Some (Then.Whole status text)) talk g = record { posted = refl; quiet = λ is. refl; unused = omega arith }

took-talk : (from : Addr) (octets : List ℕ) (talk : Talk) → IsTookTalk talk (after_event (Took from octets) talk)
unfolding after_event after_heard
took-talk from octets talk = after_step-took (step_heard talk.current (heard talk.server from octets)) talk _

step-quiet : (step : Option Step) → step_news step ≡ Quiet → ⊥
step-quiet None is = cc is
step-quiet (Some (Then.Unused why)) is = cc is
step-quiet (Some Then.Waiting) is = cc is
step-quiet (Some (Then.Refused code)) is = cc is
step-quiet (Some (Then.Whole status text)) is = cc is

-- a datagram is no silence
took-quiet : (from : Addr) (octets : List ℕ) (talk : Talk) → news_of (Took from octets) talk ≡ Quiet → ⊥
unfolding news_of heard_news
took-quiet from octets talk is = step-quiet (step_heard talk.current (heard talk.server from octets)) is

-- what is sent is the request that is due
sent-due : (waits : Bool) (due : Option Request) (talk : Talk) (to : Addr) (octets : List ℕ) → IsTurn waits due talk (Sent to octets)
    → (request : Request) × (waits ≡ false) × (due ≡ Some request) × (frame_at octets ≡ request_parts request (talk.posted + 1))
sent-due true due talk to octets turn = absurd turn
sent-due false None talk to octets turn = absurd turn
sent-due false (Some request) talk to octets turn =
    let same : octets ≡ request_octets request (talk.posted + 1) = cc turn.posted in
    (request, refl, refl, ap frame_at same ∙ turn.reads)

-- a listing to which a request is due has not ended
due-open : (end : Option End) (request one : Request) → due_unless end request ≡ Some one → (end ≡ None) × (request ≡ one)
due-open None request one is = (refl, cc is)
due-open (Some end) request one is = absurd (cc is)

-- one that takes a datagram waits
took-waits : (waits : Bool) (due : Option Request) (talk : Talk) (from : Addr) (octets : List ℕ) → IsTurn waits due talk (Took from octets) → waits ≡ true
took-waits true due talk from octets turn = refl
took-waits false None talk from octets turn = absurd turn
took-waits false (Some request) talk from octets turn = absurd (cc turn.posted)

-- a client that waits has asked for what is due to its listing, which has not ended
abbrev IsDue : Bool → Known → Talk → ReaderParts → Type 0
IsDue false known talk r = Unit {0}
IsDue true known talk r = (r.end ≡ None) × (known.asked talk.posted ≡ Some (request_parts (request_with r r.nonce) talk.posted))

-- of the requests that were answered no more datagrams are taken than their answers have
abbrev IsCounted : Bool → List Event → ℕ → ℕ → Type 0
IsCounted false all posted count = taken_to posted all ≤ 6 * count + 7 * posted
IsCounted true all posted count = (m : ℕ) × (posted ≡ suc m) × (taken_to m all ≤ 6 * count + 7 * m)

-- a datagram that was taken comes from the server, is of the list, and is one of few
record IsStillTake (t : Telling) (server : Addr) (wanted : MruFilter) (passing : List Row) (all : List Event) (from : Addr) (f : FrameParts) (place : Option ℕ) : Type 0 where
  from_server : from ≡ server
  of_list : IsOfList t wanted passing f place
  few : IsFew t all f place

-- how a client stands amid a listing over a still trace
record IsStillAt (t : Telling) (query : Query) (server : Addr) (passing : List Row) (all : List Event) (known : Known) (events : List Event) (a : Asking ReaderParts) : Type 0 where
  going : IsStillListing t query passing a.plan
  server_is : a.talk.server ≡ server
  quiet : a.talk.quiets ≡ 0
  asked : (sequence : ℕ) (request : FrameParts) → known.asked sequence ≡ Some request → (1 ≤ sequence) × (sequence ≤ a.talk.posted)
  posts : a.talk.posted + left_to_post a.waits a.plan.nonce a.plan.end ≤ length going.front + 2
  counted : IsCounted a.waits all a.talk.posted (length going.front)
  unused : (n : ℕ) → a.talk.posted ≤ n → a.talk.unused + taken_to n events ≤ taken_to n all
  due : IsDue a.waits known a.talk a.plan

-- a datagram that answers answers what was asked
sent-some : (t : Telling) (request : Option FrameParts) (floor : ℕ) (place : Option ℕ) (f : FrameParts) → AnswersSent t request floor place f → (one : FrameParts) × (request ≡ Some one)
sent-some t None floor place f answers = absurd answers
sent-some t (Some request) floor place f answers = (request, refl)

asked-taken : (place : Option ℕ) (known : Known) → (after_taken place known).asked ≡ known.asked
asked-taken None known = refl
asked-taken (Some place) known = refl

asked-sent : (n : ℕ) (f : FrameParts) (known : Known) → f.sequence ≡ n + 1 → ((sequence : ℕ) (request : FrameParts) → known.asked sequence ≡ Some request → (1 ≤ sequence) × (sequence ≤ n))
    → (sequence : ℕ) (request : FrameParts) → (after_sent f known).asked sequence ≡ Some request → (1 ≤ sequence) × (sequence ≤ n + 1)
asked-sent n f known number before sequence request is = by (sequence == f.sequence) refl is
  where
    by : (b : Bool) → (sequence == f.sequence) ≡ b → cond b (Some f) (known.asked sequence) ≡ Some request → (1 ≤ sequence) × (sequence ≤ n + 1)
    by true same is =
        let here : sequence ≡ f.sequence = eqb-true _ _ same in
        (omega (arith, here, number), omega (arith, here, number))
    by false same is =
        let old = before sequence request is in
        (old.0, omega (arith, old.1))

-- a request is sent
counted-sent : (all : List Event) (n count : ℕ) → IsCounted false all n count → IsCounted true all (n + 1) count
counted-sent all n count counted = (n, omega arith, counted)

left-sent : (nonce : Option (List ℕ)) (end : Option End) (n count : ℕ) → end ≡ None → n + left_to_post false nonce end ≤ count + 2 → (n + 1) + left_to_post true nonce end ≤ count + 2
left-sent _ (Some end) n count on posts = absurd (cc on)
left-sent None None n count on posts = omega (arith, posts)
left-sent (Some nonce) None n count on posts = omega (arith, posts)

module _ (lower : LowerLaws) (names : NamesFour) (t : Telling) (query : Query) (server : Addr) (passing : List Row) (all : List Event) (answers : ℕ → List Served) (telling : IsTelling t) (is_query : IsQuery query) where
  sent-still : (known : Known) (events : List Event) (a : Asking ReaderParts) (to : Addr) (octets : List ℕ) → IsNext listing_dialogue a (Sent to octets)
      → IsStillAt t query server passing all known (Sent to octets ∷ events) a
      → IsStillAt t query server passing all (after_sent (frame_at octets) known) events (after_one listing_dialogue (Sent to octets) a)
  unfolding after_event news_of
  sent-still known events a to octets next stands =
      let f = frame_at octets in
      let n = a.talk.posted + 1 in
      let (request, ready_is, due, reads) = sent-due a.waits (due_of a.plan) a.talk to octets next.turn in
      let (open_still, request_is) = due-open a.plan.end (request_with a.plan a.plan.nonce) request due in
      let f_number : f.sequence ≡ n = ap (λ (k : FrameParts). k.sequence) reads in
      let number : (n == f.sequence) ≡ true = eq-eqb _ _ (sym f_number) in
      let asked : cond (n == f.sequence) (Some f) (known.asked n) ≡ Some (request_parts (request_with a.plan a.plan.nonce) n) =
      cond-true (n == f.sequence) (Some f) (known.asked n) number ∙ ap (λ (k : FrameParts). Some k) reads ∙ ap (λ (q : Request). Some (request_parts q n)) (sym request_is) in
      let posts = subst (λ (w : Bool). a.talk.posted + left_to_post w a.plan.nonce a.plan.end ≤ length stands.going.front + 2) ready_is stands.posts in
      let counted = subst (λ (w : Bool). IsCounted w all a.talk.posted (length stands.going.front)) ready_is stands.counted in
      record {
        going = stands.going;
        server_is = stands.server_is;
        quiet = stands.quiet;
        asked = asked-sent a.talk.posted f known f_number stands.asked;
        posts = left-sent a.plan.nonce a.plan.end a.talk.posted (length stands.going.front) open_still posts;
        counted = counted-sent all a.talk.posted (length stands.going.front) counted;
        unused = λ m most. omega (arith, stands.unused m (omega (arith, most)), taken_to-sent m to octets events);
        due = (open_still, asked);
      }

  -- what is told of a datagram is so of the answer that its place has, which answers what was asked
  record IsToldTake (known : Known) (talk : Talk) (f : FrameParts) (place : Option ℕ) (P : Served → Type 0) : Type 0 where
    current : f.sequence ≡ talk.posted
    answered : AnswersSent t (known.asked talk.posted) (known.floor talk.posted) place f
    so : P (served_by t f place)

  taken-told : (known : Known) (talk : Talk) (from : Addr) (octets : List ℕ) (events : List Event) (place : Option ℕ) (rest : List (Option ℕ)) (P : Served → Type 0)
      → talk.server ≡ server → Include answers t server (Took from octets ∷ events) (place ∷ rest) → IsToldAt t server known from (frame_at octets) place
      → TookOf answers (Took from octets) talk P → IsToldTake known talk (frame_at octets) place P
  taken-told known talk from octets events place rest P server_is include told (its, took, by) =
      let f = frame_at octets in
      let from_is : from ≡ talk.server = cc took in
      let same : its ≡ octets = cc took in
      let from_server : from ≡ server = from_is ∙ server_is in
      let current : f.sequence ≡ talk.posted = subst (λ (o : List ℕ). (frame_at o).sequence ≡ talk.posted) same by.current in
      let sent : AnswersSent t (known.asked f.sequence) (known.floor f.sequence) place f = told from_server in
      let datagram = (sent-given lower t (known.asked f.sequence) (known.floor f.sequence) place f telling sent).1 in
      let among = Include-here answers t server from octets events place rest include from_server in
      record {
        current = current;
        answered = subst (λ (n : ℕ). AnswersSent t (known.asked n) (known.floor n) place f) current sent;
        so = by.each (served_by t f place) (subst (λ (n : ℕ). Contains (answers n) (served_by t f place)) current among)
            (subst (λ (o : List ℕ). IsDatagramOf (served_by t f place) (frame_at o)) (sym same) datagram);
      }

  -- the counts of a client that took a datagram
  took-unused : (known : Known) (events : List Event) (a : Asking ReaderParts) (from : Addr) (octets : List ℕ) (place : Option ℕ)
      → IsStillAt t query server passing all known (Took from octets ∷ events) a → IsToldAt t server known from (frame_at octets) place → from ≡ server
      → (n : ℕ) → a.talk.posted ≤ n → (after_event (Took from octets) a.talk).unused + taken_to n events ≤ taken_to n all
  took-unused known events a from octets place stands told from_server n most =
      let f = frame_at octets in
      let some = sent-some t (known.asked f.sequence) (known.floor f.sequence) place f (told from_server) in
      let sent = stands.asked f.sequence some.0 some.1 in
      let took = took-talk from octets a.talk in
      omega (arith, took.unused, stands.unused n most, taken_to-here n from octets events sent.0 (omega (arith, sent.1, most)))

  took-asked : (known : Known) (place : Option ℕ) (a : Asking ReaderParts) (from : Addr) (octets : List ℕ)
      → ((sequence : ℕ) (request : FrameParts) → known.asked sequence ≡ Some request → (1 ≤ sequence) × (sequence ≤ a.talk.posted))
      → (sequence : ℕ) (request : FrameParts) → (after_taken place known).asked sequence ≡ Some request → (1 ≤ sequence) × (sequence ≤ (after_event (Took from octets) a.talk).posted)
  took-asked known place a from octets before sequence request is =
      let old = before sequence request (subst (λ (asked : ℕ → Option FrameParts). asked sequence ≡ Some request) (asked-taken place known) is) in
      (old.0, omega (arith, old.1, (took-talk from octets a.talk).posted))

  -- a whole answer
  answered-still : (known : Known) (events : List Event) (a : Asking ReaderParts) (from : Addr) (octets : List ℕ) (place : Option ℕ) (r : ReaderParts)
      → (stands : IsStillAt t query server passing all known (Took from octets ∷ events) a) → a.waits ≡ true → IsToldAt t server known from (frame_at octets) place
      → IsStillTake t server query.filter passing all from (frame_at octets) place → (frame_at octets).sequence ≡ a.talk.posted
      → IsStillAnswer t query passing a.plan (length stands.going.front) place r
      → IsStillAt t query server passing all (after_taken place known) events (ready (after_event (Took from octets) a.talk) r)
  answered-still known events a from octets place r stands waits told take current answer =
      let f = frame_at octets in
      let took = took-talk from octets a.talk in
      let count = length stands.going.front in
      let posts : a.talk.posted + left_to_post true a.plan.nonce a.plan.end ≤ count + 2 = subst (λ (w : Bool). a.talk.posted + left_to_post w a.plan.nonce a.plan.end ≤ count + 2) waits stands.posts in
      let (m, is, counted) = subst (λ (w : Bool). IsCounted w all a.talk.posted count) waits stands.counted in
      let few : takes_of (suc m) all ≤ parts_at t place = subst (λ (s : ℕ). takes_of s all ≤ parts_at t place) (current ∙ is) take.few in
      let counted_next : taken_to (suc m) all ≤ 6 * length answer.next.front + 7 * suc m = omega (arith, counted, few, answer.parts) in
      let posted_is : (after_event (Took from octets) a.talk).posted ≡ suc m = took.posted ∙ is in
      record {
        going = answer.next;
        server_is = after_event-server (Took from octets) a.talk ∙ stands.server_is;
        quiet = took.quiet stands.quiet;
        asked = took-asked known place a from octets stands.asked;
        posts = omega (arith, posts, answer.posts, took.posted);
        counted = subst (λ (n : ℕ). taken_to n all ≤ 6 * length answer.next.front + 7 * n) (sym posted_is) counted_next;
        unused = λ n most. took-unused known events a from octets place stands told take.from_server n (omega (arith, most, took.posted));
        due = tt;
      }

  -- what news of a datagram do
  news-still : (known : Known) (events : List Event) (a : Asking ReaderParts) (from : Addr) (octets : List ℕ) (place : Option ℕ) (rest : List (Option ℕ)) (news : News)
      → (stands : IsStillAt t query server passing all known (Took from octets ∷ events) a) → a.waits ≡ true
      → Include answers t server (Took from octets ∷ events) (place ∷ rest) → IsToldAt t server known from (frame_at octets) place
      → IsStillTake t server query.filter passing all from (frame_at octets) place → news_of (Took from octets) a.talk ≡ news → IsNewsOf answers (Took from octets) a.talk news
      → IsStillAt t query server passing all (after_taken place known) events
      (record { talk = after_event (Took from octets) a.talk; plan = told listing_dialogue news a.plan; waits = waits_on news })
  news-still known events a from octets place rest Nothing stands waits include told_at take news_is here =
      let took = took-talk from octets a.talk in
      let count = length stands.going.front in
      let posts : a.talk.posted + left_to_post true a.plan.nonce a.plan.end ≤ count + 2 = subst (λ (w : Bool). a.talk.posted + left_to_post w a.plan.nonce a.plan.end ≤ count + 2) waits stands.posts in
      let counted : IsCounted true all a.talk.posted count = subst (λ (w : Bool). IsCounted w all a.talk.posted count) waits stands.counted in
      let due : IsDue true known a.talk a.plan = subst (λ (w : Bool). IsDue w known a.talk a.plan) waits stands.due in
      record {
        going = stands.going;
        server_is = after_event-server (Took from octets) a.talk ∙ stands.server_is;
        quiet = took.quiet stands.quiet;
        asked = took-asked known place a from octets stands.asked;
        posts = omega (arith, posts, took.posted);
        counted = subst (λ (n : ℕ). IsCounted true all n count) (sym took.posted) counted;
        unused = λ n most. took-unused known events a from octets place stands told_at take.from_server n (omega (arith, most, took.posted));
        due = (
          due.0,
          subst (λ (asked : ℕ → Option FrameParts). asked (after_event (Took from octets) a.talk).posted ≡ Some (request_parts (request_with a.plan a.plan.nonce) (after_event (Took from octets) a.talk).posted)) (sym (asked-taken place known))
              (subst (λ (n : ℕ). known.asked n ≡ Some (request_parts (request_with a.plan a.plan.nonce) n)) (sym took.posted) due.1),
        );
      }
  news-still known events a from octets place rest Quiet stands waits include told_at take news_is here = absurd (took-quiet from octets a.talk news_is)
  news-still known events a from octets place rest (Answered status text) stands waits include told_at take news_is here =
      let due : IsDue true known a.talk a.plan = subst (λ (w : Bool). IsDue w known a.talk a.plan) waits stands.due in
      let taken = taken-told known a.talk from octets events place rest (Tells status text) stands.server_is include told_at here in
      let answered = subst (λ (request : Option FrameParts). AnswersSent t request (known.floor a.talk.posted) place (frame_at octets)) due.1 taken.answered in
      answered-still known events a from octets place (after_whole status text a.plan) stands waits told_at take taken.current
      (still-whole lower names t query passing (known.floor a.talk.posted) a.talk.posted a.plan (frame_at octets) telling is_query stands.going due.0
      a.plan.nonce refl place status text answered take.of_list taken.so)
  news-still known events a from octets place rest (Denied code) stands waits include told_at take news_is here =
      let due : IsDue true known a.talk a.plan = subst (λ (w : Bool). IsDue w known a.talk a.plan) waits stands.due in
      let taken = taken-told known a.talk from octets events place rest (λ answer. answer ≡ Refusal code) stands.server_is include told_at here in
      let answered = subst (λ (request : Option FrameParts). AnswersSent t request (known.floor a.talk.posted) place (frame_at octets)) due.1 taken.answered in
      absurd (still-answered lower names t query passing (known.floor a.talk.posted) a.talk.posted a.plan (frame_at octets) telling is_query stands.going due.0
      a.plan.nonce refl place code answered take.of_list taken.so)

  -- a listing stands so after all events
  goes-still : (events : List Event) (rest : List (Option ℕ)) (known : Known) (a : Asking ReaderParts) → Follows listing_dialogue a events → IsToldFrom t server known events rest
      → EachIsTold listing_dialogue answers a events → Include answers t server events rest → AreOfList t server query.filter passing events rest → EachTake (IsFew t all) events rest → IsStillAt t query server passing all known events a
      → (last : Known) × IsStillAt t query server passing all last [] (after_all listing_dialogue events a)
  goes-still [] rest known a follows told_from each include calm few stands = (known, stands)
  goes-still (Silence ∷ events) rest known a (next, follows) told_from each include calm few stands = absurd calm
  goes-still (Sent to octets ∷ events) rest known a (next, follows) told_from each include calm few stands =
      goes-still events rest (after_sent (frame_at octets) known) (after_one listing_dialogue (Sent to octets) a) follows told_from each.1 include calm few
      (sent-still known events a to octets next stands)
  goes-still (Took from octets ∷ events) [] known a (next, follows) told_from each include calm few stands = absurd told_from
  goes-still (Took from octets ∷ events) (place ∷ rest) known a (next, follows) told_from each include calm few stands =
      goes-still events rest (after_taken place known) (after_one listing_dialogue (Took from octets) a) follows told_from.1 each.1
      (Include-later answers t server from octets events place rest include) calm.2 few.1
      (news-still known events a from octets place rest (news_of (Took from octets) a.talk) stands (took-waits a.waits (due_of a.plan) a.talk from octets next.turn) include told_from.0
      (record { from_server = calm.0; of_list = calm.1; few = few.0 }) refl each.0)

-- how a client stands after a still trace: it has not given up, it posted few requests, and its listing completed if it ended
pub record IsStillEnd (a : Asking ReaderParts) : Type 0 where
  pub unstuck : stuck a.talk ≡ None
  pub few : a.talk.posted ≤ MAX_DEPTH + 2
  pub complete : IsCompleteIf a.plan.end

-- all that was taken is little
counted-most : (t : Telling) (all : List Event) (places : List (Option ℕ)) (waits : Bool) (posted count : ℕ) → IsTelling t → EachTake (IsFew t all) all places
    → count ≤ MAX_DEPTH → posted ≤ MAX_DEPTH + 2 → IsCounted waits all posted count → taken_to posted all < 1000000
counted-most t all places false posted count telling each few posts counted = omega (arith, few, posts, counted)
counted-most t all places true posted count telling each few posts (m, is, counted) =
    let last = takes-most t all places (suc m) telling each in
    subst (λ (n : ℕ). taken_to n all < 1000000) (sym is) (omega (arith, few, posts, is, counted, last))

-- a listing over a still trace
pub still-listing : (lower : LowerLaws) (names : NamesFour) (t : Telling) (server : Addr) (query : Query) (events : List Event) (places : List (Option ℕ)) → IsTelling t → IsQuery query
    → Follows listing_dialogue (ready (new_talk server) (new_reader query)) events → IsToldFrom t server nothing_known events places → IsStill t server query.filter events places
    → IsStillEnd (after_all listing_dialogue events (ready (new_talk server) (new_reader query)))
still-listing lower names t server query events places telling is_query follows told_from still =
    let a = ready (new_talk server) (new_reader query) in
    let answers = answers_by t server events places in
    let begins : IsStillAt t query server still.passing events nothing_known events a = record {
      going = record {
        query_is = refl;
        nonce = tt;
        front = [];
        rest = still.passing;
        parts = refl;
        tellable = tt;
        fits = tt;
        few = omega arith;
        trail = refl;
        end = tt;
      };
      server_is = refl;
      quiet = refl;
      asked = λ sequence request is. absurd (cc is);
      posts = omega arith;
      counted = omega arith;
      unused = λ n most. omega arith;
      due = tt;
    } in
    let (last, ends) = goes-still lower names t query server still.passing events answers telling is_query events places nothing_known a follows told_from
    (each-told lower t (new_talk server) query events places telling told_from follows) (λ sequence answer among. among) still.each still.few begins in
    let over = after_all listing_dialogue events a in
    let few : over.talk.posted ≤ MAX_DEPTH + 2 = omega (arith, ends.posts, ends.going.few) in
    let most = counted-most t events places over.waits over.talk.posted (length ends.going.front) telling still.few ends.going.few few ends.counted in
    record {
      unstuck = None-stuck over.talk (omega (arith, ends.quiet)) (omega (arith, most, ends.unused over.talk.posted (omega arith)));
      few = few;
      complete = ends.going.end;
    }
