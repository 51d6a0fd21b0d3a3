-- What a client is told are the server's answers.
use Rattle.std.proofs.Common.{◌≡◌, ◌≢◌, ℕ, ◌+◌, Bool, true, false, cond, not, ◌&&◌, Option, Some, None, List, [], ◌∷◌, Result, Ok, Err, refl, sym, ap, subst, ◌∙◌}
use Rattle.std.specs.Prelude.{Contains}
use Rattle.std.specs.List.{AllByRecursion}
use Rattle.std.proofs.lemmas.Bool.{eqb-true}
use Rattle.net_addr.specs.Addresses.{same_addr}
use Rattle.net_addr.specs.declared.addr.Addr.{Addr}
use Rattle.net_addr.specs.declared.addr.Ip.{Ip}
use Rattle.net_addr.proofs.AddressLemmas.{same_ip-eq}
use Rattle.edge_traits.specs.declared.port.Event.{Event}
use Rattle.edge_traits.specs.declared.port.Event.TheVariants.{Took, Silence, Sent}
use Rattle.mode6_frame.specs.declared.groups.Step.{Step}
use Rattle.mode6_frame.specs.declared.groups.Step.TheVariants as Then
use Rattle.mode6_frame.specs.declared.groups.Unused.{Unused}
use Rattle.mode6_frame.specs.declared.groups.Unused.TheVariants.{NotAnswer, OtherSequence, OtherOpcode}
use Rattle.mode6_frame.specs.declared.message.FrameFault.{FrameFault}
use Rattle.mode6_frame.specs.Frames.{FrameParts, frame_fault_of}
use Rattle.mode6_frame.specs.Groups.{GroupsParts, mismatch_of, step_of, kept_after}
use Rattle.mode6_frame.specs.Places.{frame_at}
use Rattle.mode6_frame.specs.Served.{Served, Refusal, IsDatagramOf, Tells, AreServed, AreOf, IsTold}
use Rattle.mode6_frame.proofs.ServedLemmas.{AreOf-kept_after, IsTold-step_of}
use Rattle.ntpq_client.specs.declared.fault.AskFault.{AskFault}
use Rattle.ntpq_client.specs.declared.fault.AskFault.TheVariants.{Port, Closed, NoReply, Refused, Incomplete, Flooded, NoMemory}
use Rattle.ntpq_client.specs.declared.news.News.{News}
use Rattle.ntpq_client.specs.declared.news.News.TheVariants.{Nothing, Answered, Denied, Quiet}
use Rattle.ntpq_client.specs.declared.request.Request.{Request}
use Rattle.ntpq_client.specs.Talks.{Talk, frame_unless, heard, step_heard, after_step, after_heard, heard_news, step_news, after_event, news_of}
use Rattle.ntpq_client.specs.Dialogues.{Dialogue, Asking, Goes, Follows, IsNext, IsPosted, IsTurn, after_one, after_all, told, waits_on, ready, asking, due_again}
use Rattle.ntpq_client.specs.Answered.{IsOfOne, IsAnswered, AreAnswers, IsToldBy, TookOf, IsNewsOf, EachIsTold, LastTold, AnswersOne}
use Rattle.ntpq_client.specs.Ends.{AskEnds}

-- what a client that waits keeps is of these answers, and is of the request that it posted last
pub record IsHeld (answers : ℕ → List Served) (t : Talk) : Type 0 where
  pub kept : AreOf (answers t.posted) t.current
  pub current : t.current.sequence ≡ t.posted

-- so it is of a client that waits amid a dialogue
abbrev pub Held : {S : Type 0} → (ℕ → List Served) → Asking S → Type 0
Held answers a = a.waits ≡ true → IsHeld answers a.talk

both : (x y : Bool) → (x && y) ≡ true → (x ≡ true) × (y ≡ true)
both true true is = (refl, refl)
both true false is = absurd (cc is)
both false y is = absurd (cc is)

-- addresses that are the same are equal
same_addr-eq : (one other : Addr) → same_addr one other ≡ true → one ≡ other
same_addr-eq one other same =
    let parts = both _ _ same in
    let ip : one.ip ≡ other.ip = same_ip-eq one.ip other.ip parts.0 in
    let port : one.port ≡ other.port = eqb-true _ _ parts.1 in
    let at : Ip → ℕ → Addr = λ (i : Ip) (p : ℕ). record { ip = i; port = p } in
    ap (λ (i : Ip). at i one.port) ip ∙ ap (at other.ip) port

heard_by : (same : Bool) (fault : Option FrameFault) (octets : List ℕ) (f : FrameParts) → cond same (frame_unless fault octets) None ≡ Some f → (same ≡ true) × (f ≡ frame_at octets)
heard_by true None octets f is = (refl, cc is)
heard_by true (Some why) octets f is = absurd (cc is)
heard_by false fault octets f is = absurd (cc is)

-- what is heard comes from the server, and is the control message in the octets
heard-Some : (server from : Addr) (octets : List ℕ) (f : FrameParts) → heard server from octets ≡ Some f → (from ≡ server) × (f ≡ frame_at octets)
unfolding heard
heard-Some server from octets f is =
    let by = heard_by (same_addr from server) (frame_fault_of octets) octets f is in
    (same_addr-eq from server by.0, by.1)

matching : (response same_sequence same_opcode : Bool) → cond (not response) (Some NotAnswer) (cond (not same_sequence) (Some OtherSequence) (cond (not same_opcode) (Some OtherOpcode) None)) ≡ None → same_sequence ≡ true
matching true true o is = refl
matching true false o is = absurd (cc is)
matching false s o is = absurd (cc is)

-- a response to a request has its sequence number
mismatch_of-None : (g : GroupsParts) (f : FrameParts) → mismatch_of g f ≡ None → f.sequence ≡ g.sequence
mismatch_of-None g f is = eqb-true _ _ (matching f.response _ _ is)

-- what is no response to a request is not used, and leaves what is kept
step_of-mismatch : (g : GroupsParts) (f : FrameParts) (why : Unused) → mismatch_of g f ≡ Some why → (step_of g f ≡ Then.Unused why) × (kept_after g f ≡ g)
unfolding step_of kept_after
step_of-mismatch g f why is = rw is (refl, refl)

-- what is kept is of the same request
kept_after-sequence : (g : GroupsParts) (f : FrameParts) → (kept_after g f).sequence ≡ g.sequence
unfolding kept_after
kept_after-sequence g f = refl

-- what is used has the sequence number of the request
used-sequence : (g : GroupsParts) (f : FrameParts) → ((why : Unused) → step_of g f ≢ Then.Unused why) → f.sequence ≡ g.sequence
used-sequence g f used =
    let by_cause = elim (mismatch_of g f) as (λ m. mismatch_of g f ≡ m → f.sequence ≡ g.sequence) [
      | None ↦ λ is. mismatch_of-None g f is
      | Some why ↦ λ is. absurd (used why (step_of-mismatch g f why is).0)
    ] in
    by_cause refl

-- what is kept after a datagram of these answers is of these answers
kept_after-held : (answers : ℕ → List Served) (n : ℕ) (g : GroupsParts) (f : FrameParts) → ((sequence : ℕ) → AreServed (answers sequence)) → IsOfOne (answers f.sequence) f → g.sequence ≡ n → AreOf (answers n) g → AreOf (answers n) (kept_after g f)
kept_after-held answers n g f served of_one current kept =
    let by_cause = elim (mismatch_of g f) as (λ m. mismatch_of g f ≡ m → AreOf (answers n) (kept_after g f)) [
      | None ↦ λ is.
          let same : f.sequence ≡ n = mismatch_of-None g f is ∙ current in
          let here = subst (λ (k : ℕ). IsOfOne (answers k) f) same of_one in
          AreOf-kept_after (answers n) here.0 g f (served n) here.1 here.2 kept
      | Some why ↦ λ is. subst (AreOf (answers n)) (sym (step_of-mismatch g f why is).1) kept
    ] in
    by_cause refl

-- a step leaves what was kept of these answers
after_step-held : (answers : ℕ → List Served) (step : Option Step) (t : Talk) (g : GroupsParts) → AreOf (answers t.posted) g → g.sequence ≡ t.posted → IsHeld answers (after_step step t g)
after_step-held answers None t g kept current = record { kept = kept; current = current }
after_step-held answers (Some (Then.Unused why)) t g kept current = record { kept = kept; current = current }
after_step-held answers (Some Then.Waiting) t g kept current = record { kept = kept; current = current }
after_step-held answers (Some (Then.Refused code)) t g kept current = record { kept = kept; current = current }
after_step-held answers (Some (Then.Whole status text)) t g kept current = record { kept = kept; current = current }

-- so does a datagram
took-held : (answers : ℕ → List Served) (t : Talk) (from : Addr) (octets : List ℕ) (h : Option FrameParts) → heard t.server from octets ≡ h → ((sequence : ℕ) → AreServed (answers sequence)) → IsAnswered t.server answers (Took from octets) → IsHeld answers t → IsHeld answers (after_heard h t)
unfolding after_heard
took-held answers t from octets None is served answered held = after_step-held answers None t t.current held.kept held.current
took-held answers t from octets (Some f) is served answered held =
    let by = heard-Some t.server from octets f is in
    let of_one = subst (λ (k : FrameParts). IsOfOne (answers k.sequence) k) (sym by.1) (answered by.0) in
    after_step-held answers (Some (step_of t.current f)) t (kept_after t.current f)
    (kept_after-held answers t.posted t.current f served of_one held.current held.kept)
    (kept_after-sequence t.current f ∙ held.current)

-- a datagram that is used tells an answer that it is a datagram of
told-used : (answers : ℕ → List Served) (t : Talk) (octets : List ℕ) (f : FrameParts) (P : Served → Type 0) → f ≡ frame_at octets → ((sequence : ℕ) → AreServed (answers sequence)) → IsOfOne (answers f.sequence) f → IsHeld answers t → ((why : Unused) → step_of t.current f ≢ Then.Unused why) → ((answer : Served) → IsTold answer (step_of t.current f) → P answer) → IsToldBy answers t octets P
told-used answers t octets f P f_is served of_one held used tells =
    let same : f.sequence ≡ t.posted = used-sequence t.current f used ∙ held.current in
    let here = subst (λ (k : ℕ). IsOfOne (answers k) f) same of_one in
    record {
      answer = here.0;
      current = ap (λ (k : FrameParts). k.sequence) (sym f_is) ∙ same;
      among = here.1;
      datagram = subst (IsDatagramOf here.0) f_is here.2;
      told = tells here.0 (IsTold-step_of (answers t.posted) here.0 t.current f (served t.posted) here.1 here.2 held.kept);
      each = λ other among datagram. tells other (IsTold-step_of (answers t.posted) other t.current f (served t.posted) among (subst (IsDatagramOf other) (sym f_is) datagram) held.kept);
    }

-- what a step is to a client, of these answers
step-told : (answers : ℕ → List Served) (t : Talk) (from : Addr) (octets : List ℕ) (f : FrameParts) (step : Step) → step_of t.current f ≡ step → from ≡ t.server → f ≡ frame_at octets → ((sequence : ℕ) → AreServed (answers sequence)) → IsOfOne (answers f.sequence) f → IsHeld answers t → IsNewsOf answers (Took from octets) t (step_news (Some step))
step-told answers t from octets f (Then.Unused why) is from_is f_is served of_one held = tt
step-told answers t from octets f Then.Waiting is from_is f_is served of_one held = tt
step-told answers t from octets f (Then.Refused code) is from_is f_is served of_one held =
    (octets, ap (λ (a : Addr). Took a octets) from_is, told-used answers t octets f (λ answer. answer ≡ Refusal code) f_is served of_one held (λ why unused. absurd (cc (is, unused))) (λ answer told. subst (IsTold answer) is told))
step-told answers t from octets f (Then.Whole status text) is from_is f_is served of_one held =
    (octets, ap (λ (a : Addr). Took a octets) from_is, told-used answers t octets f (Tells status text) f_is served of_one held (λ why unused. absurd (cc (is, unused))) (λ answer told. subst (IsTold answer) is told))

-- what a datagram is to a client, of these answers
took-told : (answers : ℕ → List Served) (t : Talk) (from : Addr) (octets : List ℕ) (h : Option FrameParts) → heard t.server from octets ≡ h → ((sequence : ℕ) → AreServed (answers sequence)) → IsAnswered t.server answers (Took from octets) → IsHeld answers t → IsNewsOf answers (Took from octets) t (heard_news h t)
unfolding heard_news
took-told answers t from octets None is served answered held = tt
took-told answers t from octets (Some f) is served answered held =
    let by = heard-Some t.server from octets f is in
    let of_one = subst (λ (k : FrameParts). IsOfOne (answers k.sequence) k) (sym by.1) (answered by.0) in
    step-told answers t from octets f (step_of t.current f) refl by.0 by.1 served of_one held

-- only one that waits takes
taker-waits : (waits : Bool) (due : Option Request) (t : Talk) (from : Addr) (octets : List ℕ) → IsTurn waits due t (Took from octets) → waits ≡ true
taker-waits true due t from octets turn = refl
taker-waits false None t from octets turn = absurd turn
taker-waits false (Some request) t from octets turn = absurd (cc turn.posted)

-- what one posts has the next sequence number
posted-sequence : (waits : Bool) (due : Option Request) (t : Talk) (to : Addr) (octets : List ℕ) → IsTurn waits due t (Sent to octets) → (frame_at octets).sequence ≡ t.posted + 1
posted-sequence true due t to octets turn = absurd turn
posted-sequence false None t to octets turn = absurd turn
posted-sequence false (Some request) t to octets turn =
    let same : octets ≡ Rattle.ntpq_client.specs.Requests.request_octets request (t.posted + 1) = cc turn.posted in
    ap (λ (o : List ℕ). (frame_at o).sequence) same ∙ ap (λ (k : FrameParts). k.sequence) turn.reads

-- one event leaves what a client that waits keeps of these answers
after_one-held : {S : Type 0} (d : Dialogue S) (answers : ℕ → List Served) (event : Event) (a : Asking S) → IsNext d a event → ((sequence : ℕ) → AreServed (answers sequence)) → IsAnswered a.talk.server answers event → Held answers a → Held answers (after_one d event a)
unfolding after_event news_of
after_one-held d answers (Sent to octets) a next served answered held = λ waits. record { kept = tt; current = posted-sequence a.waits (d.due a.plan) a.talk to octets next.turn }
after_one-held d answers Silence a next served answered held = λ waits. absurd (cc waits)
after_one-held d answers (Took from octets) a next served answered held = λ waits.
    took-held answers a.talk from octets (heard a.talk.server from octets) refl served answered (held (taker-waits a.waits (d.due a.plan) a.talk from octets next.turn))

-- what one event is to a client, of these answers
event-told : {S : Type 0} (d : Dialogue S) (answers : ℕ → List Served) (event : Event) (a : Asking S) → IsNext d a event → ((sequence : ℕ) → AreServed (answers sequence)) → IsAnswered a.talk.server answers event → Held answers a → IsNewsOf answers event a.talk (news_of event a.talk)
unfolding news_of
event-told d answers (Sent to octets) a next served answered held = tt
event-told d answers Silence a next served answered held = tt
event-told d answers (Took from octets) a next served answered held =
    took-told answers a.talk from octets (heard a.talk.server from octets) refl served answered (held (taker-waits a.waits (d.due a.plan) a.talk from octets next.turn))

after_step-server : (step : Option Step) (t : Talk) (g : GroupsParts) → (after_step step t g).server ≡ t.server
after_step-server None t g = refl
after_step-server (Some (Then.Unused why)) t g = refl
after_step-server (Some Then.Waiting) t g = refl
after_step-server (Some (Then.Refused code)) t g = refl
after_step-server (Some (Then.Whole status text)) t g = refl

after_step-posted : (step : Option Step) (t : Talk) (g : GroupsParts) → (after_step step t g).posted ≡ t.posted
after_step-posted None t g = refl
after_step-posted (Some (Then.Unused why)) t g = refl
after_step-posted (Some Then.Waiting) t g = refl
after_step-posted (Some (Then.Refused code)) t g = refl
after_step-posted (Some (Then.Whole status text)) t g = refl

-- a client keeps its server
pub after_event-server : (event : Event) (t : Talk) → (after_event event t).server ≡ t.server
unfolding after_event after_heard
after_event-server (Sent to octets) t = refl
after_event-server Silence t = refl
after_event-server (Took from octets) t = after_step-server (step_heard t.current (heard t.server from octets)) t _

-- each news of a dialogue are of these answers
pub EachIsTold-Follows : {S : Type 0} (d : Dialogue S) (answers : ℕ → List Served) (events : List Event) (a : Asking S) → ((sequence : ℕ) → AreServed (answers sequence)) → Follows d a events → AllByRecursion (IsAnswered a.talk.server answers) events → Held answers a → EachIsTold d answers a events
EachIsTold-Follows d answers [] a served follows answered held = tt
EachIsTold-Follows d answers (event ∷ events) a served (next, follows) answered held = (
  event-told d answers event a next served answered.0 held,
  EachIsTold-Follows d answers events (after_one d event a) served follows
      (subst (λ (server : Addr). AllByRecursion (IsAnswered server answers) events) (sym (after_event-server event a.talk)) answered.1)
      (after_one-held d answers event a next served answered.0 held),
)

-- each news of a dialogue that begins with a request are of the answers that served what was taken
pub EachIsTold-Goes : {S : Type 0} (d : Dialogue S) (t : Talk) (plan : S) (to : Asking S) (before after : Option (List Event)) (goes : Goes d (ready t plan) to before after) (answers : ℕ → List Served) → AreAnswers t.server answers goes.events → EachIsTold d answers (ready t plan) goes.events
EachIsTold-Goes d t plan to before after goes answers served =
    EachIsTold-Follows d answers goes.events (ready t plan) served.served goes.follows served.taken (λ waits. absurd (cc waits))

-- what holds of a dialogue as far as it has come, and goes on to hold with each news of these answers, holds at its end
pub EachIsTold-keeps : {S : Type 0} (d : Dialogue S) (answers : ℕ → List Served) (Good : S → Type 0) → ((event : Event) (t : Talk) (news : News) (plan : S) → IsNewsOf answers event t news → Good plan → Good (told d news plan)) → (events : List Event) (a : Asking S) → EachIsTold d answers a events → Good a.plan → Good (after_all d events a).plan
EachIsTold-keeps d answers Good keeps [] a each good = good
EachIsTold-keeps d answers Good keeps (event ∷ events) a (here, each) good =
    EachIsTold-keeps d answers Good keeps events (after_one d event a) each (keeps event a.talk (news_of event a.talk) a.plan here good)

-- a client keeps its server throughout a dialogue
pub after_all-server : {S : Type 0} (d : Dialogue S) (events : List Event) (a : Asking S) → (after_all d events a).talk.server ≡ a.talk.server
after_all-server d [] a = refl
after_all-server d (event ∷ events) a = after_all-server d events (after_one d event a) ∙ after_event-server event a.talk

-- what one event leaves of the number of requests, unless it posts one
posted-event : (event : Event) (t : Talk) → news_of event t ≢ Nothing → (after_event event t).posted ≡ t.posted
unfolding after_event news_of after_heard
posted-event (Sent to octets) t told = absurd (told refl)
posted-event Silence t told = refl
posted-event (Took from octets) t told = after_step-posted (step_heard t.current (heard t.server from octets)) t _

-- the last event of a dialogue of one request told the answer, of which this is so where it is so of the event's news
LastTold-one : (answers : ℕ → List Served) (event : Event) (t : Talk) (P : Served → Type 0) → news_of event t ≢ Nothing → TookOf answers event t P → LastTold answers (after_event event t) (event ∷ []) P
LastTold-one answers event t P told (octets, took, by) =
    let server = after_event-server event t in
    let posted = posted-event event t told in (
      [],
      octets,
      ap (λ (e : Event). e ∷ []) took ∙ ap (λ (a : Addr). Took a octets ∷ []) (sym server),
      record {
        answer = by.answer;
        current = by.current ∙ sym posted;
        among = subst (λ (n : ℕ). Contains (answers n) by.answer) (sym posted) by.among;
        datagram = by.datagram;
        told = by.told;
        each = λ other among datagram. by.each other (subst (λ (n : ℕ). Contains (answers n) other) posted among) datagram;
      },
    )

-- one event before them
LastTold-later : (answers : ℕ → List Served) (event : Event) (events : List Event) (t : Talk) (P : Served → Type 0) → LastTold answers t events P → LastTold answers t (event ∷ events) P
LastTold-later answers event events t P (before, octets, last, by) = (event ∷ before, octets, ap (λ (more : List Event). event ∷ more) last, by)

-- nothing follows the outcome of one request
over : (request : Request) (t : Talk) (news : News) (events : List Event) → due_again request news ≡ None → Follows (asking request) (ready t news) events → events ≡ []
over request t news [] none follows = refl
over request t news (event ∷ events) none (next, follows) = absurd (subst (λ (r : Option Request). IsPosted r t event) none next.turn)

-- an event of the dialogue of one request, before others that lead to this news
outcome-step : (request : Request) (answers : ℕ → List Served) (P : Served → Type 0) (news : News) → due_again request news ≡ None → ((event : Event) (t : Talk) → IsNewsOf answers event t news → TookOf answers event t P) → (event : Event) (events : List Event) (t : Talk) (plan n : News) → news_of event t ≡ n → IsNewsOf answers event t n → Follows (asking request) (record { talk = after_event event t; plan = told (asking request) n plan; waits = waits_on n }) events → (told (asking request) n plan ≢ news → (after_all (asking request) events (record { talk = after_event event t; plan = told (asking request) n plan; waits = waits_on n })).plan ≡ news → LastTold answers (after_all (asking request) events (record { talk = after_event event t; plan = told (asking request) n plan; waits = waits_on n })).talk events P) → plan ≢ news → (after_all (asking request) events (record { talk = after_event event t; plan = told (asking request) n plan; waits = waits_on n })).plan ≡ news → LastTold answers (after_all (asking request) events (record { talk = after_event event t; plan = told (asking request) n plan; waits = waits_on n })).talk (event ∷ events) P
outcome-step request answers P news none took event events t plan Nothing same here follows later unmet is = LastTold-later answers event events _ P (later unmet is)
outcome-step request answers P news none took event events t plan Quiet same here follows later unmet is = LastTold-later answers event events _ P (later (λ quiet. absurd (cc (ap (due_again request) quiet, none))) is)
outcome-step request answers P news none took event events t plan (Answered status text) same here follows later unmet is =
    let E : List Event → Type 0 = λ (es : List Event). (after_all (asking request) es (ready (after_event event t) (Answered status text))).plan ≡ news → LastTold answers (after_all (asking request) es (ready (after_event event t) (Answered status text))).talk (event ∷ es) P in
    let one : E [] = λ so. LastTold-one answers event t P (λ no. absurd (cc (same, no))) (took event t (subst (IsNewsOf answers event t) so here)) in
    subst E (sym (over request (after_event event t) (Answered status text) events refl follows)) one is
outcome-step request answers P news none took event events t plan (Denied code) same here follows later unmet is =
    let E : List Event → Type 0 = λ (es : List Event). (after_all (asking request) es (ready (after_event event t) (Denied code))).plan ≡ news → LastTold answers (after_all (asking request) es (ready (after_event event t) (Denied code))).talk (event ∷ es) P in
    let one : E [] = λ so. LastTold-one answers event t P (λ no. absurd (cc (same, no))) (took event t (subst (IsNewsOf answers event t) so here)) in
    subst E (sym (over request (after_event event t) (Denied code) events refl follows)) one is

-- what one request comes to is told by the last event
outcome-told : (request : Request) (answers : ℕ → List Served) (P : Served → Type 0) (news : News) → due_again request news ≡ None → ((event : Event) (t : Talk) → IsNewsOf answers event t news → TookOf answers event t P) → (events : List Event) (a : Asking News) → Follows (asking request) a events → EachIsTold (asking request) answers a events → a.plan ≢ news → (after_all (asking request) events a).plan ≡ news → LastTold answers (after_all (asking request) events a).talk events P
outcome-told request answers P news none took [] a follows each unmet is = absurd (unmet is)
outcome-told request answers P news none took (event ∷ events) a (next, follows) (here, each) unmet is =
    outcome-step request answers P news none took event events a.talk a.plan (news_of event a.talk) refl here follows
    (outcome-told request answers P news none took events (after_one (asking request) event a) follows each) unmet is

-- where one request came to this news, the last event told it
LastTold-Goes : (request : Request) (old : Talk) (to : Asking News) (before after : Option (List Event)) (goes : Goes (asking request) (ready old Nothing) to before after) (answers : ℕ → List Served) (P : Served → Type 0) (news : News) → due_again request news ≡ None → ((event : Event) (t : Talk) → IsNewsOf answers event t news → TookOf answers event t P) → AreAnswers old.server answers goes.events → Nothing ≢ news → to.plan ≡ news → LastTold answers to.talk goes.events P
LastTold-Goes request old to before after goes answers P news none took served unmet is =
    subst (λ (a : Asking News). LastTold answers a.talk goes.events P) goes.leads
    (outcome-told request answers P news none took goes.events (ready old Nothing) goes.follows
    (EachIsTold-Goes (asking request) old Nothing to before after goes answers served) unmet
    (ap (λ (a : Asking News). a.plan) goes.leads ∙ is))

-- what is answered to one request is one of the answers that served what was taken, the one whose datagram was taken last
pub AnswersOne-Goes : (request : Request) (old : Talk) (to : Asking News) (before after : Option (List Event)) (goes : Goes (asking request) (ready old Nothing) to before after) (result : Result (ℕ × List ℕ) AskFault) → AskEnds request result to → (answers : ℕ → List Served) → AreAnswers old.server answers goes.events → AnswersOne answers result to.talk goes.events
AnswersOne-Goes request old to before after goes (Ok answer) ends answers served =
    LastTold-Goes request old to before after goes answers (Tells answer.0 answer.1) (Answered answer.0 answer.1) refl (λ event t news. news) served (λ is. absurd (cc is)) ends.2
AnswersOne-Goes request old to before after goes (Err (Refused code)) ends answers served =
    LastTold-Goes request old to before after goes answers (λ answer. answer ≡ Refusal code) (Denied code) refl (λ event t news. news) served (λ is. absurd (cc is)) ends.2
AnswersOne-Goes request old to before after goes (Err Port) ends answers served = tt
AnswersOne-Goes request old to before after goes (Err Closed) ends answers served = tt
AnswersOne-Goes request old to before after goes (Err NoReply) ends answers served = tt
AnswersOne-Goes request old to before after goes (Err Incomplete) ends answers served = tt
AnswersOne-Goes request old to before after goes (Err Flooded) ends answers served = tt
AnswersOne-Goes request old to before after goes (Err NoMemory) ends answers served = tt
