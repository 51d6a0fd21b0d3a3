-- What a client took was served by the answers that a history has.
use Rattle.std.proofs.Common.{◌≡◌, inl, inr, ℕ, zero, suc, ◌/◌, ◌^◌, ◌≤◌, Bool, true, List, [], ◌∷◌, length, Option, Some, None, refl, sym, ap, subst, ◌∙◌, arith}
use Rattle.std.specs.Prelude.{Contains}
use Rattle.std.specs.List.{AllByRecursion}
use Rattle.std.proofs.lemmas.Bool.{and_from, and_parts, cond-true, cond_both, eq-eqb, eqb-true}
use Rattle.edge_traits.specs.declared.port.Event.{Event}
use Rattle.edge_traits.specs.declared.port.Event.TheVariants.{Took, Silence, Sent}
use Rattle.mode6_frame.specs.declared.message.TheConstants.{MAX_BODY}
use Rattle.mode6_frame.specs.Frames.{FrameParts}
use Rattle.mode6_frame.specs.Groups.{is_tagged}
use Rattle.mode6_frame.specs.Places.{frame_at}
use Rattle.mode6_frame.specs.Served.{AreServed, Body, IsDatagramOf, IsServed, Served}
use Rattle.mru_read.specs.declared.pages.Page.{Page}
use Rattle.mru_read.specs.Histories.{Move, list_at, page_at}
use Rattle.mrulist_coverage.specs.Tellings.{Answers, AnswersSent, IsOfNonce, IsOfPage, IsOfRead, IsTelling, IsToldFrom, Known, Telling, after_sent, after_taken, nothing_known}
use Rattle.mrulist_coverage.proofs.LowerFacts.{LowerLaws}
use Rattle.mrulist_coverage.proofs.NonceLemmas.{nonce-short, nonce-untagged}
use Rattle.mrulist_coverage.proofs.PageLemmas.{page-IsServed}
use Rattle.mrulist_coverage.proofs.ServedBy.{answers_by, is_answer_to, served_alone, served_at, served_by, served_move, served_page}
use Rattle.mrulist_coverage.proofs.ServedLemmas.{IsOfHistory, at-IsOfHistory, body-IsOfHistory, one_by_tag, refusal-IsOfHistory}
use Rattle.net_addr.specs.Addresses.{same_addr}
use Rattle.net_addr.specs.declared.addr.Addr.{Addr}
use Rattle.net_addr.specs.declared.addr.Ip.{Ip}
use Rattle.net_addr.proofs.AddressLemmas.{same_ip-eq, same_ip-refl}
use Rattle.mru_items.specs.declared.query.Query.{Query}
use Rattle.mrulist_reader.specs.Readers.{listing_dialogue, new_reader}
use Rattle.ntpq_client.specs.Answered.{EachIsTold, IsAnswered}
use Rattle.ntpq_client.specs.Dialogues.{Follows, ready}
use Rattle.ntpq_client.specs.Talks.{Talk}
use Rattle.ntpq_client.proofs.AnsweredLemmas.{EachIsTold-Follows}

-- an address is the same as itself
same_addr-refl : (addr : Addr) → same_addr addr addr ≡ true
same_addr-refl addr = and_from _ _ (same_ip-refl addr.ip) (eq-eqb _ _ refl)

Contains-first : {X : Type 0} (x : X) (xs : List X) → Contains (x ∷ xs) x
Contains-first x xs = (0, omega arith, refl)

Contains-later : {X : Type 0} (y : X) (xs : List X) (x : X) → Contains xs x → Contains (y ∷ xs) x
Contains-later y xs x (k, within, there) = (suc k, omega arith, there)

-- what is so of the first and of each of the others is so of each
each-cons : {X : Type 0} (P : X → Type 0) (y : X) (xs : List X) → P y → ((x : X) → Contains xs x → P x) → (x : X) → Contains (y ∷ xs) x → P x
each-cons P y xs first others x (zero, within, there) = subst P there first
each-cons P y xs first others x (suc k, within, there) = others x (k, omega arith, there)

-- an answer of a history that can be sent
abbrev pub IsAnswerOf : Telling → Served → Type 0
IsAnswerOf t answer = IsServed answer × IsOfHistory t answer

-- an answer of a history that can be sent, of which this is a datagram
abbrev pub IsGivenIn : Telling → FrameParts → Served → Type 0
IsGivenIn t f answer = IsAnswerOf t answer × IsDatagramOf answer f

nonce-given : (t : Telling) (f : FrameParts) → IsOfNonce f → IsGivenIn t f (served_alone f.error f)
nonce-given t f (status, nonce, is, (error, status_is, carries)) =
    let body : IsServed (Body f.status f.body) = (
      subst (λ (octets : List ℕ). length octets ≤ MAX_BODY) (sym carries.body) (nonce-short nonce is),
      ap is_tagged carries.body ∙ nonce-untagged nonce,
    ) in
    subst (λ (b : Bool). IsGivenIn t f (served_alone b f)) (sym error)
    ((body, body-IsOfHistory t f.status f.body), (error, refl, record { offset = carries.offset; more = carries.more; body = refl }))

refusal-given : (t : Telling) (f : FrameParts) → f.error ≡ true → IsGivenIn t f (served_alone f.error f)
refusal-given t f error =
    subst (λ (b : Bool). IsGivenIn t f (served_alone b f)) (sym error) ((tt, refusal-IsOfHistory t (f.status / 2 ^ 8)), (error, refl))

page-given : (lower : LowerLaws) (t : Telling) (request f : FrameParts) (place : ℕ) (of : IsOfRead t request f place) (page : Option Page) → IsTelling t
    → page_at (list_at t.history place) of.read of.moment ≡ page → IsOfPage t place page f → IsServed (served_page t place page) × IsDatagramOf (served_page t place page) f
page-given lower t request f place of None telling is of_page = (tt, of_page)
page-given lower t request f place of (Some page) telling is of_page = (
  page-IsServed lower t place of.is_at.items of.read of.moment page (record { telling = telling; asks = of.is_at.asks; stands = of.is_at.stands; is_page = is }),
  of_page,
)

read-given : (lower : LowerLaws) (t : Telling) (request f : FrameParts) (place : ℕ) → IsTelling t → IsOfRead t request f place → IsGivenIn t f (served_at t place)
read-given lower t request f place telling of =
    let page = page_at (list_at t.history place) of.read of.moment in
    let at = subst (λ (move : Option Move). IsServed (served_move t place move) × IsDatagramOf (served_move t place move) f) (sym of.is_at.stands)
    (page-given lower t request f place of page telling refl of.of_page) in
    ((at.0, at-IsOfHistory t place), at.1)

answer-given : (lower : LowerLaws) (t : Telling) (request : FrameParts) (floor : ℕ) (place : Option ℕ) (f : FrameParts) → IsTelling t → Answers t request floor place f → IsGivenIn t f (served_by t f place)
answer-given lower t request floor None f telling (inl nonce) = nonce-given t f nonce.1
answer-given lower t request floor None f telling (inr refusal) = refusal-given t f refusal.1.0
answer-given lower t request floor (Some place) f telling (opcode, late, of) = read-given lower t request f place telling of

-- a datagram that answers is of the answer that its place has
pub sent-given : (lower : LowerLaws) (t : Telling) (request : Option FrameParts) (floor : ℕ) (place : Option ℕ) (f : FrameParts) → IsTelling t → AnswersSent t request floor place f
    → IsGivenIn t f (served_by t f place)
sent-given lower t None floor place f telling answers = absurd answers
sent-given lower t (Some request) floor place f telling answers = answer-given lower t request floor place f telling answers

-- these answers are among those
abbrev pub Include : (ℕ → List Served) → Telling → Addr → List Event → List (Option ℕ) → Type 0
Include answers t server events places = (sequence : ℕ) (answer : Served) → Contains (answers_by t server events places sequence) answer → Contains (answers sequence) answer

-- so are those to what was taken later
pub Include-later : (answers : ℕ → List Served) (t : Telling) (server from : Addr) (octets : List ℕ) (events : List Event) (place : Option ℕ) (places : List (Option ℕ))
    → Include answers t server (Took from octets ∷ events) (place ∷ places) → Include answers t server events places
Include-later answers t server from octets events place places include = λ sequence answer among.
    let later = answers_by t server events places sequence in
    include sequence answer
    (cond_both (is_answer_to server sequence from (frame_at octets)) (served_by t (frame_at octets) place ∷ later) later
    (λ (them : List Served). Contains them answer) (λ _. Contains-later _ later answer among) (λ _. among))

-- and the one to what was taken first
pub Include-here : (answers : ℕ → List Served) (t : Telling) (server from : Addr) (octets : List ℕ) (events : List Event) (place : Option ℕ) (places : List (Option ℕ))
    → Include answers t server (Took from octets ∷ events) (place ∷ places) → from ≡ server → Contains (answers (frame_at octets).sequence) (served_by t (frame_at octets) place)
Include-here answers t server from octets events place places include from_is =
    let f = frame_at octets in
    let later = answers_by t server events places f.sequence in
    let same : same_addr from server ≡ true = subst (λ (a : Addr). same_addr from a ≡ true) from_is (same_addr-refl from) in
    let here : is_answer_to server f.sequence from f ≡ true = and_from _ _ same (eq-eqb _ _ refl) in
    include f.sequence (served_by t f place)
    (subst (λ (them : List Served). Contains them (served_by t f place)) (sym (cond-true (is_answer_to server f.sequence from f) (served_by t f place ∷ later) later here))
    (Contains-first (served_by t f place) later))

-- addresses that are the same are equal
same_addr-eq : (one other : Addr) → same_addr one other ≡ true → one ≡ other
same_addr-eq one other same =
    let ip : one.ip ≡ other.ip = same_ip-eq one.ip other.ip (and_parts _ _ same).0 in
    let port : one.port ≡ other.port = eqb-true _ _ (and_parts _ _ same).1 in
    let at : Ip → ℕ → Addr = λ (i : Ip) (p : ℕ). record { ip = i; port = p } in
    ap (λ (i : Ip). at i one.port) ip ∙ ap (at other.ip) port

-- each answer to what is told from a history is of the history, and can be sent
pub answers-given : (lower : LowerLaws) (t : Telling) (server : Addr) (known : Known) (events : List Event) (places : List (Option ℕ)) → IsTelling t → IsToldFrom t server known events places
    → (sequence : ℕ) (answer : Served) → Contains (answers_by t server events places sequence) answer → IsAnswerOf t answer
answers-given lower t server known [] places telling told sequence answer (k, within, there) = absurd (omega arith)
answers-given lower t server known (Silence ∷ events) places telling told sequence answer among =
    answers-given lower t server known events places telling told sequence answer among
answers-given lower t server known (Sent to octets ∷ events) places telling told sequence answer among =
    answers-given lower t server (after_sent (frame_at octets) known) events places telling told sequence answer among
answers-given lower t server known (Took from octets ∷ events) [] telling told sequence answer among = absurd told
answers-given lower t server known (Took from octets ∷ events) (place ∷ places) telling told sequence answer among =
    let f = frame_at octets in
    let later = answers_by t server events places sequence in
    let others = answers-given lower t server (after_taken place known) events places telling told.1 sequence in
    cond_both (is_answer_to server sequence from f) (served_by t f place ∷ later) later (λ (them : List Served). (one : Served) → Contains them one → IsAnswerOf t one)
    (λ is. each-cons (IsAnswerOf t) (served_by t f place) later
    (sent-given lower t (known.asked f.sequence) (known.floor f.sequence) place f telling (told.0 (same_addr-eq from server (and_parts _ _ is).0))).0 others)
    (λ is. others) answer among

-- each datagram that is told from a history is of one of the answers
pub taken-answered : (lower : LowerLaws) (t : Telling) (server : Addr) (known : Known) (events : List Event) (places : List (Option ℕ)) (answers : ℕ → List Served) → IsTelling t
    → IsToldFrom t server known events places → Include answers t server events places → AllByRecursion (IsAnswered server answers) events
taken-answered lower t server known [] places answers telling told include = tt
taken-answered lower t server known (Silence ∷ events) places answers telling told include =
    (tt, taken-answered lower t server known events places answers telling told include)
taken-answered lower t server known (Sent to octets ∷ events) places answers telling told include =
    (tt, taken-answered lower t server (after_sent (frame_at octets) known) events places answers telling told include)
taken-answered lower t server known (Took from octets ∷ events) [] answers telling told include = absurd told
taken-answered lower t server known (Took from octets ∷ events) (place ∷ places) answers telling told include =
    let f = frame_at octets in (
      λ from_is. (
        served_by t f place,
        Include-here answers t server from octets events place places include from_is,
        (sent-given lower t (known.asked f.sequence) (known.floor f.sequence) place f telling (told.0 from_is)).1,
      ),
      taken-answered lower t server (after_taken place known) events places answers telling told.1
          (Include-later answers t server from octets events place places include),
    )

-- the answers to what is told from a history: each can be sent, and a tag names one
pub answers-served : (lower : LowerLaws) (t : Telling) (server : Addr) (events : List Event) (places : List (Option ℕ)) → IsTelling t → IsToldFrom t server nothing_known events places
    → (sequence : ℕ) → AreServed (answers_by t server events places sequence)
answers-served lower t server events places telling told sequence =
    let given = answers-given lower t server nothing_known events places telling told sequence in
    record {
      each = λ answer among. (given answer among).0;
      tagged = λ one other among its_among. one_by_tag t one other (given one among).1 (given other its_among).1;
    }

-- what a client is told of what is told from a history is of these answers
pub each-told : (lower : LowerLaws) (t : Telling) (client : Talk) (query : Query) (events : List Event) (places : List (Option ℕ)) → IsTelling t
    → IsToldFrom t client.server nothing_known events places → Follows listing_dialogue (ready client (new_reader query)) events
    → EachIsTold listing_dialogue (answers_by t client.server events places) (ready client (new_reader query)) events
each-told lower t client query events places telling told follows =
    let answers = answers_by t client.server events places in
    EachIsTold-Follows listing_dialogue answers events (ready client (new_reader query)) (answers-served lower t client.server events places telling told) follows
    (taken-answered lower t client.server nothing_known events places answers telling told (λ sequence answer among. among))
    (λ waits. absurd (cc waits))
