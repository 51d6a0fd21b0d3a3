-- Worked talks, by hand: a request for the variable `stratum`, its answer and an error (RFC 9327, sections 2 and 3.4); and the
-- numbers at which a client gives up, which are our own rules.
use Rattle.std.proofs.Common.{◌≡◌, ℕ, zero, suc, List, [], ◌∷◌, ◌++◌, Some, None, codes, refl, ap, subst, arith, lit<, lit≤}
use Rattle.std.specs.Prelude.{Contains}
use Rattle.net_addr.specs.declared.addr.Addr.{Addr}
use Rattle.net_addr.specs.declared.addr.Ip.TheVariants.{V4}
use Rattle.edge_traits.specs.declared.port.Event.TheVariants.{Took, Sent}
use Rattle.mode6_frame.specs.Frames.{head_of}
use Rattle.mode6_frame.specs.Groups.{step_of, kept_after, untagged}
use Rattle.mode6_frame.specs.Places.{frame_at}
use Rattle.ntpq_client.specs.declared.client.TheConstants.{MAX_REQUESTS, MAX_UNUSED, MAX_QUIETS}
use Rattle.ntpq_client.specs.declared.fault.AskFault.TheVariants.{NoReply, Flooded}
use Rattle.ntpq_client.specs.declared.news.News.TheVariants.{Nothing, Answered, Denied, Quiet}
use Rattle.ntpq_client.specs.declared.request.Request.{Request}
use Rattle.ntpq_client.specs.declared.request.TheConstants.{REQUEST_VERSION}
use Rattle.ntpq_client.specs.Requests.{request_octets}
use Rattle.ntpq_client.specs.Talks.{Talk, new_talk, stuck, heard, after_heard, heard_news, after_event, news_of, post_of}
use Rattle.mode6_frame.specs.Served.{Served, Body, IsServed, IsOneByTag}
use Rattle.ntpq_client.specs.Answered.{AreAnswers}
use Rattle.ntpq_client.specs.Dialogues.{due_again}

MAX_REQUESTS-is : MAX_REQUESTS ≡ 60000
MAX_REQUESTS-is = refl

MAX_UNUSED-is : MAX_UNUSED ≡ 1000000
MAX_UNUSED-is = refl

MAX_QUIETS-is : MAX_QUIETS ≡ 5
MAX_QUIETS-is = refl

-- 10.0.0.1:123, and the same address with the next port
abbrev server : Addr
server = record { ip = V4 (10 ∷ 0 ∷ 0 ∷ 1 ∷ []); port = 123 }

abbrev stranger : Addr
stranger = record { ip = V4 (10 ∷ 0 ∷ 0 ∷ 1 ∷ []); port = 124 }

-- operation 2 of version 2, for `stratum`
abbrev request : Request
request = record { version = 2; opcode = 2; assoc = 0; body = codes "stratum" }

-- the first one is sent with the sequence number 1
abbrev first_octets : List ℕ
first_octets =
    0x16 ∷ 0x02 ∷ 0x00 ∷ 0x01 ∷ 0x00 ∷ 0x00 ∷ 0x00 ∷ 0x00 ∷ 0x00 ∷ 0x00 ∷ 0x00 ∷ 0x07 ∷ codes "stratum" ++ 0 ∷ []

post : post_of request (new_talk server) ≡ Sent server first_octets
unfolding request_octets head_of
post = refl

-- a client that posted it and heard four silences
abbrev asked : Talk
asked = record (after_event (Sent server first_octets) (new_talk server)) { quiets = 4 }

-- status c011 and `stratum=16`, to the request of this sequence number
abbrev answer : ℕ → List ℕ
answer sequence =
    0x16 ∷ 0x82 ∷ 0x00 ∷ sequence ∷ 0xc0 ∷ 0x11 ∷ 0x00 ∷ 0x00 ∷ 0x00 ∷ 0x00 ∷ 0x00 ∷ 0x0c ∷ codes "stratum=16\r\n"

-- error 5, to the first request
abbrev error_octets : List ℕ
error_octets = 0x16 ∷ 0xc2 ∷ 0x00 ∷ 0x01 ∷ 0x05 ∷ 0x00 ∷ 0x00 ∷ 0x00 ∷ 0x00 ∷ 0x00 ∷ 0x00 ∷ 0x00 ∷ []

answered : news_of (Took server (answer 1)) asked ≡ Answered 0xc011 (codes "stratum=16\r\n")
unfolding news_of after_event heard heard_news frame_at step_of untagged
answered = refl

denied : news_of (Took server error_octets) asked ≡ Denied 5
unfolding news_of after_event heard heard_news frame_at step_of
denied = refl

other_sequence : news_of (Took server (answer 2)) asked ≡ Nothing
unfolding news_of after_event heard heard_news frame_at step_of
other_sequence = refl

other_address : news_of (Took stranger (answer 1)) asked ≡ Nothing
unfolding news_of after_event heard heard_news
other_address = refl

-- what is used ends the silences, and what is not used is counted
ends_silences : after_event (Took server (answer 1)) asked ≡ record asked { quiets = 0 }
unfolding after_event heard after_heard frame_at step_of kept_after
ends_silences = refl

counts_unused : after_event (Took stranger (answer 1)) asked ≡ record asked { unused = 1 }
unfolding after_event heard after_heard
counts_unused = refl

-- a client gives up at the fifth silence and at the datagram 1,000,000
abbrev after_silences : ℕ → Talk
after_silences n = record (new_talk server) { quiets = n }

abbrev after_unused : ℕ → Talk
after_unused n = record (new_talk server) { unused = n }

four_silences : stuck (after_silences 4) ≡ None
unfolding stuck
four_silences = refl

five_silences : stuck (after_silences 5) ≡ Some NoReply
unfolding stuck
five_silences = refl

nearly_flooded : stuck (after_unused 999999) ≡ None
unfolding stuck
nearly_flooded = refl

flooded : stuck (after_unused 1000000) ≡ Some Flooded
unfolding stuck
flooded = refl

-- a request is posted again after a silence alone
again : due_again request Quiet ≡ Some request
again = refl

not_again : due_again request (Denied 5) ≡ None
not_again = refl

-- a body is the only answer in a list of it
only : (one answer : Served) → Contains (one ∷ []) answer → one ≡ answer
only one answer (zero, within, there) = there
only one answer (suc k, within, there) = absurd (omega arith)

-- `stratum=16` as the answer to each request serves a talk in which it was taken, and in which a stranger said anything
abbrev body : Served
body = Body 0xc011 (codes "stratum=16\r\n")

served : AreAnswers server (λ sequence. body ∷ []) (Sent server first_octets ∷ Took stranger error_octets ∷ Took server (answer 1) ∷ [])
unfolding frame_at
served = record {
  served = λ sequence. record {
    each = λ answer among. subst IsServed (only body answer among) (lit≤ tt, refl);
    tagged = λ one other among among'. subst (λ (x : Served). IsOneByTag x other) (only body one among) (subst (λ (x : Served). IsOneByTag body x) (only body other among') tt);
  };
  taken = (tt, ((λ from. let ports : 124 ≡ 123 = ap (λ (a : Addr). a.port) from in absurd (omega arith)), ((λ from. (body, (0, lit< tt, refl), (refl, refl, record { offset = refl; more = refl; body = refl }))), tt)));
}

-- requests have version 2
version-is : REQUEST_VERSION ≡ 2
version-is = refl
