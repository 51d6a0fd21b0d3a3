-- When a client has given up, and what its events leave as they were.
use Rattle.std.proofs.Common.{◌≡◌, ℕ, ◌+◌, ◌<◌, ◌⊎◌, Bool, true, false, cond, Option, Some, None, List, inl, inr, refl, ap, subst, arith}
use Rattle.std.proofs.lemmas.Bool.Decides.{nat_tests}
use Rattle.edge_traits.specs.declared.port.Event.{Event}
use Rattle.edge_traits.specs.declared.port.Event.TheVariants.{Took, Silence, Sent}
use Rattle.mode6_frame.specs.declared.groups.Step.{Step}
use Rattle.mode6_frame.specs.declared.groups.Step.TheVariants as Then
use Rattle.mode6_frame.specs.Frames.{FrameParts}
use Rattle.mode6_frame.specs.Groups.{GroupsParts}
use Rattle.mode6_frame.specs.Places.{frame_at}
use Rattle.ntpq_client.specs.declared.client.TheConstants.{MAX_QUIETS, MAX_UNUSED}
use Rattle.ntpq_client.specs.declared.fault.AskFault.{AskFault}
use Rattle.ntpq_client.specs.declared.fault.AskFault.TheVariants.{NoReply, Flooded}
use Rattle.ntpq_client.specs.declared.news.News.TheVariants.{Nothing, Quiet}
use Rattle.ntpq_client.specs.declared.request.Request.{Request}
use Rattle.ntpq_client.specs.Requests.{request_octets, request_parts}
use Rattle.ntpq_client.specs.Talks.{Talk, stuck, heard, after_heard, after_step, step_news, step_heard, heard_news, after_event, after_post, news_of, post_of}

-- a client gives up for one of two causes
two_causes : (no_reply flooded : Bool) (fault : AskFault) → cond no_reply (Some NoReply) (cond flooded (Some Flooded) None) ≡ Some fault → (fault ≡ NoReply) ⊎ (fault ≡ Flooded)
two_causes true flooded fault is = inl (cc is)
two_causes false true fault is = inr (cc is)
two_causes false false fault is = absurd (cc is)

-- a client gives up because nobody answers, or because it is flooded
pub stuck-causes : (t : Talk) (fault : AskFault) → stuck t ≡ Some fault → (fault ≡ NoReply) ⊎ (fault ≡ Flooded)
unfolding stuck
stuck-causes t fault is = two_causes _ _ fault is

-- one that has not given up counts fewer than the limits
pub stuck-None : (t : Talk) → stuck t ≡ None → (t.quiets < MAX_QUIETS) × (t.unused < MAX_UNUSED)
unfolding stuck
stuck-None t is = grind (arith, nat_tests)

-- one that counts fewer than the limits has not given up
pub None-stuck : (t : Talk) → t.quiets < MAX_QUIETS → t.unused < MAX_UNUSED → stuck t ≡ None
unfolding stuck
None-stuck t few few_unused = grind (arith, nat_tests)

-- a datagram that ends the wait leaves a client that has not given up so
after_step-unstuck : (step : Option Step) (t : Talk) (g : GroupsParts) → stuck t ≡ None → (step_news step ≡ Nothing → ⊥) → stuck (after_step step t g) ≡ None
after_step-unstuck None t g unstuck ends = absurd (ends refl)
after_step-unstuck (Some (Then.Unused why)) t g unstuck ends = absurd (ends refl)
after_step-unstuck (Some Then.Waiting) t g unstuck ends = absurd (ends refl)
after_step-unstuck (Some (Then.Refused code)) t g unstuck ends = None-stuck _ (omega arith) (stuck-None t unstuck).1
after_step-unstuck (Some (Then.Whole status text)) t g unstuck ends = None-stuck _ (omega arith) (stuck-None t unstuck).1

-- news of an answer or a refusal leave a client that has not given up so
pub after_event-unstuck : (event : Event) (t : Talk) → stuck t ≡ None → (news_of event t ≡ Nothing → ⊥) → (news_of event t ≡ Quiet → ⊥) → stuck (after_event event t) ≡ None
unfolding after_event news_of after_heard heard_news
after_event-unstuck (Sent to octets) t unstuck ends hears = absurd (ends refl)
after_event-unstuck Silence t unstuck ends hears = absurd (hears refl)
after_event-unstuck (Took from octets) t unstuck ends hears = after_step-unstuck (step_heard t.current (heard t.server from octets)) t _ unstuck ends

-- what a client knows after it posted a request
pub after_event-post : (request : Request) (t : Talk) (octets : List ℕ) → octets ≡ request_octets request (t.posted + 1) → frame_at octets ≡ request_parts request (t.posted + 1) → after_event (post_of request t) t ≡ after_post request.opcode (t.posted + 1) t
unfolding after_event
after_event-post request t octets spelled places =
    let same : frame_at (request_octets request (t.posted + 1)) ≡ request_parts request (t.posted + 1) = subst (λ (o : List ℕ). frame_at o ≡ request_parts request (t.posted + 1)) spelled places in
    ap (λ (f : FrameParts). after_post f.opcode f.sequence t) same

-- what a client knows after a datagram
pub after_event-Took : (from : Rattle.net_addr.specs.declared.addr.Addr.Addr) (octets : List ℕ) (t : Talk) → after_event (Took from octets) t ≡ after_heard (heard t.server from octets) t
unfolding after_event
after_event-Took from octets t = refl

-- what a datagram is to a client
pub news_of-Took : (from : Rattle.net_addr.specs.declared.addr.Addr.Addr) (octets : List ℕ) (t : Talk) → news_of (Took from octets) t ≡ heard_news (heard t.server from octets) t
unfolding news_of
news_of-Took from octets t = refl

-- what a silence is to a client
pub news_of-Silence : (t : Talk) → news_of Silence t ≡ Quiet
unfolding news_of
news_of-Silence t = refl
