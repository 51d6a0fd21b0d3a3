-- What a client knows of its talk with a server, as the events at its port tell it one after another (the fragments of an
-- answer: RFC 9327, section 2; what is counted, and when a client gives up, is our own rule).
use Rattle.std.specs.Prelude.{ℕ, ◌+◌, ◌-◌, ◌*◌, nat_le, if◌then◌else◌, Option, Some, None, List, []}
use Rattle.net_addr.specs.Addresses.{same_addr}
use Rattle.net_addr.specs.declared.addr.Addr.{Addr}
use Rattle.edge_traits.specs.declared.port.Event.{Event}
use Rattle.edge_traits.specs.declared.port.Event.TheVariants.{Took, Silence, Sent}
use Rattle.mode6_frame.specs.declared.groups.Step.{Step}
use Rattle.mode6_frame.specs.declared.groups.Step.TheVariants as Then
use Rattle.mode6_frame.specs.declared.groups.TheConstants.{MAX_GROUPS, MAX_PIECES}
use Rattle.mode6_frame.specs.declared.message.FrameFault.{FrameFault}
use Rattle.mode6_frame.specs.Frames.{FrameParts, frame_fault_of}
use Rattle.mode6_frame.specs.Groups.{GroupsParts, step_of, kept_after, pieces_kept}
use Rattle.mode6_frame.specs.Places.{frame_at}
use Rattle.ntpq_client.specs.declared.client.TheConstants.{MAX_QUIETS, MAX_UNUSED}
use Rattle.ntpq_client.specs.declared.fault.AskFault.{AskFault}
use Rattle.ntpq_client.specs.declared.fault.AskFault.TheVariants.{NoReply, Flooded}
use Rattle.ntpq_client.specs.declared.news.News.{News}
use Rattle.ntpq_client.specs.declared.news.News.TheVariants.{Nothing, Answered, Denied, Quiet}
use Rattle.ntpq_client.specs.declared.request.Request.{Request}
use Rattle.ntpq_client.specs.Requests.{request_octets}

-- what a client knows: its server; how many requests it posted; how many datagrams it did not use; how many takes found
-- nothing since the last datagram that it used; and the fragments of answers to the request that it posted last
pub record Talk : Type 0 where
  pub server : Addr
  pub posted : ℕ
  pub unused : ℕ
  pub quiets : ℕ
  pub current : GroupsParts

-- what a client knows before its first request
abbrev pub new_talk : Addr → Talk
new_talk server = record {
  server = server;
  posted = 0;
  unused = 0;
  quiets = 0;
  current = record { opcode = 0; sequence = 0; groups = [] };
}

-- why a client has given up, if it has: the server does not answer, or what comes is not for it
unfoldable pub stuck : Talk → Option AskFault
stuck t = if nat_le MAX_QUIETS t.quiets then Some NoReply else (if nat_le MAX_UNUSED t.unused then Some Flooded else None)

-- the control message in these octets, where nothing is wrong with them
abbrev pub frame_unless : Option FrameFault → List ℕ → Option FrameParts
frame_unless (Some why) octets = None
frame_unless None octets = Some (frame_at octets)

-- the control message that a client of this server hears in a datagram from this address: none from another address, and
-- none where the octets are none
unfoldable pub heard : Addr → Addr → List ℕ → Option FrameParts
heard server from octets = if same_addr from server then frame_unless (frame_fault_of octets) octets else None

-- what becomes of a control message that was heard, if any was
abbrev pub step_heard : GroupsParts → Option FrameParts → Option Step
step_heard g None = None
step_heard g (Some f) = Some (step_of g f)

-- the fragments that are kept after a datagram in which this was heard
abbrev pub groups_heard : GroupsParts → Option FrameParts → GroupsParts
groups_heard g None = g
groups_heard g (Some f) = kept_after g f

-- what a client knows after a datagram that it did not use: nothing was heard in it, or there is no use for the fragment
abbrev pub after_unused : Talk → GroupsParts → Talk
after_unused t g = record t { unused = t.unused + 1; current = g }

-- what a client knows after a datagram that it used
abbrev pub after_used : Talk → GroupsParts → Talk
after_used t g = record t { quiets = 0; current = g }

-- what a client knows after a datagram of which this became
abbrev pub after_step : Option Step → Talk → GroupsParts → Talk
after_step None t g = after_unused t g
after_step (Some (Then.Unused why)) t g = after_unused t g
after_step (Some _) t g = after_used t g

-- what a client knows after a datagram in which this was heard
unfoldable pub after_heard : Option FrameParts → Talk → Talk
after_heard f t = after_step (step_heard t.current f) t (groups_heard t.current f)

-- what a client knows after it posted a request of this operation code and sequence number
abbrev pub after_post : ℕ → ℕ → Talk → Talk
after_post opcode sequence t =
    record t { posted = t.posted + 1; current = record { opcode = opcode; sequence = sequence; groups = [] } }

-- what a client knows after an event at its port; what it sends is a request
unfoldable pub after_event : Event → Talk → Talk
after_event (Sent to octets) t = after_post (frame_at octets).opcode (frame_at octets).sequence t
after_event Silence t = record t { quiets = t.quiets + 1 }
after_event (Took from octets) t = after_heard (heard t.server from octets) t

-- what it is to a client that this became of a datagram
abbrev pub step_news : Option Step → News
step_news (Some (Then.Whole status text)) = Answered status text
step_news (Some (Then.Refused code)) = Denied code
step_news _ = Nothing

-- what a datagram in which this was heard is to a client
unfoldable pub heard_news : Option FrameParts → Talk → News
heard_news f t = step_news (step_heard t.current f)

-- what an event at its port is to a client
unfoldable pub news_of : Event → Talk → News
news_of (Sent to octets) t = Nothing
news_of Silence t = Quiet
news_of (Took from octets) t = heard_news (heard t.server from octets) t

-- the event of posting a request
abbrev pub post_of : Request → Talk → Event
post_of request t = Sent t.server (request_octets request (t.posted + 1))

-- how many datagrams can still come to a client that are nothing to it
abbrev pub patience : Talk → ℕ
patience t = (MAX_UNUSED - t.unused) + (MAX_GROUPS * MAX_PIECES - pieces_kept t.current)
