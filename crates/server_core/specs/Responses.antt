-- The response to a datagram: nothing, and why, or datagrams in their order. Our own rule, over RFC 5905 and RFC 9327.
use Rattle.std.specs.Prelude.{◌≡◌, ◌≢◌, ◌⊎◌, ◌+◌, ◌<◌, ◌≤◌, ℕ, Option, Some, None, List, [], ◌∷◌, length}
use Rattle.std.specs.List.{AllByRecursion}
use Rattle.mac_keys.specs.declared.keys.Key.{Key}
use Rattle.mode6_frame.specs.declared.message.TheConstants.{HEAD_LEN, MAX_BODY}
use Rattle.net_addr.specs.declared.addr.Addr.{Addr}
use Rattle.sys_vars.specs.declared.answer.Answer.{Answer}
use Rattle.sys_vars.specs.declared.answer.Answer.TheVariants.{Ignored as Unanswered, Given}
use Rattle.sys_vars.specs.declared.context.Context.{Context}
use Rattle.server_core.specs.declared.class.Ask.{Ask}
use Rattle.server_core.specs.declared.class.Class.{Class}
use Rattle.server_core.specs.declared.class.Class.TheVariants.{Silent as SilentClass, Time as TimeClass, Look as LookClass, Read as ReadClass}
use Rattle.server_core.specs.declared.op.Op.{Op}
use Rattle.server_core.specs.declared.op.Op.TheVariants.{Arrive, Look as LookOp, Read as ReadOp}
use Rattle.server_core.specs.declared.step.Reply.{Reply}
use Rattle.server_core.specs.declared.step.Reply.TheVariants.{Time as Judged, Looked, Read as ReadReplied}
use Rattle.server_core.specs.declared.step.StepFault.{StepFault}
use Rattle.server_core.specs.declared.step.StepFault.TheVariants.{NoMemory}
use Rattle.server_core.specs.declared.verdict.Verdict.{Verdict}
use Rattle.server_core.specs.declared.verdict.Verdict.TheVariants.{Ignored as IgnoredAsk, Limited as LimitedAsk, Rate as KissRate, Served}
use Rattle.server_core.specs.declared.read_reply.ReadReply.{ReadReply}
use Rattle.server_core.specs.declared.read_reply.ReadReply.TheVariants.{Ignored as IgnoredRead}
use Rattle.server_core.specs.declared.class.Unheard.TheVariants.{BadNonce}
use Rattle.mode6_frame.specs.declared.message.Head.{Head}
use Rattle.server_core.specs.declared.response.Response.{Response}
use Rattle.server_core.specs.declared.response.Response.TheVariants.{Silent, Time, Rate, Grams, Read}
use Rattle.server_core.specs.declared.response.Silence.TheVariants.{Unheard, Ignored, Limited}
use Rattle.server_core.specs.declared.request.Request.{Request}
use Rattle.server_core.specs.declared.request.Request.TheVariants.{Time as TimeRequest, Look as LookRequest, Read as ReadRequested}
use Rattle.server_core.specs.Books.{BookParts, MayWant, stepped}
use Rattle.server_core.specs.Class.{IsClass}
use Rattle.server_core.specs.ReadReplies.{IsTellableRead, read_grams}
use Rattle.server_core.specs.Reply.{HasKey, time_reply_of, rate_reply_of}
use Rattle.server_core.specs.States.{ServerState, refusal_of, reply_to}

-- the operation that a datagram of this class is which came in this context; one that is not heard is none
abbrev pub op_of : Context → Class → Option Op
op_of context (SilentClass why) = None
op_of context (TimeClass ask) = Some (Arrive ask context.moment)
op_of context (LookClass asked) = Some (LookOp asked context)
op_of context (ReadClass ask) = Some (ReadOp ask context.moment)

-- the response to a request for the time, by its verdict
abbrev pub response_by : Ask → Verdict → Response
response_by ask IgnoredAsk = Silent Ignored
response_by ask LimitedAsk = Silent Limited
response_by ask KissRate = Rate ask
response_by ask (Served basis) = Time ask basis

-- the response to a control request, by its answer
abbrev pub response_with : Answer → Response
response_with Unanswered = Silent Ignored
response_with (Given epoch grams) = Grams grams

-- the response to a read from this address whose answer repeats this head, by the server's reply
abbrev pub response_on : Addr → Head → ReadReply → Response
response_on from head IgnoredRead = Silent Ignored
response_on from head reply = Read from head reply

-- the response to a request by the server's reply; no server gives a reply of the other kind, which would make none
abbrev pub response_to : Request → Reply → Response
response_to (TimeRequest ask) (Judged verdict) = response_by ask verdict
response_to LookRequest (Looked answer) = response_with answer
response_to (ReadRequested from head) (ReadReplied reply) = response_on from head reply
response_to _ _ = Silent Ignored

-- the response to a datagram of this class that came in this context, by a server in this state
abbrev pub response_of : ServerState → Context → Class → Response
response_of s context (SilentClass why) = Silent (Unheard why)
response_of s context (TimeClass ask) = response_to (TimeRequest ask) (reply_to s (Arrive ask context.moment))
response_of s context (LookClass asked) = response_to LookRequest (reply_to s (LookOp asked context))
response_of s context (ReadClass ask) =
    response_to (ReadRequested ask.from ask.head) (reply_to s (ReadOp ask context.moment))

-- the response to a datagram from this address that came in this context, where these keys are known
abbrev pub IsResponse : ServerState → List Key → Context → Addr → List ℕ → Response → Type 0
IsResponse s keys context from octets response =
    (class : Class) × IsClass octets from keys context class × (response ≡ response_of s context class)

-- the server after a datagram: it took one operation, or none
abbrev pub book_after : BookParts → Option Op → BookParts
book_after book None = book
book_after book (Some op) = stepped book op

-- the server refuses no operation of a datagram
abbrev pub IsAccepted : BookParts → Option Op → Type 0
IsAccepted book None = Unit {0}
IsAccepted book (Some op) = refusal_of book.journal book.state.stamp op ≡ None

-- why the operation of a datagram was not taken: the server refuses it, or memory was wanting
abbrev pub IsUntaken : BookParts → Option Op → StepFault → Type 0
IsUntaken book None fault = ⊥
IsUntaken book (Some op) fault =
    (refusal_of book.journal book.state.stamp op ≡ Some fault) ⊎ ((fault ≡ NoMemory) × MayWant book.state op)

-- why there is no response to a datagram of this class that came in this context: its operation was not taken; of those
-- that are not heard, only a read without a good nonce wants memory, for its items
abbrev pub IsUnmet : BookParts → Context → Class → StepFault → Type 0
IsUnmet book context (SilentClass BadNonce) fault = fault ≡ NoMemory
IsUnmet book context class fault = IsUntaken book (op_of context class) fault

-- the datagrams of a response, in their order, to what came in this context and is answered at this moment
abbrev pub grams_of : List Key → Context → ℕ → Response → List (List ℕ)
grams_of keys context sent (Silent why) = []
grams_of keys context sent (Time ask basis) = time_reply_of basis ask keys context.moment sent ∷ []
grams_of keys context sent (Rate ask) = rate_reply_of ask ∷ []
grams_of keys context sent (Grams grams) = grams
grams_of keys context sent (Read from head reply) = read_grams reply from head context

-- no datagram of an answer is longer than a control message can be
abbrev pub IsShortResponse : Response → Type 0
IsShortResponse (Grams grams) = AllByRecursion (λ gram. length gram ≤ HEAD_LEN + MAX_BODY) grams
IsShortResponse _ = Unit {0}

-- the page of a response to a read can be told
abbrev pub IsTellableResponse : Response → Type 0
IsTellableResponse (Read from head reply) = IsTellableRead reply
IsTellableResponse _ = Unit {0}

-- a response can be given: the key of its MAC is there; an answer has a datagram, and none that is longer than a control
-- message can be; a read is not ignored, and its page can be told
abbrev pub IsGivable : List Key → Response → Type 0
IsGivable keys (Time ask basis) = HasKey keys ask.auth
IsGivable keys (Grams grams) = (0 < length grams) × AllByRecursion (λ gram. length gram ≤ HEAD_LEN + MAX_BODY) grams
IsGivable keys (Read from head reply) = (reply ≢ IgnoredRead) × IsTellableRead reply
IsGivable keys _ = Unit {0}
