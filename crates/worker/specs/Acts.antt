-- What becomes of each datagram that a worker takes: our own words.
use Rattle.std.specs.Prelude.{◌≡◌, ◌⊎◌, ◌+◌, ◌<◌, ◌≤◌, ℕ, Bool, true, false, Some, None, List, [], ◌∷◌, ◌++◌, length, take}
use Rattle.std.specs.List.{count_by, flat_map}
use mathlib.Core.List.{IsPrefix}
use Rattle.edge_traits.specs.declared.port.Event.{Event}
use Rattle.edge_traits.specs.declared.port.Event.TheVariants.{Took}
use Rattle.sys_vars.specs.declared.answer.Answer.{Answer}
use Rattle.sys_vars.specs.declared.answer.Answer.TheVariants.{Ignored as Unanswered, Given}
use Rattle.server_core.specs.declared.class.Class.{Class}
use Rattle.server_core.specs.declared.class.Class.TheVariants.{Silent as SilentClass}
use Rattle.server_core.specs.declared.op.Op.{Op}
use Rattle.server_core.specs.declared.read_reply.ReadReply.{ReadReply}
use Rattle.server_core.specs.declared.read_reply.ReadReply.TheVariants.{Ignored as IgnoredRead, Prohibited as ProhibitedRead, Refused as RefusedRead, Page as PageRead}
use Rattle.server_core.specs.declared.step.Reply.{Reply}
use Rattle.server_core.specs.declared.step.Reply.TheVariants.{Time as Judged, Looked, Read as ReadReplied}
use Rattle.server_core.specs.declared.verdict.Verdict.{Verdict}
use Rattle.server_core.specs.declared.verdict.Verdict.TheVariants.{Ignored as IgnoredAsk, Limited as LimitedAsk, Rate as RateAsk, Served as ServedAsk}
use Rattle.server_core.specs.Books.{MayWant}
use Rattle.server_core.specs.Class.{IsClass}
use Rattle.server_core.specs.Control.{IsReadRequest}
use Rattle.server_core.specs.Histories.{state_after_all}
use Rattle.server_core.specs.Responses.{grams_of, op_of, response_of}
use Rattle.server_core.specs.States.{ServerState}
use Rattle.shared_book.specs.Contexts.{context_at}
use Rattle.shared_book.specs.Entries.{IsEntry}
use Rattle.shared_book.specs.declared.common.Common.{Common}
use Rattle.giving.specs.Gives.{sent_events}
use Rattle.worker.specs.declared.act.Act.{Act}
use Rattle.worker.specs.declared.act.ActKind.{ActKind}
use Rattle.worker.specs.declared.act.ActKind.TheVariants.{Time, Control, Read, Silent, Dropped}
use Rattle.worker.specs.declared.act.ReadKind.{ReadKind}
use Rattle.worker.specs.declared.act.ReadKind.TheVariants.{Ignored as IgnoredKind, Prohibited, Refused, Page}
use Rattle.worker.specs.declared.act.VerdictKind.{VerdictKind}
use Rattle.worker.specs.declared.act.VerdictKind.TheVariants.{Ignored, Limited, Rate, Served}

-- the kind of a verdict on a request for the time
abbrev pub kind_of_verdict : Verdict → VerdictKind
kind_of_verdict IgnoredAsk = Ignored
kind_of_verdict LimitedAsk = Limited
kind_of_verdict RateAsk = Rate
kind_of_verdict (ServedAsk basis) = Served

-- the kind of what becomes of a read of the client list
abbrev pub kind_of_read : ReadReply → ReadKind
kind_of_read IgnoredRead = IgnoredKind
kind_of_read ProhibitedRead = Prohibited
kind_of_read RefusedRead = Refused
kind_of_read (PageRead status page) = Page

-- a control request that gets no answer
abbrev pub is_ignored : Answer → Bool
is_ignored Unanswered = true
is_ignored (Given epoch grams) = false

-- the kind of an act whose datagram was entered at this place, got this reply there, and is answered at this time; no
-- datagram gets a reply of another kind
abbrev pub kind_by : ℕ → ℕ → Reply → ActKind
kind_by place xmt (Judged verdict) = Time place xmt (kind_of_verdict verdict)
kind_by place xmt (Looked answer) = Control place (is_ignored answer)
kind_by place xmt (ReadReplied reply) = Read place (kind_of_read reply)
kind_by place xmt _ = Dropped (Some place)

-- The datagram of an act was entered as what it asks for, at its moment, at this place of the history, and got this reply
-- there. Its answer is that of the server there, as it is given at this time.
pub record IsServed (common : Common) (opening : ServerState) (history : List Op) (act : Act) (octets : List ℕ) (place xmt : ℕ) (reply : Reply) (answer : List (List ℕ)) : Type 0 where
  pub class : Class
  pub op : Op
  pub is_class : IsClass octets act.from common.keys (context_at common act.moment) class
  pub is_op : op_of (context_at common act.moment) class ≡ Some op
  pub entry : IsEntry opening history place op reply
  pub answer_is : answer ≡ grams_of common.keys (context_at common act.moment) xmt (response_of (state_after_all opening entry.before) (context_at common act.moment) class)

-- so many datagrams of an answer were given: all of them, or fewer where a give failed
abbrev pub HasGiven : Bool → ℕ → List (List ℕ) → Type 0
HasGiven false given answer = given ≡ length answer
HasGiven true given answer = given < length answer

-- the datagram of an act could not be entered for want of memory: for its items, or for what it asks of a server after a
-- front of the history
abbrev pub MayLack : Common → ServerState → List Op → Act → List ℕ → Type 0
MayLack common opening history act octets =
    IsReadRequest octets
    ⊎ ((class : Class) × (op : Op) × (before : List Op)
    × IsClass octets act.from common.keys (context_at common act.moment) class
    × (op_of (context_at common act.moment) class ≡ Some op)
    × IsPrefix before history × MayWant (state_after_all opening before) op)

-- what became of the datagram of an act of this kind, and its answer
abbrev pub IsActOf : Common → ServerState → List Op → Act → List ℕ → List (List ℕ) → ActKind → Type 0
IsActOf common opening history act octets answer (Time place xmt kind) =
    (verdict : Verdict) × IsServed common opening history act octets place xmt (Judged verdict) answer
    × (kind ≡ kind_of_verdict verdict) × HasGiven act.failed act.given answer
IsActOf common opening history act octets answer (Control mark ignored) =
    (xmt : ℕ) × (given : Answer) × IsServed common opening history act octets mark xmt (Looked given) answer
    × (ignored ≡ is_ignored given) × HasGiven act.failed act.given answer
IsActOf common opening history act octets answer (Read place kind) =
    (xmt : ℕ) × (reply : ReadReply) × IsServed common opening history act octets place xmt (ReadReplied reply) answer
    × (kind ≡ kind_of_read reply) × HasGiven act.failed act.given answer
IsActOf common opening history act octets answer (Silent why) =
    IsClass octets act.from common.keys (context_at common act.moment) (SilentClass why)
    × (answer ≡ []) × (act.given ≡ 0) × (act.failed ≡ false)
IsActOf common opening history act octets answer (Dropped None) =
    MayLack common opening history act octets × (answer ≡ []) × (act.given ≡ 0) × (act.failed ≡ false)
IsActOf common opening history act octets answer (Dropped (Some place)) =
    (xmt : ℕ) × (reply : Reply) × IsServed common opening history act octets place xmt reply answer
    × (act.given < length answer) × (act.failed ≡ false)

-- what became of the datagram of an act, and its answer
abbrev pub IsAct : Common → ServerState → List Op → Act → List ℕ → List (List ℕ) → Type 0
IsAct common opening history act octets answer = IsActOf common opening history act octets answer act.kind

-- acts and what they tell: for each act, in their order, its datagram was taken, and then so many datagrams of its answer
-- were given to where it came from
abbrev pub AreActs : Common → ServerState → List Op → List Act → List Event → Type 0
AreActs common opening history [] told = told ≡ []
AreActs common opening history (act ∷ acts) told =
    (octets : List ℕ) × (answer : List (List ℕ)) × (later : List Event)
    × IsAct common opening history act octets answer
    × (told ≡ Took act.from octets ∷ (sent_events act.from (take act.given answer) ++ later))
    × AreActs common opening history acts later

-- the place that an act of this kind names, if any
abbrev pub place_in : ActKind → List ℕ
place_in (Time place xmt verdict) = place ∷ []
place_in (Control mark ignored) = mark ∷ []
place_in (Read place reply) = place ∷ []
place_in (Silent why) = []
place_in (Dropped None) = []
place_in (Dropped (Some place)) = place ∷ []

-- the places that acts name, in their order
abbrev pub places_of : List Act → List ℕ
places_of acts = flat_map (λ act. place_in act.kind) acts

-- the readings of the clock that an act of this kind tells, where it is of this moment
abbrev pub readings_in : ℕ → ActKind → List ℕ
readings_in moment (Time place xmt verdict) = moment ∷ xmt ∷ []
readings_in moment (Control mark ignored) = moment ∷ []
readings_in moment (Read place reply) = moment ∷ []
readings_in moment (Silent why) = moment ∷ []
readings_in moment (Dropped place) = moment ∷ []

-- the readings of the clock that acts tell, in their order
abbrev pub readings_of : List Act → List ℕ
readings_of acts = flat_map (λ act. readings_in act.moment act.kind) acts

-- how many acts have a give that failed
abbrev pub failures_in : List Act → ℕ
failures_in acts = count_by (λ act. act.failed) acts

-- these places climb from one length of the history to another
abbrev pub Climbs : ℕ → List ℕ → ℕ → Type 0
Climbs low [] high = low ≤ high
Climbs low (place ∷ places) high = (low ≤ place) × Climbs (place + 1) places high
