-- Acts over longer histories, and one after another.
use Rattle.std.proofs.Common.{◌≡◌, ℕ, ◌+◌, ◌≤◌, Some, None, List, [], ◌∷◌, ◌++◌, take, refl, ap, sym, subst, ◌∙◌, inl, inr, arith, append_assoc}
use mathlib.Core.List.{IsPrefix}
use Rattle.net_addr.specs.declared.addr.Addr.{Addr}
use Rattle.edge_traits.specs.declared.port.Event.{Event}
use Rattle.edge_traits.specs.declared.port.Event.TheVariants.{Took, Sent}
use Rattle.server_core.specs.declared.op.Op.{Op}
use Rattle.server_core.specs.declared.op.Op.TheVariants.{Sweep as SweepOp, Stop as StopOp}
use Rattle.server_core.specs.declared.op.Why.{Why}
use Rattle.server_core.specs.declared.op.Why.TheVariants.{PortFault, Entries, Publications, Acts, ClockEnd}
use Rattle.server_core.specs.declared.step.Reply.{Reply}
use Rattle.server_core.specs.declared.step.Reply.TheVariants.{Time as Judged, Looked, Read as ReadReplied, Stopped}
use Rattle.server_core.specs.States.{ServerState}
use Rattle.shared_book.specs.declared.common.Common.{Common}
use Rattle.giving.specs.Gives.{sent_events}
use Rattle.worker.specs.declared.act.Act.{Act}
use Rattle.worker.specs.declared.act.ActKind.{ActKind}
use Rattle.worker.specs.declared.act.ActKind.TheVariants.{Time, Control, Read, Silent, Dropped}
use Rattle.worker.specs.Acts.{AreActs, IsActOf, IsServed, MayLack}
use Rattle.worker.specs.Doings.{heard, is_silence, silences_in}
use Rattle.worker.specs.Others.{AreOthers, IsCause, IsOther, Other, sweeps, stops}
use Rattle.shared_book.proofs.EntryLemmas.{prefix_trans}
use Rattle.worker.proofs.AddingLemmas.{count-then}
use Rattle.shared_book.proofs.EntryLemmas.{IsEntry-longer}

IsServed-longer : (common : Common) (opening : ServerState) (history longer : List Op) (act : Act) (octets : List ℕ) (place xmt : ℕ) (reply : Reply) (answer : List (List ℕ)) → IsPrefix history longer
    → IsServed common opening history act octets place xmt reply answer → IsServed common opening longer act octets place xmt reply answer
IsServed-longer common opening history longer act octets place xmt reply answer front is = record {
  class = is.class;
  op = is.op;
  is_class = is.is_class;
  is_op = is.is_op;
  entry = IsEntry-longer opening history longer place is.op reply front is.entry;
  answer_is = is.answer_is;
}

MayLack-longer : (common : Common) (opening : ServerState) (history longer : List Op) (act : Act) (octets : List ℕ) → IsPrefix history longer → MayLack common opening history act octets → MayLack common opening longer act octets
MayLack-longer common opening history longer act octets front (inl reads) = inl reads
MayLack-longer common opening history longer act octets front (inr lacks) =
    inr (lacks.0, lacks.1, lacks.2, lacks.3, lacks.4, prefix_trans lacks.2 history longer lacks.5 front, lacks.6)

IsActOf-longer : (common : Common) (opening : ServerState) (history longer : List Op) (act : Act) (octets : List ℕ) (answer : List (List ℕ)) (kind : ActKind) → IsPrefix history longer
    → IsActOf common opening history act octets answer kind → IsActOf common opening longer act octets answer kind
IsActOf-longer common opening history longer act octets answer (Time place xmt verdict) front is =
    (is.0, IsServed-longer common opening history longer act octets place xmt (Judged is.0) answer front is.1, is.2, is.3)
IsActOf-longer common opening history longer act octets answer (Control mark ignored) front is =
    (is.0, is.1, IsServed-longer common opening history longer act octets mark is.0 (Looked is.1) answer front is.2, is.3, is.4)
IsActOf-longer common opening history longer act octets answer (Read place reply) front is =
    (is.0, is.1, IsServed-longer common opening history longer act octets place is.0 (ReadReplied is.1) answer front is.2, is.3, is.4)
IsActOf-longer common opening history longer act octets answer (Silent why) front is = is
IsActOf-longer common opening history longer act octets answer (Dropped None) front is =
    (MayLack-longer common opening history longer act octets front is.0, is.1, is.2, is.3)
IsActOf-longer common opening history longer act octets answer (Dropped (Some place)) front is =
    (is.0, is.1, IsServed-longer common opening history longer act octets place is.0 is.1 answer front is.2, is.3, is.4)

-- acts are those over each longer history
pub AreActs-longer : (common : Common) (opening : ServerState) (history longer : List Op) (acts : List Act) (told : List Event) → IsPrefix history longer → AreActs common opening history acts told → AreActs common opening longer acts told
AreActs-longer common opening history longer [] told front are = are
AreActs-longer common opening history longer (act ∷ acts) told front are = (
  are.0,
  are.1,
  are.2,
  IsActOf-longer common opening history longer act are.0 are.1 act.kind front are.3,
  are.4,
  AreActs-longer common opening history longer acts are.2 front are.5,
)

-- acts, and then others
pub AreActs-then : (common : Common) (opening : ServerState) (history : List Op) (acts more : List Act) (told later : List Event) → AreActs common opening history acts told → AreActs common opening history more later → AreActs common opening history (acts ++ more) (told ++ later)
AreActs-then common opening history [] more told later none are =
    subst (λ (front : List Event). AreActs common opening history more (front ++ later)) (sym none) are
AreActs-then common opening history (act ∷ acts) more told later first second = (
  first.0,
  first.1,
  first.2 ++ later,
  first.3,
  ap (λ (front : List Event). front ++ later) first.4
      ∙ ap (λ (rest : List Event). Took act.from first.0 ∷ rest) (append_assoc (sent_events act.from (take act.given first.1)) first.2 later),
  AreActs-then common opening history acts more first.2 later first.5 second,
)

-- gives are heard
pub heard-sent : (to : Addr) (grams : List (List ℕ)) → heard (sent_events to grams) ≡ sent_events to grams
heard-sent to [] = refl
heard-sent to (gram ∷ grams) = ap (λ (events : List Event). Sent to gram ∷ events) (heard-sent to grams)

-- no give is a silence
pub silences-sent : (to : Addr) (grams : List (List ℕ)) → silences_in (sent_events to grams) ≡ 0
silences-sent to [] = refl
silences-sent to (gram ∷ grams) = count-then is_silence (Sent to gram ∷ []) (sent_events to grams) ∙ ap (λ (n : ℕ). 0 + n) (silences-sent to grams)

-- the cause of a stop is one with more acts
IsCause-more : (opening : ServerState) (few many : ℕ) (before : List Op) (why : Why) → few ≤ many → IsCause opening few before why → IsCause opening many before why
IsCause-more opening few many before PortFault more is = is
IsCause-more opening few many before Entries more is = is
IsCause-more opening few many before Publications more is = is
IsCause-more opening few many before Acts more is = omega arith
IsCause-more opening few many before ClockEnd more is = is

IsOther-later : (opening : ServerState) (who few many : ℕ) (history longer : List Op) (other : Other) → few ≤ many → IsPrefix history longer → IsOther opening who few history other → IsOther opening who many longer other
IsOther-later opening who few many history longer (sweeps place moment) more front is =
    (is.0, IsEntry-longer opening history longer place (SweepOp moment) is.0 front is.1)
IsOther-later opening who few many history longer (stops place stop) more front is = record {
  entry = IsEntry-longer opening history longer place (StopOp stop) Stopped front is.entry;
  named = is.named;
  cause = IsCause-more opening few many is.entry.before stop.why more is.cause;
}

-- what a worker enters beside its answers stands in each longer history, and has its cause with more acts
pub AreOthers-later : (opening : ServerState) (who few many : ℕ) (history longer : List Op) (others : List Other) → few ≤ many → IsPrefix history longer → AreOthers opening who few history others → AreOthers opening who many longer others
AreOthers-later opening who few many history longer [] more front are = tt
AreOthers-later opening who few many history longer (other ∷ others) more front are =
    (IsOther-later opening who few many history longer other more front are.0, AreOthers-later opening who few many history longer others more front are.1)

pub AreOthers-then : (opening : ServerState) (who acts : ℕ) (history : List Op) (first second : List Other) → AreOthers opening who acts history first → AreOthers opening who acts history second → AreOthers opening who acts history (first ++ second)
AreOthers-then opening who acts history [] second one two = two
AreOthers-then opening who acts history (other ∷ others) second one two = (one.0, AreOthers-then opening who acts history others second one.1 two)
