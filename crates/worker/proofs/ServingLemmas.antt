-- How the datagram that is held becomes an act.
use Rattle.std.proofs.Common.{◌≡◌, ◌≢◌, ◌⊎◌, ℕ, ◌<◌, Bool, true, false, Option, Some, None, List, [], ◌∷◌, ◌++◌, length, take, refl, ap, sym, subst, ◌∙◌, inl, inr, arith}
use Rattle.std.proofs.lemmas.List.{append-nil, take_all}
use mathlib.Core.List.{Sublist, nil-sublist}
use mathlib.Core.List.Sublist
use Rattle.net_addr.specs.declared.addr.Addr.{Addr}
use Rattle.edge_traits.specs.declared.port.Event.{Event}
use Rattle.edge_traits.specs.Told.{gained}
use Rattle.sys_vars.specs.declared.context.Context.{Context}
use Rattle.server_core.specs.declared.class.Class.{Class}
use Rattle.server_core.specs.declared.class.Class.TheVariants.{Silent as SilentClass, Time as TimeClass, Look as LookClass, Read as ReadClass}
use Rattle.server_core.specs.declared.class.Unheard.{Unheard}
use Rattle.server_core.specs.declared.op.Op.{Op}
use Rattle.server_core.specs.declared.op.Op.TheVariants.{Arrive, Look as LookOp, Read as ReadOp}
use Rattle.server_core.specs.declared.request.Request.{Request}
use Rattle.server_core.specs.declared.step.Reply.{Reply}
use Rattle.server_core.specs.declared.step.Reply.TheVariants.{Published, Time as Judged, Looked, Read as ReadReplied, Swept, Stopped}
use Rattle.server_core.specs.declared.step.StepFault.TheVariants.{NoMemory}
use Rattle.server_core.specs.Books.{MayWant}
use Rattle.server_core.specs.Class.{IsClass}
use Rattle.server_core.specs.Control.{IsReadRequest}
use Rattle.server_core.specs.Histories.{state_after_all}
use Rattle.server_core.specs.Responses.{IsGivable, IsShortResponse, IsTellableResponse, grams_of, op_of, response_of, response_to}
use Rattle.server_core.specs.States.{ServerState, refusal_of, reply_to}
use Rattle.server_core.proofs.ResponseLemmas.{IsGivable-response}
use Rattle.giving.specs.Gives.{sent_events}
use Rattle.giving.specs.declared.given.Given.{Given}
use Rattle.giving.specs.declared.given.GiveEnd.{GiveEnd}
use Rattle.giving.specs.declared.given.GiveEnd.TheVariants.{Whole, Failed, NoMemory as NoRoom}
use Rattle.server_core.specs.declared.response.Response.{Response}
use Rattle.shared_book.specs.declared.common.Common.{Common}
use Rattle.shared_book.specs.Contexts.{context_at}
use Rattle.shared_book.specs.Entries.{IsEntered, IsUnentered, View}
use Rattle.worker.specs.declared.act.Act.{Act}
use Rattle.worker.specs.declared.act.ActKind.{ActKind}
use Rattle.worker.specs.declared.act.ActKind.TheVariants.{Silent, Dropped}
use Rattle.worker.specs.declared.carry.Carry.{Carry}
use Rattle.worker.specs.Acts.{Climbs, HasGiven, IsAct, IsActOf, IsServed, kind_by, place_in, readings_in}
use Rattle.worker.specs.Serving.{Becomes, IsGivenAs}
use Rattle.shared_book.proofs.EntryLemmas.{prefix_length, prefix_self}
use Rattle.worker.proofs.AddingLemmas.{gained-nothing}
use Rattle.worker.proofs.RefusalLemmas.{never-refusal}

-- the act of a datagram that was not entered
abbrev pub unentered : Addr → ℕ → ActKind → Act
unentered from moment kind = record { from = from; moment = moment; kind = kind; given = 0; failed = false }

-- a datagram that is not heard
pub Becomes-unheard : (common : Common) (opening : ServerState) (held : Carry) (context : Context) (class : Class) (why : Unheard) (old : View)
    → context ≡ context_at common context.moment → IsClass held.bytes held.from common.keys context class → class ≡ SilentClass why
    → Becomes common opening held (unentered held.from context.moment (Silent why)) [] (context.moment ∷ []) old old
Becomes-unheard common opening held context class why old here is same = record {
  is_act = (subst (λ (c : Context). IsClass held.bytes held.from common.keys c (SilentClass why)) here (subst (IsClass held.bytes held.from common.keys context) same is), refl, refl, refl);
  from_is = refl;
  read = Sublist.refl (context.moment ∷ []);
  longer = prefix_self old.front;
  places = omega arith;
  counted = sym (append-nil old.own);
}

-- a datagram whose items found no memory
pub Becomes-unread : (common : Common) (opening : ServerState) (held : Carry) (moment : ℕ) (old : View) → IsReadRequest held.bytes
    → Becomes common opening held (unentered held.from moment (Dropped None)) [] (moment ∷ []) old old
Becomes-unread common opening held moment old reads = record {
  is_act = (inl reads, refl, refl, refl);
  from_is = refl;
  read = Sublist.refl (moment ∷ []);
  longer = prefix_self old.front;
  places = omega arith;
  counted = sym (append-nil old.own);
}

-- what is refused for no other reason may want memory
wanting : (opening : ServerState) (old new : View) (op : Op) → IsUnentered opening old op NoMemory new → MayWant (state_after_all opening new.front) op
wanting opening old new op is = by_why is.why
  where
    by_why : (refusal_of new.front (state_after_all opening new.front).stamp op ≡ Some NoMemory) ⊎ ((NoMemory ≡ NoMemory) × MayWant (state_after_all opening new.front) op) → MayWant (state_after_all opening new.front) op
    by_why (inl refused) = absurd (never-refusal new.front (state_after_all opening new.front).stamp op refused)
    by_why (inr lacks) = lacks.1

-- a datagram for whose operation no memory was there
pub Becomes-unentered : (common : Common) (opening : ServerState) (held : Carry) (context : Context) (class : Class) (op : Op) (old new : View)
    → context ≡ context_at common context.moment → IsClass held.bytes held.from common.keys context class → op_of context class ≡ Some op → IsUnentered opening old op NoMemory new
    → Becomes common opening held (unentered held.from context.moment (Dropped None)) [] (context.moment ∷ []) old new
Becomes-unentered common opening held context class op old new here is is_op refused = record {
  is_act = (
    inr (
      class,
      op,
      new.front,
      subst (λ (c : Context). IsClass held.bytes held.from common.keys c class) here is,
      subst (λ (c : Context). op_of c class ≡ Some op) here is_op,
      prefix_self new.front,
      wanting opening old new op refused,
    ),
    refl,
    refl,
    refl,
  );
  from_is = refl;
  read = Sublist.refl (context.moment ∷ []);
  longer = refused.longer;
  places = prefix_length old.front new.front refused.longer;
  counted = refused.own_kept ∙ sym (append-nil old.own);
}

-- a reply that a datagram can get
IsAsked : Reply → Type 0
IsAsked (Judged verdict) = Unit {0}
IsAsked (Looked answer) = Unit {0}
IsAsked (ReadReplied reply) = Unit {0}
IsAsked Published = ⊥
IsAsked (Swept count) = ⊥
IsAsked Stopped = ⊥

asked-op : (s : ServerState) (op other : Op) (reply : Reply) → op ≡ other → reply ≡ reply_to s op → IsAsked (reply_to s other) → IsAsked reply
asked-op s op other reply same is asked = subst IsAsked (sym (is ∙ ap (reply_to s) same)) asked

IsAsked-reply : (context : Context) (class : Class) (s : ServerState) (op : Op) (reply : Reply) → op_of context class ≡ Some op → reply ≡ reply_to s op → IsAsked reply
unfolding IsAsked
IsAsked-reply context (SilentClass why) s op reply same is = absurd (cc same)
IsAsked-reply context (TimeClass ask) s op reply same is = asked-op s op (Arrive ask context.moment) reply (cc same) is tt
IsAsked-reply context (LookClass asked) s op reply same is = asked-op s op (LookOp asked context) reply (cc same) is tt
IsAsked-reply context (ReadClass ask) s op reply same is = asked-op s op (ReadOp ask context.moment) reply (cc same) is tt

-- an answer that was given, whole or not, is that of an act of its reply's kind
IsActOf-kind : (common : Common) (opening : ServerState) (history : List Op) (act : Act) (octets : List ℕ) (place xmt : ℕ) (reply : Reply) (answer : List (List ℕ)) → IsAsked reply
    → IsServed common opening history act octets place xmt reply answer → HasGiven act.failed act.given answer → IsActOf common opening history act octets answer (kind_by place xmt reply)
unfolding IsAsked
IsActOf-kind common opening history act octets place xmt (Judged verdict) answer asked is given = (verdict, is, refl, given)
IsActOf-kind common opening history act octets place xmt (Looked reply) answer asked is given = (xmt, reply, is, refl, given)
IsActOf-kind common opening history act octets place xmt (ReadReplied reply) answer asked is given = (xmt, reply, is, refl, given)
IsActOf-kind common opening history act octets place xmt Published answer asked is given = absurd asked
IsActOf-kind common opening history act octets place xmt (Swept count) answer asked is given = absurd asked
IsActOf-kind common opening history act octets place xmt Stopped answer asked is given = absurd asked

-- its readings are two of the clock, or the first
read-kind : (moment place xmt : ℕ) (reply : Reply) → Sublist (readings_in moment (kind_by place xmt reply)) (moment ∷ xmt ∷ [])
read-kind moment place xmt (Judged verdict) = Sublist.refl (moment ∷ xmt ∷ [])
read-kind moment place xmt (Looked reply) = Sublist.cons-cons moment (nil-sublist (xmt ∷ []))
read-kind moment place xmt (ReadReplied reply) = Sublist.cons-cons moment (nil-sublist (xmt ∷ []))
read-kind moment place xmt Published = Sublist.cons-cons moment (nil-sublist (xmt ∷ []))
read-kind moment place xmt (Swept count) = Sublist.cons-cons moment (nil-sublist (xmt ∷ []))
read-kind moment place xmt Stopped = Sublist.cons-cons moment (nil-sublist (xmt ∷ []))

-- it names its place
place-kind : (place xmt : ℕ) (reply : Reply) → place_in (kind_by place xmt reply) ≡ place ∷ []
place-kind place xmt (Judged verdict) = refl
place-kind place xmt (Looked reply) = refl
place-kind place xmt (ReadReplied reply) = refl
place-kind place xmt Published = refl
place-kind place xmt (Swept count) = refl
place-kind place xmt Stopped = refl

-- a datagram that was entered
pub Becomes-entered : (common : Common) (opening : ServerState) (held : Carry) (act : Act) (context : Context) (class : Class) (op : Op) (place : ℕ) (reply : Reply) (xmt : ℕ) (answer : List (List ℕ)) (old new : View)
    → context ≡ context_at common act.moment → IsClass held.bytes held.from common.keys context class → op_of context class ≡ Some op → (entered : IsEntered opening old op place reply new)
    → answer ≡ grams_of common.keys context xmt (response_of (state_after_all opening entered.entry.before) context class) → act.from ≡ held.from → IsGivenAs place xmt reply answer act
    → Becomes common opening held act answer (act.moment ∷ xmt ∷ []) old new
Becomes-entered common opening held act context class op place reply xmt answer old new here is is_op entered answer_is from_is given =
    record {
      is_act = by_given given;
      from_is = from_is;
      read = read_by given;
      longer = entered.longer;
      places = subst (λ (places : List ℕ). Climbs (length old.front) places (length new.front)) (sym (place_by given)) (entered.later, omega (arith, entered.last));
      counted = entered.counted ∙ ap (λ (places : List ℕ). old.own ++ places) (sym (place_by given));
    }
  where
    served : IsServed common opening new.front act held.bytes place xmt reply answer
    served = record {
      class = class;
      op = op;
      is_class = subst (λ (from : Addr). IsClass held.bytes from common.keys (context_at common act.moment) class) (sym from_is)
          (subst (λ (c : Context). IsClass held.bytes held.from common.keys c class) here is);
      is_op = subst (λ (c : Context). op_of c class ≡ Some op) here is_op;
      entry = entered.entry;
      answer_is = answer_is ∙ ap (λ (c : Context). grams_of common.keys c xmt (response_of (state_after_all opening entered.entry.before) c class)) here;
    }

    by_given : IsGivenAs place xmt reply answer act → IsAct common opening new.front act held.bytes answer
    by_given (inl whole) = subst (IsActOf common opening new.front act held.bytes answer) (sym whole.0)
        (IsActOf-kind common opening new.front act held.bytes place xmt reply answer (IsAsked-reply context class (state_after_all opening entered.entry.before) op reply is_op entered.entry.answered) served whole.1)
    by_given (inr cut) = subst (IsActOf common opening new.front act held.bytes answer) (sym cut.0) (xmt, reply, served, cut.1, cut.2)

    read_by : IsGivenAs place xmt reply answer act → Sublist (readings_in act.moment act.kind) (act.moment ∷ xmt ∷ [])
    read_by (inl whole) = subst (λ (kind : ActKind). Sublist (readings_in act.moment kind) (act.moment ∷ xmt ∷ [])) (sym whole.0) (read-kind act.moment place xmt reply)
    read_by (inr cut) = subst (λ (kind : ActKind). Sublist (readings_in act.moment kind) (act.moment ∷ xmt ∷ [])) (sym cut.0) (Sublist.cons-cons act.moment (nil-sublist (xmt ∷ [])))

    place_by : IsGivenAs place xmt reply answer act → place_in act.kind ≡ place ∷ []
    place_by (inl whole) = ap place_in whole.0 ∙ place-kind place xmt reply
    place_by (inr cut) = ap place_in cut.0

-- the same where the moment is said of the context
pub Becomes-answered : (common : Common) (opening : ServerState) (held : Carry) (act : Act) (context : Context) (class : Class) (op : Op) (request : Request) (place : ℕ) (reply : Reply) (xmt : ℕ) (old new : View)
    → context ≡ context_at common context.moment → act.moment ≡ context.moment → IsClass held.bytes held.from common.keys context class → op_of context class ≡ Some op → IsEntered opening old op place reply new
    → ((s : ServerState) → response_of s context class ≡ response_to request (reply_to s op)) → act.from ≡ held.from → IsGivenAs place xmt reply (grams_of common.keys context xmt (response_to request reply)) act
    → Becomes common opening held act (grams_of common.keys context xmt (response_to request reply)) (context.moment ∷ xmt ∷ []) old new
Becomes-answered common opening held act context class op request place reply xmt old new here at is is_op entered responds from_is given =
    let s = state_after_all opening entered.entry.before in
    let same : response_to request reply ≡ response_of s context class = ap (response_to request) entered.entry.answered ∙ sym (responds s) in
    subst (λ (moment : ℕ). Becomes common opening held act (grams_of common.keys context xmt (response_to request reply)) (moment ∷ xmt ∷ []) old new) at
    (Becomes-entered common opening held act context class op place reply xmt (grams_of common.keys context xmt (response_to request reply)) old new
    (here ∙ ap (context_at common) (sym at)) is is_op entered (ap (grams_of common.keys context xmt) same) from_is given)

-- the response to what was entered can be given
pub givable-entered : (common : Common) (opening : ServerState) (held : Carry) (context : Context) (class : Class) (op : Op) (request : Request) (place : ℕ) (reply : Reply) (old new : View)
    → IsClass held.bytes held.from common.keys context class → IsEntered opening old op place reply new → ((s : ServerState) → response_of s context class ≡ response_to request (reply_to s op))
    → IsShortResponse (response_to request reply) → IsTellableResponse (response_to request reply) → IsGivable common.keys (response_to request reply)
givable-entered common opening held context class op request place reply old new is entered responds short tellable =
    let s = state_after_all opening entered.entry.before in
    IsGivable-response s context held.bytes held.from common.keys class (response_to request reply) is (ap (response_to request) entered.entry.answered ∙ sym (responds s)) short tellable

-- nothing was given
pub gained-unsent : (told : Option (List Event)) (to : Addr) (count : ℕ) → told ≡ gained told (sent_events to (take count []))
gained-unsent told to count =
    let none : take count [] ≡ [] = take_all count [] (omega arith) in
    gained-nothing told ∙ ap (λ (grams : List (List ℕ)). gained told (sent_events to grams)) (sym none)

-- what was given of an answer, by how its giving ended
pub given-as : (place xmt : ℕ) (reply : Reply) (kind : ActKind) (given : Given) (act : Act) (grams : List (List ℕ)) → kind ≡ kind_by place xmt reply → act.given ≡ given.count
    → (given.end ≡ Whole → (act.kind ≡ kind) × (act.failed ≡ false)) → (given.end ≡ Failed → (act.kind ≡ kind) × (act.failed ≡ true)) → (given.end ≡ NoRoom → (act.kind ≡ Dropped (Some place)) × (act.failed ≡ false))
    → (given.end ≡ Whole → given.count ≡ length grams) → (given.end ≢ Whole → given.count < length grams) → IsGivenAs place xmt reply grams act
given-as place xmt reply kind given act grams kind_is count_is whole failed dropped all cut = by_end given.end refl
  where
    by_end : (end : GiveEnd) → given.end ≡ end → IsGivenAs place xmt reply grams act
    by_end Whole same =
        inl ((whole same).0 ∙ kind_is, subst (λ (it : Bool). HasGiven it act.given grams) (sym (whole same).1) (count_is ∙ all same))
    by_end Failed same =
        let fewer = cut (λ is. absurd (cc (same, is))) in
        inl ((failed same).0 ∙ kind_is, subst (λ (it : Bool). HasGiven it act.given grams) (sym (failed same).1) (omega (arith, count_is, fewer)))
    by_end NoRoom same =
        let fewer = cut (λ is. absurd (cc (same, is))) in
        inr ((dropped same).0, omega (arith, count_is, fewer), (dropped same).1)

-- what was told of it
pub told-as : (told new : Option (List Event)) (to : Addr) (grams : Response → List (List ℕ)) (count given : ℕ) (made response : Response) → made ≡ response → given ≡ count
    → new ≡ gained told (sent_events to (take count (grams made))) → new ≡ gained told (sent_events to (take given (grams response)))
told-as told new to grams count given made response same count_is is =
    is ∙ ap (λ (it : Response). gained told (sent_events to (take count (grams it)))) same
    ∙ ap (λ (n : ℕ). gained told (sent_events to (take n (grams response)))) (sym count_is)
