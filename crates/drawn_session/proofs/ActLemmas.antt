-- The acts of a worker answer the datagrams that it took.
use Rattle.std.proofs.Common.{◌≡◌, ◌∙◌, ◌+◌, ◌<◌, ◌⊎◌, ◌&&◌, ℕ, Bool, true, false, cond, Option, Some, None, List, [], ◌∷◌, ◌++◌, map, take, slice_get, refl, sym, ap, subst, inl, inr, arith}
use Rattle.std.specs.List.{AllByRecursion, count_by, filter}
use Rattle.access_rules.specs.Flags.{has_flag}
use Rattle.access_rules.specs.Rules.{flags_of}
use Rattle.access_rules.specs.declared.flags.TheConstants.{IGNORE}
use Rattle.draws.specs.Clients.{client_addr}
use Rattle.edge_traits.specs.declared.port.Event.{Event}
use Rattle.edge_traits.specs.declared.port.Event.TheVariants.{Took, Sent}
use Rattle.net_addr.specs.declared.addr.Addr.{Addr}
use Rattle.recency.specs.Rows.{find_row}
use Rattle.recency.specs.declared.row.Row.{Row}
use Rattle.responders.proofs.LawLemmas.{entry_at}
use Rattle.server_core.specs.Class.{IsClass}
use Rattle.server_core.specs.Histories.{state_after_all}
use Rattle.server_core.specs.Responses.{op_of}
use Rattle.server_core.specs.States.{ServerState, reply_to}
use Rattle.server_core.specs.Verdicts.{basis_of, drawn, is_denied, rate_verdict, rows_touched}
use Rattle.server_core.specs.declared.class.Ask.{Ask}
use Rattle.server_core.specs.declared.class.Class.{Class}
use Rattle.server_core.specs.declared.class.Class.TheVariants.{Silent as SilentClass, Time as TimeClass, Look as LookClass}
use Rattle.server_core.specs.declared.class.Unheard.{Unheard}
use Rattle.server_core.specs.declared.op.Op.{Op}
use Rattle.server_core.specs.declared.op.Op.TheVariants.{Arrive, Look}
use Rattle.server_core.specs.declared.step.Reply.{Reply}
use Rattle.server_core.specs.declared.step.Reply.TheVariants.{Time as Judged, Looked, Read as ReadReplied}
use Rattle.server_core.specs.declared.verdict.Verdict.{Verdict}
use Rattle.server_core.specs.declared.verdict.Verdict.TheVariants.{Ignored, Served}
use Rattle.shared_book.specs.Contexts.{context_at}
use Rattle.shared_book.specs.declared.common.Common.{Common}
use Rattle.sys_vars.specs.Answers.{answer_of}
use Rattle.sys_vars.specs.declared.asked.Asked.{Asked}
use Rattle.sys_vars.specs.declared.context.Context.{Context}
use Rattle.sys_vars.specs.declared.published.Record.{Record}
use Rattle.worker.specs.Acts.{AreActs, IsActOf, IsServed, kind_by, place_in}
use Rattle.worker.specs.Turns.{is_dropped}
use Rattle.worker.proofs.AddingLemmas.{count-then}
use Rattle.worker.specs.declared.act.Act.{Act}
use Rattle.worker.specs.declared.act.ActKind.{ActKind}
use Rattle.worker.specs.declared.act.ActKind.TheVariants as act_kind
use Rattle.drawn_session.specs.Counts.{NoneDropped, gives_time, is_control, is_kind, is_silent}
use Rattle.drawn_session.specs.Datagrams.{IsDrawn, is_take, octets_by, took_of}
use Rattle.drawn_session.specs.declared.datagrams.DrawnDatagram.{DrawnDatagram}
use Rattle.drawn_session.specs.declared.datagrams.Kind.{Kind}
use Rattle.drawn_session.specs.declared.datagrams.Kind.TheVariants.{Cut, Control, Time}
use Rattle.drawn_session.specs.declared.datagrams.TheConstants.{DATAGRAMS}
use Rattle.drawn_session.proofs.Matching.{AreActsFor, IsActBy, IsControlFor, IsSilentFor, IsTimeFor, RefusesNobody}
use Rattle.drawn_session.proofs.ClassLemmas.{control-class, cut-class, time-class}

-- a client without flags is not limited
rate_verdict-none : (rec : Record) (stamp : ℕ) (row : Option Row) → rate_verdict rec 0 stamp row ≡ Served (basis_of rec)
rate_verdict-none rec stamp None = refl
rate_verdict-none rec stamp (Some row) = refl

-- each request for the time from an address without flags is served
arrive-served : (s : ServerState) (ask : Ask) (moment : ℕ) → flags_of s.published.rules ask.from.ip ≡ 0 → reply_to s (Arrive ask moment) ≡ Judged (Served (basis_of s.published))
arrive-served s ask moment none =
    let stamp : ℕ = drawn s.stamp moment in
    let row : Option Row = find_row (rows_touched s.published s.limits s.rows stamp ask) ask.from.ip in
    let judged : ℕ → Verdict = λ flags. cond (has_flag flags IGNORE) Ignored (cond (is_denied flags ask) Ignored (rate_verdict s.published flags stamp row)) in
    ap Judged (ap judged none ∙ rate_verdict-none s.published stamp row)

-- gives are no takes
takes-sent : (to : Addr) (grams : List (List ℕ)) (later : List Event) → filter is_take (map (λ (gram : List ℕ). Sent to gram) grams ++ later) ≡ filter is_take later
takes-sent to [] later = refl
takes-sent to (gram ∷ grams) later = takes-sent to grams later

-- the takes of an act and of those after it
takes-act : (from : Addr) (octets : List ℕ) (grams : List (List ℕ)) (told later : List Event) → told ≡ Took from octets ∷ (map (λ (gram : List ℕ). Sent from gram) grams ++ later)
    → filter is_take told ≡ Took from octets ∷ filter is_take later
takes-act from octets grams told later same =
    ap (filter is_take) same ∙ ap (λ (events : List Event). Took from octets ∷ events) (takes-sent from grams later)

module _ (common : Common) (opening : ServerState) (history : List Op) where
  -- the datagram of an act was entered and answered
  abbrev IsAnsweredAct : Act → List ℕ → List (List ℕ) → Type 0
  IsAnsweredAct act octets answer =
      (place : ℕ) × (xmt : ℕ) × (reply : Reply) × IsServed common opening history act octets place xmt reply answer × (act.kind ≡ kind_by place xmt reply)

  -- or was not heard
  abbrev IsUnheardAct : Act → List ℕ → Type 0
  IsUnheardAct act octets =
      (why : Unheard) × IsClass octets act.from common.keys (context_at common act.moment) (SilentClass why) × (act.kind ≡ act_kind.Silent why)

  -- one of them became of the datagram of an act for which memory was not wanting
  met : (act : Act) (octets : List ℕ) (answer : List (List ℕ)) (kind : ActKind) → act.kind ≡ kind → IsActOf common opening history act octets answer kind → is_dropped kind ≡ false
      → IsAnsweredAct act octets answer ⊎ IsUnheardAct act octets
  met act octets answer (act_kind.Time place xmt kind) same (verdict, served, is, gave) kept =
      inl (place, xmt, Judged verdict, served, same ∙ ap (act_kind.Time place xmt) is)
  met act octets answer (act_kind.Control place ignored) same (xmt, given, served, is, gave) kept =
      inl (place, xmt, Looked given, served, same ∙ ap (act_kind.Control place) is)
  met act octets answer (act_kind.Read place kind) same (xmt, reply, served, is, gave) kept =
      inl (place, xmt, ReadReplied reply, served, same ∙ ap (act_kind.Read place) is)
  met act octets answer (act_kind.Silent why) same (is, none, few, whole) kept = inr (why, is, same)
  met act octets answer (act_kind.Dropped place) same is kept = absurd (cc kept)

  -- what was entered stands at its place
  stood : (act : Act) (octets : List ℕ) (place xmt : ℕ) (reply : Reply) (answer : List (List ℕ)) (class : Class) (op : Op) → (served : IsServed common opening history act octets place xmt reply answer)
      → served.class ≡ class → op_of (context_at common act.moment) class ≡ Some op
      → (slice_get history place ≡ Some op) × (reply ≡ reply_to (state_after_all opening served.entry.before) op)
  stood act octets place xmt reply answer class op served class_is asked =
      let same : Some served.op ≡ Some op = sym served.is_op ∙ ap (op_of (context_at common act.moment)) class_is ∙ asked in
      let op_is : served.op ≡ op = cc same in (
        entry_at opening history place served.op reply served.entry ∙ same,
        served.entry.answered ∙ ap (reply_to (state_after_all opening served.entry.before)) op_is,
      )

  -- a request for the time was given it
  time-for : (client : ℕ) (act : Act) (octets : List ℕ) (answer : List (List ℕ)) → RefusesNobody opening history → act.from ≡ client_addr client
      → ((class : Class) → IsClass octets act.from common.keys (context_at common act.moment) class → (ask : Ask) × (class ≡ TimeClass ask) × (ask.from ≡ act.from))
      → IsAnsweredAct act octets answer ⊎ IsUnheardAct act octets → IsTimeFor history client act
  time-for client act octets answer nobody from classed (inl (place, xmt, reply, served, kind_is)) =
      let (ask, class_is, from_is) = classed served.class served.is_class in
      let (stands, reply_is) = stood act octets place xmt reply answer (TimeClass ask) (Arrive ask act.moment) served class_is refl in
      let s : ServerState = state_after_all opening served.entry.before in
      let none : flags_of s.published.rules ask.from.ip ≡ 0 = nobody served.entry.before (served.op ∷ served.entry.after, sym served.entry.whole) ask.from.ip in
      let kind : act.kind ≡ kind_by place xmt (Judged (Served (basis_of s.published))) = kind_is ∙ ap (kind_by place xmt) (reply_is ∙ arrive-served s ask act.moment none) in
      record {
        gives = ap gives_time kind;
        place = place;
        place_is = ap place_in kind;
        ask = ask;
        moment = act.moment;
        stands = stands;
        from_is = from_is ∙ from;
      }
  time-for client act octets answer nobody from classed (inr (why, is, kind_is)) =
      let (ask, class_is, from_is) = classed (SilentClass why) is in absurd (cc class_is)

  -- a control request was answered
  control-for : (act : Act) (octets : List ℕ) (answer : List (List ℕ))
      → ((class : Class) → IsClass octets act.from common.keys (context_at common act.moment) class → (asked : Asked) × (class ≡ LookClass asked))
      → IsAnsweredAct act octets answer ⊎ IsUnheardAct act octets → IsControlFor history act
  control-for act octets answer classed (inl (place, xmt, reply, served, kind_is)) =
      let (asked, class_is) = classed served.class served.is_class in
      let context : Context = context_at common act.moment in
      let (stands, reply_is) = stood act octets place xmt reply answer (LookClass asked) (Look asked context) served class_is refl in
      let s : ServerState = state_after_all opening served.entry.before in
      let kind : act.kind ≡ kind_by place xmt (Looked (answer_of s.published asked context)) = kind_is ∙ ap (kind_by place xmt) reply_is in
      record {
        controls = ap is_control kind;
        place = place;
        place_is = ap place_in kind;
        asked = asked;
        context = context;
        stands = stands;
      }
  control-for act octets answer classed (inr (why, is, kind_is)) =
      let (asked, class_is) = classed (SilentClass why) is in absurd (cc class_is)

  -- what is never heard was not
  silent-for : (act : Act) (octets : List ℕ) (answer : List (List ℕ))
      → ((class : Class) → IsClass octets act.from common.keys (context_at common act.moment) class → (why : Unheard) × (class ≡ SilentClass why))
      → IsAnsweredAct act octets answer ⊎ IsUnheardAct act octets → IsSilentFor act
  silent-for act octets answer classed (inl (place, xmt, reply, served, kind_is)) =
      let (why, class_is) = classed served.class served.is_class in
      let none : None ≡ Some served.op = sym (ap (op_of (context_at common act.moment)) class_is) ∙ served.is_op in absurd (cc none)
  silent-for act octets answer classed (inr (why, is, kind_is)) = record { silent = ap is_silent kind_is; placeless = ap place_in kind_is }

-- an act is that of the datagram that it answers
act-for : (common : Common) (opening : ServerState) (history : List Op) (kind : Kind) (number client : ℕ) (act : Act) (octets : List ℕ) (answer : List (List ℕ))
    → RefusesNobody opening history → number < DATAGRAMS → act.from ≡ client_addr client → octets ≡ octets_by kind number
    → IsAnsweredAct common opening history act octets answer ⊎ IsUnheardAct common opening history act octets → IsActBy history kind client act
act-for common opening history Time number client act octets answer nobody below from is =
    time-for common opening history client act octets answer nobody from
    (λ class classed. time-class number act.from common.keys (context_at common act.moment) class (omega (arith, below))
    (subst (λ (sent : List ℕ). IsClass sent act.from common.keys (context_at common act.moment) class) is classed))
act-for common opening history Control number client act octets answer nobody below from is =
    control-for common opening history act octets answer
    (λ class classed. control-class number act.from common.keys (context_at common act.moment) class (omega (arith, below))
    (subst (λ (sent : List ℕ). IsClass sent act.from common.keys (context_at common act.moment) class) is classed))
act-for common opening history Cut number client act octets answer nobody below from is =
    silent-for common opening history act octets answer
    (λ class classed. cut-class act.from common.keys (context_at common act.moment) class
    (subst (λ (sent : List ℕ). IsClass sent act.from common.keys (context_at common act.moment) class) is classed))

-- so are those of a worker, where memory was wanting for none
pub acts-for : (common : Common) (opening : ServerState) (history : List Op) (acts : List Act) (told : List Event) (ds : List DrawnDatagram)
    → RefusesNobody opening history → AreActs common opening history acts told → filter is_take told ≡ map took_of ds
    → AllByRecursion IsDrawn ds → NoneDropped acts → AreActsFor history ds acts
acts-for common opening history [] told [] nobody are took fit kept = tt
acts-for common opening history [] told (d ∷ ds) nobody are took fit kept =
    let none : [] ≡ took_of d ∷ map took_of ds = sym (ap (filter is_take) are) ∙ took in absurd (cc none)
acts-for common opening history (act ∷ acts) told [] nobody (octets, answer, later, is, same, rest) took fit kept =
    let none : Took act.from octets ∷ filter is_take later ≡ [] = sym (takes-act act.from octets (take act.given answer) told later same) ∙ took in absurd (cc none)
acts-for common opening history (act ∷ acts) told (d ∷ ds) nobody (octets, answer, later, is, same, rest) took (here, further) (kept_here, kept_later) =
    let taken : Took act.from octets ∷ filter is_take later ≡ took_of d ∷ map took_of ds = sym (takes-act act.from octets (take act.given answer) told later same) ∙ took in
    let became = met common opening history act octets answer act.kind refl is kept_here in (
      act-for common opening history d.kind d.number d.client act octets answer nobody here.numbered (cc taken) (cc taken) became,
      acts-for common opening history acts later ds nobody rest (cc taken) further kept_later,
    )

-- an act gives the time, is that of a control request, or hears nothing: one of these at most
one_alone : (kind : ActKind) → (is_control kind && gives_time kind ≡ false) × (is_silent kind && gives_time kind ≡ false) × (is_control kind && is_silent kind ≡ false)
one_alone (act_kind.Time place xmt verdict) = (refl, refl, refl)
one_alone (act_kind.Control mark ignored) = (refl, refl, refl)
one_alone (act_kind.Read place reply) = (refl, refl, refl)
one_alone (act_kind.Silent why) = (refl, refl, refl)
one_alone (act_kind.Dropped place) = (refl, refl, refl)

-- of two facts that do not hold together, one fails where the other holds
first-fails : (first second : Bool) → first && second ≡ false → second ≡ true → first ≡ false
first-fails true second apart holds = absurd (cc (apart, holds))
first-fails false second apart holds = refl

second-fails : (first second : Bool) → first && second ≡ false → first ≡ true → second ≡ false
second-fails true second apart holds = apart
second-fails false second apart holds = absurd (cc holds)

-- an act is counted as its datagram is
counted-as : (history : List Op) (kind : Kind) (client : ℕ) (act : Act) → IsActBy history kind client act
    → (gives_time act.kind ≡ is_kind Time kind) × (is_control act.kind ≡ is_kind Control kind) × (is_silent act.kind ≡ is_kind Cut kind)
counted-as history Time client act is =
    let (control_time, silent_time, control_silent) = one_alone act.kind in
    (is.gives, first-fails (is_control act.kind) (gives_time act.kind) control_time is.gives, first-fails (is_silent act.kind) (gives_time act.kind) silent_time is.gives)
counted-as history Control client act is =
    let (control_time, silent_time, control_silent) = one_alone act.kind in
    (second-fails (is_control act.kind) (gives_time act.kind) control_time is.controls, is.controls, second-fails (is_control act.kind) (is_silent act.kind) control_silent is.controls)
counted-as history Cut client act is =
    let (control_time, silent_time, control_silent) = one_alone act.kind in
    (second-fails (is_silent act.kind) (gives_time act.kind) silent_time is.silent, first-fails (is_control act.kind) (is_silent act.kind) control_silent is.silent, is.silent)

-- two that are counted alike, before others that are
counts-more : {A B : Type 0} (one : A → Bool) (other : B → Bool) (x : A) (y : B) (xs : List A) (ys : List B) → one x ≡ other y → count_by one xs ≡ count_by other ys
    → count_by one (x ∷ xs) ≡ count_by other (y ∷ ys)
counts-more one other x y xs ys same rest =
    count-then one (x ∷ []) xs
    ∙ ap (λ (test : Bool). (0 + cond test 1 0) + count_by one xs) same
    ∙ ap (λ (count : ℕ). (0 + cond (other y) 1 0) + count) rest
    ∙ sym (count-then other (y ∷ []) ys)

-- there are as many acts of each kind as there are datagrams of it
pub acts-for-counts : (history : List Op) (ds : List DrawnDatagram) (acts : List Act) → AreActsFor history ds acts
    → (count_by (λ (a : Act). gives_time a.kind) acts ≡ count_by (λ (d : DrawnDatagram). is_kind Time d.kind) ds)
    × (count_by (λ (a : Act). is_control a.kind) acts ≡ count_by (λ (d : DrawnDatagram). is_kind Control d.kind) ds)
    × (count_by (λ (a : Act). is_silent a.kind) acts ≡ count_by (λ (d : DrawnDatagram). is_kind Cut d.kind) ds)
acts-for-counts history [] [] are = (refl, refl, refl)
acts-for-counts history [] (act ∷ acts) are = absurd are
acts-for-counts history (d ∷ ds) [] are = absurd are
acts-for-counts history (d ∷ ds) (act ∷ acts) (is, later) =
    let (time, control, silent) = counted-as history d.kind d.client act is in
    let (times, controls, silents) = acts-for-counts history ds acts later in (
      counts-more (λ (a : Act). gives_time a.kind) (λ (e : DrawnDatagram). is_kind Time e.kind) act d acts ds time times,
      counts-more (λ (a : Act). is_control a.kind) (λ (e : DrawnDatagram). is_kind Control e.kind) act d acts ds control controls,
      counts-more (λ (a : Act). is_silent a.kind) (λ (e : DrawnDatagram). is_kind Cut e.kind) act d acts ds silent silents,
    )
