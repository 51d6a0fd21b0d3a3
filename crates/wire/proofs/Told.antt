-- What the datagrams of an act tell: the act's kind names the place of the read that they answer.
use Rattle.std.proofs.Common.{◌≡◌, ℕ, zero, suc, ◌<◌, ◌≤◌, List, [], ◌∷◌, ◌++◌, length, take, Option, Some, None, refl, sym, ap, subst, ◌∙◌, arith}
use Rattle.std.specs.Prelude.{Contains}
use Rattle.list_telling.specs.Histories.{IsServersHistory, IsTakenIn, IsTold, telling_of}
use Rattle.list_telling.specs.Requests.{IsListRequest, place_of}
use Rattle.mac_keys.specs.declared.keys.Key.{Key}
use Rattle.mode6_frame.specs.Frames.{FrameParts}
use Rattle.mode6_frame.specs.Places.{frame_at}
use Rattle.net_addr.specs.declared.addr.Addr.{Addr}
use Rattle.server_core.specs.declared.class.Class.{Class}
use Rattle.server_core.specs.declared.class.Class.TheVariants.{Silent as SilentClass, Time as TimeClass, Look as LookClass, Read as ReadClass}
use Rattle.server_core.specs.declared.op.Op.{Op}
use Rattle.server_core.specs.declared.read_reply.ReadReply.{ReadReply}
use Rattle.server_core.specs.declared.read_reply.ReadReply.TheVariants.{Ignored as IgnoredRead, Prohibited as ProhibitedRead, Refused as RefusedRead, Page as PageRead}
use Rattle.server_core.specs.declared.request.Request.{Request}
use Rattle.server_core.specs.declared.request.Request.TheVariants.{Time as TimeRequest, Look as LookRequest, Read as ReadRequested}
use Rattle.server_core.specs.declared.response.Response.{Response}
use Rattle.server_core.specs.declared.response.Response.TheVariants.{Silent, Time, Rate, Grams, Read}
use Rattle.server_core.specs.declared.step.Reply.{Reply}
use Rattle.server_core.specs.declared.step.Reply.TheVariants.{Time as Judged, Looked, Read as ReadReplied}
use Rattle.server_core.specs.declared.verdict.Verdict.{Verdict}
use Rattle.server_core.specs.declared.verdict.Verdict.TheVariants.{Ignored as IgnoredAsk, Limited as LimitedAsk, Rate as RateAsk, Served as ServedAsk}
use Rattle.server_core.specs.Control.{IsRequest}
use Rattle.server_core.specs.Histories.{state_after_all}
use Rattle.server_core.specs.Responses.{grams_of, op_of, response_of, response_to}
use Rattle.server_core.specs.States.{ServerState, reply_to}
use Rattle.shared_book.specs.Contexts.{context_at}
use Rattle.shared_book.specs.declared.common.Common.{Common}
use Rattle.sys_vars.specs.declared.answer.Answer.{Answer}
use Rattle.sys_vars.specs.declared.answer.Answer.TheVariants.{Ignored as Unanswered, Given}
use Rattle.sys_vars.specs.declared.context.Context.{Context}
use Rattle.wire.proofs.Alone.{grams-alone}
use Rattle.wire.proofs.Lists.{take-among}
use Rattle.wire.specs.Placing.{read_place}
use Rattle.worker.specs.declared.act.Act.{Act}
use Rattle.worker.specs.declared.act.ActKind.{ActKind}
use Rattle.worker.specs.declared.act.ActKind.TheVariants.{Time as TimeAct, Control, Read as ReadAct, Silent as SilentAct, Dropped}
use Rattle.worker.specs.Acts.{IsActOf, IsServed, kind_of_read}

-- what is told of a datagram of an answer
abbrev pub IsAnswerTold : Type 0
IsAnswerTold =
    (opening : ServerState) (keys : List Key) (context : Context) (from : Addr) (octets : List ℕ) (class : Class) (before : List Op) (op : Op) (after : List Op) (sent : ℕ) (gram : List ℕ)
    → IsServersHistory opening (before ++ op ∷ after) → IsTakenIn opening keys context from octets class before after op
    → Contains (grams_of keys context sent (response_of (state_after_all opening before) context class)) gram
    → IsTold (telling_of context.salt from.ip opening (before ++ op ∷ after)) octets gram (place_of (length before) (response_of (state_after_all opening before) context class))

-- a request of a listing that an act took
pub record IsAsked (common : Common) (opening : ServerState) (history : List Op) (octets : List ℕ) : Type 0 where
  pub history_is : IsServersHistory opening history
  pub origin : common.origin ≡ opening.origin
  pub control : (f : FrameParts) × IsRequest octets f
  pub request : IsListRequest (frame_at octets) opening.origin.0

-- a datagram has no place among no datagrams
among-none : {X : Type 0} (x : X) → Contains [] x → ⊥
among-none x (k, within, there) = absurd (omega arith)

-- the response to what was entered is that to a request by the reply that it got
record IsReplied (s : ServerState) (context : Context) (class : Class) (reply : Reply) : Type 0 where
  request : Request
  is : response_of s context class ≡ response_to request reply

replied : (s : ServerState) (context : Context) (class : Class) (op : Op) (reply : Reply) → op_of context class ≡ Some op → reply ≡ reply_to s op → IsReplied s context class reply
replied s context (SilentClass why) op reply is same = absurd (cc is)
replied s context (TimeClass ask) op reply is same =
    record { request = TimeRequest ask; is = ap (response_to (TimeRequest ask)) (ap (reply_to s) (some_some _ _ is) ∙ sym same) }
  where
    some_some : (one other : Op) → Some one ≡ Some other → one ≡ other
    some_some one other eq = cc
replied s context (LookClass asked) op reply is same =
    record { request = LookRequest; is = ap (response_to LookRequest) (ap (reply_to s) (some_some _ _ is) ∙ sym same) }
  where
    some_some : (one other : Op) → Some one ≡ Some other → one ≡ other
    some_some one other eq = cc
replied s context (ReadClass ask) op reply is same =
    record { request = ReadRequested ask.from ask.head; is = ap (response_to (ReadRequested ask.from ask.head)) (ap (reply_to s) (some_some _ _ is) ∙ sym same) }
  where
    some_some : (one other : Op) → Some one ≡ Some other → one ≡ other
    some_some one other eq = cc

-- a verdict names no place
judged-place : (n : ℕ) (request : Request) (verdict : Verdict) → place_of n (response_to request (Judged verdict)) ≡ None
judged-place n (TimeRequest ask) IgnoredAsk = refl
judged-place n (TimeRequest ask) LimitedAsk = refl
judged-place n (TimeRequest ask) RateAsk = refl
judged-place n (TimeRequest ask) (ServedAsk basis) = refl
judged-place n LookRequest verdict = refl
judged-place n (ReadRequested from head) verdict = refl

-- nor does the answer to a control request
looked-place : (n : ℕ) (request : Request) (answer : Answer) → place_of n (response_to request (Looked answer)) ≡ None
looked-place n (TimeRequest ask) answer = refl
looked-place n LookRequest Unanswered = refl
looked-place n LookRequest (Given epoch grams) = refl
looked-place n (ReadRequested from head) answer = refl

-- the datagrams of a read have the place that its kind has
read-place : (n : ℕ) (keys : List Key) (context : Context) (xmt : ℕ) (gram : List ℕ) (request : Request) (reply : ReadReply)
    → Contains (grams_of keys context xmt (response_to request (ReadReplied reply))) gram → place_of n (response_to request (ReadReplied reply)) ≡ read_place (ReadAct n (kind_of_read reply))
read-place n keys context xmt gram (TimeRequest ask) reply among = absurd (among-none gram among)
read-place n keys context xmt gram LookRequest reply among = absurd (among-none gram among)
read-place n keys context xmt gram (ReadRequested from head) IgnoredRead among = refl
read-place n keys context xmt gram (ReadRequested from head) ProhibitedRead among = refl
read-place n keys context xmt gram (ReadRequested from head) RefusedRead among = refl
read-place n keys context xmt gram (ReadRequested from head) (PageRead status page) among = refl

-- of an answer of one datagram none was given where fewer were given than it has
fewer-none : (given : ℕ) (answer : List (List ℕ)) (gram : List ℕ) → length answer ≤ 1 → given < length answer → Contains (take given answer) gram → ⊥
fewer-none zero answer gram one fewer among = among-none gram among
fewer-none (suc given) answer gram one fewer among = absurd (omega arith)

-- so a datagram of an answer of which only some were given is of a page
dropped-place : (n : ℕ) (keys : List Key) (context : Context) (xmt given : ℕ) (gram : List ℕ) (response : Response)
    → ((grams : List (List ℕ)) → response ≡ Grams grams → length grams ≤ 1)
    → given < length (grams_of keys context xmt response) → Contains (take given (grams_of keys context xmt response)) gram → place_of n response ≡ Some n
dropped-place n keys context xmt given gram (Silent why) alone fewer among = absurd (omega arith)
dropped-place n keys context xmt given gram (Time ask basis) alone fewer among = absurd (fewer-none given (grams_of keys context xmt (Time ask basis)) gram (omega arith) fewer among)
dropped-place n keys context xmt given gram (Rate ask) alone fewer among = absurd (fewer-none given (grams_of keys context xmt (Rate ask)) gram (omega arith) fewer among)
dropped-place n keys context xmt given gram (Grams grams) alone fewer among = absurd (fewer-none given grams gram (alone grams refl) fewer among)
dropped-place n keys context xmt given gram (Read from head IgnoredRead) alone fewer among = absurd (omega arith)
dropped-place n keys context xmt given gram (Read from head ProhibitedRead) alone fewer among =
    absurd (fewer-none given (grams_of keys context xmt (Read from head ProhibitedRead)) gram (omega arith) fewer among)
dropped-place n keys context xmt given gram (Read from head RefusedRead) alone fewer among = refl
dropped-place n keys context xmt given gram (Read from head (PageRead status page)) alone fewer among = refl

module _ (told : IsAnswerTold) (common : Common) (opening : ServerState) (history : List Op) (act : Act) (octets : List ℕ) (asked : IsAsked common opening history octets) where
  -- each datagram of an answer is told by the place of its response
  served-told : (place xmt : ℕ) (reply : Reply) (answer : List (List ℕ)) (gram : List ℕ) (is : IsServed common opening history act octets place xmt reply answer) → Contains answer gram
      → IsTold (telling_of common.salt act.from.ip opening history) octets gram (place_of place (response_of (state_after_all opening is.entry.before) (context_at common act.moment) is.class))
  served-told place xmt reply answer gram is among =
      let context = context_at common act.moment in
      let before = is.entry.before in
      let response = response_of (state_after_all opening before) context is.class in
      let whole : history ≡ before ++ is.op ∷ is.entry.after = is.entry.whole in
      let by = told opening common.keys context act.from octets is.class before is.op is.entry.after xmt gram
      (subst (IsServersHistory opening) whole asked.history_is)
      (record { control = asked.control; is_class = is.is_class; is_op = is.is_op; origin = asked.origin; request = asked.request })
      (subst (λ (grams : List (List ℕ)). Contains grams gram) is.answer_is among) in
      subst (λ (n : ℕ). IsTold (telling_of common.salt act.from.ip opening history) octets gram (place_of n response)) is.entry.placed
      (subst (λ (ops : List Op). IsTold (telling_of common.salt act.from.ip opening ops) octets gram (place_of (length before) response)) (sym whole) by)

  -- so by a place that is its
  served-told-at : (place xmt : ℕ) (reply : Reply) (answer : List (List ℕ)) (gram : List ℕ) (is : IsServed common opening history act octets place xmt reply answer) (at : Option ℕ) → Contains answer gram
      → place_of place (response_of (state_after_all opening is.entry.before) (context_at common act.moment) is.class) ≡ at
      → IsTold (telling_of common.salt act.from.ip opening history) octets gram at
  served-told-at place xmt reply answer gram is at among same =
      subst (IsTold (telling_of common.salt act.from.ip opening history) octets gram) same (served-told place xmt reply answer gram is among)

  served-replied : (place xmt : ℕ) (reply : Reply) (answer : List (List ℕ)) (is : IsServed common opening history act octets place xmt reply answer)
      → IsReplied (state_after_all opening is.entry.before) (context_at common act.moment) is.class reply
  served-replied place xmt reply answer is =
      replied (state_after_all opening is.entry.before) (context_at common act.moment) is.class is.op reply is.is_op is.entry.answered

  -- each datagram that was given is told by the place that the act's kind names
  pub act-told : (answer : List (List ℕ)) (kind : ActKind) (gram : List ℕ) → IsActOf common opening history act octets answer kind → Contains (take act.given answer) gram
      → IsTold (telling_of common.salt act.from.ip opening history) octets gram (read_place kind)
  act-told answer (TimeAct place xmt kind) gram (verdict, is, kind_is, has) among =
      let by = served-replied place xmt (Judged verdict) answer is in
      served-told-at place xmt (Judged verdict) answer gram is None (take-among act.given answer gram among)
      (ap (place_of place) by.is ∙ judged-place place by.request verdict)
  act-told answer (Control place ignored) gram (xmt, given, is, ignored_is, has) among =
      let by = served-replied place xmt (Looked given) answer is in
      served-told-at place xmt (Looked given) answer gram is None (take-among act.given answer gram among)
      (ap (place_of place) by.is ∙ looked-place place by.request given)
  act-told answer (ReadAct place kind) gram (xmt, reply, is, kind_is, has) among =
      let context = context_at common act.moment in
      let by = served-replied place xmt (ReadReplied reply) answer is in
      let whole = take-among act.given answer gram among in
      let grams : Contains (grams_of common.keys context xmt (response_to by.request (ReadReplied reply))) gram =
      subst (λ (response : Response). Contains (grams_of common.keys context xmt response) gram) by.is (subst (λ (those : List (List ℕ)). Contains those gram) is.answer_is whole) in
      served-told-at place xmt (ReadReplied reply) answer gram is (read_place (ReadAct place kind)) whole
      (ap (place_of place) by.is ∙ read-place place common.keys context xmt gram by.request reply grams ∙ ap (λ k. read_place (ReadAct place k)) (sym kind_is))
  act-told answer (SilentAct why) gram (class, none, given, failed) among =
      absurd (among-none gram (subst (λ (those : List (List ℕ)). Contains those gram) none (take-among act.given answer gram among)))
  act-told answer (Dropped None) gram (lack, none, given, failed) among =
      absurd (among-none gram (subst (λ (those : List (List ℕ)). Contains those gram) none (take-among act.given answer gram among)))
  act-told answer (Dropped (Some place)) gram (xmt, reply, is, fewer, failed) among =
      let context = context_at common act.moment in
      let s = state_after_all opening is.entry.before in
      let response = response_of s context is.class in
      served-told-at place xmt reply answer gram is (Some place) (take-among act.given answer gram among)
      (dropped-place place common.keys context xmt act.given gram response
      (grams-alone s common.keys context act.from octets is.class opening.origin.0 is.is_class asked.request)
      (subst (λ (those : List (List ℕ)). act.given < length those) is.answer_is fewer)
      (subst (λ (those : List (List ℕ)). Contains (take act.given those) gram) is.answer_is among))
