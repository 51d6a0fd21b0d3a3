-- A datagram and its response.
use Rattle.std.proofs.Common.{◌≡◌, ℕ, ◌≤◌, Bool, true, false, cond, Option, Some, None, IsSome, IsSomeAnd, Result, Ok, Err, IfOk, OnOk, OnErr, List, length, refl, sym, ap, subst, ◌∙◌, inl, inr, arith}
use Rattle.mac_keys.specs.declared.checking.Auth.{Auth}
use Rattle.mac_keys.specs.declared.checking.Auth.TheVariants.{Absent, Good, Bad}
use Rattle.mac_keys.specs.declared.keys.Key.{Key}
use Rattle.mac_keys.specs.Tables.{key_of}
use Rattle.mode6_frame.proofs.FrameLemmas.{frame_at-frame, frame_fault_of-frame}
use Rattle.net_addr.specs.declared.addr.Addr.{Addr}
use Rattle.ntp_trailer.specs.declared.parts.Mac.{Mac}
use Rattle.ntp_trailer.specs.declared.parts.Trailer.{Trailer as FieldsAndMac}
use Rattle.ntp_trailer.specs.Authentic.{IsAuth, IsAuthenticMac}
use Rattle.sys_vars.specs.Answers.{grams_of, is_refused}
use Rattle.sys_vars.proofs.AnswerLemmas.{grams_of-some}
use Rattle.sys_vars.specs.declared.answer.Answer.TheVariants.{Ignored as Unanswered, Given}
use Rattle.sys_vars.specs.declared.context.Context.{Context}
use Rattle.server_core.specs.declared.class.Ask.{Ask}
use Rattle.server_core.specs.declared.class.Class.{Class}
use Rattle.server_core.specs.declared.class.Class.TheVariants.{Silent as SilentClass, Time as TimeClass, Look as LookClass, Read as ReadClass}
use Rattle.server_core.specs.declared.class.Unheard.{Unheard}
use Rattle.server_core.specs.declared.class.Unheard.TheVariants.{BadNonce}
use Rattle.server_core.specs.declared.op.Op.{Op}
use Rattle.server_core.specs.declared.read_reply.ReadReply.{ReadReply}
use Rattle.server_core.specs.declared.read_reply.ReadReply.TheVariants.{Ignored as IgnoredRead, Prohibited, Refused, Page}
use Rattle.server_core.specs.declared.response.Response.{Response}
use Rattle.server_core.specs.declared.response.Response.TheVariants.{Grams}
use Rattle.server_core.specs.declared.step.StepFault.{StepFault}
use Rattle.server_core.specs.declared.step.StepFault.TheVariants.{NoMemory}
use Rattle.server_core.specs.declared.verdict.Verdict.{Verdict}
use Rattle.server_core.specs.declared.verdict.Verdict.TheVariants.{Ignored, Limited, Rate, Served}
use Rattle.server_core.specs.Books.{BookParts}
use Rattle.server_core.specs.Class.{IsClass}
use Rattle.server_core.specs.Control.{IsReadRequest, has_answer_bit}
use Rattle.server_core.specs.ReadReplies.{read_reply}
use Rattle.server_core.specs.Reads.{IsRequestClass}
use Rattle.mode6_frame.specs.Frames.{FrameParts}
use Rattle.mode6_frame.specs.declared.message.Head.{Head}
use Rattle.server_core.specs.Reply.{HasKey}
use Rattle.server_core.specs.Responses.{IsGivable, IsShortResponse, IsTellableResponse, IsUnmet, IsUntaken, book_after, op_of, response_by, response_of, response_on, response_with}
use Rattle.server_core.specs.States.{ServerState}
use Rattle.server_core.specs.Verdicts.{arrival_verdict}
use Rattle.server_core.proofs.ClassLemmas.{IsControlClass, control_class}
use Rattle.server_core.proofs.ControlLemmas.{frame_mode}

-- a request whose items are wanted has no response where memory is wanting
unmet-request : (f : FrameParts) (from : Addr) (context : Context) (book : BookParts) (class : Class) → IsRequestClass f from context class → IsUnmet book context class NoMemory
unmet-request f from context book (SilentClass BadNonce) is = refl
unmet-request f from context book (SilentClass _) is = absurd is
unmet-request f from context book (TimeClass ask) is = absurd is
unmet-request f from context book (LookClass asked) is = inr (refl, tt)
unmet-request f from context book (ReadClass ask) is = inr (refl, tt)

pub unmet-read : (octets : List ℕ) (from : Addr) (keys : List Key) (context : Context) (book : BookParts) → IsReadRequest octets → (class : Class) → IsClass octets from keys context class → IsUnmet book context class NoMemory
unmet-read octets from keys context book (f, request, reads) class is = by_class (control_class octets from keys context (frame_mode octets f request.frame) class is)
  where
    by_class : IsControlClass octets from context class → IsUnmet book context class NoMemory
    by_class (inl (fault, refused, _)) = absurd (cc (refused, frame_fault_of-frame octets f request.frame))
    by_class (inr (inl (g, frame, answer, _))) =
        let same : f ≡ g = sym (frame_at-frame octets f request.frame) ∙ frame_at-frame octets g frame in
        let set : has_answer_bit f ≡ true = ap (λ h. has_answer_bit h) same ∙ answer in
        absurd (cc (request.no_answer, set))
    by_class (inr (inr (g, _, is_request))) = unmet-request g from context book class is_request

-- where the operation of a datagram was not taken there is no response
pub unmet-untaken : (book : BookParts) (context : Context) (class : Class) (op : Op) (fault : StepFault) → op_of context class ≡ Some op → IsUntaken book (Some op) fault → IsUnmet book context class fault
unmet-untaken book context (SilentClass why) op fault same untaken = absurd (cc same)
unmet-untaken book context (TimeClass ask) op fault same untaken = subst (λ (o : Option Op). IsUntaken book o fault) (sym same) untaken
unmet-untaken book context (LookClass asked) op fault same untaken = subst (λ (o : Option Op). IsUntaken book o fault) (sym same) untaken
unmet-untaken book context (ReadClass ask) op fault same untaken = subst (λ (o : Option Op). IsUntaken book o fault) (sym same) untaken

-- a datagram that is not heard leaves the server as it was, with memory or without
pub book_after-silent : {A B : Type 0} (answer : Result A B) (old new : BookParts) (context : Context) (class : Class) (why : Unheard)
    → class ≡ SilentClass why → OnOk answer (new ≡ book_after old (op_of context class)) → OnErr answer (new ≡ old) → new ≡ old
book_after-silent (Ok response) old new context class why same after kept = after ∙ ap (λ (c : Class). book_after old (op_of context c)) same
book_after-silent (Err fault) old new context class why same after kept = kept

-- a key that checks a MAC is there
IsSome-authentic : (P : Key → Type 0) (found : Option Key) → IsSomeAnd found P → IsSome found
IsSome-authentic P (Some key) is = refl
IsSome-authentic P None is = absurd is

HasKey-mac : (keys : List Key) (octets : List ℕ) (id : ℕ) (mac : Option Mac) → IsSomeAnd mac (λ m. IsAuthenticMac keys octets m id) → IsSome (key_of keys id)
HasKey-mac keys octets id (Some mac) is = IsSome-authentic _ (key_of keys id) is.2
HasKey-mac keys octets id None is = absurd is

-- the key of a good MAC is there
HasKey-shown : (keys : List Key) (octets : List ℕ) (trailer : FieldsAndMac) (auth : Auth) → IsAuth keys octets trailer auth → HasKey keys auth
HasKey-shown keys octets trailer Absent is = tt
HasKey-shown keys octets trailer (Good id) is = HasKey-mac keys octets id trailer.mac is
HasKey-shown keys octets trailer Bad is = tt

-- so each verdict on its request has a response that can be given
IsGivable-verdict : (keys : List Key) (ask : Ask) (verdict : Verdict) → HasKey keys ask.auth → IsGivable keys (response_by ask verdict)
IsGivable-verdict keys ask Ignored has = tt
IsGivable-verdict keys ask Limited has = tt
IsGivable-verdict keys ask Rate has = tt
IsGivable-verdict keys ask (Served basis) has = has

-- and so has an answer with a datagram
IsGivable-answer : (keys : List Key) (refuses : Bool) (epoch : ℕ) (grams : List (List ℕ)) (response : Response) → 1 ≤ length grams
    → response ≡ response_with (cond refuses Unanswered (Given epoch grams)) → IsShortResponse response → IsGivable keys response
IsGivable-answer keys true epoch grams response some same short = subst (IsGivable keys) (sym same) tt
IsGivable-answer keys false epoch grams response some same short =
    let each : IsShortResponse (Grams grams) = subst IsShortResponse same short in
    subst (IsGivable keys) (sym same) (omega (arith, some), each)

-- and so has a read that is not ignored
IsGivable-read : (keys : List Key) (from : Addr) (head : Head) (reply : ReadReply) (response : Response) → response ≡ response_on from head reply → IsTellableResponse response → IsGivable keys response
IsGivable-read keys from head IgnoredRead response same tellable = subst (IsGivable keys) (sym same) tt
IsGivable-read keys from head Prohibited response same tellable = subst (IsGivable keys) (sym same) ((λ e. absurd (cc e)), tt)
IsGivable-read keys from head Refused response same tellable = subst (IsGivable keys) (sym same) ((λ e. absurd (cc e)), tt)
IsGivable-read keys from head (Page status page) response same tellable =
    subst (IsGivable keys) (sym same) ((λ e. absurd (cc e)), subst IsTellableResponse same tellable)

-- the response to a datagram can be given
pub IsGivable-response : (s : ServerState) (context : Context) (octets : List ℕ) (from : Addr) (keys : List Key) (class : Class) (response : Response) → IsClass octets from keys context class → response ≡ response_of s context class → IsShortResponse response → IsTellableResponse response → IsGivable keys response
IsGivable-response s context octets from keys (SilentClass why) response is same short tellable = subst (IsGivable keys) (sym same) tt
IsGivable-response s context octets from keys (TimeClass ask) response is same short tellable =
    let has : HasKey keys ask.auth = subst (HasKey keys) (sym is.is.auth_is) (HasKey-shown keys octets is.packet.trailer is.judged.auth is.packet.shown) in
    subst (IsGivable keys) (sym same) (IsGivable-verdict keys ask (arrival_verdict s.published s.limits s.rows s.stamp ask context.moment) has)
IsGivable-response s context octets from keys (LookClass asked) response is same short tellable =
    IsGivable-answer keys (is_refused s.published asked) s.published.epoch (grams_of s.published asked context) response (grams_of-some s.published asked context) same short
IsGivable-response s context octets from keys (ReadClass ask) response is same short tellable =
    IsGivable-read keys ask.from ask.head (read_reply s.published s.rows s.stamp ask context.moment) response same tellable

-- three facts of what came out give a fourth
pub IfOk-three : {A B : Type 0} (result : Result A B) (P Q R S : A → Type 0) → IfOk result P → IfOk result Q → IfOk result R → ((x : A) → P x → Q x → R x → S x) → IfOk result S
IfOk-three (Ok x) P Q R S first second third then = then x first second third
IfOk-three (Err fault) P Q R S first second third then = tt
