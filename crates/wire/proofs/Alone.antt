-- An answer to a listing's request that is of no read has one datagram.
use Rattle.std.proofs.Common.{◌≡◌, inl, inr, ℕ, ◌≤◌, Bool, true, false, cond, List, [], ◌∷◌, length, map, Option, Some, None, sym, subst, arith}
use Rattle.std.specs.Prelude.{nat_le}
use Rattle.std.proofs.lemmas.Bool.{cond-true, le-leb}
use Rattle.list_telling.specs.Requests.{IsListRequest}
use Rattle.mac_keys.specs.declared.keys.Key.{Key}
use Rattle.mode6_frame.specs.declared.message.Head.{Head}
use Rattle.mode6_frame.specs.declared.message.TheConstants.{MAX_BODY}
use Rattle.mode6_frame.specs.declared.operations.TheConstants.{OP_READ_VARIABLES}
use Rattle.mode6_frame.specs.Cuts.{Part, part_frame, parts_cut, runs_after, laid, TAG_ITEM_LEN, whole_part}
use Rattle.mode6_frame.specs.Frames.{FrameParts, spelled_frame}
use Rattle.mode6_frame.specs.ItemTexts.{plain_text}
use Rattle.mode6_frame.specs.Places.{frame_at}
use Rattle.mode6_frame.proofs.FrameLemmas.{frame_at-frame}
use Rattle.mode6_nonce.proofs.DigitLemmas.{digits-nonce, length-nonce}
use Rattle.mrulist_coverage.specs.Tellings.{IsNonce}
use Rattle.mrulist_coverage.proofs.NonceLemmas.{nonce-short}
use Rattle.net_addr.specs.declared.addr.Addr.{Addr}
use Rattle.server_core.specs.declared.class.Class.{Class}
use Rattle.server_core.specs.declared.class.Class.TheVariants.{Silent as SilentClass, Time as TimeClass, Look as LookClass, Read as ReadClass}
use Rattle.server_core.specs.declared.read_reply.ReadReply.{ReadReply}
use Rattle.server_core.specs.declared.read_reply.ReadReply.TheVariants.{Ignored as IgnoredRead, Prohibited as ProhibitedRead, Refused as RefusedRead, Page as PageRead}
use Rattle.server_core.specs.declared.response.Response.TheVariants.{Grams}
use Rattle.server_core.specs.declared.verdict.Verdict.{Verdict}
use Rattle.server_core.specs.declared.verdict.Verdict.TheVariants.{Ignored as IgnoredAsk, Limited as LimitedAsk, Rate as RateAsk, Served as ServedAsk}
use Rattle.server_core.specs.declared.class.Ask.{Ask}
use Rattle.server_core.specs.Class.{IsClass, IsControl}
use Rattle.server_core.specs.Control.{IsWhat}
use Rattle.server_core.specs.ReadReplies.{read_reply}
use Rattle.server_core.specs.Responses.{response_by, response_of, response_on, response_with}
use Rattle.server_core.specs.Verdicts.{arrival_verdict}
use Rattle.server_core.specs.States.{ServerState}
use Rattle.sys_vars.specs.Answers.{grams_for, head_about, is_refused, nonce_item, status_grams}
use Rattle.sys_vars.specs.Contexts.{nonce_for, time_of}
use Rattle.sys_vars.specs.Variables.{subject_of}
use Rattle.sys_vars.specs.declared.answer.Answer.TheVariants.{Ignored as Unanswered, Given}
use Rattle.sys_vars.specs.declared.asked.Asked.{Asked}
use Rattle.sys_vars.specs.declared.asked.What.{What}
use Rattle.sys_vars.specs.declared.asked.What.TheVariants.{Status, Vars, Nonce, Bad}
use Rattle.sys_vars.specs.declared.context.Context.{Context}
use Rattle.sys_vars.specs.declared.published.Record.{Record}
use Rattle.sys_vars.specs.declared.subject.Subject.{Subject}
use Rattle.sys_vars.specs.declared.subject.Subject.TheVariants.{System}

-- it asks for no variables
abbrev IsNoVars : What → Type 0
IsNoVars Status = Unit {0}
IsNoVars (Vars numbers) = ⊥
IsNoVars Nonce = Unit {0}
IsNoVars (Bad code) = Unit {0}

-- the nonce of an answer takes one datagram
nonce-alone : (rec : Record) (head : Head) (context : Context) (from : Addr) → length (grams_for rec head context from Nonce) ≤ 1
unfolding parts_cut
nonce-alone rec head context from =
    let nonce = nonce_for context from.ip in
    let is : IsNonce nonce = record { length_is = length-nonce context.salt from.ip (time_of context); digits = digits-nonce context.salt from.ip (time_of context) } in
    let items = nonce_item nonce ∷ [] in
    let fits : nat_le (length (plain_text items)) MAX_BODY ≡ true = le-leb (length (plain_text items)) MAX_BODY (nonce-short nonce is) in
    let one : List Part → Type 0 = λ parts. length (map (λ part. spelled_frame (part_frame (head_about rec System head) part)) parts) ≤ 1 in
    subst one (sym (cond-true (nat_le (length (plain_text items)) MAX_BODY) (whole_part (plain_text items) ∷ []) (laid rec.epoch 0 (runs_after TAG_ITEM_LEN items)) fits)) (omega arith)

status-alone : (rec : Record) (head : Head) (subject : Option Subject) → length (status_grams rec head subject) ≤ 1
status-alone rec head None = omega arith
status-alone rec head (Some subject) = omega arith

what-alone : (rec : Record) (head : Head) (context : Context) (from : Addr) (what : What) → IsNoVars what → length (grams_for rec head context from what) ≤ 1
what-alone rec head context from Status is = status-alone rec head (subject_of rec head.assoc)
what-alone rec head context from (Vars numbers) is = absurd is
what-alone rec head context from Nonce is = nonce-alone rec head context from
what-alone rec head context from (Bad code) is = omega arith

-- what a listing's request asks for has another operation code
list-opcode : (f : FrameParts) (origin : ℕ) → IsListRequest f origin → f.opcode ≡ OP_READ_VARIABLES → ⊥
list-opcode f origin (inl nonce) variables = absurd (omega (arith, nonce, variables))
list-opcode f origin (inr page) variables = absurd (omega (arith, page.opcode, variables))

no-vars : (f : FrameParts) (what : What) (origin : ℕ) → IsListRequest f origin → IsWhat f what → IsNoVars what
no-vars f Status origin request is = tt
no-vars f (Vars numbers) origin request is = list-opcode f origin request is.0
no-vars f Nonce origin request is = tt
no-vars f (Bad code) origin request is = tt

-- a listing's request asks for no variables
class-no-vars : (octets : List ℕ) (from : Addr) (context : Context) (asked : Asked) (origin : ℕ) → IsControl octets from context (LookClass asked) → IsListRequest (frame_at octets) origin → IsNoVars asked.what
class-no-vars octets from context asked origin (f, is, inl its) request =
    no-vars f asked.what origin (subst (λ (g : FrameParts). IsListRequest g origin) (frame_at-frame octets f is.frame) request) its.what_is
class-no-vars octets from context asked origin (f, is, inr bad) request = subst IsNoVars (sym bad.what_is) tt

grams-same : (one other : List (List ℕ)) → Grams one ≡ Grams other → one ≡ other
grams-same one other same = cc

-- an answer of one datagram is a response of one
answer-alone : (refused : Bool) (epoch : ℕ) (those grams : List (List ℕ)) → length those ≤ 1 → response_with (cond refused Unanswered (Given epoch those)) ≡ Grams grams → length grams ≤ 1
answer-alone true epoch those grams alone same = absurd (cc same)
answer-alone false epoch those grams alone same = subst (λ (these : List (List ℕ)). length these ≤ 1) (grams-same those grams same) alone

-- no other class has such a response
time-other : (ask : Ask) (verdict : Verdict) (grams : List (List ℕ)) → response_by ask verdict ≡ Grams grams → ⊥
time-other ask IgnoredAsk grams same = absurd (cc same)
time-other ask LimitedAsk grams same = absurd (cc same)
time-other ask RateAsk grams same = absurd (cc same)
time-other ask (ServedAsk basis) grams same = absurd (cc same)

read-other : (from : Addr) (head : Head) (reply : ReadReply) (grams : List (List ℕ)) → response_on from head reply ≡ Grams grams → ⊥
read-other from head IgnoredRead grams same = absurd (cc same)
read-other from head ProhibitedRead grams same = absurd (cc same)
read-other from head RefusedRead grams same = absurd (cc same)
read-other from head (PageRead status page) grams same = absurd (cc same)

-- an answer to a listing's request that is of no read has one datagram
pub grams-alone : (s : ServerState) (keys : List Key) (context : Context) (from : Addr) (octets : List ℕ) (class : Class) (origin : ℕ) → IsClass octets from keys context class → IsListRequest (frame_at octets) origin
    → (grams : List (List ℕ)) → response_of s context class ≡ Grams grams → length grams ≤ 1
grams-alone s keys context from octets (SilentClass why) origin is request grams same = absurd (cc same)
grams-alone s keys context from octets (TimeClass ask) origin is request grams same =
    absurd (time-other ask (arrival_verdict s.published s.limits s.rows s.stamp ask context.moment) grams same)
grams-alone s keys context from octets (LookClass asked) origin is request grams same =
    answer-alone (is_refused s.published asked) s.published.epoch (grams_for s.published asked.head context asked.from asked.what) grams
    (what-alone s.published asked.head context asked.from asked.what (class-no-vars octets from context asked origin is request)) same
grams-alone s keys context from octets (ReadClass ask) origin is request grams same =
    absurd (read-other ask.from ask.head (read_reply s.published s.rows s.stamp ask context.moment) grams same)
