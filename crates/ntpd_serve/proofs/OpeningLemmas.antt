-- A server that has just begun refuses nobody.
use Rattle.std.proofs.Common.{◌≡◌, ◌≢◌, ℕ, Bool, true, false, cond, ◌||◌, Option, Some, None, List, [], ◌∷◌, refl, sym, ap, subst, ◌∙◌, arith}
use Rattle.std.specs.Option.{option_map, unwrap_or}
use Rattle.std.proofs.lemmas.List.Elements.{All-head, All-tail}
use Rattle.net_addr.specs.declared.addr.Ip.{Ip}
use Rattle.net_addr.specs.Prefixes.{has_ip}
use Rattle.access_rules.specs.declared.rules.Rule.{Rule}
use Rattle.access_rules.specs.declared.flags.TheConstants.{IGNORE, NOQUERY}
use Rattle.access_rules.specs.Flags.{has_flag}
use Rattle.access_rules.specs.Rules.{IsPlain, flags_of}
use Rattle.fixed_time.specs.declared.time.Ntp64.{Ntp64}
use Rattle.recency.specs.declared.row.Row.{Row}
use Rattle.recency.specs.Rows.{find_row}
use Rattle.sys_vars.specs.Answers.{grams_of}
use Rattle.sys_vars.specs.Opening.{IsOpening}
use Rattle.sys_vars.specs.declared.answer.Answer.{Answer}
use Rattle.sys_vars.specs.declared.answer.Answer.TheVariants.{Ignored as IgnoredLook, Given}
use Rattle.sys_vars.specs.declared.asked.Asked.{Asked}
use Rattle.sys_vars.specs.declared.context.Context.{Context}
use Rattle.sys_vars.specs.declared.published.Record.{Record}
use Rattle.server_core.specs.declared.class.Ask.{Ask}
use Rattle.server_core.specs.declared.class.Class.{Class}
use Rattle.server_core.specs.declared.class.Class.TheVariants.{Silent as SilentClass, Time as TimeClass, Look as LookClass, Read as ReadClass}
use Rattle.server_core.specs.declared.op.Op.TheVariants.{Arrive, Look}
use Rattle.server_core.specs.declared.step.Reply.TheVariants.{Time, Looked}
use Rattle.server_core.specs.declared.verdict.Verdict.{Verdict}
use Rattle.server_core.specs.declared.verdict.Verdict.TheVariants.{Ignored, Served}
use Rattle.server_core.specs.States.{ServerState, reply_to}
use Rattle.server_core.specs.Verdicts.{basis_of, drawn, is_denied, rate_verdict, rows_touched}
use Rattle.net_addr.specs.declared.addr.Addr.{Addr}
use Rattle.edge_traits.specs.declared.port.Event.{Event}
use Rattle.server_core.specs.declared.response.Response.{Response}
use Rattle.server_core.specs.declared.response.Response.TheVariants.{Silent as NoAnswer}
use Rattle.server_core.specs.declared.response.Silence.TheVariants.{Ignored as IgnoredAsk, Limited as LimitedAsk}
use Rattle.server_core.specs.declared.request.Request.TheVariants.{Time as TimeRequest, Look as LookRequest}
use Rattle.server_core.specs.ReadReplies.{page_reply, reply_under}
use Rattle.server_core.specs.Responses.{response_of, response_on, response_to}
use Rattle.mode6_frame.specs.declared.message.Head.{Head}
use Rattle.mru_read.specs.declared.pages.Page.{Page}
use Rattle.mru_read.specs.Pages.{page_of}
use Rattle.sys_vars.specs.Status.{system_status_of}
use Rattle.shared_book.specs.Contexts.{context_at}
use Rattle.shared_book.specs.declared.common.Common.{Common}
use Rattle.ntpd_serve.specs.declared.ending.Ending.{Ending}
use Rattle.ntpd_serve.specs.declared.ending.Ending.TheVariants.{Silent}
use Rattle.ntpd_serve.specs.Once.{IsOpeningState, Follows}

-- of two rules without flags, whichever has the address, or neither, it has none
flags_of-two : (first second : Bool) (one two : Rule) → one.flags ≡ 0 → two.flags ≡ 0
    → unwrap_or (option_map (λ (rule : Rule). rule.flags) (cond second (Some two) (cond first (Some one) None))) 0 ≡ 0
flags_of-two first true one two none_one none_two = none_two
flags_of-two true false one two none_one none_two = none_one
flags_of-two false false one two none_one none_two = refl

-- under plain rules no address has a flag
flags_of-plain : (rules : List Rule) (ip : Ip) → IsPlain rules → flags_of rules ip ≡ 0
flags_of-plain [] ip plain = absurd (omega (arith, plain.two))
flags_of-plain (one ∷ []) ip plain = absurd (omega (arith, plain.two))
flags_of-plain (one ∷ (two ∷ (three ∷ rules))) ip plain = absurd (omega (arith, plain.two))
flags_of-plain (one ∷ (two ∷ [])) ip plain =
    let NoFlags : Rule → Type 0 = λ rule. rule.flags ≡ 0 in
    flags_of-two (has_ip one.prefix ip) (has_ip two.prefix ip) one two
    (All-head NoFlags one (two ∷ []) plain.no_flags)
    (All-head NoFlags two [] (All-tail NoFlags one (two ∷ []) plain.no_flags))

-- nor at a server that has just begun
flags_of-opening : (origin : Ntp64) (rec : Record) (ip : Ip) → IsOpening origin rec → flags_of rec.rules ip ≡ 0
flags_of-opening origin rec ip (rules, plain, same) =
    ap (λ (r : Record). flags_of r.rules ip) same ∙ flags_of-plain rules ip plain

-- a client without flags is not limited
rate_verdict-no_flags : (rec : Record) (stamp : ℕ) (row : Option Row) → rate_verdict rec 0 stamp row ≡ Served (basis_of rec)
rate_verdict-no_flags rec stamp None = refl
rate_verdict-no_flags rec stamp (Some row) = refl

-- each request for the time is served
pub reply_to-Arrive : (origin : Ntp64) (s : ServerState) (ask : Ask) (came : ℕ) → IsOpeningState origin s → reply_to s (Arrive ask came) ≡ Time (Served (basis_of s.published))
reply_to-Arrive origin s ask came opening =
    let stamp : ℕ = drawn s.stamp came in
    let row : Option Row = find_row (rows_touched s.published s.limits s.rows stamp ask) ask.from.ip in
    let judged : ℕ → Verdict = λ flags. cond (has_flag flags IGNORE) Ignored (cond (is_denied flags ask) Ignored (rate_verdict s.published flags stamp row)) in
    ap Time (ap judged (flags_of-opening origin s.published ask.from.ip opening.published) ∙ rate_verdict-no_flags s.published stamp row)

-- each control request is answered
pub reply_to-Look : (origin : Ntp64) (s : ServerState) (asked : Asked) (context : Context) → IsOpeningState origin s → reply_to s (Look asked context) ≡ Looked (Given s.published.epoch (grams_of s.published asked context))
reply_to-Look origin s asked context opening =
    let given : Answer = Given s.published.epoch (grams_of s.published asked context) in
    let judged : ℕ → Answer = λ flags. cond (has_flag flags IGNORE || has_flag flags NOQUERY) IgnoredLook given in
    ap Looked (ap judged (flags_of-opening origin s.published asked.from.ip opening.published))

-- a read is refused for its pairs alone, or gets its page
reply_under-none : (flags status : ℕ) (page : Option Page) → flags ≡ 0 → reply_under flags status page ≡ page_reply status page
reply_under-none flags status page none = ap (λ (f : ℕ). reply_under f status page) none

-- a response that is no refusal
abbrev IsHeard : Response → Type 0
IsHeard (NoAnswer IgnoredAsk) = ⊥
IsHeard (NoAnswer LimitedAsk) = ⊥
IsHeard _ = Unit {0}

IsHeard-page : (from : Addr) (head : Head) (status : ℕ) (page : Option Page) → IsHeard (response_on from head (page_reply status page))
IsHeard-page from head status None = tt
IsHeard-page from head status (Some page) = tt

IsHeard-response : (origin : Ntp64) (s : ServerState) (context : Context) (class : Class) (response : Response) → IsOpeningState origin s → response ≡ response_of s context class → IsHeard response
IsHeard-response origin s context (SilentClass why) response opening same = subst IsHeard (sym same) tt
IsHeard-response origin s context (TimeClass ask) response opening same =
    subst IsHeard (sym (same ∙ ap (response_to (TimeRequest ask)) (reply_to-Arrive origin s ask context.moment opening))) tt
IsHeard-response origin s context (LookClass asked) response opening same =
    subst IsHeard (sym (same ∙ ap (response_to LookRequest) (reply_to-Look origin s asked context opening))) tt
IsHeard-response origin s context (ReadClass ask) response opening same =
    let page : Option Page = page_of s.rows ask.request (drawn s.stamp context.moment) in
    let status : ℕ = system_status_of s.published.system in
    subst IsHeard (sym (same ∙ ap (response_on ask.from ask.head) (reply_under-none (flags_of s.published.rules ask.from.ip) status page (flags_of-opening origin s.published ask.from.ip opening.published))))
    (IsHeard-page ask.from ask.head status page)

-- so no call ends by a refusal
pub unrefused-Follows : (common : Common) (s : ServerState) (ending : Ending) (from : Addr) (octets : List ℕ) (events : List Event) (readings : List ℕ)
    → IsOpeningState common.origin s → Follows common s ending from octets events readings → (ending ≢ Silent IgnoredAsk) × (ending ≢ Silent LimitedAsk)
unrefused-Follows common s ending from octets events readings opening follows =
    let At : Ending → Type 0 = λ other. Follows common s other from octets events readings in (
      λ ignored. let none = subst At ignored follows in IsHeard-response common.origin s (context_at common none.came) none.is_response.0 (NoAnswer IgnoredAsk) opening none.is_response.2,
      λ limited. let none = subst At limited follows in IsHeard-response common.origin s (context_at common none.came) none.is_response.0 (NoAnswer LimitedAsk) opening none.is_response.2,
    )
