-- What becomes of a read of the client list: our own rule, by restrict flags after NTPsec's.
use Rattle.std.specs.Prelude.{ℕ, ◌≤◌, ◌||◌, if◌then◌else◌, Option, Some, None, List, [], ◌∷◌}
use Rattle.access_rules.specs.declared.flags.TheConstants.{IGNORE, NOQUERY, NOMRULIST}
use Rattle.access_rules.specs.Flags.{has_flag}
use Rattle.access_rules.specs.Rules.{flags_of}
use Rattle.net_addr.specs.declared.addr.Addr.{Addr}
use Rattle.mode6_frame.specs.declared.errors.TheConstants.{BAD_NAME, PROHIBITED}
use Rattle.mode6_frame.specs.declared.message.Head.{Head}
use Rattle.mru_items.specs.declared.query.TheConstants.{MAX_FRAGS}
use Rattle.mru_read.specs.declared.pages.Page.{Page as PageOfList}
use Rattle.mru_read.specs.Pages.{IsTellable, grams_of_page, page_of, page_parts}
use Rattle.recency.specs.declared.row.Row.{Row}
use Rattle.sys_vars.specs.declared.context.Context.{Context}
use Rattle.sys_vars.specs.declared.published.Record.{Record}
use Rattle.sys_vars.specs.Answers.{error_octets}
use Rattle.sys_vars.specs.Contexts.{nonce_for}
use Rattle.sys_vars.specs.Status.{system_status_of}
use Rattle.server_core.specs.declared.class.ReadAsk.{ReadAsk}
use Rattle.server_core.specs.declared.read_reply.ReadReply.{ReadReply}
use Rattle.server_core.specs.declared.read_reply.ReadReply.TheVariants.{Ignored, Prohibited, Refused, Page}
use Rattle.server_core.specs.Verdicts.{drawn}

-- a page is the reply with the status word of the system; where there is none, the read is refused
abbrev pub page_reply : ℕ → Option PageOfList → ReadReply
page_reply status None = Refused
page_reply status (Some page) = Page status page

-- the reply to a sender with these flags, where this is the page: first come those that refuse control messages, then the
-- one that prohibits reads of the client list
abbrev pub reply_under : ℕ → ℕ → Option PageOfList → ReadReply
reply_under flags status page =
    if has_flag flags IGNORE || has_flag flags NOQUERY then Ignored
    else (if has_flag flags NOMRULIST then Prohibited else page_reply status page)

-- the reply to a read that came at this moment, after this stamp: the time of its page is the stamp that it draws
abbrev pub read_reply : Record → List Row → ℕ → ReadAsk → ℕ → ReadReply
read_reply rec rows stamp ask moment =
    reply_under (flags_of rec.rules ask.from.ip) (system_status_of rec.system) (page_of rows ask.request (drawn stamp moment))

-- the last stamp after a read that came at this moment and got this reply: a page alone draws one
abbrev pub read_stamp : ReadReply → ℕ → ℕ → ℕ
read_stamp Ignored stamp moment = stamp
read_stamp Prohibited stamp moment = stamp
read_stamp Refused stamp moment = stamp
read_stamp (Page status page) stamp moment = drawn stamp moment

-- the page of a reply can be told, by so many datagrams as a page may have
abbrev pub IsTellableRead : ReadReply → Type 0
IsTellableRead (Page status page) = IsTellable page × (page_parts page ≤ MAX_FRAGS)
IsTellableRead Ignored = Unit {0}
IsTellableRead Prohibited = Unit {0}
IsTellableRead Refused = Unit {0}

-- what a page repeats of its request, with this status; its association is the system's
abbrev pub head_of_page : Head → ℕ → Head
head_of_page head status = record {
  version = head.version;
  opcode = head.opcode;
  sequence = head.sequence;
  status = status;
  assoc = 0;
  version_in = head.version_in;
  opcode_in = head.opcode_in;
}

-- the datagrams of a reply to a read from this address that came in this context and whose answer repeats this head: none
-- where it is ignored, an error where it is prohibited or refused, and else those of the page with a new nonce
abbrev pub read_grams : ReadReply → Addr → Head → Context → List (List ℕ)
read_grams Ignored from head context = []
read_grams Prohibited from head context = error_octets head PROHIBITED ∷ []
read_grams Refused from head context = error_octets head BAD_NAME ∷ []
read_grams (Page status page) from head context =
    grams_of_page page (nonce_for context from.ip) context.origin.0 (head_of_page head status)
