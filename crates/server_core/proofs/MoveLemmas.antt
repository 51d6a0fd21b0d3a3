-- The operations of a server are moves of its client list.
use Rattle.std.proofs.Common.{◌≡◌, ◌<◌, ◌-◌, ◌^◌, ℕ, zero, suc, Bool, true, false, cond, ◌||◌, Option, Some, None, List, [], ◌∷◌, take, refl, sym, ap, subst, ◌∙◌}
use Rattle.access_rules.specs.declared.flags.TheConstants.{IGNORE, NOQUERY, NOMRULIST}
use Rattle.access_rules.specs.Flags.{has_flag}
use Rattle.access_rules.specs.Rules.{flags_of}
use Rattle.mru_items.specs.declared.query.ReadRequest.{ReadRequest}
use Rattle.mru_read.specs.declared.pages.Page.{Page as PageOfList}
use Rattle.mru_read.specs.Histories.{AreMoves, IsListHistory, IsMoveAt, Listing, Still, Touch, after_move, after_moves, after_read, list_at, page_at, told_if}
use Rattle.recency.specs.declared.limits.Limits.{Limits}
use Rattle.recency.specs.declared.row.Row.{Row}
use Rattle.recency.specs.declared.visit.Visit.{Visit}
use Rattle.recency.specs.Rows.{IsClientList}
use Rattle.sys_vars.specs.declared.published.Record.{Record}
use Rattle.sys_vars.specs.Status.{system_status_of}
use Rattle.server_core.specs.declared.class.Ask.{Ask}
use Rattle.server_core.specs.declared.op.Op.{Op}
use Rattle.server_core.specs.declared.op.Op.TheVariants.{Publish, Arrive, Look, Read, Sweep, Stop}
use Rattle.server_core.specs.declared.read_reply.ReadReply.{ReadReply}
use Rattle.server_core.specs.declared.read_reply.ReadReply.TheVariants.{Ignored, Prohibited, Refused, Page}
use Rattle.server_core.specs.declared.verdict.Verdict.{Verdict}
use Rattle.server_core.specs.declared.verdict.Verdict.TheVariants.{Ignored as IgnoredAsk, Limited, Rate, Served}
use Rattle.server_core.specs.Histories.{IsLegal, IsLegalAt, state_at}
use Rattle.server_core.specs.Moves.{HasMoment, HaveMoments, is_told, list_history, listing_of, move_of, moves_of, read_move}
use Rattle.server_core.specs.ReadReplies.{page_reply, read_reply, read_stamp, reply_under}
use Rattle.server_core.specs.States.{ServerState, state_after}
use Rattle.server_core.specs.Verdicts.{drawn, is_ignored, rows_told, rows_touched, verdict_at, visit_of}

-- a client is told by the verdict
told_by : (verdict : Verdict) (rows : List Row) (rec : Record) (ask : Ask) (stamp : ℕ) → told_if (is_told verdict) rows (visit_of rec ask) stamp ≡ rows_told verdict rows ask stamp
told_by IgnoredAsk rows rec ask stamp = refl
told_by Limited rows rec ask stamp = refl
told_by Rate rows rec ask stamp = refl
told_by (Served basis) rows rec ask stamp = refl

-- the list after a request for the time
after_arrival : (s : ServerState) (ask : Ask) (moment : ℕ) → after_move s.limits (listing_of s) (move_of s (Arrive ask moment)) ≡ listing_of (state_after s (Arrive ask moment))
after_arrival s ask moment = by_flags (is_ignored s.published ask)
  where
    stamp : ℕ
    stamp = drawn s.stamp moment

    touched : List Row
    touched = rows_touched s.published s.limits s.rows (drawn s.stamp moment) ask

    verdict : Verdict
    verdict = verdict_at s.published s.limits s.rows (drawn s.stamp moment) ask

    by_flags : (ignores : Bool)
        → after_move s.limits (listing_of s) (cond ignores Still (Touch (visit_of s.published ask) moment (is_told (cond ignores IgnoredAsk verdict))))
        ≡ record { rows = cond ignores s.rows (rows_told verdict touched ask stamp); stamp = cond ignores s.stamp stamp }
    by_flags true = refl
    by_flags false = ap (λ (rows : List Row). record { rows = rows; stamp = stamp }) (told_by verdict touched s.published ask stamp)

-- the list after a read whose page is this
after_reply : (limits : Limits) (list : Listing) (request : ReadRequest) (moment flags status : ℕ) (page : Option PageOfList) → page_at list request moment ≡ page
    → after_move limits list (read_move (reply_under flags status page) request moment) ≡ record { rows = list.rows; stamp = read_stamp (reply_under flags status page) list.stamp moment }
after_reply limits list request moment flags status page is = by_flags (has_flag flags IGNORE || has_flag flags NOQUERY) (has_flag flags NOMRULIST)
  where
    by_page : (page : Option PageOfList) → page_at list request moment ≡ page
        → after_move limits list (read_move (page_reply status page) request moment) ≡ record { rows = list.rows; stamp = read_stamp (page_reply status page) list.stamp moment }
    by_page None none = ap (λ (p : Option PageOfList). after_read list p moment) none
    by_page (Some page) some = ap (λ (p : Option PageOfList). after_read list p moment) some

    by_flags : (ignores prohibits : Bool)
        → after_move limits list (read_move (cond ignores Ignored (cond prohibits Prohibited (page_reply status page))) request moment)
        ≡ record { rows = list.rows; stamp = read_stamp (cond ignores Ignored (cond prohibits Prohibited (page_reply status page))) list.stamp moment }
    by_flags true prohibits = refl
    by_flags false true = refl
    by_flags false false = by_page page is

-- the list after an operation is that after its move
pub after_move-op : (s : ServerState) (op : Op) → after_move s.limits (listing_of s) (move_of s op) ≡ listing_of (state_after s op)
after_move-op s (Publish rec) = refl
after_move-op s (Arrive ask moment) = after_arrival s ask moment
after_move-op s (Look asked context) = refl
after_move-op s (Read ask moment) =
    after_reply s.limits (listing_of s) ask.request moment (flags_of s.published.rules ask.from.ip) (system_status_of s.published.system) (page_at (listing_of s) ask.request moment) refl
after_move-op s (Sweep moment) = refl
after_move-op s (Stop stop) = refl

-- so it is after operations, one after another
pub list_at-state : (s : ServerState) (ops : List Op) (place : ℕ) → list_at (list_history s ops) place ≡ listing_of (state_at s ops place)
list_at-state s [] zero = refl
list_at-state s [] (suc place) = refl
list_at-state s (op ∷ ops) zero = refl
list_at-state s (op ∷ ops) (suc place) =
    ap (λ (list : Listing). after_moves s.limits list (take place (moves_of (state_after s op) ops))) (after_move-op s op)
    ∙ list_at-state (state_after s op) ops place

-- an operation that may stand is a move that may
IsMoveAt-arrival : (s : ServerState) (ignores told : Bool) (visit : Visit) (moment : ℕ) → s.stamp < 2 ^ 64 - 1 → moment < 2 ^ 64 → IsMoveAt s.limits (listing_of s) (cond ignores Still (Touch visit moment told))
IsMoveAt-arrival s true told visit moment room fits = tt
IsMoveAt-arrival s false told visit moment room fits = (room, fits)

IsMoveAt-read : (s : ServerState) (reply : ReadReply) (request : ReadRequest) (moment : ℕ) → s.stamp < 2 ^ 64 - 1 → moment < 2 ^ 64 → IsMoveAt s.limits (listing_of s) (read_move reply request moment)
IsMoveAt-read s Ignored request moment room fits = tt
IsMoveAt-read s Prohibited request moment room fits = tt
IsMoveAt-read s Refused request moment room fits = (room, fits)
IsMoveAt-read s (Page status page) request moment room fits = (room, fits)

-- so operations that may stand are moves that may, each at its list
AreMoves-legal : (s : ServerState) (ops : List Op) → IsLegal s ops → HaveMoments ops → AreMoves s.limits (listing_of s) (moves_of s ops)
AreMoves-legal s [] legal moments = tt
AreMoves-legal s (op ∷ ops) legal moments =
    (by_op op legal.0 moments.0, subst (λ (list : Listing). AreMoves s.limits list (moves_of (state_after s op) ops)) (sym (after_move-op s op)) (AreMoves-legal (state_after s op) ops legal.1 moments.1))
  where
    by_op : (o : Op) → IsLegalAt s o → HasMoment o → IsMoveAt s.limits (listing_of s) (move_of s o)
    by_op (Publish rec) legal fits = tt
    by_op (Arrive ask moment) legal fits = IsMoveAt-arrival s (is_ignored s.published ask) _ (visit_of s.published ask) moment legal fits
    by_op (Look asked context) legal fits = tt
    by_op (Read ask moment) legal fits = IsMoveAt-read s (read_reply s.published s.rows s.stamp ask moment) ask.request moment legal fits
    by_op (Sweep moment) legal fits = fits
    by_op (Stop stop) legal fits = tt

-- over legal operations a server's client list has a history
pub IsListHistory-legal : (s : ServerState) (ops : List Op) → IsClientList s.limits s.rows s.stamp → s.stamp < 2 ^ 64 → IsLegal s ops → HaveMoments ops → IsListHistory (list_history s ops)
IsListHistory-legal s ops list stamp legal moments = record { list = list; stamp = stamp; moves = AreMoves-legal s ops legal moments }
