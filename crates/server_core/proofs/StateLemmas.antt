-- A server after an operation.
use Rattle.std.proofs.Common.{◌≡◌, ℕ, Bool, true, cond, List, [], ◌∷◌, ◌++◌, ap, ◌∙◌}
use Rattle.fixed_time.specs.declared.time.Ntp64.{Ntp64}
use Rattle.recency.specs.declared.limits.Limits.{Limits}
use Rattle.recency.specs.declared.row.Row.{Row}
use Rattle.sys_vars.specs.declared.published.Record.{Record}
use Rattle.server_core.specs.declared.class.Ask.{Ask}
use Rattle.server_core.specs.declared.op.Op.{Op}
use Rattle.server_core.specs.declared.op.Op.TheVariants.{Arrive}
use Rattle.server_core.specs.Books.{BookParts}
use Rattle.server_core.specs.Journals.{published_in}
use Rattle.server_core.specs.States.{ServerState, record_of, rows_after, stamp_after, state_after}
use Rattle.server_core.specs.Verdicts.{drawn, is_ignored, rows_at}
use Rattle.server_core.proofs.JournalLemmas.{published_in-append}

-- once the journal has the operation too, all of the server is what the definition makes of it
pub stepped : (s : ServerState) (op : Op) (opening : Record) (journal pushed : List Op) (rows : List Row) (stamp : ℕ) (limits : Limits) (origin : Ntp64) (now : BookParts)
    → record { state = record { published = published_in opening journal; rows = rows; stamp = stamp; limits = limits; origin = origin }; journal = journal } ≡ now
    → now.state.published ≡ s.published → now.state.rows ≡ rows_after s op → now.state.stamp ≡ stamp_after s op → now.state.limits ≡ s.limits → now.state.origin ≡ s.origin
    → pushed ≡ journal ++ op ∷ []
    → record { published = published_in opening pushed; rows = rows; stamp = stamp; limits = limits; origin = origin } ≡ state_after s op
stepped s op opening journal pushed rows stamp limits origin now view published_is rows_is stamp_is limits_is origin_is entered =
    let before : published_in opening journal ≡ s.published = ap (λ (b : BookParts). b.state.published) view ∙ published_is in
    let published : published_in opening pushed ≡ record_of op s.published =
    ap (published_in opening) entered ∙ published_in-append opening journal op ∙ ap (record_of op) before
    in
    let same_rows : rows ≡ rows_after s op = ap (λ (b : BookParts). b.state.rows) view ∙ rows_is in
    let same_stamp : stamp ≡ stamp_after s op = ap (λ (b : BookParts). b.state.stamp) view ∙ stamp_is in
    let same_limits : limits ≡ s.limits = ap (λ (b : BookParts). b.state.limits) view ∙ limits_is in
    let same_origin : origin ≡ s.origin = ap (λ (b : BookParts). b.state.origin) view ∙ origin_is in
    λ i. record {
      published = published i;
      rows = same_rows i;
      stamp = same_stamp i;
      limits = same_limits i;
      origin = same_origin i;
    }

-- a client that is ignored leaves the server as it was
pub ignored_arrival : (s : ServerState) (ask : Ask) (moment : ℕ) → is_ignored s.published ask ≡ true → state_after s (Arrive ask moment) ≡ s
ignored_arrival s ask moment ignored =
    let listed : List Row = rows_at s.published s.limits s.rows (drawn s.stamp moment) ask in
    ap (λ (refuses : Bool). record {
      published = s.published;
      rows = cond refuses s.rows listed;
      stamp = cond refuses s.stamp (drawn s.stamp moment);
      limits = s.limits;
      origin = s.origin;
    }) ignored
