-- How a link begins.
use Rattle.std.proofs.Common.{◌≡◌, ℕ, suc, ◌+◌, ◌*◌, ◌≤◌, Bool, true, false, cond, None, [], ◌∷◌, ◌++◌, length, refl, sym, ap, subst, ◌∙◌, arith, length-append}
use Rattle.std.proofs.lemmas.List.{append-nil}
use Rattle.fixed_time.specs.declared.time.Ntp64.{Ntp64}
use Rattle.recency.specs.declared.limits.Limits.{Limits}
use Rattle.server_core.specs.declared.class.Ask.{Ask}
use Rattle.server_core.specs.declared.op.Op.TheVariants.{Arrive}
use Rattle.server_core.specs.Books.{BookParts}
use Rattle.server_core.specs.Histories.{IsLegal, state_after_all}
use Rattle.server_core.specs.States.{ServerState, refusal_of, state_after, stop_in}
use Rattle.server_core.specs.Verdicts.{drawn, is_ignored}
use Rattle.server_core.proofs.JournalLemmas.{stop_in-append}
use Rattle.shared_book.specs.declared.common.Common.{Common}
use Rattle.sys_vars.specs.declared.published.Record.{Record}
use Rattle.sys_vars.specs.Opening.{IsOpening}
use Rattle.drawn_link.specs.Arrivals.{ask_of, first_arrivals}
use Rattle.drawn_link.specs.Links.{IsBegun, IsDrawn}
use Rattle.drawn_link.specs.Services.{Runs}
use Rattle.draws.specs.declared.clients.TheConstants.{CLIENTS}
use Rattle.drawn_link.specs.declared.begin.TheConstants.{MAX_AGE, MAX_DEPTH, MIN_DEPTH, ORIGIN, SECOND}
use Rattle.drawn_link.specs.declared.link.TheConstants.{HERE, SALT}
use Rattle.drawn_link.proofs.GoingLemmas.{Runs-one, legal-Runs, legal-arrive, reached-Runs}

-- a server that nobody has asked
pub IsBegun-none : (book : BookParts) (rec : Record) (limits : Limits) → IsOpening (record { 0 = ORIGIN }) rec → limits.mindepth ≡ MIN_DEPTH → limits.maxdepth ≡ MAX_DEPTH → limits.minage ≡ 0 → limits.maxage ≡ MAX_AGE * SECOND
    → book.state.published ≡ rec → book.state.rows ≡ [] → book.state.stamp ≡ 0 → book.state.limits ≡ limits → book.state.origin ≡ record { 0 = ORIGIN } → book.journal ≡ [] → IsBegun 0 book
unfolding first_arrivals
IsBegun-none book rec limits opening mindepth maxdepth minage maxage published rows stamp limits_are origin journal = record {
  opening = book.state;
  opens = record {
    published = subst (λ (it : Ntp64). IsOpening it book.state.published) (sym origin) (subst (IsOpening (record { 0 = ORIGIN })) (sym published) opening);
    rows = rows;
    stamp = stamp;
    mindepth = ap (λ (l : Limits). l.mindepth) limits_are ∙ mindepth;
    maxdepth = ap (λ (l : Limits). l.maxdepth) limits_are ∙ maxdepth;
    minage = ap (λ (l : Limits). l.minage) limits_are ∙ minage;
    maxage = ap (λ (l : Limits). l.maxage) limits_are ∙ maxage;
    origin = ap (λ (t : Ntp64). t.0) origin;
  };
  origin = refl;
  reached = sym (ap (state_after_all book.state) journal);
  legal = subst (IsLegal book.state) (sym journal) tt;
  begins = journal;
  counted = ap length journal;
  going = ap stop_in journal;
  stamp = omega (arith, stamp);
}

-- the last stamp after the next client
next_stamp : (ignores : Bool) (number stamp moment : ℕ) → moment ≡ (number + 1) * SECOND → stamp ≤ number * SECOND → cond ignores stamp (drawn stamp moment) ≤ (number + 1) * SECOND
next_stamp true number stamp moment at below = omega (arith, below)
next_stamp false number stamp moment at below = omega (arith, at, below)

-- one client more has arrived
pub IsBegun-next : (number : ℕ) (old new : BookParts) (ask : Ask) (moment : ℕ) → IsBegun number old → ask ≡ ask_of number → moment ≡ (number + 1) * SECOND
    → refusal_of old.journal old.state.stamp (Arrive ask moment) ≡ None → new.state ≡ state_after old.state (Arrive ask moment) → new.journal ≡ old.journal ++ Arrive ask moment ∷ [] → IsBegun (number + 1) new
unfolding first_arrivals
IsBegun-next number old new ask moment is ask_is at unrefused state_is journal_is = record {
  opening = is.opening;
  opens = is.opens;
  origin = ap (λ (s : ServerState). s.origin) state_is ∙ is.origin;
  reached = reached-Runs is.opening old new runs is.reached;
  legal = legal-Runs is.opening old new runs is.reached is.legal;
  begins = subst (λ (n : ℕ). new.journal ≡ first_arrivals n) one_more (journal_is ∙ (λ i. is.begins i ++ Arrive (ask_is i) (at i) ∷ []));
  counted = ap length journal_is ∙ length-append old.journal (Arrive ask moment ∷ []) ∙ ap (λ (n : ℕ). n + 1) is.counted;
  going = ap stop_in journal_is ∙ stop_in-append old.journal (Arrive ask moment) is.going;
  stamp = subst (λ (s : ServerState). s.stamp ≤ (number + 1) * SECOND) (sym state_is) (next_stamp (is_ignored old.state.published ask) number old.state.stamp moment at is.stamp);
} where
  runs : Runs old new
  runs = Runs-one old new (Arrive ask moment) (legal-arrive (stop_in old.journal) old.journal old.state.stamp ask moment unrefused) state_is journal_is

  one_more : suc number ≡ number + 1
  one_more = omega arith

-- a link at whose ends nothing has happened
pub IsDrawn-begun : (common : Common) (book : BookParts) → IsBegun CLIENTS book → common.salt ≡ SALT → common.origin ≡ book.state.origin → IsDrawn common HERE HERE book [] [] []
IsDrawn-begun common book is salt origin = record {
  opening = is.opening;
  opens = is.opens;
  server_is = refl;
  client_is = refl;
  salt_is = salt;
  origin = origin ∙ is.origin;
  reached = is.reached;
  legal = is.legal;
  begins = ([], append-nil (first_arrivals CLIENTS) ∙ sym is.begins);
  answered = refl;
  climb = omega arith;
  carried = tt;
  queued = tt;
}
