-- Lines that are taken into a draft, and lines that are refused there.
use Rattle.std.proofs.Common.{◌≡◌, ℕ, zero, suc, ◌≤◌, List, [], ◌∷◌, take, drop, length, Bool, true, false, Option, Some, Result, Ok, Err, refl, sym, ap, subst, ◌∙◌, inl, inr, arith}
use Rattle.refusals.specs.Refusals.{GoesOn, IsRefusedAt, Stops, one_place, refused_nowhere}
use Rattle.recency.specs.declared.limits.Limits.{Limits}
use Rattle.recency.specs.declared.limits.TheConstants.{MAX_DEPTH}
use Rattle.conf_file.specs.declared.drafts.Draft.{Draft}
use Rattle.conf_file.specs.declared.drafts.Untaken.{Untaken}
use Rattle.conf_file.specs.declared.drafts.Untaken.TheVariants.{Full, Unfit}
use Rattle.conf_file.specs.declared.drafts.Untaken.TheVariants as untaken
use Rattle.conf_file.specs.declared.kinds.Kind.{Kind}
use Rattle.conf_file.specs.declared.lines.Line.{Line}
use Rattle.conf_file.specs.declared.lines.Line.TheVariants as line
use Rattle.conf_file.specs.declared.list_options.ListOptions.{ListOptions}
use Rattle.conf_file.specs.declared.tails.Refusal.{Refusal}
use Rattle.conf_file.specs.declared.tails.Refusal.TheVariants.{At, NoMemory}
use Rattle.conf_file.specs.ConfLines.{IsConfLine, IsReadOr, IsTail}
use Rattle.refusals.specs.Lines.{IsRefusedAlone, IsRefusedIn, IsTaken, IsTakenAlone}
use Rattle.conf_file.specs.ConfTexts.{IsDue, IsLineIn, conf_grammar, refusal_of}
use Rattle.conf_file.specs.Drafts.{DoFit, IsLimitsOf, IsTakenInto, IsUntaken, is_closed_to, restricted}
use Rattle.conf_file.specs.Kinds.{kind_of}
use Rattle.conf_file.proofs.KindLemmas.{kind_leads}
use Rattle.conf_file.proofs.LimitLemmas.{limits-one}
use Rattle.conf_file.proofs.ReadingLemmas.{read_after}

both_answers : (b : Bool) → b ≡ true → b ≡ false → ⊥
both_answers b is unlike = cc

one_value : {X : Type 0} (o : Option X) (x y : X) → o ≡ Some x → o ≡ Some y → x ≡ y
one_value o x y first second = cc

-- the reading of a whole line
pub line_reads : (all : List (List ℕ)) (word : List ℕ) (words : List (List ℕ)) (kind : Kind) (result : Result Line Refusal) → all ≡ word ∷ words → kind_of word ≡ Some kind
    → IsReadOr 2 (IsTail kind) words result → IsReadOr 1 IsConfLine all result
line_reads all word words kind (Ok l) is known reads = read_after IsConfLine (IsTail kind) 1 all word words (Ok l) is (kind_leads word kind known) reads
line_reads all word words kind (Err (At told)) is known reads = read_after IsConfLine (IsTail kind) 1 all word words (Err told) is (kind_leads word kind known) reads
line_reads all word words kind (Err NoMemory) is known reads = tt

-- a line makes one draft
taken_one : (draft : Draft) (l : Line) (one other : Draft) → IsTakenInto draft l one → IsTakenInto draft l other → other ≡ one
taken_one draft line.Nothing one other is also = also ∙ sym is
taken_one draft (line.Listen addr) one other is also = also ∙ sym is
taken_one draft (line.Server server) one other is also = also ∙ sym is
taken_one draft (line.Restrict given) one other (rules, some, is) (others, also_some, also) =
    also ∙ ap (λ r. record draft { rules = r }) (one_value (restricted draft.rules given) others rules also_some some) ∙ sym is
taken_one draft (line.Limit given) one other is also = also ∙ sym is
taken_one draft (line.Mru given) one other (limits, of, is) (others, also_of, also) =
    also ∙ ap (λ l. record draft { limits = Some l }) (limits-one given others limits also_of of) ∙ sym is
taken_one draft (line.Keys name) one other is also = also ∙ sym is
taken_one draft (line.Local stratum) one other is also = also ∙ sym is
taken_one draft (line.Frequency frequency) one other is also = also ∙ sym is

-- a line that is taken is not one rule too many, and its limits fit each other
not_full : (draft : Draft) (l : Line) (next : Draft) → IsTakenInto draft l next → ¬ IsUntaken draft l Full
not_full draft l next taken (given, is, none) =
    let P : Line → Type 0 = λ m. IsTakenInto draft m next in
    let (rules, some, same) = subst P is taken in
    cc

do_fit : (given : ListOptions) (limits : Limits) → IsLimitsOf given limits → DoFit given
do_fit given limits is =
    let some : ℕ → Type 0 = λ n. 1 ≤ n in
    let most : ℕ → Type 0 = λ n. n ≤ MAX_DEPTH in
    let below : ℕ → Type 0 = λ n. n ≤ limits.maxdepth in
    let depth : ℕ → ℕ → Type 0 = λ m n. m ≤ n in
    record {
      some = subst some is.maxdepth limits.some;
      most = subst most is.maxdepth limits.most;
      depths = omega (arith, is.mindepth, is.maxdepth, limits.depths);
      ages = omega (arith, is.minage, is.maxage, limits.ages);
    }

not_unfit : (draft : Draft) (l : Line) (next : Draft) → IsTakenInto draft l next → ¬ IsUntaken draft l Unfit
not_unfit draft l next taken (given, is, unfit) =
    let P : Line → Type 0 = λ m. IsTakenInto draft m next in
    let (limits, of, same) = subst P is taken in
    unfit (do_fit given limits of)

-- no line is both
full_or_unfit : (draft : Draft) (l : Line) → IsUntaken draft l Full → ¬ IsUntaken draft l Unfit
full_or_unfit draft l (given, is, none) (other, also, unfit) = cc

-- a line of whose kind no more are taken is refused at its first word
closed_refused : (draft : Draft) (words : List (List ℕ)) → is_closed_to draft words ≡ true → IsRefusedAt (IsLineIn draft) words 0
closed_refused draft [] closed = cc
closed_refused draft (word ∷ words) closed = record {
  within = omega arith;
  goes_on = ([], line.Nothing, (refl, refl));
  stops = λ (more, l, (unclosed, is)). both_answers (is_closed_to draft (word ∷ words)) closed unclosed;
}

-- another line is refused where no line goes on with a word
front_open : (draft : Draft) (place : ℕ) (words : List (List ℕ)) → is_closed_to draft words ≡ false → is_closed_to draft (take place words) ≡ false
front_open draft zero words unclosed = refl
front_open draft (suc place) [] unclosed = refl
front_open draft (suc place) (word ∷ words) unclosed = unclosed

goes_on_in : (draft : Draft) (front : List (List ℕ)) → is_closed_to draft front ≡ false → GoesOn IsConfLine front → GoesOn (IsLineIn draft) front
goes_on_in draft [] unclosed on = ([], line.Nothing, (refl, refl))
goes_on_in draft (word ∷ front) unclosed (more, l, is) = (more, l, (unclosed, is))

stops_in : (draft : Draft) (front rest : List (List ℕ)) → Stops IsConfLine front rest → Stops (IsLineIn draft) front rest
stops_in draft front [] stops = λ l (unclosed, is). stops l is
stops_in draft front (word ∷ rest) stops = λ (more, l, (unclosed, is)). stops (more, l, is)

refused_in : (draft : Draft) (words : List (List ℕ)) (place : ℕ) → is_closed_to draft words ≡ false → IsRefusedAt IsConfLine words place → IsRefusedAt (IsLineIn draft) words place
refused_in draft words place unclosed refused = record {
  within = refused.within;
  goes_on = goes_on_in draft (take place words) (front_open draft place words unclosed) refused.goes_on;
  stops = stops_in draft (take place words) (drop place words) refused.stops;
}

-- a line that no line goes on with is refused alone
refused_first : (draft : Draft) (words : List (List ℕ)) (place : ℕ) → IsRefusedAt (IsLineIn draft) words place → IsRefusedAlone conf_grammar draft words place
refused_first draft words place refused = record {
  refused = inl refused;
  only = only;
  not_taken = λ next (l, means, into). refused_nowhere (IsLineIn draft) words l place means refused;
}
  where
    only : (other : ℕ) → IsRefusedIn conf_grammar draft words other → other ≡ place
    only other (inl also) = one_place (IsLineIn draft) words other place also refused
    only other (inr (l, means, untaken)) = absurd (refused_nowhere (IsLineIn draft) words l place means refused)

pub closed_due : (draft : Draft) (words : List (List ℕ)) → is_closed_to draft words ≡ true → IsDue draft words (At 1)
closed_due draft words closed = (0, refused_first draft words 0 (closed_refused draft words closed), refl)

same_line : (one other : Line) (result : Result Line Refusal) → result ≡ Ok one → result ≡ Ok other → one ≡ other
same_line one other result first second = cc

same_read : (one other : Line) → ◌≡◌ {A = Result Line ℕ} (Ok one) (Ok other) → one ≡ other
same_read one other same = cc

-- a line is taken
pub taken_alone : (draft : Draft) (words : List (List ℕ)) (l : Line) (next : Draft) → is_closed_to draft words ≡ false → IsReadOr 1 IsConfLine words (Ok l) → IsTakenInto draft l next
    → IsTakenAlone conf_grammar draft words next
taken_alone draft words l next unclosed read into = record {
  taken = (l, (unclosed, read.found), into);
  only = only;
  not_refused = not_refused;
}
  where
    only : (other : Draft) → IsTaken conf_grammar draft words other → other ≡ next
    only other (m, (_, is), also) =
        let same : m ≡ l = sym (same_read l m (read.only m is)) in
        let P : Line → Type 0 = λ k. IsTakenInto draft k other in
        taken_one draft l next other into (subst P same also)

    not_refused : (place : ℕ) → ¬ IsRefusedIn conf_grammar draft words place
    not_refused place (inl refused) = refused_nowhere (IsLineIn draft) words l place (unclosed, read.found) refused
    not_refused place (inr (m, (_, is), inl (full, at))) =
        let same : m ≡ l = sym (same_read l m (read.only m is)) in
        let P : Line → Type 0 = λ k. IsUntaken draft k Full in
        not_full draft l next into (subst P same full)
    not_refused place (inr (m, (_, is), inr (unfit, at))) =
        let same : m ≡ l = sym (same_read l m (read.only m is)) in
        let P : Line → Type 0 = λ k. IsUntaken draft k Unfit in
        not_unfit draft l next into (subst P same unfit)

-- one rule too many
full_alone : (draft : Draft) (words : List (List ℕ)) (l : Line) → is_closed_to draft words ≡ false → IsReadOr 1 IsConfLine words (Ok l) → IsUntaken draft l Full
    → IsRefusedAlone conf_grammar draft words 0
full_alone draft words l unclosed read full = record {
  refused = inr (l, (unclosed, read.found), inl (full, refl));
  only = only;
  not_taken = not_taken;
}
  where
    only : (other : ℕ) → IsRefusedIn conf_grammar draft words other → other ≡ 0
    only other (inl refused) = absurd (refused_nowhere (IsLineIn draft) words l other (unclosed, read.found) refused)
    only other (inr (m, (_, is), inl (also, at))) = at
    only other (inr (m, (_, is), inr (unfit, at))) =
        let same : m ≡ l = sym (same_read l m (read.only m is)) in
        let P : Line → Type 0 = λ k. IsUntaken draft k Unfit in
        absurd (full_or_unfit draft l full (subst P same unfit))

    not_taken : (next : Draft) → ¬ IsTaken conf_grammar draft words next
    not_taken next (m, (_, is), into) =
        let same : m ≡ l = sym (same_read l m (read.only m is)) in
        let P : Line → Type 0 = λ k. IsTakenInto draft k next in
        not_full draft l next (subst P same into) full

-- limits that do not fit each other
unfit_alone : (draft : Draft) (words : List (List ℕ)) (l : Line) → is_closed_to draft words ≡ false → IsReadOr 1 IsConfLine words (Ok l) → IsUntaken draft l Unfit
    → IsRefusedAlone conf_grammar draft words (length words)
unfit_alone draft words l unclosed read unfit = record {
  refused = inr (l, (unclosed, read.found), inr (unfit, refl));
  only = only;
  not_taken = not_taken;
}
  where
    only : (other : ℕ) → IsRefusedIn conf_grammar draft words other → other ≡ length words
    only other (inl refused) = absurd (refused_nowhere (IsLineIn draft) words l other (unclosed, read.found) refused)
    only other (inr (m, (_, is), inl (full, at))) =
        let same : m ≡ l = sym (same_read l m (read.only m is)) in
        let P : Line → Type 0 = λ k. IsUntaken draft k Full in
        absurd (full_or_unfit draft l (subst P same full) unfit)
    only other (inr (m, (_, is), inr (also, at))) = at

    not_taken : (next : Draft) → ¬ IsTaken conf_grammar draft words next
    not_taken next (m, (_, is), into) =
        let same : m ≡ l = sym (same_read l m (read.only m is)) in
        let P : Line → Type 0 = λ k. IsTakenInto draft k next in
        not_unfit draft l next (subst P same into) unfit

-- a line that is not read is due
pub misread_due : (draft : Draft) (words : List (List ℕ)) (refusal : Refusal) → is_closed_to draft words ≡ false → IsReadOr 1 IsConfLine words (Err refusal) → IsDue draft words refusal
misread_due draft words (At told) unclosed read =
    let (place, refused, same) = read.refused in
    (place, refused_first draft words place (refused_in draft words place unclosed refused), omega (arith, same))
misread_due draft words NoMemory unclosed read = tt

-- a line that is not taken is due
pub untaken_due : (draft : Draft) (words : List (List ℕ)) (l : Line) (why : Untaken) → is_closed_to draft words ≡ false → IsReadOr 1 IsConfLine words (Ok l) → IsUntaken draft l why
    → IsDue draft words (refusal_of why words)
untaken_due draft words l Full unclosed read why = (0, full_alone draft words l unclosed read why, refl)
untaken_due draft words l Unfit unclosed read why = (length words, unfit_alone draft words l unclosed read why, refl)
untaken_due draft words l untaken.NoMemory unclosed read why = tt
