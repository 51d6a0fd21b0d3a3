-- The selection codes that are found are what they say.
use Rattle.std.proofs.Common.{◌≡◌, ◌≢◌, ◌+◌, ◌<◌, ℕ, Bool, true, false, cond, not, List, length, get_or, map, Option, None, Some, refl, sym, ap, subst, ◌∙◌, arith}
use Rattle.std.specs.Prelude.{◌==◌, IsTrue}
use Rattle.std.proofs.lemmas.Bool.Decides.{nat_tests}
use Rattle.std.proofs.lemmas.List.{get_or-map, length-map}
use Rattle.std.proofs.lemmas.List.FromFn.{length-enumerate_from}
use Rattle.mode6_frame.specs.declared.selections.TheConstants.{FALSETICKER, OUTLIER, SURVIVOR, SYSTEM_PEER}
use Rattle.select_cluster.specs.Combining.{system_peer}
use Rattle.select_cluster.specs.Selecting.{inside}
use Rattle.select_cluster.specs.declared.candidates.Candidate.{Candidate}
use Rattle.select_cluster.specs.declared.selection.Interval.{Interval}
use Rattle.associations.specs.Candidates.{candidate_of, numbered}
use Rattle.associations.specs.Marks.{code_by, marked, marked_one}
use Rattle.associations.specs.Choices.{AreMarked, IsInside, IsMarked, IsSelectionCode, is_among, survivors_in}
use Rattle.associations.specs.declared.association.Association.{Association}
use Rattle.associations.specs.declared.choosing.Choice.{Choice}
use Rattle.associations.specs.declared.choosing.Choice.TheVariants.{NoMajority, Majority}
use Rattle.associations.proofs.NumberLemmas.{number_at}

falseticker_is : (choice : Choice) (c : Candidate) → ¬ (IsInside choice c) → IsSelectionCode choice (Some c) FALSETICKER
falseticker_is choice c out = record {
  rejected = (λ is. absurd (omega (arith, is)), λ is. cc);
  falseticker = (λ is. out, λ no. refl);
  outlier = (λ is. absurd (omega (arith, is)), λ both. absurd (out both.0));
  survivor = (λ most. absurd (omega (arith, most)), λ left. absurd (out left.0));
  later = (λ is. absurd (omega (arith, is)), λ left. absurd (out left.0.0));
  first = (λ is. absurd (omega (arith, is)), λ left. absurd (out left.0.0));
}

outlier_is : (choice : Choice) (c : Candidate) → IsInside choice c → ¬ (IsTrue (is_among c.peer (survivors_in choice))) → IsSelectionCode choice (Some c) OUTLIER
outlier_is choice c within out = record {
  rejected = (λ is. absurd (omega (arith, is)), λ is. cc);
  falseticker = (λ is. absurd (omega (arith, is)), λ no. absurd (no within));
  outlier = (λ is. (within, λ left. out left.1), λ both. refl);
  survivor = (λ most. absurd (omega (arith, most)), λ left. absurd (out left.1));
  later = (λ is. absurd (omega (arith, is)), λ left. absurd (out left.0.1));
  first = (λ is. absurd (omega (arith, is)), λ left. absurd (out left.0.1));
}

later_is : (choice : Choice) (c : Candidate) → IsInside choice c → IsTrue (is_among c.peer (survivors_in choice)) → c.peer ≢ system_peer (survivors_in choice)
    → IsSelectionCode choice (Some c) SURVIVOR
later_is choice c within among other = record {
  rejected = (λ is. absurd (omega (arith, is)), λ is. cc);
  falseticker = (λ is. absurd (omega (arith, is)), λ no. absurd (no within));
  outlier = (λ is. absurd (omega (arith, is)), λ both. absurd (both.1 (within, among)));
  survivor = (λ most. (within, among), λ left. omega arith);
  later = (λ is. ((within, among), other), λ left. refl);
  first = (λ is. absurd (omega (arith, is)), λ left. absurd (other left.1));
}

first_is : (choice : Choice) (c : Candidate) → IsInside choice c → IsTrue (is_among c.peer (survivors_in choice)) → c.peer ≡ system_peer (survivors_in choice)
    → IsSelectionCode choice (Some c) SYSTEM_PEER
first_is choice c within among same = record {
  rejected = (λ is. absurd (omega (arith, is)), λ is. cc);
  falseticker = (λ is. absurd (omega (arith, is)), λ no. absurd (no within));
  outlier = (λ is. absurd (omega (arith, is)), λ both. absurd (both.1 (within, among)));
  survivor = (λ most. (within, among), λ left. omega arith);
  later = (λ is. absurd (omega (arith, is)), λ left. absurd (left.1 same));
  first = (λ is. ((within, among), same), λ left. refl);
}

by_tests : (interval : Interval) (survivors : List Candidate) (c : Candidate) (in_it left first : Bool) → inside interval.lo interval.hi c ≡ in_it
    → is_among c.peer survivors ≡ left → (system_peer survivors == c.peer) ≡ first
    → IsSelectionCode (Majority interval survivors) (Some c) (cond (not in_it) FALSETICKER (cond (not left) OUTLIER (cond first SYSTEM_PEER SURVIVOR)))
by_tests interval survivors c false left first is_in is_left is_first = falseticker_is (Majority interval survivors) c (λ within. let both : false ≡ true = sym is_in ∙ within in cc)
by_tests interval survivors c true false first is_in is_left is_first =
    outlier_is (Majority interval survivors) c is_in (λ among. let both : false ≡ true = sym is_left ∙ among in cc)
by_tests interval survivors c true true false is_in is_left is_first =
    later_is (Majority interval survivors) c is_in is_left (λ same. grind (arith, nat_tests))
by_tests interval survivors c true true true is_in is_left is_first =
    let same : c.peer ≡ system_peer survivors = grind (arith, nat_tests) in
    first_is (Majority interval survivors) c is_in is_left same

code_by_is : (choice : Choice) (candidate : Option Candidate) → IsSelectionCode choice candidate (code_by choice candidate)
code_by_is choice None = record {
  rejected = (λ is. refl, λ is. refl);
  falseticker = (λ is. absurd (omega (arith, is)), λ no. absurd no);
  outlier = (λ is. absurd (omega (arith, is)), λ no. absurd no);
  survivor = (λ most. absurd (omega (arith, most)), λ no. absurd no);
  later = (λ is. absurd (omega (arith, is)), λ no. absurd no);
  first = (λ is. absurd (omega (arith, is)), λ no. absurd no);
}
code_by_is NoMajority (Some c) = falseticker_is NoMajority c (λ within. within)
code_by_is (Majority interval survivors) (Some c) =
    by_tests interval survivors c (inside interval.lo interval.hi c) (is_among c.peer survivors) (system_peer survivors == c.peer) refl refl refl

-- the servers with these codes are those after a selection
pub marked_are : (choice : Choice) (moment : ℕ) (peers : List Association) → AreMarked choice moment peers (marked choice moment peers)
marked_are choice moment peers =
    let mark = λ (np : ℕ × Association). marked_one choice moment np.0 np.1 in
    record {
      as_many = length-map (numbered peers) mark ∙ length-enumerate_from 1 peers;
      each = λ k before after within.
          let inside : k < length (numbered peers) = omega (arith, within, length-enumerate_from 1 peers) in
          let at : get_or (map mark (numbered peers)) k after ≡ marked_one choice moment (k + 1) (get_or peers k before) =
          get_or-map mark (numbered peers) k (0, before) after inside ∙ ap mark (number_at peers k before within) in
          subst (λ (server : Association). IsMarked choice moment (k + 1) (get_or peers k before) server) (sym at)
          record { code = code_by_is choice (candidate_of moment (k + 1) (get_or peers k before)); others = refl };
    }
