-- Limits of the client list, by their numbers.
use Rattle.std.proofs.Common.{◌≡◌, ◌≤◌, sym, ◌∙◌}
use Rattle.std.specs.Coded.{le_prop}
use mathlib.Core.HLevel.{is_prop→PathP}
use Rattle.recency.specs.declared.limits.Limits.{Limits}
use Rattle.recency.specs.declared.limits.TheConstants.{MAX_DEPTH}
use Rattle.conf_file.specs.declared.list_options.ListOptions.{ListOptions}
use Rattle.conf_file.specs.Drafts.{IsLimitsOf}

-- limits are known by their numbers
pub limits-one : (given : ListOptions) (one other : Limits) → IsLimitsOf given one → IsLimitsOf given other → one ≡ other
limits-one given one other is also =
    let mindepth : one.mindepth ≡ other.mindepth = is.mindepth ∙ sym also.mindepth in
    let maxdepth : one.maxdepth ≡ other.maxdepth = is.maxdepth ∙ sym also.maxdepth in
    let minage : one.minage ≡ other.minage = is.minage ∙ sym also.minage in
    let maxage : one.maxage ≡ other.maxage = is.maxage ∙ sym also.maxage in
    λ i. record {
      mindepth = mindepth i;
      maxdepth = maxdepth i;
      minage = minage i;
      maxage = maxage i;
      some = is_prop→PathP (λ j. 1 ≤ maxdepth j) (λ j. le_prop) one.some other.some i;
      most = is_prop→PathP (λ j. maxdepth j ≤ MAX_DEPTH) (λ j. le_prop) one.most other.most i;
      depths = is_prop→PathP (λ j. mindepth j ≤ maxdepth j) (λ j. le_prop) one.depths other.depths i;
      ages = is_prop→PathP (λ j. minage j ≤ maxage j) (λ j. le_prop) one.ages other.ages i;
    }
