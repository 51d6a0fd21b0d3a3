use Rattle.std.proofs.Common.{Ok, sym, ap, ◌∙◌, inl, arith}
use Rattle.ntpq_report.proofs.AssociationLemmas.{IsStatusBody-whole, status_body-one}
use Rattle.ntpq_report.proofs.associations.read_associations.Goals as goal

pub returns-then-body-ne0-clause-only : goal.returns-then-body-ne0-clause-only
returns-then-body-ne0-clause-only c = λ associations is. absurd (omega (arith, IsStatusBody-whole c.args.body.now associations is))

pub returns-clause-only : goal.returns-clause-only
returns-clause-only c = λ associations is.
    let named = c.in_ok-named_in.ensures in
    inl (ap Ok (status_body-one _ associations named.fits is.fits (sym named.spelled ∙ is.spelled)))
