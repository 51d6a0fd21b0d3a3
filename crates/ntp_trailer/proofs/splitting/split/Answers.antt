use Rattle.std.proofs.Common.{◌≡◌, ◌%◌, length, drop, IfOk, IfErr, sym, subst, rules, ap, ◌∙◌}
use Rattle.ntp_trailer.specs.Trailers.{AreWords, HasTrailer, IsRefused}
use Rattle.ntp_trailer.specs.Endings.{ending_of}
use Rattle.ntp_trailer.proofs.DivisionLemmas.{AreWords-trailer}
use Rattle.ntp_trailer.proofs.EndingLemmas.{ending-found, ending-only, ending-refused, ending-due}
use Rattle.ntp_trailer.proofs.splitting.split.Goals as goal

pub returns-then-not-is_multiple_of-clause-only : goal.returns-then-not-is_multiple_of-clause-only
returns-then-not-is_multiple_of-clause-only c trailer has =
    let words : AreWords c.args.bytes.now = AreWords-trailer _ _ _ has.is in
    let judged : length c.behind.result.now % 4 ≡ 0 = (λ i. length (c.behind.ensures i) % 4) ∙ words in
    absurd (search (rules, judged, c.is_multiple_of.ensures.1 judged))

pub returns-clause-found : goal.returns-clause-found
returns-clause-found c =
    let bytes = c.args.bytes.now in
    let ends = c.fields_end-end.result in
    subst (λ given. IfOk given (λ trailer. HasTrailer bytes trailer))
    (sym (c.ending.ensures ∙ ap (ending_of ends) c.behind-2.ensures))
    (ending-found bytes ends (drop ends bytes) c.fields_end-end.ensures.fields c.fields_end-end.ensures.stops)

pub returns-clause-only : goal.returns-clause-only
returns-clause-only c trailer has =
    let bytes = c.args.bytes.now in
    let ends = c.fields_end-end.result in
    c.ending.ensures ∙ ap (ending_of ends) c.behind-2.ensures
    ∙ ending-only bytes ends (drop ends bytes) c.fields_end-end.ensures.fields c.fields_end-end.ensures.stops trailer has

pub returns-clause-refused : goal.returns-clause-refused
returns-clause-refused c =
    let bytes = c.args.bytes.now in
    let ends = c.fields_end-end.result in
    let words : AreWords bytes = (λ i. length (sym c.behind.ensures i) % 4) ∙ c.is_multiple_of.ensures.0 (search rules) in
    subst (λ given. IfErr given (λ fault. IsRefused bytes fault))
    (sym (c.ending.ensures ∙ ap (ending_of ends) c.behind-2.ensures))
    (ending-refused bytes ends (drop ends bytes) words c.fields_end-end.ensures.fields c.fields_end-end.ensures.stops)

pub returns-clause-due : goal.returns-clause-due
returns-clause-due c fault refused =
    let bytes = c.args.bytes.now in
    let ends = c.fields_end-end.result in
    let words : AreWords bytes = (λ i. length (sym c.behind.ensures i) % 4) ∙ c.is_multiple_of.ensures.0 (search rules) in
    c.ending.ensures ∙ ap (ending_of ends) c.behind-2.ensures
    ∙ ending-due bytes ends (drop ends bytes) words c.fields_end-end.ensures.fields c.fields_end-end.ensures.stops fault refused
