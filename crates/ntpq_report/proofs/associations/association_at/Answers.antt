use Rattle.std.proofs.Common.{◌++◌, take, drop, sym, ap, ◌∙◌, take-add, drop-drop}
use Rattle.ntpq_report.proofs.associations.association_at.Goals as goal

pub returns-clause-spelled : goal.returns-clause-spelled
returns-clause-spelled c =
    let octets = drop c.args.at c.args.body.now in
    (λ i. c.word_at.ensures.spelled i ++ c.word_at-2.ensures.spelled i)
    ∙ sym (take-add 2 2 octets ∙ ap (λ rest. take 2 octets ++ take 2 rest) (drop-drop 2 c.args.at c.args.body.now))
