use Rattle.std.proofs.Common.{◌≤◌, length, ap, sym, subst, ◌∙◌}
use Rattle.std.proofs.lemmas.Result.{IfOk-weaker}
use Rattle.std.specs.List.{AllByRecursion}
use Rattle.mode6_frame.specs.Cuts.{octets_in, part_frame, whole_part}
use Rattle.mode6_frame.specs.Drafts.{grams_of}
use Rattle.mode6_frame.specs.Frames.{spelled_frame}
use Rattle.mode6_frame.proofs.CutLemmas.{parts_cut-laid, parts_cut-whole, datagrams-counted, datagrams-short, one_gram}
use Rattle.mode6_frame.proofs.cutting.cut.Goals as goal

pub cut_tagged-requires-clause-placed : goal.cut_tagged-requires-clause-placed
cut_tagged-requires-clause-placed c =
    let parts = parts_cut-laid c.args.tag c.args.items.now (sym c.fits_whole.ensures ∙ c.if-not-fits_whole.true) in
    subst (λ parts. octets_in parts ≤ 65535) parts c.requires.placed

pub returns-then-not-fits_whole-clause-value : goal.returns-then-not-fits_whole-clause-value
returns-then-not-fits_whole-clause-value c =
    let parts = parts_cut-laid c.args.tag c.args.items.now (sym c.fits_whole.ensures ∙ c.if-not-fits_whole.true) in
    IfOk-weaker c.cut_tagged.result _ _ (λ grams is. is ∙ ap (grams_of c.args.head.now) (sym parts)) c.cut_tagged.ensures

pub returns-then-not-fits_whole-clause-count : goal.returns-then-not-fits_whole-clause-count
returns-then-not-fits_whole-clause-count c =
    let counted = datagrams-counted c.args.head.now c.args.tag c.args.items.now in
    IfOk-weaker c.cut_tagged.result _ _ (λ grams is. ap length is ∙ counted) (returns-then-not-fits_whole-clause-value c)

pub returns-then-not-fits_whole-clause-short : goal.returns-then-not-fits_whole-clause-short
returns-then-not-fits_whole-clause-short c =
    let short = datagrams-short c.args.head.now c.args.tag c.args.items.now c.requires.short in
    IfOk-weaker c.cut_tagged.result _ _ (λ grams is. subst (AllByRecursion (λ gram. length gram ≤ 480)) (sym is) short)
    (returns-then-not-fits_whole-clause-value c)

pub returns-clause-value : goal.returns-clause-value
returns-clause-value c =
    let parts = parts_cut-whole c.args.tag c.args.items.now (sym c.fits_whole.ensures ∙ c.if-not-fits_whole.false) in
    let body = c.as_slice.ensures.same ∙ c.plain_body.ensures in
    let gram = c.whole_gram.ensures.spelled ∙ ap (λ body. spelled_frame (part_frame c.args.head.now (whole_part body))) body in
    one_gram c.of.result c.push.new.self.items c.new-grams.result.items c.whole_gram.result _ c.of.ensures c.in_ok-push.ensures.items c.new-grams.ensures.items gram
    ∙ ap (grams_of c.args.head.now) (sym parts)

pub returns-clause-count : goal.returns-clause-count
returns-clause-count c = ap length (returns-clause-value c) ∙ datagrams-counted c.args.head.now c.args.tag c.args.items.now
