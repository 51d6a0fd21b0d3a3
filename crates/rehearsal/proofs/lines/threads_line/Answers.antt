use Rattle.std.proofs.Common.{◌≡◌, ◌∙◌, ap, ℕ, List, [], ◌∷◌, ◌++◌, decimal}
use Rattle.std.specs.Prelude.{codes}
use Rattle.rehearsal.specs.Lines.{threads_line}
use Rattle.rehearsal.proofs.lines.threads_line.Goals as goal

pub returns-clause-line : goal.returns-clause-line
unfolding threads_line
returns-clause-line c =
    c.push.ensures
    ∙ ap (λ (line : List ℕ). line ++ 10 ∷ []) (c.put_numbered-4.ensures.text
    ∙ ap (λ (line : List ℕ). line ++ codes " clients " ++ decimal c.args.clients) (c.put_numbered-3.ensures.text
    ∙ ap (λ (line : List ℕ). line ++ codes " silent " ++ decimal c.args.silent) (c.put_numbered-2.ensures.text
    ∙ ap (λ (line : List ℕ). line ++ codes " variables " ++ decimal c.args.controls) (c.put_numbered.ensures.text
    ∙ ap (λ (line : List ℕ). line ++ codes "threads times " ++ decimal c.args.times) c.new-line.ensures))))
