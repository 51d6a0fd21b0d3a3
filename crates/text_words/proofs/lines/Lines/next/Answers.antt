use Rattle.std.proofs.Common.{◌≡◌, ◌∷◌, sym, ap, ◌∙◌}
use Rattle.text_words.specs.Lines.{lines_left, lines_of}
use Rattle.text_words.proofs.LineLemmas.{next_line, last_line}
use Rattle.text_words.proofs.lines.Lines.next.Goals as goal

pub returns-in-Some-clause-line : goal.returns-in-Some-clause-line
returns-in-Some-clause-line c =
    let seen : lines_left c.self.inside.is_over c.self.inside.rest.now ≡ lines_of c.self.inside.rest.now = ap (λ over. lines_left over c.self.inside.rest.now) c.if-self.false in
    let left : lines_left c.self.inside.is_over c.in-Some.behind.now ≡ lines_of c.in-Some.behind.now = ap (λ over. lines_left over c.in-Some.behind.now) c.if-self.false in
    let cut = next_line c.self.inside.rest.now c.split_at.result.0.now c.split_at.result.1.now c.in-Some.behind.now _ _ c.line_len.ensures.octets c.split_at.ensures.front c.split_at.ensures.back c.in-Some.ensures.cases.0 in
    sym c.self.view_is ∙ seen ∙ cut ∙ ap (λ line. line ∷ lines_of c.in-Some.behind.now) (sym c.before_return.ensures) ∙ ap (λ lines. c.before_return.result.now ∷ lines) (sym left)

pub returns-in-None-clause-line : goal.returns-in-None-clause-line
returns-in-None-clause-line c =
    let seen : lines_left c.self.inside.is_over c.self.inside.rest.now ≡ lines_of c.self.inside.rest.now = ap (λ over. lines_left over c.self.inside.rest.now) c.if-self.false in
    sym c.self.view_is ∙ seen ∙ last_line c.self.inside.rest.now c.split_at.result.0.now c.split_at.result.1.now _ c.line_len.ensures.octets c.line_len.ensures.within c.split_at.ensures.front c.split_at.ensures.back c.in-None.ensures.cases
