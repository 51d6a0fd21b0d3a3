use Rattle.std.proofs.Common.{List, refl, sym, subst}
use Rattle.std.proofs.lemmas.Result.{IfOk-weaker}
use Rattle.drawn_link.specs.declared.serving.Service.{Service}
use Rattle.drawn_link.specs.Services.{AreServices}
use Rattle.drawn_link.proofs.GoingLemmas.{Runs-same, Runs-then}
use Rattle.drawn_link.proofs.link.serve_drawn.Goals as goal

pub returns-then-is_served-clause-served : goal.returns-then-is_served-clause-served
returns-then-is_served-clause-served c =
    IfOk-weaker c.serve.result _ _ (λ services are. record {
      between = c.happen.new.book;
      runs = c.happen.ensures;
      are = are;
      none = λ is. absurd (cc (is, c.if-is_served.true));
    }) c.serve.ensures.served

pub returns-then-is_served-clause-runs : goal.returns-then-is_served-clause-runs
returns-then-is_served-clause-runs c = Runs-then c.args.book.now c.happen.new.book c.serve.new.book c.happen.ensures c.serve.ensures.runs

pub returns-else-is_served-clause-served : goal.returns-else-is_served-clause-served
returns-else-is_served-clause-served c = record {
  between = c.happen.new.book;
  runs = c.happen.ensures;
  are = subst (λ (services : List Service). AreServices c.args.visit.now.common.now c.args.visit.now.from c.args.visit.now.octets.now c.happen.new.book services c.happen.new.book) (sym c.new.ensures.items)
      (Runs-same c.happen.new.book c.happen.new.book refl);
  none = λ _. c.new.ensures.items;
}
