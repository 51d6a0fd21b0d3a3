use Rattle.ntpd_serve.proofs.OnceLemmas.{IsServed-HasCome}
use Rattle.ntpd_serve.proofs.once.serve_once.Goals as goal

pub returns-clause-served : goal.returns-clause-served
returns-clause-served g c =
    let h = c.begin_and_serve-ending.ensures.happens in (
      c.begin_and_serve-ending.result,
      h.0,
      h.1,
      h.2,
      h.3,
      h.4,
      c.report.ensures.reported,
      IsServed-HasCome _ _ _ _ _ _ _ _ _ _ _ _ _ _ h.2 c.begin_and_serve-ending.ensures.causes c.report.ensures.reported c.report.ensures.failed,
    )
