use Rattle.std.proofs.Common.{ap, length, arith}
use Rattle.std.proofs.lemmas.Result.{IfOk-weaker}
use Rattle.mru_read.specs.Pages.{items_of_page}
use Rattle.sys_vars.proofs.CutLemmas.{datagrams-some}
use Rattle.server_core.proofs.telling.read_grams.Goals as goal

pub returns-in-Page-clause-some : goal.returns-in-Page-clause-some
returns-in-Page-clause-some c = λ other.
    IfOk-weaker c.page_grams.result _ _
    (λ grams is. omega (arith, ap length is, datagrams-some c.head_of_page-head.result c.in-Page.page.now (items_of_page c.in-Page.page c.make-nonce.result c.args.context.now.origin.0)))
    c.page_grams.ensures.value
