use Rattle.std.proofs.Common.{◌++◌, ◌∙◌, List, ℕ, ap}
use Rattle.ntpq_report.specs.Peers.{peers_header}
use Rattle.ntpq_tool.proofs.PeerLemmas.{Runs-unread, Runs-failed, Runs-full, Runs-peers}
use Rattle.ntpq_tool.proofs.peers.ask_named.Goals as goal

pub returns-in-Err-clause-ran : goal.returns-in-Err-clause-ran
returns-in-Err-clause-ran g c = Runs-unread c.args.first.now _ c.in-Err.why _ c.requires.unstuck c.in-Err.ensures

pub returns-in-Ok-under_header-clause-ran : goal.returns-in-Ok-under_header-clause-ran
returns-in-Ok-under_header-clause-ran g c =
    Runs-peers c.args.first.now c.in-Ok.associations _ c.in-Ok-ask_lines.lines _ _ _ c.in-Ok.ensures
    (c.in-Ok-ask_lines.ensures.ran c.args.first.now)
    (c.in-Ok-under_header.ensures ∙ ap (λ (lines : List ℕ). peers_header ++ lines) c.as_slice.ensures.value)

pub returns-in-Ok-ask_lines-clause-ran : goal.returns-in-Ok-ask_lines-clause-ran
returns-in-Ok-ask_lines-clause-ran g c =
    Runs-full c.args.first.now c.in-Ok.associations _ c.in-Ok-ask_lines.lines _ _ c.in-Ok.ensures
    (c.in-Ok-ask_lines.ensures.ran c.args.first.now)

pub returns-clause-ran : goal.returns-clause-ran
returns-clause-ran g c =
    Runs-failed c.args.first.now c.in-Ok.associations _ c.in-Err-ask_lines.why _ _ c.in-Ok.ensures
    (c.in-Err-ask_lines.ensures.ran c.args.first.now)
