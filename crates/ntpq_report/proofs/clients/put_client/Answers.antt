use Rattle.std.proofs.Common.{ℕ, List, ◌++◌, ap, ◌∙◌, append_assoc, codes}
use Rattle.ntpq_report.specs.Clients.{client_line}
use Rattle.ntpq_report.proofs.RowLemmas.{append-next}
use Rattle.ntpq_report.proofs.clients.put_client.Goals as goal

pub returns : goal.returns
unfolding client_line
returns c =
    let start = c.args.text.now.items in
    let gap : List ℕ = codes " " in
    let average = append-next start _ _ _ gap _ (rw c.seconds_after.ensures at c.in_ok-put_number.ensures) (rw c.average_interval.ensures at c.in_ok-put_next_number.ensures) in
    let flags = append-next start _ _ _ gap _ average c.in_ok-put_flags.ensures in
    let mode = append-next start _ _ _ gap _ flags c.in_ok-put_digits.ensures in
    let version = append-next start _ _ _ gap _ mode c.in_ok-put_digits-2.ensures in
    let count = append-next start _ _ _ gap _ version (rw c.from.ensures at c.in_ok-put_next_number-2.ensures) in
    let port = append-next start _ _ _ gap _ count (rw c.from-2.ensures at c.in_ok-put_next_number-3.ensures) in
    let address = append-next start _ _ _ gap _ port (rw (c.as_slice.ensures.value ∙ c.write_ip.ensures.text) at c.in_ok-put_next.ensures) in
    c.in_ok-push.ensures.items ∙ ap (λ front. front ++ codes "\n") address ∙ append_assoc start _ (codes "\n")
