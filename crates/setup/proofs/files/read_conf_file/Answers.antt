use Rattle.std.proofs.Common.{◌≡◌, List, ℕ, inl, subst}
use Rattle.conf_file.specs.ConfTexts.{IsConfText, IsRefusedText as IsRefusedConf}
use Rattle.setup.proofs.FileLemmas.{not_refused, not_taken, same_conf_place, same_octets, same_value}
use Rattle.setup.proofs.files.read_conf_file.Goals as goal

pub returns-in-Ok-clause-only : goal.returns-in-Ok-clause-only
returns-in-Ok-clause-only g c octets conf told short means =
    let same : octets ≡ c.as_slice.result.now = same_octets (g.H.Host.files c.args.host.now) c.args.name.now _ _ _ told c.in_ok-text.ensures.octets c.as_slice.ensures.value in
    same_value _ _ _ (c.in-Ok.ensures.only conf (subst (λ (o : List ℕ). IsConfText o conf) same means))

pub returns-in-Ok-clause-refused : goal.returns-in-Ok-clause-refused
returns-in-Ok-clause-refused g c octets line word told short refused =
    let same : octets ≡ c.as_slice.result.now = same_octets (g.H.Host.files c.args.host.now) c.args.name.now _ _ _ told c.in_ok-text.ensures.octets c.as_slice.ensures.value in
    not_refused _ _ _ (c.in-Ok.ensures.refused_only line word (subst (λ (o : List ℕ). IsRefusedConf o line word) same refused))

pub returns-in-Err-At-clause-only : goal.returns-in-Err-At-clause-only
returns-in-Err-At-clause-only g c octets conf told short means =
    let same : octets ≡ c.as_slice.result.now = same_octets (g.H.Host.files c.args.host.now) c.args.name.now _ _ _ told c.in_ok-text.ensures.octets c.as_slice.ensures.value in
    let read = rw c.in-Err-At.field-0-is at c.in-Err-At.ensures in
    let none = not_taken _ _ _ (read.only conf (subst (λ (o : List ℕ). IsConfText o conf) same means)) in
    cc

pub returns-in-Err-At-clause-refused : goal.returns-in-Err-At-clause-refused
returns-in-Err-At-clause-refused g c octets line word told short refused =
    let same : octets ≡ c.as_slice.result.now = same_octets (g.H.Host.files c.args.host.now) c.args.name.now _ _ _ told c.in_ok-text.ensures.octets c.as_slice.ensures.value in
    let read = rw c.in-Err-At.field-0-is at c.in-Err-At.ensures in
    inl (same_conf_place _ _ line word (read.refused_only line word (subst (λ (o : List ℕ). IsRefusedConf o line word) same refused)))
