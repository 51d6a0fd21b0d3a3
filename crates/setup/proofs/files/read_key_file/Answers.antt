use Rattle.std.proofs.Common.{◌≡◌, ◌∙◌, List, ℕ, inl, sym, ap, subst}
use Rattle.mac_keys.specs.KeyTexts.{IsRefusedText as AreRefusedKeys}
use Rattle.setup.proofs.FileLemmas.{not_refused, same_key_place, same_octets}
use Rattle.setup.proofs.NameLemmas.{IsFileName-text}
use Rattle.setup.specs.Files.{IsFileName}
use Rattle.setup.proofs.files.read_key_file.Goals as goal

pub unreachable-requires : goal.unreachable-requires
unreachable-requires g c =
    let failed = rw c.in_default.is at c.from_utf8.ensures.cases in
    failed.0 (IsFileName-text c.as_slice.result.now (subst IsFileName (sym c.as_slice.ensures.value) c.requires.named))

pub returns-in-Ok-read_keys-clause-refused : goal.returns-in-Ok-read_keys-clause-refused
returns-in-Ok-read_keys-clause-refused g c octets line word told short refused =
    let of_name : c.in-Ok.name.now ≡ c.args.name.now = c.in-Ok.ensures.cases.0 ∙ c.as_slice.ensures.value in
    let told_there = ap (g.H.Host.files c.args.host.now) of_name ∙ told in
    let same : octets ≡ c.as_slice-2.result.now = same_octets (g.H.Host.files c.args.host.now) c.in-Ok.name.now _ _ _ told_there c.in_ok-text.ensures.octets c.as_slice-2.ensures.value in
    not_refused _ _ _ (c.in-Ok-read_keys.ensures.refused_only line word (subst (λ (o : List ℕ). AreRefusedKeys o line word) same refused))

pub returns-in-Err-At-clause-refused : goal.returns-in-Err-At-clause-refused
returns-in-Err-At-clause-refused g c octets line word told short refused =
    let of_name : c.in-Ok.name.now ≡ c.args.name.now = c.in-Ok.ensures.cases.0 ∙ c.as_slice.ensures.value in
    let told_there = ap (g.H.Host.files c.args.host.now) of_name ∙ told in
    let same : octets ≡ c.as_slice-2.result.now = same_octets (g.H.Host.files c.args.host.now) c.in-Ok.name.now _ _ _ told_there c.in_ok-text.ensures.octets c.as_slice-2.ensures.value in
    let read = rw c.in-Err-At.field-0-is at c.in-Err-At.ensures in
    inl (same_key_place _ _ line word (read.refused_only line word (subst (λ (o : List ℕ). AreRefusedKeys o line word) same refused)))
