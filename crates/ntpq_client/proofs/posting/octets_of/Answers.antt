use Rattle.std.proofs.Common.{[], ap, sym, ◌∙◌}
use Rattle.std.proofs.lemmas.List.{append-nil}
use Rattle.mode6_frame.specs.Places.{frame_at}
use Rattle.ntpq_client.proofs.posting.octets_of.Goals as goal

pub returns-clause-places : goal.returns-clause-places
returns-clause-places c =
    let places = rw c.as_slice.ensures.value at (c.write.ensures.places []) in
    ap frame_at (sym (append-nil c.write.result)) ∙ places
