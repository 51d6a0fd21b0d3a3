use Rattle.std.proofs.Common.{arith, ◌≡◌, ◌+◌, drop, length-drop, sym, ◌∙◌, subst, rules}
use Rattle.ntp_trailer.specs.Trailers.{length_said}
use Rattle.ntp_trailer.specs.Endings.{BeginsField, LeadsTo}
use Rattle.ntp_trailer.proofs.DivisionLemmas.{LeadsTo-more}
use Rattle.ntp_trailer.proofs.splitting.fields_end.Goals as goal

pub loop-place-preserved : goal.loop-place-preserved
loop-place-preserved c =
    let bytes = c.args.bytes.now in
    let place = c.loop-place.place in
    let begins : BeginsField (drop place bytes) = subst BeginsField c.behind.ensures (c.begins_field.ensures.0 (search rules)) in
    let said : length_said (drop place bytes) ≡ c.length_in-place.result =
    sym (c.length_in-place.ensures ∙ (λ i. length_said (c.behind-in-loop-place.ensures i))) in
    record {
      within = omega (arith, begins.within, begins.more, said, length-drop place bytes);
      fields = subst (λ n. LeadsTo bytes (place + n) (drop (place + n) bytes)) said
          (LeadsTo-more bytes place c.loop-place.invariant.fields begins);
    }
