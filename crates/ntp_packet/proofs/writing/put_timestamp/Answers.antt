use Rattle.std.proofs.Common.{arith, ◌+◌, length, take, ◌++◌, ◌-◌, ◌∙◌, ap, refl, drop}
use borrow.Rule.Slice.PartMut.{put_mid}
use Rattle.std.proofs.lemmas.List.{length-take-le}
use Rattle.byteorder.specs.Endian.{big_bytes}
use Rattle.ntp_packet.proofs.Spelling.{take-front_word}
use Rattle.ntp_packet.proofs.writing.put_timestamp.Goals as goal

pub returns : goal.returns
returns c =
    let at = c.args.at in
    let xs = c.args.octets.now in
    let word = big_bytes 8 c.args.time.0 in
    let size = length xs - at in
    ap (λ part. take (at + 8) (put_mid at size xs part)) c.write_u64.ensures
    ∙ take-front_word (take at xs) word (drop 8 (take size (drop at xs)) ++ drop size (drop at xs)) at 8
    (length-take-le at xs (omega arith)) refl
