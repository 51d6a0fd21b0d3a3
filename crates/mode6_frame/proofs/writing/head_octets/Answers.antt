use Rattle.std.proofs.Common.{◌∙◌, ◌++◌, ◌∷◌, [], ap, length}
use Rattle.byteorder.specs.Endian.{big_bytes}
use Rattle.mode6_frame.specs.Frames.{head_of}
use Rattle.mode6_frame.proofs.writing.head_octets.Goals as goal

pub returns-clause-spelled : goal.returns-clause-spelled
unfolding head_of
returns-clause-spelled c =
    let f = c.args.frame.now in
    let first = c.push.ensures ∙ ap (λ front. front ++ c.first_octet.result ∷ []) c.new-octets.ensures in
    let both = c.push-2.ensures ∙ ap (λ front. front ++ c.second_octet.result ∷ []) first in
    let named = both ∙ (λ i. c.first_octet.ensures.spelled i ∷ c.second_octet.ensures i ∷ []) in
    let sequence = c.put_word.ensures.written ∙ ap (λ front. front ++ big_bytes 2 f.sequence) named in
    let status = c.put_word-2.ensures.written ∙ ap (λ front. front ++ big_bytes 2 f.status) sequence in
    let assoc = c.put_word-3.ensures.written ∙ ap (λ front. front ++ big_bytes 2 f.assoc) status in
    let offset = c.put_word-4.ensures.written ∙ ap (λ front. front ++ big_bytes 2 f.offset) assoc in
    c.put_word-5.ensures.written ∙ ap (λ front. front ++ big_bytes 2 (length f.body.now)) offset
