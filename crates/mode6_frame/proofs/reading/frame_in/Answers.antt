use Rattle.std.proofs.Common.{◌∙◌, sym, take, drop, length, length-drop, ◌-◌, arith}
use Rattle.std.proofs.lemmas.List.{take_all, drop-drop}
use Rattle.mode6_frame.specs.declared.message.TheConstants.{HEAD_LEN}
use Rattle.mode6_frame.specs.Places.{frame_at}
use Rattle.mode6_frame.proofs.reading.frame_in.Goals as goal

pub returns-clause-parts : goal.returns-clause-parts
unfolding frame_at
returns-clause-parts c =
    let bytes = c.args.bytes.now in
    let tail = take_all (length bytes - HEAD_LEN) (drop HEAD_LEN bytes) (omega (arith, length-drop HEAD_LEN bytes)) in
    let body = c.split_at.ensures.front ∙ (λ i. take (c.count_in.ensures i) (tail i)) in
    λ i. record {
      leap = c.leap_in.ensures.value i;
      version = c.version_in.ensures.value i;
      response = c.flag_in.ensures i;
      error = c.flag_in-2.ensures i;
      more = c.flag_in-3.ensures i;
      opcode = c.opcode_in.ensures i;
      sequence = c.word_in.ensures i;
      status = c.word_in-2.ensures i;
      assoc = c.word_in-3.ensures i;
      offset = c.word_in-4.ensures i;
      body = body i;
    }

pub returns-clause-rest : goal.returns-clause-rest
returns-clause-rest c =
    let bytes = c.args.bytes.now in
    let tail = take_all (length bytes - HEAD_LEN) (drop HEAD_LEN bytes) (omega (arith, length-drop HEAD_LEN bytes)) in
    c.split_at.ensures.back
    ∙ (λ i. drop (sym c.split_at.ensures.front_len i) (tail i))
    ∙ drop-drop (length c.split_at.result.0.now) HEAD_LEN bytes
