use Rattle.std.proofs.Common.{rules, arith, ◌++◌, ◌∙◌, sym, ap}
use Rattle.std.proofs.lemmas.List.{take_all}
use Rattle.byteorder.specs.Endian.{big_bytes}
use Rattle.ntp_packet.specs.Packet.{spelled_header}
use Rattle.ntp_packet.proofs.writing.octets_of.Goals as goal

pub returns-clause-spelled : goal.returns-clause-spelled
unfolding spelled_header
returns-clause-spelled c =
    let h = c.args.header in
    let word = c.put_four.ensures.written ∙ c.first_word.ensures in
    let root_delay = c.put_short.ensures ∙ ap (λ front. front ++ big_bytes 4 h.root_delay.0) word in
    let root_disp = c.put_short-2.ensures ∙ ap (λ front. front ++ big_bytes 4 h.root_disp.0) root_delay in
    let refid = c.put_four-2.ensures.written ∙ ap (λ front. front ++ h.refid) root_disp in
    let reference = c.put_timestamp.ensures ∙ ap (λ front. front ++ big_bytes 8 h.reference.0) refid in
    let origin = c.put_timestamp-2.ensures ∙ ap (λ front. front ++ big_bytes 8 h.origin.0) reference in
    let receive = c.put_timestamp-3.ensures ∙ ap (λ front. front ++ big_bytes 8 h.receive.0) origin in
    let transmit = c.put_timestamp-4.ensures ∙ ap (λ front. front ++ big_bytes 8 h.transmit.0) receive in
    sym (take_all 48 c.put_timestamp-4.new.octets (omega arith)) ∙ transmit

pub returns-clause-fits : goal.returns-clause-fits
returns-clause-fits c =
    record {
      leap = omega arith;
      version = omega arith;
      mode = omega arith;
      stratum = search rules;
      poll = search rules;
      precision = search rules;
      root_delay = search rules;
      root_disp = search rules;
      refid_len = search rules;
      refid = c.put_four-2.ensures.octets;
      reference = search rules;
      origin = search rules;
      receive = search rules;
      transmit = search rules;
    }
