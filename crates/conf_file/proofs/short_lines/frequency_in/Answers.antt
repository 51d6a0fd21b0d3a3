use Rattle.conf_file.proofs.FrequencyLemmas.{minus_number, minus_reads}
use Rattle.conf_file.proofs.short_lines.frequency_in.Goals as goal

pub returns-in_err-number-in-Some-clause-only : goal.returns-in_err-number-in-Some-clause-only
returns-in_err-number-in-Some-clause-only c frequency is =
    let (n, spelled, same) = minus_number c.args.word.now c.in-Some.digits.now frequency c.in-Some.ensures.minus is in
    let read = c.in_err-number-in-Some.ensures.only n spelled in cc

pub returns-in_ok-number-in-Some-clause-only : goal.returns-in_ok-number-in-Some-clause-only
returns-in_ok-number-in-Some-clause-only c frequency is =
    let (n, spelled, same) = minus_number c.args.word.now c.in-Some.digits.now frequency c.in-Some.ensures.minus is in
    let (text, low, high) = spelled in
    minus_reads c.in_ok-number-in-Some.number n frequency (c.in_ok-number-in-Some.ensures.only n spelled) high same
