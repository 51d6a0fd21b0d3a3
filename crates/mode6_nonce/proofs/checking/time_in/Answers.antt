use Rattle.std.proofs.Common.{sym, take, ◌∙◌, arith}
use Rattle.mode6_nonce.proofs.NonceLemmas.{digits-read, named-long, time-read}
use Rattle.mode6_nonce.proofs.checking.time_in.Goals as goal

pub returns-then-nonce-lt16-clause-named : goal.returns-then-nonce-lt16-clause-named
returns-then-nonce-lt16-clause-named c =
    λ time fits named. absurd (omega (arith, named-long c.args.nonce.now time named, c.if-nonce-lt16.true))

pub returns-in-Ok-clause-named : goal.returns-in-Ok-clause-named
returns-in-Ok-clause-named c =
    λ time fits named.
    c.from_be_bytes.ensures
    ∙ time-read (take 16 c.args.nonce.now) c.in-Ok.octets time fits named (sym c.from_hex.ensures ∙ c.in-Ok.is)

pub returns-in-Err-clause-named : goal.returns-in-Err-clause-named
returns-in-Err-clause-named c =
    λ time fits named. cc (sym (digits-read (take 16 c.args.nonce.now) time named) ∙ sym c.from_hex.ensures ∙ c.in-Err.is)
