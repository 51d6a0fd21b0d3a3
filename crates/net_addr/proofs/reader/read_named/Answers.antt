use Rattle.std.proofs.Common.{sym, subst, List, ℕ}
use Rattle.std.proofs.lemmas.Option.{none-some}
use Rattle.std.proofs.NetLemmas.Options.{same_parts}
use Rattle.net_addr.specs.Spelling.{SpellsHost}
use Rattle.net_addr.proofs.ReadingLemmas.{addr_in_complete, addr_in_none}
use Rattle.net_addr.proofs.reader.read_named.Goals as goal

pub returns-in_default-clause-value : goal.returns-in_default-clause-value
returns-in_default-clause-value c =
    sym (addr_in_none c.args.text.now (λ a fits h. none-some _ (c.in_default.ensures.only h.0 a.port fits.port h.2)))

pub returns-in-Some-read_host-clause-value : goal.returns-in-Some-read_host-clause-value
returns-in-Some-read_host-clause-value c =
    sym (addr_in_complete c.args.text.now (record { ip = c.in-Some-read_host.ip; port = c.in-Some.port })
    (record { ip = c.in-Some-read_host.ensures.fits; port = c.in-Some.ensures.fits })
    (c.in-Some.host.now, c.in-Some-read_host.ensures.found, c.in-Some.ensures.found))

pub returns-in-Some-read_host-clause-none : goal.returns-in-Some-read_host-clause-none
returns-in-Some-read_host-clause-none c = (
  λ some. cc,
  λ none. absurd (none (record { ip = c.in-Some-read_host.ip; port = c.in-Some.port })
      (record { ip = c.in-Some-read_host.ensures.fits; port = c.in-Some.ensures.fits })
      (c.in-Some.host.now, c.in-Some-read_host.ensures.found, c.in-Some.ensures.found)),
)

pub returns-in-None-clause-value : goal.returns-in-None-clause-value
returns-in-None-clause-value c =
    sym (addr_in_none c.args.text.now (λ a fits h.
    let cut = same_parts _ _ _ _ (c.in-Some.ensures.only h.0 a.port fits.port h.2) in
    none-some _ (c.in-None.ensures.only a.ip fits.ip (subst (λ (host : List ℕ). SpellsHost host a.ip) (sym cut.0) h.1))))
