use Rattle.mru_items.proofs.QueryLemmas.{exactly-is, found-both}
use Rattle.net_addr.specs.Spelling.{IsAddr, Spells}
use Rattle.mru_items.proofs.query_reading.address_in.Goals as goal

pub returns : goal.returns
returns c =
    let text = c.args.value.now in
    exactly-is (λ addr. IsAddr addr × Spells text addr) c.read_named.result
    (found-both (Spells text) IsAddr c.read_named.result c.read_named.ensures.found c.read_named.ensures.fits)
    (λ addr is. c.read_named.ensures.only addr is.0 is.1)
