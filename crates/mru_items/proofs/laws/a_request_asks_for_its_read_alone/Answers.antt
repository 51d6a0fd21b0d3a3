use Rattle.mru_items.proofs.RequestLaws.{request_alone}
use Rattle.mru_items.proofs.laws.a_request_asks_for_its_read_alone.Goals as goal

pub returns : goal.returns
returns g c =
    let (query, (digits, (addresses, (few, (told, (items, read)))))) = c.requires in
    let is = request_alone c.args.nonce.now c.args.query.now g.given.pairs c.args.told.now c.args.origin.0 g.given.items g.given.read
    c.told-nonce digits query addresses told few items read in
    record { filter = is.0; pairs = is.1 }
