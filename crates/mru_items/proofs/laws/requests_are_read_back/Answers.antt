use Rattle.std.proofs.Common.{arith}
use Rattle.mode6_frame.proofs.WrittenLemmas.{IsItemText-joined}
use Rattle.mru_items.specs.Queries.{read_of, request_items, request_text}
use Rattle.mru_items.proofs.GoodLemmas.{good-request, good-writable}
use Rattle.mru_items.proofs.RequestLaws.{request_told, told-addresses, told-length}
use Rattle.mru_items.proofs.laws.requests_are_read_back.Goals as goal

pub returns : goal.returns
unfolding request_text
returns c =
    let query = c.args.query.now in
    let nonce = c.args.nonce.now in
    let pairs = c.args.pairs.now in
    let told = c.args.told.now in
    let long = told-length c.args.origin.0 pairs told c.requires.told in
    let addresses = told-addresses c.args.origin.0 pairs told c.requires.pairs c.requires.told in
    let items = request_items nonce (read_of query told) in
    let writable = good-writable items (good-request nonce query told c.told-nonce c.requires.digits c.requires.query (omega (arith, long, c.requires.few)) addresses) in
    record {
      read = request_told nonce query pairs told c.args.origin.0 c.requires.query addresses c.requires.told (omega (arith, long, c.requires.few));
      writable = writable;
      spelled = IsItemText-joined items writable;
    }
