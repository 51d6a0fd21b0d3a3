use Rattle.mru_items.specs.Queries.{named_of}
use Rattle.mru_items.proofs.RoomLemmas.{body-fits, four-named, named-fit}
use Rattle.mru_items.proofs.laws.at_least_four_pairs_are_named.Goals as goal

pub returns : goal.returns
returns c =
    let query = c.args.query.now in
    let pairs = c.args.pairs.now in
    record {
      four = four-named query pairs c.requires.query c.requires.pairs;
      fits = rw (body-fits query c.args.nonce.now (named_of query pairs) c.requires.digits c.told-nonce) (named-fit query pairs c.requires.query c.requires.pairs);
    }
