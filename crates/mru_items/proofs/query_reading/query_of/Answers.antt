use Rattle.std.proofs.Common.{refl, rules}
use Rattle.mru_items.proofs.query_reading.query_of.Goals as goal

pub returns-clause-exactly : goal.returns-clause-exactly
returns-clause-exactly c = (
  record {
    nonce = c.has_nonce.ensures.0 (search rules);
    limit = c.in_ok-limit.ensures.0;
    frags = c.in_ok-frags.ensures.0;
    bounded = c.is_bounded.ensures.0 (search rules);
    clients = c.in_ok-filter.ensures.0;
  },
  λ other asks.
      let limit = c.in_ok-limit.ensures.1 other.limit asks.limit in
      let frags = c.in_ok-frags.ensures.1 other.frags asks.frags in
      let filter = c.in_ok-filter.ensures.1 other.filter asks.clients in
      rw (limit, frags, filter) refl,
)
