use Rattle.std.proofs.Common.{◌∷◌, ◌++◌, [], inl, inr, refl}
use Rattle.edge_traits.specs.declared.port.Event.TheVariants.{Took}
use Rattle.ntpd_serve.specs.Once.{silences}
use Rattle.ntpd_serve.proofs.OnceLemmas.{Grows-nothing, gained-came}
use Rattle.ntpd_serve.proofs.OpeningLemmas.{unrefused-Follows}
use Rattle.ntpd_serve.proofs.once.serve_next.Goals as goal

pub returns-in-Ok-clause-happens : goal.returns-in-Ok-clause-happens
returns-in-Ok-clause-happens g c =
    let came = c.in-Ok.ensures.came in
    let followed = c.serve_datagram.ensures.follows in (
      silences came.0 ++ Took c.in-Ok.from c.wait_for_datagram.new.into ∷ followed.0,
      followed.1,
      inl (record {
        quiets = came.0;
        from = c.in-Ok.from;
        octets = c.wait_for_datagram.new.into;
        after = followed.0;
        server = c.args.book.now.state;
        opening = c.requires.opening;
        in_time = came.1;
        gained = refl;
        follows = followed.2;
        unrefused = unrefused-Follows c.args.common.now c.args.book.now.state c.serve_datagram.result c.in-Ok.from c.wait_for_datagram.new.into followed.0 followed.1 c.requires.opening followed.2;
      }),
      gained-came _ _ _ _ _ _ came.2 followed.3,
      followed.4,
    )

pub returns-in-Err-clause-happens : goal.returns-in-Err-clause-happens
returns-in-Err-clause-happens g c =
    let ended = c.in-Err.ensures.ended in
    (ended.0, [], inr (c.in-Err.why, refl, ended.1, refl), ended.2, Grows-nothing _)
