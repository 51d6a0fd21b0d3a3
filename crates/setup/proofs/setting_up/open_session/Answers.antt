use Rattle.std.proofs.Common.{◌∷◌, ◌∙◌, [], List, Option, ap}
use Rattle.edge_traits.specs.Told.{gained}
use Rattle.net_addr.specs.declared.addr.Addr.{Addr}
use Rattle.setup.specs.declared.listening.TheConstants.{UPSTREAM}
use Rattle.setup.proofs.ListeningLemmas.{gained-more}
use Rattle.setup.proofs.setting_up.open_session.Goals as goal

pub returns-clause-bound : goal.returns-clause-bound
returns-clause-bound g c =
    let before = c.salt-salt.ensures.binds_kept ∙ c.origin-origin.ensures.binds_kept in
    let after = c.in_ok-workers.ensures.bound ∙ ap (λ (told : Option (List Addr)). gained told c.args.conf.listen) before in
    c.in_ok-pilot.ensures.bound ∙ ap (λ (told : Option (List Addr)). gained told (UPSTREAM ∷ [])) after ∙ gained-more _ c.args.conf.listen (UPSTREAM ∷ [])
