use Rattle.std.proofs.Common.{◌≡◌, rules}
use Rattle.net_addr.specs.Spelling.{text_of}
use Rattle.net_addr.proofs.SpellingLemmas.{text_of-spells}
use Rattle.net_addr.proofs.addr_text.write_text.Goals as goal

pub returns-clause-spelled : goal.returns-clause-spelled
unfolding text_of
returns-clause-spelled c =
    let written : c.append_after.new.self ≡ text_of c.args.a.now = search rules in
    rw written (text_of-spells c.args.a.now (record { ip = c.write_ip-ip.ensures.fits; port = c.append_after.ensures.fits }))
