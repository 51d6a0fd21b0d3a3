use Rattle.std.proofs.Common.{◌≡◌, Some, arith, rules}
use Rattle.mac_keys.specs.Tables.{key_of}
use Rattle.server_core.proofs.ShownLemmas.{Shows-good}
use Rattle.server_core.proofs.reply.end_by_key.Goals as goal

pub returns-clause-shown : goal.returns-clause-shown
returns-clause-shown c =
    let has : key_of c.args.keys.now c.args.id ≡ Some c.unwrap.result.now = search rules in
    Shows-good c.args.keys.now c.unwrap.result.now c.args.id c.args.reply.now _ c.requires.header (omega (arith, c.ranges.id)) has
    c.append_mac.ensures.spelled c.append_mac.ensures.len (c.append_mac.ensures.read_back c.requires.header)
