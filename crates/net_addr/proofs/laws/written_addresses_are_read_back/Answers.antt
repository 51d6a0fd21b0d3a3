use Rattle.net_addr.specs.Spelling.{text_of}
use Rattle.net_addr.proofs.ReadingLemmas.{addr_in_complete}
use Rattle.net_addr.proofs.SpellingLemmas.{text_of-spells}
use Rattle.net_addr.proofs.laws.written_addresses_are_read_back.Goals as goal

pub returns : goal.returns
returns c = addr_in_complete (text_of c.args.a.now) c.args.a.now c.write_text.ensures.fits (text_of-spells c.args.a.now c.write_text.ensures.fits)
