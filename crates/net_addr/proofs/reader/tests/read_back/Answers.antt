use Rattle.std.proofs.Common.{inl}
use Rattle.net_addr.proofs.reader.tests.read_back.Goals as goal

pub returns : goal.returns
returns c =
    c.read_text.ensures.only c.args.a.now c.write_text.ensures.fits (inl (rw c.as_slice.ensures.value c.write_text.ensures.spelled))
