use Rattle.net_addr.proofs.reader.tests.read_back_named.Goals as goal

pub returns : goal.returns
returns c =
    c.read_named.ensures.only c.args.a.now c.write_text.ensures.fits (rw c.as_slice.ensures.value c.write_text.ensures.spelled)
