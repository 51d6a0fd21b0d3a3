use Rattle.std.proofs.Common.{refl}
use Rattle.setup.proofs.FileLemmas.{IsOverlong-read}
use Rattle.setup.proofs.files.read_file.Goals as goal

pub returns-in-Err-TooLong-clause-cause : goal.returns-in-Err-TooLong-clause-cause
returns-in-Err-TooLong-clause-cause g c =
    let read = rw c.in-Err-TooLong.field-0-is at c.in-Err-TooLong.ensures in
    IsOverlong-read (g.H.Host.files c.args.host.now) c.args.name.now _ _ c.in-Ok.ensures.source_rest (read.too_long refl)
