use Rattle.std.proofs.Common.{refl}
use Rattle.conf_file.proofs.restrict_options.flag_table.Goals as goal

pub returns : goal.returns
returns c =
    rw (c.flag.ensures, c.flag-2.ensures, c.flag-3.ensures, c.flag-4.ensures, c.flag-5.ensures, c.flag-6.ensures, c.flag-7.ensures, c.flag-8.ensures, c.flag-9.ensures, c.flag-10.ensures, c.flag-11.ensures) refl
