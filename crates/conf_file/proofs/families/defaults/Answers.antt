use Rattle.std.proofs.Common.{refl}
use Rattle.conf_file.proofs.families.defaults.Goals as goal

pub returns-in-Both : goal.returns-in-Both
returns-in-Both c = rw c.in-Both.is (c.whole_v4.ensures, (c.whole_v6.result, c.whole_v6.ensures, refl))
