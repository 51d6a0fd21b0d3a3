use Rattle.std.proofs.Common.{◌∙◌, sym, ap}
use Rattle.setup.proofs.FileLemmas.{same_some}
use Rattle.setup.proofs.setting_up.read_conf_keys.Goals as goal

pub returns-in-Some-clause-refused : goal.returns-in-Some-clause-refused
returns-in-Some-clause-refused g c key_name octets line word named told short refused =
    let same = same_some _ _ (sym c.in-Some.is ∙ named) in
    c.read_key_file.ensures.refused octets line word (ap (g.H.Host.files c.args.host.now) same ∙ told) short refused
