use Rattle.std.proofs.Common.{◌∙◌, inr, ap, subst}
use Rattle.conf_file.specs.declared.conf.Conf.{Conf}
use Rattle.setup.specs.Files.{AreKeys, Files}
use Rattle.setup.specs.declared.files.SetupFault.TheVariants as fault
use Rattle.setup.proofs.FileLemmas.{IsCause-keys, IsRefusedAs-on, handed_on}
use Rattle.setup.proofs.SessionLemmas.{session_made}
use Rattle.setup.proofs.NameLemmas.{IsConfText-named}
use Rattle.setup.proofs.setting_up.set_up.Goals as goal

pub returns-in_err-conf-clause-conf_refused : goal.returns-in_err-conf-clause-conf_refused
returns-in_err-conf-clause-conf_refused g c octets line word told short refused =
    IsRefusedAs-on (fault.Conf line word) c.in_err-conf.field-0.0 c.from_residual.result c.from_residual.ensures.1 (c.in_err-conf.ensures.refused octets line word told short refused)

pub returns-in_err-conf-clause-keys_refused : goal.returns-in_err-conf-clause-keys_refused
returns-in_err-conf-clause-keys_refused g c text octets conf key_name line word told short means named told_keys short_keys refused =
    IsRefusedAs-on (fault.Keys line word) c.in_err-conf.field-0.0 c.from_residual.result c.from_residual.ensures.1 (inr (c.in_err-conf.ensures.only text conf told short means))

pub returns-in_err-conf-clause-keys_too_long : goal.returns-in_err-conf-clause-keys_too_long
returns-in_err-conf-clause-keys_too_long g c text octets conf key_name told short means named told_keys long_keys =
    IsRefusedAs-on fault.TooLong c.in_err-conf.field-0.0 c.from_residual.result c.from_residual.ensures.1 (inr (c.in_err-conf.ensures.only text conf told short means))

pub read_conf_keys-requires : goal.read_conf_keys-requires
read_conf_keys-requires g c =
    let found = c.in_ok-conf.ensures.found in
    record { named = IsConfText-named found.octets c.in_ok-conf.conf found.is }

pub returns-in_err-keys-clause-cause : goal.returns-in_err-keys-clause-cause
returns-in_err-keys-clause-cause g c =
    let why = c.in_err-keys.field-0.0 in
    let (key_name, named, cause) = c.in_err-keys.ensures.cause in
    rw (handed_on c.from_residual-in_err-keys.result why c.from_residual-in_err-keys.ensures.1) (IsCause-keys g.H.S.Source.faults (g.H.Host.files c.args.host.now) (g.H.Host.files c.read_conf_file.new.host) c.args.name.now key_name c.in_ok-conf.conf (g.H.Host.faults c.args.host.now) (g.H.Host.faults c.read_conf_file.new.host) (g.H.Host.faults c.read_conf_keys.new.host) why c.in_ok-conf.ensures.files_kept c.in_ok-conf.ensures.faults_kept c.in_ok-conf.ensures.found named cause)

pub returns-in_err-keys-clause-conf_refused : goal.returns-in_err-keys-clause-conf_refused
returns-in_err-keys-clause-conf_refused g c octets line word told short refused = absurd (c.in_ok-conf.ensures.refused octets line word told short refused)

pub returns-in_err-keys-clause-keys_refused : goal.returns-in_err-keys-clause-keys_refused
returns-in_err-keys-clause-keys_refused g c text octets conf key_name line word told short means named told_keys short_keys refused =
    let why = c.in_err-keys.field-0.0 in
    let same = c.in_ok-conf.ensures.only text conf told short means in
    let here = ap (λ (k : Conf). k.keys) same ∙ named in
    let then_told = ap (λ (f : Files). f key_name) c.in_ok-conf.ensures.files_kept ∙ told_keys in
    IsRefusedAs-on (fault.Keys line word) why c.from_residual-in_err-keys.result c.from_residual-in_err-keys.ensures.1 (c.in_err-keys.ensures.refused key_name octets line word here then_told short_keys refused)

pub returns-in_err-keys-clause-keys_too_long : goal.returns-in_err-keys-clause-keys_too_long
returns-in_err-keys-clause-keys_too_long g c text octets conf key_name told short means named told_keys long_keys =
    let why = c.in_err-keys.field-0.0 in
    let same = c.in_ok-conf.ensures.only text conf told short means in
    let here = ap (λ (k : Conf). k.keys) same ∙ named in
    let then_told = ap (λ (f : Files). f key_name) c.in_ok-conf.ensures.files_kept ∙ told_keys in
    IsRefusedAs-on fault.TooLong why c.from_residual-in_err-keys.result c.from_residual-in_err-keys.ensures.1 (c.in_err-keys.ensures.too_long key_name octets here then_told long_keys)

pub returns-clause-session : goal.returns-clause-session
returns-clause-session g c =
    let conf_kept = c.in_ok-conf.ensures in
    let keys_kept = c.in_ok-keys.ensures in
    let conf = c.in_ok-conf.conf in
    let are = subst (λ (f : Files). AreKeys f conf.keys c.in_ok-keys.keys) conf_kept.files_kept keys_kept.found in
    let is = rw (keys_kept.salt_kept ∙ conf_kept.salt_kept, keys_kept.origin_kept ∙ conf_kept.origin_kept) at c.open_session.ensures.is in
    let bound = rw (keys_kept.binds_kept ∙ conf_kept.binds_kept) at c.open_session.ensures.bound in
    session_made g.H.P.Port.trace g.H.P.Port.faults g.H.P.Port.quiets g.H.P.Port.address g.H.C.Clock.readings (g.H.Host.files c.args.host.now) c.args.name.now (g.H.Host.binds c.args.host.now) (g.H.Host.binds c.open_session.new.host) conf c.in_ok-keys.keys (g.H.Host.salt c.args.host.now) (g.H.Host.origin c.args.host.now) c.open_session.result conf_kept.found are is bound

pub returns-clause-conf_refused : goal.returns-clause-conf_refused
returns-clause-conf_refused g c octets line word told short refused = absurd (c.in_ok-conf.ensures.refused octets line word told short refused)

pub returns-clause-keys_refused : goal.returns-clause-keys_refused
returns-clause-keys_refused g c text octets conf key_name line word told short means named told_keys short_keys refused =
    let same = c.in_ok-conf.ensures.only text conf told short means in
    let here = ap (λ (k : Conf). k.keys) same ∙ named in
    let then_told = ap (λ (f : Files). f key_name) c.in_ok-conf.ensures.files_kept ∙ told_keys in
    absurd (c.in_ok-keys.ensures.refused key_name octets line word here then_told short_keys refused)

pub returns-clause-keys_too_long : goal.returns-clause-keys_too_long
returns-clause-keys_too_long g c text octets conf key_name told short means named told_keys long_keys =
    let same = c.in_ok-conf.ensures.only text conf told short means in
    let here = ap (λ (k : Conf). k.keys) same ∙ named in
    let then_told = ap (λ (f : Files). f key_name) c.in_ok-conf.ensures.files_kept ∙ told_keys in
    absurd (c.in_ok-keys.ensures.too_long key_name octets here then_told long_keys)
