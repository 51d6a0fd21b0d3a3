use Rattle.std.proofs.Common.{◌≡◌, List, ℕ, true, sym, subst, ◌∙◌}
use Rattle.std.specs.List.{list_all}
use Rattle.mode6_frame.specs.Items.{AreNameOctets, is_name_octet}
use Rattle.mode6_frame.proofs.ItemLemmas.{all_pass}
use Rattle.mru_items.proofs.answer_reading.nonce_value.Goals as goal

pub returns-clause-bare : goal.returns-clause-bare
returns-clause-bare c =
    let are : AreNameOctets c.args.value.now = all_pass is_name_octet c.args.value.now (sym c.is_bare.ensures ∙ c.if-not-is_bare.false) in
    subst AreNameOctets (sym c.copy_from_slice.ensures.after) are
