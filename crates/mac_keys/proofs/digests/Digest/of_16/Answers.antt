use Rattle.std.proofs.Common.{arith, take_at, ◌∙◌, length, ◌≡◌, [], ◌∷◌}
use Rattle.mac_keys.proofs.digests.Digest.of_16.Goals as goal

pub returns : goal.returns
returns c =
    let long : length c.copy_from_slice.new.self ≡ 16 = omega arith in
    take_at c.copy_from_slice.new.self (0 ∷ 0 ∷ 0 ∷ 0 ∷ []) 16 long ∙ c.copy_from_slice.ensures.after
