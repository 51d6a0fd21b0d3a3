use Rattle.std.proofs.Common.{◌≡◌, ℕ, List, ◌++◌, ◌-◌, take, drop, length, ap, ◌∙◌, arith}
use Rattle.std.proofs.lemmas.List.{take_all, length-drop}
use Rattle.mode6_frame.proofs.StampLemmas.{halves}
use Rattle.mode6_frame.proofs.stamps.digits_of.Goals as goal

pub returns : goal.returns
returns c =
    let joined = halves c.copy_from_slice.new.self c.copy_from_slice-2.new.self c.copy_from_slice.ensures.len in
    let front = c.copy_from_slice.ensures.after in
    let back = c.copy_from_slice-2.ensures.after in
    record { value = rw joined (rw (front, back) (ap (λ rest. take 8 (drop 2 c.args.text.now) ++ rest) (take_all (length c.args.text.now - 11) (drop 11 c.args.text.now) (omega (arith, length-drop 11 c.args.text.now))))) }
