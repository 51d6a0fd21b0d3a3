use Rattle.std.proofs.Common.{◌≡◌, None, sym, ◌∙◌, arith}
use Rattle.mru_items.specs.Values.{mask_digits}
use Rattle.mru_items.proofs.ValueLemmas.{flags_in-none}
use Rattle.mru_items.proofs.value_reading.flags_in.Goals as goal

pub returns-in_err-digits : goal.returns-in_err-digits
returns-in_err-digits c =
    let none : mask_digits c.args.value.now ≡ None = grind arith in
    record { value = c.from_residual.ensures ∙ sym (flags_in-none c.args.value.now none) }
