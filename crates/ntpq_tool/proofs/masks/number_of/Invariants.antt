use Rattle.std.proofs.Common.{◌≡◌, ◌<◌, ◌^◌, drop}
use Rattle.std.specs.List.{list_all}
use Rattle.std.specs.Str.Parse.{digits_value, digits_value_after}
use Rattle.hex.specs.Hex.{is_hex_digit}
use Rattle.ntpq_tool.proofs.masks.number_of.Given as goal

abbrev pub invariant-loop-digit : goal.invariant-loop-digit
invariant-loop-digit l = record {
  digits : list_all is_hex_digit l.digits ≡ list_all is_hex_digit (drop l.digit-index l.digits);
  value : digits_value 16 l.digits ≡ digits_value_after 16 l.number (drop l.digit-index l.digits);
  small : l.number < 16 ^ l.digit-index;
}
