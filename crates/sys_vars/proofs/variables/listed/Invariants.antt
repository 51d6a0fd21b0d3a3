use Rattle.std.proofs.Common.{◌≡◌, ◌≤◌, length, take}
use Rattle.std.specs.List.{AllByRecursion, filter_map}
use Rattle.mode6_frame.specs.ItemTexts.{IsWritable}
use Rattle.sys_vars.specs.Variables.{IsShort, variable_of}
use Rattle.sys_vars.proofs.variables.listed.Given as goal

-- the variables of the numbers before this one are kept, and are short and writable
abbrev pub invariant-loop-number : goal.invariant-loop-number
invariant-loop-number l =
    (l.items.items ≡ filter_map (variable_of l.rec l.subject) (take l.number-index l.numbers))
    × AllByRecursion IsShort l.items.items
    × (length l.items.items ≤ l.number-index)
    × AllByRecursion IsWritable l.items.items
