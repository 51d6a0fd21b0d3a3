-- The report of the variables of an association: our own rule, after the report `rv` of NTP's query tool.
use Rattle.std.specs.Prelude.{ℕ, Bool, true, false, List, [], ◌∷◌, ◌++◌, codes, decimal}
use Rattle.mode6_frame.specs.declared.items.Item.{Item}
use Rattle.mode6_frame.specs.ItemTexts.{item_text}
use Rattle.ntpq_report.specs.Fields.{hex_word}

-- how the line of an item ends in the report of variables: with a comma, but for the last item's
abbrev pub line_end : Bool → List ℕ
line_end true = codes "\n"
line_end false = codes ",\n"

-- a line for each item, in their order, in the report of variables
abbrev pub item_lines : List Item → List ℕ
item_lines [] = []
item_lines (last ∷ []) = item_text last ++ line_end true
item_lines (item ∷ next ∷ items) = item_text item ++ line_end false ++ item_lines (next ∷ items)

-- the first line of the report of variables: the number of the association, 0 for the system, and its status word in hexadecimal digits
abbrev pub rv_heading : ℕ → ℕ → List ℕ
rv_heading assoc status = codes "associd=" ++ decimal assoc ++ codes " status=" ++ hex_word status ++ codes "\n"

-- the report of the variables of an association: its number and status, and a line for each item
abbrev pub rv_text : ℕ → ℕ → List Item → List ℕ
rv_text assoc status items = rv_heading assoc status ++ item_lines items
