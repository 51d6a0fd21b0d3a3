-- Names of items in a read of the client list and in its answer, as NTPsec's `mrulist` has them, and the values under them.
use Rattle.std.specs.Prelude.{ℕ, Bool, ◌&&◌, nat_lt, List, [], ◌∷◌, ◌++◌, length, take, drop, Option, Some, None, map, codes, decimal, bytes_eq}
use Rattle.std.specs.Int.{is_in_range}
use Rattle.std.specs.List.{filter, list_all}
use Rattle.mode6_frame.specs.declared.items.Item.{Item}

-- a name that ends in a number: a word, a point and the number in decimal
abbrev pub numbered : List ℕ → ℕ → List ℕ
numbered word number = word ++ codes "." ++ decimal number

-- decimal digits, one at least
abbrev pub are_digits : List ℕ → Bool
are_digits digits = nat_lt 0 (length digits) && list_all (is_in_range 48 57) digits

-- a name is this front and decimal digits
abbrev pub has_number : List ℕ → List ℕ → Bool
has_number front name = bytes_eq front (take (length front) name) && are_digits (drop (length front) name)

-- a name is a word, a point and decimal digits
abbrev pub is_numbered : List ℕ → List ℕ → Bool
is_numbered word name = has_number (word ++ codes ".") name

-- the items of a name, in their order
abbrev pub items_named : List ℕ → List Item → List Item
items_named name items = filter (λ item. bytes_eq item.name name) items

-- the values of the items of a name, in their order
abbrev pub values_of : List ℕ → List Item → List (Option (List ℕ))
values_of name items = map (λ item. item.value) (items_named name items)

-- the value of a name that stands once, with a value
abbrev pub the_one : List (Option (List ℕ)) → Option (List ℕ)
the_one (Some value ∷ []) = Some value
the_one values = None

-- the value of the one item of a name
abbrev pub value_of : List ℕ → List Item → Option (List ℕ)
value_of name items = the_one (values_of name items)

-- an item with a value
abbrev pub valued : List ℕ → List ℕ → Item
valued name value = record { name = name; value = Some value }
