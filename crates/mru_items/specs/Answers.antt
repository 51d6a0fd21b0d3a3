-- What an answer to a read of the client list tells, as items (after NTPsec's `mrulist`; their forms are our own rule).
use Rattle.std.specs.Prelude.{◌≡◌, ◌⊎◌, ℕ, zero, suc, ◌-◌, ◌^◌, ◌<◌, ◌==◌, Bool, ◌&&◌, if◌then◌else◌, Option, Some, None, List, [], ◌∷◌, ◌++◌, length, codes, decimal}
use Rattle.std.specs.List.{AllByRecursion, list_all, count_by}
use Rattle.std.specs.Option.{option_and_then, option_map}
use Rattle.mode6_frame.specs.declared.items.Item.{Item}
use Rattle.mode6_frame.specs.Items.{AreNameOctets, is_name_octet}
use Rattle.mode6_frame.specs.Readings.{items_read}
use Rattle.mode6_frame.specs.Stamps.{stamp_in, stamp_text}
use Rattle.net_addr.specs.Readings.{addr_in}
use Rattle.net_addr.specs.Spelling.{IsAddr, text_of}
use Rattle.mru_items.specs.declared.answer.PageAnswer.{PageAnswer}
use Rattle.mru_items.specs.declared.answer.TheConstants.{NONCE_OCTETS}
use Rattle.mru_items.specs.declared.pair.Pair.{Pair}
use Rattle.mru_items.specs.declared.shown.ShownRow.{ShownRow}
use Rattle.mru_items.specs.Names.{is_numbered, numbered, the_one, values_of, value_of, valued}
use Rattle.mru_items.specs.Values.{number_in, flags_in, flags_text}

infixl 10 ◌>>=◌
abbrev ◌>>=◌ : {A B : Type 0} → Option A → (A → Option B) → Option B
o >>= f = option_and_then f o

-- the words of a row's six names: its address, last and first arrival, count, mode and version, and restrict flags
abbrev pub row_words : List (List ℕ)
row_words = codes "addr" ∷ codes "last" ∷ codes "first" ∷ codes "ct" ∷ codes "mv" ∷ codes "rs" ∷ []

-- how many items have a name that is a word, a point and digits
abbrev pub count_numbered : List ℕ → List Item → ℕ
count_numbered word items = count_by (λ item. is_numbered word item.name) items

-- a value of the items of a name, which may be one of several
abbrev pub Among : List (Option (List ℕ)) → Option (List ℕ) → Type 0
Among [] value = ⊥
Among (first ∷ values) value = (first ≡ value) ⊎ Among values value

-- a value among those of a name has this form
pub record IsFoundAs {A : Type 0} (form : List ℕ → Option A) (values : List (Option (List ℕ))) (it : A) : Type 0 where
  pub value : List ℕ
  pub among : Among values (Some value)
  pub told : form value ≡ Some it

-- what the one value of a name tells
abbrev pub told_by : {A : Type 0} → (List ℕ → Option A) → List (Option (List ℕ)) → Option A
told_by form values = the_one values >>= form

-- each of the six items of a number stands there, in its form
pub record IsFoundRow (items : List Item) (number : ℕ) (row : ShownRow) : Type 0 where
  pub addr : IsFoundAs addr_in (values_of (numbered (codes "addr") number) items) row.addr
  pub last : IsFoundAs stamp_in (values_of (numbered (codes "last") number) items) row.last
  pub first : IsFoundAs stamp_in (values_of (numbered (codes "first") number) items) row.first
  pub count : IsFoundAs (number_in 0 (2 ^ 32 - 1)) (values_of (numbered (codes "ct") number) items) row.count
  pub mv : IsFoundAs (number_in 0 255) (values_of (numbered (codes "mv") number) items) row.mv
  pub flags : IsFoundAs flags_in (values_of (numbered (codes "rs") number) items) row.flags

-- the row of a number, where each of its six items stands once, in its form
abbrev pub row_in : List Item → ℕ → Option ShownRow
row_in items number = do
  addr ← value_of (numbered (codes "addr") number) items >>= addr_in
  last ← value_of (numbered (codes "last") number) items >>= stamp_in
  first ← value_of (numbered (codes "first") number) items >>= stamp_in
  count ← value_of (numbered (codes "ct") number) items >>= number_in 0 (2 ^ 32 - 1)
  mv ← value_of (numbered (codes "mv") number) items >>= number_in 0 255
  flags ← value_of (numbered (codes "rs") number) items >>= flags_in
  Some (record { addr = addr; last = last; first = first; count = count; mv = mv; flags = flags })

-- the rows of so many numbers, from this one on
abbrev pub rows_from : List Item → ℕ → ℕ → Option (List ShownRow)
rows_from items zero number = Some []
rows_from items (suc count) number = do
  row ← row_in items number
  rows ← rows_from items count (suc number)
  Some (row ∷ rows)

-- of each of the six words there are so many items
abbrev pub has_each : List Item → ℕ → Bool
has_each items count = list_all (λ word. count_numbered word items == count) row_words

-- the rows of an answer: as many as it has addresses, numbered from 0 on, and no item of a row beside their six
unfoldable pub rows_in : List Item → Option (List ShownRow)
rows_in items =
    if has_each items (count_numbered (codes "addr") items) then rows_from items (count_numbered (codes "addr") items) 0 else None

-- a value of 24 octets that a request can repeat without quotes: visible ones, none of them a comma, an equals sign or a
-- quotation mark
abbrev pub nonce_value : List ℕ → Option (List ℕ)
nonce_value value = if (length value == NONCE_OCTETS) && list_all is_name_octet value then Some value else None

-- the nonce of an answer: there is one, of 24 octets
unfoldable pub nonce_in : List Item → Option (List ℕ)
nonce_in items = value_of (codes "nonce") items >>= nonce_value

-- the timestamp of a name that may be left out
abbrev pub time_by : List (Option (List ℕ)) → Option (Option ℕ)
time_by [] = Some None
time_by (value ∷ values) = option_map Some (told_by stamp_in (value ∷ values))

-- a client by the two items of it, each of which stands once
abbrev pub pair_by : List (Option (List ℕ)) → List (Option (List ℕ)) → Option Pair
pair_by addrs lasts = do
  addr ← told_by addr_in addrs
  last ← told_by stamp_in lasts
  Some (record { addr = addr; last = last })

-- the client behind which a page begins: neither of its two items stands there, or each once
abbrev pub older_by : List (Option (List ℕ)) → List (Option (List ℕ)) → Option (Option Pair)
older_by [] [] = Some None
older_by [] (last ∷ lasts) = option_map Some (pair_by [] (last ∷ lasts))
older_by (addr ∷ addrs) lasts = option_map Some (pair_by (addr ∷ addrs) lasts)

-- what items tell as an answer to a read, if they do: other names say nothing
unfoldable pub answer_in : List Item → Option PageAnswer
answer_in items = do
  nonce ← nonce_in items
  older ← older_by (values_of (codes "addr.older") items) (values_of (codes "last.older") items)
  rows ← rows_in items
  ended ← time_by (values_of (codes "now") items)
  newest ← time_by (values_of (codes "last.newest") items)
  Some (record { nonce = nonce; older = older; rows = rows; ended = ended; newest = newest })

-- what a text tells as an answer to a read, if it does
unfoldable pub answer_told : List ℕ → Option PageAnswer
answer_told text = items_read text >>= answer_in

-- the nonce that a text tells, if it does
unfoldable pub nonce_told : List ℕ → Option (List ℕ)
nonce_told text = items_read text >>= nonce_in

-- a row as an answer can tell it: each number has its width
pub record IsShownRow (row : ShownRow) : Type 0 where
  pub addr : IsAddr row.addr
  pub last : row.last < 2 ^ 64
  pub first : row.first < 2 ^ 64
  pub count : row.count < 2 ^ 32
  pub mv : row.mv < 2 ^ 8
  pub flags : row.flags < 2 ^ 16

-- a pair as an answer can tell it
abbrev pub IsOlder : Option Pair → Type 0
IsOlder None = Unit {0}
IsOlder (Some pair) = IsAddr pair.addr × (pair.last < 2 ^ 64)

-- a time as an answer can tell it
abbrev pub IsTime : Option ℕ → Type 0
IsTime None = Unit {0}
IsTime (Some time) = time < 2 ^ 64

-- what an answer can tell: a nonce of 24 octets that stand without quotes, and numbers of their widths
pub record IsAnswer (answer : PageAnswer) : Type 0 where
  pub nonce : length answer.nonce ≡ NONCE_OCTETS
  pub bare : AreNameOctets answer.nonce
  pub older : IsOlder answer.older
  pub rows : AllByRecursion IsShownRow answer.rows
  pub ended : IsTime answer.ended
  pub newest : IsTime answer.newest

-- the items of the client behind which a page begins
abbrev pub older_items : Option Pair → List Item
older_items None = []
older_items (Some pair) =
    valued (codes "addr.older") (text_of pair.addr) ∷ valued (codes "last.older") (stamp_text pair.last) ∷ []

-- the six items of a row
abbrev pub row_items : ℕ → ShownRow → List Item
row_items number row =
    valued (numbered (codes "addr") number) (text_of row.addr)
    ∷ valued (numbered (codes "last") number) (stamp_text row.last)
    ∷ valued (numbered (codes "first") number) (stamp_text row.first)
    ∷ valued (numbered (codes "ct") number) (decimal row.count)
    ∷ valued (numbered (codes "mv") number) (decimal row.mv)
    ∷ valued (numbered (codes "rs") number) (flags_text row.flags)
    ∷ []

-- the items of rows, numbered from here on
abbrev pub rows_items : ℕ → List ShownRow → List Item
rows_items number [] = []
rows_items number (row ∷ rows) = row_items number row ++ rows_items (suc number) rows

-- the item of a time that may be left out
abbrev pub time_items : List ℕ → Option ℕ → List Item
time_items name None = []
time_items name (Some time) = valued name (stamp_text time) ∷ []

-- the items of an answer to a read, in their order
unfoldable pub answer_items : PageAnswer → List Item
answer_items answer =
    (valued (codes "nonce") answer.nonce ∷ []) ++ older_items answer.older ++ rows_items 0 answer.rows
    ++ time_items (codes "now") answer.ended ++ time_items (codes "last.newest") answer.newest
