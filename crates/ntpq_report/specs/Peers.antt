-- The report of the peers, a line for each: our own rule, after the report `peers` of NTP's query tool. Which
-- variables it shows, and when an answer does not give them.
use Rattle.std.specs.Prelude.{◌≡◌, ℕ, ◌^◌, ◌==◌, if◌then◌else◌, bytes_eq, Option, Some, None, List, [], ◌∷◌, ◌++◌, codes, decimal, filter}
use Rattle.mode6_frame.specs.declared.items.Item.{Item}
use Rattle.mode6_frame.specs.declared.selections.TheConstants.{FALSETICKER, OUTLIER, SURVIVOR, SYSTEM_PEER}
use Rattle.text_words.specs.Numbers.{SpellsNumber}
use Rattle.ntpq_report.specs.declared.peer_variables.PeerVariables.{PeerVariables}
use Rattle.ntpq_report.specs.declared.peer_variables.TheConstants.{MAX_HPOLL}
use Rattle.ntpq_report.specs.Columns.{RowTexts, row_text, titles}

-- the value of the only one of these items, where there is one alone and it has a value
abbrev pub only_value : List Item → Option (List ℕ)
only_value [] = None
only_value (item ∷ []) = item.value
only_value (item ∷ next ∷ items) = None

-- the items of this name
abbrev pub items_named : List ℕ → List Item → List Item
items_named name items = filter (λ item. bytes_eq item.name name) items

-- the value of the variable of this name: it has to stand once, and to have a value
abbrev pub value_in : List Item → List ℕ → Option (List ℕ)
value_in items name = only_value (items_named name items)

-- the poll exponent of a peer, log2 of seconds: the value of `hpoll` is a number from 0 to the greatest exponent in decimal
-- digits, without leading zeros
pub record IsPollExponent (items : List Item) (hpoll : ℕ) : Type 0 where
  pub text : List ℕ
  pub given : value_in items (codes "hpoll") ≡ Some text
  pub spelled : SpellsNumber 0 MAX_HPOLL text hpoll

-- what the report shows of a peer: the values as they came, and the poll exponent
pub record PeerValues : Type 0 where
  pub srcadr : List ℕ
  pub refid : List ℕ
  pub stratum : List ℕ
  pub hpoll : ℕ
  pub reach : List ℕ
  pub delay : List ℕ
  pub offset : List ℕ
  pub jitter : List ℕ

-- the values of a peer that were read from items
abbrev pub values_of : PeerVariables → PeerValues
values_of v = record {
  srcadr = v.srcadr.now;
  refid = v.refid.now;
  stratum = v.stratum.now;
  hpoll = v.hpoll;
  reach = v.reach.now;
  delay = v.delay.now;
  offset = v.offset.now;
  jitter = v.jitter.now;
}

-- the items give these values of a peer: each variable stands once, and has one; items of other names do not matter
pub record ArePeerValues (items : List Item) (values : PeerValues) : Type 0 where
  pub srcadr : value_in items (codes "srcadr") ≡ Some values.srcadr
  pub refid : value_in items (codes "refid") ≡ Some values.refid
  pub stratum : value_in items (codes "stratum") ≡ Some values.stratum
  pub hpoll : IsPollExponent items values.hpoll
  pub reach : value_in items (codes "reach") ≡ Some values.reach
  pub delay : value_in items (codes "delay") ≡ Some values.delay
  pub offset : value_in items (codes "offset") ≡ Some values.offset
  pub jitter : value_in items (codes "jitter") ≡ Some values.jitter

-- the tally of a peer, by its selection code
abbrev pub tally_of : ℕ → List ℕ
tally_of selection =
    if selection == FALSETICKER then codes "x"
    else (if selection == OUTLIER then codes "-"
    else (if selection == SURVIVOR then codes "+"
    else (if selection == SYSTEM_PEER then codes "*"
    else codes " ")))

-- the header of the report of the peers: a space where a line has its tally, and the titles
abbrev pub peers_header : List ℕ
peers_header = codes " " ++ row_text titles ++ codes "\n"

-- the texts that a line shows of a peer: the poll interval in seconds, and all else as it came
abbrev pub shown_of : PeerValues → RowTexts
shown_of values = record {
  remote = values.srcadr;
  refid = values.refid;
  stratum = values.stratum;
  poll = decimal (2 ^ values.hpoll);
  reach = values.reach;
  delay = values.delay;
  offset = values.offset;
  jitter = values.jitter;
}

-- the line of a peer: its tally, and right behind it the row of its values
abbrev pub peer_line_of : ℕ → PeerValues → List ℕ
peer_line_of selection values = tally_of selection ++ row_text (shown_of values) ++ codes "\n"
