-- The columns of the report of the peers: our own rule, after the report `peers` of NTP's query tool.
use Rattle.std.specs.Prelude.{ℕ, List, ◌++◌, codes}
use Rattle.ntpq_report.specs.declared.columns.Column.{Column}
use Rattle.ntpq_report.specs.declared.columns.Column.TheVariants.{Remote, Refid, Stratum, Poll, Reach, Delay, Offset, Jitter}
use Rattle.ntpq_report.specs.declared.columns.Row.{Row}
use Rattle.ntpq_report.specs.declared.columns.Side.{Side}
use Rattle.ntpq_report.specs.declared.columns.Side.TheVariants.{Left, Right}
use Rattle.ntpq_report.specs.Fields.{left_in, right_in}

-- how a column is laid out: its title in the header, its width in octets, and the side at which its texts stand
pub record Layout : Type 0 where
  pub title : List ℕ
  pub width : ℕ
  pub side : Side

-- the layout of each column of the report of the peers
abbrev pub layout_of : Column → Layout
layout_of Remote = record { title = codes "remote"; width = 39; side = Left }
layout_of Refid = record { title = codes "refid"; width = 15; side = Left }
layout_of Stratum = record { title = codes "st"; width = 2; side = Right }
layout_of Poll = record { title = codes "poll"; width = 6; side = Right }
layout_of Reach = record { title = codes "reach"; width = 5; side = Right }
layout_of Delay = record { title = codes "delay"; width = 14; side = Right }
layout_of Offset = record { title = codes "offset"; width = 14; side = Right }
layout_of Jitter = record { title = codes "jitter"; width = 14; side = Right }

-- a text at a side of a column of so many octets
abbrev pub at_side : Side → ℕ → List ℕ → List ℕ
at_side Left width text = left_in width text
at_side Right width text = right_in width text

-- a text in a column of the report of the peers
abbrev pub in_column : Column → List ℕ → List ℕ
in_column column text = at_side (layout_of column).side (layout_of column).width text

-- a text for each column of the report of the peers
pub record RowTexts : Type 0 where
  pub remote : List ℕ
  pub refid : List ℕ
  pub stratum : List ℕ
  pub poll : List ℕ
  pub reach : List ℕ
  pub delay : List ℕ
  pub offset : List ℕ
  pub jitter : List ℕ

-- the texts of a row of the report of the peers
abbrev pub texts_of : Row → RowTexts
texts_of r = record {
  remote = r.remote.now;
  refid = r.refid.now;
  stratum = r.stratum.now;
  poll = r.poll.now;
  reach = r.reach.now;
  delay = r.delay.now;
  offset = r.offset.now;
  jitter = r.jitter.now;
}

-- the titles of the columns of the report of the peers
abbrev pub titles : RowTexts
titles = record {
  remote = (layout_of Remote).title;
  refid = (layout_of Refid).title;
  stratum = (layout_of Stratum).title;
  poll = (layout_of Poll).title;
  reach = (layout_of Reach).title;
  delay = (layout_of Delay).title;
  offset = (layout_of Offset).title;
  jitter = (layout_of Jitter).title;
}

-- the texts of a row in their columns, with a space before each but the first
unfoldable pub row_text : RowTexts → List ℕ
row_text r =
    in_column Remote r.remote
    ++ codes " " ++ in_column Refid r.refid
    ++ codes " " ++ in_column Stratum r.stratum
    ++ codes " " ++ in_column Poll r.poll
    ++ codes " " ++ in_column Reach r.reach
    ++ codes " " ++ in_column Delay r.delay
    ++ codes " " ++ in_column Offset r.offset
    ++ codes " " ++ in_column Jitter r.jitter
