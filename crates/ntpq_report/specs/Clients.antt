-- The report of a listing of the client list, a line for each client: our own rule, after the report `mrulist` of NTPsec's
-- query tool.
use Rattle.std.specs.Prelude.{ℕ, ◌-◌, ◌/◌, ◌%◌, ◌^◌, ℤ, pos, negsuc, nat_lt, if◌then◌else◌, List, ◌++◌, codes, decimal}
use Rattle.std.specs.List.{flat_map}
use Rattle.std.specs.Net.Text.{hex}
use Rattle.fixed_time.specs.Time.{diff_of}
use Rattle.mru_items.specs.declared.shown.ShownRow.{ShownRow}
use Rattle.mrulist_reader.specs.declared.listing.Listing.{Listing}
use Rattle.net_addr.specs.Spelling.{ip_text}
use Rattle.ntpq_report.specs.declared.clients.TheConstants.{INTERVAL_WIDTH, FLAGS_WIDTH, COUNT_WIDTH, PORT_WIDTH}
use Rattle.ntpq_report.specs.Fields.{right_in}

-- a signed number, or 0 where it is negative
abbrev pub from_zero : ℤ → ℕ
from_zero (pos n) = n
from_zero (negsuc n) = 0

-- how many whole seconds a timestamp is later than another, 0 where it is earlier; it is right across the end of an era
abbrev pub seconds_after : ℕ → ℕ → ℕ
seconds_after later earlier = from_zero (diff_of later earlier) / 2 ^ 32

-- how many whole seconds lie between two arrivals of a client on the average, 0 where it arrived once at most
abbrev pub average_interval : ShownRow → ℕ
average_interval row = if nat_lt row.count 2 then 0 else seconds_after row.last row.first / (row.count - 1)

-- the line of a client, as of this time: the seconds since its last arrival, and those between two arrivals on the average; its
-- restrict flags in hexadecimal digits; the mode and the version of its last arrival; how often it arrived; its port and
-- its IP address
unfoldable pub client_line : ℕ → ShownRow → List ℕ
client_line now row =
    right_in INTERVAL_WIDTH (decimal (seconds_after now row.last))
    ++ codes " " ++ right_in INTERVAL_WIDTH (decimal (average_interval row))
    ++ codes " " ++ right_in FLAGS_WIDTH (hex row.flags)
    ++ codes " " ++ decimal (row.mv % 8)
    ++ codes " " ++ decimal (row.mv / 8)
    ++ codes " " ++ right_in COUNT_WIDTH (decimal row.count)
    ++ codes " " ++ right_in PORT_WIDTH (decimal row.addr.port)
    ++ codes " " ++ ip_text row.addr.ip
    ++ codes "\n"

-- the report of a listing: a heading, and a line for each client in the listing's order, as of the time of its last page
abbrev pub mru_report : Listing → List ℕ
mru_report listing =
    codes "lstint avgint rstr m v  count rport remote address\n" ++ flat_map (client_line listing.now) listing.rows
