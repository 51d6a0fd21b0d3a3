-- Worked values of the report of clients, by hand: the widths, lines, and what is earlier.
use Rattle.std.proofs.Common.{◌≡◌, ℕ, [], ◌∷◌, ◌*◌, ◌^◌, refl, codes}
use Rattle.std.specs.Fmt.{digits}
use Rattle.std.specs.Net.Text.{hex}
use Rattle.mru_items.specs.declared.shown.ShownRow.{ShownRow}
use Rattle.net_addr.specs.declared.addr.Ip.TheVariants.{V4}
use Rattle.net_addr.specs.Spelling.{ip_text}
use Rattle.ntpq_report.specs.declared.clients.TheConstants.{INTERVAL_WIDTH, FLAGS_WIDTH, COUNT_WIDTH, PORT_WIDTH}
use Rattle.ntpq_report.specs.Clients.{average_interval, client_line, mru_report, seconds_after}

INTERVAL_WIDTH-is : INTERVAL_WIDTH ≡ 6
INTERVAL_WIDTH-is = refl

FLAGS_WIDTH-is : FLAGS_WIDTH ≡ 4
FLAGS_WIDTH-is = refl

COUNT_WIDTH-is : COUNT_WIDTH ≡ 6
COUNT_WIDTH-is = refl

PORT_WIDTH-is : PORT_WIDTH ≡ 5
PORT_WIDTH-is = refl

-- a client of 10.0.0.1:123 whose first and last arrival were at these seconds, and that arrived so often
abbrev arrived : ℕ → ℕ → ℕ → ShownRow
arrived first last count = record {
  addr = record { ip = V4 (10 ∷ 0 ∷ 0 ∷ 1 ∷ []); port = 123 };
  last = last * 2 ^ 32;
  first = first * 2 ^ 32;
  count = count;
  mv = 35;
  flags = 0;
}

-- one arrival of version 4 and mode 3, 64 seconds ago
once-report : mru_report (record { rows = arrived 0x83aa7e81 0x83aa7e81 1 ∷ []; now = 0x83aa7ec1 * 2 ^ 32; pages = 1; refused = 0 }) ≡ codes "lstint avgint rstr m v  count rport remote address\n    64      0    0 3 4      1   123 10.0.0.1\n"
unfolding client_line ip_text hex digits
once-report = refl

-- three arrivals in eleven seconds over the end of an era, the last of them just now
thrice-line : client_line (5 * 2 ^ 32) (record (arrived 0xfffffffa 5 3) { flags = 0x5d0 }) ≡ codes "     0      5  5d0 3 4      3   123 10.0.0.1\n"
unfolding client_line ip_text hex digits
thrice-line = refl

-- nothing is told of a client that arrives later than the last page was read, or whose first arrival is later than its last
earlier : seconds_after (0x83aa7e81 * 2 ^ 32) (0x83aa7e82 * 2 ^ 32) ≡ 0
earlier = refl

first-later : average_interval (arrived 7 6 2) ≡ 0
first-later = refl

-- half a second more or less
half-less : seconds_after (2 * 2 ^ 32) (2 ^ 31) ≡ 1
half-less = refl
