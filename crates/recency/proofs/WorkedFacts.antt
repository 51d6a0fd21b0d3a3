-- Our constants by their numbers, and worked values of the client list: ages of exactly the limits and one unit below them, by hand.
use Rattle.std.proofs.Common.{◌≡◌, ◌≤◌, ◌*◌, ◌-◌, ◌+◌, ℕ, arith, List, [], ◌∷◌, Some, None, refl}
use Rattle.net_addr.specs.declared.addr.Ip.{Ip}
use Rattle.net_addr.specs.declared.addr.Ip.TheVariants.{V4, V6}
use Rattle.access_rules.specs.declared.rate.Rate.{Rate}
use Rattle.recency.specs.declared.limits.Limits.{Limits}
use Rattle.recency.specs.declared.limits.TheConstants.{MAX_AGE, MAX_DEPTH, PLAIN_MAXAGE, PLAIN_MAXDEPTH, PLAIN_MINAGE, PLAIN_MINDEPTH}
use Rattle.recency.specs.declared.row.Row.{Row}
use Rattle.recency.specs.declared.visit.Visit.{Visit}
use Rattle.recency.specs.declared.visit.Touched.TheVariants.{Added, Replaced, Untracked}
use Rattle.recency.specs.Arrivals.{touch_answer, touched_rows}
use Rattle.recency.specs.Rows.{find_row, newer, newest, told_rows}
use Rattle.recency.specs.Sweeps.{swept_rows}

MAX_DEPTH-is : MAX_DEPTH ≡ 16384
MAX_DEPTH-is = refl

MAX_AGE-is : MAX_AGE ≡ 2147483647
MAX_AGE-is = refl

PLAIN_MINDEPTH-is : PLAIN_MINDEPTH ≡ 600
PLAIN_MINDEPTH-is = refl

PLAIN_MAXDEPTH-is : PLAIN_MAXDEPTH ≡ 1024
PLAIN_MAXDEPTH-is = refl

PLAIN_MINAGE-is : PLAIN_MINAGE ≡ 64
PLAIN_MINAGE-is = refl

PLAIN_MAXAGE-is : PLAIN_MAXAGE ≡ 3600
PLAIN_MAXAGE-is = refl

-- whole seconds in 32.32
abbrev seconds : ℕ → ℕ
seconds n = n * 4294967296

abbrev host : ℕ → Ip
host n = V4 (10 ∷ 0 ∷ 0 ∷ n ∷ [])

-- 60 arrivals a minute, 4 at once
abbrev rate : Rate
rate = record { average = 60; burst = 4; spacing = 8589934592 }

abbrev visit : ℕ → Visit
visit n = record { ip = host n; port = 123; mv = 35; flags = 0; rate = rate }

abbrev row : ℕ → ℕ → ℕ → ℕ → ℕ → Row
row n first last count score = record { ip = host n; port = 123; first = first; last = last; count = count; mv = 35; flags = 0; score = score; told = None }

-- two clients, which arrived at 1 and 2 seconds
abbrev two : List Row
two = row 1 (seconds 1) (seconds 1) 1 60000 ∷ row 2 (seconds 2) (seconds 2) 1 60000 ∷ []

-- at most 2 rows, from 64 seconds of age, and above mindepth up to 3600
abbrev limits : (mindepth : ℕ) → mindepth ≤ 2 → Limits
limits mindepth within = record { mindepth = mindepth; maxdepth = 2; minage = seconds 64; maxage = seconds 3600; some = omega arith; most = omega arith; depths = within; ages = omega arith }

abbrev none : Limits
none = limits 0 (omega arith)

abbrev one : Limits
one = limits 1 (omega arith)

-- an empty list takes anybody
empty_adds : touch_answer none [] (visit 1) 0 ≡ Added
empty_adds = refl

-- a full one takes nobody before its oldest row has the least age
youth_stays : touch_answer none two (visit 3) (seconds 65 - 1) ≡ Untracked
youth_stays = refl

youth_kept : touched_rows none two (visit 3) (seconds 65 - 1) ≡ two
youth_kept = refl

-- and takes the place of the oldest then
age_goes : touch_answer none two (visit 3) (seconds 65) ≡ Replaced (host 1)
age_goes = refl

age_gone : touched_rows none two (visit 3) (seconds 65) ≡ row 2 (seconds 2) (seconds 2) 1 60000 ∷ row 3 (seconds 65) (seconds 65) 1 60000 ∷ []
age_gone = refl

-- below maxdepth a row of the greatest age goes, and a younger one stays
old_goes : touch_answer none (row 1 (seconds 1) (seconds 1) 1 60000 ∷ []) (visit 3) (seconds 3601) ≡ Replaced (host 1)
old_goes = refl

younger_stays : touch_answer none (row 1 (seconds 1) (seconds 1) 1 60000 ∷ []) (visit 3) (seconds 3601 - 1) ≡ Added
younger_stays = refl

-- below mindepth none goes
few_stay : touch_answer (limits 2 (omega arith)) (row 1 (seconds 1) (seconds 1) 1 60000 ∷ []) (visit 3) (seconds 9999) ≡ Added
few_stay = refl

-- a known client moves to the end, with the scores of 5 arrivals 1 unit apart: nothing leaks
known_moves : touched_rows none two (visit 1) (seconds 2 + 1) ≡ row 2 (seconds 2) (seconds 2) 1 60000 ∷ row 1 (seconds 1) (seconds 2 + 1) 2 60000 ∷ []
known_moves = refl

fifth_arrival : touched_rows none (row 1 (seconds 1) (seconds 1 + 3) 4 240000 ∷ []) (visit 1) (seconds 1 + 4) ≡ row 1 (seconds 1) (seconds 1 + 4) 5 300000 ∷ []
fifth_arrival = refl

-- three seconds less 5 units leak 179,999
seventh_arrival : touched_rows none (row 1 (seconds 1) (seconds 1 + 5) 6 360000 ∷ []) (visit 1) (seconds 4) ≡ row 1 (seconds 1) (seconds 4) 7 240001 ∷ []
seventh_arrival = refl

-- a count stays at the greatest one
count_stays : touched_rows none (row 1 0 (seconds 1) 4294967295 0 ∷ []) (visit 1) (seconds 61) ≡ row 1 0 (seconds 61) 4294967295 60000 ∷ []
count_stays = refl

-- a sweep drops what has the greatest age, down to mindepth
sweep_spares : swept_rows none two (seconds 3601 - 1) ≡ two
sweep_spares = refl

sweep_drops : swept_rows none two (seconds 3601) ≡ row 2 (seconds 2) (seconds 2) 1 60000 ∷ []
sweep_drops = refl

sweep_empties : swept_rows none two (seconds 3602) ≡ []
sweep_empties = refl

sweep_ends : swept_rows one two (seconds 9999) ≡ row 2 (seconds 2) (seconds 2) 1 60000 ∷ []
sweep_ends = refl

-- an arrival after the moment has no age
sweep_waits : swept_rows none two 0 ≡ two
sweep_waits = refl

-- the row after one is the next arrival's; none is after the newest
next_is : newer two (Some (host 1)) ≡ Some (row 2 (seconds 2) (seconds 2) 1 60000)
next_is = refl

next_ends : newer two (Some (host 2)) ≡ None
next_ends = refl

first_is : newer two None ≡ Some (row 1 (seconds 1) (seconds 1) 1 60000)
first_is = refl

-- the families are apart: this address has the first octets of 10.0.0.1
other_family : find_row two (V6 (10 ∷ 0 ∷ 0 ∷ 1 ∷ 0 ∷ 0 ∷ 0 ∷ 0 ∷ 0 ∷ 0 ∷ 0 ∷ 0 ∷ 0 ∷ 0 ∷ 0 ∷ 0 ∷ [])) ≡ None
other_family = refl

-- who is told keeps all else
told_keeps : told_rows two (host 1) 7 ≡ record (row 1 (seconds 1) (seconds 1) 1 60000) { told = Some 7 } ∷ row 2 (seconds 2) (seconds 2) 1 60000 ∷ []
told_keeps = refl

newest_is : newest two ≡ Some (row 2 (seconds 2) (seconds 2) 1 60000)
newest_is = refl
