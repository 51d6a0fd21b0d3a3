-- Kinds of lines by their first words: our own rule, after the configuration of NTPsec.
use Rattle.std.specs.Prelude.{ℕ, ◌||◌, if◌then◌else◌, Bool, List, codes, bytes_eq, Option, Some, None}
use Rattle.conf_file.specs.declared.kinds.Kind.{Kind}
use Rattle.conf_file.specs.declared.kinds.Kind.TheVariants.{Listen, Server, Restrict, Limit, Mru, Keys, Local, Frequency, Ignored}

-- a line of this first word has no effect
abbrev pub is_ignored : List ℕ → Bool
is_ignored word =
    bytes_eq word (codes "driftfile") || bytes_eq word (codes "leapfile") || bytes_eq word (codes "logfile")
    || bytes_eq word (codes "logconfig") || bytes_eq word (codes "statsdir") || bytes_eq word (codes "statistics")
    || bytes_eq word (codes "filegen") || bytes_eq word (codes "tos") || bytes_eq word (codes "tinker")

-- the kind of a line by its first word
abbrev pub kind_of : List ℕ → Option Kind
kind_of word =
    if bytes_eq word (codes "listen") then Some Listen
    else (if bytes_eq word (codes "server") then Some Server
    else (if bytes_eq word (codes "restrict") then Some Restrict
    else (if bytes_eq word (codes "limit") then Some Limit
    else (if bytes_eq word (codes "mru") then Some Mru
    else (if bytes_eq word (codes "keys") then Some Keys
    else (if bytes_eq word (codes "local") then Some Local
    else (if bytes_eq word (codes "frequency") then Some Frequency
    else (if is_ignored word then Some Ignored
    else None))))))))
