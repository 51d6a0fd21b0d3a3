-- Servers as lines name them: our own words.
use Rattle.std.specs.Prelude.{ℕ}
use Rattle.access_rules.specs.declared.servers.ServerLine.{ServerLine}
use Rattle.net_addr.specs.declared.addr.Addr.{Addr}

-- an upstream server: its address, the id of its key, where 0 is none, and its poll exponent
pub record ServerWords : Type 0 where
  pub addr : Addr
  pub key : ℕ
  pub poll : ℕ

-- the words of a server's line
abbrev pub words_of_server : ServerLine → ServerWords
words_of_server line = record { addr = line.addr; key = line.key; poll = line.poll }
