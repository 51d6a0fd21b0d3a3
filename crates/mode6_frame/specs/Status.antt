-- The status words: how their 16 bits are divided (RFC 9327, section 3, figure 2).
use Rattle.std.specs.Prelude.{ℕ, ◌+◌, ◌*◌, ◌^◌, ◌<◌}
use Rattle.std.specs.Int.{from_bool}
use Rattle.mode6_frame.specs.declared.status.SystemStatus.{SystemStatus}
use Rattle.mode6_frame.specs.declared.status.PeerStatus.{PeerStatus}

-- the system status word: the leap indicator in 2 bits, the clock source in 6, the event counter in 4 and the
-- event code in 4 (section 3.1)
abbrev pub system_status_word : SystemStatus → ℕ
system_status_word s = s.leap * 2 ^ 14 + s.source * 2 ^ 8 + s.events * 2 ^ 4 + s.code

-- each part of a system status has the width that its bits have
pub record FitsSystemStatus (s : SystemStatus) : Type 0 where
  pub leap : s.leap < 2 ^ 2
  pub source : s.source < 2 ^ 6
  pub events : s.events < 2 ^ 4
  pub code : s.code < 2 ^ 4

-- the status bits of a peer, table 5's from the highest on: configured, authentication wanted, authentic,
-- reachable, broadcast
abbrev pub peer_bits : PeerStatus → ℕ
peer_bits p =
    from_bool p.configured * 2 ^ 4 + from_bool p.keyed * 2 ^ 3 + from_bool p.authentic * 2 ^ 2
    + from_bool p.reachable * 2 + from_bool p.broadcast

-- the peer status word: the status bits, the selection in 3 bits, the event counter in 4 and the event code in 4
-- (section 3.2)
abbrev pub peer_status_word : PeerStatus → ℕ
peer_status_word p = peer_bits p * 2 ^ 11 + p.selection * 2 ^ 8 + p.events * 2 ^ 4 + p.code

-- each part of a peer status has the width that its bits have
pub record FitsPeerStatus (p : PeerStatus) : Type 0 where
  pub selection : p.selection < 2 ^ 3
  pub events : p.events < 2 ^ 4
  pub code : p.code < 2 ^ 4

-- the error status word: the code in the high octet, and nothing in the low one (section 3.4)
abbrev pub error_status_word : ℕ → ℕ
error_status_word code = code * 2 ^ 8
