use Rattle.std.proofs.Common.{◌≡◌, ◌≤◌, length, drop, reverse}
use Rattle.mrulist_reader.proofs.TableLemmas.{is_told, lasting}
use Rattle.mrulist_reader.specs.Knowing.{knows}
use Rattle.net_addr.specs.declared.addr.Ip.{Ip}
use Rattle.mrulist_reader.proofs.table.last_rows.Given as goal

abbrev pub invariant-loop-left : goal.invariant-loop-left
invariant-loop-left l = record {
  within : l.left ≤ length l.told;
  known : (ip : Ip) → knows l.known ip ≡ is_told (drop l.left l.told) ip;
  rows : reverse l.rows.items ≡ lasting (drop l.left l.told);
}

abbrev pub decreases-loop-left : goal.decreases-loop-left
decreases-loop-left l = l.left
