-- Which addresses a set has: our own words.
use Rattle.std.specs.Prelude.{Bool}
use Rattle.std.specs.BTreeSet.{contains}
use Rattle.std.specs.Cmp.Lexicographic.{slice_cmp}
use Rattle.std.specs.Ordering.{nat_cmp}
use Rattle.mrulist_reader.specs.declared.known.Known.{Known}
use Rattle.net_addr.specs.declared.addr.Ip.{Ip}
use Rattle.net_addr.specs.declared.addr.Ip.TheVariants.{V4, V6}

-- a set of addresses has this one
abbrev pub knows : Known → Ip → Bool
knows known (V4 octets) = contains (slice_cmp nat_cmp) known.v4 octets
knows known (V6 octets) = contains (slice_cmp nat_cmp) known.v6 octets
