-- What the system's socket addresses say of ours.
use Rattle.std.specs.Prelude.{◌≡◌}
use Rattle.std.specs.Net.Addr.{MatchIp, embedded_segments, ipv4_octets, ipv6_octets, ipv6_segments}
use Rattle.std.specs.declared.net.ipv6_addr.Ipv6Addr.{Ipv6Addr}
use Rattle.std.specs.declared.net.ip_addr.IpAddr.{IpAddr}
use Rattle.std.specs.declared.net.ip_addr.IpAddr.TheVariants as System
use Rattle.net_addr.specs.declared.addr.Ip.{Ip}
use Rattle.net_addr.specs.declared.addr.Ip.TheVariants.{V4, V6}

-- the IP address that the system's has, by its octets
abbrev pub ip_in : IpAddr → Ip
ip_in (System.V4 ip) = V4 (ipv4_octets ip)
ip_in (System.V6 ip) = V6 (ipv6_octets ip)

-- the address b is the IPv4-mapped address of a (RFC 4291, section 2.5.5.2) where a is one of IPv4, and else a
abbrev pub IsMapped : IpAddr → IpAddr → Type 0
IsMapped a b =
    MatchIp a
    (λ v4. (v6 : Ipv6Addr) × (b ≡ System.V6 v6) × (ipv6_segments v6 ≡ embedded_segments 0xffff v4))
    (λ _. b ≡ a)
