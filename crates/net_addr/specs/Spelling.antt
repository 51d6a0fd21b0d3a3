-- The texts of addresses: dotted decimal, the text of RFC 5952, and ports beside them.
use Rattle.std.specs.Prelude.{◌≡◌, ℕ, ◌⊎◌, ◌≤◌, List, ◌++◌, codes, decimal}
use Rattle.std.specs.Net.Addr.{segments_of}
use Rattle.std.specs.Net.Text.{ipv4_text, hex_groups_text}
use Rattle.std.specs.Net.Grammar.{IsDotted, IsColonHex}
use Rattle.net_addr.specs.declared.addr.Addr.{Addr}
use Rattle.net_addr.specs.declared.addr.Ip.{Ip}
use Rattle.net_addr.specs.declared.addr.Ip.TheVariants.{V4, V6}
use Rattle.net_addr.specs.declared.prefix.Prefix.{Prefix}
pub use Rattle.net_addr.specs.Addresses.{IsIp, IsAddr}
use Rattle.net_addr.specs.Addresses.{bits_of}
use Rattle.net_addr.specs.Prefixes.{without_host_bits}

-- The text of an IP address: for IPv4 its octets in decimal, joined by points; for IPv6 that of
-- RFC 5952, section 4, for every address (our own rule: no address is written with a dotted tail).
unfoldable pub ip_text : Ip → List ℕ
ip_text (V4 octets) = ipv4_text octets
ip_text (V6 octets) = hex_groups_text (segments_of octets)

-- the text of an IP address as it stands before a port: IPv6 is in brackets (RFC 5952, section 6)
abbrev pub before_port : Ip → List ℕ → List ℕ
before_port (V4 octets) text = text
before_port (V6 octets) text = codes "[" ++ text ++ codes "]"

-- the text of an address: that of its IP address, a colon, and its port in decimal
unfoldable pub text_of : Addr → List ℕ
text_of a = before_port a.ip (ip_text a.ip) ++ codes ":" ++ decimal a.port

-- The text spells this IP address. IPv4: four decimal numbers without leading zeros. IPv6: eight
-- groups of one to four hexadecimal digits of either case, where one `::` may stand for one zero
-- group or more, and the last two groups may be in dotted decimal (RFC 4291, section 2.2).
abbrev pub SpellsIp : List ℕ → Ip → Type 0
SpellsIp text (V4 octets) = IsDotted text octets
SpellsIp text (V6 octets) = IsColonHex text (segments_of octets)

-- the text spells this IP address as it stands before a port
abbrev pub SpellsHost : List ℕ → Ip → Type 0
SpellsHost text ip = (inner : List ℕ) × SpellsIp inner ip × (text ≡ before_port ip inner)

-- The text spells this address with its port, which is in decimal without leading zeros, since
-- `decimal` writes each number in one way.
abbrev pub Spells : List ℕ → Addr → Type 0
Spells text a =
    (host : List ℕ) × SpellsHost host a.ip × (text ≡ host ++ codes ":" ++ decimal a.port)

-- The text stands for this address: it spells it, or its IP address without a port, which is then
-- `port`. Without a port IPv6 may be in brackets or not.
abbrev pub StandsFor : List ℕ → ℕ → Addr → Type 0
StandsFor text port a =
    Spells text a ⊎ ((SpellsIp text a.ip ⊎ SpellsHost text a.ip) × (a.port ≡ port))

-- The text names the first `length` bits of this IP address: it spells the address, a slash and
-- the length in decimal without leading zeros, or the address alone, whose length is all its bits
-- (RFC 4632, section 3.1; RFC 4291, section 2.3).
abbrev pub NamesBits : List ℕ → Ip → ℕ → Type 0
NamesBits text ip length =
    (SpellsIp text ip × (length ≡ bits_of ip))
    ⊎ ((front : List ℕ) × SpellsIp front ip × (length ≤ bits_of ip)
    × (text ≡ front ++ codes "/" ++ decimal length))

-- the text spells this prefix: host bits that it has are cleared
abbrev pub SpellsPrefix : List ℕ → Prefix → Type 0
SpellsPrefix text prefix =
    (ip : Ip) × IsIp ip × NamesBits text ip prefix.length
    × (prefix.ip ≡ without_host_bits prefix.length ip)
