-- Worked texts, prefixes and masks: by hand, and from RFC 5952.
use Rattle.std.proofs.Common.{◌≡◌, ◌≤◌, ℕ, List, [], ◌∷◌, Some, None, codes, refl, lit≤}
use Rattle.std.specs.Fmt.{digits}
use Rattle.std.specs.Net.Reader.{read_ipv4, read_ipv6, read_number, read_octet, read_segment, read_segments}
use Rattle.std.specs.Net.Text.{hex, hex_groups_text, longest_zero_run}
use Rattle.std.proofs.NetLemmas.Texts.{IsZeroRun, longest_zero_run_first}
use Rattle.net_addr.specs.declared.addr.Ip.TheVariants.{V4, V6}
use Rattle.net_addr.specs.Addresses.{number_of}
use Rattle.net_addr.specs.Prefixes.{IsMask, numbered, without_host_bits}
use Rattle.net_addr.specs.Readings.{addr_in, host_in}
use Rattle.net_addr.specs.Spelling.{ip_text, text_of}

loopback : text_of (record { ip = V4 (127 ∷ 0 ∷ 0 ∷ 1 ∷ []); port = 123 }) ≡ codes "127.0.0.1:123"
unfolding text_of ip_text digits
loopback = refl

greatest : text_of (record { ip = V4 (255 ∷ 255 ∷ 255 ∷ 255 ∷ []); port = 65535 }) ≡ codes "255.255.255.255:65535"
unfolding text_of ip_text digits
greatest = refl

loopback_v6 : text_of (record { ip = V6 (0 ∷ 0 ∷ 0 ∷ 0 ∷ 0 ∷ 0 ∷ 0 ∷ 0 ∷ 0 ∷ 0 ∷ 0 ∷ 0 ∷ 0 ∷ 0 ∷ 0 ∷ 1 ∷ []); port = 123 }) ≡ codes "[::1]:123"
unfolding text_of ip_text hex_groups_text hex digits
loopback_v6 = refl

-- RFC 5952, section 4.2.2: a single zero group is not shortened
single : ip_text (V6 (32 ∷ 1 ∷ 13 ∷ 184 ∷ 0 ∷ 0 ∷ 0 ∷ 1 ∷ 0 ∷ 1 ∷ 0 ∷ 1 ∷ 0 ∷ 1 ∷ 0 ∷ 1 ∷ [])) ≡ codes "2001:db8:0:1:1:1:1:1"
unfolding ip_text hex_groups_text hex
single = refl

-- section 4.2.3: of two longest runs the first is shortened
first_run : ip_text (V6 (32 ∷ 1 ∷ 13 ∷ 184 ∷ 0 ∷ 0 ∷ 0 ∷ 0 ∷ 0 ∷ 1 ∷ 0 ∷ 0 ∷ 0 ∷ 0 ∷ 0 ∷ 1 ∷ [])) ≡ codes "2001:db8::1:0:0:1"
unfolding ip_text hex_groups_text hex
first_run = refl

longest_run : ip_text (V6 (32 ∷ 1 ∷ 0 ∷ 0 ∷ 0 ∷ 0 ∷ 0 ∷ 1 ∷ 0 ∷ 0 ∷ 0 ∷ 0 ∷ 0 ∷ 0 ∷ 0 ∷ 1 ∷ [])) ≡ codes "2001:0:0:1::1"
unfolding ip_text hex_groups_text hex
longest_run = refl

-- section 4.3: digits are in lower case
lower_case : ip_text (V6 (32 ∷ 1 ∷ 13 ∷ 184 ∷ 0 ∷ 0 ∷ 0 ∷ 0 ∷ 0 ∷ 0 ∷ 0 ∷ 0 ∷ 0 ∷ 0 ∷ 171 ∷ 205 ∷ [])) ≡ codes "2001:db8::abcd"
unfolding ip_text hex_groups_text hex
lower_case = refl

-- our own rule: no dotted tail
mapped : ip_text (V6 (0 ∷ 0 ∷ 0 ∷ 0 ∷ 0 ∷ 0 ∷ 0 ∷ 0 ∷ 0 ∷ 0 ∷ 255 ∷ 255 ∷ 192 ∷ 0 ∷ 2 ∷ 1 ∷ [])) ≡ codes "::ffff:c000:201"
unfolding ip_text hex_groups_text hex
mapped = refl

unspecified : ip_text (V6 (0 ∷ 0 ∷ 0 ∷ 0 ∷ 0 ∷ 0 ∷ 0 ∷ 0 ∷ 0 ∷ 0 ∷ 0 ∷ 0 ∷ 0 ∷ 0 ∷ 0 ∷ 0 ∷ [])) ≡ codes "::"
unfolding ip_text hex_groups_text hex
unspecified = refl

-- section 4.2.3 as a rule: no run of zero groups is longer than the one that `::` stands for, and
-- none as long begins before it
longest_is_first : (groups : List ℕ) (start len : ℕ) → IsZeroRun groups start len → (len ≤ (longest_zero_run groups).1) × (len ≡ (longest_zero_run groups).1 → (longest_zero_run groups).0 ≤ start)
longest_is_first = longest_zero_run_first

cleared : without_host_bits 12 (V4 (172 ∷ 31 ∷ 255 ∷ 1 ∷ [])) ≡ V4 (172 ∷ 16 ∷ 0 ∷ 0 ∷ [])
unfolding number_of numbered
cleared = refl

all_cleared : without_host_bits 0 (V6 (255 ∷ 255 ∷ 0 ∷ 0 ∷ 0 ∷ 0 ∷ 0 ∷ 0 ∷ 0 ∷ 0 ∷ 0 ∷ 0 ∷ 0 ∷ 0 ∷ 0 ∷ 0 ∷ [])) ≡ V6 (0 ∷ 0 ∷ 0 ∷ 0 ∷ 0 ∷ 0 ∷ 0 ∷ 0 ∷ 0 ∷ 0 ∷ 0 ∷ 0 ∷ 0 ∷ 0 ∷ 0 ∷ 0 ∷ [])
unfolding number_of numbered
all_cleared = refl

mask : IsMask (V4 (255 ∷ 255 ∷ 240 ∷ 0 ∷ [])) 20
unfolding number_of
mask = (lit≤ tt, refl)

-- what is read of these texts; a port has 16 bits and no leading zeros
read_loopback : addr_in (codes "127.0.0.1:123") ≡ Some (record { ip = V4 (127 ∷ 0 ∷ 0 ∷ 1 ∷ []); port = 123 })
unfolding addr_in host_in read_ipv4 read_octet read_number digits
read_loopback = refl

read_loopback_v6 : addr_in (codes "[::1]:65535") ≡ Some (record { ip = V6 (0 ∷ 0 ∷ 0 ∷ 0 ∷ 0 ∷ 0 ∷ 0 ∷ 0 ∷ 0 ∷ 0 ∷ 0 ∷ 0 ∷ 0 ∷ 0 ∷ 0 ∷ 1 ∷ []); port = 65535 })
unfolding addr_in host_in read_ipv4 read_ipv6 read_octet read_segments read_segment read_number digits
read_loopback_v6 = refl

read_large_port : addr_in (codes "127.0.0.1:65536") ≡ None
unfolding addr_in host_in read_ipv4 read_octet read_number digits
read_large_port = refl

read_leading_zero : addr_in (codes "127.0.0.1:0123") ≡ None
unfolding addr_in host_in read_ipv4 read_octet read_number digits
read_leading_zero = refl
