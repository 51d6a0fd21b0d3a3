use Rattle.std.proofs.Common.{◌≡◌, ◌∙◌, ◌+◌, sym, ap, length, rules}
use Rattle.std.specs.Net.Addr.{ipv6_segments, octets_of}
use Rattle.std.proofs.NetLemmas.Arrays.{eight_items}
use Rattle.net_addr.proofs.GroupLemmas.{AllSegments, All-octets_of, eight_segments, length-octets_of, segments_of-octets_of}
use Rattle.net_addr.proofs.ip_reader.octets_of.Goals as goal

pub returns-clause-segments : goal.returns-clause-segments
returns-clause-segments c =
    let eight : length c.args.segments ≡ 8 = search rules in
    let fits : AllSegments (ipv6_segments c.new.result) = rw c.new.ensures (eight_segments _ _ _ _ _ _ _ _ c.element_fits.fits c.element_fits2.fits c.element_fits3.fits c.element_fits4.fits c.element_fits5.fits c.element_fits6.fits c.element_fits7.fits c.element_fits8.fits) in
    rw c.octets.ensures (segments_of-octets_of (ipv6_segments c.new.result) fits ∙ c.new.ensures ∙ sym (eight_items c.args.segments eight))

pub returns-clause-fits : goal.returns-clause-fits
returns-clause-fits c =
    let fits : AllSegments (ipv6_segments c.new.result) = rw c.new.ensures (eight_segments _ _ _ _ _ _ _ _ c.element_fits.fits c.element_fits2.fits c.element_fits3.fits c.element_fits4.fits c.element_fits5.fits c.element_fits6.fits c.element_fits7.fits c.element_fits8.fits) in
    let sixteen : length (octets_of (ipv6_segments c.new.result)) ≡ 16 = length-octets_of (ipv6_segments c.new.result) ∙ ap (λ segments. length segments + length segments) c.new.ensures in
    rw c.octets.ensures (sixteen, All-octets_of (ipv6_segments c.new.result) fits)
