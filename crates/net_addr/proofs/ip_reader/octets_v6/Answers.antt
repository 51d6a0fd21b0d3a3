use Rattle.std.proofs.Common.{◌≡◌, Some, ap, ◌∙◌}
use Rattle.std.specs.Net.Addr.{ipv6_segments, segments_of}
use Rattle.net_addr.proofs.SpellingLemmas.{colon_hex-one, segments_of-one}
use Rattle.net_addr.proofs.ip_reader.octets_v6.Goals as goal

pub returns-in-Ok-clause-found : goal.returns-in-Ok-clause-found
returns-in-Ok-clause-found c = rw (c.octets_of.ensures.segments, c.segments.ensures) c.in-Ok.ensures

pub returns-in-Ok-clause-only : goal.returns-in-Ok-clause-only
returns-in-Ok-clause-only c = λ octets fits h.
    let same : segments_of c.octets_of.result ≡ segments_of octets = c.octets_of.ensures.segments ∙ c.segments.ensures ∙ colon_hex-one c.args.text.now (ipv6_segments c.in-Ok.ip) (segments_of octets) c.in-Ok.ensures h in
    ap Some (segments_of-one c.octets_of.result octets c.octets_of.ensures.fits fits same)

pub returns-in-Err-clause-only : goal.returns-in-Err-clause-only
returns-in-Err-clause-only c = λ octets fits h. absurd (c.in-Err.ensures (record { segments = segments_of octets }) h)
