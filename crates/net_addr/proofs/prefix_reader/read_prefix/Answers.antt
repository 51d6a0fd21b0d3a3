use Rattle.std.proofs.Common.{◌≡◌, ◌∙◌, Some, ap, refl, sym}
use Rattle.net_addr.specs.Prefixes.{without_host_bits}
use Rattle.net_addr.proofs.PrefixLemmas.{prefix-one, some-parts}
use Rattle.net_addr.proofs.prefix_reader.read_prefix.Goals as goal

pub returns-in-Some-clause-only : goal.returns-in-Some-clause-only
returns-in-Some-clause-only c = λ prefix spelled.
    let read = c.bits_in.ensures.only spelled.0 prefix.length spelled.1 spelled.2 in
    let (ip, length) = some-parts c.in-Some.ip spelled.0 c.in-Some.length prefix.length (sym c.in-Some.is ∙ read) in
    let cleared : without_host_bits c.in-Some.length c.in-Some.ip ≡ without_host_bits prefix.length spelled.0 = λ i. without_host_bits (length i) (ip i) in
    ap Some (prefix-one c.prefix_of.result prefix (c.prefix_of.ensures.ip ∙ cleared ∙ sym spelled.3) (c.prefix_of.ensures.length ∙ length))

pub returns-in-Some-clause-none : goal.returns-in-Some-clause-none
returns-in-Some-clause-none c = (λ some. cc, λ none. absurd (none c.in-Some.ip c.in-Some.length c.in-Some.ensures.fits.0 c.in-Some.ensures.found))

pub returns-in-None-clause-only : goal.returns-in-None-clause-only
returns-in-None-clause-only c = λ prefix spelled.
    let read = c.bits_in.ensures.only spelled.0 prefix.length spelled.1 spelled.2 in cc

pub returns-in-None-clause-none : goal.returns-in-None-clause-none
returns-in-None-clause-none c = (λ _ ip length fits named. let read = c.bits_in.ensures.only ip length fits named in cc, λ _. refl)
