use Rattle.std.proofs.Common.{◌≡◌, ◌++◌, ◌⊎◌, [], length, sym, subst, ◌∙◌, append_assoc, rules}
use Rattle.byteorder.specs.Endian.{big_bytes}
use Rattle.mac_keys.specs.Digests.{digest_of}
use Rattle.ntp_trailer.specs.Trailers.{IsTrailer}
use Rattle.ntp_trailer.specs.Authentic.{spelled_mac}
use Rattle.ntp_trailer.proofs.AuthenticLemmas.{IsTrailer-spelled_mac}
use Rattle.ntp_trailer.proofs.appending.append_mac.Goals as goal

pub returns-clause-read_back : goal.returns-clause-read_back
returns-clause-read_back c header =
    let key = c.args.key.now in
    let octets = c.args.packet.now in
    let made : c.digest-made.result ≡ digest_of key octets = search rules in
    let digest : c.as_slice-2.result.now ≡ digest_of key octets = c.as_slice-2.ensures.same ∙ made in
    let sizes : (length (digest_of key octets) ≡ 16) ⊎ (length (digest_of key octets) ≡ 20) =
    subst (λ digest. (length digest ≡ 16) ⊎ (length digest ≡ 20)) made c.as_slice-2.ensures.length in
    let spelled : c.put-2.new.self ≡ octets ++ spelled_mac key octets =
    c.put-2.ensures
    ∙ (λ i. c.put.ensures i ++ digest i)
    ∙ (λ i. (octets ++ c.id_octets.ensures i) ++ digest_of key octets)
    ∙ append_assoc octets (big_bytes 4 key.id) (digest_of key octets) in
    subst (λ packet. IsTrailer packet [] (spelled_mac key octets)) (sym spelled) (IsTrailer-spelled_mac key octets sizes header)
