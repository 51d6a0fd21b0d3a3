-- Octets are one reply, or none, and there is always one thing that the MAC of a packet shows.
use Rattle.std.proofs.Common.{◌≡◌, ℕ, ◌+◌, ◌⊎◌, inl, inr, List, [], ◌∷◌, Option, None, Some, take, drop, refl, sym, ap, subst, ◌∙◌, arith}
use Rattle.std.specs.Prelude.{IsSomeAnd}
use Rattle.std.proofs.lemmas.Bool.{cases_eq, cases_lt}
use Rattle.mac_keys.specs.Checks.{IsAuthentic}
use Rattle.mac_keys.specs.Digests.{digest_of}
use Rattle.mac_keys.specs.Tables.{key_of}
use Rattle.mac_keys.specs.declared.checking.Auth.{Auth}
use Rattle.mac_keys.specs.declared.checking.Auth.TheVariants.{Absent, Good, Bad}
use Rattle.mac_keys.specs.declared.keys.Key.{Key}
use Rattle.ntp_packet.specs.declared.leap_version_mode.TheConstants.{MODE_SERVER}
use Rattle.ntp_trailer.proofs.PacketLemmas.{judged-one}
use Rattle.ntp_trailer.specs.Authentic.{IsAuth, IsAuthenticMac}
use Rattle.ntp_trailer.specs.Packets.{IsWholePacket}
use Rattle.ntp_trailer.specs.declared.packet.JudgedPacket.{JudgedPacket}
use Rattle.ntp_trailer.specs.declared.packet.Packet.{Packet}
use Rattle.ntp_trailer.specs.declared.parts.Mac.{Mac}
use Rattle.ntp_trailer.specs.declared.parts.TheConstants.{KEY_ID_LEN}
use Rattle.ntp_trailer.specs.declared.parts.Trailer.{Trailer}
use Rattle.associations.specs.Judging.{early_fault_of}
use Rattle.associations.specs.Replies.{IsRead, IsReply, reading_fault_of}
use Rattle.associations.specs.declared.association.Association.{Association}
use Rattle.associations.specs.declared.judging.ReplyFault.{ReplyFault}
use Rattle.associations.specs.declared.judging.ReplyFault.TheVariants.{Malformed}

-- two texts are the same, or not
same_texts : (xs ys : List ℕ) → (xs ≡ ys) ⊎ ¬ (xs ≡ ys)
same_texts [] [] = inl refl
same_texts [] (y ∷ ys) = inr (λ is. cc)
same_texts (x ∷ xs) [] = inr (λ is. cc)
same_texts (x ∷ xs) (y ∷ ys) =
    elim (cases_eq x y) [
      | inl first ↦ elim (same_texts xs ys) [
        | inl rest ↦ inl (ap (λ z. z ∷ xs) first ∙ ap (λ zs. y ∷ zs) rest)
        | inr other ↦ inr (λ is. other cc)
      ]
      | inr other ↦ inr (λ is. other cc)
    ]

-- a digest is the key's, where there is one, or not
digests : (found : Option Key) (message given : List ℕ) → IsSomeAnd found (λ key. given ≡ digest_of key message) ⊎ ¬ (IsSomeAnd found (λ key. given ≡ digest_of key message))
digests None message given = inr (λ is. is)
digests (Some key) message given = same_texts given (digest_of key message)

-- a MAC is authentic under some key, or under none
mac_shows : (keys : List Key) (octets : List ℕ) (mac : Mac) → ((id : ℕ) × IsAuthenticMac keys octets mac id) ⊎ ((id : ℕ) → ¬ (IsAuthenticMac keys octets mac id))
mac_shows keys octets mac =
    elim (cases_lt KEY_ID_LEN mac.length) [
      | inl long ↦ elim (digests (key_of keys mac.id) (take mac.start octets) (drop (mac.start + KEY_ID_LEN) octets)) [
        | inl good ↦ inl (mac.id, (refl, long, good))
        | inr bad ↦ inr (λ id is. bad (subst (λ (n : ℕ). IsAuthentic keys n (take mac.start octets) (drop (mac.start + KEY_ID_LEN) octets)) (sym is.0) is.2))
      ]
      | inr short ↦ inr (λ id is. absurd (omega (arith, short, is.1)))
    ]

shows_by : (keys : List Key) (octets : List ℕ) (trailer : Trailer) (o : Option Mac) → trailer.mac ≡ o → (auth : Auth) × IsAuth keys octets trailer auth
shows_by keys octets trailer None is = (Absent, is)
shows_by keys octets trailer (Some mac) is =
    elim (mac_shows keys octets mac) [
      | inl good ↦ (Good good.0, subst (λ (o : Option Mac). IsSomeAnd o (λ m. IsAuthenticMac keys octets m good.0)) (sym is) good.1)
      | inr bad ↦ (Bad, (λ none. cc, λ id good. bad id (subst (λ (o : Option Mac). IsSomeAnd o (λ m. IsAuthenticMac keys octets m id)) is good)))
    ]

-- the MAC of a packet shows something, whether it is looked at or not
pub shows : (keys : List Key) (octets : List ℕ) (trailer : Trailer) → (auth : Auth) × IsAuth keys octets trailer auth
shows keys octets trailer = shows_by keys octets trailer trailer.mac refl

-- a server's packet is a reply, with what its MAC shows
pub reply_is : (keys : List Key) (octets : List ℕ) (packet : Packet) (auth : Auth) → IsWholePacket octets packet → packet.header.mode ≡ MODE_SERVER
    → IsAuth keys octets packet.trailer auth → IsReply keys octets (record { header = packet.header; auth = auth })
reply_is keys octets packet auth whole server shown =
    record { packet = record { trailer = packet.trailer; packet = whole; shown = shown }; server = server }

-- octets that are no server's packet are no reply
pub no_reply : (keys : List Key) (octets : List ℕ) → ((packet : Packet) → IsWholePacket octets packet → ¬ (packet.header.mode ≡ MODE_SERVER))
    → (reply : JudgedPacket) → ¬ (IsReply keys octets reply)
no_reply keys octets none reply is = none (record { header = reply.header; trailer = is.packet.trailer }) is.packet.packet is.server

pub no_reply_fault : (server : Association) (keys : List Key) (octets : List ℕ) → ((packet : Packet) → IsWholePacket octets packet → ¬ (packet.header.mode ≡ MODE_SERVER))
    → (reading : Option JudgedPacket) → IsRead keys octets reading → reading_fault_of server reading ≡ Some Malformed
no_reply_fault server keys octets none None is = refl
no_reply_fault server keys octets none (Some reply) is = absurd (no_reply keys octets none reply is)

-- an early fault of a server's packet is that of what is read, whatever its MAC shows
pub early_reading_fault : (server : Association) (keys : List Key) (octets : List ℕ) (packet : Packet) (fault : ReplyFault) → IsWholePacket octets packet
    → packet.header.mode ≡ MODE_SERVER → ((other : Packet) → IsWholePacket octets other → packet ≡ other)
    → early_fault_of server packet.header ≡ Some fault → (reading : Option JudgedPacket) → IsRead keys octets reading → reading_fault_of server reading ≡ Some fault
early_reading_fault server keys octets packet fault whole mode only some None is =
    let shown = shows keys octets packet.trailer in
    absurd (is (record { header = packet.header; auth = shown.0 }) (reply_is keys octets packet shown.0 whole mode shown.1))
early_reading_fault server keys octets packet fault whole mode only some (Some reply) is =
    let same : packet ≡ record { header = reply.header; trailer = is.packet.trailer } = only (record { header = reply.header; trailer = is.packet.trailer }) is.packet.packet in
    subst (λ (p : Packet). early_fault_of server p.header ≡ Some fault) same some

-- where a server's packet and what its MAC shows are each the only ones, this reply is read and no other
pub only_reply : (keys : List Key) (octets : List ℕ) (packet : Packet) (auth : Auth) → IsWholePacket octets packet → packet.header.mode ≡ MODE_SERVER
    → IsAuth keys octets packet.trailer auth → ((other : Packet) → IsWholePacket octets other → packet ≡ other)
    → ((other : Auth) → IsAuth keys octets packet.trailer other → auth ≡ other)
    → (reading : Option JudgedPacket) → IsRead keys octets reading → Some (record { header = packet.header; auth = auth }) ≡ reading
only_reply keys octets packet auth whole mode shown only shows_only None is =
    absurd (is (record { header = packet.header; auth = auth }) (reply_is keys octets packet auth whole mode shown))
only_reply keys octets packet auth whole mode shown only shows_only (Some reply) is = ap Some (judged-one keys octets packet auth only shows_only reply is.packet)
