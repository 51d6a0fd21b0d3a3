-- What the datagrams that a number draws are classed as, whatever the keys and the context.
use Rattle.std.proofs.Common.{◌≡◌, ◌≢◌, ℕ, ◌^◌, ◌<◌, ◌++◌, inl, inr, false, List, [], ◌∷◌, length, None, Some, refl, sym, ◌∙◌, ap, arith, length-append, length-drop}
use Rattle.std.specs.List.{concat}
use Rattle.mac_keys.specs.declared.keys.Key.{Key}
use Rattle.mode6_frame.specs.Frames.{FrameParts, IsFrame, frame_fault_of}
use Rattle.mode6_frame.specs.Places.{frame_at}
use Rattle.mode6_frame.specs.declared.operations.TheConstants.{OP_READ_MRU, OP_READ_VARIABLES}
use Rattle.mode6_frame.proofs.FrameLemmas.{frame_at-frame}
use Rattle.net_addr.specs.declared.addr.Addr.{Addr}
use Rattle.ntp_packet.specs.FirstOctet.{mode_of}
use Rattle.ntp_packet.specs.Packet.{IsPacket, fault_of}
use Rattle.ntp_packet.specs.declared.leap_version_mode.TheConstants.{MODE_CLIENT, MODE_CONTROL}
use Rattle.ntp_packet.specs.declared.packet.Header.{Header}
use Rattle.ntp_packet.specs.declared.packet.PacketFault.TheVariants.{Short}
use Rattle.ntp_packet.specs.declared.packet.TheConstants.{HEADER_LEN}
use Rattle.ntp_packet.proofs.Spelling.{fault_of-packet}
use Rattle.ntp_trailer.specs.Trailers.{AreFields, IsDivision, IsRefused}
use Rattle.ntp_trailer.specs.declared.parts.TrailerFault.{TrailerFault}
use Rattle.ntp_trailer.specs.declared.parts.TrailerFault.TheVariants.{Ragged, FieldShort, FieldLong, BadRemainder}
use Rattle.server_core.specs.Class.{IsClass}
use Rattle.server_core.specs.Control.{has_answer_bit}
use Rattle.server_core.specs.declared.class.Ask.{Ask}
use Rattle.server_core.specs.declared.class.Class.{Class}
use Rattle.server_core.specs.declared.class.Class.TheVariants.{Silent, Time, Look, Read}
use Rattle.server_core.specs.declared.class.Unheard.{Unheard}
use Rattle.server_core.specs.declared.class.Unheard.TheVariants.{Packet, Trailer, Frame, Unserved, NotRequest, BadNonce}
use Rattle.server_core.proofs.ControlLemmas.{frame_mode}
use Rattle.sys_vars.specs.declared.asked.Asked.{Asked}
use Rattle.sys_vars.specs.declared.context.Context.{Context}
use Rattle.drawn_session.specs.Datagrams.{control_octets, cut_octets, request_octets}

-- octets of no length are none
no-octets : (octets : List ℕ) → length octets ≡ 0 → octets ≡ []
no-octets [] none = refl
no-octets (octet ∷ octets) none = absurd (omega arith)

-- no fields stand in no octets
no-fields : (fields : List (List ℕ)) (remainder : List ℕ) → length (concat fields ++ remainder) ≡ 0 → AreFields fields remainder → fields ≡ []
no-fields [] remainder none are = refl
no-fields (field ∷ fields) remainder none are =
    absurd (omega (arith, are.0.allowed, length-append field (concat fields), length-append (field ++ concat fields) remainder))

-- behind a header alone stand no octets
nothing-behind : (octets : List ℕ) (fields : List (List ℕ)) (remainder : List ℕ) → length octets ≡ HEADER_LEN → IsDivision octets fields remainder → length (concat fields ++ remainder) ≡ 0
nothing-behind octets fields remainder alone is = omega (arith, alone, ap length is.joined, length-drop HEADER_LEN octets)

-- so there is no remainder
no-remainder : (octets : List ℕ) (fields : List (List ℕ)) (remainder : List ℕ) → length octets ≡ HEADER_LEN → IsDivision octets fields remainder → length remainder ≡ 0
no-remainder octets fields remainder alone is =
    omega (arith, nothing-behind octets fields remainder alone is, length-append (concat fields) remainder)

-- a header alone has no fault behind it
no-trailer_fault : (octets : List ℕ) (fault : TrailerFault) → length octets ≡ HEADER_LEN → ¬ (IsRefused octets fault)
no-trailer_fault octets Ragged alone refused = absurd (refused (omega (arith, alone, length-drop HEADER_LEN octets)))
no-trailer_fault octets FieldShort alone (words, stops) =
    absurd (omega (arith, stops.wrong.0, no-remainder octets stops.fields stops.remainder alone stops.division))
no-trailer_fault octets FieldLong alone (words, stops) =
    absurd (omega (arith, stops.wrong.0, no-remainder octets stops.fields stops.remainder alone stops.division))
no-trailer_fault octets BadRemainder alone (words, stops) =
    absurd (stops.wrong.1 (inl (
      no-octets stops.remainder (no-remainder octets stops.fields stops.remainder alone stops.division),
      no-fields stops.fields stops.remainder (nothing-behind octets stops.fields stops.remainder alone stops.division) stops.division.are_fields,
    )))

-- a request for the time has the mode of a client
request-mode : (transmit : ℕ) → mode_of (request_octets transmit) ≡ MODE_CLIENT
request-mode transmit = refl

-- its version and mode are a packet's
request-fault : (transmit : ℕ) → fault_of (request_octets transmit) ≡ None
request-fault transmit = refl

-- it is a header alone
request-alone : (transmit : ℕ) → length (request_octets transmit) ≡ HEADER_LEN
request-alone transmit = refl

-- it is no control message
request-control : (transmit : ℕ) (f : FrameParts) → ¬ (IsFrame (request_octets transmit) f)
request-control transmit f is =
    let control : mode_of (request_octets transmit) ≡ MODE_CONTROL = frame_mode (request_octets transmit) f is in
    absurd (omega (arith, sym (request-mode transmit) ∙ control))

-- a request for the time is classed as one, from its sender
pub time-class : (transmit : ℕ) (from : Addr) (keys : List Key) (context : Context) (class : Class) → transmit < 2 ^ 64
    → IsClass (request_octets transmit) from keys context class → (ask : Ask) × (class ≡ Time ask) × (ask.from ≡ from)
time-class transmit from keys context (Time ask) fits is = (ask, refl, is.is.from_is)
time-class transmit from keys context (Silent (Packet number)) fits (inl empty) = absurd (cc (empty.0))
time-class transmit from keys context (Silent (Packet number)) fits (inr (client, (fault, refused, number_is))) =
    absurd (cc (request-fault transmit, refused))
time-class transmit from keys context (Silent (Trailer number)) fits (client, (fault, (begins, refused), number_is)) =
    absurd (no-trailer_fault (request_octets transmit) fault (request-alone transmit) refused)
time-class transmit from keys context (Silent (Frame number)) fits is = absurd (omega (arith, sym (request-mode transmit) ∙ is.0))
time-class transmit from keys context (Silent (Unserved mode)) fits is = absurd (is.2 (is.1 ∙ request-mode transmit))
time-class transmit from keys context (Silent NotRequest) fits (f, frame, answer) = absurd (request-control transmit f frame)
time-class transmit from keys context (Silent BadNonce) fits (f, request, its) = absurd (request-control transmit f request.frame)
time-class transmit from keys context (Look asked) fits (f, request, its) = absurd (request-control transmit f request.frame)
time-class transmit from keys context (Read ask) fits (f, request, its) = absurd (request-control transmit f request.frame)

-- a request that is cut short has the mode of a client
cut-mode : mode_of cut_octets ≡ MODE_CLIENT
cut-mode = refl

-- it is too short for a header
cut-fault : fault_of cut_octets ≡ Some Short
cut-fault = refl

cut-packet : (h : Header) → ¬ (IsPacket cut_octets h)
cut-packet h is = absurd (cc (cut-fault, fault_of-packet cut_octets h is))

-- and no control message
cut-control : (f : FrameParts) → ¬ (IsFrame cut_octets f)
cut-control f is =
    let control : mode_of cut_octets ≡ MODE_CONTROL = frame_mode cut_octets f is in
    absurd (omega (arith, sym cut-mode ∙ control))

-- a request that is cut short is not heard
pub cut-class : (from : Addr) (keys : List Key) (context : Context) (class : Class)
    → IsClass cut_octets from keys context class → (why : Unheard) × (class ≡ Silent why)
cut-class from keys context (Silent why) is = (why, refl)
cut-class from keys context (Time ask) is = absurd (cut-packet is.judged.header is.packet.packet.begins)
cut-class from keys context (Look asked) (f, request, its) = absurd (cut-control f request.frame)
cut-class from keys context (Read ask) (f, request, its) = absurd (cut-control f request.frame)

-- a control request has the mode of control messages
control-mode : (sequence : ℕ) → mode_of (control_octets sequence) ≡ MODE_CONTROL
control-mode sequence = refl

-- it is a whole control message
control-fault : (sequence : ℕ) → frame_fault_of (control_octets sequence) ≡ None
control-fault sequence = refl

-- it has no bit of an answer, and reads variables
control-bits : (sequence : ℕ) → has_answer_bit (frame_at (control_octets sequence)) ≡ false
unfolding frame_at
control-bits sequence = refl

control-opcode : (sequence : ℕ) → (frame_at (control_octets sequence)).opcode ≡ OP_READ_VARIABLES
unfolding frame_at
control-opcode sequence = refl

-- what it spells is a request
control-request : (sequence : ℕ) (f : FrameParts) → IsFrame (control_octets sequence) f → has_answer_bit f ≡ false
control-request sequence f is =
    ap (λ (g : FrameParts). has_answer_bit g) (sym (frame_at-frame (control_octets sequence) f is)) ∙ control-bits sequence

-- and no read of the client list
control-list : (sequence : ℕ) (f : FrameParts) → IsFrame (control_octets sequence) f → f.opcode ≢ OP_READ_MRU
control-list sequence f is list =
    let variables : f.opcode ≡ OP_READ_VARIABLES =
    ap (λ (g : FrameParts). g.opcode) (sym (frame_at-frame (control_octets sequence) f is)) ∙ control-opcode sequence in
    absurd (omega (arith, sym variables ∙ list))

-- it is of no other mode
control-client : (sequence : ℕ) → mode_of (control_octets sequence) ≢ MODE_CLIENT
control-client sequence client = absurd (omega (arith, sym (control-mode sequence) ∙ client))

-- a control request for variables is classed as one
pub control-class : (sequence : ℕ) (from : Addr) (keys : List Key) (context : Context) (class : Class) → sequence < 2 ^ 16
    → IsClass (control_octets sequence) from keys context class → (asked : Asked) × (class ≡ Look asked)
control-class sequence from keys context (Look asked) fits is = (asked, refl)
control-class sequence from keys context (Time ask) fits is = absurd (control-client sequence is.client)
control-class sequence from keys context (Read ask) fits (f, request, its) = absurd (control-list sequence f request.frame its.are.reads)
control-class sequence from keys context (Silent (Packet number)) fits (inl empty) = absurd (cc (empty.0))
control-class sequence from keys context (Silent (Packet number)) fits (inr is) = absurd (control-client sequence is.0)
control-class sequence from keys context (Silent (Trailer number)) fits is = absurd (control-client sequence is.0)
control-class sequence from keys context (Silent (Frame number)) fits (control, (fault, refused, number_is)) =
    absurd (cc (control-fault sequence, refused))
control-class sequence from keys context (Silent (Unserved mode)) fits is = absurd (is.3 (is.1 ∙ control-mode sequence))
control-class sequence from keys context (Silent NotRequest) fits (f, frame, answer) =
    absurd (cc (control-request sequence f frame, answer))
control-class sequence from keys context (Silent BadNonce) fits (f, request, its) = absurd (control-list sequence f request.frame its.are.reads)
