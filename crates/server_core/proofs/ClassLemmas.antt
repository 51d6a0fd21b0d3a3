-- A datagram has one class.
use Rattle.std.proofs.Common.{◌≡◌, ◌≢◌, ◌≤◌, ℕ, List, [], ◌∷◌, length, None, Some, refl, sym, ap, subst, ℤ, ◌∙◌, inl, inr, arith, Bool, true, false, ◌==◌, ◌⊎◌}
use Rattle.std.proofs.Math.Bridge.{le_prop}
use Rattle.std.proofs.lemmas.Bool.Decides.{nat_tests}
use Rattle.fixed_time.specs.declared.time.Ntp64.{Ntp64}
use Rattle.net_addr.specs.declared.addr.Addr.{Addr}
use Rattle.mac_keys.specs.declared.checking.Auth.{Auth}
use Rattle.mac_keys.specs.declared.keys.Key.{Key}
use Rattle.ntp_packet.specs.declared.packet.Header.{Header}
use Rattle.ntp_packet.specs.FirstOctet.{mode_of}
use Rattle.ntp_trailer.specs.declared.packet.JudgedPacket.{JudgedPacket}
use Rattle.ntp_trailer.specs.declared.packet.ReadFault.{ReadFault}
use Rattle.ntp_trailer.specs.declared.packet.ReadFault.TheVariants.{BadHeader, BadTrailer}
use Rattle.ntp_trailer.specs.Packets.{IsJudgedPacket, IsUnreadable}
use Rattle.mode6_frame.specs.declared.message.FrameFault.{FrameFault}
use Rattle.mode6_frame.specs.Frames.{FrameParts, IsFrame, frame_fault_of}
use Rattle.sys_vars.specs.declared.context.Context.{Context}
use Rattle.ntp_packet.specs.declared.leap_version_mode.TheConstants.{MODE_CLIENT, MODE_CONTROL}
use Rattle.server_core.specs.declared.class.Ask.{Ask}
use Rattle.server_core.specs.declared.class.Class.{Class}
use Rattle.server_core.specs.declared.class.Class.TheVariants.{Silent, Time, Look, Read}
use Rattle.server_core.specs.declared.class.Unheard.{Unheard}
use Rattle.server_core.specs.declared.class.Unheard.TheVariants.{Packet, Trailer, Frame, Unserved, NotRequest, BadNonce}
use Rattle.server_core.specs.Class.{IsClass, IsControl, IsAskOf, IsTimeRequest, unheard_by}
use Rattle.server_core.specs.Reads.{IsRequestClass}
use Rattle.server_core.specs.Control.{IsRequest, frame_number, has_answer_bit}
use Rattle.server_core.proofs.ControlLemmas.{frame_mode}

-- no octets have no mode of a client
client_is_some : (octets : List ℕ) → mode_of octets ≡ MODE_CLIENT → octets ≢ []
client_is_some octets client empty =
    let none : mode_of octets ≡ mode_of [] = ap mode_of empty in
    absurd (omega (arith, client, none))

-- nor that of a control message
control_is_some : (octets : List ℕ) → mode_of octets ≡ MODE_CONTROL → octets ≢ []
control_is_some octets control empty =
    let none : mode_of octets ≡ mode_of [] = ap mode_of empty in
    absurd (omega (arith, control, none))

-- a datagram has one mode
not_both : (octets : List ℕ) → mode_of octets ≡ MODE_CLIENT → ¬ (mode_of octets ≡ MODE_CONTROL)
not_both octets client control = absurd (omega (arith, client, control))

-- what is empty is that and nothing else
pub only_empty : (octets : List ℕ) (from : Addr) (keys : List Key) (context : Context) → octets ≡ [] → (class : Class) → IsClass octets from keys context class → Silent (Packet 1) ≡ class
only_empty octets from keys context empty (Silent (Packet number)) (inl is) = ap (λ n. Silent (Packet n)) (sym is.1)
only_empty octets from keys context empty (Silent (Packet number)) (inr refused) = absurd (client_is_some octets refused.0 empty)
only_empty octets from keys context empty (Silent (Trailer number)) long = absurd (client_is_some octets long.0 empty)
only_empty octets from keys context empty (Silent (Frame number)) refused = absurd (control_is_some octets refused.0 empty)
only_empty octets from keys context empty (Silent (Unserved mode)) unserved = absurd (unserved.0 empty)
only_empty octets from keys context empty (Silent NotRequest) answer = absurd (control_is_some octets (frame_mode octets answer.0 answer.1) empty)
only_empty octets from keys context empty (Time ask) request = absurd (client_is_some octets request.client empty)
only_empty octets from keys context empty (Silent BadNonce) is = absurd (control_is_some octets (frame_mode octets is.0 is.1.frame) empty)
only_empty octets from keys context empty (Look asked) is = absurd (control_is_some octets (frame_mode octets is.0 is.1.frame) empty)
only_empty octets from keys context empty (Read ask) is = absurd (control_is_some octets (frame_mode octets is.0 is.1.frame) empty)

-- what is of another mode is that and nothing else
pub only_unserved : (octets : List ℕ) (from : Addr) (keys : List Key) (context : Context) (mode : ℕ) → octets ≢ [] → mode ≡ mode_of octets → mode ≢ MODE_CLIENT → mode ≢ MODE_CONTROL
    → (class : Class) → IsClass octets from keys context class → Silent (Unserved mode) ≡ class
only_unserved octets from keys context mode some is other no_control (Silent (Packet number)) (inl empty) = absurd (some empty.0)
only_unserved octets from keys context mode some is other no_control (Silent (Packet number)) (inr short) = absurd (other (is ∙ short.0))
only_unserved octets from keys context mode some is other no_control (Silent (Trailer number)) long = absurd (other (is ∙ long.0))
only_unserved octets from keys context mode some is other no_control (Silent (Frame number)) refused = absurd (no_control (is ∙ refused.0))
only_unserved octets from keys context mode some is other no_control (Silent (Unserved its)) unserved = ap (λ m. Silent (Unserved m)) (is ∙ sym unserved.1)
only_unserved octets from keys context mode some is other no_control (Silent NotRequest) answer = absurd (no_control (is ∙ frame_mode octets answer.0 answer.1))
only_unserved octets from keys context mode some is other no_control (Time ask) request = absurd (other (is ∙ request.client))
only_unserved octets from keys context mode some is other no_control (Silent BadNonce) look = absurd (no_control (is ∙ frame_mode octets look.0 look.1.frame))
only_unserved octets from keys context mode some is other no_control (Look asked) look = absurd (no_control (is ∙ frame_mode octets look.0 look.1.frame))
only_unserved octets from keys context mode some is other no_control (Read ask) look = absurd (no_control (is ∙ frame_mode octets look.0 look.1.frame))

-- a class of a client's packet: why it is no packet, or the request that it is
abbrev IsClientClass : List ℕ → Addr → List Key → Class → Type 0
IsClientClass octets from keys class =
    ((fault : ReadFault) × IsUnreadable octets fault × (class ≡ Silent (unheard_by fault)))
    ⊎ ((ask : Ask) × IsTimeRequest octets from keys ask × (class ≡ Time ask))

-- a client's packet has one of these
client_class : (octets : List ℕ) (from : Addr) (keys : List Key) (context : Context) → mode_of octets ≡ MODE_CLIENT → (class : Class) → IsClass octets from keys context class → IsClientClass octets from keys class
client_class octets from keys context client (Silent (Packet number)) (inl empty) = absurd (client_is_some octets client empty.0)
client_class octets from keys context client (Silent (Packet number)) (inr (_, (fault, refused, is))) = inl (BadHeader fault, refused, ap (λ n. Silent (Packet n)) is)
client_class octets from keys context client (Silent (Trailer number)) (_, (fault, refused, is)) = inl (BadTrailer fault, refused, ap (λ n. Silent (Trailer n)) is)
client_class octets from keys context client (Silent (Frame number)) refused = absurd (not_both octets client refused.0)
client_class octets from keys context client (Silent (Unserved mode)) unserved = absurd (unserved.2 (unserved.1 ∙ client))
client_class octets from keys context client (Silent NotRequest) answer = absurd (not_both octets client (frame_mode octets answer.0 answer.1))
client_class octets from keys context client (Time ask) request = inr (ask, request, refl)
client_class octets from keys context client (Silent BadNonce) look = absurd (not_both octets client (frame_mode octets look.0 look.1.frame))
client_class octets from keys context client (Look asked) look = absurd (not_both octets client (frame_mode octets look.0 look.1.frame))
client_class octets from keys context client (Read ask) look = absurd (not_both octets client (frame_mode octets look.0 look.1.frame))

-- what is no packet is silent
IsClass-unreadable : (octets : List ℕ) (from : Addr) (keys : List Key) (context : Context) (fault : ReadFault) → mode_of octets ≡ MODE_CLIENT → IsUnreadable octets fault → IsClass octets from keys context (Silent (unheard_by fault))
IsClass-unreadable octets from keys context (BadHeader fault) client refused = inr (client, (fault, refused, refl))
IsClass-unreadable octets from keys context (BadTrailer fault) client refused = (client, (fault, refused, refl))

pub silent_unreadable : (octets : List ℕ) (from : Addr) (keys : List Key) (context : Context) (fault : ReadFault) (why : Unheard) → why ≡ unheard_by fault → mode_of octets ≡ MODE_CLIENT → IsUnreadable octets fault → IsClass octets from keys context (Silent why)
silent_unreadable octets from keys context fault why is client refused =
    subst (λ w. IsClass octets from keys context (Silent w)) (sym is) (IsClass-unreadable octets from keys context fault client refused)

-- an ask by its parts
abbrev ask_of : (from : Addr) (version : ℕ) (poll : ℤ) (transmit : Ntp64) (auth : Auth) → 1 ≤ version → version ≤ 4 → Ask
ask_of from version poll transmit auth least most =
    record { from = from; version = version; poll = poll; transmit = transmit; auth = auth; version_least = least; version_most = most }

-- asks of one version are equal where their other parts are
same_but_for_proofs : (from : Addr) (v w : ℕ) (poll : ℤ) (transmit : Ntp64) (auth : Auth) → v ≡ w → (l : 1 ≤ v) (m : v ≤ 4) (l' : 1 ≤ w) (m' : w ≤ 4) → ask_of from v poll transmit auth l m ≡ ask_of from w poll transmit auth l' m'
same_but_for_proofs from v w poll transmit auth e l m =
    subst (λ (u : ℕ). (l' : 1 ≤ u) (m' : u ≤ 4) → ask_of from v poll transmit auth l m ≡ ask_of from u poll transmit auth l' m') e
    (λ l' m'. ap (λ (p : 1 ≤ v). ask_of from v poll transmit auth p m) (le_prop l l') ∙ ap (λ (p : v ≤ 4). ask_of from v poll transmit auth l' p) (le_prop m m'))

-- one header and what its MAC shows make one ask
ask_same : (h : Header) (from : Addr) (auth : Auth) (a b : Ask) → IsAskOf h from auth a → IsAskOf h from auth b → a ≡ b
ask_same h from auth a b first second =
    let from_is : a.from ≡ b.from = cc in
    let version_is : a.version ≡ b.version = cc in
    let poll_is : a.poll ≡ b.poll = cc in
    let transmit_is : a.transmit ≡ b.transmit = cc in
    let auth_is : a.auth ≡ b.auth = cc in
    ap (λ (f : Addr). ask_of f a.version a.poll a.transmit a.auth a.version_least a.version_most) from_is
    ∙ ap (λ (p : ℤ). ask_of b.from a.version p a.transmit a.auth a.version_least a.version_most) poll_is
    ∙ ap (λ (t : Ntp64). ask_of b.from a.version b.poll t a.auth a.version_least a.version_most) transmit_is
    ∙ ap (λ (u : Auth). ask_of b.from a.version b.poll b.transmit u a.version_least a.version_most) auth_is
    ∙ same_but_for_proofs b.from a.version b.version b.poll b.transmit b.auth version_is a.version_least a.version_most b.version_least b.version_most

-- what is no packet is that and nothing else
pub only_unreadable : (octets : List ℕ) (from : Addr) (keys : List Key) (context : Context) (fault : ReadFault) (why : Unheard) → why ≡ unheard_by fault → mode_of octets ≡ MODE_CLIENT
    → ((other : ReadFault) → IsUnreadable octets other → fault ≡ other) → ((judged : JudgedPacket) → ¬ IsJudgedPacket keys octets judged)
    → (class : Class) → IsClass octets from keys context class → Silent why ≡ class
only_unreadable octets from keys context fault why is client due none class is_class = by_class (client_class octets from keys context client class is_class)
  where
    by_class : IsClientClass octets from keys class → Silent why ≡ class
    by_class (inl (other, refused, its)) = ap Silent (is ∙ ap (λ (f : ReadFault). unheard_by f) (due other refused)) ∙ sym its
    by_class (inr (_, request, _)) = absurd (none request.judged request.packet)

-- what is a client's packet is that request and nothing else
pub only_time : (octets : List ℕ) (from : Addr) (keys : List Key) (context : Context) (judged : JudgedPacket) (ask : Ask) → mode_of octets ≡ MODE_CLIENT
    → ((other : JudgedPacket) → IsJudgedPacket keys octets other → judged ≡ other) → ((fault : ReadFault) → ¬ IsUnreadable octets fault)
    → IsAskOf judged.header from judged.auth ask → (class : Class) → IsClass octets from keys context class → Time ask ≡ class
only_time octets from keys context judged ask client one none is class is_class = by_class (client_class octets from keys context client class is_class)
  where
    by_class : IsClientClass octets from keys class → Time ask ≡ class
    by_class (inl (fault, refused, _)) = absurd (none fault refused)
    by_class (inr (other, request, its)) =
        let same : judged ≡ request.judged = one request.judged request.packet in
        let of_judged = subst (λ (j : JudgedPacket). IsAskOf j.header from j.auth other) (sym same) request.is in
        ap Time (ask_same judged.header from judged.auth ask other is of_judged) ∙ sym its

-- a class of a control message: what is refused, what is no request, or what a request is
abbrev pub IsControlClass : List ℕ → Addr → Context → Class → Type 0
IsControlClass octets from context class =
    ((fault : FrameFault) × (frame_fault_of octets ≡ Some fault) × (class ≡ Silent (Frame (frame_number fault))))
    ⊎ (((f : FrameParts) × IsFrame octets f × (has_answer_bit f ≡ true) × (class ≡ Silent NotRequest))
    ⊎ IsControl octets from context class)

-- a control message has one of these
pub control_class : (octets : List ℕ) (from : Addr) (keys : List Key) (context : Context) → mode_of octets ≡ MODE_CONTROL → (class : Class) → IsClass octets from keys context class → IsControlClass octets from context class
control_class octets from keys context control (Silent (Packet number)) (inl empty) = absurd (control_is_some octets control empty.0)
control_class octets from keys context control (Silent (Packet number)) (inr refused) = absurd (not_both octets refused.0 control)
control_class octets from keys context control (Silent (Trailer number)) long = absurd (not_both octets long.0 control)
control_class octets from keys context control (Silent (Frame number)) (_, (fault, refused, is)) = inl (fault, refused, ap (λ n. Silent (Frame n)) is)
control_class octets from keys context control (Silent (Unserved mode)) unserved = absurd (unserved.3 (unserved.1 ∙ control))
control_class octets from keys context control (Silent NotRequest) (f, frame, answer) = inr (inl (f, frame, answer, refl))
control_class octets from keys context control (Silent BadNonce) is = inr (inr is)
control_class octets from keys context control (Time ask) request = absurd (not_both octets request.client control)
control_class octets from keys context control (Look asked) is = inr (inr is)
control_class octets from keys context control (Read ask) is = inr (inr is)

-- what is a request is that and nothing else
pub only_request : (octets : List ℕ) (from : Addr) (keys : List Key) (context : Context) (f : FrameParts) (it : Class) → mode_of octets ≡ MODE_CONTROL → frame_fault_of octets ≡ None → ((other : FrameParts) → IsFrame octets other → f ≡ other) → has_answer_bit f ≡ false
    → ((other : Class) → IsRequestClass f from context other → it ≡ other)
    → (class : Class) → IsClass octets from keys context class → it ≡ class
only_request octets from keys context f it control good one request one_class class is = by_class (control_class octets from keys context control class is)
  where
    by_class : IsControlClass octets from context class → it ≡ class
    by_class (inl (fault, refused, _)) = absurd (cc (good, refused))
    by_class (inr (inl (g, frame, answer, _))) =
        let same : f ≡ g = one g frame in
        let set : has_answer_bit f ≡ true = ap (λ (h : FrameParts). has_answer_bit h) same ∙ answer in
        absurd (cc (request, set))
    by_class (inr (inr (g, other_request, is_other))) =
        let same : f ≡ g = one g other_request.frame in
        one_class class (subst (λ (h : FrameParts). IsRequestClass h from context class) (sym same) is_other)

-- a request of this class is that, whatever the keys
pub request_class : (octets : List ℕ) (from : Addr) (keys : List Key) (context : Context) (f : FrameParts) (class : Class) → IsRequest octets f → IsRequestClass f from context class → IsClass octets from keys context class
request_class octets from keys context f (Silent BadNonce) request is = (f, request, is)
request_class octets from keys context f (Silent _) request is = absurd is
request_class octets from keys context f (Time ask) request is = absurd is
request_class octets from keys context f (Look asked) request is = (f, request, is)
request_class octets from keys context f (Read ask) request is = (f, request, is)

-- a test of emptiness that fails says that there is something
pub not_empty : (octets : List ℕ) (answer : Bool) → answer ≡ (length octets == 0) → answer ≡ false → octets ≢ []
not_empty octets answer is fails empty = absurd (cc (is, fails, ap (λ (xs : List ℕ). length xs == 0) empty))

-- a test of emptiness that succeeds says that there is nothing
pub empty : (octets : List ℕ) (answer : Bool) → answer ≡ (length octets == 0) → answer ≡ true → octets ≡ []
empty [] answer is holds = refl
empty (octet ∷ octets) answer is holds = absurd (omega (arith, none (length (octet ∷ octets)) (sym is ∙ holds)))
  where
    none : (n : ℕ) → (n == 0) ≡ true → n ≡ 0
    none n e = grind (arith, nat_tests)
