-- The variables of a system and of a peer as items of a text (RFC 9327, section 4).
use Rattle.std.specs.Prelude.{◌≡◌, ℕ, ◌≤◌, Bool, true, not, ◌==◌, ◌&&◌, if◌then◌else◌, Option, Some, None, is_none, Result, Ok, Err, List, [], ◌∷◌, length, codes, decimal, position, filter_map, find, option_map, slice_get, slice_index_or}
use Rattle.std.specs.Fmt.{signed_decimal}
use Rattle.std.specs.List.{AllByRecursion, range_with_len}
use Rattle.mode6_frame.specs.declared.items.Item.{Item}
use Rattle.mode6_frame.specs.Items.{comma, is_quoted_octet, IsTrimmed}
use Rattle.mode6_frame.specs.ItemTexts.{item_text}
use Rattle.net_addr.specs.Spelling.{ip_text}
use Rattle.mode6_frame.specs.Told.{told_number}
use Rattle.sys_vars.specs.declared.peer_view.PeerView.{PeerView}
use Rattle.sys_vars.specs.declared.published.Record.{Record}
use Rattle.sys_vars.specs.declared.sample_text.Measure.TheVariants.{Delay, Offset, Dispersion}
use Rattle.sys_vars.specs.declared.subject.Subject.{Subject}
use Rattle.sys_vars.specs.declared.subject.Subject.TheVariants.{System, Peer}
use Rattle.sys_vars.specs.declared.variables.VarsFault.{VarsFault}
use Rattle.sys_vars.specs.declared.variables.VarsFault.TheVariants.{UnknownAssociation, UnknownName}
use Rattle.sys_vars.specs.Names.{system_names, peer_names}
use Rattle.mode6_frame.specs.Stamps.{stamp_text}
use Rattle.sys_vars.specs.Texts.{ms_text, signed_ms_text, ppm_text, reach_text, refid_text, state_number, measures_text}

-- the texts of the system variables, in the order of their numbers
unfoldable pub system_texts : Record → List (List ℕ)
system_texts rec =
    codes "ntpd profile 1"
    ∷ decimal rec.system.leap
    ∷ decimal rec.system.stratum
    ∷ signed_decimal rec.system.precision
    ∷ ms_text rec.system.root_delay
    ∷ ms_text rec.system.root_disp
    ∷ refid_text rec.system.stratum rec.system.refid
    ∷ stamp_text rec.system.reference.0
    ∷ decimal rec.system.peer
    ∷ decimal rec.system.poll
    ∷ codes "3"
    ∷ signed_ms_text rec.system.offset.0
    ∷ ppm_text rec.system.freq
    ∷ ms_text rec.system.jitter
    ∷ decimal (state_number rec.system.state)
    ∷ decimal rec.epoch
    ∷ []

-- the texts of the variables of a peer, in the order of their numbers
unfoldable pub peer_texts : PeerView → List (List ℕ)
peer_texts peer =
    ip_text peer.addr.ip
    ∷ decimal peer.addr.port
    ∷ codes "3"
    ∷ decimal peer.pmode
    ∷ decimal peer.hpoll
    ∷ signed_decimal peer.ppoll
    ∷ decimal peer.leap
    ∷ decimal peer.stratum
    ∷ signed_decimal peer.precision
    ∷ ms_text peer.root_delay
    ∷ ms_text peer.root_disp
    ∷ refid_text peer.stratum peer.refid
    ∷ stamp_text peer.reference.0
    ∷ stamp_text peer.received.0
    ∷ reach_text peer.reach
    ∷ decimal peer.key
    ∷ signed_ms_text peer.offset.0
    ∷ ms_text peer.delay
    ∷ ms_text peer.disp
    ∷ ms_text peer.jitter
    ∷ measures_text Delay peer.stages
    ∷ measures_text Offset peer.stages
    ∷ measures_text Dispersion peer.stages
    ∷ []

-- the peer with this association number
abbrev pub peer_of : List PeerView → ℕ → Option PeerView
peer_of peers assoc = find (λ peer. peer.assoc == assoc) peers

-- whom an association number names: 0 is the system, any other the peer that has it
abbrev pub subject_of : Record → ℕ → Option Subject
subject_of rec assoc = if assoc == 0 then Some System else option_map (λ peer. Peer peer) (peer_of rec.peers assoc)

-- the names of the variables of a system or a peer, in the order of their numbers
abbrev pub names_in : Subject → List (List ℕ)
names_in System = system_names
names_in (Peer peer) = peer_names

-- the texts of the variables of a system or a peer, in the order of their numbers
abbrev pub texts_in : Record → Subject → List (List ℕ)
texts_in rec System = system_texts rec
texts_in rec (Peer peer) = peer_texts peer

-- the variable of this number, if there is one
unfoldable pub variable_of : Record → Subject → ℕ → Option Item
variable_of rec subject number =
    option_map (λ name. record { name = name; value = Some (slice_index_or (texts_in rec subject) number []) })
    (slice_get (names_in subject) number)

-- the numbers of the variables that are asked for: all, where none is named
abbrev pub asked_numbers : Subject → List ℕ → List ℕ
asked_numbers subject names = if length names == 0 then range_with_len 0 (length (names_in subject)) else names

-- the variables that are asked for, in their order
abbrev pub variables_of : Record → Subject → List ℕ → List Item
variables_of rec subject names = filter_map (variable_of rec subject) (asked_numbers subject names)

-- no variable has this number
abbrev pub is_unknown : Subject → ℕ → Bool
is_unknown subject number = is_none (slice_get (names_in subject) number)

-- the place of the first number that is no variable's, from 0
abbrev pub first_unknown : Subject → List ℕ → Option ℕ
first_unknown subject names = position (is_unknown subject) names

-- the variables that are asked for, or where the first unknown name stands
abbrev pub variables_by : Record → Subject → List ℕ → Option ℕ → Result (List Item) VarsFault
variables_by rec subject names None = Ok (variables_of rec subject names)
variables_by rec subject names (Some place) = Err (UnknownName (told_number place))

-- the variables of whom the association names
abbrev pub items_by : Record → Option Subject → List ℕ → Result (List Item) VarsFault
items_by rec None names = Err UnknownAssociation
items_by rec (Some subject) names = variables_by rec subject names (first_unknown subject names)

-- the variables of an association that are asked for, or why they are not given: no such association, or else an unknown name
abbrev pub items_of : Record → ℕ → List ℕ → Result (List Item) VarsFault
items_of rec assoc names = items_by rec (subject_of rec assoc) names

-- an item whose text has so few octets that all that one request can name fit into an answer
abbrev pub IsShort : Item → Type 0
IsShort item = length (item_text item) ≤ 250

-- an octet of a value: visible ASCII or a space, other than the quotation mark and the comma
abbrev pub is_value_octet : ℕ → Bool
is_value_octet octet = is_quoted_octet octet && not (octet == comma)

-- a value that is read back from a text, in quotes or bare: it neither begins nor ends with white space
pub record IsPlainValue (value : List ℕ) : Type 0 where
  pub octets : AllByRecursion (λ octet. is_value_octet octet ≡ true) value
  pub trimmed : IsTrimmed value
