-- The answer to a control request (RFC 9327, sections 2, 3.4 and 4), as a function of one record, the request and its context.
use Rattle.std.specs.Prelude.{ℕ, ◌+◌, ◌≤◌, Bool, ◌||◌, if◌then◌else◌, Option, Some, None, List, [], ◌∷◌, ◌++◌, length, flat_map, codes}
use Rattle.std.specs.List.{AllByRecursion}
use Rattle.std.specs.Int.{to_be_bytes, w16}
use Rattle.access_rules.specs.declared.flags.TheConstants.{IGNORE, NOQUERY}
use Rattle.access_rules.specs.Flags.{has_flag}
use Rattle.access_rules.specs.Rules.{flags_of}
use Rattle.mode6_frame.specs.declared.errors.TheConstants.{BAD_ASSOCIATION, BAD_NAME}
use Rattle.mode6_frame.specs.declared.message.Head.{Head}
use Rattle.mode6_frame.specs.declared.message.TheConstants.{HEAD_LEN, MAX_BODY}
use Rattle.mode6_frame.specs.declared.items.Item.{Item}
use Rattle.mode6_frame.specs.Cuts.{datagrams, part_frame, whole_part}
use Rattle.mode6_frame.specs.Frames.{spelled_frame, error_parts}
use Rattle.net_addr.specs.declared.addr.Addr.{Addr}
use Rattle.sys_vars.specs.declared.answer.Answer.{Answer}
use Rattle.sys_vars.specs.declared.answer.Answer.TheVariants.{Ignored, Given}
use Rattle.sys_vars.specs.declared.asked.Asked.{Asked}
use Rattle.sys_vars.specs.declared.asked.What.{What}
use Rattle.sys_vars.specs.declared.asked.What.TheVariants.{Status, Vars, Nonce, Bad}
use Rattle.sys_vars.specs.declared.context.Context.{Context}
use Rattle.sys_vars.specs.declared.peer_view.PeerView.{PeerView}
use Rattle.sys_vars.specs.declared.published.Record.{Record}
use Rattle.sys_vars.specs.declared.subject.Subject.{Subject}
use Rattle.sys_vars.specs.declared.subject.Subject.TheVariants.{System, Peer}
use Rattle.sys_vars.specs.Contexts.{nonce_for}
use Rattle.sys_vars.specs.Status.{peer_status_of, system_status_of}
use Rattle.sys_vars.specs.Variables.{first_unknown, subject_of, variables_of}

-- the error response to a request, with this code
abbrev pub error_octets : Head → ℕ → List ℕ
error_octets head code = spelled_frame (error_parts head code)

-- the status word of the system, or of a peer
abbrev pub status_of : Record → Subject → ℕ
status_of rec System = system_status_of rec.system
status_of rec (Peer peer) = peer_status_of peer

-- what an answer about the system or a peer repeats of its request, with the status of that subject
abbrev pub head_about : Record → Subject → Head → Head
head_about rec subject head = record {
  version = head.version;
  opcode = head.opcode;
  sequence = head.sequence;
  status = status_of rec subject;
  assoc = head.assoc;
  version_in = head.version_in;
  opcode_in = head.opcode_in;
}

-- a peer's association number and its status word, 16 bits each, the high octet first
abbrev pub status_pair : PeerView → List ℕ
status_pair peer = to_be_bytes w16 peer.assoc ++ to_be_bytes w16 (peer_status_of peer)

-- the body that tells a status (RFC 9327, section 4): that of the system has a pair for each peer, in their order; that of
-- a peer has nothing
abbrev pub status_body : Record → Subject → List ℕ
status_body rec System = flat_map status_pair rec.peers
status_body rec (Peer peer) = []

-- the datagram that tells the status of whom the association names
abbrev pub status_grams : Record → Head → Option Subject → List (List ℕ)
status_grams rec head None = error_octets head BAD_ASSOCIATION ∷ []
status_grams rec head (Some subject) =
    spelled_frame (part_frame (head_about rec subject head) (whole_part (status_body rec subject))) ∷ []

-- the datagrams that give the variables of these numbers, or tell that a name is unknown; the first unknown one stands there
abbrev pub variable_grams : Record → Subject → Head → List ℕ → Option ℕ → List (List ℕ)
variable_grams rec subject head names None = datagrams head rec.epoch (variables_of rec subject names)
variable_grams rec subject head names (Some place) = error_octets head BAD_NAME ∷ []

-- the datagrams that give the variables of these numbers of whom the association names
abbrev pub variable_grams_of : Record → Head → List ℕ → Option Subject → List (List ℕ)
variable_grams_of rec head names None = error_octets head BAD_ASSOCIATION ∷ []
variable_grams_of rec head names (Some subject) =
    variable_grams rec subject (head_about rec subject head) names (first_unknown subject names)

-- a nonce as an item (RFC 9327, section 4, command 12)
abbrev pub nonce_item : List ℕ → Item
nonce_item nonce = record { name = codes "nonce"; value = Some nonce }

-- the datagrams that tell a nonce: their status is the system's, whatever the association
abbrev pub nonce_grams : Record → Head → List ℕ → List (List ℕ)
nonce_grams rec head nonce = datagrams (head_about rec System head) rec.epoch (nonce_item nonce ∷ [])

-- the datagrams that answer what is asked for: what is bad is refused, and a nonce is told, before the association is
-- looked at
abbrev pub grams_for : Record → Head → Context → Addr → What → List (List ℕ)
grams_for rec head context from Status = status_grams rec head (subject_of rec head.assoc)
grams_for rec head context from (Vars names) = variable_grams_of rec head names (subject_of rec head.assoc)
grams_for rec head context from Nonce = nonce_grams rec head (nonce_for context from.ip)
grams_for rec head context from (Bad code) = error_octets head code ∷ []

-- the datagrams that answer a request, in their order
abbrev pub grams_of : Record → Asked → Context → List (List ℕ)
grams_of rec asked context = grams_for rec asked.head context asked.from asked.what

-- the flags of the sender refuse every datagram, or every control message
abbrev pub is_refused : Record → Asked → Bool
is_refused rec asked = has_flag (flags_of rec.rules asked.from.ip) IGNORE || has_flag (flags_of rec.rules asked.from.ip) NOQUERY

-- the answer to a request that came in this context: none where the sender is refused, otherwise datagrams, made of the
-- record of this epoch
abbrev pub answer_of : Record → Asked → Context → Answer
answer_of rec asked context = if is_refused rec asked then Ignored else Given rec.epoch (grams_of rec asked context)

-- no datagram of an answer is longer than a control message can be
abbrev pub IsWithin : Answer → Type 0
IsWithin Ignored = Unit {0}
IsWithin (Given epoch grams) = AllByRecursion (λ gram. length gram ≤ HEAD_LEN + MAX_BODY) grams
