-- What each command of `ntpq` asks (RFC 9327, section 4; which request follows which answer is our own rule).
use Rattle.std.specs.Prelude.{◌≡◌, ◌⊎◌, ℕ, Option, None, Some, List, [], ◌∷◌, ◌++◌, length, drop}
use Rattle.mode6_frame.specs.declared.operations.TheConstants.{OP_READ_STATUS, OP_READ_VARIABLES}
use Rattle.ntpq_client.specs.declared.request.Request.{Request}
use Rattle.ntpq_client.specs.declared.request.TheConstants.{REQUEST_VERSION}
use Rattle.ntpq_client.specs.Dialogues.{Dialogue}
use Rattle.ntpq_report.specs.declared.associations.AssociationStatus.{AssociationStatus}
use Rattle.ntpq_report.specs.Associations.{IsStatusBody}
use Rattle.ntpq_tool.specs.declared.answers.Answer.{Answer}
use Rattle.ntpq_tool.specs.declared.requests.TheConstants.{PEER_VARIABLES}
use Rattle.ntpq_tool.specs.declared.words.Wanted.{Wanted}
use Rattle.ntpq_tool.specs.declared.words.Wanted.TheVariants.{Variables, Associations, Peers, Clients}

-- how far a command has come: the answers that it took, oldest first, and the error code by which it was refused, if it was
pub record Course : Type 0 where
  pub answers : List Answer
  pub refused : Option ℕ

-- a command that took these answers
abbrev pub course_of : List Answer → Course
course_of answers = record { answers = answers; refused = None }

-- nothing is due to a command that was refused
abbrev pub due_unless : Option ℕ → Option Request → Option Request
due_unless None due = due
due_unless (Some code) due = None

-- the dialogue of a command whose next request depends on the answers so far
abbrev pub script : (List Answer → Option Request) → Dialogue Course
script next = record {
  due = λ c. due_unless c.refused (next c.answers);
  whole = λ status text c. record c { answers = c.answers ++ record { status = status; text = text } ∷ [] };
  refused = λ code c. record c { refused = Some code };
  silent = λ c. c;
}

-- the request for variables of an association, by their names joined by commas
abbrev pub variables_request : ℕ → List ℕ → Request
variables_request assoc names = record {
  version = REQUEST_VERSION;
  opcode = OP_READ_VARIABLES;
  assoc = assoc;
  body = names;
}

-- the request for the associations and their status words
abbrev pub status_request : Request
status_request = record { version = REQUEST_VERSION; opcode = OP_READ_STATUS; assoc = 0; body = [] }

-- the request for what a line shows of an association
abbrev pub peer_request : ℕ → Request
peer_request assoc = variables_request assoc PEER_VARIABLES.now

-- the request for the first of these associations
abbrev pub peer_due : List AssociationStatus → Option Request
peer_due [] = None
peer_due (a ∷ associations) = Some (peer_request a.assoc)

-- The request that is due after these answers: the variables, once; the associations, once; or the associations, and then
-- what a line shows of each, in their order. These are the associations that the first answer names. A listing of clients
-- has a dialogue of its own.
abbrev pub next_of : Wanted → List AssociationStatus → List Answer → Option Request
next_of (Variables assoc names) associations [] = Some (variables_request assoc names)
next_of Associations associations [] = Some status_request
next_of Peers associations [] = Some status_request
next_of Peers associations (first ∷ answers) = peer_due (drop (length answers) associations)
next_of (Variables assoc names) associations (first ∷ answers) = None
next_of Associations associations (first ∷ answers) = None
next_of (Clients query) associations answers = None

-- the dialogue of a command
abbrev pub script_of : Wanted → List AssociationStatus → Dialogue Course
script_of what associations = script (next_of what associations)

-- these are the associations that the first of the answers names; or they are none, where it was not read
abbrev pub AreNamed : List Answer → List AssociationStatus → Type 0
AreNamed [] associations = Unit {0}
AreNamed (first ∷ answers) associations = IsStatusBody first.text associations ⊎ (associations ≡ [])
