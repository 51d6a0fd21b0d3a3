-- The report of the answers that a command took, and which answers have none: our own rule.
use Rattle.std.specs.Prelude.{◌≡◌, ℕ, List, [], ◌∷◌, ◌++◌, length, drop, Result, Ok, Err}
use Rattle.mode6_frame.specs.declared.items.Item.{Item}
use Rattle.mode6_frame.specs.declared.status.PeerStatus.{PeerStatus}
use Rattle.mode6_frame.specs.Items.{IsItemText}
use Rattle.mode6_frame.specs.Status.{FitsPeerStatus, peer_status_word}
use Rattle.ntpq_report.specs.declared.associations.AssociationStatus.{AssociationStatus}
use Rattle.ntpq_report.specs.Associations.{IsStatusBody, as_text}
use Rattle.ntpq_report.specs.Peers.{ArePeerValues, PeerValues, peer_line_of, peers_header}
use Rattle.ntpq_report.specs.Variables.{rv_text}
use Rattle.ntpq_tool.specs.declared.ending.Failure.{Failure}
use Rattle.ntpq_tool.specs.declared.ending.Failure.TheVariants.{Words, Ask, BadReply, NoMemory}
use Rattle.ntpq_tool.specs.declared.words.Wanted.{Wanted}
use Rattle.ntpq_tool.specs.declared.words.Wanted.TheVariants.{Variables, Associations, Peers}
use Rattle.ntpq_tool.specs.declared.answers.Answer.{Answer}

-- what is made of an answer: this, which is its own; or a bad reply, where it has none; or there was no memory for it
abbrev pub Judges : {A : Type 0} → (A → Type 0) → Result A Failure → Type 0
Judges IsIts (Ok made) = IsIts made
Judges {A = A} IsIts (Err BadReply) = (made : A) → ¬ (IsIts made)
Judges IsIts (Err NoMemory) = Unit {0}
Judges IsIts (Err Words) = ⊥
Judges IsIts (Err (Ask fault)) = ⊥

-- the report of an answer that has the variables of this association
pub record IsVariablesReport (assoc : ℕ) (answer : Answer) (report : List ℕ) : Type 0 where
  pub items : List Item
  pub read : IsItemText answer.text items
  pub printed : report ≡ rv_text assoc answer.status items

-- the report of an answer that names associations
pub record IsStatusReport (answer : Answer) (report : List ℕ) : Type 0 where
  pub associations : List AssociationStatus
  pub read : IsStatusBody answer.text associations
  pub printed : report ≡ as_text associations

-- the line of an association, whose tally is by the selection in its status word, and whose values are an answer's
pub record IsPeerLine (a : AssociationStatus) (answer : Answer) (line : List ℕ) : Type 0 where
  pub peer : PeerStatus
  pub fits : FitsPeerStatus peer
  pub word : peer_status_word peer ≡ a.status
  pub items : List Item
  pub read : IsItemText answer.text items
  pub values : PeerValues
  pub given : ArePeerValues items values
  pub printed : line ≡ peer_line_of peer.selection values

-- the lines of associations, each by the answer to its request, in their order
abbrev pub ArePeerLines : List AssociationStatus → List Answer → List ℕ → Type 0
ArePeerLines [] [] lines = lines ≡ []
ArePeerLines (a ∷ associations) (answer ∷ answers) lines =
    (line : List ℕ) × (rest : List ℕ) × IsPeerLine a answer line × ArePeerLines associations answers rest
    × (lines ≡ line ++ rest)
ArePeerLines (a ∷ associations) [] lines = ⊥
ArePeerLines [] (answer ∷ answers) lines = ⊥

-- the report of the peers: the header, and a line for each association that the first answer names
pub record IsPeersReport (first : Answer) (answers : List Answer) (report : List ℕ) : Type 0 where
  pub associations : List AssociationStatus
  pub lines : List ℕ
  pub read : IsStatusBody first.text associations
  pub are : ArePeerLines associations answers lines
  pub printed : report ≡ peers_header ++ lines

-- the report of all answers of a command
abbrev pub IsReport : Wanted → List Answer → List ℕ → Type 0
IsReport (Variables assoc names) (answer ∷ []) report = IsVariablesReport assoc answer report
IsReport Associations (answer ∷ []) report = IsStatusReport answer report
IsReport Peers (first ∷ answers) report = IsPeersReport first answers report
IsReport _ _ report = ⊥

-- the last of these answers, to the request for one of these associations, has no line
pub record HasNoLine (associations : List AssociationStatus) (answers : List Answer) : Type 0 where
  pub before : List Answer
  pub last : Answer
  pub are : answers ≡ before ++ last ∷ []
  pub a : AssociationStatus
  pub behind : List AssociationStatus
  pub asked : drop (length before) associations ≡ a ∷ behind
  pub unread : (line : List ℕ) → ¬ (IsPeerLine a last line)

-- the last answer that a command took cannot be read: it has no report, or no line of one
abbrev pub IsBad : Wanted → List AssociationStatus → List Answer → Type 0
IsBad (Variables assoc names) associations (answer ∷ []) = (report : List ℕ) → ¬ (IsVariablesReport assoc answer report)
IsBad Associations associations (answer ∷ []) = (report : List ℕ) → ¬ (IsStatusReport answer report)
IsBad Peers associations (first ∷ []) = (report : List ℕ) → ¬ (IsStatusReport first report)
IsBad Peers associations (first ∷ next ∷ answers) = HasNoLine associations (next ∷ answers)
IsBad _ associations _ = ⊥
