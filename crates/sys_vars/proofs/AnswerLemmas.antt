-- An answer that is given has a datagram.
use Rattle.std.proofs.Common.{ℕ, ◌≤◌, List, [], ◌∷◌, length, codes, Option, Some, None, arith}
use Rattle.net_addr.specs.declared.addr.Addr.{Addr}
use Rattle.mode6_frame.specs.declared.message.Head.{Head}
use Rattle.mode6_frame.specs.Cuts.{IsCuttable}
use Rattle.sys_vars.specs.declared.asked.Asked.{Asked}
use Rattle.sys_vars.specs.declared.asked.What.{What}
use Rattle.sys_vars.specs.declared.asked.What.TheVariants.{Status, Vars, Nonce, Bad}
use Rattle.sys_vars.specs.declared.context.Context.{Context}
use Rattle.sys_vars.specs.declared.published.Record.{Record}
use Rattle.sys_vars.specs.declared.subject.Subject.{Subject}
use Rattle.sys_vars.specs.declared.subject.Subject.TheVariants.{System}
use Rattle.sys_vars.specs.Answers.{grams_for, grams_of, head_about, nonce_item, status_grams, variable_grams, variable_grams_of}
use Rattle.sys_vars.specs.Contexts.{nonce_for}
use Rattle.sys_vars.specs.Variables.{first_unknown, subject_of, variables_of}
use Rattle.sys_vars.proofs.CutLemmas.{IsCuttable-short, datagrams-some}
use Rattle.sys_vars.proofs.ShortLemmas.{value-short}

-- of a status, whomever the association names
status_grams-some : (rec : Record) (head : Head) (subject : Option Subject) → 1 ≤ length (status_grams rec head subject)
status_grams-some rec head None = omega arith
status_grams-some rec head (Some subject) = omega arith

-- of variables, whether a name is unknown or not
variable_grams-some : (rec : Record) (subject : Subject) (head : Head) (names : List ℕ) (place : Option ℕ) → 1 ≤ length (variable_grams rec subject head names place)
variable_grams-some rec subject head names None = datagrams-some head rec.epoch (variables_of rec subject names)
variable_grams-some rec subject head names (Some place) = omega arith

-- whomever the association names
variable_grams_of-some : (rec : Record) (head : Head) (names : List ℕ) (subject : Option Subject) → 1 ≤ length (variable_grams_of rec head names subject)
variable_grams_of-some rec head names None = omega arith
variable_grams_of-some rec head names (Some subject) = variable_grams-some rec subject (head_about rec subject head) names (first_unknown subject names)

-- of whatever is asked for
grams_for-some : (rec : Record) (head : Head) (context : Context) (from : Addr) (what : What) → 1 ≤ length (grams_for rec head context from what)
grams_for-some rec head context from Status = status_grams-some rec head (subject_of rec head.assoc)
grams_for-some rec head context from (Vars names) = variable_grams_of-some rec head names (subject_of rec head.assoc)
grams_for-some rec head context from Nonce = datagrams-some (head_about rec System head) rec.epoch (nonce_item (nonce_for context from.ip) ∷ [])
grams_for-some rec head context from (Bad code) = omega arith

-- the answer to a request has one at least
pub grams_of-some : (rec : Record) (asked : Asked) (context : Context) → 1 ≤ length (grams_of rec asked context)
grams_of-some rec asked context = grams_for-some rec asked.head context asked.from asked.what

-- a nonce alone can be cut
pub IsCuttable-nonce : (nonce : List ℕ) (tag : ℕ) → length nonce ≤ 24 → IsCuttable tag (nonce_item nonce ∷ [])
IsCuttable-nonce nonce tag short =
    IsCuttable-short tag (nonce_item nonce ∷ []) (omega (arith, short, value-short (codes "nonce") nonce), tt) (omega arith)
