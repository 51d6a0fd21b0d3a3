-- A command is found where its words are one, and only then.
use Rattle.std.proofs.Common.{◌≡◌, ◌↔◌, ℕ, Option, None, Some, IsNone, IfSome, List, ◌∷◌, map, refl, sym, ap, subst, ◌∙◌}
use Rattle.net_addr.specs.Spelling.{IsAddr, StandsFor}
use Rattle.net_addr.specs.declared.addr.Addr.{Addr}
use Rattle.ntpq_tool.specs.declared.words.Command.{Command}
use Rattle.ntpq_tool.specs.declared.words.Wanted.{Wanted}
use Rattle.ntpq_tool.specs.declared.words.TheConstants.{NTP_PORT}
use Rattle.ntpq_tool.specs.Command.{IsCommand, AreFor}

-- the host of a command is the first of its words
host-is : (host : List ℕ) (behind : List (List ℕ)) (command : Command) (is : IsCommand (host ∷ behind) command) → host ≡ is.host
host-is host behind command is = cc is.are

-- the others stand behind it
behind-is : (host : List ℕ) (behind : List (List ℕ)) (command : Command) (is : IsCommand (host ∷ behind) command) → behind ≡ is.behind
behind-is host behind command is = cc is.are

-- where the first word stands for no address, the words are no command
pub no_server : (host : List ℕ) (behind : List (List ℕ)) → ((a : Addr) → IsAddr a → ¬ StandsFor host NTP_PORT a) → (command : Command) → ¬ IsCommand (host ∷ behind) command
no_server host behind none command is =
    none command.server is.fits (subst (λ (text : List ℕ). StandsFor text NTP_PORT command.server) (sym (host-is host behind command is)) is.stands_for)

-- the one server and the one thing wanted are the command
pub only_command : (host : List ℕ) (behind : List (List ℕ)) (server : Addr) (what : Wanted) → ((a : Addr) → IsAddr a → StandsFor host NTP_PORT a → Some server ≡ Some a) → ((wanted : Wanted) → AreFor behind wanted → Some what ≡ Some wanted) → (command : Command) → IsCommand (host ∷ behind) command → record { server = server; what = what } ≡ command
only_command host behind server what one_server one_wanted command is =
    let its_server : server ≡ command.server = cc (one_server command.server is.fits (subst (λ (text : List ℕ). StandsFor text NTP_PORT command.server) (sym (host-is host behind command is)) is.stands_for)) in
    let its_what : what ≡ command.what = cc (one_wanted command.what (subst (λ (words : List (List ℕ)). AreFor words command.what) (sym (behind-is host behind command is)) is.wanted)) in
    ap (λ (a : Addr). record { server = a; what = what }) its_server ∙ ap (λ (w : Wanted). record { server = command.server; what = w }) its_what

-- what holds of the thing found, and of no other, holds of nothing where none is found
pub none_found : {A : Type 0} (P : A → Type 0) (found : Option A) → IfSome found P → ((a : A) → P a → found ≡ Some a) → IsNone found ↔ ((a : A) → ¬ P a)
none_found P None found only = (λ none a holds. absurd (cc (only a holds)), λ none. refl)
none_found P (Some one) found only = (λ none. absurd (cc none), λ none. absurd (none one found))

-- a server and what is wanted of it are a command
pub is_command : (host : List ℕ) (behind : List (List ℕ)) (server : Addr) (found : Option Wanted) (what : Wanted) → IsAddr server → StandsFor host NTP_PORT server → IfSome found (AreFor behind) → found ≡ Some what → IsCommand (host ∷ behind) (record { server = server; what = what })
is_command host behind server found what fits stands_for wanted same = record {
  host = host;
  behind = behind;
  are = refl;
  fits = fits;
  stands_for = stands_for;
  wanted = subst (λ (o : Option Wanted). IfSome o (AreFor behind)) same wanted;
}

-- words whose first is this one and whose others are these
pub map-first : {A : Type 0} (f : A → List ℕ) (words : List A) (first : A) (behind : List A) (name : List ℕ) → words ≡ first ∷ behind → name ≡ f first → map f words ≡ name ∷ map f behind
map-first f words first behind name are is =
    ap (map f) are ∙ ap (λ (word : List ℕ). word ∷ map f behind) (sym is)
