-- One request that is asked is a stretch of any dialogue to which it is due.
use Rattle.std.proofs.Common.{◌≡◌, Bool, false, Option, Some, None, List, [], ◌∷◌, refl, sym, ap, subst, ◌∙◌}
use Rattle.edge_traits.specs.declared.port.Event.{Event}
use Rattle.ntpq_client.specs.declared.news.News.{News}
use Rattle.ntpq_client.specs.declared.news.News.TheVariants.{Nothing, Answered, Denied, Quiet}
use Rattle.ntpq_client.specs.declared.request.Request.{Request}
use Rattle.ntpq_client.specs.Talks.{Talk, after_event, news_of}
use Rattle.ntpq_client.specs.Dialogues.{Dialogue, Asking, told, waits_on, after_all, IsTurn, Follows, Goes, asking, due_again, ready}
use Rattle.ntpq_client.proofs.DialogueLemmas.{relayed}

-- the news that end a request
abbrev IsEnd : News → Type 0
IsEnd Nothing = ⊥
IsEnd Quiet = ⊥
IsEnd (Answered status text) = Unit {0}
IsEnd (Denied code) = Unit {0}

-- what one hears who asked and was not answered yet is what the dialogue hears
told-open : {S : Type 0} (d : Dialogue S) (plan : S) (request : Request) (news heard : News) → d.silent plan ≡ plan → ¬ IsEnd heard → told d news (told d heard plan) ≡ told d (told (asking request) news heard) plan
told-open d plan request Nothing heard same open_yet = refl
told-open d plan request (Answered status text) Nothing same open_yet = refl
told-open d plan request (Answered status text) Quiet same open_yet = ap (d.whole status text) same
told-open d plan request (Denied code) Nothing same open_yet = refl
told-open d plan request (Denied code) Quiet same open_yet = ap (d.refused code) same
told-open d plan request Quiet Nothing same open_yet = refl
told-open d plan request Quiet Quiet same open_yet = ap d.silent same
told-open d plan request news (Answered status text) same open_yet = absurd (open_yet tt)
told-open d plan request news (Denied code) same open_yet = absurd (open_yet tt)

-- a request that was answered waits for nothing
ended-after : (request : Request) (news heard : News) → ¬ IsEnd heard → IsEnd (told (asking request) news heard) → waits_on news ≡ false
ended-after request Nothing heard open_yet ended = absurd (open_yet ended)
ended-after request (Answered status text) heard open_yet ended = refl
ended-after request (Denied code) heard open_yet ended = refl
ended-after request Quiet heard open_yet ended = absurd ended

-- what is due to one whose request was not answered yet is due to the dialogue
due-open : {S : Type 0} (d : Dialogue S) (plan : S) (request : Request) (heard : News) → d.silent plan ≡ plan → d.due plan ≡ Some request → ¬ IsEnd heard → due_again request heard ≡ d.due (told d heard plan)
due-open d plan request Nothing same due open_yet = sym due
due-open d plan request Quiet same due open_yet = sym due ∙ ap d.due (sym same)
due-open d plan request (Answered status text) same due open_yet = absurd (open_yet tt)
due-open d plan request (Denied code) same due open_yet = absurd (open_yet tt)

-- nothing comes to one who was answered
no_turn : (request : Request) (heard : News) (waits : Bool) (t : Talk) (event : Event) → (IsEnd heard → waits ≡ false) → IsTurn waits (due_again request heard) t event → ¬ IsEnd heard
no_turn request Nothing waits t event ended turn = λ is. is
no_turn request Quiet waits t event ended turn = λ is. is
no_turn request (Answered status text) waits t event ended turn = λ is. subst (λ (w : Bool). IsTurn w None t event) (ended tt) turn
no_turn request (Denied code) waits t event ended turn = λ is. subst (λ (w : Bool). IsTurn w None t event) (ended tt) turn

-- one amid a request, and the dialogue there
abbrev asking_at : Talk → News → Bool → Asking News
asking_at t heard waits = record { talk = t; plan = heard; waits = waits }

-- what one goes through who asks, a dialogue goes through
from-asking : {S : Type 0} (d : Dialogue S) (plan : S) (request : Request) → d.silent plan ≡ plan → d.due plan ≡ Some request → (events : List Event) (t : Talk) (heard : News) (waits : Bool) → (IsEnd heard → waits ≡ false) → Follows (asking request) (asking_at t heard waits) events → (after_all d events (relayed d plan (asking_at t heard waits)) ≡ relayed d plan (after_all (asking request) events (asking_at t heard waits))) × Follows d (relayed d plan (asking_at t heard waits)) events
from-asking d plan request same due [] t heard waits ended follows = (refl, tt)
from-asking {S = S} d plan request same due (event ∷ events) t heard waits ended (next, follows) =
    let open_yet = no_turn request heard waits t event ended next.turn in
    let news = news_of event t in
    let t' = after_event event t in
    let heard' = told (asking request) news heard in
    let rest = from-asking d plan request same due events t' heard' (waits_on news) (ended-after request news heard open_yet) follows in
    let At : S → Type 0 = λ (at : S). (after_all d events (record { talk = t'; plan = at; waits = waits_on news }) ≡ relayed d plan (after_all (asking request) events (asking_at t' heard' (waits_on news)))) × Follows d (record { talk = t'; plan = at; waits = waits_on news }) events in
    let all = subst At (sym (told-open d plan request news heard same open_yet)) rest in
    (all.0, (record { unstuck = next.unstuck; turn = subst (λ (r : Option Request). IsTurn waits r t event) (due-open d plan request heard same due open_yet) next.turn }, all.1))

-- where one goes who asks a request, a dialogue goes to which it is due
pub Goes-asking : {S : Type 0} (d : Dialogue S) (t : Talk) (plan : S) (request : Request) (to : Asking News) (before after : Option (List Event)) → d.silent plan ≡ plan → d.due plan ≡ Some request → Goes (asking request) (ready t Nothing) to before after → Goes d (ready t plan) (relayed d plan to) before after
Goes-asking d t plan request to before after same due goes =
    let all = from-asking d plan request same due goes.events t Nothing false (λ is. refl) goes.follows in
    record { events = goes.events; gains = goes.gains; follows = all.1; leads = all.0 ∙ ap (relayed d plan) goes.leads }
