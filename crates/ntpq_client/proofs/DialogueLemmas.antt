-- How dialogues go on.
use Rattle.std.proofs.Common.{◌≡◌, ◌+◌, ◌<◌, Option, Some, None, List, [], ◌∷◌, ◌++◌, refl, sym, ap, subst, ◌∙◌}
use Rattle.std.proofs.lemmas.List.{append-nil}
use Rattle.edge_traits.specs.Told.{gained}
use Rattle.edge_traits.proofs.ToldLemmas.{gained-gained}
use Rattle.edge_traits.specs.declared.port.Event.{Event}
use Rattle.ntpq_client.specs.declared.client.TheConstants.{MAX_REQUESTS}
use Rattle.ntpq_client.specs.declared.request.Request.{Request}
use Rattle.ntpq_client.specs.declared.news.News.{News}
use Rattle.ntpq_client.specs.declared.news.News.TheVariants.{Nothing, Answered, Denied, Quiet}
use Rattle.mode6_frame.specs.Places.{frame_at}
use Rattle.ntpq_client.specs.Requests.{request_octets, request_parts}
use Rattle.ntpq_client.specs.Talks.{Talk, stuck, after_event, news_of, post_of}
use Rattle.ntpq_client.specs.Dialogues.{Dialogue, Asking, told, waits_on, after_one, after_all, IsTaken, IsPosted, IsTurn, IsNext, Follows, Goes, waiting, ready, listening}

-- nothing gained
pub gained-nothing : (before : Option (List Event)) → before ≡ gained before []
gained-nothing None = refl
gained-nothing (Some events) = sym (ap Some (append-nil events))

-- events lead on from where those before them led
pub after_all-append : {S : Type 0} (d : Dialogue S) (first second : List Event) (a : Asking S) → after_all d (first ++ second) a ≡ after_all d second (after_all d first a)
after_all-append d [] second a = refl
after_all-append d (event ∷ first) second a = after_all-append d first second (after_one d event a)

-- events that may come after those that may come
pub Follows-append : {S : Type 0} (d : Dialogue S) (first second : List Event) (a : Asking S) → Follows d a first → Follows d (after_all d first a) second → Follows d a (first ++ second)
Follows-append d [] second a one two = two
Follows-append d (event ∷ first) second a (next, one) two = (next, Follows-append d first second (after_one d event a) one two)

-- nothing has to happen
pub Goes-none : {S : Type 0} (d : Dialogue S) (a : Asking S) (before : Option (List Event)) → Goes d a a before before
Goes-none d a before = record { events = []; gains = gained-nothing before; follows = tt; leads = refl }

-- one event
pub Goes-one : {S : Type 0} (d : Dialogue S) (a : Asking S) (event : Event) (before after : Option (List Event)) → IsNext d a event → after ≡ gained before (event ∷ []) → Goes d a (after_one d event a) before after
Goes-one d a event before after next gains = record { events = event ∷ []; gains = gains; follows = (next, tt); leads = refl }

-- one stretch after another
pub Goes-then : {S : Type 0} (d : Dialogue S) (a b c : Asking S) (before between after : Option (List Event)) → Goes d a b before between → Goes d b c between after → Goes d a c before after
Goes-then d a b c before between after one two = record {
  events = one.events ++ two.events;
  gains =
      two.gains ∙ ap (λ (trace : Option (List Event)). gained trace two.events) one.gains
      ∙ gained-gained before one.events two.events;
  follows = Follows-append d one.events two.events a one.follows (subst (λ (m : Asking _). Follows d m two.events) (sym one.leads) two.follows);
  leads = after_all-append d one.events two.events a ∙ ap (after_all d two.events) one.leads ∙ two.leads;
}

-- one that listened knows the news
told-listening : (news : News) → told listening news Nothing ≡ news
told-listening Nothing = refl
told-listening (Answered status text) = refl
told-listening (Denied code) = refl
told-listening Quiet = refl

-- one event that was taken leads a listener to its news
pub Goes-heard : (t t' : Talk) (news : News) (event : Event) (before after : Option (List Event)) → stuck t ≡ None → IsTaken event → after ≡ gained before (event ∷ []) → t' ≡ after_event event t → news ≡ news_of event t → Goes listening (waiting t Nothing) (record { talk = t'; plan = news; waits = waits_on news }) before after
Goes-heard t t' news event before after unstuck taken gains is news_is =
    let one : Goes listening (waiting t Nothing) (after_one listening event (waiting t Nothing)) before after = Goes-one listening (waiting t Nothing) event before after (record { unstuck = unstuck; turn = taken }) gains in
    let At : Talk → News → News → Type 0 = λ (k : Talk) (n m : News). Goes listening (waiting t Nothing) (record { talk = k; plan = n; waits = waits_on m }) before after in
    let plan_is : told listening (news_of event t) Nothing ≡ news = told-listening (news_of event t) ∙ sym news_is in
    subst (λ (k : Talk). At k news news) (sym is)
    (subst (λ (n : News). At (after_event event t) n news) plan_is
    (subst (λ (m : News). At (after_event event t) (told listening (news_of event t) Nothing) m) (sym news_is) one))

-- where one that listened stands, for a dialogue that had come so far
abbrev pub relayed : {S : Type 0} → Dialogue S → S → Asking News → Asking S
relayed d plan a = record { talk = a.talk; plan = told d a.plan plan; waits = a.waits }

-- one that heard of this
abbrev heard_at : Talk → News → Asking News
heard_at t news = record { talk = t; plan = told listening news Nothing; waits = waits_on news }

-- what a listener goes through, a dialogue that waits goes through
listening-from : {S : Type 0} (d : Dialogue S) (events : List Event) (t : Talk) (plan : S) (news : News) → Follows listening (heard_at t news) events → (after_all d events (record { talk = t; plan = told d news plan; waits = waits_on news }) ≡ relayed d plan (after_all listening events (heard_at t news))) × Follows d (record { talk = t; plan = told d news plan; waits = waits_on news }) events
listening-from d [] t plan news follows = (ap (λ (n : News). record { talk = t; plan = told d n plan; waits = waits_on news }) (sym (told-listening news)), tt)
listening-from d (event ∷ events) t plan Nothing (next, follows) =
    let rest = listening-from d events (after_event event t) plan (news_of event t) follows in
    (rest.0, (record { unstuck = next.unstuck; turn = next.turn }, rest.1))
listening-from d (event ∷ events) t plan (Answered status text) (next, follows) = absurd next.turn
listening-from d (event ∷ events) t plan (Denied code) (next, follows) = absurd next.turn
listening-from d (event ∷ events) t plan Quiet (next, follows) = absurd next.turn

-- where a listener goes, a dialogue that waits goes
pub Goes-listening : {S : Type 0} (d : Dialogue S) (t : Talk) (plan : S) (to : Asking News) (before after : Option (List Event)) → Goes listening (waiting t Nothing) to before after → Goes d (waiting t plan) (relayed d plan to) before after
Goes-listening d t plan to before after goes =
    let all = listening-from d goes.events t plan Nothing goes.follows in
    record { events = goes.events; gains = goes.gains; follows = all.1; leads = all.0 ∙ ap (relayed d plan) goes.leads }

-- the request that is due is posted
pub Goes-posted : {S : Type 0} (d : Dialogue S) (t t' : Talk) (plan : S) (request : Request) (before after : Option (List Event)) → stuck t ≡ None → d.due plan ≡ Some request → t.posted < MAX_REQUESTS → frame_at (request_octets request (t.posted + 1)) ≡ request_parts request (t.posted + 1) → after ≡ gained before (post_of request t ∷ []) → t' ≡ after_event (post_of request t) t → Goes d (ready t plan) (waiting t' plan) before after
unfolding news_of
Goes-posted d t t' plan request before after unstuck due few reads gains is =
    subst (λ (k : Talk). Goes d (ready t plan) (waiting k plan) before after) (sym is)
    (Goes-one d (ready t plan) (post_of request t) before after (record {
      unstuck = unstuck;
      turn = subst (λ (r : Option Request). IsPosted r t (post_of request t)) (sym due) (record { few = few; posted = refl; reads = reads });
    }) gains)

-- two dialogues that have come equally far go on so
same-all : {S T : Type 0} (d : Dialogue S) (e : Dialogue T) (Same : S → T → Type 0) → ((s : S) (t : T) → Same s t → d.due s ≡ e.due t) → ((news : News) (s : S) (t : T) → Same s t → Same (told d news s) (told e news t)) → (events : List Event) (a : Asking S) (t : T) → Same a.plan t → Follows d a events → (to : T) × Same (after_all d events a).plan to × (after_all e events (record { talk = a.talk; plan = t; waits = a.waits }) ≡ record { talk = (after_all d events a).talk; plan = to; waits = (after_all d events a).waits }) × Follows e (record { talk = a.talk; plan = t; waits = a.waits }) events
same-all d e Same due_same told_same [] a t same follows = (t, same, refl, tt)
same-all d e Same due_same told_same (event ∷ events) a t same (next, follows) =
    let rest = same-all d e Same due_same told_same events (after_one d event a) (told e (news_of event a.talk) t) (told_same (news_of event a.talk) a.plan t same) follows in
    (rest.0, rest.1, rest.2, (record { unstuck = next.unstuck; turn = subst (λ (r : Option Request). IsTurn a.waits r a.talk event) (due_same a.plan t same) next.turn }, rest.3))

-- where one dialogue goes, another goes that asks the same
pub Goes-same : {S T : Type 0} (d : Dialogue S) (e : Dialogue T) (Same : S → T → Type 0) → ((s : S) (t : T) → Same s t → d.due s ≡ e.due t) → ((news : News) (s : S) (t : T) → Same s t → Same (told d news s) (told e news t)) → (a b : Asking S) (t : T) (before after : Option (List Event)) → Same a.plan t → Goes d a b before after → (to : T) × Same b.plan to × Goes e (record { talk = a.talk; plan = t; waits = a.waits }) (record { talk = b.talk; plan = to; waits = b.waits }) before after
Goes-same d e Same due_same told_same a b t before after same goes =
    let all = same-all d e Same due_same told_same goes.events a t same goes.follows in (
      all.0,
      subst (λ (k : Asking _). Same k.plan all.0) goes.leads all.1,
      record { events = goes.events; gains = goes.gains; follows = all.3; leads = all.2 ∙ ap (λ (k : Asking _). record { talk = k.talk; plan = all.0; waits = k.waits }) goes.leads },
    )
