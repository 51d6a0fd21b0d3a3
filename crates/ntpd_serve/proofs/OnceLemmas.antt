-- How silences and gives add up at a port.
use Rattle.std.proofs.Common.{◌≡◌, ◌≢◌, ℕ, ◌+◌, ◌<◌, ◌≤◌, length, Option, Some, None, List, [], ◌∷◌, ◌++◌, append_assoc, replicate, take, zero, suc, Bool, inl, inr, refl, sym, ap, subst, ◌∙◌, arith}
use Rattle.std.proofs.lemmas.List.{append-nil, replicate_more, take_all}
use Rattle.mac_keys.specs.declared.keys.Key.{Key}
use Rattle.net_addr.specs.declared.addr.Addr.{Addr}
use Rattle.edge_traits.specs.Told.{gained, Grows, Rose}
use Rattle.edge_traits.proofs.ToldLemmas.{gained-gained}
use Rattle.edge_traits.specs.declared.port.Event.{Event}
use Rattle.edge_traits.specs.declared.port.Event.TheVariants.{Silence, Took}
use Rattle.edge_traits.specs.declared.status.Status.{Status}
use Rattle.sys_vars.specs.declared.context.Context.{Context}
use Rattle.server_core.specs.States.{ServerState}
use Rattle.server_core.specs.declared.response.Response.{Response}
use Rattle.server_core.specs.declared.response.Response.TheVariants.{Silent as NoAnswer, Time, Rate, Grams, Read}
use Rattle.server_core.specs.declared.response.Silence.{Silence as Reason}
use Rattle.server_core.specs.Responses.{IsGivable, IsResponse, grams_of}
use Rattle.giving.specs.Gives.{sent_events}
use Rattle.giving.specs.declared.given.GiveEnd.{GiveEnd}
use Rattle.giving.specs.declared.given.GiveEnd.TheVariants.{Whole, Failed as PortFailed, NoMemory as NoRoom}
use Rattle.giving.proofs.GiveLemmas.{read-some}
use Rattle.shared_book.specs.Contexts.{context_at}
use Rattle.shared_book.specs.declared.common.Common.{Common}
use Rattle.ntpd_serve.specs.Ending.{Reports}
use Rattle.ntpd_serve.specs.declared.once.TheConstants.{PATIENCE}
use Rattle.ntpd_serve.specs.declared.ending.Ending.{Ending}
use Rattle.ntpd_serve.specs.declared.ending.Ending.TheVariants.{Answered, Silent, Failed}
use Rattle.ntpd_serve.specs.declared.ending.Failure.{Failure}
use Rattle.ntpd_serve.specs.declared.ending.Failure.TheVariants.{Words, Conf, Keys, TooLong, Host, Port, Clock, Quiet, Closed, NoMemory}
use Rattle.ntpd_serve.specs.Once.{silences, IsAnswer, Follows, OnlySilences, Happens, Causes, HasCome, IsServed}

-- no silence yet
pub gained-no_silence : (told : Option (List Event)) → told ≡ gained told (silences 0)
unfolding silences
gained-no_silence None = refl
gained-no_silence (Some told) = sym (ap Some (append-nil told))

-- one silence more
pub gained-silence : (old between new : Option (List Event)) (n : ℕ) → between ≡ gained old (silences n) → new ≡ gained between (Silence ∷ []) → new ≡ gained old (silences (n + 1))
unfolding silences
gained-silence old between new n before then =
    then ∙ ap (λ (told : Option (List Event)). gained told (Silence ∷ [])) before
    ∙ gained-gained old (silences n) (Silence ∷ [])
    ∙ ap (gained old) (replicate_more n Silence)

-- one more that rose is one more in all
pub Rose-one_more : (n old between new : ℕ) → Rose n old between → Rose 1 between new → Rose (n + 1) old new
Rose-one_more n old between new first second = omega arith

-- what is told once a datagram came and something followed it
pub gained-came : (old between new : Option (List Event)) (front after : List Event) (event : Event) → between ≡ gained old (front ++ event ∷ []) → new ≡ gained between after → new ≡ gained old (front ++ event ∷ after)
gained-came old between new front after event before then =
    then ∙ ap (λ (told : Option (List Event)). gained told after) before
    ∙ gained-gained old (front ++ event ∷ []) after
    ∙ ap (gained old) (append_assoc front (event ∷ []) after)

-- readings that grew twice grew by both
pub Grows-Grows : (old between new : Option (List ℕ)) (first second : List ℕ) → Grows old between first → Grows between new second → Grows old new (first ++ second)
Grows-Grows old between None first second one two = tt
Grows-Grows old None (Some new) first second one two = absurd two
Grows-Grows None (Some between) (Some new) first second one two = absurd one
Grows-Grows (Some old) (Some between) (Some new) first second one two =
    two ∙ ap (λ (told : List ℕ). told ++ second) one ∙ append_assoc old first second

-- no reading
pub Grows-nothing : (told : Option (List ℕ)) → Grows told told []
Grows-nothing None = tt
Grows-nothing (Some told) = sym (append-nil told)

-- without memory for a server nothing happens
pub Happens-no_memory : (common : Common) → Happens common (Failed NoMemory) [] []
unfolding silences
Happens-no_memory common = inr (NoMemory, refl, (0, omega arith, refl), refl)

-- a response that can be given has a datagram, unless it is none
pub grams-some : (keys : List Key) (context : Context) (sent : ℕ) (response : Response) → IsGivable keys response → ((why : Reason) → response ≢ NoAnswer why) → 0 < length (grams_of keys context sent response)
grams-some keys context sent (NoAnswer why) can heard = absurd (heard why refl)
grams-some keys context sent (Time ask basis) can heard = omega arith
grams-some keys context sent (Rate ask) can heard = omega arith
grams-some keys context sent (Grams grams) can heard = can.0
grams-some keys context sent (Read from head reply) can heard = read-some reply from head context can.0

-- a datagram whose response is given at this moment is answered
pub IsAnswer-response : (common : Common) (s : ServerState) (from : Addr) (octets : List ℕ) (came sent : ℕ) (context : Context) (response : Response) → context ≡ context_at common came → IsResponse s common.keys (context_at common came) from octets response
    → 0 < length (grams_of common.keys context sent response) → IsAnswer common s from octets (came ∷ sent ∷ []) (grams_of common.keys context sent response)
IsAnswer-response common s from octets came sent context response here is some = record {
  response = response;
  came = came;
  sent = sent;
  read = refl;
  is_response = is;
  made = (ap (λ (k : Context). grams_of common.keys k sent response) (sym here), some);
}

-- so many datagrams of its answer were given, and the call ends by how the giving did
pub Follows-given : (common : Common) (s : ServerState) (from : Addr) (octets readings : List ℕ) (grams : List (List ℕ)) (count : ℕ) (end : GiveEnd) (ending : Ending) → IsAnswer common s from octets readings grams
    → (end ≡ Whole → count ≡ length grams) → (end ≢ Whole → count < length grams)
    → (end ≡ Whole → ending ≡ Answered count) → (end ≡ PortFailed → ending ≡ Failed Port) → (end ≡ NoRoom → ending ≡ Failed NoMemory)
    → Follows common s ending from octets (sent_events from (take count grams)) readings
Follows-given common s from octets readings grams count Whole ending answer all cut whole failed wanting =
    let enough : length grams ≤ count = omega (arith, all refl) in
    subst (λ (e : Ending). Follows common s e from octets (sent_events from (take count grams)) readings) (sym (whole refl))
    (grams, answer, ap (sent_events from) (take_all count grams enough), all refl)
Follows-given common s from octets readings grams count PortFailed ending answer all cut whole failed wanting =
    subst (λ (e : Ending). Follows common s e from octets (sent_events from (take count grams)) readings) (sym (failed refl))
    (grams, answer, (count, cut (λ same. absurd (cc same)), refl))
Follows-given common s from octets readings grams count NoRoom ending answer all cut whole failed wanting =
    subst (λ (e : Ending). Follows common s e from octets (sent_events from (take count grams)) readings) (sym (wanting refl))
    (inr (grams, answer, (count, cut (λ same. absurd (cc same)), refl)))

-- among silences alone there is no datagram
no_datagram : (n : ℕ) (before after : List Event) (from : Addr) (octets : List ℕ) → replicate n Silence ≡ before ++ Took from octets ∷ after → ⊥
no_datagram zero [] after from octets same = absurd (cc same)
no_datagram zero (event ∷ before) after from octets same = absurd (cc same)
no_datagram (suc n) [] after from octets same = absurd (cc same)
no_datagram (suc n) (event ∷ before) after from octets same =
    let rest : replicate n Silence ≡ before ++ Took from octets ∷ after = cc in
    no_datagram n before after from octets rest

silences_only : (n : ℕ) (events : List Event) → events ≡ silences n → ¬ HasCome events
unfolding silences
silences_only n events only (before, from, octets, after, is) = no_datagram n before after from octets (sym only ∙ is)

none_came : (why : Failure) (events : List Event) → OnlySilences why events → ¬ HasCome events
none_came Quiet events only came = silences_only PATIENCE events only came
none_came Words events only came = absurd only
none_came (Conf line word) events only came = absurd only
none_came (Keys line word) events only came = absurd only
none_came TooLong events only came = absurd only
none_came Host events only came = absurd only
none_came Clock events only came = absurd only
none_came Port events only came = silences_only only.0 events only.2 came
none_came Closed events only came = silences_only only.0 events only.2 came
none_came NoMemory events only came = silences_only only.0 events only.2 came

-- where a datagram came, and neither port nor sink failed, it was served
pub IsServed-HasCome : (common : Common) (ending : Ending) (events : List Event) (readings : List ℕ) (status : Status) (faults faults' quiets quiets' : ℕ) (is_closed : Bool) (sink sink' : ℕ) (old new : Option (List ℕ)) → Happens common ending events readings → Causes ending faults faults' quiets quiets' is_closed → Reports ending status old new → (status.0 ≡ 8 → Rose 1 sink sink') → HasCome events → ¬ Rose 1 faults faults' → ¬ Rose 1 sink sink' → IsServed status
IsServed-HasCome common ending events readings status faults faults' quiets quiets' is_closed sink sink' old new happens causes (inr (inl eight, front)) failed came port_well sink_well = absurd (sink_well (failed eight))
IsServed-HasCome common ending events readings status faults faults' quiets quiets' is_closed sink sink' old new happens causes (inr (inr nine, front)) failed came port_well sink_well = inr nine
IsServed-HasCome common ending events readings status faults faults' quiets quiets' is_closed sink sink' old new (inr (why, same, only, unread)) causes (inl (is, whole)) failed came port_well sink_well = absurd (none_came why events only came)
IsServed-HasCome common (Answered count) events readings status faults faults' quiets quiets' is_closed sink sink' old new (inl comes) causes (inl (is, whole)) failed came port_well sink_well = inl is
IsServed-HasCome common (Silent why) events readings status faults faults' quiets quiets' is_closed sink sink' old new (inl comes) causes (inl (is, whole)) failed came port_well sink_well = inl is
IsServed-HasCome common (Failed NoMemory) events readings status faults faults' quiets quiets' is_closed sink sink' old new (inl comes) causes (inl (is, whole)) failed came port_well sink_well = inr is
IsServed-HasCome common (Failed Port) events readings status faults faults' quiets quiets' is_closed sink sink' old new (inl comes) causes (inl (is, whole)) failed came port_well sink_well = absurd (port_well (causes.failed refl))
IsServed-HasCome common (Failed _) events readings status faults faults' quiets quiets' is_closed sink sink' old new (inl comes) causes (inl (is, whole)) failed came port_well sink_well = absurd comes.follows
