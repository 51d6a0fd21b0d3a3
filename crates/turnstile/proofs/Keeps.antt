-- Each step of a turnstile keeps its rule.
use Rattle.std.proofs.Common.{◌≡◌, ℕ, zero, suc, ◌+◌, ◌%◌, ◌<◌, ◌≤◌, ◌≢◌, ◌⊎◌, List, [], ◌∷◌, ◌++◌, length, get_or, set, sym, refl, ap, ◌∙◌, subst, inl, inr, ⊎_elim, arith, length-append}
use Rattle.std.specs.Prelude.{None as Unknown, Some as Known, Option as Maybe}
use mathlib.Core.Logic.{dite}
use mathlib.Core.List.{IsPrefix}
use mathlib.Core.Option.{Option, none, some, some-injective, some-ne-none}
use native.Mathlib.Decide.{ℕ_discrete}
use lib.ListN.{get_elem?}
use lib.Seq.{set-get_or}
use Rattle.std.proofs.lemmas.Bool.Decides.{nat_tests}
use Rattle.atomic_table.specs.Table.{State, Me, keeps, takes, gives, put_back, rest, step, homes_after, Allows, Splits, Joins, opening, Final, Seen as SeenAt}
use Rattle.atomic_table.proofs.Lists.{at_set, set_again, set_else, at_snoc, at_longer, one_turn}
use Rattle.turnstile.specs.declared.seen.Seen.{Seen}
use Rattle.turnstile.specs.declared.seen.Stage.{Stage}
use Rattle.turnstile.specs.declared.seen.Stage.TheVariants.{Out, Waits, Has}
use Rattle.turnstile.specs.Histories.{IsHistory, state_after, times, once_below}
use Rattle.turnstile.specs.Turns.{total, tickets, HasTicket, HasTurn, AreFronts, spent, first_seen, at_stage, left_of, right_of, both_of, share_of, tickets_of, times_of, InTurn, IsAlive, IsHome, IsAway, InOneHistory, drawn, looked, read, counted, passed, Closes, IsReady, IsWaiting, IsServed, HasTaken}
use Rattle.turnstile.proofs.Sums.{total_set, total_snoc, total_le, terms_le, total_alone, prefix_refl, prefix_trans, fronts_grow, fronts_both, times_append, times_more}

-- at a changed list, the changed one and each other
pub each_set : {A : Type 0} (K : ℕ → A → Type 0) (l : List A) (i : ℕ) (w : A) → K i w → ((j : ℕ) (u : A) → j ≢ i → get_elem? l j ≡ some u → K j u)
    → (j : ℕ) (u : A) → get_elem? (set l i w) j ≡ some u → K j u
each_set {A} K l i w mine others j u e = ⊎_elim (λ (t : (j ≡ i) × (w ≡ u)). subst (λ (x : ℕ × A). K x.0 x.1) (λ k. (sym t.0 k, t.1 k)) mine)
    (λ (t : (j ≢ i) × (get_elem? l j ≡ some u)). others j u t.0 t.1) (at_set l i j w u e)

pub here_set : {A : Type 0} (l : List A) (i : ℕ) (v w : A) → get_elem? l i ≡ some v → get_elem? (set l i w) i ≡ some w
here_set [] i v w e = absurd (some-ne-none v (sym e))
here_set (x ∷ xs) zero v w e = refl
here_set (x ∷ xs) (suc i) v w e = here_set xs i v w e

tickets_small : (st : Stage) → tickets st ≤ 1
tickets_small Out = omega arith
tickets_small (Waits n) = omega arith
tickets_small (Has n) = omega arith

abbrev number_of : Stage → ℕ
number_of Out = 0
number_of (Waits n) = n
number_of (Has n) = n

none_below : (p : ℕ) → 0 ≡ once_below p 0
none_below p = grind (arith, nat_tests)

known_same : {A : Type 0} {x : Maybe A} {a b : A} → x ≡ Known a → x ≡ Known b → a ≡ b
known_same p q = cc

module _ {P : Type 0} where
  within : (journal front : List P) (served given n : ℕ) (st : Stage) → InTurn journal served given front st → HasTicket n st → (served ≤ n) × (n < given)
  within journal front served given n Out k h = absurd h
  within journal front served given n (Waits m) k h = let a = k.0 in let b = k.1 in (omega arith, omega arith)
  within journal front served given n (Has m) k h = let a = k.0 in let b = k.1 in (omega arith, omega arith)

  turn_ticket : (journal front : List P) (served given : ℕ) (st : Stage) → InTurn journal served given front st → HasTurn st → HasTicket served st
  turn_ticket journal front served given Out k h = absurd h
  turn_ticket journal front served given (Waits m) k h = absurd h
  turn_ticket journal front served given (Has m) k h = k.0

  -- a list with one more at its end, taken apart at some place
  last_or : (a b rest : List P) (x y : P) → a ++ x ∷ [] ≡ b ++ y ∷ rest → ((a ≡ b) × (x ≡ y)) ⊎ ((more : List P) × (a ≡ b ++ y ∷ more))
  last_or [] [] rest x y e = inl (refl, cc)
  last_or [] (b ∷ bs) rest x y e = absurd (omega (arith, ap length e, length-append bs (y ∷ rest)))
  last_or (a ∷ xs) [] rest x y e = let same : a ≡ y = cc in inr (xs, λ i. same i ∷ xs)
  last_or (a ∷ xs) (b ∷ bs) rest x y e =
      let tails : xs ++ x ∷ [] ≡ bs ++ y ∷ rest = cc in let heads : a ≡ b = cc in
      ⊎_elim (λ (t : (xs ≡ bs) × (x ≡ y)). inl ((λ i. heads i ∷ t.0 i), t.1)) (λ (t : (more : List P) × (xs ≡ bs ++ y ∷ more)). inr (t.0, λ i. heads i ∷ t.1 i)) (last_or xs bs rest x y tails)

  -- one more ticket is out
  more_given : (journal front : List P) (served given : ℕ) (st : Stage) → InTurn journal served given front st → InTurn journal served (given + 1) front st
  more_given journal front served given Out k = tt
  more_given journal front served given (Waits m) k = let a = k.1 in (k.0, omega arith)
  more_given journal front served given (Has m) k = let a = k.1 in (k.0, omega arith, k.2)

  -- who has not the ticket that is served stands as before, whatever the history is
  not_served : (journal journal' front : List P) (served served' given : ℕ) (st : Stage) → served' ≤ served + 1 → (HasTicket served st → ⊥) → InTurn journal served given front st → InTurn journal' served' given front st
  not_served journal journal' front served served' given Out l ne k = tt
  not_served journal journal' front served served' given (Waits m) l ne k = let a = k.0 in let b : m ≢ served = ne in (omega arith, k.1)
  not_served journal journal' front served served' given (Has m) l ne k = absurd (ne k.0)

module _ {O P S F : Type 0} (journal_of : O → List P) (state_of : O → S) (next : S → P → S) (refusal : S → List P → P → Maybe F) where
  abbrev V : Type 0
  V = Seen P S

  abbrev St : Type 0
  St = State O V

  abbrev M : Type 0
  M = Me O V

  abbrev Rule : St → Type 0
  Rule = InOneHistory journal_of state_of next refusal

  abbrev Place : S → List P → St → Type 0
  Place o j s = IsHome journal_of state_of next refusal o j s ⊎ IsAway journal_of state_of next refusal s

  -- a view with a share is alive
  alive : (s : St) (r : Rule s) (j : ℕ) (v : V) → get_elem? s.views j ≡ some v → 1 ≤ v.share → IsAlive r.opening r.journal r.served r.given v
  alive s r j v at some_share = ⊎_elim (λ (e : v ≡ spent). let z : v.share ≡ 0 = ap share_of e in absurd (omega arith)) (λ (a : IsAlive r.opening r.journal r.served r.given v). a) (r.each j v at)

  -- each stands in turn, and who is spent is out
  in_turn : (s : St) (r : Rule s) (j : ℕ) (v : V) → get_elem? s.views j ≡ some v → InTurn r.journal r.served r.given v.front v.stage
  in_turn s r j v at = ⊎_elim (λ (e : v ≡ spent). subst (λ (u : V). InTurn r.journal r.served r.given u.front u.stage) (sym e) tt) (λ (a : IsAlive r.opening r.journal r.served r.given v). a.in_turn) (r.each j v at)

  -- a step of one who is alive, after which the words, the homes and its view are these
  moved : (s : St) (r : Rule s) (id : ℕ) (v w : V) (ws : List ℕ) (hs : List (Option O)) (journal : List P) (served given : ℕ)
      → get_elem? s.views id ≡ some v
      → ws ≡ given % 18446744073709551616 ∷ served % 18446744073709551616 ∷ length journal ∷ []
      → (served + tickets w.stage) + r.given ≡ (r.served + tickets v.stage) + given
      → w.share ≡ v.share
      → IsAlive r.opening journal served given w
      → IsPrefix r.journal journal
      → ((j : ℕ) (u : V) → j ≢ id → get_elem? s.views j ≡ some u → InTurn journal served given u.front u.stage)
      → ((j n : ℕ) (u : V) → j ≢ id → get_elem? s.views j ≡ some u → HasTicket n u.stage → HasTicket n w.stage → ⊥)
      → Place r.opening journal record { words = ws; homes = hs; views = set s.views id w }
      → ((place : ℕ) → times place w.own + once_below place (length r.journal) ≡ times place v.own + once_below place (length journal))
      → IsHistory next refusal r.opening journal
      → length journal < 9223372036854775808
      → Rule record { words = ws; homes = hs; views = set s.views id w }
  moved s r id v w ws hs journal served given at words balance share mine grows others fresh place own legal short = record {
    opening = r.opening;
    journal = journal;
    served = served;
    given = given;
    words = words;
    few = let a = total_set tickets_of s.views id v w at in let b = r.few in omega arith;
    whole = let a = total_set share_of s.views id v w at in let b = r.whole in omega arith;
    each = each_set (λ j u. (u ≡ spent) ⊎ IsAlive r.opening journal served given u) s.views id w (inr mine) (λ j u ne e. ⊎_elim (λ (z : u ≡ spent). inl z)
        (λ (a : IsAlive r.opening r.journal r.served r.given u). inr record {
          some_share = a.some_share;
          opened = a.opened;
          seen = prefix_trans u.front r.journal journal a.seen grows;
          heard = fronts_grow r.journal journal u.heard grows a.heard;
          in_turn = others j u ne e;
        }) (r.each j u e));
    apart = λ j k n u x. each_set (λ j' u'. get_elem? (set s.views id w) k ≡ some x → HasTicket n u'.stage → HasTicket n x.stage → j' ≡ k) s.views id w
        (λ e h g. each_set (λ k' x'. HasTicket n x'.stage → id ≡ k') s.views id w (λ _. refl) (λ k' x' ne e' g'. absurd (fresh k' n x' ne e' g' h)) k x e g)
        (λ j' u' ne e e' h g. each_set (λ k' x'. HasTicket n x'.stage → j' ≡ k') s.views id w (λ g'. absurd (fresh j' n u' ne e h g')) (λ k' x' ne' d g'. r.apart j' k' n u' x' e d h g') k x e' g) j u;
    place = place;
    once = λ p. let a = total_set (times_of p) s.views id v w at in let b = r.once p in let c = own p in omega arith;
    legal = legal;
    short = short;
  }

  words_at : (s : St) (r : Rule s) (i : ℕ) → get_or s.words i 0 ≡ get_or (r.given % 18446744073709551616 ∷ r.served % 18446744073709551616 ∷ length r.journal ∷ []) i 0
  words_at s r i = ap (λ l. get_or l i 0) r.words

  pub draws : (slots id : ℕ) (me : M) → IsReady me → Allows Rule slots id me 0 (λ n. (n + 1) % 18446744073709551616) (drawn (step slots 0 1 0 none) me)
  draws slots id me ready s r _ at _ =
      let v : V = me.0 in let w : V = at_stage (Waits r.given) v in let a = alive s r id v at ready.some_share in let few = r.few in
      let found : get_or s.words 0 0 ≡ r.given % 18446744073709551616 = words_at s r 0 in
      let nothing : HasTurn v.stage → ⊥ = λ h. subst HasTurn ready.is_out h in (
        w,
        keeps,
        tt,
        moved s r id v w _ s.homes r.journal r.served (r.given + 1) at
            (ap (λ l. set l 0 ((get_or l 0 0 + 1) % 18446744073709551616)) r.words ∙ (λ i. (let e : (r.given % 18446744073709551616 + 1) % 18446744073709551616 ≡ (r.given + 1) % 18446744073709551616 = omega arith in e i) ∷ r.served % 18446744073709551616 ∷ length r.journal ∷ []))
            (let e : tickets v.stage ≡ 0 = ap tickets ready.is_out in omega arith)
            refl
            record { some_share = a.some_share; opened = a.opened; seen = a.seen; heard = a.heard; in_turn = (omega arith, omega arith) }
            (prefix_refl r.journal)
            (λ j u ne e. more_given r.journal u.front r.served r.given u.stage (in_turn s r j u e))
            (λ j n u ne e h g. let b = within r.journal u.front r.served r.given n u.stage (in_turn s r j u e) h in let c : n < r.given = b.1 in let d : r.given ≡ n = g in omega arith)
            (⊎_elim
            (λ (h : IsHome journal_of state_of next refusal r.opening r.journal s). inl record {
              object = h.object;
              there = h.there;
              journal_is = h.journal_is;
              state_is = h.state_is;
              nobody = each_set (λ _ u. HasTurn u.stage → ⊥) s.views id w (λ x. x) (λ j u ne e. h.nobody j u e);
            })
            (λ (h : IsAway journal_of state_of next refusal s). inr record {
              holder = h.holder;
              view = h.view;
              at = set_else s.views id h.holder w (λ e. nothing (subst (λ (u : V). HasTurn u.stage) (some-injective h.view v (sym h.at ∙ (ap (get_elem? s.views) e ∙ at))) h.has_turn)) ∙ h.at;
              has_turn = h.has_turn;
              gone = h.gone;
            }) r.place)
            (λ p. refl)
            r.legal r.short,
        (r.given, found, refl),
      )

  few_out : (s : St) (r : Rule s) → r.given ≤ r.served + 4294967296
  few_out s r =
      let a = total_le tickets_of share_of s.views (λ j v at. ⊎_elim (λ (e : v ≡ spent). let z : tickets v.stage ≡ 0 = ap tickets_of e in omega arith)
      (λ (k : IsAlive r.opening r.journal r.served r.given v). let one = tickets_small v.stage in let b = k.some_share in omega arith) (r.each j v at)) in
      let few = r.few in let whole = r.whole in omega arith

  -- a step that changes nothing
  unmoved : (s : St) (i id : ℕ) (v : V) → get_elem? s.views id ≡ some v → Rule s → Rule record { words = set s.words i (get_or s.words i 0); homes = s.homes; views = set s.views id v }
  unmoved s i id v at r = subst (λ (x : List ℕ × List V). Rule record { words = x.0; homes = s.homes; views = x.1 }) (λ k. (sym (set-get_or s.words i 0) k, sym (set_again s.views id v at) k)) r

  pub looks : (slots id ticket : ℕ) (me : M) → IsWaiting ticket me → Allows Rule slots id me 1 (λ n. n) (looked journal_of state_of next (step slots 1 0 0 none) me)
  looks slots id ticket me h s r _ at _ =
      let v : V = me.0 in let n : ℕ = h.number in let a = alive s r id v at h.some_share in
      let found : get_or s.words 1 0 ≡ r.served % 18446744073709551616 = words_at s r 1 in
      let turn : (r.served ≤ n) × (n < r.given) = subst (InTurn r.journal r.served r.given v.front) h.waits a.in_turn in
      dite (ℕ_discrete (get_or s.words 1 0) (n % 18446744073709551616))
      (λ hit. let few = few_out s r in let low = turn.0 in let high = turn.1 in
      let is : r.served ≡ n = one_turn r.served n 18446744073709551616 low (omega arith) (sym found ∙ hit) in
      let mine : HasTicket r.served v.stage = subst (HasTicket r.served) (sym h.waits) (sym is) in
      ⊎_elim
      (λ (home : IsHome journal_of state_of next refusal r.opening r.journal s).
      let w : V = record v { stage = Has n; front = journal_of home.object } in (
        w,
        takes 0 home.object,
        ap (λ l. get_elem? l 0) home.there,
        moved s r id v w _ _ r.journal r.served r.given at
            (ap (λ l. set l 1 (get_or l 1 0)) r.words)
            (let e : tickets v.stage ≡ 1 = ap tickets h.waits in omega arith)
            refl
            record {
              some_share = a.some_share;
              opened = a.opened;
              seen = subst (λ l. IsPrefix (journal_of home.object) l) home.journal_is (prefix_refl (journal_of home.object));
              heard = a.heard;
              in_turn = (sym is, omega arith, home.journal_is);
            }
            (prefix_refl r.journal)
            (λ j u ne e. in_turn s r j u e)
            (λ j m u ne e k g. ne (r.apart j id m u v e at k (subst (HasTicket m) (sym h.waits) g)))
            (inr record {
              holder = id;
              view = w;
              at = here_set s.views id v w at;
              has_turn = tt;
              gone = ap (λ l. set l 0 none) home.there;
            })
            (λ p. refl)
            r.legal r.short,
        λ n' e nothing. (
          (λ miss. absurd (miss (hit ∙ ap (λ (z : ℕ). z % 18446744073709551616) (ap number_of (sym h.waits ∙ e))))),
          λ _. record {
            number = n;
            object = home.object;
            now = λ i. (w, (0, home.object) ∷ nothing i);
            grows = subst (λ l. IsPrefix v.front l) (sym home.journal_is) a.seen;
            state_is = λ o is_open. let same : r.opening ≡ o = known_same a.opened is_open in home.state_is ∙ (λ i. state_after next (same i) (sym home.journal_is i));
          },
        ),
      ))
      (λ (away : IsAway journal_of state_of next refusal s).
      let held = in_turn s r away.holder away.view away.at in
      let same : away.holder ≡ id = r.apart away.holder id r.served away.view v away.at at (turn_ticket r.journal away.view.front r.served r.given away.view.stage held away.has_turn) mine in
      let view_is : away.view ≡ v = some-injective away.view v (sym away.at ∙ (ap (get_elem? s.views) same ∙ at)) in
      absurd (subst HasTurn (ap (λ (u : V). u.stage) view_is ∙ h.waits) away.has_turn))
      r.place)
      (λ miss. (
        v,
        keeps,
        tt,
        unmoved s 1 id v at r,
        λ n' e nothing. ((λ _. refl), λ hit. absurd (miss (hit ∙ ap (λ (z : ℕ). z % 18446744073709551616) (ap number_of (sym e ∙ h.waits))))),
      ))

  pub reads : (slots id n : ℕ) (me : M) → me.0.stage ≡ Has n → 1 ≤ me.0.share → Allows Rule slots id me 2 (λ x. x) (read (step slots 2 0 0 none) me)
  reads slots id n me has some_share s r _ at _ =
      let v : V = me.0 in let a = alive s r id v at some_share in
      let turn : (n ≡ r.served) × (r.served < r.given) × (v.front ≡ r.journal) = subst (InTurn r.journal r.served r.given v.front) has a.in_turn in
      (v, keeps, tt, unmoved s 2 id v at r, λ n' e. (words_at s r 2 ∙ ap length (sym turn.2), refl))

  legal_more : (o : S) (journal : List P) (op : P) → IsHistory next refusal o journal → refusal (state_after next o journal) journal op ≡ Unknown → IsHistory next refusal o (journal ++ op ∷ [])
  legal_more o journal op legal last front x rest e =
      ⊎_elim (λ (t : (journal ≡ front) × (op ≡ x)). subst (λ (z : List P × P). refusal (state_after next o z.0) z.0 z.1 ≡ Unknown) (λ i. (t.0 i, t.1 i)) last)
      (λ (t : (more : List P) × (journal ≡ front ++ x ∷ more)). legal front x t.0 t.1) (last_or journal front rest op x e)

  pub counts : (slots id : ℕ) (me : M) → HasTaken journal_of next refusal me → Allows Rule slots id me 2 (λ n. (n + 1) % 18446744073709551616) (counted journal_of (step slots 2 1 0 none) me)
  counts slots id me h s r _ at _ =
      let v : V = me.0 in let n : ℕ = h.number in let a = alive s r id v at h.some_share in
      let found : get_or s.words 2 0 ≡ length r.journal = words_at s r 2 in
      let turn : (n ≡ r.served) × (r.served < r.given) × (v.front ≡ r.journal) = subst (InTurn r.journal r.served r.given v.front) h.has a.in_turn in
      let longer : journal_of h.object ≡ r.journal ++ h.op ∷ [] = h.journal_is ∙ ap (λ l. l ++ h.op ∷ []) turn.2 in
      let size : length (journal_of h.object) ≡ length r.journal + 1 = ap length longer ∙ length-append r.journal (h.op ∷ []) in
      let short = h.short in
      let mine : HasTicket r.served v.stage = subst (HasTicket r.served) (sym h.has) turn.0 in
      let mine_turn : HasTurn v.stage = subst HasTurn (sym h.has) tt in
      let w : V = record v { front = journal_of h.object; own = v.own ++ get_or s.words 2 0 ∷ [] } in (
        w,
        keeps,
        tt,
        moved s r id v w _ s.homes (journal_of h.object) r.served r.given at
            (ap (λ l. set l 2 ((get_or l 2 0 + 1) % 18446744073709551616)) r.words
            ∙ (λ i. r.given % 18446744073709551616 ∷ r.served % 18446744073709551616 ∷ (let e : (length r.journal + 1) % 18446744073709551616 ≡ length (journal_of h.object) = omega arith in e i) ∷ []))
            refl refl
            record {
              some_share = a.some_share;
              opened = a.opened;
              seen = prefix_refl (journal_of h.object);
              heard = fronts_grow r.journal (journal_of h.object) v.heard (h.op ∷ [], sym longer) a.heard;
              in_turn = subst (InTurn (journal_of h.object) r.served r.given (journal_of h.object)) (sym h.has) (turn.0, turn.1, refl);
            }
            (h.op ∷ [], sym longer)
            (λ j u ne e. not_served r.journal (journal_of h.object) u.front r.served r.served r.given u.stage (omega arith) (λ k. ne (r.apart j id r.served u v e at k mine)) (in_turn s r j u e))
            (λ j m u ne e k g. ne (r.apart j id m u v e at k g))
            (⊎_elim
            (λ (home : IsHome journal_of state_of next refusal r.opening r.journal s). absurd (home.nobody id v at mine_turn))
            (λ (away : IsAway journal_of state_of next refusal s). inr record {
              holder = id;
              view = w;
              at = here_set s.views id v w at;
              has_turn = mine_turn;
              gone = away.gone;
            }) r.place)
            (λ p. let more = times_more p (get_or s.words 2 0) v.own in let e = ap (once_below p) found in let e' = ap (once_below p) (sym size) in let e'' = ap (λ z. once_below p (z + 1)) found in omega arith)
            (subst (IsHistory next refusal r.opening) (sym longer) (legal_more r.opening r.journal h.op r.legal
            (subst (λ l. refusal (state_after next r.opening l) l h.op ≡ Unknown) turn.2 (h.open_ r.opening a.opened))))
            short,
        λ object holds. let same : h.object ≡ object = ap (λ (c : List (ℕ × O)). (get_or {A = ℕ × O} c 0 (0, object)).1) (sym h.holds ∙ holds) in
            (found ∙ ap length (sym turn.2), λ i. (record v { front = journal_of (same i); own = v.own ++ get_or s.words 2 0 ∷ [] }, me.1)),
      )

  pub passes : (slots id : ℕ) (me : M) → IsServed journal_of state_of next me → Allows Rule slots id me 1 (λ n. (n + 1) % 18446744073709551616) (passed (step slots 1 1 0 none) me)
  passes slots id me h s r _ at _ =
      let v : V = me.0 in let n : ℕ = h.number in let a = alive s r id v at h.some_share in
      let turn : (n ≡ r.served) × (r.served < r.given) × (v.front ≡ r.journal) = subst (InTurn r.journal r.served r.given v.front) h.has a.in_turn in
      let mine : HasTicket r.served v.stage = subst (HasTicket r.served) (sym h.has) turn.0 in
      let mine_turn : HasTurn v.stage = subst HasTurn (sym h.has) tt in
      let w : V = at_stage Out v in (
        w,
        gives,
        tt,
        moved s r id v w _ (homes_after s.homes me.1 gives) r.journal (r.served + 1) r.given at
            (ap (λ l. set l 1 ((get_or l 1 0 + 1) % 18446744073709551616)) r.words
            ∙ (λ i. r.given % 18446744073709551616 ∷ (let e : (r.served % 18446744073709551616 + 1) % 18446744073709551616 ≡ (r.served + 1) % 18446744073709551616 = omega arith in e i) ∷ length r.journal ∷ []))
            (let e : tickets v.stage ≡ 1 = ap tickets h.has in omega arith)
            refl
            record { some_share = a.some_share; opened = a.opened; seen = a.seen; heard = a.heard; in_turn = tt }
            (prefix_refl r.journal)
            (λ j u ne e. not_served r.journal r.journal u.front r.served (r.served + 1) r.given u.stage (omega arith) (λ k. ne (r.apart j id r.served u v e at k mine)) (in_turn s r j u e))
            (λ j m u ne e k g. g)
            (⊎_elim
            (λ (home : IsHome journal_of state_of next refusal r.opening r.journal s). absurd (home.nobody id v at mine_turn))
            (λ (away : IsAway journal_of state_of next refusal s). inl record {
              object = h.object;
              there = ap (put_back s.homes) h.holds ∙ ap (λ l. set l 0 (some h.object)) away.gone;
              journal_is = h.journal_is ∙ turn.2;
              state_is = h.state_is r.opening a.opened ∙ ap (state_after next r.opening) turn.2;
              nobody = each_set (λ _ u. HasTurn u.stage → ⊥) s.views id w (λ x. x)
                  (λ j u ne e k. ne (r.apart j id r.served u v e at (turn_ticket r.journal u.front r.served r.given u.stage (in_turn s r j u e) k) mine));
            }) r.place)
            (λ p. refl)
            r.legal r.short,
        λ i. (w, rest (h.holds i)),
      )

  -- views that differ only where nobody has a ticket
  rearranged : (s : St) (r : Rule s) (views : List V) → total tickets_of views ≡ total tickets_of s.views → total share_of views ≡ total share_of s.views
      → ((p : ℕ) → total (times_of p) views ≡ total (times_of p) s.views)
      → ((j : ℕ) (u : V) → get_elem? views j ≡ some u → (u ≡ spent) ⊎ IsAlive r.opening r.journal r.served r.given u)
      → ((j : ℕ) (u : V) → get_elem? views j ≡ some u → (u.stage ≡ Out) ⊎ ((x : V) × (get_elem? s.views j ≡ some x) × (x.stage ≡ u.stage)))
      → ((j : ℕ) (x : V) → get_elem? s.views j ≡ some x → (x.stage ≡ Out) ⊎ ((u : V) × (get_elem? views j ≡ some u) × (u.stage ≡ x.stage)))
      → Rule record { words = s.words; homes = s.homes; views = views }
  rearranged s r views same-tickets same-shares same-times each back forth =
      let ticket : (j n : ℕ) (u : V) → get_elem? views j ≡ some u → HasTicket n u.stage → (x : V) × (get_elem? s.views j ≡ some x) × HasTicket n x.stage =
      λ j n u e h. ⊎_elim (λ (z : u.stage ≡ Out). absurd (subst (HasTicket n) z h)) (λ (t : (x : V) × (get_elem? s.views j ≡ some x) × (x.stage ≡ u.stage)). (t.0, t.1, subst (HasTicket n) (sym t.2) h)) (back j u e) in
      record {
        opening = r.opening;
        journal = r.journal;
        served = r.served;
        given = r.given;
        words = r.words;
        few = ap (λ z. r.served + z) same-tickets ∙ r.few;
        whole = same-shares ∙ r.whole;
        each = each;
        apart = λ j k n u w e d h g. let x = ticket j n u e h in let y = ticket k n w d g in r.apart j k n x.0 y.0 x.1 y.1 x.2 y.2;
        place = ⊎_elim
            (λ (home : IsHome journal_of state_of next refusal r.opening r.journal s). inl record {
              object = home.object;
              there = home.there;
              journal_is = home.journal_is;
              state_is = home.state_is;
              nobody = λ j u e h. ⊎_elim (λ (z : u.stage ≡ Out). subst HasTurn z h) (λ (t : (x : V) × (get_elem? s.views j ≡ some x) × (x.stage ≡ u.stage)). home.nobody j t.0 t.1 (subst HasTurn (sym t.2) h)) (back j u e);
            })
            (λ (away : IsAway journal_of state_of next refusal s).
            ⊎_elim (λ (z : away.view.stage ≡ Out). absurd (subst HasTurn z away.has_turn)) (λ (t : (u : V) × (get_elem? views away.holder ≡ some u) × (u.stage ≡ away.view.stage)). inr record {
              holder = away.holder;
              view = t.0;
              at = t.1;
              has_turn = subst HasTurn (sym t.2) away.has_turn;
              gone = away.gone;
            }) (forth away.holder away.view away.at)) r.place;
        once = λ p. same-times p ∙ r.once p;
        legal = r.legal;
        short = r.short;
      }

  -- the same view at the same place
  at_one : (l : List V) (i j : ℕ) (v u : V) → get_elem? l i ≡ some v → get_elem? l j ≡ some u → j ≡ i → u ≡ v
  at_one l i j v u e d same = some-injective u v (sym d ∙ (ap (get_elem? l) same ∙ e))

  pub splits : (id : ℕ) (v : V) → v.stage ≡ Out → 2 ≤ v.share → Splits Rule id v (left_of v) (right_of v)
  splits id v is_out enough s r at =
      let a = alive s r id v at (omega arith) in let w : V = left_of v in let new : V = right_of v in let l : List V = set s.views id w in
      rearranged s r (l ++ new ∷ [])
      (let x = total_set tickets_of s.views id v w at in let y = total_snoc tickets_of l new in omega arith)
      (let x = total_set share_of s.views id v w at in let y = total_snoc share_of l new in omega arith)
      (λ p. let x = total_set (times_of p) s.views id v w at in let y = total_snoc (times_of p) l new in omega arith)
      (λ j u e. ⊎_elim
      (each_set (λ _ x. (x ≡ spent) ⊎ IsAlive r.opening r.journal r.served r.given x) s.views id w
      (inr record { some_share = omega arith; opened = a.opened; seen = a.seen; heard = a.heard; in_turn = a.in_turn })
      (λ k x ne d. r.each k x d) j u)
      (λ (t : new ≡ u). inr (subst (IsAlive r.opening r.journal r.served r.given) t record { some_share = omega arith; opened = a.opened; seen = a.seen; heard = tt; in_turn = tt }))
      (at_snoc l new u j e))
      (λ j u e. ⊎_elim
      (each_set (λ k x. (x.stage ≡ Out) ⊎ ((y : V) × (get_elem? s.views k ≡ some y) × (y.stage ≡ x.stage))) s.views id w
      (inr (v, at, refl)) (λ k x ne d. inr (x, d, refl)) j u)
      (λ (t : new ≡ u). inl (ap (λ (x : V). x.stage) (sym t)))
      (at_snoc l new u j e))
      (λ j x e. dite (ℕ_discrete j id)
      (λ same. inl (ap (λ (y : V). y.stage) (at_one s.views id j v x at e same) ∙ is_out))
      (λ ne. inr (x, at_longer l (new ∷ []) j x (set_else s.views id j w ne ∙ e), refl)))

  pub joins : (id : ℕ) (v : V) (other : ℕ) (w : V) → v.stage ≡ Out → w.stage ≡ Out → 1 ≤ v.share → 1 ≤ w.share → Joins Rule id v other w (both_of v w) spent
  joins id v other w v_out w_out v_share w_share s r at ne there =
      let a = alive s r id v at v_share in let both : V = both_of v w in let l : List V = set s.views id both in
      let at_w : get_elem? s.views other ≡ some w = sym (set_else s.views id other both ne) ∙ there in
      let b = alive s r other w at_w w_share in
      rearranged s r (set l other spent)
      (let x = total_set tickets_of s.views id v both at in let y = total_set tickets_of l other w spent there in let z : tickets w.stage ≡ 0 = ap tickets w_out in omega arith)
      (let x = total_set share_of s.views id v both at in let y = total_set share_of l other w spent there in omega arith)
      (λ p. let x = total_set (times_of p) s.views id v both at in let y = total_set (times_of p) l other w spent there in let z = times_append p v.own w.own in omega arith)
      (each_set (λ _ x. (x ≡ spent) ⊎ IsAlive r.opening r.journal r.served r.given x) l other spent (inl refl)
      (λ j u _ e. each_set (λ _ x. (x ≡ spent) ⊎ IsAlive r.opening r.journal r.served r.given x) s.views id both
      (inr record {
        some_share = omega arith;
        opened = a.opened;
        seen = a.seen;
        heard = (b.seen, fronts_both r.journal w.heard v.heard b.heard a.heard);
        in_turn = a.in_turn;
      })
      (λ k x _ d. r.each k x d) j u e))
      (each_set (λ k x. (x.stage ≡ Out) ⊎ ((y : V) × (get_elem? s.views k ≡ some y) × (y.stage ≡ x.stage))) l other spent (inl refl)
      (λ j u _ e. each_set (λ k x. (x.stage ≡ Out) ⊎ ((y : V) × (get_elem? s.views k ≡ some y) × (y.stage ≡ x.stage))) s.views id both
      (inr (v, at, refl)) (λ k x _ d. inr (x, d, refl)) j u e))
      (λ j x e. dite (ℕ_discrete j id)
      (λ same. inl (ap (λ (y : V). y.stage) (at_one s.views id j v x at e same) ∙ v_out))
      (λ n. dite (ℕ_discrete j other)
      (λ same. inl (ap (λ (y : V). y.stage) (at_one s.views other j w x at_w e same) ∙ w_out))
      (λ m. inr (x, set_else l other j spent m ∙ (set_else s.views id j both n ∙ e), refl))))

  -- where one seat has all shares, the object is at home
  pub closes : (id : ℕ) (v : V) (ws : List ℕ) (xs : List O) (object : O) → Final (SeenAt Rule id v) ws xs → v.stage ≡ Out → v.share ≡ 4294967296 → get_elem? xs 0 ≡ some object → Closes journal_of state_of next refusal v object
  closes id v ws xs object final is_out all_shares there =
      let s : St = final.0 in let r : Rule s = final.1.0 in let at : get_elem? s.views id ≡ some v = final.1.1 in
      let a = alive s r id v at (omega arith) in
      let others : (k : ℕ) (u : V) → k ≢ id → get_elem? s.views k ≡ some u → u ≡ spent = λ k u ne e. ⊎_elim (λ (z : u ≡ spent). z)
      (λ (b : IsAlive r.opening r.journal r.served r.given u). let two = terms_le share_of s.views id k v u ne at e in let one = b.some_share in let whole = r.whole in absurd (omega arith)) (r.each k u e) in
      ⊎_elim
      (λ (home : IsHome journal_of state_of next refusal r.opening r.journal s).
      let same : home.object ≡ object = some-injective home.object object (sym (final.4 0 home.object (ap (λ l. get_elem? l 0) home.there)) ∙ there) in
      let journal_is : journal_of object ≡ r.journal = ap journal_of (sym same) ∙ home.journal_is in record {
        state_is = λ o is_open. let e : r.opening ≡ o = known_same a.opened is_open in ap state_of (sym same) ∙ (home.state_is ∙ (λ i. state_after next (e i) (sym journal_is i)));
        legal = λ o is_open. let e : r.opening ≡ o = known_same a.opened is_open in subst (λ (z : S × List P). IsHistory next refusal z.0 z.1) (λ i. (e i, sym journal_is i)) r.legal;
        seen = subst (IsPrefix v.front) (sym journal_is) a.seen;
        heard = subst (λ l. AreFronts l v.heard) (sym journal_is) a.heard;
        once = λ p. sym (total_alone (times_of p) s.views id v at (λ k u ne e. ap (times_of p) (others k u ne e))) ∙ (r.once p ∙ ap (λ l. once_below p (length l)) (sym journal_is));
        short = subst (λ l. length l < 9223372036854775808) (sym journal_is) r.short;
      })
      (λ (away : IsAway journal_of state_of next refusal s). dite (ℕ_discrete away.holder id)
      (λ e. absurd (subst HasTurn (ap (λ (u : V). u.stage) (at_one s.views id away.holder v away.view at away.at e) ∙ is_out) away.has_turn))
      (λ ne. absurd (subst HasTurn (ap (λ (u : V). u.stage) (others away.holder away.view ne away.at)) away.has_turn)))
      r.place

  only_at : (K : V → Type 0) (first : V) → K first → (j : ℕ) (v : V) → get_elem? (first ∷ []) j ≡ some v → K v
  only_at K first k zero v e = subst K (some-injective first v e) k
  only_at K first k (suc j) v e = absurd (some-ne-none v (sym e))

  -- the table at the start
  pub begins : (object : O) → journal_of object ≡ [] → Rule (opening (0 ∷ 0 ∷ 0 ∷ []) (object ∷ []) (first_seen (state_of object)))
  begins object fresh = let first : V = first_seen (state_of object) in record {
    opening = state_of object;
    journal = [];
    served = 0;
    given = 0;
    words = refl;
    few = refl;
    whole = refl;
    each = λ j v e. inr (only_at (IsAlive (state_of object) [] 0 0) first record { some_share = omega arith; opened = refl; seen = prefix_refl []; heard = tt; in_turn = tt } j v e);
    apart = λ j k n v w e d h g. absurd (only_at (λ u. HasTicket n u.stage → ⊥) first (λ x. x) j v e h);
    place = inl record {
      object = object;
      there = refl;
      journal_is = fresh;
      state_is = refl;
      nobody = only_at (λ u. HasTurn u.stage → ⊥) first (λ x. x);
    };
    once = none_below;
    legal = λ front op more e. absurd (omega (arith, ap length e, length-append front (op ∷ more)));
    short = omega arith;
  }
