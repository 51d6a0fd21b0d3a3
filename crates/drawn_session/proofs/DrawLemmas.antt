-- Datagrams that are drawn one after another, and the readings of a clock.
use Rattle.std.proofs.Common.{◌≡◌, ℕ, suc, ◌+◌, ◌-◌, ◌*◌, ◌<◌, Bool, true, false, cond, List, [], ◌∷◌, ◌++◌, refl, sym, ap, subst, ◌∙◌, arith}
use Rattle.std.specs.List.{AllByRecursion, filter, range_with_len}
use Rattle.std.specs.Prelude.{map}
use Rattle.std.proofs.lemmas.List.FromFn.{map-range_with_len_more}
use Rattle.drawn_session.specs.Sessions.{reading_of, readings}
use Rattle.drawn_session.specs.declared.opening.TheConstants.{READINGS, TICK}
use Rattle.std.proofs.lemmas.List.{append-nil, append_assoc}
use Rattle.std.proofs.lemmas.List.Elements.{filter-append}
use Rattle.recency.proofs.ListLemmas.{AllByRecursion-append}
use Rattle.drawn_session.specs.Datagrams.{IsDrawn, datagram_at, datagrams_for, datagrams_from, datagrams_of, is_for, state_behind, state_behind_one}
use Rattle.drawn_session.specs.declared.datagrams.DrawnDatagram.{DrawnDatagram}
use Rattle.drawn_session.specs.declared.datagrams.TheConstants.{DATAGRAMS}

-- of those from a place on, one is the first
left-one : (limit place : ℕ) → place < limit → limit - place ≡ suc (limit - (place + 1))
left-one limit place below = omega (arith, below)

left-none : (limit place : ℕ) → ¬ (place < limit) → limit - place ≡ 0
left-none limit place not_below = omega (arith, not_below)

-- the state behind all of them is the one behind those after the first
pub state_behind-next : (limit place x : ℕ) → place < limit → state_behind (limit - place) x ≡ state_behind (limit - (place + 1)) (state_behind_one x)
unfolding state_behind
state_behind-next limit place x below = ap (λ n. state_behind n x) (left-one limit place below)

pub state_behind-end : (limit place x : ℕ) → ¬ (place < limit) → state_behind (limit - place) x ≡ x
unfolding state_behind
state_behind-end limit place x end = ap (λ n. state_behind n x) (left-none limit place end)

-- the first of them is drawn, and then the others
pub datagrams_from-next : (limit place x : ℕ) → place < limit → datagrams_from (limit - place) place x ≡ datagram_at place x ∷ datagrams_from (limit - (place + 1)) (place + 1) (state_behind_one x)
unfolding datagrams_from
datagrams_from-next limit place x below = ap (λ n. datagrams_from n place x) (left-one limit place below)

pub datagrams_from-end : (limit place x : ℕ) → ¬ (place < limit) → datagrams_from (limit - place) place x ≡ []
unfolding datagrams_from
datagrams_from-end limit place x end = ap (λ n. datagrams_from n place x) (left-none limit place end)

-- all that go to a host are those of all datagrams
pub datagrams_for-all : (number host : ℕ) → filter (is_for host) (datagrams_from DATAGRAMS 0 number) ≡ datagrams_for number host
unfolding datagrams_for datagrams_of
datagrams_for-all number host = refl

-- those found before a place, and that of the place, and those of the datagrams after it are all, if they were so before
pub found-next : (host limit place x : ℕ) (found all : List DrawnDatagram) (d : DrawnDatagram) → place < limit → d ≡ datagram_at place x
    → found ++ filter (is_for host) (datagrams_from (limit - place) place x) ≡ all
    → (found ++ filter (is_for host) (d ∷ [])) ++ filter (is_for host) (datagrams_from (limit - (place + 1)) (place + 1) (state_behind_one x)) ≡ all
found-next host limit place x found all d below d_is before =
    let rest = datagrams_from (limit - (place + 1)) (place + 1) (state_behind_one x) in
    append_assoc found (filter (is_for host) (d ∷ [])) (filter (is_for host) rest)
    ∙ ap (λ (them : List DrawnDatagram). found ++ them)
    (sym (filter-append (is_for host) (d ∷ []) rest)
    ∙ ap (λ (it : DrawnDatagram). filter (is_for host) (it ∷ rest)) d_is
    ∙ ap (filter (is_for host)) (sym (datagrams_from-next limit place x below)))
    ∙ before

-- each of these and one more is drawn
pub drawn-next : (host : ℕ) (found : List DrawnDatagram) (d : DrawnDatagram) → IsDrawn d → AllByRecursion IsDrawn found → AllByRecursion IsDrawn (found ++ filter (is_for host) (d ∷ []))
drawn-next host found d drawn each = kept (is_for host d) where
  kept : (goes : Bool) → AllByRecursion IsDrawn (found ++ (cond goes (d ∷ []) []))
  kept true = AllByRecursion-append IsDrawn found (d ∷ []) each (drawn, tt)
  kept false = subst (AllByRecursion IsDrawn) (sym (append-nil found)) each

-- the readings before a number, and its own
pub readings-next : (number : ℕ) (before after : List ℕ) → before ≡ map reading_of (range_with_len 0 number) → after ≡ before ++ (number + 1) * TICK ∷ [] → after ≡ map reading_of (range_with_len 0 (number + 1))
readings-next number before after so_far one_more =
    one_more ∙ ap (λ (them : List ℕ). them ++ reading_of number ∷ []) so_far ∙ sym (map-range_with_len_more reading_of 0 number number (omega arith))

pub readings-all : (list : List ℕ) → list ≡ map reading_of (range_with_len 0 READINGS) → list ≡ readings
unfolding readings
readings-all list all = all

-- nothing was found before the first, and all when none is left
pub found-first : (host number x : ℕ) (found : List DrawnDatagram) → found ≡ [] → x ≡ number → found ++ filter (is_for host) (datagrams_from DATAGRAMS 0 x) ≡ datagrams_for number host
found-first host number x found none x_is =
    ap (λ (them : List DrawnDatagram). them ++ filter (is_for host) (datagrams_from DATAGRAMS 0 x)) none
    ∙ ap (λ (state : ℕ). filter (is_for host) (datagrams_from DATAGRAMS 0 state)) x_is ∙ datagrams_for-all number host

pub found-last : (host limit place x : ℕ) (found all : List DrawnDatagram) → ¬ (place < limit) → found ++ filter (is_for host) (datagrams_from (limit - place) place x) ≡ all → found ≡ all
found-last host limit place x found all end before =
    sym (append-nil found) ∙ ap (λ (rest : List DrawnDatagram). found ++ filter (is_for host) rest) (sym (datagrams_from-end limit place x end)) ∙ before
