use Rattle.std.proofs.Common.{rules, ◌≡◌, sym, ap, ◌∙◌, Some}
use Rattle.std.proofs.lemmas.List.Elements.{All-pop}
use Rattle.turnstile.proofs.Keeps.{joins}
use Rattle.turnstile.proofs.Gathers.{Joined, still_ready, same_opening, same_front, shares_kept, times_kept, fronts_of}
use Rattle.turnstile.proofs.door.Turnstile.gather.Goals as goal

pub join_seat-requires : goal.join_seat-requires
join_seat-requires g c =
    let own = All-pop (λ seat. seat.door ≡ c.args.self.now) _ _ (Some c.in-Some.seat) c.in-Some.ensures.items c.loop-seat.invariant.all_own in
    let door = ap (λ v. v.door) c.seat.view_is in
    let ready = c.loop-seat.invariant.ready in let other = c.seat.invariant.1 in (
      search rules,
      door ∙ (own.1 ∙ sym c.self.view_is),
      other.has_none,
      search rules,
      joins _ _ _ _ _ _ _ _ ready.is_out other.is_out ready.some_share other.some_share,
    )

pub loop-seat-preserved : goal.loop-seat-preserved
loop-seat-preserved g c =
    let old = c.loop-seat.invariant in let m = c.loop-seat.inner.me in let n = c.join_seat.new.seat.me in let all = c.loop-seat.rest.items in let left = c.pop.new.self.items in
    let j : Joined m n all left = record {
      seat = c.in-Some.seat;
      other = c.seat.inside.inner.me.0;
      popped = c.in-Some.ensures.items;
      share = ap (λ v. v.share) (sym c.seat.view_is) ∙ c.seat.invariant.0;
      front = ap (λ v. v.front) (sym c.seat.view_is);
      own = ap (λ v. v.own) (sym c.seat.view_is);
      now = c.join_seat.ensures.2;
    } in record {
      table = c.join_seat.ensures.0 ∙ old.table;
      ready = still_ready m n all left j old.ready;
      all_own = (All-pop (λ seat. seat.door ≡ c.args.self.now) _ _ (Some c.in-Some.seat) c.in-Some.ensures.items old.all_own).0;
      shares = shares_kept m n all left j ∙ old.shares;
      opening = same_opening m n all left j ∙ old.opening;
      front = same_front m n all left j ∙ old.front;
      fronts = λ history heard others. let two = fronts_of m n all left j history heard others in old.fronts history two.0 two.1;
      calls = λ place. times_kept m n all left j place ∙ old.calls place;
    }
