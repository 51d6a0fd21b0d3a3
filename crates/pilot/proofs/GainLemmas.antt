-- How gains add up.
use Rattle.std.proofs.Common.{◌≡◌, ◌∙◌, ℕ, Option, None, Some, List, [], ◌++◌, refl, sym, ap, subst, append_assoc, append-nil, arith}
use Rattle.edge_traits.specs.Told.{gained, Grows}
use Rattle.edge_traits.proofs.ToldLemmas.{gained-gained}
use Rattle.edge_traits.specs.declared.port.Event.{Event}
use Rattle.server_core.specs.States.{ServerState}
use Rattle.shared_book.specs.Entries.{View}
use Rattle.pilot.specs.Calls.{Called, Cause, Entry}
use Rattle.pilot.specs.Gains.{Gain, Gained, IsCounted, joined, nothing}
use Rattle.pilot.specs.Views.{HelmParts, Outside, Stays}
use Rattle.pilot.proofs.CallLemmas.{Called-none, Called-then}

-- what is told goes on to be told
pub gained-nothing : {A : Type 0} (told : Option (List A)) → told ≡ gained told []
gained-nothing None = refl
gained-nothing (Some told) = ap Some (sym (append-nil told))

Grows-nothing : {A : Type 0} (told : Option (List A)) → Grows told told []
Grows-nothing None = tt
Grows-nothing (Some told) = sym (append-nil told)

-- a clock that was not read
pub Grows-same : {A : Type 0} (old new : Option (List A)) → new ≡ old → Grows old new []
Grows-same old new same = subst (λ (now : Option (List _)). Grows old now []) (sym same) (Grows-nothing old)

Grows-Grows : {A : Type 0} (old between new : Option (List A)) (xs ys : List A) → Grows old between xs → Grows between new ys → Grows old new (xs ++ ys)
Grows-Grows old between None xs ys first second = tt
Grows-Grows old None (Some new) xs ys first second = absurd second
Grows-Grows None (Some between) (Some new) xs ys first second = absurd first
Grows-Grows (Some old) (Some between) (Some new) xs ys first second =
    second ∙ ap (λ (told : List _). told ++ ys) first ∙ append_assoc old xs ys

-- one gain and then another
pub Gained-then : (opening : ServerState) (who : ℕ) (g h : Gain) (a b c : HelmParts) (x y z : View) → Gained opening who g a x b y → Gained opening who h b y c z → Gained opening who (joined g h) a x c z
Gained-then opening who g h a b c x y z first second = record {
  trace = second.trace ∙ ap (λ (told : Option (List Event)). gained told h.events) first.trace ∙ gained-gained a.outside.trace g.events h.events;
  readings = Grows-Grows a.outside.readings b.outside.readings c.outside.readings g.readings h.readings first.readings second.readings;
  failed = omega (arith, first.failed, second.failed);
  quiet = omega (arith, first.quiet, second.quiet);
  left = (omega (arith, first.left.0, second.left.0), omega (arith, first.left.1, second.left.1));
  called = Called-then opening who g.entries h.entries g.causes h.causes x y z first.called second.called;
}

-- nothing was done
pub Gained-nothing : (opening : ServerState) (who : ℕ) (a : HelmParts) (x : View) → Gained opening who nothing a x a x
Gained-nothing opening who a x = record {
  trace = gained-nothing a.outside.trace;
  readings = Grows-nothing a.outside.readings;
  failed = omega arith;
  quiet = omega arith;
  left = (omega arith, omega arith);
  called = Called-none opening who x;
}

-- where neither port nor clock was called, what was counted and called is what is gained
pub Gained-inside : (opening : ServerState) (who left : ℕ) (entries : List Entry) (causes : List Cause) (a b : HelmParts) (x y : View) → b.outside ≡ a.outside → IsCounted left a.left b.left → Called opening who entries causes x y → Gained opening who (record nothing { left = left; entries = entries; causes = causes }) a x b y
Gained-inside opening who left entries causes a b x y same count called =
    let told : b.outside.trace ≡ a.outside.trace = ap (λ (o : Outside). o.trace) same in
    let read : b.outside.readings ≡ a.outside.readings = ap (λ (o : Outside). o.readings) same in
    let faults : b.outside.faults ≡ a.outside.faults = ap (λ (o : Outside). o.faults) same in
    let quiets : b.outside.quiets ≡ a.outside.quiets = ap (λ (o : Outside). o.quiets) same in
    record {
      trace = told ∙ gained-nothing a.outside.trace;
      readings = subst (λ (now : Option (List ℕ)). Grows a.outside.readings now []) (sym read) (Grows-nothing a.outside.readings);
      failed = omega arith;
      quiet = omega arith;
      left = count;
      called = called;
    }

-- it stays, and then it stays
pub Stays-then : (a b c : HelmParts) (x y z : View) → Stays a x b y → Stays b y c z → Stays a x c z
Stays-then a b c x y z first second = record {
  faults_kept = omega (arith, first.faults_kept, second.faults_kept);
  quiets_kept = omega (arith, first.quiets_kept, second.quiets_kept);
  address_kept = second.address_kept ∙ first.address_kept;
  most_kept = second.most_kept ∙ first.most_kept;
  peers_kept = second.peers_kept ∙ first.peers_kept;
  room_kept = second.room_kept ∙ first.room_kept;
  door_kept = second.door_kept ∙ first.door_kept;
  share_kept = second.share_kept ∙ first.share_kept;
  opening_kept = second.opening_kept ∙ first.opening_kept;
}

-- nothing was done
pub Stays-none : (a : HelmParts) (x : View) → Stays a x a x
Stays-none a x = record {
  faults_kept = omega arith;
  quiets_kept = omega arith;
  address_kept = refl;
  most_kept = refl;
  peers_kept = refl;
  room_kept = refl;
  door_kept = refl;
  share_kept = refl;
  opening_kept = refl;
}
