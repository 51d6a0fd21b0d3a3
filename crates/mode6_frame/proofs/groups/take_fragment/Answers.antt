use Rattle.std.proofs.Common.{◌≡◌, ◌<◌, length, List, Some, IfOk, OnOk, refl, ap, subst, ◌∙◌, arith}
use Rattle.mode6_frame.specs.declared.groups.Group.{Group}
use Rattle.mode6_frame.specs.declared.groups.Step.{Step}
use Rattle.mode6_frame.specs.Frames.{parts_of}
use Rattle.mode6_frame.specs.Groups.{surplus_in, tag_of}
use Rattle.mode6_frame.proofs.GroupLemmas.{kept-known, kept-new, place-le, same-read, set-after, step-known, step-new, surplus-known}
use Rattle.mode6_frame.proofs.groups.take_fragment.Goals as goal

pub returns-then-place-len-clause-step : goal.returns-then-place-len-clause-step
returns-then-place-len-clause-step c =
    let P : Step → Type 0 = λ x. IfOk c.begin.result (λ step. step ≡ x) in
    subst P (step-new (parts_of c.args.frame.now) c.args.groups.now.items c.place_for-place.result (rw c.as_slice.ensures.value at c.place_for-place.ensures) (omega arith)) c.begin.ensures.step

pub returns-then-place-len-clause-after : goal.returns-then-place-len-clause-after
returns-then-place-len-clause-after c =
    let P : List Group → Type 0 = λ x. OnOk c.begin.result (c.begin.new.groups.items ≡ x) in
    subst P (kept-new (parts_of c.args.frame.now) c.args.groups.now.items c.place_for-place.result (rw c.as_slice.ensures.value at c.place_for-place.ensures) (omega arith)) c.begin.ensures.after

pub index-requires : goal.index-requires
index-requires c =
    let place = rw c.as_slice.ensures.value at c.place_for-place.ensures in
    omega (arith, place, place-le (tag_of c.args.frame.now.body.now) c.args.groups.now.items, c.as_slice.ensures.len)

pub returns-in-Some-clause-step : goal.returns-in-Some-clause-step
returns-in-Some-clause-step c =
    let place = rw c.as_slice.ensures.value at c.place_for-place.ensures in
    let within : c.place_for-place.result < length c.args.groups.now.items = omega (arith, place, place-le (tag_of c.args.frame.now.body.now) c.args.groups.now.items) in
    rw (surplus-known (parts_of c.args.frame.now) c.args.groups.now.items c.place_for-place.result c.index.result.now (Some c.in-Some.why) place within c.index.ensures c.in-Some.ensures) refl

pub returns-in-Some-clause-after : goal.returns-in-Some-clause-after
returns-in-Some-clause-after c =
    let place = rw c.as_slice.ensures.value at c.place_for-place.ensures in
    let within : c.place_for-place.result < length c.args.groups.now.items = omega (arith, place, place-le (tag_of c.args.frame.now.body.now) c.args.groups.now.items) in
    rw (surplus-known (parts_of c.args.frame.now) c.args.groups.now.items c.place_for-place.result c.index.result.now (Some c.in-Some.why) place within c.index.ensures c.in-Some.ensures) refl

pub index_mut-requires : goal.index_mut-requires
index_mut-requires c =
    let place = rw c.as_slice.ensures.value at c.place_for-place.ensures in
    omega (arith, place, place-le (tag_of c.args.frame.now.body.now) c.args.groups.now.items, c.as_slice.ensures.len)

pub returns-clause-step : goal.returns-clause-step
returns-clause-step c =
    let place = rw c.as_slice.ensures.value at c.place_for-place.ensures in
    let within : c.place_for-place.result < length c.args.groups.now.items = omega (arith, place, place-le (tag_of c.args.frame.now.body.now) c.args.groups.now.items) in
    let same = same-read c.args.groups.now.items c.place_for-place.result c.index.result.now c.index_mut.result.now within c.index.ensures c.index_mut.ensures.value in
    let P : Step → Type 0 = λ x. IfOk c.extend.result (λ step. step ≡ x) in
    subst P (step-known (parts_of c.args.frame.now) c.args.groups.now.items c.place_for-place.result c.index_mut.result.now place within c.index_mut.ensures.value
    (c.in_default.ensures ∙ ap (λ (group : Group). surplus_in (Some group) 0 c.args.frame.now.offset) same)) c.extend.ensures.step

pub returns-clause-after : goal.returns-clause-after
returns-clause-after c =
    let place = rw c.as_slice.ensures.value at c.place_for-place.ensures in
    let within : c.place_for-place.result < length c.args.groups.now.items = omega (arith, place, place-le (tag_of c.args.frame.now.body.now) c.args.groups.now.items) in
    let same = same-read c.args.groups.now.items c.place_for-place.result c.index.result.now c.index_mut.result.now within c.index.ensures c.index_mut.ensures.value in
    set-after c.extend.result c.args.groups.now.items c.place_for-place.result c.extend.new.group _ _ c.extend.ensures.after
    (kept-known (parts_of c.args.frame.now) c.args.groups.now.items c.place_for-place.result c.index_mut.result.now place within c.index_mut.ensures.value
    (c.in_default.ensures ∙ ap (λ (group : Group). surplus_in (Some group) 0 c.args.frame.now.offset) same))
