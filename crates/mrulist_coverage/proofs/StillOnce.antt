-- Where each datagram was taken once, no more are taken in answer to a request than its answer has.
use Rattle.std.proofs.Common.{◌≡◌, ◌⊎◌, inl, inr, ℕ, zero, suc, ◌+◌, ◌≤◌, ◌==◌, ◌&&◌, Bool, true, false, List, [], ◌∷◌, length, Option, refl, sym, ap, ◌∙◌, arith}
use Rattle.std.specs.Prelude.{Contains}
use Rattle.std.proofs.lemmas.Bool.{and_from, and_parts, eq-eqb, eqb-false, eqb-true}
use Rattle.edge_traits.specs.declared.port.Event.{Event}
use Rattle.edge_traits.specs.declared.port.Event.TheVariants.{Took, Silence, Sent}
use Rattle.mode6_frame.specs.Frames.{FrameParts}
use Rattle.mode6_frame.specs.Places.{frame_at}
use Rattle.mrulist_coverage.specs.Still.{AreOnce, AreTwo, EachTake, takes_of}
use Rattle.mrulist_coverage.proofs.StillCounts.{hit}
use Rattle.net_addr.specs.declared.addr.Addr.{Addr}

-- how many datagrams of this sequence number and this offset were taken
abbrev takes_at : ℕ → ℕ → List Event → ℕ
takes_at sequence offset [] = 0
takes_at sequence offset (Silence ∷ events) = takes_at sequence offset events
takes_at sequence offset (Sent to octets ∷ events) = takes_at sequence offset events
takes_at sequence offset (Took from octets ∷ events) =
    hit (((frame_at octets).sequence == sequence) && ((frame_at octets).offset == offset)) + takes_at sequence offset events

-- and of these offsets
abbrev takes_among : ℕ → List ℕ → List Event → ℕ
takes_among sequence [] events = 0
takes_among sequence (offset ∷ offsets) events = takes_at sequence offset events + takes_among sequence offsets events

among-sent : (sequence : ℕ) (offsets : List ℕ) (to : Addr) (octets : List ℕ) (events : List Event) → takes_among sequence offsets (Sent to octets ∷ events) ≡ takes_among sequence offsets events
among-sent sequence [] to octets events = refl
among-sent sequence (offset ∷ offsets) to octets events = omega (arith, among-sent sequence offsets to octets events)

among-silent : (sequence : ℕ) (offsets : List ℕ) (events : List Event) → takes_among sequence offsets (Silence ∷ events) ≡ takes_among sequence offsets events
among-silent sequence [] events = refl
among-silent sequence (offset ∷ offsets) events = omega (arith, among-silent sequence offsets events)

at-took : (sequence offset : ℕ) (from : Addr) (octets : List ℕ) (events : List Event) → takes_at sequence offset events ≤ takes_at sequence offset (Took from octets ∷ events)
at-took sequence offset from octets events = omega arith

among-took : (sequence : ℕ) (offsets : List ℕ) (from : Addr) (octets : List ℕ) (events : List Event) → takes_among sequence offsets events ≤ takes_among sequence offsets (Took from octets ∷ events)
among-took sequence [] from octets events = omega arith
among-took sequence (offset ∷ offsets) from octets events = omega (arith, at-took sequence offset from octets events, among-took sequence offsets from octets events)

-- a datagram with one of these offsets is one more
among-here : (sequence : ℕ) (offsets : List ℕ) (from : Addr) (octets : List ℕ) (events : List Event) → (frame_at octets).sequence ≡ sequence → Contains offsets (frame_at octets).offset
    → takes_among sequence offsets events + 1 ≤ takes_among sequence offsets (Took from octets ∷ events)
among-here sequence [] from octets events is (k, within, there) = absurd (omega arith)
among-here sequence (offset ∷ offsets) from octets events is (zero, within, there) =
    let f = frame_at octets in
    let one : hit ((f.sequence == sequence) && (f.offset == offset)) ≡ hit true = ap hit (and_from _ _ (eq-eqb _ _ is) (eq-eqb _ _ (sym there))) in
    omega (arith, one, among-took sequence offsets from octets events)
among-here sequence (offset ∷ offsets) from octets events is (suc k, within, there) =
    omega (arith, among-here sequence offsets from octets events is (k, omega arith, there), at-took sequence offset from octets events)

-- a datagram of this sequence number has one of these offsets
abbrev pub HasOffset : ℕ → List ℕ → FrameParts → Option ℕ → Type 0
HasOffset sequence offsets f place = f.sequence ≡ sequence → Contains offsets f.offset

-- each is among those of its offset
takes-among : (sequence : ℕ) (offsets : List ℕ) (events : List Event) (places : List (Option ℕ)) → EachTake (HasOffset sequence offsets) events places
    → takes_of sequence events ≤ takes_among sequence offsets events
takes-among sequence offsets [] places each = omega arith
takes-among sequence offsets (Silence ∷ events) places each = omega (arith, takes-among sequence offsets events places each, among-silent sequence offsets events)
takes-among sequence offsets (Sent to octets ∷ events) places each = omega (arith, takes-among sequence offsets events places each, among-sent sequence offsets to octets events)
takes-among sequence offsets (Took from octets ∷ events) [] each = absurd each
takes-among sequence offsets (Took from octets ∷ events) (place ∷ places) each = by ((frame_at octets).sequence == sequence) refl (takes-among sequence offsets events places each.1)
  where
    by : (b : Bool) → ((frame_at octets).sequence == sequence) ≡ b → takes_of sequence events ≤ takes_among sequence offsets events
        → takes_of sequence (Took from octets ∷ events) ≤ takes_among sequence offsets (Took from octets ∷ events)
    by true is rest =
        let same : (frame_at octets).sequence ≡ sequence = eqb-true _ _ is in
        let one : hit ((frame_at octets).sequence == sequence) ≡ hit true = ap hit is in
        omega (arith, one, rest, among-here sequence offsets from octets events same (each.0 same))
    by false is rest =
        let none : hit ((frame_at octets).sequence == sequence) ≡ hit false = ap hit is in
        omega (arith, none, rest, among-took sequence offsets from octets events)

-- none comes again
none-at : (sequence offset : ℕ) (f : FrameParts) (place : Option ℕ) (events : List Event) (places : List (Option ℕ)) → EachTake (AreTwo f place) events places
    → f.sequence ≡ sequence → f.offset ≡ offset → takes_at sequence offset events ≡ 0
none-at sequence offset f place [] places each number at = refl
none-at sequence offset f place (Silence ∷ events) places each number at = none-at sequence offset f place events places each number at
none-at sequence offset f place (Sent to octets ∷ events) places each number at = none-at sequence offset f place events places each number at
none-at sequence offset f place (Took from octets ∷ events) [] each number at = absurd each
none-at sequence offset f place (Took from octets ∷ events) (other ∷ places) each number at =
    by (((frame_at octets).sequence == sequence) && ((frame_at octets).offset == offset)) refl (none-at sequence offset f place events places each.1 number at)
  where
    by : (b : Bool) → (((frame_at octets).sequence == sequence) && ((frame_at octets).offset == offset)) ≡ b → takes_at sequence offset events ≡ 0
        → takes_at sequence offset (Took from octets ∷ events) ≡ 0
    by true is rest =
        let both = and_parts _ _ is in
        let its : f.sequence ≡ (frame_at octets).sequence = number ∙ sym (eqb-true _ _ both.0) in
        absurd ((each.0 its).2 (at ∙ sym (eqb-true _ _ both.1)))
    by false is rest =
        let none : hit (((frame_at octets).sequence == sequence) && ((frame_at octets).offset == offset)) ≡ hit false = ap hit is in
        omega (arith, none, rest)

at-once : (sequence offset : ℕ) (events : List Event) (places : List (Option ℕ)) → AreOnce events places → takes_at sequence offset events ≤ 1
at-once sequence offset [] places once = omega arith
at-once sequence offset (Silence ∷ events) places once = at-once sequence offset events places once
at-once sequence offset (Sent to octets ∷ events) places once = at-once sequence offset events places once
at-once sequence offset (Took from octets ∷ events) [] once = absurd once
at-once sequence offset (Took from octets ∷ events) (place ∷ places) once =
    by (((frame_at octets).sequence == sequence) && ((frame_at octets).offset == offset)) refl (at-once sequence offset events places once.1)
  where
    by : (b : Bool) → (((frame_at octets).sequence == sequence) && ((frame_at octets).offset == offset)) ≡ b → takes_at sequence offset events ≤ 1
        → takes_at sequence offset (Took from octets ∷ events) ≤ 1
    by true is rest =
        let both : (((frame_at octets).sequence == sequence) ≡ true) × (((frame_at octets).offset == offset) ≡ true) = and_parts _ _ is in
        let one : hit (((frame_at octets).sequence == sequence) && ((frame_at octets).offset == offset)) ≡ hit true = ap hit is in
        omega (arith, one, none-at sequence offset (frame_at octets) place events places once.0 (eqb-true _ _ both.0) (eqb-true _ _ both.1))
    by false is rest =
        let none : hit (((frame_at octets).sequence == sequence) && ((frame_at octets).offset == offset)) ≡ hit false = ap hit is in
        omega (arith, none, rest)

among-once : (sequence : ℕ) (offsets : List ℕ) (events : List Event) (places : List (Option ℕ)) → AreOnce events places → takes_among sequence offsets events ≤ length offsets
among-once sequence [] events places once = omega arith
among-once sequence (offset ∷ offsets) events places once = omega (arith, at-once sequence offset events places once, among-once sequence offsets events places once)

-- so no more are taken than there are offsets
pub takes-offsets : (sequence : ℕ) (offsets : List ℕ) (events : List Event) (places : List (Option ℕ)) → AreOnce events places → EachTake (HasOffset sequence offsets) events places
    → takes_of sequence events ≤ length offsets
takes-offsets sequence offsets events places once each = omega (arith, takes-among sequence offsets events places each, among-once sequence offsets events places once)

-- a datagram of this sequence number is a refusal
abbrev pub IsRefused : ℕ → FrameParts → Option ℕ → Type 0
IsRefused sequence f place = f.sequence ≡ sequence → f.error ≡ true

none-after : (sequence : ℕ) (f : FrameParts) (place : Option ℕ) (events : List Event) (places : List (Option ℕ)) → EachTake (AreTwo f place) events places
    → f.sequence ≡ sequence → f.error ≡ true → takes_of sequence events ≡ 0
none-after sequence f place [] places each number error = refl
none-after sequence f place (Silence ∷ events) places each number error = none-after sequence f place events places each number error
none-after sequence f place (Sent to octets ∷ events) places each number error = none-after sequence f place events places each number error
none-after sequence f place (Took from octets ∷ events) [] each number error = absurd each
none-after sequence f place (Took from octets ∷ events) (other ∷ places) each number error =
    by ((frame_at octets).sequence == sequence) refl (none-after sequence f place events places each.1 number error)
  where
    by : (b : Bool) → ((frame_at octets).sequence == sequence) ≡ b → takes_of sequence events ≡ 0 → takes_of sequence (Took from octets ∷ events) ≡ 0
    by true is rest =
        let its : f.sequence ≡ (frame_at octets).sequence = number ∙ sym (eqb-true _ _ is) in
        let no_error : true ≡ false = sym error ∙ (each.0 its).1 in
        absurd (cc no_error)
    by false is rest =
        let none : hit ((frame_at octets).sequence == sequence) ≡ hit false = ap hit is in
        omega (arith, none, rest)

-- a refusal is one datagram
pub takes-refused : (sequence : ℕ) (events : List Event) (places : List (Option ℕ)) → AreOnce events places → EachTake (IsRefused sequence) events places → takes_of sequence events ≤ 1
takes-refused sequence [] places once each = omega arith
takes-refused sequence (Silence ∷ events) places once each = takes-refused sequence events places once each
takes-refused sequence (Sent to octets ∷ events) places once each = takes-refused sequence events places once each
takes-refused sequence (Took from octets ∷ events) [] once each = absurd each
takes-refused sequence (Took from octets ∷ events) (place ∷ places) once each =
    by ((frame_at octets).sequence == sequence) refl (takes-refused sequence events places once.1 each.1)
  where
    by : (b : Bool) → ((frame_at octets).sequence == sequence) ≡ b → takes_of sequence events ≤ 1 → takes_of sequence (Took from octets ∷ events) ≤ 1
    by true is rest =
        let same : (frame_at octets).sequence ≡ sequence = eqb-true _ _ is in
        let one : hit ((frame_at octets).sequence == sequence) ≡ hit true = ap hit is in
        omega (arith, one, none-after sequence (frame_at octets) place events places once.0 same (each.0 same))
    by false is rest =
        let none : hit ((frame_at octets).sequence == sequence) ≡ hit false = ap hit is in
        omega (arith, none, rest)

-- a datagram of this sequence number tells of this place
abbrev pub IsAtPlace : ℕ → Option ℕ → FrameParts → Option ℕ → Type 0
IsAtPlace sequence place f its = f.sequence ≡ sequence → its ≡ place

EachTake-weaker : (P Q : FrameParts → Option ℕ → Type 0) → ((f : FrameParts) (place : Option ℕ) → P f place → Q f place) → (events : List Event) (places : List (Option ℕ))
    → EachTake P events places → EachTake Q events places
EachTake-weaker P Q so [] places each = tt
EachTake-weaker P Q so (Silence ∷ events) places each = EachTake-weaker P Q so events places each
EachTake-weaker P Q so (Sent to octets ∷ events) places each = EachTake-weaker P Q so events places each
EachTake-weaker P Q so (Took from octets ∷ events) [] each = absurd each
EachTake-weaker P Q so (Took from octets ∷ events) (place ∷ places) each = (so (frame_at octets) place each.0, EachTake-weaker P Q so events places each.1)

pub EachTake-both : (P Q R : FrameParts → Option ℕ → Type 0) → ((f : FrameParts) (place : Option ℕ) → P f place → Q f place → R f place) → (events : List Event) (places : List (Option ℕ))
    → EachTake P events places → EachTake Q events places → EachTake R events places
EachTake-both P Q R so [] places each its = tt
EachTake-both P Q R so (Silence ∷ events) places each its = EachTake-both P Q R so events places each its
EachTake-both P Q R so (Sent to octets ∷ events) places each its = EachTake-both P Q R so events places each its
EachTake-both P Q R so (Took from octets ∷ events) [] each its = absurd each
EachTake-both P Q R so (Took from octets ∷ events) (place ∷ places) each its = (so (frame_at octets) place each.0 its.0, EachTake-both P Q R so events places each.1 its.1)

-- all datagrams of a sequence number tell of one place
pub one-place : (sequence : ℕ) (events : List Event) (places : List (Option ℕ)) → AreOnce events places
    → (takes_of sequence events ≡ 0) ⊎ ((place : Option ℕ) × EachTake (IsAtPlace sequence place) events places)
one-place sequence [] places once = inl refl
one-place sequence (Silence ∷ events) places once = one-place sequence events places once
one-place sequence (Sent to octets ∷ events) places once = one-place sequence events places once
one-place sequence (Took from octets ∷ events) [] once = absurd once
one-place sequence (Took from octets ∷ events) (place ∷ places) once = by ((frame_at octets).sequence == sequence) refl (one-place sequence events places once.1)
  where
    by : (b : Bool) → ((frame_at octets).sequence == sequence) ≡ b → (takes_of sequence events ≡ 0) ⊎ ((other : Option ℕ) × EachTake (IsAtPlace sequence other) events places)
        → (takes_of sequence (Took from octets ∷ events) ≡ 0) ⊎ ((other : Option ℕ) × EachTake (IsAtPlace sequence other) (Took from octets ∷ events) (place ∷ places))
    by true is rest =
        let same : (frame_at octets).sequence ≡ sequence = eqb-true _ _ is in
        inr (place, ((λ _. refl), EachTake-weaker (AreTwo (frame_at octets) place) (IsAtPlace sequence place) (λ g other two its. (two (same ∙ sym its)).0) events places once.0))
    by false is (inl none) =
        let not_one : hit ((frame_at octets).sequence == sequence) ≡ hit false = ap hit is in
        inl (omega (arith, not_one, none))
    by false is (inr (other, each)) = inr (other, ((λ its. absurd (eqb-false _ _ is its)), each))
