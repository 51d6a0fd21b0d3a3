use Rattle.std.proofs.Common.{◌<◌, length, Ok, ap, sym, subst, ◌∙◌, inl, refl, arith, rules}
use Rattle.refusals.specs.Refusals.{refused_nowhere}
use Rattle.mode6_frame.specs.Items.{IsItemText, IsDue}
use Rattle.mode6_frame.proofs.ItemTextLemmas.{IsItemText-slot, IsRefusedAt-slot, IsClosedAt-comma, IsDue-unclosed, IsUnless-due, IsUnless-refused, IsItemText-one}
use Rattle.mode6_frame.proofs.ReadingLemmas.{items_read_complete, items_read_due}
use Rattle.mode6_frame.proofs.RoomLemmas.{item_room}
use Rattle.mode6_frame.proofs.item_text.read_items.Goals as goal

pub returns-in_err-end-clause-only : goal.returns-in_err-end-clause-only
returns-in_err-end-clause-only c items is =
    let due = IsDue-unclosed _ _ _ c.in_err-end.field-0.0 c.slots.invariant.led c.in_err-end.ensures.unclosed in
    let unless = IsUnless-due c.args.text.now items c.in_err-end.field-0.0 due is in
    search (rules, unless)

pub returns-in_err-end-clause-refused : goal.returns-in_err-end-clause-refused
returns-in_err-end-clause-refused c =
    let due = IsDue-unclosed _ _ _ c.in_err-end.field-0.0 c.slots.invariant.led c.in_err-end.ensures.unclosed in
    search (rules, due)

pub returns-in_err-end-clause-refused_only : goal.returns-in_err-end-clause-refused_only
returns-in_err-end-clause-refused_only c octets refused =
    let due = IsDue-unclosed _ _ _ c.in_err-end.field-0.0 c.slots.invariant.led c.in_err-end.ensures.unclosed in
    let unless = IsUnless-refused c.args.text.now octets c.in_err-end.field-0.0 due refused in
    search (rules, unless)

pub returns-in_err-end-clause-unread : goal.returns-in_err-end-clause-unread
returns-in_err-end-clause-unread c = items_read_due c.args.text.now _ (returns-in_err-end-clause-refused c)

pub returns-then-end-text-clause-found : goal.returns-then-end-text-clause-found
returns-then-end-text-clause-found c =
    rw c.of.ensures (IsItemText-slot _ _ _ _ _ c.slots.invariant.led c.in_ok-end.ensures.read c.if-end-text.true)

pub returns-then-end-text-clause-only : goal.returns-then-end-text-clause-only
returns-then-end-text-clause-only c items is =
    let found = IsItemText-slot _ _ _ _ _ c.slots.invariant.led c.in_ok-end.ensures.read c.if-end-text.true in
    inl (ap Ok (c.of.ensures ∙ IsItemText-one c.args.text.now c.read_slot.new.items.items items found is))

pub returns-then-end-text-clause-read : goal.returns-then-end-text-clause-read
returns-then-end-text-clause-read c =
    let found = IsItemText-slot _ _ _ _ _ c.slots.invariant.led c.in_ok-end.ensures.read c.if-end-text.true in
    rw c.of.ensures (items_read_complete c.args.text.now c.read_slot.new.items.items found)

pub returns-then-end-text-clause-room : goal.returns-then-end-text-clause-room
returns-then-end-text-clause-room c =
    let found = IsItemText-slot _ _ _ _ _ c.slots.invariant.led c.in_ok-end.ensures.read c.if-end-text.true in
    rw c.of.ensures (item_room c.args.text.now c.read_slot.new.items.items found)

pub returns-then-end-text-clause-refused_only : goal.returns-then-end-text-clause-refused_only
returns-then-end-text-clause-refused_only c octets refused =
    let found = IsItemText-slot _ _ _ _ _ c.slots.invariant.led c.in_ok-end.ensures.read c.if-end-text.true in
    absurd (refused_nowhere IsItemText c.args.text.now c.read_slot.new.items.items octets found refused)

pub returns-then-text-end-ne44-clause-refused : goal.returns-then-text-end-ne44-clause-refused
returns-then-text-end-ne44-clause-refused c =
    let here = IsRefusedAt-slot _ _ _ _ _ c.slots.invariant.led c.in_ok-end.ensures.read (omega (arith, c.in_ok-end.ensures.read.within)) c.if-text-end-ne44.true in
    subst (IsDue c.args.text.now) (sym c.refused_at.ensures) (c.in_ok-end.end, here, refl)

pub returns-then-text-end-ne44-clause-only : goal.returns-then-text-end-ne44-clause-only
returns-then-text-end-ne44-clause-only c items is =
    IsUnless-due c.args.text.now items c.refused_at.result (returns-then-text-end-ne44-clause-refused c) is

pub returns-then-text-end-ne44-clause-refused_only : goal.returns-then-text-end-ne44-clause-refused_only
returns-then-text-end-ne44-clause-refused_only c octets refused =
    IsUnless-refused c.args.text.now octets c.refused_at.result (returns-then-text-end-ne44-clause-refused c) refused

pub returns-then-text-end-ne44-clause-unread : goal.returns-then-text-end-ne44-clause-unread
returns-then-text-end-ne44-clause-unread c = items_read_due c.args.text.now _ (returns-then-text-end-ne44-clause-refused c)

pub slots-preserved : goal.slots-preserved
slots-preserved c =
    let more : c.in_ok-end.end < length c.args.text.now = omega (arith, c.in_ok-end.ensures.read.within) in
    record {
      within = omega (arith, more);
      led = IsClosedAt-comma _ _ _ _ _ c.slots.invariant.led c.in_ok-end.ensures.read more c.if-text-end-ne44.false;
    }
