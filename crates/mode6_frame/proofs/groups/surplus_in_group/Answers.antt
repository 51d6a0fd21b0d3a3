use Rattle.std.proofs.Common.{◌<◌, ◌≤◌, length, ap, ◌∙◌, arith}
use Rattle.mode6_frame.specs.Groups.{piece_at}
use Rattle.mode6_frame.proofs.GroupLemmas.{surplus_in-found, surplus_in-full, surplus_in-room}
use Rattle.mode6_frame.proofs.groups.surplus_in_group.Goals as goal

pub returns-in-Some : goal.returns-in-Some
returns-in-Some c =
    surplus_in-found c.args.group.now c.args.offset c.in-Some._kept.now
    (c.in-Some.ensures ∙ ap (λ n. piece_at n c.as_slice-pieces.result.now) c.from.ensures ∙ ap (piece_at c.args.offset) c.as_slice-pieces.ensures)

pub returns-then-pieces-ge-MAX_PIECES : goal.returns-then-pieces-ge-MAX_PIECES
returns-then-pieces-ge-MAX_PIECES c =
    let full : 128 ≤ length c.args.group.now.pieces = omega (arith, ap length c.as_slice-pieces.ensures) in
    surplus_in-full c.args.group.now c.args.offset
    (c.in_default.ensures ∙ ap (λ n. piece_at n c.as_slice-pieces.result.now) c.from.ensures ∙ ap (piece_at c.args.offset) c.as_slice-pieces.ensures) full

pub returns : goal.returns
returns c =
    let room : length c.args.group.now.pieces < 128 = omega (arith, ap length c.as_slice-pieces.ensures) in
    surplus_in-room c.args.group.now c.args.offset
    (c.in_default.ensures ∙ ap (λ n. piece_at n c.as_slice-pieces.result.now) c.from.ensures ∙ ap (piece_at c.args.offset) c.as_slice-pieces.ensures) room
