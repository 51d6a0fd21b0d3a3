use Rattle.std.proofs.Common.{◌+◌, ◌++◌, length, ap, ◌∙◌, arith}
use Rattle.mode6_frame.specs.Cuts.{octets_in}
use Rattle.mode6_frame.specs.Drafts.{grams_of}
use Rattle.mode6_frame.proofs.DraftLemmas.{one_spaced, parts_after-room, grams-full, octets-full}
use Rattle.mode6_frame.proofs.TagLemmas.{length-tag_item}
use Rattle.mode6_frame.proofs.cutting.take_item.Goals as goal

pub returns-then-len-text_len-le-MAX_BODY-clause-grams :
    goal.returns-then-len-text_len-le-MAX_BODY-clause-grams
returns-then-len-text_len-le-MAX_BODY-clause-grams c items =
    ap (λ parts. c.args.draft.now.grams.items ++ grams_of c.args.head.now parts)
    (parts_after-room c.args.tag c.args.draft.now.offset c.args.draft.now.body c.add_spaced.new.body c.args.item.now items c.add_spaced.ensures.added (omega arith))

pub returns-then-len-text_len-le-MAX_BODY-clause-octets :
    goal.returns-then-len-text_len-le-MAX_BODY-clause-octets
returns-then-len-text_len-le-MAX_BODY-clause-octets c items =
    ap (λ parts. c.args.draft.now.offset + octets_in parts)
    (parts_after-room c.args.tag c.args.draft.now.offset c.args.draft.now.body c.add_spaced.new.body c.args.item.now items c.add_spaced.ensures.added (omega arith))

pub add_spaced-requires-2 : goal.add_spaced-requires-2
add_spaced-requires-2 c =
    omega (arith, ap length c.in_ok-end_part.ensures.body, length-tag_item c.args.tag, c.requires.short)

pub returns-clause-grams : goal.returns-clause-grams
returns-clause-grams c items =
    grams-full c.args.head.now c.args.draft.now.grams.items c.end_part.new.draft.grams.items c.args.tag c.args.draft.now.offset
    c.end_part.new.draft.offset c.args.draft.now.body c.add_spaced-2.new.body c.args.item.now items
    c.in_ok-end_part.ensures.grams c.in_ok-end_part.ensures.offset
    (c.add_spaced-2.ensures.added ∙ ap (λ front. front ++ one_spaced c.args.item.now) c.in_ok-end_part.ensures.body) (omega arith)

pub returns-clause-octets : goal.returns-clause-octets
returns-clause-octets c items =
    octets-full c.args.tag c.args.draft.now.offset c.end_part.new.draft.offset c.args.draft.now.body c.add_spaced-2.new.body c.args.item.now items
    c.in_ok-end_part.ensures.offset
    (c.add_spaced-2.ensures.added ∙ ap (λ front. front ++ one_spaced c.args.item.now) c.in_ok-end_part.ensures.body) (omega arith)

pub returns-clause-room : goal.returns-clause-room
returns-clause-room c =
    omega (arith, c.add_spaced-2.ensures.longer, ap length c.in_ok-end_part.ensures.body, length-tag_item c.args.tag, c.requires.short)
