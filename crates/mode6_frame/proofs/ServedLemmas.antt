-- What becomes of the datagrams of answers: a whole answer is the one that its last datagram belongs to.
use Rattle.std.proofs.Common.{◌≡◌, ◌⊎◌, inl, inr, ℕ, zero, suc, ◌+◌, ◌/◌, ◌^◌, ◌<◌, ◌≤◌, ◌==◌, Bool, true, false, not, ◌&&◌, ◌||◌, cond, List, [], ◌∷◌, ◌++◌, length, bytes_eq, Option, Some, None, refl, sym, ap, subst, ◌∙◌, option_map, arith}
use Rattle.std.specs.Prelude.{Contains}
use Rattle.std.specs.List.{AllByRecursion}
use Rattle.std.specs.Option.{option_and_then}
use Rattle.std.proofs.lemmas.Bool.{and_parts, or_parts}
use Rattle.std.proofs.lemmas.List.{append-nil}
use Rattle.std.proofs.lemmas.List.Elements.{All-contains, All-from_recursion}
use Rattle.std.proofs.lemmas.Bool.Decides.{nat_tests}
use Rattle.mode6_frame.specs.declared.groups.Group.{Group}
use Rattle.mode6_frame.specs.declared.groups.Piece.{Piece}
use Rattle.mode6_frame.specs.declared.groups.Step.{Step}
use Rattle.mode6_frame.specs.declared.groups.Step.TheVariants as Then
use Rattle.mode6_frame.specs.declared.groups.Unused.{Unused}
use Rattle.mode6_frame.specs.declared.items.Item.{Item}
use Rattle.mode6_frame.specs.Cuts.{Part, IsCuttable, LieFrom, parts_cut, tag_text}
use Rattle.mode6_frame.specs.Frames.{FrameParts}
use Rattle.mode6_frame.specs.Groups.{GroupsParts, first_status, fragment_kept, fragment_step, group_of, groups_by, is_whole, is_tagged, joined, joined_from, kept_after, made_of, mismatch_of, piece_at, piece_of, pieces_of, pieces_with, step_by, step_of, surplus_of, tag_of, untagged, with_piece}
use Rattle.mode6_frame.specs.Items.{IsItemText}
use Rattle.mode6_frame.specs.Served.{Served, Refusal, Body, Listed, AreOf, AreServed, Carries, IsDatagramOf, IsKeptOf, IsTold, Tells, piece_kept, text_in}
use Rattle.mode6_frame.proofs.CutLemmas.{parts-filled, parts-lie, parts-read, parts-tagged}
use Rattle.mode6_frame.proofs.TagLemmas.{tag_text-injective}
use Rattle.mode6_frame.proofs.WrittenLemmas.{AllByRecursion-append}
use Rattle.mode6_frame.proofs.GroupLemmas.{bytes_eq-same, find-found}

-- more parts follow
abbrev follow : List Part → Bool
follow [] = false
follow (part ∷ parts) = true

-- parts end to end from a place on, none of them empty, each but the last with more
abbrev AreLaid : ℕ → List Part → Type 0
AreLaid place [] = Unit {0}
AreLaid place (part ∷ parts) =
    (part.offset ≡ place) × (0 < length part.body) × (part.more ≡ follow parts) × AreLaid (place + length part.body) parts

-- parts that lie end to end and are not empty are laid
AreLaid-lying : (place : ℕ) (parts : List Part) → LieFrom place parts → AllByRecursion (λ part. 0 < length part.body) parts → AreLaid place parts
AreLaid-lying place [] lie filled = tt
AreLaid-lying place (part ∷ []) lie filled = (lie.0, filled.0, lie.1, tt)
AreLaid-lying place (part ∷ next ∷ parts) lie filled =
    (lie.0, filled.0, lie.1, AreLaid-lying (place + length part.body) (next ∷ parts) lie.2 filled.1)

-- an element is the first or among the others
Contains-cons : {X : Type 0} (y : X) (xs : List X) (x : X) → Contains (y ∷ xs) x → (y ≡ x) ⊎ Contains xs x
Contains-cons y xs x (zero, within, there) = inl there
Contains-cons y xs x (suc k, within, there) = inr (k, omega arith, there)

-- nothing is an element of no list
Contains-none : {X : Type 0} (x : X) → Contains [] x → ⊥
Contains-none x (k, within, there) = omega arith

-- no part lies before the place from which on parts are laid
offset-from : (place : ℕ) (parts : List Part) (part : Part) → AreLaid place parts → Contains parts part → place ≤ part.offset
offset-from place [] part laid_out among = absurd (Contains-none part among)
offset-from place (first ∷ parts) part laid_out among =
    elim (Contains-cons first parts part among) [
      | inl same ↦ omega (arith, laid_out.0, ap (λ (p : Part). p.offset) same)
      | inr later ↦ omega (arith, offset-from (place + length first.body) parts part laid_out.3 later)
    ]

-- the pieces are kept of parts, under one status; the parts from a place on are these
abbrev AreKeptFrom : ℕ → ℕ → List Part → List Piece → Type 0
AreKeptFrom place status parts pieces =
    (piece : Piece) → Contains pieces piece → (part : Part) × (piece ≡ piece_kept status part) × (place ≤ part.offset → Contains parts part)

-- pieces joined from the place of laid parts on have their text
abbrev IsTextFrom : ℕ → ℕ → List Piece → Type 0
IsTextFrom most status pieces =
    (place : ℕ) (parts : List Part) (text : List ℕ) → AreLaid place parts → AreKeptFrom place status parts pieces
    → joined_from most place pieces ≡ Some text → text ≡ text_in parts

-- a value within an option that is made of another
option_map-found : {A B : Type 0} (f : A → B) (o : Option A) (b : B) → option_map f o ≡ Some b → (a : A) × (o ≡ Some a) × (b ≡ f a)
option_map-found f None b e = absurd (cc)
option_map-found f (Some a) b e = (a, refl, cc)

-- parts behind the first one, where a piece kept of it stands at its place
AreKeptFrom-next : (place status : ℕ) (first : Part) (parts : List Part) (pieces : List Piece) → AreLaid place (first ∷ parts)
    → AreKeptFrom place status (first ∷ parts) pieces → AreKeptFrom (place + length first.body) status parts pieces
AreKeptFrom-next place status first parts pieces laid_out kept piece among =
    let of_part = kept piece among in (
      of_part.0,
      of_part.1,
      λ late. elim (Contains-cons first parts of_part.0 (of_part.2 (omega arith))) [
        | inl same ↦ absurd (omega (arith, laid_out.0, laid_out.1, ap (λ (p : Part). p.offset) same))
        | inr later ↦ later
      ],
    )

-- one piece and then the others
text-next : (most status place : ℕ) (first : Part) (parts : List Part) (pieces : List Piece) (text : List ℕ) (piece : Piece) → IsTextFrom most status pieces
    → AreLaid place (first ∷ parts) → AreKeptFrom place status (first ∷ parts) pieces → piece ≡ piece_kept status first
    → cond piece.more (option_map (λ rest. piece.text ++ rest) (joined_from most (place + piece.span) pieces)) (Some piece.text) ≡ Some text
    → text ≡ text_in (first ∷ parts)
text-next most status place first [] pieces text piece onward laid_out kept is whole =
    let last : piece.more ≡ false = ap (λ (p : Piece). p.more) is ∙ laid_out.2 in
    let end : Some piece.text ≡ Some text = rw last at whole in
    let same : text ≡ piece.text = cc in
    same ∙ ap (λ (p : Piece). p.text) is ∙ sym (append-nil (untagged first.body))
text-next most status place first (next ∷ parts) pieces text piece onward laid_out kept is whole =
    let more : piece.more ≡ true = ap (λ (p : Piece). p.more) is ∙ laid_out.2 in
    let front : option_map (λ rest. piece.text ++ rest) (joined_from most (place + piece.span) pieces) ≡ Some text = rw more at whole in
    let found = option_map-found (λ (rest : List ℕ). piece.text ++ rest) (joined_from most (place + piece.span) pieces) text front in
    let span : piece.span ≡ length first.body = ap (λ (p : Piece). p.span) is in
    let behind : joined_from most (place + length first.body) pieces ≡ Some found.0 = ap (λ n. joined_from most (place + n) pieces) (sym span) ∙ found.1 in
    let rest : found.0 ≡ text_in (next ∷ parts) = onward (place + length first.body) (next ∷ parts) found.0 laid_out.3 (AreKeptFrom-next place status first (next ∷ parts) pieces laid_out kept) behind in
    found.2 ∙ (λ i. (ap (λ (p : Piece). p.text) is) i ++ rest i)

-- what stands at a place is kept of the part that lies there
text-found : (most status place : ℕ) (parts : List Part) (pieces : List Piece) (text : List ℕ) (piece : Piece) → IsTextFrom most status pieces
    → AreLaid place parts → AreKeptFrom place status parts pieces → Contains pieces piece → piece.offset ≡ place
    → cond piece.more (option_map (λ rest. piece.text ++ rest) (joined_from most (place + piece.span) pieces)) (Some piece.text) ≡ Some text
    → text ≡ text_in parts
text-found most status place [] pieces text piece onward laid_out kept among there whole =
    let of_part = kept piece among in
    absurd (Contains-none of_part.0 (of_part.2 (omega (arith, ap (λ (p : Piece). p.offset) of_part.1, there))))
text-found most status place (first ∷ parts) pieces text piece onward laid_out kept among there whole =
    let of_part = kept piece among in
    let offset : of_part.0.offset ≡ place = sym (ap (λ (p : Piece). p.offset) of_part.1) ∙ there in
    elim (Contains-cons first parts of_part.0 (of_part.2 (omega (arith, offset)))) [
      | inl same ↦ text-next most status place first parts pieces text piece onward laid_out kept (of_part.1 ∙ ap (piece_kept status) (sym same)) whole
      | inr later ↦ absurd (omega (arith, offset-from (place + length first.body) parts of_part.0 laid_out.3 later, laid_out.1, offset))
    ]

-- pieces kept of laid parts, joined from the first place on, have the text of the parts
joined_from-laid : (status : ℕ) (pieces : List Piece) (most : ℕ) → IsTextFrom most status pieces
joined_from-laid status pieces zero place parts text laid_out kept whole = absurd (cc)
joined_from-laid status pieces (suc most) place parts text laid_out kept whole =
    let onward = elim (piece_at place pieces) as (λ found. piece_at place pieces ≡ found
    → option_and_then (λ piece. cond piece.more (option_map (λ rest. piece.text ++ rest) (joined_from most (place + piece.span) pieces)) (Some piece.text)) found ≡ Some text
    → text ≡ text_in parts) [
      | None ↦ λ is none. absurd (cc)
      | Some piece ↦ λ is step.
          let there = find-found (λ (p : Piece). p.offset == place) pieces piece is in
          let offset : piece.offset ≡ place = grind (arith, nat_tests) in
          text-found most status place parts pieces text piece (joined_from-laid status pieces most) laid_out kept there.0 offset step
    ] in
    onward refl whole

-- what holds of each element holds of this one
AllByRecursion-at : {X : Type 0} (P : X → Type 0) (xs : List X) (x : X) → AllByRecursion P xs → Contains xs x → P x
AllByRecursion-at P xs x all among = All-contains P xs x (All-from_recursion P xs all) among

-- parts end to end are several, or one that is whole by itself
several_or_one : (parts : List Part) → LieFrom 0 parts → (2 ≤ length parts) ⊎ ((one : Part) × (parts ≡ one ∷ []) × (one.offset ≡ 0) × (one.more ≡ false))
several_or_one [] lie = absurd lie
several_or_one (part ∷ []) lie = inr (part, refl, lie.0, lie.1)
several_or_one (part ∷ next ∷ parts) lie = inl (omega arith)

-- several parts of an answer are laid end to end
AreLaid-several : (tag : ℕ) (items : List Item) → 2 ≤ length (parts_cut tag items) → AreLaid 0 (parts_cut tag items)
AreLaid-several tag items several = AreLaid-lying 0 (parts_cut tag items) (parts-lie tag items) (parts-filled tag items several)

-- the one element of a list
Contains-one : {X : Type 0} (y x : X) (xs : List X) → xs ≡ y ∷ [] → Contains xs x → y ≡ x
Contains-one {X} y x xs one among =
    let P : List X → Type 0 = λ zs. Contains zs x in
    elim (Contains-cons y [] x (subst P one among)) [
      | inl same ↦ same
      | inr later ↦ absurd (Contains-none x later)
    ]

-- a part that is not whole by itself is one of several
several-fragment : (tag : ℕ) (items : List Item) (part : Part) → Contains (parts_cut tag items) part → (part.offset == 0 && not part.more) ≡ false → 2 ≤ length (parts_cut tag items)
several-fragment tag items part among fragment =
    elim (several_or_one (parts_cut tag items) (parts-lie tag items)) [
      | inl several ↦ several
      | inr alone ↦
          let same : alone.0 ≡ part = Contains-one alone.0 part (parts_cut tag items) alone.1 among in
          let first : part.offset ≡ 0 = ap (λ (p : Part). p.offset) (sym same) ∙ alone.2 in
          let last : part.more ≡ false = ap (λ (p : Part). p.more) (sym same) ∙ alone.3 in
          let test : (part.offset == 0 && not part.more) ≡ true = (λ i. first i == 0 && not (last i)) in
          let clash : true ≡ false = sym test ∙ fragment in
          absurd (cc)
    ]

-- and its tag is that of the answer
tag_of-fragment : (tag : ℕ) (items : List Item) (part : Part) → IsCuttable tag items → Contains (parts_cut tag items) part → (part.offset == 0 && not part.more) ≡ false
    → tag_of part.body ≡ tag_text tag
tag_of-fragment tag items part cuttable among fragment =
    AllByRecursion-at (λ (p : Part). tag_of p.body ≡ tag_text tag) (parts_cut tag items) part
    (parts-tagged tag items cuttable.short (several-fragment tag items part among fragment)) among

-- a laid part that is whole by itself has the text of all parts
text-whole : (parts : List Part) (part : Part) → AreLaid 0 parts → Contains parts part → part.offset ≡ 0 → part.more ≡ false → untagged part.body ≡ text_in parts
text-whole [] part laid_out among first last = absurd (Contains-none part among)
text-whole (one ∷ parts) part laid_out among first last =
    elim (Contains-cons one parts part among) [
      | inl same ↦ text-alone one parts part laid_out same last
      | inr later ↦ absurd (omega (arith, offset-from (0 + length one.body) parts part laid_out.3 later, laid_out.1, first))
    ]
  where
    text-alone : (one : Part) (parts : List Part) (part : Part) → AreLaid 0 (one ∷ parts) → one ≡ part → part.more ≡ false → untagged part.body ≡ text_in (one ∷ parts)
    text-alone one [] part laid_out same last = ap (λ (p : Part). untagged p.body) (sym same) ∙ sym (append-nil (untagged one.body))
    text-alone one (next ∷ parts) part laid_out same last =
        let clash : true ≡ false = sym laid_out.2 ∙ ap (λ (p : Part). p.more) same ∙ last in
        absurd (cc)

-- a part that is whole by itself has the text of its answer
text-whole_part : (tag : ℕ) (items : List Item) (part : Part) → Contains (parts_cut tag items) part → part.offset ≡ 0 → part.more ≡ false → untagged part.body ≡ text_in (parts_cut tag items)
text-whole_part tag items part among first last =
    elim (several_or_one (parts_cut tag items) (parts-lie tag items)) [
      | inl several ↦ text-whole (parts_cut tag items) part (AreLaid-several tag items several) among first last
      | inr alone ↦
          let same : alone.0 ≡ part = Contains-one alone.0 part (parts_cut tag items) alone.1 among in
          ap (λ (p : Part). untagged p.body) (sym same) ∙ sym (append-nil (untagged alone.0.body)) ∙ ap text_in (sym alone.1)
    ]

-- what is kept under the tag of an answer is kept of its parts
IsKeptOf-answer : (answers : List Served) (status tag : ℕ) (items : List Item) (text : List ℕ) (piece : Piece) → AreServed answers → Contains answers (Listed status tag items)
    → text ≡ tag_text tag → IsKeptOf answers text piece → (part : Part) × (piece ≡ piece_kept status part) × Contains (parts_cut tag items) part
IsKeptOf-answer answers status tag items text piece served among tagged kept =
    let its = served.each (Listed status tag items) among in
    let theirs = served.each (Listed kept.status kept.tag kept.items) kept.among in
    let same_tag : tag ≡ kept.tag = tag_text-injective tag kept.tag its.0 theirs.0 (sym tagged ∙ kept.tagged) in
    let same = served.tagged (Listed status tag items) (Listed kept.status kept.tag kept.items) among kept.among same_tag in
    let In : ℕ → List Item → Type 0 = λ t xs. Contains (parts_cut t xs) kept.part in (
      kept.part,
      kept.kept ∙ ap (λ s. piece_kept s kept.part) (sym same.0),
      subst (λ t. In t items) (sym same_tag) (subst (λ xs. In kept.tag xs) (sym same.1) kept.of_answer),
    )

-- a datagram that is kept is a fragment of a cut answer
IsKeptOf-fragment : (answers : List Served) (answer : Served) (f : FrameParts) → AreServed answers → Contains answers answer → IsDatagramOf answer f
    → (f.error || is_whole f) ≡ false → IsKeptOf answers (tag_of f.body) (piece_of f)
IsKeptOf-fragment answers (Refusal code) f served among datagram fragment =
    let tests = or_parts f.error (is_whole f) fragment in
    let clash : true ≡ false = sym datagram.0 ∙ tests.0 in
    absurd (cc)
IsKeptOf-fragment answers (Body status body) f served among datagram fragment =
    let tests = or_parts f.error (is_whole f) fragment in
    let carries = datagram.2 in
    let test : is_whole f ≡ true = (λ i. carries.offset i == 0 && not (carries.more i)) in
    let clash : true ≡ false = sym test ∙ tests.1 in
    absurd (cc)
IsKeptOf-fragment answers (Listed status tag items) f served among datagram fragment =
    let tests = or_parts f.error (is_whole f) fragment in
    let part : Part = datagram.2.0 in
    let carries : Carries f part = datagram.2.2 in
    let its = served.each (Listed status tag items) among in
    let same : is_whole f ≡ (part.offset == 0 && not part.more) = (λ i. carries.offset i == 0 && not (carries.more i)) in
    record {
      status = status;
      tag = tag;
      items = items;
      part = part;
      among = among;
      tagged = ap tag_of carries.body ∙ tag_of-fragment tag items part its.2 datagram.2.1 (sym same ∙ tests.1);
      of_answer = datagram.2.1;
      kept = (λ i. record {
        offset = carries.offset i;
        more = carries.more i;
        status = datagram.1 i;
        span = length (carries.body i);
        text = untagged (carries.body i);
      });
    }

-- what the groups keep is of these answers
abbrev GroupsOf : List Served → List Group → Type 0
GroupsOf answers groups = AllByRecursion (λ group. AllByRecursion (IsKeptOf answers group.tag) group.pieces) groups

-- the pieces of a tag are of the answers
AllByRecursion-pieces_of : (answers : List Served) (tag : List ℕ) (groups : List Group) → GroupsOf answers groups → AllByRecursion (IsKeptOf answers tag) (pieces_of (group_of tag groups))
AllByRecursion-pieces_of answers tag [] all = tt
AllByRecursion-pieces_of answers tag (group ∷ groups) all =
    let chosen = elim (bytes_eq group.tag tag) as (λ b. bytes_eq group.tag tag ≡ b → AllByRecursion (IsKeptOf answers tag) (pieces_of (cond b (Some group) (group_of tag groups)))) [
      | true ↦ λ is. subst (λ text. AllByRecursion (IsKeptOf answers text) group.pieces) (bytes_eq-same group.tag tag is) all.0
      | false ↦ λ is. AllByRecursion-pieces_of answers tag groups all.1
    ] in
    chosen refl

-- a piece more of the answers
GroupsOf-with_piece : (answers : List Served) (tag : List ℕ) (piece : Piece) (groups : List Group) → GroupsOf answers groups → IsKeptOf answers tag piece → GroupsOf answers (with_piece tag piece groups)
GroupsOf-with_piece answers tag piece [] all one = ((one, tt), tt)
GroupsOf-with_piece answers tag piece (group ∷ groups) all one =
    let chosen = elim (bytes_eq group.tag tag) as (λ b. bytes_eq group.tag tag ≡ b
    → GroupsOf answers (cond b (record { tag = group.tag; pieces = group.pieces ++ piece ∷ [] } ∷ groups) (group ∷ with_piece tag piece groups))) [
      | true ↦ λ is. (
        AllByRecursion-append (IsKeptOf answers group.tag) group.pieces (piece ∷ []) all.0 (subst (λ text. IsKeptOf answers text piece) (sym (bytes_eq-same group.tag tag is)) one, tt),
        all.1,
      )
      | false ↦ λ is. (all.0, GroupsOf-with_piece answers tag piece groups all.1 one)
    ] in
    chosen refl

-- a fragment that is kept, or not
GroupsOf-fragment_kept : (answers : List Served) (why : Option Unused) (groups : List Group) (f : FrameParts) → GroupsOf answers groups → IsKeptOf answers (tag_of f.body) (piece_of f)
    → GroupsOf answers (fragment_kept why groups f)
GroupsOf-fragment_kept answers (Some why) groups f all one = all
GroupsOf-fragment_kept answers None groups f all one = GroupsOf-with_piece answers (tag_of f.body) (piece_of f) groups all one

-- the groups after a datagram of an answer
GroupsOf-groups_by : (answers : List Served) (answer : Served) (why : Option Unused) (groups : List Group) (f : FrameParts) → AreServed answers → Contains answers answer → IsDatagramOf answer f
    → GroupsOf answers groups → GroupsOf answers (groups_by why groups f)
GroupsOf-groups_by answers answer (Some why) groups f served among datagram all = all
GroupsOf-groups_by answers answer None groups f served among datagram all =
    let chosen = elim (f.error || is_whole f) as (λ b. (f.error || is_whole f) ≡ b → GroupsOf answers (cond b groups (fragment_kept (surplus_of groups f) groups f))) [
      | true ↦ λ is. all
      | false ↦ λ is. GroupsOf-fragment_kept answers (surplus_of groups f) groups f all (IsKeptOf-fragment answers answer f served among datagram is)
    ] in
    chosen refl

-- what is kept after a datagram of an answer was cut from the answers
pub AreOf-kept_after : (answers : List Served) (answer : Served) (g : GroupsParts) (f : FrameParts) → AreServed answers → Contains answers answer → IsDatagramOf answer f → AreOf answers g → AreOf answers (kept_after g f)
unfolding kept_after
AreOf-kept_after answers answer g f served among datagram all = GroupsOf-groups_by answers answer (mismatch_of g f) g.groups f served among datagram all

-- a choice of steps
IsTold-cond : (answer : Served) (b : Bool) (first second : Step) → (b ≡ true → IsTold answer first) → (b ≡ false → IsTold answer second) → IsTold answer (cond b first second)
IsTold-cond answer true first second by_true by_false = by_true refl
IsTold-cond answer false first second by_true by_false = by_false refl

-- what pieces make tells the answer, where each status and text of theirs does
IsTold-made_of : (answer : Served) (first : Option ℕ) (whole : Option (List ℕ)) → ((status : ℕ) (text : List ℕ) → first ≡ Some status → whole ≡ Some text → Tells status text answer)
    → IsTold answer (made_of first whole)
IsTold-made_of answer None None tells = tt
IsTold-made_of answer None (Some text) tells = tt
IsTold-made_of answer (Some status) None tells = tt
IsTold-made_of answer (Some status) (Some text) tells = tells status text refl refl

-- a fragment that is not kept tells nothing
IsTold-fragment_step : (answer : Served) (why : Option Unused) (pieces : List Piece) → IsTold answer (made_of (first_status pieces) (joined pieces)) → IsTold answer (fragment_step why pieces)
IsTold-fragment_step answer (Some why) pieces told = tt
IsTold-fragment_step answer None pieces told = told

-- a datagram that does not fit the request tells nothing
IsTold-step_by : (answer : Served) (why : Option Unused) (groups : List Group) (f : FrameParts) → IsTold answer (step_by None groups f) → IsTold answer (step_by why groups f)
IsTold-step_by answer (Some why) groups f told = tt
IsTold-step_by answer None groups f told = told

-- pieces of an answer, joined, tell it
Tells-joined : (answers : List Served) (status tag : ℕ) (items : List Item) (label : List ℕ) (pieces : List Piece) (its : ℕ) (text : List ℕ) → AreServed answers
    → Contains answers (Listed status tag items) → AreLaid 0 (parts_cut tag items) → label ≡ tag_text tag → AllByRecursion (IsKeptOf answers label) pieces
    → first_status pieces ≡ Some its → joined pieces ≡ Some text → Tells its text (Listed status tag items)
unfolding joined
Tells-joined answers status tag items label pieces its text served among laid_out tagged all first whole =
    let kept : AreKeptFrom 0 status (parts_cut tag items) pieces = λ piece there.
    let of_part = IsKeptOf-answer answers status tag items label piece served among tagged (AllByRecursion-at (IsKeptOf answers label) pieces piece all there) in
    (of_part.0, of_part.1, λ late. of_part.2) in
    let same : text ≡ text_in (parts_cut tag items) = joined_from-laid status pieces (length pieces) 0 (parts_cut tag items) text laid_out kept whole in
    let begins = option_map-found (λ (piece : Piece). piece.status) (piece_at 0 pieces) its first in
    let there = find-found (λ (piece : Piece). piece.offset == 0) pieces begins.0 begins.1 in
    let of_part = kept begins.0 there.0 in
    let can = served.each (Listed status tag items) among in
    let Reads : List ℕ → Type 0 = λ xs. IsItemText xs items in
    (begins.2 ∙ ap (λ (piece : Piece). piece.status) of_part.1, subst Reads (sym same) (parts-read tag items can.0 can.1 can.2))

-- a datagram of a cut answer tells that answer, if any
IsTold-listed : (answers : List Served) (status tag : ℕ) (items : List Item) (groups : List Group) (f : FrameParts) → AreServed answers → Contains answers (Listed status tag items)
    → IsDatagramOf (Listed status tag items) f → GroupsOf answers groups → IsTold (Listed status tag items) (step_by None groups f)
IsTold-listed answers status tag items groups f served among datagram all =
    let answer : Served = Listed status tag items in
    let part : Part = datagram.2.0 in
    let carries : Carries f part = datagram.2.2 in
    let can = served.each answer among in
    let Reads : List ℕ → Type 0 = λ xs. IsItemText xs items in
    let whole : is_whole f ≡ true → Tells f.status (untagged f.body) answer = λ is.
    let tests = and_parts (f.offset == 0) (not f.more) is in
    let first : f.offset ≡ 0 = grind (arith, nat_tests) in
    let last : f.more ≡ false = not-true f.more tests.1 in
    let same : untagged f.body ≡ text_in (parts_cut tag items) =
    ap untagged carries.body ∙ text-whole_part tag items part datagram.2.1 (sym carries.offset ∙ first) (sym carries.more ∙ last) in
    (datagram.1, subst Reads (sym same) (parts-read tag items can.0 can.1 can.2)) in
    let fragment : f.error ≡ false → is_whole f ≡ false → IsTold answer (fragment_step (surplus_of groups f) (pieces_with groups f)) = λ good is.
    let neither : (f.error || is_whole f) ≡ false = rw (good, is) refl in
    let one = IsKeptOf-fragment answers answer f served among datagram neither in
    let same : is_whole f ≡ (part.offset == 0 && not part.more) = (λ i. carries.offset i == 0 && not (carries.more i)) in
    let laid_out = AreLaid-several tag items (several-fragment tag items part datagram.2.1 (sym same ∙ is)) in
    let tagged = ap tag_of carries.body ∙ tag_of-fragment tag items part can.2 datagram.2.1 (sym same ∙ is) in
    let pieces = AllByRecursion-append (IsKeptOf answers (tag_of f.body)) (pieces_of (group_of (tag_of f.body) groups)) (piece_of f ∷ [])
    (AllByRecursion-pieces_of answers (tag_of f.body) groups all) (one, tt) in
    IsTold-fragment_step answer (surplus_of groups f) (pieces_with groups f)
    (IsTold-made_of answer (first_status (pieces_with groups f)) (joined (pieces_with groups f))
    (λ its text first rest. Tells-joined answers status tag items (tag_of f.body) (pieces_with groups f) its text served among laid_out tagged pieces first rest)) in
    IsTold-cond answer f.error (Then.Refused (f.status / 2 ^ 8)) (cond (is_whole f) (Then.Whole f.status (untagged f.body)) (fragment_step (surplus_of groups f) (pieces_with groups f)))
    (λ bad. (let clash : true ≡ false = sym bad ∙ datagram.0 in absurd (cc)))
    (λ good. IsTold-cond answer (is_whole f) (Then.Whole f.status (untagged f.body)) (fragment_step (surplus_of groups f) (pieces_with groups f)) whole (fragment good))
  where
    not-true : (b : Bool) → not b ≡ true → b ≡ false
    not-true true e = absurd (cc)
    not-true false e = refl

-- a body without a tag stays as it is
untagged-plain : (body : List ℕ) → is_tagged body ≡ false → untagged body ≡ body
unfolding untagged
untagged-plain body e = rw e refl

-- a datagram of an answer tells that answer, if any
IsTold-datagram : (answers : List Served) (answer : Served) (groups : List Group) (f : FrameParts) → AreServed answers → Contains answers answer → IsDatagramOf answer f
    → GroupsOf answers groups → IsTold answer (step_by None groups f)
IsTold-datagram answers (Refusal code) groups f served among datagram all =
    rw datagram.0 (ap Refusal (sym datagram.1))
IsTold-datagram answers (Body status body) groups f served among datagram all =
    let carries = datagram.2 in
    let can = served.each (Body status body) among in
    let test : is_whole f ≡ true = (λ i. carries.offset i == 0 && not (carries.more i)) in
    let plain : untagged f.body ≡ body = ap untagged carries.body ∙ untagged-plain body can.1 in
    IsTold-cond (Body status body) f.error (Then.Refused (f.status / 2 ^ 8)) (cond (is_whole f) (Then.Whole f.status (untagged f.body)) (fragment_step (surplus_of groups f) (pieces_with groups f)))
    (λ bad. (let clash : true ≡ false = sym bad ∙ datagram.0 in absurd (cc)))
    (λ good. IsTold-cond (Body status body) (is_whole f) (Then.Whole f.status (untagged f.body)) (fragment_step (surplus_of groups f) (pieces_with groups f))
    (λ is. (datagram.1, plain)) (λ is. (let clash : true ≡ false = sym test ∙ is in absurd (cc))))
IsTold-datagram answers (Listed status tag items) groups f served among datagram all = IsTold-listed answers status tag items groups f served among datagram all

-- what becomes of a datagram of an answer: where it refuses the request the answer is that refusal, and where an answer is
-- whole with it this answer is told
pub IsTold-step_of : (answers : List Served) (answer : Served) (g : GroupsParts) (f : FrameParts) → AreServed answers → Contains answers answer → IsDatagramOf answer f → AreOf answers g → IsTold answer (step_of g f)
unfolding step_of
IsTold-step_of answers answer g f served among datagram all =
    IsTold-step_by answer (mismatch_of g f) g.groups f (IsTold-datagram answers answer g.groups f served among datagram all)
