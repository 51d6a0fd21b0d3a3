-- What the reader of items makes of a slot that begins at a place, from where its parts end.
use Rattle.std.proofs.Common.{◌≡◌, ℕ, ◌+◌, ◌<◌, ◌≤◌, ◌==◌, ◌⊎◌, inl, inr, true, false, List, [], ◌∷◌, ◌++◌, length, drop, Some, None, refl, sym, ap, subst, ◌∙◌, append_assoc, arith}
use Rattle.std.proofs.lemmas.List.{append-nil}
use Rattle.std.proofs.lemmas.Bool.{cases_Bool}
use Rattle.std.specs.List.{AllByRecursion, prefix_len, list_all}
use Rattle.mode6_frame.specs.declared.items.Item.{Item}
use Rattle.mode6_frame.specs.declared.items.ItemFault.{ItemFault}
use Rattle.mode6_frame.specs.declared.items.ItemFault.TheVariants.{At, NoMemory}
use Rattle.mode6_frame.specs.Items.{equals, quote, is_white, is_name_octet, is_quoted_octet, is_bare_octet, Quoted, Bare, value_octets, Blank, Named, Valued, IsSlot}
use Rattle.mode6_frame.specs.ItemReader.{as_read, IsEnded, part, is_octet_at, IsTrimmedAt, IsUnclosedBefore, IsUnclosedValue, IsUnclosedSlot, IsToldAt, IsValueRead, IsSlotRead}
use Rattle.mode6_frame.proofs.WrittenLemmas.{AllByRecursion-append, AllByRecursion-parts}
use Rattle.mode6_frame.proofs.ItemLemmas.{all_pass}
use Rattle.mode6_frame.proofs.PartLemmas.{FirstFails, passes-part, part-then, length-part, part-octet, FirstFails-other, part-none, IsTrimmed-part}

-- what may not come next past a value in quotes
IsEnded-quoted : (before name left right value behind xs : List ℕ) → FirstFails is_white xs → IsEnded (Valued before name left right (Quoted value) behind) xs
IsEnded-quoted before name left right value behind [] white = tt
IsEnded-quoted before name left right value behind (octet ∷ xs) white = (white, λ items. refl)

-- past a bare one
IsEnded-bare : (before name left right value behind xs : List ℕ) → FirstFails is_white xs → (value ≡ [] → FirstFails is_bare_octet xs × FirstFails (λ x. x == quote) xs)
    → (list_all is_bare_octet behind ≡ true → FirstFails is_bare_octet xs) → IsEnded (as_read (Valued before name left right (Bare value) behind)) xs
IsEnded-bare before name left right [] behind [] white none all = tt
IsEnded-bare before name left right (first ∷ value) behind [] white none all = tt
IsEnded-bare before name left right [] behind (octet ∷ xs) white none all =
    let (bare, quoted) = none refl in
    (white, λ items. rw (bare, quoted) refl)
IsEnded-bare before name left right (first ∷ value) behind (octet ∷ xs) white none all = by (cases_Bool (list_all is_bare_octet behind))
  where
    by : (list_all is_bare_octet behind ≡ true) ⊎ (list_all is_bare_octet behind ≡ false) → IsEnded (Valued before name left right (Bare (first ∷ value)) behind) (octet ∷ xs)
    by (inl is) = (white, λ items. rw (is, all is) refl)
    by (inr not) = (white, λ items. rw not refl)

-- past a name
IsEnded-named : (before name behind xs : List ℕ) → FirstFails is_white xs → FirstFails (λ x. x == equals) xs → (behind ≡ [] → FirstFails is_name_octet xs) → IsEnded (Named before name behind) xs
IsEnded-named before name behind [] white equal none = tt
IsEnded-named before name [] (octet ∷ xs) white equal none = (white, λ items. rw (none refl, equal) refl)
IsEnded-named before name (space ∷ behind) (octet ∷ xs) white equal none = (white, λ items. rw equal refl)

-- and past white space alone
IsEnded-blank : (white xs : List ℕ) → FirstFails is_white xs → FirstFails is_name_octet xs → IsEnded (Blank white) xs
IsEnded-blank white [] fails name = tt
IsEnded-blank white (octet ∷ xs) fails name = (fails, λ items. rw name refl)

-- neither goes on with a value in quotes, nor closes it
IsUnclosed-from : (xs : List ℕ) → FirstFails is_quoted_octet xs → FirstFails (λ x. x == quote) xs → IsUnclosedBefore xs
IsUnclosed-from [] quoted other = tt
IsUnclosed-from (octet ∷ xs) quoted other = (quoted, other)

-- white space, a quotation mark and octets of a value
part-quoting : (text : List ℕ) (at begin end : ℕ) → at ≤ begin → begin + 1 ≤ end → part text begin (begin + 1) ≡ quote ∷ []
    → part text at end ≡ part text at begin ++ quote ∷ part text (begin + 1) end
part-quoting text at begin end below above is =
    part-then text at begin end below (omega arith)
    ∙ ap (λ xs. part text at begin ++ xs) (part-then text begin (begin + 1) end (omega arith) above ∙ ap (λ xs. xs ++ part text (begin + 1) end) is)

-- a value whose quotes nothing closes
pub IsUnclosedValue-quoting : (text : List ℕ) (at begin end : ℕ) → begin ≡ at + prefix_len is_white (drop at text) → is_octet_at quote (drop begin text) ≡ true
    → end ≡ begin + 1 + prefix_len is_quoted_octet (drop (begin + 1) text) → end ≤ length text → is_octet_at quote (drop end text) ≡ false → IsUnclosedValue text at end
IsUnclosedValue-quoting text at begin end begin_is opens end_is within other =
    let white = passes-part is_white text at begin begin_is in
    let quoted = passes-part is_quoted_octet text (begin + 1) end end_is in
    record {
      begun = omega arith;
      within = within;
      right = part text at begin;
      value = part text (begin + 1) end;
      are_white = white.0;
      is_value = quoted.0;
      spelled = part-quoting text at begin end (omega arith) (omega arith) (part-octet quote text begin opens).1;
      unclosed = IsUnclosed-from (drop end text) quoted.1 (FirstFails-other quote (drop end text) other);
    }

-- a value in quotes
pub IsValueRead-quoted : (text : List ℕ) (at begin end past : ℕ) → begin ≡ at + prefix_len is_white (drop at text) → is_octet_at quote (drop begin text) ≡ true
    → end ≡ begin + 1 + prefix_len is_quoted_octet (drop (begin + 1) text) → is_octet_at quote (drop end text) ≡ true
    → past ≡ end + 1 + prefix_len is_white (drop (end + 1) text) → past ≤ length text → IsValueRead text at (begin + 1) end past
IsValueRead-quoted text at begin end past begin_is opens end_is closes past_is within =
    let white = passes-part is_white text at begin begin_is in
    let quoted = passes-part is_quoted_octet text (begin + 1) end end_is in
    let behind = passes-part is_white text (end + 1) past past_is in
    let right = part text at begin in
    let value = part text (begin + 1) end in
    let closed = part-octet quote text end closes in
    record {
      begun = omega arith;
      within = within;
      right = right;
      value = Quoted value;
      behind = part text (end + 1) past;
      are_white = (white.0, behind.0);
      is_value = quoted.0;
      spelled = part-then text at (end + 1) past (omega arith) (omega arith)
          ∙ ap (λ xs. xs ++ part text (end + 1) past)
          (part-then text at end (end + 1) (omega arith) (omega arith)
          ∙ (λ i. part-quoting text at begin end (omega arith) (omega arith) (part-octet quote text begin opens).1 i ++ closed.1 i)
          ∙ append_assoc right (quote ∷ value) (quote ∷ []));
      here = refl;
      place = omega arith;
      fits = omega (arith, closed.0);
      ended = λ before name left. IsEnded-quoted before name left right value (part text (end + 1) past) (drop past text) behind.1;
    }

-- a bare value
pub IsValueRead-bare : (text : List ℕ) (at begin end run past : ℕ) → begin ≡ at + prefix_len is_white (drop at text) → is_octet_at quote (drop begin text) ≡ false
    → run ≡ begin + prefix_len is_bare_octet (drop begin text) → run ≤ length text → IsTrimmedAt text begin end run
    → past ≡ run + prefix_len is_white (drop run text) → past ≤ length text → IsValueRead text at begin end past
IsValueRead-bare text at begin end run past begin_is other run_is run_within trimmed past_is within =
    let begun = trimmed.begun in
    let cut = trimmed.within in
    let white = passes-part is_white text at begin begin_is in
    let bare = passes-part is_bare_octet text begin run run_is in
    let spaced = passes-part is_white text run past past_is in
    let value = part text begin end in
    let behind = part text end past in
    let parts : behind ≡ part text end run ++ part text run past = part-then text end run past cut (omega arith) in
    let is_bare = AllByRecursion-parts _ value (part text end run) (subst (AllByRecursion (λ x. is_bare_octet x ≡ true)) (part-then text begin end run begun cut) bare.0) in
    let none : value ≡ [] → run ≡ begin =
    λ is.
    let same : end ≡ begin = omega (arith, length-part text begin end (omega arith), ap length is) in
    part-none is_white text begin run (omega arith) run_within (subst (λ i. AllByRecursion (λ x. is_white x ≡ true) (part text i run)) same trimmed.white) white.1 in
    let no_more : run ≡ begin → past ≡ begin =
    λ is. part-none is_white text begin past (omega arith) within (subst (λ i. AllByRecursion (λ x. is_white x ≡ true) (part text i past)) is spaced.0) white.1 in
    let all_bare : list_all is_bare_octet behind ≡ true → FirstFails is_bare_octet (drop past text) =
    λ is.
    let rest = (AllByRecursion-parts _ (part text end run) (part text run past) (subst (AllByRecursion (λ x. is_bare_octet x ≡ true)) parts (all_pass is_bare_octet behind is))).1 in
    let same = part-none is_bare_octet text run past (omega arith) within rest bare.1 in
    subst (λ i. FirstFails is_bare_octet (drop i text)) (sym same) bare.1 in
    record {
      begun = omega arith;
      within = within;
      right = part text at begin;
      value = Bare value;
      behind = behind;
      are_white = (white.0, subst (AllByRecursion (λ x. is_white x ≡ true)) (sym parts) (AllByRecursion-append _ (part text end run) (part text run past) trimmed.white spaced.0));
      is_value = (is_bare.0, IsTrimmed-part text begin end run trimmed run_within white.1);
      spelled = part-then text at end past (omega arith) (omega arith) ∙ ap (λ xs. xs ++ behind) (part-then text at begin end (omega arith) begun);
      here = refl;
      place = begun;
      fits = omega arith;
      ended = λ before name left. IsEnded-bare before name left (part text at begin) value behind (drop past text) spaced.1
          (λ is. (
            subst (λ i. FirstFails is_bare_octet (drop i text)) (none is ∙ sym (no_more (none is))) bare.1,
            subst (λ i. FirstFails (λ x. x == quote) (drop i text)) (sym (no_more (none is))) (FirstFails-other quote (drop begin text) other),
          )) all_bare;
    }

-- white space, a name and white space from a place on
pub record IsNameAt (text : List ℕ) (at begin end past : ℕ) : Type 0 where
  begun : at ≤ begin
  long : begin < end
  further : end ≤ past
  within : past ≤ length text
  is_named : IsSlot (Named (part text at begin) (part text begin end) (part text end past))
  spelled : part text at past ≡ part text at begin ++ part text begin end ++ part text end past
  white : FirstFails is_white (drop past text)
  name : FirstFails is_name_octet (drop end text)

-- so it is where the reader finds a name
pub IsNameAt-found : (text : List ℕ) (at begin end past : ℕ) → begin ≡ at + prefix_len is_white (drop at text) → end ≡ begin + prefix_len is_name_octet (drop begin text)
    → ¬ (begin ≡ end) → past ≡ end + prefix_len is_white (drop end text) → past ≤ length text → IsNameAt text at begin end past
IsNameAt-found text at begin end past begin_is end_is some past_is within =
    let white = passes-part is_white text at begin begin_is in
    let named = passes-part is_name_octet text begin end end_is in
    let spaced = passes-part is_white text end past past_is in
    record {
      begun = omega arith;
      long = omega arith;
      further = omega arith;
      within = within;
      is_named = (white.0, omega (arith, length-part text begin end (omega arith)), named.0, spaced.0);
      spelled = part-then text at end past (omega arith) (omega arith) ∙ ap (λ xs. xs ++ part text end past) (part-then text at begin end (omega arith) (omega arith));
      white = spaced.1;
      name = named.1;
    }

-- a slot without a name
pub IsSlotRead-blank : (text : List ℕ) (at begin end : ℕ) (items : List Item) → begin ≤ length text
    → begin ≡ at + prefix_len is_white (drop at text) → end ≡ begin + prefix_len is_name_octet (drop begin text) → begin ≡ end
    → IsSlotRead text at begin items items
IsSlotRead-blank text at begin end items within begin_is end_is none =
    let white = passes-part is_white text at begin begin_is in
    let named = passes-part is_name_octet text begin end end_is in
    record {
      begun = omega arith;
      within = within;
      slot = Blank (part text at begin);
      is_slot = white.0;
      spelled = refl;
      here = sym (append-nil items);
      ended = IsEnded-blank (part text at begin) (drop begin text) white.1 (subst (λ i. FirstFails is_name_octet (drop i text)) (sym none) named.1);
    }

-- a slot with a name alone
pub IsSlotRead-named : (text : List ℕ) (at begin end past : ℕ) (items pushed : List Item) → IsNameAt text at begin end past → is_octet_at equals (drop past text) ≡ false
    → pushed ≡ items ++ record { name = part text begin end; value = None } ∷ [] → IsSlotRead text at past items pushed
IsSlotRead-named text at begin end past items pushed name other is = record {
  begun = omega (arith, name.begun, name.long, name.further);
  within = name.within;
  slot = Named (part text at begin) (part text begin end) (part text end past);
  is_slot = name.is_named;
  spelled = name.spelled;
  here = is;
  ended = IsEnded-named (part text at begin) (part text begin end) (part text end past) (drop past text) name.white (FirstFails-other equals (drop past text) other)
      (λ none.
      let same : end ≡ past = omega (arith, name.further, length-part text end past name.within, ap length none) in
      subst (λ i. FirstFails is_name_octet (drop i text)) same name.name);
}

-- a name, an equals sign and what stands behind it
part-equals : (text : List ℕ) (at begin end past after : ℕ) → IsNameAt text at begin end past → is_octet_at equals (drop past text) ≡ true → past + 1 ≤ after
    → part text at after ≡ (part text at begin ++ part text begin end ++ part text end past) ++ equals ∷ part text (past + 1) after
part-equals text at begin end past after name is further =
    part-then text at past after (omega (arith, name.begun, name.long, name.further)) (omega arith)
    ∙ (λ i. name.spelled i ++ (part-then text past (past + 1) after (omega arith) further ∙ ap (λ xs. xs ++ part text (past + 1) after) (part-octet equals text past is).1) i)

-- a slot with a name and a value
pub IsSlotRead-valued : (text : List ℕ) (at begin end past from to last : ℕ) (items pushed : List Item) → IsNameAt text at begin end past → is_octet_at equals (drop past text) ≡ true
    → IsValueRead text (past + 1) from to last → pushed ≡ items ++ record { name = part text begin end; value = Some (part text from to) } ∷ [] → IsSlotRead text at last items pushed
IsSlotRead-valued text at begin end past from to last items pushed name is value is_pushed =
    let before = part text at begin in
    let letters = part text begin end in
    let left = part text end past in
    let front = (before ++ letters) ++ left in
    let octets = value_octets value.value in
    record {
      begun = omega (arith, name.begun, name.long, name.further, value.begun);
      within = value.within;
      slot = Valued before letters left value.right value.value value.behind;
      is_slot = (name.is_named.0, name.is_named.1, name.is_named.2, name.is_named.3, value.are_white.0, value.is_value, value.are_white.1);
      spelled = part-equals text at begin end past last name is value.begun
          ∙ ap (λ xs. front ++ equals ∷ xs) value.spelled
          ∙ sym (append_assoc front (equals ∷ (value.right ++ octets)) value.behind)
          ∙ ap (λ xs. xs ++ value.behind) (sym (append_assoc front (equals ∷ value.right) octets));
      here = is_pushed ∙ ap (λ its. items ++ record { name = letters; value = Some its } ∷ []) (sym value.here);
      ended = value.ended before letters left;
    }

-- a slot whose quotes nothing closes
pub IsUnclosedSlot-valued : (text : List ℕ) (at begin end past : ℕ) (fault : ItemFault) → IsNameAt text at begin end past → is_octet_at equals (drop past text) ≡ true
    → IsToldAt (IsUnclosedValue text (past + 1)) fault → IsToldAt (IsUnclosedSlot text at) fault
IsUnclosedSlot-valued text at begin end past (At place) name is (octets, value, told) =
    let before = part text at begin in
    let letters = part text begin end in
    let left = part text end past in
    let front = (before ++ letters) ++ left in (
      octets,
      record {
        begun = omega (arith, name.begun, name.long, name.further, value.begun);
        within = value.within;
        before = before;
        name = letters;
        left = left;
        right = value.right;
        value = value.value;
        is_slot = (name.is_named.0, name.is_named.1, name.is_named.2, name.is_named.3, value.are_white, value.is_value, tt);
        spelled = part-equals text at begin end past octets name is value.begun
            ∙ ap (λ xs. front ++ equals ∷ xs) value.spelled
            ∙ sym (append_assoc front (equals ∷ value.right) (quote ∷ value.value));
        unclosed = value.unclosed;
      },
      told,
    )
IsUnclosedSlot-valued text at begin end past NoMemory name is value = tt
