-- The datagrams of a page: their number depends neither on the origin nor on a nonce that needs no quotes, and each item is short.
use Rattle.std.proofs.Common.{◌≡◌, ℕ, suc, ◌+◌, ◌<◌, ◌≤◌, ◌^◌, Bool, true, false, List, [], ◌∷◌, ◌++◌, length, map, decimal, Option, Some, None, refl, sym, ap, subst, ◌∙◌, arith, length-append}
use Rattle.std.specs.Prelude.{nat_le, if◌then◌else◌, option_map, replicate, codes}
use Rattle.std.specs.List.{AllByRecursion, list_any}
use Rattle.std.proofs.lemmas.Bool.{cond_both, cond-true, leb-true, leb-false, le-leb}
use Rattle.std.proofs.lemmas.Fmt.{length-decimal-le}
use Rattle.std.proofs.lemmas.List.{map-append}
use Rattle.std.proofs.lemmas.List.Sums.{sum_by-cons}
use Rattle.mode6_frame.specs.declared.items.Item.{Item}
use Rattle.mode6_frame.specs.Cuts.{AreShort, IsCuttable, TAG_ITEM_LEN, has_room, lengths_of, parts_count, plain_len, runs_count}
use Rattle.mode6_frame.specs.ItemTexts.{is_separator, item_text}
use Rattle.mode6_frame.specs.Stamps.{stamp_text}
use Rattle.mode6_frame.proofs.CutLemmas.{IsCuttable-counted}
use Rattle.mru_items.specs.declared.answer.TheConstants.{NONCE_OCTETS}
use Rattle.mru_items.specs.declared.pair.Pair.{Pair}
use Rattle.mru_items.specs.Answers.{answer_items, older_items, row_items, rows_items, time_items}
use Rattle.mru_items.specs.Names.{numbered, valued}
use Rattle.mru_items.specs.Queries.{told_time}
use Rattle.mru_items.specs.Values.{flags_text}
use Rattle.net_addr.specs.Addresses.{IsAddr}
use Rattle.net_addr.specs.Spelling.{text_of}
use Rattle.std.specs.Net.Text.{hex}
use Rattle.mru_read.specs.declared.pages.Page.{Page}
use Rattle.mru_read.specs.Pages.{IsTellable, IsTellablePair, IsTellableRow, IsUnquoted, at_end, items_of_page, page_parts, shown_row, told_pair}
use Rattle.mru_read.proofs.MeasureLemmas.{parts-some}
use Rattle.mru_read.proofs.SizeLemmas.{addr-plain, addr-short, addr_of, decimal-plain, hex-plain, length-hex, length-numbered, length-plain, length-stamp_item, length-valued, plain-append}
use Rattle.recency.specs.declared.row.Row.{Row}
use Rattle.recency.proofs.ListLemmas.{AllByRecursion-append}

-- lengths of items one after another
lengths-append : (xs ys : List Item) → lengths_of (xs ++ ys) ≡ lengths_of xs ++ lengths_of ys
lengths-append xs ys = map-append (λ (item : Item). length (item_text item)) xs ys

-- lists of the same lengths, one after another
same-append : (xs ys us vs : List Item) → lengths_of xs ≡ lengths_of us → lengths_of ys ≡ lengths_of vs → lengths_of (xs ++ ys) ≡ lengths_of (us ++ vs)
same-append xs ys us vs first second = lengths-append xs ys ∙ (λ i. first i ++ second i) ∙ sym (lengths-append us vs)

-- a timestamp has one length
same-stamp : (name : List ℕ) (one other : ℕ) → length (item_text (valued name (stamp_text one))) ≡ length (item_text (valued name (stamp_text other)))
same-stamp name one other = length-stamp_item name one ∙ sym (length-stamp_item name other)

same-older : (origin : ℕ) (confirmed : Option Pair) → lengths_of (older_items (option_map (told_pair origin) confirmed)) ≡ lengths_of (older_items (option_map (told_pair 0) confirmed))
same-older origin None = refl
same-older origin (Some pair) =
    λ i. length (item_text (valued (codes "addr.older") (text_of pair.addr))) ∷ same-stamp (codes "last.older") (told_time origin pair.last) (told_time 0 pair.last) i ∷ []

same-row : (origin number : ℕ) (row : Row) → lengths_of (row_items number (shown_row origin row)) ≡ lengths_of (row_items number (shown_row 0 row))
same-row origin number row =
    λ i. length (item_text (valued (numbered (codes "addr") number) (text_of (addr_of row))))
    ∷ same-stamp (numbered (codes "last") number) (told_time origin row.last) (told_time 0 row.last) i
    ∷ same-stamp (numbered (codes "first") number) (told_time origin row.first) (told_time 0 row.first) i
    ∷ length (item_text (valued (numbered (codes "ct") number) (decimal row.count)))
    ∷ length (item_text (valued (numbered (codes "mv") number) (decimal row.mv)))
    ∷ length (item_text (valued (numbered (codes "rs") number) (flags_text row.flags)))
    ∷ []

same-rows : (origin number : ℕ) (rows : List Row) → lengths_of (rows_items number (map (shown_row origin) rows)) ≡ lengths_of (rows_items number (map (shown_row 0) rows))
same-rows origin number [] = refl
same-rows origin number (row ∷ rows) =
    same-append (row_items number (shown_row origin row)) (rows_items (suc number) (map (shown_row origin) rows)) (row_items number (shown_row 0 row)) (rows_items (suc number) (map (shown_row 0) rows))
    (same-row origin number row) (same-rows origin (suc number) rows)

same-time : (name : List ℕ) (origin : ℕ) (ended : Bool) (time : Option ℕ) → lengths_of (time_items name (at_end ended (option_map (told_time origin) time))) ≡ lengths_of (time_items name (at_end ended (option_map (told_time 0) time)))
same-time name origin false time = refl
same-time name origin true None = refl
same-time name origin true (Some time) = λ i. same-stamp name (told_time origin time) (told_time 0 time) i ∷ []

-- the items behind the nonce
abbrev rest_items : Page → ℕ → List Item
rest_items page origin =
    older_items (option_map (told_pair origin) page.confirmed) ++ rows_items 0 (map (shown_row origin) page.rows)
    ++ time_items (codes "now") (at_end page.ended (Some (told_time origin page.now)))
    ++ time_items (codes "last.newest") (at_end page.ended (option_map (told_time origin) page.newest))

items-are : (page : Page) (nonce : List ℕ) (origin : ℕ) → items_of_page page nonce origin ≡ valued (codes "nonce") nonce ∷ rest_items page origin
unfolding answer_items
items-are page nonce origin = refl

same-rest : (page : Page) (origin : ℕ) → lengths_of (rest_items page origin) ≡ lengths_of (rest_items page 0)
same-rest page origin =
    let older : ℕ → List Item = λ o. older_items (option_map (told_pair o) page.confirmed) in
    let rows : ℕ → List Item = λ o. rows_items 0 (map (shown_row o) page.rows) in
    let now : ℕ → List Item = λ o. time_items (codes "now") (at_end page.ended (Some (told_time o page.now))) in
    let newest : ℕ → List Item = λ o. time_items (codes "last.newest") (at_end page.ended (option_map (told_time o) page.newest)) in
    same-append (older origin ++ rows origin ++ now origin) (newest origin) (older 0 ++ rows 0 ++ now 0) (newest 0)
    (same-append (older origin ++ rows origin) (now origin) (older 0 ++ rows 0) (now 0)
    (same-append (older origin) (rows origin) (older 0) (rows 0) (same-older origin page.confirmed) (same-rows origin 0 page.rows))
    (same-time (codes "now") origin page.ended (Some page.now)))
    (same-time (codes "last.newest") origin page.ended page.newest)

-- the lengths of the items, by that of the nonce
page-lengths : (page : Page) (nonce : List ℕ) (origin : ℕ) → lengths_of (items_of_page page nonce origin) ≡ length (item_text (valued (codes "nonce") nonce)) ∷ lengths_of (rest_items page 0)
page-lengths page nonce origin =
    ap lengths_of (items-are page nonce origin) ∙ ap (λ them. length (item_text (valued (codes "nonce") nonce)) ∷ them) (same-rest page origin)

parts-are : (page : Page) → page_parts page ≡ parts_count (30 ∷ lengths_of (rest_items page 0))
unfolding page_parts
parts-are page = ap parts_count (page-lengths page (replicate NONCE_OCTETS 48) 0)

-- a nonce without quotes
pub parts-unquoted : (page : Page) (nonce : List ℕ) (origin : ℕ) → length nonce ≡ 24 → IsUnquoted nonce → parts_count (lengths_of (items_of_page page nonce origin)) ≡ page_parts page
parts-unquoted page nonce origin len plain =
    let same : length (item_text (valued (codes "nonce") nonce)) ≡ 30 = omega (arith, length-valued (codes "nonce") nonce plain, len) in
    ap parts_count (page-lengths page nonce origin ∙ ap (λ n. n ∷ lengths_of (rest_items page 0)) same) ∙ sym (parts-are page)

-- one with quotes
length-quoted : (nonce : List ℕ) → list_any is_separator nonce ≡ true → length (item_text (valued (codes "nonce") nonce)) ≡ 8 + length nonce
length-quoted nonce quoted = rw quoted (omega (arith, length-append nonce (34 ∷ [])))

-- the runs from two places in a part differ by one at most, and a fuller part makes no fewer
abbrev AreNear : List ℕ → Type 0
AreNear lengths = ((u v : ℕ) → 23 ≤ v → runs_count u lengths ≤ 1 + runs_count v lengths) × ((u v : ℕ) → u ≤ v → runs_count u lengths ≤ runs_count v lengths)

near-step : (r s : Bool) (here there full : ℕ) → here ≤ 1 + there → here ≤ 1 + full → full ≤ there → (if r then here else 1 + full) ≤ 1 + (if s then there else 1 + full)
near-step true true here there full both_room one other = both_room
near-step true false here there full both_room one other = omega (arith, one)
near-step false true here there full both_room one other = omega (arith, other)
near-step false false here there full both_room one other = omega arith

mono-step : (r s : Bool) (here there full : ℕ) → here ≤ there → here ≤ 1 + full → (r ≡ false → s ≡ true → ⊥) → (if r then here else 1 + full) ≤ (if s then there else 1 + full)
mono-step true true here there full both_room one never = both_room
mono-step true false here there full both_room one never = one
mono-step false true here there full both_room one never = absurd (never refl refl)
mono-step false false here there full both_room one never = omega arith

runs-near : (lengths : List ℕ) → AreNear lengths
runs-near [] = (λ u v least. omega arith, λ u v less. omega arith)
runs-near (len ∷ lengths) =
    let rest = runs-near lengths in
    let width = 2 + len in
    let full = TAG_ITEM_LEN + width in (
      λ u v least. near-step (has_room (u + width)) (has_room (v + width)) (runs_count (u + width) lengths) (runs_count (v + width) lengths) (runs_count full lengths)
          (rest.0 (u + width) (v + width) (omega (arith, least))) (rest.0 (u + width) full (omega arith)) (rest.1 full (v + width) (omega (arith, least))),
      λ u v less. mono-step (has_room (u + width)) (has_room (v + width)) (runs_count (u + width) lengths) (runs_count (v + width) lengths) (runs_count full lengths)
          (rest.1 (u + width) (v + width) (omega (arith, less))) (rest.0 (u + width) full (omega arith))
          (λ no_room room. absurd (omega (arith, leb-false (u + width + 3) 468 no_room, leb-true (v + width + 3) 468 room, less))),
    )

-- items that fit into the part under way make one run
runs-one : (used : ℕ) (lengths : List ℕ) → used + plain_len lengths ≤ 465 → runs_count used lengths ≡ 1
runs-one used [] fits = refl
runs-one used (len ∷ lengths) fits =
    let more = sum_by-cons (λ n. 2 + n) len lengths in
    cond-true (has_room (used + (2 + len))) _ _ (le-leb (used + (2 + len) + 3) 468 (omega (arith, fits, more))) ∙ runs-one (used + (2 + len)) lengths (omega (arith, fits, more))

-- two octets more of the first item make one part more at most
parts-near : (lengths : List ℕ) → parts_count (32 ∷ lengths) ≤ parts_count (30 ∷ lengths) + 1
parts-near lengths =
    let long = sum_by-cons (λ n. 2 + n) 32 lengths in
    let short = sum_by-cons (λ n. 2 + n) 30 lengths in
    let near = runs-near lengths in
    cond_both (nat_le (plain_len (32 ∷ lengths)) 468) 1 (runs_count 23 (32 ∷ lengths)) (λ count. count ≤ parts_count (30 ∷ lengths) + 1)
    (λ _. omega arith)
    (λ _. cond_both (nat_le (plain_len (30 ∷ lengths)) 468) 1 (runs_count 23 (30 ∷ lengths)) (λ count. runs_count 23 (32 ∷ lengths) ≤ count + 1)
    (λ is.
    let one : runs_count 23 lengths ≡ 1 = runs-one 23 lengths (omega (arith, leb-true (plain_len (30 ∷ lengths)) 468 is, short)) in
    let two : runs_count 57 lengths ≤ 1 + runs_count 23 lengths = near.0 57 23 (omega arith) in
    omega (arith, one, two))
    (λ _.
    let two : runs_count 57 lengths ≤ 1 + runs_count 55 lengths = near.0 57 55 (omega arith) in
    omega (arith, two)))

-- any nonce makes one datagram more at most
pub parts-any : (page : Page) (nonce : List ℕ) (origin : ℕ) → length nonce ≡ 24 → parts_count (lengths_of (items_of_page page nonce origin)) ≤ page_parts page + 1
parts-any page nonce origin len = by (list_any is_separator nonce) refl
  where
    by : (b : Bool) → list_any is_separator nonce ≡ b → parts_count (lengths_of (items_of_page page nonce origin)) ≤ page_parts page + 1
    by false plain = omega (arith, parts-unquoted page nonce origin len plain)
    by true quoted =
        let same : length (item_text (valued (codes "nonce") nonce)) ≡ 32 = omega (arith, length-quoted nonce quoted, len) in
        let parts : parts_count (lengths_of (items_of_page page nonce origin)) ≡ parts_count (32 ∷ lengths_of (rest_items page 0)) =
        ap parts_count (page-lengths page nonce origin ∙ ap (λ n. n ∷ lengths_of (rest_items page 0)) same) in
        omega (arith, parts, parts-are page, parts-near (lengths_of (rest_items page 0)))

-- each item is short
older-short : (origin : ℕ) (confirmed : Option Pair) → IsTellablePair confirmed → AreShort (older_items (option_map (told_pair origin) confirmed))
older-short origin None is = tt
older-short origin (Some pair) is =
    let addr : IsAddr pair.addr = record { ip = is.0; port = is.1 } in (
      omega (arith, length-plain (codes "addr.older") (text_of pair.addr) (addr-plain pair.addr addr), addr-short pair.addr addr),
      (omega (arith, length-stamp_item (codes "last.older") (told_time origin pair.last)), tt),
    )

row-short : (origin number : ℕ) (row : Row) → number < 2 ^ 64 → IsTellableRow row → AreShort (row_items number (shown_row origin row))
row-short origin number row fits is =
    let addr : IsAddr (addr_of row) = record { ip = is.ip; port = is.port } in
    let digits = length-decimal-le 20 number (omega arith) (omega (arith, fits)) fits in (
      omega (arith, length-plain (numbered (codes "addr") number) (text_of (addr_of row)) (addr-plain (addr_of row) addr), length-numbered (codes "addr") number, digits, addr-short (addr_of row) addr),
      (
        omega (arith, length-stamp_item (numbered (codes "last") number) (told_time origin row.last), length-numbered (codes "last") number, digits),
        (
          omega (arith, length-stamp_item (numbered (codes "first") number) (told_time origin row.first), length-numbered (codes "first") number, digits),
          (
            omega (
              arith,
              length-plain (numbered (codes "ct") number) (decimal row.count) (decimal-plain row.count (omega (arith, is.count))),
              length-numbered (codes "ct") number,
              digits,
              length-decimal-le 10 row.count (omega arith) (omega (arith, is.count)) (omega (arith, is.count)),
            ),
            (
              omega (
                arith,
                length-plain (numbered (codes "mv") number) (decimal row.mv) (decimal-plain row.mv (omega (arith, is.mv))),
                length-numbered (codes "mv") number,
                digits,
                length-decimal-le 3 row.mv (omega arith) (omega (arith, is.mv)) (omega (arith, is.mv)),
              ),
              (
                omega (
                  arith,
                  length-plain (numbered (codes "rs") number) (flags_text row.flags) (plain-append (codes "0x") (hex row.flags) (refl, (refl, tt)) (hex-plain row.flags is.flags)),
                  length-numbered (codes "rs") number,
                  digits,
                  length-hex row.flags,
                ),
                tt,
              ),
            ),
          ),
        ),
      ),
    )

rows-short : (origin number : ℕ) (rows : List Row) → number + length rows ≤ 2 ^ 64 → AllByRecursion IsTellableRow rows → AreShort (rows_items number (map (shown_row origin) rows))
rows-short origin number [] fits each = tt
rows-short origin number (row ∷ rows) fits each =
    AllByRecursion-append (λ (item : Item). length (item_text item) ≤ 440) (row_items number (shown_row origin row)) (rows_items (suc number) (map (shown_row origin) rows))
    (row-short origin number row (omega (arith, fits)) each.0) (rows-short origin (suc number) rows (omega (arith, fits)) each.1)

time-short : (name : List ℕ) (origin : ℕ) (ended : Bool) (time : Option ℕ) → length name ≤ 20 → AreShort (time_items name (at_end ended (option_map (told_time origin) time)))
time-short name origin false time short = tt
time-short name origin true None short = tt
time-short name origin true (Some time) short = (omega (arith, length-stamp_item name (told_time origin time), short), tt)

nonce-short : (nonce : List ℕ) → length nonce ≡ 24 → length (item_text (valued (codes "nonce") nonce)) ≤ 440
nonce-short nonce len = by (list_any is_separator nonce) refl
  where
    by : (b : Bool) → list_any is_separator nonce ≡ b → length (item_text (valued (codes "nonce") nonce)) ≤ 440
    by false plain = omega (arith, length-valued (codes "nonce") nonce plain, len)
    by true quoted = omega (arith, length-quoted nonce quoted, len)

pub page-short : (page : Page) (nonce : List ℕ) (origin : ℕ) → IsTellable page → length page.rows < 2 ^ 64 → length nonce ≡ 24 → AreShort (items_of_page page nonce origin)
page-short page nonce origin is few len =
    let Short : Item → Type 0 = λ item. length (item_text item) ≤ 440 in
    let older = older_items (option_map (told_pair origin) page.confirmed) in
    let rows = rows_items 0 (map (shown_row origin) page.rows) in
    let now = time_items (codes "now") (at_end page.ended (Some (told_time origin page.now))) in
    let newest = time_items (codes "last.newest") (at_end page.ended (option_map (told_time origin) page.newest)) in
    subst AreShort (sym (items-are page nonce origin)) (
      nonce-short nonce len,
      AllByRecursion-append Short (older ++ rows ++ now) newest
          (AllByRecursion-append Short (older ++ rows) now
          (AllByRecursion-append Short older rows (older-short origin page.confirmed is.confirmed) (rows-short origin 0 page.rows (omega (arith, few)) is.rows))
          (time-short (codes "now") origin page.ended (Some page.now) (omega arith)))
          (time-short (codes "last.newest") origin page.ended page.newest (omega arith)),
    )

-- so they can be cut
pub page-cuttable : (page : Page) (nonce : List ℕ) (origin : ℕ) (items : List Item) → items ≡ items_of_page page nonce origin → IsTellable page → length page.rows < 2 ^ 64 → length nonce ≡ 24
    → page_parts page ≤ 128 → IsCuttable page.now items
page-cuttable page nonce origin items are is few len parts =
    subst (IsCuttable page.now) (sym are)
    (IsCuttable-counted page.now (items_of_page page nonce origin) (page-short page nonce origin is few len) (omega (arith, parts-any page nonce origin len, parts)))

-- a page has a datagram
pub parts-least : (page : Page) → 1 ≤ page_parts page
parts-least page = omega (arith, parts-are page, parts-some (30 ∷ lengths_of (rest_items page 0)))
