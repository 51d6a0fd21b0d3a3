-- The items of an answer tell it.
use Rattle.std.proofs.Common.{◌≡◌, ℕ, suc, ◌+◌, ◌-◌, ◌/◌, ◌%◌, ◌<◌, ◌≤◌, ◌^◌, nat_le, true, false, if◌then◌else◌, inl, inr, Option, Some, None, List, [], ◌∷◌, ◌++◌, length, map, decimal, bytes_eq, refl, sym, ap, subst, ◌∙◌, arith, append_assoc, append-nil}
use Rattle.std.specs.Char.{digit_char}
use Rattle.std.specs.List.{AllByRecursion, list_all}
use Rattle.mode6_frame.specs.Items.{AreNameOctets, is_name_octet}
use Rattle.std.specs.Net.Text.{hex}
use Rattle.std.specs.Prelude.{codes}
use Rattle.std.specs.Str.Parse.{digits_value}
use Rattle.std.proofs.lemmas.Bool.{agree_below_at, both_ways, cases_Bool, eq-eqb, leb-false, lt-ltb}
use Rattle.std.proofs.lemmas.List.{map-append}
use Rattle.std.proofs.lemmas.List.Elements.{filter-append}
use Rattle.std.proofs.lemmas.List.Sums.{sum_by-append}
use Rattle.std.proofs.lemmas.Slice.Eq.{bytes_eq-Decides}
use Rattle.std.proofs.lemmas.Str.{digit_value-digit_char}
use Rattle.hex.specs.Hex.{is_hex_digit}
use Rattle.mode6_frame.proofs.StampLemmas.{stamp_in-text}
use Rattle.mode6_frame.specs.Stamps.{stamp_in, stamp_text}
use Rattle.mode6_frame.specs.declared.items.Item.{Item}
use Rattle.net_addr.specs.declared.addr.Addr.{Addr}
use Rattle.net_addr.specs.Readings.{addr_in}
use Rattle.net_addr.proofs.ReadingLemmas.{addr_in_complete}
use Rattle.net_addr.proofs.SpellingLemmas.{text_of-spells}
use Rattle.net_addr.specs.Spelling.{IsAddr, text_of}
use Rattle.mru_items.specs.Answers.{Among, IsAnswer, IsFoundAs, IsFoundRow, IsOlder, IsShownRow, IsTime, answer_in, answer_items, count_numbered, has_each, nonce_in, older_by, older_items, row_items, rows_in, rows_items, time_by, time_items}
use Rattle.mru_items.specs.Names.{is_numbered, items_named, numbered, valued, values_of}
use Rattle.mru_items.specs.Values.{flags_in, flags_text, number_in}
use Rattle.mru_items.specs.declared.answer.PageAnswer.{PageAnswer}
use Rattle.mru_items.specs.declared.pair.Pair.{Pair}
use Rattle.mru_items.specs.declared.shown.ShownRow.{ShownRow}
use Rattle.mru_items.proofs.CountLemmas.{numbered-is}
use Rattle.mru_items.proofs.FoundLemmas.{AreFound, rows_in-are}
use Rattle.mru_items.proofs.RowLemmas.{among-behind}
use Rattle.mru_items.proofs.ValueLemmas.{number_in-spelled}

-- the text of an address tells it
pub addr_in-text : (addr : Addr) → IsAddr addr → addr_in (text_of addr) ≡ Some addr
addr_in-text addr is = addr_in_complete (text_of addr) addr is (text_of-spells addr is)

-- a digit of flags is one
glyph-digit : (d : ℕ) → d < 16 → is_hex_digit (digit_char d) ≡ true
glyph-digit d small = agree_below_at (λ i. is_hex_digit (digit_char i)) (λ i. true) 16 d refl small

-- flags are told by their digits
hex-value : (flags : ℕ) → flags < 2 ^ 16 → (digits_value 16 (hex flags) ≡ flags) × (list_all is_hex_digit (hex flags) ≡ true)
unfolding hex
hex-value flags fits =
    let a = digit_value-digit_char (flags / 0x1000) (omega arith) in
    let b = digit_value-digit_char (flags / 0x100 % 16) (omega arith) in
    let c = digit_value-digit_char (flags / 0x10 % 16) (omega arith) in
    let d = digit_value-digit_char (flags % 16) (omega arith) in
    let p = glyph-digit (flags / 0x1000) (omega arith) in
    let q = glyph-digit (flags / 0x100 % 16) (omega arith) in
    let r = glyph-digit (flags / 0x10 % 16) (omega arith) in
    let s = glyph-digit (flags % 16) (omega arith) in
    elim (cases_Bool (nat_le 0x1000 flags)) [
      | inl four ↦ rw four (rw (a, b, c, d) (omega arith), rw (p, q, r, s) refl)
      | inr not_four ↦
          let below_four = leb-false 0x1000 flags not_four in
          rw not_four (elim (cases_Bool (nat_le 0x100 flags)) [
            | inl three ↦ rw three (rw (b, c, d) (omega arith), rw (q, r, s) refl)
            | inr not_three ↦
                let below_three = leb-false 0x100 flags not_three in
                rw not_three (elim (cases_Bool (nat_le 0x10 flags)) [
                  | inl two ↦ rw two (rw (c, d) (omega arith), rw (r, s) refl)
                  | inr not_two ↦ let below_two = leb-false 0x10 flags not_two in rw not_two (rw d (omega arith), rw s refl)
                ])
          ])
    ]

-- and so are they read
pub flags_in-text : (flags : ℕ) → flags < 2 ^ 16 → flags_in (flags_text flags) ≡ Some flags
flags_in-text flags fits =
    let digits = hex-value flags fits in
    rw (digits.0, digits.1, eq-eqb (length (hex flags)) (length (hex flags)) refl, lt-ltb flags (2 ^ 16) fits) refl

-- values under a name in items and more of them
pub values-append : (name : List ℕ) (items more : List Item) → values_of name (items ++ more) ≡ values_of name items ++ values_of name more
values-append name items more =
    ap (map (λ (item : Item). item.value)) (filter-append (λ (item : Item). bytes_eq item.name name) items more)
    ∙ map-append (λ (item : Item). item.value) (items_named name items) (items_named name more)

-- a name that is not a row's
record IsOther (name : List ℕ) : Type 0 where
  addr : is_numbered (codes "addr") name ≡ false
  last : is_numbered (codes "last") name ≡ false
  first : is_numbered (codes "first") name ≡ false
  ct : is_numbered (codes "ct") name ≡ false
  mv : is_numbered (codes "mv") name ≡ false
  rs : is_numbered (codes "rs") name ≡ false

-- is no numbered one
pub not-numbered : (word name : List ℕ) (number : ℕ) → is_numbered word name ≡ false → number < 2 ^ 64 → bytes_eq (numbered word number) name ≡ false
not-numbered word name number other fits =
    elim (cases_Bool (bytes_eq (numbered word number) name)) [
      | inl same ↦
          let is = (bytes_eq-Decides (numbered word number) name).0 same in
          absurd (both_ways _ other (ap (is_numbered word) (sym is) ∙ numbered-is word number fits))
      | inr differ ↦ differ
    ]

-- rows have no item of such a name
rows-other : (name : List ℕ) (number : ℕ) (rows : List ShownRow) → IsOther name → number + length rows ≤ 2 ^ 64 → values_of name (rows_items number rows) ≡ []
rows-other name number [] other fits = refl
rows-other name number (row ∷ rows) other fits =
    let rest = rows-other name (suc number) rows other (omega (arith, fits)) in
    let here = λ (word : List ℕ) (no : is_numbered word name ≡ false). not-numbered word name number no (omega (arith, fits)) in
    rw (here (codes "addr") other.addr, here (codes "last") other.last, here (codes "first") other.first, here (codes "ct") other.ct, here (codes "mv") other.mv, here (codes "rs") other.rs) rest

-- each word has an item of each row
count-rows : (word : List ℕ) (number : ℕ) (rows : List ShownRow) → ((k : ℕ) (row : ShownRow) → k < 2 ^ 64 → count_numbered word (row_items k row) ≡ 1)
    → number + length rows ≤ 2 ^ 64 → count_numbered word (rows_items number rows) ≡ length rows
count-rows word number [] one fits = refl
count-rows word number (row ∷ rows) one fits =
    let rest = count-rows word (suc number) rows one (omega (arith, fits)) in
    let first = one number row (omega (arith, fits)) in
    let both = sum_by-append (λ (item : Item). if is_numbered word item.name then 1 else 0) (row_items number row) (rows_items (suc number) rows) in
    omega (arith, both, first, rest)

-- values that stand behind others are among them
pub among-before : (name : List ℕ) (before items : List Item) (value : Option (List ℕ)) → Among (values_of name items) value → Among (values_of name (before ++ items)) value
among-before name [] items value among = among
among-before name (item ∷ before) items value among =
    among-behind (bytes_eq item.name name) item (items_named name (before ++ items)) value (among-before name before items value among)

-- the first item's is
pub among-first : (name value : List ℕ) (items : List Item) → Among (values_of name (valued name value ∷ items)) (Some value)
among-first name value items = rw ((bytes_eq-Decides name name).1 refl) (inl refl)

-- an item behind some is found
found-behind : {A : Type 0} (form : List ℕ → Option A) (name value : List ℕ) (before front after : List Item) (it : A) → form value ≡ Some it
    → IsFoundAs form (values_of name (before ++ (front ++ (valued name value ∷ after)))) it
found-behind form name value before front after it told = record {
  value = value;
  among = among-before name before (front ++ (valued name value ∷ after)) (Some value)
      (among-before name front (valued name value ∷ after) (Some value) (among-first name value after));
  told = told;
}

-- a row is found among items
row-found : (number : ℕ) (row : ShownRow) (before after : List Item) → IsShownRow row → IsFoundRow (before ++ (row_items number row ++ after)) number row
row-found number row before after is =
    let addr = valued (numbered (codes "addr") number) (text_of row.addr) in
    let last = valued (numbered (codes "last") number) (stamp_text row.last) in
    let first = valued (numbered (codes "first") number) (stamp_text row.first) in
    let ct = valued (numbered (codes "ct") number) (decimal row.count) in
    let mv = valued (numbered (codes "mv") number) (decimal row.mv) in
    let rs = valued (numbered (codes "rs") number) (flags_text row.flags) in
    record {
      addr = found-behind addr_in (numbered (codes "addr") number) (text_of row.addr) before [] (last ∷ first ∷ ct ∷ mv ∷ rs ∷ after) row.addr (addr_in-text row.addr is.addr);
      last = found-behind stamp_in (numbered (codes "last") number) (stamp_text row.last) before (addr ∷ []) (first ∷ ct ∷ mv ∷ rs ∷ after) row.last (stamp_in-text row.last is.last);
      first = found-behind stamp_in (numbered (codes "first") number) (stamp_text row.first) before (addr ∷ last ∷ []) (ct ∷ mv ∷ rs ∷ after) row.first (stamp_in-text row.first is.first);
      count = found-behind (number_in 0 (2 ^ 32 - 1)) (numbered (codes "ct") number) (decimal row.count) before (addr ∷ last ∷ first ∷ []) (mv ∷ rs ∷ after) row.count
          (number_in-spelled 0 (2 ^ 32 - 1) (decimal row.count) row.count (omega arith) (refl, omega arith, omega (arith, is.count)));
      mv = found-behind (number_in 0 255) (numbered (codes "mv") number) (decimal row.mv) before (addr ∷ last ∷ first ∷ ct ∷ []) (rs ∷ after) row.mv
          (number_in-spelled 0 255 (decimal row.mv) row.mv (omega arith) (refl, omega arith, omega (arith, is.mv)));
      flags = found-behind flags_in (numbered (codes "rs") number) (flags_text row.flags) before (addr ∷ last ∷ first ∷ ct ∷ mv ∷ []) after row.flags (flags_in-text row.flags is.flags);
    }

-- and so are all
rows-found : (number : ℕ) (rows : List ShownRow) (before after : List Item) → AllByRecursion IsShownRow rows
    → AreFound (before ++ (rows_items number rows ++ after)) number rows
rows-found number [] before after are = tt
rows-found number (row ∷ rows) before after are =
    let here = row-found number row before (rows_items (suc number) rows ++ after) are.0 in
    let rest = rows-found (suc number) rows (before ++ row_items number row) after are.1 in
    let one : before ++ (row_items number row ++ (rows_items (suc number) rows ++ after)) ≡ before ++ (rows_items number (row ∷ rows) ++ after) =
    ap (λ items. before ++ items) (sym (append_assoc (row_items number row) (rows_items (suc number) rows) after)) in
    let other : (before ++ row_items number row) ++ (rows_items (suc number) rows ++ after) ≡ before ++ (rows_items number (row ∷ rows) ++ after) =
    append_assoc before (row_items number row) (rows_items (suc number) rows ++ after) ∙ one in
    (subst (λ items. IsFoundRow items number row) one here, subst (λ items. AreFound items (suc number) rows) other rest)

-- values in five lists of items, of which the third has none
parts-other : (name : List ℕ) (a b c d e : List Item) → values_of name c ≡ []
    → values_of name (a ++ b ++ c ++ d ++ e) ≡ values_of name a ++ values_of name b ++ values_of name d ++ values_of name e
parts-other name a b c d e none =
    let two = values-append name a b in
    let three : values_of name (a ++ b ++ c) ≡ values_of name a ++ values_of name b =
    values-append name (a ++ b) c ∙ ap (λ values. values_of name (a ++ b) ++ values) none ∙ append-nil (values_of name (a ++ b)) ∙ two in
    values-append name (a ++ b ++ c ++ d) e
    ∙ ap (λ values. values ++ values_of name e) (values-append name (a ++ b ++ c) d ∙ ap (λ values. values ++ values_of name d) three)

-- the client behind which a page begins has two names
older-none : (name : List ℕ) (older : Option Pair) → bytes_eq (codes "addr.older") name ≡ false → bytes_eq (codes "last.older") name ≡ false
    → values_of name (older_items older) ≡ []
older-none name None addr last = refl
older-none name (Some pair) addr last = rw (addr, last) refl

-- and a time one
time-none : (name key : List ℕ) (time : Option ℕ) → bytes_eq key name ≡ false → values_of name (time_items key time) ≡ []
time-none name key None other = refl
time-none name key (Some time) other = rw other refl

-- a time is told
time-one : (key : List ℕ) (time : Option ℕ) → IsTime time → time_by (values_of key (time_items key time)) ≡ Some time
time-one key None is = refl
time-one key (Some time) is = rw ((bytes_eq-Decides key key).1 refl, stamp_in-text time is) refl

-- and so is a client
older-one : (older : Option Pair) → IsOlder older
    → older_by (values_of (codes "addr.older") (older_items older)) (values_of (codes "last.older") (older_items older)) ≡ Some older
older-one None is = refl
older-one (Some pair) is = rw (addr_in-text pair.addr is.0, stamp_in-text pair.last is.1) refl

-- how many of the items of an answer are of a word
counts : (word : List ℕ) (answer : PageAnswer) → length answer.rows < 2 ^ 64
    → ((k : ℕ) (row : ShownRow) → k < 2 ^ 64 → count_numbered word (row_items k row) ≡ 1)
    → count_numbered word (valued (codes "nonce") answer.nonce ∷ []) ≡ 0 → count_numbered word (older_items answer.older) ≡ 0
    → count_numbered word (time_items (codes "now") answer.ended) ≡ 0 → count_numbered word (time_items (codes "last.newest") answer.newest) ≡ 0
    → count_numbered word (answer_items answer) ≡ length answer.rows
unfolding answer_items
counts word answer few one nonce older ended newest =
    let test : Item → ℕ = λ item. if is_numbered word item.name then 1 else 0 in
    let n = valued (codes "nonce") answer.nonce ∷ [] in
    let o = older_items answer.older in
    let r = rows_items 0 answer.rows in
    let e = time_items (codes "now") answer.ended in
    let w = time_items (codes "last.newest") answer.newest in
    let rows = count-rows word 0 answer.rows one (omega (arith, few)) in
    let e1 = sum_by-append test n o in
    let e2 = sum_by-append test (n ++ o) r in
    let e3 = sum_by-append test (n ++ o ++ r) e in
    let e4 = sum_by-append test (n ++ o ++ r ++ e) w in
    omega (arith, rows, e1, e2, e3, e4, nonce, older, ended, newest)

-- a client's two items are of no word
older-count : (word : List ℕ) (older : Option Pair) → is_numbered word (codes "addr.older") ≡ false → is_numbered word (codes "last.older") ≡ false
    → count_numbered word (older_items older) ≡ 0
older-count word None addr last = refl
older-count word (Some pair) addr last = rw (addr, last) refl

-- nor is that of a time
time-count : (word key : List ℕ) (time : Option ℕ) → is_numbered word key ≡ false → count_numbered word (time_items key time) ≡ 0
time-count word key None other = refl
time-count word key (Some time) other = rw other refl

-- there are so many items of each word
each-counted : (answer : PageAnswer) → length answer.rows < 2 ^ 64
    → (has_each (answer_items answer) (length answer.rows) ≡ true) × (length answer.rows ≡ count_numbered (codes "addr") (answer_items answer))
each-counted answer few =
    let addr = counts (codes "addr") answer few (λ k row fits. rw (numbered-is (codes "addr") k fits) refl) refl
    (older-count (codes "addr") answer.older refl refl) (time-count (codes "addr") (codes "now") answer.ended refl) (time-count (codes "addr") (codes "last.newest") answer.newest refl) in
    let last = counts (codes "last") answer few (λ k row fits. rw (numbered-is (codes "last") k fits) refl) refl
    (older-count (codes "last") answer.older refl refl) (time-count (codes "last") (codes "now") answer.ended refl) (time-count (codes "last") (codes "last.newest") answer.newest refl) in
    let first = counts (codes "first") answer few (λ k row fits. rw (numbered-is (codes "first") k fits) refl) refl
    (older-count (codes "first") answer.older refl refl) (time-count (codes "first") (codes "now") answer.ended refl) (time-count (codes "first") (codes "last.newest") answer.newest refl) in
    let ct = counts (codes "ct") answer few (λ k row fits. rw (numbered-is (codes "ct") k fits) refl) refl
    (older-count (codes "ct") answer.older refl refl) (time-count (codes "ct") (codes "now") answer.ended refl) (time-count (codes "ct") (codes "last.newest") answer.newest refl) in
    let mv = counts (codes "mv") answer few (λ k row fits. rw (numbered-is (codes "mv") k fits) refl) refl
    (older-count (codes "mv") answer.older refl refl) (time-count (codes "mv") (codes "now") answer.ended refl) (time-count (codes "mv") (codes "last.newest") answer.newest refl) in
    let rs = counts (codes "rs") answer few (λ k row fits. rw (numbered-is (codes "rs") k fits) refl) refl
    (older-count (codes "rs") answer.older refl refl) (time-count (codes "rs") (codes "now") answer.ended refl) (time-count (codes "rs") (codes "last.newest") answer.newest refl) in
    (rw (addr, last, first, ct, mv, rs, eq-eqb (length answer.rows) (length answer.rows) refl) refl, sym addr)

-- the rows of an answer are told
rows-back : (answer : PageAnswer) → IsAnswer answer → length answer.rows < 2 ^ 64 → rows_in (answer_items answer) ≡ Some answer.rows
unfolding answer_items
rows-back answer is few =
    let n = valued (codes "nonce") answer.nonce ∷ [] in
    let o = older_items answer.older in
    let r = rows_items 0 answer.rows in
    let e = time_items (codes "now") answer.ended in
    let w = time_items (codes "last.newest") answer.newest in
    let each = each-counted answer few in
    let found = rows-found 0 answer.rows (n ++ o) (e ++ w) is.rows in
    let order : (n ++ o) ++ (r ++ (e ++ w)) ≡ n ++ o ++ r ++ e ++ w =
    sym (append_assoc (n ++ o ++ r) e w ∙ append_assoc (n ++ o) r (e ++ w)) in
    rows_in-are (answer_items answer) (length answer.rows) answer.rows each.1 each.0 refl (omega (arith, few)) (subst (λ items. AreFound items 0 answer.rows) order found)

-- the values of a name that is no row's
values-back : (name : List ℕ) (answer : PageAnswer) → IsOther name → length answer.rows < 2 ^ 64
    → values_of name (answer_items answer)
    ≡ values_of name (valued (codes "nonce") answer.nonce ∷ []) ++ values_of name (older_items answer.older)
    ++ values_of name (time_items (codes "now") answer.ended) ++ values_of name (time_items (codes "last.newest") answer.newest)
unfolding answer_items
values-back name answer other few =
    parts-other name (valued (codes "nonce") answer.nonce ∷ []) (older_items answer.older) (rows_items 0 answer.rows)
    (time_items (codes "now") answer.ended) (time_items (codes "last.newest") answer.newest)
    (rows-other name 0 answer.rows other (omega (arith, few)))

-- octets of names pass their test
pub names-pass : (octets : List ℕ) → AreNameOctets octets → list_all is_name_octet octets ≡ true
names-pass [] are = refl
names-pass (octet ∷ octets) are = rw (are.0, names-pass octets are.1) refl

-- an answer is told by its items
pub answer-back : (answer : PageAnswer) → IsAnswer answer → length answer.rows < 2 ^ 64 → answer_in (answer_items answer) ≡ Some answer
unfolding answer_in nonce_in
answer-back answer is few =
    let nonce : values_of (codes "nonce") (answer_items answer) ≡ Some answer.nonce ∷ [] =
    values-back (codes "nonce") answer (record { addr = refl; last = refl; first = refl; ct = refl; mv = refl; rs = refl }) few
    ∙ rw (older-none (codes "nonce") answer.older refl refl, time-none (codes "nonce") (codes "now") answer.ended refl, time-none (codes "nonce") (codes "last.newest") answer.newest refl) refl in
    let addr : values_of (codes "addr.older") (answer_items answer) ≡ values_of (codes "addr.older") (older_items answer.older) =
    values-back (codes "addr.older") answer (record { addr = refl; last = refl; first = refl; ct = refl; mv = refl; rs = refl }) few
    ∙ rw (time-none (codes "addr.older") (codes "now") answer.ended refl, time-none (codes "addr.older") (codes "last.newest") answer.newest refl, append-nil, append-nil) refl in
    let last : values_of (codes "last.older") (answer_items answer) ≡ values_of (codes "last.older") (older_items answer.older) =
    values-back (codes "last.older") answer (record { addr = refl; last = refl; first = refl; ct = refl; mv = refl; rs = refl }) few
    ∙ rw (time-none (codes "last.older") (codes "now") answer.ended refl, time-none (codes "last.older") (codes "last.newest") answer.newest refl, append-nil, append-nil) refl in
    let ended : values_of (codes "now") (answer_items answer) ≡ values_of (codes "now") (time_items (codes "now") answer.ended) =
    values-back (codes "now") answer (record { addr = refl; last = refl; first = refl; ct = refl; mv = refl; rs = refl }) few
    ∙ rw (older-none (codes "now") answer.older refl refl, time-none (codes "now") (codes "last.newest") answer.newest refl, append-nil) refl in
    let newest : values_of (codes "last.newest") (answer_items answer) ≡ values_of (codes "last.newest") (time_items (codes "last.newest") answer.newest) =
    values-back (codes "last.newest") answer (record { addr = refl; last = refl; first = refl; ct = refl; mv = refl; rs = refl }) few
    ∙ rw (older-none (codes "last.newest") answer.older refl refl, time-none (codes "last.newest") (codes "now") answer.ended refl) refl in
    rw (
      nonce,
      eq-eqb (length answer.nonce) 24 is.nonce,
      names-pass answer.nonce is.bare,
      addr,
      last,
      older-one answer.older is.older,
      rows-back answer is few,
      ended,
      time-one (codes "now") answer.ended is.ended,
      newest,
      time-one (codes "last.newest") answer.newest is.newest,
    ) refl
