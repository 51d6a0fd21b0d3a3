-- What a text tells as an answer has its widths, and a nonce that stands without quotes, whoever sent it.
use Rattle.std.proofs.Common.{◌≡◌, ℕ, zero, suc, ◌-◌, ◌^◌, ◌<◌, ◌≤◌, ◌==◌, Bool, true, false, ◌&&◌, cond, Option, Some, None, List, [], ◌∷◌, length, map, take, drop, refl, ap, subst, arith, length-append, length-take, length-drop}
use Rattle.std.proofs.Math.Nat.{pow-le-pow_right}
use Rattle.std.proofs.lemmas.Bool.{and_parts, eqb-true}
use Rattle.std.proofs.lemmas.Bool.Decides.{nat_tests}
use Rattle.std.proofs.lemmas.Int.Digits.{digits_value-lt}
use Rattle.std.proofs.lemmas.Option.{cond_some, option_and_then_some, same_Some}
use Rattle.std.specs.Char.{digit_value}
use Rattle.std.specs.List.{list_all}
use Rattle.std.specs.Option.{option_and_then}
use Rattle.std.specs.Prelude.{codes}
use Rattle.std.specs.Str.Parse.{AllDigits, digits_value}
use Rattle.hex.specs.Hex.{is_hex_digit}
use Rattle.mode6_frame.specs.declared.items.Item.{Item}
use Rattle.mode6_frame.specs.declared.stamps.TheConstants.{STAMP_LEN}
use Rattle.mode6_frame.specs.Items.{AreNameOctets, is_name_octet}
use Rattle.mode6_frame.specs.Readings.{items_read}
use Rattle.mode6_frame.specs.Stamps.{hex_in, is_marked, stamp_digits, stamp_in}
use Rattle.mru_items.specs.declared.answer.PageAnswer.{PageAnswer}
use Rattle.mru_items.specs.declared.answer.TheConstants.{NONCE_OCTETS}
use Rattle.mru_items.specs.declared.pair.Pair.{Pair}
use Rattle.mru_items.specs.declared.shown.ShownRow.{ShownRow}
use Rattle.mru_items.specs.Answers.{answer_in, answer_told, count_numbered, has_each, nonce_in, nonce_told, nonce_value, older_by, row_in, rows_from, rows_in, time_by, told_by}
use Rattle.mru_items.specs.Names.{numbered, value_of, values_of}
use Rattle.mru_items.specs.Queries.{ArePairs, IsPair}
use Rattle.mru_items.specs.Values.{flags_in, number_in}
use Rattle.mrulist_reader.specs.Readers.{pair_of}
use Rattle.net_addr.specs.declared.addr.Addr.{Addr}
use Rattle.net_addr.specs.Spelling.{IsAddr}
use Rattle.net_addr.specs.Readings.{addr_in}
use Rattle.net_addr.proofs.ReadingLemmas.{addr_in_sound}

-- what a test lets through
cond-then : {A : Type 0} (test : Bool) (o : Option A) (x : A) → cond test o None ≡ Some x → (test ≡ true) × (o ≡ Some x)
cond-then true o x is = (refl, is)
cond-then false o x is = absurd (cc is)

-- a hexadecimal digit is below 16
digit-small : (c : ℕ) → is_hex_digit c ≡ true → digit_value c < 16
digit-small c is = grind (arith, nat_tests)

-- and so is each of many
all-digits : (digits : List ℕ) → list_all is_hex_digit digits ≡ true → AllDigits 16 digits
all-digits [] are = tt
all-digits (c ∷ digits) are =
    let (here, later) = and_parts (is_hex_digit c) (list_all is_hex_digit digits) are in
    (digit-small c here, all-digits digits later)

-- a text that is marked as a timestamp has its length
marked-long : (one other third : Bool) → (one && other && third) ≡ true → one ≡ true
marked-long true other third is = refl
marked-long false other third is = absurd (cc is)

-- a timestamp has 16 digits
few-digits : (text : List ℕ) → length text ≡ STAMP_LEN → length (stamp_digits text) ≤ 16
few-digits text long =
    omega (arith, long, length-append (take 8 (drop 2 text)) (drop 11 text), length-take 8 (drop 2 text), length-drop 11 text)

-- a timestamp that a text tells has 64 bits
pub stamp_in-fits : (text : List ℕ) (time : ℕ) → stamp_in text ≡ Some time → time < 2 ^ 64
unfolding stamp_in
stamp_in-fits text time is =
    let digits = stamp_digits text in
    let (marked, told) = cond-then (is_marked text) (hex_in digits) time is in
    let (all, value) = cond_some (list_all is_hex_digit digits) (digits_value 16 digits) time told in
    let long : length text ≡ STAMP_LEN = eqb-true (length text) STAMP_LEN (marked-long (length text == STAMP_LEN) _ _ marked) in
    let below : digits_value 16 digits < 16 ^ length digits = digits_value-lt 16 digits (all-digits digits all) in
    let most : 16 ^ length digits ≤ 16 ^ 16 = pow-le-pow_right {n = 16} (omega arith) {i = length digits} {j = 16} (few-digits text long) in
    omega (arith, value, below, most)

-- a nonce of 24 octets that stands in a request without quotes
pub record IsBare (nonce : List ℕ) : Type 0 where
  pub long : length nonce ≡ NONCE_OCTETS
  pub names : AreNameOctets nonce

-- octets that pass the test of names are octets of names
pub names-test : (octets : List ℕ) → list_all is_name_octet octets ≡ true → AreNameOctets octets
names-test [] all = tt
names-test (octet ∷ octets) all =
    let (here, later) = and_parts (is_name_octet octet) (list_all is_name_octet octets) all in
    (here, names-test octets later)

bare-value : (value nonce : List ℕ) → nonce_value value ≡ Some nonce → IsBare nonce
bare-value value nonce is =
    let (passed, same) = cond_some ((length value == NONCE_OCTETS) && list_all is_name_octet value) value nonce is in
    let (long, names) = and_parts (length value == NONCE_OCTETS) (list_all is_name_octet value) passed in
    subst IsBare same (record { long = eqb-true (length value) NONCE_OCTETS long; names = names-test value names })

bare-items : (items : List Item) (nonce : List ℕ) → nonce_in items ≡ Some nonce → IsBare nonce
unfolding nonce_in
bare-items items nonce is =
    option_and_then_some nonce_value (value_of (codes "nonce") items) nonce is (λ value there told. bare-value value nonce told)

-- the nonce that a text tells does
pub bare-told : (text nonce : List ℕ) → nonce_told text ≡ Some nonce → IsBare nonce
unfolding nonce_told
bare-told text nonce is =
    option_and_then_some nonce_in (items_read text) nonce is (λ items there told. bare-items items nonce told)

-- the address and the last arrival of a row that is told
row-parts : (addr : Option Addr) (last first count mv flags : Option ℕ) (row : ShownRow)
    → option_and_then (λ (a : Addr). option_and_then (λ (l : ℕ). option_and_then (λ (f : ℕ). option_and_then (λ (c : ℕ). option_and_then (λ (m : ℕ). option_and_then (λ (r : ℕ).
    Some (record { addr = a; last = l; first = f; count = c; mv = m; flags = r })) flags) mv) count) first) last) addr ≡ Some row
    → (addr ≡ Some row.addr) × (last ≡ Some row.last)
row-parts None last first count mv flags row is = absurd (cc is)
row-parts (Some a) None first count mv flags row is = absurd (cc is)
row-parts (Some a) (Some l) None count mv flags row is = absurd (cc is)
row-parts (Some a) (Some l) (Some f) None mv flags row is = absurd (cc is)
row-parts (Some a) (Some l) (Some f) (Some c) None flags row is = absurd (cc is)
row-parts (Some a) (Some l) (Some f) (Some c) (Some m) None row is = absurd (cc is)
row-parts (Some a) (Some l) (Some f) (Some c) (Some m) (Some r) row is =
    let same : record { addr = a; last = l; first = f; count = c; mv = m; flags = r } ≡ row = same_Some _ row is in
    (ap (λ (one : ShownRow). Some one.addr) same, ap (λ (one : ShownRow). Some one.last) same)

-- what a value tells by its form
told-by : {A : Type 0} (form : List ℕ → Option A) (P : A → Type 0) → ((text : List ℕ) (x : A) → form text ≡ Some x → P x)
    → (values : List (Option (List ℕ))) (x : A) → told_by form values ≡ Some x → P x
told-by form P each [] x is = absurd (cc is)
told-by form P each (None ∷ values) x is = absurd (cc is)
told-by form P each (Some value ∷ []) x is = each value x is
told-by form P each (Some value ∷ other ∷ values) x is = absurd (cc is)

-- the pair of a row that items tell
pair-items : (items : List Item) (number : ℕ) (row : ShownRow) → row_in items number ≡ Some row → IsPair (pair_of row)
pair-items items number row is =
    let (addr, last) = row-parts (told_by addr_in (values_of (numbered (codes "addr") number) items)) (told_by stamp_in (values_of (numbered (codes "last") number) items))
    (told_by stamp_in (values_of (numbered (codes "first") number) items)) (told_by (number_in 0 (2 ^ 32 - 1)) (values_of (numbered (codes "ct") number) items))
    (told_by (number_in 0 255) (values_of (numbered (codes "mv") number) items)) (told_by flags_in (values_of (numbered (codes "rs") number) items)) row is in (
      told-by addr_in IsAddr (λ text one told. (addr_in_sound text one told).0) (values_of (numbered (codes "addr") number) items) row.addr addr,
      told-by stamp_in (λ time. time < 2 ^ 64) stamp_in-fits (values_of (numbered (codes "last") number) items) row.last last,
    )

-- a first and others, where both are told
first-told : {A : Type 0} (one : Option A) (more : Option (List A)) (xs : List A)
    → option_and_then (λ (x : A). option_and_then (λ (ys : List A). Some (x ∷ ys)) more) one ≡ Some xs
    → (x : A) × (ys : List A) × (one ≡ Some x) × (more ≡ Some ys) × (x ∷ ys ≡ xs)
first-told None more xs is = absurd (cc is)
first-told (Some x) None xs is = absurd (cc is)
first-told (Some x) (Some ys) xs is = (x, ys, refl, refl, same_Some (x ∷ ys) xs is)

pairs-from : (items : List Item) (count number : ℕ) (rows : List ShownRow) → rows_from items count number ≡ Some rows → ArePairs (map pair_of rows)
pairs-from items zero number rows is = subst (λ (those : List ShownRow). ArePairs (map pair_of those)) (same_Some [] rows is) tt
pairs-from items (suc count) number rows is =
    let (row, more, here, later, same) = first-told (row_in items number) (rows_from items count (suc number)) rows is in
    subst (λ (those : List ShownRow). ArePairs (map pair_of those)) same (pair-items items number row here, pairs-from items count (suc number) more later)

pairs-items : (items : List Item) (rows : List ShownRow) → rows_in items ≡ Some rows → ArePairs (map pair_of rows)
unfolding rows_in
pairs-items items rows is =
    let count = count_numbered (codes "addr") items in
    pairs-from items count 0 rows (cond-then (has_each items count) (rows_from items count 0) rows is).1

-- the nonce and the rows of a page that is told
page-parts : (nonce : Option (List ℕ)) (older : Option (Option Pair)) (rows : Option (List ShownRow)) (ended newest : Option (Option ℕ)) (page : PageAnswer)
    → option_and_then (λ (n : List ℕ). option_and_then (λ (o : Option Pair). option_and_then (λ (r : List ShownRow). option_and_then (λ (e : Option ℕ). option_and_then (λ (w : Option ℕ).
    Some (record { nonce = n; older = o; rows = r; ended = e; newest = w })) newest) ended) rows) older) nonce ≡ Some page
    → (nonce ≡ Some page.nonce) × (rows ≡ Some page.rows)
page-parts None older rows ended newest page is = absurd (cc is)
page-parts (Some n) None rows ended newest page is = absurd (cc is)
page-parts (Some n) (Some o) None ended newest page is = absurd (cc is)
page-parts (Some n) (Some o) (Some r) None newest page is = absurd (cc is)
page-parts (Some n) (Some o) (Some r) (Some e) None page is = absurd (cc is)
page-parts (Some n) (Some o) (Some r) (Some e) (Some w) page is =
    let same : record { nonce = n; older = o; rows = r; ended = e; newest = w } ≡ page = same_Some _ page is in
    (ap (λ (one : PageAnswer). Some one.nonce) same, ap (λ (one : PageAnswer). Some one.rows) same)

-- a page that was read: its nonce stands without quotes, and the pairs of its rows have addresses and times
pub record IsReadPage (page : PageAnswer) : Type 0 where
  pub nonce : IsBare page.nonce
  pub pairs : ArePairs (map pair_of page.rows)

read-items : (items : List Item) (page : PageAnswer) → answer_in items ≡ Some page → IsReadPage page
unfolding answer_in
read-items items page is =
    let (nonce, rows) = page-parts (nonce_in items) (older_by (values_of (codes "addr.older") items) (values_of (codes "last.older") items)) (rows_in items)
    (time_by (values_of (codes "now") items)) (time_by (values_of (codes "last.newest") items)) page is in
    record { nonce = bare-items items page.nonce nonce; pairs = pairs-items items page.rows rows }

-- the page that a text tells is one
pub read-told : (text : List ℕ) (page : PageAnswer) → answer_told text ≡ Some page → IsReadPage page
unfolding answer_told
read-told text page is =
    option_and_then_some answer_in (items_read text) page is (λ items there told. read-items items page told)
