-- Where a walk ends, it has taken the rows of the page.
use Rattle.std.proofs.Common.{◌≡◌, inl, inr, ℕ, ◌+◌, ◌*◌, ◌≤◌, Bool, true, false, not, List, [], ◌∷◌, ◌++◌, length, take, Option, Some, None, refl, sym, ap, subst, ◌∙◌, arith, append_assoc, append-nil, length-append}
use Rattle.std.specs.Prelude.{nat_le, ◌&&◌, is_some, IfSome}
use Rattle.std.proofs.lemmas.Bool.{le-leb, lt-leb}
use Rattle.std.proofs.lemmas.List.Sums.{sum_by-append}
use Rattle.std.proofs.Math.Seq.{take-append_seam}
use Rattle.std.proofs.lemmas.Fmt.{length-decimal-le}
use Rattle.mode6_frame.specs.Cuts.{parts_count, plain_len}
use Rattle.mru_items.specs.declared.pair.Pair.{Pair}
use Rattle.mru_items.specs.declared.query.ReadRequest.{ReadRequest}
use Rattle.mru_items.specs.Queries.{IsLimit, IsRead}
use Rattle.net_addr.specs.Addresses.{IsAddr}
use Rattle.mru_read.specs.declared.sizes.Measure.{Measure}
use Rattle.mru_read.specs.Pages.{IsTellablePair, IsTellableRow, Start, confirmed_by, gone_from, is_within, may_have, passing_from, row_count, rows_from}
use Rattle.mru_read.specs.Sizes.{front_lengths, is_allowed, lengths_with, measured, no_items, parts_in, row_lengths}
use Rattle.mru_read.specs.Walks.{IsNext, IsTaken, passing_on, rows_behind, start_at}
use Rattle.mru_read.proofs.MeasureLemmas.{measured-append, measured-parts, parts-one}
use Rattle.mru_read.proofs.PageLemmas.{allowed-fewer, end_of, lengths_at, lengths_with-more, lengths_with-none, may_have-is, newest_in, row_count-is, rows_lengths-one}
use Rattle.mru_read.proofs.SizeLemmas.{addr-short, addr_of, end-none, end-some, front-none, front-some, length-hex, row-lengths}
use Rattle.mru_read.proofs.TakingLemmas.{IsHad, IsSpent, IsWalk, confirmed-at, size-push, spent-last, walk-goes_on}
use Rattle.recency.specs.declared.row.Row.{Row}

true-false : true ≡ false → ⊥
true-false same = cc

-- the items before the rows have few octets
pub front-short : (confirmed : Option Pair) → IsTellablePair confirmed → plain_len (front_lengths confirmed) ≤ 167
front-short None is = rw front-none (omega arith)
front-short (Some pair) is =
    let addr : IsAddr pair.addr = record { ip = is.0; port = is.1 } in
    rw (front-some pair addr) (omega (arith, addr-short pair.addr addr))

-- and so have those of the first row
pub row-short : (row : Row) → IsTellableRow row → plain_len (row_lengths 0 row) ≤ 204
row-short row is =
    let addr : IsAddr (addr_of row) = record { ip = is.ip; port = is.port } in
    rw (row-lengths 0 row addr (omega (arith, is.count)) (omega (arith, is.mv)) is.flags) (omega (
      arith,
      addr-short (addr_of row) addr,
      length-decimal-le 1 0 (omega arith) (omega arith) (omega arith),
      length-decimal-le 10 row.count (omega arith) (omega (arith, is.count)) (omega (arith, is.count)),
      length-decimal-le 3 row.mv (omega arith) (omega (arith, is.mv)) (omega (arith, is.mv)),
      length-hex row.flags,
    ))

-- and those behind the rows
pub end-short : (ended : Bool) (newest : Option ℕ) → plain_len (end_of ended newest) ≤ 58
end-short false newest = omega arith
end-short true None = rw end-none (omega arith)
end-short true (Some newest) = rw (end-some newest) (omega arith)

-- one row is within each limit
within-one : (limit : Option ℕ) → IsLimit limit → is_within limit 1 ≡ true
within-one None is = refl
within-one (Some limit) is = le-leb 1 limit is.0

-- one row is always allowed, with the end or without
pub first-allowed : (request : ReadRequest) (confirmed : Option Pair) (row : Row) (ended : Bool) (newest : Option ℕ) → IsRead request → IsTellablePair confirmed → IsTellableRow row
    → is_allowed request 1 (lengths_with confirmed (row ∷ []) ++ end_of ended newest) ≡ true
first-allowed request confirmed row ended newest read pair is =
    let lengths = lengths_with confirmed (row ∷ []) in
    let split : lengths ≡ front_lengths confirmed ++ row_lengths 0 row =
    lengths_with-more confirmed [] (row ∷ []) ∙ (λ i. lengths_with-none confirmed i ++ rows_lengths-one 0 row i) in
    let len : plain_len lengths ≡ plain_len (front_lengths confirmed) + plain_len (row_lengths 0 row) =
    ap plain_len split ∙ sum_by-append (λ n. 2 + n) (front_lengths confirmed) (row_lengths 0 row) in
    let one : parts_count (lengths ++ end_of ended newest) ≡ 1 =
    parts-one (lengths ++ end_of ended newest)
    (omega (arith, sum_by-append (λ n. 2 + n) lengths (end_of ended newest), len, front-short confirmed pair, row-short row is, end-short ended newest)) in
    rw (within-one request.limit read.limit) (le-leb (parts_count (lengths ++ end_of ended newest)) request.frags (omega (arith, one, read.least)))

-- the rows up to the next one are the first that pass
take-next : (passing taken rest : List Row) (row : Row) → passing ≡ taken ++ row ∷ rest → take (length taken + 1) passing ≡ taken ++ row ∷ []
take-next passing taken rest row split =
    let whole : passing ≡ (taken ++ row ∷ []) ++ rest = split ∙ sym (append_assoc taken (row ∷ []) rest) in
    let count : length taken + 1 ≡ length (taken ++ row ∷ []) = sym (length-append taken (row ∷ [])) in
    ap (λ n. take n passing) count ∙ ap (take (length (taken ++ row ∷ []))) whole ∙ take-append_seam (taken ++ row ∷ []) rest

-- the test of the code is that of the lengths
pub test-is : (request : ReadRequest) (count : ℕ) (size : Measure) (lengths : List ℕ) → IsRead request → size ≡ measured no_items lengths
    → (is_within request.limit count && nat_le (parts_in size) request.frags) ≡ is_allowed request count lengths
test-is request count size lengths read is =
    ap (λ b. is_within request.limit count && b) (ap (λ (m : Measure). nat_le (parts_in m) request.frags) is ∙ measured-parts lengths request.frags read.most)

-- one more row may not be had where it is not allowed without the end
pub more-refused : (rows : List Row) (request : ReadRequest) (start : Start) (taken rest : List Row) (row : Row) → passing_from rows request start ≡ taken ++ row ∷ rest
    → is_allowed request (length taken + 1) (lengths_with (confirmed_by start) (taken ++ row ∷ [])) ≡ false
    → may_have rows request start (passing_from rows request start) 0 (length taken + 1) ≡ false
more-refused rows request start taken rest row split fails = by (may_have rows request start passing 0 more) refl
  where
    passing : List Row
    passing = passing_from rows request start

    more : ℕ
    more = length taken + 1

    by : (b : Bool) → may_have rows request start passing 0 more ≡ b → may_have rows request start passing 0 more ≡ false
    by false same = same
    by true same =
        let end = end_of (nat_le (length passing) more) (newest_in rows) in
        let lengths : lengths_at rows start passing more ≡ lengths_with (confirmed_by start) (taken ++ row ∷ []) ++ end =
        ap (λ them. lengths_with (confirmed_by start) them ++ end) (take-next passing taken rest row split) in
        let allowed = allowed-fewer request more more (lengths_with (confirmed_by start) (taken ++ row ∷ [])) end (omega arith)
        (ap (is_allowed request more) (sym lengths) ∙ sym (may_have-is rows request start passing 0 more) ∙ same) in
        absurd (true-false (sym allowed ∙ fails))

-- the last row is the last that passes
last-is : (rows : List Row) (request : ReadRequest) (passing front : List Row) (next : Option Row) (is_last : Bool) → is_some next ≡ not is_last → passing ≡ front ++ passing_on rows request.filter next
    → nat_le (length passing) (length front) ≡ is_last
last-is rows request passing front None true none split = le-leb _ _ (omega (arith, ap (λ (them : List Row). length them) split, length-append front []))
last-is rows request passing front None false none split = absurd cc
last-is rows request passing front (Some row) true none split = absurd cc
last-is rows request passing front (Some row) false none split =
    lt-leb (length passing) (length front) (omega (arith, ap (λ (them : List Row). length them) split, length-append front (passing_on rows request.filter (Some row))))

-- one more row may be had where it is allowed with what the page then tells
pub more-is : (rows : List Row) (request : ReadRequest) (start : Start) (taken : List Row) (row : Row) (next : Option Row) (is_last : Bool) (grown told : Measure) → IsRead request
    → IsWalk rows request start (taken ++ row ∷ []) next grown → is_some next ≡ not is_last → told ≡ measured grown (end_of is_last (newest_in rows))
    → may_have rows request start (passing_from rows request start) 0 (length taken + 1) ≡ (is_within request.limit (length taken + 1) && nat_le (parts_in told) request.frags)
more-is rows request start taken row next is_last grown told read walk none is =
    let passing = passing_from rows request start in
    let more = length taken + 1 in
    let front = lengths_with (confirmed_by start) (taken ++ row ∷ []) in
    let count : length (taken ++ row ∷ []) ≡ more = length-append taken (row ∷ []) in
    let measure : told ≡ measured no_items (front ++ end_of is_last (newest_in rows)) =
    is ∙ ap (λ m. measured m (end_of is_last (newest_in rows))) walk.measure ∙ sym (measured-append no_items front (end_of is_last (newest_in rows))) in
    let last : nat_le (length passing) more ≡ is_last =
    ap (nat_le (length passing)) (sym count) ∙ last-is rows request passing (taken ++ row ∷ []) next is_last none walk.split in
    let rows_are : take more passing ≡ taken ++ row ∷ [] =
    take-next passing taken (passing_on rows request.filter next) row (walk.split ∙ append_assoc taken (row ∷ []) (passing_on rows request.filter next)) in
    may_have-is rows request start passing 0 more
    ∙ ap (is_allowed request more) (λ i. lengths_with (confirmed_by start) (rows_are i) ++ end_of (last i) (newest_in rows))
    ∙ sym (test-is request more told (front ++ end_of is_last (newest_in rows)) read measure)

-- the first row may always be had
pub some-taken : (rows : List Row) (request : ReadRequest) (confirmed : Option Pair) (taken rest : List Row) (row : Row) → IsRead request → IsTellablePair confirmed → IsTellableRow row
    → passing_from rows request (start_at confirmed) ≡ taken ++ row ∷ rest → may_have rows request (start_at confirmed) (passing_from rows request (start_at confirmed)) 0 (length taken + 1) ≡ false
    → 1 ≤ length taken
some-taken rows request confirmed (first ∷ taken) rest row read pair is split fails = omega arith
some-taken rows request confirmed [] rest row read pair is split fails =
    let start = start_at confirmed in
    let passing = passing_from rows request start in
    let end = end_of (nat_le (length passing) 1) (newest_in rows) in
    let one : 0 + 1 ≡ 1 = omega arith in
    let allowed = first-allowed request confirmed row (nat_le (length passing) 1) (newest_in rows) read pair is in
    let rows_are : take 1 passing ≡ row ∷ [] = ap (take 1) split in
    let has : may_have rows request start passing 0 1 ≡ true =
    may_have-is rows request start passing 0 1 ∙ ap (is_allowed request 1) (λ i. lengths_with (confirmed-at confirmed i) (rows_are i) ++ end) ∙ allowed in
    absurd (true-false (sym has ∙ ap (may_have rows request start passing 0) (sym one) ∙ fails))

-- what is taken is the front of what passes
taken-front : (passing taken rest : List Row) (count : ℕ) → passing ≡ taken ++ rest → count ≡ length taken → taken ≡ take count passing
taken-front passing taken rest count split is =
    sym (take-append_seam taken rest) ∙ ap (take (length taken)) (sym split) ∙ ap (λ n. take n passing) (sym is)

-- the walk ends where one more row may not be had
pub taken-before : (rows : List Row) (request : ReadRequest) (confirmed : Option Pair) (taken : List Row) (row : Row) (size : Measure) → IsRead request → IsTellablePair confirmed
    → IsWalk rows request (start_at confirmed) taken (Some row) size → IsHad rows request (start_at confirmed) taken
    → may_have rows request (start_at confirmed) (passing_from rows request (start_at confirmed)) 0 (length taken + 1) ≡ false
    → IsTaken rows request (start_at confirmed) taken false
taken-before rows request confirmed taken row size read pair walk had fails =
    let start = start_at confirmed in
    let passing = passing_from rows request start in
    let rest = passing_on rows request.filter (Some row) in
    let len : length passing ≡ length taken + length rest = ap (λ (them : List Row). length them) walk.split ∙ length-append taken rest in
    let count : row_count rows request start 0 ≡ length taken = row_count-is rows request start 0 (length taken) (omega (arith, len)) had (λ _. fails) in
    record {
      are = taken-front passing taken rest (row_count rows request start 0) walk.split count;
      is_ended = sym (lt-leb (length passing) (row_count rows request start 0) (omega (arith, len, count)));
      some = inl (some-taken rows request confirmed taken _ row read pair (walk.next_tellable row refl) walk.split fails);
      tellable = walk.tellable;
    }

-- and where no row is left
pub taken-all : (rows : List Row) (request : ReadRequest) (start : Start) (taken : List Row) (next : Option Row) (size : Measure) → next ≡ None
    → IsWalk rows request start taken next size → IsHad rows request start taken → IsTaken rows request start taken true
taken-all rows request start taken next size none walk had =
    let passing = passing_from rows request start in
    let split : passing ≡ taken ++ [] = walk.split ∙ ap (λ it. taken ++ passing_on rows request.filter it) none in
    let len : length passing ≡ length taken = ap (λ (them : List Row). length them) (split ∙ append-nil taken) in
    let count : row_count rows request start 0 ≡ length taken = row_count-is rows request start 0 (length taken) (omega (arith, len)) had (λ less. absurd (omega (arith, less, len))) in
    record {
      are = taken-front passing taken [] (row_count rows request start 0) split count;
      is_ended = sym (le-leb (length passing) (row_count rows request start 0) (omega (arith, len, count)));
      some = inr refl;
      tellable = walk.tellable;
    }

-- a row that is refused with what the page then tells is the last
pub spent-refused : (rows : List Row) (request : ReadRequest) (start : Start) (taken : List Row) (row : Row) (next : Option Row) (is_last within : Bool) (grown told : Measure) (before steps width : ℕ)
    → IsWalk rows request start (taken ++ row ∷ []) next grown → IsHad rows request start taken → IsSpent rows (rows_from rows start) next before steps width
    → is_some next ≡ not is_last → told ≡ measured grown (end_of is_last (newest_in rows))
    → (within && nat_le (parts_in grown) request.frags) ≡ true → (within && nat_le (parts_in told) request.frags) ≡ false
    → steps ≤ before + (gone_from rows request 0 start + 2) * width
spent-refused rows request start taken row None is_last within grown told before steps width walk had spent none is first second =
    spent-last rows request start taken row before steps width (walk.split ∙ append-nil (taken ++ row ∷ [])) had spent
spent-refused rows request start taken row (Some next) true within grown told before steps width walk had spent none is first second = absurd cc
spent-refused rows request start taken row (Some next) false within grown told before steps width walk had spent none is first second =
    absurd (true-false (sym first ∙ ap (λ (m : Measure). within && nat_le (parts_in m) request.frags) (sym is) ∙ second))

-- one more row that may be had
pub had-more : (rows : List Row) (request : ReadRequest) (start : Start) (taken : List Row) (row : Row) → may_have rows request start (passing_from rows request start) 0 (length taken + 1) ≡ true
    → IsHad rows request start (taken ++ row ∷ [])
had-more rows request start taken row is some = ap (may_have rows request start (passing_from rows request start) 0) (length-append taken (row ∷ [])) ∙ is

-- one turn of the loop: the next row is found, and measured with the rows that are taken
pub record IsTurn (rows : List Row) (request : ReadRequest) (confirmed : Option Pair) (taken : List Row) (row : Row) (size grown : Measure) : Type 0 where
  pub read : IsRead request
  pub pair : IsTellablePair confirmed
  pub walk : IsWalk rows request (start_at confirmed) taken (Some row) size
  pub had : IsHad rows request (start_at confirmed) taken
  pub more : grown ≡ measured size (row_lengths (length taken) row)

pub turn-is : (rows : List Row) (request : ReadRequest) (confirmed : Option Pair) (taken : List Row) (next : Option Row) (row : Row) (size grown : Measure) (len : ℕ)
    → IsRead request → IsTellablePair confirmed → IsWalk rows request (start_at confirmed) taken next size → IsHad rows request (start_at confirmed) taken → next ≡ Some row
    → len ≡ length taken → grown ≡ measured size (row_lengths len row) → IsTurn rows request confirmed taken row size grown
turn-is rows request confirmed taken next row size grown len read pair walk had is count more = record {
  read = read;
  pair = pair;
  walk = subst (λ (it : Option Row). IsWalk rows request (start_at confirmed) taken it size) is walk;
  had = had;
  more = more ∙ ap (λ n. measured size (row_lengths n row)) count;
}

-- it ends where the row is not allowed
pub turn-refused : (rows : List Row) (request : ReadRequest) (confirmed : Option Pair) (taken : List Row) (row : Row) (size grown : Measure) (len : ℕ)
    → IsTurn rows request confirmed taken row size grown → len ≡ length taken → (is_within request.limit (len + 1) && nat_le (parts_in grown) request.frags) ≡ false
    → IsTaken rows request (start_at confirmed) taken false
turn-refused rows request confirmed taken row size grown len turn count fails =
    let start = start_at confirmed in
    let measure = size-push rows request start taken row size grown turn.walk.measure turn.more in
    let not_allowed = sym (test-is request (length taken + 1) grown (lengths_with (confirmed_by start) (taken ++ row ∷ [])) turn.read measure)
    ∙ ap (λ n. is_within request.limit (n + 1) && nat_le (parts_in grown) request.frags) (sym count) ∙ fails in
    taken-before rows request confirmed taken row size turn.read turn.pair turn.walk turn.had (more-refused rows request start taken _ row turn.walk.split not_allowed)

-- the row behind it is looked for
pub record IsLook (rows : List Row) (request : ReadRequest) (confirmed : Option Pair) (taken : List Row) (row : Row) (next : Option Row) (is_last : Bool) (grown told : Measure) : Type 0 where
  pub walk : IsWalk rows request (start_at confirmed) (taken ++ row ∷ []) next grown
  pub last : is_some next ≡ not is_last
  pub is_told : told ≡ measured grown (end_of is_last (newest_in rows))

pub look-is : (rows : List Row) (request : ReadRequest) (confirmed : Option Pair) (taken : List Row) (row : Row) (next : Option Row) (is_last : Bool) (size grown told : Measure) (newest : Option ℕ)
    → IsTurn rows request confirmed taken row size grown → IsNext rows request.filter (rows_behind rows row.ip) next → IfSome next IsTellableRow → is_some next ≡ not is_last
    → newest ≡ newest_in rows → told ≡ measured grown (end_of is_last newest) → IsLook rows request confirmed taken row next is_last grown told
look-is rows request confirmed taken row next is_last size grown told newest turn is tellable last same more = record {
  walk = walk-goes_on rows request (start_at confirmed) taken row next size grown turn.walk is tellable turn.more;
  last = last;
  is_told = more ∙ ap (λ it. measured grown (end_of is_last it)) same;
}

look-more : (rows : List Row) (request : ReadRequest) (confirmed : Option Pair) (taken : List Row) (row : Row) (next : Option Row) (is_last : Bool) (size grown told : Measure) (len : ℕ) (b : Bool)
    → IsTurn rows request confirmed taken row size grown → IsLook rows request confirmed taken row next is_last grown told → len ≡ length taken
    → (is_within request.limit (len + 1) && nat_le (parts_in told) request.frags) ≡ b → may_have rows request (start_at confirmed) (passing_from rows request (start_at confirmed)) 0 (length taken + 1) ≡ b
look-more rows request confirmed taken row next is_last size grown told len b turn look count is =
    more-is rows request (start_at confirmed) taken row next is_last grown told turn.read look.walk look.last look.is_told
    ∙ ap (λ n. is_within request.limit (n + 1) && nat_le (parts_in told) request.frags) (sym count) ∙ is

-- it ends where the row is not allowed with what the page then tells
pub look-refused : (rows : List Row) (request : ReadRequest) (confirmed : Option Pair) (taken : List Row) (row : Row) (next : Option Row) (is_last : Bool) (size grown told : Measure) (len : ℕ)
    → IsTurn rows request confirmed taken row size grown → IsLook rows request confirmed taken row next is_last grown told → len ≡ length taken
    → (is_within request.limit (len + 1) && nat_le (parts_in told) request.frags) ≡ false → IsTaken rows request (start_at confirmed) taken false
look-refused rows request confirmed taken row next is_last size grown told len turn look count fails =
    taken-before rows request confirmed taken row size turn.read turn.pair turn.walk turn.had (look-more rows request confirmed taken row next is_last size grown told len false turn look count fails)

-- and goes on where it is
pub look-had : (rows : List Row) (request : ReadRequest) (confirmed : Option Pair) (taken pushed : List Row) (row : Row) (next : Option Row) (is_last : Bool) (size grown told : Measure) (len : ℕ)
    → IsTurn rows request confirmed taken row size grown → IsLook rows request confirmed taken row next is_last grown told → len ≡ length taken → pushed ≡ taken ++ row ∷ []
    → (is_within request.limit (len + 1) && nat_le (parts_in told) request.frags) ≡ true
    → IsWalk rows request (start_at confirmed) pushed next grown × IsHad rows request (start_at confirmed) pushed
look-had rows request confirmed taken pushed row next is_last size grown told len turn look count push is =
    let start = start_at confirmed in
    subst (λ (them : List Row). IsWalk rows request start them next grown × IsHad rows request start them) (sym push)
    (look.walk, had-more rows request start taken row (look-more rows request confirmed taken row next is_last size grown told len true turn look count is))

-- the cost where a row is refused with what the page then tells
pub look-spent : (rows : List Row) (request : ReadRequest) (confirmed : Option Pair) (taken : List Row) (row : Row) (next : Option Row) (is_last within : Bool) (size grown told : Measure) (before steps width : ℕ)
    → IsTurn rows request confirmed taken row size grown → IsLook rows request confirmed taken row next is_last grown told
    → IsSpent rows (rows_from rows (start_at confirmed)) next before steps width
    → (within && nat_le (parts_in grown) request.frags) ≡ true → (within && nat_le (parts_in told) request.frags) ≡ false
    → steps ≤ before + (gone_from rows request 0 (start_at confirmed) + 2) * width
look-spent rows request confirmed taken row next is_last within size grown told before steps width turn look spent first second =
    spent-refused rows request (start_at confirmed) taken row next is_last within grown told before steps width look.walk turn.had spent look.last look.is_told first second
