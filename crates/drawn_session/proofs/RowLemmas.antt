-- A client list that keeps a row of each client has one for each that arrived.
use Rattle.std.proofs.Common.{◌≡◌, ◌==◌, ◌<◌, ◌≤◌, ◌+◌, ◌/◌, ◌%◌, ◌||◌, ℕ, zero, suc, Bool, true, false, cond, if◌then◌else◌, not, nat_lt, Option, None, Some, List, [], ◌∷◌, ◌++◌, get_or, length, refl, sym, ap, subst, ◌∙◌, arith}
use Rattle.std.specs.List.{AllByRecursion, count_by, list_any, range_with_len}
use Rattle.std.proofs.lemmas.Bool.{and_left, cond_both, eq-eqb, eqb-true, false_from_ne_true, le-ltb, lt-ltb, ne_eqb, or_from, true≢false}
use Rattle.std.proofs.Math.Bool.{or_assoc}
use Rattle.std.proofs.lemmas.List.{length_push}
use Rattle.std.proofs.lemmas.List.Folds.{list_any-append}
use Rattle.std.proofs.lemmas.List.FromFn.{length-range_with_len}
use Rattle.std.proofs.lemmas.List.Sums.{count_by-le-length, sum_by-cons}
use Rattle.draws.specs.Clients.{client_ip}
use Rattle.draws.specs.declared.clients.TheConstants.{CLIENTS}
use Rattle.net_addr.specs.Addresses.{same_ip}
use Rattle.net_addr.specs.declared.addr.Addr.{Addr}
use Rattle.net_addr.specs.declared.addr.Ip.{Ip}
use Rattle.net_addr.specs.declared.addr.Ip.TheVariants.{V4, V6}
use Rattle.net_addr.proofs.AddressLemmas.{same_ip-eq, same_ip-refl}
use Rattle.recency.specs.Arrivals.{admitted, new_row, row_after, rows_by, touched_rows}
use Rattle.recency.specs.Rows.{IsDistinct, find_row, others}
use Rattle.recency.specs.Sweeps.{swept_rows}
use Rattle.recency.specs.declared.limits.Limits.{Limits}
use Rattle.recency.specs.declared.row.Row.{Row}
use Rattle.recency.specs.declared.visit.Touched.{Touched}
use Rattle.recency.specs.declared.visit.Visit.{Visit}
use Rattle.recency.proofs.ListLemmas.{AllByRecursion-append, AllByRecursion-filter, AllByRecursion-weaker}
use Rattle.recency.proofs.RowLemmas.{IsDistinct-filter, IsDistinct-push, IsNoneOf, find_row-none, find_row-some, others-none}
use Rattle.sys_vars.specs.declared.published.Record.{Record}
use Rattle.server_core.specs.Histories.{state_after_all}
use Rattle.server_core.specs.States.{ServerState, rows_after, state_after}
use Rattle.server_core.specs.Verdicts.{arrival_rows, basis_of, drawn, flags_on, is_denied, is_ignored, rate_verdict, rows_at, rows_told, rows_touched, visit_of}
use Rattle.server_core.specs.declared.class.Ask.{Ask}
use Rattle.server_core.specs.declared.op.Op.{Op}
use Rattle.server_core.specs.declared.op.Op.TheVariants.{Publish, Arrive, Look, Read, Sweep, Stop}
use Rattle.server_core.specs.declared.verdict.Verdict.{Verdict}
use Rattle.server_core.specs.declared.verdict.Verdict.TheVariants.{Ignored, Served}
use Rattle.access_rules.specs.Flags.{has_flag}
use Rattle.access_rules.specs.Rules.{flags_of}
use Rattle.access_rules.specs.declared.flags.TheConstants.{IGNORE}
use Rattle.drawn_session.proofs.Matching.{IsOfClient, RefusesNobody, arrives, is_arrival_of}

-- tests that give one answer at each element count as many
pub count_by-same : {X : Type 0} (p q : X → Bool) (xs : List X) → ((x : X) → p x ≡ q x) → count_by p xs ≡ count_by q xs
count_by-same p q xs same = λ i. count_by (λ x. same x i) xs

-- how much an element counts, by its test
abbrev one_if : Bool → ℕ
one_if b = cond b 1 0

-- one element more counts as its test says
count_by-cons : {X : Type 0} (p : X → Bool) (x : X) (xs : List X) → count_by p (x ∷ xs) ≡ one_if (p x) + count_by p xs
count_by-cons p x xs = sum_by-cons (λ y. one_if (p y)) x xs

-- what passes one of two tests and never both counts for one of them
count_by-or : {X : Type 0} (p q : X → Bool) (xs : List X) → ((x : X) → p x ≡ true → q x ≡ false) → count_by (λ x. p x || q x) xs ≡ count_by p xs + count_by q xs
count_by-or p q [] apart = omega arith
count_by-or {X} p q (x ∷ xs) apart =
    let whole = count_by-cons (λ (x : X). p x || q x) x xs in
    omega (arith, whole, count_by-cons p x xs, count_by-cons q x xs, count_by-or p q xs apart, one (p x) (q x) (apart x))
  where
    one : (b c : Bool) → (b ≡ true → c ≡ false) → one_if (b || c) ≡ one_if b + one_if c
    one true c apart = rw (apart refl) refl
    one false c apart = omega arith

-- no element passes a test that none passes
count_by-none : {X : Type 0} (xs : List X) → count_by (λ (x : X). false) xs ≡ 0
count_by-none [] = refl
count_by-none {X} (x ∷ xs) = omega (arith, count_by-cons (λ (x : X). false) x xs, count_by-none xs)

-- a number is none of those from a greater one on
count_by-later : (number start count : ℕ) → number < start → count_by (λ k. number == k) (range_with_len start count) ≡ 0
count_by-later number start zero before = refl
count_by-later number start (suc count) before =
    let other : (number == start) ≡ false = false_from_ne_true _ (λ same. absurd (omega (arith, before, eqb-true _ _ same))) in
    let first : one_if (number == start) ≡ one_if false = ap one_if other in
    omega (arith, count_by-cons (λ k. number == k) start (range_with_len (start + 1) count), count_by-later number (start + 1) count (omega (arith, before)), first)

-- of numbers one after another each is there once
count_by-among : (number start count : ℕ) → start ≤ number → number < start + count → count_by (λ k. number == k) (range_with_len start count) ≡ 1
count_by-among number start zero from below = absurd (omega (arith, from, below))
count_by-among number start (suc count) from below = by (number == start) refl (λ later. count_by-among number (start + 1) count later (omega (arith, below)))
  where
    whole : count_by (λ k. number == k) (range_with_len start (suc count)) ≡ one_if (number == start) + count_by (λ k. number == k) (range_with_len (start + 1) count)
    whole = count_by-cons (λ k. number == k) start (range_with_len (start + 1) count)

    by : (b : Bool) → (number == start) ≡ b → (start + 1 ≤ number → count_by (λ k. number == k) (range_with_len (start + 1) count) ≡ 1)
        → count_by (λ k. number == k) (range_with_len start (suc count)) ≡ 1
    by true same rest =
        let first : one_if (number == start) ≡ one_if true = ap one_if same in
        omega (arith, whole, first, count_by-later number (start + 1) count (omega (arith, eqb-true _ _ same)))
    by false other rest =
        let first : one_if (number == start) ≡ one_if false = ap one_if other in
        let apart : number ≡ start → ⊥ = λ same. true≢false (sym (eq-eqb number start same) ∙ other) in
        omega (arith, whole, first, rest (omega (arith, from, apart)))

-- no two clients have one address
client_ip-one : (one other : ℕ) → client_ip one ≡ client_ip other → one ≡ other
client_ip-one one other same =
    let high : one / 256 ≡ other / 256 = ap (λ ip. get_or (octets_of ip) 2 0) same in
    let low : one % 256 ≡ other % 256 = ap (λ ip. get_or (octets_of ip) 3 0) same in
    omega (arith, high, low)
  where
    octets_of : Ip → List ℕ
    octets_of (V4 octets) = octets
    octets_of (V6 octets) = octets

-- so two of them are the same where their numbers are
pub same_client : (one other : ℕ) → same_ip (client_ip one) (client_ip other) ≡ (one == other)
same_client one other = by (same_ip (client_ip one) (client_ip other)) refl
  where
    by : (b : Bool) → same_ip (client_ip one) (client_ip other) ≡ b → same_ip (client_ip one) (client_ip other) ≡ (one == other)
    by true same = same ∙ sym (eq-eqb one other (client_ip-one one other (same_ip-eq _ _ same)))
    by false differ =
        let P : ℕ → Type 0 = λ number. same_ip (client_ip one) (client_ip number) ≡ true in
        differ ∙ sym (ne_eqb one other (λ is. true≢false (sym (subst P is (same_ip-refl (client_ip one))) ∙ differ)))

-- an address is that of a client below a number
abbrev IsIpBelow : ℕ → Ip → Type 0
IsIpBelow count ip = (client : ℕ) × (client < count) × (ip ≡ client_ip client)

-- each row is that of a client below a number, and each client has one at most
record AreRowsBelow (count : ℕ) (rows : List Row) : Type 0 where
  distinct : IsDistinct rows
  each : AllByRecursion (λ (row : Row). IsIpBelow count row.ip) rows

-- an address has a row
abbrev has_row : List Row → Ip → Bool
has_row rows ip = list_any (λ (row : Row). same_ip row.ip ip) rows

-- an address of which no row is has none
has_row-none : (rows : List Row) (ip : Ip) → IsNoneOf ip rows → has_row rows ip ≡ false
has_row-none [] ip none = refl
has_row-none (row ∷ rows) ip none = or_from _ _ none.0 (has_row-none rows ip none.1)

-- there is one client below a number that has the address of one
one_has : (count : ℕ) (ip : Ip) → IsIpBelow count ip → count_by (λ k. same_ip ip (client_ip k)) (range_with_len 0 count) ≡ 1
one_has count ip (client, below, is) =
    count_by-same (λ k. same_ip ip (client_ip k)) (λ k. client == k) (range_with_len 0 count) (λ k. ap (λ (ip : Ip). same_ip ip (client_ip k)) is ∙ same_client client k)
    ∙ count_by-among client 0 count (omega arith) (omega (arith, below))

-- there are as many rows as clients that have one
length-rows : (count : ℕ) (rows : List Row) → IsDistinct rows → AllByRecursion (λ (row : Row). IsIpBelow count row.ip) rows
    → length rows ≡ count_by (λ k. has_row rows (client_ip k)) (range_with_len 0 count)
length-rows count [] distinct each = sym (count_by-none (range_with_len 0 count))
length-rows count (row ∷ rows) distinct each =
    let rest = length-rows count rows distinct.1 each.1 in
    let apart : (k : ℕ) → same_ip row.ip (client_ip k) ≡ true → has_row rows (client_ip k) ≡ false = λ k same.
    let P : Ip → Type 0 = λ ip. has_row rows ip ≡ false in
    subst P (same_ip-eq _ _ same) (has_row-none rows row.ip distinct.0)
    in
    let both = count_by-or (λ k. same_ip row.ip (client_ip k)) (λ k. has_row rows (client_ip k)) (range_with_len 0 count) apart in
    omega (arith, both, one_has count row.ip each.0, rest)

-- so there are no more rows than clients
length-rows-le : (count : ℕ) (rows : List Row) → AreRowsBelow count rows → length rows ≤ count
length-rows-le count rows are =
    omega (arith, length-rows count rows are.distinct are.each, count_by-le-length (λ k. has_row rows (client_ip k)) (range_with_len 0 count), length-range_with_len 0 count)

-- a fact, or one that never holds
or_false : (b : Bool) → (b || false) ≡ b
or_false true = refl
or_false false = refl

-- what rows are after an arrival of this address: as before, and with one of it
record AreRowsWith (count : ℕ) (rows : List Row) (ip : Ip) (left : List Row) : Type 0 where
  are : AreRowsBelow count left
  listed : (other : Ip) → has_row left other ≡ (has_row rows other || same_ip ip other)

-- rows with one more, of an address that had none
AreRowsBelow-push : (count : ℕ) (rows : List Row) (new : Row) (ip : Ip) → AreRowsBelow count rows → new.ip ≡ ip → IsNoneOf ip rows → IsIpBelow count ip → AreRowsWith count rows ip (rows ++ new ∷ [])
AreRowsBelow-push count rows new ip are is none below =
    let none_of : IsNoneOf new.ip rows = subst (λ (ip : Ip). IsNoneOf ip rows) (sym is) none in
    let new_below : IsIpBelow count new.ip = subst (IsIpBelow count) (sym is) below in
    record {
      are = record {
        distinct = IsDistinct-push rows new are.distinct none_of;
        each = AllByRecursion-append (λ (row : Row). IsIpBelow count row.ip) rows (new ∷ []) are.each (new_below, tt);
      };
      listed = λ other.
          list_any-append (λ (row : Row). same_ip row.ip other) rows (new ∷ [])
          ∙ ap (λ b. has_row rows other || b) (or_false (same_ip new.ip other) ∙ ap (λ (ip : Ip). same_ip ip other) is);
    }

-- taking out the rows of an address changes it of no other
has_row-others : (rows : List Row) (ip other : Ip) → (has_row (others rows ip) other || same_ip ip other) ≡ (has_row rows other || same_ip ip other)
has_row-others [] ip other = refl
has_row-others (row ∷ rows) ip other =
    let P : Bool → Type 0 = λ b. same_ip row.ip ip ≡ b
    → (has_row (cond (not b) (row ∷ others rows ip) (others rows ip)) other || same_ip ip other) ≡ ((same_ip row.ip other || has_row rows other) || same_ip ip other) in
    let rest = has_row-others rows ip other in
    (elim (same_ip row.ip ip) as P [
      | true ↦ λ same.
          rest
          ∙ sym (twice (same_ip ip other) (has_row rows other))
          ∙ ap (λ (own : Ip). (same_ip own other || has_row rows other) || same_ip ip other) (sym (same_ip-eq row.ip ip same))
      | false ↦ λ apart. under (same_ip row.ip other) (has_row (others rows ip) other) (has_row rows other) (same_ip ip other) rest
    ]) refl
  where
    twice : (a b : Bool) → ((a || b) || a) ≡ (b || a)
    twice true true = refl
    twice true false = refl
    twice false b = refl

    under : (a b c d : Bool) → (b || d) ≡ (c || d) → ((a || b) || d) ≡ ((a || c) || d)
    under true b c d same = refl
    under false b c d same = same

-- a list with room for each client has its row after an arrival
AreRowsWith-touched : (count : ℕ) (limits : Limits) (rows : List Row) (visit : Visit) (stamp : ℕ) → limits.mindepth ≡ count → AreRowsBelow count rows → IsIpBelow count visit.ip
    → AreRowsWith count rows visit.ip (touched_rows limits rows visit stamp)
AreRowsWith-touched count limits rows visit stamp depth are below = by (find_row rows visit.ip) refl
  where
    by : (found : Option Row) → find_row rows visit.ip ≡ found → AreRowsWith count rows visit.ip (rows_by found limits rows visit stamp)
    by None found =
        let new : Row = new_row visit stamp in
        let with_one = AreRowsBelow-push count rows new visit.ip are refl (find_row-none rows visit.ip found) below in
        let room : length rows < limits.mindepth = omega (arith, depth, length_push rows new, length-rows-le count (rows ++ new ∷ []) with_one.are) in
        let P : Touched → Type 0 = λ answer. AreRowsWith count rows visit.ip (admitted answer rows new) in
        cond_both (nat_lt (length rows) limits.mindepth) _ _ P (λ _. with_one) (λ full. absurd (true≢false (sym (lt-ltb _ _ room) ∙ full)))
    by (Some row) found =
        let is = find_row-some (λ (row : Row). IsIpBelow count row.ip) rows visit.ip row found are.each in
        let test : Row → Bool = λ row. not (same_ip row.ip visit.ip) in
        let kept : AreRowsBelow count (others rows visit.ip) = record {
          distinct = IsDistinct-filter test rows are.distinct;
          each = AllByRecursion-filter (λ (row : Row). IsIpBelow count row.ip) test rows are.each;
        } in
        let moved = AreRowsBelow-push count (others rows visit.ip) (row_after row visit stamp) visit.ip kept (same_ip-eq row.ip visit.ip is.0) (others-none rows visit.ip) below in
        record { are = moved.are; listed = λ other. moved.listed other ∙ has_row-others rows visit.ip other }

-- an address without restrict flags is served
served : (rec : Record) (flags : ℕ) (stamp : ℕ) (ask : Ask) (found : Option Row) → flags ≡ 0 → (if is_denied flags ask then Ignored else rate_verdict rec flags stamp found) ≡ Served (basis_of rec)
served rec flags stamp ask found none =
    let P : ℕ → Type 0 = λ flags. (if is_denied flags ask then Ignored else rate_verdict rec flags stamp found) ≡ Served (basis_of rec) in
    subst P (sym none) (by found)
  where
    by : (found : Option Row) → rate_verdict rec 0 stamp found ≡ Served (basis_of rec)
    by None = refl
    by (Some row) = refl

-- so its arrival touches the client list, and does no more to it
arrival_rows-served : (rec : Record) (limits : Limits) (rows : List Row) (stamp : ℕ) (ask : Ask) (moment : ℕ) → flags_on rec ask ≡ 0
    → arrival_rows rec limits rows stamp ask moment ≡ touched_rows limits rows (visit_of rec ask) (drawn stamp moment)
arrival_rows-served rec limits rows stamp ask moment none =
    let heard : is_ignored rec ask ≡ false = ap (λ flags. has_flag flags IGNORE) none in
    let touched : List Row = rows_touched rec limits rows (drawn stamp moment) ask in
    ap (λ (ignored : Bool). cond ignored rows (rows_at rec limits rows (drawn stamp moment) ask)) heard
    ∙ ap (λ (verdict : Verdict). rows_told verdict touched ask (drawn stamp moment)) (served rec (flags_on rec ask) (drawn stamp moment) ask (find_row touched ask.from.ip) none)

-- a sweep leaves rows of which there are not too many
swept_rows-all : (limits : Limits) (rows : List Row) (moment : ℕ) → length rows ≤ limits.mindepth → swept_rows limits rows moment ≡ rows
swept_rows-all limits [] moment few = refl
swept_rows-all limits (row ∷ rows) moment few =
    ap (λ (dropped : Bool). cond dropped (swept_rows limits rows moment) (row ∷ rows)) (and_left _ _ (le-ltb _ _ few))

-- an arrival is that of a client below a number
abbrev IsOpBelow : ℕ → Op → Type 0
IsOpBelow count (Arrive ask moment) = IsIpBelow count ask.from.ip
IsOpBelow count (Publish boxed) = Unit {0}
IsOpBelow count (Look asked context) = Unit {0}
IsOpBelow count (Read ask moment) = Unit {0}
IsOpBelow count (Sweep moment) = Unit {0}
IsOpBelow count (Stop stop) = Unit {0}

-- what rows are after an operation: as before, and with one of the client that arrived
record AreRowsAfter (count : ℕ) (rows : List Row) (op : Op) (left : List Row) : Type 0 where
  are : AreRowsBelow count left
  listed : (client : ℕ) → has_row left (client_ip client) ≡ (has_row rows (client_ip client) || is_arrival_of client op)

-- that is how each operation leaves a list with room for each client, where nobody is refused
AreRowsAfter-op : (count : ℕ) (s : ServerState) (op : Op) → s.limits.mindepth ≡ count → ((ip : Ip) → flags_of s.published.rules ip ≡ 0) → AreRowsBelow count s.rows → IsOpBelow count op
    → AreRowsAfter count s.rows op (rows_after s op)
AreRowsAfter-op count s (Arrive ask moment) depth none are below =
    let is = AreRowsWith-touched count s.limits s.rows (visit_of s.published ask) (drawn s.stamp moment) depth are below in
    let touched : AreRowsAfter count s.rows (Arrive ask moment) (touched_rows s.limits s.rows (visit_of s.published ask) (drawn s.stamp moment)) =
    record { are = is.are; listed = λ client. is.listed (client_ip client) }
    in
    subst (AreRowsAfter count s.rows (Arrive ask moment)) (sym (arrival_rows-served s.published s.limits s.rows s.stamp ask moment (none ask.from.ip))) touched
AreRowsAfter-op count s (Sweep moment) depth none are below =
    let few : length s.rows ≤ s.limits.mindepth = omega (arith, depth, length-rows-le count s.rows are) in
    let kept : AreRowsAfter count s.rows (Sweep moment) s.rows = record { are = are; listed = λ client. sym (or_false _) } in
    subst (AreRowsAfter count s.rows (Sweep moment)) (sym (swept_rows-all s.limits s.rows moment few)) kept
AreRowsAfter-op count s (Publish boxed) depth none are below = record { are = are; listed = λ client. sym (or_false _) }
AreRowsAfter-op count s (Look asked context) depth none are below = record { are = are; listed = λ client. sym (or_false _) }
AreRowsAfter-op count s (Read ask moment) depth none are below = record { are = are; listed = λ client. sym (or_false _) }
AreRowsAfter-op count s (Stop stop) depth none are below = record { are = are; listed = λ client. sym (or_false _) }

-- where a history refuses nobody, neither does what is left of it after its first operation
RefusesNobody-later : (s : ServerState) (op : Op) (ops : List Op) → RefusesNobody s (op ∷ ops) → RefusesNobody (state_after s op) ops
RefusesNobody-later s op ops nobody front (more, whole) = nobody (op ∷ front) (more, ap (λ (rest : List Op). op ∷ rest) whole)

-- after a history there are as many rows as clients that had one before it or arrive in it
length-rows_after : (count : ℕ) (s : ServerState) (history : List Op) → s.limits.mindepth ≡ count → AreRowsBelow count s.rows → RefusesNobody s history → AllByRecursion (IsOpBelow count) history
    → length (state_after_all s history).rows ≡ count_by (λ k. has_row s.rows (client_ip k) || arrives history k) (range_with_len 0 count)
length-rows_after count s [] depth are nobody below =
    length-rows count s.rows are.distinct are.each ∙ count_by-same _ _ (range_with_len 0 count) (λ k. sym (or_false (has_row s.rows (client_ip k))))
length-rows_after count s (op ∷ history) depth are nobody below =
    let after = AreRowsAfter-op count s op depth (nobody [] (op ∷ history, refl)) are below.0 in
    let same : (k : ℕ) → (has_row (rows_after s op) (client_ip k) || arrives history k) ≡ (has_row s.rows (client_ip k) || arrives (op ∷ history) k) = λ k.
    ap (λ b. b || arrives history k) (after.listed k) ∙ or_assoc (has_row s.rows (client_ip k)) (is_arrival_of k op) (arrives history k)
    in
    length-rows_after count (state_after s op) history depth after.are (RefusesNobody-later s op history nobody) below.1
    ∙ count_by-same _ _ (range_with_len 0 count) same

-- a client of the draws is one below their number
IsOpBelow-client : (op : Op) → IsOfClient op → IsOpBelow CLIENTS op
IsOpBelow-client (Arrive ask moment) (client, below, from) = (client, below, ap (λ (addr : Addr). addr.ip) from)
IsOpBelow-client (Publish boxed) any = tt
IsOpBelow-client (Look asked context) any = tt
IsOpBelow-client (Read ask moment) any = tt
IsOpBelow-client (Sweep moment) any = tt
IsOpBelow-client (Stop stop) any = tt

-- after a history from an empty list there are as many rows as clients that arrive in it
rows-counted_below : (count : ℕ) (opening : ServerState) (history : List Op) → opening.rows ≡ [] → opening.limits.mindepth ≡ count → RefusesNobody opening history → AllByRecursion (IsOpBelow count) history
    → length (state_after_all opening history).rows ≡ count_by (arrives history) (range_with_len 0 count)
rows-counted_below count opening history empty depth nobody below =
    let none : AreRowsBelow count [] = record { distinct = tt; each = tt } in
    length-rows_after count opening history depth (subst (AreRowsBelow count) (sym empty) none) nobody below
    ∙ count_by-same _ _ (range_with_len 0 count) (λ k. ap (λ (rows : List Row). has_row rows (client_ip k) || arrives history k) empty)

-- the client list at the end of a history has one row for each client that arrived
pub rows-counted : (opening : ServerState) (history : List Op) → opening.rows ≡ [] → opening.limits.mindepth ≡ CLIENTS
    → RefusesNobody opening history → AllByRecursion IsOfClient history
    → length (state_after_all opening history).rows ≡ count_by (arrives history) (range_with_len 0 CLIENTS)
rows-counted opening history empty depth nobody clients =
    rows-counted_below CLIENTS opening history empty depth nobody (AllByRecursion-weaker IsOfClient (IsOpBelow CLIENTS) IsOpBelow-client history clients)
