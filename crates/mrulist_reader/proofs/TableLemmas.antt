-- How the rows of a table follow from all that was told.
use Rattle.std.proofs.Common.{◌≡◌, Bool, true, false, cond, not, ◌||◌, if◌then◌else◌, List, [], ◌∷◌, ◌++◌, reverse, append_assoc, refl, sym, ap, ◌∙◌}
use Rattle.std.proofs.lemmas.List.{append-nil, reverse-append}
use Rattle.std.proofs.lemmas.List.Elements.{filter-append}
use Rattle.std.specs.List.{filter, list_any}
use Rattle.mru_items.specs.declared.shown.ShownRow.{ShownRow}
use Rattle.mrulist_reader.specs.Readers.{with_row, with_rows}
use Rattle.net_addr.specs.Addresses.{same_ip}
use Rattle.net_addr.specs.declared.addr.Ip.{Ip}
use Rattle.net_addr.proofs.AddressLemmas.{same_ip-eq}

-- rows are added one after another
pub with_rows-append : (rows told more : List ShownRow) → with_rows rows (told ++ more) ≡ with_rows (with_rows rows told) more
with_rows-append rows [] more = refl
with_rows-append rows (row ∷ told) more = with_rows-append (with_row rows row) told more

-- a row of this client was told
abbrev pub is_told : List ShownRow → Ip → Bool
is_told rows ip = list_any (λ one. same_ip ip one.addr.ip) rows

-- the last row of each client
abbrev pub lasting : List ShownRow → List ShownRow
lasting [] = []
lasting (row ∷ rows) = if is_told rows row.addr.ip then lasting rows else row ∷ lasting rows

-- all rows pass a test that always passes
filter-every : (rows : List ShownRow) → filter (λ row. true) rows ≡ rows
filter-every [] = refl
filter-every (row ∷ rows) = ap (λ (more : List ShownRow). row ∷ more) (filter-every rows)

-- one test after another, at one row
filter-both_step : (one two : Bool) (row : ShownRow) (kept passed : List ShownRow) (p : ShownRow → Bool) → p row ≡ not two → filter p passed ≡ kept → filter p (cond (not one) (row ∷ passed) passed) ≡ cond (not (one || two)) (row ∷ kept) kept
filter-both_step true two row kept passed p is rest = rest
filter-both_step false true row kept passed p is rest = rw is rest
filter-both_step false false row kept passed p is rest = rw is (ap (λ (more : List ShownRow). row ∷ more) rest)

-- rows of clients that are neither told once more, nor later
filter-both : (row : ShownRow) (rows acc : List ShownRow) → filter (λ one. not (is_told rows one.addr.ip)) (filter (λ one. not (same_ip one.addr.ip row.addr.ip)) acc) ≡ filter (λ one. not (is_told (row ∷ rows) one.addr.ip)) acc
filter-both row rows [] = refl
filter-both row rows (one ∷ acc) =
    filter-both_step (same_ip one.addr.ip row.addr.ip) (is_told rows one.addr.ip) one _ _ (λ other. not (is_told rows other.addr.ip)) refl (filter-both row rows acc)

-- a row stays unless its client is told later
lasting-step : (told : Bool) (row : ShownRow) (rest : List ShownRow) → cond (not told) (row ∷ []) [] ++ rest ≡ (if told then rest else row ∷ rest)
lasting-step true row rest = refl
lasting-step false row rest = refl

-- rows with others at their end: those of clients that are not told again, and the last one of each client that is
with_rows-lasting : (acc rows : List ShownRow) → with_rows acc rows ≡ filter (λ one. not (is_told rows one.addr.ip)) acc ++ lasting rows
with_rows-lasting acc [] = sym (append-nil _ ∙ filter-every acc)
with_rows-lasting acc (row ∷ rows) =
    with_rows-lasting (with_row acc row) rows
    ∙ ap (λ (front : List ShownRow). front ++ lasting rows) (filter-append (λ one. not (is_told rows one.addr.ip)) (filter (λ one. not (same_ip one.addr.ip row.addr.ip)) acc) (row ∷ []))
    ∙ append_assoc (filter (λ one. not (is_told rows one.addr.ip)) (filter (λ one. not (same_ip one.addr.ip row.addr.ip)) acc)) (filter (λ one. not (is_told rows one.addr.ip)) (row ∷ [])) (lasting rows)
    ∙ ap (λ (front : List ShownRow). front ++ (filter (λ one. not (is_told rows one.addr.ip)) (row ∷ []) ++ lasting rows)) (filter-both row rows acc)
    ∙ ap (λ (back : List ShownRow). filter (λ one. not (is_told (row ∷ rows) one.addr.ip)) acc ++ back) (lasting-step (is_told rows row.addr.ip) row (lasting rows))

-- the rows of a table are the last ones of each client
pub with_rows-are : (rows : List ShownRow) → with_rows [] rows ≡ lasting rows
with_rows-are rows = with_rows-lasting [] rows

-- a client that is told later is told
told-again : (same : Bool) (row : ShownRow) (rows : List ShownRow) (ip : Ip) → same_ip ip row.addr.ip ≡ same → true ≡ is_told rows row.addr.ip → is_told rows ip ≡ (same || is_told rows ip)
told-again true row rows ip is told = ap (is_told rows) (same_ip-eq ip row.addr.ip is) ∙ sym told
told-again false row rows ip is told = refl

-- the last rows are those of the same clients
is_told-lasting_step : (told : Bool) (row : ShownRow) (rows : List ShownRow) (ip : Ip) → told ≡ is_told rows row.addr.ip → is_told (lasting rows) ip ≡ is_told rows ip → is_told (if told then lasting rows else row ∷ lasting rows) ip ≡ is_told (row ∷ rows) ip
is_told-lasting_step true row rows ip told rest = rest ∙ told-again (same_ip ip row.addr.ip) row rows ip refl told
is_told-lasting_step false row rows ip told rest = ap (λ (more : Bool). same_ip ip row.addr.ip || more) rest

is_told-lasting : (rows : List ShownRow) (ip : Ip) → is_told (lasting rows) ip ≡ is_told rows ip
is_told-lasting [] ip = refl
is_told-lasting (row ∷ rows) ip = is_told-lasting_step (is_told rows row.addr.ip) row rows ip refl (is_told-lasting rows ip)

-- the last rows are their own last rows
lasting-again_step : (told : Bool) (row : ShownRow) (rows : List ShownRow) → told ≡ is_told rows row.addr.ip → lasting (lasting rows) ≡ lasting rows → lasting (if told then lasting rows else row ∷ lasting rows) ≡ (if told then lasting rows else row ∷ lasting rows)
lasting-again_step true row rows told rest = rest
lasting-again_step false row rows told rest = rw (is_told-lasting rows row.addr.ip, sym told) (ap (λ (more : List ShownRow). row ∷ more) rest)

lasting-again : (rows : List ShownRow) → lasting (lasting rows) ≡ lasting rows
lasting-again [] = refl
lasting-again (row ∷ rows) = lasting-again_step (is_told rows row.addr.ip) row rows refl (lasting-again rows)

-- a table of the rows of a table has these
pub with_rows-again : (rows : List ShownRow) → with_rows [] (with_rows [] rows) ≡ with_rows [] rows
with_rows-again rows =
    ap (with_rows []) (with_rows-are rows) ∙ with_rows-are (lasting rows) ∙ lasting-again rows ∙ sym (with_rows-are rows)

-- a row more is looked at, of those from the newest on
pub lasting-more : (is_known : Bool) (row : ShownRow) (told rows rows' : List ShownRow) → is_known ≡ is_told told row.addr.ip → reverse rows ≡ lasting told → rows' ≡ (if is_known then rows else rows ++ row ∷ []) → reverse rows' ≡ lasting (row ∷ told)
lasting-more true row told rows rows' known so_far is = rw (sym known) (ap reverse is ∙ so_far)
lasting-more false row told rows rows' known so_far is =
    rw (sym known) (ap reverse is ∙ reverse-append rows (row ∷ []) ∙ ap (λ (more : List ShownRow). row ∷ more) so_far)
