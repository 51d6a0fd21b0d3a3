-- Tables of keys, ascending by id: our own words.
use Rattle.std.specs.Prelude.{ℕ, ◌<◌, ◌≤◌, ◌==◌, nat_lt, List, length, Option, find, insert}
use Rattle.std.specs.List.{AllPairs, prefix_len}
use Rattle.mac_keys.specs.declared.keys.Key.{Key}
use Rattle.mac_keys.specs.declared.tables.TheConstants.{MAX_KEYS}

-- the keys of a table: not too many, each id below those after it
pub record IsKeyTable (keys : List Key) : Type 0 where
  pub room : length keys ≤ MAX_KEYS
  pub ascending : AllPairs (λ (a : Key) (b : Key). a.id < b.id) keys

-- the key with this id, if there is one
abbrev pub key_of : List Key → ℕ → Option Key
key_of keys id = find (λ key. key.id == id) keys

-- how many keys a table begins with whose ids are lower
abbrev pub place_of : List Key → ℕ → ℕ
place_of keys id = prefix_len (λ key. nat_lt key.id id) keys

-- the table with one more key, which stands before the first key of a higher id
abbrev pub with_key : List Key → Key → List Key
with_key keys key = insert keys (place_of keys key.id) key
