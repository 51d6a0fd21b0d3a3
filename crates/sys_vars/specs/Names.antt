-- The names of the variables and their numbers (RFC 9327, section 4; the numbers are our own rule).
use Rattle.std.specs.Prelude.{ℕ, ◌==◌, if◌then◌else◌, Option, List, [], ◌∷◌, codes, map, slice_get}
use denote.Ref.{Bor}

-- the names of the system variables, in the order of their numbers, which begin at 0
unfoldable pub system_names : List (List ℕ)
system_names =
    codes "version" ∷ codes "leap" ∷ codes "stratum" ∷ codes "precision"
    ∷ codes "rootdelay" ∷ codes "rootdisp" ∷ codes "refid" ∷ codes "reftime"
    ∷ codes "peer" ∷ codes "tc" ∷ codes "mintc" ∷ codes "offset"
    ∷ codes "frequency" ∷ codes "sys_jitter" ∷ codes "state" ∷ codes "epoch" ∷ []

-- the names of the variables of a peer, in the order of their numbers, which begin at 0
unfoldable pub peer_names : List (List ℕ)
peer_names =
    codes "srcadr" ∷ codes "srcport" ∷ codes "hmode" ∷ codes "pmode"
    ∷ codes "hpoll" ∷ codes "ppoll" ∷ codes "leap" ∷ codes "stratum"
    ∷ codes "precision" ∷ codes "rootdelay" ∷ codes "rootdisp" ∷ codes "refid"
    ∷ codes "reftime" ∷ codes "rec" ∷ codes "reach" ∷ codes "keyid"
    ∷ codes "offset" ∷ codes "delay" ∷ codes "dispersion" ∷ codes "jitter"
    ∷ codes "filtdelay" ∷ codes "filtoffset" ∷ codes "filtdisp" ∷ []

-- the names of the variables of an association: 0 is the system, any other a peer
abbrev pub names_of : ℕ → List (List ℕ)
names_of assoc = if assoc == 0 then system_names else peer_names

-- the name of the variable of an association that has this number
abbrev pub name_of : ℕ → ℕ → Option (List ℕ)
name_of assoc number = slice_get (names_of assoc) number

-- the octets of texts
abbrev pub texts_of : List (Bor (List ℕ)) → List (List ℕ)
texts_of texts = map (λ text. text.now) texts
