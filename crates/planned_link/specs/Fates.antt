-- What becomes of the datagrams of answers, as a plan says: our own words.
use Rattle.std.specs.Prelude.{List, [], ◌∷◌, ◌++◌, drop}
use Rattle.planned_link.specs.declared.deed.Deed.{Deed}
use Rattle.planned_link.specs.declared.fate.Fate.{Fate}
use Rattle.planned_link.specs.declared.fate.Fate.TheVariants.{Lost, Twice, Front, Last}
use Rattle.planned_link.specs.declared.queued.Queued.{Queued}

-- the deed of a give where these are left; beyond them the request is served once, and its answer queued at the end
abbrev pub first_deed : List Deed → Deed
first_deed [] = record { ops = []; served = 1; fates = [] }
first_deed (deed ∷ deeds) = deed

-- the fate of a datagram where these are left; beyond them it is queued at the end
abbrev pub first_fate : List Fate → Fate
first_fate [] = Last
first_fate (fate ∷ fates) = fate

-- a queue after a datagram had its fate
abbrev pub placed : Fate → Queued → List Queued → List Queued
placed Lost gram queue = queue
placed Twice gram queue = queue ++ gram ∷ gram ∷ []
placed Front gram queue = gram ∷ queue
placed Last gram queue = queue ++ gram ∷ []

-- a queue after these datagrams had these fates, one after another
abbrev pub fated : List Fate → List Queued → List Queued → List Queued
fated fates [] queue = queue
fated fates (gram ∷ grams) queue = fated (drop 1 fates) grams (placed (first_fate fates) gram queue)
