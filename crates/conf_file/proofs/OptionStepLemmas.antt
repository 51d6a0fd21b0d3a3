-- Options of a line, one after another: what is left is read as the whole is.
use Rattle.std.proofs.Common.{◌≡◌, ℕ, ◌+◌, ◌-◌, ◌^◌, ◌<◌, ◌≤◌, min, List, [], ◌∷◌, ◌++◌, length, Bool, true, false, cond, bytes_eq, Result, Ok, Err, Some, refl, sym, subst, arith}
use Rattle.std.proofs.lemmas.List.{append-nil}
use Rattle.text_words.specs.Numbers.{SpellsNumber}
use Rattle.conf_file.specs.OptionRules.{Given, OptionWords}
use Rattle.conf_file.specs.Options.{AreOnce, AreSound, AreSoundRules, IsOptionList, IsReadAs, IsSound, rule_of}
use Rattle.conf_file.specs.declared.options.Value.{Value}
use Rattle.conf_file.specs.declared.options.Value.TheVariants.{Number, Alone}
use Rattle.conf_file.proofs.OptionLemmas.{IsRest, IsRestBehind, alone_leads, ended_rest, first_rest, leads_alone, name_leads, number_leads, rest_ends, rest_first}
use Rattle.conf_file.proofs.ReadingLemmas.{read_end, read_found, read_next, read_same}

-- the words that are left after some options are read as all words are
abbrev pub IsReadTo : ℕ → List OptionWords → ℕ → List (List ℕ) → ℕ → List Given → List (List ℕ) → Type 0
IsReadTo fewest rules first all number before words =
    (result : Result (List Given) ℕ) → IsReadAs number (IsRest fewest rules before) words result → IsReadAs first (IsOptionList fewest rules) all result

pub read_first : (fewest : ℕ) (rules : List OptionWords) (first : ℕ) (all : List (List ℕ)) → IsReadTo fewest rules first all first [] all
read_first fewest rules first all result read = read_same (IsOptionList fewest rules) (IsRest fewest rules []) first all result (first_rest fewest rules) (rest_first fewest rules) read

-- so are the words after a name that has a rule
pub read_behind : (fewest : ℕ) (rules : List OptionWords) (first number more : ℕ) (all words behind : List (List ℕ)) (before : List Given) (name : List ℕ) (value : Value) (rule : OptionWords)
    → IsReadTo fewest rules first all number before words → words ≡ name ∷ behind → rule_of rules name ≡ Some rule → rule.value ≡ value → more ≡ min (number + 1) (2 ^ 32 - 1) → number < 2 ^ 32
    → (result : Result (List Given) ℕ) → IsReadAs more (IsRestBehind fewest rules before name value) behind result → IsReadAs first (IsOptionList fewest rules) all result
read_behind fewest rules first number more all words behind before name value rule read cut known is one low result here =
    let P : Value → Type 0 = λ v. IsReadAs more (IsRestBehind fewest rules before name v) behind result in
    read result (read_next (IsRest fewest rules before) (IsRestBehind fewest rules before name rule.value) number more words name behind result cut (name_leads fewest rules before name rule known) one low
    (subst P (sym is) here))

-- after a name alone
pub alone_step : (fewest : ℕ) (rules : List OptionWords) (first number more : ℕ) (all words behind : List (List ℕ)) (before : List Given) (name : List ℕ) (own : ℕ) (rule : OptionWords)
    → IsReadTo fewest rules first all number before words → words ≡ name ∷ behind → rule_of rules name ≡ Some rule → rule.value ≡ Alone own → more ≡ min (number + 1) (2 ^ 32 - 1) → number < 2 ^ 32
    → IsReadTo fewest rules first all more (before ++ record { name = name; number = own } ∷ []) behind
alone_step fewest rules first number more all words behind before name own rule read cut known is one low result here =
    read_behind fewest rules first number more all words behind before name (Alone own) rule read cut known is one low result
    (read_same (IsRestBehind fewest rules before name (Alone own)) (IsRest fewest rules (before ++ record { name = name; number = own } ∷ [])) more behind result
    (alone_leads fewest rules before name own) (leads_alone fewest rules before name own) here)

-- after a name and its number
pub number_step : (fewest : ℕ) (rules : List OptionWords) (first number more last : ℕ) (all words behind rest : List (List ℕ)) (before : List Given) (name word : List ℕ) (least most own : ℕ) (rule : OptionWords)
    → IsReadTo fewest rules first all number before words → words ≡ name ∷ behind → rule_of rules name ≡ Some rule → rule.value ≡ Number least most → more ≡ min (number + 1) (2 ^ 32 - 1) → number < 2 ^ 32
    → behind ≡ word ∷ rest → SpellsNumber least most word own → most < 2 ^ 32 → last ≡ min (more + 1) (2 ^ 32 - 1)
    → IsReadTo fewest rules first all last (before ++ record { name = name; number = own } ∷ []) rest
number_step fewest rules first number more last all words behind rest before name word least most own rule read cut known is one low next spells fits two result here =
    read_behind fewest rules first number more all words behind before name (Number least most) rule read cut known is one low result
    (read_next (IsRestBehind fewest rules before name (Number least most)) (IsRest fewest rules (before ++ record { name = name; number = own } ∷ [])) more last behind word rest result next
    (number_leads fewest rules before name least most word own fits spells) two (omega (arith, one)) here)

same_rule : (one other : OptionWords) → Some one ≡ Some other → one ≡ other
same_rule one other same = cc

-- the rule of a name is sound
pub rule_sound : (rules : List OptionWords) (name : List ℕ) (rule : OptionWords) → AreSoundRules rules → rule_of rules name ≡ Some rule → IsSound rule.value
rule_sound [] name rule sound known = cc
rule_sound (first ∷ rules) name rule sound known = by (bytes_eq name first.name) refl (rule_sound rules name rule sound.1)
  where
    by : (b : Bool) → bytes_eq name first.name ≡ b → (rule_of rules name ≡ Some rule → IsSound rule.value) → IsSound rule.value
    by true is others =
        let P : Bool → Type 0 = λ b. cond b (Some first) (rule_of rules name) ≡ Some rule in
        let Q : OptionWords → Type 0 = λ r. IsSound r.value in
        subst Q (same_rule first rule (subst P is known)) sound.0
    by false is others =
        let P : Bool → Type 0 = λ b. cond b (Some first) (rule_of rules name) ≡ Some rule in
        others (subst P is known)

-- where words end that may, they are the options so far
pub read_ended : (fewest : ℕ) (rules : List OptionWords) (number : ℕ) (before : List Given) (words : List (List ℕ)) → words ≡ [] → AreOnce before → fewest ≤ length before
    → IsReadAs number (IsRest fewest rules before) words (Ok before)
read_ended fewest rules number before words ended once enough =
    let P : List (List ℕ) → Type 0 = λ ws. IsReadAs number (IsRest fewest rules before) ws (Ok before) in
    let here : IsRest fewest rules before [] before = record { more = []; options = refl; whole = sym (append-nil before); once = once; enough = enough } in
    subst P (sym ended) (read_found (IsRest fewest rules before) number [] before here (ended_rest fewest rules before))

-- and where they may not, they are refused
pub read_few : (fewest : ℕ) (rules : List OptionWords) (number : ℕ) (before : List Given) (words : List (List ℕ)) → words ≡ [] → length before < fewest → fewest ≤ 1 → AreSound fewest rules → AreOnce before
    → number < 2 ^ 32 → IsReadAs number (IsRest fewest rules before) words (Err number)
read_few fewest rules number before words ended less few sound once low =
    read_end (IsRest fewest rules before) number words ended (λ given rest. too_few given rest (ended_rest fewest rules before given rest)) (rest_ends fewest rules before few sound once) low
  where
    too_few : (given : List Given) → IsRest fewest rules before [] given → given ≡ before → ⊥
    too_few given rest same =
        let P : List Given → Type 0 = λ g. fewest ≤ length g in
        let enough : fewest ≤ length before = subst P same rest.enough in
        absurd (omega (arith, enough, less))
