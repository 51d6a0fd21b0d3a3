-- Options of a line: what stands behind some of them.
use Rattle.std.proofs.Common.{◌≡◌, ◌≢◌, ℕ, suc, ◌^◌, ◌<◌, ◌≤◌, Bool, true, false, cond, ◌||◌, List, [], ◌∷◌, ◌++◌, length, length-append, append_assoc, Option, Some, None, IsSome, decimal, bytes_eq, refl, sym, ap, subst, ◌∙◌, arith}
use Rattle.std.specs.List.{list_any}
use Rattle.std.proofs.lemmas.Fmt.{decimal_injective}
use Rattle.std.proofs.lemmas.List.{append-nil}
use Rattle.std.proofs.lemmas.Slice.Eq.{bytes_eq-Decides}
use Rattle.refusals.specs.Refusals.{GoesOn}
use Rattle.text_words.specs.Numbers.{SpellsNumber}
use Rattle.conf_file.specs.OptionRules.{Given, OptionWords}
use Rattle.conf_file.specs.Options.{AreOnce, AreOptions, AreSound, IsBehind, IsNew, IsOptionList, rule_of}
use Rattle.conf_file.specs.declared.options.Value.{Value}
use Rattle.conf_file.specs.declared.options.Value.TheVariants.{Number, Alone}
use Rattle.conf_file.proofs.RefusedLemmas.{LeadsTo}

-- what is left after some options: more of them, which make the whole list with them
pub record IsRest (fewest : ℕ) (rules : List OptionWords) (before : List Given) (words : List (List ℕ)) (given : List Given) : Type 0 where
  pub more : List Given
  pub options : AreOptions rules words more
  pub whole : given ≡ before ++ more
  pub once : AreOnce given
  pub enough : fewest ≤ length given

-- what is left after the name of one more
pub record IsRestBehind (fewest : ℕ) (rules : List OptionWords) (before : List Given) (name : List ℕ) (value : Value) (words : List (List ℕ)) (given : List Given) : Type 0 where
  pub number : ℕ
  pub rest : List (List ℕ)
  pub more : List Given
  pub behind : IsBehind value words number rest
  pub options : AreOptions rules rest more
  pub whole : given ≡ before ++ record { name = name; number = number } ∷ more
  pub once : AreOnce given
  pub enough : fewest ≤ length given

-- at first all is left
pub rest_first : (fewest : ℕ) (rules : List OptionWords) (words : List (List ℕ)) (given : List Given) → IsRest fewest rules [] words given → IsOptionList fewest rules words given
rest_first fewest rules words given rest =
    let P : List Given → Type 0 = λ g. AreOptions rules words g in
    record { options = subst P (sym rest.whole) rest.options; once = rest.once; enough = rest.enough }

pub first_rest : (fewest : ℕ) (rules : List OptionWords) (words : List (List ℕ)) (given : List Given) → IsOptionList fewest rules words given → IsRest fewest rules [] words given
first_rest fewest rules words given is = record { more = given; options = is.options; whole = refl; once = is.once; enough = is.enough }

same_head : {X : Type 0} (x y : X) (xs ys : List X) → x ∷ xs ≡ y ∷ ys → x ≡ y
same_head x y xs ys same = cc

same_tail : {X : Type 0} (x y : X) (xs ys : List X) → x ∷ xs ≡ y ∷ ys → xs ≡ ys
same_tail x y xs ys same = cc

no_words : (word : List ℕ) (words : List (List ℕ)) → word ∷ words ≡ [] → ⊥
no_words word words same = cc

one_rule : (o : Option OptionWords) (x y : OptionWords) → o ≡ Some x → o ≡ Some y → x ≡ y
one_rule o x y first second = cc

-- more options that begin with a name
abbrev begun : (fewest : ℕ) (rules : List OptionWords) (before : List Given) (name : List ℕ) (words : List (List ℕ)) (given more : List Given) → AreOptions rules (name ∷ words) more → given ≡ before ++ more
    → (number : ℕ) (rule : OptionWords) (rest : List (List ℕ)) (others : List Given) → Type 0
begun fewest rules before name words given more are whole number rule rest others =
    (rule_of rules name ≡ Some rule) × IsBehind rule.value words number rest × AreOptions rules rest others × (given ≡ before ++ record { name = name; number = number } ∷ others)

begin : (fewest : ℕ) (rules : List OptionWords) (before : List Given) (name : List ℕ) (words : List (List ℕ)) (given more : List Given) (are : AreOptions rules (name ∷ words) more) (whole : given ≡ before ++ more)
    → (number : ℕ) × (rule : OptionWords) × (rest : List (List ℕ)) × (others : List Given) × begun fewest rules before name words given more are whole number rule rest others
begin fewest rules before name words given [] none whole = absurd (no_words name words none)
begin fewest rules before name words given (option ∷ others) (rule, behind, rest, known, cut, is, are) whole =
    let named : name ≡ option.name = same_head name option.name words behind cut in
    let P : List ℕ → Type 0 = λ n. rule_of rules n ≡ Some rule in
    let Q : List (List ℕ) → Type 0 = λ ws. IsBehind rule.value ws option.number rest in (
      option.number,
      rule,
      rest,
      others,
      (
        subst P (sym named) known,
        subst Q (sym (same_tail name option.name words behind cut)) is,
        are,
        whole ∙ ap (λ n. before ++ record { name = n; number = option.number } ∷ others) (sym named),
      ),
    )

-- a name that has a rule leads to its number
pub name_leads : (fewest : ℕ) (rules : List OptionWords) (before : List Given) (name : List ℕ) (rule : OptionWords) → rule_of rules name ≡ Some rule
    → LeadsTo (IsRest fewest rules before) name (IsRestBehind fewest rules before name rule.value)
name_leads fewest rules before name rule known = record {
  onward = onward;
  back = λ words given rest. record {
    more = record { name = name; number = rest.number } ∷ rest.more;
    options = (rule, words, rest.rest, known, refl, rest.behind, rest.options);
    whole = rest.whole;
    once = rest.once;
    enough = rest.enough;
  };
}
  where
    onward : (words : List (List ℕ)) (given : List Given) → IsRest fewest rules before (name ∷ words) given → IsRestBehind fewest rules before name rule.value words given
    onward words given rest =
        let (number, also, behind, others, (found, is, are, whole)) = begin fewest rules before name words given rest.more rest.options rest.whole in
        let P : OptionWords → Type 0 = λ r. IsBehind r.value words number behind in
        record { number = number; rest = behind; more = others; behind = subst P (one_rule (rule_of rules name) also rule found known) is; options = are; whole = whole; once = rest.once; enough = rest.enough }

-- a name without a rule leads nowhere
pub no_rule : (fewest : ℕ) (rules : List OptionWords) (before : List Given) (name : List ℕ) → rule_of rules name ≡ None → (words : List (List ℕ)) (given : List Given)
    → ¬ IsRest fewest rules before (name ∷ words) given
no_rule fewest rules before name unknown words given rest =
    let (number, rule, behind, others, (found, is, are, whole)) = begin fewest rules before name words given rest.more rest.options rest.whole in
    cc

-- a name alone leads to what is left after one more option
pub alone_leads : (fewest : ℕ) (rules : List OptionWords) (before : List Given) (name : List ℕ) (own : ℕ) (words : List (List ℕ)) (given : List Given)
    → IsRestBehind fewest rules before name (Alone own) words given → IsRest fewest rules (before ++ record { name = name; number = own } ∷ []) words given
alone_leads fewest rules before name own words given rest =
    let P : List (List ℕ) → Type 0 = λ ws. AreOptions rules ws rest.more in
    let same : rest.number ≡ own = rest.behind.1 in
    record {
      more = rest.more;
      options = subst P (sym rest.behind.0) rest.options;
      whole = rest.whole ∙ ap (λ n. before ++ record { name = name; number = n } ∷ rest.more) same ∙ sym (append_assoc before (record { name = name; number = own } ∷ []) rest.more);
      once = rest.once;
      enough = rest.enough;
    }

pub leads_alone : (fewest : ℕ) (rules : List OptionWords) (before : List Given) (name : List ℕ) (own : ℕ) (words : List (List ℕ)) (given : List Given)
    → IsRest fewest rules (before ++ record { name = name; number = own } ∷ []) words given → IsRestBehind fewest rules before name (Alone own) words given
leads_alone fewest rules before name own words given rest = record {
  number = own;
  rest = words;
  more = rest.more;
  behind = (refl, refl);
  options = rest.options;
  whole = rest.whole ∙ append_assoc before (record { name = name; number = own } ∷ []) rest.more;
  once = rest.once;
  enough = rest.enough;
}

one_number : (least most : ℕ) (word : List ℕ) (m n : ℕ) → most < 2 ^ 32 → SpellsNumber least most word m → SpellsNumber least most word n → m ≡ n
one_number least most word m n low (spelled, a, b) (also, c, d) = decimal_injective m n (omega (arith, b)) (omega (arith, d)) (sym spelled ∙ also)

-- so does a number within its bounds
pub number_leads : (fewest : ℕ) (rules : List OptionWords) (before : List Given) (name : List ℕ) (least most : ℕ) (word : List ℕ) (number : ℕ) → most < 2 ^ 32 → SpellsNumber least most word number
    → LeadsTo (IsRestBehind fewest rules before name (Number least most)) word (IsRest fewest rules (before ++ record { name = name; number = number } ∷ []))
number_leads fewest rules before name least most word number low spells = record {
  onward = λ words given rest. (
      let (also, cut, spelled) = rest.behind in
      let Q : List ℕ → Type 0 = λ w. SpellsNumber least most w rest.number in
      let same : rest.number ≡ number = one_number least most word rest.number number low (subst Q (sym (same_head word also words rest.rest cut)) spelled) spells in
      let P : List (List ℕ) → Type 0 = λ ws. AreOptions rules ws rest.more in
      record {
        more = rest.more;
        options = subst P (sym (same_tail word also words rest.rest cut)) rest.options;
        whole = rest.whole ∙ ap (λ n. before ++ record { name = name; number = n } ∷ rest.more) same ∙ sym (append_assoc before (record { name = name; number = number } ∷ []) rest.more);
        once = rest.once;
        enough = rest.enough;
      });
  back = λ words given rest. record {
    number = number;
    rest = words;
    more = rest.more;
    behind = (word, refl, spells);
    options = rest.options;
    whole = rest.whole ∙ append_assoc before (record { name = name; number = number } ∷ []) rest.more;
    once = rest.once;
    enough = rest.enough;
  };
}

-- and another word leads nowhere
pub no_number : (fewest : ℕ) (rules : List OptionWords) (before : List Given) (name : List ℕ) (least most : ℕ) (word : List ℕ) → ((n : ℕ) → ¬ SpellsNumber least most word n)
    → (words : List (List ℕ)) (given : List Given) → ¬ IsRestBehind fewest rules before name (Number least most) (word ∷ words) given
no_number fewest rules before name least most word none words given rest =
    let (also, cut, spelled) = rest.behind in
    let Q : List ℕ → Type 0 = λ w. SpellsNumber least most w rest.number in
    none rest.number (subst Q (sym (same_head word also words rest.rest cut)) spelled)

pub no_number_left : (fewest : ℕ) (rules : List OptionWords) (before : List Given) (name : List ℕ) (least most : ℕ) (given : List Given) → ¬ IsRestBehind fewest rules before name (Number least most) [] given
no_number_left fewest rules before name least most given rest =
    let (also, cut, spelled) = rest.behind in
    no_words also rest.rest (sym cut)

-- a name is new where no option has it
pub has_new : (name : List ℕ) (given : List Given) → list_any (λ (option : Given). bytes_eq name option.name) given ≡ false → IsNew name given
has_new name [] none = tt
has_new name (option ∷ others) none =
    let p : Given → Bool = λ (o : Given). bytes_eq name o.name in
    (λ same. both (bytes_eq name option.name) (list_any p others) ((bytes_eq-Decides name option.name).1 same) none, has_new name others (rest (bytes_eq name option.name) (list_any p others) none))
  where
    both : (a b : Bool) → a ≡ true → (a || b) ≡ false → ⊥
    both a b is none = cc

    rest : (a b : Bool) → (a || b) ≡ false → b ≡ false
    rest true b none = cc
    rest false b none = none

-- and stands twice where one has it
pub not_twice : (name : List ℕ) (before more : List Given) (number : ℕ) → list_any (λ (option : Given). bytes_eq name option.name) before ≡ true
    → ¬ AreOnce (before ++ record { name = name; number = number } ∷ more)
not_twice name [] more number has once = cc
not_twice name (option ∷ before) more number has once =
    by (bytes_eq name option.name) refl (λ others. not_twice name before more number others once.1)
  where
    last_new : (xs : List Given) → IsNew option.name (xs ++ record { name = name; number = number } ∷ more) → option.name ≢ name
    last_new [] new = new.0
    last_new (x ∷ xs) new = last_new xs new.1

    rest : (a b : Bool) → a ≡ false → (a || b) ≡ true → b ≡ true
    rest a b is has = cc

    by : (b : Bool) → bytes_eq name option.name ≡ b → (list_any (λ (o : Given). bytes_eq name o.name) before ≡ true → ⊥) → ⊥
    by true is others = last_new before once.0 (sym ((bytes_eq-Decides name option.name).0 is))
    by false is others = others (rest (bytes_eq name option.name) (list_any (λ (o : Given). bytes_eq name o.name) before) is has)

-- a name that stands already leads nowhere
pub no_second : (fewest : ℕ) (rules : List OptionWords) (before : List Given) (name : List ℕ) → list_any (λ (option : Given). bytes_eq name option.name) before ≡ true → (words : List (List ℕ)) (given : List Given)
    → ¬ IsRest fewest rules before (name ∷ words) given
no_second fewest rules before name has words given rest =
    let (number, rule, behind, others, (found, is, are, whole)) = begin fewest rules before name words given rest.more rest.options rest.whole in
    let P : List Given → Type 0 = AreOnce in
    not_twice name before others number has (subst P whole rest.once)

-- options with one more whose name is new
pub once_more : (before : List Given) (name : List ℕ) (number : ℕ) → AreOnce before → IsNew name before → AreOnce (before ++ record { name = name; number = number } ∷ [])
once_more [] name number once new = (tt, tt)
once_more (option ∷ before) name number once new = (new_more before once.0, once_more before name number once.1 new.1)
  where
    new_more : (xs : List Given) → IsNew option.name xs → IsNew option.name (xs ++ record { name = name; number = number } ∷ [])
    new_more [] none = (λ same. new.0 (sym same), tt)
    new_more (x ∷ xs) is = (is.0, new_more xs is.1)

-- from each state some words lead to an end
pub rest_ends : (fewest : ℕ) (rules : List OptionWords) (before : List Given) → fewest ≤ 1 → AreSound fewest rules → AreOnce before → GoesOn (IsRest fewest rules before) []
rest_ends fewest rules [] few sound once =
    let (words, given, is) = sound.some in
    (words, given, first_rest fewest rules words given is)
rest_ends fewest rules (option ∷ before) few sound once =
    ([], option ∷ before, record { more = []; options = refl; whole = sym (append-nil (option ∷ before)); once = once; enough = omega (arith, few) })

pub behind_ends : (fewest : ℕ) (rules : List OptionWords) (before : List Given) (name : List ℕ) (least most : ℕ) → fewest ≤ 1 → least ≤ most → AreOnce before → IsNew name before
    → GoesOn (IsRestBehind fewest rules before name (Number least most)) []
behind_ends fewest rules before name least most few sound once new = (
  decimal least ∷ [],
  before ++ record { name = name; number = least } ∷ [],
  record {
    number = least;
    rest = [];
    more = [];
    behind = (decimal least, refl, (refl, omega arith, sound));
    options = refl;
    whole = refl;
    once = once_more before name least once new;
    enough = omega (arith, few, length-append before (record { name = name; number = least } ∷ []));
  },
)

-- what is left at the end is nothing
pub ended_rest : (fewest : ℕ) (rules : List OptionWords) (before given : List Given) → IsRest fewest rules before [] given → given ≡ before
ended_rest fewest rules before given rest = by rest.more rest.options rest.whole
  where
    by : (more : List Given) → AreOptions rules [] more → given ≡ before ++ more → given ≡ before
    by [] none whole = whole ∙ append-nil before
    by (option ∷ others) (rule, behind, left, known, cut, is, are) whole = absurd (no_words option.name behind (sym cut))

-- the options of a table that stand once are no more than its rules
abbrev pub AreKnown : List OptionWords → List Given → Type 0
AreKnown rules [] = Unit {0}
AreKnown rules (option ∷ others) = IsSome (rule_of rules option.name) × AreKnown rules others

pub known_more : (rules : List OptionWords) (before : List Given) (name : List ℕ) (number : ℕ) → AreKnown rules before → IsSome (rule_of rules name) → AreKnown rules (before ++ record { name = name; number = number } ∷ [])
known_more rules [] name number known is = (is, tt)
known_more rules (option ∷ before) name number known is = (known.0, known_more rules before name number known.1 is)

-- the table without the first rule of a name
abbrev without : List ℕ → List OptionWords → List OptionWords
without name [] = []
without name (rule ∷ rules) = cond (bytes_eq name rule.name) rules (rule ∷ without name rules)

without-shorter : (name : List ℕ) (rules : List OptionWords) → IsSome (rule_of rules name) → length rules ≡ suc (length (without name rules))
without-shorter name [] is = cc
without-shorter name (rule ∷ rules) is = by (bytes_eq name rule.name) refl (without-shorter name rules)
  where
    by : (b : Bool) → bytes_eq name rule.name ≡ b → (IsSome (rule_of rules name) → length rules ≡ suc (length (without name rules)))
        → length (rule ∷ rules) ≡ suc (length (cond (bytes_eq name rule.name) rules (rule ∷ without name rules)))
    by true same others = rw same refl
    by false other others =
        let P : Bool → Type 0 = λ b. IsSome (cond b (Some rule) (rule_of rules name)) in
        rw other (ap suc (others (subst P other is)))

without-known : (name other : List ℕ) (rules : List OptionWords) → name ≢ other → IsSome (rule_of rules other) → IsSome (rule_of (without name rules) other)
without-known name other [] unlike is = is
without-known name other (rule ∷ rules) unlike is = by (bytes_eq name rule.name) (bytes_eq other rule.name) refl refl (without-known name other rules unlike)
  where
    by : (a b : Bool) → bytes_eq name rule.name ≡ a → bytes_eq other rule.name ≡ b → (IsSome (rule_of rules other) → IsSome (rule_of (without name rules) other))
        → IsSome (rule_of (cond (bytes_eq name rule.name) rules (rule ∷ without name rules)) other)
    by true true same also others = absurd (unlike ((bytes_eq-Decides name rule.name).0 same ∙ sym ((bytes_eq-Decides other rule.name).0 also)))
    by true false same also others =
        let P : Bool → Type 0 = λ b. IsSome (cond b (Some rule) (rule_of rules other)) in
        rw same (subst P also is)
    by false true same also others = rw (same, also) refl
    by false false same also others =
        let P : Bool → Type 0 = λ b. IsSome (cond b (Some rule) (rule_of rules other)) in
        rw (same, also) (others (subst P also is))

all_without : (rules : List OptionWords) (name : List ℕ) (given : List Given) → IsNew name given → AreKnown rules given → AreKnown (without name rules) given
all_without rules name [] new known = tt
all_without rules name (option ∷ others) new known = (without-known name option.name rules new.0 known.0, all_without rules name others new.1 known.1)

pub given_fit : (rules : List OptionWords) (given : List Given) → AreOnce given → AreKnown rules given → length given ≤ length rules
given_fit rules [] once known = omega arith
given_fit rules (option ∷ others) once known =
    omega (arith, without-shorter option.name rules known.0, given_fit (without option.name rules) others once.1 (all_without rules option.name others once.0 known.1))

-- so there is room for one more
pub room_for : (rules : List OptionWords) (given : List Given) (name : List ℕ) (rule : OptionWords) → AreOnce given → AreKnown rules given → IsNew name given → rule_of rules name ≡ Some rule → length given < length rules
room_for rules given name rule once known new found =
    let P : Option OptionWords → Type 0 = λ o. IsSome o in
    let is : IsSome (rule_of rules name) = subst P (sym found) refl in
    omega (
      arith,
      given_fit rules (given ++ record { name = name; number = 0 } ∷ []) (once_more given name 0 once new) (known_more rules given name 0 known is),
      length-append given (record { name = name; number = 0 } ∷ []),
    )

-- the state after one more option
pub known_next : (rules : List OptionWords) (given : List Given) (name : List ℕ) (number : ℕ) (rule : OptionWords) → AreKnown rules given → rule_of rules name ≡ Some rule
    → AreKnown rules (given ++ record { name = name; number = number } ∷ [])
known_next rules given name number rule known found =
    let P : Option OptionWords → Type 0 = λ o. IsSome o in
    known_more rules given name number known (subst P (sym found) refl)

-- the rule of a name has it
pub rule_named : (rules : List OptionWords) (name : List ℕ) (rule : OptionWords) → rule_of rules name ≡ Some rule → rule.name ≡ name
rule_named [] name rule found = cc
rule_named (first ∷ rules) name rule found = by (bytes_eq name first.name) refl (rule_named rules name rule)
  where
    one : (x y : OptionWords) → Some x ≡ Some y → x ≡ y
    one x y same = cc

    by : (b : Bool) → bytes_eq name first.name ≡ b → (rule_of rules name ≡ Some rule → rule.name ≡ name) → rule.name ≡ name
    by true is others =
        let P : Bool → Type 0 = λ b. cond b (Some first) (rule_of rules name) ≡ Some rule in
        sym (ap (λ (r : OptionWords). r.name) (one first rule (subst P is found))) ∙ sym ((bytes_eq-Decides name first.name).0 is)
    by false is others =
        let P : Bool → Type 0 = λ b. cond b (Some first) (rule_of rules name) ≡ Some rule in
        others (subst P is found)
