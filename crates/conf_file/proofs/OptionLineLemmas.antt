-- Lines of options: what is made of those that are given, and tables that are sound.
use Rattle.std.proofs.Common.{◌≡◌, ℕ, ◌^◌, ◌<◌, ◌≤◌, List, [], ◌∷◌, Bool, true, false, cond, bytes_eq, bit_or, find, fold, map, take, drop, Option, Some, None, Result, Ok, Err, codes, decimal, refl, sym, ap, subst, ◌∙◌, lit≤, lit<, arith}
use Rattle.std.specs.Option.{option_map, unwrap_or}
use Rattle.std.proofs.lemmas.Nat.{or_lt}
use Rattle.std.proofs.lemmas.Slice.Eq.{bytes_eq-Decides}
use Rattle.refusals.specs.Refusals.{Stops, IsRefusedAt}
use Rattle.conf_file.specs.declared.lines.Line.{Line}
use Rattle.conf_file.specs.declared.options.Value.{Value}
use Rattle.conf_file.specs.declared.options.Value.TheVariants.{Alone, Number}
use Rattle.conf_file.specs.OptionRules.{Given, OptionWords}
use Rattle.conf_file.specs.Options.{AreOptions, AreSound, IsBehind, IsGivenBy, IsOptionList, IsReadAs, number_of, rule_of}
use Rattle.conf_file.specs.OptionLines.{IsOptionLine, limit_rules, mru_rules, server_rules}
use Rattle.conf_file.specs.RestrictOptions.{flag_rules, flags_of}
use Rattle.conf_file.proofs.ReadingLemmas.{read_refused}

same_given : (one other : List Given) → ◌≡◌ {A = Result (List Given) ℕ} (Ok one) (Ok other) → one ≡ other
same_given one other same = cc

-- a line of options that are given
pub line_given : (fewest : ℕ) (rules : List OptionWords) (made : List Given → Line) (number : ℕ) (words : List (List ℕ)) (given : List Given) (line : Line)
    → IsReadAs number (IsOptionList fewest rules) words (Ok given) → line ≡ made given → IsReadAs number (IsOptionLine fewest rules made) words (Ok line)
line_given fewest rules made number words given line read is = record {
  found = (given, read.found, is);
  only = λ other (also, list, same). ap Ok (is ∙ ap made (same_given given also (read.only also list)) ∙ sym same);
  refused = tt;
}

refused_made : (fewest : ℕ) (rules : List OptionWords) (made : List Given → Line) (words : List (List ℕ)) (place : ℕ) → IsRefusedAt (IsOptionList fewest rules) words place
    → IsRefusedAt (IsOptionLine fewest rules made) words place
refused_made fewest rules made words place refused = record {
  within = refused.within;
  goes_on = (let (more, given, is) = refused.goes_on in (more, made given, (given, is, refl)));
  stops = stopped (take place words) (drop place words) refused.stops;
}
  where
    stopped : (front rest : List (List ℕ)) → Stops (IsOptionList fewest rules) front rest → Stops (IsOptionLine fewest rules made) front rest
    stopped front [] stops = λ line (given, is, same). stops given is
    stopped front (word ∷ rest) stops = λ (more, line, (given, is, same)). stops (more, given, is)

-- and one that is refused
pub line_refused : (fewest : ℕ) (rules : List OptionWords) (made : List Given → Line) (number : ℕ) (words : List (List ℕ)) (told : ℕ)
    → IsReadAs number (IsOptionList fewest rules) words (Err told) → IsReadAs number (IsOptionLine fewest rules made) words (Err told)
line_refused fewest rules made number words told read =
    let (place, refused, same) = read.refused in
    read_refused (IsOptionLine fewest rules made) number words told (place, refused_made fewest rules made words place refused, same)

-- no option is a line where none need be
pub none_given : (rules : List OptionWords) (made : List Given → Line) → IsOptionLine 0 rules made [] (made [])
none_given rules made = ([], record { options = refl; once = tt; enough = lit≤ tt }, refl)

-- the tables are sound
pub limit_sound : AreSound 1 limit_rules
limit_sound = record {
  bounds = (lit≤ tt, (lit≤ tt, (lit≤ tt, tt)));
  some = (
    codes "burst" ∷ decimal 1 ∷ [],
    record { name = codes "burst"; number = 1 } ∷ [],
    record {
      options = (record { name = codes "burst"; value = Number 1 1000 }, decimal 1 ∷ [], [], refl, refl, (decimal 1, refl, (refl, lit≤ tt, lit≤ tt)), refl);
      once = (tt, tt);
      enough = lit≤ tt;
    },
  );
}

pub mru_sound : AreSound 1 mru_rules
mru_sound = record {
  bounds = (lit≤ tt, (lit≤ tt, (lit≤ tt, (lit≤ tt, tt))));
  some = (
    codes "mindepth" ∷ decimal 1 ∷ [],
    record { name = codes "mindepth"; number = 1 } ∷ [],
    record {
      options = (record { name = codes "mindepth"; value = Number 0 16384 }, decimal 1 ∷ [], [], refl, refl, (decimal 1, refl, (refl, lit≤ tt, lit≤ tt)), refl);
      once = (tt, tt);
      enough = lit≤ tt;
    },
  );
}

pub server_sound : AreSound 0 server_rules
server_sound = record { bounds = (lit≤ tt, (lit≤ tt, (lit≤ tt, (tt, (tt, tt))))); some = ([], [], record { options = refl; once = tt; enough = lit≤ tt }) }

pub flags_sound : AreSound 0 flag_rules
flags_sound = record { bounds = (tt, (tt, (tt, (tt, (tt, (tt, (tt, (tt, (tt, (tt, (tt, tt))))))))))); some = ([], [], record { options = refl; once = tt; enough = lit≤ tt }) }

same_rule : (o : Option OptionWords) (x y : OptionWords) → o ≡ Some x → o ≡ Some y → x ≡ y
same_rule o x y first second = cc

same_number : (x y : ℕ) → Some x ≡ Some y → x ≡ y
same_number x y same = cc

-- the number of an option that is given stands within the bounds of its rule
pub number_within : (rules : List OptionWords) (given : List Given) (words : List (List ℕ)) (name : List ℕ) (rule : OptionWords) (least most number : ℕ) → AreOptions rules words given
    → rule_of rules name ≡ Some rule → rule.value ≡ Number least most → number_of given name ≡ Some number → (least ≤ number) × (number ≤ most)
number_within rules [] words name rule least most number are known is found = cc
number_within rules (option ∷ others) words name rule least most number (own, behind, rest, also, cut, here, are) known is found =
    by (bytes_eq name option.name) refl (number_within rules others rest name rule least most number are known is)
  where
    bounds : IsBehind (Number least most) behind option.number rest → (least ≤ option.number) × (option.number ≤ most)
    bounds (word, next, (spelled, low, high)) = (low, high)

    by : (b : Bool) → bytes_eq name option.name ≡ b → (number_of others name ≡ Some number → (least ≤ number) × (number ≤ most)) → (least ≤ number) × (number ≤ most)
    by true same rest_is =
        let Q : List ℕ → Type 0 = λ n. rule_of rules n ≡ Some rule in
        let one : rule ≡ own = same_rule (rule_of rules option.name) rule own (subst Q ((bytes_eq-Decides name option.name).0 same) known) also in
        let R : Value → Type 0 = λ v. IsBehind v behind option.number rest in
        let within = bounds (subst R (sym (ap (λ (r : OptionWords). r.value) one) ∙ is) here) in
        let S : Bool → Type 0 = λ b. option_map (λ (o : Given). o.number) (cond b (Some option) (find (λ (o : Given). bytes_eq name o.name) others)) ≡ Some number in
        let equal : option.number ≡ number = same_number option.number number (subst S same found) in
        let T : ℕ → Type 0 = λ n. (least ≤ n) × (n ≤ most) in
        subst T equal within
    by false same rest_is =
        let S : Bool → Type 0 = λ b. option_map (λ (o : Given). o.number) (cond b (Some option) (find (λ (o : Given). bytes_eq name o.name) others)) ≡ Some number in
        rest_is (subst S same found)

-- flags of 16 bits
abbrev IsShort : Value → Type 0
IsShort (Number least most) = ⊥
IsShort (Alone own) = own < 2 ^ 16

abbrev AreShort : List OptionWords → Type 0
AreShort [] = Unit {0}
AreShort (rule ∷ rules) = IsShort rule.value × AreShort rules

short_rule : (rules : List OptionWords) (name : List ℕ) (rule : OptionWords) → AreShort rules → rule_of rules name ≡ Some rule → IsShort rule.value
short_rule [] name rule short known = cc
short_rule (first ∷ rules) name rule short known = by (bytes_eq name first.name) refl (short_rule rules name rule short.1)
  where
    one : (x y : OptionWords) → Some x ≡ Some y → x ≡ y
    one x y same = cc

    by : (b : Bool) → bytes_eq name first.name ≡ b → (rule_of rules name ≡ Some rule → IsShort rule.value) → IsShort rule.value
    by true is others =
        let P : Bool → Type 0 = λ b. cond b (Some first) (rule_of rules name) ≡ Some rule in
        let Q : OptionWords → Type 0 = λ r. IsShort r.value in
        subst Q (one first rule (subst P is known)) short.0
    by false is others =
        let P : Bool → Type 0 = λ b. cond b (Some first) (rule_of rules name) ≡ Some rule in
        others (subst P is known)

short_behind : (value : Value) (words rest : List (List ℕ)) (number : ℕ) → IsShort value → IsBehind value words number rest → number < 2 ^ 16
short_behind (Number least most) words rest number short is = absurd short
short_behind (Alone own) words rest number short is = omega (arith, short, is.1)

joined_short : (given : List Given) (words : List (List ℕ)) (flags : ℕ) → flags < 2 ^ 16 → AreOptions flag_rules words given → fold bit_or flags (map (λ (option : Given). option.number) given) < 2 ^ 16
joined_short [] words flags low are = low
joined_short (option ∷ others) words flags low (rule, behind, rest, known, cut, is, are) =
    let number = short_behind rule.value behind rest option.number (short_rule flag_rules option.name rule flags_short known) is in
    joined_short others rest (bit_or flags option.number) (or_lt 16 flags option.number low number) are
  where
    flags_short : AreShort flag_rules
    flags_short = (lit< tt, (lit< tt, (lit< tt, (lit< tt, (lit< tt, (lit< tt, (lit< tt, (lit< tt, (lit< tt, (lit< tt, (lit< tt, tt)))))))))))

pub flags_fit : (given : List Given) → IsGivenBy flag_rules given → flags_of given < 2 ^ 16
flags_fit given (words, are) = joined_short given words 0 (lit< tt) are

-- the same of a reading by a table
pub given_by : (fewest : ℕ) (table rules : List OptionWords) (made : List Given → Line) (number : ℕ) (words : List (List ℕ)) (result : Result (List Given) ℕ) (given : List Given) (line : Line)
    → table ≡ rules → result ≡ Ok given → line ≡ made given → IsReadAs number (IsOptionList fewest table) words result → IsReadAs number (IsOptionLine fewest rules made) words (Ok line)
given_by fewest table rules made number words result given line same found is read =
    let P : List OptionWords → Type 0 = λ t. IsReadAs number (IsOptionList fewest t) words result in
    let Q : Result (List Given) ℕ → Type 0 = λ a. IsReadAs number (IsOptionList fewest rules) words a in
    line_given fewest rules made number words given line (subst Q found (subst P same read)) is

pub refused_by : (fewest : ℕ) (table rules : List OptionWords) (made : List Given → Line) (number : ℕ) (words : List (List ℕ)) (result : Result (List Given) ℕ) (told : ℕ)
    → table ≡ rules → result ≡ Err told → IsReadAs number (IsOptionList fewest table) words result → IsReadAs number (IsOptionLine fewest rules made) words (Err told)
refused_by fewest table rules made number words result told same bad read =
    let P : List OptionWords → Type 0 = λ t. IsReadAs number (IsOptionList fewest t) words result in
    let Q : Result (List Given) ℕ → Type 0 = λ a. IsReadAs number (IsOptionList fewest rules) words a in
    line_refused fewest rules made number words told (subst Q bad (subst P same read))

-- a number that may be missing
pub number_or_within : (rules : List OptionWords) (given : List Given) (name : List ℕ) (rule : OptionWords) (least most default : ℕ) → IsGivenBy rules given → rule_of rules name ≡ Some rule
    → rule.value ≡ Number least most → default ≤ most → unwrap_or (number_of given name) default ≤ most
number_or_within rules given name rule least most default (words, are) known is low = by (number_of given name) refl
  where
    by : (o : Option ℕ) → number_of given name ≡ o → unwrap_or o default ≤ most
    by None none = low
    by (Some number) found = (number_within rules given words name rule least most number are known is found).1
