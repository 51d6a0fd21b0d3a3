-- Configuration files: what lines leave to read.
use Rattle.std.proofs.Common.{◌≡◌, ℕ, ◌+◌, ◌-◌, ◌^◌, min, map, List, [], ◌∷◌, Option, Some, None, Ok, Err, sym, ap, subst, ◌∙◌, inl, inr}
use Rattle.std.specs.Option.{ForSome}
use mathlib.Core.HLevel.{is_prop→PathP}
use Rattle.discipline.specs.Frequency.{IsFrequency}
use Rattle.text_words.specs.Lines.{lines_of}
use Rattle.text_words.specs.Words.{lines_as_words, words_of}
use Rattle.access_rules.specs.declared.rules.Rule.{Rule}
use Rattle.access_rules.specs.Rules.{AreWholes, IsWholeOf}
use Rattle.net_addr.specs.declared.addr.Ip.{Ip}
use Rattle.recency.specs.declared.limits.Limits.{Limits}
use Rattle.conf_file.specs.declared.conf.Conf.{Conf}
use Rattle.conf_file.specs.declared.confs.ConfFault.{ConfFault}
use Rattle.conf_file.specs.declared.confs.ConfFault.TheVariants.{At, NoMemory}
use Rattle.conf_file.specs.declared.drafts.Draft.{Draft}
use Rattle.conf_file.specs.declared.tails.Refusal.{Refusal}
use Rattle.conf_file.specs.declared.tails.Refusal.TheVariants as refusal
use Rattle.refusals.specs.Lines.{IsAfter, IsFirstRefused, IsTakenAlone}
use Rattle.refusals.specs.Told.{IsUnless}
use Rattle.refusals.proofs.LineLemmas.{IsReadTo, read_all, read_more, read_none, read_one, read_refused, read_refused_nowhere, read_refused_once, read_refused_untaken}
use Rattle.conf_file.specs.ConfTexts.{IsDue, IsConfText, IsFault, IsRefusedText, conf_grammar, fault_of}
use Rattle.conf_file.specs.Drafts.{IsConfOf, IsLimitsOr, IsOpening}
use Rattle.conf_file.proofs.AddressLemmas.{prefix-one}
use Rattle.conf_file.proofs.FrequencyLemmas.{bounded_prop}
use Rattle.conf_file.proofs.LimitLemmas.{limits-one}

-- a rule of a whole family is known
whole-one : (ip : Ip) (one other : Rule) → IsWholeOf ip one → IsWholeOf ip other → one ≡ other
whole-one ip one other is also =
    let same : one.prefix ≡ other.prefix = prefix-one ip 0 one.prefix other.prefix (record { same_ip = is.same_ip; same_length = is.all }) (record { same_ip = also.same_ip; same_length = also.all }) in
    let flags : one.flags ≡ other.flags = is.no_flags ∙ sym also.no_flags in
    λ i. record { prefix = same i; flags = flags i }

wholes-one : (one other : List Rule) → AreWholes one → AreWholes other → one ≡ other
wholes-one one other (v4, v6, is, a, b) (w4, w6, also, c, d) =
    let first : v4 ≡ w4 = whole-one _ v4 w4 a c in
    let second : v6 ≡ w6 = whole-one _ v6 w6 b d in
    is ∙ ap (λ r. r ∷ v6 ∷ []) first ∙ ap (λ r. w4 ∷ r ∷ []) second ∙ sym also

-- there is one opening draft
pub opening-one : (one other : Draft) → IsOpening one → IsOpening other → one ≡ other
opening-one one other is also =
    let listen : one.listen ≡ other.listen = is.listen ∙ sym also.listen in
    let servers : one.servers ≡ other.servers = is.servers ∙ sym also.servers in
    let rules : one.rules ≡ other.rules = wholes-one one.rules other.rules is.rules also.rules in
    let rate : one.rate ≡ other.rate = is.rate ∙ sym also.rate in
    let limits : one.limits ≡ other.limits = is.limits ∙ sym also.limits in
    let keys : one.keys ≡ other.keys = is.keys ∙ sym also.keys in
    let local : one.local ≡ other.local = is.local ∙ sym also.local in
    let freq : one.freq ≡ other.freq = is.freq ∙ sym also.freq in
    λ i. record { listen = listen i; servers = servers i; rules = rules i; rate = rate i; limits = limits i; keys = keys i; local = local i; freq = freq i }

limits_or-one : (given : Option Limits) (one other : Limits) → IsLimitsOr given one → IsLimitsOr given other → one ≡ other
limits_or-one None one other is also = limits-one _ one other is also
limits_or-one (Some given) one other is also = is ∙ sym also

-- a draft makes one configuration
pub conf-one : (draft : Draft) (one other : Conf) → IsConfOf draft one → IsConfOf draft other → one ≡ other
conf-one draft one other is also =
    let listen : one.listen ≡ other.listen = is.listen ∙ sym also.listen in
    let servers : one.servers ≡ other.servers = is.servers ∙ sym also.servers in
    let rules : one.rules ≡ other.rules = is.rules ∙ sym also.rules in
    let rate : one.rate ≡ other.rate = is.rate ∙ sym also.rate in
    let limits : one.limits ≡ other.limits = limits_or-one draft.limits one.limits other.limits is.limits also.limits in
    let keys : one.keys ≡ other.keys = is.keys ∙ sym also.keys in
    let local : one.local ≡ other.local = is.local ∙ sym also.local in
    let freq : one.freq ≡ other.freq = is.freq ∙ sym also.freq in
    λ i. record { listen = listen i; servers = servers i; rules = rules i; rate = rate i; limits = limits i; keys = keys i; local = local i; freq = freq i; bounded = is_prop→PathP (λ j. ForSome (freq j) IsFrequency) (λ j. bounded_prop (freq j)) one.bounded other.bounded i }

-- so many lines of a text are read after an opening, and made this draft
pub record AreReadTo (text : List ℕ) (lines : List (List ℕ)) (number : ℕ) (draft : Draft) : Type 0 where
  pub opening : Draft
  pub opens : IsOpening opening
  pub read : IsReadTo conf_grammar opening (lines_as_words text) (map words_of lines) number draft

-- at first nothing is
pub take_none : (text : List ℕ) (lines : List (List ℕ)) (opening : Draft) → lines ≡ lines_of text → IsOpening opening → AreReadTo text lines 0 opening
take_none text lines opening all opens = record { opening = opening; opens = opens; read = read_none conf_grammar opening (lines_as_words text) (map words_of lines) (ap (map words_of) all) }

-- a line more is read
pub take_more : (text line : List ℕ) (lines rest : List (List ℕ)) (number more : ℕ) (draft next : Draft) → AreReadTo text lines number draft → lines ≡ line ∷ rest
    → more ≡ min (number + 1) (2 ^ 32 - 1) → IsTakenAlone conf_grammar draft (words_of line) next → AreReadTo text rest more next
take_more text line lines rest number more draft next here is one alone = record {
  opening = here.opening;
  opens = here.opens;
  read = read_more conf_grammar here.opening (lines_as_words text) (map words_of lines) (map words_of rest) (words_of line) number more draft next here.read (ap (map words_of) is) one alone;
}

-- lines that are all read mean the draft's configuration, and no other
pub taken_all : (text : List ℕ) (lines : List (List ℕ)) (number : ℕ) (draft : Draft) (conf : Conf) → AreReadTo text lines number draft → lines ≡ [] → IsConfOf draft conf → IsConfText text conf
taken_all text lines number draft conf here ended made =
    (here.opening, draft, here.opens, read_all conf_grammar here.opening (lines_as_words text) (map words_of lines) number draft here.read (ap (map words_of) ended), made)

pub taken_one_conf : (text : List ℕ) (lines : List (List ℕ)) (number : ℕ) (draft : Draft) (conf other : Conf) → AreReadTo text lines number draft → lines ≡ [] → IsConfOf draft conf → IsConfText text other
    → conf ≡ other
taken_one_conf text lines number draft conf other here ended made (opening, final, opens, after, also) =
    let Q : Draft → Type 0 = λ d. IsAfter conf_grammar d (lines_as_words text) final in
    let is : final ≡ draft = read_one conf_grammar here.opening (lines_as_words text) (map words_of lines) number draft final here.read (ap (map words_of) ended) (subst Q (opening-one opening here.opening opens here.opens) after) in
    let R : Draft → Type 0 = λ d. IsConfOf d other in
    conf-one draft conf other made (subst R is also)

pub taken_refused_nowhere : (text : List ℕ) (lines : List (List ℕ)) (number line word : ℕ) (draft : Draft) → AreReadTo text lines number draft → lines ≡ [] → ¬ IsRefusedText text line word
taken_refused_nowhere text lines number line word draft here ended (opening, opens, first) =
    let Q : Draft → Type 0 = λ d. IsFirstRefused conf_grammar d (lines_as_words text) line word in
    read_refused_nowhere conf_grammar here.opening (lines_as_words text) (map words_of lines) number line word draft here.read (ap (map words_of) ended) (subst Q (opening-one opening here.opening opens here.opens) first)

-- a refusal of the next line is the file's fault
pub due_fault : (text line : List ℕ) (lines rest : List (List ℕ)) (number more : ℕ) (draft : Draft) (why : Refusal) (fault : ConfFault) → AreReadTo text lines number draft → lines ≡ line ∷ rest
    → more ≡ min (number + 1) (2 ^ 32 - 1) → IsDue draft (words_of line) why → fault ≡ fault_of more why → IsFault text fault
due_fault text line lines rest number more draft (refusal.At word) fault here is one (place, alone, told) same =
    let P : ConfFault → Type 0 = IsFault text in
    subst P (sym same) (
      here.opening,
      here.opens,
      read_refused conf_grammar here.opening (lines_as_words text) (map words_of lines) (map words_of rest) (words_of line) number more place word draft here.read (ap (map words_of) is) one alone told,
    )
due_fault text line lines rest number more draft refusal.NoMemory fault here is one due same =
    let P : ConfFault → Type 0 = IsFault text in
    subst P (sym same) tt

-- and no configuration is due, but for want of memory
pub due_no_conf : (text line : List ℕ) (lines rest : List (List ℕ)) (number more : ℕ) (draft : Draft) (why : Refusal) (fault : ConfFault) (conf : Conf) → AreReadTo text lines number draft → lines ≡ line ∷ rest
    → IsDue draft (words_of line) why → fault ≡ fault_of more why → IsConfText text conf → IsUnless NoMemory (Err fault) (Ok conf)
due_no_conf text line lines rest number more draft (refusal.At word) fault conf here is (place, alone, told) same (opening, final, opens, after, made) =
    let Q : Draft → Type 0 = λ d. IsAfter conf_grammar d (lines_as_words text) final in
    absurd (read_refused_untaken conf_grammar here.opening (lines_as_words text) (map words_of lines) (map words_of rest) (words_of line) number place draft final here.read (ap (map words_of) is) alone
    (subst Q (opening-one opening here.opening opens here.opens) after))
due_no_conf text line lines rest number more draft refusal.NoMemory fault conf here is due same means = inr (ap Err same)

-- and no other fault
pub due_one : (text line : List ℕ) (lines rest : List (List ℕ)) (number more at other : ℕ) (draft : Draft) (why : Refusal) (fault : ConfFault) → AreReadTo text lines number draft → lines ≡ line ∷ rest
    → more ≡ min (number + 1) (2 ^ 32 - 1) → IsDue draft (words_of line) why → fault ≡ fault_of more why → IsRefusedText text at other → IsUnless {V = Conf} NoMemory (Err fault) (Err (At at other))
due_one text line lines rest number more at other draft (refusal.At word) fault here is one (place, alone, told) same (opening, opens, first) =
    let Q : Draft → Type 0 = λ d. IsFirstRefused conf_grammar d (lines_as_words text) at other in
    let (lines_same, words_same) = read_refused_once conf_grammar here.opening (lines_as_words text) (map words_of lines) (map words_of rest) (words_of line) number more place word at other draft here.read
    (ap (map words_of) is) one alone told (subst Q (opening-one opening here.opening opens here.opens) first) in
    inl (ap Err same ∙ ap (λ l. Err (At l word)) lines_same ∙ ap (λ w. Err (At at w)) words_same)
due_one text line lines rest number more at other draft refusal.NoMemory fault here is one due same refused = inr (ap Err same)
