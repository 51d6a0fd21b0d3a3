use Rattle.std.proofs.Common.{◌≡◌, ◌≤◌, ◌<◌, ◌^◌, ◌+◌, ◌-◌, ◌++◌, ◌∷◌, [], ℕ, min, subst, sym, ap, ◌∙◌, arith}
use Rattle.conf_file.specs.Options.{IsNew, IsSound}
use Rattle.text_words.specs.Numbers.{SpellsNumber}
use Rattle.conf_file.specs.declared.options.Value.{Value}
use Rattle.conf_file.specs.declared.options.Value.TheVariants.{Alone, Number}
use Rattle.conf_file.proofs.OptionLemmas.{IsRest, IsRestBehind, behind_ends, has_new, known_next, no_number, no_number_left, no_rule, no_second, once_more, rest_ends, room_for, rule_named}
use Rattle.conf_file.proofs.OptionStepLemmas.{alone_step, number_step, read_behind, read_ended, read_few, read_first, rule_sound}
use Rattle.conf_file.proofs.ReadingLemmas.{read_bad, read_end}
use Rattle.conf_file.proofs.options.read_options.Goals as goal
use Rattle.conf_file.proofs.options.read_options.Goals.{in-Alone, in-Number+in-Some-next+in-Some-read_decimal_within}

pub words-init : goal.words-init
words-init c = record {
  low = omega (arith, c.requires.low);
  once = rw c.none-given.ensures tt;
  known = rw c.none-given.ensures tt;
  read = rw c.none-given.ensures (read_first c.args.fewest c.args.rules.now c.args.first c.args.words.now);
}

pub returns-in_default-rule_in : goal.returns-in_default-rule_in
returns-in_default-rule_in c =
    c.words.invariant.read _ (read_bad (IsRest c.args.fewest c.args.rules.now c.words.given) c.words.number _ c.in-Some.name.now _ c.in-Some.ensures.word
    (no_rule c.args.fewest c.args.rules.now c.words.given c.in-Some.name.now (sym c.in_default-rule_in.ensures))
    (rest_ends c.args.fewest c.args.rules.now c.words.given c.requires.few c.requires.sound c.words.invariant.once) c.words.invariant.low)

pub returns-then-has : goal.returns-then-has
returns-then-has c =
    c.words.invariant.read _ (read_bad (IsRest c.args.fewest c.args.rules.now c.words.given) c.words.number _ c.in-Some.name.now _ c.in-Some.ensures.word
    (no_second c.args.fewest c.args.rules.now c.words.given c.in-Some.name.now (sym c.has.ensures ∙ c.if-has.true))
    (rest_ends c.args.fewest c.args.rules.now c.words.given c.requires.few c.requires.sound c.words.invariant.once) c.words.invariant.low)

pub returns-then-len-fewest : goal.returns-then-len-fewest
returns-then-len-fewest c =
    c.words.invariant.read _ (read_few c.args.fewest c.args.rules.now c.words.number c.words.given _ c.in_default.ensures.ended (omega (arith, c.len.ensures, c.if-len-fewest.true)) c.requires.few c.requires.sound
    c.words.invariant.once c.words.invariant.low)

pub returns : goal.returns
returns c =
    c.words.invariant.read _ (read_ended c.args.fewest c.args.rules.now c.words.number c.words.given _ c.in_default.ensures.ended c.words.invariant.once (omega (arith, c.len.ensures, c.if-len-fewest.false)))

pub push-requires : goal.push-requires
push-requires c =
    let new : IsNew c.in-Some.name.now c.words.given = has_new c.in-Some.name.now c.words.given (sym c.has.ensures ∙ c.if-has.false) in
    omega (arith, room_for c.args.rules.now c.words.given c.in-Some.name.now c.in-Some-rule_in.rule.now c.words.invariant.once c.words.invariant.known new (sym c.in-Some-rule_in.ensures), c.requires.room)

pub push-requires-in-Number : goal.push-requires-in-Number
push-requires-in-Number c =
    let new : IsNew c.in-Some.name.now c.words.given = has_new c.in-Some.name.now c.words.given (sym c.has.ensures ∙ c.if-has.false) in
    omega (arith, room_for c.args.rules.now c.words.given c.in-Some.name.now c.in-Some-rule_in.rule.now c.words.invariant.once c.words.invariant.known new (sym c.in-Some-rule_in.ensures), c.requires.room)

pub returns-in_default-next : goal.returns-in_default-next
returns-in_default-next c =
    let value : c.in-Some-rule_in.rule.now.value ≡ Number c.in-Number.least c.in-Number.most = cc in
    let new : IsNew c.in-Some.name.now c.words.given = has_new c.in-Some.name.now c.words.given (sym c.has.ensures ∙ c.if-has.false) in
    let P : Value → Type 0 = λ v. IsSound v in
    let sound : c.in-Number.least ≤ c.in-Number.most = subst P value (rule_sound c.args.rules.now c.in-Some.name.now c.in-Some-rule_in.rule.now c.requires.sound.bounds (sym c.in-Some-rule_in.ensures)) in
    let low : c.saturating_add-number.result < 2 ^ 32 = omega (arith, c.saturating_add-number.ensures) in
    read_behind c.args.fewest c.args.rules.now c.args.first c.words.number c.saturating_add-number.result c.args.words.now c.words.words c.next.new.self c.words.given c.in-Some.name.now _ c.in-Some-rule_in.rule.now
    c.words.invariant.read c.in-Some.ensures.word (sym c.in-Some-rule_in.ensures) value c.saturating_add-number.ensures c.words.invariant.low _
    (read_end (IsRestBehind c.args.fewest c.args.rules.now c.words.given c.in-Some.name.now (Number c.in-Number.least c.in-Number.most)) c.saturating_add-number.result _ c.in_default-next.ensures.ended
    (no_number_left c.args.fewest c.args.rules.now c.words.given c.in-Some.name.now c.in-Number.least c.in-Number.most)
    (behind_ends c.args.fewest c.args.rules.now c.words.given c.in-Some.name.now c.in-Number.least c.in-Number.most c.requires.few sound c.words.invariant.once new) low)

pub returns-in_default-read_decimal_within : goal.returns-in_default-read_decimal_within
returns-in_default-read_decimal_within c =
    let value : c.in-Some-rule_in.rule.now.value ≡ Number c.in-Number.least c.in-Number.most = cc in
    let new : IsNew c.in-Some.name.now c.words.given = has_new c.in-Some.name.now c.words.given (sym c.has.ensures ∙ c.if-has.false) in
    let P : Value → Type 0 = λ v. IsSound v in
    let sound : c.in-Number.least ≤ c.in-Number.most = subst P value (rule_sound c.args.rules.now c.in-Some.name.now c.in-Some-rule_in.rule.now c.requires.sound.bounds (sym c.in-Some-rule_in.ensures)) in
    let low : c.saturating_add-number.result < 2 ^ 32 = omega (arith, c.saturating_add-number.ensures) in
    let none : (n : ℕ) → ¬ SpellsNumber c.in-Number.least c.in-Number.most c.in-Some-next.word.now n = λ n is. (let found = c.in_default-read_decimal_within.ensures.only n is in cc) in
    read_behind c.args.fewest c.args.rules.now c.args.first c.words.number c.saturating_add-number.result c.args.words.now c.words.words c.next.new.self c.words.given c.in-Some.name.now _ c.in-Some-rule_in.rule.now
    c.words.invariant.read c.in-Some.ensures.word (sym c.in-Some-rule_in.ensures) value c.saturating_add-number.ensures c.words.invariant.low _
    (read_bad (IsRestBehind c.args.fewest c.args.rules.now c.words.given c.in-Some.name.now (Number c.in-Number.least c.in-Number.most)) c.saturating_add-number.result _ c.in-Some-next.word.now _ c.in-Some-next.ensures.word
    (no_number c.args.fewest c.args.rules.now c.words.given c.in-Some.name.now c.in-Number.least c.in-Number.most c.in-Some-next.word.now none)
    (behind_ends c.args.fewest c.args.rules.now c.words.given c.in-Some.name.now c.in-Number.least c.in-Number.most c.requires.few sound c.words.invariant.once new) low)

pub words-preserved : goal.words-preserved
words-preserved c =
    let new : IsNew c.in-Some.name.now c.words.given = has_new c.in-Some.name.now c.words.given (sym c.has.ensures ∙ c.if-has.false) in
    let named = rule_named c.args.rules.now c.in-Some.name.now c.in-Some-rule_in.rule.now (sym c.in-Some-rule_in.ensures) in
    elim c.match-rule.branch [
      | in-Alone w ↦
          let value : c.in-Some-rule_in.rule.now.value ≡ Alone w.in-Alone.own = cc in
          let is : c.match-rule.given ≡ c.words.given ++ record { name = c.in-Some.name.now; number = w.in-Alone.own } ∷ [] =
          w.given-is ∙ w.push.ensures ∙ ap (λ n. c.words.given ++ record { name = n; number = w.in-Alone.own } ∷ []) named in
          record {
            low = omega (arith, c.saturating_add-number-in-Some.ensures);
            once = rw is (once_more c.words.given c.in-Some.name.now w.in-Alone.own c.words.invariant.once new);
            known = rw is (known_next c.args.rules.now c.words.given c.in-Some.name.now w.in-Alone.own c.in-Some-rule_in.rule.now c.words.invariant.known (sym c.in-Some-rule_in.ensures));
            read = rw (is, w.words-is) (alone_step c.args.fewest c.args.rules.now c.args.first c.words.number c.saturating_add-number-in-Some.result c.args.words.now c.words.words c.next.new.self c.words.given
                c.in-Some.name.now w.in-Alone.own c.in-Some-rule_in.rule.now c.words.invariant.read c.in-Some.ensures.word (sym c.in-Some-rule_in.ensures) value (c.saturating_add-number-in-Some.ensures ∙ ap (λ n. min (n + 1) (2 ^ 32 - 1)) w.number-is) c.words.invariant.low);
          }
      | in-Number+in-Some-next+in-Some-read_decimal_within w ↦
          let value : c.in-Some-rule_in.rule.now.value ≡ Number w.in-Number.least w.in-Number.most = cc in
          let is : c.match-rule.given ≡ c.words.given ++ record { name = c.in-Some.name.now; number = w.in-Some-read_decimal_within.own } ∷ [] =
          w.given-is ∙ w.push-in-Number.ensures ∙ ap (λ n. c.words.given ++ record { name = n; number = w.in-Some-read_decimal_within.own } ∷ []) named in
          record {
            low = omega (arith, c.saturating_add-number-in-Some.ensures);
            once = rw is (once_more c.words.given c.in-Some.name.now w.in-Some-read_decimal_within.own c.words.invariant.once new);
            known = rw is (known_next c.args.rules.now c.words.given c.in-Some.name.now w.in-Some-read_decimal_within.own c.in-Some-rule_in.rule.now c.words.invariant.known (sym c.in-Some-rule_in.ensures));
            read = rw (is, w.words-is) (number_step c.args.fewest c.args.rules.now c.args.first c.words.number w.saturating_add-number.result c.saturating_add-number-in-Some.result c.args.words.now c.words.words c.next.new.self
                w.next-in-Number.new.self c.words.given c.in-Some.name.now w.in-Some-next.word.now w.in-Number.least w.in-Number.most w.in-Some-read_decimal_within.own c.in-Some-rule_in.rule.now c.words.invariant.read
                c.in-Some.ensures.word (sym c.in-Some-rule_in.ensures) value w.saturating_add-number.ensures c.words.invariant.low w.in-Some-next.ensures.word w.in-Some-read_decimal_within.ensures.found (omega arith)
                (c.saturating_add-number-in-Some.ensures ∙ ap (λ n. min (n + 1) (2 ^ 32 - 1)) w.number-is));
          }
    ]
