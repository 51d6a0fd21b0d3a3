use Rattle.std.proofs.Common.{◌≡◌, [], ◌∷◌, Some, None, sym, refl}
use Rattle.text_words.specs.Words.{words_of}
use Rattle.mac_keys.specs.declared.key_types.KeyType.TheVariants.{Hashed, Skipped}
use Rattle.mac_keys.proofs.KeyLineLemmas.{refused_after_id, refused_type, refused_after_type, refused_secret, refused_more}
use Rattle.mac_keys.proofs.key_lines.read_line.Goals as goal

pub returns-in_default-next-clause-refused : goal.returns-in_default-next-clause-refused
returns-in_default-next-clause-refused c =
    let is : words_of c.args.line.now ≡ c.in-Some.word.now ∷ [] = cc (c.of-words.ensures, c.in-Some.ensures.word, c.in_default-next.ensures.ended) in
    refused_after_id _ _ c.in-Some-read_decimal_within.id is c.in-Some-read_decimal_within.ensures.found

pub returns-in_default-type_in-clause-refused : goal.returns-in_default-type_in-clause-refused
returns-in_default-type_in-clause-refused c =
    let is : words_of c.args.line.now ≡ c.in-Some.word.now ∷ c.in-Some-next.word.now ∷ c.next-2.new.self = cc (c.of-words.ensures, c.in-Some.ensures.word, c.in-Some-next.ensures.word) in
    refused_type _ _ _ _ c.in-Some-read_decimal_within.id is c.in-Some-read_decimal_within.ensures.found (sym c.in_default-type_in.ensures)

pub returns-in_default-next-2-clause-refused : goal.returns-in_default-next-2-clause-refused
returns-in_default-next-2-clause-refused c =
    let is : words_of c.args.line.now ≡ c.in-Some.word.now ∷ c.in-Some-next.word.now ∷ [] = cc (c.of-words.ensures, c.in-Some.ensures.word, c.in-Some-next.ensures.word, c.in_default-next-2.ensures.ended) in
    refused_after_type _ _ _ c.in-Some-read_decimal_within.id c.in-Some-type_in.key_type is c.in-Some-read_decimal_within.ensures.found (sym c.in-Some-type_in.ensures)

pub returns-in_default-secret_in-clause-refused : goal.returns-in_default-secret_in-clause-refused
returns-in_default-secret_in-clause-refused c =
    let is : words_of c.args.line.now ≡ c.in-Some.word.now ∷ c.in-Some-next.word.now ∷ c.in-Some-next-2.word.now ∷ c.next-3.new.self = cc (c.of-words.ensures, c.in-Some.ensures.word, c.in-Some-next.ensures.word, c.in-Some-next-2.ensures.word) in
    refused_secret _ _ _ _ _ c.in-Some-read_decimal_within.id c.in-Hashed.algorithm is c.in-Some-read_decimal_within.ensures.found (cc (c.in-Some-type_in.ensures, c.in-Hashed.is)) (sym c.in_default-secret_in.ensures)

pub returns-in-Some-next-3-clause-refused : goal.returns-in-Some-next-3-clause-refused
returns-in-Some-next-3-clause-refused c =
    let is : words_of c.args.line.now ≡ c.in-Some.word.now ∷ c.in-Some-next.word.now ∷ c.in-Some-next-2.word.now ∷ c.in-Some-next-3.field-0.now ∷ c.next-in_default-key_type.new.self =
    cc (c.of-words.ensures, c.in-Some.ensures.word, c.in-Some-next.ensures.word, c.in-Some-next-2.ensures.word, c.in-Some-next-3.ensures.word) in
    refused_more _ _ _ _ _ _ c.in-Some-read_decimal_within.id Skipped None is c.in-Some-read_decimal_within.ensures.found (cc (c.in-Some-type_in.ensures, c.in_default-key_type.is)) refl

pub returns-in-Some-next-4-clause-refused : goal.returns-in-Some-next-4-clause-refused
returns-in-Some-next-4-clause-refused c =
    let is : words_of c.args.line.now ≡ c.in-Some.word.now ∷ c.in-Some-next.word.now ∷ c.in-Some-next-2.word.now ∷ c.in-Some-next-4.field-0.now ∷ c.next-4.new.self =
    cc (c.of-words.ensures, c.in-Some.ensures.word, c.in-Some-next.ensures.word, c.in-Some-next-2.ensures.word, c.in-Some-next-4.ensures.word) in
    refused_more _ _ _ _ _ _ c.in-Some-read_decimal_within.id (Hashed c.in-Hashed.algorithm) (Some (record { id = c.in-Some-read_decimal_within.id; algorithm = c.in-Hashed.algorithm; secret = c.in-Some-secret_in.secret }))
    is c.in-Some-read_decimal_within.ensures.found (cc (c.in-Some-type_in.ensures, c.in-Hashed.is)) (c.in-Some-secret_in.secret, sym c.in-Some-secret_in.ensures, refl)
