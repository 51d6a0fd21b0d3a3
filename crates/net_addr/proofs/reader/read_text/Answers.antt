use Rattle.std.proofs.Common.{◌≡◌, ◌∙◌, Some, inl, inr, refl, sym}
use Rattle.std.proofs.lemmas.Option.{none-some}
use Rattle.net_addr.proofs.SpellingLemmas.{Spells-not_bare}
use Rattle.net_addr.proofs.reader.read_text.Goals as goal

pub returns-in-Some-clause-only : goal.returns-in-Some-clause-only
returns-in-Some-clause-only c = λ a fits h. elim h [
  | inl named ↦ absurd (Spells-not_bare c.args.text.now a c.in-Some.ip named c.in-Some.ensures.found)
  | inr bare ↦
      let read = c.read_bare.ensures.only a.ip fits.ip bare.0 in
      let same : c.in-Some.ip ≡ a.ip = cc in
      λ i. Some (record { ip = same i; port = sym bare.1 i })
]

pub returns-in-Some-clause-none : goal.returns-in-Some-clause-none
returns-in-Some-clause-none c = (
  λ some. cc,
  λ none. absurd (none (record { ip = c.in-Some.ip; port = c.args.port })
      (record { ip = c.in-Some.ensures.fits; port = c.ranges.port.fits })
      (inr (c.in-Some.ensures.found, refl))),
)

pub returns-in-None-clause-only : goal.returns-in-None-clause-only
returns-in-None-clause-only c = λ a fits h. elim h [
  | inl named ↦ c.read_named.ensures.only a fits named
  | inr bare ↦ absurd (none-some _ (sym c.in-None.is ∙ c.read_bare.ensures.only a.ip fits.ip bare.0))
]

pub returns-in-None-clause-none : goal.returns-in-None-clause-none
returns-in-None-clause-none c = (
  λ none a fits h. elim h [
    | inl named ↦ c.read_named.ensures.none.0 none a fits named
    | inr bare ↦ none-some _ (sym c.in-None.is ∙ c.read_bare.ensures.only a.ip fits.ip bare.0)
  ],
  λ none. c.read_named.ensures.none.1 (λ a fits named. none a fits (inl named)),
)
