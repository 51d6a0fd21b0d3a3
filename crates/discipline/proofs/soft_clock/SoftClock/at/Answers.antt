use Rattle.std.proofs.Common.{◌≡◌, ◌∙◌, ap, arith, pos, ◌-◌, min, ◌*◌, ◌^◌, rules}
use Rattle.std.proofs.lemmas.Int.{to_z-of_z}
use mir.Syntax.{w32}
use mir.Val.{SFits}
use Rattle.discipline.proofs.SoftClockLemmas.{timestamp-sum}
use Rattle.discipline.specs.SoftClock.{share_of, clock_time}
use Rattle.discipline.proofs.soft_clock.SoftClock.at.Goals as goal

pub returns : goal.returns
unfolding clock_time
returns c =
    let f : SFits w32 c.args.self.now.freq = search rules in
    let g : SFits w32 c.args.self.now.slew = search rules in
    let a = simp to_z-of_z at c.share-drifted.ensures.value in
    let b = simp to_z-of_z at c.share-slewed.ensures.value in
    let since = c.saturating_sub-since.ensures in
    let first : c.share-drifted.result ≡ share_of (c.args.moment - c.args.self.now.base) c.args.self.now.freq =
    a ∙ ap (λ t. share_of t c.args.self.now.freq) since in
    let second : c.share-slewed.result ≡ share_of (min (c.args.moment - c.args.self.now.base) (64 * 2 ^ 32)) c.args.self.now.slew =
    b ∙ ap (λ t. share_of t c.args.self.now.slew) (c.min.ensures ∙ ap (λ t. min t (64 * 2 ^ 32)) since) in
    timestamp-sum _ _ _ _ _ _ _ _ _ c.wrapped.ensures c.from.ensures (c.from-2.ensures ∙ ap pos since) first second
    (omega arith) (omega arith)
    c.share-drifted.ensures.least c.share-drifted.ensures.most c.share-slewed.ensures.least c.share-slewed.ensures.most
