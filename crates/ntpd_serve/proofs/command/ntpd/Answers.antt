use Rattle.std.proofs.Common.{map, string_bytes, Global, inl, inr, refl, subst}
use Rattle.std.proofs.lemmas.Option.{IfSome_then}
use Rattle.ntpd_serve.specs.Command.{AsksFor, AsksOnce, AsksRehearse, AsksServe}
use Rattle.ntpd_serve.specs.declared.command.Command.{Command}
use Rattle.ntpd_serve.specs.declared.ending.Ending.TheVariants.{Failed}
use Rattle.ntpd_serve.proofs.CommandLemmas.{IfNone-none}
use Rattle.ntpd_serve.proofs.command.ntpd.Goals as goal

pub returns-in-Some-Once-clause-served : goal.returns-in-Some-Once-clause-served
returns-in-Some-Once-clause-served g c =
    let words = map (string_bytes {Z = Global}) c.args.words.now in
    let asks : AsksOnce words c.in-Some-Once.at = subst (λ (command : Command). AsksFor words command) c.in-Some-Once.field-0-is c.in-Some-Once.ensures.asks in
    IfSome_then c.once.result.single c.once.ensures.served
    (λ single served. (c.in-Some-Once.at, served.0, served.1, served.2, asks, served.3, served.4, served.5, served.6, served.7, served.8, served.9))

pub returns-in-Some-Once-clause-before : goal.returns-in-Some-Once-clause-before
returns-in-Some-Once-clause-before g c = λ single session rehearsed.
    let words = map (string_bytes {Z = Global}) c.args.words.now in
    let asks : AsksOnce words c.in-Some-Once.at = subst (λ (command : Command). AsksFor words command) c.in-Some-Once.field-0-is c.in-Some-Once.ensures.asks in
    let before = IfNone-none c.once.result.single c.once.ensures.before single in
    (before.0, inr (inl ((c.in-Some-Once.at, asks), before.1)), before.3)

pub returns-in-Some-Serve-clause-session : goal.returns-in-Some-Serve-clause-session
returns-in-Some-Serve-clause-session g c =
    let words = map (string_bytes {Z = Global}) c.args.words.now in
    let asks : AsksServe words c.in-Some-Serve.name.now = subst (λ (command : Command). AsksFor words command) c.in-Some-Serve.field-0-is c.in-Some-Serve.ensures.asks in
    IfSome_then c.serve_file.result.session c.serve_file.ensures.session
    (λ last served. (c.in-Some-Serve.name.now, served.0, served.1, served.2, asks, served.3, served.4, served.5, served.6, served.7))

pub returns-in-Some-Serve-clause-before : goal.returns-in-Some-Serve-clause-before
returns-in-Some-Serve-clause-before g c = λ single session rehearsed.
    let words = map (string_bytes {Z = Global}) c.args.words.now in
    let asks : AsksServe words c.in-Some-Serve.name.now = subst (λ (command : Command). AsksFor words command) c.in-Some-Serve.field-0-is c.in-Some-Serve.ensures.asks in
    let before = c.serve_file.ensures.before session in
    (Failed before.0, inr (inr (inl (c.in-Some-Serve.name.now, before.0, asks, refl, before.1))), before.2)

pub returns-in-Some-Once-clause-unbound : goal.returns-in-Some-Once-clause-unbound
returns-in-Some-Once-clause-unbound g c = λ single no_serve.
    let before = IfNone-none c.once.result.single c.once.ensures.before single in before.2

pub returns-in-Some-Serve-clause-unbound : goal.returns-in-Some-Serve-clause-unbound
returns-in-Some-Serve-clause-unbound g c = λ single no_serve.
    let words = map (string_bytes {Z = Global}) c.args.words.now in
    let asks : AsksServe words c.in-Some-Serve.name.now = subst (λ (command : Command). AsksFor words command) c.in-Some-Serve.field-0-is c.in-Some-Serve.ensures.asks in
    absurd (no_serve c.in-Some-Serve.name.now asks)

pub returns-in-Some-Rehearse-clause-rehearsed : goal.returns-in-Some-Rehearse-clause-rehearsed
returns-in-Some-Rehearse-clause-rehearsed g c =
    let words = map (string_bytes {Z = Global}) c.args.words.now in
    let asks : AsksRehearse words c.in-Some-Rehearse.number = subst (λ (command : Command). AsksFor words command) c.in-Some-Rehearse.field-0-is c.in-Some-Rehearse.ensures.asks in
    IfSome_then c.rehearse_number.result.rehearsed c.rehearse_number.ensures.rehearsed
    (λ left done. (c.in-Some-Rehearse.number, asks, done.0, done.1))
