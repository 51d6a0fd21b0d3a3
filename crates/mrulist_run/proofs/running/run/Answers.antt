use Rattle.std.proofs.Common.{◌≡◌, Result, Err, List, Option, sym, subst, ap, ◌∙◌}
use Rattle.mrulist_reader.specs.declared.listing.Listing.{Listing}
use Rattle.mrulist_reader.specs.Readers.{ReaderParts, listing_dialogue, new_reader}
use Rattle.mrulist_run.specs.declared.fault.RunFault.{RunFault}
use Rattle.mrulist_run.specs.Runs.{Run}
use Rattle.mrulist_run.proofs.RunLemmas.{Run-came, Run-fault, no_reply-quiets}
use Rattle.ntpq_client.specs.Ends.{Conversed}
use Rattle.mrulist_run.proofs.running.run.Goals as goal

pub returns-in-Ok-clause-run : goal.returns-in-Ok-clause-run
returns-in-Ok-clause-run g c =
    Run-came c.args.query.now c.args.client.now c.converse.new.client c.converse.new.plan c.came_to.result _ _ c.requires.query
    (subst (λ (r : ReaderParts). Conversed listing_dialogue c.args.client.now r c.converse.new.client c.converse.new.plan (Rattle.std.proofs.Common.Ok tt) (g.P.Port.trace c.args.port.now) (g.P.Port.trace c.converse.new.port)) c.new-reader.ensures c.in-Ok.ensures.conversed)
    c.came_to.ensures

pub returns-in-Err-clause-run : goal.returns-in-Err-clause-run
returns-in-Err-clause-run g c =
    subst (λ (fault : RunFault). Run c.args.query.now c.args.client.now c.converse.new.client (Err fault) (g.P.Port.trace c.args.port.now) (g.P.Port.trace c.converse.new.port)) (sym c.fault_of.ensures)
    (Run-fault c.args.query.now c.args.client.now c.converse.new.client c.converse.new.plan c.in-Err.fault _ _ c.requires.query
    (subst (λ (r : ReaderParts). Conversed listing_dialogue c.args.client.now r c.converse.new.client c.converse.new.plan (Err c.in-Err.fault) (g.P.Port.trace c.args.port.now) (g.P.Port.trace c.converse.new.port)) c.new-reader.ensures c.in-Err.ensures.conversed))

pub returns-in-Err-clause-no_reply : goal.returns-in-Err-clause-no_reply
returns-in-Err-clause-no_reply g c = λ is.
    no_reply-quiets c.args.client.now c.converse.new.client c.new-reader.result c.converse.new.plan c.in-Err.fault _ _ c.in-Err.ensures.conversed (sym c.fault_of.ensures ∙ cc is)
