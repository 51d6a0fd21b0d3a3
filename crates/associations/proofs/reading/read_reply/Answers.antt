use Rattle.std.proofs.Common.{None, Some}
use Rattle.associations.proofs.ReadingLemmas.{early_reading_fault, no_reply, no_reply_fault, only_reply, reply_is, shows}
use Rattle.associations.proofs.reading.read_reply.Goals as goal

pub returns-in-None-clause-readable : goal.returns-in-None-clause-readable
returns-in-None-clause-readable c = record { reading = None; is = no_reply c.args.keys.now c.args.bytes.now c.in-None.ensures.none }

pub returns-in-None-clause-fault : goal.returns-in-None-clause-fault
returns-in-None-clause-fault c = no_reply_fault c.args.of.now c.args.keys.now c.args.bytes.now c.in-None.ensures.none

pub returns-in-Some-early_fault-clause-readable : goal.returns-in-Some-early_fault-clause-readable
returns-in-Some-early_fault-clause-readable c =
    let shown = shows c.args.keys.now c.args.bytes.now c.in-Some.packet.trailer in
    record {
      reading = Some (record { header = c.in-Some.packet.header; auth = shown.0 });
      is = reply_is c.args.keys.now c.args.bytes.now c.in-Some.packet shown.0 c.in-Some.ensures.found c.in-Some.ensures.server shown.1;
    }

pub returns-in-Some-early_fault-clause-fault : goal.returns-in-Some-early_fault-clause-fault
returns-in-Some-early_fault-clause-fault c =
    early_reading_fault c.args.of.now c.args.keys.now c.args.bytes.now c.in-Some.packet c.in-Some-early_fault.fault
    c.in-Some.ensures.found c.in-Some.ensures.server c.in-Some.ensures.only cc

pub returns-in-None-early_fault-clause-readable : goal.returns-in-None-early_fault-clause-readable
returns-in-None-early_fault-clause-readable c = record {
  reading = Some (record { header = c.in-Some.packet.header; auth = c.auth.result });
  is = reply_is c.args.keys.now c.args.bytes.now c.in-Some.packet c.auth.result c.in-Some.ensures.found c.in-Some.ensures.server c.auth.ensures.shown;
}

pub returns-in-None-early_fault-clause-only : goal.returns-in-None-early_fault-clause-only
returns-in-None-early_fault-clause-only c =
    only_reply c.args.keys.now c.args.bytes.now c.in-Some.packet c.auth.result c.in-Some.ensures.found c.in-Some.ensures.server
    c.auth.ensures.shown c.in-Some.ensures.only c.auth.ensures.only
