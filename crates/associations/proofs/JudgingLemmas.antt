-- The first fault of a reply, by those that come before its MAC and those that come after it.
use Rattle.std.proofs.Common.{◌≡◌, Bool, true, false, cond, Option, Some, None, refl}
use Rattle.ntp_trailer.specs.declared.packet.JudgedPacket.{JudgedPacket}
use Rattle.associations.specs.Judging.{early_fault_of, first_fault_of, is_bogus, is_duplicate, late_fault_of}
use Rattle.associations.specs.declared.association.Association.{Association}
use Rattle.associations.specs.declared.judging.ReplyFault.{ReplyFault}
use Rattle.associations.specs.declared.judging.ReplyFault.TheVariants.{Duplicate, Bogus}

late_cond : (duplicate bogus : Bool) (late : Option ReplyFault) → cond duplicate (Some Duplicate) (cond bogus (Some Bogus) None) ≡ None
    → cond duplicate (Some Duplicate) (cond bogus (Some Bogus) late) ≡ late
late_cond true bogus late none = cc
late_cond false true late none = cc
late_cond false false late none = refl

early_cond : (duplicate bogus : Bool) (late : Option ReplyFault) (fault : ReplyFault) → cond duplicate (Some Duplicate) (cond bogus (Some Bogus) None) ≡ Some fault
    → cond duplicate (Some Duplicate) (cond bogus (Some Bogus) late) ≡ Some fault
early_cond true bogus late fault some = some
early_cond false true late fault some = some
early_cond false false late fault some = cc

-- without an early fault the first is a late one
pub first_fault_late : (server : Association) (reply : JudgedPacket) → early_fault_of server reply.header ≡ None → first_fault_of server reply ≡ late_fault_of server reply
first_fault_late server reply none = late_cond (is_duplicate server reply.header) (is_bogus server reply.header) (late_fault_of server reply) none

-- an early fault is the first
pub first_fault_early : (server : Association) (reply : JudgedPacket) (fault : ReplyFault) → early_fault_of server reply.header ≡ Some fault → first_fault_of server reply ≡ Some fault
first_fault_early server reply fault some = early_cond (is_duplicate server reply.header) (is_bogus server reply.header) (late_fault_of server reply) fault some
