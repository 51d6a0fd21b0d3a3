use Rattle.mode6_frame.specs.Frames.{parts_of}
use Rattle.mode6_frame.proofs.ServedLemmas.{AreOf-kept_after, IsTold-step_of}
use Rattle.mode6_frame.proofs.laws.a_whole_answer_is_of_its_last_datagram.Goals as goal

pub returns : goal.returns
returns g c = record {
  told = IsTold-step_of g.given.answers g.given.answer g.given.groups (parts_of c.args.frame.now) c.requires.0 c.requires.1.0 c.requires.1.1.0 c.requires.1.1.1;
  kept = AreOf-kept_after g.given.answers g.given.answer g.given.groups (parts_of c.args.frame.now) c.requires.0 c.requires.1.0 c.requires.1.1.0 c.requires.1.1.1;
}
