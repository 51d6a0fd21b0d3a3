use Rattle.std.proofs.Common.{◌≡◌, ◌+◌, ℕ, List, ◌∙◌, sym, subst}
use Rattle.mode6_frame.specs.Places.{frame_at}
use Rattle.ntpq_client.specs.Requests.{request_parts}
use Rattle.ntpq_client.proofs.TalkLemmas.{after_event-post}
use Rattle.ntpq_client.proofs.EndLemmas.{PostEnds-stuck, Causes-stuck}
use Rattle.ntpq_client.proofs.client.Client.post.Goals as goal

pub returns-in-Some-clause-ends : goal.returns-in-Some-clause-ends
returns-in-Some-clause-ends g c = PostEnds-stuck _ _ (sym c.in-Some.ensures)

pub returns-in-Some-clause-causes : goal.returns-in-Some-clause-causes
returns-in-Some-clause-causes g c = Causes-stuck c.args.self.now c.in-Some.fault _ _ _ (sym c.in-Some.ensures)

pub returns-clause-after : goal.returns-clause-after
returns-clause-after g c =
    let octets = rw c.posted-posted.ensures.posted at c.octets_of-octets.ensures in
    c.note_post.ensures.after ∙ sym (after_event-post c.args.request.now c.args.self.now c.octets_of-octets.result octets.value octets.places)

pub returns-clause-reads : goal.returns-clause-reads
returns-clause-reads g c =
    let octets = rw c.posted-posted.ensures.posted at c.octets_of-octets.ensures in
    subst (λ (o : List ℕ). frame_at o ≡ request_parts c.args.request.now (c.args.self.now.posted + 1)) octets.value octets.places
