use Rattle.std.proofs.Common.{◌∙◌, ℕ, true, ap, min, max}
use Rattle.tcp_refinement.specs.Pair.Steps.{offered_at}
use Rattle.tcp_pair.specs.Context.{context_of}
use Rattle.tcp_pair.specs.Ends.{EndValue, on_host, with_own}
use Rattle.tcp_pair.proofs.Arrived.{went}
use Rattle.tcp_pair.proofs.Rooms.{fits_offered}
use Rattle.tcp_pair.proofs.end.End.offer_sent.Goals as goal

pub join_offered-requires-clause-room : goal.join_offered-requires-clause-room
join_offered-requires-clause-room c =
    fits_offered (context_of c.set_now.new.self) c.self.inside.socket c.offer.new.self _ c.offer.ensures.socket
    (c.in_ok-bytes.ensures.exact ∙ c.room_for-room.ensures ∙ ap (λ (n : ℕ). max (min n 1500) 1) c.send_queue.ensures)

pub returns-clause-after : goal.returns-clause-after
returns-clause-after c =
    went c.self.inside.context c.set_now.new.self c.self.inside.socket c.offer.new.self c.settle.new.self c.self.inside.sent.items c.try_reserve.new.self.items
    c.join_offered.new.sent.items
    c.self.inside.opened c.self.inside.accepted c.args.instant c.set_now.ensures c.offer.ensures.socket c.in_ok-try_reserve.ensures.items c.join_offered.ensures
    c.settle.ensures
    ∙ ap (λ (e : EndValue). with_own e (offered_at e.side (record (on_host e) { instant = c.args.instant }) true)) c.self.view_is
