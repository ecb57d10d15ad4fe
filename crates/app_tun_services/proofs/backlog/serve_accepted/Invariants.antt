use Rattle.std.proofs.Common.{◌≡◌, length}
use Rattle.app_tun_services.specs.Services.{echo_room, most_request, first_slot}
use Rattle.app_tun_services.proofs.Connections.{ServedTo}
use Rattle.app_tun_services.proofs.backlog.serve_accepted.Given as goal

-- so many entries were served
abbrev pub invariant-loop-at : goal.invariant-loop-at
invariant-loop-at l =
    (length l.buffer ≡ echo_room) × (length l.request ≡ most_request) × (l.listener ≡ record l.initial.listener { entries = l.listener.entries })
    × ServedTo l.at l.moment (first_slot l.service) l.service l.initial.slots l.initial.sessions l.initial.listener.entries.items l.slots l.sessions
    l.listener.entries.items
