-- The frame that a poll takes is the packet of its turn.
use Rattle.std.proofs.Common.{◌≡◌, ℕ, ℤ, Bool, true, false, if◌then◌else◌, List, [], ◌∷◌, length, Some, None, sym, ap, ◌∙◌}
use Rattle.std.specs.Prelude.{nat_lt, Option}
use Rattle.net_base.specs.Device.{Move, Took, Empty, Allowed, Emitted, Denied}
use Rattle.ip_wire.specs.IpRepr.{IpRepr}
use Rattle.interface.specs.State.{State, state}
use Rattle.app_tun_services.specs.Backlogs.{HostState}
use Rattle.app_tun_services.specs.Turns.{TakesTurn, with_packet, budget}
use Rattle.app_tun_services.specs.Link.Drain.{DrainValue, DrainMove, brought, received, unless_empty, one_more}
use Rattle.proof_stack.specs.PeerHost.ReceivedPackets.{WasBrought}
use Rattle.interface.proofs.Worked.{worked_keeps}
use Rattle.proof_stack.proofs.Peers.Devices.{reached_keeps, polled_keeps}

-- what waits at the device is this packet
abbrev IsOf : List ℕ → DrainValue → Type 0
IsOf packet d = (frame : List ℕ) → d.waiting ≡ Some frame → frame ≡ packet

-- nothing is waiting any more, or what was
none_waits : (packet : List ℕ) (d : DrainValue) → d.waiting ≡ None → IsOf packet d
none_waits packet d none frame some = let clash : None ≡ Some frame = sym none ∙ some in absurd (cc)

waits_on : (packet : List ℕ) (d d' : DrainValue) → d'.waiting ≡ d.waiting → IsOf packet d → IsOf packet d'
waits_on packet d d' same holds frame some = holds frame (sym same ∙ some)

moves_keep : (packet : List ℕ) (d d' : DrainValue) (m : Move) → DrainMove d m d' → IsOf packet d → IsOf packet d'
moves_keep packet d d' (Took t taken) is holds = none_waits packet d' (ap (λ (x : DrainValue). x.waiting) is.2)
moves_keep packet d d' (Empty t) is holds = waits_on packet d d' (ap (λ (x : DrainValue). x.waiting) is.0) holds
moves_keep packet d d' (Allowed t leave) is holds = waits_on packet d d' (ap (λ (x : DrainValue). x.waiting) is.0) holds
moves_keep packet d d' (Emitted sent) is holds = waits_on packet d d' (ap (λ (x : DrainValue). x.waiting) is) holds
moves_keep packet d d' (Denied len) is holds = waits_on packet d d' (ap (λ (x : DrainValue). x.waiting) is) holds

unless_empty_is : (packet frame : List ℕ) → unless_empty packet ≡ Some frame → frame ≡ packet
unless_empty_is [] frame some = absurd (cc)
unless_empty_is (byte ∷ bytes) frame some = cc

placed_is : (packet : List ℕ) (d : DrainValue) (long : Bool)
    → IsOf packet (if long then record d { waiting = None; dropped = one_more d.dropped } else record d { waiting = unless_empty packet })
placed_is packet d true frame some = absurd (cc)
placed_is packet d false frame some = unless_empty_is packet frame some

brought_is : (packet : List ℕ) (d : DrainValue) → IsOf packet (brought packet d)
brought_is packet d = placed_is packet (received packet d) (nat_lt (received packet d).capabilities.max_transmission_unit (length packet))

frame_is : (packet : List ℕ) (instant : ℤ) (from : State DrainValue) (ip : IpRepr) (payload : List ℕ) → IsOf packet from.device →
    (b : WasBrought DrainMove instant from ip payload) → b.frame ≡ packet
frame_is packet instant from ip payload waits b =
    reached_keeps DrainMove (IsOf packet) (moves_keep packet) instant from b.host b.reached waits b.frame b.took.1

module _ (old new : HostState) (instant : ℤ) (packet : List ℕ) (next : Option ℤ) (turn : TakesTurn old instant packet next new) (ip : IpRepr)
    (payload : List ℕ) where
  -- where the first poll begins, and the second
  waits_begun : IsOf packet turn.begun.device
  waits_begun =
      worked_keeps DrainMove (IsOf packet) (moves_keep packet) instant (with_packet old.net packet) turn.begun turn.works (brought_is packet old.net.device)

  waits_again : IsOf packet turn.begun_again.device
  waits_again =
      worked_keeps DrainMove (IsOf packet) (moves_keep packet) instant (state turn.come.device turn.come.host turn.done.sockets) turn.begun_again turn.works_again
      (polled_keeps DrainMove (IsOf packet) (moves_keep packet) instant budget turn.begun turn.come turn.changed waits_begun turn.takes)

  pub frame_in : (b : WasBrought DrainMove instant turn.begun ip payload) → b.frame ≡ packet
  frame_in b = frame_is packet instant turn.begun ip payload waits_begun b

  pub frame_out : (b : WasBrought DrainMove instant turn.begun_again ip payload) → b.frame ≡ packet
  frame_out b = frame_is packet instant turn.begun_again ip payload waits_again b
