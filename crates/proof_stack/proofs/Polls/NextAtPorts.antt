-- A link that brings what a port sent, in its one frame, brings it next.
use Rattle.std.proofs.Common.{◌≡◌, ℕ, ◌<◌, ℤ, List, [], ◌∷◌, ◌++◌, length, arith}
use Rattle.ip_wire.specs.HardwareAddress.{HardwareAddress}
use Rattle.sim_link.specs.Port.{PortValue, PortMove}
use Rattle.iface_ingress.specs.Packet.{PacketValue}
use Rattle.iface_tables.specs.Inner.{InnerValue}
use Rattle.proof_stack.specs.Progress.NeighborResolution.{IsNext}
use Rattle.proof_stack.specs.Progress.Delivered.{Brings}
use Rattle.proof_stack.specs.Progress.Inbox.{WaitsAmong}
use Rattle.proof_stack.specs.Progress.Leave.{BringsWhatWent}
use Rattle.proof_stack.specs.Progress.Queued.{frame_under}
use Rattle.proof_stack.proofs.Polls.BetweenPorts.{brought}
use Rattle.proof_stack.proofs.Polls.Inboxes.{Frames, ports, waiting}

pub next_at : (t : ℤ) (device : PortValue) (frame : List ℕ) (more : Frames) → waiting device ≡ frame ∷ more → IsNext PortMove t device frame
next_at t device frame more waits other new goes = (ports.first device new t frame other more waits goes).0

module _ (device : PortValue) (frame : List ℕ) (following : Frames) where
  none_before : (before : Frames) → length before < 1 → waiting device ≡ before ++ frame ∷ following → waiting device ≡ frame ∷ following
  none_before [] few waits = waits
  none_before (f ∷ fs) few waits = absurd (omega (arith, few))

pub brought_next : (i : InnerValue) (to : HardwareAddress) (p : PacketValue) (old new : PortValue) (t : ℤ) (other : PortValue)
    → BringsWhatWent old new other 1 → Brings PortMove PortMove i to p old new t other
brought_next i to p old new t other brings all are went =
    let lies : WaitsAmong waiting other 1 i to p all = brought i to p old new other 1 brings all are went in
    record {
      went = lies.went;
      padding = lies.padding;
      next =
          next_at t other (frame_under i lies.went.ident to p ++ lies.padding) lies.following
          (none_before other (frame_under i lies.went.ident to p ++ lies.padding) lies.following lies.before lies.few lies.frames);
    }
