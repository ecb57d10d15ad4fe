-- The next identification stays a number of 16 bits in a socket's turn, and in a step of the egress path.
use Rattle.std.proofs.Common.{◌^◌, ◌<◌, Bool, List, Option}
use Rattle.net_base.specs.Device.{Move}
use Rattle.ip_wire.specs.IpAddress.{IpAddress}
use Rattle.ip_wire.specs.IpRepr.{IpRepr}
use Rattle.iface_ingress.specs.Socket.{Socket}
use Rattle.iface_tables.specs.Inner.{InnerValue}
use Rattle.iface_egress.specs.Departing.{host_after}
use Rattle.iface_egress.specs.Plan.{plan_of}
use Rattle.iface_egress.specs.declared.socket_set.SocketStorage.{SocketStorage}
use Rattle.iface_egress.specs.declared.egress_path.Sent.{Sent}
use Rattle.interface.specs.EgressPath.{ClearsIf, Egress}
use Rattle.interface.specs.Host.{Sender}
use Rattle.interface.specs.Pass.{Passed}
use Rattle.interface.specs.Serve.{ServesSlot}
use Rattle.interface.specs.declared.serve.Served.{Served}
use Rattle.lan.proofs.Worlds.Moves.Idents.{small_after}
use Rattle.proof_stack.proofs.Polls.HostKept.{clears_all_kept, slot_kept, step_kept}

abbrev pub IsSmall : InnerValue → Type 0
IsSmall i = i.ident < 2 ^ 16

goes : (i : InnerValue) (busy : Bool) (h : IpRepr) (sent : Sent) → IsSmall i → IsSmall (host_after (plan_of i busy h) sent h i)
goes i busy h sent small = small_after i.ident (plan_of i busy h) sent h small

pub slot_small : {D : Type 0} (moves : D → Move → D → Type 0) (turn : Option IpAddress) (x x' : Sender D) (slot slot' : SocketStorage Socket)
    (turned : Served) → ServesSlot moves turn x slot turned x' slot' → IsSmall x.inner → IsSmall x'.inner
slot_small {D} moves turn x x' slot slot' turned turns small =
    slot_kept moves IsSmall goes (λ i k so. so) turn x x' slot slot' turned turns small

-- THE STEP

module _ {D : Type 0} (moves : D → Move → D → Type 0) where
  pub clears_all_small : (many : Bool) (clear : Bool) (x x' : Sender D) → ClearsIf moves many x clear x' → IsSmall x.inner → IsSmall x'.inner
  clears_all_small many clear x x' clears small = clears_all_kept moves IsSmall goes (λ i k so. so) many clear x x' clears small

  pub step_small : (x : Sender D) (ps : List (SocketStorage Socket)) (e : Passed D) → Egress moves x ps e → IsSmall x.inner → IsSmall e.sender.inner
  step_small x ps e step small = step_kept moves IsSmall goes (λ i k so. so) x ps e step small
