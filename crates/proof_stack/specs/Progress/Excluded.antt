-- What the law of polls refuses: rules by which a host without anything to do wants to be polled again and again.
use Rattle.std.specs.Prelude.{◌≡◌, ℕ, ◌≤◌, ℤ, false, List, Option}
use Rattle.net_base.specs.Device.{Move, Empty}
use Rattle.iface_ingress.specs.Socket.{Socket}
use Rattle.iface_tables.specs.Inner.{InnerValue}
use Rattle.iface_egress.specs.Fragments.{LeftValue}
use Rattle.iface_egress.specs.declared.socket_set.SocketStorage.{SocketStorage}
use Rattle.interface.specs.Polls.{Polls}
use Rattle.interface.specs.State.{State}
use Rattle.proof_stack.specs.Progress.OfUse.{IsOfUse}
use Rattle.proof_stack.specs.Progress.Patience.{ArePatient}

-- a device that is only looked at, and never has a frame
abbrev pub Lonely : Unit {0} → Move → Unit {0} → Type 0
Lonely old m new = (t : ℤ) × (m ≡ Empty t)

-- when a host wants to be polled, by its tables, the datagram that is half sent, and its sockets
abbrev pub Rule : Type 0
Rule = InnerValue → Option LeftValue → List (SocketStorage Socket) → Option ℤ

-- what the law says of polls at that device, of another rule
abbrev pub IsKeptBy : Rule → Type 0
IsKeptBy rule = (t : ℤ) (budget : ℕ) (s s' : State (Unit {0})) → 1 ≤ budget → ArePatient s.slots → Polls Lonely t budget s false s'
    → IsOfUse Lonely t s.device s'.device (rule s'.host.inner s'.host.left s'.slots)
