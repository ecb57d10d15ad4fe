-- What is asked of the link between two hosts, so that what a host does in a poll is a run of moves.
use Rattle.std.specs.Prelude.{◌≡◌, ◌+◌, ◌≤◌, ℕ, ℤ, true, false, Bool, List, Option, Some, is_some}
use Rattle.sim_link.specs.Device.{Move, Took, Empty, Allowed}
use Rattle.iface_ingress.specs.ArpRepr.{ArpRepr}
use Rattle.sockets.specs.Packet.{PacketValue}
use Rattle.sockets.specs.declared.socket.Socket.{Socket}
use Rattle.iface_tables.specs.Inner.{InnerValue}
use Rattle.iface_egress.specs.Departure as Departures
use Rattle.iface_egress.specs.Fragments.{LeftValue}
use Rattle.iface_egress.specs.IsTransmitted.{Departs, IsTransmitted, FragmentIsTransmitted}
use Rattle.iface_egress.specs.Plan.{plan_of}
use Rattle.iface_egress.specs.declared.socket_set.SocketStorage.{SocketStorage}
use Rattle.iface_egress.specs.declared.egress_path.Sent.{Sent}
use Rattle.iface_ingress.specs.Arrives as Replies
use Rattle.iface_ingress.specs.Arrives.{Arrived, ArrivesAs, whole_arrived}
use Rattle.iface_ingress.specs.Incoming.{IncomingValue, IsContent}
use Rattle.iface_ingress.specs.Reassembled.{Assemblers}
use Rattle.interface.specs.Ingress.{is_read}
use Rattle.interface.specs.Polls.{begun}
use Rattle.interface.specs.Host.{ReportsValue}
use Rattle.interface.specs.State.{State, state, at_device, telling}
use Rattle.interface.specs.Serve.{is_done}
use Rattle.lan.specs.Worlds.AtLink.Parties.{Party}
use Rattle.lan.specs.Worlds.Moves.Made.{Grows, IsMade, IsWide, BringsMade}

-- the frame carries this to the host
abbrev pub IsContentAt : {D : Type 0} → State D → List ℕ → Option IncomingValue → Type 0
IsContentAt s frame content = IsContent s.host.inner.hardware s.host.inner.checksums frame content

-- what the content brings, once it is whole
abbrev pub brought : {D : Type 0} → State D → Option IncomingValue → Option IncomingValue
brought s content = whole_arrived s.host.inner s.host.timeout s.host.assemblers content

-- it arrives, among these sockets
abbrev pub ArrivesAt : {D : Type 0} → State D → Option IncomingValue → Assemblers → Arrived → Type 0
ArrivesAt s content assemblers a = ArrivesAs s.host.inner s.host.timeout s.host.assemblers s.slots content assemblers a

-- the host after it, at this device
abbrev pub arrived_at : {D : Type 0} → State D → D → Assemblers → Arrived → State D
arrived_at s d assemblers a = state d (record s.host { inner = a.inner; assemblers = assemblers }) s.slots

-- the host that sends, after a packet or a fragment
abbrev pub sent_at : {D : Type 0} → State D → D → InnerValue → Option LeftValue → State D
sent_at s d inner left = state d (record s.host { inner = inner; left = left }) s.slots

module _ {D : Type 0} (moves : D → Move → D → Type 0) where
  -- L: what holds of a host at its device, where a party made so much, and so many packets were counted. It is kept by each thing that a
  -- poll does, and a packet's egress path counts one at most. A frame that is taken brings only what the other host q made. L says nothing
  -- of the sockets.
  pub record IsLink (q : Party) (L : ℕ → State D → Party → Type 0) : Type 0 where
    pub more : (n m : ℕ) (s : State D) (p : Party) → n ≤ m → L n s p → L m s p
    pub grown : (n : ℕ) (s : State D) (slots : List (SocketStorage Socket)) (p p' : Party) → Grows p p' → L n s p → L n (state s.device s.host slots) p'
    -- nor of what is told of multicast groups
    pub hears : (n : ℕ) (s : State D) (p : Party) (reports : Option ReportsValue) → L n s p → L n (state s.device (telling s.host reports) s.slots) p
    pub maintenance : (n : ℕ) (t : ℤ) (s : State D) (p : Party) → L n s p → L n (begun t s) p
    pub looks : (n : ℕ) (s : State D) (p : Party) (d : D) → moves s.device (Empty s.host.inner.instant) d → L n s p → L n (at_device s d) p
    pub skips : (n : ℕ) (s : State D) (p : Party) (frame : List ℕ) (d : D) → moves s.device (Took s.host.inner.instant frame) d → is_read frame ≡ false →
        L n s p →
        L n (at_device s d) p
    pub brings :
        (n : ℕ) (s : State D) (p : Party) (frame : List ℕ) (d : D) (content : Option IncomingValue) → moves s.device (Took s.host.inner.instant frame) d →
        is_read frame ≡ true
        → IsContentAt s frame content → L n s p → BringsMade q s.host.inner.checksums (brought s content)
    pub takes :
        (n : ℕ) (s : State D) (p : Party) (frame : List ℕ) (d : D) (content : Option IncomingValue) (assemblers : Assemblers) (a : Arrived) →
        moves s.device (Took s.host.inner.instant frame) d
        → is_read frame ≡ true → IsContentAt s frame content → ArrivesAt s content assemblers a → L n s p → L n (arrived_at s d assemblers a) p
    pub leave : (n : ℕ) (s : State D) (p : Party) (given : Bool) (d : D) → moves s.device (Allowed s.host.inner.instant given) d → L n s p →
        L n (at_device s d) p
    -- an ARP packet answers one that was taken
    pub tells :
        (n : ℕ) (s : State D) (p : Party) (frame : List ℕ) (d0 : D) (content : Option IncomingValue) (assemblers : Assemblers) (a : Arrived) (packet : ArpRepr)
        (gone : Bool) (d : D)
        → moves s.device (Took s.host.inner.instant frame) d0 → is_read frame ≡ true → IsContentAt s frame content → ArrivesAt s content assemblers a →
        a.reply ≡ Some (Replies.Tells packet)
        → Departs moves d0 a.inner (Departures.Tells packet) gone d → L n (arrived_at s d0 assemblers a) p → L n (at_device (arrived_at s d0 assemblers a) d) p
    -- a packet's egress path; one that is done with was made
    pub goes :
        (n : ℕ) (s : State D) (p : Party) (x : PacketValue) (sent : Sent) (d : D) (inner : InnerValue) (left : Option LeftValue) → IsWide x →
        (is_done sent ≡ true → IsMade p x)
        → IsTransmitted moves s.device s.host.inner s.host.left x (plan_of s.host.inner (is_some s.host.left) x.header) sent d inner left → L n s p
        → L (n + 1) (sent_at s d inner left) p
    -- a later fragment, which counts nothing
    pub fragment :
        (n : ℕ) (s : State D) (p : Party) (l : LeftValue) (gone : Bool) (d : D) (left : Option LeftValue) → s.host.left ≡ Some l →
        FragmentIsTransmitted moves s.device s.host.inner l gone d left
        → L n s p → L n (sent_at s d s.host.inner left) p
