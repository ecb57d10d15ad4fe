-- What each thing that a poll does keeps.
use Rattle.std.specs.Prelude.{◌≡◌, ℕ, ◌+◌, ◌≤◌, ℤ, Bool, true, false, List, ◌∷◌, ◌++◌, length, Option, Some}
use Rattle.net_base.specs.Device.{Move}
use Rattle.ip_wire.specs.IpAddress.{IpAddress}
use Rattle.iface_ingress.specs.Socket.{Socket}
use Rattle.iface_tables.specs.Inner.{InnerValue}
use Rattle.iface_egress.specs.declared.socket_set.SocketStorage.{SocketStorage}
use Rattle.iface_egress.specs.Fragments.{LeftValue}
use Rattle.iface_egress.specs.Parked.{ServesParked}
use Rattle.interface.specs.Host.{HostValue, Sender}
use Rattle.interface.specs.EgressPath.{FragmentLeaves}
use Rattle.interface.specs.Serve.{ServesSlot}
use Rattle.interface.specs.declared.serve.Served.{Served}
use Rattle.interface.specs.State.{State, sending_as}
use Rattle.interface.specs.Ingress.{Takes}
use Rattle.interface.specs.Polls.{begun}
use Rattle.interface.specs.Used.{is_used}

-- the host's call runs, at this instant
abbrev pub RunsAt : ℤ → InnerValue → Type 0
RunsAt t i = (i.instant ≡ t) × (i.initial ≡ false)

-- and it is a host without host requirements, which parks nothing
abbrev pub RunsAloneAt : ℤ → InnerValue → Type 0
RunsAloneAt t i = (i.instant ≡ t) × (i.initial ≡ false) × (i.host_requirements ≡ false)

module _ {D : Type 0} (moves : D → Move → D → Type 0) (t : ℤ) (P : State D → Type 0) where
  -- maintenance keeps it
  abbrev pub KeptByMaintenance : Type 0
  KeptByMaintenance = (s : State D) → P s → P (begun t s)

  -- a look for a frame keeps it, and a frame with all that it brings and what answers it
  abbrev pub KeptByArrivals : Type 0
  KeptByArrivals = (s s' : State D) (answer : Option Bool) → RunsAt t s.host.inner → P s → Takes moves s answer s' → P s'

  -- the fragment that waits keeps it, whether it goes or not
  abbrev pub KeptByFragments : Type 0
  KeptByFragments =
      (h : HostValue) (ps : List (SocketStorage Socket)) (x x' : Sender D) (l : LeftValue) (gone : Bool) → RunsAt t x.inner → x.left ≡ Some l
      → P (sending_as h x ps) → FragmentLeaves moves l x gone x' → x'.inner ≡ x.inner → P (sending_as h x' ps)

  -- a socket's turn at its slot keeps it
  abbrev pub KeptByTurns : Type 0
  KeptByTurns =
      (turn : Option IpAddress) (h : HostValue) (before after : List (SocketStorage Socket)) (p p' : SocketStorage Socket) (x x' : Sender D) (turned : Served) →
      RunsAt t x.inner
      → P (sending_as h x (before ++ p ∷ after)) → ServesSlot moves turn x p turned x' p' → P (sending_as h x' (before ++ p' ∷ after))

  -- with host requirements the packets that wait for their next hops keep it, whether they leave or not
  abbrev pub KeptByParked : Type 0
  KeptByParked =
      (h : HostValue) (ps : List (SocketStorage Socket)) (x x' : Sender D) (all : Bool) → RunsAt t x.inner → x.inner.host_requirements ≡ true
      → P (sending_as h x ps) → ServesParked moves x all x' → P (sending_as h x' ps)

  -- each of the five
  pub record IsKept : Type 0 where
    pub maintenance : KeptByMaintenance
    pub arrivals : KeptByArrivals
    pub fragments : KeptByFragments
    pub parked : KeptByParked
    pub turns : KeptByTurns

  -- The same of a host without host requirements.
  pub record IsKeptAlone : Type 0 where
    pub maintenance : KeptByMaintenance
    pub arrivals : (s s' : State D) (answer : Option Bool) → RunsAloneAt t s.host.inner → P s → Takes moves s answer s' → P s'
    pub fragments : (h : HostValue) (ps : List (SocketStorage Socket)) (x x' : Sender D) (l : LeftValue) (gone : Bool) → RunsAloneAt t x.inner → x.left ≡ Some l
        → P (sending_as h x ps) → FragmentLeaves moves l x gone x' → x'.inner ≡ x.inner → P (sending_as h x' ps)
    pub turns : (turn : Option IpAddress) (h : HostValue) (before after : List (SocketStorage Socket)) (p p' : SocketStorage Socket) (x x' : Sender D)
        (turned : Served) → RunsAloneAt t x.inner
        → P (sending_as h x (before ++ p ∷ after)) → ServesSlot moves turn x p turned x' p' → P (sending_as h x' (before ++ p' ∷ after))

-- WITH A COUNT

-- The same of a property that counts: an arrival, a fragment, a packet that waited and a turn each raise the count by one at most, for each of them
-- asks the device for one send at most.
module _ {D : Type 0} (moves : D → Move → D → Type 0) (t : ℤ) (Q : ℕ → State D → Type 0) where
  pub record IsCounted : Type 0 where
    pub more : (n m : ℕ) (s : State D) → n ≤ m → Q n s → Q m s
    pub maintenance : (n : ℕ) (s : State D) → Q n s → Q n (begun t s)
    pub arrivals : (n : ℕ) (s s' : State D) (answer : Option Bool) → RunsAt t s.host.inner → Q n s → Takes moves s answer s' → Q (n + 1) s'
    pub fragments : (n : ℕ) (h : HostValue) (ps : List (SocketStorage Socket)) (x x' : Sender D) (l : LeftValue) (gone : Bool) → RunsAt t x.inner → x.left ≡ Some l
        → Q n (sending_as h x ps) → FragmentLeaves moves l x gone x' → x'.inner ≡ x.inner → Q (n + 1) (sending_as h x' ps)
    pub parked : (n : ℕ) (h : HostValue) (ps : List (SocketStorage Socket)) (x x' : Sender D) (all : Bool) → RunsAt t x.inner
        → x.inner.host_requirements ≡ true → Q n (sending_as h x ps) → ServesParked moves x all x'
        → Q (n + length x.inner.parking.packets) (sending_as h x' ps)
    pub turns : (turn : Option IpAddress) (n : ℕ) (h : HostValue) (before after : List (SocketStorage Socket)) (p p' : SocketStorage Socket) (x x' : Sender D)
        (turned : Served) → RunsAt t x.inner
        → Q n (sending_as h x (before ++ p ∷ after)) → ServesSlot moves turn x p turned x' p' → Q (n + 1) (sending_as h x' (before ++ p' ∷ after))

-- An arrival, a packet that waited and a socket's turn each raise the count by one at most, and the fragment that waits by `fragment`. A free slot
-- has no turn.
module _ {D : Type 0} (moves : D → Move → D → Type 0) (t : ℤ) (fragment : ℕ) (Q : ℕ → State D → Type 0) where
  pub record IsPriced : Type 0 where
    pub more : (n m : ℕ) (s : State D) → n ≤ m → Q n s → Q m s
    pub maintenance : (n : ℕ) (s : State D) → Q n s → Q n (begun t s)
    pub arrivals : (n : ℕ) (s s' : State D) (answer : Option Bool) → RunsAt t s.host.inner → Q n s → Takes moves s answer s' → Q (n + 1) s'
    pub fragments : (n : ℕ) (h : HostValue) (ps : List (SocketStorage Socket)) (x x' : Sender D) (l : LeftValue) (gone : Bool) → RunsAt t x.inner → x.left ≡ Some l
        → Q n (sending_as h x ps) → FragmentLeaves moves l x gone x' → x'.inner ≡ x.inner → Q (n + fragment) (sending_as h x' ps)
    pub parked : (n : ℕ) (h : HostValue) (ps : List (SocketStorage Socket)) (x x' : Sender D) (all : Bool) → RunsAt t x.inner
        → x.inner.host_requirements ≡ true → Q n (sending_as h x ps) → ServesParked moves x all x'
        → Q (n + length x.inner.parking.packets) (sending_as h x' ps)
    pub turns : (turn : Option IpAddress) (n : ℕ) (h : HostValue) (before after : List (SocketStorage Socket)) (p p' : SocketStorage Socket) (x x' : Sender D)
        (turned : Served) → is_used p ≡ true
        → RunsAt t x.inner → Q n (sending_as h x (before ++ p ∷ after)) → ServesSlot moves turn x p turned x' p' →
        Q (n + 1) (sending_as h x' (before ++ p' ∷ after))

-- THE SAME OF A HOST WITHOUT HOST REQUIREMENTS

module _ {D : Type 0} (moves : D → Move → D → Type 0) (t : ℤ) (Q : ℕ → State D → Type 0) where
  pub record IsCountedAlone : Type 0 where
    pub more : (n m : ℕ) (s : State D) → n ≤ m → Q n s → Q m s
    pub maintenance : (n : ℕ) (s : State D) → Q n s → Q n (begun t s)
    pub arrivals : (n : ℕ) (s s' : State D) (answer : Option Bool) → RunsAloneAt t s.host.inner → Q n s → Takes moves s answer s' → Q (n + 1) s'
    pub fragments : (n : ℕ) (h : HostValue) (ps : List (SocketStorage Socket)) (x x' : Sender D) (l : LeftValue) (gone : Bool) → RunsAloneAt t x.inner
        → x.left ≡ Some l → Q n (sending_as h x ps) → FragmentLeaves moves l x gone x' → x'.inner ≡ x.inner → Q (n + 1) (sending_as h x' ps)
    pub turns : (turn : Option IpAddress) (n : ℕ) (h : HostValue) (before after : List (SocketStorage Socket)) (p p' : SocketStorage Socket) (x x' : Sender D)
        (turned : Served) → RunsAloneAt t x.inner
        → Q n (sending_as h x (before ++ p ∷ after)) → ServesSlot moves turn x p turned x' p' → Q (n + 1) (sending_as h x' (before ++ p' ∷ after))

module _ {D : Type 0} (moves : D → Move → D → Type 0) (t : ℤ) (fragment : ℕ) (Q : ℕ → State D → Type 0) where
  pub record IsPricedAlone : Type 0 where
    pub more : (n m : ℕ) (s : State D) → n ≤ m → Q n s → Q m s
    pub maintenance : (n : ℕ) (s : State D) → Q n s → Q n (begun t s)
    pub arrivals : (n : ℕ) (s s' : State D) (answer : Option Bool) → RunsAloneAt t s.host.inner → Q n s → Takes moves s answer s' → Q (n + 1) s'
    pub fragments : (n : ℕ) (h : HostValue) (ps : List (SocketStorage Socket)) (x x' : Sender D) (l : LeftValue) (gone : Bool) → RunsAloneAt t x.inner
        → x.left ≡ Some l → Q n (sending_as h x ps) → FragmentLeaves moves l x gone x' → x'.inner ≡ x.inner → Q (n + fragment) (sending_as h x' ps)
    pub turns : (turn : Option IpAddress) (n : ℕ) (h : HostValue) (before after : List (SocketStorage Socket)) (p p' : SocketStorage Socket) (x x' : Sender D)
        (turned : Served) → is_used p ≡ true
        → RunsAloneAt t x.inner → Q n (sending_as h x (before ++ p ∷ after)) → ServesSlot moves turn x p turned x' p' →
        Q (n + 1) (sending_as h x' (before ++ p' ∷ after))
