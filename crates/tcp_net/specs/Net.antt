-- Many connections, each told by its two ends: the addresses and ports of both, as two numbers.
use Rattle.std.specs.Prelude.{ℕ, Bool, ◌&&◌, if◌then◌else◌, nat_eq, List, [], ◌∷◌}
use Rattle.tcp_theory.specs.Segment.{Segment}
use Rattle.tcp_theory.specs.Alone.{AreResets}
use Rattle.tcp_peer.specs.Run.{Scene, Event, happens, start}
use Rattle.tcp_net.specs.Joint.{MayDo}

-- at a local and a remote end stands the side that has the local one; its peer stands at the same two, the other way round
abbrev pub Net : Type 0
Net = ℕ → ℕ → Scene

abbrev pub is_at : ℕ → ℕ → ℕ → ℕ → Bool
is_at l r m n = nat_eq l m && nat_eq r n

abbrev pub updated : Net → ℕ → ℕ → Scene → Net
updated net m n new = λ l r. if is_at l r m n then new else net l r

pub record NetEvent : Type 0 where
  pub local : ℕ
  pub remote : ℕ
  pub event : Event

-- what comes for a connection was sent by the one with its ends the other way round, or is a reset
abbrev pub MayHappenAt : Net → NetEvent → Type 0
MayHappenAt net h = MayDo (net h.local h.remote) (net h.remote h.local).side h.event

abbrev pub goes_on : Net → NetEvent → Net
goes_on net h = updated net h.local h.remote (happens (net h.local h.remote) h.event)

abbrev pub IsNetHistory : Net → List NetEvent → Type 0
IsNetHistory net [] = Unit {0}
IsNetHistory net (h ∷ rest) = MayHappenAt net h × IsNetHistory (goes_on net h) rest

abbrev pub play_all : Net → List NetEvent → Net
play_all net [] = net
play_all net (h ∷ rest) = play_all (goes_on net h) rest

-- no connection is opened, and hosts have sent resets alone
abbrev pub begin_all : (ℕ → ℕ → ℕ) → (ℕ → ℕ → List Segment) → Net
begin_all rooms resets = λ l r. start (rooms l r) (resets l r)

abbrev pub AllResets : (ℕ → ℕ → List Segment) → Type 0
AllResets resets = (l r : ℕ) → AreResets (resets l r)
