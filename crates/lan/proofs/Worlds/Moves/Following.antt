-- A host that moves of its sockets lead to.
use Rattle.std.specs.Prelude.{◌≡◌, ℕ, ℤ, Bool, true, List}
use Rattle.interface.specs.Ingress.{is_read}
use Rattle.iface_ingress.specs.HardwareAddress.{HardwareAddress}
use Rattle.iface_ingress.specs.IpAddress.{IpAddress}
use Rattle.iface_tables.specs.Inner.{InnerValue}
use Rattle.interface.specs.State.{State}
use Rattle.lan.specs.Worlds.AtLink.Side.{Side}
use Rattle.lan.specs.Worlds.AtLink.Kinds.{other}
use Rattle.lan.specs.Worlds.AtLink.Moves.{Step, IsRun, run}
use Rattle.lan.specs.Worlds.AtLink.Parties.{Party, Net, party}
use Rattle.lan.specs.Worlds.Moves.Made.{Grows}
use Rattle.lan.specs.Worlds.Moves.Follows.{sockets_of}
use Rattle.lan.specs.Worlds.Moves.ReceivedFrames.{AreMoved, IsMoved}
use Rattle.lan.proofs.Worlds.Moves.Frames.{Frames, HaveAnswered, HaveLeft, and_gone, and_taken, answered_more, answered_narrowed, left_more, left_narrowed, one_moved}
use Rattle.lan.proofs.Worlds.Moves.Held.{AreHeld, Stays}
use Rattle.lan.proofs.Worlds.Moves.HopLimit.{HopLimit}
use Rattle.lan.proofs.Worlds.Moves.Leave.{AreLet, let_narrowed}
use Rattle.lan.specs.Worlds.Moves.HopLimit.{KnowsHop}

-- Moves lead from one net to another, and neither the other host nor the history is touched. Under the condition C the host showed itself at this
-- instant as it was, and made no reset; and if its device gives leave, as G says, too, then what its sockets offered went, or had to stay. N says
-- that it knew to which hardware address the frames for a destination go. The frames F were taken and sent.
pub record Reaches (names : List ℕ → Bool) (side : Side) (C G : Type 0) (N : IpAddress → HardwareAddress → Type 0) (F : Frames) (i0 : InnerValue) (t : ℤ) (net now : Net) : Type 0 where
  pub steps : List Step
  pub may : IsRun names net steps
  pub ends : run net steps ≡ now
  pub rests : party now (other side) ≡ party net (other side)
  pub history : now.history ≡ net.history
  pub grows : Grows (party net side) (party now side)
  pub held : C → AreHeld i0 t side net steps
  pub was_sent : C → G → AreLet i0 t N steps
  pub took : AreMoved side i0 t net F.taken steps
  pub left : HaveLeft i0 t C N F.gone steps
  pub answered : G → HaveAnswered i0 N F.gone steps

-- moves of this host lead to a net with these sockets, of which L holds with what was made, where Gives says what a device is that gives leave,
-- and Taken by which frames it came to be so
pub record Follows {D : Type 0} (names : List ℕ → Bool) (side : Side) (Gives : D → Type 0) (Taken : Frames → D → Type 0) (i0 : InnerValue) (t : ℤ) (L : State D → Party → Type 0) (net : Net) (s : State D) : Type 0 where
  pub now : Net
  pub frames : Frames
  pub taken : Taken frames s.device
  pub reaches : Reaches names side (Stays i0 s.host.inner) (Gives s.device) (KnowsHop i0 t frames.taken s.host.inner) frames i0 t net now
  pub hop_limit : HopLimit i0 t frames.taken s.host.inner
  pub sockets : (party now side).sockets ≡ sockets_of s.slots
  pub link : L s (party now side)

-- the conditions may be narrower ones
pub narrowed : (names : List ℕ → Bool) (side : Side) (C C' G G' : Type 0) (N N' : IpAddress → HardwareAddress → Type 0) (F : Frames) (i0 : InnerValue) (t : ℤ)
    (net now : Net) → (C' → C) → (G' → G) → ((remote : IpAddress) (to : HardwareAddress) → N' remote to → N remote to)
    → Reaches names side C G N F i0 t net now → Reaches names side C' G' N' F i0 t net now
narrowed names side C C' G G' N N' F i0 t net now back gives knew r = record {
  steps = r.steps;
  may = r.may;
  ends = r.ends;
  rests = r.rests;
  history = r.history;
  grows = r.grows;
  held = λ c. r.held (back c);
  was_sent = λ c g. let_narrowed i0 t N N' knew r.steps (r.was_sent (back c) (gives g));
  took = r.took;
  left = left_narrowed i0 t C C' N N' F.gone back knew r.steps r.left;
  answered = λ g. answered_narrowed i0 N N' F.gone knew r.steps (r.answered (gives g));
}

-- one frame more was taken
pub took_one : (names : List ℕ → Bool) (side : Side) (C G : Type 0) (N : IpAddress → HardwareAddress → Type 0) (F : Frames) (i0 : InnerValue) (t : ℤ) (net now : Net) (frame : List ℕ)
    (r : Reaches names side C G N F i0 t net now) → (is_read frame ≡ true → IsMoved side i0 t net frame r.steps) →
    Reaches names side C G N (and_taken F frame) i0 t net now
took_one names side C G N F i0 t net now frame r moved = record {
  steps = r.steps;
  may = r.may;
  ends = r.ends;
  rests = r.rests;
  history = r.history;
  grows = r.grows;
  held = r.held;
  was_sent = r.was_sent;
  took = one_moved side i0 t net F.taken frame r.steps r.took moved;
  left = r.left;
  answered = r.answered;
}

-- more frames were sent
pub sent_more : (names : List ℕ → Bool) (side : Side) (C G : Type 0) (N : IpAddress → HardwareAddress → Type 0) (F : Frames) (i0 : InnerValue) (t : ℤ) (net now : Net) (more : List (List ℕ)) →
    Reaches names side C G N F i0 t net now → Reaches names side C G N (and_gone F more) i0 t net now
sent_more names side C G N F i0 t net now more r = record {
  steps = r.steps;
  may = r.may;
  ends = r.ends;
  rests = r.rests;
  history = r.history;
  grows = r.grows;
  held = r.held;
  was_sent = r.was_sent;
  took = r.took;
  left = left_more i0 t C N F.gone more r.steps r.left;
  answered = λ g. answered_more i0 N F.gone more r.steps (r.answered g);
}
