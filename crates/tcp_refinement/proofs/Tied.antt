-- A socket that is tied to some side alongside its peer, and what keeps the tie.
use Rattle.std.proofs.Common.{◌≡◌, Bool, true, false, if◌then◌else◌, refl, sym, ap, subst}
use Rattle.tcp_theory.specs.Invariant.{HoldsBetween, IsEarly, HasNoStream}
use Rattle.tcp_theory.specs.Move.{Move, May, after}
use Rattle.tcp_theory.specs.Side.{Side, Phase, IsConnected}
use Rattle.tcp_theory.specs.Side.Phase.{Synchronized}
use Rattle.tcp_theory.proofs.Theorem.{HoldsBetween-after}
use Rattle.tcp_block.specs.State.{State}
use Rattle.tcp_block.specs.State.TheVariants as In
use Rattle.tcp_block.specs.States.{takes_writes, accepts_data}
use Rattle.tcp_block.specs.Value.{TcpValue}
use Rattle.tcp_refinement.specs.Tie.{Core, Past, past_of, unsent, FitsIn, IsConnectedAs, phase_of, is_closed_in, is_finished_in, Keeps, IsSideOf, core_of}

-- a socket with this core and this past is a side alongside this peer
pub record Tied (c : Core) (p : Past) (t : Side) : Type 0 where
  pub side : Side
  pub past : past_of side ≡ p
  pub fits : FitsIn c.state c (unsent side)
  pub holds : HoldsBetween side t

-- a move of the side leads there
pub tied_by : (c : Core) (p : Past) (s t : Side) (move : Move) → HoldsBetween s t → May s t move → past_of (after s move) ≡ p →
    FitsIn c.state c (unsent (after s move)) → Tied c p t
tied_by c p s t move holds may past fits = record { side = after s move; past = past; fits = fits; holds = HoldsBetween-after s t move holds may }

pub stays : (c : Core) (p : Past) (s t : Side) → HoldsBetween s t → past_of s ≡ p → FitsIn c.state c (unsent s) → Tied c p t
stays c p s t holds past fits = record { side = s; past = past; fits = fits; holds = holds }

-- from SYN-RECEIVED to TIME-WAIT
abbrev pub is_connected : State → Bool
is_connected In.Closed = false
is_connected In.Listen = false
is_connected In.SynSent = false
is_connected other = true

pub fits_connected : (state : State) (c : Core) (s : Side) → is_connected state ≡ true → FitsIn state c s → IsConnectedAs c s
fits_connected In.Closed c s e f = absurd (cc)
fits_connected In.Listen c s e f = absurd (cc)
fits_connected In.SynSent c s e f = absurd (cc)
fits_connected other c s e f = f

pub connected_fits : (state : State) (c : Core) (s : Side) → is_connected state ≡ true → IsConnectedAs c s → FitsIn state c s
connected_fits In.Closed c s e f = absurd (cc)
connected_fits In.Listen c s e f = absurd (cc)
connected_fits In.SynSent c s e f = absurd (cc)
connected_fits other c s e f = f

pub phase_connected : (state : State) → IsConnected (phase_of state)
phase_connected In.SynReceived = tt
phase_connected other = tt

pub is_connected_side : (c : Core) (s : Side) → IsConnectedAs c (unsent s) → IsConnected s.phase
is_connected_side c s k = subst IsConnected (sym k.phase) (phase_connected c.state)

-- what a test of the state says
pub record Writes (state : State) : Type 0 where
  pub connected : is_connected state ≡ true
  pub phase : phase_of state ≡ Synchronized
  pub closed : is_closed_in state ≡ false

pub writes_in : (state : State) → takes_writes state ≡ true → Writes state
writes_in In.Established e = record { connected = refl; phase = refl; closed = refl }
writes_in In.CloseWait e = record { connected = refl; phase = refl; closed = refl }
writes_in other e = absurd (cc)

pub record Takes (state : State) : Type 0 where
  pub connected : is_connected state ≡ true
  pub phase : phase_of state ≡ Synchronized
  pub finished : is_finished_in state ≡ false

pub takes_in : (state : State) → accepts_data state ≡ true → Takes state
takes_in In.Established e = record { connected = refl; phase = refl; finished = refl }
takes_in In.FinWait1 e = record { connected = refl; phase = refl; finished = refl }
takes_in In.FinWait2 e = record { connected = refl; phase = refl; finished = refl }
takes_in other e = absurd (cc)

-- before ESTABLISHED there is no stream
pub no_stream : (s t : Side) (phase : Phase) → HoldsBetween s t → s.phase ≡ phase → IsEarly phase → HasNoStream s
no_stream s t phase holds e early = holds.0.well_formed.early (subst IsEarly (sym e) early)

pub if_so : {A : Type 0} (test : Bool) (x y : A) → test ≡ true → (if test then x else y) ≡ x
if_so test x y e = ap (λ (t : Bool). if t then x else y) e

pub if_not : {A : Type 0} (test : Bool) (x y : A) → test ≡ false → (if test then x else y) ≡ y
if_not test x y e = ap (λ (t : Bool). if t then x else y) e

-- two sockets keep the invariant, where each side that the first may be leads to one that it is afterwards
pub keeps_by :
    (v v' w : TcpValue) (p p' q : Past) → Keeps v p w q
    → ((s t : Side) → past_of s ≡ p → past_of t ≡ q → IsSideOf v s → HoldsBetween s t → Tied (core_of v') p' t)
    → Keeps v' p' w q
keeps_by v v' w p p' q k leads =
    let r = leads k.side k.peer_side k.past k.peer_side_past k.fits k.holds in
    record { side = r.side; peer_side = k.peer_side; past = r.past; peer_side_past = k.peer_side_past; fits = r.fits; peer_side_fits = k.peer_side_fits; holds = r.holds }
