-- A net after moves of one host.
use Rattle.std.proofs.Common.{◌≡◌, ℕ, ℤ, Bool, List, [], ◌∷◌, ◌++◌, Option, refl, sym, ap, ◌∙◌, subst}
use Rattle.std.specs.Prelude.{slice_get}
use Rattle.lan.specs.Worlds.AtLink.Side.{Side}
use Rattle.lan.specs.Worlds.AtLink.Side.TheVariants.{A, B}
use Rattle.lan.specs.Worlds.AtLink.Kinds.{other}
use Rattle.lan.specs.Worlds.AtLink.Moves.{Move, party_after, history_after, May, Step, after, IsRun}
use Rattle.lan.specs.Worlds.AtLink.Parties.{Socket, Datagram, Party, Net, party}
use Rattle.tcp_refinement.specs.Host.{Made}
use Rattle.lan.proofs.Worlds.AtLink.Extended.{run-append, IsRun-append}
use Rattle.iface_ingress.specs.HardwareAddress.{HardwareAddress}
use Rattle.iface_ingress.specs.IpAddress.{IpAddress}
use Rattle.iface_tables.specs.Inner.{InnerValue}
use Rattle.lan.proofs.Worlds.Moves.Following.{Reaches}
use Rattle.lan.proofs.Worlds.Moves.Frames.{Frames, all_moved_on, answered-append, left-append, no_frames}
use Rattle.lan.proofs.Worlds.Moves.Held.{AreHeld, IsHeld, held-append}
use Rattle.lan.proofs.Worlds.Moves.Leave.{IsLet, let-append}
use Rattle.lan.specs.Worlds.Moves.Made.{Grows}
use Rattle.lan.specs.Worlds.Moves.Answered.{HasAnswered}
use Rattle.lan.specs.Worlds.Moves.WasSent.{HasLeft}
use Rattle.lan.proofs.Worlds.Moves.Slots.{get_more}

abbrev pub step_of : Side → Move → Step
step_of side move = record { side = side; move = move }

pub mine : (net : Net) (side : Side) (move : Move) → party (after net (step_of side move)) side ≡ party_after (party net side) move
mine net A move = refl
mine net B move = refl

pub theirs : (net : Net) (side : Side) (move : Move) → party (after net (step_of side move)) (other side) ≡ party net (other side)
theirs net A move = refl
theirs net B move = refl

-- the sides are this one and the other
pub either_side : (side : Side) (Q : Side → Type 0) → Q side → Q (other side) → (s : Side) → Q s
either_side A Q this that A = this
either_side A Q this that B = that
either_side B Q this that A = that
either_side B Q this that B = this

-- what holds of the party after a move
pub there : (net : Net) (side : Side) (move : Move) (Q : Party → Type 0) → Q (party_after (party net side) move) →
    Q (party (after net (step_of side move)) side)
there net side move Q holds = subst Q (sym (mine net side move)) holds

-- MORE WAS MADE

pub grows_not : (p : Party) → Grows p p
grows_not p = record { segments = λ x is. is; datagrams = λ x is. is }

pub grows_then : (a b c : Party) → Grows a b → Grows b c → Grows a c
grows_then a b c first second = record {
  segments = λ x is. second.segments x (first.segments x is);
  datagrams = λ x is. second.datagrams x (first.datagrams x is);
}

pub grows_to : (p p' : Party) → p'.segments ≡ p.segments → p'.datagrams ≡ p.datagrams → Grows p p'
grows_to p p' segments datagrams = record {
  segments = λ x is. (is.0, ap (λ (xs : List Made). slice_get xs is.0) segments ∙ is.1);
  datagrams = λ x is. (is.0, ap (λ (xs : List Datagram). slice_get xs is.0) datagrams ∙ is.1);
}

pub grows_by : (p p' : Party) (segments : List Made) (datagrams : List Datagram) → p'.segments ≡ p.segments ++ segments →
    p'.datagrams ≡ p.datagrams ++ datagrams → Grows p p'
grows_by p p' segments datagrams s d = record {
  segments = λ x is. (is.0, ap (λ (xs : List Made). slice_get xs is.0) s ∙ get_more p.segments segments is.0 x is.1);
  datagrams = λ x is. (is.0, ap (λ (xs : List Datagram). slice_get xs is.0) d ∙ get_more p.datagrams datagrams is.0 x is.1);
}

module _ (names : List ℕ → Bool) (side : Side) (C G : Type 0) (N : IpAddress → HardwareAddress → Type 0) (i0 : InnerValue) (t : ℤ) where
  abbrev pub here : (net : Net) → Reaches names side C G N no_frames i0 t net net
  here net = record {
    steps = [];
    may = tt;
    ends = refl;
    rests = refl;
    history = refl;
    grows = grows_not (party net side);
    held = λ c. tt;
    was_sent = λ c g. tt;
    took = tt;
    left = tt;
    answered = λ g. tt;
  }

module _ (names : List ℕ → Bool) (side : Side) (C G : Type 0) (N : IpAddress → HardwareAddress → Type 0) (F : Frames) (i0 : InnerValue) (t : ℤ) where
  abbrev pub proceeds : (net now : Net) (move : Move) → Reaches names side C G N F i0 t net now → May names now side move → history_after now.history move ≡ now.history
      → Grows (party now side) (party_after (party now side) move) → (C → IsHeld i0 t now side move) → (C → G → IsLet i0 t N move) →
      HasLeft i0 t C N F.gone move → (G → HasAnswered i0 N F.gone move) → Reaches names side C G N F i0 t net (after now (step_of side move))
  proceeds net now move r may same grows held goes left answered = record {
    steps = r.steps ++ step_of side move ∷ [];
    may = IsRun-append names net r.steps (step_of side move ∷ []) r.may (subst (λ n. IsRun names n (step_of side move ∷ [])) (sym r.ends) (may, tt));
    ends = run-append net r.steps (step_of side move ∷ []) ∙ ap (λ n. after n (step_of side move)) r.ends;
    rests = theirs now side move ∙ r.rests;
    history = same ∙ r.history;
    grows = grows_then (party net side) (party now side) (party (after now (step_of side move)) side) r.grows
        (there now side move (Grows (party now side)) grows);
    held = λ c. held-append i0 t side net r.steps (step_of side move ∷ []) (r.held c)
        (subst (λ n. AreHeld i0 t side n (step_of side move ∷ [])) (sym r.ends) ((refl, held c), tt));
    was_sent = λ c g. let-append i0 t N r.steps (step_of side move ∷ []) (r.was_sent c g) (goes c g, tt);
    took = all_moved_on side i0 t net F.taken r.steps (step_of side move ∷ []) r.took;
    left = left-append i0 t C N F.gone r.steps (step_of side move ∷ []) r.left (left, tt);
    answered = λ g. answered-append i0 N F.gone r.steps (step_of side move ∷ []) (r.answered g) (answered g, tt);
  }

-- ONE MOVE

-- moves of this host lead on, to a net with these sockets
pub record Moved (names : List ℕ → Bool) (side : Side) (C G : Type 0) (N : IpAddress → HardwareAddress → Type 0) (F : Frames) (i0 : InnerValue) (t : ℤ) (net now : Net) (sockets : List (Option Socket)) : Type 0 where
  pub next : Net
  pub reaches : Reaches names side C G N F i0 t net next
  pub sockets_are : (party next side).sockets ≡ sockets
  pub grows : Grows (party now side) (party next side)

module _ (names : List ℕ → Bool) (side : Side) (C G : Type 0) (N : IpAddress → HardwareAddress → Type 0) (F : Frames) (i0 : InnerValue) (t : ℤ) (net now : Net) (r : Reaches names side C G N F i0 t net now) where
  abbrev pub stays : (sockets : List (Option Socket)) → (party now side).sockets ≡ sockets → Moved names side C G N F i0 t net now sockets
  stays sockets same = record { next = now; reaches = r; sockets_are = same; grows = grows_not (party now side) }

  abbrev pub moves_by : (move : Move) (sockets : List (Option Socket)) → May names now side move → history_after now.history move ≡ now.history
      → (party_after (party now side) move).sockets ≡ sockets → Grows (party now side) (party_after (party now side) move) →
      (C → IsHeld i0 t now side move) → (C → G → IsLet i0 t N move) → HasLeft i0 t C N F.gone move → (G → HasAnswered i0 N F.gone move) →
      Moved names side C G N F i0 t net now sockets
  moves_by move sockets may same sockets_are grows held goes left answered = record {
    next = after now (step_of side move);
    reaches = proceeds names side C G N F i0 t net now move r may same grows held goes left answered;
    sockets_are = ap (λ (p : Party). p.sockets) (mine now side move) ∙ sockets_are;
    grows = there now side move (Grows (party now side)) grows;
  }
