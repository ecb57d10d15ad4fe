-- What an event of a host, or of the link, does to both hosts, as moves.
use Rattle.std.proofs.Common.{◌≡◌, ℕ, ℤ, List, [], ◌∷◌, ◌++◌, None, refl, sym, ap, ◌∙◌, subst}
use Rattle.lan.specs.Worlds.AtLink.Call.{SocketCall}
use Rattle.lan.specs.Worlds.AtLink.History.{Entry}
use Rattle.lan.specs.Worlds.AtLink.Kinds.{other, kind_of, calls}
use Rattle.lan.specs.Worlds.AtLink.Kinds.Act.{Calls}
use Rattle.lan.specs.Worlds.AtLink.Side.{Side}
use Rattle.lan.specs.Worlds.AtLink.Side.TheVariants.{A, B}
use Rattle.lan.specs.Worlds.AtLink.Moves as Moves
use Rattle.lan.specs.Worlds.AtLink.Moves.{IsNoCall, IsRun, after}
use Rattle.lan.specs.Worlds.AtLink.Parties.{Party, Net, party}
use Rattle.lan.proofs.Worlds.AtLink.Extended.{run-append, IsRun-append}
use Rattle.lan.specs.Worlds.AtLink.Runs.{refusal_in}
use Rattle.lan.specs.Worlds.AtLink.Node.{NodeValue, Nodes, node}
use Rattle.lan.specs.Worlds.AtLink.Steps.{ActsAt}
use Rattle.lan.specs.Worlds.Moves.Follows.{sockets_of, IsNetOf, Comes}
use Rattle.iface_ingress.specs.HardwareAddress.{HardwareAddress}
use Rattle.iface_ingress.specs.IpAddress.{IpAddress}
use Rattle.iface_tables.specs.Inner.{InnerValue}
use Rattle.lan.proofs.Worlds.Moves.Following.{Reaches}
use Rattle.lan.proofs.Worlds.Moves.Frames.{Frames, no_frames}
use Rattle.lan.specs.Worlds.Moves.Made.{Grows}
use Rattle.lan.proofs.Worlds.Moves.Calls.{IsCalled, call_is_called, call_allowed, names}
use Rattle.lan.proofs.Worlds.Moves.Nets.{here, step_of, mine, theirs, either_side, there, grows_not, grows_to}

-- A CALL

module _ (net : Net) (old new : Nodes) (past : List Entry) (e : Entry) (side : Side) (i : ℕ) (call : SocketCall) (of : IsNetOf net old past)
    (rests : node new (other side) ≡ node old (other side)) where
  called : kind_of e.event ≡ calls side i call → refusal_in past old e.event ≡ None →
      IsCalled (node old side).host.inner (party net side) (node new side).slots i call e.answer e.found → Comes names net new (e ∷ past)
  called is none c = record {
    next = after net (step_of side move);
    steps = step_of side move ∷ [];
    may = ((c.there, is, call_allowed net old past side i call (kind_of e.event) of is none, c.does), tt);
    ends = refl;
    of = record {
      sockets = either_side side (λ s. (party (after net (step_of side move)) s).sockets ≡ sockets_of (node new s).slots)
          (ap (λ (p : Party). p.sockets) (mine net side move) ∙ c.sockets)
          (ap (λ (p : Party). p.sockets) (theirs net side move) ∙ of.sockets (other side) ∙ ap (λ (x : NodeValue). sockets_of x.slots) (sym rests));
      history = ap (λ (h : List Entry). e ∷ h) of.history;
    };
    grows = either_side side (λ s. Grows (party net s) (party (after net (step_of side move)) s))
        (there net side move (Grows (party net side)) (grows_to (party net side) (Moves.party_after (party net side) move) refl refl))
        (subst (Grows (party net (other side))) (sym (theirs net side move)) (grows_not (party net (other side))));
  } where
    move : Moves.Move
    move = Moves.Invokes i c.cx c.old e call c.new

pub call_comes : (net : Net) (old new : Nodes) (past : List Entry) (e : Entry) (side : Side) (i : ℕ) (call : SocketCall) → IsNetOf net old past →
    kind_of e.event ≡ calls side i call
    → refusal_in past old e.event ≡ None → ActsAt old side (Calls i call) e.answer e.found new → Comes names net new (e ∷ past)
call_comes net old new past e side i call of is none acts =
    called net old new past e side i call of acts.rests is none
    (call_is_called (party net side) (node old side) (node new side) (of.sockets side) i call e.answer e.found acts.acts)

-- it is the one step
pub call_steps : (net : Net) (old new : Nodes) (past : List Entry) (e : Entry) (side : Side) (i : ℕ) (call : SocketCall) (of : IsNetOf net old past)
    (is : kind_of e.event ≡ calls side i call) (none : refusal_in past old e.event ≡ None) (acts : ActsAt old side (Calls i call) e.answer e.found new)
    → (c : IsCalled (node old side).host.inner (party net side) (node new side).slots i call e.answer e.found)
    × ((call_comes net old new past e side i call of is none acts).steps ≡ step_of side (Moves.Invokes i c.cx c.old e call c.new) ∷ [])
unfolding call_comes called
call_steps net old new past e side i call of is none acts =
    (call_is_called (party net side) (node old side) (node new side) (of.sockets side) i call e.answer e.found acts.acts, refl)

-- NO CALL

pub passed : (net : Net) (side : Side) (e : Entry) (s : Side) → party (after net (step_of side (Moves.Passes e))) s ≡ party net s
passed net A e A = refl
passed net A e B = refl
passed net B e A = refl
passed net B e B = refl

-- moves of a host, and then an event that is no call
abbrev pub reached_comes : (C G : Type 0) (N : IpAddress → HardwareAddress → Type 0) (F : Frames) (i0 : InnerValue) (t : ℤ) (net now : Net) (new : Nodes) (past : List Entry) (e : Entry) (side : Side) → Reaches names side C G N F i0 t net now → net.history ≡ past →
    IsNoCall (kind_of e.event)
    → ((s : Side) → (party now s).sockets ≡ sockets_of (node new s).slots) → Comes names net new (e ∷ past)
reached_comes C G N F i0 t net now new past e side r was none sockets = record {
  next = after now passes;
  steps = r.steps ++ passes ∷ [];
  may = IsRun-append names net r.steps (passes ∷ []) r.may (subst (λ n. IsRun names n (passes ∷ [])) (sym r.ends) (none, tt));
  ends = run-append net r.steps (passes ∷ []) ∙ ap (λ n. after n passes) r.ends;
  of = record {
    sockets = λ s. ap (λ (p : Party). p.sockets) (passed now side e s) ∙ sockets s;
    history = ap (λ (h : List Entry). e ∷ h) (r.history ∙ was);
  };
  grows = λ s. subst (Grows (party net s)) (sym (passed now side e s)) (either_side side (λ u. Grows (party net u) (party now u)) r.grows
      (subst (Grows (party net (other side))) (sym r.rests) (grows_not (party net (other side)))) s);
} where
  passes : Moves.Step
  passes = step_of side (Moves.Passes e)

-- no move
abbrev at_rest : (i0 : InnerValue) (t : ℤ) (net : Net) → Reaches names A (Unit {0}) (Unit {0}) (λ remote to. Unit {0}) no_frames i0 t net net
at_rest i0 t net = here names A (Unit {0}) (Unit {0}) (λ remote to. Unit {0}) i0 t net

-- an event that leaves every socket as it was
pub still_comes : (i0 : InnerValue) (t : ℤ) (net : Net) (old new : Nodes) (past : List Entry) (e : Entry) → IsNetOf net old past → IsNoCall (kind_of e.event)
    → ((s : Side) → sockets_of (node new s).slots ≡ sockets_of (node old s).slots) → Comes names net new (e ∷ past)
still_comes i0 t net old new past e of none same =
    reached_comes (Unit {0}) (Unit {0}) (λ remote to. Unit {0}) no_frames i0 t net net new past e A (at_rest i0 t net) of.history none (λ s. of.sockets s ∙ sym (same s))

pub still_steps : (i0 : InnerValue) (t : ℤ) (net : Net) (old new : Nodes) (past : List Entry) (e : Entry) (of : IsNetOf net old past)
    (none : IsNoCall (kind_of e.event)) (same : (s : Side) → sockets_of (node new s).slots ≡ sockets_of (node old s).slots)
    → (still_comes i0 t net old new past e of none same).steps ≡ step_of A (Moves.Passes e) ∷ []
unfolding still_comes
still_steps i0 t net old new past e of none same = refl
