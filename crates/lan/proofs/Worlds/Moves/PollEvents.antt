-- A poll's event, as moves.
use Rattle.std.proofs.Common.{◌≡◌, ◌+◌, ◌*◌, ◌≤◌, ℕ, false, [], ◌∷◌, ◌++◌, append-nil, List, refl, sym, ap, ◌∙◌, subst, arith}
use Rattle.std.specs.Prelude.{ℤ, IsTrue}
use Rattle.interface.specs.State.{State}
use Rattle.lan.specs.Worlds.AtLink.History.{Entry}
use Rattle.lan.specs.Worlds.AtLink.Kinds.{other, kind_of}
use Rattle.lan.specs.Worlds.AtLink.Kinds.Act.{Polls}
use Rattle.lan.specs.Worlds.AtLink.Kinds.Kind.{OfHost}
use Rattle.lan.specs.Worlds.AtLink.Side.{Side}
use Rattle.lan.specs.Worlds.AtLink.Moves.{IsNoCall}
use Rattle.lan.specs.Worlds.AtLink.Parties.{Party, Net, party}
use Rattle.lan.specs.Worlds.AtLink.Port.{LinkEnd, PortValue, PortMove, has_tx_token}
use Rattle.interface.specs.Used.{sockets_in}
use Rattle.lan.specs.Worlds.AtLink.Node.{NodeValue, Nodes, node, at_port}
use Rattle.lan.specs.Worlds.AtLink.Steps.{ActsAt}
use Rattle.lan.specs.Worlds.Moves.Follows.{IsNetOf, Comes, sockets_of}
use Rattle.iface_tables.specs.Inner.{InnerValue}
use Rattle.lan.specs.Worlds.AtLink.Moves as Moves
use Rattle.lan.proofs.Worlds.Moves.Following.{Follows}
use Rattle.lan.proofs.Worlds.Moves.Frames.{Frames, HaveAnswered, HaveLeft, all_moved_on, answered-append, left-append, no_frames}
use Rattle.lan.proofs.Worlds.Moves.Held.{AreHeld, Stays, held-append}
use Rattle.lan.proofs.Worlds.Moves.HopLimit.{hop_limit_first}
use Rattle.lan.proofs.Worlds.Moves.Later.{since_itself}
use Rattle.lan.proofs.Worlds.Moves.Leave.{AreLet, let-append}
use Rattle.lan.proofs.Worlds.PortMoves.{GivesTxToken, TookOf, giving_ports, taking_ports}
use Rattle.lan.specs.Worlds.Moves.Fit.{IsFit}
use Rattle.lan.specs.Worlds.Moves.HopLimit.{KnowsHop}
use Rattle.lan.specs.Worlds.Moves.Link.{IsLink}
use Rattle.lan.specs.Worlds.Moves.Raws.{OfEach}
use Rattle.lan.specs.Worlds.Moves.ReceivedFrames.{AreMoved}
use Rattle.lan.proofs.Worlds.Moves.Calls.{names}
use Rattle.lan.proofs.Worlds.Moves.Events.{reached_comes, passed}
use Rattle.lan.proofs.Worlds.Moves.Nets.{here, either_side, step_of}
use Rattle.lan.proofs.Worlds.Moves.Polls.{polls_follow}

-- it holds of this host at each port with this end of the link
abbrev pub AtPorts : (State PortValue → Type 0) → NodeValue → Type 0
AtPorts P s = (port : PortValue) → port.link ≡ s.link → P (at_port port s)

-- moves lead to the hosts after a poll, and what held of the host that was polled, with what it made, holds
-- still. The first of the frames that waited were taken, and others were sent.
pub record Polled (i0 : InnerValue) (waits sent : List (List ℕ)) (t : ℤ) (net : Net) (new : Nodes) (past : List Entry) (side : Side) (L : State PortValue → Party → Type 0) : Type 0 where
  pub comes : Comes names net new past
  pub port : PortValue
  pub end : port.link ≡ (node new side).link
  pub link : L (at_port port (node new side)) (party comes.next side)
  pub rests : party comes.next (other side) ≡ party net (other side)
  pub held : Stays i0 (node new side).host.inner → AreHeld i0 t side net comes.steps
  pub frames : Frames
  pub waited : waits ≡ frames.taken ++ (node new side).link.waiting
  pub took : AreMoved side i0 t net frames.taken comes.steps
  pub are_sent : (node new side).link.sent ≡ sent ++ frames.gone
  pub left : HaveLeft i0 t (Stays i0 (node new side).host.inner) (KnowsHop i0 t frames.taken (node new side).host.inner) frames.gone comes.steps
  pub answered : IsTrue (has_tx_token (node new side).link)
      → HaveAnswered i0 (KnowsHop i0 t frames.taken (node new side).host.inner) frames.gone comes.steps
  pub was_sent : Stays i0 (node new side).host.inner → IsTrue (has_tx_token (node new side).link)
      → AreLet i0 t (KnowsHop i0 t frames.taken (node new side).host.inner) comes.steps

module _ (net : Net) (old new : Nodes) (past : List Entry) (e : Entry) (side : Side) (t : ℤ) (budget n : ℕ) (L : ℕ → State PortValue → Party →
    Type 0) (link : IsLink PortMove (party net (other side)) L) (of : IsNetOf net old past) (is : kind_of e.event ≡ OfHost side (Polls t budget))
    (alone : (node old side).host.inner.host_requirements ≡ false) where
  -- the host before it
  abbrev i0 : InnerValue
  i0 = (node old side).host.inner

  -- how many packets are counted after it
  abbrev most : ℕ
  most = n + budget * (1 + sockets_in (node old side).slots)

  -- no frame is refused more than were before it
  abbrev refused : ℕ
  refused = (node old side).link.refusals

  -- what waited before it
  abbrev waits : List (List ℕ)
  waits = (node old side).link.waiting

  -- and what was sent
  abbrev sent : List (List ℕ)
  sent = (node old side).link.sent

  gave : (p : PortValue) → p.link ≡ (node new side).link → (node new side).link.refusals ≡ refused → IsTrue (has_tx_token (node new side).link) →
      GivesTxToken refused p
  gave p end none given = (subst (λ (l : LinkEnd). IsTrue (has_tx_token l)) (sym end) given, let same = ap (λ (l : LinkEnd). l.refusals) end in omega (arith, same, none))

  ended : (p : PortValue) → p.link ≡ (node new side).link → (node new side).link.refusals ≡ refused → node new (other side) ≡ node old (other side)
      → Follows names side (GivesTxToken refused) (TookOf waits sent) i0 t (L most) net (at_port p (node new side)) → Polled i0 waits sent t net new (e ∷ past) side (L most)
  ended p end none rests f = record {
    comes = reached_comes (Stays i0 (node new side).host.inner) (GivesTxToken refused p) (KnowsHop i0 t f.frames.taken (node new side).host.inner) f.frames i0 t net f.now new past e side f.reaches of.history (subst IsNoCall (sym is) tt)
        (either_side side (λ s. (party f.now s).sockets ≡ sockets_of (node new s).slots) f.sockets
        (ap (λ (x : Party). x.sockets) f.reaches.rests ∙ of.sockets (other side) ∙ ap (λ (x : NodeValue). sockets_of x.slots) (sym rests)));
    port = p;
    end = end;
    link = subst (L most (at_port p (node new side))) (sym (passed f.now side e side)) f.link;
    rests = passed f.now side e (other side) ∙ f.reaches.rests;
    held = λ c. held-append i0 t side net f.reaches.steps (step_of side (Moves.Passes e) ∷ []) (f.reaches.held c) ((refl, tt), tt);
    frames = f.frames;
    waited = f.taken.0 ∙ ap (λ (l : LinkEnd). f.frames.taken ++ l.waiting) end;
    took = all_moved_on side i0 t net f.frames.taken f.reaches.steps (step_of side (Moves.Passes e) ∷ []) f.reaches.took;
    are_sent = sym (ap (λ (l : LinkEnd). l.sent) end) ∙ f.taken.1;
    left = left-append i0 t (Stays i0 (node new side).host.inner) (KnowsHop i0 t f.frames.taken (node new side).host.inner) f.frames.gone f.reaches.steps (step_of side (Moves.Passes e) ∷ []) f.reaches.left (tt, tt);
    answered = λ given. answered-append i0 (KnowsHop i0 t f.frames.taken (node new side).host.inner) f.frames.gone f.reaches.steps (step_of side (Moves.Passes e) ∷ []) (f.reaches.answered (gave p end none given)) (tt, tt);
    was_sent = λ c given. let-append i0 t (KnowsHop i0 t f.frames.taken (node new side).host.inner) f.reaches.steps (step_of side (Moves.Passes e) ∷ []) (f.reaches.was_sent c (gave p end none given)) (tt, tt);
  }

  pub poll_comes : ActsAt old side (Polls t budget) e.answer e.found new → AtPorts (λ s. L n s (party net side)) (node old side) →
      OfEach IsFit (node old side).slots → Polled i0 waits sent t net new (e ∷ past) side (L most)
  poll_comes acts holds fit =
      let polls = acts.acts.1 in
      let start : Follows names side (GivesTxToken refused) (TookOf waits sent) i0 t (L n) net (at_port polls.port (node old side)) =
      record { now = net; frames = no_frames; taken = (ap (λ (l : LinkEnd). l.waiting) (sym polls.before), ap (λ (l : LinkEnd). l.sent) polls.before ∙ sym (append-nil sent)); reaches = here names side (Stays i0 i0) (GivesTxToken refused polls.port) (KnowsHop i0 t [] i0) i0 t net; hop_limit = hop_limit_first i0 t; sockets = of.sockets side; link = holds polls.port polls.before } in
      let none_before : refused ≤ polls.port.link.refusals = (let same = ap (λ (l : LinkEnd). l.refusals) polls.before in omega (arith, same)) in
      ended polls.port_after polls.after (polls.none_denied alone) acts.rests
      (polls_follow PortMove t names side i0 net L link (λ p. refused ≤ p.link.refusals) (GivesTxToken refused) (giving_ports refused) (TookOf waits sent) (taking_ports waits sent) alone budget n (at_port polls.port (node old side)) (at_port polls.port_after (node new side)) acts.acts.0
      alone fit (since_itself i0) none_before (λ small. small) start polls.polls).1
