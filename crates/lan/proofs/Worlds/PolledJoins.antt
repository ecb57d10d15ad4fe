-- A poll keeps what is said of both hosts and their link.
use Rattle.std.proofs.Common.{◌≡◌, ℕ, ◌+◌, ◌*◌, ◌≤◌, false, List, ◌∷◌, sym, ◌∙◌, ap, subst, arith}
use Rattle.std.specs.Prelude.{ℤ}
use Rattle.sim_link.specs.DeviceCapabilities.{DeviceCapabilities}
use Rattle.interface.specs.State.{State}
use Rattle.interface.proofs.Hosts.{settings_so}
use Rattle.lan.specs.Worlds.AtLink.History.{Entry}
use Rattle.lan.specs.Worlds.AtLink.Kinds.{other, kind_of}
use Rattle.lan.specs.Worlds.AtLink.Kinds.Act.{Polls}
use Rattle.lan.specs.Worlds.AtLink.Kinds.Kind.{OfHost}
use Rattle.lan.specs.Worlds.AtLink.Side.{Side}
use Rattle.lan.specs.Worlds.AtLink.Parties.{Party, Net, party}
use Rattle.lan.specs.Worlds.AtLink.Port.{LinkEnd, PortValue, PortMove}
use Rattle.interface.specs.Used.{sockets_in}
use Rattle.lan.specs.Worlds.AtLink.Node.{NodeValue, Nodes, node, at_port}
use Rattle.lan.specs.Worlds.AtLink.Steps.{PollsAt, ActsAt}
use Rattle.lan.proofs.Worlds.AtLink.Growing.{happens_stays}
use Rattle.lan.specs.Worlds.Moves.Follows.{IsNetOf, Comes}
use Rattle.lan.specs.Worlds.Moves.Fit.{IsFit}
use Rattle.lan.specs.Worlds.Moves.Link.{IsLink}
use Rattle.lan.specs.Worlds.Moves.Raws.{OfEach}
use Rattle.lan.specs.Worlds.Moves.Made.{MadeBy}
use Rattle.lan.proofs.Worlds.Moves.Calls.{names}
use Rattle.lan.proofs.Worlds.Moves.PollEvents.{AtPorts, Polled, poll_comes}
use Rattle.lan.specs.Worlds.Link.Frames.{medium_on}
use Rattle.lan.specs.Worlds.Link.Numbers.{count_numbered, AreFew, IsTied}
use Rattle.sim_link.specs.Medium.{Medium}
use Rattle.lan.specs.Worlds.AtLink.Origins.{medium_of}
use Rattle.lan.specs.Worlds.Link.Sides.{IsSender, IsReceiver}
use Rattle.lan.proofs.Worlds.Link.Begun.{tied_same}
use Rattle.lan.specs.Worlds.Joins.{AreJoined}
use Rattle.lan.specs.Worlds.Linked.{IsLinked}
use Rattle.lan.proofs.Worlds.Acts.{joins_grow, acted_joins, polled_acts}
use Rattle.lan.proofs.Worlds.Keeps.{is_link}
use Rattle.lan.proofs.Worlds.Link.Grown.{same_out}

module _ (firsts most : Side →
    ℕ) (old new : Nodes) (net : Net) (past : List Entry) (e : Entry) (j : AreJoined firsts most old net) (of : IsNetOf net old past)
    (side : Side) (t : ℤ) (budget : ℕ) (is : kind_of e.event ≡ OfHost side (Polls t budget)) (few : AreFew (j.out (other side)))
    (acts : ActsAt old side (Polls t budget) e.answer e.found new) (alone : (node old side).host.inner.host_requirements ≡ false) where
  abbrev pub s : NodeValue
  s = node old side

  abbrev pub s' : NodeValue
  s' = node new side

  abbrev mine : Party
  mine = party net side

  abbrev theirs : Party
  theirs = party net (other side)

  abbrev pub L : ℕ → State PortValue → Party → Type 0
  L n x p = IsLinked theirs (j.out (other side)) (j.out side) (firsts side) s.link.sent n x p

  -- how many it had sent, and how many it may have sent after the poll
  abbrev pub so_far : ℕ
  so_far = count_numbered (j.out side)

  abbrev pub then_most : ℕ
  then_most = so_far + budget * (1 + sockets_in s.slots)

  link : IsLink PortMove theirs L
  link = is_link theirs (j.out (other side)) (j.out side) (firsts side) s.link.sent (firsts (other side)) (node old (other side)).host.inner.ident
      (record { sent = (j.sends (other side)).are_sent; few = few })

  -- before the poll, at whatever port
  linked : AtPorts (λ x. L so_far x mine) s
  linked port end = record {
    out = j.out side;
    more = same_out _;
    sender = subst (λ (x : LinkEnd). IsSender (MadeBy mine) (firsts side) s.host.inner s.host.left x.sent (j.out side)) (sym end) (j.sends side);
    receiver = subst (λ (x : LinkEnd). IsReceiver (MadeBy theirs) (j.out (other side)) s.host.inner s.host.assemblers x.waiting) (sym end) (j.receives side);
    count = omega arith;
    tied = tied_same (medium_on s.host.inner.hardware) (j.out side) s.link.sent port.link.sent (ap (λ (x : LinkEnd). x.sent) end);
  }

  polls : PollsAt s t budget acts.acts.0 s'
  polls = acts.acts.1

  hardware : s'.host.inner.hardware ≡ s.host.inner.hardware
  hardware = (settings_so PortMove t budget (at_port polls.port s) (at_port polls.port_after s') acts.acts.0 polls.polls).hardware

  device : s'.link.capabilities.medium ≡ s.link.capabilities.medium
  device = ap (λ (c : DeviceCapabilities). c.medium) (happens_stays old new (OfHost side (Polls t budget)) e.answer e.found side acts).link.capabilities

  -- what the poll led to, where the sockets offer what can be read
  module _ (fit : OfEach IsFit s.slots) where
    pub polled : Polled s.host.inner s.link.waiting s.link.sent t net new (e ∷ past) side (L then_most)
    polled = poll_comes net old new past e side t budget so_far L link of is alone acts linked fit

    abbrev pub next : Net
    next = polled.comes.next

    abbrev pub comes : Comes names net new (e ∷ past)
    comes = polled.comes

    abbrev grown : AreJoined firsts most old next
    grown = joins_grow firsts most old net next polled.comes.grows j

    pub linked_after : IsLinked (party next (other side)) (j.out (other side)) (j.out side) (firsts side) s.link.sent then_most (at_port polled.port s')
        (party next side)
    linked_after = subst (λ (q : Party). IsLinked q (j.out (other side)) (j.out side) (firsts side) s.link.sent then_most (at_port polled.port s')
        (party next side)) (sym polled.rests) polled.link

    -- each that was counted has its first frame
    pub tied_after : IsTied (medium_of s) (j.out side) s.link.sent linked_after.out s'.link.sent
    tied_after =
        let medium : medium_on s'.host.inner.hardware ≡ medium_of s = ap medium_on hardware ∙ sym (j.device side) in
        subst (λ (x : LinkEnd). IsTied (medium_of s) (j.out side) s.link.sent linked_after.out x.sent) polled.end
        (subst (λ (m : Medium). IsTied m (j.out side) s.link.sent linked_after.out polled.port.link.sent) medium linked_after.tied)

    pub polled_joins : (most' : Side → ℕ) → most (other side) ≤ most' (other side) → count_numbered linked_after.out ≤ most' side → AreJoined firsts most' new next
    polled_joins most' up few_after =
        acted_joins firsts most most' old new next grown side acts.rests up
        (polled_acts (party next side) (party next (other side)) (firsts side) (most' side) then_most (j.out side) (j.out (other side)) s.link.sent s s'
        polled.port polled.end (ap medium_on hardware) device linked_after few_after)
