-- An event that is no poll and no setting keeps what is said of both hosts and their link.
use Rattle.std.proofs.Common.{◌≡◌, ℕ, List, Option, None, sym, subst, arith}
use Rattle.lan.specs.Worlds.AtLink.History.{Entry}
use Rattle.lan.specs.Worlds.AtLink.Kinds.{other, Kind, kind_of}
use Rattle.lan.specs.Worlds.AtLink.Kinds.Kind.{OfHost, OfLink}
use Rattle.lan.specs.Worlds.AtLink.Kinds.Act.{Calls, Sets, Opens, Asks, Polls}
use Rattle.lan.specs.Worlds.AtLink.Kinds.LinkAct.{Hands, Cuts}
use Rattle.lan.specs.Worlds.AtLink.Answer.{Answer}
use Rattle.lan.specs.Worlds.AtLink.Side.{Side}
use Rattle.lan.specs.Worlds.AtLink.Parties.{Net, party}
use Rattle.lan.specs.Worlds.AtLink.Refusals.{Tables, refusal}
use Rattle.lan.specs.Worlds.AtLink.Runs.{Leads, tables_in}
use Rattle.lan.specs.Worlds.AtLink.Node.{NodeValue, Nodes, node}
use Rattle.lan.specs.Worlds.AtLink.Steps.{Happens}
use Rattle.tcp_block.specs.State as States
use Rattle.lan.specs.Worlds.Events.{IsTyped}
use Rattle.lan.specs.Worlds.Joins.{AreJoined, IsPlain}
use Rattle.lan.proofs.Worlds.Acts.{IsSettled, settled_acts, acted_joins, call_settled, room_settled, asked_settled}
use Rattle.lan.proofs.Worlds.LinkActs.{handed_joins, cut_joins}

module _ (firsts most : Side → ℕ) (old new : Nodes) (net : Net) (j : AreJoined firsts most old net) where
  settled : (side : Side) → node new (other side) ≡ node old (other side) → IsSettled (node old side) (node new side) →
      AreJoined firsts most new net
  settled side rests is =
      acted_joins firsts most most old new net j side rests (omega arith)
      (settled_acts (party net side) (party net (other side)) (firsts side) (most side) (j.out side) (j.out (other side)) (node old side) (node new side)
      is (j.sends side) (j.receives side) (j.counted side))

  by_kind : (tables : Tables) (k : Kind) (answer : Answer) (found : Option States.State) → IsPlain k → IsTyped k → refusal old tables k ≡ None →
      Happens old k answer found new → AreJoined firsts most new net
  by_kind tables (OfHost side (Calls i call)) answer found plain typed none acts =
      settled side acts.rests (call_settled (node old side) (node new side) i call answer found acts.acts)
  by_kind tables (OfHost side (Opens n)) answer found plain typed none acts =
      settled side acts.rests (subst (λ (s : NodeValue). IsSettled (node old side) s) (sym acts.acts.2) (room_settled (node old side) n))
  by_kind tables (OfHost side (Asks t)) answer found plain typed none acts =
      settled side acts.rests (subst (λ (s : NodeValue). IsSettled (node old side) s) (sym acts.acts.2) (asked_settled (node old side) t))
  by_kind tables (OfHost side (Sets setting)) answer found plain typed none acts = absurd plain
  by_kind tables (OfHost side (Polls t budget)) answer found plain typed none acts = absurd plain
  by_kind tables (OfLink (Hands o)) answer found plain typed none acts =
      subst (λ (h : Nodes). AreJoined firsts most h net) (sym acts.2) (handed_joins firsts most old net j o typed none)
  by_kind tables (OfLink (Cuts from k at)) answer found plain typed none acts =
      subst (λ (h : Nodes). AreJoined firsts most h net) (sym acts.2) (cut_joins firsts most old net j from k at none)

  -- a call, room, being asked when to poll, a frame that the link hands over, a cut
  pub plain_joins : (past : List Entry) (e : Entry) → IsPlain (kind_of e.event) → IsTyped (kind_of e.event) → Leads past old e new →
      AreJoined firsts most new net
  plain_joins past e plain typed leads = by_kind (tables_in past old) (kind_of e.event) e.answer e.found plain typed leads.allowed leads.happens
