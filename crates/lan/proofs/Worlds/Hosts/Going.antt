-- What goes on at each event goes on along a run.
use Rattle.std.proofs.Common.{◌≤ℤ◌, ℕ, ℤ, List, [], ◌∷◌, ◌++◌, refl, sym, ap, ◌∙◌, subst, append_assoc, append-nil, arith}
use Rattle.lan.specs.Worlds.AtLink.History.{Entry}
use Rattle.lan.specs.Worlds.AtLink.Side.{Side}
use Rattle.lan.specs.Worlds.AtLink.Runs.{WorldRun}
use Rattle.lan.specs.Worlds.AtLink.Node.{NodeValue, Nodes, node}
use Rattle.lan.specs.Worlds.Hosts.Proceeds.{Proceeds}
use Rattle.lan.proofs.Worlds.Hosts.Moving.{proceeds}

still_now : (a : ℤ) → a ≤ℤ a
still_now a = grind (arith)

later : (a b c : ℤ) → a ≤ℤ b → b ≤ℤ c → a ≤ℤ c
later a b c one two = grind (arith)

pub stays : (s : NodeValue) → Proceeds s s
stays s = record {
  more = [];
  sent = sym (append-nil s.link.sent);
  capabilities = refl;
  mtu = refl;
  checksums = refl;
  medium = refl;
  instant = still_now s.host.inner.instant;
  slots = refl;
}

pub then_on : (a b c : NodeValue) → Proceeds a b → Proceeds b c → Proceeds a c
then_on a b c one two = record {
  more = one.more ++ two.more;
  sent = two.sent ∙ ap (λ (xs : List (List ℕ)). xs ++ two.more) one.sent ∙ append_assoc a.link.sent one.more two.more;
  capabilities = two.capabilities ∙ one.capabilities;
  mtu = two.mtu ∙ one.mtu;
  checksums = two.checksums ∙ one.checksums;
  medium = two.medium ∙ one.medium;
  instant = later a.host.inner.instant b.host.inner.instant c.host.inner.instant one.instant two.instant;
  slots = two.slots ∙ one.slots;
}

pub proceeds_along : (history : List Entry) (from to : Nodes) → WorldRun history from to → (side : Side) → Proceeds (node from side) (node to side)
proceeds_along [] from to run side = subst (λ (x : Nodes). Proceeds (node from side) (node x side)) (sym run) (stays (node from side))
proceeds_along (e ∷ past) from to run side =
    then_on (node from side) (node run.0 side) (node to side) (proceeds_along past from run.0 run.1 side) (proceeds past run.0 to e run.2 side)
