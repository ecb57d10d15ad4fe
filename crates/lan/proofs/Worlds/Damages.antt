-- Damage that the link hands over does no harm.
use Rattle.std.proofs.Common.{◌≡◌, inl, inr, ℕ, ◌^◌, ◌<◌, true, false, List, ◌++◌, Option, Some, None, refl, sym, ◌∙◌, ap, subst}
use Rattle.sim_link.specs.Medium.{Medium}
use Rattle.sim_link.specs.Medium.TheVariants as Medium
use Rattle.iface_ingress.specs.HardwareAddress.{HardwareAddress}
use Rattle.iface_ingress.specs.HardwareAddress.TheVariants as Hardware
use Rattle.iface_ingress.specs.Incoming.{IncomingValue}
use Rattle.iface_tables.specs.Settings.{is_of_medium}
use Rattle.sim_link.specs.Parts.{tcp_part}
use Rattle.sim_link.specs.declared.part.Part.{Part}
use Rattle.lan.specs.Worlds.AtLink.History.{Entry}
use Rattle.lan.specs.Worlds.AtLink.Kinds.{Kind, Origin, Delivered, Damaged, Noisy, kind_of}
use Rattle.lan.specs.Worlds.AtLink.Kinds.Kind.{OfHost, OfLink}
use Rattle.lan.specs.Worlds.AtLink.Kinds.LinkAct.{Hands, Cuts}
use Rattle.lan.specs.Worlds.AtLink.Tables.{first_refusal}
use Rattle.lan.specs.Worlds.AtLink.Refused.TheVariants as For
use Rattle.lan.specs.Worlds.AtLink.Side.{Side}
use Rattle.lan.specs.Worlds.AtLink.Parties.{Net, party}
use Rattle.lan.specs.Worlds.AtLink.Origins.{medium_of, frame_sent, damaged_in, frame_of_origin}
use Rattle.lan.specs.Worlds.AtLink.Refusals.{is_no_frame, segment_tests, link_tests, refusal}
use Rattle.lan.specs.Worlds.AtLink.Runs.{WorldRun, tables_in}
use Rattle.lan.specs.Worlds.AtLink.Node.{Nodes, node}
use Rattle.lan.specs.Worlds.Hosts.Damage.{IsHarmlessFrom, IsHarmlessBy, DamageIsHarmless, IsNoSegment, BringsNoSegment}
use Rattle.lan.proofs.Worlds.Hosts.Harmless.{harmless, damage_kept}
use Rattle.lan.specs.Worlds.Moves.Made.{MadeBy}
use Rattle.lan.specs.Worlds.Link.Made.{sealed}
use Rattle.lan.specs.Worlds.Link.Frames.{medium_on}
use Rattle.lan.specs.Worlds.Link.Sides.{IsHostFrame}
use Rattle.lan.proofs.Worlds.Link.DamagedFrames.{IsBad, BringsBad, damaged_bad}
use Rattle.lan.specs.Worlds.Events.{HasWord, IsTyped, AreTyped}
use Rattle.lan.specs.Worlds.Joins.{AreJoined}
use Rattle.lan.proofs.Worlds.LinkActs.{passed, sent_frame, damage_of}

medium_is : (hardware : HardwareAddress) (medium : Medium) → is_of_medium hardware medium ≡ true → medium_on hardware ≡ medium
medium_is Hardware.Ip Medium.Ethernet is = absurd cc
medium_is Hardware.Ip Medium.Ip is = refl
medium_is (Hardware.Ethernet own) Medium.Ethernet is = refl
medium_is (Hardware.Ethernet own) Medium.Ip is = absurd cc

none_brought : (v : IncomingValue) → IsBad v → IsNoSegment sealed v
none_brought v (inl b) = subst (IsNoSegment sealed) (sym b.value_is) (refl, b.bad)
none_brought v (inr b) = subst (IsNoSegment sealed) (sym b.value_is) b.bad

module _ (firsts most : Side → ℕ) (hosts : Nodes) (net : Net) (j : AreJoined firsts most hosts net) where
  module _ (from : Side) (k slot word : ℕ) (padding : List ℕ) (small : word < 2 ^ 16) where
    abbrev frame : List ℕ
    frame = frame_sent hosts from k

    -- on the host's medium
    bad_by : (hardware : HardwareAddress) (o : Option Part) → is_no_frame (node hosts from) k ≡ false → medium_on hardware ≡ medium_of (node hosts from) →
        tcp_part (medium_on hardware) frame ≡ o
        → first_refusal (segment_tests frame o slot word) ≡ None → BringsBad hardware (damaged_in o frame slot word ++ padding)
    bad_by hardware None there same is allowed = absurd cc
    bad_by hardware (Some part) there same is allowed =
        let here : IsHostFrame (medium_on hardware) (j.out from) frame =
        subst (λ (m : Medium). IsHostFrame m (j.out from) frame) (sym (same ∙ j.device from)) (sent_frame firsts most hosts net j from k there) in
        damaged_bad (MadeBy (party net from)) hardware (j.out from) (j.sends from).are_sent.packets frame part slot word padding here is
        (damage_of frame part slot word small allowed)

    pub brings_none : first_refusal (link_tests hosts (Hands (Damaged from k slot word padding))) ≡ None →
        BringsNoSegment (medium_of (node hosts from)) (frame_of_origin hosts (Damaged from k slot word padding))
    brings_none allowed hardware v of is =
        let o : Option Part = tcp_part (medium_of (node hosts from)) frame in
        let tests = passed (is_no_frame (node hosts from) k) For.NoFrame (first_refusal (segment_tests frame o slot word)) allowed in
        let same : medium_on hardware ≡ medium_of (node hosts from) = medium_is hardware (medium_of (node hosts from)) of in
        none_brought v (bad_by hardware o tests.0 same (ap (λ (m : Medium). tcp_part m frame) same) tests.1 v is)

  -- what the link hands over, where it isn't refused
  pub origin_harmless : (o : Origin) → HasWord o → first_refusal (link_tests hosts (Hands o)) ≡ None → IsHarmlessFrom hosts o
  origin_harmless (Delivered from k padding) word allowed = tt
  origin_harmless (Noisy to bytes) word allowed = tt
  origin_harmless (Damaged from k slot word padding) small allowed =
      harmless (medium_of (node hosts from)) (frame_of_origin hosts (Damaged from k slot word padding))
      (brings_none from k slot word padding small allowed)

  kind_harmless : (past : List Entry) (k : Kind) → IsTyped k → refusal hosts (tables_in past hosts) k ≡ None → IsHarmlessBy hosts k
  kind_harmless past (OfLink (Hands o)) typed allowed = origin_harmless o typed allowed
  kind_harmless past (OfLink (Cuts from k at)) typed allowed = tt
  kind_harmless past (OfHost side act) typed allowed = tt

-- the hosts are joined
pub record Are (firsts : Side → ℕ) (hosts : Nodes) : Type 0 where
  pub most : Side → ℕ
  pub net : Net
  pub joined : AreJoined firsts most hosts net

-- along a run in which the hosts are joined all the time
pub damage_along : (firsts : Side → ℕ) (from : Nodes) →
    ((past : List Entry) (hosts : Nodes) → AreTyped past → WorldRun past from hosts → Are firsts hosts)
    → (history : List Entry) (hosts : Nodes) → AreTyped history → WorldRun history from hosts → DamageIsHarmless hosts history
damage_along firsts from joined history hosts typed ran =
    damage_kept AreTyped (λ e past typed. typed.1) from
    (λ past old new e typed ran leads. let are = joined past old typed.1 ran in
    kind_harmless firsts are.most old are.net are.joined past (kind_of e.event) typed.0 leads.allowed)
    history hosts typed ran
