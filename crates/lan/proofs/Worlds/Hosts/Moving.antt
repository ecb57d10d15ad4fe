-- What an event is to one of the hosts: its own act, or something that leaves it alone.
use Rattle.std.proofs.Common.{◌≡◌, ℕ, ◌⊎◌, inl, inr, Bool, true, false, if◌then◌else◌, List, [], ◌∷◌, ◌++◌, length, map, None, refl, sym, ap, ◌∙◌, subst}
use Rattle.std.proofs.Common.{append_assoc, append-nil, ◌≤ℤ◌, ℤ, arith}
use Rattle.lan.specs.Worlds.AtLink.History.{Entry}
use Rattle.lan.specs.Worlds.AtLink.Kinds.{Act, Kind, Origin, same_side, kind_of}
use Rattle.lan.specs.Worlds.AtLink.Kinds.Kind.{OfHost, OfLink}
use Rattle.lan.specs.Worlds.AtLink.Kinds.LinkAct.{Hands, Cuts}
use Rattle.lan.specs.Worlds.AtLink.Side.{Side}
use Rattle.lan.specs.Worlds.AtLink.Side.TheVariants.{A, B}
use Rattle.lan.specs.Worlds.AtLink.Port.{added, arrived}
use Rattle.lan.specs.Worlds.AtLink.Node.{NodeValue, Nodes, node, with_node, with_link}
use Rattle.lan.specs.Worlds.AtLink.Origins.{frame_of_origin, frame_sent, medium_of, goes_to, origins_of, is_cut_of}
use Rattle.lan.specs.Worlds.AtLink.Steps.{Acts, Happens}
use Rattle.lan.specs.Worlds.AtLink.Runs.{Leads, tables_in}
use Rattle.sim_link.specs.Cuts.{first_fragment, second_fragment}
use Rattle.lan.specs.Worlds.Hosts.Proceeds.{Proceeds, has_addresses}
use Rattle.lan.specs.Worlds.Hosts.HostRuns.{deed_in}
use Rattle.lan.specs.Worlds.Hosts.Machine.{Machine, machine_of}
use Rattle.lan.proofs.Worlds.Hosts.Acting.{in_time, acts_proceed}

pub record HasActed (old new : Nodes) (side : Side) (k : Kind) (e : Entry) : Type 0 where
  pub act : Act
  pub is : k ≡ OfHost side act
  pub acts : Acts (node old side) act e.answer e.found (node new side)

-- the link's fragments may have joined its sent frames, and a frame those that wait
pub record HasRested (old new : Nodes) (side : Side) (k : Kind) (e : Entry) : Type 0 where
  pub deeds : deed_in side k e ≡ []
  pub machine : machine_of (node new side) ≡ machine_of (node old side)
  pub room : (node new side).link.room ≡ (node old side).link.room
  pub capabilities : (node new side).link.capabilities ≡ (node old side).link.capabilities
  pub more : List (List ℕ)
  pub sent : (node new side).link.sent ≡ (node old side).link.sent ++ more
  pub own : (if is_cut_of side k then [] else more) ≡ []
  pub waiting : (node new side).link.waiting ≡ (node old side).link.waiting ++ map (frame_of_origin old) (origins_of side k)

module _ (old : Nodes) (e : Entry) where
  rests : (new : Nodes) (side : Side) (k : Kind) → node new side ≡ node old side → deed_in side k e ≡ [] → origins_of side k ≡ [] →
      HasRested old new side k e
  rests new side k is deeds none = record {
    deeds = deeds;
    machine = ap machine_of is;
    room = ap (λ (x : NodeValue). x.link.room) is;
    capabilities = ap (λ (x : NodeValue). x.link.capabilities) is;
    more = [];
    sent = ap (λ (x : NodeValue). x.link.sent) is ∙ sym (append-nil (node old side).link.sent);
    own = no_more (is_cut_of side k);
    waiting =
        ap (λ (x : NodeValue). x.link.waiting) is ∙ sym (append-nil (node old side).link.waiting)
        ∙ ap (λ (os : List Origin). (node old side).link.waiting ++ map (frame_of_origin old) os) (sym none);
  } where
    no_more : (b : Bool) → (if b then [] else []) ≡ (let none : List (List ℕ) = [] in none)
    no_more true = refl
    no_more false = refl

  -- a frame that is handed to a host
  abbrev given : Side → List ℕ → Nodes
  given g frame = with_node old g (with_link (node old g) (arrived (node old g).link frame))

  waits_at : (o : Origin) (g side : Side) → goes_to o ≡ g → same_side g side ≡ true
      → (node old side).link.waiting ++ frame_of_origin old o ∷ [] ≡ (node old side).link.waiting ++
      map (frame_of_origin old) (origins_of side (OfLink (Hands o)))
  waits_at o g side is same =
      ap (λ (b : Bool). (node old side).link.waiting ++ map (frame_of_origin old) (if b then o ∷ [] else []))
      (sym (ap (λ (x : Side). same_side x side) is ∙ same))

  none_at : (o : Origin) (g side : Side) → goes_to o ≡ g → same_side g side ≡ false → origins_of side (OfLink (Hands o)) ≡ []
  none_at o g side is apart =
      ap (λ (b : Bool). if b then o ∷ [] else []) (ap (λ (x : Side). same_side x side) is ∙ apart)

  hand_rests : (o : Origin) (g side : Side) → goes_to o ≡ g → HasRested old (given g (frame_of_origin old o)) side (OfLink (Hands o)) e
  hand_rests o A A is = record {
    deeds = refl;
    machine = refl;
    room = refl;
    capabilities = refl;
    more = [];
    sent = sym (append-nil old.a.link.sent);
    own = refl;
    waiting = waits_at o A A is refl;
  }
  hand_rests o B B is = record {
    deeds = refl;
    machine = refl;
    room = refl;
    capabilities = refl;
    more = [];
    sent = sym (append-nil old.b.link.sent);
    own = refl;
    waiting = waits_at o B B is refl;
  }
  hand_rests o A B is = rests (given A (frame_of_origin old o)) B (OfLink (Hands o)) refl refl (none_at o A B is refl)
  hand_rests o B A is = rests (given B (frame_of_origin old o)) A (OfLink (Hands o)) refl refl (none_at o B A is refl)

  -- a frame that is cut
  abbrev with_fragments : Side → List ℕ → List ℕ → Nodes
  with_fragments from one two = with_node old from (with_link (node old from) (added (added (node old from).link one) two))

  cut_rests : (from side : Side) (k at : ℕ) (one two : List ℕ) → HasRested old (with_fragments from one two) side (OfLink (Cuts from k at)) e
  cut_rests A A k at one two = record {
    deeds = refl;
    machine = refl;
    room = refl;
    capabilities = refl;
    more = one ∷ two ∷ [];
    sent = append_assoc old.a.link.sent (one ∷ []) (two ∷ []);
    own = refl;
    waiting = sym (append-nil old.a.link.waiting);
  }
  cut_rests B B k at one two = record {
    deeds = refl;
    machine = refl;
    room = refl;
    capabilities = refl;
    more = one ∷ two ∷ [];
    sent = append_assoc old.b.link.sent (one ∷ []) (two ∷ []);
    own = refl;
    waiting = sym (append-nil old.b.link.waiting);
  }
  cut_rests A B k at one two = rests (with_fragments A one two) B (OfLink (Cuts A k at)) refl refl refl
  cut_rests B A k at one two = rests (with_fragments B one two) A (OfLink (Cuts B k at)) refl refl refl

  pub moved : (new : Nodes) (k : Kind) → Happens old k e.answer e.found new → (side : Side) → HasActed old new side k e ⊎ HasRested old new side k e
  moved new (OfHost A act) happens A = inl (record { act = act; is = refl; acts = happens.acts })
  moved new (OfHost B act) happens B = inl (record { act = act; is = refl; acts = happens.acts })
  moved new (OfHost A act) happens B = inr (rests new B (OfHost A act) happens.rests refl refl)
  moved new (OfHost B act) happens A = inr (rests new A (OfHost B act) happens.rests refl refl)
  moved new (OfLink (Hands o)) happens side =
      inr (subst (λ (x : Nodes). HasRested old x side (OfLink (Hands o)) e) (sym happens.2) (hand_rests o (goes_to o) side refl))
  moved new (OfLink (Cuts from k at)) happens side =
      inr (subst (λ (x : Nodes). HasRested old x side (OfLink (Cuts from k at)) e) (sym happens.2)
      (cut_rests from side k at (first_fragment (medium_of (node old from)) (frame_sent old from k) at)
      (second_fragment (medium_of (node old from)) (frame_sent old from k) at)))

-- GOING ON

same_time : (a b : ℤ) → b ≡ a → a ≤ℤ b
same_time a b is = subst (λ (x : ℤ). a ≤ℤ x) (sym is) (grind (arith))

rested_proceeds : (old new : Nodes) (side : Side) (k : Kind) (e : Entry) → HasRested old new side k e → Proceeds (node old side) (node new side)
rested_proceeds old new side k e r = record {
  more = r.more;
  sent = r.sent;
  capabilities = r.capabilities;
  mtu = ap (λ (x : Machine). x.host.inner.mtu) r.machine;
  checksums = ap (λ (x : Machine). x.host.inner.checksums) r.machine;
  medium = ap (λ (x : Machine). has_addresses x.host.inner.hardware) r.machine;
  instant = same_time (node old side).host.inner.instant (node new side).host.inner.instant (ap (λ (x : Machine). x.host.inner.instant) r.machine);
  slots = ap (λ (x : Machine). length x.slots) r.machine;
}

pub proceeds : (past : List Entry) (old new : Nodes) (e : Entry) → Leads past old e new → (side : Side) → Proceeds (node old side) (node new side)
proceeds past old new e leads side = by (moved old e new (kind_of e.event) leads.happens side) where
  by : HasActed old new side (kind_of e.event) e ⊎ HasRested old new side (kind_of e.event) e → Proceeds (node old side) (node new side)
  by (inl acted) =
      acts_proceed (node old side) (node new side) acted.act e.answer e.found acted.acts
      (in_time old (tables_in past old) side acted.act
      (subst (λ (k : Kind). Rattle.lan.specs.Worlds.AtLink.Refusals.refusal old (tables_in past old) k ≡ None) acted.is leads.allowed))
  by (inr rested) = rested_proceeds old new side (kind_of e.event) e rested
