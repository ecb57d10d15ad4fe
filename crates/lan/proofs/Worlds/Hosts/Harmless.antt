-- A frame that brings a damaged segment alone does no harm, and damage stays harmless.
use Rattle.std.proofs.Common.{◌≡◌, ℕ, Bool, true, false, if◌then◌else◌, List, [], ◌∷◌, Option, None, Some, refl, sym, ap, subst}
use Rattle.interface.specs.Ipv4Fragment.{Ipv4Fragment}
use Rattle.interface.specs.Ipv4Repr.{Ipv4Repr}
use Rattle.iface_ingress.specs.EthernetRepr.{EthernetRepr}
use Rattle.iface_ingress.proofs.Kept.{brings_damaged_v4, brings_damaged_v6}
use Rattle.iface_ingress.specs.Arrives.{Arrived, Brings, whole_arrived}
use Rattle.iface_ingress.specs.Delivered.{Slots}
use Rattle.iface_ingress.specs.Processed.{is_known_v6}
use Rattle.iface_ingress.specs.Incoming.{IncomingValue, Arp, Ip4, Ip6, IsIncoming, IsContent}
use Rattle.iface_ingress.specs.FragmentStored.{with_ports}
use Rattle.iface_ingress.specs.Reassembled.{Assemblers, uncut, is_taken_in, taken_in, kept, slot_in, whole_of, with_room}
use Rattle.iface_tables.specs.Inner.{InnerValue}
use Rattle.lan.specs.Worlds.AtLink.History.{Entry}
use Rattle.lan.specs.Worlds.AtLink.Kinds.{Kind, Origin, Delivered, Damaged, Noisy, kind_of}
use Rattle.lan.specs.Worlds.AtLink.Kinds.Kind.{OfHost, OfLink}
use Rattle.lan.specs.Worlds.AtLink.Kinds.LinkAct.{Hands, Cuts}
use Rattle.lan.specs.Worlds.AtLink.Side.{Side}
use Rattle.lan.specs.Worlds.AtLink.Origins.{medium_of, frame_of_origin}
use Rattle.lan.specs.Worlds.AtLink.Refusals.{Tables, refusal}
use Rattle.lan.specs.Worlds.AtLink.Runs.{WorldRun, Leads, tables_in}
use Rattle.lan.specs.Worlds.AtLink.Node.{Nodes, node}
use Rattle.sim_link.specs.ChecksumCapabilities.{ChecksumCapabilities}
use Rattle.sim_link.specs.Medium.{Medium}
use Rattle.lan.specs.Worlds.Hosts.Damage.{IsHarmless, IsHarmlessFrom, IsHarmlessBy, DamageIsHarmless, WasHarmless, HaveWords, IsNoSegment, BringsNoSegment}
use Rattle.lan.specs.Worlds.Hosts.Proceeds.{Proceeds}
use Rattle.lan.proofs.Worlds.Link.Whole6.{known_whole, whole_is}
use Rattle.lan.proofs.Worlds.Hosts.There.{IsThere}
use Rattle.lan.proofs.Worlds.Hosts.Moving.{proceeds}
use Rattle.lan.proofs.Worlds.Hosts.Staying.{medium_stays, origin_same, origin_there, there_still}

-- ONE FRAME

module _ (i : InnerValue) (timeout : ℕ) (assemblers : Assemblers) (slots : Slots) (a : Arrived) where
  abbrev Harmless : Type 0
  Harmless = (with_ports a.slots ≡ with_ports slots) × (a.reply ≡ None)

  silent : Brings i slots None a → Harmless
  silent is = (ap with_ports is.slots_are, is.reply)

  -- what is brought of a content that is taken in, or isn't
  abbrev Brought : Option IncomingValue → Type 0
  Brought content = Brings i slots (whole_of (kept i timeout assemblers content) (slot_in assemblers content) content) a

  whole_v4 : (link : Option EthernetRepr) (header : Ipv4Repr) (fragment : Ipv4Fragment) (payload : List ℕ) → fragment ≡ uncut →
      Brought (Some (Ip4 link header fragment payload))
      → Brings i slots (Some (Ip4 link header uncut payload)) a
  whole_v4 link header fragment payload is brings = subst (λ (p : Ipv4Fragment). Brought (Some (Ip4 link header p payload))) is brings

  taken : (b : Bool) (v : IncomingValue) → IsNoSegment i.checksums v → Brought (if b then Some v else None) → Harmless
  taken false v bad brings = silent brings
  taken true (Arp link packet) bad brings = absurd bad
  taken true (Ip4 link header fragment payload) bad brings =
      brings_damaged_v4 i slots link header uncut payload a (whole_v4 link header fragment payload bad.0 brings) bad.1
  taken true (Ip6 link header payload) bad brings =
      let content : Option IncomingValue = Some (Ip6 link header payload) in
      let whole = whole_is link header payload (known_whole header payload (ap is_known_v6 bad.0)) (kept i timeout assemblers content) (slot_in assemblers content) in
      brings_damaged_v6 i slots link header payload a (subst (λ (o : Option IncomingValue). Brings i slots o a) whole brings) bad

  content_harmless : (content : Option IncomingValue) → ((v : IncomingValue) → content ≡ Some v → IsNoSegment i.checksums v) →
      Brought (taken_in i content) → Harmless
  content_harmless None bad brings = silent brings
  content_harmless (Some v) bad brings = taken (is_taken_in i v) v (bad v refl) brings

pub harmless : (medium : Medium) (frame : List ℕ) → BringsNoSegment medium frame → IsHarmless medium frame
harmless medium frame brings i timeout assemblers after slots a of sealed arrives = by arrives.0 arrives.1 arrives.2.1 where
  read : (v : IncomingValue) → IsIncoming i.hardware i.checksums frame v → IsNoSegment i.checksums v
  read v is =
      subst (λ (caps : ChecksumCapabilities). IsNoSegment caps v) (sym sealed)
      (brings i.hardware v of (subst (λ (caps : ChecksumCapabilities). IsIncoming i.hardware caps frame v) sealed is))

  same_some : (v w : IncomingValue) → Some v ≡ Some w → v ≡ w
  same_some v w is = cc

  by : (content : Option IncomingValue) → IsContent i.hardware i.checksums frame content → Brings i slots (whole_arrived i timeout assemblers content) a
      → (with_ports a.slots ≡ with_ports slots) × (a.reply ≡ None)
  by None is brought = content_harmless i timeout (with_room i assemblers (taken_in i None)) slots a None (λ v none. absurd (let bad : None ≡ Some v = none in cc)) brought
  by (Some v) is brought =
      content_harmless i timeout (with_room i assemblers (taken_in i (Some v))) slots a (Some v) (λ w same. subst (IsNoSegment i.checksums) (same_some v w same) (read v is)) brought

-- ALONG A RUN

-- the origin of each frame that was handed over is there
abbrev pub IsThereBy : Nodes → Kind → Type 0
IsThereBy hosts (OfLink (Hands o)) = IsThere hosts o
IsThereBy hosts kind = Unit {0}

abbrev pub AllAreThere : Nodes → List Entry → Type 0
AllAreThere hosts [] = Unit {0}
AllAreThere hosts (e ∷ past) = IsThereBy hosts (kind_of e.event) × AllAreThere hosts past

module _ (old new : Nodes) (on : (side : Side) → Proceeds (node old side) (node new side)) where
  still_from : (o : Origin) → IsThere old o → IsHarmlessFrom old o → IsHarmlessFrom new o
  still_from (Delivered from k padding) there is = tt
  still_from (Noisy to bytes) there is = tt
  still_from (Damaged from k slot word padding) there is =
      subst (λ (m : Medium). IsHarmless m (frame_of_origin new (Damaged from k slot word padding))) (sym (medium_stays old new on from))
      (subst (IsHarmless (medium_of (node old from))) (sym (origin_same old new on (Damaged from k slot word padding) there)) is)

  still_by : (k : Kind) → IsThereBy old k → IsHarmlessBy old k → IsHarmlessBy new k
  still_by (OfLink (Hands o)) there is = still_from o there is
  still_by (OfLink (Cuts from k at)) there is = tt
  still_by (OfHost side act) there is = tt

  there_by : (k : Kind) → IsThereBy old k → IsThereBy new k
  there_by (OfLink (Hands o)) there = there_still old new on o there
  there_by (OfLink (Cuts from k at)) there = tt
  there_by (OfHost side act) there = tt

  all_still : (past : List Entry) → AllAreThere old past → DamageIsHarmless old past → DamageIsHarmless new past
  all_still [] there is = tt
  all_still (e ∷ past) there is = (still_by (kind_of e.event) there.0 is.0, all_still past there.1 is.1)

  all_there : (past : List Entry) → AllAreThere old past → AllAreThere new past
  all_there [] there = tt
  all_there (e ∷ past) there = (there_by (kind_of e.event) there.0, all_there past there.1)

allowed_by : (hosts : Nodes) (tables : Tables) (k : Kind) → refusal hosts tables k ≡ None → IsThereBy hosts k
allowed_by hosts tables (OfLink (Hands o)) is = origin_there hosts tables o is
allowed_by hosts tables (OfLink (Cuts from k at)) is = tt
allowed_by hosts tables (OfHost side act) is = tt

-- of a history that is such, and whose rest then is such
module _ (Such : List Entry → Type 0) (rest : (e : Entry) (past : List Entry) → Such (e ∷ past) → Such past) (from : Nodes)
    (was : (past : List Entry) (old new : Nodes) (e : Entry) → Such (e ∷ past) → WorldRun past from old → Leads past old e new →
    IsHarmlessBy old (kind_of e.event)) where
  both_stay : (history : List Entry) (to : Nodes) → Such history → WorldRun history from to → DamageIsHarmless to history × AllAreThere to history
  both_stay [] to such run = (tt, tt)
  both_stay (e ∷ past) to such run =
      let before = both_stay past run.0 (rest e past such) run.1 in
      let on = proceeds past run.0 to e run.2 in
      let there : AllAreThere run.0 (e ∷ past) = (allowed_by run.0 (tables_in past run.0) (kind_of e.event) run.2.allowed, before.1) in
      (all_still run.0 to on (e ∷ past) there (was past run.0 to e such run.1 run.2, before.0), all_there run.0 to on (e ∷ past) there)

  pub damage_kept : (history : List Entry) (to : Nodes) → Such history → WorldRun history from to → DamageIsHarmless to history
  damage_kept history to such run = (both_stay history to such run).0

pub damage_stays : (from : Nodes) → WasHarmless from → (history : List Entry) (to : Nodes) → HaveWords history → WorldRun history from to →
    DamageIsHarmless to history
damage_stays from was history to words run =
    damage_kept HaveWords (λ e past words. words.1) from (λ past old new e words ran leads. was past old new e words.1 words.0 ran leads) history to words run
