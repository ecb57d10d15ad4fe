-- Events lead from one world to one world.
use Rattle.std.proofs.Common.{◌≡◌, ℕ, Bool, false, List, [], ◌∷◌, Option, None, Some, sym, ap, ◌∙◌, subst}
use Rattle.std.specs.Prelude.{slice_get}
use Rattle.interface.specs.Host.{HostValue}
use Rattle.iface_egress.specs.declared.socket_set.Item.{Item}
use Rattle.iface_egress.specs.declared.socket_set.SocketStorage.{SocketStorage}
use Rattle.interface.specs.Made.{with_inner}
use Rattle.iface_tables.specs.Inner.{context_of}
use Rattle.iface_tables.specs.Settings.{routes_of, with_routes}
use Rattle.iface_tables.specs.declared.route.Route.{Route}
use Rattle.interface.proofs.OneEnd.{OneOffer}
use Rattle.lan.specs.Worlds.AtLink.Call.{SocketCall}
use Rattle.lan.specs.Worlds.AtLink.History.{Entry}
use Rattle.lan.specs.Worlds.AtLink.Kinds.{Act, Kind, Setting, kind_of}
use Rattle.lan.specs.Worlds.AtLink.Kinds as Set
use Rattle.lan.specs.Worlds.AtLink.Kinds.Act.{Calls, Sets, Opens, Asks, Polls}
use Rattle.lan.specs.Worlds.AtLink.Kinds.Kind.{OfHost, OfLink}
use Rattle.lan.specs.Worlds.AtLink.Answer.{Answer}
use Rattle.lan.specs.Worlds.AtLink.Answer.TheVariants as To
use Rattle.lan.specs.Worlds.AtLink.Event.{Event}
use Rattle.lan.specs.Worlds.AtLink.Side.{Side}
use Rattle.lan.specs.Worlds.AtLink.Side.TheVariants.{A, B}
use Rattle.lan.specs.Worlds.AtLink.Calls.{Did}
use Rattle.lan.specs.Worlds.AtLink.Does.{does, DidAt, ItemDoes, SlotDoes, Does}
use Rattle.lan.specs.Worlds.AtLink.Runs.{AreAlone, WorldValue, Step, Steps}
use Rattle.lan.specs.Worlds.AtLink.Sets.{SetsTo, Configures, has_route_room}
use Rattle.lan.specs.Worlds.AtLink.Node.{NodeValue, Nodes}
use Rattle.lan.specs.Worlds.AtLink.Steps.{Acts, ActsAt, Happens}
use Rattle.sockets.specs.declared.socket.Socket.{Socket}
use Rattle.tcp_block.specs.State.{State}
use Rattle.lan.proofs.Worlds.Hosts.OneRoute.{routed_once}
use Rattle.lan.proofs.Worlds.Hosts.Outcomes.{polls_once}

abbrev Same : {S : Type 0} → Answer → Option State → S → Answer → Option State → S → Type 0
Same a f one b g other = (a ≡ b) × (f ≡ g) × (one ≡ other)

-- CALLS

module _ (s one other : NodeValue) (i : ℕ) (call : SocketCall) (a b : Answer) (f g : Option State) where
  did_once : (item : Item Socket) (d : Option (Did Socket)) → DidAt s i item call d a f one → DidAt s i item call d b g other → Same a f one b g other
  did_once item None first second = absurd first
  did_once item (Some d) first second = (first.0 ∙ sym second.0, first.1 ∙ sym second.1, first.2 ∙ sym second.2)

  item_once : (o : Option (Item Socket)) → ItemDoes s i o call a f one → ItemDoes s i o call b g other → Same a f one b g other
  item_once None first second = absurd first
  item_once (Some item) first second = did_once item (does (context_of s.host.inner) item.socket call) first second

  slot_once : (o : Option (SocketStorage Socket)) → SlotDoes s i o call a f one → SlotDoes s i o call b g other → Same a f one b g other
  slot_once None first second = absurd first
  slot_once (Some slot) first second = item_once slot.inner first second

  call_once : Does s i call a f one → Does s i call b g other → Same a f one b g other
  call_once first second = slot_once (slice_get s.slots i) first second

-- SETTINGS

setting_once : (h one other : HostValue) (setting : Setting) → SetsTo h setting one → SetsTo h setting other → one ≡ other
setting_once h one other (Set.HardwareAddr address) first second = first ∙ sym second
setting_once h one other (Set.Addrs blocks) first second = first ∙ sym second
setting_once h one other (Set.Route router) first second =
    let routes = routed_once (has_route_room router (routes_of h.inner)) router h.inner.routes first.0 second.0 first.1 second.1 in
    first.2 ∙ ap (λ (rs : List Route). with_inner h (with_routes h.inner rs)) routes ∙ sym second.2
setting_once h one other (Set.AnyIp any) first second = first ∙ sym second
setting_once h one other (Set.ReassemblyTimeout timeout) first second = first ∙ sym second

configured_once : (s one other : NodeValue) (setting : Setting) (a b : Answer) → Configures s setting a one → Configures s setting b other →
    (a ≡ b) × (one ≡ other)
configured_once s one other setting a b first second =
    let hosts = setting_once s.host first.0 second.0 setting first.1 second.1 in
    (first.2 ∙ sym second.2, first.3 ∙ ap (λ (h : HostValue). record s { host = h }) hosts ∙ sym second.3)

-- ACTS

module _ (one_offer : OneOffer) where
  acts_once : (s one other : NodeValue) (act : Act) (a b : Answer) (f g : Option State) → s.host.inner.host_requirements ≡ false → Acts s act a f one → Acts s act b g other
      → Same a f one b g other
  acts_once s one other (Calls i call) a b f g alone first second = call_once s one other i call a b f g first second
  acts_once s one other (Sets setting) a b f g alone first second =
      let same = configured_once s one other setting a b first.0 second.0 in
      (same.0, first.1 ∙ sym second.1, same.1)
  acts_once s one other (Opens n) a b f g alone first second = (first.0 ∙ sym second.0, first.1 ∙ sym second.1, first.2 ∙ sym second.2)
  acts_once s one other (Asks instant) a b f g alone first second = (first.0 ∙ sym second.0, first.1 ∙ sym second.1, first.2 ∙ sym second.2)
  acts_once s one other (Polls instant budget) a b f g alone first second =
      let same = polls_once one_offer s one other instant budget first.0 second.0 alone first.1 second.1 in
      (first.2 ∙ ap (λ (c : Bool). To.Poll c) same.0 ∙ sym second.2, first.3 ∙ sym second.3, same.1)

  same_nodes : (one other : Nodes) → one.a ≡ other.a → one.b ≡ other.b → one ≡ other
  same_nodes one other first second = λ k. record { a = first k; b = second k }

  acts_at_once : (old one other : Nodes) (act : Act) (side : Side) (a b : Answer) (f g : Option State) → AreAlone old → ActsAt old side act a f one →
      ActsAt old side act b g other
      → Same a f one b g other
  acts_at_once old one other act A a b f g alone first second =
      let same = acts_once old.a one.a other.a act a b f g alone.0 first.acts second.acts in
      (same.0, same.1, same_nodes one other same.2 (first.rests ∙ sym second.rests))
  acts_at_once old one other act B a b f g alone first second =
      let same = acts_once old.b one.b other.b act a b f g alone.1 first.acts second.acts in
      (same.0, same.1, same_nodes one other (first.rests ∙ sym second.rests) same.2)

  happens_once : (old one other : Nodes) (k : Kind) (a b : Answer) (f g : Option State) → AreAlone old → Happens old k a f one → Happens old k b g other →
      Same a f one b g other
  happens_once old one other (OfHost side act) a b f g alone first second = acts_at_once old one other act side a b f g alone first second
  happens_once old one other (OfLink act) a b f g alone first second = (first.0 ∙ sym second.0, first.1 ∙ sym second.1, first.2 ∙ sym second.2)

  -- WORLDS

  same_entry : (e d : Entry) → e.event ≡ d.event → e.answer ≡ d.answer → e.before ≡ d.before → e.found ≡ d.found → e ≡ d
  same_entry e d events answers counts founds = λ k. record { event = events k; answer = answers k; before = counts k; found = founds k }

  same_world : (one other : WorldValue) → one.hosts ≡ other.hosts → one.starts ≡ other.starts → one.history ≡ other.history → one ≡ other
  same_world one other hosts starts history = λ k. record { hosts = hosts k; starts = starts k; history = history k }

  step_once : (old one other : WorldValue) (event : Event) (a b : Answer) → Step old event a one → Step old event b other → (a ≡ b) × (one ≡ other)
  step_once old one other event a b first second =
      let e = first.entry in
      let d = second.entry in
      let left = subst (λ (x : Event). Happens old.hosts (kind_of x) e.answer e.found one.hosts) first.event_kept first.leads.happens in
      let right = subst (λ (x : Event). Happens old.hosts (kind_of x) d.answer d.found other.hosts) second.event_kept second.leads.happens in
      let same = happens_once old.hosts one.hosts other.hosts (kind_of event) e.answer d.answer e.found d.found first.leads.alone left right in
      let entries : e ≡ d = same_entry e d (first.event_kept ∙ sym second.event_kept) same.0 (first.leads.counted ∙ sym second.leads.counted) same.1 in (
        sym first.answer_kept ∙ same.0 ∙ second.answer_kept,
        same_world one other same.2 (first.starts ∙ sym second.starts) (first.history ∙ ap (λ (x : Entry). x ∷ old.history) entries ∙ sym second.history),
      )

  pub steps_once : (old one other : WorldValue) (events : List Event) → Steps old events one → Steps old events other → one ≡ other
  steps_once old one other [] first second = first ∙ sym second
  steps_once old one other (event ∷ events) first second =
      let same = step_once old first.1 second.1 event first.0 second.0 first.2 second.2 in
      steps_once second.1 one other events (subst (λ (w : WorldValue). Steps w events one) same.1 first.3) second.3
