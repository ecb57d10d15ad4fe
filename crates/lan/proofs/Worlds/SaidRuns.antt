-- Wherever events led two hosts, what is held of fragments and what waits says what the other host's own frames say.
use Rattle.std.proofs.Common.{◌≡◌, ℕ, ◌^◌, ◌<◌, ◌%◌, ◌==◌, ◌||◌, not, if◌then◌else◌, false, List, [], ◌∷◌, ◌++◌, length, take}
use Rattle.std.proofs.Common.{drop, Option, Some, None, refl, sym, ◌∙◌, ap, subst}
use Rattle.std.specs.Prelude.{ℤ, nat_lt}
use Rattle.std.specs.List.{AllByRecursion}
use Rattle.std.proofs.lemmas.List.{take_at, drop_at}
use Rattle.sim_link.specs.Medium.{Medium}
use Rattle.iface_tables.specs.declared.key.FragKey.{FragKey}
use Rattle.interface.specs.Host.{HostValue}
use Rattle.sim_link.specs.PacketInFrame.{names_tcp_or_udp}
use Rattle.sim_link.specs.Cuts.{ipv4_part, first_fragment, second_fragment}
use Rattle.sim_link.specs.declared.part.Part.{Part}
use Rattle.lan.specs.Worlds.AtLink.Call.{SocketCall}
use Rattle.lan.specs.Worlds.AtLink.History.{Entry, Counts}
use Rattle.lan.specs.Worlds.AtLink.Kinds.{other, Kind, Origin, Delivered, Damaged, Noisy, Setting, kind_of}
use Rattle.lan.specs.Worlds.AtLink.Kinds as Settings
use Rattle.lan.specs.Worlds.AtLink.Kinds.Act.{Calls, Sets, Opens, Asks, Polls}
use Rattle.lan.specs.Worlds.AtLink.Kinds.Kind.{OfHost, OfLink}
use Rattle.lan.specs.Worlds.AtLink.Kinds.LinkAct.{Hands, Cuts}
use Rattle.lan.specs.Worlds.AtLink.Tables.{first_refusal}
use Rattle.lan.specs.Worlds.AtLink.Answer.{Answer}
use Rattle.lan.specs.Worlds.AtLink.Refused.TheVariants as For
use Rattle.lan.specs.Worlds.AtLink.Side.{Side}
use Rattle.lan.specs.Worlds.AtLink.Side.TheVariants.{A, B}
use Rattle.lan.specs.Worlds.AtLink.Parties.{Net}
use Rattle.lan.specs.Worlds.AtLink.Port.{added, arrived}
use Rattle.lan.specs.Worlds.AtLink.Initial.{IsInitialWorld}
use Rattle.lan.specs.Worlds.AtLink.Origins.{medium_of, frame_sent, frame_of_origin, goes_to, sent_before, is_cut_of, own_frames}
use Rattle.lan.specs.Worlds.AtLink.Refusals.{is_no_frame, is_no_cut, cut_tests, link_tests, refusal}
use Rattle.lan.specs.Worlds.AtLink.Runs.{Starts, Leads, WorldRun, unused_both, counts_of, tables_in}
use Rattle.lan.specs.Worlds.AtLink.Sets.{SetsTo, Configures}
use Rattle.lan.specs.Worlds.AtLink.Node.{NodeValue, Nodes, node, with_node, with_link}
use Rattle.lan.specs.Worlds.AtLink.Steps.{Acts, Happens, ActsAt}
use Rattle.tcp_block.specs.State.{State}
use Rattle.sim_link.specs.DeviceCapabilities.{DeviceCapabilities}
use Rattle.lan.specs.Worlds.Events.{HasWord, IsTyped, AreTyped}
use Rattle.lan.specs.Worlds.Hosts.Damage.{BringsNoSegment}
use Rattle.lan.specs.Worlds.Hosts.Proceeds.{Proceeds}
use Rattle.lan.specs.Worlds.Joins.{AreJoined}
use Rattle.lan.specs.Worlds.Link.Frames.{medium_on}
use Rattle.lan.specs.Worlds.Link.Sides.{IsHostFrame}
use Rattle.lan.specs.Worlds.FragmentFacts.{Fact, IsSaid}
use Rattle.lan.proofs.Worlds.Acts.{call_settled}
use Rattle.lan.proofs.Worlds.Beginnings.{firsts}
use Rattle.lan.proofs.Worlds.Damages.{brings_none}
use Rattle.lan.proofs.Worlds.Hosts.Moving.{proceeds}
use Rattle.lan.proofs.Worlds.Link.SaidFrames.{FrameSo, TakenSo, delivered_so, damaged_so, noise_so, cut_so, more_said, own_so, frames_up, taken_up}
use Rattle.lan.proofs.Worlds.Link.AssemblerFacts.{AssemblersSo, assemblers_up, free_assemblers_so}
use Rattle.lan.proofs.Worlds.Link.Assemblers.{all_more}
use Rattle.lan.proofs.Worlds.LinkActs.{passed, below, all_get, either_none, unit_by, inside_by}
use Rattle.lan.proofs.Worlds.Moves.Nets.{either_side}
use Rattle.lan.proofs.Worlds.Runs.{has_come}
use Rattle.lan.proofs.Worlds.SaidPolls.{IsTaking, polled_takes}

-- LISTS

module _ {X : Type 0} (Q : X → Type 0) where
  pub all_both : (xs ys : List X) → AllByRecursion Q xs → AllByRecursion Q ys → AllByRecursion Q (xs ++ ys)
  all_both [] ys one two = two
  all_both (x ∷ xs) ys one two = (one.0, all_both xs ys one.1 two)

  all_following : (xs ys : List X) → AllByRecursion Q (xs ++ ys) → AllByRecursion Q ys
  all_following [] ys all = all
  all_following (x ∷ xs) ys all = all_following xs ys all.1

-- A HOST: S says what each host's own frames say

module _ (m : Medium) (S : Side → FragKey → Fact → Type 0) where
  -- its sent frames say what its own say; what it holds and what waits for it says what the other's say
  pub record IsSaying (side : Side) (s : NodeValue) : Type 0 where
    pub sent : AllByRecursion (FrameSo (S side) m) s.link.sent
    pub assemblers : AssemblersSo (S (other side)) s.host.assemblers
    pub waits : AllByRecursion (TakenSo (S (other side)) m) s.link.waiting

  -- both hosts
  abbrev pub AreSaying : Nodes → Type 0
  AreSaying hosts = (side : Side) → IsSaying side (node hosts side)

  -- A HOST THAT NEITHER SENDS NOR TAKES

  record IsStill (s s' : NodeValue) : Type 0 where
    sent : s'.link.sent ≡ s.link.sent
    assemblers : s'.host.assemblers ≡ s.host.assemblers
    waiting : s'.link.waiting ≡ s.link.waiting

  still_saying : (side : Side) (s s' : NodeValue) → IsStill s s' → IsSaying side s → IsSaying side s'
  still_saying side s s' is says = record {
    sent = subst (AllByRecursion (FrameSo (S side) m)) (sym is.sent) says.sent;
    assemblers = subst (AssemblersSo (S (other side))) (sym is.assemblers) says.assemblers;
    waits = subst (AllByRecursion (TakenSo (S (other side)) m)) (sym is.waiting) says.waits;
  }

  set_assemblers : (h h' : HostValue) (setting : Setting) → SetsTo h setting h' → h'.assemblers ≡ h.assemblers
  set_assemblers h h' (Settings.HardwareAddr address) is = ap (λ (x : HostValue). x.assemblers) is
  set_assemblers h h' (Settings.Addrs blocks) is = ap (λ (x : HostValue). x.assemblers) is
  set_assemblers h h' (Settings.Route router) is = ap (λ (x : HostValue). x.assemblers) is.2
  set_assemblers h h' (Settings.AnyIp any) is = ap (λ (x : HostValue). x.assemblers) is
  set_assemblers h h' (Settings.ReassemblyTimeout timeout) is = ap (λ (x : HostValue). x.assemblers) is

  same_still : (s s' : NodeValue) → s' ≡ s → IsStill s s'
  same_still s s' is = record {
    sent = ap (λ (x : NodeValue). x.link.sent) is;
    assemblers = ap (λ (x : NodeValue). x.host.assemblers) is;
    waiting =
        ap (λ (x : NodeValue). x.link.waiting) is;
  }

  called_still : (s s' : NodeValue) (i : ℕ) (call : SocketCall) (answer : Answer) (found : Option State) → Acts s (Calls i call) answer found s' →
      IsStill s s'
  called_still s s' i call answer found acts = let is = call_settled s s' i call answer found acts in
      record { sent = is.sent; assemblers = is.assemblers; waiting = is.waiting }

  set_still : (s s' : NodeValue) (setting : Setting) (answer : Answer) → Configures s setting answer s' → IsStill s s'
  set_still s s' setting answer is = record {
    sent = ap (λ (x : NodeValue). x.link.sent) is.3;
    assemblers = ap (λ (x : NodeValue). x.host.assemblers) is.3 ∙ set_assemblers s.host is.0 setting is.1;
    waiting = ap (λ (x : NodeValue). x.link.waiting) is.3;
  }

  room_still : (s s' : NodeValue) (n : ℕ) (answer : Answer) (found : Option State) → Acts s (Opens n) answer found s' → IsStill s s'
  room_still s s' n answer found is =
      record {
        sent = ap (λ (x : NodeValue). x.link.sent) is.2;
        assemblers = ap (λ (x : NodeValue). x.host.assemblers) is.2;
        waiting =
            ap (λ (x : NodeValue). x.link.waiting) is.2;
      }

  asked_still : (s s' : NodeValue) (t : ℤ) (answer : Answer) (found : Option State) → Acts s (Asks t) answer found s' → IsStill s s'
  asked_still s s' t answer found is =
      record {
        sent = ap (λ (x : NodeValue). x.link.sent) is.2;
        assemblers = ap (λ (x : NodeValue). x.host.assemblers) is.2;
        waiting =
            ap (λ (x : NodeValue). x.link.waiting) is.2;
      }

  -- one host acted, and the other rested
  acted_saying : (old new : Nodes) (side : Side) → node new (other side) ≡ node old (other side) → AreSaying old → IsSaying side (node new side) →
      AreSaying new
  acted_saying old new side rests says here =
      either_side side (λ x. IsSaying x (node new x)) here
      (still_saying (other side) (node old (other side)) (node new (other side)) (same_still (node old (other side)) (node new (other side)) rests)
      (says (other side)))

  still_acted : (old new : Nodes) (side : Side) → node new (other side) ≡ node old (other side) → IsStill (node old side) (node new side) →
      AreSaying old → AreSaying new
  still_acted old new side rests is says = acted_saying old new side rests says (still_saying side (node old side) (node new side) is (says side))

  -- THE LINK

  given_to : (side : Side) (s : NodeValue) (frame : List ℕ) → TakenSo (S (other side)) m frame → IsSaying side s →
      IsSaying side (with_link s (arrived s.link frame))
  given_to side s frame taken says =
      record { sent = says.sent; assemblers = says.assemblers; waits = all_more (TakenSo (S (other side)) m) s.link.waiting frame says.waits taken }

  given_saying : (hosts : Nodes) (g : Side) (frame : List ℕ) → TakenSo (S (other g)) m frame → AreSaying hosts →
      AreSaying (with_node hosts g (with_link (node hosts g) (arrived (node hosts g).link frame)))
  given_saying hosts A frame taken says A = given_to A hosts.a frame taken (says A)
  given_saying hosts A frame taken says B = says B
  given_saying hosts B frame taken says A = says A
  given_saying hosts B frame taken says B = given_to B hosts.b frame taken (says B)

  cut_to : (side : Side) (s : NodeValue) (one two : List ℕ) → FrameSo (S side) m one → FrameSo (S side) m two → IsSaying side s →
      IsSaying side (with_link s (added (added s.link one) two))
  cut_to side s one two first second says =
      record {
        sent = all_more (FrameSo (S side) m) (s.link.sent ++ one ∷ []) two (all_more (FrameSo (S side) m) s.link.sent one says.sent first) second;
        assemblers = says.assemblers;
        waits = says.waits;
      }

  cut_saying : (hosts : Nodes) (g : Side) (one two : List ℕ) → FrameSo (S g) m one → FrameSo (S g) m two → AreSaying hosts →
      AreSaying (with_node hosts g (with_link (node hosts g) (added (added (node hosts g).link one) two)))
  cut_saying hosts A one two first second says A = cut_to A hosts.a one two first second (says A)
  cut_saying hosts A one two first second says B = says B
  cut_saying hosts B one two first second says A = says A
  cut_saying hosts B one two first second says B = cut_to B hosts.b one two first second (says B)

  -- a frame that a host sent
  sent_so : (hosts : Nodes) (from : Side) (k : ℕ) → AreSaying hosts → is_no_frame (node hosts from) k ≡ false →
      FrameSo (S from) m (frame_sent hosts from k)
  sent_so hosts from k says there =
      all_get (FrameSo (S from) m) (node hosts from).link.sent k [] (says from).sent (below k (length (node hosts from).link.sent) there)

  module _ (firsts most : Side → ℕ) (hosts : Nodes) (net : Net) (j : AreJoined firsts most hosts net) (on_m : (side : Side) →
      medium_of (node hosts side) ≡ m) where
    damage_so : (from : Side) (T : FragKey → Fact → Type 0) (k slot word : ℕ) (padding : List ℕ) → word < 2 ^ 16 →
        first_refusal (link_tests hosts (Hands (Damaged from k slot word padding))) ≡ None
        → TakenSo T m (frame_of_origin hosts (Damaged from k slot word padding))
    damage_so from T k slot word padding small allowed =
        damaged_so T m (frame_of_origin hosts (Damaged from k slot word padding))
        (subst (λ (x : Medium). BringsNoSegment x (frame_of_origin hosts (Damaged from k slot word padding))) (on_m from)
        (brings_none firsts most hosts net j from k slot word padding small allowed))

    -- whatever the link hands over
    origin_so : (o : Origin) → HasWord o → first_refusal (link_tests hosts (Hands o)) ≡ None → AreSaying hosts →
        TakenSo (S (other (goes_to o))) m (frame_of_origin hosts o)
    origin_so (Delivered A k padding) word allowed says =
        delivered_so (S A) m (frame_sent hosts A k) padding (sent_so hosts A k says (passed (is_no_frame hosts.a k) For.NoFrame None allowed).0)
    origin_so (Delivered B k padding) word allowed says =
        delivered_so (S B) m (frame_sent hosts B k) padding (sent_so hosts B k says (passed (is_no_frame hosts.b k) For.NoFrame None allowed).0)
    origin_so (Damaged A k slot word padding) small allowed says = damage_so A (S A) k slot word padding small allowed
    origin_so (Damaged B k slot word padding) small allowed says = damage_so B (S B) k slot word padding small allowed
    origin_so (Noisy to bytes) word allowed says =
        noise_so (S (other to)) m bytes
        (ap (λ (x : Medium). names_tcp_or_udp x bytes) (sym (on_m to)) ∙
        (passed (names_tcp_or_udp (medium_of (node hosts to)) bytes) For.NamesTcpOrUdp None allowed).0)

    -- both fragments of a cut
    abbrev FragmentList : Side → ℕ → ℕ → Type 0
    FragmentList from k at =
        FrameSo (S from) m (first_fragment (medium_of (node hosts from)) (frame_sent hosts from k) at)
        × FrameSo (S from) m (second_fragment (medium_of (node hosts from)) (frame_sent hosts from k) at)

    fragments_by : (from : Side) (k at : ℕ) (o : Option Part) → AreSaying hosts → is_no_frame (node hosts from) k ≡ false →
        ipv4_part (medium_of (node hosts from)) (frame_sent hosts from k) ≡ o → first_refusal (cut_tests o at) ≡ None → FragmentList from k at
    fragments_by from k at None says there is allowed = absurd cc
    fragments_by from k at (Some part) says there is allowed =
        let first = passed (is_no_cut part at) For.CutPlace None allowed in
        let rest = either_none (at == 0) (not (at % 8 == 0) || not (nat_lt at part.len)) first.0 in
        let two = either_none (not (at % 8 == 0)) (not (nat_lt at part.len)) rest.1 in
        let here : ipv4_part m (frame_sent hosts from k) ≡ Some part = ap (λ (x : Medium). ipv4_part x (frame_sent hosts from k)) (sym (on_m from)) ∙ is in
        let fragments = cut_so (S from) m (frame_sent hosts from k) part at (sent_so hosts from k says there) here (inside_by at part.len two.1)
        (unit_by at two.0) in (
          subst (λ (x : Medium). FrameSo (S from) m (first_fragment x (frame_sent hosts from k) at)) (sym (on_m from)) fragments.0,
          subst (λ (x : Medium). FrameSo (S from) m (second_fragment x (frame_sent hosts from k) at)) (sym (on_m from)) fragments.1,
        )

    fragments_so : (from : Side) (k at : ℕ) → AreSaying hosts → first_refusal (link_tests hosts (Cuts from k at)) ≡ None → FragmentList from k at
    fragments_so from k at says allowed =
        let o : Option Part = ipv4_part (medium_of (node hosts from)) (frame_sent hosts from k) in
        let first = passed (is_no_frame (node hosts from) k) For.NoFrame (first_refusal (cut_tests o at)) allowed in
        fragments_by from k at o says first.0 refl first.1

-- UP

saying_up : (m : Medium) (S T : Side → FragKey → Fact → Type 0) → ((side : Side) (key : FragKey) (fact : Fact) → S side key fact → T side key fact) →
    (hosts : Nodes) → AreSaying m S hosts → AreSaying m T hosts
saying_up m S T up hosts says side = record {
  sent = frames_up (S side) (T side) (up side) m (node hosts side).link.sent (says side).sent;
  assemblers = assemblers_up (S (other side)) (T (other side)) (up (other side)) (node hosts side).host.assemblers (says side).assemblers;
  waits = taken_up (S (other side)) (T (other side)) (up (other side)) m (node hosts side).link.waiting (says side).waits;
}

-- what a host's own frames say
abbrev pub said : Medium → List Entry → Nodes → Side → FragKey → Fact → Type 0
said m history hosts side = IsSaid m (own_frames side history (node hosts side).link.sent)

sent_count : (hosts : Nodes) (side : Side) → sent_before (counts_of hosts) side ≡ length (node hosts side).link.sent
sent_count hosts A = refl
sent_count hosts B = refl

-- the hosts' media
module _ (m : Medium) (firsts most : Side → ℕ) (hosts : Nodes) (net : Net) (j : AreJoined firsts most hosts net) (port : medium_of hosts.a ≡ m) where
  pub host_on : (side : Side) → medium_on (node hosts side).host.inner.hardware ≡ m
  host_on A = sym (j.device A) ∙ port
  host_on B = sym j.medium ∙ sym (j.device A) ∙ port

  pub port_on : (side : Side) → medium_of (node hosts side) ≡ m
  port_on side = j.device side ∙ host_on side

-- AN EVENT

module _ (m : Medium) (firsts most most' : Side → ℕ) (net net' : Net) (past : List Entry) (old new : Nodes) (e : Entry) (leads : Leads past old e new)
    (j : AreJoined firsts most old net) (j' : AreJoined firsts most' new net') (port : medium_of old.a ≡ m) (port' : medium_of new.a ≡ m) where
  abbrev on : (side : Side) → Proceeds (node old side) (node new side)
  on side = proceeds past old new e leads side

  abbrev more : Side → List (List ℕ)
  more side = (on side).more

  counted : (side : Side) → length (node old side).link.sent ≡ sent_before e.before side
  counted side = sym (ap (λ (c : Counts). sent_before c side) leads.counted ∙ sent_count old side)

  abbrev S : Side → FragKey → Fact → Type 0
  S = said m (e ∷ past) new

  own_more : (side : Side) → own_frames side (e ∷ past) (node new side).link.sent ≡ own_frames side past (node old side).link.sent ++
      (if is_cut_of side (kind_of e.event) then [] else more side)
  own_more side =
      let s = (node old side).link.sent in
      ap (λ (xs : List (List ℕ)). own_frames side past (take (sent_before e.before side) xs) ++
      (if is_cut_of side (kind_of e.event) then [] else drop (sent_before e.before side) xs)) (on side).sent
      ∙ ap (λ (xs : List (List ℕ)). own_frames side past xs ++
      (if is_cut_of side (kind_of e.event) then [] else drop (sent_before e.before side) (s ++ more side)))
      (take_at s (more side) (sent_before e.before side) (counted side))
      ∙ ap (λ (xs : List (List ℕ)). own_frames side past s ++ (if is_cut_of side (kind_of e.event) then [] else xs))
      (drop_at s (more side) (sent_before e.before side) (counted side))

  up : (side : Side) (key : FragKey) (fact : Fact) → said m past old side key fact → S side key fact
  up side key fact s =
      subst (λ (xs : List (List ℕ)). IsSaid m xs key fact) (sym (own_more side))
      (more_said m (own_frames side past (node old side).link.sent) (if is_cut_of side (kind_of e.event) then [] else more side) key fact s)

  module _ (says : AreSaying m (said m past old) old) where
    raised : AreSaying m S old
    raised = saying_up m (said m past old) S up old says

    -- a poll
    module _ (side : Side) (t : ℤ) (budget : ℕ) (is : kind_of e.event ≡
        OfHost side (Polls t budget)) (acts : ActsAt old side (Polls t budget) e.answer e.found new) where
      abbrev s : NodeValue
      s = node old side

      abbrev s' : NodeValue
      s' = node new side

      all : AllByRecursion (IsHostFrame m (j'.out side)) (s.link.sent ++ more side)
      all = subst (AllByRecursion (IsHostFrame m (j'.out side))) (on side).sent
          (subst (λ (x : Medium). AllByRecursion (IsHostFrame x (j'.out side)) s'.link.sent) (host_on m firsts most' new net' j' port' side)
          (j'.sends side).frames)

      own : own_frames side (e ∷ past) s'.link.sent ≡ own_frames side past s.link.sent ++ more side
      own = own_more side ∙ ap (λ (k : Kind). own_frames side past s.link.sent ++ (if is_cut_of side k then [] else more side)) is

      initial : AllByRecursion (FrameSo (S side) m) (more side)
      initial = subst (λ (xs : List (List ℕ)). AllByRecursion (FrameSo (IsSaid m xs) m) (more side)) (sym own)
          (own_so (j'.out side) m (own_frames side past s.link.sent) (more side)
          (all_following (IsHostFrame m (j'.out side)) s.link.sent (more side) all))

      sent : AllByRecursion (FrameSo (S side) m) s'.link.sent
      sent = subst (AllByRecursion (FrameSo (S side) m)) (sym (on side).sent) (all_both (FrameSo (S side) m) s.link.sent (more side) (raised side).sent initial)

      taking : IsTaking (S (other side)) m s'.host.inner s'.host.assemblers s'.link.waiting
      taking = polled_takes (S (other side)) m s s' t budget acts.acts.0 acts.acts.1 (record {
        hardware = host_on m firsts most old net j port side;
        checksums = (j.receives side).checksums;
        assemblers_are = (raised side).assemblers;
        waits = (raised side).waits;
      })

      polled : AreSaying m S new
      polled = acted_saying m S old new side acts.rests raised (record { sent = sent; assemblers = taking.assemblers_are; waits = taking.waits })

    by_kind : (k : Kind) → kind_of e.event ≡ k → IsTyped k → refusal old (tables_in past old) k ≡ None → Happens old k e.answer e.found new → AreSaying m S new
    by_kind (OfHost side (Calls i call)) is typed allowed happens =
        still_acted m S old new side happens.rests (called_still m S (node old side) (node new side) i call e.answer e.found happens.acts) raised
    by_kind (OfHost side (Sets setting)) is typed allowed happens =
        still_acted m S old new side happens.rests (set_still m S (node old side) (node new side) setting e.answer happens.acts.0) raised
    by_kind (OfHost side (Opens n)) is typed allowed happens =
        still_acted m S old new side happens.rests (room_still m S (node old side) (node new side) n e.answer e.found happens.acts) raised
    by_kind (OfHost side (Asks t)) is typed allowed happens =
        still_acted m S old new side happens.rests (asked_still m S (node old side) (node new side) t e.answer e.found happens.acts) raised
    by_kind (OfHost side (Polls t budget)) is typed allowed happens = polled side t budget is happens
    by_kind (OfLink (Hands o)) is typed allowed happens =
        subst (AreSaying m S) (sym happens.2)
        (given_saying m S old (goes_to o) (frame_of_origin old o)
        (origin_so m S firsts most old net j (port_on m firsts most old net j port) o typed allowed raised) raised)
    by_kind (OfLink (Cuts from k at)) is typed allowed happens =
        let fragments = fragments_so m S firsts most old net j (port_on m firsts most old net j port) from k at raised allowed in
        subst (AreSaying m S) (sym happens.2) (cut_saying m S old from _ _ fragments.0 fragments.1 raised)

-- A RUN

-- on the medium m
pub record HasSaid (m : Medium) (history : List Entry) (hosts : Nodes) : Type 0 where
  pub port : medium_of hosts.a ≡ m
  pub says : AreSaying m (said m history hosts) hosts

module _ (starts : Starts) (initial : IsInitialWorld starts) where
  abbrev pub medium : Medium
  medium = starts.a.capabilities.medium

  begins : HasSaid medium [] (unused_both starts)
  begins = record {
    port = refl;
    says = λ side. elim side as (λ x. IsSaying medium (said medium [] (unused_both starts)) x (node (unused_both starts) x)) [
      | A ↦ record { sent = tt; assemblers = free_assemblers_so (said medium [] (unused_both starts) B) starts.a.host.assemblers initial.a.idle.1; waits = tt }
      | B ↦ record { sent = tt; assemblers = free_assemblers_so (said medium [] (unused_both starts) A) starts.b.host.assemblers initial.b.idle.1; waits = tt }
    ];
  }

  pub has_said : (history : List Entry) (hosts : Nodes) → AreTyped history → WorldRun history (unused_both starts) hosts → HasSaid medium history hosts
  has_said [] hosts typed ran = subst (HasSaid medium []) (sym ran) begins
  has_said (e ∷ past) hosts typed ran =
      let old = has_said past ran.0 typed.1 ran.1 in
      let before = (has_come starts past ran.0 initial typed.1 ran.1).joined in
      let after = (has_come starts (e ∷ past) hosts initial typed ran).joined in
      let port' : medium_of hosts.a ≡ medium = ap (λ (c : DeviceCapabilities). c.medium) (proceeds past ran.0 hosts e ran.2 A).capabilities ∙ old.port in
      record {
        port = port';
        says = by_kind medium (firsts starts) before.most after.most _ _ past ran.0 hosts e ran.2 before.joined after.joined old.port port' old.says
            (kind_of e.event) refl typed.0 ran.2.allowed ran.2.happens;
      }
