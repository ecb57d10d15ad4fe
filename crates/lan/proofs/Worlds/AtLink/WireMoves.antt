-- Offers, arrivals and settings: each step of one TCP socket that no call of the history tells.
use Rattle.std.proofs.Common.{◌≡◌, ◌≢◌, ◌⊎◌, inl, inr, ℕ, Bool, true, false, List, Option, Some, None, refl, sym, ap, ◌∙◌}
use Rattle.std.proofs.Common.{subst}
use Rattle.ip_wire.specs.Ip.{source_of, destination_of}
use Rattle.ip_wire.specs.IpAddress.{IpAddress}
use Rattle.ip_wire.specs.IpRepr.{IpRepr}
use Rattle.ip_wire.specs.TcpHeader.{TcpHeader}
use Rattle.sockets.specs.Context.{ContextValue}
use Rattle.sockets.specs.Polling.{Offered}
use Rattle.tcp_refinement.specs.Endpoints.{HasPorts, KeepsOrForgets, IsLeftBy, IsRenamed}
use Rattle.tcp_refinement.specs.Segment.{Segment}
use Rattle.tcp_refinement.specs.Host.{Made, made_of, made_by, past_at, IsSeenAmong, and_answer, and_offer}
use Rattle.tcp_refinement.specs.Promises.{KeepsAlone}
use Rattle.tcp_refinement.specs.Tie.{Core, core_of, Past, Keeps}
use Rattle.tcp_refinement.proofs.AloneLaws.{stays_alone, reset_arrives}
use Rattle.tcp_refinement.proofs.CallLaws.{keeps_same}
use Rattle.tcp_refinement.proofs.HostLaws.{keeps_hosted_arrival, keeps_hosted_offer, past_of_answer}
use Rattle.tcp_refinement.proofs.NameLaws.{arrival_names, answer_back, offer_between_ends, sent_names, withheld_names}
use Rattle.tcp_refinement.proofs.NameLaws.{accepted as accepted_for}
use Rattle.tcp_refinement.proofs.PortLaws.{ports_same, ports_sent, ports_withheld, ports_arrival, nameless_refuses, nameless_silent}
use Rattle.tcp_refinement.proofs.OfferLaws.{keeps_unsent_offer}
use Rattle.tcp_block.specs.declared.tcb.Tcb.{Tcb}
use Rattle.tcp_block.specs.FourTuple.{FourTuple}
use Rattle.tcp_block.specs.declared.tcb.Names.{Names}
use Rattle.tcp_block.specs.OpenOffer.{OpenOffer}
use Rattle.tcp_block.specs.Reply.{Reply}
use Rattle.tcp_block.specs.Arrival.{arrives}
use Rattle.tcp_block.specs.Endpoints.{pair_in}
use Rattle.tcp_block.specs.Names.{accepts}
use Rattle.tcp_block.specs.Offers.{offer_of, payload_of}
use Rattle.tcp_block.specs.Settled.{settled}
use Rattle.tcp_block.specs.States.{is_closed}
use Rattle.tcp_block.specs.Value.{TcpValue, unoffered}
use Rattle.lan.specs.declared.at_link.history.event.Side.{Side}
use Rattle.lan.specs.declared.at_link.history.record.Opening.{Opening}
use Rattle.lan.specs.Worlds.AtLink.Kinds.{other}
use Rattle.lan.specs.Worlds.AtLink.History.{Entry, opening}
use Rattle.lan.specs.Worlds.AtLink.PeerSides.{ArePartners}
use Rattle.lan.specs.Worlds.AtLink.Tables.{Slots, AreAllowed}
use Rattle.lan.proofs.Worlds.AtLink.PeerSideLemmas.{opened_apart, AreApart}
use Rattle.lan.specs.Worlds.AtLink.Parties.{Party, socket_at}
use Rattle.lan.specs.Worlds.AtLink.Parties.Socket.{Tcp}
use Rattle.lan.specs.Worlds.AtLink.Moves.{with_socket, offered_segments}
use Rattle.lan.proofs.Worlds.AtLink.Lists.{Each, each_get}
use Rattle.lan.proofs.Worlds.AtLink.Speaking.{come, peer_side_port, sender_is_peer_side, accepted_speaks}
use Rattle.lan.specs.Worlds.AtLink.Paired.{told}
use Rattle.lan.proofs.Worlds.AtLink.StreamInvariant.{ports_of, IsUntouched, SpeaksWith, TcpOk, SegmentOk, StreamsOk, PairsOk}
use Rattle.lan.proofs.Worlds.AtLink.HostSteps.{HostSteps}
use Rattle.lan.proofs.Worlds.AtLink.Exchange.{IsMore, leaves_all, exchange_opened, exchange_untouched}

-- a new socket without endpoints, seen by what the tie reads
pub untouched_same : (h : List Entry) (side : Side) (i : ℕ) (v new : TcpValue) → core_of new ≡ core_of v → IsUntouched h side i v → IsUntouched h side i new
untouched_same h side i v new same u = record {
  initial = record {
    state = ap (λ (c : Core). c.state) same ∙ u.initial.state;
    waiting = ap (λ (c : Core). c.waiting) same ∙ u.initial.waiting;
    queue = ap (λ (c : Core). c.queue) same ∙ u.initial.queue;
    unfinished = ap (λ (c : Core). c.took_fin) same ∙ u.initial.unfinished;
  };
  nameless = record { state = ap (λ (c : Core). is_closed c.state) same ∙ u.nameless.state; pair = ap (λ (c : Core). c.pair) same ∙ u.nameless.pair };
  nothing = u.nothing;
}

-- the pair stays, or is forgotten
pub pair_kept : (old new : Tcb) (pair : FourTuple) → KeepsOrForgets old new → new.names.pair ≡ Some pair → old.names.pair ≡ Some pair
pair_kept old new pair (inl kept) e = sym (ap (λ (n : Names). n.pair) kept.names) ∙ e
pair_kept old new pair (inr forgot) e = absurd (let none : None ≡ Some pair = sym (ap (λ (n : Names). n.pair) forgot.names) ∙ e in cc)

-- where it is asked for a segment it may also give up, which takes a listener back
pub pair_left : (old new : Tcb) (pair : FourTuple) → IsLeftBy old new → new.names.pair ≡ Some pair → old.names.pair ≡ Some pair
pair_left old new pair (inl falls) e = absurd (let none : None ≡ Some pair = sym (ap (λ (n : Names). n.pair) falls.names) ∙ e in cc)
pair_left old new pair (inr kept) e = pair_kept old new pair kept e

-- a segment that is seen as one that was sent was sent
pub seen_ok : (h : List Entry) (side : Side) (made : List Made) (from to : IpAddress) (header : TcpHeader) (bytes : List ℕ) → IsSeenAmong made header bytes →
    Each (SegmentOk h side) made → SegmentOk h side (made_of from to header bytes)
seen_ok h side made from to header bytes came all =
    by (each_get (SegmentOk h side) made came.among.0 came.segment all came.among.1)
  where
    by : SegmentOk h side came.segment → SegmentOk h side (made_of from to header bytes)
    by (inl rst) = inl (ap (λ (s : Segment). s.control) (sym came.seen) ∙ rst)
    by (inr s) =
        inr (record {
          slot = s.slot;
          by = s.by;
          opened = s.opened;
          from = s.from ∙ came.source;
          to = subst (SpeaksWith h side s.by) came.destination s.to;
        })

module _
    (slots : Slots) (h : List Entry) (side : Side) (p q : Party) (at : ℕ) (v : TcpValue) (allowed : AreAllowed slots h)
    (is : socket_at p at ≡ Some (Tcp v)) (k : StreamsOk h side p) (pairs : PairsOk h side p q) where
  abbrev ok : TcpOk h side p.segments at v
  ok = k.sockets at v is

  apart : (o : Opening) → opening h side at ≡ Some o → (i : ℕ) (one : Opening) → i ≢ at → opening h side i ≡ Some one → one.local ≢ o.local
  apart o opened i one differs is_one = by (opened_apart slots h side i at one o allowed is_one opened) where
    by : (i ≡ at) ⊎ AreApart one o → one.local ≢ o.local
    by (inl same) = absurd (differs same)
    by (inr a) = a.local

  same_one : (o one : Opening) → opening h side at ≡ Some o → opening h side at ≡ Some one → o ≡ one
  same_one o one e f = let both : Some o ≡ Some one = sym e ∙ f in cc

  -- of the peer: the invariant before
  before :
      (o : Opening) → opening h side at ≡ Some o → (j : ℕ) (w : TcpValue) (a : ArePartners h side at j) → socket_at q j ≡ Some (Tcp w)
      → Keeps v (past_at o.local p.segments (told h side at)) w (past_at a.another.local q.segments (told h (other side) j))
  before o opened j w a is_w =
      subst (λ (o : Opening). Keeps v (past_at o.local p.segments (told h side at)) w (past_at a.another.local q.segments (told h (other side) j)))
      (same_one a.one o a.opened opened) (pairs at j v w a is is_w)

  -- a step of an opened socket that keeps the invariant alongside any peer
  abbrev KeepsAny : Opening → List Made → TcpValue → Type 0
  KeepsAny o made' new = (w : TcpValue) (b : Past) → Keeps v (past_at o.local p.segments (told h side at)) w b →
      Keeps new (past_at o.local made' (told h side at)) w b

  opened_step :
      (o : Opening) (made' : List Made) (new : TcpValue) → opening h side at ≡ Some o → IsMore h side o p.segments made' → HasPorts (ports_of o) new.tcb
      → ((pair : FourTuple) → new.tcb.names.pair ≡ Some pair → v.tcb.names.pair ≡ Some pair) → KeepsAny o made' new
      → HostSteps h h side p (record (with_socket p at (Tcp new)) { segments = made' }) q
  opened_step o made' new opened more ports named keeps =
      exchange_opened h h side p q at (leaves_all h side at) k.made o made' new opened more (apart o opened) (record {
        ports = ports;
        heard = λ pair e. ok.heard o opened pair (named pair e);
        alone = λ lone. stays_alone v new (past_at o.local p.segments (told h side at)) (past_at o.local made' (told h side at)) (ok.alone o opened lone) keeps;
        pair = λ j w a is_w. keeps w (past_at a.another.local q.segments (told h (other side) j)) (before o opened j w a is_w);
      })

  -- OFFERS

  offer_more : (cx : ContextValue) (from : IpAddress) (o : Opening) → opening h side at ≡ Some o →
      IsMore h side o p.segments (and_offer p.segments from (offer_of cx v).socket.offered (offer_of cx v).socket.queued.queue)
  offer_more cx from o opened = by (offer_of cx v).socket.offered refl where
    by : (offered : Option OpenOffer) → (offer_of cx v).socket.offered ≡ offered →
        IsMore h side o p.segments (and_offer p.segments from offered (offer_of cx v).socket.queued.queue)
    by None e = inl refl
    by (Some x) e =
        let ends = offer_between_ends cx v x e in
        let has = (ok.ports o opened).pair ends.0 ends.1 in
        inr (
          made_of from (destination_of x.header) x.segment (payload_of x x.kind (offer_of cx v).socket.queued.queue),
          refl,
          ends.2.source_port ∙ has.0,
          subst (SpeaksWith h side o) (sym ends.2.destination_port) (ok.heard o opened ends.0 ends.1),
        )

  offers_opened : (cx : ContextValue) (from : IpAddress) (sent : Bool) (o : Opening) → opening h side at ≡ Some o
      → HostSteps h h side p (record (with_socket p at (Tcp (settled sent (offer_of cx v).socket))) {
        segments =
            offered_segments sent p from (offer_of cx v).socket;
      }) q
  offers_opened cx from true o opened =
      opened_step o (offered_segments true p from (offer_of cx v).socket) (settled true (offer_of cx v).socket) opened (offer_more cx from o opened)
      (ports_sent cx v (ports_of o) (ok.ports o opened)) (λ pair e. pair_left v.tcb (settled true (offer_of cx v).socket).tcb pair (sent_names cx v) e)
      (λ w b keeps. keeps_hosted_offer cx v w (told h side at) b (ports_of o) p.segments from keeps (ok.ports o opened))
  offers_opened cx from false o opened =
      opened_step o p.segments (settled false (offer_of cx v).socket) opened (inl refl)
      (ports_withheld cx v (ports_of o) (ok.ports o opened))
      (λ pair e. pair_left v.tcb (settled false (offer_of cx v).socket).tcb pair (withheld_names cx v) e)
      (λ w b keeps. keeps_unsent_offer cx v w (past_at o.local p.segments (told h side at)) b keeps)

  offers_untouched : (cx : ContextValue) (from : IpAddress) (sent : Bool) → opening h side at ≡ None
      → HostSteps h h side p (record (with_socket p at (Tcp (settled sent (offer_of cx v).socket))) {
        segments =
            offered_segments sent p from (offer_of cx v).socket;
      }) q
  offers_untouched cx from sent none =
      let u = ok.untouched none in
      let silent = nameless_silent cx v u.nameless in
      subst (λ (s : TcpValue). HostSteps h h side p (record (with_socket p at (Tcp (settled sent s))) { segments = offered_segments sent p from s }) q)
      (sym (ap (λ (o : Offered TcpValue). o.socket) silent)) (by sent u)
    where
      by : (sent : Bool) → IsUntouched h side at v →
          HostSteps h h side p (record (with_socket p at (Tcp (settled sent (unoffered v)))) { segments = offered_segments sent p from (unoffered v) }) q
      by true u = exchange_untouched h h side p q at (leaves_all h side at) k.made (unoffered v) none (untouched_same h side at v (unoffered v) refl u)
      by false u = exchange_untouched h h side p q at (leaves_all h side at) k.made (unoffered v) none (untouched_same h side at v (unoffered v) refl u)

  pub offers : (cx : ContextValue) (from : IpAddress) (sent : Bool)
      → HostSteps h h side p (record (with_socket p at (Tcp (settled sent (offer_of cx v).socket))) {
        segments =
            offered_segments sent p from (offer_of cx v).socket;
      }) q
  offers cx from sent = by (opening h side at) refl where
    by : (o : Option Opening) → opening h side at ≡ o →
        HostSteps h h side p (record (with_socket p at (Tcp (settled sent (offer_of cx v).socket))) {
          segments =
              offered_segments sent p from (offer_of cx v).socket;
        }) q
    by None e = offers_untouched cx from sent e
    by (Some o) e = offers_opened cx from sent o e

  -- WHAT CHANGES NOTHING THAT THE TIE READS

  pub changes : (new : TcpValue) → core_of new ≡ core_of v → HostSteps h h side p (record (with_socket p at (Tcp new)) { segments = p.segments }) q
  changes new same = by (opening h side at) refl where
    by : (o : Option Opening) → opening h side at ≡ o → HostSteps h h side p (record (with_socket p at (Tcp new)) { segments = p.segments }) q
    by None e = exchange_untouched h h side p q at (leaves_all h side at) k.made new e (untouched_same h side at v new same (ok.untouched e))
    by (Some o) e =
        opened_step o p.segments new e (inl refl) (ports_same v new (ports_of o) same (ok.ports o e))
        (λ pair named. sym (ap (λ (c : Core). c.pair) same) ∙ named)
        (λ w b keeps. keeps_same v new w (past_at o.local p.segments (told h side at)) b same keeps)

  -- ARRIVALS

  module _
      (cx : ContextValue) (ip : IpRepr) (header : TcpHeader) (bytes : List ℕ) (accepted : accepts v.tcb ip header ≡ true)
      (among : IsSeenAmong q.segments header bytes) (theirs : Each (SegmentOk h (other side)) q.segments) where
    abbrev new : TcpValue
    new = (arrives cx v ip header bytes).socket

    abbrev made_after : List Made
    made_after = and_answer p.segments (arrives cx v ip header bytes).answer

    sent_ok : SegmentOk h (other side) (come ip header bytes)
    sent_ok = seen_ok h (other side) q.segments (source_of ip) (destination_of ip) header bytes among theirs

    module _ (o : Opening) (opened : opening h side at ≡ Some o) where
      speaks : (header.dst_port ≡ o.local) × SpeaksWith h side o header.src_port
      speaks = accepted_speaks h side at o opened slots allowed p.segments v ip header bytes ok (accepted_for v.tcb ip header accepted) sent_ok

      answer_more : IsMore h side o p.segments made_after
      answer_more = by (arrives cx v ip header bytes).answer refl where
        by : (answer : Option Reply) → (arrives cx v ip header bytes).answer ≡ answer → IsMore h side o p.segments (and_answer p.segments answer)
        by None e = inl refl
        by (Some reply) e =
            let back = answer_back cx v ip header bytes reply e in
            inr (made_by reply, refl, back.source_port ∙ speaks.0, subst (SpeaksWith h side o) (sym back.destination_port) speaks.1)

      named_after : (pair : FourTuple) → new.tcb.names.pair ≡ Some pair → SpeaksWith h side o pair.remote_port
      named_after pair e = by (arrival_names cx v ip header bytes) where
        port_of : (pair : FourTuple) → Some (pair_in ip header) ≡ Some pair → header.src_port ≡ pair.remote_port
        port_of pair same = let is : pair_in ip header ≡ pair = cc in ap (λ (x : FourTuple). x.remote_port) is

        by : IsRenamed ip header v.tcb new.tcb → SpeaksWith h side o pair.remote_port
        by (inl opens) =
            let same : Some (pair_in ip header) ≡ Some pair = sym (ap (λ (n : Names). n.pair) opens.names) ∙ e in
            let remote : header.src_port ≡ pair.remote_port = port_of pair same in
            subst (SpeaksWith h side o) remote speaks.1
        by (inr (inl falls)) = absurd (let none : None ≡ Some pair = sym (ap (λ (n : Names). n.pair) falls.names) ∙ e in cc)
        by (inr (inr kept)) = ok.heard o opened pair (pair_kept v.tcb new.tcb pair kept e)

      lone_after : ((j : ℕ) → ¬ (ArePartners h side at j)) → KeepsAlone new (past_at o.local made_after (told h side at))
      lone_after lone = by sent_ok where
        by : SegmentOk h (other side) (come ip header bytes) → KeepsAlone new (past_at o.local made_after (told h side at))
        by (inl rst) =
            subst (KeepsAlone new)
            (past_of_answer o.local p.segments (told h side at) (arrives cx v ip header bytes).answer
            (λ reply e. (answer_back cx v ip header bytes reply e).source_port ∙ speaks.0))
            (reset_arrives cx v (past_at o.local p.segments (told h side at)) ip header bytes (ok.alone o opened lone) rst)
        by (inr s) = let peer_side = sender_is_peer_side h side at o opened (come ip header bytes) speaks.0 speaks.1 s in absurd (lone peer_side.0 peer_side.1)

      pair_after :
          (j : ℕ) (w : TcpValue) (a : ArePartners h side at j) → socket_at q j ≡ Some (Tcp w)
          → Keeps new (past_at o.local made_after (told h side at)) w (past_at a.another.local q.segments (told h (other side) j))
      pair_after j w a is_w =
          let theirs_is = peer_side_port h side at o opened slots allowed j header.src_port a speaks.1 in
          let at_ports : Keeps v (past_at header.dst_port p.segments (told h side at)) w (past_at header.src_port q.segments (told h (other side) j)) =
          subst (λ (port : ℕ). Keeps v (past_at port p.segments (told h side at)) w (past_at header.src_port q.segments (told h (other side) j))) (sym speaks.0)
          (subst (λ (port : ℕ). Keeps v (past_at o.local p.segments (told h side at)) w (past_at port q.segments (told h (other side) j))) theirs_is
          (before o opened j w a is_w)) in
          subst (λ (port : ℕ). Keeps new (past_at port made_after (told h side at)) w (past_at a.another.local q.segments (told h (other side) j))) speaks.0
          (subst (λ (port : ℕ). Keeps new (past_at header.dst_port made_after (told h side at)) w (past_at port q.segments (told h (other side) j)))
          (sym theirs_is)
          (keeps_hosted_arrival cx v w (told h side at) (told h (other side) j) ip header bytes p.segments q.segments at_ports among))

    pub takes : HostSteps h h side p (record (with_socket p at (Tcp new)) { segments = made_after }) q
    takes = by (opening h side at) refl where
      by : (o : Option Opening) → opening h side at ≡ o → HostSteps h h side p (record (with_socket p at (Tcp new)) { segments = made_after }) q
      by None e =
          let refused = nameless_refuses v.tcb ip header (ok.untouched e).nameless in
          absurd (let clash : false ≡ true = sym refused ∙ accepted in cc)
      by (Some o) e =
          exchange_opened h h side p q at (leaves_all h side at) k.made o made_after new e (answer_more o e) (apart o e) (record {
            ports = ports_arrival cx v ip header bytes (ports_of o) accepted (ok.ports o e);
            heard = named_after o e;
            alone = lone_after o e;
            pair = pair_after o e;
          })
