-- What a TCP socket of a host that stays tells of its ends: it was opened at a port, and past SYN-SENT a segment came to it between two hosts.
use Rattle.std.proofs.Common.{◌≡◌, ◌≢◌, ◌⊎◌, inl, inr, ℕ, zero, suc, ℤ, Bool, true, false, not, ◌&&◌, if◌then◌else◌, min, List, [], ◌∷◌, length, take}
use Rattle.std.proofs.Common.{Option, Some, None, IfSome, Result, Ok, Err, refl, sym, ap, ◌∙◌, subst}
use Rattle.std.specs.Prelude.{◌||◌, ◌==◌, slice_set, slice_index_or}
use Rattle.std.proofs.lemmas.Bool.{and_parts}
use Rattle.ip_wire.specs.AddressTests.{is_multicast, is_unspecified}
use Rattle.iface_ingress.specs.Processed.{is_for_many}
use Rattle.iface_ingress.specs.Reassembled.{is_astray}
use Rattle.wire_address.specs.declared.ip.IpEndpoint.{IpEndpoint}
use Rattle.wire_address.specs.declared.ip.IpListenEndpoint.{IpListenEndpoint}
use Rattle.wire_ip.specs.Ip.{source_of, destination_of}
use Rattle.wire_ip.specs.declared.ip.repr.IpRepr.{IpRepr}
use Rattle.wire_ip.specs.declared.ip.repr.IpRepr.TheVariants as Ip
use Rattle.iface_tables.specs.Inner.{InnerValue, is_for_us, is_local_broadcast}
use Rattle.ip_wire.specs.TcpHeader.{TcpHeader}
use Rattle.net_base.specs.Ring.{anchored, enqueued}
use Rattle.sockets.specs.Context.{ContextValue}
use Rattle.tcp_refinement.specs.Endpoints.{IsLeftBy, IsRenamed, KeepsOrForgets}
use Rattle.tcp_refinement.proofs.NameLaws.{abort_names, accepted, arrival_names, close_names, sent_names, withheld_names}
use Rattle.tcp_invariants.specs.Events.{is_past}
use Rattle.tcp_liveness.proofs.Past.{abort_past, close_past, sent_past, withheld_past}
use Rattle.tcp_block.specs.AddressPair.{AddressPair}
use Rattle.tcp_block.specs.Arrival.{arrives}
use Rattle.tcp_block.specs.Calls.{abort_after, addresses_by, close_after, connected_by, listening, pair_by, four_tuple_for, recv_answer, sent_more}
use Rattle.tcp_block.specs.FourTuple.{FourTuple}
use Rattle.tcp_block.specs.Endpoints.{addresses_in, local_of, pair_in, remote_of}
use Rattle.tcp_block.specs.Isn.{number_for}
use Rattle.tcp_block.specs.Names.{accepts}
use Rattle.tcp_block.specs.Offers.{offer_of}
use Rattle.tcp_block.specs.RecvError.{RecvError}
use Rattle.tcp_block.specs.Settled.{settled}
use Rattle.tcp_block.specs.State.{State}
use Rattle.tcp_block.specs.State.TheVariants as In
use Rattle.tcp_block.specs.States.{is_answering, is_closed, is_listening, takes_writes}
use Rattle.tcp_block.specs.Value.{TcpValue, unoffered}
use Rattle.tcp_block.specs.declared.tcb.Names.{Names}
use Rattle.lan.specs.declared.at_link.history.answer.Answer.{Answer}
use Rattle.lan.specs.Worlds.AtLink.Call as Call
use Rattle.lan.specs.Worlds.AtLink.Call.{SocketCall}
use Rattle.lan.specs.Worlds.AtLink.Calls.{Did, at_port, read_by, setting_after, tcp_does}
use Rattle.lan.specs.Worlds.AtLink.Kinds.{other}
use Rattle.lan.specs.Worlds.AtLink.Moves.{Does, DoneBy, IsRun, May, Move, Step, after, party_after, run, with_socket}
use Rattle.lan.specs.Worlds.AtLink.Moves.Move.{Invokes, Passes, Offers, Gives, Takes, Receives, Resets, Changes}
use Rattle.lan.specs.Worlds.AtLink.Parties.{Net, Party, Socket, party, socket_at}
use Rattle.lan.specs.Worlds.AtLink.Parties.Socket.{Tcp, Udp, Icmp, Raw}
use Rattle.lan.specs.declared.at_link.history.event.Side.{Side}
use Rattle.lan.specs.declared.at_link.history.event.TcpSetting.{TcpSetting}
use Rattle.lan.specs.declared.at_link.history.event.TcpSetting.TheVariants as Changed
use Rattle.lan.proofs.Worlds.Moves.Held.{IsBetweenHosts, IsHeld}
use Rattle.lan.proofs.Worlds.Moves.Nets.{either_side, theirs, there}
use Rattle.lan.proofs.Worlds.StillSteps.{AreAllHeld, raised}

clash : {X : Type 0} → true ≡ false → X
clash {X} e = absurd cc

no_pair : {X : Type 0} (pair : FourTuple) → None ≡ Some pair → X
no_pair pair e = absurd cc

one_pair : (a b : FourTuple) → Some a ≡ Some b → a ≡ b
one_pair a b e = cc

not_so : (b : Bool) → not b ≡ true → b ≡ false
not_so true is = clash (sym is)
not_so false is = refl

some_port : (port : ℕ) → (port == 0) ≡ false → port ≢ 0
some_port port some none = clash (sym (ap (λ (n : ℕ). n == 0) none) ∙ some)

quiet_answering : (state : State) → is_answering state ≡ true → is_listening state ≡ false
quiet_answering In.SynReceived is = refl
quiet_answering other is = absurd cc

pub quiet_closed : (state : State) → is_closed state ≡ true → is_listening state ≡ false
quiet_closed In.Closed is = refl
quiet_closed other is = absurd cc

-- A SOCKET

module _ (i : InnerValue) where
  -- A segment came to the host from the remote address, at the local one: both are those of one host, the local one is for this host, and no loopback address
  -- is among them but an own one.
  pub record IsBetween (a : AddressPair) : Type 0 where
    pub somebody : (is_unspecified (remote_of a) || (is_unspecified (local_of a) || (is_local_broadcast i (local_of a) || is_multicast (local_of a)))) ≡ false
    pub one : is_for_many i (remote_of a) ≡ false
    pub ours : is_for_us i (local_of a) ≡ true
    pub here : is_astray i (remote_of a) (local_of a) ≡ false

  pub record HasEnds (v : TcpValue) : Type 0 where
    pub listens : is_listening v.tcb.state ≡ true → (v.tcb.names.listen.port ≢ 0) × (v.tcb.names.pair ≡ None)
    pub named : (pair : FourTuple) → v.tcb.names.pair ≡ Some pair → pair.local_port ≢ 0
    pub heard : is_past v.tcb.state ≡ true → (pair : FourTuple) → v.tcb.names.pair ≡ Some pair → IsBetween pair.addresses

  came : (ip : IpRepr) (a : AddressPair) → source_of ip ≡ remote_of a → destination_of ip ≡ local_of a → IsBetweenHosts i ip → IsBetween a
  came ip a source destination between = record {
    somebody =
        sym (λ k. is_unspecified (source k) || (is_unspecified (destination k) || (is_local_broadcast i (destination k) || is_multicast (destination k))))
        ∙ between.somebody;
    one = sym (ap (is_for_many i) source) ∙ between.one;
    ours = sym (ap (is_for_us i) destination) ∙ between.ours;
    here = sym (λ k. is_astray i (source k) (destination k)) ∙ between.here;
  }

  local_in : (ip : IpRepr) → destination_of ip ≡ local_of (addresses_in ip)
  local_in (Ip.Ipv4 v) = refl
  local_in (Ip.Ipv6 v) = refl

  remote_in : (ip : IpRepr) → source_of ip ≡ remote_of (addresses_in ip)
  remote_in (Ip.Ipv4 v) = refl
  remote_in (Ip.Ipv6 v) = refl

  -- without endpoints, and not in LISTEN
  pub nameless : (v : TcpValue) → is_listening v.tcb.state ≡ false → v.tcb.names.pair ≡ None → HasEnds v
  nameless v quiet none = record {
    listens = λ listens. clash (sym listens ∙ quiet);
    named = λ pair is. no_pair pair (sym none ∙ is);
    heard = λ past pair is. no_pair pair (sym none ∙ is);
  }

  -- the names stay
  kept : (v new : TcpValue) → new.tcb.names ≡ v.tcb.names → (is_listening new.tcb.state ≡ true → is_listening v.tcb.state ≡ true)
      → (is_past new.tcb.state ≡ true → is_past v.tcb.state ≡ true) → HasEnds v → HasEnds new
  kept v new names listens past ends = record {
    listens = λ now.
        let it = ends.listens (listens now) in
        ((λ none. it.0 (ap (λ (n : Names). n.listen.port) (sym names) ∙ none)), ap (λ (n : Names). n.pair) names ∙ it.1);
    named = λ pair is. ends.named pair (ap (λ (n : Names). n.pair) (sym names) ∙ is);
    heard = λ now pair is. ends.heard (past now) pair (ap (λ (n : Names). n.pair) (sym names) ∙ is);
  }

  left : (v new : TcpValue) → IsLeftBy v.tcb new.tcb → (is_past new.tcb.state ≡ true → is_past v.tcb.state ≡ true) → HasEnds v → HasEnds new
  left v new (inl falls) past ends =
      let none : new.tcb.names.pair ≡ None = ap (λ (n : Names). n.pair) falls.names in
      record {
        listens = λ _. ((λ nothing. some_port v.tcb.names.listen.port falls.listened (sym (ap (λ (n : Names). n.listen.port) falls.names) ∙ nothing)), none);
        named = λ pair is. no_pair pair (sym none ∙ is);
        heard = λ _ pair is. no_pair pair (sym none ∙ is);
      }
  left v new (inr (inl keeps)) past ends = kept v new keeps.names keeps.listening past ends
  left v new (inr (inr forgets)) past ends =
      nameless new (quiet_closed new.tcb.state forgets.state) (ap (λ (n : Names). n.pair) forgets.names)

  left_or : (v new : TcpValue) → KeepsOrForgets v.tcb new.tcb → (is_past new.tcb.state ≡ true → is_past v.tcb.state ≡ true) → HasEnds v → HasEnds new
  left_or v new keeps past ends = left v new (inr keeps) past ends

  -- a segment comes that it accepts
  module _ (v new : TcpValue) (ip : IpRepr) (header : TcpHeader) (takes : accepts v.tcb ip header ≡ true) (between : IsBetweenHosts i ip) (ends : HasEnds v) where
    came_to : is_listening v.tcb.state ≡ false → (pair : FourTuple) → v.tcb.names.pair ≡ Some pair → IsBetween pair.addresses
    came_to quiet pair is =
        let it = (accepted v.tcb ip header takes).connected quiet in
        let same : it.0 ≡ pair = one_pair it.0 pair (sym it.1 ∙ is) in
        subst (λ (x : FourTuple). IsBetween x.addresses) same (came ip it.0.addresses it.2.source it.2.destination between)

    unnamed_listener : is_listening v.tcb.state ≡ true → (pair : FourTuple) → v.tcb.names.pair ≡ Some pair → IsBetween pair.addresses
    unnamed_listener listens pair is = no_pair pair (sym (ends.listens listens).1 ∙ is)

    came_by : (listens : Bool) → is_listening v.tcb.state ≡ listens → (pair : FourTuple) → v.tcb.names.pair ≡ Some pair → IsBetween pair.addresses
    came_by true is = unnamed_listener is
    came_by false is = came_to is

    renamed : IsRenamed ip header v.tcb new.tcb → HasEnds new
    renamed (inl opened) =
        let port = ((accepted v.tcb ip header takes).listening opened.listening).0 in
        let is_pair : (pair : FourTuple) → new.tcb.names.pair ≡ Some pair → pair_in ip header ≡ pair =
        λ pair is. one_pair (pair_in ip header) pair (sym (ap (λ (n : Names). n.pair) opened.names) ∙ is) in
        record {
          listens = λ listens. clash (sym listens ∙ quiet_answering new.tcb.state opened.state);
          named = λ pair is nothing.
              (ends.listens opened.listening).0 (sym port ∙ ap (λ (x : FourTuple). x.local_port) (is_pair pair is) ∙ nothing);
          heard = λ _ pair is.
              subst (λ (x : FourTuple). IsBetween x.addresses) (is_pair pair is) (came ip (addresses_in ip) (remote_in ip) (local_in ip) between);
        }
    renamed (inr (inl falls)) =
        let none : new.tcb.names.pair ≡ None = ap (λ (n : Names). n.pair) falls.names in
        record {
          listens = λ _. ((λ nothing. some_port v.tcb.names.listen.port falls.listened (sym (ap (λ (n : Names). n.listen.port) falls.names) ∙ nothing)), none);
          named = λ pair is. no_pair pair (sym none ∙ is);
          heard = λ _ pair is. no_pair pair (sym none ∙ is);
        }
    renamed (inr (inr (inl keeps))) = record {
      listens = λ now.
          let it = ends.listens (keeps.listening now) in
          ((λ nothing. it.0 (ap (λ (n : Names). n.listen.port) (sym keeps.names) ∙ nothing)), ap (λ (n : Names). n.pair) keeps.names ∙ it.1);
      named = λ pair is. ends.named pair (ap (λ (n : Names). n.pair) (sym keeps.names) ∙ is);
      heard = λ _ pair is. came_by (is_listening v.tcb.state) refl pair (ap (λ (n : Names). n.pair) (sym keeps.names) ∙ is);
    }
    renamed (inr (inr (inr forgets))) = nameless new (quiet_closed new.tcb.state forgets.state) (ap (λ (n : Names). n.pair) forgets.names)

  arrival_ends : (cx : ContextValue) (v : TcpValue) (ip : IpRepr) (header : TcpHeader) (bytes : List ℕ) → accepts v.tcb ip header ≡ true → IsBetweenHosts i ip
      → HasEnds v → HasEnds (arrives cx v ip header bytes).socket
  arrival_ends cx v ip header bytes takes between ends =
      renamed v (arrives cx v ip header bytes).socket ip header takes between ends (arrival_names cx v ip header bytes)

  offer_ends : (cx : ContextValue) (v : TcpValue) (sent : Bool) → HasEnds v → HasEnds (settled sent (offer_of cx v).socket)
  offer_ends cx v true ends = left v (settled true (offer_of cx v).socket) (sent_names cx v) (sent_past cx v) ends
  offer_ends cx v false ends = left v (settled false (offer_of cx v).socket) (withheld_names cx v) (withheld_past cx v) ends

  -- CALLS

  abbrev Same : TcpValue → TcpValue → Type 0
  Same v new = HasEnds v → HasEnds new

  listen_ends : (v : TcpValue) (endpoint : IpListenEndpoint) (opens : Bool) → (is_closed v.tcb.state && not (endpoint.port == 0)) ≡ opens
      → Same v (if opens then listening v endpoint else unoffered v)
  listen_ends v endpoint true is ends =
      let parts = and_parts (is_closed v.tcb.state) (not (endpoint.port == 0)) is in
      record {
        listens = λ _. (some_port endpoint.port (not_so (endpoint.port == 0) parts.1), refl);
        named = λ pair is. no_pair pair is;
        heard = λ _ pair is. no_pair pair is;
      }
  listen_ends v endpoint false is ends = kept v (unoffered v) refl (λ e. e) (λ e. e) ends

  named_by : (addresses : Option AddressPair) (local remote : ℕ) (pair : FourTuple) → pair_by addresses local remote ≡ Some pair → pair.local_port ≡ local
  named_by None local remote pair is = absurd cc
  named_by (Some addresses) local remote pair is =
      sym (ap (λ (x : FourTuple). x.local_port) (one_pair (record { addresses = addresses; local_port = local; remote_port = remote }) pair is))

  found_named : (cx : ContextValue) (remote : IpEndpoint) (port : ℕ) (pair : FourTuple) → four_tuple_for cx remote (at_port port) ≡ Some pair → pair.local_port ≢ 0
  found_named cx remote port pair is = by (remote.port == 0) (is_unspecified remote.addr) (port == 0) refl is where
    by : (a b c : Bool) → (port == 0) ≡ c
        → (let r : Option FourTuple = if a || (b || c) then None else pair_by (addresses_by (cx.source_for remote.addr) remote.addr) port remote.port in r)
        ≡ Some pair → pair.local_port ≢ 0
    by true b c some is = no_pair pair is
    by false true c some is = no_pair pair is
    by false false true some is = no_pair pair is
    by false false false some is =
        λ nothing. some_port port some (sym (named_by (addresses_by (cx.source_for remote.addr) remote.addr) port remote.port pair is) ∙ nothing)

  connecting_ends : (v : TcpValue) (o : Option FourTuple) (number : ℕ) → ((pair : FourTuple) → o ≡ Some pair → pair.local_port ≢ 0)
      → Same v (connected_by v o number)
  connecting_ends v None number named ends = kept v (unoffered v) refl (λ e. e) (λ e. e) ends
  connecting_ends v (Some pair) number named ends = record {
    listens = λ (listens : false ≡ true). clash (sym listens);
    named = λ other is. named other is;
    heard = λ (past : false ≡ true) other is. clash (sym past);
  }

  connect_ends : (cx : ContextValue) (v : TcpValue) (remote : IpEndpoint) (port : ℕ) (closed : Bool) → Same v
      (if closed then connected_by v (four_tuple_for cx remote (at_port port)) (number_for cx (four_tuple_for cx remote (at_port port))) else unoffered v)
  connect_ends cx v remote port true ends =
      connecting_ends v (four_tuple_for cx remote (at_port port)) (number_for cx (four_tuple_for cx remote (at_port port))) (found_named cx remote port) ends
  connect_ends cx v remote port false ends = kept v (unoffered v) refl (λ e. e) (λ e. e) ends

  write_ends : (v : TcpValue) (bytes : List ℕ) (takes : Bool) → Same v
      (if takes then sent_more v (enqueued (anchored v.queued) (take (min (length bytes) (length v.queued.free)) bytes)) else unoffered v)
  write_ends v bytes true ends =
      kept v (sent_more v (enqueued (anchored v.queued) (take (min (length bytes) (length v.queued.free)) bytes))) refl (λ e. e) (λ e. e) ends
  write_ends v bytes false ends = kept v (unoffered v) refl (λ e. e) (λ e. e) ends

  read_ends : (v : TcpValue) (r : Result ℕ RecvError) → Same v (read_by v r)
  read_ends v (Ok count) ends = kept v (read_by v (Ok count)) refl (λ e. e) (λ e. e) ends
  read_ends v (Err why) ends = kept v (read_by v (Err why)) refl (λ e. e) (λ e. e) ends

  setting_ends : (v : TcpValue) (setting : TcpSetting) → Same v (setting_after v setting)
  setting_ends v (Changed.Timeout duration) ends = kept v (setting_after v (Changed.Timeout duration)) refl (λ e. e) (λ e. e) ends
  setting_ends v (Changed.AckDelay duration) ends = kept v (setting_after v (Changed.AckDelay duration)) refl (λ e. e) (λ e. e) ends
  setting_ends v (Changed.KeepAlive interval) ends = kept v (setting_after v (Changed.KeepAlive interval)) refl (λ e. e) (λ e. e) ends
  setting_ends v (Changed.NagleEnabled enabled) ends = kept v (setting_after v (Changed.NagleEnabled enabled)) refl (λ e. e) (λ e. e) ends
  setting_ends v (Changed.HopLimit hop_limit) ends = kept v (setting_after v (Changed.HopLimit hop_limit)) refl (λ e. e) (λ e. e) ends
  setting_ends v (Changed.CongestionControl control) ends = kept v (setting_after v (Changed.CongestionControl control)) refl (λ e. e) (λ e. e) ends
  setting_ends v (Changed.TsvalGenerator generator) ends = kept v (setting_after v (Changed.TsvalGenerator generator)) refl (λ e. e) (λ e. e) ends
  setting_ends v (Changed.PauseSynack paused) ends = kept v (setting_after v (Changed.PauseSynack paused)) refl (λ e. e) (λ e. e) ends

  abbrev IfEnds : Option (Did TcpValue) → Type 0
  IfEnds o = IfSome o (λ d. HasEnds d.socket)

  does_ends : (cx : ContextValue) (v : TcpValue) (call : SocketCall) → HasEnds v → IfEnds (tcp_does cx v call)
  does_ends cx v (Call.Listen port) ends = listen_ends v (at_port port) (is_closed v.tcb.state && not (port == 0)) refl ends
  does_ends cx v (Call.Connect remote port) ends = connect_ends cx v remote port (is_closed v.tcb.state) ends
  does_ends cx v (Call.Send bytes) ends = write_ends v bytes (takes_writes v.tcb.state) ends
  does_ends cx v (Call.Recv limit) ends = read_ends v (recv_answer v limit) ends
  does_ends cx v Call.Close ends = left_or v (close_after v) (close_names v) (close_past v) ends
  does_ends cx v Call.Abort ends = left_or v (abort_after v) (abort_names v) (abort_past v) ends
  does_ends cx v Call.State ends = ends
  does_ends cx v (Call.Set setting) ends = setting_ends v setting ends
  does_ends cx v call ends = tt

  done_ends : (o : Option (Did TcpValue)) (answer : Answer) (found : Option State) (new : TcpValue) → IfEnds o → DoneBy o answer found new → HasEnds new
  done_ends None answer found new ends done = absurd done
  done_ends (Some did) answer found new ends done = subst HasEnds (sym done.2) ends

-- EACH SOCKET of a host

abbrev pub HaveEnds : InnerValue → Party → Type 0
HaveEnds i p = (at : ℕ) (v : TcpValue) → socket_at p at ≡ Some (Tcp v) → HasEnds i v

abbrev IfTcp : InnerValue → Socket → Type 0
IfTcp i s = (v : TcpValue) → s ≡ Tcp v → HasEnds i v

found_set : (xs : List (Option Socket)) (at i : ℕ) (x : Option Socket) (y : Socket) → slice_index_or (slice_set xs at x) i None ≡ Some y
    → (x ≡ Some y) ⊎ (slice_index_or xs i None ≡ Some y)
found_set [] zero i x y is = inr is
found_set [] (suc at) i x y is = inr is
found_set (o ∷ os) zero zero x y is = inl is
found_set (o ∷ os) zero (suc i) x y is = inr is
found_set (o ∷ os) (suc at) zero x y is = inr is
found_set (o ∷ os) (suc at) (suc i) x y is = found_set os at i x y is

with_ends : (i : InnerValue) (p : Party) (slot : ℕ) (s : Socket) → IfTcp i s → HaveEnds i p → HaveEnds i (with_socket p slot s)
with_ends i p slot s new have at v is = by (found_set p.sockets slot at (Some s) (Tcp v) is) where
  by : (Some s ≡ Some (Tcp v)) ⊎ (slice_index_or p.sockets at None ≡ Some (Tcp v)) → HasEnds i v
  by (inl same) = let one : s ≡ Tcp v = cc in new v one
  by (inr old) = have at v old

tcp_same : (i : InnerValue) (w : TcpValue) → HasEnds i w → IfTcp i (Tcp w)
tcp_same i w ends v is = let same : w ≡ v = cc in subst (HasEnds i) same ends

module _ (i : InnerValue) (t : ℤ) where
  call_ends : (cx : ContextValue) (old new : Socket) (call : SocketCall) (answer : Answer) (found : Option State) → Does cx old call answer found new
      → IfTcp i old → IfTcp i new
  call_ends cx (Tcp v) (Tcp w) call answer found does have =
      tcp_same i w (done_ends i (tcp_does cx v call) answer found w (does_ends i cx v call (have v refl)) does)
  call_ends cx (Udp v) (Tcp w) call answer found does have = absurd does
  call_ends cx Icmp (Tcp w) call answer found does have = absurd does
  call_ends cx Raw (Tcp w) call answer found does have = absurd does
  call_ends cx old (Udp w) call answer found does have = λ v is. absurd cc
  call_ends cx old Icmp call answer found does have = λ v is. absurd cc
  call_ends cx old Raw call answer found does have = λ v is. absurd cc

  moved_ends : (names : List ℕ → Bool) (net : Net) (side : Side) (move : Move) → May names net side move → IsHeld i t net side move
      → HaveEnds i (party net side) → HaveEnds i (party_after (party net side) move)
  moved_ends names net side (Invokes slot cx old entry call new) may held have =
      with_ends i (party net side) slot new
      (call_ends cx old new call entry.answer entry.found may.3 (λ v is. have slot v (may.0 ∙ ap (λ (s : Socket). Some s) is))) have
  moved_ends names net side (Passes entry) may held have = have
  moved_ends names net side (Offers slot cx v from sent) may held have =
      with_ends i (party net side) slot (Tcp (settled sent (offer_of cx v).socket))
      (tcp_same i (settled sent (offer_of cx v).socket) (offer_ends i cx v sent (have slot v may.0))) have
  moved_ends names net side (Gives slot cx v answer new sent) may held have = with_ends i (party net side) slot (Udp _) (λ v is. absurd cc) have
  moved_ends names net side (Takes slot cx v ip header bytes) may held have =
      with_ends i (party net side) slot (Tcp (arrives cx v ip header bytes).socket)
      (tcp_same i (arrives cx v ip header bytes).socket (arrival_ends i cx v ip header bytes may.1 held.2 (have slot v may.0))) have
  moved_ends names net side (Receives slot cx v ip udp bytes) may held have = with_ends i (party net side) slot (Udp _) (λ v is. absurd cc) have
  moved_ends names net side (Resets x) may held have = absurd held
  moved_ends names net side (Changes slot old new) may held have = absurd held

-- ALL STEPS

module _ (firsts : Side → InnerValue) (names : List ℕ → Bool) where
  abbrev pub AllHave : Net → Type 0
  AllHave net = (side : Side) → HaveEnds (firsts side) (party net side)

  next_ends : (net : Net) (step : Step) (t : ℤ) → May names net step.side step.move → IsHeld (firsts step.side) t net step.side step.move → AllHave net
      → AllHave (after net step)
  next_ends net step t may held have =
      either_side step.side (λ s. HaveEnds (firsts s) (party (after net step) s))
      (there net step.side step.move (HaveEnds (firsts step.side)) (moved_ends (firsts step.side) t names net step.side step.move may held (have step.side)))
      (subst (HaveEnds (firsts (other step.side))) (sym (theirs net step.side step.move)) (have (other step.side)))

  pub run_ends : (floors : Side → ℤ) (net : Net) (steps : List Step) (ends : Side → ℤ) → IsRun names net steps → AreAllHeld firsts floors net steps ends
      → AllHave net → AllHave (run net steps)
  run_ends floors net [] ends may held have = have
  run_ends floors net (step ∷ steps) ends may (t, instant, later, held, rest) have =
      run_ends (raised floors step.side t) (after net step) steps ends may.1 rest (next_ends net step t may.0 held have)
