-- Where hosts stay, each TCP socket sends from its own address: so their runs are plain.
use Rattle.std.proofs.Common.{◌≡◌, ◌⊎◌, inl, inr, ℕ, Bool, true, false, not, ◌&&◌, if◌then◌else◌, List, [], ◌∷◌, length, take, min}
use Rattle.std.proofs.Common.{Option, Some, None, IfSome, Result, Ok, Err, refl, sym, ap, ◌∙◌, subst}
use Rattle.std.specs.Prelude.{◌||◌, ◌==◌}
use Rattle.std.specs.List.{list_any}
use Rattle.ip_wire.specs.IpCidr.{IpCidr}
use Rattle.ip_wire.specs.Cidr.{cidr_address}
use Rattle.iface_ingress.specs.AddressTests.{are_of_one_family, is_loopback, is_multicast, is_unspecified}
use Rattle.iface_ingress.specs.IpAddress.{IpAddress}
use Rattle.iface_ingress.specs.IpAddress.TheVariants as Address
use Rattle.wire_address.specs.declared.ip.IpEndpoint.{IpEndpoint}
use Rattle.wire_address.specs.declared.ip.IpListenEndpoint.{IpListenEndpoint}
use Rattle.interface.specs.Ip.{source_of, destination_of}
use Rattle.interface.specs.IpRepr.{IpRepr}
use Rattle.interface.specs.IpRepr.TheVariants as Ip
use Rattle.interface.specs.Serve.{with_source}
use Rattle.iface_tables.specs.Inner.{InnerValue, is_foreign_loopback, is_limited_broadcast, is_local_broadcast, is_loopback_of, may_be_source, never_comes}
use Rattle.iface_tables.specs.Source.{source_for}
use Rattle.wire_tcp.specs.declared.header.TcpHeader.{TcpHeader}
use Rattle.base_buffer.specs.Ring.{anchored, enqueued}
use Rattle.sockets.specs.Context.{ContextValue}
use Rattle.tcp_refinement.specs.Endpoints.{IsRenamed}
use Rattle.tcp_refinement.proofs.NameLaws.{abort_names, arrival_names, close_names, offer_between_ends, sent_names, withheld_names}
use Rattle.tcp_block.specs.AddressPair.{AddressPair}
use Rattle.tcp_block.specs.AddressPair.TheVariants as Pair
use Rattle.tcp_block.specs.Arrival.{arrives}
use Rattle.tcp_block.specs.Calls.{abort_after, addresses_by, close_after, connected_by, listening, pair_by, four_tuple_for, recv_answer, send_after, sent_more}
use Rattle.tcp_block.specs.FourTuple.{FourTuple}
use Rattle.tcp_block.specs.Endpoints.{addresses_in, local_of, pair_in, pair_of, remote_of}
use Rattle.tcp_block.specs.Isn.{number_for}
use Rattle.tcp_block.specs.Offers.{offer_of}
use Rattle.tcp_block.specs.OpenOffer.{OpenOffer}
use Rattle.tcp_block.specs.RecvError.{RecvError}
use Rattle.tcp_block.specs.Settled.{settled}
use Rattle.tcp_block.specs.State.{State}
use Rattle.tcp_block.specs.States.{is_closed, takes_writes}
use Rattle.tcp_block.specs.Value.{TcpValue, unoffered}
use Rattle.tcp_block.specs.declared.tcb.Tcb.{Tcb}
use Rattle.tcp_block.specs.declared.tcb.Names.{Names}
use Rattle.lan.specs.Worlds.AtLink.Answer.{Answer}
use Rattle.lan.specs.Worlds.AtLink.Call as Call
use Rattle.lan.specs.Worlds.AtLink.Call.{SocketCall}
use Rattle.lan.specs.Worlds.AtLink.Calls.{Did, at_port, read_by, setting_after, tcp_does}
use Rattle.lan.specs.Worlds.AtLink.Moves.{DoneBy}
use Rattle.lan.specs.Worlds.AtLink.TcpSetting.{TcpSetting}
use Rattle.lan.specs.Worlds.AtLink.TcpSetting.TheVariants as Changed
use Rattle.lan.proofs.Worlds.AtLink.WireMoves.{pair_kept, pair_left}
use Rattle.lan.proofs.Worlds.Moves.Held.{IsBetweenHosts, source_by}

-- WHICH PAIRS

-- an address may be the source, or is the one that the host chooses
abbrev Keeps : InnerValue → AddressPair → Type 0
Keeps i a = (may_be_source i (local_of a) (remote_of a) ≡ true) ⊎ (source_for i.addresses (remote_of a) ≡ Some (local_of a))

abbrev pub PairKeeps : InnerValue → Option FourTuple → Type 0
PairKeeps i o = (pair : FourTuple) → o ≡ Some pair → Keeps i pair.addresses

abbrev pub TcpKeeps : InnerValue → TcpValue → Type 0
TcpKeeps i v = PairKeeps i v.tcb.names.pair

-- so what such a socket offers leaves from its own address
chosen_same : (h : IpRepr) → source_of (with_source h (Some (source_of h))) ≡ source_of h
chosen_same (Ip.Ipv4 v) = refl
chosen_same (Ip.Ipv6 v) = refl

own_source : (i : InnerValue) (h : IpRepr) →
    (may_be_source i (source_of h) (destination_of h) ≡ true) ⊎ (source_for i.addresses (destination_of h) ≡ Some (source_of h)) → source_by i h ≡ source_of h
own_source i h (inl may) = λ k. source_of (if may k then h else with_source h (source_for i.addresses (destination_of h)))
own_source i h (inr chosen) = by (may_be_source i (source_of h) (destination_of h)) where
  by : (b : Bool) → source_of (if b then h else with_source h (source_for i.addresses (destination_of h))) ≡ source_of h
  by true = refl
  by false = ap (λ (o : Option IpAddress). source_of (with_source h o)) chosen ∙ chosen_same h

kept_source : (i : InnerValue) (a : AddressPair) (h : IpRepr) → source_of h ≡ local_of a → destination_of h ≡ remote_of a → Keeps i a → source_by i h ≡ source_of h
kept_source i a h source destination (inl may) = own_source i h (inl ((λ k. may_be_source i (source k) (destination k)) ∙ may))
kept_source i a h source destination (inr chosen) =
    own_source i h (inr (ap (source_for i.addresses) destination ∙ chosen ∙ ap (λ (x : IpAddress). Some x) (sym source)))

pub offers_plainly : (i : InnerValue) (cx : ContextValue) (v : TcpValue) (from : IpAddress) → TcpKeeps i v →
    IfSome (offer_of cx v).socket.offered (λ o. from ≡ source_by i o.header) → IfSome (offer_of cx v).socket.offered (λ o. from ≡ source_of o.header)
offers_plainly i cx v from keeps leaves = by (offer_of cx v).socket.offered refl leaves where
  by : (o : Option OpenOffer) → (offer_of cx v).socket.offered ≡ o → IfSome o (λ o. from ≡ source_by i o.header) → IfSome o (λ o. from ≡ source_of o.header)
  by None is leaves = tt
  by (Some o) is leaves =
      let (pair, names, goes) = offer_between_ends cx v o is in
      leaves ∙ kept_source i pair.addresses o.header goes.source goes.destination (keeps pair names)

-- A SEGMENT THAT OPENS

no_or : (a b : Bool) → (a || b) ≡ false → (a ≡ false) × (b ≡ false)
no_or true b is = absurd (let clash : true ≡ false = is in cc)
no_or false b is = (refl, is)

none_such : (a : IpAddress) (blocks : List IpCidr) → list_any (λ b. is_loopback (cidr_address b)) blocks ≡ false → list_any (is_loopback_of a) blocks ≡ false
none_such a [] is = refl
none_such a (b ∷ blocks) is =
    let parts = no_or (is_loopback (cidr_address b)) (list_any (λ b. is_loopback (cidr_address b)) blocks) is in
    (λ k. (parts.0 k && are_of_one_family a (cidr_address b)) || list_any (is_loopback_of a) blocks) ∙ none_such a blocks parts.1

no_loop : (loop any : Bool) → (loop && not any) ≡ false → any ≡ false → loop ≡ false
no_loop true any is none = absurd (let clash : true ≡ false = (λ k. not (sym none k)) ∙ is in cc)
no_loop false any is none = refl

may_so : (all group nobody many loop far : Bool) → all ≡ false → group ≡ false → nobody ≡ false → loop ≡ false
    → (not (all || (group || (nobody && many))) && (not loop || far)) ≡ true
may_so false false false many false far one two three four = refl
may_so true group nobody many loop far one two three four = absurd (let clash : true ≡ false = one in cc)
may_so false true nobody many loop far one two three four = absurd (let clash : true ≡ false = two in cc)
may_so false false true many loop far one two three four = absurd (let clash : true ≡ false = three in cc)
may_so false false false many true far one two three four = absurd (let clash : true ≡ false = four in cc)

module _ (i : InnerValue) (outward : list_any (λ b. is_loopback (cidr_address b)) i.addresses ≡ false) where
  opened_keeps : (ip : IpRepr) → IsBetweenHosts i ip → may_be_source i (destination_of ip) (source_of ip) ≡ true
  opened_keeps ip between =
      let to = destination_of ip in
      let parts = no_or (is_unspecified (source_of ip)) (is_unspecified to || (is_local_broadcast i to || is_multicast to)) between.somebody in
      let one = no_or (is_unspecified to) (is_local_broadcast i to || is_multicast to) parts.1 in
      let many = no_or (is_local_broadcast i to) (is_multicast to) one.1 in
      let away = no_or (is_foreign_loopback i (source_of ip)) (is_foreign_loopback i to || never_comes i (source_of ip) to) between.here in
      let home = no_or (is_foreign_loopback i to) (never_comes i (source_of ip) to) away.1 in
      may_so (is_local_broadcast i to) (is_multicast to) (is_unspecified to) (i.host_requirements && not (is_limited_broadcast (source_of ip)))
      (is_loopback to) (is_loopback (source_of ip)) many.0 many.1 one.0
      (no_loop (is_loopback to) (list_any (is_loopback_of to) i.addresses) home.0 (none_such to i.addresses outward))

  ends_in : (ip : IpRepr) → IsBetweenHosts i ip → Keeps i (addresses_in ip)
  ends_in (Ip.Ipv4 v) between = inl (opened_keeps (Ip.Ipv4 v) between)
  ends_in (Ip.Ipv6 v) between = inl (opened_keeps (Ip.Ipv6 v) between)

  none_keeps : (o : Option FourTuple) → o ≡ None → PairKeeps i o
  none_keeps o none pair is = absurd (let clash : None ≡ Some pair = sym none ∙ is in cc)

  renamed_keeps : (ip : IpRepr) (header : TcpHeader) (old new : Tcb) → IsRenamed ip header old new → IsBetweenHosts i ip → PairKeeps i old.names.pair →
      PairKeeps i new.names.pair
  renamed_keeps ip header old new (inl opened) between holds pair is =
      let some : Some (pair_in ip header) ≡ Some pair = sym (ap (λ (n : Names). n.pair) opened.names) ∙ is in
      let same : pair_in ip header ≡ pair = cc in
      subst (λ (x : FourTuple). Keeps i x.addresses) same (ends_in ip between)
  renamed_keeps ip header old new (inr (inl back)) between holds pair is =
      none_keeps new.names.pair (ap (λ (n : Names). n.pair) back.names) pair is
  renamed_keeps ip header old new (inr (inr keeps)) between holds pair is = holds pair (pair_kept old new pair keeps is)

  pub arrival_keeps : (cx : ContextValue) (v : TcpValue) (ip : IpRepr) (header : TcpHeader) (bytes : List ℕ) → IsBetweenHosts i ip → TcpKeeps i v →
      TcpKeeps i (arrives cx v ip header bytes).socket
  arrival_keeps cx v ip header bytes between holds =
      renamed_keeps ip header v.tcb (arrives cx v ip header bytes).socket.tcb (arrival_names cx v ip header bytes) between holds

  pub settled_keeps : (cx : ContextValue) (v : TcpValue) (sent : Bool) → TcpKeeps i v → TcpKeeps i (settled sent (offer_of cx v).socket)
  settled_keeps cx v true holds pair is = holds pair (pair_left v.tcb (settled true (offer_of cx v).socket).tcb pair (sent_names cx v) is)
  settled_keeps cx v false holds pair is = holds pair (pair_left v.tcb (settled false (offer_of cx v).socket).tcb pair (withheld_names cx v) is)

  -- CALLS

  module _ (cx : ContextValue) (chooses : cx.source_for ≡ source_for i.addresses) where
    family : (local remote : IpAddress) (a : AddressPair) → pair_of local remote ≡ Some a → (local_of a ≡ local) × (remote_of a ≡ remote)
    family (Address.Ipv4 l) (Address.Ipv4 r) a is = let same : Pair.Ipv4 l r ≡ a = cc in
        (ap local_of (sym same), ap remote_of (sym same))
    family (Address.Ipv6 l) (Address.Ipv6 r) a is = let same : Pair.Ipv6 l r ≡ a = cc in
        (ap local_of (sym same), ap remote_of (sym same))
    family (Address.Ipv4 l) (Address.Ipv6 r) a is = absurd cc
    family (Address.Ipv6 l) (Address.Ipv4 r) a is = absurd cc

    chosen_keeps : (local : Option IpAddress) (remote : IpAddress) (a : AddressPair) → cx.source_for remote ≡ local → addresses_by local remote ≡ Some a → Keeps i a
    chosen_keeps None remote a by is = absurd cc
    chosen_keeps (Some local) remote a by is =
        let ends = family local remote a is in
        inr (ap (source_for i.addresses) ends.1 ∙ (λ k. sym chooses k remote) ∙ by ∙ ap (λ (x : IpAddress). Some x) (sym ends.0))

    found_keeps : (remote : IpEndpoint) (port : ℕ) → PairKeeps i (four_tuple_for cx remote (at_port port))
    found_keeps remote port = by (remote.port == 0) (is_unspecified remote.addr) (port == 0) (addresses_by (cx.source_for remote.addr) remote.addr) refl where
      by : (a b c : Bool) (addresses : Option AddressPair) → addresses_by (cx.source_for remote.addr) remote.addr ≡ addresses
          → PairKeeps i (let r : Option FourTuple = if a || (b || c) then None else pair_by addresses port remote.port in r)
      by true b c addresses is = none_keeps None refl
      by false true c addresses is = none_keeps None refl
      by false false true addresses is = none_keeps None refl
      by false false false None is = none_keeps None refl
      by false false false (Some addresses) is = λ pair some.
          let same : record { addresses = addresses; local_port = port; remote_port = remote.port } ≡ pair = cc in
          subst (λ (x : FourTuple). Keeps i x.addresses) same (chosen_keeps (cx.source_for remote.addr) remote.addr addresses refl is)

    connected_keeps : (v : TcpValue) (o : Option FourTuple) (number : ℕ) → PairKeeps i o → TcpKeeps i v → TcpKeeps i (connected_by v o number)
    connected_keeps v None number new holds = holds
    connected_keeps v (Some pair) number new holds = new

    connects_keeps : (closed : Bool) (v : TcpValue) (remote : IpEndpoint) (port : ℕ) → TcpKeeps i v
        → TcpKeeps i (if closed then connected_by v (four_tuple_for cx remote (at_port port)) (number_for cx (four_tuple_for cx remote (at_port port))) else unoffered v)
    connects_keeps true v remote port holds =
        connected_keeps v (four_tuple_for cx remote (at_port port)) (number_for cx (four_tuple_for cx remote (at_port port))) (found_keeps remote port) holds
    connects_keeps false v remote port holds = holds

    listens_keeps : (opens : Bool) (v : TcpValue) (endpoint : IpListenEndpoint) → TcpKeeps i v → TcpKeeps i (if opens then listening v endpoint else unoffered v)
    listens_keeps true v endpoint holds = none_keeps None refl
    listens_keeps false v endpoint holds = holds

    writes_keeps : (v : TcpValue) (bytes : List ℕ) → TcpKeeps i v → TcpKeeps i (send_after v bytes)
    writes_keeps v bytes holds = by (takes_writes v.tcb.state) where
      by : (takes : Bool) → TcpKeeps i
          (if takes then sent_more v (enqueued (anchored v.queued) (take (min (length bytes) (length v.queued.free)) bytes)) else unoffered v)
      by true = holds
      by false = holds

    reads_keeps : (v : TcpValue) (r : Result ℕ RecvError) → TcpKeeps i v → TcpKeeps i (read_by v r)
    reads_keeps v (Ok count) holds = holds
    reads_keeps v (Err why) holds = holds

    sets_keeps : (v : TcpValue) (setting : TcpSetting) → TcpKeeps i v → TcpKeeps i (setting_after v setting)
    sets_keeps v (Changed.Timeout duration) holds = holds
    sets_keeps v (Changed.AckDelay duration) holds = holds
    sets_keeps v (Changed.KeepAlive interval) holds = holds
    sets_keeps v (Changed.NagleEnabled enabled) holds = holds
    sets_keeps v (Changed.HopLimit hop_limit) holds = holds
    sets_keeps v (Changed.CongestionControl control) holds = holds
    sets_keeps v (Changed.TsvalGenerator generator) holds = holds
    sets_keeps v (Changed.PauseSynack paused) holds = holds

    abbrev IfKeeps : Option (Did TcpValue) → Type 0
    IfKeeps o = IfSome o (λ d. TcpKeeps i d.socket)

    tcp_keeps : (v : TcpValue) (call : SocketCall) → TcpKeeps i v → IfKeeps (tcp_does cx v call)
    tcp_keeps v (Call.Listen port) holds = listens_keeps (is_closed v.tcb.state && not (port == 0)) v (at_port port) holds
    tcp_keeps v (Call.Connect remote port) holds = connects_keeps (is_closed v.tcb.state) v remote port holds
    tcp_keeps v (Call.Send bytes) holds = writes_keeps v bytes holds
    tcp_keeps v (Call.Recv limit) holds = reads_keeps v (recv_answer v limit) holds
    tcp_keeps v Call.Close holds = λ pair is. holds pair (pair_kept v.tcb (close_after v).tcb pair (close_names v) is)
    tcp_keeps v Call.Abort holds = λ pair is. holds pair (pair_kept v.tcb (abort_after v).tcb pair (abort_names v) is)
    tcp_keeps v Call.State holds = holds
    tcp_keeps v (Call.Set setting) holds = sets_keeps v setting holds
    tcp_keeps v call holds = tt

    done_keeps : (o : Option (Did TcpValue)) (answer : Answer) (found : Option State) (new : TcpValue) → IfKeeps o → DoneBy o answer found new → TcpKeeps i new
    done_keeps None answer found new keeps done = absurd done
    done_keeps (Some did) answer found new keeps done = subst (TcpKeeps i) (sym done.2) keeps

    pub call_keeps : (v new : TcpValue) (call : SocketCall) (answer : Answer) (found : Option State) → DoneBy (tcp_does cx v call) answer found new →
        TcpKeeps i v → TcpKeeps i new
    call_keeps v new call answer found done holds = done_keeps (tcp_does cx v call) answer found new (tcp_keeps v call holds) done
