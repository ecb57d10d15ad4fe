-- When what a TCP socket goes by is equal.
use Rattle.std.proofs.Common.{rules, ◌≡◌, ℕ, ℤ, List, refl, ap, ap₂}
use Rattle.std.specs.Prelude.{◌==◌}
use Rattle.std.specs.Ordering.{int_eq}
use Rattle.std.specs.Bool.{Decides}
use Rattle.std.specs.Cmp.{booleans_Decides}
use Rattle.std.proofs.lemmas.Bool.Decides.{Decides-and, Decides-eqb, Decides-int_eq}
use Rattle.std.proofs.lemmas.Slice.Eq.{bytes_eq-Decides, slice_eq-Decides}
use Rattle.wire_ip.proofs.Equal.{Decides-ip}
use Rattle.wire_tcp.proofs.Equal.{both, Decides-header, Decides-number, Decides-option}
use Rattle.wire_address.specs.contracts.ip.IpAddressPartialEq.TheImpl as Address
use Rattle.wire_address.specs.contracts.ip.IpListenEndpointPartialEq.TheImpl as Listening
use Rattle.wire_tcp.specs.contracts.timestamp.TcpTimestampGeneratorPartialEq.TheImpl as Generator
use Rattle.ip_wire.specs.IpAddress.{IpAddress}
use Rattle.ip_wire.specs.IpAddress.TheVariants as Is
use Rattle.ip_wire.specs.IpListenEndpoint.{IpListenEndpoint}
use Rattle.ip_wire.specs.TcpTimestampGenerator.{TcpTimestampGenerator}
use Rattle.tcp_state.specs.contracts.cubic.CubicPartialEq.TheImpl as Cubed
use Rattle.tcp_state.specs.contracts.cubic.EpochPartialEq.TheImpl as Staged
use Rattle.tcp_state.specs.contracts.endpoints.AddressPairPartialEq.TheImpl as Addresses
use Rattle.tcp_state.specs.contracts.endpoints.FourTuplePartialEq.TheImpl as Pair
use Rattle.tcp_state.specs.contracts.offer.OfferKindPartialEq.TheImpl as Kind
use Rattle.tcp_state.specs.contracts.offer.OpenOfferPartialEq.TheImpl as Opened
use Rattle.tcp_state.specs.contracts.offer.ReplyPartialEq.TheImpl as Replied
use Rattle.tcp_state.specs.contracts.reno.RenoPartialEq.TheImpl as Window
use Rattle.tcp_state.specs.contracts.round_trip.EstimatePartialEq.TheImpl as Estimated
use Rattle.tcp_state.specs.contracts.round_trip.RoundTripPartialEq.TheImpl as Trip
use Rattle.tcp_state.specs.contracts.round_trip.SamplePartialEq.TheImpl as Sampled
use Rattle.tcp_state.specs.contracts.scoreboard.RunPartialEq.TheImpl as Ran
use Rattle.tcp_state.specs.contracts.scoreboard.ScoreboardPartialEq.TheImpl as Board
use Rattle.tcp_state.specs.contracts.state.StatePartialEq.TheImpl as States
use Rattle.tcp_state.specs.declared.cubic.Epoch.{Epoch}
use Rattle.tcp_state.specs.declared.endpoints.AddressPair.{AddressPair}
use Rattle.tcp_state.specs.declared.endpoints.AddressPair.TheVariants as Both
use Rattle.tcp_state.specs.declared.endpoints.FourTuple.{FourTuple}
use Rattle.tcp_state.specs.declared.offer.OfferKind.{OfferKind}
use Rattle.tcp_state.specs.declared.offer.OpenOffer.{OpenOffer}
use Rattle.tcp_state.specs.declared.offer.Reply.{Reply}
use Rattle.tcp_state.specs.declared.round_trip.Estimate.{Estimate}
use Rattle.tcp_state.specs.declared.round_trip.Sample.{Sample}
use Rattle.tcp_state.specs.declared.scoreboard.Run.{Run}
use Rattle.tcp_state.specs.declared.scoreboard.Scoreboard.{Scoreboard}
use Rattle.tcp_state.specs.declared.state.State.{State}
use Rattle.tcp_state.specs.Cubic.{CubicValue}
use Rattle.tcp_state.specs.Reno.{RenoValue}
use Rattle.tcp_state.specs.RoundTrip.{RoundTripValue}
use Rattle.tcp_block.specs.contracts.tcb.TcbPartialEq.TheImpl as Blocks
use Rattle.tcp_block.specs.contracts.tcb.CongestionControlPartialEq.TheImpl as Congestion
use Rattle.tcp_block.specs.contracts.tcb.LossPartialEq.TheImpl as Lost
use Rattle.tcp_block.specs.contracts.tcb.ValidationPartialEq.TheImpl as Validated
use Rattle.tcp_block.specs.contracts.tcb.NamesPartialEq.TheImpl as Named
use Rattle.tcp_block.specs.contracts.tcb.PeerPartialEq.TheImpl as Remote
use Rattle.tcp_block.specs.contracts.tcb.ReceiverPartialEq.TheImpl as Receiving
use Rattle.tcp_block.specs.contracts.tcb.SenderPartialEq.TheImpl as Sending
use Rattle.tcp_block.specs.contracts.tcb.SettingsPartialEq.TheImpl as Set
use Rattle.tcp_block.specs.contracts.tcb.StampsPartialEq.TheImpl as Stamped
use Rattle.tcp_block.specs.contracts.tcb.TimersPartialEq.TheImpl as Timed
use Rattle.tcp_block.specs.contracts.tcb.UndoPartialEq.TheImpl as Undoing
use Rattle.tcp_block.specs.contracts.tcb.checks.VerdictPartialEq.TheImpl as Judged
use Rattle.tcp_block.specs.contracts.tcb.rules.PartPartialEq.TheImpl as Parted
use Rattle.tcp_block.specs.declared.tcb.Tcb.{Tcb}
use Rattle.tcp_block.specs.declared.tcb.CongestionControl.{CongestionControl}
use Rattle.tcp_block.specs.declared.tcb.Loss.{Loss}
use Rattle.tcp_block.specs.declared.tcb.Names.{Names}
use Rattle.tcp_block.specs.declared.tcb.Peer.{Peer}
use Rattle.tcp_block.specs.declared.tcb.Receiver.{Receiver}
use Rattle.tcp_block.specs.declared.tcb.Sender.{Sender}
use Rattle.tcp_block.specs.declared.tcb.Settings.{Settings}
use Rattle.tcp_block.specs.declared.tcb.Stamps.{Stamps}
use Rattle.tcp_block.specs.declared.tcb.Timers.{Timers}
use Rattle.tcp_block.specs.declared.tcb.Undo.{Undo}
use Rattle.tcp_block.specs.declared.tcb.Validation.{Validation}
use Rattle.tcp_block.specs.declared.tcb.checks.Verdict.{Verdict}
use Rattle.tcp_block.specs.declared.tcb.rules.Part.{Part}

Decides-address : (a b : IpAddress) → Decides (Address.ghosts.eq a b) (a ≡ b)
Decides-address (Is.Ipv4 a) (Is.Ipv4 b) =
    let same = bytes_eq-Decides a.0 b.0 in
    let make : List ℕ → IpAddress = λ octets. Is.Ipv4 (record { 0 = octets }) in
    (λ yes. ap make (same.0 yes), λ e. same.1 (cc))
Decides-address (Is.Ipv6 a) (Is.Ipv6 b) =
    let same = bytes_eq-Decides a.0 b.0 in
    let make : List ℕ → IpAddress = λ octets. Is.Ipv6 (record { 0 = octets }) in
    (λ yes. ap make (same.0 yes), λ e. same.1 (cc))
Decides-address a b = (λ yes. absurd (cc), λ e. absurd (cc))

pub Decides-addresses : (a b : AddressPair) → Decides (Addresses.ghosts.eq a b) (a ≡ b)
Decides-addresses (Both.Ipv4 a b) (Both.Ipv4 c d) =
    let same = Decides-and _ _ (bytes_eq-Decides a.0 c.0) (bytes_eq-Decides b.0 d.0) in
    let make : List ℕ → List ℕ → AddressPair = λ own other. Both.Ipv4 (record { 0 = own }) (record { 0 = other }) in
    (λ yes. ap₂ make (same.0 yes).0 (same.0 yes).1, λ e. let own : a.0 ≡ c.0 = cc in let other : b.0 ≡ d.0 = cc in same.1 (both own other))
Decides-addresses (Both.Ipv6 a b) (Both.Ipv6 c d) =
    let same = Decides-and _ _ (bytes_eq-Decides a.0 c.0) (bytes_eq-Decides b.0 d.0) in
    let make : List ℕ → List ℕ → AddressPair = λ own other. Both.Ipv6 (record { 0 = own }) (record { 0 = other }) in
    (λ yes. ap₂ make (same.0 yes).0 (same.0 yes).1, λ e. let own : a.0 ≡ c.0 = cc in let other : b.0 ≡ d.0 = cc in same.1 (both own other))
Decides-addresses a b = (λ yes. absurd (cc), λ e. absurd (cc))

Decides-generator : (a b : TcpTimestampGenerator) → Decides (Generator.ghosts.eq a b) (a ≡ b)
Decides-generator a b = search rules

Decides-listening : (a b : IpListenEndpoint) → Decides (Listening.ghosts.eq a b) (a ≡ b)
Decides-listening a b =
    let all = Decides-and _ _ (Decides-option (λ x y. Address.ghosts.eq x y) Decides-address a.addr b.addr) (Decides-eqb a.port b.port) in (
      λ yes.
          let parts = all.0 yes in
          λ i. record { addr = parts.0 i; port = parts.1 i },
      λ e. all.1 (both (ap (λ (v : IpListenEndpoint). v.addr) e) (ap (λ (v : IpListenEndpoint). v.port) e)),
    )

pub Decides-state : (a b : State) → Decides (States.ghosts.eq a b) (a ≡ b)
Decides-state a b = search rules

pub Decides-kind : (a b : OfferKind) → Decides (Kind.ghosts.eq a b) (a ≡ b)
Decides-kind a b = search rules

pub Decides-pair : (a b : FourTuple) → Decides (Pair.ghosts.eq a b) (a ≡ b)
Decides-pair a b =
    let from_local_port = Decides-and _ _ (Decides-eqb a.local_port b.local_port) (Decides-eqb a.remote_port b.remote_port) in
    let all = Decides-and _ _ (Decides-addresses a.addresses b.addresses) (from_local_port) in (
      λ yes.
          let parts = all.0 yes in
          λ i. record { addresses = parts.0 i; local_port = parts.1.0 i; remote_port = parts.1.1 i },
      λ e. all.1 (both (ap (λ (v : FourTuple). v.addresses) e)
          (both (ap (λ (v : FourTuple). v.local_port) e) (ap (λ (v : FourTuple). v.remote_port) e))),
    )

pub Decides-open_offer : (a b : OpenOffer) → Decides (Opened.ghosts.eq a b) (a ≡ b)
Decides-open_offer a b =
    let from_slot = Decides-and _ _ (Decides-eqb a.offset b.offset) (Decides-eqb a.len b.len) in
    let from_segment = Decides-and _ _ (Decides-header a.segment b.segment) (from_slot) in
    let from_header = Decides-and _ _ (Decides-ip a.header b.header) (from_segment) in
    let from_instant = Decides-and _ _ (Decides-int_eq a.instant b.instant) (from_header) in
    let all = Decides-and _ _ (Decides-kind a.kind b.kind) (from_instant) in (
      λ yes.
          let parts = all.0 yes in
          λ i. record {
            kind = parts.0 i;
            instant = parts.1.0 i;
            header = parts.1.1.0 i;
            segment = parts.1.1.1.0 i;
            offset = parts.1.1.1.1.0 i;
            len =
                parts.1.1.1.1.1 i;
          },
      λ e. all.1 (both (ap (λ (v : OpenOffer). v.kind) e)
          (both (ap (λ (v : OpenOffer). v.instant) e)
          (both (ap (λ (v : OpenOffer). v.header) e)
          (both (ap (λ (v : OpenOffer). v.segment) e) (both (ap (λ (v : OpenOffer). v.offset) e) (ap (λ (v : OpenOffer). v.len) e)))))),
    )

pub Decides-reply : (a b : Reply) → Decides (Replied.ghosts.eq a b) (a ≡ b)
Decides-reply a b =
    let all = Decides-and _ _ (Decides-ip a.header b.header) (Decides-header a.segment b.segment) in (
      λ yes.
          let parts = all.0 yes in
          λ i. record { header = parts.0 i; segment = parts.1 i },
      λ e. all.1 (both (ap (λ (v : Reply). v.header) e) (ap (λ (v : Reply). v.segment) e)),
    )

Decides-epoch : (a b : Epoch) → Decides (Staged.ghosts.eq a b) (a ≡ b)
Decides-epoch a b =
    let from_k = Decides-and _ _ (Decides-eqb a.k b.k) (Decides-eqb a.w_est b.w_est) in
    let all = Decides-and _ _ (Decides-int_eq a.since b.since) (from_k) in (
      λ yes.
          let parts = all.0 yes in
          λ i. record { since = parts.0 i; k = parts.1.0 i; w_est = parts.1.1 i },
      λ e. all.1 (both (ap (λ (v : Epoch). v.since) e) (both (ap (λ (v : Epoch). v.k) e) (ap (λ (v : Epoch). v.w_est) e))),
    )

Decides-cubic : (a b : CubicValue) → Decides (Cubed.ghosts.eq a b) (a ≡ b)
Decides-cubic a b =
    let from_prior =
    Decides-and _ _ (Decides-eqb a.cwnd_prior b.cwnd_prior) (Decides-option (λ x y. Staged.ghosts.eq x y) Decides-epoch a.epoch b.epoch) in
    let all = Decides-and _ _ (Decides-eqb a.w_max b.w_max) (from_prior) in (
      λ yes.
          let parts = all.0 yes in
          λ i. record { w_max = parts.0 i; cwnd_prior = parts.1.0 i; epoch = parts.1.1 i },
      λ e. all.1 (both (ap (λ (v : CubicValue). v.w_max) e) (both (ap (λ (v : CubicValue). v.cwnd_prior) e) (ap (λ (v : CubicValue). v.epoch) e))),
    )

pub Decides-reno : (a b : RenoValue) → Decides (Window.ghosts.eq a b) (a ≡ b)
Decides-reno a b =
    let from_timed_out =
    Decides-and _ _ (booleans_Decides a.timed_out b.timed_out) (Decides-option (λ x y. Cubed.ghosts.eq x y) Decides-cubic a.cubic b.cubic) in
    let from_recovers = Decides-and _ _ (booleans_Decides a.recovers b.recovers) (from_timed_out) in
    let from_ssthresh = Decides-and _ _ (Decides-eqb a.ssthresh b.ssthresh) (from_recovers) in
    let from_cwnd = Decides-and _ _ (Decides-eqb a.cwnd b.cwnd) (from_ssthresh) in
    let all = Decides-and _ _ (Decides-eqb a.mss b.mss) (from_cwnd) in (
      λ yes.
          let parts = all.0 yes in
          λ i. record {
            mss = parts.0 i;
            cwnd = parts.1.0 i;
            ssthresh = parts.1.1.0 i;
            recovers = parts.1.1.1.0 i;
            timed_out = parts.1.1.1.1.0 i;
            cubic = parts.1.1.1.1.1 i;
          },
      λ e. all.1 (both (ap (λ (v : RenoValue). v.mss) e)
          (both (ap (λ (v : RenoValue). v.cwnd) e)
          (both (ap (λ (v : RenoValue). v.ssthresh) e)
          (both (ap (λ (v : RenoValue). v.recovers) e) (both (ap (λ (v : RenoValue). v.timed_out) e) (ap (λ (v : RenoValue). v.cubic) e)))))),
    )

Decides-estimate : (a b : Estimate) → Decides (Estimated.ghosts.eq a b) (a ≡ b)
Decides-estimate a b =
    let from_variation = Decides-and _ _ (Decides-eqb a.variation b.variation) (Decides-eqb a.shortest b.shortest) in
    let all = Decides-and _ _ (Decides-eqb a.smoothed b.smoothed) (from_variation) in (
      λ yes.
          let parts = all.0 yes in
          λ i. record { smoothed = parts.0 i; variation = parts.1.0 i; shortest = parts.1.1 i },
      λ e. all.1 (both (ap (λ (v : Estimate). v.smoothed) e)
          (both (ap (λ (v : Estimate). v.variation) e) (ap (λ (v : Estimate). v.shortest) e))),
    )

Decides-sample : (a b : Sample) → Decides (Sampled.ghosts.eq a b) (a ≡ b)
Decides-sample a b =
    let all = Decides-and _ _ (Decides-eqb a.ends b.ends) (Decides-int_eq a.since b.since) in (
      λ yes.
          let parts = all.0 yes in
          λ i. record { ends = parts.0 i; since = parts.1 i },
      λ e. all.1 (both (ap (λ (v : Sample). v.ends) e) (ap (λ (v : Sample). v.since) e)),
    )

pub Decides-round_trip : (a b : RoundTripValue) → Decides (Trip.ghosts.eq a b) (a ≡ b)
Decides-round_trip a b =
    let from_least = Decides-and _ _ (Decides-eqb a.least b.least) (Decides-option (λ x y. Sampled.ghosts.eq x y) Decides-sample a.sample b.sample) in
    let from_timeout = Decides-and _ _ (Decides-eqb a.timeout b.timeout) (from_least) in
    let all = Decides-and _ _ (Decides-option (λ x y. Estimated.ghosts.eq x y) Decides-estimate a.estimate b.estimate) (from_timeout) in (
      λ yes.
          let parts = all.0 yes in
          λ i. record { estimate = parts.0 i; timeout = parts.1.0 i; least = parts.1.1.0 i; sample = parts.1.1.1 i },
      λ e. all.1 (both (ap (λ (v : RoundTripValue). v.estimate) e)
          (both (ap (λ (v : RoundTripValue). v.timeout) e) (both (ap (λ (v : RoundTripValue). v.least) e) (ap (λ (v : RoundTripValue). v.sample) e)))),
    )

pub Decides-names : (a b : Names) → Decides (Named.ghosts.eq a b) (a ≡ b)
Decides-names a b =
    let all = Decides-and _ _ (Decides-listening a.listen b.listen) (Decides-option (λ x y. Pair.ghosts.eq x y) Decides-pair a.pair b.pair) in (
      λ yes.
          let parts = all.0 yes in
          λ i. record { listen = parts.0 i; pair = parts.1 i },
      λ e. all.1 (both (ap (λ (v : Names). v.listen) e) (ap (λ (v : Names). v.pair) e)),
    )

pub Decides-sender : (a b : Sender) → Decides (Sending.ghosts.eq a b) (a ≡ b)
Decides-sender a b =
    let from_unanswered = Decides-and _ _ (Decides-eqb a.unanswered b.unanswered) (booleans_Decides a.reset_due b.reset_due) in
    let from_timeouts = Decides-and _ _ (Decides-eqb a.timeouts b.timeouts) (from_unanswered) in
    let from_syn_lost = Decides-and _ _ (booleans_Decides a.syn_lost b.syn_lost) (from_timeouts) in
    let from_partial = Decides-and _ _ (booleans_Decides a.partial b.partial) (from_syn_lost) in
    let from_recover = Decides-and _ _ (Decides-eqb a.recover b.recover) (from_partial) in
    let from_resend = Decides-and _ _ (booleans_Decides a.resend b.resend) (from_recover) in
    let from_sacked = Decides-and _ _ (Decides-eqb a.sacked b.sacked) (from_resend) in
    let from_duplicates = Decides-and _ _ (Decides-eqb a.duplicates b.duplicates) (from_sacked) in
    let from_top = Decides-and _ _ (Decides-eqb a.snd_max b.snd_max) (from_duplicates) in
    let from_flight_size = Decides-and _ _ (Decides-eqb a.flight_size b.flight_size) (from_top) in
    let from_syn_unacked = Decides-and _ _ (booleans_Decides a.syn_unacked b.syn_unacked) (from_flight_size) in
    let from_past_iss = Decides-and _ _ (Decides-eqb a.past_iss b.past_iss) (from_syn_unacked) in
    let all = Decides-and _ _ (Decides-number a.una b.una) (from_past_iss) in (
      λ yes.
          let parts = all.0 yes in
          λ i. record {
            una = parts.0 i;
            past_iss = parts.1.0 i;
            syn_unacked = parts.1.1.0 i;
            flight_size = parts.1.1.1.0 i;
            snd_max = parts.1.1.1.1.0 i;
            duplicates = parts.1.1.1.1.1.0 i;
            sacked = parts.1.1.1.1.1.1.0 i;
            resend = parts.1.1.1.1.1.1.1.0 i;
            recover = parts.1.1.1.1.1.1.1.1.0 i;
            partial = parts.1.1.1.1.1.1.1.1.1.0 i;
            syn_lost = parts.1.1.1.1.1.1.1.1.1.1.0 i;
            timeouts = parts.1.1.1.1.1.1.1.1.1.1.1.0 i;
            unanswered = parts.1.1.1.1.1.1.1.1.1.1.1.1.0 i;
            reset_due = parts.1.1.1.1.1.1.1.1.1.1.1.1.1 i;
          },
      λ e. all.1 (both (ap (λ (v : Sender). v.una) e)
          (both (ap (λ (v : Sender). v.past_iss) e)
          (both (ap (λ (v : Sender). v.syn_unacked) e)
          (both (ap (λ (v : Sender). v.flight_size) e)
          (both (ap (λ (v : Sender). v.snd_max) e)
          (both (ap (λ (v : Sender). v.duplicates) e)
          (both (ap (λ (v : Sender). v.sacked) e)
          (both (ap (λ (v : Sender). v.resend) e)
          (both (ap (λ (v : Sender). v.recover) e)
          (both (ap (λ (v : Sender). v.partial) e)
          (both (ap (λ (v : Sender). v.syn_lost) e)
          (both (ap (λ (v : Sender). v.timeouts) e)
          (both (ap (λ (v : Sender). v.unanswered) e)
          (ap (λ (v : Sender). v.reset_due) e)))))))))))))),
    )

pub Decides-receiver : (a b : Receiver) → Decides (Receiving.ghosts.eq a b) (a ≡ b)
Decides-receiver a b =
    let from_mss = Decides-and _ _ (Decides-eqb a.mss b.mss) (Decides-number a.last_ack b.last_ack) in
    let from_edge = Decides-and _ _ (Decides-eqb a.rcv_adv b.rcv_adv) (from_mss) in
    let from_took_fin = Decides-and _ _ (booleans_Decides a.took_fin b.took_fin) (from_edge) in
    let from_took_syn = Decides-and _ _ (booleans_Decides a.took_syn b.took_syn) (from_took_fin) in
    let all = Decides-and _ _ (Decides-number a.next b.next) (from_took_syn) in (
      λ yes.
          let parts = all.0 yes in
          λ i. record {
            next = parts.0 i;
            took_syn = parts.1.0 i;
            took_fin = parts.1.1.0 i;
            rcv_adv = parts.1.1.1.0 i;
            mss = parts.1.1.1.1.0 i;
            last_ack = parts.1.1.1.1.1 i;
          },
      λ e. all.1 (both (ap (λ (v : Receiver). v.next) e)
          (both (ap (λ (v : Receiver). v.took_syn) e)
          (both (ap (λ (v : Receiver). v.took_fin) e)
          (both (ap (λ (v : Receiver). v.rcv_adv) e)
          (both (ap (λ (v : Receiver). v.mss) e)
          (ap (λ (v : Receiver). v.last_ack) e)))))),
    )

pub Decides-peer : (a b : Peer) → Decides (Remote.ghosts.eq a b) (a ≡ b)
Decides-peer a b =
    let from_timestamps = Decides-and _ _ (booleans_Decides a.timestamps b.timestamps) (Decides-eqb a.recent b.recent) in
    let from_sack = Decides-and _ _ (booleans_Decides a.sack b.sack) (from_timestamps) in
    let from_scale = Decides-and _ _ (Decides-option (λ (x y : ℕ). x == y) Decides-eqb a.scale b.scale) (from_sack) in
    let from_mss = Decides-and _ _ (Decides-eqb a.mss b.mss) (from_scale) in
    let from_window_ack = Decides-and _ _ (Decides-number a.snd_wl2 b.snd_wl2) (from_mss) in
    let from_window_seq = Decides-and _ _ (Decides-number a.snd_wl1 b.snd_wl1) (from_window_ack) in
    let from_largest_window = Decides-and _ _ (Decides-eqb a.largest_window b.largest_window) (from_window_seq) in
    let all = Decides-and _ _ (Decides-eqb a.window b.window) (from_largest_window) in (
      λ yes.
          let parts = all.0 yes in
          λ i. record {
            window = parts.0 i;
            largest_window = parts.1.0 i;
            snd_wl1 = parts.1.1.0 i;
            snd_wl2 = parts.1.1.1.0 i;
            mss =
                parts.1.1.1.1.0 i;
            scale = parts.1.1.1.1.1.0 i;
            sack = parts.1.1.1.1.1.1.0 i;
            timestamps = parts.1.1.1.1.1.1.1.0 i;
            recent =
                parts.1.1.1.1.1.1.1.1 i;
          },
      λ e. all.1 (both (ap (λ (v : Peer). v.window) e)
          (both (ap (λ (v : Peer). v.largest_window) e)
          (both (ap (λ (v : Peer). v.snd_wl1) e)
          (both (ap (λ (v : Peer). v.snd_wl2) e)
          (both (ap (λ (v : Peer). v.mss) e)
          (both (ap (λ (v : Peer). v.scale) e)
          (both (ap (λ (v : Peer). v.sack) e) (both (ap (λ (v : Peer). v.timestamps) e) (ap (λ (v : Peer). v.recent) e))))))))),
    )

pub Decides-stamps : (a b : Stamps) → Decides (Stamped.ghosts.eq a b) (a ≡ b)
Decides-stamps a b =
    let from_first = Decides-and _ _ (Decides-eqb a.first b.first)
    (Decides-option (λ (x y : ℤ). int_eq x y) Decides-int_eq a.recent_valid_until b.recent_valid_until) in
    let all = Decides-and _ _ (Decides-option (λ x y. Generator.ghosts.eq x y) Decides-generator a.generator b.generator) (from_first) in (
      λ yes.
          let parts = all.0 yes in
          λ i. record {
            generator = parts.0 i;
            first = parts.1.0 i;
            recent_valid_until = parts.1.1 i;
          },
      λ e. all.1 (both (ap (λ (v : Stamps). v.generator) e)
          (both (ap (λ (v : Stamps). v.first) e)
          (ap (λ (v : Stamps). v.recent_valid_until) e))),
    )

pub Decides-timers : (a b : Timers) → Decides (Timed.ghosts.eq a b) (a ≡ b)
Decides-timers a b =
    let from_time_wait_ends =
    Decides-and _ _ (Decides-option (λ (x y : ℤ). int_eq x y) Decides-int_eq a.time_wait_ends b.time_wait_ends)
    (Decides-option (λ (x y : ℤ). int_eq x y) Decides-int_eq a.timeout_since b.timeout_since) in
    let from_counts_from = Decides-and _ _ (Decides-option (λ (x y : ℤ). int_eq x y) Decides-int_eq a.counts_from b.counts_from) (from_time_wait_ends) in
    let from_draws_from = Decides-and _ _ (Decides-option (λ (x y : ℤ). int_eq x y) Decides-int_eq a.challenges_from b.challenges_from) (from_counts_from) in
    let from_text_unacked = Decides-and _ _ (booleans_Decides a.data_unacked b.data_unacked) (from_draws_from) in
    let from_ack_at = Decides-and _ _ (Decides-option (λ (x y : ℤ). int_eq x y) Decides-int_eq a.ack_at b.ack_at) (from_text_unacked) in
    let from_probe_at = Decides-and _ _ (Decides-option (λ (x y : ℤ). int_eq x y) Decides-int_eq a.probe_at b.probe_at) (from_ack_at) in
    let all = Decides-and _ _ (Decides-option (λ (x y : ℤ). int_eq x y) Decides-int_eq a.retransmit_at b.retransmit_at) (from_probe_at) in (
      λ yes.
          let parts = all.0 yes in
          λ i. record {
            retransmit_at = parts.0 i;
            probe_at = parts.1.0 i;
            ack_at = parts.1.1.0 i;
            data_unacked = parts.1.1.1.0 i;
            challenges_from =
                parts.1.1.1.1.0 i;
            counts_from = parts.1.1.1.1.1.0 i;
            time_wait_ends = parts.1.1.1.1.1.1.0 i;
            timeout_since = parts.1.1.1.1.1.1.1 i;
          },
      λ e. all.1 (both (ap (λ (v : Timers). v.retransmit_at) e)
          (both (ap (λ (v : Timers). v.probe_at) e)
          (both (ap (λ (v : Timers). v.ack_at) e)
          (both (ap (λ (v : Timers). v.data_unacked) e)
          (both (ap (λ (v : Timers). v.challenges_from) e)
          (both (ap (λ (v : Timers). v.counts_from) e) (both (ap (λ (v : Timers). v.time_wait_ends) e) (ap (λ (v : Timers). v.timeout_since) e)))))))),
    )

pub Decides-congestion : (a b : CongestionControl) → Decides (Congestion.ghosts.eq a b) (a ≡ b)
Decides-congestion a b = search rules

pub Decides-settings : (a b : Settings) → Decides (Set.ghosts.eq a b) (a ≡ b)
Decides-settings a b =
    let from_min_rto = Decides-and _ _ (Decides-eqb a.min_rto b.min_rto) (booleans_Decides a.fine_timer b.fine_timer) in
    let from_retries = Decides-and _ _ (Decides-option (λ (x y : ℕ). x == y) Decides-eqb a.retries b.retries) (from_min_rto) in
    let from_opening_retries = Decides-and _ _ (Decides-option (λ (x y : ℕ). x == y) Decides-eqb a.opening_retries b.opening_retries) (from_retries) in
    let from_synack_paused = Decides-and _ _ (booleans_Decides a.synack_paused b.synack_paused) (from_opening_retries) in
    let from_congestion_control = Decides-and _ _ (Decides-congestion a.congestion_control b.congestion_control) (from_synack_paused) in
    let from_timestamps = Decides-and _ _ (Decides-option (λ x y. Generator.ghosts.eq x y) Decides-generator a.timestamps b.timestamps)
    (from_congestion_control) in
    let from_hop_limit = Decides-and _ _ (Decides-option (λ (x y : ℕ). x == y) Decides-eqb a.hop_limit b.hop_limit) (from_timestamps) in
    let from_nagle = Decides-and _ _ (booleans_Decides a.nagle b.nagle) (from_hop_limit) in
    let from_keep_alive_at = Decides-and _ _ (Decides-option (λ (x y : ℤ). int_eq x y) Decides-int_eq a.keep_alive_at b.keep_alive_at) (from_nagle) in
    let from_keep_alive = Decides-and _ _ (Decides-option (λ (x y : ℕ). x == y) Decides-eqb a.keep_alive b.keep_alive) (from_keep_alive_at) in
    let from_ack_delay = Decides-and _ _ (Decides-option (λ (x y : ℕ). x == y) Decides-eqb a.ack_delay b.ack_delay) (from_keep_alive) in
    let all = Decides-and _ _ (Decides-option (λ (x y : ℕ). x == y) Decides-eqb a.timeout b.timeout) (from_ack_delay) in (
      λ yes.
          let parts = all.0 yes in
          λ i. record {
            timeout = parts.0 i;
            ack_delay = parts.1.0 i;
            keep_alive = parts.1.1.0 i;
            keep_alive_at = parts.1.1.1.0 i;
            nagle =
                parts.1.1.1.1.0 i;
            hop_limit = parts.1.1.1.1.1.0 i;
            timestamps = parts.1.1.1.1.1.1.0 i;
            congestion_control = parts.1.1.1.1.1.1.1.0 i;
            synack_paused = parts.1.1.1.1.1.1.1.1.0 i;
            opening_retries = parts.1.1.1.1.1.1.1.1.1.0 i;
            retries = parts.1.1.1.1.1.1.1.1.1.1.0 i;
            min_rto = parts.1.1.1.1.1.1.1.1.1.1.1.0 i;
            fine_timer =
                parts.1.1.1.1.1.1.1.1.1.1.1.1 i;
          },
      λ e. all.1 (both (ap (λ (v : Settings). v.timeout) e)
          (both (ap (λ (v : Settings). v.ack_delay) e)
          (both (ap (λ (v : Settings). v.keep_alive) e)
          (both (ap (λ (v : Settings). v.keep_alive_at) e)
          (both (ap (λ (v : Settings). v.nagle) e)
          (both (ap (λ (v : Settings). v.hop_limit) e)
          (both (ap (λ (v : Settings). v.timestamps) e)
          (both (ap (λ (v : Settings). v.congestion_control) e)
          (both (ap (λ (v : Settings). v.synack_paused) e)
          (both (ap (λ (v : Settings). v.opening_retries) e)
          (both (ap (λ (v : Settings). v.retries) e) (both (ap (λ (v : Settings). v.min_rto) e) (ap (λ (v : Settings). v.fine_timer) e))))))))))))),
    )

pub Decides-run : (a b : Run) → Decides (Ran.ghosts.eq a b) (a ≡ b)
Decides-run a b =
    let all = Decides-and _ _ (Decides-eqb a.start b.start) (Decides-eqb a.end b.end) in (
      λ yes.
          let parts = all.0 yes in
          λ i. record { start = parts.0 i; end = parts.1 i },
      λ e. all.1 (both (ap (λ (v : Run). v.start) e) (ap (λ (v : Run). v.end) e)),
    )

pub Decides-scoreboard : (a b : Scoreboard) → Decides (Board.ghosts.eq a b) (a ≡ b)
Decides-scoreboard a b =
    let all = slice_eq-Decides {E = λ x y. Ran.ghosts.eq x y} Decides-run a.runs b.runs (Board.ghosts.eq a b) refl in
    (λ yes. λ i. record { runs = all.0 yes i }, λ e. all.1 (ap (λ (v : Scoreboard). v.runs) e))

pub Decides-undo : (a b : Undo) → Decides (Undoing.ghosts.eq a b) (a ≡ b)
Decides-undo a b =
    let all =
    Decides-and _ _ (Decides-reno a.reno b.reno)
    (Decides-and _ _ (Decides-option (λ (x y : ℕ). x == y) Decides-eqb a.tsval b.tsval)
    (Decides-option (λ (x y : ℤ). int_eq x y) Decides-int_eq a.answers_from b.answers_from)) in (
      λ yes.
          let parts = all.0 yes in
          λ i. record { reno = parts.0 i; tsval = parts.1.0 i; answers_from = parts.1.1 i },
      λ e. all.1 (both (ap (λ (v : Undo). v.reno) e) (both (ap (λ (v : Undo). v.tsval) e) (ap (λ (v : Undo). v.answers_from) e))),
    )

pub Decides-loss : (a b : Loss) → Decides (Lost.ghosts.eq a b) (a ≡ b)
Decides-loss a b =
    let from_late_until =
    Decides-and _ _ (Decides-option (λ (x y : ℤ). int_eq x y) Decides-int_eq a.reorder_until b.reorder_until)
    (Decides-option (λ x y. Undoing.ghosts.eq x y) Decides-undo a.undo b.undo) in
    let from_patience = Decides-and _ _ (Decides-eqb a.reo_wnd_mult b.reo_wnd_mult) (from_late_until) in
    let from_probe_at = Decides-and _ _ (Decides-option (λ (x y : ℤ). int_eq x y) Decides-int_eq a.probe_at b.probe_at) (from_patience) in
    let from_rescue = Decides-and _ _ (Decides-eqb a.rescue_rxt b.rescue_rxt) (from_probe_at) in
    let from_probed = Decides-and _ _ (booleans_Decides a.probed b.probed) (from_rescue) in
    let from_probes = Decides-and _ _ (booleans_Decides a.probes b.probes) (from_probed) in
    let from_eager = Decides-and _ _ (booleans_Decides a.dupthresh_one b.dupthresh_one) (from_probes) in
    let from_mark = Decides-and _ _ (Decides-eqb a.mark b.mark) (from_eager) in
    let from_credit = Decides-and _ _ (Decides-eqb a.credit b.credit) (from_mark) in
    let from_resent = Decides-and _ _ (Decides-eqb a.resent b.resent) (from_credit) in
    let all = Decides-and _ _ (Decides-scoreboard a.board b.board) (from_resent) in (
      λ yes.
          let parts = all.0 yes in
          λ i. record {
            board = parts.0 i;
            resent = parts.1.0 i;
            credit = parts.1.1.0 i;
            mark = parts.1.1.1.0 i;
            dupthresh_one = parts.1.1.1.1.0 i;
            probes = parts.1.1.1.1.1.0 i;
            probed = parts.1.1.1.1.1.1.0 i;
            rescue_rxt = parts.1.1.1.1.1.1.1.0 i;
            probe_at = parts.1.1.1.1.1.1.1.1.0 i;
            reo_wnd_mult = parts.1.1.1.1.1.1.1.1.1.0 i;
            reorder_until = parts.1.1.1.1.1.1.1.1.1.1.0 i;
            undo = parts.1.1.1.1.1.1.1.1.1.1.1 i;
          },
      λ e. all.1 (both (ap (λ (v : Loss). v.board) e)
          (both (ap (λ (v : Loss). v.resent) e)
          (both (ap (λ (v : Loss). v.credit) e)
          (both (ap (λ (v : Loss). v.mark) e)
          (both (ap (λ (v : Loss). v.dupthresh_one) e)
          (both (ap (λ (v : Loss). v.probes) e)
          (both (ap (λ (v : Loss). v.probed) e)
          (both (ap (λ (v : Loss). v.rescue_rxt) e)
          (both (ap (λ (v : Loss). v.probe_at) e)
          (both (ap (λ (v : Loss). v.reo_wnd_mult) e) (both (ap (λ (v : Loss). v.reorder_until) e) (ap (λ (v : Loss). v.undo) e)))))))))))),
    )

pub Decides-validation : (a b : Validation) → Decides (Validated.ghosts.eq a b) (a ≡ b)
Decides-validation a b =
    let all = Decides-and _ _ (Decides-eqb a.flight b.flight) (Decides-option (λ (x y : ℤ). int_eq x y) Decides-int_eq a.since b.since) in (
      λ yes.
          let parts = all.0 yes in
          λ i. record { flight = parts.0 i; since = parts.1 i },
      λ e. all.1 (both (ap (λ (v : Validation). v.flight) e) (ap (λ (v : Validation). v.since) e)),
    )

-- the control block is compared whole
pub Decides-tcb : (a b : Tcb) → Decides (Blocks.ghosts.eq a b) (a ≡ b)
Decides-tcb a b =
    let from_validation = Decides-and _ _ (Decides-validation a.validation b.validation) (Decides-settings a.settings b.settings) in
    let from_loss = Decides-and _ _ (Decides-loss a.loss b.loss) (from_validation) in
    let from_reno = Decides-and _ _ (Decides-reno a.reno b.reno) (from_loss) in
    let from_round_trip = Decides-and _ _ (Decides-round_trip a.round_trip b.round_trip) (from_reno) in
    let from_timers = Decides-and _ _ (Decides-timers a.timers b.timers) (from_round_trip) in
    let from_stamps = Decides-and _ _ (Decides-stamps a.stamps b.stamps) (from_timers) in
    let from_peer = Decides-and _ _ (Decides-peer a.peer b.peer) (from_stamps) in
    let from_receiver = Decides-and _ _ (Decides-receiver a.receiver b.receiver) (from_peer) in
    let from_sender = Decides-and _ _ (Decides-sender a.sender b.sender) (from_receiver) in
    let from_names = Decides-and _ _ (Decides-names a.names b.names) (from_sender) in
    let all = Decides-and _ _ (Decides-state a.state b.state) (from_names) in (
      λ yes.
          let parts = all.0 yes in
          λ i. record {
            state = parts.0 i;
            names = parts.1.0 i;
            sender = parts.1.1.0 i;
            receiver = parts.1.1.1.0 i;
            peer = parts.1.1.1.1.0 i;
            stamps = parts.1.1.1.1.1.0 i;
            timers = parts.1.1.1.1.1.1.0 i;
            round_trip = parts.1.1.1.1.1.1.1.0 i;
            reno = parts.1.1.1.1.1.1.1.1.0 i;
            loss = parts.1.1.1.1.1.1.1.1.1.0 i;
            validation = parts.1.1.1.1.1.1.1.1.1.1.0 i;
            settings = parts.1.1.1.1.1.1.1.1.1.1.1 i;
          },
      λ e. all.1 (both (ap (λ (v : Tcb). v.state) e)
          (both (ap (λ (v : Tcb). v.names) e)
          (both (ap (λ (v : Tcb). v.sender) e)
          (both (ap (λ (v : Tcb). v.receiver) e)
          (both (ap (λ (v : Tcb). v.peer) e)
          (both (ap (λ (v : Tcb). v.stamps) e)
          (both (ap (λ (v : Tcb). v.timers) e)
          (both (ap (λ (v : Tcb). v.round_trip) e) (both (ap (λ (v : Tcb). v.reno) e)
          (both (ap (λ (v : Tcb). v.loss) e)
          (both (ap (λ (v : Tcb). v.validation) e) (ap (λ (v : Tcb). v.settings) e)))))))))))),
    )

pub Decides-verdict : (a b : Verdict) → Decides (Judged.ghosts.eq a b) (a ≡ b)
Decides-verdict a b = search rules

pub Decides-part : (a b : Part) → Decides (Parted.ghosts.eq a b) (a ≡ b)
Decides-part a b =
    let from_len = Decides-and _ _ (Decides-eqb a.len b.len) (booleans_Decides a.fin b.fin) in
    let all = Decides-and _ _ (Decides-eqb a.offset b.offset) (from_len) in (
      λ yes.
          let parts = all.0 yes in
          λ i. record { offset = parts.0 i; len = parts.1.0 i; fin = parts.1.1 i },
      λ e. all.1 (both (ap (λ (v : Part). v.offset) e) (both (ap (λ (v : Part). v.len) e) (ap (λ (v : Part). v.fin) e))),
    )
