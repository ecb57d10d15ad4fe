-- The ports that a socket was opened with stay those of all that names it; and one without names takes and offers nothing.
use Rattle.std.proofs.Common.{◌≡◌, inl, inr, ℕ, ◌==◌, true, false, List, Option}
use Rattle.std.proofs.Common.{Some, None, refl, sym, ap, ◌∙◌, subst}
use Rattle.std.proofs.lemmas.Bool.{cond_both}
use Rattle.ip_wire.specs.IpListenEndpoint.{IpListenEndpoint}
use Rattle.ip_wire.specs.IpRepr.{IpRepr}
use Rattle.ip_wire.specs.TcpHeader.{TcpHeader}
use Rattle.socket_context.specs.Context.{ContextValue}
use Rattle.socket_context.specs.Offers.{offered_as}
use Rattle.socket_context.specs.declared.offer.Offer.TheVariants as Answer
use Rattle.tcp_block.specs.declared.tcb.Tcb.{Tcb}
use Rattle.tcp_block.specs.FourTuple.{FourTuple}
use Rattle.tcp_block.specs.declared.tcb.Names.{Names}
use Rattle.tcp_block.specs.State.{State}
use Rattle.tcp_block.specs.State.TheVariants as In
use Rattle.tcp_block.specs.Arrival.{arrives_in, arrives, is_void_syn}
use Rattle.tcp_block.specs.Calls.{listening, connecting, close_after, abort_after}
use Rattle.tcp_block.specs.Endpoints.{pair_in}
use Rattle.tcp_block.specs.Names.{accepts_in, accepts}
use Rattle.tcp_block.specs.Offers.{offer_with, offer_of}
use Rattle.tcp_block.specs.Settled.{settled}
use Rattle.tcp_block.specs.States.{is_closed, is_listening, is_answering}
use Rattle.tcp_block.specs.Value.{TcpValue, Arrived, dropped, unoffered}
use Rattle.tcp_refinement.specs.Tie.{Core, core_of}
use Rattle.tcp_refinement.specs.Endpoints.{IsFor, KeepsNames, Forgets, IsOpenedBy, FallsBack, KeepsOrForgets, IsLeftBy, IsRenamed}
use Rattle.tcp_refinement.specs.Endpoints.{Ports, IsToward, HasPorts, IsNameless}
use Rattle.tcp_refinement.proofs.CallLaws.{closed_state}
use Rattle.tcp_refinement.proofs.NameLaws.{accepted, abort_names, arrival_names, close_names, sent_names, withheld_names}

-- PORTS

closed_off : (state : State) → is_closed state ≡ true → is_listening state ≡ true → ⊥
closed_off In.Closed e f = absurd (cc)
closed_off other e f = absurd (cc)

ports_kept : (o : Ports) (old new : Tcb) → KeepsNames old new → HasPorts o old → HasPorts o new
ports_kept o old new k has = record {
  listening = λ e. let port = has.listening (k.listening e) in (ap (λ (n : Names). n.listen.port) k.names ∙ port.0, port.1);
  listened = λ e. let port = has.listened (sym (ap (λ (n : Names). n.listen.port == 0) k.names) ∙ e) in
      (ap (λ (n : Names). n.listen.port) k.names ∙ port.0, port.1);
  pair = λ pair e. has.pair pair (sym (ap (λ (n : Names). n.pair) k.names) ∙ e);
}

ports_forgotten : (o : Ports) (new : Tcb) → Forgets new → HasPorts o new
ports_forgotten o new f = record {
  listening = λ e. absurd (closed_off new.state f.state e);
  listened = λ e. absurd (let clash : true ≡ false = sym (ap (λ (n : Names). n.listen.port == 0) f.names) ∙ e in cc);
  pair = λ pair e. absurd (let clash : None ≡ Some pair = sym (ap (λ (n : Names). n.pair) f.names) ∙ e in cc);
}

ports_after : (o : Ports) (old new : Tcb) → KeepsOrForgets old new → HasPorts o old → HasPorts o new
ports_after o old new (inl k) has = ports_kept o old new k has
ports_after o old new (inr f) has = ports_forgotten o new f

ports_fallen : (o : Ports) (old new : Tcb) → FallsBack old new → HasPorts o old → HasPorts o new
ports_fallen o old new fallen has =
    let mine = has.listened fallen.listened in
    let same = ap (λ (n : Names). n.listen.port) fallen.names in
    record {
      listening = λ _. (same ∙ mine.0, mine.1);
      listened = λ _. (same ∙ mine.0, mine.1);
      pair = λ pair e. absurd (let clash : None ≡ Some pair = sym (ap (λ (n : Names). n.pair) fallen.names) ∙ e in cc);
    }

ports_left : (o : Ports) (old new : Tcb) → IsLeftBy old new → HasPorts o old → HasPorts o new
ports_left o old new (inl fallen) has = ports_fallen o old new fallen has
ports_left o old new (inr kept) has = ports_after o old new kept has

pub ports_listening : (v : TcpValue) (endpoint : IpListenEndpoint) → HasPorts (record { local = endpoint.port; remote = None }) (listening v endpoint).tcb
ports_listening v endpoint = record { listening = λ _. (refl, refl); listened = λ _. (refl, refl); pair = λ pair e. absurd (cc) }

pub ports_connecting : (v : TcpValue) (pair : FourTuple) (number : ℕ) →
    HasPorts (record { local = pair.local_port; remote = Some pair.remote_port }) (connecting v pair number).tcb
ports_connecting v pair number = record {
  listening = λ e. absurd (cc);
  listened = λ e. absurd (cc);
  pair = λ other e. let same : pair ≡ other = cc in (ap (λ (p : FourTuple). p.local_port) (sym same), ap (λ (p : FourTuple). p.remote_port) (sym same));
}

pub ports_same : (v new : TcpValue) (o : Ports) → core_of new ≡ core_of v → HasPorts o v.tcb → HasPorts o new.tcb
ports_same v new o e has = record {
  listening = λ listens. let port = has.listening (sym (ap (λ (c : Core). is_listening c.state) e) ∙ listens) in
      (ap (λ (c : Core). c.listen_port) e ∙ port.0, port.1);
  listened = λ named. let port = has.listened (sym (ap (λ (c : Core). c.listen_port == 0) e) ∙ named) in (ap (λ (c : Core). c.listen_port) e ∙ port.0, port.1);
  pair = λ pair named. has.pair pair (sym (ap (λ (c : Core). c.pair) e) ∙ named);
}

pub ports_close : (v : TcpValue) (o : Ports) → HasPorts o v.tcb → HasPorts o (close_after v).tcb
ports_close v o has = ports_after o v.tcb (close_after v).tcb (close_names v) has

pub ports_abort : (v : TcpValue) (o : Ports) → HasPorts o v.tcb → HasPorts o (abort_after v).tcb
ports_abort v o has = ports_after o v.tcb (abort_after v).tcb (abort_names v) has

pub ports_sent : (cx : ContextValue) (v : TcpValue) (o : Ports) → HasPorts o v.tcb → HasPorts o (settled true (offer_of cx v).socket).tcb
ports_sent cx v o has = ports_left o v.tcb (settled true (offer_of cx v).socket).tcb (sent_names cx v) has

pub ports_withheld : (cx : ContextValue) (v : TcpValue) (o : Ports) → HasPorts o v.tcb → HasPorts o (settled false (offer_of cx v).socket).tcb
ports_withheld cx v o has = ports_left o v.tcb (settled false (offer_of cx v).socket).tcb (withheld_names cx v) has

open_toward : (remote : Option ℕ) (port : ℕ) → remote ≡ None → IsToward remote port
open_toward remote port e = subst (λ (remote : Option ℕ). IsToward remote port) (sym e) tt

ports_opened : (o : Ports) (old new : Tcb) (ip : IpRepr) (header : TcpHeader) → header.dst_port ≡ old.names.listen.port → IsOpenedBy ip header old new →
    HasPorts o old → HasPorts o new
ports_opened o old new ip header port opened has =
    let mine = has.listening opened.listening in
    record {
      listening = λ e. absurd (off new.state opened.state e);
      listened = λ e. (ap (λ (n : Names). n.listen.port) opened.names ∙ mine.0, mine.1);
      pair = λ pair e.
          let named : Some (pair_in ip header) ≡ Some pair = sym (ap (λ (n : Names). n.pair) opened.names) ∙ e in
          let same : pair_in ip header ≡ pair = cc in
          (sym (ap (λ (p : FourTuple). p.local_port) same) ∙ (port ∙ mine.0), open_toward o.remote pair.remote_port mine.1);
    }
  where
    off : (state : State) → is_answering state ≡ true → is_listening state ≡ true → ⊥
    off In.SynReceived e f = absurd (cc)
    off other e f = absurd (cc)

ports_renamed : (o : Ports) (old new : Tcb) (ip : IpRepr) (header : TcpHeader) → IsFor old ip header → IsRenamed ip header old new → HasPorts o old →
    HasPorts o new
ports_renamed o old new ip header mine (inl opened) has = ports_opened o old new ip header (mine.listening opened.listening).0 opened has
ports_renamed o old new ip header mine (inr (inl fallen)) has = ports_fallen o old new fallen has
ports_renamed o old new ip header mine (inr (inr kept)) has = ports_after o old new kept has

pub ports_arrival :
    (cx : ContextValue) (v : TcpValue) (ip : IpRepr) (header : TcpHeader) (bytes : List ℕ) (o : Ports) → accepts v.tcb ip header ≡ true → HasPorts o v.tcb
    → HasPorts o (arrives cx v ip header bytes).socket.tcb
ports_arrival cx v ip header bytes o e has =
    ports_renamed o v.tcb (arrives cx v ip header bytes).socket.tcb ip header (accepted v.tcb ip header e) (arrival_names cx v ip header bytes) has

-- WITHOUT NAMES

pub nameless_refuses : (b : Tcb) (ip : IpRepr) (header : TcpHeader) → IsNameless b → accepts b ip header ≡ false
nameless_refuses b ip header n = ap (λ (state : State). accepts_in state b ip header) (closed_state b.state n.state)

pub nameless_drops :
    (cx : ContextValue) (v : TcpValue) (ip : IpRepr) (header : TcpHeader) (bytes : List ℕ) → IsNameless v.tcb
    → arrives cx v ip header bytes ≡ dropped (unoffered v)
nameless_drops cx v ip header bytes n =
    cond_both (is_void_syn header) (dropped (unoffered v)) (arrives_in v.tcb.state cx (unoffered v) ip header bytes) (λ (a : Arrived). a ≡
    dropped (unoffered v))
    (λ _. refl)
    (λ _. ap (λ (state : State). arrives_in state cx (unoffered v) ip header bytes) (closed_state v.tcb.state n.state))

pub nameless_silent : (cx : ContextValue) (v : TcpValue) → IsNameless v.tcb → offer_of cx v ≡ offered_as (Answer.Silent false) (unoffered v)
nameless_silent cx v n = ap (λ (names : Option FourTuple). offer_with names cx (unoffered v)) n.pair

pub ruleset port_laws = (ports_listening, ports_connecting, ports_same, ports_close, ports_abort, ports_arrival, ports_sent, ports_withheld)
