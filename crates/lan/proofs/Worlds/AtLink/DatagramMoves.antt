-- Each move keeps what is kept of UDP sockets and datagrams.
use Rattle.std.proofs.Common.{◌≡◌, ◌≢◌, ◌⊎◌, inl, inr, ℕ, ◌==◌, ◌&&◌, not, Bool, true, false, List, [], ◌∷◌, ◌++◌, length, Option, Some, None, is_some, refl}
use Rattle.std.proofs.Common.{sym, ap, ◌∙◌, subst}
use Rattle.std.proofs.lemmas.Bool.{eqb-true, eqb-false, ne_eqb, and_parts}
use Rattle.ip_wire.specs.Ip.{destination_of}
use Rattle.ip_wire.specs.IpRepr.{IpRepr}
use Rattle.ip_wire.specs.UdpRepr.{UdpRepr}
use Rattle.net_base.specs.Packets.{Packets, contents, first, without_first}
use Rattle.sockets.specs.Context.{ContextValue}
use Rattle.sockets.specs.Packet as Carried
use Rattle.sockets.specs.Packet.{PacketValue, PayloadValue}
use Rattle.sockets.specs.Offer as Answers
use Rattle.socket_datagram.specs.Offers.{IsFound, OffersFirst, left_with}
use Rattle.socket_datagram.specs.SocketValue as Datagrams
use Rattle.socket_datagram.specs.SocketValue.{left_by}
use Rattle.socket_datagram.specs.Udp as Udps
use Rattle.socket_datagram.specs.Udp.{UdpValue, UdpSettings, TakesDatagram, takes_address, metadata_of, is_open}
use Rattle.socket_datagram.specs.declared.udp.UdpMetadata.{UdpMetadata}
use Rattle.tcp_block.specs.Value.{TcpValue}
use Rattle.lan.specs.declared.at_link.history.answer.Answer.{Answer}
use Rattle.lan.specs.declared.at_link.history.event.Side.{Side}
use Rattle.lan.specs.Worlds.AtLink.Kinds.{other, Kind, kind_of, calls}
use Rattle.lan.specs.Worlds.AtLink.Call.{SocketCall}
use Rattle.lan.specs.Worlds.AtLink.History.{Entry, call_of, call_in, bound_port}
use Rattle.lan.specs.Worlds.AtLink.Reads.{Accepted, ReadWasAccepted}
use Rattle.lan.specs.Worlds.AtLink.Parties.{Socket, Datagram, Party, socket_at, datagrams_in, datagrams_of, WasMade}
use Rattle.lan.specs.Worlds.AtLink.Parties.Socket.{Tcp, Udp, Icmp, Raw}
use Rattle.lan.specs.Worlds.AtLink.Moves.{with_socket, LooksSame}
use Rattle.lan.proofs.Worlds.AtLink.Lists.{Each, each_append, each_get}
use Rattle.lan.proofs.Worlds.AtLink.Slots.{socket_cases}
use Rattle.lan.proofs.Worlds.AtLink.Queues.{IsLeft, contents_unpadded, contents_without_first, each_first, each_taken_in}
use Rattle.lan.proofs.Worlds.AtLink.DatagramInvariant.{Queued, CameTo, GoesFrom, UdpOk, udp_grown, port_left, made_grown, DatagramOk, DatagramsOk, IsFewer, udp_fewer}

-- OFFERS

module _ (starts : Side → ℕ → ℕ) (h : List Entry) (side : Side) (i : ℕ) where
  -- a packet carries the first queued datagram
  carries : (cx : ContextValue) (v : UdpValue) (q : Queued) (p : PacketValue) → first v.queued ≡ Some q → TakesDatagram cx v.settings q p →
      UdpOk starts h side i v → Each (DatagramOk starts h side) (datagrams_in p.payload)
  carries cx v q p is takes k =
      let accepted = each_first (GoesFrom starts h side (bound_port starts h side i)) v.queued q is k.queued in
      let own : Accepted starts h side v.settings.endpoint.port q.0.endpoint.port q.1 =
      subst (λ (port : ℕ). Accepted starts h side port q.0.endpoint.port q.1) (sym k.bound) accepted in
      subst (λ (payload : PayloadValue). Each (DatagramOk starts h side) (datagrams_in payload)) (sym (ap (λ (p : PacketValue). p.payload) takes.1)) (own, tt)

  -- what is offered was accepted, and the socket stays as it is or loses its first datagram
  pub record Gave (v v' : UdpValue) : Type 0 where
    pub fewer : IsFewer v v'
    pub made : Each (DatagramOk starts h side) (datagrams_of v'.offered)

  gave_none : (v v' new : UdpValue) → v' ≡ new → new.offered ≡ None → IsFewer v new → Gave v v'
  gave_none v v' new e none fewer = record {
    fewer = subst (IsFewer v) (sym e) fewer;
    made = subst (λ (o : Option PacketValue). Each (DatagramOk starts h side) (datagrams_of o)) (sym (ap (λ (v : UdpValue). v.offered) e ∙ none)) tt;
  }

  gives_found :
      (cx : ContextValue) (v v' : UdpValue) (q : Queued) (o : Option PacketValue) → first v.queued ≡ Some q → v'.offered ≡ o →
      IsFound (TakesDatagram cx v.settings q) o → v' ≡ left_with o v
      → UdpOk starts h side i v → Gave v v'
  gives_found cx v v' q None is offered found left k =
      gave_none v v' (left_with None v) left refl (record { port = refl; received = inl refl; queued = inr (contents_without_first v.queued) })
  gives_found cx v v' q (Some p) is offered found left k = record {
    fewer = subst (IsFewer v) (sym left) (record { port = refl; received = inl refl; queued = inl (contents_unpadded v.queued) });
    made = subst (λ (o : Option PacketValue). Each (DatagramOk starts h side) (datagrams_of o)) (sym offered) (carries cx v q p is found.takes k);
  }

  gives_first : (cx : ContextValue) (v : UdpValue) (answer : Answers.Offer) (v' : UdpValue) (q : Option Queued) → first v.queued ≡ q →
      OffersFirst (TakesDatagram cx) v q answer v' → UdpOk starts h side i v → Gave v v'
  gives_first cx v answer v' None is offers k =
      gave_none v v' (Datagrams.settled false v) offers.1 refl (record { port = refl; received = inl refl; queued = inl refl })
  gives_first cx v answer v' (Some q) is offers k =
      gives_found cx v v' q v'.offered is refl offers.0 offers.2 k

  pub gives : (cx : ContextValue) (v : UdpValue) (answer : Answers.Offer) (v' : UdpValue) → Udps.Offers cx v answer v' → UdpOk starts h side i v → Gave v v'
  gives cx v answer v' offers k = gives_first cx v answer v' (first v.queued) refl offers k

  pub settles : (sent : Bool) (v : UdpValue) → UdpOk starts h side i v → UdpOk starts h side i (Datagrams.settled sent v)
  settles sent v k = udp_fewer starts h side i v (Datagrams.settled sent v)
      (record { port = refl; received = inl refl; queued = left (sent && is_some v.offered) }) k where
        left : (t : Bool) → IsLeft (contents v.queued) (contents (left_by t v.queued))
        left true = inr (contents_without_first v.queued)
        left false = inl refl

  -- ARRIVALS

  pub receives :
      (cx : ContextValue) (v : UdpValue) (ip : IpRepr) (udp : UdpRepr) (bytes : List ℕ) → Udps.accepts cx v ip udp ≡ true
      → Accepted starts h (other side) udp.src_port udp.dst_port bytes → UdpOk starts h side i v → UdpOk starts h side i (Udps.process_after v ip udp bytes)
  receives cx v ip udp bytes accepts accepted k =
      let parts = and_parts (is_open v) ((v.settings.endpoint.port == udp.dst_port) && takes_address cx v.settings.endpoint.addr (destination_of ip)) accepts in
      let ports = and_parts (v.settings.endpoint.port == udp.dst_port) (takes_address cx v.settings.endpoint.addr (destination_of ip)) parts.1 in
      let to : udp.dst_port ≡ bound_port starts h side i = sym (eqb-true v.settings.endpoint.port udp.dst_port ports.0) ∙ k.bound in
      let came : Accepted starts h (other side) udp.src_port (bound_port starts h side i) bytes =
      subst (λ (port : ℕ). Accepted starts h (other side) udp.src_port port bytes) to accepted in
      record {
        bound = k.bound;
        received = each_taken_in (CameTo starts h side (bound_port starts h side i)) v.received (length bytes) (metadata_of ip udp) bytes k.received came;
        queued = k.queued;
        idle = λ unbound. absurd (opened (v.settings.endpoint.port == 0) refl parts.0 unbound);
      }
    where
      opened : (t : Bool) → (v.settings.endpoint.port == 0) ≡ t → not t ≡ true → v.settings.endpoint.port ≢ 0
      opened true e n = absurd (cc)
      opened false e n = eqb-false v.settings.endpoint.port 0 e

  pub looks_same : (v new : UdpValue) → LooksSame (Udp v) (Udp new) → UdpOk starts h side i v → UdpOk starts h side i new
  looks_same v new same k = udp_fewer starts h side i v new (record { port = same.0; received = inl same.1; queued = inl same.2 }) k

-- THE HOST

-- one socket is exchanged
pub datagrams_set :
    (starts : Side → ℕ → ℕ) (h : List Entry) (side : Side) (p : Party) (at : ℕ) (new : Socket) → ((v : UdpValue) → new ≡ Udp v → UdpOk starts h side at v)
    → DatagramsOk starts h side p → DatagramsOk starts h side (with_socket p at new)
datagrams_set starts h side p at new here k = record { sockets = λ i v is. by i v (socket_cases p at new i (Udp v) is); made = k.made } where
  by : (i : ℕ) (v : UdpValue) → ((i ≡ at) × (new ≡ Udp v)) ⊎ ((i ≢ at) × (socket_at p i ≡ Some (Udp v))) → UdpOk starts h side i v
  by i v (inl same) = subst (λ (i : ℕ). UdpOk starts h side i v) (sym same.0) (here v same.1)
  by i v (inr apart) = k.sockets i v apart.1

-- an entry that is no call of this host's sockets
pub datagrams_grown :
    (starts : Side → ℕ → ℕ) (h : List Entry) (e : Entry) (side : Side) (p : Party) → ((i : ℕ) → call_of e side i ≡ None) → DatagramsOk starts h side p →
    DatagramsOk starts (e ∷ h) side p
datagrams_grown starts h e side p none k = record {
  sockets = λ i v is. udp_grown starts h e side i v (port_left starts h e side i (none i)) (k.sockets i v is);
  made = made_grown starts h e side p.datagrams k.made;
}

-- a call of the socket at a slot
pub datagrams_called :
    (starts : Side → ℕ → ℕ) (h : List Entry) (e : Entry) (side : Side) (p : Party) (at : ℕ) (new : Socket) → ((i : ℕ) → i ≢ at → call_of e side i ≡ None)
    → ((v : UdpValue) → new ≡ Udp v → UdpOk starts (e ∷ h) side at v) → DatagramsOk starts h side p → DatagramsOk starts (e ∷ h) side (with_socket p at new)
datagrams_called starts h e side p at new none here k =
    record { sockets = λ i v is. by i v (socket_cases p at new i (Udp v) is); made = made_grown starts h e side p.datagrams k.made } where
      by : (i : ℕ) (v : UdpValue) → ((i ≡ at) × (new ≡ Udp v)) ⊎ ((i ≢ at) × (socket_at p i ≡ Some (Udp v))) → UdpOk starts (e ∷ h) side i v
      by i v (inl same) = subst (λ (i : ℕ). UdpOk starts (e ∷ h) side i v) (sym same.0) (here v same.1)
      by i v (inr apart) = udp_grown starts h e side i v (port_left starts h e side i (none i apart.0)) (k.sockets i v apart.1)

-- more datagrams are made
pub datagrams_made : (starts : Side → ℕ → ℕ) (h : List Entry) (side : Side) (p : Party) (xs : List Datagram) → Each (DatagramOk starts h side) xs →
    DatagramsOk starts h side p → DatagramsOk starts h side (record p { datagrams = p.datagrams ++ xs })
datagrams_made starts h side p xs all k = record { sockets = k.sockets; made = each_append (DatagramOk starts h side) p.datagrams xs k.made all }

pub was_accepted : (starts : Side → ℕ → ℕ) (h : List Entry) (side : Side) (p : Party) (x : Datagram) → WasMade p x → DatagramsOk starts h side p →
    Accepted starts h side x.source x.destination x.bytes
was_accepted starts h side p x made k = each_get (DatagramOk starts h side) p.datagrams made.0 x k.made made.1
