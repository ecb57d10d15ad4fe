-- What is kept of UDP sockets and of the datagrams that were made.
use Rattle.std.proofs.Common.{◌≡◌, ◌⊎◌, inl, inr, ℕ, List, [], ◌∷◌, Option, Some, None, refl, sym, ap, ◌∙◌, subst}
use Rattle.net_base.specs.Packets.{contents}
use Rattle.socket_datagram.specs.Udp.{UdpValue}
use Rattle.socket_datagram.specs.declared.udp.UdpMetadata.{UdpMetadata}
use Rattle.lan.specs.declared.at_link.history.event.Side.{Side}
use Rattle.lan.specs.Worlds.AtLink.Kinds.{other}
use Rattle.lan.specs.Worlds.AtLink.Call.{SocketCall}
use Rattle.lan.specs.Worlds.AtLink.History.{Entry, call_of, port_by, bound_port}
use Rattle.lan.specs.Worlds.AtLink.Reads.{Accepted}
use Rattle.lan.specs.Worlds.AtLink.Parties.{Socket, Datagram, Party, socket_at}
use Rattle.lan.specs.Worlds.AtLink.Parties.Socket.{Udp}
use Rattle.lan.proofs.Worlds.AtLink.Lists.{Each, each_of}
use Rattle.lan.proofs.Worlds.AtLink.Queues.{IsLeft, each_left, none_left}

abbrev pub Queued : Type 0
Queued = UdpMetadata × List ℕ

-- a datagram that waits at this port was accepted by the other host; one that is queued there, by this
abbrev pub CameTo : (Side → ℕ → ℕ) → List Entry → Side → ℕ → Queued → Type 0
CameTo starts history side port d = Accepted starts history (other side) d.0.endpoint.port port d.1

abbrev pub GoesFrom : (Side → ℕ → ℕ) → List Entry → Side → ℕ → Queued → Type 0
GoesFrom starts history side port d = Accepted starts history side port d.0.endpoint.port d.1

pub record UdpOk (starts : Side → ℕ → ℕ) (history : List Entry) (side : Side) (i : ℕ) (v : UdpValue) : Type 0 where
  pub bound : v.settings.endpoint.port ≡ bound_port starts history side i
  pub received : Each (CameTo starts history side (bound_port starts history side i)) (contents v.received)
  pub queued : Each (GoesFrom starts history side (bound_port starts history side i)) (contents v.queued)
  -- an unbound socket holds nothing
  pub idle : v.settings.endpoint.port ≡ 0 → (contents v.received ≡ []) × (contents v.queued ≡ [])

abbrev pub DatagramOk : (Side → ℕ → ℕ) → List Entry → Side → Datagram → Type 0
DatagramOk starts history side x = Accepted starts history side x.source x.destination x.bytes

pub record DatagramsOk (starts : Side → ℕ → ℕ) (history : List Entry) (side : Side) (p : Party) : Type 0 where
  pub sockets : (i : ℕ) (v : UdpValue) → socket_at p i ≡ Some (Udp v) → UdpOk starts history side i v
  pub made : Each (DatagramOk starts history side) p.datagrams

-- GROWN

-- an entry that leaves the port leaves what holds of the socket
pub udp_grown :
    (starts : Side → ℕ → ℕ) (h : List Entry) (e : Entry) (side : Side) (i : ℕ) (v : UdpValue)
    → bound_port starts (e ∷ h) side i ≡ bound_port starts h side i → UdpOk starts h side i v → UdpOk starts (e ∷ h) side i v
udp_grown starts h e side i v same k = record {
  bound = k.bound ∙ sym same;
  received =
      subst (λ (port : ℕ). Each (CameTo starts (e ∷ h) side port) (contents v.received)) (sym same)
      (each_of (CameTo starts h side (bound_port starts h side i)) (CameTo starts (e ∷ h) side (bound_port starts h side i)) (contents v.received)
      (λ d a. inr a) k.received);
  queued =
      subst (λ (port : ℕ). Each (GoesFrom starts (e ∷ h) side port) (contents v.queued)) (sym same)
      (each_of (GoesFrom starts h side (bound_port starts h side i)) (GoesFrom starts (e ∷ h) side (bound_port starts h side i)) (contents v.queued)
      (λ d a. inr a) k.queued);
  idle = k.idle;
}

pub port_left : (starts : Side → ℕ → ℕ) (h : List Entry) (e : Entry) (side : Side) (i : ℕ) → call_of e side i ≡ None →
    bound_port starts (e ∷ h) side i ≡ bound_port starts h side i
port_left starts h e side i none = ap (λ (call : Option SocketCall). port_by call e.answer (bound_port starts h side i)) none

pub made_grown : (starts : Side → ℕ → ℕ) (h : List Entry) (e : Entry) (side : Side) (xs : List Datagram) → Each (DatagramOk starts h side) xs →
    Each (DatagramOk starts (e ∷ h) side) xs
made_grown starts h e side xs all = each_of (DatagramOk starts h side) (DatagramOk starts (e ∷ h) side) xs (λ x a. inr a) all

-- a socket at the same port, with the same datagrams or without the first ones
pub record IsFewer (v new : UdpValue) : Type 0 where
  pub port : new.settings.endpoint.port ≡ v.settings.endpoint.port
  pub received : IsLeft (contents v.received) (contents new.received)
  pub queued : IsLeft (contents v.queued) (contents new.queued)

pub udp_fewer : (starts : Side → ℕ → ℕ) (h : List Entry) (side : Side) (i : ℕ) (v new : UdpValue) → IsFewer v new → UdpOk starts h side i v →
    UdpOk starts h side i new
udp_fewer starts h side i v new f k = record {
  bound = f.port ∙ k.bound;
  received = each_left (CameTo starts h side (bound_port starts h side i)) (contents v.received) (contents new.received) f.received k.received;
  queued = each_left (GoesFrom starts h side (bound_port starts h side i)) (contents v.queued) (contents new.queued) f.queued k.queued;
  idle = λ unbound.
      let none = k.idle (sym f.port ∙ unbound) in
      (none_left (contents v.received) (contents new.received) f.received none.0, none_left (contents v.queued) (contents new.queued) f.queued none.1);
}
