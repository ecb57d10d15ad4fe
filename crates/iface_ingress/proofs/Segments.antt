-- The place of the socket that gets a segment.
use Rattle.std.proofs.Common.{◌≡◌, ℕ, ◌<◌, Bool, true, false, Option, length, get_or, None, Some, refl, ◌∙◌}
use Rattle.std.specs.Prelude.{◌&&◌, not}
use Rattle.std.proofs.lemmas.List.Quantifiers.{position-Some}
use Rattle.ip_wire.specs.IpRepr.{IpRepr}
use Rattle.ip_wire.specs.TcpHeader.{TcpHeader}
use Rattle.sockets.specs.Socket.{accepts_segment}
use Rattle.iface_egress.specs.declared.socket_set.Item.{Item}
use Rattle.iface_egress.specs.declared.socket_set.SocketStorage.{SocketStorage}
use Rattle.sockets.specs.declared.socket.Socket.{Socket}
use Rattle.iface_tables.specs.Reassembly.{or_else}
use Rattle.iface_ingress.specs.Delivered.{Slots, passes, passes_in, first_slot, is_listener, is_connected, segment_slot}

second : (a b : Bool) → (a && b) ≡ true → b ≡ true
second true b both = both
second false b both = absurd (cc both)

connected_accepts : (ip : IpRepr) (header : TcpHeader) (o : Option (Item Socket)) → passes_in (λ s. is_connected s ip header) o ≡ true →
    passes_in (λ s. accepts_segment s ip header) o ≡ true
connected_accepts ip header None is = absurd (cc is)
connected_accepts ip header (Some item) is = second (not (is_listener item.socket)) (accepts_segment item.socket ip header) is

-- the slot is one, and its socket accepts the segment
pub accepted_there : (ip : IpRepr) (header : TcpHeader) (slots : Slots) (at : ℕ) (d : SocketStorage Socket) → segment_slot ip header slots ≡ Some at
    → (at < length slots) × (passes (λ s. accepts_segment s ip header) (get_or slots at d) ≡ true)
accepted_there ip header slots at d found =
    elim (first_slot (λ s. is_connected s ip header) slots) as
    (λ o. first_slot (λ s. is_connected s ip header) slots ≡ o → or_else o (first_slot (λ s. accepts_segment s ip header) slots) ≡ Some at
    → (at < length slots) × (passes (λ s. accepts_segment s ip header) (get_or slots at d) ≡ true)) [
      | None ↦ λ e f. let there = position-Some (passes (λ s. accepts_segment s ip header)) slots at d f in (there.0, there.1)
      | Some k ↦ λ e f.
          let there = position-Some (passes (λ s. is_connected s ip header)) slots at d (e ∙ f) in
          (there.0, connected_accepts ip header (get_or slots at d).inner there.1)
    ] refl found
