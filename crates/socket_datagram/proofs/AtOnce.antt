-- The packet of a datagram that isn't queued, where it would be the first one in the queue.
use Rattle.std.proofs.Common.{◌≡◌, ℕ, List, length, refl, sym, ap, ◌∙◌, Bool, true, false, not, ◌&&◌, if◌then◌else◌, Option, None, Some, is_none}
use Rattle.std.specs.Prelude.{Result, Ok, Err, IfSome}
use Rattle.net_base.specs.Packets.{is_full_for, first}
use Rattle.socket_context.specs.Context.{ContextValue}
use Rattle.socket_context.specs.Packet.{PacketValue, IsSendable}
use Rattle.socket_datagram.specs.Offers.{IsFound}
use Rattle.socket_datagram.specs.SocketValue.{takes_alone}
use Rattle.socket_datagram.specs.Udp.{UdpValue, is_unaddressable, header_for, offered_in, header_at_once, TakesDatagram, TakesAtOnce}
use Rattle.socket_datagram.specs.declared.error.SendError.{SendError}
use Rattle.socket_datagram.specs.declared.error.SendError.TheVariants as Send
use Rattle.socket_datagram.specs.declared.udp.UdpMetadata.{UdpMetadata}
use Rattle.socket_datagram.proofs.OfferLaws.{true-false}
use Rattle.socket_datagram.proofs.UdpPackets.{found}

abbrev answer_by : Bool → Bool → Result (Unit {0}) SendError
answer_by unaddressable full = if unaddressable then Err Send.Unaddressable else if full then Err Send.BufferFull else Ok tt

taken_by : (unaddressable full : Bool) → answer_by unaddressable full ≡ Ok tt → (unaddressable ≡ false) × (full ≡ false)
taken_by false false is = (refl, refl)
taken_by false true is = absurd cc
taken_by true full is = absurd cc

takes_by : (unaddressable full : Bool) → unaddressable ≡ false → full ≡ false → answer_by unaddressable full ≡ Ok tt
takes_by false false addressable room = refl
takes_by false true addressable room = absurd cc
takes_by true full addressable room = absurd cc

none_in : {A : Type 0} (o : Option A) → is_none o ≡ true → o ≡ None
none_in None is = refl
none_in (Some x) is = absurd cc

all_of : (alone full unaddressable : Bool) → ((alone && not full) && not unaddressable) ≡ true →
    (alone ≡ true) × (full ≡ false) × (unaddressable ≡ false)
all_of true false false is = (refl, refl, refl)
all_of true false true is = absurd cc
all_of true true unaddressable is = absurd cc
all_of false full unaddressable is = absurd cc

all_so : (alone full unaddressable : Bool) → alone ≡ true → full ≡ false → unaddressable ≡ false →
    ((alone && not full) && not unaddressable) ≡ true
all_so true false false one two three = refl
all_so true false true one two three = absurd cc
all_so true true unaddressable one two three = absurd cc
all_so false full unaddressable one two three = absurd cc

pub sendable_of : (Takes : PacketValue → Type 0) (o : Option PacketValue) → IsFound Takes o → IfSome o IsSendable
sendable_of Takes None is = tt
sendable_of Takes (Some p) is = is.sendable

module _ (cx : ContextValue) (v : UdpValue) (metadata : UdpMetadata) (bytes : List ℕ) where
  abbrev may_go : Bool
  may_go = takes_alone v.queued (length bytes) && not (is_unaddressable v metadata)

  none_at_once : may_go ≡ false → (p : PacketValue) → TakesAtOnce cx v (metadata, bytes) p → ⊥
  none_at_once stays p takes =
      let so = taken_by (is_unaddressable v metadata) (is_full_for v.queued (length bytes)) takes.taken in
      true-false (sym (all_so (is_none (first v.queued)) (is_full_for v.queued (length bytes)) (is_unaddressable v metadata)
      (ap is_none takes.alone) so.1 so.0) ∙ stays)

  found_at_once : (o : Option PacketValue) → may_go ≡ true → IsFound (TakesDatagram cx v.settings (metadata, bytes)) o →
      IsFound (TakesAtOnce cx v (metadata, bytes)) o
  found_at_once None goes is = λ p takes. is p takes.takes
  found_at_once (Some p) goes is =
      let so = all_of (is_none (first v.queued)) (is_full_for v.queued (length bytes)) (is_unaddressable v metadata) goes in
      record {
        takes = record {
          alone = none_in (first v.queued) so.0;
          taken = takes_by (is_unaddressable v metadata) (is_full_for v.queued (length bytes)) so.2 so.1;
          takes = is.takes;
        };
        only = λ other takes. is.only other takes.takes;
        sendable = is.sendable;
      }

  pub at_once : IsFound (TakesAtOnce cx v (metadata, bytes))
      (offered_in v.settings.endpoint (header_at_once cx v metadata (length bytes)) (Some (metadata, bytes)))
  at_once = by may_go refl where
    by : (b : Bool) → may_go ≡ b → IsFound (TakesAtOnce cx v (metadata, bytes))
        (offered_in v.settings.endpoint (if b then header_for cx v.settings metadata (length bytes) else None) (Some (metadata, bytes)))
    by true goes =
        found_at_once (offered_in v.settings.endpoint (header_for cx v.settings metadata (length bytes)) (Some (metadata, bytes))) goes
        (found cx v.settings metadata bytes (header_for cx v.settings metadata (length bytes)) refl)
    by false stays = none_at_once stays
