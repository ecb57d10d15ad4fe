-- Types of messages and their numbers.
use Rattle.std.proofs.Common.{◌≡◌, ℕ, List, refl, sym, ◌∙◌, ap}
use Rattle.std.specs.Prelude.{slice_index}
use Rattle.wire_address.proofs.Numbers.{step}
use Rattle.wire_icmpv6.specs.Message.{message_number, message_of}
use Rattle.wire_icmpv6.specs.Packet.{type_of}
use Rattle.wire_icmpv6.specs.declared.message.Icmpv6Message.{Icmpv6Message}
use Rattle.wire_icmpv6.specs.declared.message.Icmpv6Message.TheVariants as Message

-- the type of a number has that number
message_number-message_of : (n : ℕ) → message_number (message_of n) ≡ n
message_number-message_of n =
    let next = step message_number n in
    next 1 Message.DstUnreachable _ refl (next 2 Message.PktTooBig _ refl (next 3 Message.TimeExceeded _ refl (
    next 4 Message.ParamProblem _ refl (next 128 Message.EchoRequest _ refl (next 129 Message.EchoReply _ refl (
    next 130 Message.MldQuery _ refl (next 133 Message.RouterSolicit _ refl (next 134 Message.RouterAdvert _ refl (
    next 135 Message.NeighborSolicit _ refl (next 136 Message.NeighborAdvert _ refl (next 137 Message.Redirect _ refl (
    next 143 Message.MldReport _ refl (next 155 Message.RplControl (Message.Unknown n) refl refl)))))))))))))

-- the first byte of a message of this type
pub first-number : (message : List ℕ) (kind : Icmpv6Message) → type_of message ≡ kind → slice_index message 0 ≡ message_number kind
first-number message kind is = sym (message_number-message_of (slice_index message 0)) ∙ ap message_number is
