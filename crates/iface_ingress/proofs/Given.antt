-- Something that arrived for no socket changes none.
use Rattle.std.proofs.Common.{◌≡◌, Bool, false, Option, None, Some, ap, ap₂, refl, sym, ◌∙◌}
use Rattle.std.specs.Prelude.{if◌then◌else◌, ◌∷◌, []}
use Rattle.std.specs.List.{list_any}
use Rattle.std.proofs.lemmas.Bool.{or_parts}
use Rattle.sockets.specs.declared.socket.Socket.{Socket}
use Rattle.iface_egress.specs.declared.socket_set.Item.{Item}
use Rattle.iface_egress.specs.declared.socket_set.SocketStorage.{SocketStorage}
use Rattle.iface_ingress.specs.Delivered.{Slots, with_change, changed_item, passes, passes_in, given, all_given}

same_item : (test : Socket → Bool) (change : Socket → Socket) (o : Option (Item Socket)) → passes_in test o ≡ false → changed_item (given test change) o ≡ o
same_item test change None never = refl
same_item test change (Some item) never =
    ap (λ (b : Bool). Some (record item { socket = if b then change item.socket else item.socket })) never

same_slot : (test : Socket → Bool) (change : Socket → Socket) (slot : SocketStorage Socket) → passes test slot ≡ false →
    with_change (given test change) slot ≡ slot
same_slot test change slot never = ap (λ (o : Option (Item Socket)). record { inner = o }) (same_item test change slot.inner never)

pub none_given : (test : Socket → Bool) (change : Socket → Socket) (slots : Slots) → list_any (passes test) slots ≡ false →
    all_given test change slots ≡ slots
none_given test change [] none = refl
none_given test change (slot ∷ slots) none =
    let parts = or_parts (passes test slot) (list_any (passes test) slots) none in
    ap₂ (λ (p : SocketStorage Socket) (ps : Slots). p ∷ ps) (same_slot test change slot parts.0) (none_given test change slots parts.1)

-- so of slots that are for none of it
pub none_seen : (test : Socket → Bool) (change : Socket → Socket) (slots : Slots) (some : Bool) → some ≡ list_any (passes test) slots
    → some ≡ false → slots ≡ all_given test change slots
none_seen test change slots some is none = sym (none_given test change slots (sym is ∙ none))
