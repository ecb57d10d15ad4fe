use Rattle.std.proofs.Common.{◌≡◌, Some, refl, sym, ap, ◌∙◌}
use Rattle.std.specs.Prelude.{option_and_then}
use Rattle.iface_egress.specs.Set.{slots, is_fixed, set_at, socket_at}
use Rattle.iface_ingress.specs.Socket.{Socket}
use Rattle.interface.proofs.ByKind.{if_lent, as_lent, same_at}
use Rattle.interface.proofs.by_kind.SocketSetSocketSocketsByKind.get_mut_as.Goals as goal

pub returns : goal.returns
returns g c =
    let set = c.args.self.now in
    let at = c.args.handle.0 in
    let socket = c.in_ok-get_mut.field-0.now in
    let there : socket_at (slots set) at ≡ Some socket = sym c.in_ok-get_mut.ensures.value in
    let kept : (w : Socket) → (slots (c.get_mut.follows.lender w) ≡ set_at (slots set) at w) × (is_fixed (c.get_mut.follows.lender w) ≡ is_fixed set) =
    λ w. as_lent _ c.get_mut.result c.in_ok-get_mut.field-0 c.in_ok-get_mut.was (c.get_mut.follows.holds w) in (
      (
        refl,
        λ w. if_lent _ c.downcast_mut.result (kept (g.K.AnySocket.upcast_of w)),
        ((kept socket).0 ∙ same_at (slots set) at socket there, (kept socket).1),
      ),
      record { lends = tt; value = c.downcast_mut.ensures.value ∙ ap (option_and_then g.K.AnySocket.downcast_of) (sym there) },
    )
