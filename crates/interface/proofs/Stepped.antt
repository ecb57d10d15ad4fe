-- A step of the egress path, of values that are equal.
use Rattle.std.proofs.Common.{◌≡◌, ℤ, Bool, List, Option, subst}
use Rattle.net_base.specs.Device.{Move}
use Rattle.iface_ingress.specs.Socket.{Socket}
use Rattle.iface_tables.specs.Inner.{InnerValue, at_instant}
use Rattle.iface_egress.specs.declared.socket_set.SocketStorage.{SocketStorage}
use Rattle.iface_egress.specs.Fragments.{LeftValue}
use Rattle.interface.specs.Host.{HostValue, Sender, sender}
use Rattle.interface.specs.Pass.{Passed, passed}
use Rattle.interface.specs.EgressPath.{Egress}
use Rattle.interface.specs.State.{state}
use Rattle.interface.specs.Egress.{sending}

pub egress_at : {D : Type 0} (moves : D → Move → D →
    Type 0) (device : D) (h : HostValue) (i : InnerValue) (l : Option LeftValue) (ps qs : List (SocketStorage Socket)) (t : ℤ) (e : Passed D)
    → i ≡ at_instant t h.inner → l ≡ h.left → qs ≡ ps → Egress moves (sender device i l) qs e → Egress moves (sending t (state device h ps)) ps e
egress_at moves device h i l ps qs t e inner left slots goes =
    subst (λ (x : InnerValue). Egress moves (sender device x h.left) ps e) inner
    (subst (λ (x : Option LeftValue). Egress moves (sender device i x) ps e) left
    (subst (λ (xs : List (SocketStorage Socket)). Egress moves (sender device i l) xs e) slots goes))

pub egress_to : {D : Type 0} (moves : D → Move → D → Type 0) (s s' : Sender D) (ps qs xs ys : List (SocketStorage Socket)) (changed : Bool)
    → ps ≡ qs → xs ≡ ys → Egress moves s ps (passed s' xs changed) → Egress moves s qs (passed s' ys changed)
egress_to moves s s' ps qs xs ys changed old new goes =
    subst (λ (zs : List (SocketStorage Socket)). Egress moves s qs (passed s' zs changed)) new
    (subst (λ (zs : List (SocketStorage Socket)). Egress moves s zs (passed s' xs changed)) old goes)
