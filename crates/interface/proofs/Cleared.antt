-- What goes before the sockets' packets, from its parts.
use Rattle.std.proofs.Common.{◌≡◌, Bool, true, false, inl, inr, refl, sym, subst}
use Rattle.net_base.specs.Device.{Move}
use Rattle.iface_egress.specs.Parked.{ServesIfMany}
use Rattle.iface_tables.specs.Inner.{InnerValue}
use Rattle.interface.specs.EgressPath.{Clears, ClearsAll, ClearsIf}
use Rattle.interface.specs.Host.{Sender}

module _ {D : Type 0} (moves : D → Move → D → Type 0) (s mid : Sender D) where
  -- the fragment that waits couldn't go
  pub stopped : Clears moves s.left s false mid → ClearsAll moves s false mid
  stopped clears = by s.inner.host_requirements where
    by : (many : Bool) → ClearsIf moves many s false mid
    by true = inl (clears, refl)
    by false = clears

  -- none waits, and the packets that wait for their next hops have had their turns
  pub cleared : (served : Sender D) (all : Bool) → Clears moves s.left s true mid → mid.inner ≡ s.inner →
      ServesIfMany moves mid.inner.host_requirements mid all served → ClearsAll moves s all served
  cleared served all clears same serves =
      by s.inner.host_requirements (subst (λ (i : InnerValue). ServesIfMany moves i.host_requirements mid all served) same serves) where
        by : (many : Bool) → ServesIfMany moves many mid all served → ClearsIf moves many s all served
        by true goes = inr (mid, clears, goes)
        by false goes =
            subst (λ (b : Bool). Clears moves s.left s b served) (sym goes.0)
            (subst (λ (x : Sender D). Clears moves s.left s true x) (sym goes.1) clears)
