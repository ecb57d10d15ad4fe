-- What the one-sided theorem's invariant says of the side alone.
use Rattle.std.proofs.Common.{◌≡◌, inl, inr, ℕ, Bool, List, [], subst}
use Rattle.tcp_theory.specs.Alone.{AreResets}
use Rattle.tcp_theory.specs.Numbers.{wire}
use Rattle.tcp_theory.specs.Segment.{Segment}
use Rattle.tcp_theory.specs.Side.{Side}
use Rattle.tcp_theory.specs.Invariant.{IsHonest}
use Rattle.tcp_theory.proofs.Lists.{AllByRecursion-map}
use Rattle.tcp_theory.proofs.Opening.{syn_of}
use Rattle.tcp_peer.specs.Peer.{End, IsEnd}
use Rattle.tcp_peer.specs.Run.{Event, IsRun, run, start}
use Rattle.tcp_peer.proofs.Shadow.{shadow, IsBeside, Meets, meets_start}
use Rattle.tcp_peer.proofs.Safety.{meets_run}
use Rattle.tcp_net.proofs.Oneself.{IsLocal, IsOneself}

own_of : (s t : Side) (x : Segment) → IsHonest s t x → IsLocal s x
own_of s t x (inl reset) = inl reset
own_of s t x (inr h) = inr (
  λ syn none.
      let its = syn_of s t x syn (inr h) in
      let bare = its.bare none in
      (subst (λ (at : ℕ). x.seq ≡ wire at) bare.0 its.seq, bare.1),
  h.1,
)

own_beside : (peer : End) (written : List ℕ) (closed : Bool) (s : Side) (came : List Segment) → IsBeside peer written closed s came → IsOneself s
own_beside peer written closed s came b =
    let t = shadow peer written closed b.una b.took b.fin came in
    record { well_formed = b.holds.0.well_formed; sent = AllByRecursion-map (IsHonest s t) (IsLocal s) (own_of s t) s.sent b.holds.0.sent }

own_meets : (peer : End) (s : Side) (came : List Segment) → Meets peer s came → IsOneself s
own_meets peer s came (inl b) = own_beside peer [] _ s came b
own_meets peer s came (inr b) = own_beside peer peer.stream peer.ends s came b

pub own_run : (peer : End) (room : ℕ) (resets : List Segment) (events : List Event) → IsEnd peer → AreResets resets → IsRun peer (start room resets) events →
    IsOneself (run (start room resets) events).side
own_run peer room resets events e are_resets is_run =
    let end = run (start room resets) events in
    own_meets peer end.side end.came (meets_run peer (start room resets) events e (meets_start peer room resets e are_resets) is_run)
