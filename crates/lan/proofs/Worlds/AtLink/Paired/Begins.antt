-- At first the pair of two new sockets shows the net.
use Rattle.std.proofs.Common.{◌≡◌, ℕ, List, [], Some, refl, sym, ap, subst}
use Rattle.std.specs.List.{AllByRecursion}
use Rattle.tcp_refinement.specs.Pair.History.{pasts}
use Rattle.tcp_refinement.specs.Pair.Sides.{at}
use Rattle.lan.specs.declared.at_link.history.event.Side.{Side}
use Rattle.lan.specs.declared.at_link.history.event.Side.TheVariants.{A, B}
use Rattle.lan.specs.Worlds.AtLink.History.{Entry, opening}
use Rattle.lan.specs.Worlds.AtLink.PacketsSafe.{IsInitialNet}
use Rattle.lan.specs.Worlds.AtLink.Parties.{Net, party, socket_at}
use Rattle.lan.specs.Worlds.AtLink.Parties.Socket.{Tcp}
use Rattle.lan.specs.Worlds.AtLink.Paired.{AreNew, HasSent, IsOfSocket, NewSocket, Seat, Shows, at_zero, begun, side_in, told}

module _ (starts : Side → ℕ → ℕ) (net : Net) (seats : Side → Seat) (news : Side → NewSocket) (initial : IsInitialNet starts net) (new : AreNew seats news net) where
  none_made : (side : Side) → (party net side).segments ≡ []
  none_made A = initial.a.segments
  none_made B = initial.b.segments

  abbrev Socket : Side → Type 0
  Socket side = socket_at (party net side) (seats side).slot ≡ Some (Tcp (at (begun seats news).sides (side_in side)).socket)

  socket : (side : Side) → Socket side
  socket A = new A
  socket B = new B

  host : (side : Side) → (at (begun seats news).sides (side_in side)).host ≡ (seats side).host
  host A = refl
  host B = refl

  clock : (side : Side) → (at (begun seats news).sides (side_in side)).instant ≡ at_zero side
  clock A = refl
  clock B = refl

  past : (side : Side) → at (pasts (begun seats news).history) (side_in side) ≡ told net.history side (seats side).slot
  past A = ap (λ (h : List Entry). told h A (seats A).slot) (sym initial.history)
  past B = ap (λ (h : List Entry). told h B (seats B).slot) (sym initial.history)

  abbrev Sent : List Entry → Side → Type 0
  Sent h side = HasSent (opening h side (seats side).slot) (party net side).segments (at (begun seats news).sides (side_in side)).sent

  sent : (side : Side) → Sent net.history side
  sent A = subst (λ (h : List Entry). Sent h A) (sym initial.history) refl
  sent B = subst (λ (h : List Entry). Sent h B) (sym initial.history) refl

  made : (side : Side) → AllByRecursion (IsOfSocket net.history side) (party net side).segments
  made side = subst (AllByRecursion (IsOfSocket net.history side)) (sym (none_made side)) tt

  pub begins : Shows seats at_zero net (begun seats news)
  begins = record { socket = socket; host = host; clock = clock; past = past; sent = sent; made = made }
