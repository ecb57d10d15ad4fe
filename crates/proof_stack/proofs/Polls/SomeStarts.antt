-- Two hosts with keys, on numerals, to which nothing happened, and which stay.
use Rattle.std.proofs.Common.{◌≡◌, ℕ, zero, suc, Bool, [], ◌∷◌, Some, refl, subst, arith}
use Rattle.std.specs.Prelude.{ℤ, pos}
use Rattle.std.proofs.lemmas.Bool.{ltb-true}
use Rattle.std.proofs.lemmas.Int.{ints}
use Rattle.std.proofs.lemmas.Option.{none-some}
use Rattle.net_base.specs.Time.{IsMoment}
use Rattle.iface_ingress.specs.Socket.{Socket}
use Rattle.iface_ingress.specs.Socket.TheVariants as Kind
use Rattle.iface_egress.specs.Set.{socket_at, unmarked}
use Rattle.lan.specs.declared.at_link.history.event.Side.{Side}
use Rattle.lan.specs.declared.at_link.history.event.Side.TheVariants.{A, B}
use Rattle.lan.specs.Worlds.AtLink.Initial.{IsInitialStart, IsInitialWorld, IsUnused}
use Rattle.lan.specs.Worlds.AtLink.Paired.{AreNew, HaveKeys}
use Rattle.lan.specs.Worlds.AtLink.Node.{NodeValue}
use Rattle.lan.specs.Worlds.Moves.Joined.{first_net}
use Rattle.lan.specs.Worlds.Still.{AreStill, IsStill, seats_of}
use Rattle.proof_stack.specs.Progress.PeerSides.{HoldText}
use Rattle.proof_stack.specs.Progress.SettledNumerals.{first_host, key, later, news, slot, start_of, starts}
use Rattle.proof_stack.specs.Worlds.Streams.{initial}
use Rattle.proof_stack.proofs.Runs.Initial.{some_same}

unused : IsUnused (Kind.Tcp initial)
unused = (record { state = refl; waiting = refl; queue = refl; unfinished = refl }, record { state = refl; pair = refl })

sockets : (i : ℕ) (s : Socket) → socket_at (unmarked (Kind.Tcp initial) ∷ []) i ≡ Some s → IsUnused s
sockets zero s is = subst IsUnused (some_same (Kind.Tcp initial) s is) unused
sockets (suc i) s is = absurd (none-some s is)

start : (side : Side) → IsInitialStart (start_of side)
start A = record {
  medium = refl;
  checksums = refl;
  device_checksums = refl;
  mtu = refl;
  own_mtu = refl;
  initial = refl;
  alone = refl;
  idle = (refl, (refl, (refl, tt)));
  unknown = refl;
  typed = record { hardware = tt; routers = tt; ident = ltb-true _ _ refl };
  sockets = sockets;
}
start B = record {
  medium = refl;
  checksums = refl;
  device_checksums = refl;
  mtu = refl;
  own_mtu = refl;
  initial = refl;
  alone = refl;
  idle = (refl, (refl, (refl, tt)));
  unknown = refl;
  typed = record { hardware = tt; routers = tt; ident = ltb-true _ _ refl };
  sockets = sockets;
}

pub is_fresh : IsInitialWorld starts
is_fresh = record { a = start A; b = start B; medium = refl }

pub are_new : AreNew (seats_of starts slot) news (first_net starts)
are_new A = refl
are_new B = refl

pub have_keys : HaveKeys (seats_of starts slot)
have_keys A = (key A, refl)
have_keys B = (key B, refl)

pub hold_text : HoldText (seats_of starts slot)
hold_text A = ltb-true _ _ refl
hold_text B = ltb-true _ _ refl

-- THEY STAY, whatever instant it is, and whatever identification the next datagram of each has

pub at_first : IsMoment (pos 0)
at_first = (omega (arith, ints), omega (arith, ints))

pub at_later : IsMoment later
at_later = (omega (arith, ints), omega (arith, ints))

pub stays_a : (t : ℤ) → IsMoment t → (ident : ℕ) (is_new : Bool)
    → IsStill (first_host A).inner (record (first_host A).inner { instant = t; ident = ident; initial = is_new })
stays_a t instant ident is_new = record { instant = instant; addresses = refl; any_ip = refl; groups = refl; outward = refl; paths = refl; errors = refl }

pub stays_b : (t : ℤ) → IsMoment t → (ident : ℕ) (is_new : Bool)
    → IsStill (first_host B).inner (record (first_host B).inner { instant = t; ident = ident; initial = is_new })
stays_b t instant ident is_new = record { instant = instant; addresses = refl; any_ip = refl; groups = refl; outward = refl; paths = refl; errors = refl }

pub both_stay : (a b : NodeValue) → IsStill (first_host A).inner a.host.inner → IsStill (first_host B).inner b.host.inner
    → AreStill starts (record { a = a; b = b })
both_stay a b one another A = one
both_stay a b one another B = another
