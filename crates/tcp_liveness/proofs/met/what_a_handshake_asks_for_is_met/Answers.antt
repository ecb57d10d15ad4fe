use Rattle.std.proofs.Common.{inl, inr, refl}
use Rattle.std.specs.Prelude.{[], ◌∷◌, ◌++◌, pos, true}
use Rattle.tcp_block.specs.AddressPair.TheVariants as Pair
use Rattle.tcp_invariants.specs.FourTuple.{FourTuple}
use Rattle.tcp_refinement.specs.Pair.Values.{address_of}
use Rattle.tcp_refinement.specs.declared.pair.event.PairEvent.TheVariants.{Offer}
use Rattle.tcp_refinement.specs.declared.pair.event.Side.TheVariants.{A, B}
use Rattle.tcp_liveness.specs.Met.{calling}
use Rattle.tcp_liveness.proofs.MetStarts.{start_a, start_b}
use Rattle.tcp_liveness.proofs.met.what_a_handshake_asks_for_is_met.Goals as goal

abbrev own : FourTuple
own = record { addresses = Pair.Ipv4 (address_of A) (address_of B); local_port = 49_500; remote_port = 80 }

pub returns-clause-reached : goal.returns-clause-reached
returns-clause-reached c = record {
  a = start_a;
  b = start_b;
  events = calling ++ Offer A (pos 0) true ∷ [];
  steps = (refl, (refl, (refl, refl)));
}

pub returns-clause-first : goal.returns-clause-first
returns-clause-first c = record {
  calls = refl;
  listens = refl;
  own = own;
  named = refl;
  port = refl;
  address = refl;
  over = inl refl;
  goes = record { lasts = refl; in_time = refl; alive = refl; tries = refl };
  caller = record { timeout = refl; tries = refl };
  listener = record { timeout = refl; unpaused = refl; tries = refl };
  at_first = refl;
  at_second = refl;
  at_third = refl;
  stamps = inl refl;
}

pub returns-clause-lost : goal.returns-clause-lost
returns-clause-lost c = record {
  calls = refl;
  listens = refl;
  own = own;
  named = refl;
  port = refl;
  address = refl;
  over = inr refl;
  goes = record { lasts = refl; in_time = refl; alive = refl; tries = refl };
  caller = record { timeout = refl; tries = refl };
  listener = record { timeout = refl; unpaused = refl; tries = refl };
  at_first = refl;
  at_second = refl;
  at_third = refl;
  stamps = inl refl;
}
