-- What crossed SYNs ask for, of two default sockets that call each other.
use Rattle.std.proofs.Common.{inl, inr, pos, refl}
use Rattle.tcp_block.specs.AddressPair.TheVariants as Pair
use Rattle.tcp_invariants.specs.FourTuple.{FourTuple}
use Rattle.tcp_refinement.specs.Pair.Values.{address_of}
use Rattle.tcp_refinement.specs.declared.pair.event.Side.TheVariants.{A, B}
use Rattle.tcp_liveness.specs.HandshakeOn.{MayCross, MayMeet}
use Rattle.tcp_liveness.specs.Met.{both_called, crossed, late}

abbrev own : FourTuple
own = record { addresses = Pair.Ipv4 (address_of A) (address_of B); local_port = 49_500; remote_port = 80 }

abbrev theirs : FourTuple
theirs = record { addresses = Pair.Ipv4 (address_of B) (address_of A); local_port = 80; remote_port = 49_500 }

pub may_cross : MayCross both_called A (pos 0) (pos 0)
may_cross = record {
  own = record { calls = refl; timeout = refl; unpaused = refl; tries = refl; undrawn = refl };
  theirs = record { calls = refl; timeout = refl; unpaused = refl; tries = refl; undrawn = refl };
  mirrored =
      record {
        own = own;
        theirs = theirs;
        named = refl;
        peer_side_named = refl;
        local = refl;
        remote = refl;
        local_port = refl;
        remote_port = refl;
      };
  over = inl refl;
  goes = record { lasts = refl; in_time = refl; alive = refl; tries = refl };
  their_over = inl refl;
  they_go = record { lasts = refl; in_time = refl; alive = refl; tries = refl };
  at_first = refl;
  at_second = refl;
}

pub may_meet : MayMeet crossed A late late
may_meet = record {
  own =
      record {
        answerer = record { answers = refl; timeout = refl; unpaused = refl; tries = refl };
        took = refl;
        sent = refl;
        undrawn = refl;
      };
  theirs =
      record {
        answerer = record { answers = refl; timeout = refl; unpaused = refl; tries = refl };
        took = refl;
        sent = refl;
        undrawn = refl;
      };
  over = inr refl;
  their_over = inr refl;
  at_third = refl;
  at_fourth = refl;
  stamps = inl refl;
  their_stamps = inl refl;
}
