use Rattle.std.proofs.Common.{◌≡◌, inl, inr, ℕ, ◌*◌, ◌≤◌, ℤ, pos, ◌+ℤ◌, ◌≤ℤ◌, false, length, refl, sym, subst}
use Rattle.std.proofs.lemmas.Bool.{leb-true}
use Rattle.net_base.specs.Time.{last_instant}
use Rattle.tcp_block.specs.AddressPair.TheVariants as Pair
use Rattle.tcp_invariants.specs.FourTuple.{FourTuple}
use Rattle.tcp_refinement.specs.Pair.Sides.{at}
use Rattle.tcp_refinement.specs.Pair.Steps.{Steps}
use Rattle.tcp_refinement.specs.Pair.Values.{address_of, past_at}
use Rattle.tcp_refinement.specs.declared.pair.event.Side.TheVariants.{A, B}
use Rattle.tcp_liveness.specs.BothWays.{bound}
use Rattle.tcp_liveness.specs.Connection.{IsLasting}
use Rattle.tcp_liveness.specs.Handshake.{MayShake}
use Rattle.tcp_liveness.specs.HandshakeOn.{met_in}
use Rattle.tcp_liveness.specs.Met.{answered, both_called, called, calling, conversing, conversing_across, crossed, late, writing}
use Rattle.tcp_liveness.specs.Pair.{HasStream, socket_of}
use Rattle.tcp_liveness.specs.Talking.{HasMinutes}
use Rattle.tcp_liveness.proofs.MetAcross.{may_cross, may_meet}
use Rattle.tcp_liveness.proofs.Moments.{le_of}
use Rattle.tcp_liveness.proofs.MetStarts.{start_a, start_b}
use Rattle.tcp_liveness.proofs.met.what_a_connection_asks_for_is_met.Goals as goal

abbrev own : FourTuple
own = record { addresses = Pair.Ipv4 (address_of A) (address_of B); local_port = 49_500; remote_port = 80 }

pub returns-clause-reached : goal.returns-clause-reached
returns-clause-reached c = record {
  a = start_a;
  b = start_b;
  events = calling;
  steps = (refl, (refl, refl));
}

shakes : MayShake called A (pos 0) (pos 0) (pos 0)
shakes = record {
  calls = refl;
  listens = refl;
  own = own;
  named = refl;
  port = refl;
  address = refl;
  over = inl refl;
  goes = record { lasts = refl; in_time = refl; alive = refl; tries = refl };
  caller = record { timeout = refl; tries = refl };
  listener = record { timeout = refl; unpaused = refl; tries = refl };
  at_first = refl;
  at_second = refl;
  at_third = refl;
  stamps = inl refl;
}

lasting_a : IsLasting (socket_of called A)
lasting_a = record { room = leb-true _ _ refl; tries = refl }

lasting_b : IsLasting (socket_of called B)
lasting_b = record { room = leb-true _ _ refl; tries = refl }

across_a : IsLasting (socket_of both_called A)
across_a = record { room = leb-true _ _ refl; tries = refl }

across_b : IsLasting (socket_of both_called B)
across_b = record { room = leb-true _ _ refl; tries = refl }

-- THE NUMBERS

-- both wrote three bytes and a FIN: eight positions are to be acknowledged, and eight to be taken
count : bound conversing ≡ 16
count = refl

instant_a : (at conversing.sides A).instant ≡ pos 0
instant_a = refl

instant_b : (at conversing.sides B).instant ≡ pos 0
instant_b = refl

wrote_a : length (past_at conversing A).written ≡ 3
wrote_a = refl

wrote_b : length (past_at conversing B).written ≡ 3
wrote_b = refl

some : (n : ℕ) → n ≡ 3 → 1 ≤ n
some n e = subst (λ (k : ℕ). 1 ≤ k) (sym e) (leb-true 1 3 refl)

across_count : bound conversing_across ≡ 16
across_count = refl

across_instant_a : (at conversing_across.sides A).instant ≡ late
across_instant_a = refl

across_instant_b : (at conversing_across.sides B).instant ≡ late
across_instant_b = refl

across_wrote_a : length (past_at conversing_across A).written ≡ 3
across_wrote_a = refl

across_wrote_b : length (past_at conversing_across B).written ≡ 3
across_wrote_b = refl

late_begun : (now : ℤ) → now ≡ late → pos 0 ≤ℤ now
late_begun now e = subst (λ (t : ℤ). pos 0 ≤ℤ t) (sym e) (le_of (pos 0) late refl)

late_left : (now : ℤ) (n : ℕ) → now ≡ late → n ≡ 16 → (now +ℤ pos (n * 120_000_000)) ≤ℤ pos last_instant
late_left now n e f =
    subst (λ (t : ℤ). (t +ℤ pos (n * 120_000_000)) ≤ℤ pos last_instant) (sym e)
    (subst (λ (k : ℕ). (late +ℤ pos (k * 120_000_000)) ≤ℤ pos last_instant) (sym f)
    (le_of (late +ℤ pos (16 * 120_000_000)) (pos last_instant) refl))

begun_at : (now : ℤ) → now ≡ pos 0 → pos 0 ≤ℤ now
begun_at now e = subst (λ (t : ℤ). pos 0 ≤ℤ t) (sym e) (le_of (pos 0) (pos 0) refl)

time_left : (now : ℤ) (n : ℕ) → now ≡ pos 0 → n ≡ 16 → (now +ℤ pos (n * 120_000_000)) ≤ℤ pos last_instant
time_left now n e f =
    subst (λ (t : ℤ). (t +ℤ pos (n * 120_000_000)) ≤ℤ pos last_instant) (sym e)
    (subst (λ (k : ℕ). (pos 0 +ℤ pos (k * 120_000_000)) ≤ℤ pos last_instant) (sym f)
    (le_of (pos 0 +ℤ pos (16 * 120_000_000)) (pos last_instant) refl))

minutes_a : HasMinutes (bound conversing) conversing A
minutes_a = record {
  begun = begun_at (at conversing.sides A).instant instant_a;
  left = time_left (at conversing.sides A).instant (bound conversing) instant_a count;
}

minutes_b : HasMinutes (bound conversing) conversing B
minutes_b = record {
  begun = begun_at (at conversing.sides B).instant instant_b;
  left = time_left (at conversing.sides B).instant (bound conversing) instant_b count;
}

unstamped_a : (socket_of conversing A).tcb.peer.timestamps ≡ false
unstamped_a = refl

unstamped_b : (socket_of conversing B).tcb.peer.timestamps ≡ false
unstamped_b = refl

writes : Steps answered writing conversing
writes = (refl, (refl, (refl, (refl, refl))))

stream_a : HasStream (past_at conversing A)
stream_a = inr (some (length (past_at conversing A).written) wrote_a)

stream_b : HasStream (past_at conversing B)
stream_b = inr (some (length (past_at conversing B).written) wrote_b)

pub returns-clause-converses : goal.returns-clause-converses
returns-clause-converses c = record {
  opens = shakes;
  own = lasting_a;
  theirs = lasting_b;
  writing = (tt, (tt, (tt, (tt, tt))));
  steps = writes;
  stream_a = stream_a;
  stream_b = stream_b;
  minutes_a = minutes_a;
  minutes_b = minutes_b;
  stamps_a = inl unstamped_a;
  stamps_b = inl unstamped_b;
}

across_unstamped_a : (socket_of conversing_across A).tcb.peer.timestamps ≡ false
across_unstamped_a = refl

across_unstamped_b : (socket_of conversing_across B).tcb.peer.timestamps ≡ false
across_unstamped_b = refl

across_writes : Steps (met_in crossed A late late) writing conversing_across
across_writes = (refl, (refl, (refl, (refl, refl))))

across_stream_a : HasStream (past_at conversing_across A)
across_stream_a = inr (some (length (past_at conversing_across A).written) across_wrote_a)

across_stream_b : HasStream (past_at conversing_across B)
across_stream_b = inr (some (length (past_at conversing_across B).written) across_wrote_b)

pub returns-clause-across : goal.returns-clause-across
returns-clause-across c = record {
  opens = (may_cross, may_meet);
  own = across_a;
  theirs = across_b;
  writing = (tt, (tt, (tt, (tt, tt))));
  steps = across_writes;
  stream_a = across_stream_a;
  stream_b = across_stream_b;
  minutes_a =
      record {
        begun = late_begun (at conversing_across.sides A).instant across_instant_a;
        left = late_left (at conversing_across.sides A).instant (bound conversing_across) across_instant_a across_count;
      };
  minutes_b =
      record {
        begun = late_begun (at conversing_across.sides B).instant across_instant_b;
        left = late_left (at conversing_across.sides B).instant (bound conversing_across) across_instant_b across_count;
      };
  stamps_a = inl across_unstamped_a;
  stamps_b = inl across_unstamped_b;
}
