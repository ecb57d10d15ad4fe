use Rattle.std.proofs.Common.{◌≡◌, inl, inr, ℕ, ◌*◌, ◌≤◌, ℤ, pos, ◌+ℤ◌, ◌≤ℤ◌, length, refl, sym, subst}
use Rattle.std.proofs.lemmas.Bool.{leb-true}
use Rattle.net_base.specs.Time.{last_instant}
use Rattle.std.specs.Prelude.{◌++◌}
use Rattle.tcp_block.specs.AddressPair.TheVariants as Pair
use Rattle.tcp_invariants.specs.FourTuple.{FourTuple}
use Rattle.tcp_invariants.specs.Moments.{tsval_end_from}
use Rattle.tcp_refinement.specs.Pair.Sides.{at}
use Rattle.tcp_refinement.specs.Pair.Steps.{Steps}
use Rattle.tcp_refinement.specs.Pair.Values.{address_of, past_at}
use Rattle.tcp_refinement.specs.declared.pair.event.Side.TheVariants.{A, B}
use Rattle.tcp_liveness.specs.BothWays.{bound}
use Rattle.tcp_liveness.specs.Clocks.{HasStamps, IsTimed}
use Rattle.tcp_liveness.specs.Connection.{IsLasting}
use Rattle.tcp_liveness.specs.Handshake.{MayShake}
use Rattle.tcp_liveness.specs.Met.{calling, clocks, timed_answered, timed_called, timed_conversing, writing}
use Rattle.tcp_liveness.specs.Pair.{HasStream, socket_of}
use Rattle.tcp_liveness.specs.Talking.{HasMinutes}
use Rattle.tcp_liveness.proofs.Moments.{le_of}
use Rattle.tcp_liveness.proofs.MetStarts.{start_a, start_b}
use Rattle.tcp_liveness.proofs.met.what_a_connection_with_timestamps_asks_for_is_met.Goals as goal

abbrev own : FourTuple
own = record { addresses = Pair.Ipv4 (address_of A) (address_of B); local_port = 49_500; remote_port = 80 }

pub returns-clause-reached : goal.returns-clause-reached
returns-clause-reached c = record {
  a = start_a;
  b = start_b;
  events = clocks ++ calling;
  steps = (refl, (refl, (refl, (refl, refl))));
}

shakes : MayShake timed_called A (pos 0) (pos 0) (pos 0)
shakes = record {
  calls = refl;
  listens = refl;
  own = own;
  named = refl;
  port = refl;
  address = refl;
  over = inl refl;
  goes = record { lasts = refl; in_time = refl; alive = refl; tries = refl };
  caller = record { timeout = refl; tries = refl };
  listener = record { timeout = refl; unpaused = refl; tries = refl };
  at_first = refl;
  at_second = refl;
  at_third = refl;
  stamps = inr (record {
    since = pos 0;
    begun = le_of _ _ refl;
    asked = le_of _ _ refl;
    timed = (λ _. tt, (λ _. le_of _ _ refl, (λ _. tt, (λ _. tt, (λ _. refl, (λ _. refl, tt))))));
    within = le_of _ _ refl;
  });
}

lasting_a : IsLasting (socket_of timed_called A)
lasting_a = record { room = leb-true _ _ refl; tries = refl }

lasting_b : IsLasting (socket_of timed_called B)
lasting_b = record { room = leb-true _ _ refl; tries = refl }

-- THE NUMBERS

-- both wrote three bytes and a FIN: eight positions are to be acknowledged, and eight to be taken
count : bound timed_conversing ≡ 16
count = refl

instant_a : (at timed_conversing.sides A).instant ≡ pos 0
instant_a = refl

instant_b : (at timed_conversing.sides B).instant ≡ pos 0
instant_b = refl

wrote_a : length (past_at timed_conversing A).written ≡ 3
wrote_a = refl

wrote_b : length (past_at timed_conversing B).written ≡ 3
wrote_b = refl

some : (n : ℕ) → n ≡ 3 → 1 ≤ n
some n e = subst (λ (k : ℕ). 1 ≤ k) (sym e) (leb-true 1 3 refl)

begun_at : (now : ℤ) → now ≡ pos 0 → pos 0 ≤ℤ now
begun_at now e = subst (λ (t : ℤ). pos 0 ≤ℤ t) (sym e) (le_of (pos 0) (pos 0) refl)

time_left : (now : ℤ) (n : ℕ) → now ≡ pos 0 → n ≡ 16 → (now +ℤ pos (n * 120_000_000)) ≤ℤ pos last_instant
time_left now n e f =
    subst (λ (t : ℤ). (t +ℤ pos (n * 120_000_000)) ≤ℤ pos last_instant) (sym e)
    (subst (λ (k : ℕ). (pos 0 +ℤ pos (k * 120_000_000)) ≤ℤ pos last_instant) (sym f)
    (le_of (pos 0 +ℤ pos (16 * 120_000_000)) (pos last_instant) refl))

minutes_a : HasMinutes (bound timed_conversing) timed_conversing A
minutes_a = record {
  begun = begun_at (at timed_conversing.sides A).instant instant_a;
  left = time_left (at timed_conversing.sides A).instant (bound timed_conversing) instant_a count;
}

minutes_b : HasMinutes (bound timed_conversing) timed_conversing B
minutes_b = record {
  begun = begun_at (at timed_conversing.sides B).instant instant_b;
  left = time_left (at timed_conversing.sides B).instant (bound timed_conversing) instant_b count;
}

in_days : (now : ℤ) (n : ℕ) → now ≡ pos 0 → n ≡ 16 → (now +ℤ pos (n * 120_000_000)) ≤ℤ tsval_end_from (pos 0)
in_days now n e f =
    subst (λ (t : ℤ). (t +ℤ pos (n * 120_000_000)) ≤ℤ tsval_end_from (pos 0)) (sym e)
    (subst (λ (k : ℕ). (pos 0 +ℤ pos (k * 120_000_000)) ≤ℤ tsval_end_from (pos 0)) (sym f)
    (le_of (pos 0 +ℤ pos (16 * 120_000_000)) (tsval_end_from (pos 0)) refl))

at_first : pos 0 ≤ℤ pos 0
at_first = le_of (pos 0) (pos 0) refl

-- the last event first
timed_a : IsTimed (pos 0) A timed_conversing.history
timed_a = (
  λ _. tt,
  (
    λ _. tt,
    (
      λ _. tt,
      (
        λ _. tt,
        (
          λ _. tt,
          (
            λ _. at_first,
            (
              λ _. tt,
              (
                λ _. at_first,
                (
                  λ _. tt,
                  (
                    λ _. at_first,
                    (λ _. tt, (λ _. tt, (λ _. refl, (λ _. refl, tt)))),
                  ),
                ),
              ),
            ),
          ),
        ),
      ),
    ),
  ),
)

timed_b : IsTimed (pos 0) B timed_conversing.history
timed_b = (
  λ _. tt,
  (
    λ _. tt,
    (
      λ _. tt,
      (
        λ _. tt,
        (
          λ _. tt,
          (
            λ _. at_first,
            (
              λ _. tt,
              (
                λ _. at_first,
                (
                  λ _. tt,
                  (
                    λ _. at_first,
                    (λ _. tt, (λ _. tt, (λ _. refl, (λ _. refl, tt)))),
                  ),
                ),
              ),
            ),
          ),
        ),
      ),
    ),
  ),
)

stamps_a : HasStamps (bound timed_conversing) timed_conversing A
stamps_a = inr (record {
  since = pos 0;
  begun = at_first;
  asked = begun_at (at timed_conversing.sides A).instant instant_a;
  timed = timed_a;
  within = in_days (at timed_conversing.sides A).instant (bound timed_conversing) instant_a count;
})

stamps_b : HasStamps (bound timed_conversing) timed_conversing B
stamps_b = inr (record {
  since = pos 0;
  begun = at_first;
  asked = begun_at (at timed_conversing.sides B).instant instant_b;
  timed = timed_b;
  within = in_days (at timed_conversing.sides B).instant (bound timed_conversing) instant_b count;
})

writes : Steps timed_answered writing timed_conversing
writes = (refl, (refl, (refl, (refl, refl))))

stream_a : HasStream (past_at timed_conversing A)
stream_a = inr (some (length (past_at timed_conversing A).written) wrote_a)

stream_b : HasStream (past_at timed_conversing B)
stream_b = inr (some (length (past_at timed_conversing B).written) wrote_b)

pub returns-clause-agreed : goal.returns-clause-agreed
returns-clause-agreed c = refl

pub returns-clause-converses : goal.returns-clause-converses
returns-clause-converses c = record {
  opens = shakes;
  own = lasting_a;
  theirs = lasting_b;
  writing = (tt, (tt, (tt, (tt, tt))));
  steps = writes;
  stream_a = stream_a;
  stream_b = stream_b;
  minutes_a = minutes_a;
  minutes_b = minutes_b;
  stamps_a = stamps_a;
  stamps_b = stamps_b;
}
