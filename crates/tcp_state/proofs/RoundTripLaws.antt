-- Whole milliseconds in microseconds, and what the timeout isn't below.
use Rattle.std.proofs.Common.{◌≡◌, ◌≤◌, ◌<◌, ℕ, ◌+◌, ◌-◌, ◌*◌, ◌/◌, min, max, Option, Some, None, Bool, true, false, refl, ap, ◌∙◌, arith}
use Rattle.tcp_state.specs.RoundTrip.{RoundTripValue, clocked, smoothed, in_micros, distance, slack, timeout_of, measured, most_timeout, tsecr_micros}
use Rattle.tcp_state.specs.declared.round_trip.Estimate.{Estimate}

-- WHOLE MILLISECONDS

halved : (n : ℕ) → n * 1000 / 2 / 1000 * 1000 ≡ n / 2 * 1000
halved n = omega arith

eighths : (n : ℕ) → n * 1000 / 8 / 1000 * 1000 ≡ n / 8 * 1000
eighths n = omega arith

quarters : (n : ℕ) → n * 1000 / 4 / 1000 * 1000 ≡ n / 4 * 1000
quarters n = omega arith

summed : (s m : ℕ) → 7 * (s * 1000) + m * 1000 ≡ (7 * s + m) * 1000
summed s m = omega arith

varied : (v s m : ℕ) → 3 * (v * 1000) + distance (s * 1000) (m * 1000) ≡ (3 * v + distance s m) * 1000
varied v s m = omega arith

least_by : (a b : ℕ) → min (a * 1000) (b * 1000) ≡ min a b * 1000
least_by a b = omega arith

pub first_whole : (millis : ℕ) → smoothed false None (millis * 1000) ≡ in_micros (record { smoothed = millis; variation = millis / 2; shortest = millis })
first_whole millis = λ i. record { smoothed = millis * 1000; variation = halved millis i; shortest = millis * 1000 }

pub next_whole : (e : Estimate) (millis : ℕ) → smoothed false (Some (in_micros e)) (millis * 1000) ≡
    in_micros (record {
      smoothed = (7 * e.smoothed + millis) / 8;
      variation = (3 * e.variation + distance e.smoothed millis) / 4;
      shortest = min e.shortest millis;
    })
next_whole e millis =
    let s = ap (λ (n : ℕ). n / 8 / 1000 * 1000) (summed e.smoothed millis) ∙ eighths (7 * e.smoothed + millis) in
    let v = ap (λ (n : ℕ). n / 4 / 1000 * 1000) (varied e.variation e.smoothed millis) ∙ quarters (3 * e.variation + distance e.smoothed millis) in
    λ i. record { smoothed = s i; variation = v i; shortest = least_by e.shortest millis i }

timeout_by : (least s v : ℕ) → min 60_000_000 (max (least * 1000) (s * 1000 + max (min (least * 1000) 200_000) (4 * (v * 1000)))) ≡
    min 60_000 (max least (s + max (min least 200) (4 * v))) * 1000
timeout_by least s v = omega arith

pub timeout_whole : (least : ℕ) (e : Estimate) → timeout_of (least * 1000) (in_micros e) ≡
    min 60_000 (max least (e.smoothed + max (min least 200) (4 * e.variation))) * 1000
timeout_whole least e = timeout_by least e.smoothed e.variation

-- BOUNDS

not_below : (most least n : ℕ) → min most n ≤ min most (max least n)
not_below most least n = omega arith

pub above : (fine : Bool) (r : RoundTripValue) (micros : ℕ) → let e = smoothed fine r.estimate micros in
    min most_timeout (e.smoothed + max (slack r.least) (4 * e.variation)) ≤ (measured fine r micros).timeout
above fine r micros =
    let e = smoothed fine r.estimate micros in not_below most_timeout r.least (e.smoothed + max (slack r.least) (4 * e.variation))

pub tsecr : (sent now : ℕ) → now - sent ≤ tsecr_micros true (now / 1000 - sent / 1000)
tsecr sent now = omega arith
