-- The congestion window and the threshold keep to their bounds, and the control that runs is the one that is set.
use Rattle.std.proofs.Common.{◌≡◌, ℕ, ◌+◌, ◌-◌, ◌*◌, ◌/◌, ◌^◌, ◌≤◌, ◌==◌, ◌&&◌, nat_le, nat_lt, not, min, max, ℤ, Bool, true, false}
use Rattle.std.proofs.Common.{if◌then◌else◌, Option, Some, None, is_some, refl, sym, ap, ◌∙◌, arith}
use Rattle.std.proofs.lemmas.Bool.{cond_both}
use Rattle.tcp_state.specs.Cubic as cubic
use Rattle.tcp_state.specs.Cubic.{CubicValue}
use Rattle.tcp_state.specs.Reno as reno
use Rattle.tcp_state.specs.Reno.{RenoValue}
use Rattle.tcp_block.specs.Acknowledged.{reno_counted}
use Rattle.tcp_block.specs.TcbRules.{cubic_of, initial_window}
use Rattle.tcp_block.specs.declared.tcb.CongestionControl.{CongestionControl}
use Rattle.tcp_block.specs.declared.tcb.CongestionControl.TheVariants as Avoids
use Rattle.tcp_invariants.specs.Windows.{runs_cubic}
use Rattle.tcp_invariants.proofs.OrderSteps.{clash}

-- WINDOWS

-- a window and a threshold for segments of this size, with CUBIC or without; the window holds a segment where that is to be
pub record Fair (whole : Bool) (with_cubic : Bool) (mss : ℕ) (r : RenoValue) : Type 0 where
  pub least : whole ≡ true → min 1_073_741_824 mss ≤ r.cwnd
  pub most : r.cwnd ≤ max 1_073_741_824 (10 * mss)
  pub two : min 1_073_741_824 (2 * mss) ≤ r.ssthresh
  pub snd_max : r.ssthresh ≤ max 1_073_741_824 (10 * mss)
  pub runs : is_some r.cubic ≡ with_cubic

pub capped : (n mss : ℕ) → min 1_073_741_824 n ≤ max 1_073_741_824 (10 * mss)
capped n mss = omega arith

pub under : (n mss : ℕ) → mss ≤ n → min 1_073_741_824 mss ≤ min 1_073_741_824 n
under n mss e = omega arith

pub fair_initial : (control : CongestionControl) (whole : Bool) → Fair whole (runs_cubic control) 1024 (initial_window control)
fair_initial control whole =
    record { least = λ _. omega arith; most = omega arith; two = omega arith; snd_max = omega arith; runs = by control }
  where
    by : (control : CongestionControl) → is_some (cubic_of control) ≡ runs_cubic control
    by Avoids.Cubic = refl
    by Avoids.Reno = refl
    by Avoids.None = refl

-- a first window, or a threshold that was never lowered, for segments of any size
pub fair_named : (control : CongestionControl) (mss : ℕ) → Fair false (runs_cubic control) mss (reno.with_mss (initial_window control) mss)
fair_named control mss =
    let f = fair_initial control false in
    record { least = λ e. clash (sym e); most = omega arith; two = omega arith; snd_max = omega arith; runs = f.runs }

pub fair_started : (r : RenoValue) (lost whole with_cubic : Bool) → Fair whole with_cubic r.mss r → Fair true with_cubic r.mss (reno.started r lost)
fair_started r lost whole with_cubic f = record {
  least = λ _. cond_both lost r.mss (reno.first_window r.mss) (λ (n : ℕ). min 1_073_741_824 r.mss ≤ n) (λ _. own r.mss) (λ _. first r.mss);
  most = cond_both lost r.mss (reno.first_window r.mss) (λ (n : ℕ). n ≤ max 1_073_741_824 (10 * r.mss)) (λ _. some r.mss) (λ _. ten r.mss);
  two = f.two;
  snd_max = f.snd_max;
  runs = f.runs;
}
  where
    own : (mss : ℕ) → min 1_073_741_824 mss ≤ mss
    own mss = omega arith

    first : (mss : ℕ) → min 1_073_741_824 mss ≤ min (10 * mss) (max (2 * mss) 14_600)
    first mss = omega arith

    some : (mss : ℕ) → mss ≤ max 1_073_741_824 (10 * mss)
    some mss = omega arith

    ten : (mss : ℕ) → min (10 * mss) (max (2 * mss) 14_600) ≤ max 1_073_741_824 (10 * mss)
    ten mss = omega arith

pub low_on : (r : RenoValue) (flight : ℕ) → min 1_073_741_824 (2 * r.mss) ≤ reno.lowered r flight
low_on r flight = by r.cubic where
  two : (part mss : ℕ) → min 1_073_741_824 (2 * mss) ≤ min 1_073_741_824 (max part (2 * mss))
  two part mss = omega arith

  by : (c : Option CubicValue) → min 1_073_741_824 (2 * r.mss) ≤ reno.lowered_by c r.mss flight
  by None = two (flight / 2) r.mss
  by (Some c) = two (flight * 7 / 10) r.mss

pub low_snd_max : (r : RenoValue) (flight : ℕ) → reno.lowered r flight ≤ 1_073_741_824
low_snd_max r flight = by r.cubic where
  snd_max : (n : ℕ) → min 1_073_741_824 n ≤ 1_073_741_824
  snd_max n = omega arith

  by : (c : Option CubicValue) → reno.lowered_by c r.mss flight ≤ 1_073_741_824
  by None = snd_max (max (flight / 2) (2 * r.mss))
  by (Some c) = snd_max (max (flight * 7 / 10) (2 * r.mss))

pub below_all : (n mss : ℕ) → n ≤ 1_073_741_824 → n ≤ max 1_073_741_824 (10 * mss)
below_all n mss e = omega arith

pub one_of_two : (mss n : ℕ) → min 1_073_741_824 (2 * mss) ≤ n → min 1_073_741_824 mss ≤ n
one_of_two mss n e = omega arith

pub loss_runs : (c : Option CubicValue) (cwnd : ℕ) → is_some (reno.loss_at c cwnd) ≡ is_some c
loss_runs None cwnd = refl
loss_runs (Some c) cwnd = refl

pub timeout_runs : (c : Option CubicValue) (cwnd : ℕ) → is_some (reno.timeout_at c cwnd) ≡ is_some c
timeout_runs None cwnd = refl
timeout_runs (Some c) cwnd = refl

pub stopped_runs : (c : Option CubicValue) → is_some (reno.stopped c) ≡ is_some c
stopped_runs None = refl
stopped_runs (Some c) = refl

module _ (whole with_cubic : Bool) (r : RenoValue) (f : Fair whole with_cubic r.mss r) where
  abbrev pub Still : RenoValue → Type 0
  Still x = Fair whole with_cubic r.mss x

  pub fair_reduced : (flight : ℕ) → Still (reno.reduced r flight)
  fair_reduced flight =
      let lower = reno.lowered r (min flight r.cwnd) in
      cond_both r.timed_out r (record r { ssthresh = lower; cwnd = lower; recovers = true; cubic = reno.loss_at r.cubic r.cwnd }) Still (λ _. f)
      (λ _. record {
        least = λ _. one_of_two r.mss lower (low_on r (min flight r.cwnd));
        most = below_all lower r.mss (low_snd_max r (min flight r.cwnd));
        two = low_on r (min flight r.cwnd);
        snd_max = below_all lower r.mss (low_snd_max r (min flight r.cwnd));
        runs = loss_runs r.cubic r.cwnd ∙ f.runs;
      })

  pub fair_lost : (flight : ℕ) → Still (reno.lost r flight)
  fair_lost flight =
      let lower = reno.lowered r (min flight r.cwnd) in
      cond_both r.timed_out r
      (record r { ssthresh = lower; cwnd = min reno.most (lower + 3 * r.mss); recovers = true; cubic = reno.loss_at r.cubic r.cwnd }) Still (λ _. f)
      (λ _. record {
        least = λ _. under (lower + 3 * r.mss) r.mss (more lower r.mss);
        most = capped (lower + 3 * r.mss) r.mss;
        two = low_on r (min flight r.cwnd);
        snd_max = below_all lower r.mss (low_snd_max r (min flight r.cwnd));
        runs = loss_runs r.cubic r.cwnd ∙ f.runs;
      })
    where
      more : (n mss : ℕ) → mss ≤ n + 3 * mss
      more n mss = omega arith

  pub fair_inflated : Still (reno.inflated r)
  fair_inflated =
      cond_both r.recovers (record r { cwnd = min reno.most (r.cwnd + r.mss) }) r Still
      (λ _. record {
        least = λ _. under (r.cwnd + r.mss) r.mss (more r.cwnd r.mss);
        most = capped (r.cwnd + r.mss) r.mss;
        two = f.two;
        snd_max = f.snd_max;
        runs = f.runs;
      })
      (λ _. f)
    where
      more : (n mss : ℕ) → mss ≤ n + mss
      more n mss = omega arith

  pub fair_timed_out : (flight : ℕ) → Still (reno.timed_out r flight)
  fair_timed_out flight = record {
    least = λ _. own r.mss;
    most = some r.mss;
    two =
        cond_both r.timed_out r.ssthresh (reno.lowered r flight) (λ (n : ℕ). min 1_073_741_824 (2 * r.mss) ≤ n) (λ _. f.two) (λ _. low_on r flight);
    snd_max =
        cond_both r.timed_out r.ssthresh (reno.lowered r flight) (λ (n : ℕ). n ≤ max 1_073_741_824 (10 * r.mss)) (λ _. f.snd_max)
        (λ _. below_all (reno.lowered r flight) r.mss (low_snd_max r flight));
    runs =
        cond_both r.timed_out r.cubic (reno.timeout_at r.cubic r.cwnd) (λ (c : Option CubicValue). is_some c ≡ with_cubic) (λ _. f.runs)
        (λ _. timeout_runs r.cubic r.cwnd ∙ f.runs);
  }
    where
      own : (mss : ℕ) → min 1_073_741_824 mss ≤ mss
      own mss = omega arith

      some : (mss : ℕ) → mss ≤ max 1_073_741_824 (10 * mss)
      some mss = omega arith

  pub fair_partly : (count : ℕ) → Still (reno.partly r count)
  fair_partly count =
      let back : ℕ = if nat_le r.mss count then r.mss else 0 in
      record {
        least = λ _. under (max r.mss (r.cwnd - count) + back) r.mss (more r.mss (r.cwnd - count) back);
        most = capped (max r.mss (r.cwnd - count) + back) r.mss;
        two = f.two;
        snd_max = f.snd_max;
        runs = f.runs;
      }
    where
      more : (mss rest n : ℕ) → mss ≤ max mss rest + n
      more mss rest n = omega arith

  pub fair_recovered : Still (reno.recovered r)
  fair_recovered = record { least = λ _. one_of_two r.mss r.ssthresh f.two; most = f.snd_max; two = f.two; snd_max = f.snd_max; runs = f.runs }

  pub fair_counted : (sack begins again : Bool) (count flight : ℕ) → Still (reno_counted r sack count flight begins again)
  fair_counted sack begins again count flight =
      cond_both begins (if sack then reno.reduced r flight else reno.lost r flight)
      (if again then reno.reduced r flight else if not (count == 0) && not sack then reno.inflated r else r) Still
      (λ _. cond_both sack (reno.reduced r flight) (reno.lost r flight) Still (λ _. fair_reduced flight) (λ _. fair_lost flight))
      (λ _.
      cond_both again (reno.reduced r flight) (if not (count == 0) && not sack then reno.inflated r else r) Still (λ _. fair_reduced flight)
      (λ _. cond_both (not (count == 0) && not sack) (reno.inflated r) r Still (λ _. fair_inflated) (λ _. f)))

  -- where something is acknowledged the window doesn't fall, but to the greatest
  abbrev pub Wide : ℕ → Type 0
  Wide n = (whole ≡ true → min 1_073_741_824 r.mss ≤ n) × (n ≤ max 1_073_741_824 (10 * r.mss))

  pub wide_most : (n : ℕ) → r.cwnd ≤ n → Wide (min 1_073_741_824 n)
  wide_most n e = (λ is. up (min 1_073_741_824 r.mss) r.cwnd n (cut r.mss) (f.least is) e, capped n r.mss) where
    cut : (mss : ℕ) → min 1_073_741_824 mss ≤ 1_073_741_824
    cut mss = omega arith

    up : (a b n : ℕ) → a ≤ 1_073_741_824 → a ≤ b → b ≤ n → a ≤ min 1_073_741_824 n
    up a b n e g h = omega arith

  pub in_stage : (w_max : ℕ) (epoch : Option _) (now : ℤ) (rtt : ℕ) → Wide (cubic.window_in r.mss r.cwnd w_max epoch now rtt)
  in_stage w_max None now rtt = (f.least, f.most)
  in_stage w_max (Some e) now rtt = wide_most _ (grows _ _ e.w_est) where
    high : (n m : ℕ) → n ≤ max n m
    high n m = omega arith

    more : (n m : ℕ) → n ≤ n + m
    more n m = omega arith

    grows : (here there w_est : ℕ) → r.cwnd ≤ cubic.grown r.mss r.cwnd here there w_est
    grows here there w_est =
        cond_both (nat_lt here w_est) (cubic.target r.cwnd w_est) (r.cwnd + (cubic.target r.cwnd there - r.cwnd) * min r.mss r.cwnd / r.cwnd)
        (λ (n : ℕ). r.cwnd ≤ n) (λ _. high r.cwnd (min (r.cwnd + r.cwnd / 2) w_est))
        (λ _. more r.cwnd ((cubic.target r.cwnd there - r.cwnd) * min r.mss r.cwnd / r.cwnd))

  pub wide_grown : (count : ℕ) (now : ℤ) (rtt : ℕ) → Wide (reno.widened r count now rtt)
  wide_grown count now rtt =
      cond_both (nat_lt r.cwnd r.ssthresh) (min reno.most (r.cwnd + reno.growth r count)) (reno.grown (reno.counted r count now) r count now rtt) Wide
      (λ _. slow) (λ _. by (reno.counted r count now))
    where
      more : (n m : ℕ) → n ≤ n + m
      more n m = omega arith

      slow : Wide (min reno.most (r.cwnd + reno.growth r count))
      slow = wide_most (r.cwnd + reno.growth r count) (more r.cwnd (reno.growth r count))

      by : (c : Option CubicValue) → Wide (reno.grown c r count now rtt)
      by None = slow
      by (Some c) = in_stage c.w_max c.epoch now rtt

  pub counted_runs : (count : ℕ) (now : ℤ) → is_some (reno.counted r count now) ≡ with_cubic
  counted_runs count now =
      cond_both (nat_lt r.cwnd r.ssthresh) r.cubic (reno.avoided r.cubic r count now) (λ (c : Option CubicValue). is_some c ≡ with_cubic) (λ _. f.runs)
      (λ _. by r.cubic refl)
    where
      by : (c : Option CubicValue) → r.cubic ≡ c → is_some (reno.avoided r.cubic r count now) ≡ with_cubic
      by None e = ap (λ (c : Option CubicValue). is_some (reno.avoided c r count now)) e ∙ (sym (ap is_some e) ∙ f.runs)
      by (Some c) e = ap (λ (c : Option CubicValue). is_some (reno.avoided c r count now)) e ∙ (sym (ap is_some e) ∙ f.runs)

  pub fair_acknowledged : (count : ℕ) (now : ℤ) (rtt : ℕ) → Still (reno.acknowledged r count now rtt)
  fair_acknowledged count now rtt =
      cond_both (count == 0) r (record r { cwnd = reno.widened r count now rtt; timed_out = false; cubic = reno.counted r count now }) Still (λ _. f)
      (λ _.
      let w = wide_grown count now rtt in
      record { least = w.0; most = w.1; two = f.two; snd_max = f.snd_max; runs = counted_runs count now })

  -- a window that isn't used
  pub fair_preserved : (count : ℕ) → Still (reno.preserved r count)
  fair_preserved count =
      cond_both (count == 0) r (record r { timed_out = false; cubic = reno.stopped r.cubic }) Still (λ _. f)
      (λ _. record { least = f.least; most = f.most; two = f.two; snd_max = f.snd_max; runs = stopped_runs r.cubic ∙ f.runs })

  pub fair_lapsed : (periods : ℕ) → Still (reno.lapsed r periods)
  fair_lapsed periods =
      let half = min r.cwnd (max (r.cwnd / 2 ^ periods) (reno.first_window r.mss)) in
      record {
        least = λ is.
            cond_both (periods == 0) r.cwnd half (λ (n : ℕ). min 1_073_741_824 r.mss ≤ n) (λ _. f.least is)
            (λ _. both r.mss r.cwnd (r.cwnd / 2 ^ periods) (f.least is));
        most =
            cond_both (periods == 0) r.cwnd half (λ (n : ℕ). n ≤ max 1_073_741_824 (10 * r.mss)) (λ _. f.most)
            (λ _. fall r.cwnd (max (r.cwnd / 2 ^ periods) (reno.first_window r.mss)) (max 1_073_741_824 (10 * r.mss)) f.most);
        two =
            cond_both (periods == 0) r.ssthresh (max r.ssthresh (3 * r.cwnd / 4)) (λ (n : ℕ). min 1_073_741_824 (2 * r.mss) ≤ n) (λ _. f.two)
            (λ _. higher (min 1_073_741_824 (2 * r.mss)) r.ssthresh (3 * r.cwnd / 4) f.two);
        snd_max =
            cond_both (periods == 0) r.ssthresh (max r.ssthresh (3 * r.cwnd / 4)) (λ (n : ℕ). n ≤ max 1_073_741_824 (10 * r.mss)) (λ _. f.snd_max)
            (λ _. part r.ssthresh r.cwnd (max 1_073_741_824 (10 * r.mss)) f.snd_max f.most);
        runs =
            cond_both (periods == 0) r.cubic (reno.stopped r.cubic) (λ (c : Option CubicValue). is_some c ≡ with_cubic) (λ _. f.runs)
            (λ _. stopped_runs r.cubic ∙ f.runs);
      }
    where
      both : (mss cwnd rest : ℕ) → min 1_073_741_824 mss ≤ cwnd → min 1_073_741_824 mss ≤ min cwnd (max rest (min (10 * mss) (max (2 * mss) 14_600)))
      both mss cwnd rest e = omega arith

      fall : (n m k : ℕ) → n ≤ k → min n m ≤ k
      fall n m k e = omega arith

      higher : (n m k : ℕ) → n ≤ m → n ≤ max m k
      higher n m k e = omega arith

      part : (n cwnd k : ℕ) → n ≤ k → cwnd ≤ k → max n (3 * cwnd / 4) ≤ k
      part n cwnd k e g = omega arith

pub reduced_mss : (r : RenoValue) (flight : ℕ) → (reno.reduced r flight).mss ≡ r.mss
reduced_mss r flight =
    let lower = reno.lowered r (min flight r.cwnd) in
    cond_both r.timed_out r (record r { ssthresh = lower; cwnd = lower; recovers = true; cubic = reno.loss_at r.cubic r.cwnd })
    (λ (x : RenoValue). x.mss ≡ r.mss) (λ _. refl) (λ _. refl)
