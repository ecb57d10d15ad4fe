-- How far past SND.UNA a segment ends, in numbers: within the peer's buffer, with the SYN and the FIN.
use Rattle.std.proofs.Common.{◌≡◌, ℕ, suc, ◌+◌, ◌-◌, ◌≤◌, ◌==◌, min, max, Bool, true, false, if◌then◌else◌, arith}
use Rattle.std.proofs.lemmas.Bool.{cond_both}
use Rattle.tcp_block.specs.TcbRules.{one_if}

-- WHAT WAS SENT

-- Of so much in flight and ever sent, where so much waits to be acknowledged: the payload fits so many positions and the SYN, and with the FIN
-- it is one more.
pub record IsShort (most syn queued out ever : ℕ) : Type 0 where
  pub payload : min ever (syn + queued) ≤ suc most
  pub flight : min out (syn + queued) ≤ suc most
  pub snd_max : ever ≤ suc (suc most)

pub none_short : (most syn queued : ℕ) → IsShort most syn queued 0 0
none_short most syn queued = record { payload = omega arith; flight = omega arith; snd_max = omega arith }

-- SND.UNA rises
pub acked_short :
    (most syn queued flight snd_max less left by : ℕ) → less ≤ syn → left ≤ queued → IsShort most syn queued flight snd_max
    → IsShort most less left (flight - by) (snd_max - by)
acked_short most syn queued flight snd_max less left by a b s = record {
  payload = cut snd_max s.payload;
  flight = cut flight s.flight;
  snd_max = below snd_max s.snd_max;
}
  where
    cut : (n : ℕ) → min n (syn + queued) ≤ suc most → min (n - by) (less + left) ≤ suc most
    cut n e = omega arith

    below : (n : ℕ) → n ≤ suc (suc most) → n - by ≤ suc (suc most)
    below n e = omega arith

-- SND.NXT goes back
pub back_short : (most syn queued flight snd_max : ℕ) → IsShort most syn queued flight snd_max → IsShort most syn queued 0 snd_max
back_short most syn queued flight snd_max s = record { payload = s.payload; flight = omega arith; snd_max = s.snd_max }

-- all that was sent is in flight
pub undone_short :
    (most syn queued flight snd_max : ℕ) → IsShort most syn queued flight snd_max → IsShort most syn queued (max flight (min snd_max (syn + queued))) snd_max
undone_short most syn queued flight snd_max s = record { payload = s.payload; flight = two s.flight s.payload; snd_max = s.snd_max } where
  two : min flight (syn + queued) ≤ suc most → min snd_max (syn + queued) ≤ suc most → min (max flight (min snd_max (syn + queued))) (syn + queued) ≤ suc most
  two a b = omega arith

-- SND.NXT moves after what is held there
pub held_short :
    (most syn queued flight snd_max missing : ℕ) → IsShort most syn queued flight snd_max
    → IsShort most syn queued (if flight == 0 then 0 else max flight (min missing (min snd_max (syn + queued)))) snd_max
held_short most syn queued flight snd_max missing s =
    cond_both (flight == 0) 0 (max flight (min missing (min snd_max (syn + queued)))) (λ (n : ℕ). IsShort most syn queued n snd_max)
    (λ _. back_short most syn queued flight snd_max s) (λ _. record { payload = s.payload; flight = two s.flight s.payload; snd_max = s.snd_max })
  where
    two : min flight (syn + queued) ≤ suc most → min snd_max (syn + queued) ≤ suc most
        → min (max flight (min missing (min snd_max (syn + queued)))) (syn + queued) ≤ suc most
    two a b = omega arith

-- the user writes more, where no FIN was asked for
pub wrote_short :
    (most syn queued more flight snd_max : ℕ) → snd_max ≤ syn + queued → flight ≤ syn + queued → IsShort most syn queued flight snd_max
    → IsShort most syn (queued + more) flight snd_max
wrote_short most syn queued more flight snd_max a b s = record { payload = cut snd_max a s.payload; flight = cut flight b s.flight; snd_max = s.snd_max } where
  cut : (n : ℕ) → n ≤ syn + queued → min n (syn + queued) ≤ suc most → min n (syn + (queued + more)) ≤ suc most
  cut n a e = omega arith

-- a segment goes that ends here
pub record EndsShort (most syn queued end : ℕ) : Type 0 where
  pub payload : min end (syn + queued) ≤ suc most
  pub whole : end ≤ suc (suc most)

pub probed_short :
    (most syn queued flight snd_max end : ℕ) → EndsShort most syn queued end → IsShort most syn queued flight snd_max → IsShort most syn queued flight (max snd_max end)
probed_short most syn queued flight snd_max end e s = record { payload = two s.payload e.payload; flight = s.flight; snd_max = larger s.snd_max e.whole } where
  two : min snd_max (syn + queued) ≤ suc most → min end (syn + queued) ≤ suc most → min (max snd_max end) (syn + queued) ≤ suc most
  two a b = omega arith

  larger : snd_max ≤ suc (suc most) → end ≤ suc (suc most) → max snd_max end ≤ suc (suc most)
  larger a b = omega arith

pub went_short :
    (most syn queued flight snd_max end missing : ℕ) → EndsShort most syn queued end → IsShort most syn queued flight snd_max
    → IsShort most syn queued (max flight (max end (min missing (min snd_max (syn + queued))))) (max snd_max end)
went_short most syn queued flight snd_max end missing e s =
    let p = probed_short most syn queued flight snd_max end e s in
    record { payload = p.payload; flight = three flight end snd_max s.flight e.payload s.payload; snd_max = p.snd_max }
  where
    three : (flight end snd_max : ℕ) → min flight (syn + queued) ≤ suc most → min end (syn + queued) ≤ suc most → min snd_max (syn + queued) ≤ suc most
        → min (max flight (max end (min missing (min snd_max (syn + queued))))) (syn + queued) ≤ suc most
    three flight end snd_max a b c = omega arith

-- WHERE IT ENDS

pub first_ends : (most syn queued end : ℕ) → end ≡ 1 → EndsShort most syn queued end
first_ends most syn queued end e = record { payload = omega arith; whole = omega arith }

pub payload_ends :
    (most syn queued owed flight window d len control : ℕ) → syn ≤ 1 → d ≤ syn + (flight - syn) → len ≤ window - flight → window ≤ most → control ≤ 0
    → flight ≤ syn + queued + owed → owed ≤ 1 → min flight (syn + queued) ≤ suc most → EndsShort most syn queued (d + (len + control))
payload_ends most syn queued owed flight window d len control a b c e f g h i = record { payload = omega arith; whole = omega arith }

pub fin_ends :
    (most syn queued flight window d len control : ℕ) → syn ≤ 1 → d ≤ syn + (flight - syn) → len ≤ window - flight → window ≤ most → control ≤ 1
    → flight - syn + len ≡ queued → min flight (syn + queued) ≤ suc most → EndsShort most syn queued (d + (len + control))
fin_ends most syn queued flight window d len control a b c e f g h = record { payload = omega arith; whole = omega arith }

pub again_ends :
    (most syn queued snd_max d offset len control : ℕ) → syn ≤ 1 → d ≤ syn + offset → offset + (len + control) ≤ snd_max - syn → min snd_max (syn + queued) ≤ suc most
    → snd_max ≤ suc (suc most) → EndsShort most syn queued (d + (len + control))
again_ends most syn queued snd_max d offset len control a b c e f = record { payload = omega arith; whole = omega arith }

pub probe_ends : (most syn queued d control : ℕ) → 1 ≤ most → syn ≤ 1 → d ≤ syn + 0 → control ≤ 0 → EndsShort most syn queued (d + (1 + control))
probe_ends most syn queued d control a b c e = record { payload = omega arith; whole = omega arith }

pub one_at_most : (t : Bool) → one_if t ≤ 1
one_at_most true = omega arith
one_at_most false = omega arith
