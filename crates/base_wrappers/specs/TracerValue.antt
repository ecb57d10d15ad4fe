-- What a contract sees of a device that writes what goes over another.
use Rattle.std.specs.Prelude.{ℕ, ℤ, refl}
use Rattle.std.specs.Coded.{Coded, code_by, coded×, coded_ℕ, coded_ℤ}

-- the device within, the sink, what writes frames, the instant of the last call that had one, and how many frames that it takes weren't written
pub record TracerValue (D S W : Type 0) : Type 0 where
  pub inner : D
  pub sink : S
  pub writer : W
  pub instant : ℤ
  pub lost : ℕ

abbrev pub tracer_code : {D S W : Type 0} → Coded D → Coded S → Coded W → Coded (TracerValue D S W)
tracer_code {D} {S} {W} d s w =
    code_by (D × (S × (W × (ℤ × ℕ)))) (coded× d (coded× s (coded× w (coded× coded_ℤ coded_ℕ))))
    (λ v. (v.inner, (v.sink, (v.writer, (v.instant, v.lost)))))
    (λ p. record { inner = p.0; sink = p.1.0; writer = p.1.1.0; instant = p.1.1.1.0; lost = p.1.1.1.1 }) (λ _. refl)

module _ {D S W : Type 0} where
  -- with another device within, or another sink
  abbrev pub with_inner : D → TracerValue D S W → TracerValue D S W
  with_inner inner v = record { inner = inner; sink = v.sink; writer = v.writer; instant = v.instant; lost = v.lost }

  abbrev pub with_sink : S → TracerValue D S W → TracerValue D S W
  with_sink sink v = record { inner = v.inner; sink = sink; writer = v.writer; instant = v.instant; lost = v.lost }
