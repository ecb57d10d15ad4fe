-- No move takes back what was freed.
use Rattle.std.proofs.Common.{suc, ◌-◌, ◌≤◌, length, ◌≡◌, ◌++◌, ap, arith, le_refl, length-append, length-drop}
use Rattle.tcp_theory.specs.Side.{Phase, Side, freed}
use Rattle.tcp_theory.specs.Side.Phase.{Unopened, Listen, SynSent, SynReceived}
use Rattle.tcp_theory.specs.Move.{Move, May, after}
use Rattle.tcp_theory.specs.Move.Move.{Listens, Connects, Writes, Reads, Closes, Ends, FallsBack, SendsSyn, SendsSynAck, SendsAck, SendsData, SendsKeepAlive}
use Rattle.tcp_theory.specs.Move.Move.{SendsReset, TakesSyn, TakesCrossedSyn, TakesSynAck, TakesAck, TakesBytes, TakesFin}
use Rattle.tcp_theory.specs.Invariant.{IsEarly, OneWay}
use Rattle.tcp_theory.proofs.Calls.{early_at}

-- before ESTABLISHED nothing is freed yet
freed-early : (s t new : Side) (phase : Phase) → OneWay s t → s.phase ≡ phase → IsEarly phase → freed s ≤ freed new
freed-early s t new phase out e early =
    let no_stream = out.well_formed.early (early_at s phase e early) in
    let none = ap length no_stream.0 in
    omega arith

pub freed-after : (s t : Side) (move : Move) → OneWay s t → May s t move → freed s ≤ freed (after s move)
freed-after s t (Writes bytes) out may =
    let before = length-drop (s.una - suc s.iss) s.written in
    let later = length-drop (s.una - suc s.iss) (s.written ++ bytes) in
    let longer = length-append s.written bytes in
    omega arith
freed-after s t (TakesAck x at) out may =
    let before = length-drop (s.una - suc s.iss) s.written in
    let later = length-drop (at - suc s.iss) s.written in
    let further = may.low in
    omega arith
freed-after s t (Connects iss) out may = freed-early s t (after s (Connects iss)) Unopened out may.0 tt
freed-after s t FallsBack out may = freed-early s t (after s FallsBack) SynReceived out may.0 tt
freed-after s t (TakesSyn x iss) out may = freed-early s t (after s (TakesSyn x iss)) Listen out may.listening tt
freed-after s t (TakesSynAck x) out may = freed-early s t (after s (TakesSynAck x)) SynSent out may.asking tt
freed-after s t Listens out may = le_refl _
freed-after s t (Reads count) out may = le_refl _
freed-after s t Closes out may = le_refl _
freed-after s t Ends out may = le_refl _
freed-after s t SendsSyn out may = le_refl _
freed-after s t SendsSynAck out may = le_refl _
freed-after s t (SendsAck at) out may = le_refl _
freed-after s t (SendsData at count fin) out may = le_refl _
freed-after s t SendsKeepAlive out may = le_refl _
freed-after s t (SendsReset x) out may = le_refl _
freed-after s t (TakesCrossedSyn x) out may = le_refl _
freed-after s t (TakesBytes x at) out may = le_refl _
freed-after s t (TakesFin x) out may = le_refl _
