-- Lemmas on what a script writes.
use Rattle.std.proofs.Common.{◌≡◌, ℕ, zero, suc, ◌+◌, ◌<◌, List, [], ◌∷◌, ◌++◌, length, get_or, drop, sym, ap, ◌∙◌, append_assoc, add-one, arith}
use Rattle.std.specs.Global.{Vec}
use Rattle.net_base.specs.Device.{frames_of}
use Rattle.lan.specs.declared.at_link.history.event.Side.{Side}
use Rattle.lan.specs.Answers.{sent_line, sent_lines}

-- the frames from the k-th on are that frame, and those from the next on
pub drop-frames_of : (frames : List (Vec ℕ)) (k : ℕ) (frame : Vec ℕ) → k < length frames → frame ≡ get_or frames k frame →
    drop k (frames_of frames) ≡ frame.items ∷ drop (k + 1) (frames_of frames)
drop-frames_of [] k frame h e = absurd (omega (arith, h))
drop-frames_of (f ∷ fs) zero frame h e = ap (λ (v : Vec ℕ). v.items ∷ frames_of fs) (sym e)
drop-frames_of (f ∷ fs) (suc k) frame h e = let in_range : k < length fs = omega (arith, h) in rw add-one (rw add-one at (drop-frames_of fs k frame in_range e))

-- one more frame's line is written
pub sent_lines_more : (side : Side) (k : ℕ) (frame : List ℕ) (rest left : List (List ℕ)) (old new whole : List ℕ)
    → old ++ sent_lines side k left ≡ whole → left ≡ frame ∷ rest → new ≡ old ++ sent_line side k frame → new ++ sent_lines side (k + 1) rest ≡ whole
sent_lines_more side k frame rest left old new whole h is grown =
    rw (grown, append_assoc) (ap (λ l. old ++ sent_lines side k l) (sym is) ∙ h)
