-- What is written so far, with the lines of the frames that are left, is what is to be written.
use Rattle.std.proofs.Common.{◌≡◌, ◌++◌, drop, length}
use Rattle.std.specs.String.{string_bytes}
use Rattle.net_base.specs.Device.{frames_of}
use Rattle.lan.specs.Answers.{sent_lines}
use Rattle.lan.proofs.answer.push_sent.Given as goal

abbrev pub invariant-loop-k : goal.invariant-loop-k
invariant-loop-k l = record {
  written : string_bytes l.text ++ sent_lines l.side l.k (drop l.k (frames_of l.frames))
      ≡ string_bytes l.fn.text ++ sent_lines l.side l.first (drop l.first (frames_of l.frames));
  frames : l.k-end ≡ length l.frames;
}
