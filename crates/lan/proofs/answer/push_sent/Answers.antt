use Rattle.std.proofs.Common.{◌++◌, refl, ap, ◌∙◌}
use Rattle.std.specs.String.{string_bytes}
use Rattle.lan.specs.Answers.{sent_line}
use Rattle.lan.proofs.AnswerLemmas.{drop-frames_of, sent_lines_more}
use Rattle.lan.proofs.answer.push_sent.Goals as goal

pub loop-k-preserved : goal.loop-k-preserved
loop-k-preserved c =
    let line = c.as_str.ensures.value ∙ c.in_ok-line.ensures ∙ ap (sent_line c.args.side c.loop-k.k) c.as_slice.ensures.value in
    let grown = c.in_ok-push_str.ensures.bytes ∙ ap (λ l. string_bytes c.loop-k.text ++ l) line in
    record {
      written = sent_lines_more c.args.side c.loop-k.k _ _ _ _ _ _ c.loop-k.invariant.written
          (drop-frames_of c.args.frames.now c.loop-k.k _ c.loop-k-test.true c.index-frames-k.is) grown;
      frames = refl;
    }
