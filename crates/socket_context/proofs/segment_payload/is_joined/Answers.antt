use Rattle.std.proofs.Common.{sym, ◌∙◌, bytes_eq}
use Rattle.socket_context.proofs.Texts.{both_equal, first_test, second_test}
use Rattle.socket_context.proofs.segment_payload.is_joined.Goals as goal

pub returns-then-eq : goal.returns-then-eq
returns-then-eq c =
    let front = c.split_at.result.0.now in
    let following = c.split_at.result.1.now in
    c.eq-then-eq.ensures
    ∙ second_test (bytes_eq front c.args.one.now) (bytes_eq following c.args.other.now) _ (sym c.eq.ensures ∙ c.if-eq.true)
    (both_equal c.args.bytes.now front following c.args.one.now c.args.other.now c.split_at.ensures.by_index.0 c.split_at.ensures.front_len)

pub returns-else-eq : goal.returns-else-eq
returns-else-eq c =
    let front = c.split_at.result.0.now in
    let following = c.split_at.result.1.now in
    c.eq.ensures
    ∙ first_test (bytes_eq front c.args.one.now) (bytes_eq following c.args.other.now) _ (sym c.eq.ensures ∙ c.if-eq.false)
    (both_equal c.args.bytes.now front following c.args.one.now c.args.other.now c.split_at.ensures.by_index.0 c.split_at.ensures.front_len)
