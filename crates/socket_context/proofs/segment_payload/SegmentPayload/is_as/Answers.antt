use Rattle.std.proofs.Common.{sym, ◌∙◌, ◌++◌, bytes_eq}
use Rattle.socket_context.proofs.Texts.{joined_equal, first_test, second_test}
use Rattle.socket_context.proofs.segment_payload.SegmentPayload.is_as.Goals as goal

pub returns-then-eq : goal.returns-then-eq
returns-then-eq c =
    let one = c.args.self.now in
    let other = c.args.other.now in
    let front = c.split_at.result.0.now in
    let between = c.split_at.result.1.now in
    c.is_joined.ensures
    ∙ second_test (bytes_eq one.first.now front) (bytes_eq one.rest.now (between ++ other.rest.now)) _ (sym c.eq.ensures ∙ c.if-eq.true)
    (joined_equal one.first.now one.rest.now other.first.now front between other.rest.now c.split_at.ensures.by_index.0 c.split_at.ensures.front_len)

pub returns-else-eq : goal.returns-else-eq
returns-else-eq c =
    let one = c.args.self.now in
    let other = c.args.other.now in
    let front = c.split_at.result.0.now in
    let between = c.split_at.result.1.now in
    c.eq.ensures
    ∙ first_test (bytes_eq one.first.now front) (bytes_eq one.rest.now (between ++ other.rest.now)) _ (sym c.eq.ensures ∙ c.if-eq.false)
    (joined_equal one.first.now one.rest.now other.first.now front between other.rest.now c.split_at.ensures.by_index.0 c.split_at.ensures.front_len)
