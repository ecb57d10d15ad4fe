use Rattle.std.proofs.Common.{rules, arith, ◌≡◌, ◌==◌, ◌&&◌, ◌∙◌, ◌≤◌, ℕ, List, ap, sym, subst, refl, length, take, Bool, true, false}
use Rattle.std.proofs.lemmas.Grind.{common_steps}
use Rattle.std.proofs.lemmas.List.{length-take-le}
use Rattle.app_tun_services.specs.Site.{talk, read, said, count_in, is_end, AnswersBy, JudgedAs}
use Rattle.app_tun_services.specs.Request.{Asks, Judges}
use Rattle.app_tun_services.specs.declared.request.Verdict.TheVariants as Is
use Rattle.tcp_block.specs.Calls.{recv_answer}
use Rattle.app_tun_services.proofs.Reading.{read_is}
use Rattle.app_tun_services.proofs.site.answer.Goals as goal
use Rattle.app_tun_services.proofs.site.answer.Goals.{else-is_end-via-then-is_end+else-count-eq0, else-is_end-via-else-is_end}

isnt_zero : (n : ℕ) → (n ≡ 0 → ⊥) → (n == 0) ≡ false
isnt_zero n isnt = grind (arith)

not_both : (b : Bool) (n m : ℕ) → n ≡ m → (n ≡ 0 → ⊥) → (b && (m == 0)) ≡ false
not_both true n m is isnt = ap (λ k. k == 0) (sym is) ∙ isnt_zero n isnt
not_both false n m is isnt = refl

-- a request is read, and answered
pub returns-in-Asks : goal.returns-in-Asks
returns-in-Asks c =
    let before = talk c.args.socket.now c.args.session.now in
    let after = talk c.say.new.socket c.say.new.session in
    let counts = c.args.counts.now in
    let most = length c.args.buffer.now in
    let within : c.in-Asks.len ≤ length c.request_in-count.new.buffer = first_of (search rules, grind (arith, common_steps)) in
    let reads : talk c.recv_slice.new.self c.args.session.now ≡ read c.in-Asks.len before =
    read_is c.recv_slice.result c.in-Asks.len c.args.socket.now c.recv_slice.new.self c.args.session.now _ _ (c.recv_slice.ensures.answer ∙
    ap (recv_answer c.args.socket.now) (length-take-le c.in-Asks.len c.request_in-count.new.buffer within)) c.recv_slice.ensures.refused
    c.recv_slice.ensures.read in
    let says : after ≡ said counts c.in-Asks.answer (read c.in-Asks.len before) = c.say.ensures ∙ ap (said counts c.in-Asks.answer) reads in
    let judges : Judges (take most c.args.socket.now.received.waiting) (is_end c.args.socket.now.tcb.state) (count_in most before == most)
    (Is.Asks c.in-Asks.len c.in-Asks.answer) =
    subst (λ (bytes : List ℕ). Asks bytes c.in-Asks.len c.in-Asks.answer) c.request_in-count.ensures.bytes c.in-Asks.ensures in
    let judged : JudgedAs counts most before after = (Is.Asks c.in-Asks.len c.in-Asks.answer, judges, says) in
    let off : (is_end c.args.socket.now.tcb.state && (count_in most before == 0)) ≡ false = elim c.else-is_end.branch [
      | else-is_end-via-then-is_end+else-count-eq0 w ↦ not_both (is_end c.args.socket.now.tcb.state) c.request_in-count.result (count_in most before)
          c.request_in-count.ensures.count w.if-count-eq0.false
      | else-is_end-via-else-is_end w ↦ first_of (search rules, grind (arith, common_steps))
    ] in
    subst (λ (b : Bool). AnswersBy b counts most before after) (sym off) judged
