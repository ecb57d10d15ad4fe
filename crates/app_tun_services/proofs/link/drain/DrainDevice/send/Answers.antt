use Rattle.std.proofs.Common.{rules, arith, ◌≡◌, ◌++◌, refl, ap, sym, subst, ◌∙◌, length, List, ℕ}
use Rattle.std.proofs.lemmas.Grind.{common_steps}
use Rattle.app_tun_services.specs.Link.Answer.{packet_bytes}
use Rattle.app_tun_services.specs.Link.Drain.{DrainValue, gone, one_more, one_more_if}
use Rattle.app_tun_services.specs.Link.Reset.{is_reset}
use Rattle.app_tun_services.specs.contracts.link.drain.Drain.{the_view}
use Rattle.app_tun_services.proofs.link.drain.DrainDevice.send.Goals as goal

went : (d : DrainValue) (packet sent : List ℕ) (emitted resets : ℕ) → sent ≡ d.sent ++ packet_bytes packet → emitted ≡ one_more d.emitted
    → resets ≡ one_more_if (is_reset d.capabilities.medium packet) d.resets_sent →
    record d { sent = sent; emitted = emitted; resets_sent = resets } ≡ gone packet d
went d packet sent emitted resets kept one more = (rw kept (rw one (rw more refl)))

-- a packet that was sent is kept for the answer, and counted
pub returns-clause-ok : goal.returns-clause-ok
returns-clause-ok g c =
    let kept : c.append.new.answer.items ≡ c.self.inside.answer.items ++ packet_bytes c.f-answer.new.arg2 =
    first_of (search rules, grind (arith, common_steps)) in
    let more : c.one_more_if-self-inside.result ≡ one_more_if (is_reset c.self.inside.described.medium c.f-answer.new.arg2) c.self.inside.resets_sent =
    first_of (search rules, grind (arith, common_steps)) in
    let was : c.args.self.now ≡ the_view c.self.inside = first_of (search rules, grind (arith, common_steps)) in
    let e = went (the_view c.self.inside) c.f-answer.new.arg2 c.append.new.answer.items c.saturating_add-self-inside.result c.one_more_if-self-inside.result
    kept c.saturating_add-self-inside.ensures more in (
      c.as_mut_slice.result.now,
      c.f-answer.new.arg2,
      first_of (search rules, grind (arith, common_steps)),
      first_of (search rules, grind (arith, common_steps)),
      search rules,
      e ∙ ap (gone c.f-answer.new.arg2) (sym was),
    )
