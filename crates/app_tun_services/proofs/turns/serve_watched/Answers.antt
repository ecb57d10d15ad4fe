use Rattle.std.proofs.Common.{arith, ◌≡◌, ℤ, List, ℕ, Option, Result, Err, IfSome, option_map, ap, sym, ◌∙◌, subst}
use Rattle.std.specs.Io.KnownBytes.{Appends}
use Rattle.std.proofs.lemmas.Result.{err_from_is_err_and}
use Rattle.net_base.specs.Time.{IsMoment}
use Rattle.app_tun_services.specs.Link.Turn.{Next}
use Rattle.app_tun_services.specs.Turns.{state_of, IsServed}
use Rattle.app_tun_services.specs.declared.error.ServeError.{ServeError}
use Rattle.app_tun_services.specs.declared.turns.TheConstants.{LONGEST}
use Rattle.app_tun_services.proofs.Running.{at_end, counted_out, ended, unread_at, refused_at, running_more}
use Rattle.app_tun_services.proofs.turns.serve_watched.Goals as goal

-- a turn that can't be read
pub returns-in_err-now : goal.returns-in_err-now
returns-in_err-now g c =
    let p = err_from_is_err_and c.from_residual.result c.from_residual.ensures.1 in
    let same : c.from_residual.result ≡ Err c.in_err-now.field-0.0 = cc (p.1, p.2) in
    let why = c.in_err-now.ensures.refused in
    record {
      served = λ not.
          subst (λ (r : Result (Unit {0}) ServeError). (output : List ℕ) × IsServed (g.R.Read.remaining c.args.reader.now) output r ×
          Appends (g.W.Write.contents c.args.writer.now) (g.W.Write.contents c.loop.writer) output) (sym same)
          (ended _ _ _ _ _ _ _ c.loop.invariant.2 (Err c.in_err-now.field-0.0)
          (unread_at (g.R.Read.remaining c.loop.reader) c.loop.invariant.2.past c.loop.last (option_map state_of c.loop.host) c.in_err-now.field-0.0 why.0
          why.1 why.2));
    }

-- a turn that no host takes
pub returns-in_err-current : goal.returns-in_err-current
returns-in_err-current g c =
    let p = err_from_is_err_and c.from_residual-in_err-current.result c.from_residual-in_err-current.ensures.1 in
    let same : c.from_residual-in_err-current.result ≡ Err c.in_err-current.field-0.0 = cc (p.1, p.2) in
    let now = g.R.Read.remaining c.loop.reader in
    let next = g.R.Read.remaining c.next_turn.new.reader in
    let comes = subst (λ (m : Option ℤ). IfSome now (λ bytes. Next LONGEST c.loop.last bytes m c.next_turn.new.packet.items next)) c.in-Some.is
    c.in_ok-now.ensures.turn in
    record {
      served = λ not.
          subst (λ (r : Result (Unit {0}) ServeError). (output : List ℕ) × IsServed (g.R.Read.remaining c.args.reader.now) output r ×
          Appends (g.W.Write.contents c.args.writer.now) (g.W.Write.contents c.loop.writer) output) (sym same)
          (ended _ _ _ _ _ _ _ c.loop.invariant.2 (Err c.in_err-current.field-0.0)
          (refused_at now next c.loop.invariant.2.past c.loop.last c.in-Some.now (option_map state_of c.loop.host) c.next_turn.new.packet.items
          c.in_err-current.field-0.0 comes c.in_err-current.ensures.refused));
    }

-- a turn whose answer can't be written
pub returns-in_err-answer_turn : goal.returns-in_err-answer_turn
returns-in_err-answer_turn g c =
    let p = err_from_is_err_and c.from_residual-in_err-answer_turn.result c.from_residual-in_err-answer_turn.ensures.1 in
    let same : c.from_residual-in_err-answer_turn.result ≡ Err c.in_err-answer_turn.field-0.0 = p.1 ∙ ap Err p.2 in
    record { served = λ not. absurd (not (same ∙ ap Err c.in_err-answer_turn.ensures.error)) }

-- one turn more
pub loop-preserved : goal.loop-preserved
loop-preserved g c =
    let now = g.R.Read.remaining c.loop.reader in
    let next = g.R.Read.remaining c.next_turn.new.reader in
    let comes = subst (λ (m : Option ℤ). IfSome now (λ bytes. Next LONGEST c.loop.last bytes m c.next_turn.new.packet.items next)) c.in-Some.is
    c.in_ok-now.ensures.turn in
    let instant = subst (λ (m : Option ℤ). IfSome m IsMoment) c.in-Some.is c.in_ok-now.ensures.instant in
    let said = c.in_ok-answer_turn.ensures.answers in (
      instant,
      c.in_ok-answer_turn.ensures.set_up,
      running_more c.loop.counter (g.R.Read.remaining c.args.reader.now) now next (g.W.Write.contents c.args.writer.now) (g.W.Write.contents c.loop.writer)
          (g.W.Write.contents c.answer_turn.new.writer)
          c.loop.last c.in-Some.now (option_map state_of c.loop.host) c.next_turn.new.packet.items c.in_ok-current.packet.items said.0
          (state_of c.in_ok-current.current) (state_of c.answer_turn.new.self)
          c.loop.invariant.2 comes c.in_ok-current.ensures.arrives said.1 said.2,
    )

-- as many turns as can be counted
pub returns : goal.returns
returns g c = record { served = λ not. counted_out _ _ _ _ _ _ _ c.loop.invariant.2 (omega (arith, c.loop-test.false, c.loop.auto.counter-end)) }

-- all turns were taken
pub returns-in_default : goal.returns-in_default
returns-in_default g c =
    let now = g.R.Read.remaining c.loop.reader in
    let next = g.R.Read.remaining c.next_turn.new.reader in
    let none = subst (λ (m : Option ℤ). IfSome now (λ bytes. Next LONGEST c.loop.last bytes m c.next_turn.new.packet.items next)) c.in_default.is
    c.in_ok-now.ensures.turn in
    record { served = λ not. at_end _ _ _ _ _ _ _ c.loop.invariant.2 none }
