use Rattle.std.proofs.Common.{rules, arith, ◌≡◌, ◌∙◌, ap, subst, List}
use Rattle.std.proofs.lemmas.Grind.{common_steps}
use Rattle.std.proofs.lemmas.List.{with_items_is}
use Rattle.std.specs.Vec.{with_items}
use Rattle.app_tun_services.specs.declared.site.Session.{Session}
use Rattle.interface.specs.Host.{HostValue}
use Rattle.interface.specs.Polls.{HostPolls, is_change}
use Rattle.interface.specs.State.{state}
use Rattle.interface.specs.Set.{slots}
use Rattle.app_tun_services.specs.Link.Drain.{DrainValue, DrainMove}
use Rattle.app_tun_services.specs.Backlogs.{HostState}
use Rattle.app_tun_services.specs.Turns.{budget, served_of, AreServed}
use Rattle.app_tun_services.proofs.host.Host.take_turn.Goals as goal

pub returns-clause-turn : goal.returns-clause-turn
returns-clause-turn g c =
    let before = c.args.self.now in
    let come = state c.poll.new.drain c.poll.new.interface (slots c.poll.new.sockets) in
    let gone = state c.poll-2.new.drain c.poll-2.new.interface (slots c.poll-2.new.sockets) in
    let done = served_of (slots c.serve.new.sockets) c.serve.new.echoes.entries.items c.serve.new.pages.entries.items c.serve.new.echo_sessions
    c.serve.new.sessions in
    let was = served_of (slots c.poll.new.sockets) before.echoes.entries.items before.pages.entries.items in
    let echo_sessions : (with_items before.echo_sessions c.serve.new.echo_sessions).items ≡ done.echo_sessions =
    with_items_is before.echo_sessions c.serve.new.echo_sessions (first_of (search rules, grind (arith, common_steps))) in
    let sessions : (with_items before.sessions c.serve.new.sessions).items ≡ done.sessions =
    with_items_is before.sessions c.serve.new.sessions (first_of (search rules, grind (arith, common_steps))) in
    let ended : HostValue → List Session → List Session → HostState = λ h xs ys. record {
      net = state c.poll-2.new.drain h (slots c.poll-2.new.sockets);
      echoes = done.echoes;
      pages = done.pages;
      echo_sessions = xs;
      sessions = ys;
      tally = c.serve.new.tally;
    } in
    let taken = subst (λ (d : DrainValue). HostPolls DrainMove c.args.now budget (state d before.interface (slots before.sockets)) (is_change c.poll.result) come)
    c.put.ensures c.poll.ensures in
    record {
      come = come;
      done = done;
      gone = gone;
      changed = is_change c.poll.result;
      changed_again = is_change c.poll-2.result;
      begun = taken.0;
      works = taken.1;
      takes = taken.2;
      tally = c.serve.new.tally;
      serves = subst (λ (xs : List Session). AreServed c.args.now c.poll.new.drain (was xs before.sessions.items) before.tally done c.serve.new.tally)
          c.as_mut_slice.ensures.value
          (subst (λ (xs : List Session). AreServed c.args.now c.poll.new.drain (was c.as_mut_slice.result.now xs) before.tally done c.serve.new.tally)
          c.as_mut_slice-2.ensures.value c.serve.ensures.serve);
      begun_again = c.poll-2.ensures.0;
      works_again = c.poll-2.ensures.1;
      sends = c.poll-2.ensures.2;
      asked = c.poll_at.ensures.value;
      after = ap (λ (xs : List Session). ended c.poll_at.new.self xs (with_items before.sessions c.serve.new.sessions).items) echo_sessions
          ∙ (ap (ended c.poll_at.new.self done.echo_sessions) sessions ∙
          ap (λ (h : HostValue). ended h done.echo_sessions done.sessions) c.poll_at.ensures.after);
    }
