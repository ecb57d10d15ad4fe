use Rattle.std.proofs.Common.{◌≡◌, ◌∙◌, refl, ap, rules, arith}
use Rattle.std.proofs.lemmas.Grind.{common_steps}
use Rattle.interface.specs.declared.listener.Listener.{Listener}
use Rattle.app_tun_services.specs.Link.Drain.{initial_drain}
use Rattle.app_tun_services.specs.Backlogs.{IsInitialListener}
use Rattle.app_tun_services.specs.declared.slot.Service.TheVariants.{Streams, Page}
use Rattle.app_tun_services.proofs.host.Host.new.Goals as goal

pub returns-in-Ok-Ok-Ok-Ok-Ok-Ok-Ok-clause-begins : goal.returns-in-Ok-Ok-Ok-Ok-Ok-Ok-Ok-clause-begins
returns-in-Ok-Ok-Ok-Ok-Ok-Ok-Ok-clause-begins c =
    let it = c.in-Ok-Ok-Ok-Ok-Ok-Ok-Ok in
    let echoes : IsInitialListener Streams it.echoes = first_of (search rules, grind (arith, common_steps)) in
    let pages : IsInitialListener Page it.pages = first_of (search rules, grind (arith, common_steps)) in
    record {
      net = record { device = c.new-drain.ensures ∙ ap initial_drain c.capabilities.ensures; host = c.in_ok-interface.ensures.made; sockets = it.ensures };
      echoes = echoes.initial;
      pages = pages.initial;
      echo_sessions = rw it.is-5 at c.initial_sessions-echo_sessions.ensures.initial;
      sessions = rw it.is-6 at c.initial_sessions-sessions.ensures.initial;
      tally = refl;
    }

pub returns-in-Ok-Ok-Ok-Ok-Ok-Ok-Ok-clause-set_up : goal.returns-in-Ok-Ok-Ok-Ok-Ok-Ok-Ok-clause-set_up
returns-in-Ok-Ok-Ok-Ok-Ok-Ok-Ok-clause-set_up c =
    let it = c.in-Ok-Ok-Ok-Ok-Ok-Ok-Ok in
    let echoes : IsInitialListener Streams it.echoes = first_of (search rules, grind (arith, common_steps)) in
    let pages : IsInitialListener Page it.pages = first_of (search rules, grind (arith, common_steps)) in
    record {
      buffer = first_of (search rules, grind (arith, common_steps));
      request = first_of (search rules, grind (arith, common_steps));
      echoes = echoes.is;
      pages = pages.is;
      echo_sessions = rw it.is-5 at c.initial_sessions-echo_sessions.ensures.len;
      sessions = rw it.is-6 at c.initial_sessions-sessions.ensures.len;
    }
