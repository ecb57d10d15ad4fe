use Rattle.std.proofs.Common.{◌≡◌, ◌∙◌, List, ap, subst, refl}
use Rattle.interface.specs.Set.{slots}
use Rattle.interface.specs.Backlog.Calls.{micros_of}
use Rattle.interface.specs.declared.listener.entry.Entry.{Entry}
use Rattle.app_tun_services.specs.Idle.{moment_at}
use Rattle.app_tun_services.specs.declared.idle.Moment.{Moment}
use Rattle.app_tun_services.specs.Tallies.{counts_of, more_waiting, collected}
use Rattle.app_tun_services.specs.Turns.{served_of, ServicesServe}
use Rattle.app_tun_services.specs.Services.{first_slot, socket_count}
use Rattle.app_tun_services.specs.declared.slot.Service.TheVariants.{Streams, Page}
use Rattle.app_tun_services.proofs.Connections.{refreshed_stand, seen_as, still_listener}
use Rattle.app_tun_services.proofs.host.serve.Goals as goal

pub serve_set-requires-clause-echoes : goal.serve_set-requires-clause-echoes
serve_set-requires-clause-echoes c =
    let l = c.args.echoes.now in
    refreshed_stand l.endpoint (micros_of c.args.now) (first_slot Streams) (socket_count Streams) l.keepers.items (slots c.args.sockets.now) l.entries.items
    (slots c.refresh.new.set) c.refresh.new.self.entries.items
    c.refresh.ensures.refreshed c.requires.echoes.stands

pub serve_set-requires-clause-pages : goal.serve_set-requires-clause-pages
serve_set-requires-clause-pages c =
    let l = c.args.pages.now in
    refreshed_stand l.endpoint (micros_of c.args.now) (first_slot Page) (socket_count Page) l.keepers.items (slots c.refresh.new.set) l.entries.items
    (slots c.refresh-2.new.set) c.refresh-2.new.self.entries.items
    c.refresh-2.ensures.refreshed c.requires.pages.stands

pub returns-clause-serve : goal.returns-clause-serve
returns-clause-serve c =
    let echoes = c.refresh.new.self.entries.items in
    let pages = c.refresh-2.new.self.entries.items in
    let ready = served_of (slots c.refresh-2.new.set) echoes pages c.args.echo_sessions.now c.args.sessions.now in
    let done = served_of (slots c.serve_set.new.sockets) c.serve_set.new.echoes.entries.items c.serve_set.new.pages.entries.items c.serve_set.new.echo_sessions
    c.serve_set.new.sessions in
    let counted : c.counts.result ≡ counts_of c.args.device.now (more_waiting echoes pages c.args.tally.now) =
    c.counts.ensures ∙ ap (counts_of c.args.device.now) c.count_waiting.ensures in
    let moment : c.moment_at-moment.result ≡
    moment_at c.args.now pages c.args.sessions.now (counts_of c.args.device.now (more_waiting echoes pages c.args.tally.now)) =
    c.moment_at-moment.ensures ∙
    (ap (λ (es : List Entry). moment_at c.args.now es c.args.sessions.now c.counts.result) c.as_slice.ensures.value ∙
    ap (moment_at c.args.now pages c.args.sessions.now) counted) in
    record {
      seen = slots c.refresh.new.set;
      ready = ready;
      done = c.serve_set.new.sessions;
      sees_echoes = seen_as Streams c.args.echoes.now (micros_of c.args.now) (slots c.args.sockets.now) c.args.echoes.now.entries.items
          (slots c.refresh.new.set) echoes
          c.requires.echoes c.refresh.ensures.refreshed;
      sees_pages = seen_as Page c.args.pages.now (micros_of c.args.now) (slots c.refresh.new.set) c.args.pages.now.entries.items
          (slots c.refresh-2.new.set) pages
          c.requires.pages c.refresh-2.ensures.refreshed;
      same = (refl, refl);
      serves = subst (λ (n : Moment). ServicesServe n ready done) moment c.serve_set.ensures.serve;
      sessions = c.collect.ensures.sessions;
      tally = c.collect.ensures.tally ∙ ap (collected c.serve_set.new.sessions) c.count_waiting.ensures;
    }

pub returns-clause-echoes : goal.returns-clause-echoes
returns-clause-echoes c =
    still_listener _ Streams c.args.echoes.now c.refresh.new.self c.serve_set.new.echoes (micros_of c.args.now) (slots c.args.sockets.now)
    (slots c.refresh.new.set) _ _ _ _
    c.requires.echoes c.refresh.ensures.refreshed c.refresh.ensures.endpoint c.refresh.ensures.keepers c.serve_set.ensures.serve.serves_streams
    c.serve_set.ensures.echoes

pub returns-clause-pages : goal.returns-clause-pages
returns-clause-pages c =
    still_listener _ Page c.args.pages.now c.refresh-2.new.self c.serve_set.new.pages (micros_of c.args.now) (slots c.refresh.new.set)
    (slots c.refresh-2.new.set) _ _ _ _
    c.requires.pages c.refresh-2.ensures.refreshed c.refresh-2.ensures.endpoint c.refresh-2.ensures.keepers c.serve_set.ensures.serve.serves_pages
    c.serve_set.ensures.pages
