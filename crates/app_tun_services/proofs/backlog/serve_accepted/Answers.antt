use Rattle.std.proofs.Common.{◌≡◌, ◌<◌, length, vec_len, rules, arith, ap, ◌∙◌, sym, refl}
use Rattle.std.proofs.lemmas.Grind.{common_steps}
use Rattle.interface.specs.declared.listener.Listener.{Listener}
use Rattle.app_tun_services.specs.Services.{echo_room, most_request, first_slot, socket_count}
use Rattle.app_tun_services.proofs.Connections.{served_none, served_more, served_all}
use Rattle.app_tun_services.proofs.backlog.serve_accepted.Goals as goal

pub loop-at-init : goal.loop-at-init
loop-at-init c = (
  c.requires.buffer,
  c.requires.request,
  refl,
  served_none c.args.moment.now (first_slot c.args.service) (socket_count c.args.service) c.args.service c.args.slots.now c.args.sessions.now
      c.args.listener.now.entries.items c.requires.stands,
)

-- one entry more
pub loop-at-preserved : goal.loop-at-preserved
loop-at-preserved c =
    let so_far = c.loop-at.invariant in
    let mid = c.loop-at.listener in
    let within : c.loop-at.at < length mid.entries.items = omega (arith, so_far.3.entries) in
    let kept : length c.args.sessions.now ≡ length c.args.listener.now.entries.items = c.requires.sessions ∙ sym c.requires.stands.long in (
      first_of (search rules, grind (arith, common_steps)),
      first_of (search rules, grind (arith, common_steps)),
      c.serve_one.ensures.rest ∙ ap (λ (l : Listener). record l { entries = c.serve_one.new.listener.entries }) so_far.2,
      served_more c.loop-at.at c.args.moment.now (first_slot c.args.service) c.args.service c.args.slots.now c.args.sessions.now
          c.args.listener.now.entries.items
          c.loop-at.slots c.loop-at.sessions mid.entries.items so_far.3 within
          c.serve_one.new.slots c.serve_one.new.sessions c.serve_one.new.listener.entries.items kept c.serve_one.ensures.served,
    )

pub serve_one-requires-clause-within : goal.serve_one-requires-clause-within
serve_one-requires-clause-within c = omega (arith, c.loop-at.invariant.3.entries)

pub serve_one-requires-clause-sessions : goal.serve_one-requires-clause-sessions
serve_one-requires-clause-sessions c =
    omega (arith, c.loop-at.invariant.3.entries, c.loop-at.invariant.3.sessions, c.requires.sessions, c.requires.stands.long)

pub returns-clause-served : goal.returns-clause-served
returns-clause-served c =
    served_all c.loop-at.at c.args.moment.now (first_slot c.args.service) c.args.service c.args.slots.now c.args.sessions.now
    c.args.listener.now.entries.items
    c.loop-at.slots c.loop-at.sessions c.loop-at.listener.entries.items c.loop-at.invariant.3 (omega arith)
