-- A whole connection is a run: its fragments, joined.
use Rattle.std.proofs.Common.{◌≡◌, ◌++◌, refl, sym, ap, ◌∙◌, subst}
use Rattle.lan.specs.declared.at_link.history.event.Side.TheVariants.{A, B}
use Rattle.lan.specs.Worlds.AtLink.Call as Call
use Rattle.lan.specs.Worlds.AtLink.Moves.{IsRun, run}
use Rattle.proof_stack.specs.Worlds.Connection.{telling, told, ending, half_closed, closing, closed, whole}
use Rattle.proof_stack.specs.Worlds.Hosts.{no_names, text}
use Rattle.proof_stack.specs.Worlds.Opening.{opening, opened}
use Rattle.proof_stack.specs.Worlds.Played.{Play, done, start, steps_of}
use Rattle.proof_stack.specs.Worlds.Played.Doing.{Asks, Calls, Comes}
use Rattle.proof_stack.proofs.Runs.OpeningRun.{opening_run}
use Rattle.proof_stack.proofs.Runs.Playing.{comes_whole, leaves_now, run_on, net_played, played_append}
use Rattle.proof_stack.proofs.Runs.Worlds as Worlds
use Rattle.proof_stack.proofs.Runs.Worlds.{opened_is, told_is, half_closed_is}

tells_from : IsRun no_names Worlds.opened.net (steps_of Worlds.opened telling)
tells_from = (
  (refl, refl, refl, (refl, refl, refl)),
  ((refl, leaves_now A (done Worlds.opened (Calls A (Call.Send text)))), ((refl, refl, comes_whole 2 refl), ((refl, refl, comes_whole 2 refl), ((refl, refl, refl, (refl, refl, refl)), tt)))),
)

ends_from : IsRun no_names Worlds.told.net (steps_of Worlds.told ending)
ends_from = (
  (refl, refl, refl, (refl, refl, refl)),
  ((refl, leaves_now A (done Worlds.told (Calls A Call.Close))), ((refl, refl, comes_whole 3 refl), ((refl, refl, refl, (refl, refl, refl)), tt))),
)

closes_from : IsRun no_names Worlds.half_closed.net (steps_of Worlds.half_closed closing)
closes_from = (
  (refl, refl, refl, (refl, refl, refl)),
  ((refl, leaves_now B (done Worlds.half_closed (Calls B Call.Close))), ((refl, refl, comes_whole 2 refl), ((refl, leaves_now A (done (done (done Worlds.half_closed (Calls B Call.Close)) (Asks B)) (Comes A 1))), ((refl, refl, comes_whole 4 refl), tt)))),
)

pub telling_run : IsRun no_names opened.net (steps_of opened telling)
telling_run = subst (λ (p : Play). IsRun no_names p.net (steps_of p telling)) (sym opened_is) tells_from

pub ending_run : IsRun no_names told.net (steps_of told ending)
ending_run = subst (λ (p : Play). IsRun no_names p.net (steps_of p ending)) (sym told_is) ends_from

pub closing_run : IsRun no_names half_closed.net (steps_of half_closed closing)
closing_run = subst (λ (p : Play). IsRun no_names p.net (steps_of p closing)) (sym half_closed_is) closes_from

pub telling_leads : run opened.net (steps_of opened telling) ≡ told.net
telling_leads = net_played opened telling

pub ending_leads : run told.net (steps_of told ending) ≡ half_closed.net
ending_leads = net_played told ending

pub closing_leads : run half_closed.net (steps_of half_closed closing) ≡ closed.net
closing_leads = net_played half_closed closing

pub whole_run : IsRun no_names start.net (steps_of start whole)
whole_run =
    run_on no_names start opening (telling ++ (ending ++ closing)) opening_run
    (run_on no_names opened telling (ending ++ closing) telling_run (run_on no_names told ending closing ending_run closing_run))

pub whole_leads : run start.net (steps_of start whole) ≡ closed.net
whole_leads =
    net_played start whole
    ∙ ap (λ (p : Play). p.net) (played_append start opening (telling ++ (ending ++ closing)) ∙ played_append opened telling (ending ++ closing) ∙
    played_append told ending closing)
