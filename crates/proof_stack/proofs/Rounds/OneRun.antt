-- A history leads from two hosts to the same two hosts.
use Rattle.std.proofs.Common.{◌≡◌, List, [], ◌∷◌, refl, sym, ap, ◌∙◌, subst}
use Rattle.lan.specs.declared.at_link.history.event.Event.{Event}
use Rattle.lan.specs.Worlds.AtLink.History.{Entry}
use Rattle.lan.specs.Worlds.AtLink.Runs.{Leads, Starts, Step, Steps, WorldRun, WorldValue}
use Rattle.lan.specs.Worlds.AtLink.Node.{Nodes}

-- a list of events leads from one world to one world
abbrev pub Once : Type 0
Once = (old one other : WorldValue) (events : List Event) → Steps old events one → Steps old events other → one ≡ other

module _ (once : Once) (starts : Starts) where
  abbrev world : List Entry → Nodes → WorldValue
  world history hosts = record { hosts = hosts; starts = starts; history = history }

  step : (past : List Entry) (old new : Nodes) (e : Entry) → Leads past old e new → Step (world past old) e.event e.answer (world (e ∷ past) new)
  step past old new e leads = record { entry = e; event_kept = refl; answer_kept = refl; leads = leads; history = refl; starts = refl }

  steps : (past : List Entry) (old new : Nodes) (e : Entry) → Leads past old e new → Steps (world past old) (e.event ∷ []) (world (e ∷ past) new)
  steps past old new e leads = (e.answer, world (e ∷ past) new, step past old new e leads, refl)

  leads_once : (past : List Entry) (old one other : Nodes) (e : Entry) → Leads past old e one → Leads past old e other → one ≡ other
  leads_once past old one other e first second =
      ap (λ (w : WorldValue). w.hosts)
      (once (world past old) (world (e ∷ past) one) (world (e ∷ past) other) (e.event ∷ []) (steps past old one e first) (steps past old other e second))

  pub runs_once : (history : List Entry) (from one other : Nodes) → WorldRun history from one → WorldRun history from other → one ≡ other
  runs_once [] from one other first second = first ∙ sym second
  runs_once (e ∷ past) from one other (before, ran, leads) (again, run, lead) =
      leads_once past before one other e leads
      (subst (λ (hosts : Nodes). Leads past hosts e other) (runs_once past from again before run ran) lead)
