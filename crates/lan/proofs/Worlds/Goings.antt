-- One event more.
use Rattle.std.proofs.Common.{◌≡◌, ◌≤◌, ℕ, List, ◌∷◌, length, None, refl, sym, subst, ◌∙◌, ap}
use Rattle.lan.specs.Worlds.AtLink.History.{Entry}
use Rattle.lan.specs.Worlds.AtLink.Kinds.{kind_of}
use Rattle.lan.specs.declared.at_link.history.event.Side.{Side}
use Rattle.lan.specs.declared.at_link.history.event.Side.TheVariants.{A, B}
use Rattle.lan.specs.declared.at_link.history.event.Event.{Event}
use Rattle.lan.specs.declared.at_link.history.answer.Answer.{Answer}
use Rattle.net_base.specs.Medium.{Medium}
use Rattle.lan.specs.Worlds.AtLink.Origins.{medium_of, numbered}
use Rattle.lan.specs.Worlds.AtLink.Records.{table_next}
use Rattle.lan.specs.Worlds.AtLink.Refusals.{Table, Tables, refusal}
use Rattle.lan.specs.Worlds.AtLink.Runs.{WorldValue, Step, Leads, table_in, counts_of, refusal_in}
use Rattle.lan.specs.Worlds.AtLink.Node.{NodeValue, Nodes, node}
use Rattle.lan.specs.Worlds.AtLink.Steps.{Happens}
use Rattle.lan.specs.Worlds.Events.{IsTyped}
use Rattle.lan.specs.Worlds.Provenance.{both, starts_of, tables, world, HasCome}
use Rattle.lan.specs.Worlds.EventHistory.{counts_in, entry}
use Rattle.lan.specs.declared.history.Note.{Note}
use Rattle.lan.proofs.Worlds.StillOnward.{onward}

-- the law of tables, which `at_link` proves
abbrev pub TablesProceed : Type 0
TablesProceed =
    (past : List Entry) (e : Entry) (old new : Nodes) (side : Side)
    → e.before ≡ counts_of old
    → Happens old (kind_of e.event) e.answer e.found new
    → table_in (e ∷ past) side (node new side)
    ≡ table_next side (kind_of e.event) e.answer (length (node old side).link.sent) (node new side) (table_in past side (node old side))

-- and that of numbers
abbrev pub NumbersAreFew : Type 0
NumbersAreFew = (medium : Medium) (side : Side) (history : List Entry) (sent : List (List ℕ)) → numbered medium side history sent ≤ length sent

module _ (start_a start_b a b new_a new_b : NodeValue) (of_a of_b next_a next_b : Table) (past : List Entry) (e : Entry) where
  -- the event is none that had to be refused
  pub allowed_in : HasCome start_a start_b a b of_a of_b past → refusal (both a b) (tables of_a of_b) (kind_of e.event) ≡ None
      → refusal_in past (both a b) e.event ≡ None
  allowed_in come allowed = subst (λ (t : Tables). refusal (both a b) t (kind_of e.event) ≡ None) come.tables allowed

  pub leads : HasCome start_a start_b a b of_a of_b past → refusal (both a b) (tables of_a of_b) (kind_of e.event) ≡ None
      → e.before ≡ counts_of (both a b) → Happens (both a b) (kind_of e.event) e.answer e.found (both new_a new_b)
      → Leads past (both a b) e (both new_a new_b)
  leads come allowed counted happens = record { allowed = allowed_in come allowed; counted = counted; alone = come.alone; happens = happens }

  pub proceeds : TablesProceed → IsTyped (kind_of e.event) → HasCome start_a start_b a b of_a of_b past →
      refusal (both a b) (tables of_a of_b) (kind_of e.event) ≡ None
      → e.before ≡ counts_of (both a b) → Happens (both a b) (kind_of e.event) e.answer e.found (both new_a new_b)
      → next_a ≡ table_next A (kind_of e.event) e.answer (length a.link.sent) new_a of_a
      → next_b ≡ table_next B (kind_of e.event) e.answer (length b.link.sent) new_b of_b
      → HasCome start_a start_b new_a new_b next_a next_b (e ∷ past)
  proceeds law typed come allowed counted happens is_a is_b =
      let of_a_is : of_a ≡ table_in past A a = ap (λ (t : Tables). t.a) come.tables in
      let of_b_is : of_b ≡ table_in past B b = ap (λ (t : Tables). t.b) come.tables in
      let a_is : next_a ≡ table_in (e ∷ past) A new_a =
      is_a ∙ ap (λ (t : Table). table_next A (kind_of e.event) e.answer (length a.link.sent) new_a t) of_a_is ∙
      sym (law past e (both a b) (both new_a new_b) A counted happens) in
      let b_is : next_b ≡ table_in (e ∷ past) B new_b =
      is_b ∙ ap (λ (t : Table). table_next B (kind_of e.event) e.answer (length b.link.sent) new_b t) of_b_is ∙
      sym (law past e (both a b) (both new_a new_b) B counted happens) in
      let on : (s : Side) → (node (both new_a new_b) s).host.inner.host_requirements ≡ (node (both a b) s).host.inner.host_requirements =
      λ s. (onward (starts_of start_a start_b) (both a b) (both new_a new_b) past e (leads come allowed counted happens) s).host_requirements in
      record {
        initial = come.initial;
        run = (both a b, come.run, leads come allowed counted happens);
        tables = rw (a_is, b_is) refl;
        typed = (typed, come.typed);
        alone = (on A ∙ come.alone.0, on B ∙ come.alone.1);
      }

  -- it is a step of the world
  pub step_is : HasCome start_a start_b a b of_a of_b past → refusal (both a b) (tables of_a of_b) (kind_of e.event) ≡ None
      → e.before ≡ counts_of (both a b) → Happens (both a b) (kind_of e.event) e.answer e.found (both new_a new_b)
      → Step (world start_a start_b a b past) e.event e.answer (world start_a start_b new_a new_b (e ∷ past))
  step_is come allowed counted happens = record {
    entry = e;
    event_kept = refl;
    answer_kept = refl;
    leads = leads come allowed counted happens;
    history = refl;
    starts = refl;
  }

-- what the tables say is what the history says
pub agrees : (start_a start_b a b : NodeValue) (of_a of_b : Table) (past : List Entry) (event : Event) (old : WorldValue) →
    HasCome start_a start_b a b of_a of_b past
    → world start_a start_b a b past ≡ old → refusal (both a b) (tables of_a of_b) (kind_of event) ≡ refusal_in old.history old.hosts event
agrees start_a start_b a b of_a of_b past event old come is =
    ap (λ (t : Tables). refusal (both a b) t (kind_of event)) come.tables ∙ ap (λ (w : WorldValue). refusal_in w.history w.hosts event) is

-- a host sent at least as many frames as it numbered datagrams
pub few : (start_a start_b a b : NodeValue) (of_a of_b : Table) (past : List Entry) → NumbersAreFew → HasCome start_a start_b a b of_a of_b past
    → (of_a.numbered ≤ length a.link.sent) × (of_b.numbered ≤ length b.link.sent)
few start_a start_b a b of_a of_b past law come =
    let of_a_is : of_a ≡ table_in past A a = ap (λ (t : Tables). t.a) come.tables in
    let of_b_is : of_b ≡ table_in past B b = ap (λ (t : Tables). t.b) come.tables in
    (rw of_a_is (law (medium_of a) A past a.link.sent), rw of_b_is (law (medium_of b) B past b.link.sent))

-- an event that was taken is kept with its note and its answer
module _ (start_a start_b a b new_a new_b : NodeValue) (of_a of_b next_a next_b : Table) (past mid next : List Entry) (event : Event) (note : Note)
    (kept answer : Answer)
    (come : HasCome start_a start_b a b of_a of_b past) (allowed : refusal (both a b) (tables of_a of_b) (kind_of event) ≡ None)
    (counted : counts_in note.before ≡ counts_of (both a b)) (happens : Happens (both a b) (kind_of event) answer note.found (both new_a new_b))
    (pushed : next ≡ entry event note kept ∷ mid) (same : mid ≡ past) (is : kept ≡ answer) where
  next_is : next ≡ entry event note answer ∷ past
  next_is = pushed ∙ ap (λ (es : List Entry). entry event note kept ∷ es) same ∙ ap (λ (x : Answer). entry event note x ∷ past) is

  pub has_come : TablesProceed → IsTyped (kind_of event) → next_a ≡ table_next A (kind_of event) answer (length a.link.sent) new_a of_a →
      next_b ≡ table_next B (kind_of event) answer (length b.link.sent) new_b of_b
      → HasCome start_a start_b new_a new_b next_a next_b next
  has_come law typed is_a is_b =
      rw next_is (proceeds start_a start_b a b new_a new_b of_a of_b next_a next_b past (entry event note answer) law typed come allowed counted
      happens is_a is_b)

  pub has_stepped : (old : WorldValue) → world start_a start_b a b past ≡ old → Step old event answer (world start_a start_b new_a new_b next)
  has_stepped old is_old =
      rw next_is (
      subst (λ (w : WorldValue). Step w event answer (world start_a start_b new_a new_b (entry event note answer ∷ past))) is_old
      (step_is start_a start_b a b new_a new_b of_a of_b next_a next_b past (entry event note answer) come allowed counted happens)
      )
