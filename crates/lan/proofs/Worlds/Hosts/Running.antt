-- Each host of a world is a run of its machine: by recursion on the history.
use Rattle.std.proofs.Common.{◌≡◌, ℕ, ◌⊎◌, inl, inr, if◌then◌else◌, List, [], ◌∷◌, ◌++◌, length, map, take, drop, refl, sym, ap, ◌∙◌, subst, append_assoc}
use Rattle.std.proofs.Common.{append-nil}
use Rattle.std.proofs.lemmas.List.{map-append, take_at, drop_at}
use Rattle.lan.specs.Worlds.AtLink.History.{Entry, Counts}
use Rattle.lan.specs.Worlds.AtLink.Kinds.{Act, Kind, kind_of}
use Rattle.lan.specs.Worlds.AtLink.Kinds.Kind.{OfHost}
use Rattle.lan.specs.Worlds.AtLink.Side.{Side}
use Rattle.lan.specs.Worlds.AtLink.Side.TheVariants.{A, B}
use Rattle.lan.specs.Worlds.AtLink.Origins.{frame_of_origin, origins_of, origins, sent_before, is_cut_of, own_frames}
use Rattle.lan.specs.Worlds.AtLink.Runs.{Starts, start, unused, unused_both, WorldValue, Leads, WorldRun, counts_of, tables_in}
use Rattle.lan.specs.Worlds.AtLink.Node.{NodeValue, Nodes, node}
use Rattle.lan.specs.Worlds.Hosts.Proceeds.{Proceeds}
use Rattle.lan.proofs.Worlds.Alone.{alone_at}
use Rattle.lan.proofs.Worlds.Hosts.There.{AreThere}
use Rattle.lan.specs.Worlds.Hosts.HostRuns.{Deed, deed_of, deed_in, deeds, frames_sent, frames_taken, IsHostRun}
use Rattle.lan.specs.Worlds.Hosts.Machine.{Turn, Machine, machine_of, HostRun, room_after, room_following}
use Rattle.lan.proofs.Worlds.Hosts.Acting.{IsTurn, is_turn, turn_of, step_of}
use Rattle.lan.proofs.Worlds.Hosts.Moving.{HasActed, HasRested, moved, proceeds}
use Rattle.lan.proofs.Worlds.Hosts.Staying.{allowed_there, all_same, still_there, origins_stay}

abbrev pub world : Starts → List Entry → Nodes → WorldValue
world starts history hosts = record { hosts = hosts; starts = starts; history = history }

-- a host's run so far, which left so much room; and what was handed to it is there
pub record IsNow (w : WorldValue) (side : Side) : Type 0 where
  pub run : IsHostRun w side
  pub room : room_after (unused (start w.starts side)).link.room run.turns ≡ (node w.hosts side).link.room
  pub there : AreThere w.hosts side w.history

first : (starts : Starts) (side : Side) → IsNow (world starts [] (unused_both starts)) side
first starts A = record { run = record { turns = []; run = refl; deeds_are = refl; sent = refl; taken = refl }; room = refl; there = tt }
first starts B = record { run = record { turns = []; run = refl; deeds_are = refl; sent = refl; taken = refl }; room = refl; there = tt }

sent_count : (hosts : Nodes) (side : Side) → sent_before (counts_of hosts) side ≡ length (node hosts side).link.sent
sent_count hosts A = refl
sent_count hosts B = refl

acted_deed : (side : Side) (act : Act) (e : Entry) →
    deed_in side (OfHost side act) e ≡ (let d : Deed = record { act = act; answer = e.answer; found = e.found } in d ∷ [])
acted_deed A act e = refl
acted_deed B act e = refl

module _ (starts : Starts) (past : List Entry) (old new : Nodes) (e : Entry) (side : Side) (leads : Leads past old e new)
    (now : IsNow (world starts past old) side) where
  abbrev s : NodeValue
  s = node old side

  abbrev s' : NodeValue
  s' = node new side

  abbrev k : Kind
  k = kind_of e.event

  on : (side : Side) → Proceeds (node old side) (node new side)
  on = proceeds past old new e leads

  counted : length s.link.sent ≡ sent_before e.before side
  counted = sym (ap (λ (c : Counts). sent_before c side) leads.counted ∙ sent_count old side)

  -- its own frames among the sent ones
  own_more : (more : List (List ℕ)) → s'.link.sent ≡ s.link.sent ++ more → own_frames side (e ∷ past) s'.link.sent ≡ own_frames side past s.link.sent ++
      (if is_cut_of side k then [] else more)
  own_more more is =
      ap (λ (xs : List (List ℕ)). own_frames side past (take (sent_before e.before side) xs) ++
      (if is_cut_of side k then [] else drop (sent_before e.before side) xs)) is
      ∙ ap (λ (xs : List (List ℕ)). own_frames side past xs ++ (if is_cut_of side k then [] else drop (sent_before e.before side) (s.link.sent ++ more)))
      (take_at s.link.sent more (sent_before e.before side) counted)
      ∙ ap (λ (xs : List (List ℕ)). own_frames side past s.link.sent ++
      (if is_cut_of side k then [] else xs)) (drop_at s.link.sent more (sent_before e.before side) counted)

  -- what was handed to it, before and now
  handed_more : map (frame_of_origin new) (origins side (e ∷ past)) ≡ map (frame_of_origin old) (origins side past) ++
      map (frame_of_origin old) (origins_of side k)
  handed_more =
      map-append (frame_of_origin new) (origins side past) (origins_of side k)
      ∙ ap (λ (fs : List (List ℕ)). fs ++ map (frame_of_origin new) (origins_of side k)) (origins_stay old new on side past now.there)
      ∙ ap (λ (fs : List (List ℕ)). map (frame_of_origin old) (origins side past) ++ fs)
      (all_same old new on (origins_of side k) (allowed_there old (tables_in past old) side k leads.allowed))

  there_now : AreThere new side (e ∷ past)
  there_now = still_there old new on side (e ∷ past) (allowed_there old (tables_in past old) side k leads.allowed, now.there)

  -- IT ACTED

  module _ (acted : HasActed old new side k e) where
    t : IsTurn s acted.act s'
    t = is_turn s s' acted.act e.answer e.found (alone_at old leads.alone side) acted.acts

    abbrev turn : Turn
    turn = turn_of s s' acted.act e.answer e.found t

    none_handed : map (frame_of_origin old) (origins_of side k) ≡ []
    none_handed = ap (λ (x : Kind). map (frame_of_origin old) (origins_of side x)) acted.is

    acted_taken : (frames_taken now.run.turns ++ t.taken) ++ s'.link.waiting ≡ map (frame_of_origin new) (origins side (e ∷ past))
    acted_taken =
        append_assoc (frames_taken now.run.turns) t.taken s'.link.waiting
        ∙ ap (λ (fs : List (List ℕ)). frames_taken now.run.turns ++ fs) (sym t.waiting)
        ∙ now.run.taken
        ∙ sym (append-nil (map (frame_of_origin old) (origins side past)))
        ∙ ap (λ (fs : List (List ℕ)). map (frame_of_origin old) (origins side past) ++ fs) (sym none_handed)
        ∙ sym handed_more

    acted_sent : own_frames side (e ∷ past) s'.link.sent ≡ frames_sent now.run.turns ++ turn.sent
    acted_sent =
        own_more turn.sent t.sent
        ∙ ap (λ (x : Kind). own_frames side past s.link.sent ++ (if is_cut_of side x then [] else turn.sent)) acted.is
        ∙ ap (λ (fs : List (List ℕ)). fs ++ turn.sent) now.run.sent

    acted_now : IsNow (world starts (e ∷ past) new) side
    acted_now = record {
      run = record {
        turns = turn ∷ now.run.turns;
        run = (machine_of s, now.run.run, sym now.room, step_of s s' acted.act e.answer e.found t (alone_at old leads.alone side) acted.acts);
        deeds_are =
            ap (λ (ds : List Deed). deed_of turn ∷ ds) now.run.deeds_are
            ∙ ap (λ (ds : List Deed). ds ++ deeds side past) (sym (ap (λ (x : Kind). deed_in side x e) acted.is ∙ acted_deed side acted.act e));
        sent = acted_sent;
        taken = acted_taken;
      };
      room = ap (λ (n : ℕ). room_following acted.act n (length t.departures)) now.room ∙ sym t.room;
      there = there_now;
    }

  -- IT RESTED

  module _ (rested : HasRested old new side k e) where
    rested_taken : frames_taken now.run.turns ++ s'.link.waiting ≡ map (frame_of_origin new) (origins side (e ∷ past))
    rested_taken =
        ap (λ (fs : List (List ℕ)). frames_taken now.run.turns ++ fs) rested.waiting
        ∙ sym (append_assoc (frames_taken now.run.turns) s.link.waiting (map (frame_of_origin old) (origins_of side k)))
        ∙ ap (λ (fs : List (List ℕ)). fs ++ map (frame_of_origin old) (origins_of side k)) now.run.taken
        ∙ sym handed_more

    rested_sent : own_frames side (e ∷ past) s'.link.sent ≡ frames_sent now.run.turns
    rested_sent =
        own_more rested.more rested.sent
        ∙ ap (λ (fs : List (List ℕ)). own_frames side past s.link.sent ++ fs) rested.own
        ∙ append-nil (own_frames side past s.link.sent)
        ∙ now.run.sent

    rested_now : IsNow (world starts (e ∷ past) new) side
    rested_now = record {
      run = record {
        turns = now.run.turns;
        run =
            subst (λ (m : Machine). HostRun (machine_of (unused (start starts side))) (unused (start starts side)).link.room now.run.turns m)
            (sym rested.machine) now.run.run;
        deeds_are = now.run.deeds_are ∙ ap (λ (ds : List Deed). ds ++ deeds side past) (sym rested.deeds);
        sent = rested_sent;
        taken = rested_taken;
      };
      room = now.room ∙ sym rested.room;
      there = there_now;
    }

  next : IsNow (world starts (e ∷ past) new) side
  next = by (moved old e new k leads.happens side) where
    by : HasActed old new side k e ⊎ HasRested old new side k e → IsNow (world starts (e ∷ past) new) side
    by (inl acted) = acted_now acted
    by (inr rested) = rested_now rested

pub nows : (starts : Starts) (history : List Entry) (hosts : Nodes) → WorldRun history (unused_both starts) hosts → (side : Side) →
    IsNow (world starts history hosts) side
nows starts [] hosts run side = subst (λ (x : Nodes). IsNow (world starts [] x) side) (sym run) (first starts side)
nows starts (e ∷ past) hosts run side = next starts past run.0 hosts e side run.2 (nows starts past run.0 run.1 side)

pub host_runs : (starts : Starts) (history : List Entry) (hosts : Nodes) (side : Side) → WorldRun history (unused_both starts) hosts →
    IsHostRun (world starts history hosts) side
host_runs starts history hosts side run = (nows starts history hosts run side).run
