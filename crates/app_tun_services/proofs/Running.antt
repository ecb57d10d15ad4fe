-- A run of turns, as far as it has come, and its end.
use Rattle.std.proofs.Common.{◌≡◌, ◌∙◌, ℕ, ◌+◌, ◌-◌, ◌^◌, arith, length, ℤ, pos, List, [], ◌∷◌, ◌++◌, Option, None, Some, Result, Ok, Err, IfSome, refl, sym}
use Rattle.std.proofs.Common.{subst}
use Rattle.std.specs.Prelude.{⊤}
use Rattle.std.specs.Io.KnownBytes.{Appends}
use Rattle.std.proofs.KnownBytes.{Appends-nil, Appends-trans}
use Rattle.app_tun_services.specs.Link.Turn.{Takes, Next, Refuses}
use Rattle.app_tun_services.specs.declared.link.turn.TurnError.{TurnError}
use Rattle.app_tun_services.specs.Settings.{settings_in}
use Rattle.app_tun_services.specs.Backlogs.{HostState}
use Rattle.app_tun_services.specs.Turns.{Turn, Arrives, Answers, Serves, Runs, Reads, BeginsNone, ArrivesNot, Ends, IsServed}
use Rattle.app_tun_services.specs.declared.error.ServeError.{ServeError}
use Rattle.app_tun_services.specs.declared.error.ServeError.TheVariants.{Turn as NoTurn, Settings as NoSettings, Address, Hardware, Memory, Writer, Turns}
use Rattle.app_tun_services.specs.declared.turns.TheConstants.{LONGEST}
use Rattle.app_tun_services.specs.declared.settings.Settings.{Settings}

-- these turns were read, where the bytes are known
abbrev pub ReadsTo : Option (List ℕ) → Option (List ℕ) → List Turn → ℤ → Type 0
ReadsTo None now past last = ⊤
ReadsTo (Some bytes) None past last = ⊥
ReadsTo (Some bytes) (Some left) past last = Reads bytes past last left

-- a run has come so far: how many turns, what was left of the input, what was written, the last instant, and the host
pub record IsRunning (n : ℕ) (input now before after : Option (List ℕ)) (last : ℤ) (host : Option HostState) : Type 0 where
  pub past : List Turn
  pub output : List ℕ
  pub count : length past ≡ n
  pub runs : Runs past output host
  pub writes : Appends before after output
  pub reads : ReadsTo input now past last

reads_none : (input : Option (List ℕ)) → ReadsTo input input [] (pos 0)
reads_none None = tt
reads_none (Some bytes) = (refl, refl)

pub running_none : (input before : Option (List ℕ)) → IsRunning 0 input input before before (pos 0) None
running_none input before = record { past = []; output = []; count = refl; runs = (refl, refl); writes = Appends-nil before; reads = reads_none input }

reads_more : (input now next : Option (List ℕ)) (past : List Turn) (last instant : ℤ) (packet : List ℕ) → ReadsTo input now past last
    → IfSome now (λ bytes. Next LONGEST last bytes (Some instant) packet next) → ReadsTo input next (record { instant = instant; packet = packet } ∷ past) instant
reads_more None now next past last instant packet reads comes = tt
reads_more (Some bytes) None next past last instant packet reads comes = absurd reads
reads_more (Some bytes) (Some left) None past last instant packet reads comes = absurd comes
reads_more (Some bytes) (Some left) (Some rest) past last instant packet reads comes = (last, left, reads, comes, refl)

-- one turn more
pub running_more : (n : ℕ) (input now next before after written : Option (List ℕ)) (last instant : ℤ) (old : Option HostState) (packet taken said : List ℕ)
    (host new : HostState)
    → IsRunning n input now before after last old
    → IfSome now (λ bytes. Next LONGEST last bytes (Some instant) packet next)
    → Arrives old (record { instant = instant; packet = packet }) host taken
    → Answers host instant taken said new → Appends after written said
    → IsRunning (n + 1) input next before written instant (Some new)
running_more n input now next before after written last instant old packet taken said host new run comes arrives answers writes =
    let turn : Turn = record { instant = instant; packet = packet } in
    let serves : Serves old turn said new = record { host = host; packet = taken; arrives = arrives; answers = answers } in
    record {
      past = turn ∷ run.past;
      output = run.output ++ said;
      count = omega (arith, run.count);
      runs = (run.output, old, said, new, run.runs, serves, refl, refl);
      writes = Appends-trans before after written run.output said run.writes writes;
      reads = reads_more input now next run.past last instant packet run.reads comes;
    }

-- ENDS

reads_ended : (input now : Option (List ℕ)) (past : List Turn) (last : ℤ) (host : Option HostState) (result : Result (Unit {0}) ServeError)
    → ReadsTo input now past last → IfSome now (λ left. Ends result past host last left)
    → IfSome input (λ bytes. (last : ℤ) × (left : List ℕ) × Reads bytes past last left × Ends result past host last left)
reads_ended None now past last host result reads ends = tt
reads_ended (Some bytes) None past last host result reads ends = absurd reads
reads_ended (Some bytes) (Some left) past last host result reads ends = (last, left, reads, ends)

too_many : (now : Option (List ℕ)) (past : List Turn) (last : ℤ) (host : Option HostState) → length past ≡ 2 ^ 64 - 1
    → IfSome now (λ left. Ends (Err Turns) past host last left)
too_many None past last host all = tt
too_many (Some left) past last host all = all

module _ (n : ℕ) (input now before after : Option (List ℕ)) (last : ℤ) (host : Option HostState) (run : IsRunning n input now before after last host) where
  pub ended : (result : Result (Unit {0}) ServeError) → IfSome now (λ left. Ends result run.past host last left)
      → (output : List ℕ) × IsServed input output result × Appends before after output
  ended result ends =
      (run.output, record { past = run.past; host = host; runs = run.runs; reads = reads_ended input now run.past last host result run.reads ends }, run.writes)

  pub at_end : IfSome now (λ left. left ≡ []) → (output : List ℕ) × IsServed input output (Ok tt) × Appends before after output
  at_end none = ended (Ok tt) none

  pub counted_out : n ≡ 2 ^ 64 - 1 → (output : List ℕ) × IsServed input output (Err Turns) × Appends before after output
  counted_out all = ended (Err Turns) (too_many now run.past last host (run.count ∙ all))

no_settings : (why : TurnError) (settings : Option Settings) → BeginsNone settings (NoTurn why) → ⊥
no_settings why None not = not
no_settings why (Some s) not = not

no_turn : (why : TurnError) (host : Option HostState) (packet : List ℕ) → ArrivesNot host packet (NoTurn why) → ⊥
no_turn why None packet not = no_settings why (settings_in packet) not
no_turn why (Some h) packet not = not

no_count_settings : (settings : Option Settings) → BeginsNone settings Turns → ⊥
no_count_settings None not = not
no_count_settings (Some s) not = not

no_count : (host : Option HostState) (packet : List ℕ) → ArrivesNot host packet Turns → ⊥
no_count None packet not = no_count_settings (settings_in packet) not
no_count (Some h) packet not = not

ends_not : (e : ServeError) (past : List Turn) (host : Option HostState) (last : ℤ) (left : List ℕ) (t : Turn) (rest : List ℕ) →
    Takes LONGEST last left t.instant t.packet rest
    → ArrivesNot host t.packet e → Ends (Err e) past host last left
ends_not (NoTurn why) past host last left t rest takes not = absurd (no_turn why host t.packet not)
ends_not NoSettings past host last left t rest takes not = (t, rest, takes, not)
ends_not Address past host last left t rest takes not = (t, rest, takes, not)
ends_not Hardware past host last left t rest takes not = (t, rest, takes, not)
ends_not Memory past host last left t rest takes not = (t, rest, takes, not)
ends_not Writer past host last left t rest takes not = (t, rest, takes, not)
ends_not Turns past host last left t rest takes not = absurd (no_count host t.packet not)

-- a turn that no host takes
pub refused_at : (now next : Option (List ℕ)) (past : List Turn) (last instant : ℤ) (host : Option HostState) (packet : List ℕ) (e : ServeError)
    → IfSome now (λ bytes. Next LONGEST last bytes (Some instant) packet next) → ArrivesNot host packet e → IfSome now (λ left. Ends (Err e) past host last left)
refused_at None next past last instant host packet e comes not = tt
refused_at (Some left) None past last instant host packet e comes not = absurd comes
refused_at (Some left) (Some rest) past last instant host packet e comes not =
    ends_not e past host last left (record { instant = instant; packet = packet }) rest comes not

-- a turn that can't be read
pub unread_at : (now : Option (List ℕ)) (past : List Turn) (last : ℤ) (host : Option HostState) (e : ServeError) (why : TurnError) → e ≡ NoTurn why
    → IfSome now (λ bytes. Refuses LONGEST last bytes why) → IfSome now (λ left. Ends (Err e) past host last left)
unread_at now past last host e why is refuses = subst (λ (e : ServeError). IfSome now (λ left. Ends (Err e) past host last left)) (sym is) refuses
