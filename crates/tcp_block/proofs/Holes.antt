-- Where something is retransmitted.
use Rattle.std.proofs.Common.{◌≡◌, ℕ, ◌-◌, ◌≤◌, ◌==◌, ◌&&◌, ◌||◌, nat_lt, min, Bool, true, false, if◌then◌else◌, List, [], ◌∷◌, refl, ap, ◌∙◌, arith}
use Rattle.std.proofs.lemmas.Bool.{cond_both}
use Rattle.tcp_state.specs.Scoreboard.{is_run, gap_end}
pub use Rattle.tcp_state.proofs.NothingHeld.{first_of_none, none_lost}
use Rattle.tcp_state.specs.declared.scoreboard.Run.{Run}
use Rattle.tcp_block.specs.LossRecovery.{retransmit_offset, hole_offset, hole_len}
use Rattle.tcp_block.specs.declared.tcb.Tcb.{Tcb}

module _ (b : Tcb) (limit sent queued : ℕ) where
  abbrev In : (ℕ → Type 0) → Type 0
  In P = P 0 → P (min (sent - limit) queued) → P (min (hole_offset b limit sent) (min sent queued)) → P (retransmit_offset b limit sent queued)

  by_offset : (P : ℕ → Type 0) → In P
  by_offset P first tail hole =
      cond_both (b.sender.resend || (b.sender.flight_size == 0)) 0
      (if b.loss.probes then min (sent - limit) queued else min (hole_offset b limit sent) (min sent queued)) P
      (λ _. first)
      (λ _. cond_both b.loss.probes (min (sent - limit) queued) (min (hole_offset b limit sent) (min sent queued)) P (λ _. tail) (λ _. hole))

  -- in the send queue, or right after it
  pub again_within : retransmit_offset b limit sent queued ≤ queued
  again_within = by_offset (λ (offset : ℕ). offset ≤ queued) (omega arith) (omega arith) (omega arith)

  -- in what was sent
  pub again_sent : retransmit_offset b limit sent queued ≤ sent
  again_sent = by_offset (λ (offset : ℕ). offset ≤ sent) (omega arith) (omega arith) (omega arith)

either_way : (resend : Bool) → (resend || true) ≡ true
either_way true = refl
either_way false = refl

-- where nothing is in flight, from SND.UNA on
pub again_first : (b : Tcb) (limit sent queued : ℕ) → b.sender.flight_size ≡ 0 → retransmit_offset b limit sent queued ≡ 0
again_first b limit sent queued none =
    ap (λ (flight : ℕ). if b.sender.resend || (flight == 0) then 0
    else if b.loss.probes then min (sent - limit) queued else min (hole_offset b limit sent) (min sent queued))
    none
    ∙ ap (λ (t : Bool). if t then 0 else if b.loss.probes then min (sent - limit) queued else min (hole_offset b limit sent) (min sent queued))
    (either_way b.sender.resend)

at_most : (a b c : ℕ) → a ≤ b → b ≤ c → a ≤ c
at_most a b c e f = omega arith

gap_least : (runs : List Run) (offset most : ℕ) → gap_end runs offset most ≤ most
gap_least [] offset most = omega arith
gap_least (r ∷ rs) offset most =
    cond_both (is_run r && nat_lt offset r.start) (min most r.start) most (λ (end : ℕ). gap_end rs offset end ≤ most)
    (λ _. at_most (gap_end rs offset (min most r.start)) (min most r.start) most (gap_least rs offset (min most r.start)) (omega arith))
    (λ _. gap_least rs offset most)

-- no further than what was sent
pub hole_least : (b : Tcb) (offset sent : ℕ) → hole_len b offset sent ≤ sent - offset
hole_least b offset sent =
    cond_both b.sender.syn_unacked (sent - offset) (gap_end b.loss.board.runs offset sent - offset) (λ (len : ℕ). len ≤ sent - offset) (λ _. omega arith)
    (λ _. less (gap_end b.loss.board.runs offset sent) sent offset (gap_least b.loss.board.runs offset sent))
  where
    less : (a b c : ℕ) → a ≤ b → a - c ≤ b - c
    less a b c e = omega arith
