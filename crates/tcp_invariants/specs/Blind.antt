-- Blind acknowledgements in a row: none of them says what else of a recovery is lost (RFC 6582, 3.2, step 3).
use Rattle.std.specs.Prelude.{◌≡◌, ℕ, ◌-◌, ◌==◌, ℤ, true, false, List, [], ◌∷◌}
use Rattle.tcp_block.specs.Acknowledged.{is_blind, una_moved}
use Rattle.tcp_block.specs.declared.tcb.Tcb.{Tcb}

-- how many positions are acknowledged, of how many bytes in the send queue, and when
pub record Acked : Type 0 where
  pub by : ℕ
  pub queued : ℕ
  pub instant : ℤ

-- SND.UNA has risen by each of them, the first of the list first
abbrev pub after_all : List Acked → Tcb → Tcb
after_all [] b = b
after_all (ack ∷ more) b = after_all more (una_moved b ack.by ack.queued ack.instant)

-- each is blind, and something stays in flight
abbrev pub AreBlind : List Acked → Tcb → Type 0
AreBlind [] b = Unit {0}
AreBlind (ack ∷ more) b =
    (is_blind b ack.by ≡ true) × ((b.sender.flight_size - ack.by == 0) ≡ false) × AreBlind more (una_moved b ack.by ack.queued ack.instant)
