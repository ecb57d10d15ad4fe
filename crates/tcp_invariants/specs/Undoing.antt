-- What may lie between a loss and the acknowledgement that says that there was none (RFC 4015).
use Rattle.std.specs.Prelude.{ℕ, ℤ, List, [], ◌∷◌}
use Rattle.ip_wire.specs.TcpHeader.{TcpHeader}
use Rattle.tcp_state.specs.declared.offer.OfferKind.{OfferKind}
use Rattle.tcp_state.specs.declared.offer.OpenOffer.{OpenOffer}
use Rattle.tcp_block.specs.Acknowledged.{counted, ranges_taken}
use Rattle.tcp_block.specs.LossRecovery.{loss_probed_by}
use Rattle.tcp_block.specs.Rules.{backed_off_now}
use Rattle.tcp_block.specs.Settled.{sent_as}
use Rattle.tcp_block.specs.declared.tcb.Tcb.{Tcb}

pub data Between : Type 0 where
  Goes : (kind : OfferKind) (o : OpenOffer) (queued : ℕ) → Between
  -- so many duplicates came in a row
  Duplicates : (count : ℕ) (now : ℤ) → Between
  Ranges : (header : TcpHeader) (now : ℤ) → Between
  -- a loss probe may be due
  Probes : (now : ℤ) → Between
  -- the retransmission timer
  RunsOut : Between

abbrev pub with_one : Between → Tcb → Tcb
with_one (Goes kind o queued) b = sent_as kind b o queued
with_one (Duplicates count now) b = counted b count now
with_one (Ranges header now) b = ranges_taken b header now
with_one (Probes now) b = loss_probed_by now b
with_one RunsOut b = backed_off_now b

-- the first of the list first
abbrev pub with_all : List Between → Tcb → Tcb
with_all [] b = b
with_all (it ∷ more) b = with_all more (with_one it b)
