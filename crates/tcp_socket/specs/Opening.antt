-- The offer that is opened where a segment is offered.
use Rattle.std.specs.Prelude.{ℕ, ◌+◌, ◌-◌, ◌≤◌, ◌^◌}
use Rattle.ip_wire.specs.Tcp.{header_len}
use Rattle.ip_wire.specs.TcpHeader.{TcpHeader}
use Rattle.socket_context.specs.Context.{ContextValue}
use Rattle.tcp_block.specs.Endpoints.{header_for}
use Rattle.tcp_block.specs.Rules.{Choice}
use Rattle.tcp_block.specs.Segments.{hop_limit_of}
use Rattle.tcp_block.specs.Unsettled.{EndsNear}
use Rattle.tcp_block.specs.Value.{TcpValue, queued_in}
use Rattle.tcp_block.specs.FourTuple.{FourTuple}
use Rattle.tcp_block.specs.OfferKind.{OfferKind}
use Rattle.tcp_block.specs.OpenOffer.{OpenOffer}

abbrev pub open_offer : OfferKind → ContextValue → TcpValue → FourTuple → TcpHeader → ℕ → ℕ → OpenOffer
open_offer kind cx v pair segment offset len = record {
  kind = kind;
  instant = cx.instant;
  header = header_for pair.addresses (hop_limit_of v.tcb.settings.hop_limit) (header_len segment + len);
  segment = segment;
  offset = offset;
  len = len;
}

-- what may be opened: it ends near SND.UNA
pub record MayOpen (v : TcpValue) (o : OpenOffer) : Type 0 where
  pub end : EndsNear o.kind v.tcb o

-- a part of the send queue, not far past SND.UNA
pub record IsPartOf (v : TcpValue) (c : Choice) : Type 0 where
  pub near : c.offset ≤ 2 ^ 31
  pub within : c.len ≤ queued_in v - c.offset
