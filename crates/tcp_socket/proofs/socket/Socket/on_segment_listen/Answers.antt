use Rattle.std.proofs.Common.{◌≡◌, ◌∙◌, ℕ, ℤ, Bool, true, false, Some, None, if◌then◌else◌, refl, ap, sym}
use Rattle.tcp_block.specs.Endpoints.{pair_in}
use Rattle.tcp_block.specs.Isn.{isn, draws_number}
use Rattle.tcp_block.specs.Controls.{is_syn, is_zero}
use Rattle.tcp_block.specs.Opening.{is_first_syn, answering}
use Rattle.tcp_block.specs.Timeout.{timeout_restarted}
use Rattle.tcp_block.specs.Timestamps.{believed}
use Rattle.tcp_block.specs.Value.{TcpValue, Arrived, with_tcb, dropped}
use Rattle.tcp_block.specs.declared.tcb.Tcb.{Tcb}
use Rattle.tcp_socket.proofs.Kept.{none_open, kept_opening, first_syn, sized_syn, sized_mss}
use Rattle.tcp_socket.proofs.socket.Socket.on_segment_listen.Goals as goal

pub invariant_of-self : goal.invariant_of-self
invariant_of-self g c =
    let i = c.args.incoming.now in
    let none : c.self.inside.offered ≡ None = ap (λ (v : TcpValue). v.offered) c.self.view_is ∙ c.requires.unoffered in
    let first : is_first_syn i.header.now ≡ true = sym c.is_first_syn.ensures ∙ c.if-not-is_first_syn.false in
    let sized = sized_syn (is_syn i.header.now.control) (is_zero i.header.now.options.max_seg_size) c.requires.sized (first_syn i.header.now first) in
    record {
      room = c.self.invariant.room;
      tcb = rw (
        c.restart_timeout.ensures,
        c.refresh_recent.ensures,
        c.answer_syn.ensures,
      ) (kept_opening c.self.inside.tcb i.ip_repr.now i.header.now c.isn-number.result c.now-now.result c.now-now.ensures.instant
          (sized_mss (Some (pair_in i.ip_repr.now i.header.now)) i.header.now.options.max_seg_size sized));
      unsettled = none_open c.self.inside.offered c.restart_timeout.new.self none;
    }

first_of : (t : Bool) (a b : Arrived) → t ≡ true → a ≡ (if t then a else b)
first_of true a b is = refl
first_of false a b is = absurd (cc)

pub returns : goal.returns
returns g c =
    let cx = g.C.Context.context c.args.cx.now in
    let v = c.args.self.now in
    let header = c.args.incoming.now.header.now in
    let ip = c.args.incoming.now.ip_repr.now in
    let now = c.now-now.result in
    let number = c.isn-number.result in
    let first : is_first_syn header ≡ true = sym c.is_first_syn.ensures ∙ c.if-not-is_first_syn.false in
    let number_is : number ≡ isn cx (pair_in ip header) = c.isn-number.ensures.value ∙ ap (isn cx) c.of_segment-pair.ensures in
    let opened = timeout_restarted (believed (answering v.tcb ip header (isn cx (pair_in ip header))) cx.instant) cx.instant 0 in
    let tcb_is : c.restart_timeout.new.self ≡ opened =
    c.restart_timeout.ensures
    ∙ ap (λ (b : Tcb). timeout_restarted b now 0) (c.refresh_recent.ensures ∙ ap (λ (b : Tcb). believed b now) c.answer_syn.ensures)
    ∙ ap (λ (m : ℤ). timeout_restarted (believed (answering c.self.inside.tcb ip header number) m) m 0) c.now-now.ensures.value
    ∙ ap (λ (n : ℕ). timeout_restarted (believed (answering c.self.inside.tcb ip header n) cx.instant) cx.instant 0) number_is
    ∙ ap (λ (w : TcpValue). timeout_restarted (believed (answering w.tcb ip header (isn cx (pair_in ip header))) cx.instant) cx.instant 0) c.self.view_is
    in
    let on : TcpValue =
    record { tcb = c.restart_timeout.new.self; received = c.self.inside.received; queued = c.self.inside.queued; offered = c.self.inside.offered }
    in
    let opening : Arrived = record { socket = with_tcb v opened; answer = None; draws = draws_number cx } in
    let is = first_of (is_first_syn header) opening (dropped v) first in
    record {
      answer = ap (λ (a : Arrived). a.answer) is;
      socket = ap (λ (b : Tcb). with_tcb on b) tcb_is ∙ ap (λ (w : TcpValue). with_tcb w opened) c.self.view_is ∙ ap (λ (a : Arrived). a.socket) is;
      drawn = c.isn-number.ensures.drawn ∙ ap (λ (a : Arrived). if a.draws then g.C.Context.drawn c.args.cx.now else c.args.cx.now) is;
    }
