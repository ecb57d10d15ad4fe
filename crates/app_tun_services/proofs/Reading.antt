-- What reading so many bytes leaves.
use Rattle.std.proofs.Common.{◌≡◌, ℕ, ap, ◌∙◌, Result, Ok, Err}
use Rattle.std.specs.Prelude.{OnErr, IfOk}
use Rattle.tcp_block.specs.RecvError.{RecvError}
use Rattle.tcp_block.specs.Calls.{recv_answer, recv_after}
use Rattle.tcp_block.specs.Value.{TcpValue, unoffered}
use Rattle.app_tun_services.specs.Site.{talk, read, read_by}
use Rattle.app_tun_services.specs.declared.site.Session.{Session}

left_by : (r : Result ℕ RecvError) (v w : TcpValue) (X : Type 0) (Y : ℕ → Type 0)
    → OnErr r ((w ≡ unoffered v) × X) → IfOk r (λ n. (w ≡ recv_after v n) × Y n) → w ≡ read_by r v
left_by (Ok n) v w X Y err ok = ok.0
left_by (Err e) v w X Y err ok = err.0

pub read_is : (r : Result ℕ RecvError) (len : ℕ) (v w : TcpValue) (s : Session) (X : Type 0) (Y : ℕ → Type 0) → r ≡ recv_answer v len
    → OnErr r ((w ≡ unoffered v) × X) → IfOk r (λ n. (w ≡ recv_after v n) × Y n) → talk w s ≡ read len (talk v s)
read_is r len v w s X Y is err ok = ap (λ u. talk u s) (left_by r v w X Y err ok ∙ ap (λ q. read_by q v) is)
