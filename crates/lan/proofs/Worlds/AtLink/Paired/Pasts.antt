-- What a call adds to what was seen of a socket, as the history tells it and as the events of a pair do.
use Rattle.std.proofs.Common.{◌≡◌, ℕ, ◌==◌, ◌||◌, nat_lt, Bool, true, false, if◌then◌else◌, List, [], ◌++◌, take, Option, Some, None, Result, Ok, Err}
use Rattle.std.proofs.Common.{refl, sym, ap, ◌∙◌, append-nil, arith}
use Rattle.std.proofs.lemmas.Bool.Decides.{nat_tests}
use Rattle.tcp_refinement.specs.History.{closed_by, closes_in}
use Rattle.tcp_refinement.specs.Pair.History.{connect_adds, listen_adds, recv_adds, send_adds}
use Rattle.tcp_refinement.specs.Pair.Steps.{connect_says, limit_of, listen_says, recv_fault, send_says, set_by}
use Rattle.tcp_refinement.specs.Tie.{Past}
use Rattle.tcp_refinement.specs.declared.pair.event.PairAnswer.{PairAnswer}
use Rattle.tcp_refinement.specs.declared.pair.event.PairAnswer.TheVariants as Says
use Rattle.tcp_block.specs.ConnectError.{ConnectError}
use Rattle.tcp_block.specs.ConnectError.TheVariants as Connect
use Rattle.tcp_block.specs.ListenError.{ListenError}
use Rattle.tcp_block.specs.ListenError.TheVariants as Listen
use Rattle.tcp_block.specs.RecvError.{RecvError}
use Rattle.tcp_block.specs.RecvError.TheVariants as Recv
use Rattle.tcp_block.specs.SendError as Writes
use Rattle.tcp_block.specs.SendError.TheVariants as Send
use Rattle.tcp_block.specs.State.{State}
use Rattle.tcp_block.specs.Settings.{set_hop_limit}
use Rattle.tcp_block.specs.Value.{TcpValue}
use Rattle.ip_wire.specs.IpEndpoint.{IpEndpoint}
use Rattle.lan.specs.declared.at_link.history.answer.Answer.{Answer}
use Rattle.lan.specs.declared.at_link.history.answer.Answer.TheVariants as To
use Rattle.lan.specs.declared.at_link.history.event.Side.{Side}
use Rattle.lan.specs.declared.at_link.history.event.TcpSetting.{TcpSetting}
use Rattle.lan.specs.declared.at_link.history.event.TcpSetting.TheVariants as Changed
use Rattle.lan.specs.declared.at_link.history.record.Opening.{Opening}
use Rattle.lan.specs.Worlds.AtLink.Call as Call
use Rattle.lan.specs.Worlds.AtLink.Call.{SocketCall}
use Rattle.lan.specs.Worlds.AtLink.Calls.{bytes_or, connect_fault, count_or, done_or, hop_limit_or_none, listen_fault, setting_after, write_fault}
use Rattle.lan.specs.Worlds.AtLink.History.{Entry, bytes_read, bytes_written, closes, first_of, is_closed_by, opening, opening_by, read, written}
use Rattle.lan.specs.Worlds.AtLink.Happening.{setting_in}
use Rattle.lan.specs.Worlds.AtLink.Paired.{told, way_by}
use Rattle.lan.proofs.Worlds.AtLink.CallSteps.{or_true, told_parts, told_plain, told_with}
use Rattle.lan.proofs.Worlds.AtLink.HostSteps.{or_false, past}
use Rattle.lan.proofs.Worlds.AtLink.TableLemmas.{first_of-none}

-- what a read answers
abbrev pub recv_says : TcpValue → Result ℕ RecvError → PairAnswer
recv_says v (Ok n) = Says.Bytes (take n v.received.waiting)
recv_says v (Err fault) = recv_fault fault

module _ (h : List Entry) (side : Side) (i : ℕ) where
  abbrev before : Past
  before = told h side i

  -- a call that adds nothing
  pub plain : (call : SocketCall) (answer : Answer) (found : Option State) → opening_by (Some call) answer ≡ None → bytes_written (Some call) answer ≡ [] →
      bytes_read (Some call) answer ≡ [] → closes (Some call) found ≡ false → told_with h side i call answer found ≡ before
  plain call answer found o w r c =
      told_plain h side i call answer found (ap (λ (x : Option Opening). first_of (opening h side i) x) o ∙ first_of-none (opening h side i)) w r c

  -- the opening
  opens : (call : SocketCall) (answer : Answer) (found : Option State) (o : Opening) → opening h side i ≡ None → opening_by (Some call) answer ≡ Some o →
      bytes_written (Some call) answer ≡ [] → bytes_read (Some call) answer ≡ [] → closes (Some call) found ≡ false →
      told_with h side i call answer found ≡ record before { opening = way_by (Some o) }
  opens call answer found o none is w r c =
      ap (λ (x : Option Opening). past (way_by (first_of x (opening_by (Some call) answer))) (written h side i ++ bytes_written (Some call) answer)
      (read h side i ++ bytes_read (Some call) answer) (is_closed_by h side i || closes (Some call) found)) none
      ∙ ap (λ (x : Option Opening). past (way_by x) (written h side i ++ bytes_written (Some call) answer) (read h side i ++ bytes_read (Some call) answer)
      (is_closed_by h side i || closes (Some call) found)) is
      ∙ ap (λ (x : List ℕ). past (way_by (Some o)) x (read h side i ++ bytes_read (Some call) answer) (is_closed_by h side i || closes (Some call) found))
      (ap (λ (b : List ℕ). written h side i ++ b) w ∙ append-nil (written h side i))
      ∙ ap (λ (x : List ℕ). past (way_by (Some o)) (written h side i) x (is_closed_by h side i || closes (Some call) found))
      (ap (λ (b : List ℕ). read h side i ++ b) r ∙ append-nil (read h side i))
      ∙ ap (λ (x : Bool). past (way_by (Some o)) (written h side i) (read h side i) x)
      (ap (λ (b : Bool). is_closed_by h side i || b) c ∙ or_false (is_closed_by h side i))

  pub listen_told : (port : ℕ) (r : Result (Unit {0}) ListenError) → opening h side i ≡ None →
      listen_adds (listen_says r) before ≡ told_with h side i (Call.Listen port) (done_or listen_fault r) None
  listen_told port (Ok done) none =
      sym (opens (Call.Listen port) To.Done None (record { local = port; remote = None }) none refl refl refl refl)
  listen_told port (Err Listen.InvalidState) none = sym (plain (Call.Listen port) (To.Error (listen_fault Listen.InvalidState)) None refl refl refl refl)
  listen_told port (Err Listen.Unaddressable) none = sym (plain (Call.Listen port) (To.Error (listen_fault Listen.Unaddressable)) None refl refl refl refl)

  pub connect_told : (remote : IpEndpoint) (port : ℕ) (r : Result (Unit {0}) ConnectError) → opening h side i ≡ None →
      connect_adds (connect_says r) before ≡ told_with h side i (Call.Connect remote port) (done_or connect_fault r) None
  connect_told remote port (Ok done) none =
      sym (opens (Call.Connect remote port) To.Done None (record { local = port; remote = Some remote.port }) none refl refl refl refl)
  connect_told remote port (Err Connect.InvalidState) none =
      sym (plain (Call.Connect remote port) (To.Error (connect_fault Connect.InvalidState)) None refl refl refl refl)
  connect_told remote port (Err Connect.Unaddressable) none =
      sym (plain (Call.Connect remote port) (To.Error (connect_fault Connect.Unaddressable)) None refl refl refl refl)

  -- bytes are written or read
  moved : (call : SocketCall) (answer : Answer) (w r : List ℕ) → opening_by (Some call) answer ≡ None → bytes_written (Some call) answer ≡ w →
      bytes_read (Some call) answer ≡ r → closes (Some call) None ≡ false → told_with h side i call answer None ≡
      record before { written = written h side i ++ w; read = read h side i ++ r }
  moved call answer w r o is_w is_r c =
      told_parts h side i call answer None w r false (ap (λ (x : Option Opening). first_of (opening h side i) x) o ∙ first_of-none (opening h side i)) is_w is_r c
      ∙ ap (λ (b : Bool). past (way_by (opening h side i)) (written h side i ++ w) (read h side i ++ r) b) (or_false (is_closed_by h side i))

  pub send_told : (bytes : List ℕ) (r : Result ℕ Writes.SendError) → send_adds bytes (send_says r) before ≡
      told_with h side i (Call.Send bytes) (count_or write_fault r) None
  send_told bytes (Ok n) =
      sym (moved (Call.Send bytes) (To.Count n) (take n bytes) [] refl refl refl refl
      ∙ ap (λ (x : List ℕ). record before { written = written h side i ++ take n bytes; read = x }) (append-nil (read h side i)))
  send_told bytes (Err Send.InvalidState) = sym (plain (Call.Send bytes) (To.Error (write_fault Send.InvalidState)) None refl refl refl refl)

  pub recv_told : (v : TcpValue) (limit : ℕ) (r : Result ℕ RecvError) → recv_adds (recv_says v r) before ≡ told_with h side i (Call.Recv limit) (bytes_or v r) None
  recv_told v limit (Ok n) =
      sym (moved (Call.Recv limit) (To.Bytes (take n v.received.waiting)) [] (take n v.received.waiting) refl refl refl refl
      ∙ ap (λ (x : List ℕ). record before { written = x; read = read h side i ++ take n v.received.waiting }) (append-nil (written h side i)))
  recv_told v limit (Err Recv.InvalidState) = sym (plain (Call.Recv limit) (bytes_or v (Err Recv.InvalidState)) None refl refl refl refl)
  recv_told v limit (Err Recv.Finished) = sym (plain (Call.Recv limit) (bytes_or v (Err Recv.Finished)) None refl refl refl refl)

  pub close_told : (found : State) → closed_by (closes_in found) before ≡ told_with h side i Call.Close To.Done (Some found)
  close_told found =
      by (closes_in found) (is_closed_by h side i) refl
      ∙ sym (told_parts h side i Call.Close To.Done (Some found) [] [] (closes_in found) (first_of-none (opening h side i)) refl refl refl
      ∙ ap (λ (x : List ℕ). past (way_by (opening h side i)) x (read h side i ++ []) (is_closed_by h side i || closes_in found)) (append-nil (written h side i))
      ∙ ap (λ (x : List ℕ). past (way_by (opening h side i)) (written h side i) x (is_closed_by h side i || closes_in found)) (append-nil (read h side i)))
    where
      by : (t c : Bool) → is_closed_by h side i ≡ c → closed_by t (told h side i) ≡ past (way_by (opening h side i)) (written h side i) (read h side i) (c || t)
      by true c e = ap (λ (b : Bool). past (way_by (opening h side i)) (written h side i) (read h side i) b) (sym (or_true c))
      by false c e = ap (λ (b : Bool). past (way_by (opening h side i)) (written h side i) (read h side i) b) (e ∙ sym (or_false c))

-- SETTINGS

hop_limit_same : (hop_limit : Option ℕ) → limit_of hop_limit ≡ hop_limit_or_none hop_limit
hop_limit_same None = refl
hop_limit_same (Some n) = by (n == 0) (nat_lt 0 n) refl refl where
  both : (n == 0) ≡ true → nat_lt 0 n ≡ true → ⊥
  both z l = grind (arith, nat_tests)

  none : (n == 0) ≡ false → nat_lt 0 n ≡ false → ⊥
  none z l = grind (arith, nat_tests)

  by : (z l : Bool) → (n == 0) ≡ z → nat_lt 0 n ≡ l → (if z then None else Some n) ≡ (if l then Some n else None)
  by true false e f = refl
  by false true e f = refl
  by true true e f = absurd (both e f)
  by false false e f = absurd (none e f)

pub setting_same : (v : TcpValue) (setting : TcpSetting) → set_by (setting_in setting) v ≡ setting_after v setting
setting_same v (Changed.Timeout duration) = refl
setting_same v (Changed.AckDelay duration) = refl
setting_same v (Changed.KeepAlive interval) = refl
setting_same v (Changed.NagleEnabled enabled) = refl
setting_same v (Changed.HopLimit hop_limit) = ap (set_hop_limit v) (hop_limit_same hop_limit)
setting_same v (Changed.CongestionControl control) = refl
setting_same v (Changed.TsvalGenerator generator) = refl
setting_same v (Changed.PauseSynack paused) = refl
