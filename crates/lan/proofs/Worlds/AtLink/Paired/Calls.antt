-- A call of a socket of the pair is an event of the pair, or none.
use Rattle.std.proofs.Common.{◌≡◌, ◌≢◌, ◌⊎◌, inl, inr, ℕ, ◌+◌, ◌^◌, ◌&&◌, nat_le, ℤ, Bool, true, false, if◌then◌else◌, List, [], ◌∷◌, length, map, Option, Some, None}
use Rattle.std.proofs.Common.{is_none, is_ok, Result, Ok, Err, refl, sym, ap, ◌∙◌, subst}
use Rattle.std.proofs.lemmas.Bool.{ne_eqb}
use Rattle.std.specs.List.{AllByRecursion}
use Rattle.ip_wire.specs.IpEndpoint.{IpEndpoint}
use Rattle.sockets.specs.Context.{ContextValue}
use Rattle.tcp_refinement.specs.Host.{Made, source_port}
use Rattle.tcp_refinement.specs.History.{closed_by, closes_in}
use Rattle.tcp_refinement.specs.Pair.History.{adds, connect_adds, listen_adds, pasts, recv_adds, send_adds, side_of}
use Rattle.tcp_refinement.specs.Pair.Sides.{at}
use Rattle.tcp_refinement.specs.Pair.Steps.{acting, connect_says, happens, if_so, listen_says, reads, refusal, send_says, set_by, was_opened, with_random}
use Rattle.tcp_refinement.specs.Pair.Values.{HostContext, PairSide, PairValue, context_at, context_on}
use Rattle.tcp_refinement.specs.Tie.{Past}
use Rattle.tcp_refinement.specs.declared.pair.event.PairEvent.{PairEvent}
use Rattle.tcp_refinement.specs.declared.pair.event.PairEvent.TheVariants as Ev
use Rattle.tcp_refinement.specs.declared.pair.event.PairRefused.TheVariants as Why
use Rattle.tcp_block.specs.Calls.{abort_after, close_after, connect_after, connect_answer, connect_draws, listen_after, listen_answer, recv_answer, send_after}
use Rattle.tcp_block.specs.Calls.{send_answer}
use Rattle.tcp_block.specs.RecvError.{RecvError}
use Rattle.tcp_block.specs.State.{State}
use Rattle.tcp_block.specs.Value.{TcpValue}
use Rattle.lan.specs.declared.at_link.history.answer.Answer.{Answer}
use Rattle.lan.specs.declared.at_link.history.answer.Answer.TheVariants as To
use Rattle.lan.specs.declared.at_link.history.answer.Refused.TheVariants as For
use Rattle.lan.specs.declared.at_link.history.event.Side.{Side}
use Rattle.lan.specs.declared.at_link.history.event.TcpSetting.{TcpSetting}
use Rattle.lan.specs.declared.at_link.history.record.Opening.{Opening}
use Rattle.lan.specs.declared.at_link.history.record.SocketRecord.{SocketRecord}
use Rattle.lan.specs.Worlds.AtLink.Call as Call
use Rattle.lan.specs.Worlds.AtLink.Call.{SocketCall}
use Rattle.lan.specs.Worlds.AtLink.Calls.{at_port, bytes_or, connect_fault, count_or, done_or, listen_fault, read_by, setting_after, tcp_does, write_fault}
use Rattle.lan.specs.Worlds.AtLink.Kinds.{Kind, calls, kind_of, other}
use Rattle.lan.specs.Worlds.AtLink.History.{Entry, opening}
use Rattle.lan.specs.Worlds.AtLink.Moves.{DoneBy, with_socket}
use Rattle.lan.specs.Worlds.AtLink.Parties.{Net, Party, party, socket_at}
use Rattle.lan.specs.Worlds.AtLink.Parties.Socket.{Tcp}
use Rattle.lan.specs.Worlds.AtLink.Tables.{IsAllowed, Slots, AreAllowed, kinds, record_at, table_of}
use Rattle.lan.specs.Worlds.AtLink.Happening.{ProceedsBy, called_by, setting_in}
use Rattle.lan.specs.Worlds.AtLink.Paired.{HasSent, IsOfSocket, Seat, Shows, from_port, made_by, side_in, told, way_by}
use Rattle.lan.proofs.Worlds.AtLink.CallLemmas.{call_at_other_side}
use Rattle.lan.proofs.Worlds.AtLink.CallSteps.{told_after, told_with}
use Rattle.lan.proofs.Worlds.AtLink.Exchange.{same_tcp}
use Rattle.lan.proofs.Worlds.AtLink.HostSteps.{opening_left, told_left}
use Rattle.lan.proofs.Worlds.AtLink.Kept.{KeptFrom}
use Rattle.lan.proofs.Worlds.AtLink.PeerSideLemmas.{AreApart, WasTaken, may_open, opened_apart, opening_stays, test_passed, was_taken}
use Rattle.lan.proofs.Worlds.AtLink.Slots.{some_is}
use Rattle.lan.proofs.Worlds.AtLink.Speaking.{same_opening}
use Rattle.lan.proofs.Worlds.AtLink.TableLemmas.{table_says}
use Rattle.lan.proofs.Worlds.AtLink.Paired.Elsewhere.{of_socket_stays}
use Rattle.lan.proofs.Worlds.AtLink.Paired.Pasts.{close_told, connect_told, listen_told, plain, recv_says, recv_told, send_told, setting_same}
use Rattle.lan.proofs.Worlds.AtLink.Paired.Shown.{Far, Near, shows_event, shows_still}
use Rattle.lan.proofs.Worlds.AtLink.Paired.Wires.{socket_set}
use Rattle.lan.proofs.Worlds.AtLink.Paired.Words.{connects_same}

-- what a read leaves of a side
read_side : (s : PairSide) (r : Result ℕ RecvError) → (reads s r).side ≡ record s { socket = read_by s.socket r }
read_side s (Ok n) = refl
read_side s (Err fault) = refl

read_says : (s : PairSide) (r : Result ℕ RecvError) → (reads s r).answer ≡ recv_says s.socket r
read_says s (Ok n) = refl
read_says s (Err fault) = refl

and_false : (t : Bool) → (t && false) ≡ false
and_false true = refl
and_false false = refl

module _ (starts : Side → ℕ → ℕ) (slots : Slots) (seats : Side → Seat) (net net' : Net) (side : Side) (clocks : Side → ℤ) (p : PairValue)
    (k : KeptFrom starts slots net.history side (party net side) (party net (other side))) (sh : Shows seats clocks net p) (v new : TcpValue) (e : Entry)
    (is : socket_at (party net side) (seats side).slot ≡ Some (Tcp v)) (allowed : AreAllowed slots (e ∷ net.history))
    (far_same : party net' (other side) ≡ party net (other side)) (history : net'.history ≡ e ∷ net.history)
    (mine : party net' side ≡ with_socket (party net side) (seats side).slot (Tcp new)) where
  abbrev own : PairSide
  own = at p.sides (side_in side)

  abbrev here : ℕ
  here = (seats side).slot

  abbrev h : List Entry
  h = net.history

  abbrev there : ℕ
  there = (seats (other side)).slot

  socket_is : own.socket ≡ v
  socket_is = same_tcp own.socket v (some_is (Tcp own.socket) (Tcp v) (sym (sh.socket side) ∙ is))

  -- WHAT WAS SENT

  -- nothing went from a port at which no socket of the host was opened
  nothing_from : (o : Opening) → opening h side here ≡ None → opening (e ∷ h) side here ≡ Some o → (xs : List Made) → AllByRecursion (IsOfSocket h side) xs →
      from_port o.local xs ≡ []
  nothing_from o none now [] all = refl
  nothing_from o none now (x ∷ xs) all =
      ap (λ (t : Bool). if t then x ∷ from_port o.local xs else from_port o.local xs) (ne_eqb (source_port x) o.local differs)
      ∙ nothing_from o none now xs all.1
    where
      differs : source_port x ≢ o.local
      differs same =
          by (opened_apart slots (e ∷ h) side here all.0.slot o all.0.by allowed now (opening_stays h e side all.0.slot all.0.by all.0.opened)) where
            by : (here ≡ all.0.slot) ⊎ AreApart o all.0.by → ⊥
            by (inl one) = let clash : None ≡ Some all.0.by = sym none ∙ ap (λ (i : ℕ). opening h side i) one ∙ all.0.opened in cc
            by (inr apart) = apart.local (sym same ∙ sym all.0.from)

  sent_by : (o o' : Option Opening) → opening h side here ≡ o → opening (e ∷ h) side here ≡ o' → HasSent o (party net side).segments own.sent →
      HasSent o' (party net side).segments own.sent
  sent_by None None was now has = has
  sent_by None (Some o) was now has =
      nothing_from o was now (party net side).segments (sh.made side) ∙ sym (ap (map made_by) has)
  sent_by (Some o) None was now has =
      absurd (let clash : Some o ≡ None = sym (opening_stays h e side here o was) ∙ now in cc)
  sent_by (Some o) (Some o') was now has =
      subst (λ (x : Opening). HasSent (Some x) (party net side).segments own.sent)
      (same_opening o o' (sym (opening_stays h e side here o was) ∙ now)) has

  sent_now : HasSent (opening net'.history side here) (party net' side).segments own.sent
  sent_now =
      subst (λ (x : List Entry). HasSent (opening x side here) (party net' side).segments own.sent) (sym history)
      (subst (λ (q : Party). HasSent (opening (e ∷ h) side here) q.segments own.sent) (sym mine)
      (sent_by (opening h side here) (opening (e ∷ h) side here) refl refl (sh.sent side)))

  made_now : AllByRecursion (IsOfSocket net'.history side) (party net' side).segments
  made_now =
      subst (λ (x : List Entry). AllByRecursion (IsOfSocket x side) (party net' side).segments) (sym history)
      (subst (λ (q : Party). AllByRecursion (IsOfSocket (e ∷ h) side) q.segments) (sym mine)
      (of_socket_stays h (e ∷ h) side (λ s i o. opening_stays h e s i o) (party net side).segments (sh.made side)))

  module _ (call : SocketCall) (kind : kind_of e.event ≡ calls side here call) where
    far : Far seats net net' side clocks clocks
    far =
        let none = call_at_other_side e side here there call kind in
        record {
          same = far_same;
          opened = ap (λ (x : List Entry). opening x (other side) there) history ∙ opening_left h e (other side) there none;
          past = ap (λ (x : List Entry). told x (other side) there) history ∙ told_left h e (other side) there none;
          made = subst (λ (x : List Entry). AllByRecursion (IsOfSocket x (other side)) (party net' (other side)).segments) (sym history)
              (subst (λ (q : Party). AllByRecursion (IsOfSocket (e ∷ h) (other side)) q.segments) (sym far_same)
              (of_socket_stays h (e ∷ h) (other side) (λ s i o. opening_stays h e s i o) (party net (other side)).segments (sh.made (other side))));
          clock = refl;
        }

    told_is : (answer : Answer) (found : Option State) → e.answer ≡ answer → e.found ≡ found → told (e ∷ h) side here ≡ told_with h side here call answer found
    told_is answer found answered found_is =
        told_after slots h e side (party net side) (party net (other side)) here v call kind allowed is k.mine.streams k.theirs.streams k.pairs answer found
        answered found_is

    near : (s : PairSide) (past : Past) → s.socket ≡ new → s.host ≡ own.host → s.instant ≡ own.instant → s.sent ≡ own.sent →
        past ≡ told (e ∷ h) side here → Near seats net net' side clocks clocks s past
    near s past socket host instant sent is_past = record {
      socket = ap (λ (q : Party). socket_at q here) mine ∙ socket_set (party net side) here (Tcp v) (Tcp new) is ∙ ap (λ (w : TcpValue). Some (Tcp w)) (sym socket);
      host = host ∙ sh.host side;
      clock = instant ∙ sh.clock side;
      is_past = is_past ∙ ap (λ (x : List Entry). told x side here) (sym history);
      sent = subst (HasSent (opening net'.history side here) (party net' side).segments) (sym sent) sent_now;
      made = made_now;
    }

    -- an event of the side, and what it makes of it
    by_event : (ev : PairEvent) → side_of ev ≡ side_in side → refusal p ev ≡ None → (s : PairSide) → (acting p ev).side ≡ s → s.socket ≡ new → s.host ≡ own.host
        → s.instant ≡ own.instant → s.sent ≡ own.sent
        → adds ev (acting p ev).answer (at p.sides (side_of ev)).socket.tcb.state (at (pasts p.history) (side_of ev)) ≡ told (e ∷ h) side here
        → ProceedsBy seats clocks net' p (ev ∷ [])
    by_event ev of allowed_now s s_is socket host instant sent is_past = record {
      next = (happens p ev).pair;
      steps = (allowed_now, refl);
      shows = shows_event seats net net' side clocks clocks p sh far ev of
          (near (acting p ev).side (adds ev (acting p ev).answer (at p.sides (side_of ev)).socket.tcb.state (at (pasts p.history) (side_of ev)))
          (ap (λ (x : PairSide). x.socket) s_is ∙ socket) (ap (λ (x : PairSide). x.host) s_is ∙ host)
          (ap (λ (x : PairSide). x.instant) s_is ∙ instant) (ap (λ (x : PairSide). x.sent) s_is ∙ sent) is_past);
    }

    still : new ≡ v → told (e ∷ h) side here ≡ told h side here → ProceedsBy seats clocks net' p []
    still same past = record {
      next = p;
      steps = refl;
      shows = shows_still seats net net' side clocks clocks p sh far
          (near own (at (pasts p.history) (side_in side)) (socket_is ∙ sym same) refl refl refl (sh.past side ∙ sym past));
    }

  taken : (call : SocketCall) → kind_of e.event ≡ calls side here call → WasTaken slots h side here call
  taken call kind = was_taken slots h side here call (subst (λ (x : Kind). IsAllowed slots h x) kind allowed.0)

  not_opened : opening h side here ≡ None → if_so (was_opened (at (pasts p.history) (side_in side)).opening) Why.OpenedTwice ≡ None
  not_opened none =
      ap (λ (t : Past). if_so (was_opened t.opening) Why.OpenedTwice) (sh.past side)
      ∙ ap (λ (o : Option Opening). if_so (was_opened (way_by o)) Why.OpenedTwice) none

  -- EACH CALL

  listens : (port : ℕ) → kind_of e.event ≡ calls side here (Call.Listen port) → e.answer ≡ done_or listen_fault (listen_answer v (at_port port)) → e.found ≡ None →
      new ≡ listen_after v (at_port port) → ProceedsBy seats clocks net' p (called_by (side_in side) (Call.Listen port))
  listens port kind answered found becomes =
      let w = taken (Call.Listen port) kind in
      let may = may_open slots h side here (record { local = port; remote = None }) w.slot w.own in
      by_event (Call.Listen port) kind (Ev.Listen (side_in side) (at_port port)) refl (not_opened may.first)
      (record own { socket = listen_after own.socket (at_port port) }) refl (ap (λ (x : TcpValue). listen_after x (at_port port)) socket_is ∙ sym becomes) refl refl refl
      ((λ i. listen_adds (listen_says (listen_answer (socket_is i) (at_port port))) (sh.past side i))
      ∙ listen_told h side here port (listen_answer v (at_port port)) may.first
      ∙ sym (told_is (Call.Listen port) kind (done_or listen_fault (listen_answer v (at_port port))) None answered found))

  module _ (cx : ContextValue) (key : List ℕ) (keyed : (seats side).host.isn_key ≡ Some key)
      (of : cx ≡ context_on (seats side).host cx.instant cx.random) (now : own.instant ≡ cx.instant) where
    connects_so : (remote : IpEndpoint) (port : ℕ) →
        connect_after (context_at (side_in side) own) own.socket remote (at_port port) ≡ connect_after cx v remote (at_port port)
    connects_so remote port =
        (λ i. connect_after (context_on (sh.host side i) (now i) own.random) (socket_is i) remote (at_port port))
        ∙ connects_same (seats side).host key cx.instant own.random cx.random v remote port keyed
        ∙ ap (λ (c : ContextValue). connect_after c v remote (at_port port)) (sym of)

    answers_so : (remote : IpEndpoint) (port : ℕ) →
        connect_answer (context_at (side_in side) own) own.socket remote (at_port port) ≡ connect_answer cx v remote (at_port port)
    answers_so remote port =
        (λ i. connect_answer (context_on (sh.host side i) (now i) own.random) (socket_is i) remote (at_port port))
        ∙ ap (λ (c : ContextValue). connect_answer c v remote (at_port port)) (sym of)

    key_is : (context_at (side_in side) own).isn_key ≡ Some key
    key_is = ap (λ (x : HostContext). x.isn_key) (sh.host side) ∙ keyed

    connects : (remote : IpEndpoint) (port : ℕ) → kind_of e.event ≡ calls side here (Call.Connect remote port) →
        e.answer ≡ done_or connect_fault (connect_answer cx v remote (at_port port)) → e.found ≡ None → new ≡ connect_after cx v remote (at_port port) →
        ProceedsBy seats clocks net' p (called_by (side_in side) (Call.Connect remote port))
    connects remote port kind answered found becomes =
        let w = taken (Call.Connect remote port) kind in
        let may = may_open slots h side here (record { local = port; remote = Some remote.port }) w.slot w.own in
        let none_drawn : connect_draws (context_at (side_in side) own) own.socket remote (at_port port) ≡ false =
        ap (λ (x : Option (List ℕ)). is_ok (connect_answer (context_at (side_in side) own) own.socket remote (at_port port)) && is_none x) key_is
        ∙ and_false (is_ok (connect_answer (context_at (side_in side) own) own.socket remote (at_port port))) in
        by_event (Call.Connect remote port) kind (Ev.Connect (side_in side) remote (at_port port)) refl (not_opened may.first)
        (record own { socket = connect_after (context_at (side_in side) own) own.socket remote (at_port port) })
        (ap (λ (d : Bool). record (with_random d own) { socket = connect_after (context_at (side_in side) own) own.socket remote (at_port port) }) none_drawn)
        (connects_so remote port ∙ sym becomes) refl refl refl
        ((λ i. connect_adds (connect_says (answers_so remote port i)) (sh.past side i))
        ∙ connect_told h side here remote port (connect_answer cx v remote (at_port port)) may.first
        ∙ sym (told_is (Call.Connect remote port) kind (done_or connect_fault (connect_answer cx v remote (at_port port))) None answered found))

  sends : (bytes : List ℕ) → kind_of e.event ≡ calls side here (Call.Send bytes) → e.answer ≡ count_or write_fault (send_answer v (length bytes)) → e.found ≡ None →
      new ≡ send_after v bytes → ProceedsBy seats clocks net' p (called_by (side_in side) (Call.Send bytes))
  sends bytes kind answered found becomes =
      by_event (Call.Send bytes) kind (Ev.Send (side_in side) bytes) refl few (record own { socket = send_after own.socket bytes }) refl
      (ap (λ (x : TcpValue). send_after x bytes) socket_is ∙ sym becomes) refl refl refl
      ((λ i. send_adds bytes (send_says (send_answer (socket_is i) (length bytes))) (sh.past side i))
      ∙ send_told h side here bytes (send_answer v (length bytes))
      ∙ sym (told_is (Call.Send bytes) kind (count_or write_fault (send_answer v (length bytes))) None answered found))
    where
      w : WasTaken slots h side here (Call.Send bytes)
      w = taken (Call.Send bytes) kind

      few : if_so (nat_le (2 ^ 29) (length (at (pasts p.history) (side_in side)).written + length bytes)) Why.TooManyBytes ≡ None
      few =
          let passed = (test_passed (nat_le (2 ^ 29) ((record_at (table_of h side (length (kinds slots side))) here).accepted + length bytes)) For.TooManyBytes []
          w.own).0 in
          let says = ap (λ (r : SocketRecord). r.accepted) (table_says h side (length (kinds slots side)) here w.slot) in
          ap (λ (t : Past). if_so (nat_le (2 ^ 29) (length t.written + length bytes)) Why.TooManyBytes) (sh.past side)
          ∙ ap (λ (n : ℕ). if_so (nat_le (2 ^ 29) (n + length bytes)) Why.TooManyBytes) (sym says)
          ∙ ap (λ (t : Bool). if_so t Why.TooManyBytes) passed

  receives : (limit : ℕ) → kind_of e.event ≡ calls side here (Call.Recv limit) → e.answer ≡ bytes_or v (recv_answer v limit) → e.found ≡ None →
      new ≡ read_by v (recv_answer v limit) → ProceedsBy seats clocks net' p (called_by (side_in side) (Call.Recv limit))
  receives limit kind answered found becomes =
      by_event (Call.Recv limit) kind (Ev.Recv (side_in side) limit) refl refl
      (record own { socket = read_by own.socket (recv_answer own.socket limit) }) (read_side own (recv_answer own.socket limit))
      (ap (λ (x : TcpValue). read_by x (recv_answer x limit)) socket_is ∙ sym becomes) refl refl refl
      (ap (λ a. recv_adds a (at (pasts p.history) (side_in side))) (read_says own (recv_answer own.socket limit))
      ∙ (λ i. recv_adds (recv_says (socket_is i) (recv_answer (socket_is i) limit)) (sh.past side i))
      ∙ recv_told h side here v limit (recv_answer v limit)
      ∙ sym (told_is (Call.Recv limit) kind (bytes_or v (recv_answer v limit)) None answered found))

  closes_it : kind_of e.event ≡ calls side here Call.Close → e.answer ≡ To.Done → e.found ≡ Some v.tcb.state → new ≡ close_after v →
      ProceedsBy seats clocks net' p (called_by (side_in side) Call.Close)
  closes_it kind answered found becomes =
      by_event Call.Close kind (Ev.Close (side_in side)) refl refl (record own { socket = close_after own.socket }) refl (ap close_after socket_is ∙ sym becomes) refl refl refl
      ((λ i. closed_by (closes_in (socket_is i).tcb.state) (sh.past side i)) ∙ close_told h side here v.tcb.state
      ∙ sym (told_is Call.Close kind To.Done (Some v.tcb.state) answered found))

  aborts : kind_of e.event ≡ calls side here Call.Abort → e.answer ≡ To.Done → e.found ≡ None → new ≡ abort_after v →
      ProceedsBy seats clocks net' p (called_by (side_in side) Call.Abort)
  aborts kind answered found becomes =
      by_event Call.Abort kind (Ev.Abort (side_in side)) refl refl (record own { socket = abort_after own.socket }) refl (ap abort_after socket_is ∙ sym becomes) refl refl refl
      (sh.past side ∙ sym (plain h side here Call.Abort To.Done None refl refl refl refl) ∙ sym (told_is Call.Abort kind To.Done None answered found))

  sets : (setting : TcpSetting) → kind_of e.event ≡ calls side here (Call.Set setting) → e.answer ≡ To.Done → e.found ≡ None → new ≡ setting_after v setting →
      ProceedsBy seats clocks net' p (called_by (side_in side) (Call.Set setting))
  sets setting kind answered found becomes =
      by_event (Call.Set setting) kind (Ev.TcpSetting (side_in side) (setting_in setting)) refl refl (record own { socket = set_by (setting_in setting) own.socket }) refl
      (ap (set_by (setting_in setting)) socket_is ∙ setting_same v setting ∙ sym becomes) refl refl refl
      (sh.past side ∙ sym (plain h side here (Call.Set setting) To.Done None refl refl refl refl)
      ∙ sym (told_is (Call.Set setting) kind To.Done None answered found))

  asks : kind_of e.event ≡ calls side here Call.State → e.answer ≡ To.State v.tcb.state → e.found ≡ None → new ≡ v →
      ProceedsBy seats clocks net' p (called_by (side_in side) Call.State)
  asks kind answered found becomes =
      still Call.State kind becomes
      (told_is Call.State kind (To.State v.tcb.state) None answered found ∙ plain h side here Call.State (To.State v.tcb.state) None refl refl refl refl)

  pub called : (cx : ContextValue) (key : List ℕ) → (seats side).host.isn_key ≡ Some key → cx ≡ context_on (seats side).host cx.instant cx.random →
      own.instant ≡ cx.instant → (call : SocketCall) → kind_of e.event ≡ calls side here call → DoneBy (tcp_does cx v call) e.answer e.found new →
      ProceedsBy seats clocks net' p (called_by (side_in side) call)
  called cx key keyed of now (Call.Listen port) kind done = listens port kind done.0 done.1 done.2
  called cx key keyed of now (Call.Connect remote port) kind done = connects cx key keyed of now remote port kind done.0 done.1 done.2
  called cx key keyed of now (Call.Send bytes) kind done = sends bytes kind done.0 done.1 done.2
  called cx key keyed of now (Call.Recv limit) kind done = receives limit kind done.0 done.1 done.2
  called cx key keyed of now Call.Close kind done = closes_it kind done.0 done.1 done.2
  called cx key keyed of now Call.Abort kind done = aborts kind done.0 done.1 done.2
  called cx key keyed of now Call.State kind done = asks kind done.0 done.1 done.2
  called cx key keyed of now (Call.Set setting) kind done = sets setting kind done.0 done.1 done.2
  called cx key keyed of now call kind done = absurd done
