-- A receive buffer stays as large as it is, and fills until its user reads.
use Rattle.std.proofs.Common.{◌≡◌, ℕ, ◌+◌, ◌≤◌, ◌&&◌, Bool, true, false, List, ◌++◌, length, Option, refl, sym, ap, ◌∙◌, subst, arith}
use Rattle.std.proofs.lemmas.List.{length-append}
use Rattle.ip_wire.specs.IpRepr.{IpRepr}
use Rattle.ip_wire.specs.TcpHeader.{TcpHeader}
use Rattle.tcp_state.specs.States.{is_answering}
use Rattle.tcp_state.specs.declared.endpoints.FourTuple.{FourTuple}
use Rattle.tcp_theory.specs.ReceiveMap.{following, front}
use Rattle.tcp_block.specs.Acknowledged.{windowed}
use Rattle.tcp_block.specs.Arrival.{arrives, waiting_anew}
use Rattle.tcp_block.specs.LossRecovery.{loss_probed}
use Rattle.tcp_block.specs.Offers.{offer_of}
use Rattle.tcp_block.specs.Retries.{heard}
use Rattle.tcp_block.specs.Rules.{backed_off_now}
use Rattle.tcp_block.specs.Settled.{settled}
use Rattle.tcp_block.specs.Timestamps.{tsval_taken}
use Rattle.tcp_block.specs.Value.{Arrived, Received as Buffer, TcpValue, dropped, free_in, room_of, unoffered, with_tcb}
use Rattle.tcp_block.specs.declared.tcb.Tcb.{Tcb}
use Rattle.tcp_liveness.specs.Sent.{is_early}
use Rattle.tcp_liveness.proofs.Comes.{early_answering}
use Rattle.tcp_liveness.proofs.WindowSteps.{as_large}
use Rattle.tcp_invariants.proofs.ArrivalCases.{Content, Drawing, Opening, Received, acked_open, by_arrival, heeded, timed}
use Rattle.tcp_invariants.proofs.OfferCases.{FirstRules, begun, by_rules}
use Rattle.tcp_refinement.specs.Context.{ContextValue}
use Rattle.tcp_refinement.specs.Offers.{Offered}

clash : {X : Type 0} → true ≡ false → X
clash {X} e = absurd cc

and_first : (a b : Bool) → (a && b) ≡ true → a ≡ true
and_first true b e = refl
and_first false b e = e

-- the buffer is as large, and no less waits in it to be read
pub record Fills (old new : Buffer) : Type 0 where
  pub room : room_of new ≡ room_of old
  pub waits : length old.waiting ≤ length new.waiting

pub fills_itself : (r : Buffer) → Fills r r
fills_itself r = record { room = refl; waits = omega arith }

pub fills_then : (a b c : Buffer) → Fills a b → Fills b c → Fills a c
fills_then a b c one two = record {
  room = two.room ∙ one.room;
  waits = let x = one.waits in let y = two.waits in omega (arith, x, y);
}

-- so no more of it is free
pub less_free : (v w : TcpValue) → Fills v.received w.received → free_in w ≤ free_in v
less_free v w fills = let room = fills.room in let waits = fills.waits in omega (arith, room, waits)

-- A SEGMENT COMES

module _ (cx : ContextValue) (ip : IpRepr) (header : TcpHeader) (bytes : List ℕ) (v : TcpValue) (late : is_early v.tcb.state ≡ false) where
  abbrev FillsBy : Arrived → Type 0
  FillsBy a = Fills v.received a.socket.received

  same : FillsBy (dropped (unoffered v))
  same = fills_itself v.received

  drawing : (x : TcpValue) → Fills v.received x.received → Drawing cx ip header bytes FillsBy x
  drawing x h = record { answers = λ _. h; at_once = h; pauses = h }

  -- text in order
  ordered : (x : TcpValue) (map : List (Option ℕ)) → length map ≡ free_in x → (start : ℕ)
      → Fills x.received (record { waiting = x.received.waiting ++ front map; map = following map; start = start })
  ordered x map is start = record { room = as_large map x.received.waiting (free_in x) is; waits = longer } where
    longer : length x.received.waiting ≤ length (x.received.waiting ++ front map)
    longer = let both = length-append x.received.waiting (front map) in omega (arith, both)

  early : (x : TcpValue) (map : List (Option ℕ)) → length map ≡ free_in x → (start : ℕ)
      → Fills x.received (record { waiting = x.received.waiting; map = map; start = start })
  early x map is start = record { room = ap (λ (n : ℕ). length x.received.waiting + n) is; waits = omega arith }

  content : (x : TcpValue) → x.received ≡ v.received → Content cx ip header bytes FillsBy x
  content x is = record {
    plain = (λ _. here, here);
    fin = λ _ _. (λ _. here, here);
    ordered = λ map sized _ _. let it = from _ (ordered x map sized x.received.start) in (λ _. it, it);
    ordered_fin = λ map sized _ _. let it = from _ (ordered x map sized x.received.start) in (λ _. it, it);
    early = λ map slot sized _. from _ (early x map sized x.received.start);
  }
    where
      here : Fills v.received x.received
      here = subst (Fills v.received) (sym is) (fills_itself v.received)

      from : (r : Buffer) → Fills x.received r → Fills v.received r
      from r fills = subst (λ (old : Buffer). Fills old r) is fills

  received : Received cx ip header bytes FillsBy (unoffered v)
  received = record {
    stays = same;
    refuses = same;
    draws = drawing (unoffered v) same;
    falls = λ _ _ falls. clash (sym (early_answering v.tcb.state (and_first (is_answering v.tcb.state) _ falls)) ∙ late);
    ends = λ _ _ _. same;
    closes = λ _ _ _. same;
    taken = λ by _ _.
        content (heeded cx.instant header (length bytes) (unoffered v) by (acked_open (timed cx.instant header (unoffered v) by) by cx.instant).tcb) refl;
    taken_window = λ by _ _.
        content
        (heeded cx.instant header (length bytes) (unoffered v) by
        (windowed (acked_open (timed cx.instant header (unoffered v) by) by cx.instant).tcb header))
        refl;
    news = λ by _ _. drawing (waiting_anew (acked_open (timed cx.instant header (unoffered v) by) by cx.instant) header cx.instant) same;
    outside = drawing (waiting_anew (unoffered v) header cx.instant) same;
    old = λ _. content (with_tcb (unoffered v) (tsval_taken (heard v.tcb) header cx.instant)) refl;
  }

  opening : Opening cx ip header bytes FillsBy (unoffered v)
  opening = record {
    opens = λ at _. clash (sym (ap is_early at) ∙ late);
    refuses = same;
    ends = λ at. clash (sym (ap is_early at) ∙ late);
    connects = λ at _. clash (sym (ap is_early at) ∙ late);
    crosses = λ at _. clash (sym (ap is_early at) ∙ late);
  }

  pub arrival_fills : Fills v.received (arrives cx v ip header bytes).socket.received
  arrival_fills = by_arrival cx ip header bytes FillsBy v same (λ _. opening) (λ _. received)

-- AN OFFER

module _ (cx : ContextValue) (v : TcpValue) (late : is_early v.tcb.state ≡ false) where
  abbrev Same : Offered TcpValue → Type 0
  Same o = ((settled true o.socket).received ≡ v.received) × ((settled false o.socket).received ≡ v.received)

  same_first : (pair : FourTuple) (b : Tcb) → FirstRules cx pair Same (with_tcb (unoffered v) b)
  same_first pair b = record {
    syn = λ _. (refl, refl);
    again = λ _ _. (refl, refl);
    payload = λ _ _. (refl, refl);
    last = λ _.
        record {
          probe = λ _ _. (refl, refl);
          window_limited = λ _ _. (refl, refl);
          ack = λ _. (refl, refl);
          update = λ _ _. (refl, refl);
          keep_alive = λ _ _. (refl, refl);
          quiet = λ _. (refl, refl);
        };
  }

  offer_same : Same (offer_of cx v)
  offer_same =
      by_rules cx v Same
      (record {
        nobody = λ _. (refl, refl);
        time_wait = λ _. (refl, refl);
        timeout = λ _. (refl, refl);
        closed = λ _. (refl, refl);
        reset = λ _ _ _. (refl, refl);
        falls = λ _ _ falls. clash (sym (early_answering v.tcb.state (and_first (is_answering v.tcb.state) _ falls)) ∙ late);
        over = λ _ _ _. (refl, refl);
        backs = λ pair _ _ _. same_first pair (backed_off_now (begun cx v));
        probes = λ pair _ _ _ _. same_first pair (loss_probed (begun cx v));
        goes = λ pair _ _ _. same_first pair (begun cx v);
      })

  pub sent_fills : Fills v.received (settled true (offer_of cx v).socket).received
  sent_fills = subst (Fills v.received) (sym offer_same.0) (fills_itself v.received)

  pub withheld_fills : Fills v.received (settled false (offer_of cx v).socket).received
  withheld_fills = subst (Fills v.received) (sym offer_same.1) (fills_itself v.received)
