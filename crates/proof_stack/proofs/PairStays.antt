-- A side of a pair keeps the endpoints of its connection, or forgets them.
use Rattle.std.proofs.Common.{◌≡◌, ◌⊎◌, inl, inr, ℕ, Bool, true, false, if◌then◌else◌, List, [], ◌∷◌, Option, Some, None}
use Rattle.std.proofs.Common.{Result, Ok, Err, slice_get, refl, sym, ap, ◌∙◌, subst}
use Rattle.std.proofs.lemmas.Bool.{cond_both}
use Rattle.tcp_state.specs.States.{is_listening, takes_writes}
use Rattle.tcp_state.specs.declared.error.RecvError.{RecvError}
use Rattle.tcp_state.specs.declared.state.State.{State}
use Rattle.tcp_state.specs.declared.state.State.TheVariants as In
use Rattle.tcp_block.specs.Arrival.{arrives}
use Rattle.tcp_block.specs.Calls.{abort_after, close_after, recv_answer}
use Rattle.tcp_block.specs.Names.{accepts}
use Rattle.tcp_block.specs.Offers.{offer_of}
use Rattle.tcp_block.specs.Settled.{settled}
use Rattle.tcp_block.specs.Value.{TcpValue, unoffered}
use Rattle.tcp_block.specs.declared.tcb.Names.{Names}
use Rattle.tcp_refinement.specs.Endpoints.{IsLeftBy, IsRenamed, KeepsOrForgets}
use Rattle.tcp_refinement.specs.Pair.History.{pasts, side_of}
use Rattle.tcp_refinement.specs.Pair.Sides.{Both, at, other, put}
use Rattle.tcp_refinement.specs.Pair.Steps.{Steps, acting, handed, if_so, reads, refusal, set_by, taken_at, was_opened}
use Rattle.tcp_refinement.specs.Pair.Values.{PairSide, PairValue, context_at}
use Rattle.tcp_refinement.specs.declared.pair.event.PairEvent.{PairEvent}
use Rattle.tcp_refinement.specs.declared.pair.event.PairEvent.TheVariants.{Listen, Connect, Send, Recv, Close, Abort, TcpSetting, Clock, Offer, Deliver}
use Rattle.tcp_refinement.specs.declared.pair.event.PairRefused.{PairRefused}
use Rattle.tcp_refinement.specs.declared.pair.event.PairRefused.TheVariants.{OpenedTwice}
use Rattle.tcp_refinement.specs.declared.pair.event.SentSegment.{SentSegment}
use Rattle.tcp_refinement.specs.declared.pair.event.Side.{Side}
use Rattle.tcp_refinement.specs.declared.pair.event.Side.TheVariants.{A, B}
use Rattle.tcp_refinement.specs.declared.pair.event.TcpSetting.{TcpSetting as Setting}
use Rattle.tcp_refinement.specs.declared.pair.event.TcpSetting.TheVariants as Set
use Rattle.tcp_refinement.proofs.NameLaws.{abort_names, arrival_names, close_names, sent_names, withheld_names}
use Rattle.tcp_liveness.specs.Pair.{socket_of}
use Rattle.tcp_liveness.specs.Reached.{IsReached}
use Rattle.tcp_liveness.specs.Rounds.{takes}
use Rattle.tcp_liveness.specs.Sent.{is_early}
use Rattle.tcp_liveness.proofs.Kept.{reached_by}
use Rattle.tcp_liveness.proofs.OnwardPairs.{IsBegun, MovesIn, begun_after, by_steps}

clash : {X : Type 0} → true ≡ false → X
clash {X} e = absurd cc

-- ITS ENDPOINTS

abbrev pub KeepsPair : TcpValue → TcpValue → Type 0
KeepsPair v new = (new.tcb.names.pair ≡ v.tcb.names.pair) ⊎ (new.tcb.names.pair ≡ None)

pub then_keeps : (v mid new : TcpValue) → KeepsPair v mid → KeepsPair mid new → KeepsPair v new
then_keeps v mid new one (inr none) = inr none
then_keeps v mid new (inl same) (inl again) = inl (again ∙ same)
then_keeps v mid new (inr none) (inl again) = inr (again ∙ none)

by_keeping : (v new : TcpValue) → KeepsOrForgets v.tcb new.tcb → KeepsPair v new
by_keeping v new (inl keeps) = inl (ap (λ (n : Names). n.pair) keeps.names)
by_keeping v new (inr forgets) = inr (ap (λ (n : Names). n.pair) forgets.names)

by_leaving : (v new : TcpValue) → IsLeftBy v.tcb new.tcb → KeepsPair v new
by_leaving v new (inl falls) = inr (ap (λ (n : Names). n.pair) falls.names)
by_leaving v new (inr keeps) = by_keeping v new keeps

no_listener : (state : State) → is_early state ≡ false → is_listening state ≡ true → ⊥
no_listener In.Listen late listens = clash late
no_listener other late listens = absurd cc

by_renaming : (v : TcpValue) (x : SentSegment) (new : TcpValue) → is_early v.tcb.state ≡ false → IsRenamed x.header x.segment v.tcb new.tcb → KeepsPair v new
by_renaming v x new late (inl opened) = absurd (no_listener v.tcb.state late opened.listening)
by_renaming v x new late (inr left) = by_leaving v new left

-- AN EVENT

never_again : {X : Type 0} (test : Bool) (why : PairRefused) → if_so test why ≡ None → test ≡ true → X
never_again true why e f = absurd (cc)
never_again false why e f = clash (sym f)

read_keeps : (s : PairSide) (r : Result ℕ RecvError) → KeepsPair s.socket (reads s r).side.socket
read_keeps s (Ok n) = inl refl
read_keeps s (Err fault) = inl refl

setting_keeps : (setting : Setting) (v : TcpValue) → KeepsPair v (set_by setting v)
setting_keeps (Set.Timeout duration) v = inl refl
setting_keeps (Set.AckDelay duration) v = inl refl
setting_keeps (Set.KeepAlive interval) v = inl refl
setting_keeps (Set.NagleEnabled enabled) v = inl refl
setting_keeps (Set.HopLimit limit) v = inl refl
setting_keeps (Set.TsvalGenerator generator) v = inl refl
setting_keeps (Set.CongestionControl control) v = inl refl
setting_keeps (Set.PauseSynack paused) v = inl refl
setting_keeps (Set.Retries limit) v = inl refl
setting_keeps (Set.MinRto duration) v = inl refl
setting_keeps (Set.FineTimer fine) v = inl refl

comes_keeps : (side : Side) (s : PairSide) (o : Option SentSegment) → is_early s.socket.tcb.state ≡ false → KeepsPair s.socket (handed side s o).socket
comes_keeps side s None late = inl refl
comes_keeps side s (Some x) late = by (accepts s.socket.tcb x.header x.segment) where
  by : (takes_it : Bool)
      → KeepsPair s.socket (if takes_it then taken_at s (arrives (context_at side s) s.socket x.header x.segment x.bytes) else s).socket
  by true =
      by_renaming s.socket x (arrives (context_at side s) s.socket x.header x.segment x.bytes).socket late
      (arrival_names (context_at side s) s.socket x.header x.segment x.bytes)
  by false = inl refl

-- of the side that it is for, which was opened
own_keeps : (p : PairValue) (event : PairEvent) → refusal p event ≡ None → was_opened (at (pasts p.history) (side_of event)).opening ≡ true
    → is_early (at p.sides (side_of event)).socket.tcb.state ≡ false → KeepsPair (at p.sides (side_of event)).socket (acting p event).side.socket
own_keeps p (Listen side endpoint) e opened late = never_again (was_opened (at (pasts p.history) side).opening) OpenedTwice e opened
own_keeps p (Connect side remote local) e opened late = never_again (was_opened (at (pasts p.history) side).opening) OpenedTwice e opened
own_keeps p (Send side bytes) e opened late =
    let v = (at p.sides side).socket in
    cond_both (takes_writes v.tcb.state) _ (unoffered v) (λ (new : TcpValue). KeepsPair v new) (λ _. inl refl) (λ _. inl refl)
own_keeps p (Recv side count) e opened late = read_keeps (at p.sides side) (recv_answer (at p.sides side).socket count)
own_keeps p (Close side) e opened late =
    by_keeping (at p.sides side).socket (close_after (at p.sides side).socket) (close_names (at p.sides side).socket)
own_keeps p (Abort side) e opened late =
    by_keeping (at p.sides side).socket (abort_after (at p.sides side).socket) (abort_names (at p.sides side).socket)
own_keeps p (TcpSetting side setting) e opened late = setting_keeps setting (at p.sides side).socket
own_keeps p (Clock side instant) e opened late = inl refl
own_keeps p (Offer side instant true) e opened late =
    let cx = context_at side (record (at p.sides side) { instant = instant }) in
    by_leaving (at p.sides side).socket (settled true (offer_of cx (at p.sides side).socket).socket) (sent_names cx (at p.sides side).socket)
own_keeps p (Offer side instant false) e opened late =
    let cx = context_at side (record (at p.sides side) { instant = instant }) in
    by_leaving (at p.sides side).socket (settled false (offer_of cx (at p.sides side).socket).socket) (withheld_names cx (at p.sides side).socket)
own_keeps p (Deliver from k) e opened late = comes_keeps (other from) (at p.sides (other from)) (slice_get (at p.sides (other (other from))).sent k) late

-- of either side
put_keeps : (both : Both PairSide) (of side : Side) (new : PairSide) → KeepsPair (at both of).socket new.socket
    → KeepsPair (at both side).socket (at (put both of new) side).socket
put_keeps both A A new keeps = keeps
put_keeps both A B new keeps = inl refl
put_keeps both B A new keeps = inl refl
put_keeps both B B new keeps = keeps

begun_of : (p : PairValue) → IsBegun p A → IsBegun p B → (side : Side) → IsBegun p side
begun_of p a b A = a
begun_of p a b B = b

-- EVENTS

pub steps_keep : (p : PairValue) (events : List PairEvent) (q : PairValue) → IsReached p → IsBegun p A → IsBegun p B → Steps p events q → (side : Side)
    → KeepsPair (socket_of p side) (socket_of q side)
steps_keep p [] q r a b s side = subst (λ (q : PairValue). KeepsPair (socket_of p side) (socket_of q side)) (sym s) (inl refl)
steps_keep p (event ∷ events) q r a b s side =
    let m : PairValue = takes p event in
    let reached : IsReached m = reached_by p m (event ∷ []) r (s.0, refl) in
    let moves : (of : Side) → MovesIn p m of = λ of. by_steps p (event ∷ []) m r a b (s.0, refl) of in
    let begun : IsBegun p (side_of event) = begun_of p a b (side_of event) in
    then_keeps (socket_of p side) (socket_of m side) (socket_of q side)
    (put_keeps p.sides (side_of event) side (acting p event).side (own_keeps p event s.0 begun.opened begun.early))
    (steps_keep m events q reached (begun_after p m A (moves A) a) (begun_after p m B (moves B) b) s.1 side)
