-- A poll of a host is a run of moves.
use Rattle.std.proofs.Common.{◌≡◌, ◌<◌, ◌≤◌, ◌+◌, ◌*◌, ◌^◌, arith, ℕ, Bool, true, false, ◌&&◌, inl, inr, List, [], ◌∷◌, Option, Some, None, IfSome, refl, sym, ap, ◌∙◌, subst}
use Rattle.std.specs.Prelude.{ℤ}
use Rattle.std.proofs.Math.Nat.{mul-le-mul_left}
use Rattle.sim_link.specs.Device.{Move, Empty, Took}
use Rattle.iface_egress.specs.Fragments.{LeftValue}
use Rattle.iface_ingress.specs.ArpRepr.{ArpRepr}
use Rattle.iface_ingress.specs.HardwareAddress.{HardwareAddress}
use Rattle.iface_ingress.specs.IpAddress.{IpAddress}
use Rattle.iface_egress.specs.Departure as Departures
use Rattle.iface_egress.specs.IsTransmitted.{Departs}
use Rattle.lan.proofs.Worlds.Moves.Nets.{grows_not}
use Rattle.iface_ingress.specs.Arrives as Replies
use Rattle.iface_ingress.specs.Arrives.{ReplyValue}
use Rattle.interface.specs.Host.{HostValue, Sender, sender}
use Rattle.interface.specs.Ingress.{is_read, Takes, Reads, Replied, is_awaited, sender_of, would_solicit}
use Rattle.interface.specs.Polls.{Polls, begun}
use Rattle.interface.specs.State.{State, state, at_device, telling}
use Rattle.interface.specs.EgressPath.{FragmentLeaves}
use Rattle.interface.specs.State.{sending_as}
use Rattle.interface.proofs.Kept.{IsKept}
use Rattle.interface.proofs.Alone.{answers_alone}
use Rattle.interface.proofs.Kept.{IsPriced, IsPricedAlone}
use Rattle.interface.specs.Used.{sockets_in}
use Rattle.interface.proofs.HostCounts.{hosts_priced}
use Rattle.interface.proofs.KeepAlone.{polls_cost_alone}
use Rattle.lan.specs.Worlds.AtLink.Side.{Side}
use Rattle.lan.specs.Worlds.AtLink.Kinds.{other}
use Rattle.lan.specs.Worlds.AtLink.Parties.{Party, Net, party}
use Rattle.lan.specs.Worlds.Moves.Follows.{sockets_of}
use Rattle.interface.proofs.Runs.{receives_same}
use Rattle.interface.proofs.SameHost.{slot_same}
use Rattle.iface_tables.specs.Inner.{InnerValue}
use Rattle.lan.proofs.Worlds.Moves.Devices.{fragment_leaves, slot_turns, takes}
use Rattle.lan.proofs.Worlds.Moves.Following.{Follows, Reaches, narrowed, sent_more, took_one}
use Rattle.lan.proofs.Worlds.Moves.Frames.{Frames, IsTaking, Sent, and_gone, and_taken, none_sent, sent_on}
use Rattle.lan.proofs.Worlds.Moves.Held.{IsAsAt, Stays, stays_before}
use Rattle.lan.proofs.Worlds.Moves.AnswersGone.{replied_left, settings_on}
use Rattle.lan.proofs.Worlds.Moves.Idents.{StaysSmall, small_counted}
use Rattle.lan.proofs.Worlds.Moves.HopLimit.{HopLimit, hop_now, hop_limit_arrival, hop_limit_out, hop_limit_skip, knew, knew_before, knew_out}
use Rattle.lan.proofs.Worlds.Moves.Later.{IsSince, as_since, brings_later, brought_home, since_arrival, since_begun, since_out, stayed}
use Rattle.lan.proofs.Worlds.Moves.Leave.{IsGiving}
use Rattle.lan.specs.Worlds.Moves.Fit.{IsFit}
use Rattle.lan.specs.Worlds.Moves.HopLimit.{KnowsHop}
use Rattle.lan.specs.Worlds.Moves.Link.{IsLink, brought}
use Rattle.lan.proofs.Worlds.Moves.MadeReplies.{IsMadeReply}
use Rattle.lan.specs.Worlds.Moves.Raws.{OfEach}
use Rattle.lan.proofs.Worlds.Moves.EachSocket.{kept, middle}
use Rattle.lan.proofs.Worlds.Moves.Fits.{fit_runs}
use Rattle.lan.proofs.Worlds.Moves.Slots.{Slots}
use Rattle.lan.proofs.Worlds.Moves.Takings.{brings_moves}
use Rattle.lan.proofs.Worlds.Moves.Turns.{turn_follows}
use Rattle.lan.proofs.Worlds.Moves.Wide.{CanBeWide, brings_wide}

module _ {D : Type 0} (moves : D → Move → D → Type 0) (t : ℤ) (names : List ℕ → Bool) (side : Side) (i0 : InnerValue) (net : Net) (L : ℕ →
    State D → Party → Type 0) (link : IsLink moves (party net (other side)) L) (Begun Gives : D → Type 0)
    (giving : IsGiving moves Begun Gives) (Taken : Frames → D → Type 0) (taking : IsTaking moves Taken) (alone : i0.host_requirements ≡ false) where
  abbrev At : ℕ → State D → Type 0
  At n s = Follows names side Gives Taken i0 t (L n) net s

  -- where its frames go, it knew
  abbrev Knows : Frames → InnerValue → IpAddress → HardwareAddress → Type 0
  Knows F i = KnowsHop i0 t F.taken i

  -- a device that gives leave gave it at this one
  abbrev GaveAt : D → D → Type 0
  GaveAt before d = Gives d → Gives before

  gave_back : (before d d' : D) (m : Move) → moves d m d' → GaveAt before d → GaveAt before d'
  gave_back before d d' m moved gave given = gave (giving.had d d' m moved given)

  more : (n m : ℕ) (s : State D) → n ≤ m → At n s → At m s
  more n m s up f = record { now = f.now; frames = f.frames; taken = f.taken; reaches = f.reaches; hop_limit = f.hop_limit; sockets = f.sockets; link = link.more n m s (party f.now side) up f.link }

  -- MAINTENANCE

  maintenance : (n : ℕ) (s : State D) → At n s → At n (begun t s)
  maintenance n s f = record { now = f.now; frames = f.frames; taken = f.taken; reaches = f.reaches; hop_limit = f.hop_limit; sockets = f.sockets; link = link.maintenance n t s (party f.now side) f.link }

  -- THE PIECE THAT WAITS

  left_link : (n : ℕ) (h : HostValue) (ps : Slots) (x x' : Sender D) (l : LeftValue) (gone : Bool) (p : Party) → x.left ≡ Some l →
      FragmentLeaves moves l x gone x' → x'.inner ≡ x.inner
      → L n (sending_as h x ps) p → L n (sending_as h x' ps) p
  left_link n h ps x x' l gone p is (inl denied) same holds =
      let there : state x'.device (record h { inner = x.inner; left = x.left }) ps ≡ sending_as h x' ps =
      λ k. state x'.device (record h { inner = sym same k; left = sym denied.2 k }) ps in
      subst (λ (s : State D). L n s p) there (link.leave n (sending_as h x ps) p false x'.device denied.0 holds)
  left_link n h ps x x' l gone p is (inr goes) same holds =
      let at : State D = state goes.0 (record h { inner = x.inner; left = x.left }) ps in
      let there : state x'.device (record h { inner = x.inner; left = x'.left }) ps ≡ sending_as h x' ps =
      λ k. state x'.device (record h { inner = sym same k; left = x'.left }) ps in
      subst (λ (s : State D). L n s p) there
      (link.fragment n at p l gone x'.device x'.left is goes.2 (link.leave n (sending_as h x ps) p true goes.0 goes.1 holds))

  fragments : (n : ℕ) (h : HostValue) (ps : Slots) (x x' : Sender D) (l : LeftValue) (gone : Bool) → x.left ≡ Some l → FragmentLeaves moves l x gone x' →
      x'.inner ≡ x.inner → At n (sending_as h x ps) → At n (sending_as h x' ps)
  fragments n h ps x x' l gone is leaves same f =
      let out : Sent Taken f.frames x'.device =
      fragment_leaves moves (Sent Taken f.frames) (sent_on moves Taken taking f.frames) l x x' gone leaves (none_sent moves Taken taking f.frames x.device f.taken) in
      let frames : Frames = and_gone f.frames out.more in
      record {
        now = f.now;
        frames = frames;
        taken = out.taken;
        reaches = narrowed names side (Stays i0 x.inner) (Stays i0 x'.inner) (Gives x.device) (Gives x'.device) (Knows f.frames x.inner) (Knows f.frames x'.inner)
            frames i0 t net f.now (subst (Stays i0) same)
            (fragment_leaves moves (GaveAt x.device) (λ d d' m none. gave_back x.device d d' m) l x x' gone leaves (λ g. g))
            (λ remote to knows. subst (λ (i : InnerValue). Knows f.frames i remote to) same knows)
            (sent_more names side (Stays i0 x.inner) (Gives x.device) (Knows f.frames x.inner) f.frames i0 t net f.now out.more f.reaches);
        hop_limit = subst (HopLimit i0 t f.frames.taken) (sym same) f.hop_limit;
        sockets = f.sockets;
        link = left_link n h ps x x' l gone (party f.now side) is leaves same f.link;
      }

  -- A FRAME

  -- what is asked of an answer that is an ARP packet
  abbrev CanTell : ℕ → HostValue → Slots → Sender D → Party → Option ReplyValue → Type 0
  CanTell n g ps x p reply = (packet : ArpRepr) (gone : Bool) (d : D) → reply ≡ Some (Replies.Tells packet) →
      Departs moves x.device x.inner (Departures.Tells packet) gone d
      → L n (sending_as g x ps) p → L n (at_device (sending_as g x ps) d) p

  replied : (n : ℕ) (g : HostValue) (ps : Slots) (x x' : Sender D) (p : Party) (awaited : Bool) (reply : Option ReplyValue) → CanTell n g ps x p reply →
      IfSome reply CanBeWide → IfSome reply (IsMadeReply p) → x.inner.host_requirements ≡ false → Replied moves awaited reply x x'
      → L n (sending_as g x ps) p → L (n + 1) (sending_as g x' ps) p
  replied n g ps x x' p awaited None tell wide made none is holds =
      link.more n (n + 1) (sending_as g x' ps) p (omega arith) (subst (λ (y : Sender D). L n (sending_as g y ps) p) (sym is) holds)
  replied n g ps x x' p awaited (Some (Replies.Tells packet)) tell wide made none (gone, departs, inner, left) holds =
      let there : state x'.device (record g { inner = x.inner; left = x.left }) ps ≡ sending_as g x' ps =
      λ k. state x'.device (record g { inner = sym inner k; left = sym left k }) ps in
      link.more n (n + 1) (sending_as g x' ps) p (omega arith) (subst (λ (s : State D). L n s p) there (tell packet gone x'.device refl departs holds))
  replied n g ps x x' p awaited (Some (Replies.Answers packet)) tell wide made none (inl held) holds =
      link.more n (n + 1) (sending_as g x' ps) p (omega arith) (subst (λ (y : Sender D). L n (sending_as g y ps) p) (sym held.0) holds)
  replied n g ps x x' p awaited (Some (Replies.Answers packet)) tell wide made none (inr answers) holds =
      let went = answers_alone moves packet (awaited && would_solicit x packet) x x' none answers in
      link.goes n (sending_as g x ps) p packet went.0 x'.device x'.inner x'.left (wide went.2) (λ done. made) went.1 holds

  read : (n : ℕ) (s s' : State D) (frame : List ℕ) (mid : D) → moves s.device (Took s.host.inner.instant frame) mid → is_read frame ≡ true →
      Reads moves frame (at_device s mid) s' →
      IsAsAt i0 t s.host.inner → Begun s.device → At n s → At (n + 1) s'
  read n s s' frame mid took reads (content, is, receives, hears) like begins f =
      let a = receives.0 in
      let back : Stays i0 s'.host.inner → Stays i0 a.inner =
      stays_before i0 a.inner s'.host.inner (receives_same moves content (at_device s mid) s' receives).1 in
      let gave = takes moves (GaveAt s.device) (gave_back s.device) s s' (Some true) (frame, mid, took, reads, (content, is, receives, hears)) (λ g. g) in
      let same = (receives_same moves content (at_device s mid) s' receives).0 in
      let with_it : Frames = and_taken f.frames frame in
      let later : IpAddress → HardwareAddress → Type 0 = Knows with_it s'.host.inner in
      let knew_it : (remote : IpAddress) (to : HardwareAddress) → later remote to → Knows with_it a.inner remote to =
      knew_out i0 t with_it.taken a.inner s'.host.inner (receives_same moves content (at_device s mid) s' receives).1 in
      let then_hop_limit : HopLimit i0 t with_it.taken a.inner =
      hop_limit_arrival i0 s.host.inner t frame s.host.timeout s.host.assemblers s.slots content a like.settings like.instant same is receives.1.1 f.frames.taken f.hop_limit in
      let answers = replied_left moves Taken taking with_it i0 later Begun Gives giving (is_awaited a) a.reply (sender mid a.inner s.host.left) (sender_of moves s')
      (same.host_requirements ∙ like.settings.host_requirements ∙ alone) receives.3 (taking.takes s.device mid s.host.inner.instant frame f.frames took f.taken) (giving.since s.device mid (Took s.host.inner.instant frame) took begins)
      (settings_on i0 s.host.inner a.inner like.settings same)
      (λ small. subst (λ (k : ℕ). k < 2 ^ 16) (sym same.ident) (like.ident small))
      (λ remote to knows. hop_now a.inner t remote to (same.instant ∙ like.instant) (then_hop_limit remote to (knew_it remote to knows)))
      (brings_wide s.host.inner s.slots (brought s content) a receives.1.1) in
      let out : Sent Taken with_it s'.device = answers.out in
      let F : Frames = and_gone f.frames out.more in
      let so_far = sent_more names side (Stays i0 s'.host.inner) (Gives s'.device) later f.frames i0 t net f.now out.more
      (narrowed names side (Stays i0 s.host.inner) (Stays i0 s'.host.inner) (Gives s.device) (Gives s'.device) (Knows f.frames s.host.inner) later f.frames i0 t net
      f.now
      (λ c. stayed i0 s.host.inner a.inner like.low (brings_later s.host.inner s.slots (brought s content) a receives.1.1) (back c)) gave
      (λ remote to knows. knew_before i0 s.host.inner t frame s.host.timeout s.host.assemblers s.slots content a like.settings like.instant same is receives.1.1
      f.frames.taken remote to (knew_it remote to knows)) f.reaches) in
      let p = party f.now side in
      let g : HostValue = record s.host { assemblers = s'.host.assemblers } in
      let x = sender mid a.inner s.host.left in
      let made = link.brings n s p frame mid content took reads is f.link in
      let end = brings_moves names side (Stays i0 s'.host.inner) (Gives s'.device) later F i0 t net f.now so_far s.host.inner s.slots f.sockets like (brought s content) a
      (brought_home s.host.inner s.host.timeout s.host.assemblers content) (λ c. (back c).1) receives.1.1 made answers.left in
      let p' = party end.moved.next side in
      let taken : L n (sending_as g x s.slots) p = link.takes n s p frame mid content s'.host.assemblers a took reads is receives.1 f.link in
      let given : L n (sending_as g x s.slots) p' = link.grown n (sending_as g x s.slots) s.slots p p' end.moved.grows taken in
      let tell : CanTell n g s.slots x p' a.reply =
      λ packet gone d so departs holds. link.tells n s p' frame mid content s'.host.assemblers a packet gone d took reads is receives.1 so departs holds in
      let told : L (n + 1) (sending_as g (sender_of moves s') s.slots) p' =
      replied n g s.slots x (sender_of moves s') p' (is_awaited a) a.reply tell (brings_wide s.host.inner s.slots (brought s content) a receives.1.1) end.made
      (same.host_requirements ∙ like.settings.host_requirements ∙ alone) receives.3 given in
      let heard : L (n + 1) (sending_as (telling g s'.host.reports) (sender_of moves s') s.slots) p' =
      link.hears (n + 1) (sending_as g (sender_of moves s') s.slots) p' s'.host.reports told in
      let placed : L (n + 1) (sending_as (telling g s'.host.reports) (sender_of moves s') s'.slots) p' =
      link.grown (n + 1) (sending_as (telling g s'.host.reports) (sender_of moves s') s.slots) s'.slots p' p' (grows_not p') heard in
      let there : sending_as (telling g s'.host.reports) (sender_of moves s') s'.slots ≡ s' =
      λ k. state s'.device (record {
        inner = s'.host.inner;
        left = s'.host.left;
        assemblers = s'.host.assemblers;
        timeout = sym receives.4 k;
        reports = s'.host.reports;
      }) s'.slots in
      record {
        now = end.moved.next;
        frames = and_gone with_it out.more;
        taken = out.taken;
        reaches = took_one names side (Stays i0 s'.host.inner) (Gives s'.device) later F i0 t net end.moved.next frame end.moved.reaches (λ read. record {
          i = s.host.inner;
          settings = like.settings;
          instant = like.instant;
          timeout = s.host.timeout;
          assemblers = s.host.assemblers;
          content = content;
          is = is;
          brings = end.brings;
        });
        hop_limit = hop_limit_out i0 t with_it.taken a.inner s'.host.inner (receives_same moves content (at_device s mid) s' receives).1 then_hop_limit;
        sockets = end.moved.sockets_are ∙ ap (λ (ps : Slots). sockets_of ps) (sym receives.2);
        link = subst (λ (u : State D). L (n + 1) u p') there placed;
      }

  -- a move of the device alone
  looked : (frames : Frames) (s s' : State D) (m : Move) → moves s.device m s'.device → (now : Net) →
      Reaches names side (Stays i0 s.host.inner) (Gives s.device) (Knows frames s.host.inner) frames i0 t net now →
      Reaches names side (Stays i0 s.host.inner) (Gives s'.device) (Knows frames s.host.inner) frames i0 t net now
  looked frames s s' m moved now r =
      narrowed names side (Stays i0 s.host.inner) (Stays i0 s.host.inner) (Gives s.device) (Gives s'.device) (Knows frames s.host.inner)
      (Knows frames s.host.inner) frames i0 t net now (λ c. c) (giving.had s.device s'.device m moved) (λ remote to knows. knows) r

  unread : (frame : List ℕ) (P : Type 0) → is_read frame ≡ false → is_read frame ≡ true → P
  unread frame P none some = let both : true ≡ false = sym some ∙ none in absurd (cc)

  arrivals : (n : ℕ) (s s' : State D) (answer : Option Bool) → IsAsAt i0 t s.host.inner → Begun s.device → At n s → Takes moves s answer s' → At (n + 1) s'
  arrivals n s s' None like begins f took = more n (n + 1) s' (omega arith) (subst (At n) (sym took.1) (record {
    now = f.now;
    frames = f.frames;
    taken = taking.rests s.device s'.device (Empty s.host.inner.instant) f.frames tt took.0 f.taken;
    reaches = looked f.frames s s' (Empty s.host.inner.instant) took.0 f.now f.reaches;
    hop_limit = f.hop_limit;
    sockets = f.sockets;
    link = link.looks n s (party f.now side) s'.device took.0 f.link;
  }))
  arrivals n s s' (Some false) like begins f took = more n (n + 1) s' (omega arith) (subst (At n) (sym took.3) (record {
    now = f.now;
    frames = and_taken f.frames took.0;
    taken = taking.takes s.device s'.device s.host.inner.instant took.0 f.frames took.1 f.taken;
    reaches = took_one names side (Stays i0 s.host.inner) (Gives s'.device) (Knows (and_taken f.frames took.0) s.host.inner) f.frames i0 t net f.now took.0
        (narrowed names side (Stays i0 s.host.inner) (Stays i0 s.host.inner) (Gives s'.device) (Gives s'.device) (Knows f.frames s.host.inner)
        (Knows (and_taken f.frames took.0) s.host.inner) f.frames i0 t net f.now (λ c. c) (λ g. g)
        (λ remote to knows. knew i0 t f.frames.taken (took.0 ∷ []) s.host.inner s.host.inner remote to (λ room. room) knows)
        (looked f.frames s s' (Took s.host.inner.instant took.0) took.1 f.now f.reaches)) (unread took.0 _ took.2);
    hop_limit = hop_limit_skip i0 t f.frames.taken (took.0 ∷ []) s.host.inner f.hop_limit;
    sockets = f.sockets;
    link = link.skips n s (party f.now side) took.0 s'.device took.1 took.2 f.link;
  }))
  arrivals n s s' (Some true) like begins f took = read n s s' took.0 took.1 took.2 took.3 took.4 like begins f

  -- ALL

  abbrev Fit : State D → Type 0
  Fit s = OfEach IsFit s.slots

  fit_kept : IsKept moves t Fit
  fit_kept = kept IsFit fit_runs.polls moves t

  -- the host since the poll began
  abbrev Since : State D → Type 0
  Since s = IsSince i0 s.host.inner

  since_arrivals : (s s' : State D) (answer : Option Bool) → Since s → Takes moves s answer s' → Since s'
  since_arrivals s s' None since takes = subst Since (sym takes.1) since
  since_arrivals s s' (Some false) since takes = subst Since (sym takes.3) since
  since_arrivals s s' (Some true) since (frame, mid, took, reads, (content, is, receives, hears)) =
      let same = receives_same moves content (at_device s mid) s' receives in
      since_out i0 receives.0.inner s'.host.inner same.1 (since_arrival i0 s.host.inner receives.0.inner same.0
      (brings_later s.host.inner s.slots (brought s content) receives.0 receives.1.1) since)

  abbrev Small : ℕ → State D → Type 0
  Small n s = StaysSmall i0 s.host.inner

  small_priced : IsPriced moves t 0 Small
  small_priced = hosts_priced moves t (λ n i. StaysSmall i0 i) (small_counted i0 t) (λ n i k small. small)

  abbrev Both : ℕ → State D → Type 0
  Both n s = Fit s × (Since s × (Begun s.device × (Small n s × At n s)))

  all_priced : IsPricedAlone moves t 0 Both
  all_priced = record {
    more = λ n m s up both. (both.0, (both.1.0, (both.1.1.0, (both.1.1.1.0, more n m s up both.1.1.1.1))));
    maintenance = λ n s both. (
      fit_kept.maintenance s both.0,
      (since_begun i0 s.host.inner t both.1.0, (both.1.1.0, (small_priced.maintenance n s both.1.1.1.0, maintenance n s both.1.1.1.1))),
    );
    arrivals = λ n s s' answer runs both took. (
      fit_kept.arrivals s s' answer (runs.0, runs.1) both.0 took,
      (
        since_arrivals s s' answer both.1.0 took,
        (
          takes moves Begun giving.since s s' answer took both.1.1.0,
          (
            small_priced.arrivals n s s' answer (runs.0, runs.1) both.1.1.1.0 took,
            arrivals n s s' answer (as_since i0 s.host.inner t runs.0 both.1.0 both.1.1.1.0) both.1.1.0 both.1.1.1.1 took,
          ),
        ),
      ),
    );
    fragments = λ n h ps x x' l gone runs is both leaves same. (
      fit_kept.fragments h ps x x' l gone (runs.0, runs.1) is both.0 leaves same,
      (
        subst (IsSince i0) (sym same) both.1.0,
        (
          fragment_leaves moves Begun (λ d d' m none. giving.since d d' m) l x x' gone leaves both.1.1.0,
          (
            small_priced.fragments n h ps x x' l gone (runs.0, runs.1) is both.1.1.1.0 leaves same,
            more n (n + 0) (sending_as h x' ps) (omega arith) (fragments n h ps x x' l gone is leaves same both.1.1.1.1),
          ),
        ),
      ),
    );
    turns = λ turn n h before after p p' x x' turned used runs both took. (
      fit_kept.turns turn h before after p p' x x' turned (runs.0, runs.1) both.0 took,
      (
        since_out i0 x.inner x'.inner (slot_same moves turn x x' p p' turned took) both.1.0,
        (
          slot_turns moves Begun (λ d d' m none. giving.since d d' m) turn x x' both.1.1.0 p p' turned took,
          (
            small_priced.turns turn n h before after p p' x x' turned used (runs.0, runs.1) both.1.1.1.0 took,
            turn_follows moves turn names side i0 t net (party net (other side)) L link Begun Gives giving Taken taking alone n h before after p p' x x' turned took both.1.1.0
                (as_since i0 x.inner t runs.0 both.1.0 both.1.1.1.0) (middle IsFit before after p both.0) both.1.1.1.1,
          ),
        ),
      ),
    );
  }

  -- What holds before a poll holds after it, where moves of this host have led to its sockets. It counted no more packets than one for
  -- each frame that it took and each socket's turn.
  pub polls_follow : (budget n : ℕ) (s s' : State D) (changed : Bool) → s.host.inner.host_requirements ≡ false → OfEach IsFit s.slots → Since s → Begun s.device → StaysSmall i0 s.host.inner → Follows names side Gives Taken i0 t (L n) net s →
      Polls moves t budget s changed s'
      → OfEach IsFit s'.slots × Follows names side Gives Taken i0 t (L (n + budget * (1 + sockets_in s.slots))) net s'
  polls_follow budget n s s' changed none fit since begins small f polls =
      let both = (polls_cost_alone moves t 0 Both all_priced budget n s s' changed none (fit, (since, (begins, (small, f)))) polls).0 in
      let most : budget * (1 + (0 + sockets_in s.slots)) ≤ budget * (1 + sockets_in s.slots) = mul-le-mul_left budget (omega arith) in
      (both.0, more (n + budget * (1 + (0 + sockets_in s.slots))) (n + budget * (1 + sockets_in s.slots)) s' (omega (arith, most)) both.1.1.1.1)
