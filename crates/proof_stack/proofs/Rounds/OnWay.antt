-- Frames on their way through the events of a round: each that was sent is still to be handed over, or waits at the other host, until a poll takes it.
use Rattle.std.proofs.Common.{◌≡◌, ◌⊎◌, inl, inr, ℕ, zero, suc, ◌<◌, ◌≤◌, ℤ, pos, ◌+ℤ◌, ◌≤ℤ◌, true, List, [], ◌∷◌, ◌++◌, length, drop, refl, sym, ap, ◌∙◌, subst, arith}
use Rattle.std.specs.Prelude.{if◌then◌else◌, slice_index_or}
use Rattle.std.specs.List.{AllByRecursion}
use Rattle.std.proofs.lemmas.Int.{ints}
use Rattle.std.proofs.lemmas.List.{append-nil}
use Rattle.interface.specs.Ingress.{is_read}
use Rattle.lan.specs.declared.at_link.history.event.Side.{Side}
use Rattle.lan.specs.declared.at_link.history.event.Side.TheVariants.{A, B}
use Rattle.lan.specs.Worlds.AtLink.Kinds.{Delivered, Kind, other, same_side}
use Rattle.lan.specs.Worlds.AtLink.Kinds.Act.{Polls}
use Rattle.lan.specs.Worlds.AtLink.Kinds.Kind.{OfHost}
use Rattle.lan.specs.Worlds.AtLink.Origins.{handed}
use Rattle.lan.specs.Worlds.AtLink.Node.{NodeValue, Nodes, node}
use Rattle.sim_link.specs.Port.{LinkEnd}
use Rattle.lan.proofs.Worlds.Moves.Nets.{either_side}
use Rattle.proof_stack.specs.Progress.FramesInTransit.{IsOnItsWay, SendsIn, TakesIn}
use Rattle.proof_stack.specs.Progress.Leave.{LiesAmong}
use Rattle.proof_stack.proofs.Rounds.Sendings.{CanBeRead, SendsShort}
use Rattle.proof_stack.proofs.Rounds.Takings.{TakesFew}

abbrev Frames : Type 0
Frames = List (List ℕ)

abbrev pub Due : Type 0
Due = ℤ × List ℕ

-- LISTS

-- the frame is one of these
abbrev pub IsIn : List ℕ → Frames → Type 0
IsIn frame [] = ⊥
IsIn frame (f ∷ frames) = (f ≡ frame) ⊎ IsIn frame frames

in_first : (frame : List ℕ) (xs ys : Frames) → IsIn frame xs → IsIn frame (xs ++ ys)
in_first frame [] ys is = absurd is
in_first frame (x ∷ xs) ys (inl is) = inl is
in_first frame (x ∷ xs) ys (inr is) = inr (in_first frame xs ys is)

in_last : (frame : List ℕ) (xs ys : Frames) → IsIn frame ys → IsIn frame (xs ++ ys)
in_last frame [] ys is = is
in_last frame (x ∷ xs) ys is = inr (in_last frame xs ys is)

in_either : (frame : List ℕ) (xs ys : Frames) → IsIn frame (xs ++ ys) → IsIn frame xs ⊎ IsIn frame ys
in_either frame [] ys is = inr is
in_either frame (x ∷ xs) ys (inl is) = inl (inl is)
in_either frame (x ∷ xs) ys (inr is) = by (in_either frame xs ys is) where
  by : IsIn frame xs ⊎ IsIn frame ys → IsIn frame (x ∷ xs) ⊎ IsIn frame ys
  by (inl first) = inl (inr first)
  by (inr last) = inr last

drop_more : (frame : List ℕ) (k : ℕ) (xs ys : Frames) → IsIn frame (drop k xs) → IsIn frame (drop k (xs ++ ys))
drop_more frame zero xs ys is = in_first frame xs ys is
drop_more frame (suc k) [] ys is = absurd is
drop_more frame (suc k) (x ∷ xs) ys is = drop_more frame k xs ys is

-- those after a list that is no longer
drop_new : (frame : List ℕ) (k : ℕ) (xs ys : Frames) → k ≤ length xs → IsIn frame ys → IsIn frame (drop k (xs ++ ys))
drop_new frame zero xs ys few is = in_last frame xs ys is
drop_new frame (suc k) [] ys few is = absurd (omega (arith, few))
drop_new frame (suc k) (x ∷ xs) ys few is = drop_new frame k xs ys (omega (arith, few)) is

-- the next one, or one after it
drop_next : (frame : List ℕ) (k : ℕ) (xs : Frames) → IsIn frame (drop k xs) → (slice_index_or xs k [] ≡ frame) ⊎ IsIn frame (drop (suc k) xs)
drop_next frame zero [] is = absurd is
drop_next frame zero (x ∷ xs) (inl is) = inl is
drop_next frame zero (x ∷ xs) (inr is) = inr is
drop_next frame (suc k) [] is = absurd is
drop_next frame (suc k) (x ∷ xs) is = drop_next frame k xs is

in_drop : (frame : List ℕ) (k : ℕ) (xs : Frames) → IsIn frame (drop k xs) → IsIn frame xs
in_drop frame zero xs is = is
in_drop frame (suc k) [] is = absurd is
in_drop frame (suc k) (x ∷ xs) is = inr (in_drop frame k xs is)

drop_fewer : (frame : List ℕ) (j k : ℕ) (xs : Frames) → j ≤ k → IsIn frame (drop k xs) → IsIn frame (drop j xs)
drop_fewer frame zero k xs less is = in_drop frame k xs is
drop_fewer frame (suc j) zero xs less is = absurd (omega (arith, less))
drop_fewer frame (suc j) (suc k) [] less is = absurd is
drop_fewer frame (suc j) (suc k) (x ∷ xs) less is = drop_fewer frame j k xs (omega (arith, less)) is

pub drop_all : (frame : List ℕ) (k : ℕ) (xs : Frames) → length xs ≤ k → IsIn frame (drop k xs) → ⊥
drop_all frame zero [] all is = is
drop_all frame zero (x ∷ xs) all is = omega (arith, all)
drop_all frame (suc k) [] all is = is
drop_all frame (suc k) (x ∷ xs) all is = drop_all frame k xs (omega (arith, all)) is

cancel : (xs ys zs : Frames) → xs ++ ys ≡ xs ++ zs → ys ≡ zs
cancel [] ys zs is = is
cancel (x ∷ xs) ys zs is = cancel xs ys zs (cc)

map_all : {X : Type 0} (P Q : X → Type 0) (xs : List X) → ((x : X) → P x → Q x) → AllByRecursion P xs → AllByRecursion Q xs
map_all P Q [] by all = tt
map_all P Q (x ∷ xs) by all = (by x all.0, map_all P Q xs by all.1)

all_append : {X : Type 0} (P : X → Type 0) (xs ys : List X) → AllByRecursion P xs → AllByRecursion P ys → AllByRecursion P (xs ++ ys)
all_append P [] ys first last = last
all_append P (x ∷ xs) ys first last = (first.0, all_append P xs ys first.1 last)

-- ON THEIR WAY

way_first : (xs ys : List Due) (t : ℤ) (frame : List ℕ) → IsOnItsWay xs t frame → IsOnItsWay (xs ++ ys) t frame
way_first [] ys t frame is = absurd is
way_first (x ∷ xs) ys t frame (inl is) = inl is
way_first (x ∷ xs) ys t frame (inr is) = inr (way_first xs ys t frame is)

way_last : (xs ys : List Due) (t : ℤ) (frame : List ℕ) → IsOnItsWay ys t frame → IsOnItsWay (xs ++ ys) t frame
way_last [] ys t frame is = is
way_last (x ∷ xs) ys t frame is = inr (way_last xs ys t frame is)

-- of these some are taken, and the others are still on their way
record Parted (Q R : Due → Type 0) (xs : List Due) : Type 0 where
  left : List Due
  each : AllByRecursion (λ x. IsOnItsWay left x.0 x.1 ⊎ R x) xs
  so : AllByRecursion Q left

part : (P Q R : Due → Type 0) (xs : List Due) → ((x : Due) → P x → Q x ⊎ R x) → AllByRecursion P xs → Parted Q R xs
part P Q R [] by all = record { left = []; each = tt; so = tt }
part P Q R (x ∷ xs) by all = join (part P Q R xs by all.1) (by x all.0) where
  join : Parted Q R xs → Q x ⊎ R x → Parted Q R (x ∷ xs)
  join rest (inl stays) = record {
    left = x ∷ rest.left;
    each = (
      inl (inl refl),
      map_all (λ y. IsOnItsWay rest.left y.0 y.1 ⊎ R y) (λ y. IsOnItsWay (x ∷ rest.left) y.0 y.1 ⊎ R y) xs (λ y is. later y is) rest.each,
    );
    so = (stays, rest.so);
  } where
    later : (y : Due) → IsOnItsWay rest.left y.0 y.1 ⊎ R y → IsOnItsWay (x ∷ rest.left) y.0 y.1 ⊎ R y
    later y (inl is) = inl (inr is)
    later y (inr is) = inr is
  join rest (inr gone) = record { left = rest.left; each = (inr gone, rest.each); so = rest.so }

-- these frames, each to be taken by this instant
abbrev at_instant : ℤ → Frames → List Due
at_instant t [] = []
at_instant t (f ∷ fs) = (t, f) ∷ at_instant t fs

each_at : (P : Due → Type 0) (t : ℤ) (frames : Frames) → AllByRecursion (λ f. P (t, f)) frames → AllByRecursion P (at_instant t frames)
each_at P t [] all = tt
each_at P t (f ∷ frames) all = (all.0, each_at P t frames all.1)

on_at : (t : ℤ) (frames : Frames) → AllByRecursion (λ f. IsOnItsWay (at_instant t frames) t f) frames
on_at t [] = tt
on_at t (f ∷ frames) = (inl refl, map_all (λ g. IsOnItsWay (at_instant t frames) t g) (λ g. IsOnItsWay ((t, f) ∷ at_instant t frames) t g) frames (λ g is. inr is) (on_at t frames))

-- FRAMES UNDER WAY

-- the frame can be read, and is still to be handed over, or waits at the other host
abbrev pub IsUnder : ℕ → Side → Nodes → List ℕ → Type 0
IsUnder k side hosts frame =
    (is_read frame ≡ true) × (IsIn frame (drop k (node hosts side).link.sent) ⊎ IsIn frame (node hosts (other side)).link.waiting)

-- so is each of these, by an instant that isn't over
abbrev pub AreUnder : ℤ → ℕ → Side → Nodes → List Due → Type 0
AreUnder t k side hosts due = AllByRecursion (λ x. (t ≤ℤ x.0) × IsUnder k side hosts x.1) due

-- one of the first so many
record Found (frame : List ℕ) (xs : Frames) : Type 0 where
  before : Frames
  following : Frames
  are : xs ≡ before ++ frame ∷ following
  few : length before < length xs

found : (frame : List ℕ) (xs : Frames) → IsIn frame xs → Found frame xs
found frame [] is = absurd is
found frame (x ∷ xs) (inl is) = record { before = []; following = xs; are = ap (λ (f : List ℕ). f ∷ xs) is; few = omega arith }
found frame (x ∷ xs) (inr is) =
    let it = found frame xs is in
    record { before = x ∷ it.before; following = it.following; are = ap (λ (fs : Frames). x ∷ fs) it.are; few = let few = it.few in omega (arith, few) }

following_more : (frame : List ℕ) (before following rest : Frames) → (before ++ frame ∷ following) ++ rest ≡ before ++ (frame ++ []) ∷ (following ++ rest)
following_more frame [] following rest = ap (λ (f : List ℕ). f ∷ (following ++ rest)) (sym (append-nil frame))
following_more frame (x ∷ before) following rest = ap (λ (fs : Frames). x ∷ fs) (following_more frame before following rest)

lies_among : (frame : List ℕ) (xs rest waiting : Frames) (most : ℕ) → waiting ≡ xs ++ rest → IsIn frame xs → length xs ≤ most → is_read frame ≡ true
    → LiesAmong waiting most frame
lies_among frame xs rest waiting most are is fits read =
    let it = found frame xs is in
    record {
      padding = [];
      before = it.before;
      following = it.following ++ rest;
      frames = are ∙ ap (λ (fs : Frames). fs ++ rest) it.are ∙ following_more frame it.before it.following rest;
      few = let few = it.few in omega (arith, few, fits);
      short = ap is_read (append-nil frame) ∙ read;
    }

-- What becomes of the frames of a side that were on their way, where an event of this kind leads from hosts to hosts, as the clock shows this instant
-- after it. They are under way by an instant that isn't earlier.
pub record Way (k : Kind) (t instant : ℤ) (now : ℕ) (old new : Nodes) (side : Side) (before : List Due) : Type 0 where
  pub after : List Due
  pub goes : AllByRecursion (λ x. (t ≤ℤ x.0) × (IsOnItsWay after x.0 x.1 ⊎ TakesIn k old (other side) x.1)) before
  pub sends : (frames : Frames) → SendsIn k old new side frames → AllByRecursion (λ frame. IsOnItsWay after (t +ℤ pos 0) frame) frames
  pub under : AreUnder instant now side new after

in_turn : (a b c : ℤ) → a ≤ℤ b → b ≤ℤ c → a ≤ℤ c
in_turn a b c one two = omega (arith, ints, one, two)

-- each of these frames is still on its way, or taken
module _ (k : Kind) (t : ℤ) (old : Nodes) (side : Side) where
  abbrev On : List Due → Due → Type 0
  On after x = (t ≤ℤ x.0) × (IsOnItsWay after x.0 x.1 ⊎ TakesIn k old (other side) x.1)

  later : (y : Due) (xs : List Due) (x : Due) → On xs x → On (y ∷ xs) x
  later y xs x (soon, inl is) = (soon, inl (inr is))
  later y xs x (soon, inr is) = (soon, inr is)

  more_on : (xs ys : List Due) (x : Due) → On xs x → On (xs ++ ys) x
  more_on xs ys x (soon, inl is) = (soon, inl (way_first xs ys x.0 x.1 is))
  more_on xs ys x (soon, inr is) = (soon, inr is)

  all_on : (was : ℕ) (hosts : Nodes) (xs : List Due) → AreUnder t was side hosts xs → AllByRecursion (On xs) xs
  all_on was hosts [] all = tt
  all_on was hosts (x ∷ xs) all = ((all.0.0, inl (inl refl)), map_all (On xs) (On (x ∷ xs)) xs (later x xs) (all_on was hosts xs all.1))

-- where none is taken, and none is sent
pub stays_on : (k : Kind) (t instant : ℤ) (was now : ℕ) (old new : Nodes) (side : Side) (before : List Due) → t ≤ℤ instant
    → ((frames : Frames) → SendsIn k old new side frames → ⊥) → ((frame : List ℕ) → IsUnder was side old frame → IsUnder now side new frame)
    → AreUnder instant was side old before → Way k t instant now old new side before
stays_on k t instant was now old new side before soon none by all = record {
  after = before;
  goes = all_on k t old side was old before
      (map_all (λ x. (instant ≤ℤ x.0) × IsUnder was side old x.1) (λ x. (t ≤ℤ x.0) × IsUnder was side old x.1) before
      (λ x is. (in_turn t instant x.0 soon is.0, is.1)) all);
  sends = λ frames sends. absurd (none frames sends);
  under = map_all (λ x. (instant ≤ℤ x.0) × IsUnder was side old x.1) (λ x. (instant ≤ℤ x.0) × IsUnder now side new x.1) before (λ x is. (is.0, by x.1 is.1)) all;
}

-- A POLL

this_instant : (t : ℤ) → t ≤ℤ (t +ℤ pos 0)
this_instant t = first_of (omega (arith, ints), grind (arith, ints))

apart : (s side : Side) → other s ≡ side → side ≡ s → ⊥
apart A A one two = absurd (cc)
apart A B one two = absurd (cc)
apart B A one two = absurd (cc)
apart B B one two = absurd (cc)

twice : (side : Side) → other (other side) ≡ side
twice A = refl
twice B = refl

module _ (t : ℤ) (budget : ℕ) (old new : Nodes) (side : Side) where
  abbrev Poll : Kind
  Poll = OfHost side (Polls t budget)

  -- of what its host sends
  module _ (k : ℕ) (few : k ≤ length (node old side).link.sent) (sent : SendsShort (node old side).link.sent (node new side).link.sent)
      (rests : node new (other side) ≡ node old (other side)) where
    abbrev Before : Due → Type 0
    Before x = (t ≤ℤ x.0) × IsUnder k side old x.1

    abbrev After : Due → Type 0
    After x = (t ≤ℤ x.0) × IsUnder k side new x.1

    still_under : (x : Due) → Before x → After x
    still_under x (soon, (read, inl is)) = (
      soon,
      (read, inl (subst (λ (fs : Frames). IsIn x.1 (drop k fs)) (sym sent.are) (drop_more x.1 k (node old side).link.sent sent.gone is))),
    )
    still_under x (soon, (read, inr is)) = (soon, (read, inr (subst (λ (s : NodeValue). IsIn x.1 s.link.waiting) (sym rests) is)))

    new_under : (frames : Frames) → CanBeRead frames → ((frame : List ℕ) → IsIn frame frames → IsIn frame sent.gone)
        → AllByRecursion (λ f. After (t +ℤ pos 0, f)) frames
    new_under [] read among = tt
    new_under (f ∷ frames) read among = (
      (
        this_instant t,
        (
          read.0,
          inl (subst (λ (fs : Frames). IsIn f (drop k fs)) (sym sent.are) (drop_new f k (node old side).link.sent sent.gone few (among f (inl refl)))),
        ),
      ),
      new_under frames read.1 (λ frame is. among frame (inr is)),
    )

    abbrev now : List Due
    now = at_instant (t +ℤ pos 0) sent.gone

    own_way : (before : List Due) → AreUnder t k side old before → Way Poll t t k old new side before
    own_way before all = record {
      after = before ++ now;
      goes = map_all (On Poll t old side before) (On Poll t old side (before ++ now)) before (more_on Poll t old side before now)
          (all_on Poll t old side k old before all);
      sends = λ frames sends.
          subst (AllByRecursion (λ f. IsOnItsWay (before ++ now) (t +ℤ pos 0) f))
          (cancel (node old side).link.sent sent.gone frames (sym sent.are ∙ sends.1))
          (map_all (λ f. IsOnItsWay now (t +ℤ pos 0) f) (λ f. IsOnItsWay (before ++ now) (t +ℤ pos 0) f) sent.gone
          (λ f is. way_last before now (t +ℤ pos 0) f is) (on_at (t +ℤ pos 0) sent.gone));
      under = all_append After before now (map_all Before After before still_under all)
          (each_at After (t +ℤ pos 0) sent.gone (new_under sent.gone sent.read (λ frame is. is)));
    }

  -- of what comes to it
  module _ (s : Side) (towards : other s ≡ side) (k : ℕ) (takes : TakesFew budget (node old (other s)).link.waiting (node new (other s)).link.waiting)
      (same : node new s ≡ node old s) where
    abbrev Was : Due → Type 0
    Was x = (t ≤ℤ x.0) × IsUnder k s old x.1

    abbrev Stays : Due → Type 0
    Stays x = (t ≤ℤ x.0) × IsUnder k s new x.1

    abbrev Taken : Due → Type 0
    Taken x = TakesIn Poll old (other s) x.1

    comes : (x : Due) → t ≤ℤ x.0 → is_read x.1 ≡ true → IsIn x.1 takes.frames ⊎ IsIn x.1 (node new (other s)).link.waiting → Stays x ⊎ Taken x
    comes x soon read (inl is) =
        inr (sym towards, lies_among x.1 takes.frames (node new (other s)).link.waiting (node old (other s)).link.waiting budget takes.first is takes.few read)
    comes x soon read (inr is) = inl (soon, (read, inr is))

    either : (x : Due) → Was x → Stays x ⊎ Taken x
    either x (soon, (read, inl is)) = inl (soon, (read, inl (subst (λ (st : NodeValue). IsIn x.1 (drop k st.link.sent)) (sym same) is)))
    either x (soon, (read, inr is)) =
        comes x soon read (in_either x.1 takes.frames (node new (other s)).link.waiting (subst (IsIn x.1) takes.first is))

    their_way : (before : List Due) → AreUnder t k s old before → Way Poll t t k old new s before
    their_way before all = record {
      after = parted.left;
      goes = both before all parted.each;
      sends = λ frames sends. absurd (apart s side towards sends.0);
      under = parted.so;
    } where
      parted : Parted Stays Taken before
      parted = part Was Stays Taken before either all

      both : (xs : List Due) → AreUnder t k s old xs → AllByRecursion (λ x. IsOnItsWay parted.left x.0 x.1 ⊎ Taken x) xs
          → AllByRecursion (λ x. (t ≤ℤ x.0) × (IsOnItsWay parted.left x.0 x.1 ⊎ Taken x)) xs
      both [] all each = tt
      both (x ∷ xs) all each = ((all.0.0, each.0), both xs all.1 each.1)

pub poll_way : (t : ℤ) (budget : ℕ) (old new : Nodes) (side : Side) (k : Side → ℕ) → ((s : Side) → k s ≤ length (node old s).link.sent)
    → TakesFew budget (node old side).link.waiting (node new side).link.waiting → SendsShort (node old side).link.sent (node new side).link.sent
    → node new (other side) ≡ node old (other side) → (before : Side → List Due) → ((s : Side) → AreUnder t (k s) s old (before s))
    → (s : Side) → Way (OfHost side (Polls t budget)) t t (k s) old new s (before s)
poll_way t budget old new side k few takes sent rests before all =
    either_side side (λ s. Way (OfHost side (Polls t budget)) t t (k s) old new s (before s))
    (own_way t budget old new side (k side) (few side) sent rests (before side) (all side))
    (their_way t budget old new side (other side) (twice side) (k (other side))
    (subst (λ (s : Side). TakesFew budget (node old s).link.waiting (node new s).link.waiting) (sym (twice side)) takes) rests (before (other side))
    (all (other side)))

-- A FRAME IS HANDED OVER

-- of a side so many, and of the other as many as before
abbrev pub with_count : Side → ℕ → (Side → ℕ) → Side → ℕ
with_count side n k s = if same_side side s then n else k s

handed_own : (frame : List ℕ) (j : ℕ) (frames waiting : Frames) → IsIn frame (drop j frames) ⊎ IsIn frame waiting
    → IsIn frame (drop (suc j) frames) ⊎ IsIn frame (waiting ++ (slice_index_or frames j [] ++ []) ∷ [])
handed_own frame j frames waiting (inr is) = inr (in_first frame waiting _ is)
handed_own frame j frames waiting (inl is) = by (drop_next frame j frames is) where
  by : (slice_index_or frames j [] ≡ frame) ⊎ IsIn frame (drop (suc j) frames)
      → IsIn frame (drop (suc j) frames) ⊎ IsIn frame (waiting ++ (slice_index_or frames j [] ++ []) ∷ [])
  by (inl next) = inr (in_last frame waiting _ (inl (append-nil (slice_index_or frames j []) ∙ next)))
  by (inr rest) = inl rest

abbrev pub handed_over : Nodes → Side → ℕ → Nodes
handed_over hosts from j = handed hosts (Delivered from j [])

pub deliver_under : (from : Side) (j : ℕ) (old : Nodes) (k : Side → ℕ) (s : Side) (frame : List ℕ) → IsUnder (with_count from j k s) s old frame
    → IsUnder (with_count from (suc j) k s) s (handed_over old from j) frame
deliver_under A j old k A frame (read, is) = (read, handed_own frame j old.a.link.sent old.b.link.waiting is)
deliver_under A j old k B frame is = is
deliver_under B j old k A frame is = is
deliver_under B j old k B frame (read, is) = (read, handed_own frame j old.b.link.sent old.a.link.waiting is)

-- A HOST IS ASKED

pub same_link_under : (old new : Nodes) (k : ℕ) (s : Side) → ((side : Side) → (node new side).link ≡ (node old side).link) → (frame : List ℕ)
    → IsUnder k s old frame → IsUnder k s new frame
same_link_under old new k s same frame (read, inl is) = (read, inl (subst (λ (l : LinkEnd). IsIn frame (drop k l.sent)) (sym (same s)) is))
same_link_under old new k s same frame (read, inr is) = (read, inr (subst (λ (l : LinkEnd). IsIn frame l.waiting) (sym (same (other s))) is))

-- FEWER WERE HANDED OVER

pub fewer_under : (j k : ℕ) (s : Side) (hosts : Nodes) (frame : List ℕ) → j ≤ k → IsUnder k s hosts frame → IsUnder j s hosts frame
fewer_under j k s hosts frame less (read, inl is) = (read, inl (drop_fewer frame j k (node hosts s).link.sent less is))
fewer_under j k s hosts frame less (read, inr is) = (read, inr is)

-- ALL HAS COME

pub none_under : (k : ℕ) (s : Side) (hosts : Nodes) (frame : List ℕ) → length (node hosts s).link.sent ≤ k → (node hosts (other s)).link.waiting ≡ []
    → IsUnder k s hosts frame → ⊥
none_under k s hosts frame all none (read, inl is) = drop_all frame k (node hosts s).link.sent all is
none_under k s hosts frame all none (read, inr is) = subst (IsIn frame) none is

pub none_due : (t : ℤ) (k : ℕ) (s : Side) (hosts : Nodes) (due : List Due) → length (node hosts s).link.sent ≤ k → (node hosts (other s)).link.waiting ≡ []
    → AreUnder t k s hosts due → due ≡ []
none_due t k s hosts [] all none under = refl
none_due t k s hosts (x ∷ due) all none under = absurd (none_under k s hosts x.1 all none under.0.1)

pub due_fewer : (t : ℤ) (j k : ℕ) (s : Side) (hosts : Nodes) (due : List Due) → j ≤ k → AreUnder t k s hosts due → AreUnder t j s hosts due
due_fewer t j k s hosts due less all =
    map_all (λ x. (t ≤ℤ x.0) × IsUnder k s hosts x.1) (λ x. (t ≤ℤ x.0) × IsUnder j s hosts x.1) due (λ x is. (is.0, fewer_under j k s hosts x.1 less is.1)) all
