-- Lemmas on a script whose text comes in fragments.
use Rattle.std.proofs.Common.{◌≡◌, ℕ, zero, suc, ◌+◌, ◌-◌, ◌<◌, ◌≤◌, Bool, true, false, not, ◌&&◌, cond, eqb, ltb, List, [], ◌∷◌, ◌++◌, length, take, drop}
use Rattle.std.proofs.Common.{get_or, refl, sym, ◌∙◌, ap, subst, append_assoc, append-nil, add-one, arith, Option, Some, None, inl, inr, ◌⊎◌, IfSome}
use Rattle.std.specs.List.{position, position_or_len}
use Rattle.std.specs.Io.KnownBytes.{Consumes}
use Rattle.std.proofs.KnownBytes.{Consumes-nil, Consumes-trans}
use Rattle.std.proofs.lemmas.Bool.Decides.{nat_tests}
use Rattle.std.proofs.lemmas.Grind.{common_steps}
use Rattle.std.proofs.lemmas.List.Folds.{list_all-append}
use Rattle.std.proofs.lemmas.List.Quantifiers.{position-Some}
use Rattle.lan.specs.declared.end.End.{End}
use Rattle.lan.specs.declared.session.Session.{Session}
use Rattle.lan.specs.declared.session.Session.TheVariants.{Begun}
use Rattle.lan.specs.Events.{lines_of}
use Rattle.lan.specs.Ends.{end_line}
use Rattle.lan.specs.FragmentList.{is_unbroken, ReadsOn, RunsLines, RunsOn, RunsOut, RunsSoFar}
use Rattle.lan.specs.Scripts.{LineEnds, LineLeads, Replays, IsReplay}

-- LINES

abbrev is_break : ℕ → Bool
is_break byte = eqb byte 10

broken_at : (b : ℕ) (line rest : List ℕ) (v : Bool) → is_break b ≡ v → not v && is_unbroken line ≡ true
    → (is_unbroken line ≡ true → lines_of (line ++ 10 ∷ rest) ≡ line ∷ lines_of rest)
    → lines_of ((b ∷ line) ++ 10 ∷ rest) ≡ (b ∷ line) ∷ lines_of rest
broken_at b line rest true e h then = absurd (cc)
broken_at b line rest false e h then = rw (e, then h) refl

-- bytes with no byte 0a, and then one, are a line
lines_of-line : (line rest : List ℕ) → is_unbroken line ≡ true → lines_of (line ++ 10 ∷ rest) ≡ line ∷ lines_of rest
lines_of-line [] rest h = refl
lines_of-line (b ∷ line) rest h = broken_at b line rest (is_break b) refl h (lines_of-line line rest)

last_at : (b : ℕ) (line : List ℕ) (v : Bool) → is_break b ≡ v → not v && is_unbroken line ≡ true
    → (is_unbroken line ≡ true → (line ≡ []) ⊎ (lines_of line ≡ line ∷ []))
    → lines_of (b ∷ line) ≡ (b ∷ line) ∷ []
last_at b line true e h then = absurd (cc)
last_at b line false e h then = elim (then h) [ inl none ↦ rw (e, none) refl | inr one ↦ rw (e, one) refl ]

last_line : (line : List ℕ) → is_unbroken line ≡ true → (line ≡ []) ⊎ (lines_of line ≡ line ∷ [])
last_line [] h = inl refl
last_line (b ∷ line) h = inr (last_at b line (is_break b) refl h (last_line line))

-- bytes with no byte 0a, and nothing after them, are a line
pub lines_of-last : (line : List ℕ) → is_unbroken line ≡ true → 0 < length line → lines_of line ≡ line ∷ []
lines_of-last line h some =
    elim (last_line line h) [ inl none ↦ absurd (omega (arith, some, ap length none)) | inr one ↦ one ]

unbroken_cons : (b : ℕ) (bs : List ℕ) → is_break b ≡ false → is_unbroken bs ≡ true → is_unbroken (b ∷ bs) ≡ true
unbroken_cons b bs e h = rw (e, h) refl

-- what lies before the first byte 0a, that byte, and what lies after it
first_break : (text : List ℕ) (k : ℕ) → k < length text → is_break (get_or text k 0) ≡ true → ((j : ℕ) → j < k → is_break (get_or text j 0) ≡ false)
    → (text ≡ take k text ++ 10 ∷ drop (suc k) text) × (is_unbroken (take k text) ≡ true)
first_break [] k h e before = absurd (omega (arith, h))
first_break (b ∷ bs) zero h e before =
    let is : b ≡ 10 = grind (arith, nat_tests) in
    (ap (λ (x : ℕ). x ∷ bs) is, refl)
first_break (b ∷ bs) (suc k) h e before =
    let in_range : k < length bs = omega (arith, h) in
    let rest = first_break bs k in_range e (λ (j : ℕ) (less : j < k). let more : suc j < suc k = omega (arith, less) in before (suc j) more) in
    let first : 0 < suc k = omega arith in
    (ap (λ (l : List ℕ). b ∷ l) rest.0, unbroken_cons b (take k bs) (before 0 first) rest.1)

at_break : (text : List ℕ) (k : ℕ) → position is_break text ≡ Some k
    → (text ≡ take k text ++ 10 ∷ drop (k + 1) text) × (is_unbroken (take k text) ≡ true)
at_break text k h =
    let found = position-Some is_break text k 0 h in
    let parts = first_break text k found.0 found.1 found.2 in
    (rw add-one parts.0, parts.1)

pub unbroken-take : (text : List ℕ) (k : ℕ) → position is_break text ≡ Some k → is_unbroken (take k text) ≡ true
unbroken-take text k h = let parts = at_break text k h in parts.1

none_at : (b : ℕ) (bs : List ℕ) (v : Bool) → is_break b ≡ v → length (b ∷ bs) ≤ position_or_len is_break (b ∷ bs)
    → (length bs ≤ position_or_len is_break bs → is_unbroken bs ≡ true) → is_unbroken (b ∷ bs) ≡ true
none_at b bs true e h rest = let k = rw e at h in absurd (omega (arith, k))
none_at b bs false e h rest =
    let k = rw e at h in
    let less : length bs ≤ position_or_len is_break bs = omega (arith, k) in
    unbroken_cons b bs e (rest less)

no_break : (text : List ℕ) → length text ≤ position_or_len is_break text → is_unbroken text ≡ true
no_break [] h = refl
no_break (b ∷ bs) h = none_at b bs (is_break b) refl h (no_break bs)

none_le : (p n : ℕ) → ◌≡◌ {A = Option ℕ} (cond (ltb p n) (Some p) None) None → n ≤ p
none_le p n h = grind (arith, nat_tests)

pub unbroken-none : (text : List ℕ) → position is_break text ≡ None → is_unbroken text ≡ true
unbroken-none text h = no_break text (none_le _ _ h)

pub unbroken-append : (line more : List ℕ) → is_unbroken line ≡ true → is_unbroken more ≡ true → is_unbroken (line ++ more) ≡ true
unbroken-append line more h k = rw (list_all-append (λ (b : ℕ). not (eqb b 10)) line more, h, k) refl

-- what is after a slot, as a range of a slice
pub take-drop_end : (text : List ℕ) (i : ℕ) → take (length text - i) (drop i text) ≡ drop i text
take-drop_end text i = grind (arith, common_steps)

-- PIECES

-- a line that leads on
line_leads : (n : ℕ) (session next : Session) (line text : List ℕ) → is_unbroken line ≡ true → LineLeads session line text next
    → RunsOn n session (line ++ 10 ∷ []) text (n + 1) next []
line_leads n session next line text h leads = (
  line ++ 10 ∷ [],
  sym (append-nil (line ++ 10 ∷ [])),
  λ (rest more : List ℕ) (status : ℕ) (replays : Replays (n + 1) next (lines_of rest) more status).
      rw (append_assoc line (10 ∷ []) rest, lines_of-line line rest h) (inr (text, next, more, leads, replays, refl)),
)

-- a line that ends the run
line_ends : (n : ℕ) (session : Session) (line : List ℕ) (end : End) → is_unbroken line ≡ true → LineEnds session line end
    → RunsOut n session (line ++ 10 ∷ []) (end_line n end)
line_ends n session line end h ends rest =
    rw (append_assoc line (10 ∷ []) rest, lines_of-line line rest h) (inl (end, ends, refl, refl))

-- one text after another
RunsOn-trans : (n m k : ℕ) (session mid next : Session) (text begun fragment left output more : List ℕ)
    → RunsOn n session text output m mid begun → RunsOn m mid (begun ++ fragment) more k next left
    → RunsOn n session (text ++ fragment) (output ++ more) k next left
RunsOn-trans n m k session mid next text begun fragment left output more first second =
    let parts : text ++ fragment ≡ (first.0 ++ second.0) ++ left =
    ap (λ (t : List ℕ). t ++ fragment) first.1 ∙ append_assoc first.0 begun fragment
    ∙ ap (λ (t : List ℕ). first.0 ++ t) second.1 ∙ sym (append_assoc first.0 second.0 left) in (
      first.0 ++ second.0,
      parts,
      λ (rest last : List ℕ) (status : ℕ) (replays : Replays k next (lines_of rest) last status).
          rw (append_assoc first.0 second.0 rest, append_assoc output more last)
          (first.2 (second.0 ++ rest) (more ++ last) status (second.2 rest last status replays)),
    )

RunsOut-after : (n m : ℕ) (session mid : Session) (text begun fragment output more : List ℕ)
    → RunsOn n session text output m mid begun → RunsOut m mid (begun ++ fragment) more
    → RunsOut n session (text ++ fragment) (output ++ more)
RunsOut-after n m session mid text begun fragment output more first second rest =
    let parts : (text ++ fragment) ++ rest ≡ first.0 ++ ((begun ++ fragment) ++ rest) =
    ap (λ (t : List ℕ). (t ++ fragment) ++ rest) first.1
    ∙ ap (λ (t : List ℕ). t ++ rest) (append_assoc first.0 begun fragment)
    ∙ append_assoc first.0 (begun ++ fragment) rest in
    subst (λ (t : List ℕ). Replays n session (lines_of t) (output ++ more) 1) (sym parts)
    (first.2 ((begun ++ fragment) ++ rest) more 1 (second rest))

-- and whatever lies after a line that ended the run
RunsOut-longer : (n : ℕ) (session : Session) (text more output : List ℕ) → RunsOut n session text output → RunsOut n session (text ++ more) output
RunsOut-longer n session text more output ends rest = rw (append_assoc text more rest) (ends (more ++ rest))

-- a fragment up to the end of the first line in what is left of it, and what lies after
fragment_parts : (fragment before rest : List ℕ) (end : ℕ) → fragment ≡ before ++ rest → position is_break rest ≡ Some end
    → fragment ≡ (before ++ (take end rest ++ 10 ∷ [])) ++ drop (end + 1) rest
fragment_parts fragment before rest end is found =
    let parts = at_break rest end found in
    is ∙ ap (λ (text : List ℕ). before ++ text) parts.0
    ∙ rw (append_assoc before (take end rest ++ 10 ∷ []) (drop (end + 1) rest), append_assoc (take end rest) (10 ∷ []) (drop (end + 1) rest)) refl

-- the next line of a fragment leads on
pub line_proceeds : (n k j m : ℕ) (session mid at next : Session) (start fragment before rest output begun line text left : List ℕ) (end : ℕ)
    → fragment ≡ before ++ rest → RunsOn n session (start ++ before) output k mid begun → position is_break rest ≡ Some end
    → line ≡ begun ++ take end rest → is_unbroken line ≡ true → at ≡ mid → j ≡ k → LineLeads at line text next → m ≡ j + 1 → left ≡ []
    → (fragment ≡ (before ++ (take end rest ++ 10 ∷ [])) ++ drop (end + 1) rest)
    × RunsOn n session (start ++ (before ++ (take end rest ++ 10 ∷ []))) (output ++ text) m next left
line_proceeds n k j m session mid at next start fragment before rest output begun line text left end is runs found line_is unbroken same_session same_number leads
    number none =
    let ended : List ℕ = take end rest ++ 10 ∷ [] in
    let whole : line ++ 10 ∷ [] ≡ begun ++ ended = ap (λ (l : List ℕ). l ++ 10 ∷ []) line_is ∙ append_assoc begun (take end rest) (10 ∷ []) in
    let from_mid : LineLeads mid line text next = subst (λ (s : Session). LineLeads s line text next) same_session leads in
    let one : RunsOn k mid (begun ++ ended) text (k + 1) next [] =
    subst (λ (t : List ℕ). RunsOn k mid t text (k + 1) next []) whole (line_leads k mid next line text unbroken from_mid) in
    let both : RunsOn n session ((start ++ before) ++ ended) (output ++ text) (k + 1) next [] =
    RunsOn-trans n k (k + 1) session mid next (start ++ before) begun ended [] output text runs one in
    (fragment_parts fragment before rest end is found, rw (number, same_number, none, ← append_assoc start before ended) both)

-- the next line of a fragment ends the run
pub line_is_transmitted : (n k j : ℕ) (session mid at : Session) (start fragment before rest output begun line text : List ℕ) (end : ℕ) (why : End)
    → fragment ≡ before ++ rest → RunsOn n session (start ++ before) output k mid begun → position is_break rest ≡ Some end
    → line ≡ begun ++ take end rest → is_unbroken line ≡ true → at ≡ mid → j ≡ k → LineEnds at line why → text ≡ end_line j why
    → RunsOut n session (start ++ fragment) (output ++ text)
line_is_transmitted n k j session mid at start fragment before rest output begun line text end why is runs found line_is unbroken same_session same_number ends written =
    let ended : List ℕ = take end rest ++ 10 ∷ [] in
    let whole : line ++ 10 ∷ [] ≡ begun ++ ended = ap (λ (l : List ℕ). l ++ 10 ∷ []) line_is ∙ append_assoc begun (take end rest) (10 ∷ []) in
    let from_mid : LineEnds mid line why = subst (λ (s : Session). LineEnds s line why) same_session ends in
    let text_is : end_line k why ≡ text = sym (written ∙ ap (λ (i : ℕ). end_line i why) same_number) in
    let ends_with : RunsOut k mid (line ++ 10 ∷ []) text =
    subst (λ (o : List ℕ). RunsOut k mid (line ++ 10 ∷ []) o) text_is (line_ends k mid line why unbroken from_mid) in
    let one : RunsOut k mid (begun ++ ended) text = subst (λ (t : List ℕ). RunsOut k mid t text) whole ends_with in
    let both : RunsOut n session ((start ++ before) ++ ended) (output ++ text) =
    RunsOut-after n k session mid (start ++ before) begun ended output text runs one in
    let parts : start ++ fragment ≡ ((start ++ before) ++ ended) ++ drop (end + 1) rest =
    ap (λ (t : List ℕ). start ++ t) (fragment_parts fragment before rest end is found)
    ∙ sym (append_assoc start (before ++ ended) (drop (end + 1) rest))
    ∙ ap (λ (t : List ℕ). t ++ drop (end + 1) rest) (sym (append_assoc start before ended)) in
    subst (λ (t : List ℕ). RunsOut n session t (output ++ text)) (sym parts)
    (RunsOut-longer n session ((start ++ before) ++ ended) (drop (end + 1) rest) (output ++ text) both)

-- no line ends in what is left of a fragment
pub line_begins : (n k : ℕ) (session mid : Session) (start fragment before rest output begun left : List ℕ)
    → fragment ≡ before ++ rest → RunsOn n session (start ++ before) output k mid begun → left ≡ begun ++ rest
    → RunsOn n session (start ++ fragment) output k mid left
line_begins n k session mid start fragment before rest output begun left is runs left_is =
    let parts : start ++ fragment ≡ runs.0 ++ left =
    ap (λ (t : List ℕ). start ++ t) is
    ∙ sym (append_assoc start before rest)
    ∙ ap (λ (t : List ℕ). t ++ rest) runs.1
    ∙ append_assoc runs.0 begun rest
    ∙ ap (λ (t : List ℕ). runs.0 ++ t) (sym left_is) in
    (runs.0, parts, runs.2)

-- nothing has been run
pub none_run : (n : ℕ) (session : Session) (begun : List ℕ) → RunsOn n session (begun ++ []) [] n session begun
none_run n session begun = ([], append-nil begun, λ (rest more : List ℕ) (status : ℕ) (replays : Replays n session (lines_of rest) more status). replays)

-- the last line of a text, which has no byte 0a after it
pub last_leads : (n : ℕ) (session next : Session) (line text : List ℕ) → is_unbroken line ≡ true → 0 < length line → LineLeads session line text next
    → Replays n session (lines_of line) text 0
last_leads n session next line text h some leads =
    subst (λ (lines : List (List ℕ)). Replays n session lines text 0) (sym (lines_of-last line h some))
    (inr (text, next, [], leads, (refl, refl), sym (append-nil text)))

pub last_ends : (n : ℕ) (session : Session) (line : List ℕ) (end : End) → is_unbroken line ≡ true → 0 < length line → LineEnds session line end
    → Replays n session (lines_of line) (end_line n end) 1
last_ends n session line end h some ends =
    subst (λ (lines : List (List ℕ)). Replays n session lines (end_line n end) 1) (sym (lines_of-last line h some))
    (inl (end, ends, refl, refl))

-- SCRIPTS

-- one fragment after another
pub fragments_run : (n k : ℕ) (session next : Session) (read begun fragment left output more : List ℕ) (m : ℕ) (mid : Session)
    → RunsOn n session read output m mid begun → RunsOn m mid (begun ++ fragment) more k next left
    → RunsOn n session (read ++ fragment) (output ++ more) k next left
fragments_run n k session next read begun fragment left output more m mid first second =
    RunsOn-trans n m k session mid next read begun fragment left output more first second

-- all of a script has been run
pub script_ends : (read begun output more : List ℕ) (n status : ℕ) (session : Session)
    → RunsOn 1 Begun read output n session begun → Replays n session (lines_of begun) more status
    → IsReplay read (output ++ more) status
script_ends read begun output more n status session runs replays =
    subst (λ (t : List ℕ). Replays 1 Begun (lines_of t) (output ++ more) status) (sym runs.1)
    (runs.2 begun more status replays)

-- the lines of a text that is run on all lead on
so_far : (n : ℕ) (session : Session) (lines output : List ℕ) → RunsLines 1 Begun lines output n session → IsReplay lines output 0
so_far n session lines output runs =
    subst (λ (o : List ℕ). IsReplay lines o 0) (append-nil output)
    (subst (λ (t : List ℕ). Replays 1 Begun (lines_of t) (output ++ []) 0) (append-nil lines) (runs [] [] 0 (refl, refl)))

-- a script whose reader failed
pub runs_so_far : (start now : Option (List ℕ)) (read output begun : List ℕ) (n : ℕ) (session : Session)
    → Consumes start now read → RunsOn 1 Begun read output n session begun → is_unbroken begun ≡ true
    → RunsSoFar start now output
runs_so_far start now read output begun n session taken runs unbroken = (
  runs.0,
  begun,
  subst (λ (t : List ℕ). Consumes start now t) runs.1 taken,
  so_far n session runs.0 output runs.2,
  unbroken,
)

-- a script whose last read came after lines that led on
pub reads_on : (start mid now : Option (List ℕ)) (read output begun last : List ℕ) (n : ℕ) (session : Session)
    → Consumes start mid read → Consumes mid now last → RunsOn 1 Begun read output n session begun → is_unbroken begun ≡ true
    → length last ≤ 4096 → ReadsOn start now
reads_on start mid now read output begun last n session taken then runs unbroken small = (
  runs.0,
  begun,
  last,
  output,
  subst (λ (t : List ℕ). Consumes start now (t ++ last)) runs.1 (Consumes-trans start mid now read last taken then),
  so_far n session runs.0 output runs.2,
  unbroken,
  small,
)

-- what was read stands before any last read
pub nothing_following : (start now : Option (List ℕ)) (read output begun : List ℕ) (n : ℕ) (session : Session)
    → Consumes start now read → RunsOn 1 Begun read output n session begun → is_unbroken begun ≡ true
    → ReadsOn start now
nothing_following start now read output begun n session taken runs unbroken =
    reads_on start now now read output begun [] n session taken (Consumes-nil now) runs unbroken (omega arith)

ends_known : (start now : Option (List ℕ)) (read output : List ℕ) → Consumes start now read → RunsOut 1 Begun read output
    → (script : List ℕ) × IfSome start (λ input. script ≡ input) × IsReplay script output 1
ends_known None now read output taken ends = (read, tt, subst (λ (t : List ℕ). Replays 1 Begun (lines_of t) output 1) (append-nil read) (ends []))
ends_known (Some input) None read output taken ends = absurd taken
ends_known (Some input) (Some rest) read output taken ends =
    (input, refl, subst (λ (t : List ℕ). Replays 1 Begun (lines_of t) output 1) (sym taken) (ends rest))

-- a line ended the run: what the reader has left changes nothing
pub script_ends_early : (start mid now : Option (List ℕ)) (read begun fragment output more : List ℕ) (n : ℕ) (session : Session)
    → Consumes start mid read → Consumes mid now fragment
    → RunsOn 1 Begun read output n session begun → RunsOut n session (begun ++ fragment) more
    → (script : List ℕ) × IfSome start (λ input. script ≡ input) × IsReplay script (output ++ more) 1
script_ends_early start mid now read begun fragment output more n session taken then runs ends =
    ends_known start now (read ++ fragment) (output ++ more) (Consumes-trans start mid now read fragment taken then)
    (RunsOut-after 1 n Begun session read begun fragment output more runs ends)

-- no line was begun
no_line : (n : ℕ) (session : Session) (begun : List ℕ) → length begun ≡ 0 → Replays n session (lines_of begun) [] 0
no_line n session [] none = (refl, refl)
no_line n session (b ∷ begun) none = absurd (omega (arith, none))

zero_test : (n : ℕ) → true ≡ eqb n 0 → n ≡ 0
zero_test n h = grind (arith, nat_tests)

some_test : (n : ℕ) → false ≡ eqb n 0 → 0 < n
some_test n h = grind (arith, nat_tests)

pub nothing_left : (n : ℕ) (session : Session) (begun text : List ℕ) → text ≡ begun → true ≡ eqb (length text) 0 → Replays n session (lines_of begun) [] 0
nothing_left n session begun text same none =
    no_line n session begun (ap length (sym same) ∙ zero_test (length text) none)

pub something_left : (begun text : List ℕ) → text ≡ begun → false ≡ eqb (length text) 0 → 0 < length begun
something_left begun text same some = let left = some_test (length text) some in omega (arith, left, ap length same)
