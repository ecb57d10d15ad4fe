-- A script has one output and one status, but for lack of memory.
use Rattle.std.proofs.Common.{◌≡◌, ℕ, ◌+◌, List, [], ◌∷◌, ◌++◌, Option, Some, None, inl, inr, ◌⊎◌, refl, sym, ◌∙◌, ap, subst, append_assoc}
use Rattle.lan.specs.Worlds.AtLink.History.{Entry}
use Rattle.lan.specs.declared.at_link.history.answer.Answer.{Answer}
use Rattle.lan.specs.declared.at_link.history.answer.Refused.TheVariants.{Memory}
use Rattle.lan.specs.declared.at_link.history.event.Event.{Event}
use Rattle.sim_link.specs.declared.line.Line.{Line}
use Rattle.sim_link.specs.declared.line.Line.TheVariants.{World, Socket, Start, Listen, Connect, Send, Recv, Close, Abort, State, Bind, Ident, SendTo}
use Rattle.sim_link.specs.declared.line.Line.TheVariants.{SendIcmp, SendRaw, RecvFrom, Addrs, Hw, Route, Poll, PollAt, Deliver, Damage, Noise, Room, Cut}
use Rattle.lan.specs.Worlds.AtLink.Runs.{WorldValue, Step, Steps}
use Rattle.lan.specs.declared.end.End.{End}
use Rattle.lan.specs.declared.end.End.TheVariants.{Refusal}
use Rattle.lan.specs.declared.session.Session.{Session}
use Rattle.lan.specs.declared.session.Session.TheVariants.{Begun, Header, Running}
use Rattle.lan.specs.Ends.{end_line}
use Rattle.lan.specs.Events.{Said, event_of}
use Rattle.lan.specs.Hosts.{HeaderValue}
use Rattle.lan.specs.Scripts.{end_of, Ends, EventLeads, Leads, Replays, Takes, event_text, EndsForMemory, IsSameReplay}
use Rattle.lan.proofs.LinesOnce.{line_once}

-- what a line says
said_once : (text : List ℕ) (one other : Option Line) → Said text one → Said text other → one ≡ other
said_once text (Some one) (Some other) h k = ap Some (line_once text one other h k)
said_once text (Some one) None h k = absurd (k one h)
said_once text None (Some other) h k = absurd (h other k)
said_once text None None h k = refl

-- EVENTS

-- events lead from a world to one world
abbrev pub OneWorld : Type 0
OneWorld = (old one other : WorldValue) (events : List Event) → Steps old events one → Steps old events other → one ≡ other

same_head : (e d : Entry) (past : List Entry) → e ∷ past ≡ d ∷ past → e ≡ d
same_head e d past same = cc

answer_once : (old one other : WorldValue) (event : Event) (a b : Answer) → one ≡ other → Step old event a one → Step old event b other → a ≡ b
answer_once old one other event a b same first second =
    let histories = sym first.history ∙ ap (λ (w : WorldValue). w.history) same ∙ second.history in
    let entries = same_head first.entry second.entry old.history histories in
    sym first.answer_kept ∙ ap (λ (e : Entry). e.answer) entries ∙ second.answer_kept

same_text : (old one other : WorldValue) (a b : Answer) → a ≡ b → one ≡ other → event_text old a one ≡ event_text old b other
same_text old one other a b answer new = rw (answer, new) refl

-- ENDS

-- a line that ends the run
ends_once : (session : Session) (line other : Option Line) (end last : End) → line ≡ other → Ends session line end → Ends session other last
    → (end ≡ last) ⊎ ((end ≡ Refusal Memory) ⊎ (last ≡ Refusal Memory))
ends_once session line other end last same (inl h) (inl k) =
    let both : Some end ≡ Some last = sym h ∙ ap (end_of session) same ∙ k in
    let is : end ≡ last = cc in
    inl is
ends_once session line other end last same (inr h) k = inr (inl h.0)
ends_once session line other end last same (inl h) (inr k) = inr (inr k.0)

-- a line that ends one run, and leads on in another
memory_alone : (session : Session) (line other : Option Line) (end : End) → line ≡ other → Ends session line end → end_of session other ≡ None →
    end ≡ Refusal Memory
memory_alone session line other end same (inl h) allowed =
    let both : Some end ≡ None = sym h ∙ ap (end_of session) same ∙ allowed in
    absurd cc
memory_alone session line other end same (inr h) allowed = h.0

at_end_line : (n : ℕ) (output : List ℕ) (end : End) → output ≡ end_line n end → end ≡ Refusal Memory → EndsForMemory output
at_end_line n output end is memory = ([], n, is ∙ ap (end_line n) memory)

later : (text rest output : List ℕ) → output ≡ text ++ rest → EndsForMemory rest → EndsForMemory output
later text rest output is memory =
    (text ++ memory.0, memory.1, is ∙ ap (λ (r : List ℕ). text ++ r) memory.2 ∙ sym (append_assoc text memory.0 (end_line memory.1 (Refusal Memory))))

joined : (text more rest left output other : List ℕ) (status last : ℕ) → text ≡ more → output ≡ text ++ rest → other ≡ more ++ left →
    IsSameReplay rest status left last → IsSameReplay output status other last
joined text more rest left output other status last same is also (inl both) =
    inl (is ∙ ap (λ (t : List ℕ). t ++ rest) same ∙ ap (λ (r : List ℕ). more ++ r) both.0 ∙ sym also, both.1)
joined text more rest left output other status last same is also (inr (inl memory)) = inr (inl (later text rest output is memory))
joined text more rest left output other status last same is also (inr (inr memory)) = inr (inr (later more left other also memory))

ended : (n : ℕ) (end last : End) (output other : List ℕ) (status final : ℕ) → output ≡ end_line n end → other ≡ end_line n last → status ≡ 1 → final ≡ 1
    → (end ≡ last) ⊎ ((end ≡ Refusal Memory) ⊎ (last ≡ Refusal Memory)) → IsSameReplay output status other final
ended n end last output other status final is also one again (inl same) = inl (is ∙ ap (end_line n) same ∙ sym also, one ∙ sym again)
ended n end last output other status final is also one again (inr (inl memory)) = inr (inl (at_end_line n output end is memory))
ended n end last output other status final is also one again (inr (inr memory)) = inr (inr (at_end_line n other last also memory))

-- RUNS

module _ (once : OneWorld) where
  takes_once : (old one other : WorldValue) (event : Event) (text more : List ℕ) → Takes old event text one → Takes old event more other →
      (text ≡ more) × (one ≡ other)
  takes_once old one other event text more h k =
      let left : Steps old (event ∷ []) one = (h.0, one, h.1, refl) in
      let right : Steps old (event ∷ []) other = (k.0, other, k.1, refl) in
      let same = once old one other (event ∷ []) left right in
      let answers = answer_once old one other event h.0 k.0 same h.1 k.1 in
      (h.2 ∙ same_text old one other h.0 k.0 answers same ∙ sym k.2, same)

  event_once : (world : WorldValue) (event : Option Event) (text more : List ℕ) (one other : Session) → EventLeads world event text one →
      EventLeads world event more other → (text ≡ more) × (one ≡ other)
  event_once world None text more one other h k = absurd h
  event_once world (Some event) text more one other h k =
      let same = takes_once world h.0 k.0 event text more h.1 k.1 in
      (same.0, h.2 ∙ ap Running same.1 ∙ sym k.2)

  -- LINES

  begun_once : (line : Line) (text more : List ℕ) (one other : Session) → Leads Begun (Some line) text one → Leads Begun (Some line) more other →
      (text ≡ more) × (one ≡ other)
  begun_once (World p q) text more one other h k = (h.0 ∙ sym k.0, h.1 ∙ sym k.1)
  begun_once (Socket p q) text more one other h k = absurd h
  begun_once Start text more one other h k = absurd h
  begun_once (Listen p q r) text more one other h k = absurd h
  begun_once (Connect p q r s) text more one other h k = absurd h
  begun_once (Send p q r) text more one other h k = absurd h
  begun_once (Recv p q r) text more one other h k = absurd h
  begun_once (Close p q) text more one other h k = absurd h
  begun_once (Abort p q) text more one other h k = absurd h
  begun_once (State p q) text more one other h k = absurd h
  begun_once (Bind p q r) text more one other h k = absurd h
  begun_once (Ident p q r) text more one other h k = absurd h
  begun_once (SendTo p q r s) text more one other h k = absurd h
  begun_once (SendIcmp p q r s) text more one other h k = absurd h
  begun_once (SendRaw p q r) text more one other h k = absurd h
  begun_once (RecvFrom p q r) text more one other h k = absurd h
  begun_once (Addrs p q) text more one other h k = absurd h
  begun_once (Hw p q) text more one other h k = absurd h
  begun_once (Route p q) text more one other h k = absurd h
  begun_once (Poll p q r) text more one other h k = absurd h
  begun_once (PollAt p q) text more one other h k = absurd h
  begun_once (Deliver p q r) text more one other h k = absurd h
  begun_once (Damage p q r s t) text more one other h k = absurd h
  begun_once (Noise p q) text more one other h k = absurd h
  begun_once (Room p q) text more one other h k = absurd h
  begun_once (Cut p q r) text more one other h k = absurd h

  header_once : (header : HeaderValue) (line : Line) (text more : List ℕ) (one other : Session) → Leads (Header header) (Some line) text one →
      Leads (Header header) (Some line) more other → (text ≡ more) × (one ≡ other)
  header_once header (World p q) text more one other h k = absurd h
  header_once header (Socket p q) text more one other h k = (h.0 ∙ sym k.0, h.1 ∙ sym k.1)
  header_once header Start text more one other h k = (h.0 ∙ sym k.0, h.1 ∙ sym k.1)
  header_once header (Listen p q r) text more one other h k = absurd h
  header_once header (Connect p q r s) text more one other h k = absurd h
  header_once header (Send p q r) text more one other h k = absurd h
  header_once header (Recv p q r) text more one other h k = absurd h
  header_once header (Close p q) text more one other h k = absurd h
  header_once header (Abort p q) text more one other h k = absurd h
  header_once header (State p q) text more one other h k = absurd h
  header_once header (Bind p q r) text more one other h k = absurd h
  header_once header (Ident p q r) text more one other h k = absurd h
  header_once header (SendTo p q r s) text more one other h k = absurd h
  header_once header (SendIcmp p q r s) text more one other h k = absurd h
  header_once header (SendRaw p q r) text more one other h k = absurd h
  header_once header (RecvFrom p q r) text more one other h k = absurd h
  header_once header (Addrs p q) text more one other h k = absurd h
  header_once header (Hw p q) text more one other h k = absurd h
  header_once header (Route p q) text more one other h k = absurd h
  header_once header (Poll p q r) text more one other h k = absurd h
  header_once header (PollAt p q) text more one other h k = absurd h
  header_once header (Deliver p q r) text more one other h k = absurd h
  header_once header (Damage p q r s t) text more one other h k = absurd h
  header_once header (Noise p q) text more one other h k = absurd h
  header_once header (Room p q) text more one other h k = absurd h
  header_once header (Cut p q r) text more one other h k = absurd h

  leads_once : (session : Session) (line : Option Line) (text more : List ℕ) (one other : Session) → Leads session line text one →
      Leads session line more other → (text ≡ more) × (one ≡ other)
  leads_once Begun None text more one other h k = absurd h
  leads_once Begun (Some line) text more one other h k = begun_once line text more one other h k
  leads_once (Header header) None text more one other h k = absurd h
  leads_once (Header header) (Some line) text more one other h k = header_once header line text more one other h k
  leads_once (Running world) None text more one other h k = absurd h
  leads_once (Running world) (Some line) text more one other h k = event_once world (event_of line) text more one other h k

  pub replays_once : (n : ℕ) (session : Session) (lines : List (List ℕ)) (output other : List ℕ) (status last : ℕ) → Replays n session lines output status →
      Replays n session lines other last
      → IsSameReplay output status other last
  replays_once n session [] output other status last h k = inl (h.0 ∙ sym k.0, h.1 ∙ sym k.1)
  replays_once n session (line ∷ lines) output other status last (inl h) (inl k) =
      ended n h.0 k.0 output other status last h.2 k.2 h.3 k.3
      (ends_once session h.1.0 k.1.0 h.0 k.0 (said_once line h.1.0 k.1.0 h.1.1 k.1.1) h.1.2 k.1.2)
  replays_once n session (line ∷ lines) output other status last (inl h) (inr k) =
      inr (inl (at_end_line n output h.0 h.2 (memory_alone session h.1.0 k.3.0 h.0 (said_once line h.1.0 k.3.0 h.1.1 k.3.1) h.1.2 k.3.2)))
  replays_once n session (line ∷ lines) output other status last (inr h) (inl k) =
      inr (inr (at_end_line n other k.0 k.2 (memory_alone session k.1.0 h.3.0 k.0 (said_once line k.1.0 h.3.0 k.1.1 h.3.1) k.1.2 h.3.2)))
  replays_once n session (line ∷ lines) output other status last (inr h) (inr k) =
      let said : h.3.0 ≡ k.3.0 = said_once line h.3.0 k.3.0 h.3.1 k.3.1 in
      let leads : Leads session k.3.0 h.0 h.1 = subst (λ (l : Option Line). Leads session l h.0 h.1) said h.3.3 in
      let same = leads_once session k.3.0 h.0 k.0 h.1 k.1 leads k.3.3 in
      let left : Replays (n + 1) h.1 lines k.2 last = subst (λ (s : Session). Replays (n + 1) s lines k.2 last) (sym same.1) k.4 in
      joined h.0 k.0 h.2 k.2 output other status last same.0 h.5 k.5 (replays_once (n + 1) h.1 lines h.2 k.2 status last h.4 left)
