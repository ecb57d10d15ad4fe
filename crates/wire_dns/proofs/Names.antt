-- Names, a step at a time.
use Rattle.std.proofs.Common.{◌≡◌, ℕ, ◌+◌, ◌<◌, ◌≤◌, List, [], ◌∷◌, ◌++◌, length, refl, sym, ◌∙◌, ap, subst, arith, append_assoc, length-append}
use Rattle.std.specs.Prelude.{Option, Some, None, Result, Ok, Err, slice_index, slice_range}
use Rattle.std.specs.Option.{unwrap_or}
use Rattle.wire_dns.specs.Name.{Step, Label, Jump, IsLabel, IsPointer, IsRoot, IsNoPart, IsName, Leads, name_of, end_of}

-- steps from the end of a name
pub Leads-root : (message : List ℕ) (limit at : ℕ) (steps : List Step) → IsRoot message at → Leads message limit at steps → steps ≡ []
Leads-root message limit at [] root leads = refl
Leads-root message limit at (Label label ∷ steps) root leads = absurd (omega (arith, root.value, leads.0.count, leads.0.some))
Leads-root message limit at (Jump offset ∷ steps) root leads = absurd (omega (arith, root.value, leads.0.first))

-- one label stands at an offset
IsLabel-one : (message : List ℕ) (at : ℕ) (a b : List ℕ) → IsLabel message at a → IsLabel message at b → a ≡ b
IsLabel-one message at a b first second =
    let same : length a ≡ length b = sym first.count ∙ second.count in
    sym first.bytes ∙ ap (λ n. slice_range message (at + 1) (at + 1 + n)) same ∙ second.bytes

-- one pointer stands at an offset
IsPointer-one : (message : List ℕ) (limit at a b : ℕ) → IsPointer message limit at a → IsPointer message limit at b → a ≡ b
IsPointer-one message limit at a b first second = omega (arith, first.value, second.value)

-- steps that begin with a label
pub record Labelled (message : List ℕ) (limit at : ℕ) (label : List ℕ) (steps : List Step) : Type 0 where
  pub rest : List Step
  pub is : steps ≡ Label label ∷ rest
  pub leads : Leads message limit (at + 1 + length label) rest

pub Leads-label : (message : List ℕ) (limit at : ℕ) (label : List ℕ) (steps : List Step) → IsLabel message at label → Leads message limit at steps →
    Labelled message limit at label steps
Leads-label message limit at label [] stands leads = absurd (omega (arith, leads.value, stands.count, stands.some))
Leads-label message limit at label (Label other ∷ steps) stands leads =
    let same : other ≡ label = IsLabel-one message at other label leads.0 stands in
    record {
      rest = steps;
      is = ap (λ l. Label l ∷ steps) same;
      leads = subst (λ l. Leads message limit (at + 1 + length l) steps) same leads.1;
    }
Leads-label message limit at label (Jump offset ∷ steps) stands leads = absurd (omega (arith, leads.0.first, stands.count, stands.short))

-- steps that begin with a pointer
pub record Pointed (message : List ℕ) (offset : ℕ) (steps : List Step) : Type 0 where
  pub rest : List Step
  pub is : steps ≡ Jump offset ∷ rest
  pub leads : Leads message offset offset rest

pub Leads-pointer : (message : List ℕ) (limit at offset : ℕ) (steps : List Step) → IsPointer message limit at offset → Leads message limit at steps →
    Pointed message offset steps
Leads-pointer message limit at offset [] stands leads = absurd (omega (arith, leads.value, stands.first))
Leads-pointer message limit at offset (Label label ∷ steps) stands leads = absurd (omega (arith, stands.first, leads.0.count, leads.0.short))
Leads-pointer message limit at offset (Jump other ∷ steps) stands leads =
    let same : other ≡ offset = IsPointer-one message limit at other offset leads.0 stands in
    record {
      rest = steps;
      is = ap (λ p. Jump p ∷ steps) same;
      leads = subst (λ p. Leads message p p steps) same leads.1;
    }

-- no steps from where nothing stands
pub Leads-none : (message : List ℕ) (limit at : ℕ) (steps : List Step) → IsNoPart message limit at → Leads message limit at steps → ⊥
Leads-none message limit at [] none leads = none.root leads
Leads-none message limit at (Label label ∷ steps) none leads = none.label label leads.0
Leads-none message limit at (Jump offset ∷ steps) none leads = none.pointer offset leads.0

-- the end of a name's own bytes, if a pointer set it, or else by the steps that are left
abbrev pub end_from : Option ℕ → ℕ → List Step → ℕ
end_from None at steps = end_of at steps
end_from (Some end) at steps = end

-- the whole of a name, given what was read of it and the steps that are left
pub record Whole (message : List ℕ) (at : ℕ) (read : List ℕ) (end : Option ℕ) (offset : ℕ) (steps : List Step) : Type 0 where
  pub all : List Step
  pub leads : Leads message at at all
  pub name_is : name_of all ≡ read ++ name_of steps
  pub end_is : end_of at all ≡ end_from end offset steps

-- what is left of a name, given what was read of it
pub record Left (message : List ℕ) (limit offset : ℕ) (read : List ℕ) (end : Option ℕ) (at : ℕ) (all : List Step) : Type 0 where
  pub steps : List Step
  pub leads : Leads message limit offset steps
  pub name_is : name_of all ≡ read ++ name_of steps
  pub end_is : end_of at all ≡ end_from end offset steps

-- the bytes read and the steps left are those of one name
pub record Keeps (message : List ℕ) (at limit offset : ℕ) (read : List ℕ) (end : Option ℕ) : Type 0 where
  pub found : (steps : List Step) → Leads message limit offset steps → Whole message at read end offset steps
  pub only : (all : List Step) → Leads message at at all → Left message limit offset read end at all

pub Keeps-start : (message : List ℕ) (at : ℕ) → Keeps message at at at [] None
Keeps-start message at = record {
  found = λ steps leads. record { all = steps; leads = leads; name_is = refl; end_is = refl };
  only = λ all leads. record { steps = all; leads = leads; name_is = refl; end_is = refl };
}

end_from-label : (end : Option ℕ) (offset : ℕ) (label : List ℕ) (steps : List Step) →
    end_from end offset (Label label ∷ steps) ≡ end_from end (offset + 1 + length label) steps
end_from-label None offset label steps = refl
end_from-label (Some end) offset label steps = refl

-- a label is read
pub Keeps-label : (message : List ℕ) (at limit offset next : ℕ) (read more label : List ℕ) (end : Option ℕ) → IsLabel message offset label →
    next ≡ offset + 1 + length label → more ≡ read ++ (length label ∷ label)
    → Keeps message at limit offset read end → Keeps message at limit next more end
Keeps-label message at limit offset next read more label end stands next_is more_is keeps =
    let join : (rest : List ℕ) → read ++ (length label ∷ (label ++ rest)) ≡ more ++ rest = λ rest. sym (append_assoc read (length label ∷ label) rest) ∙
    ap (λ xs. xs ++ rest) (sym more_is) in
    record {
      found = λ steps leads.
          let w = keeps.found (Label label ∷ steps) (stands, subst (λ n. Leads message limit n steps) next_is leads) in
          record {
            all = w.all;
            leads = w.leads;
            name_is = w.name_is ∙ join (name_of steps);
            end_is = w.end_is ∙ end_from-label end offset label steps ∙ ap (λ n. end_from end n steps) (sym next_is);
          };
      only = λ all leads.
          let l = keeps.only all leads in
          let b = Leads-label message limit offset label l.steps stands l.leads in
          record {
            steps = b.rest;
            leads = subst (λ n. Leads message limit n b.rest) (sym next_is) b.leads;
            name_is = l.name_is ∙ ap (λ ss. read ++ name_of ss) b.is ∙ join (name_of b.rest);
            end_is = l.end_is ∙ ap (λ ss. end_from end offset ss) b.is ∙ end_from-label end offset label b.rest ∙ ap (λ n. end_from end n b.rest) (sym next_is);
          };
    }

end_from-pointer : (end : Option ℕ) (offset target : ℕ) (steps : List Step) →
    end_from end offset (Jump target ∷ steps) ≡ end_from (Some (unwrap_or end (offset + 2))) target steps
end_from-pointer None offset target steps = refl
end_from-pointer (Some end) offset target steps = refl

-- a pointer is read
pub Keeps-pointer : (message : List ℕ) (at limit offset target : ℕ) (read : List ℕ) (end : Option ℕ) (now : ℕ) → IsPointer message limit offset target →
    now ≡ unwrap_or end (offset + 2)
    → Keeps message at limit offset read end → Keeps message at target target read (Some now)
Keeps-pointer message at limit offset target read end now stands now_is keeps = record {
  found = λ steps leads.
      let w = keeps.found (Jump target ∷ steps) (stands, leads) in
      record {
        all = w.all;
        leads = w.leads;
        name_is = w.name_is;
        end_is = w.end_is ∙ end_from-pointer end offset target steps ∙ sym now_is;
      };
  only = λ all leads.
      let l = keeps.only all leads in
      let b = Leads-pointer message limit offset target l.steps stands l.leads in
      record {
        steps = b.rest;
        leads = b.leads;
        name_is = l.name_is ∙ ap (λ ss. read ++ name_of ss) b.is;
        end_is = l.end_is ∙ ap (λ ss. end_from end offset ss) b.is ∙ end_from-pointer end offset target b.rest ∙ sym now_is;
      };
}

end_from-root : (end : Option ℕ) (offset : ℕ) → end_from end offset [] ≡ unwrap_or end (offset + 1)
end_from-root None offset = refl
end_from-root (Some end) offset = refl

-- the name that was read, once its end stands there
pub Keeps-named : (message : List ℕ) (at limit offset : ℕ) (read name : List ℕ) (end : Option ℕ) (stop : ℕ) → Keeps message at limit offset read end →
    IsRoot message offset → IsName message at name stop
    → (name ≡ read ++ (0 ∷ [])) × (stop ≡ unwrap_or end (offset + 1))
Keeps-named message at limit offset read name end stop keeps root is =
    let l = keeps.only is.steps is.leads in
    let none = Leads-root message limit offset l.steps root l.leads in
    (is.name_is ∙ l.name_is ∙ ap (λ ss. read ++ name_of ss) none, is.end_is ∙ l.end_is ∙ ap (λ ss. end_from end offset ss) none ∙ end_from-root end offset)

-- and it has room for its last zero
pub Keeps-short : (message : List ℕ) (at limit offset : ℕ) (read name : List ℕ) (end : Option ℕ) (stop : ℕ) → Keeps message at limit offset read end →
    IsRoot message offset → IsName message at name stop → length read < 255
Keeps-short message at limit offset read name end stop keeps root is =
    let named = Keeps-named message at limit offset read name end stop keeps root is in
    omega (arith, is.short, ap length named.0, length-append read (0 ∷ []))

-- what was read is a name, once its end stands there
pub Keeps-name : (message : List ℕ) (at limit offset : ℕ) (read name : List ℕ) (end : Option ℕ) (stop : ℕ) → Keeps message at limit offset read end →
    IsRoot message offset → name ≡ read ++ (0 ∷ []) → stop ≡ unwrap_or end (offset + 1) → length name ≤ 255
    → IsName message at name stop
Keeps-name message at limit offset read name end stop keeps root name_is stop_is short =
    let w = keeps.found [] root in
    record {
      steps = w.all;
      leads = w.leads;
      name_is = name_is ∙ sym w.name_is;
      end_is = stop_is ∙ sym (end_from-root end offset) ∙ sym w.end_is;
      short = short;
    }

-- no name where nothing stands
pub Keeps-none : (message : List ℕ) (at limit offset : ℕ) (read name : List ℕ) (end : Option ℕ) (stop : ℕ) → Keeps message at limit offset read end →
    IsNoPart message limit offset → IsName message at name stop → ⊥
Keeps-none message at limit offset read name end stop keeps none is =
    let l = keeps.only is.steps is.leads in
    Leads-none message limit offset l.steps none l.leads

-- a name has room for each of its labels
pub Keeps-room : (message : List ℕ) (at limit offset : ℕ) (read name label : List ℕ) (end : Option ℕ) (stop : ℕ) → Keeps message at limit offset read end →
    IsLabel message offset label → IsName message at name stop
    → length read + 1 + length label ≤ 255
Keeps-room message at limit offset read name label end stop keeps stands is =
    let l = keeps.only is.steps is.leads in
    let b = Leads-label message limit offset label l.steps stands l.leads in
    let whole : name ≡ read ++ (length label ∷ (label ++ name_of b.rest)) = is.name_is ∙ l.name_is ∙ ap (λ ss. read ++ name_of ss) b.is in
    omega (arith, is.short, ap length whole, length-append read (length label ∷ (label ++ name_of b.rest)), length-append label (name_of b.rest))
