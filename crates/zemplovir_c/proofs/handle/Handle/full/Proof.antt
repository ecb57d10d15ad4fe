-- `full` takes a loose box apart, and puts a handle together.
use Rattle.zemplovir_c.proofs.Steps.{◌≡◌, List, [], ◌∷◌, ◌++◌, refl, sym, subst, Val, vptr, SProp, ent, emp, id⊢, WpFn, ‵, raw, ◌⊛◌, ◌$◌, ◌∵◌, !, qed, by, move}
use Rattle.zemplovir_c.proofs.Steps.{keep, split, fsplit, fjoin, suffices, use0, stop, fld, of_opd, no_more, and_then, returns, enter, alloc_all, pass_all}
use Rattle.zemplovir_c.proofs.Steps.{free_all, look_at, get, get_in, sets, agg, sub, whole, fact, fact_i, tables, yes, RattleType, owns, types_at, plain}
use Rattle.zemplovir_c.proofs.Steps.{block_ptr, nothing, alive, Stays, stay_dropped, walk_of, Goes-blank, proved_at, leaves, Option, Some, ghosts}
use Rattle.zemplovir_c.proofs.Words.{word, R, Z, LZ, Loose, loose_good, loose_out, handle_in}
use Rattle.zemplovir_c.specs.contracts.handle.Handle.full as f
use Rattle.zemplovir_c.proofs.handle.Handle.full.Statement.{statement}
use Rattle.zemplovir_c.proofs.handle.Handle.full.Code as code

pub full_spec : {M : Type 1} → statement M
full_spec 𝓤 𝓛 𝓜 𝓡 wired =
    let H = 𝓛.H in let 𝓣 = tables 𝓤 H 𝓜 𝓡 𝓡.env in let En = f.ended in let c = f.clauses 𝓛 𝓜.mem 𝓡.returns in let L : RattleType = Loose R Z LZ ghosts in
    let hs : Stays En.signature.params En.kept = (stay_dropped (plain (λ _. L)) yes, tt) in
    proved_at 𝓛 En hs c 𝓜 𝓡 (Goes-blank 𝓛 0 (plain (λ _. L)) yes (λ κs x w. tt), tt)
    f.Key.name code.function (code.unfolded 𝓤 H 𝓜 𝓡 wired) (λ z are.
    let κs = z.0.0 in let qs = z.0.1 in let Post : Val → SProp 𝓤 = (walk_of 𝓛 En hs c).post z in let Run : List Val →
    SProp 𝓤 = λ ws. WpFn 𝓤 H 𝓣.C 𝓣.Λ code.function ws Post in
    let v = z.0.3.0 in let a = v.alloc in let inside : Option R.Denot = Some v.value in
    qed 𝓛 ((raw (alive 𝓛 En.signature κs qs) ⊛ ‵ (owns (types_at En.signature.params κs) z.0.3 z.0.4)) ∷ raw ((c κs z.0.3).requires z.1) ∷ []) ∵
    split ! $ move ! (1 ∷ []) $ fsplit ! $ loose_out R Z LZ ghosts ! v z.0.4.0 (λ b o h e ws fits.
    let w : Val = word (vptr b o) h in let typed = loose_good R Z LZ ghosts b o h fits in
    handle_in ! (block_ptr b o) h a inside $
    suffices ! (Run (w ∷ [])) (subst (λ (us : List Val). ent 𝓤 (Run (w ∷ [])) (Run us)) (sym (λ i. ws i ++ [])) (id⊢ 𝓤 (Run (w ∷ [])))) $
    enter ! 𝓣.C 𝓣.Λ code.function (w ∷ []) Post $ alloc_all ! (λ l. pass_all ! refl (typed, tt) $
    sets ! (of_opd ! (get_in ! (fld ! refl (stop !)) (sub ! 0 refl (whole !)))) refl (tt, tt) $
    sets ! (of_opd ! (get_in ! (fld ! refl (stop !)) (sub ! 1 refl (whole !)))) refl fits $
    sets ! (of_opd ! (get ! refl)) refl (tt, tt) $
    sets ! (agg ! (and_then ! (get ! refl) (and_then ! (get ! refl) (no_more !)))) refl typed $
    use0 𝓛 (raw (fact 𝓤 (inside ≡ inside))) (fact_i 𝓤 (inside ≡ inside) (emp 𝓤) refl) $ nothing ! $ nothing ! $ fjoin ! $
    returns ! (look_at ! 0 refl) $ free_all ! refl $ keep ! (4 ∷ 0 ∷ 2 ∷ 1 ∷ []) $ by !
    (leaves 𝓛 En hs c z w (record { at = block_ptr b o; alloc = a; inside = inside }) (tt, tt) (tt, tt)))))
