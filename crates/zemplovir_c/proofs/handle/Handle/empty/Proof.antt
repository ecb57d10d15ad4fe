-- `empty` puts a null pointer and the allocator together.
use Rattle.zemplovir_c.proofs.Steps.{◌≡◌, List, [], ◌∷◌, ◌++◌, refl, sym, subst, Val, has_ty, SProp, ent, emp, id⊢, ftrue, WpFn, ‵, raw, ◌⊛◌, ◌$◌, ◌∵◌, !, qed}
use Rattle.zemplovir_c.proofs.Steps.{by, move, keep, split, fsplit, fjoin, fpack, suffices, use0, rewrite, lit, no_more, and_then, returns, enter, alloc_all}
use Rattle.zemplovir_c.proofs.Steps.{pass_all, free_all, look_at, get, sets, agg, fact, fact_i, tables, yes, owns, types_at, plain, Ptr, null_ptr, ptr_val}
use Rattle.zemplovir_c.proofs.Steps.{nothing, layout, alive, Stays, stay_dropped, walk_of, Goes-dropped, Ptr-Good, Good, one, proved_at, leaves, Option, None}
use Rattle.zemplovir_c.proofs.Steps.{and_tt}
use Rattle.zemplovir_c.proofs.Words.{word, R, Z, LZ, Handle, handle_in}
use Rattle.zemplovir_c.specs.contracts.handle.Handle.empty as f
use Rattle.zemplovir_c.proofs.handle.Handle.empty.Statement.{statement}
use Rattle.zemplovir_c.proofs.handle.Handle.empty.Code as code

pub empty_spec : {M : Type 1} → statement M
empty_spec 𝓤 𝓛 𝓜 𝓡 wired =
    let H = 𝓛.H in let 𝓣 = tables 𝓤 H 𝓜 𝓡 𝓡.env in let En = f.ended in let c = f.clauses 𝓛 𝓜.mem 𝓡.returns in
    let hs : Stays En.signature.params En.kept = (stay_dropped (plain (λ _. Z)) yes, tt) in
    proved_at 𝓛 En hs c 𝓜 𝓡 (Goes-dropped 𝓛 0 (plain (λ _. Z)) yes (λ κs x w. refl), tt)
    f.Key.name code.function (code.unfolded 𝓤 H 𝓜 𝓡 wired) (λ z are.
    let κs = z.0.0 in let qs = z.0.1 in let Post : Val → SProp 𝓤 = (walk_of 𝓛 En hs c).post z in let Run : List Val →
    SProp 𝓤 = λ ws. WpFn 𝓤 H 𝓣.C 𝓣.Λ code.function ws Post in
    let a = z.0.3.0 in let none : Ptr = null_ptr in let inside : Option R.Denot = None in
    let h = one (layout Z) z.0.4.0 ((LZ.lawful 𝓛).typed a z.0.4.0 are.0) in let w : Val = word (ptr_val none) h.0 in
    let good : Good (layout Handle) w = (and_tt (has_ty (layout Z) h.0) h.2.0, ((Ptr-Good none).1, (h.2.1, tt))) in
    qed 𝓛 ((raw (alive 𝓛 En.signature κs qs) ⊛ ‵ (owns (types_at En.signature.params κs) z.0.3 z.0.4)) ∷ raw ((c κs z.0.3).requires z.1) ∷ []) ∵
    split ! $ move ! (1 ∷ []) $ fsplit ! $
    rewrite ! 0 (λ (us : List Val). ‵ (Z.own_val a us)) h.1 refl $ nothing ! $ fpack ! (none ≡ null_ptr) (λ _. ftrue) refl $
    handle_in ! none h.0 a inside $
    suffices ! (Run (h.0 ∷ [])) (subst (λ (us : List Val). ent 𝓤 (Run (h.0 ∷ [])) (Run us)) (sym (λ i. h.1 i ++ [])) (id⊢ 𝓤 (Run (h.0 ∷ [])))) $
    enter ! 𝓣.C 𝓣.Λ code.function (h.0 ∷ []) Post $ alloc_all ! (λ l. pass_all ! refl (h.2, tt) $
    sets ! (agg ! (and_then ! (lit ! tt) (and_then ! (get ! refl) (no_more !)))) refl good $
    use0 𝓛 (raw (fact 𝓤 (inside ≡ None))) (fact_i 𝓤 (inside ≡ None) (emp 𝓤) refl) $ nothing ! $ nothing ! $ fjoin ! $
    returns ! (look_at ! 0 refl) $ free_all ! refl $ keep ! (4 ∷ 0 ∷ 2 ∷ 1 ∷ []) $ by !
    (leaves 𝓛 En hs c z w (record { at = none; alloc = a; inside = inside }) (tt, tt) (tt, tt))))
