-- `raise` raises the word, and the seat goes with it.
use Rattle.atomic_table.proofs.Names.{◌≡◌, ℕ, ◌+◌, ◌-◌, ◌^◌, ◌<◌, max, List, [], ◌∷◌, sym, refl, lit<, w64, a_type, named, Val, vint, vptr, inst_fn, SProp, wand, emp, apply∗, Lft, Share, Fml, ftrue, fsep, flft, ‵, raw, ◌⊛◌, some, given, later, mean, at_ret, ◌$◌, ◌∵◌, !, qed, by, move, keep, drop, split, join, fsplit, fsplit3, fjoin, fjoin3, fpick, pick, learn, use0, use2, use3, await, rewrite, feq_i, flt_i, stop, fld, addr, lit, of_opd, no_more, and_then, first, blocks, exec, Calls-last, returns, enter, alloc_all, pass_all, free_all, look_at, get, through, sets, lands_last, env, agg, tables, yes, true, RattleType, owns, types_at, plain, block_ptr, nothing, param, layouts, Stays, stay_dropped, walk_of, Goes-dropped, fact, fact_i, via, RefOf, mut_vals, mut_Tells, shr_vals, shr_Tells, opens, closes, stay_ref, Goes-ref, unhide, Lends-one, u64, uint_vals, uint_Tells}
use Rattle.atomic_table.proofs.Walks.{proved, leaves}
use Rattle.atomic_table.proofs.Calls.{fm, seq_cst, found, finds, raises}
use Rattle.core.proofs.atomic.Steps.{tail}
use Rattle.metrics_counts.specs.Counting.{WasAdded}
use Rattle.metrics_counts.specs.Owning.{Counted, seat_owns}
use Rattle.metrics_counts.specs.contracts.cell.CountCell as cell
use Rattle.metrics_counts.specs.contracts.seat.Seat as seat
use Rattle.metrics_counts.proofs.CountSteps.{Rises, raises as rises}
use Rattle.metrics_counts.proofs.Stepping.{went, steps}
use Rattle.metrics_counts.specs.contracts.cell.CountCell.raise.{ended, clauses}
use Rattle.metrics_counts.specs.contracts.cell.CountCell.raise.Key.{name as #self}
use Rattle.metrics_counts.proofs.cell.CountCell.raise.Statement.{statement}
use Rattle.metrics_counts.proofs.cell.CountCell.raise.Code as code

pub raise_spec : {M : Type 1} → statement M
raise_spec 𝓤 𝓛 𝓜 𝓡 wired T _ =
    let H = 𝓛.H in let 𝓣 = tables 𝓤 H 𝓜 𝓡 𝓡.env in let R : RattleType = param 0 T in let En = ended T in let c = clauses T 𝓛 𝓜.mem 𝓡.returns in
    let inst = layouts (a_type ∷ []) (T, tt) in let fn = inst_fn inst code.function in let closed = code.unfolded 𝓤 H 𝓜 𝓡 wired (T, tt) in
    let Cr : RattleType = cell.the_row R in let Sr : RattleType = seat.the_row in let self = RefOf (0 ∷ []) tt (plain (λ _. Cr)) (λ _. tt) in
    let sitter = plain (λ _. Sr) in
    let hs : Stays En.signature.params En.kept = (stay_dropped self yes, (stay_ref (1 ∷ []) tt sitter, (stay_dropped (plain (λ _. u64)) yes, tt))) in
    proved 𝓛 En hs c 𝓜 𝓡 (Goes-dropped 𝓛 3 self yes (λ κs x f. refl), (Goes-ref 𝓛 3 1 tt sitter, (Goes-dropped 𝓛 3 (plain (λ _. u64)) yes (λ κs x f. refl), tt))) (#self inst) fn closed
    (λ κs. (shr_vals, (mut_vals, (uint_vals w64, tt)))) (λ κs. (shr_Tells (named 0) κs.0 Cr, (mut_Tells (named 1) κs.1.0 Sr, (uint_Tells w64, tt)))) (λ κs qs bounds a gh are.
    let b : ℕ = a.0.ref_ptr.0 in let o : ℕ = a.0.ref_ptr.1 in let κ : Lft = κs.0 in let q : Share = qs.0 in let d : Counted T.Denot = a.0.now in let k : ℕ = a.1.1.0 in
    let b' : ℕ = a.1.0.ref_ptr.0 in let o' : ℕ = a.1.0.ref_ptr.1 in let m : Sr.Denot = a.1.0.now in
    let f : ℕ → ℕ = λ n. max n k in let amount : ℕ → ℕ = λ n. k - n in let fits : Rises f amount = rises k are.1.1.0.1 in
    let y : (walk_of 𝓛 En hs c).Ghost = ((κs, qs, bounds, a, (vptr b o ∷ [], (vptr b' o' ∷ [], (vint w64 a.1.1.0 ∷ [], tt)))), gh) in
    let Post : Val → SProp 𝓤 = (walk_of 𝓛 En hs c).post y in let others : Fml = fsep (flft κs.1.1.0 qs.1.1.0) ftrue in
    qed 𝓛 (((‵ (flft κ q) ⊛ ‵ (flft κs.1.0 qs.1.0) ⊛ ‵ others) ⊛ ‵ (owns (types_at En.signature.params κs) a y.0.4)) ∷ raw (fact 𝓤 _) ∷ given (m.cell ≡ d.name) (‵ ftrue) ∷ []) ∵
    keep ! (2 ∷ 0 ∷ []) $ learn ! (λ same. drop ! $ split ! $ split ! $ move ! (1 ∷ []) $ split ! $ move ! (3 ∷ []) $ fsplit ! $ fsplit ! $ move ! (2 ∷ []) $
    fsplit ! $ fsplit3 ! $ keep ! (5 ∷ 1 ∷ 2 ∷ 8 ∷ 6 ∷ 7 ∷ []) $
    enter ! 𝓣.C 𝓣.Λ fn (vptr b o ∷ vptr b' o' ∷ vint w64 a.1.1.0 ∷ []) Post $
    alloc_all ! (λ l. pass_all ! refl ((tt, tt), ((tt, tt), ((tt, record { fits = are.1.1.0.1 }), tt))) $ let Ev = env fn.locals l in
    unhide ! $ fpick ! (λ α. fsplit ! $ move ! (0 ∷ 4 ∷ []) $
    use2 𝓛 (later (some (λ (s : Share). ‵ (flft α s) ⊛ raw (wand 𝓤 (𝓛.A.lft α s) (H.⇛ (𝓛.A.lft κ q)))))) (Lends-one 𝓛 𝓜 𝓡 κ α q) $ await ! tt $ pick ! (λ s. split ! $
    let out : ℕ → Fml = λ n. fsep (flft α s) (went 𝓛 d.name f amount fits m.view n) in first ! $ blocks ! $
    sets ! (addr ! (through ! refl (fld ! refl (stop !)))) refl (tt, tt) $
    move ! (3 ∷ 4 ∷ 5 ∷ []) $ opens ! tt Sr b' o' (λ ts. move ! (1 ∷ []) $ fsplit ! $ move ! (1 ∷ []) $
    rewrite ! 0 (λ (x : ℕ). ‵ (seat_owns m.has_stepped x m.id m.view)) same refl $ move ! (8 ∷ 6 ∷ 0 ∷ []) $
    use3 𝓛 (raw (𝓣.C _ (vptr b (o + 0) ∷ vint w64 k ∷ seq_cst ∷ []) (λ u. mean 𝓛 (found out u))))
    (via 𝓤 _ (steps 𝓛 d.name f amount fits m.view m.has_stepped m.id α s b o) (raises 𝓛 𝓜 𝓡 (code.calls-core::raw_atomic::fetch_max 𝓡.env wired) (block_ptr b (o + 0)) k are.1.1.0.1 out)) $
    sets ! (agg ! (and_then ! (lit ! tt) (no_more !))) refl (tt, (record { fits = lit< tt }, tt)) $
    Calls-last ! (fm 𝓛 𝓜 𝓡) (found out) (and_then ! (get ! refl) (and_then ! (get ! refl) (and_then ! (get ! refl) (no_more !)))) (λ u. finds ! out (λ n fits-n.
    lands_last ! refl (tt, record { fits = fits-n }) $ exec ! 𝓣.C 𝓣.Λ Ev (tail fn.body) (at_ret Ev Post) $
    sets ! (of_opd ! (get ! refl)) refl (tt, record { fits = fits-n }) $
    fsplit ! $ move ! (0 ∷ 7 ∷ []) $ use2 𝓛 (later (‵ (flft κ q))) (apply∗ 𝓤 (𝓛.A.lft α s) (H.⇛ (𝓛.A.lft κ q))) $ await ! tt $
    move ! (1 ∷ []) $ fpick ! (λ t. fsplit ! $ fpick ! (λ so. drop ! $
    let m' : Sr.Denot = record { marker = m.marker; cell = d.name; has_stepped = true; id = t.0; view = t.1 } in
    let Told : Type 0 = (d.name ≡ m.cell) × WasAdded (amount n) m.view n t.1 in
    move ! (2 ∷ 0 ∷ []) $ fjoin ! $ move ! (2 ∷ 0 ∷ 3 ∷ 4 ∷ 5 ∷ []) $ closes ! tt Sr m' ts b' o' $ feq_i ! (List Val) (vptr b' o' ∷ []) (vptr b' o' ∷ []) refl $
    fjoin3 ! $
    flt_i ! n (2 ^ 64) fits-n $ feq_i ! (List Val) (vint w64 n ∷ []) (vint w64 n ∷ []) refl $ fjoin ! $ nothing ! $ nothing ! $ fjoin ! $ move ! (2 ∷ 0 ∷ []) $
    fjoin ! $ nothing ! $ fjoin ! $ move ! (2 ∷ 4 ∷ []) $ join ! $ move ! (3 ∷ 0 ∷ []) $ join ! $
    use0 𝓛 (raw (fact 𝓤 Told)) (fact_i 𝓤 Told (emp 𝓤) (sym same, so)) $
    returns ! (look_at ! 0 refl) $ free_all ! refl $ keep ! (1 ∷ 2 ∷ 3 ∷ 0 ∷ []) $
    by ! (leaves 𝓛 En hs c y (vint w64 n) n (tt, (m', (tt, tt))) (tt, (tt, (tt, tt))))))))))))))
