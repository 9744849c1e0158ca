-- `new` puts 0 in the cell, at which nobody has a seat.
use Rattle.atomic_table.proofs.Names.{◌≡◌, ℕ, [], ◌∷◌, refl, lit<, w64, List, a_type, named, Val, vint, vptr, vstruct, vcons, vnil, inst_fn, SProp, emp, Fml, ftrue, fsep, ‵, raw, ◌⊛◌, some, later, ◌$◌, ◌∵◌, !, qed, by, move, keep, split, fjoin, fpack, pick, use0, await, lit, no_more, and_then, returns, enter, alloc_all, pass_all, free_all, look_at, get, sets, agg, tables, yes, RattleType, owns, types_at, plain, nothing, param, layouts, alive, Stays, stay_dropped, walk_of, Goes-dropped, fact, fact_i, RefOf, shr_vals, shr_Tells, makes_shadow}
use Rattle.atomic_table.proofs.Walks.{proved, leaves}
use Rattle.atomic_table.specs.Seated.{roster}
use Rattle.metrics_counts.specs.declared.view.View.{View}
use Rattle.metrics_counts.specs.Counting.{IsCounted}
use Rattle.metrics_counts.specs.Owning.{Counted, view_coded, viewed, beside}
use Rattle.metrics_counts.specs.contracts.cell.CountCell as cell
use Rattle.metrics_counts.specs.contracts.cell.CountCell.TheInside as inside
use Rattle.metrics_counts.proofs.CountSteps.{starts}
use Rattle.metrics_counts.proofs.Stepping.{opens}
use Rattle.metrics_counts.specs.contracts.cell.CountCell.new.{ended, clauses}
use Rattle.metrics_counts.specs.contracts.cell.CountCell.new.Key.{name as #self}
use Rattle.metrics_counts.proofs.cell.CountCell.new.Statement.{statement}
use Rattle.metrics_counts.proofs.cell.CountCell.new.Code as code

pub new_spec : {M : Type 1} → statement M
new_spec 𝓤 𝓛 𝓜 𝓡 wired T _ =
    let H = 𝓛.H in let 𝓣 = tables 𝓤 H 𝓜 𝓡 𝓡.env in let R : RattleType = param 0 T in let En = ended T in let c = clauses T 𝓛 𝓜.mem 𝓡.returns in
    let inst = layouts (a_type ∷ []) (T, tt) in let fn = inst_fn inst code.function in let closed = code.unfolded 𝓤 H 𝓜 𝓡 wired (T, tt) in
    let Cr : RattleType = cell.the_row R in let keyed = RefOf (0 ∷ []) tt (plain (λ _. R)) (λ _. tt) in
    let hs : Stays En.signature.params En.kept = (stay_dropped keyed yes, tt) in
    proved 𝓛 En hs c 𝓜 𝓡 (Goes-dropped 𝓛 2 keyed yes (λ κs x f. refl), tt) (#self inst) fn closed
    (λ κs. (shr_vals, tt)) (λ κs. (shr_Tells (named 0) κs.0 R, tt)) (λ κs qs bounds a gh are.
    let at : Val = vptr a.0.ref_ptr.0 a.0.ref_ptr.1 in let v : Val = vstruct (vcons (vint w64 0) (vcons (vstruct vnil) vnil)) in
    let F : RattleType = inside.the_row R in let Has : ℕ → Fml = λ n. F.own_val (record { word = n; marker = record {} }) (v ∷ []) in
    let Laid : Type 0 = denote.Laws.Typed F.mir (v ∷ []) in let Told : Type 0 = a.0.now ≡ a.0.now in
    let y : (walk_of 𝓛 En hs c).Ghost = ((κs, qs, bounds, a, (at ∷ [], tt)), gh) in let Post : Val → SProp 𝓤 = (walk_of 𝓛 En hs c).post y in
    qed 𝓛 ((raw (alive 𝓛 En.signature κs qs) ⊛ ‵ (owns (types_at En.signature.params κs) a y.0.4)) ∷ raw ((c κs a).requires gh) ∷ []) ∵
    split ! $ keep ! (0 ∷ []) $
    enter ! 𝓣.C 𝓣.Λ fn (at ∷ []) Post $ alloc_all ! (λ l. pass_all ! refl ((tt, tt), tt) $
    use0 𝓛 (later (some (λ (γ : ℕ). ‵ (roster view_coded.code γ 0 [])))) (opens 𝓛) $ await ! tt $
    pick ! (λ γ. let r : Counted T.Denot = record { name = γ; key = a.0.now } in
    nothing ! $ fpack ! (IsCounted 0 []) (λ _. ftrue) starts $ move ! (1 ∷ 0 ∷ []) $ fjoin ! $ fpack ! (List View) (viewed γ 0) [] $
    use0 𝓛 (‵ (Has 0)) (makes_shadow 𝓛 (Has 0) (λ vss. (tt, ((tt, tt), ((λ uss. (tt, tt)), tt)))) ((vint w64 0 ∷ [], (vstruct vnil ∷ [], tt)), (refl, ((refl, lit< tt), ((tt, (refl, tt)), tt))))) $ fjoin ! $
    fpack ! ℕ (λ n. fsep (Has n) (beside γ n)) 0 $ nothing ! $ fpack ! Laid (λ _. ftrue) ((tt, (record { fits = lit< tt }, (tt, tt))), tt) $ fjoin ! $
    sets ! (agg ! (no_more !)) refl (tt, tt) $
    sets ! (agg ! (and_then ! (lit ! tt) (and_then ! (get ! refl) (no_more !)))) refl (tt, (record { fits = lit< tt }, (tt, tt))) $
    use0 𝓛 (raw (fact 𝓤 Told)) (fact_i 𝓤 Told (emp 𝓤) refl) $ nothing ! $ nothing ! $ fjoin ! $
    returns ! (look_at ! 0 refl) $ free_all ! refl $ keep ! (3 ∷ 0 ∷ 2 ∷ 1 ∷ []) $ by ! (leaves 𝓛 En hs c y v r (tt, tt) (tt, tt)))))
