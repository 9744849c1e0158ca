-- Rows that have one head.
use Rattle.std.proofs.Common.{◌≡◌, ◌∙◌, true, false, List, [], ◌∷◌, ◌++◌, Option, Some, None, ap, sym, subst}
use Rattle.std.specs.Prelude.{IsTrue}
use Rattle.metrics_prometheus.specs.declared.row.ShownRow.{ShownRow}
use Rattle.metrics_prometheus.specs.declared.rows.Known.{Known}
use Rattle.metrics_prometheus.specs.Heads.{Follows, is_only, HaveHead, HaveOneHead, HaveOnly}
use Rattle.metrics_exposition.proofs.PairLemmas.{each-append}

-- one row more
pub have-more : (old new : Option Known) (rows after : List ShownRow) (r : ShownRow) → after ≡ rows ++ r ∷ [] → Follows old r.head.value new → HaveOnly old rows → HaveOnly new after
have-more old None rows after r more f h = absurd f
have-more None (Some k) rows after r more f none = λ is. subst (HaveHead k.head.value) (sym (more ∙ ap (λ l. l ++ r ∷ []) none)) (f.0, tt)
have-more (Some o) (Some k) rows after r more f h = λ is.
    let same = f.1 is in
    let before : HaveHead k.head.value rows = subst (λ x. HaveHead x rows) (same.1 ∙ f.0) (h same.0) in
    subst (HaveHead k.head.value) (sym more) (each-append (λ r. r.head.value ≡ k.head.value) rows (r ∷ []) before (f.0, tt))

-- the last row's head is that of all, if it is the only one
pub have-one : (o : Option Known) (rows : List ShownRow) → HaveOnly o rows → IsTrue (is_only o) → HaveOneHead rows
have-one None rows h is = absurd (let g : false ≡ true = is in cc)
have-one (Some k) rows h is = (k.head.value, h is)
