use Rattle.std.proofs.Common.{◌≡◌, length, sym, ◌∙◌, true≢false, rules}
use Rattle.std.proofs.lemmas.Bool.Decides.{Decides-eqb}
use Rattle.std.proofs.lemmas.Slice.Eq.{slice_eq-Decides}
use Rattle.tool_trees.specs.declared.tree_line.TreeLine.TheVariants as line
use Rattle.tool_trees.proofs.Doing.{not_one}
use Rattle.tool_trees.proofs.putting.read_line.Goals as goal

pub returns-else-len-eq1 : goal.returns-else-len-eq1
returns-else-len-eq1 c = λ bad ts b.
    let many : length c.args.stack.now.items ≡ 1 → ⊥ = search rules in
    not_one _ _ ts ((slice_eq-Decides Decides-eqb _ _ _ c.eq.ensures).0 c.if-eq.true ∙ c.as_slice.ensures) many b

pub returns-in-Ok-None : goal.returns-in-Ok-None
returns-in-Ok-None c = λ bad ts b.
    let none = rw c.in-Ok-None.field-0-is at c.in-Ok-None.ensures in
    ((λ t e one. none line.End (tt, e)), λ l us spelled step. none l spelled)

pub returns-in-Ok-Some : goal.returns-in-Ok-Some
returns-in-Ok-Some c =
    let spelled = rw c.in-Ok-Some.field-0-is at c.in-Ok-Some.ensures in
    c.put_line.ensures _ spelled (λ e. true≢false (sym ((slice_eq-Decides Decides-eqb _ _ _ c.eq.ensures).1 (e ∙ sym c.as_slice.ensures)) ∙ c.if-eq.false))
