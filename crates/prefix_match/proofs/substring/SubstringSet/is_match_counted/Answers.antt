use Rattle.std.proofs.Common.{◌≡◌, IsTrue, ◌↔◌, sym, subst}
use Rattle.std.proofs.lemmas.Bool.{OnFalse_from, OnTrue_from}
use Rattle.prefix_match.specs.Substring.{Patterns, Occurs, OccursWithin, compared, lowered, moves_of}
use Rattle.prefix_match.specs.SubstringStates.{IsLinked, IsLinkWalk}
use Rattle.prefix_match.specs.SubstringTable.{IsTable, IsTableWalk}
use Rattle.prefix_match.specs.SubstringForms.{IsFormOf, patterns_of}
use Rattle.prefix_match.proofs.SubstringAnswers.{within_from, found_from, table_least, link_most}
use Rattle.prefix_match.proofs.substring.SubstringSet.is_match_counted.Goals as goal

pub returns-in-Links-clause-found : goal.returns-in-Links-clause-found
returns-in-Links-clause-found c =
    let s : Patterns = patterns_of c.self.inside in
    let form = subst (λ f. IsFormOf (compared s) c.self.inside.fold_case f) c.in-Links.is c.self.invariant in
    let linked : IsLinked (compared s) c.deref.result.now = subst (λ ns. IsLinked (compared s) ns) (sym c.deref.ensures.value) form.0 in
    let w : IsLinkWalk (compared s) (lowered s.fold_case c.args.text.now) c.walk.result.0 c.walk.result.1 = c.walk.ensures (compared s) linked in
    subst (λ z. IsTrue c.walk.result.0 ↔ Occurs z c.args.text.now) c.self.view_is (found_from s c.args.text.now c.walk.result.0 c.walk.result.1 w.answer w.least)

pub returns-in-Links-clause-least : goal.returns-in-Links-clause-least
returns-in-Links-clause-least c =
    let s : Patterns = patterns_of c.self.inside in
    let form = subst (λ f. IsFormOf (compared s) c.self.inside.fold_case f) c.in-Links.is c.self.invariant in
    let linked : IsLinked (compared s) c.deref.result.now = subst (λ ns. IsLinked (compared s) ns) (sym c.deref.ensures.value) form.0 in
    let w : IsLinkWalk (compared s) (lowered s.fold_case c.args.text.now) c.walk.result.0 c.walk.result.1 = c.walk.ensures (compared s) linked in
    subst (λ z. IsTrue c.walk.result.0 → OccursWithin z c.args.text.now c.walk.result.1) c.self.view_is (within_from s c.args.text.now c.walk.result.0 c.walk.result.1 w.answer w.least)

pub returns-in-Links-clause-link_moves : goal.returns-in-Links-clause-link_moves
returns-in-Links-clause-link_moves c =
    let s : Patterns = patterns_of c.self.inside in
    let form = subst (λ f. IsFormOf (compared s) c.self.inside.fold_case f) c.in-Links.is c.self.invariant in
    let linked : IsLinked (compared s) c.deref.result.now = subst (λ ns. IsLinked (compared s) ns) (sym c.deref.ensures.value) form.0 in
    let w : IsLinkWalk (compared s) (lowered s.fold_case c.args.text.now) c.walk.result.0 c.walk.result.1 = c.walk.ensures (compared s) linked in
    OnFalse_from c.args.self.now.table _ (λ _. link_most s c.args.text.now c.walk.result.0 c.walk.result.1 w)

pub returns-in-Table-clause-found : goal.returns-in-Table-clause-found
returns-in-Table-clause-found c =
    let s : Patterns = patterns_of c.self.inside in
    let table : IsTable (compared s) s.fold_case c.in-Table.table.classes c.in-Table.table.next.items c.in-Table.table.matches_empty = subst (λ f. IsFormOf (compared s) c.self.inside.fold_case f) c.in-Table.is c.self.invariant in
    let w : IsTableWalk (compared s) (lowered s.fold_case c.args.text.now) c.walk-in-Table.result.0 c.walk-in-Table.result.1 = c.walk-in-Table.ensures (compared s) s.fold_case table in
    subst (λ z. IsTrue c.walk-in-Table.result.0 ↔ Occurs z c.args.text.now) c.self.view_is (found_from s c.args.text.now _ c.walk-in-Table.result.1 w.answer (table_least s c.args.text.now _ _ w))

pub returns-in-Table-clause-least : goal.returns-in-Table-clause-least
returns-in-Table-clause-least c =
    let s : Patterns = patterns_of c.self.inside in
    let table : IsTable (compared s) s.fold_case c.in-Table.table.classes c.in-Table.table.next.items c.in-Table.table.matches_empty = subst (λ f. IsFormOf (compared s) c.self.inside.fold_case f) c.in-Table.is c.self.invariant in
    let w : IsTableWalk (compared s) (lowered s.fold_case c.args.text.now) c.walk-in-Table.result.0 c.walk-in-Table.result.1 = c.walk-in-Table.ensures (compared s) s.fold_case table in
    subst (λ z. IsTrue c.walk-in-Table.result.0 → OccursWithin z c.args.text.now c.walk-in-Table.result.1) c.self.view_is (within_from s c.args.text.now _ c.walk-in-Table.result.1 w.answer (table_least s c.args.text.now _ _ w))

pub returns-in-Table-clause-table_moves : goal.returns-in-Table-clause-table_moves
returns-in-Table-clause-table_moves c =
    let s : Patterns = patterns_of c.self.inside in
    let table : IsTable (compared s) s.fold_case c.in-Table.table.classes c.in-Table.table.next.items c.in-Table.table.matches_empty = subst (λ f. IsFormOf (compared s) c.self.inside.fold_case f) c.in-Table.is c.self.invariant in
    let w : IsTableWalk (compared s) (lowered s.fold_case c.args.text.now) c.walk-in-Table.result.0 c.walk-in-Table.result.1 = c.walk-in-Table.ensures (compared s) s.fold_case table in
    OnTrue_from c.args.self.now.table _ (λ _. subst (λ z. c.walk-in-Table.result.1 ≡ moves_of z c.args.text.now) c.self.view_is w.count)
