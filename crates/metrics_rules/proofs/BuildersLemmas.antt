-- The builders, as branches are added.
use Rattle.std.proofs.Common.{◌≡◌, ℕ, ◌<◌, List, [], ◌∷◌, length, Option, None, Some, refl, ap, sym, ◌∙◌, subst, arith, append-nil}
use Rattle.metrics_rules.specs.Nodes.{node_meaning, group_meaning, IsWithin}
use Rattle.metrics.specs.Meaning.{Meaning}
use Rattle.metrics_rules.specs.Branches.{meanings}
use Rattle.metrics_rules.specs.declared.node.Node.{Node}
use Rattle.std.specs.Option.{option_map}
use Rattle.std.specs.Coded.{le_prop, ×_prop, Π_prop, Unit-prop}
use mathlib.Core.Path.{fun_ext}
use Rattle.metrics_names.specs.declared.kind.MetricKind.{MetricKind}
use Rattle.metrics.specs.Targets.{AllBelow, AreDistinct, IsNot}
use Rattle.metrics.specs.Book.{Content}
use Rattle.metrics.specs.Layers.{Route, winner, chosen, choosing, routed, targets_of}
use Rattle.metrics_rules.specs.Routing.{RouteTables, AreTablesOf, target_of, branch_of}
use Rattle.metrics_rules.specs.Branches.{all_meanings}
use Rattle.metrics_rules.proofs.RoutingLemmas.{winner-target, target-within}

-- ---- one meaning

below_prop : {X : Type 0} (k : ℕ) (ts : List (ℕ × X)) → IsProp (AllBelow k ts)
below_prop k [] = Unit-prop
below_prop k (t ∷ ts) = ×_prop le_prop (below_prop k ts)

is_not_prop : {X : Type 0} (b : ℕ) (ts : List (ℕ × X)) → IsProp (IsNot b ts)
is_not_prop b [] = Unit-prop
is_not_prop b (t ∷ ts) = ×_prop (Π_prop (λ e x y. absurd x)) (is_not_prop b ts)

distinct_prop : {X : Type 0} (ts : List (ℕ × X)) → IsProp (AreDistinct ts)
distinct_prop [] = Unit-prop
distinct_prop (t ∷ ts) = ×_prop (is_not_prop t.0 ts) (distinct_prop ts)

abbrev AreFine : List Content → (MetricKind → List ℕ → List (ℕ × List ℕ)) → Type 0
AreFine cs ts = ((kind : MetricKind) (name : List ℕ) → AllBelow (length cs) (ts kind name)) × ((kind : MetricKind) (name : List ℕ) → AreDistinct (ts kind name))

abbrev made_of : (cs : List Content) (ts : MetricKind → List ℕ → List (ℕ × List ℕ)) → AreFine cs ts → Meaning
made_of cs ts f = record { contents = cs; targets = ts; below = f.0; distinct = f.1 }

-- branches of the same leaves and targets mean the same
pub same_meaning : (a b : Meaning) → a.contents ≡ b.contents → a.targets ≡ b.targets → a ≡ b
same_meaning a b c t =
    subst (λ cs. (f : AreFine cs b.targets) → a ≡ made_of cs b.targets f) c
    (subst (λ (ts : MetricKind → List ℕ → List (ℕ × List ℕ)). (f : AreFine a.contents ts) → a ≡ made_of a.contents ts f) t (λ f. ap (made_of a.contents a.targets) (one (a.below, a.distinct) f)))
    (b.below, b.distinct)
  where
    one : IsProp (AreFine a.contents a.targets)
    one = ×_prop (Π_prop (λ kind. Π_prop (λ name. below_prop (length a.contents) (a.targets kind name)))) (Π_prop (λ kind. Π_prop (λ name. distinct_prop (a.targets kind name))))

-- ---- a router

of_target : (w : Option Route) → branch_of (option_map (λ (r : Route). r.target) w) ≡ chosen w
of_target None = refl
of_target (Some r) = refl

module _ (s : RouteTables) (rs : List Route) (h : AreTablesOf s rs) where
  same_choice : (kind : MetricKind) (name : List ℕ) → branch_of (target_of s kind name) ≡ chosen (winner rs kind name)
  same_choice kind name = ap branch_of (winner-target s rs h kind name) ∙ of_target (winner rs kind name)

  -- what is stored chooses as the list of routes does
  chosen-routed : (all : List Meaning) → group_meaning (Some s) all ≡ routed rs all
  chosen-routed all =
      ap (λ (f : MetricKind → List ℕ → ℕ). choosing f all) (fun_ext (λ kind. fun_ext (λ name. same_choice kind name)))

  pub winner-routed : (d : Node) (children : List Node) → (length children ≡ 0 → ⊥) → group_meaning (Some s) (meanings children) ≡ routed rs (all_meanings d children)
  winner-routed d [] some = absurd (some refl)
  winner-routed d (c ∷ rest) some = chosen-routed (meanings (c ∷ rest))

  -- if there is no target no route wins, and the default has all names
  pub alone-routed : (d : Node) (children : List Node) → length children ≡ 0 → IsWithin (Some s) (length (all_meanings d children)) → node_meaning d ≡ routed rs (all_meanings d children)
  alone-routed d [] none b =
      let a = node_meaning d in
      same_meaning a (routed rs (a ∷ [])) (sym (append-nil a.contents))
      (fun_ext (λ kind. fun_ext (λ name. ap (λ k. targets_of k (a ∷ []) kind name) (zero_is _ (target-within s 1 b kind name) ∙ same_choice kind name))))
    where
      zero_is : (n : ℕ) → n < 1 → 0 ≡ n
      zero_is n l = omega (arith, l)
  alone-routed d (c ∷ rest) none b = absurd (omega (arith, none))
