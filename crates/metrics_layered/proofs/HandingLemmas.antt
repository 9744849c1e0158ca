-- Handles that were asked for one after another.
use Rattle.std.proofs.Common.{◌≡◌, ℕ, List, [], ◌∷◌, ◌++◌, ap, sym, ◌∙◌, subst, append-nil, append_assoc}
use Rattle.std.specs.List.{FoldsTo}
use Rattle.metrics_names.specs.Names.{KeyParts}
use Rattle.metrics_layered.specs.Handing.{IsGiven, AreGiven}

-- what the visitor has after it accepted a target
pub record Gains {V S H : Type 0} (gives : S → KeyParts → H → Type 0) (labels : List (List ℕ × List ℕ)) (src : V → List S) (found : V → List H) (v : V) (t : ℕ × List ℕ) (w : V) : Type 0 where
  pub handle : H
  pub given : IsGiven gives (src v) labels t handle
  pub more : found w ≡ found v ++ handle ∷ []
  pub same : src w ≡ src v

module _ {V S H : Type 0} (gives : S → KeyParts → H → Type 0) (labels : List (List ℕ × List ℕ)) (src : V → List S) (found : V → List H)
    (R : V → ℕ × List ℕ → V → Type 0) (gains : (v : V) (t : ℕ × List ℕ) (w : V) → R v t w → Gains gives labels src found v t w) where
  pub given-all : (v : V) (ts : List (ℕ × List ℕ)) (w : V) → FoldsTo R v ts w →
      (hs : List H) × (found w ≡ found v ++ hs) × AreGiven gives (src v) labels ts hs
  given-all v [] w p = ([], ap found (sym p) ∙ sym (append-nil (found v)), tt)
  given-all v (t ∷ ts) w p =
      let one = gains v t p.0 p.1 in
      let rest = given-all p.0 ts w p.2 in (
        one.handle ∷ rest.0,
        rest.1 ∙ ap (λ hs. hs ++ rest.0) one.more ∙ append_assoc (found v) (one.handle ∷ []) rest.0,
        (one.given, subst (λ ss. AreGiven gives ss labels ts rest.0) one.same rest.2),
      )

  -- if it had none at first
  pub given-only : (v : V) (ts : List (ℕ × List ℕ)) (w : V) → found v ≡ [] → FoldsTo R v ts w → AreGiven gives (src v) labels ts (found w)
  given-only v ts w none p =
      let all = given-all v ts w p in
      subst (AreGiven gives (src v) labels ts) (sym (all.1 ∙ ap (λ hs. hs ++ all.0) none)) all.2
