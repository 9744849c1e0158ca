-- What a key finds among the handles that are kept.
use Rattle.std.proofs.Common.{◌≡◌, ℕ, zero, suc, ◌+◌, ◌<◌, ◌≤◌, Bool, true, false, cond, not, List, [], ◌∷◌, ◌++◌, Option, None, Some, MatchOption, Result, Ok, Err, OnOk, IfOk, IfErr, inl, inr, refl, sym, ap, ◌∙◌, subst, slice_get, option_map, length, get_or, arith}
use Rattle.std.specs.List.{position_or_len}
use Rattle.std.specs.Map.{lookup, keys_of}
use Rattle.std.proofs.lemmas.Bool.{cond-true, cond-false}
use Rattle.std.proofs.lemmas.Grind.{common_steps}
use Rattle.std.proofs.lemmas.List.Quantifiers.{position-Some}
use Rattle.metrics.specs.declared.error.Error.{Error}
use Rattle.metrics.specs.declared.error.Error.TheVariants.{Memory as OutOfMemory}
use Rattle.metrics_names.specs.Names.{KeyParts, key_eq}
use Rattle.metrics_names.specs.Equality.{key_eq-Decides}
use Rattle.metrics_registry.specs.Held.{held, place_of}
use Rattle.metrics_registry.proofs.HeldLemmas.{by_answer, lookup-append_none}
use Rattle.metrics_local.specs.Keeping.{Kept, IsOfEpoch, AreGiven, LooksUp}

module _ {K H : Type 0} (t : K → Bool) where
  -- the first entry whose key passes is the one that a look-up finds
  found-at : (es : List (K × H)) (i : ℕ) (d : K) → i < length (keys_of es) → t (get_or (keys_of es) i d) ≡ true → ((k : ℕ) → k < i → t (get_or (keys_of es) k d) ≡ false)
      → (e : K × H) × (slice_get es i ≡ Some e) × (t e.0 ≡ true) × (lookup t es ≡ Some e.1)
  found-at [] i d lt is none = absurd (omega (arith, lt))
  found-at (x ∷ es) zero d lt is none = (x, refl, is, cond-true (t x.0) (Some x.1) (lookup t es) is)
  found-at (x ∷ es) (suc i) d lt is none =
      let rest = found-at es i d (omega (arith, lt)) is (λ k l. none (suc k) (omega (arith, l))) in
      (rest.0, rest.1, rest.2, cond-false (t x.0) (Some x.1) (lookup t es) (none zero (omega arith)) ∙ rest.3)

  absent : (es : List (K × H)) → (position_or_len t (keys_of es) < length (keys_of es) → ⊥) → lookup t es ≡ None
  absent [] past = refl
  absent (x ∷ es) past =
      let P : Bool → Type 0 = λ b. cond (not b) (1 + position_or_len t (keys_of es)) 0 < suc (length (keys_of es)) in
      by_answer (t x.0)
      (λ yes'. absurd (past (subst P (sym yes') (omega arith))))
      (λ no'. cond-false (t x.0) (Some x.1) (lookup t es) no' ∙ absent es (λ lt. past (subst P (sym no') (omega (arith, lt)))))

  lookup-append_some : (es fs : List (K × H)) (h : H) → lookup t es ≡ Some h → lookup t (es ++ fs) ≡ Some h
  lookup-append_some [] fs h is = cc is
  lookup-append_some (x ∷ es) fs h is =
      by_answer (t x.0)
      (λ yes'. cond-true (t x.0) (Some x.1) (lookup t (es ++ fs)) yes' ∙ (sym (cond-true (t x.0) (Some x.1) (lookup t es) yes') ∙ is))
      (λ no'. cond-false (t x.0) (Some x.1) (lookup t (es ++ fs)) no' ∙ lookup-append_some es fs h (sym (cond-false (t x.0) (Some x.1) (lookup t es) no') ∙ is))

pub slice_get-last : {E : Type 0} (es : List E) (e : E) → slice_get (es ++ e ∷ []) (length es) ≡ Some e
slice_get-last [] e = refl
slice_get-last (x ∷ es) e = slice_get-last es e

module _ {H : Type 0} where
  place-found : (es : List (KeyParts × H)) (key : KeyParts) (i : ℕ) → place_of key_eq es key ≡ Some i
      → (h : H) × (held key_eq es key ≡ Some h) × (slice_get es i ≡ Some (key, h))
  place-found es key i is =
      let first = position-Some (key_eq key) (keys_of es) i key is in
      let found = found-at (key_eq key) es i key first.0 first.1 first.2 in
      let same : key ≡ found.0.0 = (key_eq-Decides key found.0.0).0 found.2 in
      (found.0.1, found.3, found.1 ∙ ap (λ k. Some (k, found.0.1)) (sym same))

  place-absent : (es : List (KeyParts × H)) (key : KeyParts) → place_of key_eq es key ≡ None → held key_eq es key ≡ None
  place-absent es key is =
      let past : length (keys_of es) ≤ position_or_len (key_eq key) (keys_of es) = grind (arith, common_steps) in
      absent (key_eq key) es (λ lt. omega (arith, lt, past))

  -- what the place of a key says
  pub place-says : (es : List (KeyParts × H)) (key : KeyParts) (r : Option ℕ) → r ≡ place_of key_eq es key
      → MatchOption r (held key_eq es key ≡ None) (λ i. (h : H) × (held key_eq es key ≡ Some h) × (slice_get es i ≡ Some (key, h)))
  place-says es key None is = place-absent es key (sym is)
  place-says es key (Some i) is = place-found es key i (sym is)

  -- one more handle, which was given for its key
  pub given-more : (gives : KeyParts → H → Type 0) (es : List (KeyParts × H)) (key : KeyParts) (h : H) → AreGiven gives es → gives key h → AreGiven gives (es ++ (key, h) ∷ [])
  given-more gives es key h given new q x = more (held key_eq es q) refl
    where
      more : (r : Option H) → held key_eq es q ≡ r → held key_eq (es ++ (key, h) ∷ []) q ≡ Some x → gives q x
      more None none is =
          let one : cond (key_eq q key) (Some h) None ≡ Some x = sym (lookup-append_none (key_eq q) es ((key, h) ∷ []) none) ∙ is in
          by_answer (key_eq q key)
          (λ yes'.
          let same : q ≡ key = (key_eq-Decides q key).0 yes' in
          let it : h ≡ x = cc (cond-true (key_eq q key) (Some h) None yes', one) in
          subst (λ k. gives k x) (sym same) (subst (gives key) it new))
          (λ no'. cc (cond-false (key_eq q key) (Some h) None no', one))
      more (Some y) some is =
          given q x (some ∙ (sym (lookup-append_some (key_eq q) es ((key, h) ∷ []) y some) ∙ is))

-- ---- a handle that was kept for a key

module _ {X : Type 0} (es new : List (KeyParts × X)) (key : KeyParts) (h : X) where
  -- what was added for an equal key is added for the key
  pub kept-more : (r : Result ℕ Error) → OnOk r ((k : KeyParts) × (key_eq key k ≡ true) × (new ≡ es ++ (k, h) ∷ [])) → OnOk r (new ≡ es ++ (key, h) ∷ [])
  kept-more (Ok i) was = was.2 ∙ ap (λ k. es ++ (k, h) ∷ []) (sym ((key_eq-Decides key was.0).0 was.1))
  kept-more (Err e) was = tt

  pub kept-at : (r : Result ℕ Error) → OnOk r (new ≡ es ++ (key, h) ∷ []) → IfOk r (λ i. i ≡ length es) → IfOk r (λ i. slice_get new i ≡ Some (key, h))
  kept-at (Ok i) more at = ap (λ l. slice_get l i) more ∙ (ap (λ n. slice_get (es ++ (key, h) ∷ []) n) at ∙ slice_get-last es (key, h))
  kept-at (Err e) more at = tt

  -- each handle was given for its key, if this one was
  pub kept-given : (gives : KeyParts → X → Type 0) (r : Result ℕ Error) → OnOk r (new ≡ es ++ (key, h) ∷ []) → IfErr r (λ e. (e ≡ OutOfMemory) × (new ≡ es))
      → AreGiven gives es → gives key h → AreGiven gives new
  kept-given gives (Ok i) more none given it = subst (λ l. AreGiven gives l) (sym more) (given-more gives es key h given it)
  kept-given gives (Err e) more none given it = subst (λ l. AreGiven gives l) (sym none.1) given

-- ---- look-ups

module _ {S C G H X : Type 0} (part : Kept S C G H → List (KeyParts × X)) (with_part : Kept S C G H → List (KeyParts × X) → Kept S C G H) (gives : S → KeyParts → X → Type 0)
    (old shown now : Kept S C G H) (is : shown ≡ now) (epoch : IsOfEpoch old now) (on : now.on ≡ old.on) (same : shown ≡ with_part shown (part shown)) (key : KeyParts) where
  shown-epoch : IsOfEpoch old shown
  shown-epoch = subst (λ k. IsOfEpoch old k) (sym is) epoch

  shown-gives : (h : X) → gives shown.on key h → gives old.on key h
  shown-gives h given = subst (λ s. gives s key h) (ap (λ (k : Kept S C G H). k.on) is ∙ on) given

  -- of a key that is kept
  pub looks-up-held : (i : ℕ) → AreGiven (gives shown.on) (part shown)
      → (h : X) × (held key_eq (part shown) key ≡ Some h) × (slice_get (part shown) i ≡ Some (key, h))
      → (h : X) × (slice_get (part now) i ≡ Some (key, h)) × LooksUp part with_part gives key h old now
  looks-up-held i given found =
      let P : Kept S C G H → Type 0 = λ k. (h : X) × (slice_get (part k) i ≡ Some (key, h)) × LooksUp part with_part gives key h old k in
      subst P is (found.0, found.2, (shown-gives found.0 (given key found.0 found.1), (shown, shown-epoch, inl (found.1, refl), same)))

  module _ (none : held key_eq (part shown) key ≡ None) where
    -- the recorder gave no handle
    pub looks-up-nothing : IsOfEpoch old now × (held key_eq (part now) key ≡ None)
    looks-up-nothing = (epoch, subst (λ k. held key_eq (part k) key ≡ None) is none)

    -- of a key whose handle is kept from then on
    pub looks-up-new : (r : Result ℕ Error) (new : Kept S C G H) (h : X) → gives shown.on key h → new ≡ with_part shown (part new)
        → IfOk r (λ i. slice_get (part new) i ≡ Some (key, h)) → OnOk r (part new ≡ part shown ++ (key, h) ∷ [])
        → IfOk r (λ i. (x : X) × (slice_get (part new) i ≡ Some (key, x)) × LooksUp part with_part gives key x old new)
    looks-up-new (Ok i) new h given rest at more = (h, at, (shown-gives h given, (shown, shown-epoch, inr (none, more), rest)))
    looks-up-new (Err e) new h given rest at more = tt

    -- or for which there is no room
    pub looks-up-refused : (r : Result ℕ Error) (new : Kept S C G H) → new ≡ with_part shown (part new)
        → IfErr r (λ e. (e ≡ OutOfMemory) × (part new ≡ part shown))
        → IfErr r (λ e. (e ≡ OutOfMemory) × IsOfEpoch old new × (held key_eq (part new) key ≡ None))
    looks-up-refused (Ok i) new rest was = tt
    looks-up-refused (Err e) new rest was =
        let all : new ≡ shown = rest ∙ (ap (with_part shown) was.1 ∙ sym same) in
        (was.0, subst (λ k. IsOfEpoch old k) (sym all) shown-epoch, ap (λ l. held key_eq l key) was.1 ∙ none)

-- a clone of a key equals the key
pub equal-more : {K X : Type 0} (eq : K → K → Bool) (IsClone : K → K → Type 0) (es new : List (K × X)) (key : K) (h : X) (r : Result ℕ Error)
    → ((value clone : K) → IsClone value clone → eq value clone ≡ true)
    → OnOk r ((k : K) × IsClone key k × (new ≡ es ++ (k, h) ∷ [])) → OnOk r ((k : K) × (eq key k ≡ true) × (new ≡ es ++ (k, h) ∷ []))
equal-more eq IsClone es new key h (Ok i) equal was = (was.0, equal key was.0 was.1, was.2)
equal-more eq IsClone es new key h (Err e) equal was = tt

-- the handle of the entry at a place
pub handle-at : {K X : Type 0} (es : List (K × X)) (i : ℕ) (key : K) (h x : X) → slice_get es i ≡ Some (key, h) → option_map (λ e. e.1) (slice_get es i) ≡ Some x → h ≡ x
handle-at es i key h x is at =
    let both : Some h ≡ Some x = sym (ap (option_map (λ e. e.1)) is) ∙ at in
    cc
