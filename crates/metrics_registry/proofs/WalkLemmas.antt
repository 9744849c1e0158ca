-- Calls of a closure at each entry.
use Rattle.std.proofs.Common.{◌≡◌, ℕ, zero, suc, ◌<◌, Bool, List, [], ◌∷◌, ◌++◌, refl, sym, ◌∙◌, ap, subst, length, get_or, take, arith}
use Rattle.std.proofs.lemmas.List.{append_assoc}
use Rattle.std.specs.List.{FoldsTo}
use Rattle.std.specs.Fn.{Mut, always_mut}
use denote.Ref.{Bor}
use denote.Param.Always.{mut_next}
use Rattle.metrics_registry.specs.Held.{CallsAtEntry, SomeCallAtEntry, TakesEach, Retains, entries_of}
use Rattle.metrics_registry.proofs.HeldLemmas.{FoldsTo-append}

module _ {F K C R : Type 0} (g : Mut F (Bor K × (Bor C × Unit {0})) R) where
  -- the calls of a walk, whatever they answered
  pub folds-some : (r : R) (f last : F) (es : List (K × C)) → FoldsTo (λ p e q. CallsAtEntry g p e r q) f es last → FoldsTo (SomeCallAtEntry g) f es last
  folds-some r f last [] was = was
  folds-some r f last (e ∷ es) was = (was.0, (r, was.1), folds-some r was.0 last es was.2)

  -- what may always be called may be so after calls
  pub always-after : (f last : F) (es : List (K × C)) → FoldsTo (SomeCallAtEntry g) f es last → always_mut g f → always_mut g last
  always-after f last [] was always = subst (λ p. always_mut g p) was always
  always-after f last (e ∷ es) was always =
      always-after was.0 last es was.2 (mut_next g f (was.1.1.key, (was.1.1.cell, tt)) was.1.0 was.0 was.0 was.1.1.called refl always)

  -- and so at each entry
  pub always-takes : (f : F) (es : List (K × C)) → always_mut g f → TakesEach g f es
  always-takes f es always = record { at = λ before after f' e split folds key cell k c. (((always-after f f' before folds always).at ((key, (cell, tt)) ∷ [])).0) }

  -- entries that are among others
  pub takes-part : (f f' : F) (all done es rest : List (K × C)) → TakesEach g f all → all ≡ done ++ (es ++ rest) → FoldsTo (SomeCallAtEntry g) f done f' → TakesEach g f' es
  takes-part f f' all done es rest takes is folds = record {
    at = λ before after f'' e split more key cell k c.
        takes.at (done ++ before) (after ++ rest) f'' e (is ∙ (ap (λ l. done ++ (l ++ rest)) split ∙ moved done before (e ∷ after) rest)) (FoldsTo-append (SomeCallAtEntry g) f done before f' f'' folds more) key cell k c;
  }
    where
      moved : (done before after rest : List (K × C)) → done ++ ((before ++ after) ++ rest) ≡ (done ++ before) ++ (after ++ rest)
      moved done before after rest = ap (λ l. done ++ l) (append_assoc before after rest) ∙ sym (append_assoc done before (after ++ rest))

-- the calls of a retain, whatever they answered
pub folds-retained : {F K C : Type 0} (g : Mut F (Bor K × (Bor C × Unit {0})) Bool) (f last : F) (es kept : List (K × C)) → Retains (λ p e b q. CallsAtEntry g p e b q) f es kept last → FoldsTo (SomeCallAtEntry g) f es last
folds-retained g f last [] kept was = sym was.1
folds-retained g f last (e ∷ es) kept was = (was.1, (was.0, was.3), folds-retained g was.1 last es was.2 was.4)

-- the entries of a shard among all
pub entries-split : {K C : Type 0} (ms : List (List (K × C))) (i : ℕ) (m : List (K × C)) → i < length ms → m ≡ get_or ms i m → (rest : List (K × C)) × (entries_of ms ≡ entries_of (take i ms) ++ (m ++ rest))
entries-split [] i m small is = absurd (omega (arith, small))
entries-split (x ∷ ms) zero m small is = (entries_of ms, ap (λ l. l ++ entries_of ms) (sym is))
entries-split (x ∷ ms) (suc i) m small is =
    let more = entries-split ms i m (omega (arith, small)) is in
    (more.0, ap (λ l. x ++ l) more.1 ∙ sym (append_assoc x (entries_of (take i ms)) (m ++ more.0)))

-- a list around one of its items
pub list-split : {A : Type 0} (xs : List A) (i : ℕ) (x : A) → i < length xs → x ≡ get_or xs i x → (rest : List A) × (xs ≡ take i xs ++ x ∷ rest)
list-split [] i x small is = absurd (omega (arith, small))
list-split (y ∷ xs) zero x small is = (xs, ap (λ v. v ∷ xs) (sym is))
list-split (y ∷ xs) (suc i) x small is = let more = list-split xs i x (omega (arith, small)) is in (more.0, ap (λ l. y ∷ l) more.1)
