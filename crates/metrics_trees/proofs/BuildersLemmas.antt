-- The builders, as recorders are added.
use Rattle.std.proofs.Common.{◌≡◌, ℕ, suc, ◌+◌, ◌≤◌, false, List, [], ◌∷◌, ◌++◌, length, map, drop, refl, ap, sym, ◌∙◌, subst, arith, length-append, nat_lt, nat_eq, cond}
use Rattle.std.proofs.lemmas.List.{map-append, length-map}
use Rattle.std.proofs.lemmas.Bool.Decides.{nat_tests}
use Rattle.metrics.specs.declared.recorder.Recorder as recorder
use Rattle.metrics.specs.Meaning.{Meaning}
use Rattle.metrics.specs.declared.error.Error.{Error}
use Rattle.metrics.specs.declared.error.Error.TheVariants.{Memory, EmptyMask, TooManyBooks}
use Rattle.metrics_rules.specs.Nodes.{leaves_in}
use Rattle.metrics_rules.specs.Branches.{refusal}
use Rattle.metrics_rules.specs.Meanings.{rules_meaning}
use Rattle.metrics_trees.specs.Leaves.{recorders_of}
use Rattle.metrics_trees.specs.declared.leaves.Leaves.{Leaves}
use Rattle.metrics_trees.specs.declared.child.Child.{Child}
use Rattle.metrics_trees.specs.Recorders.{books_in, most_books, BooksFit}
use Rattle.metrics_trees.specs.Over.{over, overs}
use Rattle.metrics_rules.proofs.JoinedLemmas.{leaves-one}
use Rattle.metrics_trees.proofs.OverLemmas.{overs-more, books-over}

pub length-overs : (rs ms : List Meaning) → length (overs rs ms) ≡ length rs
length-overs [] ms = refl
length-overs (r ∷ rs) ms = ap suc (length-overs rs (drop (length r.contents) ms))

refused-few : (n : ℕ) → n ≤ most_books → Memory ≡ cond (nat_lt most_books n) TooManyBooks Memory
refused-few n h = grind (arith, nat_tests)

module _ {B : Type 0} {r : recorder.Ghosts B} (rs : List Meaning) (leaves : Leaves B r) (given : Child B r) (many : leaves_in rs ≡ length (recorders_of leaves)) where
  abbrev bs : List Meaning
  bs = map r.meaning (recorders_of leaves)

  abbrev cs : List Meaning
  cs = map r.meaning (recorders_of given.below.registrar.leaves)

  abbrev one : Meaning
  one = over (rules_meaning given.rules) cs

  as-many : length bs ≡ leaves_in rs
  as-many = length-map (recorders_of leaves) r.meaning ∙ sym many

  -- why it is rejected
  pub refusal-is : (e : Error) → e ≡ cond (nat_lt most_books (books_in bs + books_in cs)) TooManyBooks Memory → e ≡ refusal (overs rs bs) one
  refusal-is e h = h ∙ ap (λ k. cond (nat_lt most_books (k + books_in cs)) TooManyBooks Memory) (sym (books-over rs bs as-many))

  pub out-of-memory : books_in bs + books_in cs ≤ most_books → Memory ≡ refusal (overs rs bs) one
  out-of-memory few = refusal-is Memory (refused-few _ few)

  -- one recorder more
  pub record Gains (now : List Meaning) (after : List B) : Type 0 where
    pub as_many : leaves_in now ≡ length after
    pub fit : BooksFit (overs rs bs) one
    pub gained : overs now (map r.meaning after) ≡ overs rs bs ++ one ∷ []

  pub gains : books_in bs + books_in cs ≤ most_books → (now : List Meaning) (mid after : List B) → now ≡ rs ++ rules_meaning given.rules ∷ [] → mid ≡ recorders_of leaves → after ≡ mid ++ recorders_of given.below.registrar.leaves → Gains now after
  gains few now mid after g room moved =
      let to = moved ∙ ap (λ xs. xs ++ recorders_of given.below.registrar.leaves) room in
      let ms = ap (map r.meaning) to ∙ map-append r.meaning (recorders_of leaves) (recorders_of given.below.registrar.leaves) in
      let l = ap leaves_in g ∙ leaves-one rs (rules_meaning given.rules) in
      let n = ap length to ∙ length-append (recorders_of leaves) (recorders_of given.below.registrar.leaves) in
      record {
        as_many = omega (arith, l, n, many, given.as_many);
        fit = subst (λ k. k + books_in cs ≤ most_books) (sym (books-over rs bs as-many)) few;
        gained =
            ap (λ qs. overs qs (map r.meaning after)) g ∙ ap (overs (rs ++ rules_meaning given.rules ∷ [])) ms
            ∙ overs-more rs (rules_meaning given.rules) bs cs as-many (length-map (recorders_of given.below.registrar.leaves) r.meaning ∙ sym given.as_many);
      }

-- a mask with a kind is no reason
pub if-any-kind : (mask : ℕ) (e : Error) {f : Error} → nat_eq mask 0 ≡ false → e ≡ f → e ≡ cond (nat_eq mask 0) EmptyMask f
if-any-kind mask e {f} h same = same ∙ ap (λ b. cond b EmptyMask f) (sym h)
