-- A sample's line begins with a character of a name, and so is no comment.
use Rattle.std.proofs.Common.{◌≡◌, ◌∙◌, ℕ, Bool, true, false, List, [], ◌∷◌, ◌++◌, nat_eq, refl, ap, sym}
use Rattle.std.proofs.lemmas.Bool.{eqb-true}
use Rattle.metrics_exposition.specs.Names.{goes_on, is_name}
use Rattle.metrics_prometheus.specs.Written.{begins_comment}
use Rattle.metrics_exposition.proofs.NameLemmas.{named}

pub no-comment : (n rest : List ℕ) → is_name true n ≡ true → begins_comment (n ++ rest) ≡ false
no-comment [] rest h = absurd (let g : false ≡ true = h in cc)
no-comment (c ∷ cs) rest h = by-test (nat_eq c 35) refl
  where
    by-test : (b : Bool) → nat_eq c 35 ≡ b → nat_eq c 35 ≡ false
    by-test false e = e
    by-test true e = absurd (let g : true ≡ false = sym (named true (c ∷ cs) h).0 ∙ ap (goes_on true) (eqb-true c 35 e) in cc)
