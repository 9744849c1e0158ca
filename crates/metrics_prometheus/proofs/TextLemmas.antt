-- The text of rows, one row after another.
use Rattle.std.proofs.Common.{◌≡◌, ◌∙◌, ◌+◌, ◌-◌, ◌<◌, ◌≤◌, ◌++◌, ℕ, Bool, true, false, not, List, [], ◌∷◌, Option, Some, None, Result, Ok, Err, MatchResult, IfOk, length, get_or, take, drop, codes, nat_eq, option_map, refl, cond, ap, sym, subst, arith, append_assoc}
use Rattle.std.specs.Prelude.{IfErr, IfSome, IsSomeAnd, MatchOption, bytes_eq}
use Rattle.std.specs.Borrow.{Bor}
use Rattle.std.specs.Option.{option_or}
use Rattle.std.specs.List.{ends_with}
use Rattle.std.proofs.lemmas.List.{at_drop_more, take_all}
use Rattle.metrics_exporter.specs.Exporting.{Cells}
use Rattle.metrics_prometheus.specs.Exposition.{Row, histogram_names, found_in, part_of, part, labels_reason, name_reason, same_name_reason, last_reason, reason_of, is_left_out, row_text, last_after, rows_text}
use Rattle.metrics_prometheus.specs.Written.{written}
use Rattle.metrics_prometheus.specs.declared.rows.Place.{Place}
use Rattle.metrics_prometheus.specs.Places.{rows_placed}
use Rattle.metrics_prometheus.specs.Rows.{row_shown, rows_shown, named}
use Rattle.metrics_names.specs.Names.{LabelParts}
use Rattle.metrics_exposition.specs.Labels.{first_key}
use Rattle.metrics_exposition.specs.Samples.{sample_line}
use Rattle.metrics_exposition.specs.Heads.{sample_head, headed_line}
use Rattle.metrics_exposition.proofs.HeadLemmas.{headed-line}

pub if-true : {A : Type 0} (b written : Bool) (x y : A) → written ≡ not b → written ≡ true → y ≡ cond b x y
if-true true written x y is was = absurd (let e : true ≡ false = sym was ∙ is in cc)
if-true false written x y is was = refl

pub if-false : {A : Type 0} (b written : Bool) (x y : A) → written ≡ not b → written ≡ false → x ≡ cond b x y
if-false true written x y is was = refl
if-false false written x y is was = absurd (let e : true ≡ false = sym is ∙ was in cc)

-- no name is one of no histogram's samples
none-part : (name end : List ℕ) → part_of [] name end ≡ None
none-part name end = go (ends_with nat_eq name end)
  where
    go : (b : Bool) → cond b (found_in [] (take (length name - length end) name)) None ≡ None
    go true = refl
    go false = refl

pub none-named : (name : List ℕ) → None ≡ name_reason [] name
none-named name =
    sym (ap (λ o. option_map (λ n. part n) (option_or o (option_or (part_of [] name (codes "_sum")) (part_of [] name (codes "_count"))))) (none-part name (codes "_bucket"))
    ∙ ap (λ o. option_map (λ n. part n) (option_or o (part_of [] name (codes "_count")))) (none-part name (codes "_sum"))
    ∙ ap (λ o. option_map (λ n. part n) o) (none-part name (codes "_count")))

-- a row of another name counts for nothing
named-last : (last : Option Row) (r : Row) → last_reason (named last r.name) r ≡ last_reason last r
named-last None r = refl
named-last (Some w) r = go (bytes_eq w.name r.name) refl
  where
    go : (b : Bool) → bytes_eq w.name r.name ≡ b → last_reason (cond b (Some w) None) r ≡ cond b (same_name_reason w r) None
    go true e = ap (λ b. cond b (same_name_reason w r) None) e
    go false e = refl

pub named-reason : (all : List Row) (last : Option Row) (r : Row) → reason_of all (named last r.name) r ≡ reason_of all last r
named-reason all last r = ap (λ o. option_or (labels_reason r.kind r.labels) (option_or (name_reason (histogram_names all) r.name) o)) (named-last last r)

-- the text with one more row
pub text-more : (cells : Cells) (all : List Row) (last after : Option Row) (xs : List Place) (i : ℕ) (x : Place) (before now whole : List ℕ)
    → i < length xs → x ≡ get_or xs i x → now ≡ before ++ row_text cells all last (row_shown x.row.now) → after ≡ last_after all last (row_shown x.row.now)
    → before ++ rows_text cells all last (rows_shown (rows_placed (drop i xs))) ≡ whole → now ++ rows_text cells all after (rows_shown (rows_placed (drop (i + 1) xs))) ≡ whole
text-more cells all last after xs i x before now whole small at is then was =
    let text : Option Row → List ℕ = λ l. rows_text cells all l (rows_shown (rows_placed (drop (i + 1) xs))) in
    ap (λ t. t ++ text after) is ∙ ap (λ l. (before ++ row_text cells all last (row_shown x.row.now)) ++ text l) then
    ∙ append_assoc before (row_text cells all last (row_shown x.row.now)) (text (last_after all last (row_shown x.row.now)))
    ∙ ap (λ t. before ++ t) (sym (at_drop_more (λ ys. rows_text cells all last (rows_shown (rows_placed ys))) xs i x small ∙ ap (λ y. row_text cells all last (row_shown y.row.now) ++ text (last_after all last (row_shown y.row.now))) (sym at)))
    ∙ was

-- so many rows were left out before these
abbrev pub LeftSo : List Row → Option Row → ℕ → List Row → Type 0
LeftSo all last n rest = n + length rest + length (written all None all) ≡ length all + length (written all last rest)

-- and before those after one more row
pub left-more : (all : List Row) (last after : Option Row) (xs : List Place) (i : ℕ) (x : Place) (n now : ℕ)
    → i < length xs → x ≡ get_or xs i x → now ≡ cond (is_left_out all last (row_shown x.row.now)) (n + 1) n → after ≡ last_after all last (row_shown x.row.now)
    → LeftSo all last n (rows_shown (rows_placed (drop i xs))) → LeftSo all after now (rows_shown (rows_placed (drop (i + 1) xs)))
left-more all last after xs i x n now small at is then before =
    let row = row_shown x.row.now in
    let rest = rows_shown (rows_placed (drop (i + 1) xs)) in
    let these = at_drop_more (λ ys. rows_shown (rows_placed ys)) xs i x small ∙ ap (λ y. row_shown y.row.now ∷ rest) (sym at) in
    subst (λ o. LeftSo all o now rest) (sym then) (subst (λ k. LeftSo all (last_after all last row) k rest) (sym is)
    (by row rest (is_left_out all last row) (subst (λ rs. LeftSo all last n rs) these before)))
  where
    by : (row : Row) (rest : List Row) (b : Bool) → n + length (row ∷ rest) + length (written all None all) ≡ length all + length (cond b (written all last rest) (row ∷ written all (Some row) rest))
        → cond b (n + 1) n + length rest + length (written all None all) ≡ length all + length (written all (cond b last (Some row)) rest)
    by row rest true e = omega (arith, e)
    by row rest false e = omega (arith, e)

-- a line that begins so is that of its sample
pub begun-line : (head name first value : List ℕ) (ls more : List LabelParts) (x : LabelParts) → head ≡ sample_head name (first_key ls) → x ∷ more ≡ ls → first ≡ x.1
    → headed_line head first more value ≡ sample_line (record { name = name; labels = ls; value = value })
begun-line head name first value ls more x begun all is =
    ap (λ h. headed_line h first more value) (begun ∙ ap (λ l. sample_head name (first_key l)) (sym all)) ∙ ap (λ v. headed_line (sample_head name x.0) v more value) is ∙ headed-line name x more value
    ∙ ap (λ l. sample_line (record { name = name; labels = l; value = value })) all

-- the first label before the others
pub first-whole : (ls : List LabelParts) (x : LabelParts) → 1 ≤ length ls → x ≡ get_or ls 0 x → x ∷ take (length ls - 1) (drop 1 ls) ≡ ls
first-whole [] x some at = absurd (omega (arith, some))
first-whole (l ∷ ls) x some at =
    let rest : length (l ∷ ls) - 1 ≡ length ls = omega arith in
    ap (λ y. y ∷ take (length (l ∷ ls) - 1) ls) at ∙ ap (λ n. l ∷ take n ls) rest ∙ ap (λ t. l ∷ t) (take_all (length ls) ls (omega arith))

-- what is known of a text that may be there, by reference
pub shown-known : {A : Type 0} (f : A → List ℕ) (o : Option A) (s : Option (Bor (List ℕ))) (P : A → Type 0) (Q : Bor (List ℕ) → Type 0)
    → MatchOption o (s ≡ None) (λ x. IsSomeAnd s (λ y. y.now ≡ f x)) → ((x : A) (y : Bor (List ℕ)) → y.now ≡ f x → P x → Q y) → IfSome o P → IfSome s Q
shown-known f None s P Q h g p = subst (λ s. IfSome s Q) (sym h) tt
shown-known f (Some x) None P Q h g p = tt
shown-known f (Some x) (Some y) P Q h g p = g x y h p

-- a result that is both
pub either-way : {T E : Type 0} (P : T → Type 0) (Q : E → Type 0) (r : Result T E) → IfOk r P → IfErr r Q → MatchResult r P Q
either-way P Q (Ok t) p q = p
either-way P Q (Err e) p q = q

pub of-ok : {T E : Type 0} (r : Result T E) (P : T → Type 0) (Q : E → Type 0) → MatchResult r P Q → IfOk r P
of-ok (Ok t) P Q h = h
of-ok (Err e) P Q h = tt

-- what follows of an answer
pub with-first : {T E : Type 0} (r : Result T E) (P Q : T → Type 0) → ((t : T) → P t → Q t) → IfOk r P → IfOk r Q
with-first (Ok t) P Q f p = f t p
with-first (Err e) P Q f p = tt
