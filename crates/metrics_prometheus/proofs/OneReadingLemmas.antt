-- A text has one list of samples at most: its line feeds determine its lines, and each line its sample.
use Rattle.std.proofs.Common.{◌≡◌, ◌≢◌, ◌∙◌, ℕ, true, false, not, List, [], ◌∷◌, ◌++◌, length, drop, get_or, is_some, refl, ap, sym, subst, append_assoc, arith}
use Rattle.std.specs.List.{All, AllByRecursion, flat_map, filter_map, cons_option}
use Rattle.std.proofs.lemmas.List.Elements.{recursion_from_All}
use Rattle.metrics_exposition.specs.Samples.{Sample}
use Rattle.metrics_prometheus.specs.Written.{Line, has, describes, tells_kind, leaves_out, line_text, sample_in, begins_comment, IsLine, IsReadable, HasSamples}
use Rattle.metrics_exposition.specs.Reading.{CanBeRead}
use Rattle.metrics_exposition.proofs.BackLemmas.{same-sample}

-- what comes before the first line feed
first-feed : (n m x y : List ℕ) → AllByRecursion (λ c. c ≢ 10) n → AllByRecursion (λ c. c ≢ 10) m → n ++ 10 ∷ x ≡ m ++ 10 ∷ y → (n ≡ m) × (x ≡ y)
first-feed [] [] x y hn hm e = (refl, ap (drop 1) e)
first-feed [] (d ∷ m) x y hn hm e = absurd (hm.0 (ap (λ l. get_or l 0 d) (sym e)))
first-feed (c ∷ n) [] x y hn hm e = absurd (hn.0 (ap (λ l. get_or l 0 c) e))
first-feed (c ∷ n) (d ∷ m) x y hn hm e =
    let rest = first-feed n m x y hn.1 hm.1 (ap (drop 1) e) in
    (ap (λ z. z ∷ n) (ap (λ l. get_or l 0 c) e) ∙ ap (λ l. d ∷ l) rest.0, rest.1)

pub same-first : (l k x y : List ℕ) → IsLine l → IsLine k → l ++ x ≡ k ++ y → (l ≡ k) × (x ≡ y)
same-first l k x y hl hk e =
    let there = ap (λ b. b ++ x) hl.is ∙ append_assoc hl.inside (10 ∷ []) x in
    let back = ap (λ b. b ++ y) hk.is ∙ append_assoc hk.inside (10 ∷ []) y in
    let h = first-feed hl.inside hk.inside x y hl.none hk.none (sym there ∙ e ∙ back) in
    (hl.is ∙ ap (λ b. b ++ 10 ∷ []) h.0 ∙ sym hk.is, h.1)

-- no line is empty
no-line : (k y : List ℕ) → IsLine k → [] ≡ k ++ y → ⊥
no-line k y hk e = empty hk.inside (e ∙ ap (λ b. b ++ y) hk.is ∙ append_assoc hk.inside (10 ∷ []) y)
  where
    empty : (n : List ℕ) → [] ≡ n ++ 10 ∷ y → ⊥
    empty [] e = absurd (let g : 0 ≡ 10 = ap (λ l. get_or l 0 0) e in omega (arith, g))
    empty (c ∷ n) e = absurd (let g : 0 ≡ length ((c ∷ n) ++ 10 ∷ y) = ap length e in omega (arith, g))

-- lines of one text both have a sample, or both have none
same-kind : (l k : Line) → IsReadable l → IsReadable k → line_text l ≡ line_text k → not (is_some (sample_in l)) ≡ not (is_some (sample_in k))
same-kind l k hl hk e = sym hl.comment ∙ ap begins_comment e ∙ hk.comment

never : false ≡ true → ⊥
never e = cc

abbrev AllRead : List Sample → Type 0
AllRead ss = AllByRecursion CanBeRead ss

-- a line, and the samples after it
same-more : (l k : Line) (xs ys : List Sample) → IsReadable l → IsReadable k → line_text l ≡ line_text k → AllRead (cons_option (sample_in l) xs) → AllRead (cons_option (sample_in k) ys) → xs ≡ ys
    → cons_option (sample_in l) xs ≡ cons_option (sample_in k) ys
same-more (has s) (has t) xs ys hl hk e cl ck rest = ap (λ z. z ∷ xs) (same-sample s t cl.0 ck.0 e) ∙ ap (λ zs. t ∷ zs) rest
same-more (has s) (tells_kind r) xs ys hl hk e cl ck rest = absurd (never (same-kind (has s) (tells_kind r) hl hk e))
same-more (has s) (leaves_out r why) xs ys hl hk e cl ck rest = absurd (never (same-kind (has s) (leaves_out r why) hl hk e))
same-more (tells_kind q) (has t) xs ys hl hk e cl ck rest = absurd (never (sym (same-kind (tells_kind q) (has t) hl hk e)))
same-more (leaves_out q because) (has t) xs ys hl hk e cl ck rest = absurd (never (sym (same-kind (leaves_out q because) (has t) hl hk e)))
same-more (has s) (describes n t) xs ys hl hk e cl ck rest = absurd (never (same-kind (has s) (describes n t) hl hk e))
same-more (describes n u) (has t) xs ys hl hk e cl ck rest = absurd (never (sym (same-kind (describes n u) (has t) hl hk e)))
same-more (describes n u) (describes m t) xs ys hl hk e cl ck rest = rest
same-more (describes n u) (tells_kind r) xs ys hl hk e cl ck rest = rest
same-more (describes n u) (leaves_out r why) xs ys hl hk e cl ck rest = rest
same-more (tells_kind q) (describes n u) xs ys hl hk e cl ck rest = rest
same-more (leaves_out q because) (describes n u) xs ys hl hk e cl ck rest = rest
same-more (tells_kind q) (tells_kind r) xs ys hl hk e cl ck rest = rest
same-more (tells_kind q) (leaves_out r why) xs ys hl hk e cl ck rest = rest
same-more (leaves_out q because) (tells_kind r) xs ys hl hk e cl ck rest = rest
same-more (leaves_out q because) (leaves_out r why) xs ys hl hk e cl ck rest = rest

read-behind : (l : Line) (xs : List Sample) → AllRead (cons_option (sample_in l) xs) → AllRead xs
read-behind (has s) xs h = h.1
read-behind (describes n t) xs h = h
read-behind (tells_kind r) xs h = h
read-behind (leaves_out r why) xs h = h

same-lines : (ls ks : List Line) → AllByRecursion IsReadable ls → AllByRecursion IsReadable ks → AllRead (filter_map sample_in ls) → AllRead (filter_map sample_in ks)
    → flat_map line_text ls ≡ flat_map line_text ks → filter_map sample_in ls ≡ filter_map sample_in ks
same-lines [] [] hl hk cl ck e = refl
same-lines [] (k ∷ ks) hl hk cl ck e = absurd (no-line (line_text k) (flat_map line_text ks) hk.0.ends e)
same-lines (l ∷ ls) [] hl hk cl ck e = absurd (no-line (line_text l) (flat_map line_text ls) hl.0.ends (sym e))
same-lines (l ∷ ls) (k ∷ ks) hl hk cl ck e =
    let h = same-first (line_text l) (line_text k) (flat_map line_text ls) (flat_map line_text ks) hl.0.ends hk.0.ends e in
    let xs = filter_map sample_in ls in
    let ys = filter_map sample_in ks in
    same-more l k xs ys hl.0 hk.0 h.0 cl ck (same-lines ls ks hl.1 hk.1 (read-behind l xs cl) (read-behind k ys ck) h.1)

pub one-reading : (text : List ℕ) (ss ts : List Sample) → HasSamples text ss → HasSamples text ts → All CanBeRead ss → All CanBeRead ts → ss ≡ ts
one-reading text ss ts hs ht cs ct =
    sym hs.samples_are ∙ same-lines hs.all ht.all hs.readable ht.readable (subst AllRead (sym hs.samples_are) (recursion_from_All CanBeRead ss cs)) (subst AllRead (sym ht.samples_are) (recursion_from_All CanBeRead ts ct)) (sym hs.text_is ∙ ht.text_is) ∙ ht.samples_are
