-- The lines of a text that begins with a line.
use Rattle.std.proofs.Common.{◌≡◌, ◌≢◌, ℕ, ◌<◌, List, [], ◌∷◌, ◌++◌, inl, inr, length, refl, ap, ◌∙◌, arith, append_assoc, append-nil, sym, Bool, true, false, not}
use Rattle.std.specs.Bool.{◌==◌, if◌then◌else◌}
use Rattle.std.specs.List.{AllByRecursion}
use Rattle.std.proofs.lemmas.List.Elements.{recursion_from_All}
use Rattle.tool_stream.specs.Lines.{onto, lines_of, ended, unlines, IsLine, IsEnded, onto_first, ended_lines, is_begun, is_cut}

is_not : (x : ℕ) → x ≢ 10 → (x == 10) ≡ false
is_not x ne = grind arith

lines_with : (l rest : List ℕ) → AllByRecursion (λ x. x ≢ 10) l → lines_of (l ++ 10 ∷ rest) ≡ l ∷ lines_of rest
lines_with [] rest h = refl
lines_with (x ∷ xs) rest h = rw (is_not x h.0) (ap (onto x) (lines_with xs rest h.1))

lines_alone : (x : ℕ) (l : List ℕ) → AllByRecursion (λ y. y ≢ 10) (x ∷ l) → lines_of (x ∷ l) ≡ (x ∷ l) ∷ []
lines_alone x [] h = rw (is_not x h.0)
lines_alone x (y ∷ ys) h = rw (is_not x h.0) (ap (onto x) (lines_alone y ys h.1))

pub lines-ended : (l rest : List ℕ) → IsLine l → lines_of (ended l ++ rest) ≡ l ∷ lines_of rest
lines-ended l rest h = ap lines_of (append_assoc l (10 ∷ []) rest) ∙ lines_with l rest (recursion_from_All _ l h)

pub lines-one : (l : List ℕ) → IsLine l → lines_of (ended l) ≡ l ∷ []
lines-one l h = lines_with l [] (recursion_from_All _ l h)

pub lines-last : (l : List ℕ) → IsLine l → 0 < length l → lines_of l ≡ l ∷ []
lines-last [] h p = absurd (omega arith)
lines-last (x ∷ l) h p = lines_alone x l (recursion_from_All _ (x ∷ l) h)

-- ---- the lines of a text, from its lines

-- a first line, with its line feed, and lines after it
abbrev IsEndedFirst : List ℕ → List ℕ → List ℕ → List (List ℕ) → Type 0
IsEndedFirst xs k l ls = (rest : List ℕ) × (xs ≡ ended k ++ rest) × (lines_of rest ≡ l ∷ ls)

one_more : (x : ℕ) (xs k l : List ℕ) (ls : List (List ℕ)) → ((m : List ℕ) → lines_of xs ≡ m ∷ (l ∷ ls) → IsEndedFirst xs m l ls) → lines_of (x ∷ xs) ≡ k ∷ (l ∷ ls) → IsEndedFirst (x ∷ xs) k l ls
one_more x xs k l ls shorter e = tested (x == 10) refl e
  where
    inside : (ms : List (List ℕ)) → lines_of xs ≡ ms → onto x ms ≡ k ∷ (l ∷ ls) → IsEndedFirst (x ∷ xs) k l ls
    inside [] are e = absurd (cc)
    inside (m ∷ ms) are e =
        let head : x ∷ m ≡ k = cc in
        let tail : ms ≡ l ∷ ls = cc in
        let (rest, whole, last) = shorter m (are ∙ ap (λ q. m ∷ q) tail) in
        (rest, ap (λ q. x ∷ q) whole ∙ ap (λ q. ended q ++ rest) head, last)

    tested : (b : Bool) → (x == 10) ≡ b → (if b then [] ∷ lines_of xs else onto x (lines_of xs)) ≡ k ∷ (l ∷ ls) → IsEndedFirst (x ∷ xs) k l ls
    tested true is e =
        let feed : x ≡ 10 = grind arith in
        let head : [] ≡ k = cc in
        let tail : lines_of xs ≡ l ∷ ls = cc in
        (xs, ap (λ y. y ∷ xs) feed ∙ ap (λ q. ended q ++ xs) head, tail)
    tested false is e = inside (lines_of xs) refl e

-- a line that isn't the last has its line feed
first_ended : (xs k l : List ℕ) (ls : List (List ℕ)) → lines_of xs ≡ k ∷ (l ∷ ls) → IsEndedFirst xs k l ls
first_ended [] k l ls e = absurd (cc)
first_ended (x ∷ xs) k l ls e = one_more x xs k l ls (λ m. first_ended xs m l ls) e

-- the lines before a line of a text, each with its line feed, begin the text
pub split_before : (ls : List (List ℕ)) (xs l : List ℕ) (more : List (List ℕ)) → lines_of xs ≡ ls ++ l ∷ more → (rest : List ℕ) × (xs ≡ unlines ls ++ rest) × (lines_of rest ≡ l ∷ more)
split_before [] xs l more e = (xs, refl, e)
split_before (k ∷ []) xs l more e =
    let (rest, whole, last) = first_ended xs k l more e in
    (rest, whole ∙ sym (append_assoc (ended k) [] rest), last)
split_before (k ∷ (j ∷ ls)) xs l more e =
    let (rest, whole, last) = first_ended xs k j (ls ++ l ∷ more) e in
    let (left, front, behind) = split_before (j ∷ ls) rest l more last in
    (left, whole ∙ ap (λ q. ended k ++ q) front ∙ sym (append_assoc (ended k) (unlines (j ∷ ls)) left), behind)

-- ---- the lines of a text that is cut

-- the lines of a text and a line feed precede those of whatever follows
abbrev HasCut : List ℕ → Type 0
HasCut xs = (l : List ℕ) × (ls : List (List ℕ)) × (lines_of (xs ++ 10 ∷ []) ≡ l ∷ ls) × ((ys : List ℕ) → lines_of (xs ++ 10 ∷ ys) ≡ (l ∷ ls) ++ lines_of ys)

has_cut : (xs : List ℕ) → HasCut xs
has_cut [] = ([], [], refl, λ ys. refl)
has_cut (x ∷ xs) = tested (x == 10) refl (has_cut xs)
  where
    tested : (b : Bool) → (x == 10) ≡ b → HasCut xs → HasCut (x ∷ xs)
    tested true is (l, ls, e, f) = ([], l ∷ ls, rw is (ap (λ k. [] ∷ k) e), λ ys. rw is (ap (λ k. [] ∷ k) (f ys)))
    tested false is (l, ls, e, f) = (x ∷ l, ls, rw is (ap (onto x) e), λ ys. rw is (ap (onto x) (f ys)))

pub lines-cut : (xs ys : List ℕ) → lines_of (xs ++ 10 ∷ ys) ≡ lines_of (xs ++ 10 ∷ []) ++ lines_of ys
lines-cut xs ys = let (l, ls, e, f) = has_cut xs in f ys ∙ ap (λ k. k ++ lines_of ys) (sym e)

-- the first line of a text begins as the text does
abbrev pub StartsWith : List ℕ → List ℕ → Type 0
StartsWith front xs = (l : List ℕ) × (ls : List (List ℕ)) × (lines_of xs ≡ (front ++ l) ∷ ls)

one_first : (x : ℕ) (ms : List (List ℕ)) → (l : List ℕ) × (ls : List (List ℕ)) × (onto x ms ≡ (x ∷ l) ∷ ls)
one_first x [] = ([], [], refl)
one_first x (m ∷ ms) = (m, ms, refl)

pub lines-front : (front ys : List ℕ) → AllByRecursion (λ x. x ≢ 10) front → 0 < length front → StartsWith front (front ++ ys)
lines-front [] ys h p = absurd (omega arith)
lines-front (x ∷ []) ys h p = let (l, ls, e) = one_first x (lines_of ys) in (l, ls, rw (is_not x h.0) e)
lines-front (x ∷ (y ∷ front)) ys h p = let (l, ls, e) = lines-front (y ∷ front) ys h.1 (omega arith) in (l, ls, rw (is_not x h.0) (ap (onto x) e))

-- ---- the lines of a text whose last one may lack its line feed

-- those before a line feed, and those after it
pub ended-cut : (xs ys : List ℕ) → ended_lines (xs ++ 10 ∷ ys) ≡ lines_of (xs ++ 10 ∷ []) ++ ended_lines ys
ended-cut [] ys = refl
ended-cut (x ∷ xs) ys = tested (x == 10) refl (ended-cut xs ys)
  where
    tested : (b : Bool) → (x == 10) ≡ b → ended_lines (xs ++ 10 ∷ ys) ≡ lines_of (xs ++ 10 ∷ []) ++ ended_lines ys
        → ended_lines ((x ∷ xs) ++ 10 ∷ ys) ≡ lines_of ((x ∷ xs) ++ 10 ∷ []) ++ ended_lines ys
    tested true is e = rw is (ap (λ k. [] ∷ k) e)
    tested false is e =
        let (l, ls, are, f) = has_cut xs in
        rw is (ap (onto_first x) (e ∙ ap (λ k. k ++ ended_lines ys) are) ∙ sym (ap (λ k. onto x k ++ ended_lines ys) are))

ended-none : (l : List ℕ) → AllByRecursion (λ x. x ≢ 10) l → ended_lines l ≡ []
ended-none [] h = refl
ended-none (x ∷ xs) h = rw (is_not x h.0) (ap (onto_first x) (ended-none xs h.1))

begun-cut : (b : Bool) (xs ys : List ℕ) → is_begun b (xs ++ 10 ∷ ys) ≡ is_begun false ys
begun-cut b [] ys = refl
begun-cut b (x ∷ xs) ys = begun-cut (not (x == 10)) xs ys

begun-line : (l : List ℕ) → AllByRecursion (λ x. x ≢ 10) l → is_begun true l ≡ true
begun-line [] h = refl
begun-line (x ∷ xs) h = rw (is_not x h.0) (begun-line xs h.1)

-- a last line that lacks its line feed is none of them
pub ended-left : (read left : List ℕ) → IsEnded read → IsLine left → ended_lines (read ++ left) ≡ lines_of read
ended-left read left (inl none) h =
    ap (λ k. ended_lines (k ++ left)) none ∙ ended-none left (recursion_from_All _ left h) ∙ ap lines_of (sym none)
ended-left read left (inr (front, is)) h =
    ap (λ k. ended_lines (k ++ left)) is ∙ ap ended_lines (append_assoc front (10 ∷ []) left) ∙ ended-cut front left
    ∙ ap (λ k. lines_of (ended front) ++ k) (ended-none left (recursion_from_All _ left h)) ∙ append-nil (lines_of (ended front)) ∙ ap lines_of (sym is)

cut-left : (read left : List ℕ) → IsEnded read → is_cut (read ++ left) ≡ is_cut left
cut-left read left (inl none) = ap (λ k. is_cut (k ++ left)) none
cut-left read left (inr (front, is)) =
    ap (λ k. is_cut (k ++ left)) is ∙ ap is_cut (append_assoc front (10 ∷ []) left) ∙ begun-cut false front left

pub cut-none : (read left : List ℕ) → IsEnded read → left ≡ [] → is_cut (read ++ left) ≡ false
cut-none read left h none = cut-left read left h ∙ ap is_cut none

pub cut-some : (read : List ℕ) (x : ℕ) (left : List ℕ) → IsEnded read → IsLine (x ∷ left) → is_cut (read ++ x ∷ left) ≡ true
cut-some read x left h line =
    let others = recursion_from_All _ (x ∷ left) line in
    cut-left read (x ∷ left) h ∙ ap (λ b. is_begun (not b) left) (is_not x others.0) ∙ begun-line left others.1

-- lines with their line feeds end with one
pub unlines_ended : (ls : List (List ℕ)) → IsEnded (unlines ls)
unlines_ended [] = inl refl
unlines_ended (l ∷ ls) = after (unlines_ended ls)
  where
    after : IsEnded (unlines ls) → IsEnded (unlines (l ∷ ls))
    after (inl none) = inr (l, ap (λ k. ended l ++ k) none ∙ append-nil (ended l))
    after (inr (front, is)) = inr (ended l ++ front, ap (λ k. ended l ++ k) is ∙ sym (append_assoc (ended l) front (10 ∷ [])))
