-- The lines of a text that say what it leaves out.
use Rattle.std.proofs.Common.{◌≡◌, ◌≢◌, ◌∙◌, ◌+◌, ◌<◌, ℕ, true, false, List, [], ◌∷◌, ◌++◌, codes, drop, length, get_or, Option, Some, None, MatchOption, refl, ap, sym, append_assoc, append-nil, arith}
use Rattle.std.specs.Prelude.{IfSome, flat_map, option_map}
use Rattle.std.specs.Borrow.{Bor}
use Rattle.std.specs.Str.Pattern.{FindsTextPrefix, FindsChar, SplitsAroundMatch}
use Rattle.std.proofs.lemmas.Str.Pattern.{split_parts}
use Rattle.std.specs.List.{AllByRecursion, filter_map, cons_option}
use Rattle.std.specs.Option.{option_to_list}
use Rattle.std.proofs.lemmas.List.{append_cancel_left, append_cancel_right, map-append, length-append, get_or_default}
use Rattle.metrics_prometheus.specs.Exposition.{left_out_words}
use Rattle.metrics_prometheus.specs.LeftOut.{SaysAt}
use Rattle.metrics_prometheus.specs.Rows.{names_shown}
use Rattle.metrics_prometheus.specs.Written.{Line, has, describes, tells_kind, leaves_out, line_text, left_out_in, IsLine, IsReadable, begins_comment}
use Rattle.metrics_exposition.proofs.PairLemmas.{each-places}
use Rattle.metrics_prometheus.proofs.OneReadingLemmas.{same-first}

abbrev start : List ℕ
start = codes "# left out: "

-- ---- one line

-- a line with that start, and one without it
module _ (line : List ℕ) where
  keyed-has : (l : Line) → IsReadable l → line_text l ≡ line ++ 10 ∷ [] → (words : List ℕ) → line ≡ start ++ words → Some words ≡ left_out_in l
  keyed-has (has s) h e words is = absurd (let g : true ≡ false = sym (ap begins_comment (e ∙ ap (λ b. b ++ 10 ∷ []) is)) ∙ h.comment in cc)
  keyed-has (describes n t) h e words is = absurd (let g : 72 ≡ 108 = ap (λ b. get_or b 2 0) (e ∙ ap (λ b. b ++ 10 ∷ []) is) in omega (arith, g))
  keyed-has (tells_kind r) h e words is = absurd (let g : 84 ≡ 108 = ap (λ b. get_or b 2 0) (e ∙ ap (λ b. b ++ 10 ∷ []) is) in omega (arith, g))
  keyed-has (leaves_out r why) h e words is =
      let same : words ++ 10 ∷ [] ≡ left_out_words r why ++ 10 ∷ [] = append_cancel_left start _ _ (sym (append_assoc start words (10 ∷ [])) ∙ sym (ap (λ b. b ++ 10 ∷ []) is) ∙ sym e) in
      ap (λ w. Some w) (append_cancel_right words (left_out_words r why) (10 ∷ []) same)

  keyed-none : (l : Line) → IsReadable l → line_text l ≡ line ++ 10 ∷ [] → ((rest : List ℕ) → line ≢ start ++ rest) → None ≡ left_out_in l
  keyed-none (has s) h e absent = refl
  keyed-none (describes n t) h e absent = refl
  keyed-none (tells_kind r) h e absent = refl
  keyed-none (leaves_out r why) h e absent =
      absurd (absent (left_out_words r why) (append_cancel_right line (start ++ left_out_words r why) (10 ∷ []) (sym e ∙ sym (append_assoc start (left_out_words r why) (10 ∷ [])))))

  pub keyed-line : (o : Option (Bor (List ℕ))) → MatchOption o ((rest : List ℕ) → line ≢ start ++ rest) (λ x. line ≡ start ++ x.now)
      → (l : Line) → IsReadable l → line_text l ≡ line ++ 10 ∷ [] → option_map (λ t. t.now) o ≡ left_out_in l
  keyed-line None absent l h e = keyed-none l h e absent
  keyed-line (Some x) is l h e = keyed-has l h e x.now is

-- the words of one line more, if there are some
pub keyed-more : (keyed next : List (Bor (List ℕ))) (o : Option (Bor (List ℕ))) (words : Option (List ℕ)) → next ≡ keyed ++ option_to_list o → option_map (λ t. t.now) o ≡ words
    → names_shown next ≡ names_shown keyed ++ option_to_list words
keyed-more keyed next o words is e = ap names_shown is ∙ map-append (λ (t : Bor (List ℕ)). t.now) keyed (option_to_list o) ∙ ap (λ l. names_shown keyed ++ l) (mapped o ∙ ap option_to_list e)
  where
    mapped : (o : Option (Bor (List ℕ))) → names_shown (option_to_list o) ≡ option_to_list (option_map (λ t. t.now) o)
    mapped None = refl
    mapped (Some x) = refl

-- ---- the lines in order

-- what is left of the lines of a text, after those that were listed
pub record IsLeft (lines : List Line) (keyed : List (Bor (List ℕ))) (rest : List ℕ) : Type 0 where
  pub left : List Line
  pub readable : AllByRecursion IsReadable left
  pub is : rest ≡ flat_map line_text left
  pub told_is : names_shown keyed ++ filter_map left_out_in left ≡ filter_map left_out_in lines

no-line : (line behind : List ℕ) → [] ≡ line ++ 10 ∷ behind → ⊥
no-line line behind e = absurd (let g : 0 ≡ length (line ++ 10 ∷ behind) = ap length e in omega (arith, g, length-append line (10 ∷ behind)))

listed : {A : Type 0} (o : Option A) (xs : List A) → option_to_list o ++ xs ≡ cons_option o xs
listed None xs = refl
listed (Some x) xs = refl

-- one line more
pub left-more : (lines : List Line) (keyed next : List (Bor (List ℕ))) (rest line behind : List ℕ) → rest ≡ line ++ 10 ∷ behind → ((i : ℕ) → i < length line → get_or line i 0 ≢ 10)
    → ((l : Line) → IsReadable l → line_text l ≡ line ++ 10 ∷ [] → names_shown next ≡ names_shown keyed ++ option_to_list (left_out_in l))
    → IsLeft lines keyed rest → IsLeft lines next behind
left-more lines keyed next rest line behind is none says t = go t.left t.readable t.is t.told_is
  where
    go : (left : List Line) → AllByRecursion IsReadable left → rest ≡ flat_map line_text left → names_shown keyed ++ filter_map left_out_in left ≡ filter_map left_out_in lines → IsLeft lines next behind
    go [] readable whole told_is = absurd (no-line line behind (sym whole ∙ is))
    go (l ∷ ls) readable whole told_is =
        let end : IsLine (line ++ 10 ∷ []) = record { inside = line; is = refl; none = each-places (λ c. c ≢ 10) line (λ j d small e. none j small (get_or_default line j 0 d small ∙ e)) } in
        let h = same-first (line_text l) (line ++ 10 ∷ []) (flat_map line_text ls) behind readable.0.ends end (sym whole ∙ is ∙ sym (append_assoc line (10 ∷ []) behind)) in
        let xs = filter_map left_out_in ls in
        record {
          left = ls;
          readable = readable.1;
          is = sym h.1;
          told_is = ap (λ n. n ++ xs) (says l readable.0 h.0) ∙ append_assoc (names_shown keyed) (option_to_list (left_out_in l)) xs ∙ ap (λ n. names_shown keyed ++ n) (listed (left_out_in l) xs) ∙ told_is;
        }

feed-there : (n y : List ℕ) → get_or (n ++ 10 ∷ y) (length n) 0 ≡ 10
feed-there [] y = refl
feed-there (c ∷ n) y = feed-there n y

-- and no more
pub left-none : (lines : List Line) (keyed : List (Bor (List ℕ))) (rest : List ℕ) → ((i : ℕ) → i < length rest → get_or rest i 0 ≢ 10) → IsLeft lines keyed rest → names_shown keyed ≡ filter_map left_out_in lines
left-none lines keyed rest none t = go t.left t.readable t.is t.told_is
  where
    go : (left : List Line) → AllByRecursion IsReadable left → rest ≡ flat_map line_text left → names_shown keyed ++ filter_map left_out_in left ≡ filter_map left_out_in lines → names_shown keyed ≡ filter_map left_out_in lines
    go [] readable whole told_is = sym (append-nil (names_shown keyed)) ∙ told_is
    go (l ∷ ls) readable whole told_is =
        let inside = readable.0.ends.inside in
        let behind = flat_map line_text ls in
        let is : rest ≡ inside ++ 10 ∷ behind = whole ∙ ap (λ b. b ++ behind) readable.0.ends.is ∙ append_assoc inside (10 ∷ []) behind in
        absurd (none (length inside) (let g : length rest ≡ length (inside ++ 10 ∷ behind) = ap length is in omega (arith, g, length-append inside (10 ∷ behind))) (ap (λ b. get_or b (length inside) 0) is ∙ feed-there inside behind))

-- what `strip_prefix` returns
pub strips : (front line : List ℕ) (o : Option (Bor (List ℕ)))
    → MatchOption o (FindsTextPrefix front line None) (λ x. (k : ℕ) × FindsTextPrefix front line (Some k) × (x.now ≡ drop k line) × (length x.now + k ≡ length line))
    → MatchOption o ((rest : List ℕ) → line ≢ front ++ rest) (λ x. line ≡ front ++ x.now)
strips front line None absent = absent
strips front line (Some x) (k, finds, is, long) = finds.1 ∙ ap (λ l. front ++ l) (sym is)

-- what `split_once` returns at a line feed, and if there is none
pub cut-here : (rest line behind : List ℕ) → SplitsAroundMatch (FindsChar 10) rest line behind → (rest ≡ line ++ 10 ∷ behind) × ((i : ℕ) → i < length line → get_or line i 0 ≢ 10)
cut-here rest line behind h =
    let text : List ℕ → Bor (List ℕ) = λ l. record { ref_ptr = (0, 0); now = l } in
    split_parts 10 rest (Some (text line, text behind)) h (omega arith)

pub cut-nowhere : (rest : List ℕ) → FindsChar 10 rest None → (i : ℕ) → i < length rest → get_or rest i 0 ≢ 10
cut-nowhere rest h = split_parts 10 rest None h (omega arith)

-- what the line at a place says
pub said-at : (text rest line behind : List ℕ) (place : ℕ) (o : Option (Bor (List ℕ))) → drop place text ≡ rest → rest ≡ line ++ 10 ∷ behind
    → MatchOption o ((words : List ℕ) → line ≢ start ++ words) (λ x. line ≡ start ++ x.now) → IfSome o (λ words. SaysAt text place words.now)
said-at text rest line behind place None there is absent = tt
said-at text rest line behind place (Some x) there is says = (behind, there ∙ is ∙ ap (λ l. l ++ 10 ∷ behind) says ∙ append_assoc start x.now (10 ∷ behind))
