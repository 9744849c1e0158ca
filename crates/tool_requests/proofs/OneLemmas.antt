-- A line spells at most one request.
use Rattle.std.proofs.Common.{◌≡◌, ◌∙◌, ℕ, List, [], ◌∷◌, ◌++◌, codes, drop, refl, ap, sym, subst, arith}
use Rattle.std.specs.Prelude.{Some}
use Rattle.std.proofs.lemmas.Fmt.{decimal_injective}
use Rattle.metrics_names.specs.Names.{LabelParts, name_word}
use Rattle.metrics.specs.declared.handles.Update.{Update}
use Rattle.metrics.specs.declared.handles.Update.TheVariants.{Increment, Absolute, Add, Subtract, Set, Record}
use Rattle.metrics.specs.declared.calls.Call.{Call}
use Rattle.metrics.specs.declared.calls.Call.TheVariants as call
use Rattle.metrics_exposition.specs.Labels.{placed}
use Rattle.tool_grammar.specs.Cuts.{Lacks, StartsAt}
use Rattle.tool_grammar.specs.Grammar.{update_word, spelling as call_spelling}
use Rattle.tool_numbers.specs.Numerals.{IsAmount}
use Rattle.tool_numbers.proofs.AmountLemmas.{amount-lacks, amount-same}
use Rattle.tool_requests.specs.declared.dialect.Dialect.{Dialect}
use Rattle.tool_requests.specs.Places.{places_at}
use Rattle.tool_grammar.proofs.WordsLemmas.{before_same, first_same, lacks_literal, lacks_update}
use Rattle.tool_grammar.proofs.CallLemmas.{call_same, name_same}
use Rattle.tool_requests.specs.declared.requests.Request.{Request}
use Rattle.tool_requests.specs.declared.requests.Request.TheVariants.{Change, Describe, Scrape, Nothing}
use Rattle.tool_requests.specs.Lines.{Written, MayFollow, label_words, in_order, with_labels, label_of, Sentence, change, describe, scrape, scrape_by_clock, comment, empty}
use Rattle.tool_requests.specs.Lines.{spelling, CanBeSpelled, request_in, Spells, IsBegun}
use Rattle.tool_requests.specs.Names.{Renaming, renamed, Requests}
use Rattle.tool_requests.proofs.LabelLemmas.{label-same, starts-words}
use Rattle.tool_requests.proofs.SentenceLemmas.{lacks_name, first_word, behind_it, IsOther, cut, differs, no_describe, no_scrape}

-- ---- labels

words-same : (ws vs : List Written) (a b : List LabelParts) → MayFollow a ws → MayFollow b vs → label_words ws ≡ label_words vs → ws ≡ vs
words-same [] [] a b h g e = refl
words-same [] (v ∷ vs) a b h g e = absurd (cc)
words-same (w ∷ ws) [] a b h g e = absurd (cc)
words-same (w ∷ ws) (v ∷ vs) a b h g e =
    let same = label-same w v (label_words ws) (label_words vs) h.0 g.0 (starts-words ws) (starts-words vs) e in
    ap (λ z. z ∷ ws) same.0 ∙ ap (λ zs. v ∷ zs) (words-same ws vs (placed (label_of w) a) (placed (label_of v) b) h.3 g.3 same.1)

-- ---- descriptions

abbrev request_of : Call → Request
request_of (call.Describe kind name unit text) = Describe kind name unit text
request_of (call.Register kind key) = Nothing
request_of (call.Update h u) = Nothing
request_of (call.Snapshot b) = Nothing
request_of (call.SnapshotWith b reset) = Nothing

-- ---- lines

begun : (u : Update) (rest : List ℕ) → IsBegun (update_word u ++ rest)
begun (Increment n) rest = λ e. omega (arith, e)
begun (Absolute n) rest = λ e. omega (arith, e)
begun (Add n) rest = λ e. omega (arith, e)
begun (Subtract n) rest = λ e. omega (arith, e)
begun (Set n) rest = λ e. omega (arith, e)
begun (Record n) rest = λ e. omega (arith, e)

-- the first word of a sentence, and what follows it
parts : (s : Sentence) → IsOther s → Lacks 32 (first_word s) × StartsAt 32 (behind_it s) × IsBegun (first_word s ++ behind_it s)
    × (spelling s ≡ first_word s ++ behind_it s)
parts (change by amount name ws) o = (lacks_update by, refl, begun by _, refl)
parts (describe kind name unit text) o = (lacks_literal 32 (codes "describe") refl, refl, λ e. omega (arith, e), refl)
parts (scrape now) o = (lacks_literal 32 (codes "scrape") refl, refl, λ e. omega (arith, e), refl)
parts scrape_by_clock o = (lacks_literal 32 (codes "scrape") refl, tt, λ e. omega (arith, e), refl)
parts (comment text) o = absurd o
parts empty o = absurd o

-- ---- two sentences of one line, by the first

module _ (dialect : Dialect) where
  abbrev Same : Sentence → Sentence → Type 0
  Same s t = CanBeSpelled dialect s → CanBeSpelled dialect t → IsOther t × (first_word s ≡ first_word t) × (behind_it s ≡ behind_it t)
      → spelling s ≡ spelling t → request_in dialect.labels s ≡ request_in dialect.labels t

  by-first : (s t : Sentence) → IsOther s → Same s t
  by-first (change by amount name ws) (change u given n vs) other h g (o, w, b) e =
      let tail = ap (drop 1) b in
      let amounts = first_same 32 (amount ++ 32 ∷ (name_word name ++ label_words ws)) amount (name_word name ++ label_words ws)
      given (name_word n ++ label_words vs) (amount-lacks _ by amount h.0) (amount-lacks _ u given g.0) refl tail in
      let names = before_same 32 (name_word name) (name_word n) (label_words ws) (label_words vs) (lacks_name name h.1) (lacks_name n g.1)
      (starts-words ws) (starts-words vs) amounts.1 in
      let same = name_same name n (h.1.0.1, h.1.1, h.1.2) (g.1.0.1, g.1.1, g.1.2) names.0 in
      let spelled : IsAmount (places_at dialect.places n) by given = subst (IsAmount (places_at dialect.places n) by) amounts.0 (subst (λ (z : List ℕ). IsAmount (places_at dialect.places z) by amount) same h.0) in
      let updates = amount-same (places_at dialect.places n) by u given spelled g.0 w in
      let labels = words-same ws vs [] [] h.2 g.2 names.1 in
      λ i. Change (record { name = same i; labels = with_labels dialect.labels (in_order (labels i)) }) (updates i)
  by-first (change by amount name ws) (describe kind n unit text) other h g (o, w, b) e = absurd (no_describe by (sym w))
  by-first (change by amount name ws) (scrape now) other h g (o, w, b) e = absurd (no_scrape by (sym w))
  by-first (change by amount name ws) scrape_by_clock other h g (o, w, b) e = absurd (no_scrape by (sym w))
  by-first (change by amount name ws) (comment text) other h g (o, w, b) e = absurd o
  by-first (change by amount name ws) empty other h g (o, w, b) e = absurd o
  by-first (describe kind name unit text) (change u given n vs) other h g (o, w, b) e = absurd (no_describe u w)
  by-first (describe kind name unit text) (describe k n m x) other h g (o, w, b) e =
      ap request_of (call_same (call_spelling (call.Describe kind name unit text)) (call.Describe kind name unit text) (call.Describe k n m x)
      (((h.0.0.1, h.0.1, h.0.2), h.1.1), refl) (((g.0.0.1, g.0.1, g.0.2), g.1.1), e))
  by-first (describe kind name unit text) (scrape now) other h g (o, w, b) e = absurd (differs (sym w))
  by-first (describe kind name unit text) scrape_by_clock other h g (o, w, b) e = absurd (differs (sym w))
  by-first (describe kind name unit text) (comment more) other h g (o, w, b) e = absurd o
  by-first (describe kind name unit text) empty other h g (o, w, b) e = absurd o
  by-first (scrape now) (change u given n vs) other h g (o, w, b) e = absurd (no_scrape u w)
  by-first (scrape now) (describe k n m x) other h g (o, w, b) e = absurd (differs w)
  by-first (scrape now) (scrape n) other h g (o, w, b) e = ap (λ m. Scrape (Some m)) (decimal_injective now n h g (ap (drop 1) b))
  by-first (scrape now) scrape_by_clock other h g (o, w, b) e = absurd (cc)
  by-first (scrape now) (comment more) other h g (o, w, b) e = absurd o
  by-first (scrape now) empty other h g (o, w, b) e = absurd o
  by-first scrape_by_clock (change u given n vs) other h g (o, w, b) e = absurd (no_scrape u w)
  by-first scrape_by_clock (describe k n m x) other h g (o, w, b) e = absurd (differs w)
  by-first scrape_by_clock (scrape n) other h g (o, w, b) e = absurd (cc)
  by-first scrape_by_clock scrape_by_clock other h g (o, w, b) e = refl
  by-first scrape_by_clock (comment more) other h g (o, w, b) e = absurd o
  by-first scrape_by_clock empty other h g (o, w, b) e = absurd o
  by-first (comment text) t other h g both e = absurd other
  by-first empty t other h g both e = absurd other

  -- by the first, where it is neither a comment nor empty
  other-same : (s t : Sentence) → IsOther s → CanBeSpelled dialect s → CanBeSpelled dialect t → spelling s ≡ spelling t → request_in dialect.labels s ≡ request_in dialect.labels t
  other-same s t o h g e =
      let (lacks, starts, begins, is) = parts s o in
      by-first s t o h g (cut (first_word s) (behind_it s) lacks starts begins t (sym is ∙ e)) e

  sentences-same : (s t : Sentence) → CanBeSpelled dialect s → CanBeSpelled dialect t → spelling s ≡ spelling t → request_in dialect.labels s ≡ request_in dialect.labels t
  sentences-same (change by amount name ws) t h g e = other-same (change by amount name ws) t tt h g e
  sentences-same (describe kind name unit text) t h g e = other-same (describe kind name unit text) t tt h g e
  sentences-same (scrape now) t h g e = other-same (scrape now) t tt h g e
  sentences-same scrape_by_clock t h g e = other-same scrape_by_clock t tt h g e
  sentences-same (comment x) (change by amount name ws) h g e = sym (other-same (change by amount name ws) (comment x) tt g h (sym e))
  sentences-same (comment x) (describe kind name unit text) h g e = sym (other-same (describe kind name unit text) (comment x) tt g h (sym e))
  sentences-same (comment x) (scrape now) h g e = sym (other-same (scrape now) (comment x) tt g h (sym e))
  sentences-same (comment x) scrape_by_clock h g e = sym (other-same scrape_by_clock (comment x) tt g h (sym e))
  sentences-same (comment x) (comment y) h g e = refl
  sentences-same (comment x) empty h g e = refl
  sentences-same empty (change by amount name ws) h g e = sym (other-same (change by amount name ws) empty tt g h (sym e))
  sentences-same empty (describe kind name unit text) h g e = sym (other-same (describe kind name unit text) empty tt g h (sym e))
  sentences-same empty (scrape now) h g e = sym (other-same (scrape now) empty tt g h (sym e))
  sentences-same empty scrape_by_clock h g e = sym (other-same scrape_by_clock empty tt g h (sym e))
  sentences-same empty (comment y) h g e = refl
  sentences-same empty empty h g e = refl

  pub request_same : (line : List ℕ) (q r : Request) → Spells dialect line q → Spells dialect line r → q ≡ r
  request_same line q r (s, can, is, asks) (t, could, was, asked) =
      asks ∙ sentences-same s t can could (sym is ∙ was) ∙ sym asked

  pub asked_same : (new : Renaming) (line : List ℕ) (q r : Request) → Requests dialect new line q → Requests dialect new line r → q ≡ r
  asked_same new line q r (p, spells, is) (o, spelled, was) = is ∙ ap (renamed new) (request_same line p o spells spelled) ∙ sym was
