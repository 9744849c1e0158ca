-- How far a run has come, and how it ends.
use Rattle.std.proofs.Common.{◌≡◌, ℕ, ◌+◌, ◌^◌, ◌<◌, Bool, true, false, OnOk, List, [], ◌∷◌, ◌++◌, length, Option, OnSome, Result, Ok, Err, Some, None, refl, sym, ap, subst, ◌∙◌, inl, inr, arith, append_assoc, append-nil}
use Rattle.std.specs.Io.KnownBytes.{Consumes, Appends, Keeps, IsAtEnd}
use Rattle.std.proofs.KnownBytes.{Consumes-nil, Consumes-trans, Appends-nil, Appends-trans, Appends-kept}
use Rattle.std.proofs.lemmas.Fn.{FoldsTo-push}
use Rattle.std.proofs.lemmas.Grind.{flat_map-append}
use Rattle.std.proofs.lemmas.List.{map-append, length_push}
use Rattle.std.proofs.lemmas.List.Elements.{All-nil}
use Rattle.tool_stream.specs.Lines.{lines_of, ended, unlines, IsLine, IsEnded}
use Rattle.tool_stream.specs.Waiting.{HandsOn, LosesSome, WritesBeside}
use Rattle.tool_stream.specs.Answering.{Answering, Dialogue, lines_in, texts_in, AreAnswered, IsFlushed, capped, AreFirst, IsCutShort, IsRun, IsLeft, AnswersLine, fault_at}
use Rattle.tool_stream.specs.declared.stream.Fault.{Fault}
use Rattle.tool_grammar.specs.declared.error.RunError.{RunError}
use Rattle.tool_grammar.specs.declared.error.RunError.TheVariants.{Memory, BadLine, Device}
use Rattle.tool_stream.proofs.LinesLemmas.{lines-ended, lines-one, lines-last, split_before, unlines_ended}
use Rattle.tool_stream.proofs.Reading.{at_end_from}
use Rattle.tool_stream.proofs.Handing.{on, behind, lost_on, lost_behind}

pub unlines_push : (ls : List (List ℕ)) (l : List ℕ) → unlines (ls ++ l ∷ []) ≡ unlines ls ++ ended l
unlines_push ls l = flat_map-append ended ls (l ∷ []) ∙ ap (λ z. unlines ls ++ z) (append-nil (ended l))

pub split_push : (ls : List (List ℕ)) (l : List ℕ) → IsLine l → ((rest : List ℕ) → lines_of (unlines ls ++ rest) ≡ ls ++ lines_of rest)
    → (rest : List ℕ) → lines_of (unlines (ls ++ l ∷ []) ++ rest) ≡ (ls ++ l ∷ []) ++ lines_of rest
split_push ls l h split rest =
    ap (λ z. lines_of (z ++ rest)) (unlines_push ls l)
    ∙ ap lines_of (append_assoc (unlines ls) (ended l) rest)
    ∙ split (ended l ++ rest)
    ∙ ap (λ z. ls ++ z) (lines-ended l rest h)
    ∙ sym (append_assoc ls (l ∷ []) (lines_of rest))

pub lines_push : (es : Dialogue) (l t : List ℕ) → lines_in (es ++ (l, t) ∷ []) ≡ lines_in es ++ l ∷ []
lines_push es l t = map-append (λ e. e.0) es ((l, t) ∷ [])

pub texts_push : (es : Dialogue) (l t : List ℕ) → texts_in (es ++ (l, t) ∷ []) ≡ texts_in es ++ t
texts_push es l t = flat_map-append (λ e. e.1) es ((l, t) ∷ []) ∙ ap (λ z. texts_in es ++ z) (append-nil t)

-- ---- what is left

-- nothing is left after whole lines
none_left : (takes : Bool) (read : List ℕ) (r : Result ℕ RunError) → IsEnded read → IsLeft takes read [] r
none_left true read r h = refl
none_left false read (Ok n) h = (h, All-nil _)
none_left false read (Err (BadLine k)) h = h
none_left false read (Err (Memory at)) h = tt
none_left false read (Err Device) h = tt

left_fault : (takes : Bool) (read : List ℕ) (number : ℕ) (fault : Fault) → IsLeft takes read [] (Err (fault_at number fault))
left_fault true read number fault = refl
left_fault false read number Fault.Memory = tt
left_fault false read number Fault.Device = tt

left_device : (takes : Bool) (read left : List ℕ) (r : Result ℕ RunError) → IsLeft takes read left r → IsLeft takes read left (Err Device)
left_device true read left r h = h
left_device false read left r h = tt

module _ {On Notes : Type 0} (R : Answering (On × Notes)) (Bad : On → List ℕ → Type 0) (takes : Bool) where
  -- these lines were read and answered; so much of the texts was written, and the rest waits
  pub record SoFar (a b x y : Option (List ℕ)) (waiting : List ℕ) (s t : On × Notes) (first count number : ℕ) : Type 0 where
    pub done : Dialogue
    pub out : List ℕ
    pub read : Consumes a b (unlines (lines_in done))
    pub split : (rest : List ℕ) → lines_of (unlines (lines_in done) ++ rest) ≡ lines_in done ++ lines_of rest
    pub texts : texts_in done ≡ out ++ waiting
    pub written : Appends x y out
    pub made : AreAnswered R s done t
    pub counted : count ≡ capped (length done)
    pub numbered : number ≡ capped (first + length done)

  -- a run that came to its end, where these texts still wait, and this line is left
  abbrev pub Finished : Option (List ℕ) → Option (List ℕ) → Option (List ℕ) → Option (List ℕ) → List ℕ → List ℕ → ℕ → On × Notes → On → Result ℕ RunError → Type 0
  Finished a b x y waiting line first s t r = (read : List ℕ) × (out : List ℕ) × (left : List ℕ) × Consumes a b (read ++ left) × Appends x y out
      × IsRun R Bad (OnSome a (IsAtEnd b)) first s t read (out ++ waiting) r × IsLeft takes read left r × OnOk r (line ≡ left)

  -- nothing is left
  whole : (a b x y : Option (List ℕ)) (waiting line : List ℕ) (first : ℕ) (s : On × Notes) (t : On) (r : Result ℕ RunError) (read out : List ℕ)
      → Consumes a b read → Appends x y out → IsRun R Bad (OnSome a (IsAtEnd b)) first s t read (out ++ waiting) r → IsLeft takes read [] r
      → OnOk r (line ≡ []) → Finished a b x y waiting line first s t r
  whole a b x y waiting line first s t r read out took wrote run left none =
      (read, out, [], subst (Consumes a b) (sym (append-nil read)) took, wrote, run, left, none)

  pub begin : (a x : Option (List ℕ)) (waiting : List ℕ) (s : On × Notes) (first : ℕ) → waiting ≡ [] → first < 2 ^ 64 → SoFar a a x x waiting s s first 0 first
  begin a x waiting s first none h = record {
    done = [];
    out = [];
    read = Consumes-nil a;
    split = λ rest. refl;
    texts = sym none;
    written = Appends-nil x;
    made = refl;
    counted = omega arith;
    numbered = omega arith;
  }

  made_push : (s t u : On × Notes) (es : Dialogue) (line text : List ℕ) → AreAnswered R s es t → R t line text u → AreAnswered R s (es ++ (line, text) ∷ []) u
  made_push s t u es line text made one = FoldsTo-push (λ p e q. R p e.0 e.1 q) s es t (line, text) u made one

  -- something that waited was written
  pub waited : (a b x y z : Option (List ℕ)) (waiting waits : List ℕ) (s t : On × Notes) (first count number : ℕ) → SoFar a b x y waiting s t first count number → HandsOn y z waiting waits → SoFar a b x z waits s t first count number
  waited a b x y z waiting waits s t first count number so h =
      let (o, is, wrote) = on x y z (texts_in so.done) so.out waiting waits so.texts so.written h in
      record { done = so.done; out = o; read = so.read; split = so.split; texts = is; written = wrote; made = so.made; counted = so.counted; numbered = so.numbered }

  module _ (a b c x y z : Option (List ℕ)) (waiting waits : List ℕ) (s t u : On × Notes) (first count number : ℕ) (line : List ℕ) (so : SoFar a b x y waiting s t first count number) where
    abbrev ls : List (List ℕ)
    ls = lines_in so.done

    -- one more line
    pub more : IsLine line → Consumes b c (ended line) → AnswersLine R Bad t u line y z waiting waits number (Ok tt) → SoFar a c x z waits s u first (capped (count + 1)) (capped (number + 1))
    more h r (text, one, hand) =
        let (o, is, wrote) = behind x y z (texts_in so.done) so.out waiting text waits so.texts so.written hand in
        record {
          done = so.done ++ (line, text) ∷ [];
          out = o;
          read = subst (Consumes a c) (sym (ap unlines (lines_push so.done line text) ∙ unlines_push ls line)) (Consumes-trans a b c _ _ so.read r);
          split = λ rest. ap (λ k. lines_of (unlines k ++ rest)) (lines_push so.done line text) ∙ split_push ls line h so.split rest ∙ ap (λ k. k ++ lines_of rest) (sym (lines_push so.done line text));
          texts = texts_push so.done line text ∙ is;
          written = wrote;
          made = made_push s t u so.done line text so.made one;
          counted = omega (arith, so.counted, length_push so.done (line, text));
          numbered = omega (arith, so.numbered, length_push so.done (line, text));
        }

    -- the end
    pub at_end : HandsOn y z waiting waits → Consumes b c [] → OnSome b (IsAtEnd c) → line ≡ [] → Finished a c x z waits line first s t.0 (Ok count)
    at_end hand r e none =
        let (o, is, wrote) = on x y z (texts_in so.done) so.out waiting waits so.texts so.written hand in
        let read = unlines ls ++ [] in
        whole a c x z waits line first s t.0 (Ok count) read o (Consumes-trans a b c _ _ so.read r) wrote
        (so.done, at_end_from a b c _ so.read e, so.split [] ∙ append-nil ls, (t.1, so.made), sym is, so.counted)
        (none_left takes read (Ok count) (subst IsEnded (sym (append-nil (unlines ls))) (unlines_ended ls))) none

    -- the last line, which has no line feed, and is left
    pub at_half : takes ≡ false → HandsOn y z waiting waits → IsLine line → Consumes b c line → OnSome b (IsAtEnd c) → Finished a c x z waits line first s t.0 (Ok count)
    at_half lacks hand h r e =
        let (o, is, wrote) = on x y z (texts_in so.done) so.out waiting waits so.texts so.written hand in (
          unlines ls,
          o,
          line,
          Consumes-trans a b c _ _ so.read r,
          wrote,
          (so.done, at_end_from a b c _ so.read e, ap lines_of (sym (append-nil (unlines ls))) ∙ so.split [] ∙ append-nil ls, (t.1, so.made), sym is, so.counted),
          subst (λ k. IsLeft k (unlines ls) line (Ok count)) (sym lacks) (unlines_ended ls, h),
          refl,
        )

    -- the last line, which has no line feed
    pub at_last : (after : List ℕ) → takes ≡ true → IsLine line → 0 < length line → Consumes b c line → OnSome b (IsAtEnd c) → AnswersLine R Bad t u line y z waiting waits number (Ok tt) → after ≡ [] → Finished a c x z waits after first s u.0 (Ok (capped (count + 1)))
    at_last after has h p r e (text, one, hand) none =
        let (o, is, wrote) = behind x y z (texts_in so.done) so.out waiting text waits so.texts so.written hand in
        let read = unlines ls ++ line in
        whole a c x z waits after first s u.0 (Ok (capped (count + 1))) read o (Consumes-trans a b c _ _ so.read r) wrote (
          so.done ++ (line, text) ∷ [],
          at_end_from a b c _ so.read e,
          so.split line ∙ ap (λ k. ls ++ k) (lines-last line h p) ∙ sym (lines_push so.done line text),
          (u.1, made_push s t u so.done line text so.made one),
          sym is ∙ sym (texts_push so.done line text),
          omega (arith, so.counted, length_push so.done (line, text)),
        )
        (subst (λ k. IsLeft k read [] (Ok (capped (count + 1)))) (sym has) refl) none

    -- a line that could not be read
    pub unread : (A : Type 0) (fault : Fault) → Consumes b c line → WritesBeside {A = A} y z waiting waits (Err fault) → Finished a c x z waits line first s t.0 (Err (fault_at number fault))
    unread A Fault.Memory r hand =
        let (o, is, wrote) = on x y z (texts_in so.done) so.out waiting waits so.texts so.written hand in
        let read = unlines ls ++ line in
        whole a c x z waits line first s t.0 (Err (fault_at number Fault.Memory)) read o (Consumes-trans a b c _ _ so.read r) wrote
        (so.done, inl (line, refl, so.split line), (t.1, so.made), sym is, so.numbered) (left_fault takes read number Fault.Memory) tt
    unread A Fault.Device r hand =
        let (o, lost, is, wrote) = lost_on x y z (texts_in so.done) so.out waiting waits so.texts so.written hand in
        let read = unlines ls ++ line in
        whole a c x z waits line first s t.0 (Err (fault_at number Fault.Device)) read o (Consumes-trans a b c _ _ so.read r) wrote
        (so.done, lost, inl (line, refl, so.split line), (t.1, so.made), is) (left_fault takes read number Fault.Device) tt

    -- how a line's answer can fail, for a line that is read as these bytes
    failed : (bytes : List ℕ) → lines_of bytes ≡ line ∷ [] → AreFirst (OnSome a (IsAtEnd c)) (unlines ls ++ bytes) (ls ++ line ∷ [])
        → Consumes b c bytes → (e : RunError) → IsLeft takes (unlines ls ++ bytes) [] (Err e) → AnswersLine R Bad t u line y z waiting waits number (Err e) → Finished a c x z waits line first s u.0 (Err e)
    failed bytes one first' r (BadLine k) left (bad, same, hand, is) =
        let (o, texts, wrote) = on x y z (texts_in so.done) so.out waiting waits so.texts so.written hand in
        whole a c x z waits line first s u.0 (Err (BadLine k)) (unlines ls ++ bytes) o (Consumes-trans a b c _ _ so.read r) wrote (
          so.done,
          line,
          first',
          so.split bytes ∙ ap (λ k. ls ++ k) one,
          subst (λ (w : On). Bad w line) (sym same) bad,
          (t.1, subst (λ (w : On). AreAnswered R s so.done (w, t.1)) (sym same) so.made),
          sym texts,
          is ∙ so.numbered,
        )
        left tt
    failed bytes one first' r (Memory (Some k)) left (same, hand, is) =
        let (o, texts, wrote) = on x y z (texts_in so.done) so.out waiting waits so.texts so.written hand in
        whole a c x z waits line first s u.0 (Err (Memory (Some k))) (unlines ls ++ bytes) o (Consumes-trans a b c _ _ so.read r) wrote
        (so.done, inl (bytes, refl, so.split bytes), (t.1, subst (λ (w : On). AreAnswered R s so.done (w, t.1)) (sym same) so.made), sym texts, is ∙ so.numbered)
        left tt
    failed bytes one first' r (Memory None) left (text, answer, hand) =
        let P : List (List ℕ) → Type 0 = λ k. AreFirst (OnSome a (IsAtEnd c)) (unlines ls ++ bytes) k in
        let (o, texts, wrote) = on x y z (texts_in so.done) so.out waiting waits so.texts so.written hand in
        whole a c x z waits line first s u.0 (Err (Memory None)) (unlines ls ++ bytes) o (Consumes-trans a b c _ _ so.read r) wrote (
          so.done ++ (line, text) ∷ [],
          text,
          subst P (sym (lines_push so.done line text)) first',
          (u.1, made_push s t u so.done line text so.made answer),
          texts_push so.done line text ∙ ap (λ k. k ++ text) texts,
        )
        left tt
    failed bytes one first' r Device left (text, answer, hand) =
        let P : List (List ℕ) → Type 0 = λ k. AreFirst (OnSome a (IsAtEnd c)) (unlines ls ++ bytes) k in
        let (o, lost, texts, wrote) = lost_behind x y z (texts_in so.done) so.out waiting text waits so.texts so.written hand in
        whole a c x z waits line first s u.0 (Err Device) (unlines ls ++ bytes) o (Consumes-trans a b c _ _ so.read r) wrote (
          so.done ++ (line, text) ∷ [],
          lost,
          subst P (sym (lines_push so.done line text)) first',
          (u.1, made_push s t u so.done line text so.made answer),
          texts_push so.done line text ∙ texts,
        )
        left tt

    pub failed_line : IsLine line → Consumes b c (ended line) → (e : RunError) → AnswersLine R Bad t u line y z waiting waits number (Err e) → Finished a c x z waits line first s u.0 (Err e)
    failed_line h r e ans =
        failed (ended line) (lines-one line h)
        (inl ([], sym (append-nil _ ∙ unlines_push ls line), ap (λ k. lines_of k) (sym (append-nil (unlines ls ++ ended line)) ∙ ap (λ k. k ++ []) (sym (unlines_push ls line))) ∙ split_push ls line h so.split []))
        r e (none_left takes _ (Err e) (inr (unlines ls ++ line, sym (append_assoc (unlines ls) line (10 ∷ []))))) ans

    pub failed_last : takes ≡ true → IsLine line → 0 < length line → Consumes b c line → OnSome b (IsAtEnd c) → (e : RunError) → AnswersLine R Bad t u line y z waiting waits number (Err e) → Finished a c x z waits line first s u.0 (Err e)
    failed_last has h p r e er ans =
        failed line (lines-last line h p)
        (inr (at_end_from a b c _ so.read e, so.split line ∙ ap (λ k. ls ++ k) (lines-last line h p)))
        r er (subst (λ k. IsLeft k (unlines ls ++ line) [] (Err er)) (sym has) refl) ans

  -- the loop stopped at its bound
  pub given_up : (a b x y : Option (List ℕ)) (waiting line : List ℕ) (s t : On × Notes) (first count number : ℕ) → SoFar a b x y waiting s t first count number → Finished a b x y waiting line first s t.0 (Err Device)
  given_up a b x y waiting line s t first count number so =
      let read = unlines (lines_in so.done) in
      whole a b x y waiting line first s t.0 (Err Device) read so.out so.read so.written (
        so.done,
        [],
        inl ([], sym (append-nil read), ap lines_of (sym (append-nil read)) ∙ so.split []),
        (t.1, so.made),
        so.texts ∙ sym (append-nil (so.out ++ waiting)),
      )
      (none_left takes read (Err Device) (unlines_ended (lines_in so.done))) tt

  -- ---- the end

  -- what a run ensures
  abbrev pub Run : Option (List ℕ) → Option (List ℕ) → Option (List ℕ) → Option (List ℕ) → List ℕ → ℕ → On × Notes → On → Result ℕ RunError → Type 0
  Run a b x y line first s t r = (read : List ℕ) × (text : List ℕ) × (left : List ℕ) × Consumes a b (read ++ left) × Appends x y text × IsRun R Bad (OnSome a (IsAtEnd b)) first s t read text r
      × IsLeft takes read left r × OnOk r (line ≡ left)

  -- the lines before a line are the first ones
  first_of_more : {at_end : Type 0} (read : List ℕ) (ls : List (List ℕ)) (bad : List ℕ) → lines_of read ≡ ls ++ bad ∷ [] → AreFirst at_end read ls
  first_of_more read ls bad e = let (rest, whole, last) = split_before ls read bad [] e in inl (rest, whole, e ∙ ap (λ l. ls ++ l) (sym last))

  -- a beginning of what was to be written
  cut : {at_end : Type 0} (first : ℕ) (s : On × Notes) (t : On) (read text begun rest : List ℕ) (r : Result ℕ RunError) → text ≡ begun ++ rest → IsRun R Bad at_end first s t read text r → IsCutShort R at_end s t read begun
  cut first s t read text begun rest (Ok n) e (es, at, lines, made, is, count) = (es, rest, inr (at, lines), made, sym is ∙ e)
  cut first s t read text begun rest (Err (BadLine k)) e (es, bad, at, lines, is_bad, made, is, count) = (es, rest, first_of_more read (lines_in es) bad lines, made, sym is ∙ e)
  cut first s t read text begun rest (Err (Memory (Some k))) e (es, at, made, is, count) = (es, rest, at, made, sym is ∙ e)
  cut first s t read text begun rest (Err (Memory None)) e (es, more, at, made, is) = (es, rest ++ more, at, made, is ∙ ap (λ k. k ++ more) e ∙ append_assoc begun rest more)
  cut first s t read text begun rest (Err Device) e (es, more, at, made, is) = (es, rest ++ more, at, made, is ∙ ap (λ k. k ++ more) e ∙ append_assoc begun rest more)

  -- what waited was written
  pub written : (a b x y z : Option (List ℕ)) (waiting waits line : List ℕ) (s : On × Notes) (t : On) (first : ℕ) (r : Result ℕ RunError) → Finished a b x y waiting line first s t r → waits ≡ [] → HandsOn y z waiting waits → Run a b x z line first s t r
  written a b x y z waiting waits line s t first r (read, out, left, took, wrote, run, ends, is_line) none (front, is, wrote') =
      let all : waiting ≡ front = is ∙ ap (λ k. front ++ k) none ∙ append-nil front in
      (read, out ++ waiting, left, took, subst (λ k. Appends x z (out ++ k)) (sym all) (Appends-trans x y z out front wrote wrote'), run, ends, is_line)

  -- or the writer failed
  pub broken : (a b x y z : Option (List ℕ)) (waiting waits line : List ℕ) (s : On × Notes) (t : On) (first : ℕ) (r : Result ℕ RunError) → Finished a b x y waiting line first s t r → LosesSome y z waiting waits → Run a b x z line first s t (Err Device)
  broken a b x y z waiting waits line s t first r (read, out, left, took, wrote, run, ends, is_line) (front, lost, is, wrote') =
      (read, out ++ front, left, took, Appends-trans x y z out front wrote wrote', cut first s t read (out ++ waiting) (out ++ front) (waits ++ lost) r (ap (λ k. out ++ k) is ∙ sym (append_assoc out front (waits ++ lost))) run, left_device takes read left r ends, tt)

  unflushed : (a b x y z : Option (List ℕ)) (line : List ℕ) (s : On × Notes) (t : On) (first : ℕ) (r : Result ℕ RunError) → Run a b x y line first s t r → Keeps y z → Run a b x z line first s t (Err Device)
  unflushed a b x y z line s t first r (read, text, left, took, w, run, ends, is_line) k = (read, text, left, took, Appends-kept x y z text w k, cut first s t read text text [] r (sym (append-nil text)) run, left_device takes read left r ends, tt)

  kept : (a b x y z : Option (List ℕ)) (line : List ℕ) (s : On × Notes) (t : On) (first : ℕ) (r : Result ℕ RunError) → Run a b x y line first s t r → Keeps y z → Run a b x z line first s t r
  kept a b x y z line s t first r (read, text, left, took, w, run, ends, is_line) k = (read, text, left, took, Appends-kept x y z text w k, run, ends, is_line)

  -- after a flush
  pub flushed : (a b x y z : Option (List ℕ)) (line : List ℕ) (s : On × Notes) (t : On) (first : ℕ) (r q : Result ℕ RunError) → IsFlushed r q → Run a b x y line first s t r → Keeps y z → Run a b x z line first s t q
  flushed a b x y z line s t first r q (inl e) h k = rw e (kept a b x y z line s t first r h k)
  flushed a b x y z line s t first r q (inr (whole, e)) h k = rw e (unflushed a b x y z line s t first r h k)

-- nothing is left where a last line without a line feed is answered
pub all_read : {On Notes : Type 0} (R : Answering (On × Notes)) (Bad : On → List ℕ → Type 0) (a b x y : Option (List ℕ)) (line : List ℕ) (first : ℕ) (s : On × Notes) (t : On) (r : Result ℕ RunError)
    → Run R Bad true a b x y line first s t r
    → (read : List ℕ) × (text : List ℕ) × Consumes a b read × Appends x y text × IsRun R Bad (OnSome a (IsAtEnd b)) first s t read text r
all_read R Bad a b x y line first s t r (read, text, left, took, wrote, run, none, is_line) =
    (read, text, subst (Consumes a b) (ap (λ k. read ++ k) none ∙ append-nil read) took, wrote, run)
