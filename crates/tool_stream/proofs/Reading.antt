-- A line that is read in parts.
use Rattle.std.proofs.Common.{◌≡◌, ◌≢◌, ℕ, List, [], ◌∷◌, ◌++◌, Option, Some, None, OnSome, Result, Ok, Err, sym, ap, subst, ◌∙◌, append_assoc, append-nil}
use Rattle.std.specs.Io.KnownBytes.{Consumes, IsAtEnd}
use Rattle.std.specs.Result.{IsErr}
use Rattle.std.proofs.KnownBytes.{Consumes-trans}
use Rattle.std.proofs.lemmas.List.Elements.{All-append}
use Rattle.tool_stream.specs.declared.stream.Fault.{Fault}
use Rattle.tool_stream.specs.declared.stream.Found.{Found}
use Rattle.tool_stream.specs.declared.stream.Found.TheVariants.{Line}
use Rattle.tool_stream.specs.declared.stream.Part.TheVariants.{Feed, More}
use Rattle.tool_stream.specs.Lines.{ended, IsLine, TakesPart, ReadsRest}

pub at_end_from : (a b c : Option (List ℕ)) (bs : List ℕ) → Consumes a b bs → OnSome b (IsAtEnd c) → OnSome a (IsAtEnd c)
at_end_from None b c bs p q = tt
at_end_from (Some x) None c bs p q = absurd p
at_end_from (Some x) (Some y) c bs p q = q

-- so much of a line was read
abbrev pub Reading : Option (List ℕ) → Option (List ℕ) → List ℕ → List ℕ → Type 0
Reading a b old now = (rest : List ℕ) × (now ≡ old ++ rest) × IsLine now × Consumes a b rest

-- what `rest_of_line` ensures
abbrev pub Ends : Option (List ℕ) → Option (List ℕ) → List ℕ → List ℕ → Result Found Fault → Type 0
Ends a c old new r = (rest : List ℕ) × (new ≡ old ++ rest) × ReadsRest a c new rest r

module _ (a b c : Option (List ℕ)) (old now after : List ℕ) (so : Reading a b old now) where
  pub rest_feed : TakesPart b c now after (Ok Feed) → Ends a c old after (Ok Line)
  rest_feed (part, e, line, took) =
      let (rest, is, before, taken) = so in (
        rest ++ part,
        e ∙ ap (λ k. k ++ part) is ∙ append_assoc old rest part,
        (subst IsLine (sym e) (All-append (λ x. x ≢ 10) now part before line), subst (Consumes a c) (sym (append_assoc rest part (10 ∷ []))) (Consumes-trans a b c rest (ended part) taken took)),
      )

  pub rest_more : TakesPart b c now after (Ok More) → Reading a c old after
  rest_more (part, e, line, took) =
      let (rest, is, before, taken) = so in (
        rest ++ part,
        e ∙ ap (λ k. k ++ part) is ∙ append_assoc old rest part,
        subst IsLine (sym e) (All-append (λ x. x ≢ 10) now part before line),
        Consumes-trans a b c rest part taken took,
      )

  same_rest : after ≡ now → Consumes b c [] → Reading a c old after
  same_rest e took =
      let (rest, is, before, taken) = so in
      (rest, e ∙ is, subst IsLine (sym e) before, subst (Consumes a c) (append-nil rest) (Consumes-trans a b c rest [] taken took))

  pub rest_err : (f g : Fault) → TakesPart b c now after (Err f) → Ends a c old after (Err g)
  rest_err f g (e, took) = let (rest, is, line, taken) = same_rest e took in (rest, is, (line, taken))

  pub rest_refused : (f : Fault) (r : Result Found Fault) → TakesPart b c now after (Err f) → IsErr r → Ends a c old after r
  rest_refused f (Ok found) took is_err = absurd (cc)
  rest_refused f (Err g) took is_err = rest_err f g took

pub rest_stop : (a b : Option (List ℕ)) (old now : List ℕ) (g : Fault) → Reading a b old now → Ends a b old now (Err g)
rest_stop a b old now g (rest, is, line, taken) = (rest, is, (line, taken))
