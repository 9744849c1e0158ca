-- Cells that show the same have one text.
use Rattle.std.proofs.Common.{◌≡◌, ◌∙◌, ℕ, suc, ◌+◌, List, [], ◌∷◌, ◌++◌, map, Contains, Option, None, Some, IsSome, refl, ap, sym, subst, arith}
use Rattle.std.specs.Prelude.{option_map, IsPermutation}
use Rattle.std.proofs.lemmas.Bool.{false≢true}
use Rattle.metrics_names.specs.Names.{SeriesKey}
use Rattle.metrics_exporter.specs.Exporting.{Cell, Cells, IsHeld}
use Rattle.metrics_descriptions.specs.Legends.{Legend}
use Rattle.metrics_exporter.specs.Gathering.{series_at}
use Rattle.metrics_exposition.specs.declared.naming.Naming.{Naming}
use Rattle.metrics_exposition.specs.Naming.{display_by, shown_name, shown_places}
use Rattle.metrics_prometheus.specs.Exposition.{Row, row_of, rows_text, row_lines, last_after, reading_at, IsScaled}
use Rattle.metrics.specs.Book.{Description}
use Rattle.tool_state.specs.Held.{SameReadings}

shown-held : (o : Option Cell) → IsSome o → IsSome (option_map (λ (c : Cell). c.reading) o)
shown-held None h = absurd (false≢true h)
shown-held (Some c) h = refl

held-shown : (o : Option Cell) → IsSome (option_map (λ (c : Cell). c.reading) o) → IsSome o
held-shown None h = absurd (false≢true h)
held-shown (Some c) h = refl

held-same : (a b : Cells) → SameReadings a b → (s : SeriesKey) → IsHeld a s → IsHeld b s
held-same a b same s held = held-shown (b s) (subst IsSome (same s) (shown-held (a s) held))

rows-same : (a b : Cells) → SameReadings a b → (all : List Row) (last : Option Row) (rows : List Row) → rows_text a all last rows ≡ rows_text b all last rows
rows-same a b same all last [] = refl
rows-same a b same all last (r ∷ rows) =
    ap (λ q. row_lines q all last r ++ rows_text a all (last_after all last r) rows) (same (series_at r.kind r.key))
    ∙ ap (λ l. row_lines (reading_at b r) all last r ++ l) (rows-same a b same all (last_after all last r) rows)

-- what a name is shown as follows from its description
display-same : (naming : Naming) (places : List ℕ → ℕ) (a b : Legend) (s : SeriesKey) → a s.kind s.key.name ≡ b s.kind s.key.name
    → row_of (display_by naming a places) s ≡ row_of (display_by naming b places) s
display-same naming places a b s e = ap row e
  where
    row : Description → Row
    row d = row_of (λ kind name. record { name = shown_name naming kind d.unit name; help = d.text; places = places name + shown_places naming d.unit }) s

each-same : (f g : SeriesKey → Row) (keys : List SeriesKey) → ((s : SeriesKey) → Contains keys s → f s ≡ g s) → map f keys ≡ map g keys
each-same f g [] h = refl
each-same f g (k ∷ keys) h =
    ap (λ r. r ∷ map f keys) (h k (0, omega arith, refl)) ∙ ap (λ l. g k ∷ l) (each-same f g keys (λ s there. h s (suc there.0, omega (arith, there.1), there.2)))

-- a text of cells is one of cells that show the same, with the same descriptions of their names
pub moved : (naming : Naming) (places : List ℕ → ℕ) (legend other : Legend) (a b : Cells) (text : List ℕ) → SameReadings a b
    → ((s : SeriesKey) → IsHeld b s → legend s.kind s.key.name ≡ other s.kind s.key.name)
    → IsScaled naming legend places a text → IsScaled naming other places b text
moved naming places legend other a b text same names is = record {
  rows = is.rows;
  all = record {
    keys = is.all.keys;
    once = is.all.once;
    held = λ s. ((λ there. held-same a b same s ((is.all.held s).0 there)), (λ held. (is.all.held s).1 (held-same b a back s held)));
    same = let P : List Row → Type 0 = λ l. IsPermutation l is.rows in
        subst P (each-same (row_of (display_by naming legend places)) (row_of (display_by naming other places)) is.all.keys
        (λ s there. display-same naming places legend other s (names s (held-same a b same s ((is.all.held s).0 there))))) is.all.same;
    ordered = is.all.ordered;
  };
  texts = λ s held. is.texts s (held-same b a back s held);
  is = is.is ∙ rows-same a b same is.rows None is.rows;
}
  where
    back : SameReadings b a
    back s = sym (same s)
