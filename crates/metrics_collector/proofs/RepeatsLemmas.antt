-- The lines of series that come again, row by row.
use Rattle.std.proofs.Common.{◌≡◌, ◌∙◌, ℕ, ◌+◌, ◌<◌, true, false, cond, List, [], ◌∷◌, ◌++◌, length, get_or, take, drop, ap, sym, append_assoc}
use Rattle.std.proofs.lemmas.List.{at_drop_more, take_more}
use Rattle.std.specs.List.{list_any}
use Rattle.metrics_prometheus.specs.Repeated.{repeated_line}
use Rattle.metrics_collector.specs.declared.gathered.GatheredSeries.{GatheredSeries}
use Rattle.metrics_collector.specs.Gathering.{keyed_gathered}
use Rattle.metrics_collector.specs.Merging.{are_same}
use Rattle.metrics_collector.specs.Repeats.{line_after, repeated_lines}

-- the line of the next row, and those of the rows after it
pub lines-more : (rows : List GatheredSeries) (i : ℕ) (d : GatheredSeries) → i < length rows
    → repeated_lines (take i rows) (drop i rows) ≡ line_after (take i rows) (get_or rows i d) ++ repeated_lines (take (i + 1) rows) (drop (i + 1) rows)
lines-more rows i d small =
    at_drop_more (λ rest. repeated_lines (take i rows) rest) rows i d small
    ∙ ap (λ before. line_after (take i rows) (get_or rows i d) ++ repeated_lines before (drop (i + 1) rows)) (sym (take_more rows i d small))

-- ---- a row's line

pub line-when : (before : List GatheredSeries) (row : GatheredSeries) → list_any (are_same row) before ≡ true → line_after before row ≡ repeated_line (keyed_gathered row).0
line-when before row there = ap (λ b. cond b (repeated_line (keyed_gathered row).0) []) there

pub no-line : (before : List GatheredSeries) (row : GatheredSeries) → list_any (are_same row) before ≡ false → line_after before row ≡ []
no-line before row none = ap (λ b. cond b (repeated_line (keyed_gathered row).0) []) none

-- the text after one row more
pub next : (text all done : List ℕ) (rows : List GatheredSeries) (i : ℕ) (row : GatheredSeries) → i < length rows → row ≡ get_or rows i row → all ≡ text ++ line_after (take i rows) row
    → text ++ repeated_lines (take i rows) (drop i rows) ≡ done → all ++ repeated_lines (take (i + 1) rows) (drop (i + 1) rows) ≡ done
next text all done rows i row small at is was =
    let rest = repeated_lines (take (i + 1) rows) (drop (i + 1) rows) in
    ap (λ b. b ++ rest) is
    ∙ append_assoc text (line_after (take i rows) row) rest
    ∙ ap (λ (r : GatheredSeries). text ++ (line_after (take i rows) r ++ rest)) at
    ∙ ap (λ l. text ++ l) (sym (lines-more rows i row small))
    ∙ was
