-- Calls of an exporter as answers to requests.
use Rattle.std.proofs.Common.{◌≡◌, ℕ, List, [], ◌∷◌, ◌++◌, ◌⊎◌, ◌↔◌, inl, inr, refl, sym, ap}
use Rattle.std.proofs.Common.{subst, Result, Ok, Err, None, MatchResult, OnErr}
use Rattle.metrics.specs.declared.error.Error.{Error}
use Rattle.metrics.specs.declared.error.Error.TheVariants.{Memory, CountFull}
use Rattle.metrics.specs.declared.handles.Update.{Update}
use Rattle.metrics_registry.specs.Idleness.{Answered}
use Rattle.metrics_names.specs.Names.{KeyParts}
use Rattle.metrics_exporter.specs.declared.exporter.Exporter.{Exporter}
use Rattle.metrics_exporter.specs.Exporting.{Setup, Log, Cells, updates, expires, steps, cells_after, series_of, IsExpiry, IsFull}
use Rattle.metrics_exporter.specs.Exporting.{HoldsSome, ChecksFront, checks_of}
use Rattle.metrics_exporter.specs.ExporterText.{IsText}
use Rattle.metrics_exporter.specs.Kept.{IsAfter}
use Rattle.metrics_exporter.proofs.LawLemmas.{holds-some}
use Rattle.tool_export.specs.declared.requests.Request.TheVariants.{Change, Scrape}
use Rattle.tool_export.specs.Exported.{scrape_text, report_text, Scrapes, Answers}

-- ---- an update

-- an update succeeds, or fails in one of two ways and then changes nothing
abbrev pub IsUpdateAnswer : Type 0 → Result (Unit {0}) Error → Type 0
IsUpdateAnswer Same r = MatchResult r (λ done. Unit {0}) (λ e. ((e ≡ Memory) ⊎ (e ≡ CountFull)) × Same)

pub by_answer : (P : Result (Unit {0}) Error → Type 0) → P (Ok tt) → P (Err CountFull) → P (Err Memory) → (Same : Type 0)
    → (r : Result (Unit {0}) Error) → IsUpdateAnswer Same r → P r
by_answer P done full want Same (Ok u) h = done
by_answer P done full want Same (Err e) (inl is, same) = subst (λ x. P (Err x)) (sym is) want
by_answer P done full want Same (Err e) (inr is, same) = subst (λ x. P (Err x)) (sym is) full

no_error : (r : Result (Unit {0}) Error) (e : Error) → r ≡ Ok tt → r ≡ Err e → ⊥
no_error r e done is = absurd (cc)

module _ (old new : Exporter) (key : KeyParts) (by : Update) where
  -- the clauses of an update that was answered so
  abbrev pub Calls : Result (Unit {0}) Error → Type 0
  Calls r = (setup : Setup) (log : Log) → IsAfter setup log old → IsAfter setup (log ++ updates key by r ∷ []) new

  abbrev pub Full : Result (Unit {0}) Error → Type 0
  Full r = (setup : Setup) (log : Log) → IsAfter setup log old → (r ≡ Err CountFull) ↔ IsFull (steps log) key by

  abbrev pub Absent : Result (Unit {0}) Error → Type 0
  Absent r = (setup : Setup) (log : Log) → IsAfter setup log old → r ≡ Err Memory
      → cells_after setup (steps log) (series_of key by) ≡ None

  abbrev pub Told : Result (Unit {0}) Error → Type 0
  Told r = Calls r → Full r → Absent r → Answers old new (Change key by) (report_text r)

  pub not_full : Full (Ok tt) → (setup : Setup) (log : Log) → IsAfter setup log old → IsFull (steps log) key by → ⊥
  not_full full setup log after is = no_error (Ok tt) CountFull refl ((full setup log after).1 is)

  told_done : Told (Ok tt)
  told_done calls full absent setup log after =
      (updates key by (Ok tt), calls setup log after, inl (inl (refl, refl, not_full full setup log after)))

  told_full : Told (Err CountFull)
  told_full calls full absent setup log after =
      (updates key by (Err CountFull), calls setup log after, inl (inr (refl, refl, (full setup log after).0 refl)))

  told_want : Told (Err Memory)
  told_want calls full absent setup log after =
      (updates key by (Err Memory), calls setup log after, inr (refl, refl, absent setup log after refl))

  pub told : (r : Result (Unit {0}) Error) → IsUpdateAnswer (new ≡ old) r → Told r
  told r h = by_answer Told told_done told_full told_want (new ≡ old) r h

-- ---- a scrape

pub scrape_shown : (old new : Exporter) (now : ℕ) {T : Type 0} (bytes : T → List ℕ) (shown : T) (series : List ℕ)
    → bytes shown ≡ series → Scrapes (λ cells t. IsText cells (bytes t)) old new now (Ok shown)
    → Answers old new (Scrape now) (scrape_text now series)
scrape_shown old new now bytes shown series same scraped setup log after =
    let (checks, answer, made, stands, (n, is, text)) = scraped setup log after in (
      expires now checks answer,
      stands,
      inl (
        checks,
        n,
        series,
        ap (expires now checks) is,
        subst (IsExpiry setup (steps log) now checks) is made,
        subst (IsText (cells_after setup (steps (log ++ expires now checks answer ∷ [])))) same text,
        refl,
      ),
    )

-- a scrape that failed, whatever it would have shown
abbrev pub ShowsNone : Exporter → Exporter → ℕ → Error → Type 0
ShowsNone old new now e = Scrapes {T = Unit {0}} (λ cells shown. Unit {0}) old new now (Err e)

pub scrape_wants : (old new : Exporter) (now : ℕ) (e : Error) → ShowsNone old new now e
    → Answers old new (Scrape now) (report_text (Err e))
scrape_wants old new now e scraped setup log after =
    let (checks, answer, made, stands, (is, held)) = scraped setup log after in
    (expires now checks answer, stands, inr (checks, answer, refl, made, ap (λ x. report_text (Err x)) is, held))

-- ---- an expiry, and what is shown after it

no_end : {T : Type 0} (xs : List T) (y : T) (ys : List T) → xs ++ y ∷ ys ≡ [] → ⊥
no_end [] y ys e = absurd (cc)
no_end (x ∷ xs) y ys e = absurd (cc)

-- an expiry that left a check undone found some series
front_holds : (cells : Cells) (now : ℕ) (answered : List (Answered KeyParts)) → ChecksFront cells now answered
    → HoldsSome cells
front_holds cells now answered ([], next, rest, series, are) = absurd (no_end (checks_of answered) next rest are)
front_holds cells now answered (k ∷ ks, next, rest, series, are) = holds-some cells (k, ks, series)

-- the clause of an expiry that was answered so
abbrev pub Expired : Exporter → Exporter → ℕ → Result ℕ Error → Type 0
Expired old new now answer = (setup : Setup) (log : Log) → IsAfter setup log old → (checks : List (Answered KeyParts))
    × IsExpiry setup (steps log) now checks answer × IsAfter setup (log ++ expires now checks answer ∷ []) new

module _ {T : Type 0} (IsShown : Cells → T → Type 0) (old new : Exporter) (now : ℕ) where
  shown_or_not : (answer : Result ℕ Error) (n : ℕ) (cells : Cells) (r : Result T Error) (Held : Type 0) → answer ≡ Ok n
      → MatchResult r (IsShown cells) (λ e. e ≡ Memory) → OnErr r Held
      → MatchResult r (λ t. (n : ℕ) × (answer ≡ Ok n) × IsShown cells t) (λ e. (e ≡ Memory) × Held)
  shown_or_not answer n cells (Ok t) Held is h held = (n, is, h)
  shown_or_not answer n cells (Err e) Held is h held = (h, held)

  pub shown_after : (n : ℕ) (r : Result T Error) → Expired old new now (Ok n)
      → ((setup : Setup) (log : Log) → IsAfter setup log new
      → MatchResult r (IsShown (cells_after setup (steps log))) (λ e. e ≡ Memory))
      → ((setup : Setup) (log : Log) → IsAfter setup log new → OnErr r (HoldsSome (cells_after setup (steps log))))
      → Scrapes IsShown old new now r
  shown_after n r expired shows held setup log after =
      let (checks, made, stands) = expired setup log after in
      let calls = log ++ expires now checks (Ok n) ∷ [] in
      (checks, Ok n, made, stands, shown_or_not (Ok n) n _ r _ refl (shows setup calls stands) (held setup calls stands))

pub none_shown : (old new : Exporter) (now : ℕ) (e : Error) → Expired old new now (Err e) → ShowsNone old new now e
none_shown old new now e expired setup log after =
    let (checks, made, stands) = expired setup log after in
    (checks, Err e, made, stands, (made.ended.1, front_holds _ now checks made.ended.0))
