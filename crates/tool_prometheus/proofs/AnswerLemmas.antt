-- Calls of an exporter as answers to requests.
use Rattle.std.proofs.Common.{◌≡◌, ℕ, Bool, true, false, ◌||◌, if◌then◌else◌, List, [], ◌∷◌, ◌++◌, inl, inr, refl, sym, ap, append-nil, is_ok}
use Rattle.std.proofs.Common.{subst, Option, Some, Result, Ok, Err, MatchResult, OnErr, OnOk, IfErr}
use Rattle.metrics.specs.declared.error.Error.{Error}
use Rattle.metrics.specs.declared.error.Error.TheVariants.{Memory, CountFull}
use Rattle.metrics.specs.declared.handles.Update.{Update}
use Rattle.metrics_names.specs.Names.{KeyParts}
use Rattle.metrics_names.specs.declared.kind.MetricKind.{MetricKind}
use Rattle.metrics_names.specs.declared.common.Unit.{Unit as Measure}
use Rattle.metrics_exporter.specs.declared.exporter.Exporter.{Exporter}
use Rattle.metrics_exporter.specs.Exporting.{Setup, Log, updates_in, expires, steps, cells_after, series_of, IsExpiry, HoldsSome}
use Rattle.metrics_descriptions.specs.Legends.{DescribesName, SameLegend}
use Rattle.metrics_exporter.specs.Describing.{unit_told}
use Rattle.metrics_exporter.specs.Kept.{IsAfter, described}
use Rattle.tool_export.proofs.AnswerLemmas.{Full, Absent, Expired, IsUpdateAnswer, by_answer, none_shown, not_full}
use Rattle.tool_prometheus.specs.declared.answering.Served.{Served}
use Rattle.tool_requests.specs.declared.requests.Request.TheVariants.{Change, Describe, Scrape, Nothing}
use Rattle.tool_prometheus.specs.Asked.{nothing_asked}
use Rattle.tool_prometheus.specs.Limit.{IsBeyond, IsWithin}
use Rattle.tool_prometheus.specs.Strict.{leaves_out, noted}
use Rattle.tool_prometheus.specs.Own.{with_refusal}
use Rattle.tool_prometheus.specs.declared.counts.Counts.{Counts}
use Rattle.tool_prometheus.specs.Exposed.{fault_text, refusal_text, limit_text, shown_text, HasMoment, HandsOutShown, Answers, Shows, ShowsAt, ShowsEnd, UnlessTold}

module _ (old : Served) (exporter : Exporter) where
  -- another exporter, whether something changed, whether something failed, and what was counted
  abbrev pub with_exporter : Bool → Bool → Counts → Served
  with_exporter changed failed counts = record old { exporter = exporter; is_changed = changed; has_failed = failed; counts = counts }

  abbrev pub owed : Result (Unit {0}) Error → Bool
  owed r = is_ok r || old.is_changed

  abbrev pub failed : Result (Unit {0}) Error → Bool
  failed r = if is_ok r then old.has_failed else true

  abbrev pub counted : Result (Unit {0}) Error → Counts
  counted r = if is_ok r then old.counts else with_refusal old.counts

  -- ---- an update

  module _ (key : KeyParts) (by : Update) (same : described exporter ≡ described old.exporter) where
    -- there would not be too many series
    abbrev pub Within : Type 0
    Within = (setup : Setup) (log : Log) → IsAfter setup log old.exporter
        → IsWithin old.max_series (cells_after setup (steps log)) (series_of key by)

    -- the call, in the unit that the name has by its description, comes after those before it
    abbrev pub Made : Result (Unit {0}) Error → Type 0
    Made r = (setup : Setup) (log : Log) → IsAfter setup log old.exporter
        → IsAfter setup (log ++ updates_in (unit_told (described old.exporter) key by) key by r ∷ []) exporter

    abbrev pub Told : Result (Unit {0}) Error → Type 0
    Told r = Within → Made r → Full old.exporter exporter key by r → Absent old.exporter exporter key by r
        → Answers old (with_exporter (owed r) (failed r) (counted r)) (Change key by) nothing_asked (refusal_text old.has_file r)

    keeps : (changed broken : Bool) (counts : Counts)
        → SameLegend (described (with_exporter changed broken counts).exporter) (described old.exporter)
    keeps changed broken counts kind name = λ i. same i kind name

    told_done : Told (Ok tt)
    told_done within calls full absent = (
      (refl, refl, refl, refl, refl, refl, refl, refl, refl, refl),
      λ setup log after. (
        updates_in (unit_told (described old.exporter) key by) key by (Ok tt) ∷ [],
        calls setup log after,
        inl (keeps true old.has_failed old.counts, refl, refl, inl (refl, refl, not_full old.exporter exporter key by full setup log after, refl, refl, refl, within setup log after, refl)),
      ),
    )

    told_full : Told (Err CountFull)
    told_full within calls full absent = (
      (refl, refl, refl, refl, refl, refl, refl, refl, refl, refl),
      λ setup log after. (
        updates_in (unit_told (described old.exporter) key by) key by (Err CountFull) ∷ [],
        calls setup log after,
        inl (keeps old.is_changed true (with_refusal old.counts), refl, refl, inr (inl (refl, refl, (full setup log after).0 refl, refl, refl, refl, refl))),
      ),
    )

    told_want : Told (Err Memory)
    told_want within calls full absent = (
      (refl, refl, refl, refl, refl, refl, refl, refl, refl, refl),
      λ setup log after. (
        updates_in (unit_told (described old.exporter) key by) key by (Err Memory) ∷ [],
        calls setup log after,
        inr (keeps old.is_changed true (with_refusal old.counts), refl, refl, refl, refl, refl, refl, absent setup log after refl, refl, refl),
      ),
    )

    pub told : (r : Result (Unit {0}) Error) → IsUpdateAnswer (exporter ≡ old.exporter) r → Told r
    told r h = by_answer Told told_done told_full told_want (exporter ≡ old.exporter) r h

  -- ---- a description

  module _ (kind : MetricKind) (name : List ℕ) (unit : Option Measure) (note : List ℕ)
      (calls : (setup : Setup) (log : Log) → IsAfter setup log old.exporter → IsAfter setup log exporter) where
    stands : (setup : Setup) (log : Log) → IsAfter setup log old.exporter → IsAfter setup (log ++ []) exporter
    stands setup log after = subst (λ l. IsAfter setup l exporter) (sym (append-nil log)) (calls setup log after)

    pub described_told : (r : Result (Unit {0}) Error)
        → OnOk r (DescribesName kind name unit note (described old.exporter) (described exporter))
        → OnErr r ((k : MetricKind) (n : List ℕ) → described exporter k n ≡ described old.exporter k n)
        → IfErr r (λ e. e ≡ Memory)
        → Answers old (with_exporter (owed r) (failed r) (counted r)) (Describe kind name unit note) nothing_asked (refusal_text old.has_file r)
    described_told (Ok done) told same memory =
        ((refl, refl, refl, refl, refl, refl, refl, refl, refl, refl), λ setup log after. ([], stands setup log after, inl (told, refl, refl, refl, refl, refl, refl, refl, refl)))
    described_told (Err e) told same memory = (
      (refl, refl, refl, refl, refl, refl, refl, refl, refl, refl),
      λ setup log after. ([], stands setup log after, inr (same, refl, refl, ap (fault_text old.has_file) memory, refl, refl, refl, refl, refl)),
    )

  -- ---- a scrape

  -- with another exporter, after a scrape at this moment
  abbrev pub scraped_on : ℕ → Served
  scraped_on now = record old { exporter = exporter; last = Some now }

  pub scraped : {T : Type 0} (bytes : T → List ℕ) (moment : Option ℕ) (now : ℕ) (clock : List ℕ) (files : List (List ℕ))
      (new : Served) (r : Result T Error)
      → described exporter ≡ described old.exporter → HasMoment moment clock now
      → ShowsAt bytes old (scraped_on now) now r → HandsOutShown bytes (scraped_on now) r new files
      → Answers old new (Scrape moment) (record { clock = clock; files = files }) (shown_text bytes old.has_file r)
  scraped bytes moment now clock files new (Ok t) same at scrapes (done, out, is) =
      let on : Served = record (scraped_on now) {
        is_changed = false;
        has_failed = (if done then old.has_failed else true);
        has_bad = noted old.is_strict (leaves_out (bytes t)) old.has_bad;
      } in
      let answer : Answers old on (Scrape moment) (record { clock = clock; files = files }) (shown_text bytes old.has_file (Ok t)) = (
        (refl, refl, refl, refl, refl, refl, refl, refl, refl, refl),
        λ setup log after.
            let (checks, answered, made, stands, (n, ok, shown)) = scrapes setup log after in (
              expires now checks answered ∷ [],
              stands,
              inl (
                λ kind name i. same i kind name,
                (
                  now,
                  at,
                  checks,
                  n,
                  bytes t,
                  done,
                  ap (λ a. expires now checks a ∷ []) ok,
                  subst (IsExpiry setup (steps log) now checks) ok made,
                  shown,
                  refl,
                  out,
                  refl,
                  refl,
                  refl,
                  refl,
                  refl,
                ),
              ),
            ),
      ) in
      subst (λ z. Answers old z (Scrape moment) (record { clock = clock; files = files }) (shown_text bytes old.has_file (Ok t))) (sym is) answer
  scraped bytes moment now clock files new (Err e) same at scrapes (none, is) =
      let on : Served = record (scraped_on now) { counts = with_refusal old.counts; has_failed = true } in
      let answer : Answers old on (Scrape moment) (record { clock = clock; files = files }) (shown_text bytes old.has_file (Err e)) = (
        (refl, refl, refl, refl, refl, refl, refl, refl, refl, refl),
        λ setup log after.
            let (checks, answered, made, stands, (memory, held)) = scrapes setup log after in (
              expires now checks answered ∷ [],
              stands,
              inr (
                λ kind name i. same i kind name,
                ap (fault_text old.has_file) memory,
                refl,
                refl,
                refl,
                refl,
                (now, at, none, refl, checks, answered, refl, made, held),
              ),
            ),
      ) in
      subst (λ z. Answers old z (Scrape moment) (record { clock = clock; files = files }) (shown_text bytes old.has_file (Err e))) (sym is) answer

-- ---- an expiry, and what is shown after it

unless-told : (tells : Bool) (Known : Type 0) → Known → UnlessTold tells Known
unless-told true Known h = tt
unless-told false Known h = h

module _ {T : Type 0} (bytes : T → List ℕ) (old new : Served) (now : ℕ) where
  shown-or-not : (answer : Result ℕ Error) (n : ℕ) (setup : Setup) (log : Log) (r : Result T Error) (Held : Type 0) → answer ≡ Ok n
      → MatchResult r (λ t. Shows setup log new (bytes t)) (λ e. e ≡ Memory) → OnErr r Held
      → MatchResult r (λ t. (n : ℕ) × (answer ≡ Ok n) × Shows setup log new (bytes t)) (λ e. (e ≡ Memory) × Held)
  shown-or-not answer n setup log (Ok t) Held is h held = (n, is, h)
  shown-or-not answer n setup log (Err e) Held is h held = (h, held)

  pub shown-after : (n : ℕ) (r : Result T Error) → Expired old.exporter new.exporter now (Ok n)
      → ((setup : Setup) (log : Log) → IsAfter setup log new.exporter → MatchResult r (λ t. Shows setup log new (bytes t)) (λ e. e ≡ Memory))
      → ((setup : Setup) (log : Log) → IsAfter setup log new.exporter
      → OnErr r (UnlessTold old.tells_self (HoldsSome (cells_after setup (steps log)))))
      → ShowsAt bytes old new now r
  shown-after n r expired shows held setup log after =
      let (checks, made, stands) = expired setup log after in
      let calls = log ++ expires now checks (Ok n) ∷ [] in
      (checks, Ok n, made, stands, shown-or-not (Ok n) n setup calls r _ refl (shows setup calls stands) (held setup calls stands))

  pub none-after : (e : Error) → Expired old.exporter new.exporter now (Err e) → ShowsAt bytes old new now (Err e)
  none-after e expired setup log after =
      let (checks, answer, made, stands, (memory, held)) = none_shown old.exporter new.exporter now e expired setup log after in
      (checks, answer, made, stands, (memory, unless-told old.tells_self _ held))

-- ---- lines that are no request

pub nothing_told : (on : Served) → Answers on on Nothing nothing_asked []
nothing_told on = (
  (refl, refl, refl, refl, refl, refl, refl, refl, refl, refl),
  λ setup log after.
      ([], subst (λ l. IsAfter setup l on.exporter) (sym (append-nil log)) after, inl (refl, refl, refl, refl)),
)

-- ---- one series too many

-- there would be too many series
pub told_limit : (old : Served) (key : KeyParts) (by : Update)
    → ((setup : Setup) (log : Log) → IsAfter setup log old.exporter → IsBeyond old.max_series (cells_after setup (steps log)) (series_of key by))
    → Answers old (record old { counts = with_refusal old.counts; has_failed = true }) (Change key by) nothing_asked (limit_text old.has_file)
told_limit old key by beyond = (
  (refl, refl, refl, refl, refl, refl, refl, refl, refl, refl),
  λ setup log after. (
    [],
    subst (λ l. IsAfter setup l old.exporter) (sym (append-nil log)) after,
    inl (λ kind name. refl, refl, refl, inr (inr (refl, refl, beyond setup log after, refl, refl, refl, refl))),
  ),
)

-- ---- the end

pub end_shown : (on new : Served) (files : List (List ℕ)) {T : Type 0} (bytes : T → List ℕ) (r : Result T Error)
    → ((setup : Setup) (log : Log) → IsAfter setup log on.exporter
    → MatchResult r (λ t. Shows setup log on (bytes t)) (λ e. e ≡ Memory))
    → ((setup : Setup) (log : Log) → IsAfter setup log on.exporter → OnErr r (UnlessTold on.tells_self (HoldsSome (cells_after setup (steps log)))))
    → HandsOutShown bytes on r new files
    → ShowsEnd on new (record { clock = []; files = files }) (shown_text bytes on.has_file r)
end_shown on new files bytes (Ok t) text refused (done, out, is) setup log after =
    inl (bytes t, done, text setup log after, refl, out, ap (λ s. s.has_failed) is, ap (λ s. s.has_bad) is)
end_shown on new files bytes (Err e) text refused (none, is) setup log after =
    inr (ap (fault_text on.has_file) (text setup log after), ap (λ s. s.has_failed) is, ap (λ s. s.has_bad) is, refused setup log after)
