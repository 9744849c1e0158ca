-- A run over the same bytes, at the same moments of the clock, has one text.
use Rattle.std.proofs.Common.{if◌then◌else◌, ◌≡◌, ◌∙◌, ℕ, Bool, true, false, List, [], ◌∷◌, ◌++◌, inl, inr, refl, sym, ap, subst, Ok, Option, None, Some, append_assoc}
use Rattle.std.proofs.lemmas.Bool.{false≢true}
use Rattle.std.specs.Prelude.{option_map}
use Rattle.std.specs.List.{AllByRecursion}
use Rattle.metrics_names.specs.Names.{KeyParts}
use Rattle.metrics_names.specs.declared.kind.MetricKind.{MetricKind}
use Rattle.metrics_names.specs.declared.common.Unit.{Unit as Measure}
use Rattle.metrics.specs.declared.handles.Update.{Update}
use Rattle.metrics.specs.Book.{kind_of}
use Rattle.metrics_registry.specs.Idleness.{Answered}
use Rattle.metrics_exporter.specs.Exporting.{Setup, Step, expires, steps, cells_after, IsExpiry}
use Rattle.tool_prometheus.specs.Making.{setup_for}
use Rattle.tool_prometheus.specs.declared.commands.Options.{Options}
use Rattle.tool_requests.specs.declared.requests.Request.{Request}
use Rattle.tool_requests.specs.declared.requests.Request.TheVariants.{Change, Describe, Scrape, Nothing}
use Rattle.tool_requests.specs.Lines.{Spells, IsBad}
use Rattle.tool_requests.specs.Places.{front_of}
use Rattle.tool_prometheus.specs.Strict.{respells, leaves_out, noted}
use Rattle.tool_prometheus.specs.Asked.{Asked, then_asked, clock_gave}
use Rattle.tool_prometheus.specs.Exposed.{scrape_text, HasMoment, HandsOut}
use Rattle.tool_prometheus.specs.declared.timing.Timer.{Timer}
use Rattle.tool_prometheus.specs.Timing.{Timed, Starts, in_time, restarted}
use Rattle.tool_prometheus.specs.Output.{Done, begun, places_shown, loses_line, lines_in, own_done, PrintsExposition, Prints, PrintsEach, PrintsInTime, TakesLine, PrintsEnd, PrintLines}
use Rattle.tool_prometheus.specs.Serving.{Start}
use Rattle.tool_prometheus.specs.Output.{IsOutput, NamesMoments}
use Rattle.tool_requests.specs.Names.{renamed, change_if, describe_if, named_key}
use Rattle.tool_prometheus.specs.Names.{name_by}
use Rattle.tool_prometheus.specs.Own.{with_line}
use Rattle.tool_requests.proofs.OneLemmas.{asked_same}
use Rattle.tool_prometheus.proofs.OwnLemmas.{OneExposition, shown-same}

-- an expiry makes one list of checks
abbrev pub OneExpiry : Type 0
OneExpiry = (setup : Setup) (before : List Step) (now : ℕ) (a b : List (Answered KeyParts)) (n m : ℕ)
    → IsExpiry setup before now a (Ok n) → IsExpiry setup before now b (Ok m) → (a ≡ b) × (n ≡ m)

-- ---- the clock

-- neither read the clock
unread : (r s p q : List ℕ) → r ≡ [] → s ≡ [] → r ++ p ≡ s ++ q → p ≡ q
unread r s p q none nor e = sym (ap (λ z. z ++ p) none) ∙ e ∙ ap (λ z. z ++ q) nor

firsts : (x y : ℕ) (p q : List ℕ) → x ∷ p ≡ y ∷ q → (p ≡ q) × (x ≡ y)
firsts x y p q e = (cc, cc)

moment-same : (moment : Option ℕ) (r s p q : List ℕ) (x y : ℕ) → HasMoment moment r x → HasMoment moment s y → r ++ p ≡ s ++ q
    → (p ≡ q) × (x ≡ y) × (r ≡ s)
moment-same (Some now) r s p q x y (none, is) (nor, was) e = (unread r s p q none nor e, is ∙ sym was, none ∙ sym nor)
moment-same None r s p q x y is was e =
    let (rest, moments) = firsts x y p q (sym (ap (λ z. z ++ p) is) ∙ e ∙ ap (λ z. z ++ q) was) in
    (rest, moments, is ∙ ap (λ z. z ∷ []) moments ∙ sym was)

-- the clocks of two parts, and what follows them
joined : (r own later s had last : Asked) (p q : List ℕ) → r ≡ then_asked own later → s ≡ then_asked had last → r.clock ++ p ≡ s.clock ++ q
    → own.clock ++ (later.clock ++ p) ≡ had.clock ++ (last.clock ++ q)
joined r own later s had last p q is was e = sym (append_assoc own.clock later.clock p) ∙ sym (ap (λ a. a.clock ++ p) is) ∙ e
    ∙ ap (λ a. a.clock ++ q) was ∙ append_assoc had.clock last.clock q

timed-same : (timer : Option Timer) (request : Request) (r s : Asked) (rs qs : List Request) (after other : Option Timer) (p q : List ℕ)
    → Timed timer request r rs after → Timed timer request s qs other → r.clock ++ p ≡ s.clock ++ q
    → (p ≡ q) × (r ≡ s) × (rs ≡ qs) × (after ≡ other)
timed-same None request r s rs qs after other p q (none, is, at) (nor, was, to) e =
    (unread r.clock s.clock p q (ap (λ x. x.clock) none) (ap (λ x. x.clock) nor) e, none ∙ sym nor, is ∙ sym was, at ∙ sym to)
timed-same (Some timer) request r s rs qs after other p q (x, gave, is, at) (y, given, was, to) e =
    let (rest, moments) = firsts x y p q (sym (ap (λ z. z.clock ++ p) gave) ∙ e ∙ ap (λ z. z.clock ++ q) given) in (
      rest,
      gave ∙ ap clock_gave moments ∙ sym given,
      is ∙ ap (λ m. in_time timer m request) moments ∙ sym was,
      at ∙ ap (λ m. Some (restarted timer m request)) moments ∙ sym to,
    )

starts-same : (period : Option ℕ) (r s : Asked) (timer other : Option Timer) (p q : List ℕ) → Starts period r timer
    → Starts period s other → r.clock ++ p ≡ s.clock ++ q → (p ≡ q) × (r ≡ s) × (timer ≡ other)
starts-same None r s timer other p q (none, at) (nor, to) e =
    (unread r.clock s.clock p q (ap (λ x. x.clock) none) (ap (λ x. x.clock) nor) e, none ∙ sym nor, at ∙ sym to)
starts-same (Some period) r s timer other p q (x, gave, at) (y, given, to) e =
    let (rest, moments) = firsts x y p q (sym (ap (λ z. z.clock ++ p) gave) ∙ e ∙ ap (λ z. z.clock ++ q) given) in (
      rest,
      gave ∙ ap clock_gave moments ∙ sym given,
      at ∙ ap (λ m. Some (record { period = period; last = m })) moments ∙ sym to,
    )

-- ---- the file

handed-same : (has_file : Bool) (shown : List ℕ) (f g : List (List ℕ)) → HandsOut has_file shown true f
    → HandsOut has_file shown true g → f ≡ g
handed-same true shown f g is was = is ∙ sym was
handed-same false shown f g (done, is) (made, was) = is ∙ sym was

both : (a b : Asked) → a.clock ≡ b.clock → a.files ≡ b.files → a ≡ b
both a b clock files = λ i. record { clock = clock i; files = files i }

-- the clocks of two parts
parts : (p q own later had last : Asked) → p ≡ then_asked own later → q ≡ then_asked had last → p.clock ≡ q.clock
    → own.clock ++ later.clock ≡ had.clock ++ last.clock
parts p q own later had last is was e = sym (ap (λ a. a.clock) is) ∙ e ∙ ap (λ a. a.clock) was

module _ (one : OneExposition) (expiry : OneExpiry) (options : Options) where
  -- ---- one request

  exposition-same : (done : Done) (f g : List (List ℕ)) (shown other a b : List ℕ) → PrintsExposition options done f shown a
      → PrintsExposition options done g other b → (shown ≡ other) × (f ≡ g) × (a ≡ b)
  exposition-same done f g shown other a b (is, prints, out) (was, printed, given) =
      let same : shown ≡ other = shown-same one options.tells_self (own_done options done) options.naming done.legend (places_shown options)
      (cells_after (setup_for options) (steps done.calls)) shown other is was in (
        same,
        handed-same options.has_file other f g (subst (λ z. HandsOut options.has_file z true f) same out) given,
        prints ∙ ap (scrape_text options.has_file) same ∙ sym printed,
      )

  pub prints-same : (old : Done) (request : Request) (r s : Asked) (p q : List ℕ) (new other : Done) (a b : List ℕ)
      → Prints options old request r a new → Prints options old request s b other → r.clock ++ p ≡ s.clock ++ q
      → (p ≡ q) × (new ≡ other) × (r ≡ s) × (a ≡ b)
  prints-same old (Change key by) r s p q new other a b (none, free, text, within, is) (nor, fits, said, inside, was) e =
      (unread r.clock s.clock p q (ap (λ x. x.clock) none) (ap (λ x. x.clock) nor) e, is ∙ sym was, none ∙ sym nor, text ∙ sym said)
  prints-same old (Describe kind name unit note) r s p q new other a b (none, text, is) (nor, said, was) e =
      (unread r.clock s.clock p q (ap (λ x. x.clock) none) (ap (λ x. x.clock) nor) e, is ∙ sym was, none ∙ sym nor, text ∙ sym said)
  prints-same old (Scrape moment) r s p q new other a b (x, at, checks, n, shown, made, is, prints) (y, by, others, m, show, ran, was, printed) e =
      let (rest, moments, clocks) = moment-same moment r.clock s.clock p q x y at by e in
      let checked = expiry (setup_for options) (steps old.calls) y checks others n m
      (subst (λ z. IsExpiry (setup_for options) (steps old.calls) z checks (Ok n)) moments made) ran in
      let events : expires x checks (Ok n) ≡ expires y others (Ok m) =
      λ i. expires (moments i) (checked.0 i) (Ok (checked.1 i)) in
      let after : Done = record old { calls = old.calls ++ expires y others (Ok m) ∷ []; is_changed = false; last = Some y } in
      let same : record old { calls = old.calls ++ expires x checks (Ok n) ∷ []; is_changed = false; last = Some x } ≡ after =
      λ i. record old { calls = old.calls ++ events i ∷ []; is_changed = false; last = Some (moments i) } in
      let first : PrintsExposition options after r.files shown a =
      subst (λ d. PrintsExposition options d r.files shown a) same (subst (λ d. PrintsExposition options d r.files shown a) is prints) in
      let (shows, files, texts) = exposition-same after r.files s.files shown show a b first
      (subst (λ d. PrintsExposition options d s.files show b) was printed) in
      let news : new ≡ other =
      is
      ∙ (λ i. record old {
        calls = old.calls ++ events i ∷ [];
        is_changed = false;
        has_bad = noted options.is_strict (leaves_out (shows i)) old.has_bad;
        last = Some (moments i);
      })
      ∙ sym was in
      (rest, news, both r s clocks files, texts)
  prints-same old Nothing r s p q new other a b (none, text, is) (nor, said, was) e =
      (unread r.clock s.clock p q (ap (λ x. x.clock) none) (ap (λ x. x.clock) nor) e, is ∙ sym was, none ∙ sym nor, text ∙ sym said)

  -- ---- lines

  end-same : (done : Done) (p q : Asked) (a b : List ℕ) (x y : Bool) → PrintsEnd options done p a x → PrintsEnd options done q b y
      → (p ≡ q) × (a ≡ b) × (x ≡ y)
  end-same done p q a b x y (none, inl (is, (shown, prints, bad))) (nor, inl (was, (show, printed, worse))) =
      let (shows, files, texts) = exposition-same done p.files q.files shown show a b prints printed in
      (both p q (none ∙ sym nor) files, texts, bad ∙ ap (λ t. noted options.is_strict (leaves_out t) done.has_bad) shows ∙ sym worse)
  end-same done p q a b x y (none, inl (is, shown)) (nor, inr (was, file, said, worse)) = absurd (false≢true (sym was ∙ is))
  end-same done p q a b x y (none, inr (is, files, text, bad)) (nor, inl (was, show)) = absurd (false≢true (sym is ∙ was))
  end-same done p q a b x y (none, inr (is, files, text, bad)) (nor, inr (was, file, said, worse)) =
      (both p q (none ∙ sym nor) (files ∙ sym file), text ∙ sym said, bad ∙ sym worse)

  each-same : (old : Done) (rs : List Request) (r s : Asked) (p q : List ℕ) (new other : Done) (a b : List ℕ)
      → PrintsEach options old rs r a new → PrintsEach options old rs s b other → r.clock ++ p ≡ s.clock ++ q
      → (p ≡ q) × (new ≡ other) × (r ≡ s) × (a ≡ b)
  each-same old [] r s p q new other a b (is, none, text) (was, nor, said) e =
      (unread r.clock s.clock p q (ap (λ x. x.clock) none) (ap (λ x. x.clock) nor) e, is ∙ sym was, none ∙ sym nor, text ∙ sym said)
  each-same old (x ∷ xs) r s p q new other a b (between, own, later, part, rest, prints, each, deeds, text)
      (midst, had, last, piece, more, printed, all, done_so, said) e =
      let (after, news, firsts_same, pieces) = prints-same old x own had (later.clock ++ p) (last.clock ++ q) between midst part piece prints printed
      (joined r own later s had last p q deeds done_so e) in
      let (ends, others, laters, texts) = each-same midst xs later last p q new other rest more
      (subst (λ d. PrintsEach options d xs later rest new) news each) all after in
      (ends, others, deeds ∙ (λ i. then_asked (firsts_same i) (laters i)) ∙ sym done_so, text ∙ (λ i. pieces i ++ texts i) ∙ sym said)

  in-time-same : (old : Done) (request : Request) (r s : Asked) (p q : List ℕ) (new other : Done) (a b : List ℕ)
      → PrintsInTime options old request r a new → PrintsInTime options old request s b other → r.clock ++ p ≡ s.clock ++ q
      → (p ≡ q) × (new ≡ other) × (r ≡ s) × (a ≡ b)
  in-time-same old request r s p q new other a b (first, later, rs, after, timed, each, deeds) (had, last, qs, to, ran, all, done_so) e =
      let (rest, firsts_same, requests, timers) = timed-same old.timer request first had rs qs after to (later.clock ++ p) (last.clock ++ q) timed ran
      (joined r first later s had last p q deeds done_so e) in
      let there = subst (λ t. PrintsEach options (record old { timer = t }) qs later a new) timers
      (subst (λ z. PrintsEach options (record old { timer = after }) z later a new) requests each) in
      let (ends, news, laters, texts) = each-same (record old { timer = to }) qs later last p q new other a b there all rest in
      (ends, news, deeds ∙ (λ i. then_asked (firsts_same i) (laters i)) ∙ sym done_so, texts)

  takes-same : (old : Done) (line : List ℕ) (request wanted : Request) (new other : Done) → TakesLine options old line request new
      → TakesLine options old line wanted other → (request ≡ wanted) × (new ≡ other)
  takes-same old line request wanted new other (inl (spells, is)) (inl (spelled, was)) =
      let same = asked_same options.dialect (name_by options) line request wanted spells spelled in (
        same,
        is
            ∙ ap (λ r. record old { counts = with_line old.counts; has_bad = noted options.is_strict (respells (front_of options.prefix) r) old.has_bad }) same
            ∙ sym was,
      )
  takes-same old line request wanted new other (inl (spells, is)) (inr (skips, bad, none, was)) =
      absurd (bad spells.1.0 spells.1.1 spells.1.2)
  takes-same old line request wanted new other (inr (skips, bad, none, is)) (inl (spells, was)) =
      absurd (bad spells.1.0 spells.1.1 spells.1.2)
  takes-same old line request wanted new other (inr (skips, bad, none, is)) (inr (skipped, worse, nor, was)) =
      (none ∙ sym nor, is ∙ sym was)

  -- a line that ends the run asks for nothing
  taken-good : (old : Done) (line : List ℕ) (request : Request) (new : Done) → TakesLine options old line request new
      → options.skips_bad ≡ false → IsBad options.dialect line → ⊥
  taken-good old line request new (inl (spells, is)) ends bad = bad spells.1.0 spells.1.1 spells.1.2
  taken-good old line request new (inr (skips, was, none, is)) ends bad = false≢true (sym ends ∙ skips)

  lines-same : (done : Done) (ls : List (List ℕ)) (p q : Asked) (a b : List ℕ) (s t : ℕ) → PrintLines options done ls p a s
      → PrintLines options done ls q b t → p.clock ≡ q.clock → (p ≡ q) × (a ≡ b) × (s ≡ t)
  lines-same done [] p q a b s t (x, h, is) (y, g, was) e =
      let (asked, texts, bad) = end-same done p q a b x y h g in (asked, texts, is ∙ ap (λ b. if b then 3 else 0) bad ∙ sym was)
  lines-same done (l ∷ ls) p q a b s t (inl (request, taken, new, own, later, part, others, takes, prints, rest, deeds, text))
      (inl (wanted, held, next, had, last, piece, more, took, printed, left, done_so, said)) e =
      let (same, begins) = takes-same done l request wanted taken held takes took in
      let there = subst (λ d. PrintsInTime options d wanted own part new) begins (subst (λ z. PrintsInTime options taken z own part new) same prints) in
      let (after, news, firsts_same, pieces) = in-time-same held wanted own had later.clock last.clock new next part piece there printed
      (parts p q own later had last deeds done_so e) in
      let (laters, texts, status) = lines-same next ls later last others more s t
      (subst (λ d. PrintLines options d ls later others s) news rest) left after in
      (deeds ∙ (λ i. then_asked (firsts_same i) (laters i)) ∙ sym done_so, text ∙ (λ i. pieces i ++ texts i) ∙ sym said, status)
  lines-same done (l ∷ ls) p q a b s t (inl (request, taken, new, own, later, part, others, takes, prints, rest, deeds, text))
      (inr (ends, bad, none, empty, status)) e = absurd (taken-good done l request taken takes ends bad)
  lines-same done (l ∷ ls) p q a b s t (inr (ends, bad, none, empty, status))
      (inl (request, taken, new, own, later, part, others, takes, prints, rest, deeds, text)) e =
      absurd (taken-good done l request taken takes ends bad)
  lines-same done (l ∷ ls) p q a b s t (inr (ends, bad, none, empty, status)) (inr (ended, worse, nor, nothing, number)) e =
      (none ∙ sym nor, empty ∙ sym nothing, status ∙ sym number)

  pub output-same : (begin : Start) (bytes : List ℕ) (p q : Asked) (a b : List ℕ) (s t : ℕ) → IsOutput options begin bytes p a s
      → IsOutput options begin bytes q b t → p.clock ≡ q.clock → (p ≡ q) × (a ≡ b) × (s ≡ t)
  output-same begin bytes p q a b s t (first, later, timer, starts, prints, deeds) (had, last, other, started, printed, done_so) e =
      let loses = loses_line options.accepts_partial bytes in
      let lines = lines_in options.accepts_partial bytes in
      let (rest, firsts_same, timers) = starts-same options.every first had timer other later.clock last.clock starts started
      (parts p q first later had last deeds done_so e) in
      let (laters, texts, status) = lines-same (begun begin loses other) lines later last a b s t
      (subst (λ z. PrintLines options (begun begin loses z) lines later a s) timers prints) printed rest in
      (deeds ∙ (λ i. then_asked (firsts_same i) (laters i)) ∙ sym done_so, texts, status)

-- ---- inputs that do not ask the clock

module _ (options : Options) where
  no-moment : (old : Done) (request : Request) (r : Asked) (new : Done) (a : List ℕ) → (request ≡ Scrape None → ⊥)
      → Prints options old request r a new → r.clock ≡ []
  no-moment old (Change key by) r new a own h = ap (λ x. x.clock) h.0
  no-moment old (Describe kind name unit note) r new a own h = ap (λ x. x.clock) h.0
  no-moment old (Scrape (Some now)) r new a own h = h.1.0
  no-moment old (Scrape None) r new a own h = absurd (own refl)
  no-moment old Nothing r new a own h = ap (λ x. x.clock) h.0

  -- a renamed request asks for a moment of the clock only if the line does
  no-change : (by : Update) (key : Option KeyParts) → change_if by key ≡ Scrape None → ⊥
  no-change by None e = absurd (cc)
  no-change by (Some key) e = absurd (cc)

  no-description : (kind : MetricKind) (unit : Option Measure) (note : List ℕ) (name : Option (List ℕ)) → describe_if kind unit note name ≡ Scrape None → ⊥
  no-description kind unit note None e = absurd (cc)
  no-description kind unit note (Some name) e = absurd (cc)

  scrape-named : (request : Request) → renamed (name_by options) request ≡ Scrape None → request ≡ Scrape None
  scrape-named (Change key by) e = absurd (no-change by (option_map (named_key key.labels) (name_by options (kind_of by) key.name)) e)
  scrape-named (Describe kind name unit note) e = absurd (no-description kind unit note (name_by options kind name) e)
  scrape-named (Scrape moment) e = e
  scrape-named Nothing e = e

  prints-timer : (old : Done) (request : Request) (r : Asked) (new : Done) (a : List ℕ) → Prints options old request r a new
      → new.timer ≡ old.timer
  prints-timer old (Change key by) r new a h = ap (λ d. d.timer) h.4
  prints-timer old (Describe kind name unit note) r new a h = ap (λ d. d.timer) h.2
  prints-timer old (Scrape moment) r new a h = ap (λ d. d.timer) h.6
  prints-timer old Nothing r new a h = ap (λ d. d.timer) h.2

  no-moment-of-one : (old : Done) (request : Request) (r : Asked) (new : Done) (a : List ℕ) → (request ≡ Scrape None → ⊥)
      → PrintsEach options old (request ∷ []) r a new → (r.clock ≡ []) × (new.timer ≡ old.timer)
  no-moment-of-one old request r new a own (between, first, later, part, rest, prints, (is, none, text), deeds, all) = (
    ap (λ x. x.clock) deeds ∙ ap (λ z. z ++ later.clock) (no-moment old request first between part own prints) ∙ ap (λ x. x.clock) none,
    ap (λ d. d.timer) is ∙ prints-timer old request first between part prints,
  )

  no-moment-in-time : (old : Done) (request : Request) (r : Asked) (new : Done) (a : List ℕ) → old.timer ≡ None
      → (request ≡ Scrape None → ⊥) → PrintsInTime options old request r a new → (r.clock ≡ []) × (new.timer ≡ None)
  no-moment-in-time old request r new a untimed own (first, later, rs, after, timed, each, deeds) =
      let (none, is, at) = subst (λ t. Timed t request first rs after) untimed timed in
      let (silent, kept) = no-moment-of-one (record old { timer = after }) request later new a own
      (subst (λ z. PrintsEach options (record old { timer = after }) z later a new) is each) in
      (ap (λ x. x.clock) deeds ∙ ap (λ z. z.clock ++ later.clock) none ∙ silent, kept ∙ at)

  nothing-else : Nothing ≡ Scrape None → ⊥
  nothing-else e = absurd (cc)

  no-moment-taken : (old : Done) (line : List ℕ) (request : Request) (new : Done) → (Spells options.dialect line (Scrape None) → ⊥)
      → TakesLine options old line request new → (new.timer ≡ old.timer) × (request ≡ Scrape None → ⊥)
  no-moment-taken old line request new own (inl ((spelled, of_line, is), same)) =
      (ap (λ d. d.timer) same, λ e. own (subst (Spells options.dialect line) (scrape-named spelled (sym is ∙ e)) of_line))
  no-moment-taken old line request new own (inr (skips, bad, none, same)) =
      (ap (λ d. d.timer) same, λ e. nothing-else (sym none ∙ e))

  no-moments : (done : Done) (ls : List (List ℕ)) (p : Asked) (a : List ℕ) (s : ℕ) → done.timer ≡ None
      → AllByRecursion (λ line. Spells options.dialect line (Scrape None) → ⊥) ls → PrintLines options done ls p a s → p.clock ≡ []
  no-moments done [] p a s untimed own h = h.1.0
  no-moments done (l ∷ ls) p a s untimed own (inl (request, taken, new, first, later, part, others, takes, prints, rest, deeds, text)) =
      let (kept, other) = no-moment-taken done l request taken own.0 takes in
      let (none, still) = no-moment-in-time taken request first new part (kept ∙ untimed) other prints in
      ap (λ x. x.clock) deeds ∙ ap (λ z. z ++ later.clock) none ∙ no-moments new ls later others s still own.1 rest
  no-moments done (l ∷ ls) p a s untimed own (inr (ends, bad, none, empty, status)) = ap (λ x. x.clock) none

  pub output-silent : (begin : Start) (bytes : List ℕ) (p : Asked) (a : List ℕ) (s : ℕ) → NamesMoments options bytes
      → IsOutput options begin bytes p a s → p.clock ≡ []
  output-silent begin bytes p a s (untimed, own) (first, later, timer, starts, prints, deeds) =
      let (none, at) = subst (λ e. Starts e first timer) untimed starts in
      ap (λ x. x.clock) deeds ∙ ap (λ z. z.clock ++ later.clock) none
      ∙ no-moments (begun begin (loses_line options.accepts_partial bytes) timer) (lines_in options.accepts_partial bytes) later a s at own prints
