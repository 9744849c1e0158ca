-- Lines have at most one text, and each answer is the expected one if no text reports out of memory.
use Rattle.std.proofs.Common.{◌≡◌, ℕ, List, [], ◌∷◌, ◌++◌, inl, inr, refl, sym, ◌∙◌, ap, subst, map, Ok}
use Rattle.std.proofs.Common.{append_assoc, append-nil}
use Rattle.std.specs.List.{AllByRecursion}
use Rattle.metrics_names.specs.Names.{KeyParts}
use Rattle.metrics_registry.specs.Idleness.{Answered}
use Rattle.metrics_exporter.specs.Exporting.{Setup, Step, Event, expires, Log, steps, Cells, cells_after, IsExpiry}
use Rattle.metrics_exporter.specs.ExporterText.{IsText}
use Rattle.tool_export.specs.declared.requests.Request.{Request}
use Rattle.tool_export.specs.declared.requests.Request.TheVariants.{Change, Scrape}
use Rattle.tool_export.specs.Requests.{CanBeSpelled, spelling}
use Rattle.tool_export.specs.Exported.{scrape_text, want_text, IsPlain, IsWant, IsAnswer, Exchange, requests_in, texts_in}
use Rattle.tool_export.specs.Exported.{AreAnswered, LacksWant, IsStop, IsExported}
use Rattle.tool_export.proofs.SpellingLemmas.{request_same}

-- there is one text of the series that are held
abbrev pub OneText : Type 0
OneText = (cells : Cells) (a b : List ℕ) → IsText cells a → IsText cells b → a ≡ b

-- there is one list of checks that an expiry makes of all held series
abbrev pub OneExpiry : Type 0
OneExpiry = (setup : Setup) (before : List Step) (now : ℕ) (a b : List (Answered KeyParts)) (n m : ℕ)
    → IsExpiry setup before now a (Ok n) → IsExpiry setup before now b (Ok m) → (a ≡ b) × (n ≡ m)

-- ---- one request

same_plain : OneText → OneExpiry → (setup : Setup) (log : Log) (r : Request) (e f : Event) (s t : List ℕ)
    → IsPlain setup log r e s → IsPlain setup log r f t → (e ≡ f) × (s ≡ t)
same_plain one expiry setup log (Change key by) e f s t (inl a) (inl b) = (a.0 ∙ sym b.0, a.1 ∙ sym b.1)
same_plain one expiry setup log (Change key by) e f s t (inl a) (inr b) = absurd (a.2 b.2)
same_plain one expiry setup log (Change key by) e f s t (inr a) (inl b) = absurd (b.2 a.2)
same_plain one expiry setup log (Change key by) e f s t (inr a) (inr b) = (a.0 ∙ sym b.0, a.1 ∙ sym b.1)
same_plain one expiry setup log (Scrape now) e f s t (checks, n, series, is, made, shown, told)
    (others, m, lines, was, ran, show, tell) =
    let both = expiry setup (steps log) now checks others n m made ran in
    let events : e ≡ f = is ∙ (λ i. expires now (both.0 i) (Ok (both.1 i))) ∙ sym was in
    let here = subst (λ x. IsText (cells_after setup (steps (log ++ x ∷ []))) series) events shown in (
      events,
      told ∙ ap (scrape_text now) (one (cells_after setup (steps (log ++ f ∷ []))) series lines here show)
          ∙ sym tell,
    )

wants : (setup : Setup) (log : Log) (r : Request) (e : Event) (t : List ℕ) → IsWant setup log r e t → t ≡ want_text
wants setup log (Change key by) e t h = h.1
wants setup log (Scrape now) e t (checks, answer, is, made, told, held) = told

-- ---- several

pub all_plain : (setup : Setup) (log : Log) (xs : List Exchange) → AreAnswered IsAnswer setup log xs → LacksWant xs
    → AreAnswered IsPlain setup log xs
all_plain setup log [] h w = tt
all_plain setup log (x ∷ xs) (inl p, h) w = (p, all_plain setup (log ++ x.event ∷ []) xs h w.1)
all_plain setup log (x ∷ xs) (inr p, h) w = absurd (w.0 (wants setup log x.request x.event x.text p))

tail_lines : (x y : List ℕ) (a b : List (List ℕ)) → x ∷ a ≡ y ∷ b → (x ≡ y) × (a ≡ b)
tail_lines x y a b e = (cc, cc)

-- where lines are those of requests up to a stop, their texts begin with those of the first of these requests; and they are
-- just those, where the first ones end at a stop too
same_front : OneText → OneExpiry → (setup : Setup) (log : Log) (xs ys : List Exchange) (p q : List (List ℕ))
    → AreAnswered IsPlain setup log xs → AreAnswered IsPlain setup log ys
    → AllByRecursion CanBeSpelled (requests_in xs) → AllByRecursion CanBeSpelled (requests_in ys) → IsStop q
    → map spelling (requests_in xs) ++ p ≡ map spelling (requests_in ys) ++ q
    → (more : List ℕ) × (texts_in ys ≡ texts_in xs ++ more) × (IsStop p → more ≡ [])
same_front one expiry setup log [] [] p q f k h g stop e = ([], refl, λ s. refl)
same_front one expiry setup log [] (y ∷ ys) p q f k h g stop e =
    (texts_in (y ∷ ys), refl, λ s. absurd (subst IsStop e s y.request (g.0, refl)))
same_front one expiry setup log (x ∷ xs) [] p q f k h g stop e = absurd (subst IsStop (sym e) stop x.request (h.0, refl))
same_front one expiry setup log (x ∷ xs) (y ∷ ys) p q f k h g stop e =
    let parts = tail_lines (spelling x.request) (spelling y.request) (map spelling (requests_in xs) ++ p)
    (map spelling (requests_in ys) ++ q) e in
    let asked : x.request ≡ y.request = request_same (spelling x.request) x.request y.request (h.0, refl) (g.0, parts.0) in
    let both = same_plain one expiry setup log y.request x.event y.event x.text y.text
    (subst (λ r. IsPlain setup log r x.event x.text) asked f.0) k.0 in
    let (more, texts, ends) = same_front one expiry setup (log ++ y.event ∷ []) xs ys p q
    (subst (λ v. AreAnswered IsPlain setup (log ++ v ∷ []) xs) both.0 f.1) k.1 h.1 g.1 stop parts.1 in (
      more,
      ap (λ t. t ++ texts_in ys) (sym both.1) ∙ ap (λ t. x.text ++ t) texts
          ∙ sym (append_assoc x.text (texts_in xs) more),
      ends,
    )

-- ---- inputs

pub one_export : OneText → OneExpiry → (setup : Setup) (ls : List (List ℕ)) (a b : List ℕ) → IsExported setup ls a
    → IsExported setup ls b → a ≡ b
one_export one expiry setup ls a b i j =
    let lines : map spelling (requests_in i.exchanges) ++ i.rest ≡ map spelling (requests_in j.exchanges) ++ j.rest =
    ap (λ k. k ++ i.rest) (sym i.spelled.1) ∙ sym i.whole ∙ j.whole ∙ ap (λ k. k ++ j.rest) j.spelled.1 in
    let (more, texts, ends) = same_front one expiry setup [] i.exchanges j.exchanges i.rest j.rest i.plain j.plain i.spelled.0
    j.spelled.0 j.stops lines in
    i.prints ∙ sym (append-nil (texts_in i.exchanges)) ∙ ap (λ k. texts_in i.exchanges ++ k) (sym (ends i.stops))
    ∙ sym texts ∙ sym j.prints

pub export_begins : OneText → OneExpiry → (setup : Setup) (ls later : List (List ℕ)) (a b : List ℕ)
    → IsExported setup ls a → IsExported setup (ls ++ later) b → (more : List ℕ) × (b ≡ a ++ more)
export_begins one expiry setup ls later a b i j =
    let lines : map spelling (requests_in i.exchanges) ++ (i.rest ++ later) ≡ map spelling (requests_in j.exchanges) ++ j.rest =
    ap (λ k. k ++ (i.rest ++ later)) (sym i.spelled.1) ∙ sym (append_assoc i.front i.rest later)
    ∙ ap (λ k. k ++ later) (sym i.whole) ∙ j.whole ∙ ap (λ k. k ++ j.rest) j.spelled.1 in
    let (more, texts, ends) = same_front one expiry setup [] i.exchanges j.exchanges (i.rest ++ later) j.rest i.plain j.plain
    i.spelled.0 j.spelled.0 j.stops lines in
    (more, j.prints ∙ texts ∙ ap (λ k. k ++ more) (sym i.prints))
