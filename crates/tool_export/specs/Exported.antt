-- The answers to the lines of an exporter.
use Rattle.std.specs.Prelude.{◌≡◌, ◌≢◌, ℕ, ◌==◌, List, [], ◌∷◌, ◌++◌, codes, decimal, ◌⊎◌}
use Rattle.std.specs.Prelude.{Result, Ok, Err, None, MatchResult, map, flat_map}
use Rattle.std.specs.List.{count_by, AllByRecursion}
use Rattle.metrics.specs.declared.error.Error.{Error}
use Rattle.metrics.specs.declared.error.Error.TheVariants.{Memory, CountFull}
use Rattle.metrics_registry.specs.Idleness.{Answered}
use Rattle.metrics_names.specs.Names.{KeyParts}
use Rattle.metrics_exporter.specs.declared.exporter.Exporter.{Exporter}
use Rattle.metrics_exporter.specs.Exporting.{Setup, Event, updates, expires, Log, steps, Cells, cells_after, series_of}
use Rattle.metrics_exporter.specs.Exporting.{IsExpiry, IsFull, HoldsSome}
use Rattle.metrics_exporter.specs.ExporterText.{IsText}
use Rattle.metrics_exporter.specs.Kept.{IsAfter}
use Rattle.tool_export.specs.declared.requests.Request.{Request}
use Rattle.tool_export.specs.declared.requests.Request.TheVariants.{Change, Scrape}
use Rattle.tool_export.specs.Requests.{Spells, IsBad, CanBeSpelled, spelling}

-- ---- texts

-- how many lines a text has
abbrev pub number_of_lines : List ℕ → ℕ
number_of_lines text = count_by (λ x. x == 10) text

-- the moment, how many lines the text of the series has, and that text
abbrev pub scrape_text : ℕ → List ℕ → List ℕ
scrape_text now series = codes "scrape " ++ (decimal now ++ (32 ∷ (decimal (number_of_lines series) ++ (10 ∷ series))))

-- out of memory
abbrev pub want_text : List ℕ
want_text = codes "refused E1 memory\n"

abbrev pub done_text : List ℕ
done_text = codes "ok\n"

-- a count of samples that is full
abbrev pub full_text : List ℕ
full_text = codes "refused E8 count full\n"

-- the line that reports how a call ended
abbrev pub report_text : Result (Unit {0}) Error → List ℕ
report_text (Ok done) = done_text
report_text (Err CountFull) = full_text
report_text (Err e) = want_text

-- ---- one request

-- The expected answer to a request after a list of calls: the call, as it is added to the list with its answer, and its
-- text. An update is made, or fails if the count of its samples is full; a scrape is an expiry, and then the text of
-- the series.
abbrev pub IsPlain : Setup → Log → Request → Event → List ℕ → Type 0
IsPlain setup log (Change key by) event text =
    ((event ≡ updates key by (Ok tt)) × (text ≡ done_text) × (IsFull (steps log) key by → ⊥))
    ⊎ ((event ≡ updates key by (Err CountFull)) × (text ≡ full_text) × IsFull (steps log) key by)
IsPlain setup log (Scrape now) event text = (checks : List (Answered KeyParts)) × (n : ℕ) × (series : List ℕ)
    × (event ≡ expires now checks (Ok n)) × IsExpiry setup (steps log) now checks (Ok n)
    × IsText (cells_after setup (steps (log ++ event ∷ []))) series × (text ≡ scrape_text now series)

-- Some series is held if a scrape fails: before its expiry, if that fails, and otherwise after it.
abbrev pub HoldsAtRefusal : Setup → Log → Event → Result ℕ Error → Type 0
HoldsAtRefusal setup log event (Ok n) = HoldsSome (cells_after setup (steps (log ++ event ∷ [])))
HoldsAtRefusal setup log event (Err e) = HoldsSome (cells_after setup (steps log))

-- What a scrape showed: idle series were removed, and this is shown of the others; or memory ran out.
abbrev pub Scrapes : {T : Type 0} → (Cells → T → Type 0) → Exporter → Exporter → ℕ → Result T Error → Type 0
Scrapes IsShown old new now result = (setup : Setup) (log : Log) → IsAfter setup log old → (checks : List (Answered KeyParts))
    × (answer : Result ℕ Error) × IsExpiry setup (steps log) now checks answer
    × IsAfter setup (log ++ expires now checks answer ∷ []) new × MatchResult result
    (λ shown. (n : ℕ) × (answer ≡ Ok n) × IsShown (cells_after setup (steps (log ++ expires now checks answer ∷ []))) shown)
    (λ e. (e ≡ Memory) × HoldsAtRefusal setup log (expires now checks answer) answer)

-- Out of memory: an update that would make its series and changes nothing, or a scrape that found some series. Its
-- expiry made all its checks or the first n of them.
abbrev pub IsWant : Setup → Log → Request → Event → List ℕ → Type 0
IsWant setup log (Change key by) event text =
    (event ≡ updates key by (Err Memory)) × (text ≡ want_text) × (cells_after setup (steps log) (series_of key by) ≡ None)
IsWant setup log (Scrape now) event text = (checks : List (Answered KeyParts)) × (r : Result ℕ Error)
    × (event ≡ expires now checks r) × IsExpiry setup (steps log) now checks r × (text ≡ want_text)
    × HoldsAtRefusal setup log event r

abbrev pub IsAnswer : Setup → Log → Request → Event → List ℕ → Type 0
IsAnswer setup log request event text = IsPlain setup log request event text ⊎ IsWant setup log request event text

-- what a request did to an exporter, and its text: after each list of calls one more, with an answer
abbrev pub Answers : Exporter → Exporter → Request → List ℕ → Type 0
Answers old new request text = (setup : Setup) (log : Log) → IsAfter setup log old →
    (event : Event) × IsAfter setup (log ++ event ∷ []) new × IsAnswer setup log request event text

-- a line's request was answered
abbrev pub AnswersLine : Exporter → List ℕ → List ℕ → Exporter → Type 0
AnswersLine old line text new = (request : Request) × Spells line request × Answers old new request text

-- ---- several requests

-- a request, the call that it made, and its text
pub record Exchange : Type 0 where
  pub request : Request
  pub event : Event
  pub text : List ℕ

abbrev pub requests_in : List Exchange → List Request
requests_in xs = map (λ x. x.request) xs

abbrev pub texts_in : List Exchange → List ℕ
texts_in xs = flat_map (λ x. x.text) xs

-- each request was answered so after the calls before it
abbrev pub AreAnswered : (Setup → Log → Request → Event → List ℕ → Type 0) → Setup → Log → List Exchange
    → Type 0
AreAnswered Is setup log [] = Unit {0}
AreAnswered Is setup log (x ∷ xs) = Is setup log x.request x.event x.text × AreAnswered Is setup (log ++ x.event ∷ []) xs

-- no line's answer is out of memory
abbrev pub LacksWant : List Exchange → Type 0
LacksWant xs = AllByRecursion (λ x. x.text ≢ want_text) xs

-- ---- the lines of an input

-- none, or a bad one first
abbrev pub IsStop : List (List ℕ) → Type 0
IsStop [] = Unit {0}
IsStop (l ∷ ls) = IsBad l

-- the lines are those of the requests
abbrev pub AreLines : List (List ℕ) → List Request → Type 0
AreLines ls requests = AllByRecursion CanBeSpelled requests × (ls ≡ map spelling requests)

-- What lines print: those up to the end or the first bad one get their expected answers from an exporter that begins
-- without series.
pub record IsExported (setup : Setup) (ls : List (List ℕ)) (text : List ℕ) : Type 0 where
  pub exchanges : List Exchange
  pub front : List (List ℕ)
  pub rest : List (List ℕ)
  pub whole : ls ≡ front ++ rest
  pub spelled : AreLines front (requests_in exchanges)
  pub stops : IsStop rest
  pub plain : AreAnswered IsPlain setup [] exchanges
  pub prints : text ≡ texts_in exchanges
