-- A line's request, and the scrape after it.
use Rattle.std.proofs.Common.{if◌then◌else◌, ◌≡◌, ◌∙◌, ℕ, Bool, true, false, List, [], ◌∷◌, ◌++◌, refl, sym, ap, subst, None, Some}
use Rattle.std.proofs.Common.{Result, Ok, Err, OnOk, is_ok, append-nil, append_assoc}
use Rattle.tool_prometheus.specs.declared.answering.Served.{Served}
use Rattle.tool_prometheus.specs.declared.timing.Timer.{Timer}
use Rattle.tool_requests.specs.declared.requests.Request.{Request}
use Rattle.tool_requests.specs.declared.requests.Request.TheVariants.{Scrape}
use Rattle.tool_prometheus.specs.Asked.{Asked, nothing_asked, then_asked, clock_gave}
use Rattle.tool_requests.specs.Scrapes.{at_moment}
use Rattle.tool_prometheus.specs.Timing.{Timed, is_due, restarted}
use Rattle.tool_prometheus.specs.Exposed.{Answers, AnswersEach, AnswersInTime}
use Rattle.tool_prometheus.proofs.AskedLemmas.{then-nothing}

pub each_of_one : (old new : Served) (request : Request) (asked : Asked) (text : List ℕ) → Answers old new request asked text
    → AnswersEach old (request ∷ []) new asked text
each_of_one old new request asked text answers =
    (new, asked, nothing_asked, text, [], answers, (refl, refl, refl), sym (then-nothing asked), sym (append-nil text))

-- without a timer
pub untimed : (old new : Served) (request : Request) (asked : Asked) (text : List ℕ) → old.timer ≡ None
    → Answers old new request asked text → AnswersInTime old request asked text new
untimed old new request asked text none answers =
    let same : old ≡ record old { timer = None } = λ i. record old { timer = none i } in (
      nothing_asked,
      asked,
      request ∷ [],
      None,
      subst (λ t. Timed t request nothing_asked (request ∷ []) None) (sym none) (refl, refl, refl),
      each_of_one (record old { timer = None }) new request asked text (subst (λ s. Answers s new request asked text) same answers),
      refl,
    )

module _ (old : Served) (timer : Timer) (request : Request) (now : ℕ) (is : old.timer ≡ Some timer) where
  abbrev pub on : Served
  on = record old { timer = Some (restarted timer now request) }

  timed : (due : Bool) → is_due timer now request ≡ due
      → Timed old.timer request (clock_gave now) (at_moment now request ∷ (if due then Scrape (Some now) ∷ [] else [])) on.timer
  timed due h =
      subst (λ t. Timed t request (clock_gave now) (at_moment now request ∷ (if due then Scrape (Some now) ∷ [] else [])) on.timer) (sym is)
      (now, refl, ap (λ b. at_moment now request ∷ (if b then Scrape (Some now) ∷ [] else [])) (sym h), refl)

  -- the timer wants no scrape
  pub timed_alone : (new : Served) (asked : Asked) (text : List ℕ) → is_due timer now request ≡ false
      → Answers on new (at_moment now request) asked text → AnswersInTime old request (then_asked (clock_gave now) asked) text new
  timed_alone new asked text due answers = (
    clock_gave now,
    asked,
    at_moment now request ∷ [],
    on.timer,
    timed false due,
    each_of_one on new (at_moment now request) asked text answers,
    refl,
  )

  -- it wants one
  pub timed_both : (between new : Served) (own later : Asked) (part rest : List ℕ) → is_due timer now request ≡ true
      → Answers on between (at_moment now request) own part → Answers between new (Scrape (Some now)) later rest
      → AnswersInTime old request (then_asked (clock_gave now) (then_asked own later)) (part ++ rest) new
  timed_both between new own later part rest due answers scraped = (
    clock_gave now,
    then_asked own later,
    at_moment now request ∷ Scrape (Some now) ∷ [],
    on.timer,
    timed true due,
    (between, own, later, part, rest, answers, each_of_one between new (Scrape (Some now)) later rest scraped, refl, refl),
    refl,
  )

-- the request and the timer as the code has them
pub in_code : (old : Served) (timer : Timer) (request : Request) (now : ℕ) (after : Timer) (placed : Request) (new : Served) (asked : Asked)
    (text : List ℕ) → after ≡ restarted timer now request → placed ≡ at_moment now request
    → Answers (record old { timer = Some after }) new placed asked text
    → Answers (record old { timer = Some (restarted timer now request) }) new (at_moment now request) asked text
in_code old timer request now after placed new asked text timers requests answers =
    subst (λ t. Answers (record old { timer = Some t }) new (at_moment now request) asked text) timers
    (subst (λ r. Answers (record old { timer = Some after }) new r asked text) requests answers)

-- a text after a text
pub texts_both : {E : Type 0} (r s both : Result (Unit {0}) E) (a b c part rest : List ℕ) → both ≡ (if is_ok r then s else r)
    → OnOk r (b ≡ a ++ part) → OnOk s (c ≡ b ++ rest) → OnOk both (c ≡ a ++ (part ++ rest))
texts_both (Ok done) (Ok more) both a b c part rest is first later =
    subst (λ z. OnOk z (c ≡ a ++ (part ++ rest))) (sym is) (later ∙ ap (λ z. z ++ rest) first ∙ append_assoc a part rest)
texts_both (Ok done) (Err e) both a b c part rest is first later = subst (λ z. OnOk z (c ≡ a ++ (part ++ rest))) (sym is) tt
texts_both (Err e) s both a b c part rest is first later = subst (λ z. OnOk z (c ≡ a ++ (part ++ rest))) (sym is) tt
