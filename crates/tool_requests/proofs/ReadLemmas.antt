-- What the parts of a line are read as.
use Rattle.std.proofs.Common.{◌≡◌, ◌∙◌, ℕ, ◌<◌, ◌≤◌, ◌^◌, Bool, true, false, List, [], ◌∷◌, ◌++◌, codes, decimal, drop, take, get_or, length, append_assoc, refl, ap, sym, subst, arith}
use Rattle.std.specs.Prelude.{Option, Some, Result, Ok, Err, MatchResult, IsUtf8}
use Rattle.std.specs.List.{AllByRecursion}
use Rattle.std.proofs.lemmas.List.{take_all}
use Rattle.std.proofs.lemmas.Str.{IsUtf8-from_ascii}
use Rattle.std.proofs.lemmas.Str.Ascii.{IsAscii-from_all}
use Rattle.metrics_names.specs.Names.{LabelParts, name_word, kind_word}
use Rattle.metrics_names.specs.declared.kind.MetricKind.{MetricKind}
use Rattle.metrics_names.specs.declared.common.Unit.{Unit as Measure}
use Rattle.metrics.specs.declared.handles.Update.{Update}
use Rattle.tool_grammar.specs.Cuts.{Lacks, StartsAt}
use Rattle.tool_grammar.specs.Grammar.{unit_word, update_word}
use Rattle.tool_numbers.specs.Numerals.{IsAmount}
use Rattle.tool_numbers.proofs.AmountLemmas.{amount-lacks}
use Rattle.tool_requests.specs.declared.dialect.Dialect.{Dialect}
use Rattle.tool_requests.specs.Places.{places_at}
use Rattle.tool_grammar.proofs.WordsLemmas.{before_same, first_same, lacks_kind, lacks_unit}
use Rattle.tool_grammar.proofs.CallLemmas.{name_same}
use Rattle.tool_requests.specs.declared.flaws.Unread.{Unread}
use Rattle.tool_requests.specs.declared.flaws.Unread.TheVariants.{Memory, Bad}
use Rattle.tool_requests.specs.declared.requests.Request.TheVariants.{Change, Describe, Scrape}
use Rattle.tool_requests.specs.Lines.{escaped, IsQuotable, IsText, IsName, CanBeValue, value_word, Written, IsWritten}
use Rattle.tool_requests.specs.Lines.{label_word, label_words, AreWritten, in_order, with_labels, change, describe, scrape, Reads, Fails}
use Rattle.tool_requests.proofs.EscapeLemmas.{escaped-same}
use Rattle.tool_requests.proofs.LabelLemmas.{starts-words}
use Rattle.tool_requests.proofs.SentenceLemmas.{lacks_name}

-- ---- values

pub no-bare : (bytes : List ℕ) → ((text r : List ℕ) → IsText text → Lacks 32 text → StartsAt 32 r → bytes ≡ text ++ r → ⊥)
    → (value r : List ℕ) → CanBeValue false value → StartsAt 32 r → bytes ≡ value ++ r → ⊥
no-bare bytes none value r can = none value r can.0 can.1

-- a quoted value is read up to its quote in one way
pub not-closed : (bytes value rest : List ℕ) → bytes ≡ escaped value ++ 34 ∷ rest → (StartsAt 32 rest → ⊥)
    → (v r : List ℕ) → AllByRecursion IsQuotable v → StartsAt 32 r → bytes ≡ escaped v ++ 34 ∷ r → ⊥
not-closed bytes value rest is none v r h starts e =
    none (subst (StartsAt 32) (sym (escaped-same value v rest r (sym is ∙ e)).1) starts)

pub no-quoted : (bytes value rest : List ℕ) → bytes ≡ escaped value ++ 34 ∷ rest → (IsUtf8 value → ⊥)
    → (v r : List ℕ) → CanBeValue true v → StartsAt 32 r → 34 ∷ bytes ≡ value_word true v ++ r → ⊥
no-quoted bytes value rest is none v r can starts e =
    let tail = ap (drop 1) e ∙ append_assoc (escaped v) (34 ∷ []) r in
    none (subst IsUtf8 (sym (escaped-same value v rest r (sym is ∙ tail)).0) can.1)

-- ---- keys

module _ (bytes key value : List ℕ) (is : bytes ≡ key ++ 61 ∷ value) (lacks : Lacks 61 key) where
  pub has-space : (p : ℕ) → p < length key → get_or key p 0 ≡ 32
      → (k r : List ℕ) → IsText k → Lacks 32 k → Lacks 61 k → bytes ≡ k ++ 61 ∷ r → ⊥
  has-space p small at k r text spaces equals e =
      subst (Lacks 32) (sym (first_same 61 bytes key value k r lacks equals is e).0) spaces p 0 small at

  pub no-key : (IsText key → ⊥) → (k r : List ℕ) → IsText k → Lacks 32 k → Lacks 61 k → bytes ≡ k ++ 61 ∷ r → ⊥
  no-key none k r text spaces equals e =
      none (subst IsText (sym (first_same 61 bytes key value k r lacks equals is e).0) text)

  pub key-found : (p : ℕ) (text : List ℕ) → length key ≤ p → Lacks 32 (take p key) → IsText key → text ≡ key
      → IsText text × Lacks 32 text × Lacks 61 text × (bytes ≡ text ++ 61 ∷ value)
  key-found p text le spaces h same =
      subst (λ k. IsText k × Lacks 32 k × Lacks 61 k × (bytes ≡ k ++ 61 ∷ value)) (sym same)
      (h, subst (Lacks 32) (take_all p key le) spaces, lacks, is)

-- ---- a label

module _ (bytes others key value : List ℕ) (begins : bytes ≡ 32 ∷ others) (is : others ≡ key ++ 61 ∷ value)
    (text : IsText key) (spaces : Lacks 32 key) (equals : Lacks 61 key) where
  pub label-read : {B : Type 0} (now : B → List ℕ) (r : Result (LabelParts × B) Unread)
      → MatchResult r (λ f. (f.0.0 ≡ key) × ((quotes : Bool) × CanBeValue quotes f.0.1 × (value ≡ value_word quotes f.0.1 ++ now f.1)
      × StartsAt 32 (now f.1)))
      (Fails ((quotes : Bool) (v rest : List ℕ) → CanBeValue quotes v → StartsAt 32 rest → value ≡ value_word quotes v ++ rest → ⊥))
      → MatchResult r (λ f. (w : Written) × IsWritten w × (f.0 ≡ (w.key, w.value)) × (bytes ≡ label_word w ++ now f.1)
      × StartsAt 32 (now f.1))
      (Fails ((w : Written) (rest : List ℕ) → IsWritten w → StartsAt 32 rest → bytes ≡ label_word w ++ rest → ⊥))
  label-read now (Ok f) (same, (quotes, can, at, starts)) = (
    record { key = key; value = f.0.1; quoted = quotes },
    (text, spaces, equals, can),
    λ i. (same i, f.0.1),
    begins ∙ ap (λ z. 32 ∷ z) (is ∙ ap (λ z. key ++ 61 ∷ z) at ∙ sym (append_assoc key (61 ∷ value_word quotes f.0.1) (now f.1))),
    starts,
  )
  label-read now (Err Memory) h = tt
  label-read now (Err (Bad cause at)) h = λ w rest written starts e.
      let tail = ap (drop 1) (sym begins ∙ e) ∙ append_assoc w.key (61 ∷ value_word w.quoted w.value) rest in
      let same = first_same 61 others key value w.key (value_word w.quoted w.value ++ rest) equals written.2 is tail in
      h w.quoted w.value rest written.3 starts same.1

-- ---- the text of a description

pub note-read : {T : Type 0} (bytes word : List ℕ) (now : T → List ℕ) (r : Result T Unread) → bytes ≡ 32 ∷ word
    → MatchResult r (λ t. IsText word × (now t ≡ word)) (Fails (IsText word → ⊥))
    → MatchResult r (λ t. IsText (now t) × (bytes ≡ 32 ∷ now t)) (Fails ((text : List ℕ) → IsText text → bytes ≡ 32 ∷ text → ⊥))
note-read bytes word now (Ok t) is (h, same) = (subst IsText (sym same) h, is ∙ ap (λ z. 32 ∷ z) (sym same))
note-read bytes word now (Err Memory) is none = tt
note-read bytes word now (Err (Bad cause at)) is none = λ text h e. none (subst IsText (ap (drop 1) (sym e ∙ is)) h)

-- ---- words after a space

module _ (bytes word rest : List ℕ) (is : bytes ≡ 32 ∷ (word ++ rest)) (lacks : Lacks 32 word) (starts : StartsAt 32 rest) where
  same-word : (other r : List ℕ) → Lacks 32 other → StartsAt 32 r → bytes ≡ 32 ∷ (other ++ r) → (word ≡ other) × (rest ≡ r)
  same-word other r lo sr e = before_same 32 word other rest r lacks lo starts sr (ap (drop 1) (sym is ∙ e))

  pub no-kind : ((kind : MetricKind) → word ≡ kind_word kind → ⊥)
      → (kind : MetricKind) (r : List ℕ) → StartsAt 32 r → bytes ≡ 32 ∷ (kind_word kind ++ r) → ⊥
  no-kind none kind r sr e = none kind (same-word (kind_word kind) r (lacks_kind kind) sr e).0

  pub no-unit : ((unit : Option Measure) → word ≡ unit_word unit → ⊥)
      → (unit : Option Measure) (r : List ℕ) → StartsAt 32 r → bytes ≡ 32 ∷ (unit_word unit ++ r) → ⊥
  no-unit none unit r sr e = none unit (same-word (unit_word unit) r (lacks_unit unit) sr e).0

  pub no-name : ((name : List ℕ) → IsName name → word ≡ name_word name → ⊥)
      → (name r : List ℕ) → IsName name → StartsAt 32 r → bytes ≡ 32 ∷ (name_word name ++ r) → ⊥
  no-name none name r h sr e = none name h (same-word (name_word name) r (lacks_name name h) sr e).0

text-name : (name : List ℕ) → IsName name → IsText (name_word name)
text-name [] h =
    ((λ k d small. (grind arith, λ e. grind (arith, e))), IsUtf8-from_ascii (codes "-") (IsAscii-from_all (codes "-") (λ k d small. grind arith)))
text-name (x ∷ xs) h = h.0

pub no-name-text : (bytes others : List ℕ) → bytes ≡ 32 ∷ others
    → ((text r : List ℕ) → IsText text → Lacks 32 text → StartsAt 32 r → others ≡ text ++ r → ⊥)
    → (name r : List ℕ) → IsName name → StartsAt 32 r → bytes ≡ 32 ∷ (name_word name ++ r) → ⊥
no-name-text bytes others is none name r h sr e =
    none (name_word name) r (text-name name h) (lacks_name name h) sr (ap (drop 1) (sym is ∙ e))

-- ---- an update

abbrev pub IsNoChange : Dialect → List ℕ → List ℕ → Type 0
IsNoChange dialect word bytes = (by : Update) (amount name : List ℕ) (ws : List Written) → IsAmount (places_at dialect.places name) by amount → IsName name
    → AreWritten ws → word ≡ update_word by → bytes ≡ 32 ∷ (amount ++ 32 ∷ (name_word name ++ label_words ws)) → ⊥

pub no-change-space : (dialect : Dialect) (word bytes : List ℕ) → ((rest : List ℕ) → bytes ≡ 32 ∷ rest → ⊥)
    → IsNoChange dialect word bytes
no-change-space dialect word bytes none u a n ws h hn hw w e = none (a ++ 32 ∷ (name_word n ++ label_words ws)) e

-- the amount was read
module _ (dialect : Dialect) (word bytes amount rest : List ℕ) (is : bytes ≡ 32 ∷ (amount ++ rest)) (lacks : Lacks 32 amount)
    (starts : StartsAt 32 rest) where
  behind-amount : (places : ℕ) (u : Update) (a more : List ℕ) → IsAmount places u a → bytes ≡ 32 ∷ (a ++ 32 ∷ more)
      → (amount ≡ a) × (rest ≡ 32 ∷ more)
  behind-amount places u a more h e =
      before_same 32 amount a rest (32 ∷ more) lacks (amount-lacks places u a h) starts refl (ap (drop 1) (sym is ∙ e))

  pub no-change-name : ((name r : List ℕ) → IsName name → StartsAt 32 r → rest ≡ 32 ∷ (name_word name ++ r) → ⊥)
      → IsNoChange dialect word bytes
  no-change-name none u a name ws h hn hw w e =
      none name (label_words ws) hn (starts-words ws) (behind-amount _ u a _ h e).1

  module _ (name after : List ℕ) (hn : IsName name) (cut : rest ≡ 32 ∷ (name_word name ++ after)) (stops : StartsAt 32 after) where
    behind-name : (u : Update) (a n : List ℕ) (ws : List Written) → IsAmount (places_at dialect.places n) u a → IsName n
        → bytes ≡ 32 ∷ (a ++ 32 ∷ (name_word n ++ label_words ws)) → (amount ≡ a) × (name ≡ n) × (after ≡ label_words ws)
    behind-name u a n ws h h' e =
        let (amounts, names) = behind-amount _ u a _ h e in
        let both = before_same 32 (name_word name) (name_word n) after (label_words ws) (lacks_name name hn) (lacks_name n h') stops (starts-words ws)
        (ap (drop 1) (sym cut ∙ names)) in
        (amounts, name_same name n (hn.0.1, hn.1, hn.2) (h'.0.1, h'.1, h'.2) both.0, both.1)

    pub no-change-amount : ((by : Update) → IsAmount (places_at dialect.places name) by amount → word ≡ update_word by → ⊥)
        → IsNoChange dialect word bytes
    no-change-amount none u a n ws h h' hw w e =
        let (amounts, names, others) = behind-name u a n ws h h' e in
        none u (subst (λ (z : List ℕ). IsAmount (places_at dialect.places z) u amount) (sym names) (subst (IsAmount (places_at dialect.places n) u) (sym amounts) h)) w

    pub no-change-labels : ((ws : List Written) → AreWritten ws → after ≡ label_words ws → ⊥) → IsNoChange dialect word bytes
    no-change-labels none u a n ws h h' hw w e = none ws hw (behind-name u a n ws h h' e).2

    pub change-read : (by : Update) (own labels : List LabelParts) → IsAmount (places_at dialect.places name) by amount → word ≡ update_word by
        → ((ws : List Written) × AreWritten ws × (own ≡ in_order ws) × (after ≡ label_words ws))
        → labels ≡ with_labels dialect.labels own → Reads dialect (word ++ bytes) (Change (record { name = name; labels = labels }) by)
    change-read by own labels spells is_word (ws, written, same, at) all = (
      change by amount name ws,
      (spells, hn, written),
      ap (λ w. w ++ bytes) is_word ∙ ap (λ b. update_word by ++ b) (is ∙ ap (λ z. 32 ∷ (amount ++ z)) (cut
          ∙ ap (λ z. 32 ∷ (name_word name ++ z)) at)),
      ap (λ ls. Change (record { name = name; labels = ls }) by) (all ∙ ap (with_labels dialect.labels) same),
    )

-- ---- a description

abbrev pub IsNoDescription : List ℕ → Type 0
IsNoDescription bytes = (kind : MetricKind) (name : List ℕ) (unit : Option Measure) (text : List ℕ) → IsName name → IsText text
    → bytes ≡ 32 ∷ (kind_word kind ++ 32 ∷ (name_word name ++ 32 ∷ (unit_word unit ++ 32 ∷ text))) → ⊥

module _ (bytes : List ℕ) (kind : MetricKind) (rest : List ℕ) (is : bytes ≡ 32 ∷ (kind_word kind ++ rest)) (starts : StartsAt 32 rest) where
  behind-kind : (k : MetricKind) (more : List ℕ) → bytes ≡ 32 ∷ (kind_word k ++ 32 ∷ more) → rest ≡ 32 ∷ more
  behind-kind k more e =
      (before_same 32 (kind_word kind) (kind_word k) rest (32 ∷ more) (lacks_kind kind) (lacks_kind k) starts refl (ap (drop 1) (sym is ∙ e))).1

  module _ (name after : List ℕ) (hn : IsName name) (cut : rest ≡ 32 ∷ (name_word name ++ after)) (stops : StartsAt 32 after) where
    behind-named : (k : MetricKind) (n more : List ℕ) → IsName n → bytes ≡ 32 ∷ (kind_word k ++ 32 ∷ (name_word n ++ 32 ∷ more)) → after ≡ 32 ∷ more
    behind-named k n more h e =
        (before_same 32 (name_word name) (name_word n) after (32 ∷ more) (lacks_name name hn) (lacks_name n h) stops refl
        (ap (drop 1) (sym cut ∙ behind-kind k _ e))).1

    pub no-description-unit : ((unit : Option Measure) (r : List ℕ) → StartsAt 32 r → after ≡ 32 ∷ (unit_word unit ++ r) → ⊥)
        → IsNoDescription bytes
    no-description-unit none k n u text h utf8 e = none u (32 ∷ text) refl (behind-named k n _ h e)

    module _ (unit : Option Measure) (last : List ℕ) (measured : after ≡ 32 ∷ (unit_word unit ++ last)) (ends : StartsAt 32 last) where
      pub no-description-text : ((text : List ℕ) → IsText text → last ≡ 32 ∷ text → ⊥) → IsNoDescription bytes
      no-description-text none k n u text h utf8 e =
          none text utf8 (before_same 32 (unit_word unit) (unit_word u) last (32 ∷ text) (lacks_unit unit) (lacks_unit u) ends refl
          (ap (drop 1) (sym measured ∙ behind-named k n _ h e))).1

      pub description-read : (dialect : Dialect) (text : List ℕ) → IsText text → last ≡ 32 ∷ text
          → Reads dialect (codes "describe" ++ bytes) (Describe kind name unit text)
      description-read dialect text utf8 at = (
        describe kind name unit text,
        (hn, utf8),
        ap (λ b. codes "describe" ++ b) (is ∙ ap (λ z. 32 ∷ (kind_word kind ++ z)) (cut ∙ ap (λ z. 32 ∷ (name_word name ++ z))
            (measured ∙ ap (λ z. 32 ∷ (unit_word unit ++ z)) at))),
        refl,
      )

-- ---- a scrape

pub scrape-read : (dialect : Dialect) (bytes digits : List ℕ) (now : ℕ) → bytes ≡ 32 ∷ digits → digits ≡ decimal now
    → now < 2 ^ 64 → Reads dialect (codes "scrape" ++ bytes) (Scrape (Some now))
scrape-read dialect bytes digits now is at small =
    (scrape now, small, ap (λ b. codes "scrape" ++ b) (is ∙ ap (λ z. 32 ∷ z) at), refl)
