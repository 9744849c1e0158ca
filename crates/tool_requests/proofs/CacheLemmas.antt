-- A line whose series came before.
use Rattle.std.proofs.Common.{◌≡◌, ◌∙◌, ℕ, true, List, [], ◌∷◌, ◌++◌, refl, ap, sym, subst}
use Rattle.std.specs.Cmp.Lexicographic.{pointwise}
use Rattle.metrics_names.specs.Names.{KeyParts, LabelParts, label_eq, name_word}
use Rattle.metrics_names.specs.Equality.{key_eq-Decides}
use Rattle.metrics.specs.declared.handles.Update.{Update}
use Rattle.tool_grammar.specs.Cuts.{Lacks, StartsAt}
use Rattle.tool_grammar.specs.Grammar.{update_word}
use Rattle.tool_grammar.proofs.WordsLemmas.{before_same, first_same, lacks_update}
use Rattle.tool_numbers.specs.Numerals.{IsAmount}
use Rattle.tool_numbers.proofs.AmountLemmas.{amount-lacks}
use Rattle.tool_requests.specs.declared.dialect.Dialect.{Dialect}
use Rattle.tool_requests.specs.declared.requests.Request.{Request}
use Rattle.tool_requests.specs.declared.requests.Request.TheVariants.{Change, Describe, Scrape, Nothing}
use Rattle.tool_requests.specs.Places.{places_at}
use Rattle.tool_requests.specs.Lines.{SpellsSeries, Reads, CanBeSpelled, spelling, request_in, label_words}
use Rattle.tool_requests.specs.Lines.{Sentence, change, describe, scrape, scrape_by_clock, comment, empty}

pub labels_exact : (xs ys : List LabelParts) → pointwise label_eq xs ys ≡ true → xs ≡ ys
labels_exact xs ys e =
    ap (λ k. k.labels) ((key_eq-Decides (record { name = []; labels = xs }) (record { name = []; labels = ys })).0 e)

-- the key of an update, or else the other one
abbrev key_in : KeyParts → Request → KeyParts
key_in other (Change key by) = key
key_in other (Describe kind name unit note) = other
key_in other (Scrape moment) = other
key_in other Nothing = other

module _ (dialect : Dialect) (body word amount series : List ℕ) (is : body ≡ word ++ 32 ∷ (amount ++ series)) where
  pub change-kept : (key : KeyParts) (by : Update) → SpellsSeries dialect.labels series key → word ≡ update_word by
      → IsAmount (places_at dialect.places key.name) by amount → Reads dialect body (Change key by)
  change-kept key by (ws, named, written, labels, spelled) verb fits = (
    change by amount key.name ws,
    (fits, named, written),
    is ∙ ap (λ w. w ++ 32 ∷ (amount ++ series)) verb ∙ ap (λ z. update_word by ++ 32 ∷ (amount ++ z)) spelled,
    ap (λ ls. Change (record { name = key.name; labels = ls }) by) labels,
  )

  pub series-spelled : Lacks 32 word → Lacks 32 amount → StartsAt 32 series → (key : KeyParts) (by : Update)
      → Reads dialect body (Change key by) → SpellsSeries dialect.labels series key
  series-spelled lw la starts key by (s, can, spells, asks) = from s can spells asks
    where
      from : (s : Sentence) → CanBeSpelled dialect s → body ≡ spelling s → Change key by ≡ request_in dialect.labels s → SpellsSeries dialect.labels series key
      from (change u given name ws) can spells asks =
          let tail = (first_same 32 body word (amount ++ series) (update_word u) (given ++ 32 ∷ (name_word name ++ label_words ws))
          lw (lacks_update u) is spells).1 in
          let rest = (before_same 32 amount given series (32 ∷ (name_word name ++ label_words ws)) la
          (amount-lacks _ u given can.0) starts refl tail).1 in
          subst (SpellsSeries dialect.labels series) (sym (ap (key_in key) asks))
          (ws, can.1, can.2, refl, rest)
      from (describe kind name unit text) can spells asks = absurd (cc)
      from (scrape now) can spells asks = absurd (cc)
      from scrape_by_clock can spells asks = absurd (cc)
      from (comment text) can spells asks = absurd (cc)
      from empty can spells asks = absurd (cc)
