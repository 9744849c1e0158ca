-- Lines that spell no call.
use Rattle.std.proofs.Common.{◌≡◌, ℕ, ◌<◌, ◌^◌, List, ◌∷◌, ◌++◌, codes, decimal, MatchOption, Option, Some, None, refl, sym, subst, ◌⊎◌, inl, inr, get_or, ap, arith}
use Rattle.metrics.specs.declared.handles.Update.{Update}
use Rattle.metrics.specs.declared.handles.Update.TheVariants.{Increment, Absolute, Add, Subtract, Set, Record}
use Rattle.metrics.specs.declared.calls.Call.{Call}
use Rattle.metrics.specs.declared.calls.Call.TheVariants as call
use Rattle.tool_grammar.specs.Cuts.{Lacks}
use Rattle.tool_grammar.specs.Grammar.{unit_word, update_word, amount_word, IsInRange, Spells, IsBad}
use Rattle.metrics_names.specs.Names.{name_word, label_words, kind_word}
use Rattle.tool_grammar.proofs.WordsLemmas.{first_same, not_cut, lacks_decimal, lacks_literal, lacks_update}

-- each call's line has a space
pub no_space : (line : List ℕ) → ((front back : List ℕ) → line ≡ front ++ 32 ∷ back → ⊥) → IsBad line
no_space line fails (call.Describe kind name unit text) s = fails (codes "describe") (kind_word kind ++ 32 ∷ (name_word name ++ 32 ∷ (unit_word unit ++ 32 ∷ text))) s.1
no_space line fails (call.Register kind key) s = fails (codes "register") (kind_word kind ++ 32 ∷ (name_word key.name ++ label_words key.labels)) s.1
no_space line fails (call.Update h by) s = fails (update_word by) (decimal h ++ 32 ∷ amount_word by) s.1
no_space line fails (call.Snapshot b) s = fails (codes "snapshot") (decimal b) s.1
no_space line fails (call.SnapshotWith b reset) s = fails (codes "snapshot") (decimal b ++ codes " keep") s.1

-- a line whose first word is none of the other three, and which spells no update
pub no_update : (line word rest : List ℕ) → line ≡ word ++ 32 ∷ rest → Lacks 32 word → (word ≡ codes "describe" → ⊥) → (word ≡ codes "register" → ⊥) → (word ≡ codes "snapshot" → ⊥) →
    ((h : ℕ) (by : Update) → h < 2 ^ 64 → IsInRange by → word ≡ update_word by → rest ≡ decimal h ++ 32 ∷ amount_word by → ⊥) → IsBad line
no_update line word rest whole before describes registers takes fails (call.Describe kind name unit text) s =
    describes (first_same 32 line word rest (codes "describe") _ before (lacks_literal 32 (codes "describe") refl) whole s.1).0
no_update line word rest whole before describes registers takes fails (call.Register kind key) s =
    registers (first_same 32 line word rest (codes "register") _ before (lacks_literal 32 (codes "register") refl) whole s.1).0
no_update line word rest whole before describes registers takes fails (call.Update h by) s =
    let both = first_same 32 line word rest (update_word by) (decimal h ++ 32 ∷ amount_word by) before (lacks_update by) whole s.1 in
    fails h by s.0.0 s.0.1 both.0 both.1
no_update line word rest whole before describes registers takes fails (call.Snapshot b) s =
    takes (first_same 32 line word rest (codes "snapshot") _ before (lacks_literal 32 (codes "snapshot") refl) whole s.1).0
no_update line word rest whole before describes registers takes fails (call.SnapshotWith b reset) s =
    takes (first_same 32 line word rest (codes "snapshot") _ before (lacks_literal 32 (codes "snapshot") refl) whole s.1).0

-- what was found as an update is found as a call
pub update_line : (line word rest : List ℕ) (found : Option Call) → line ≡ word ++ 32 ∷ rest → Lacks 32 word → (word ≡ codes "describe" → ⊥) → (word ≡ codes "register" → ⊥) → (word ≡ codes "snapshot" → ⊥) →
    MatchOption found ((h : ℕ) (by : Update) → h < 2 ^ 64 → IsInRange by → word ≡ update_word by → rest ≡ decimal h ++ 32 ∷ amount_word by → ⊥) (Spells (word ++ 32 ∷ rest)) →
    MatchOption found (IsBad line) (Spells line)
update_line line word rest None whole before describes registers takes h = no_update line word rest whole before describes registers takes h
update_line line word rest (Some c) whole before describes registers takes h = subst (λ l. Spells l c) (sym whole) h

-- the handle is read, and the amount is none of the word's updates
pub no_amount : (bytes word : List ℕ) (handle : ℕ) (amount : List ℕ) → handle < 2 ^ 64 → bytes ≡ decimal handle ++ 32 ∷ amount →
    ((by : Update) → IsInRange by → word ≡ update_word by → amount ≡ amount_word by → ⊥) →
    (h : ℕ) (by : Update) → h < 2 ^ 64 → IsInRange by → word ≡ update_word by → bytes ≡ decimal h ++ 32 ∷ amount_word by → ⊥
no_amount bytes word handle amount small e fails h by lh fits w g =
    fails by fits w (first_same 32 bytes (decimal handle) amount (decimal h) (amount_word by) (lacks_decimal handle small) (lacks_decimal h lh) e g).1

-- ---- snapshots

no_describe : codes "snapshot" ≡ codes "describe" → ⊥
no_describe e = absurd (omega (arith, ap (λ xs. get_or xs 0 0) e))

no_register : codes "snapshot" ≡ codes "register" → ⊥
no_register e = absurd (omega (arith, ap (λ xs. get_or xs 0 0) e))

no_update_word : (u : Update) → codes "snapshot" ≡ update_word u → ⊥
no_update_word (Increment n) e = absurd (omega (arith, ap (λ xs. get_or xs 0 0) e))
no_update_word (Absolute n) e = absurd (omega (arith, ap (λ xs. get_or xs 0 0) e))
no_update_word (Add n) e = absurd (omega (arith, ap (λ xs. get_or xs 0 0) e))
no_update_word (Subtract n) e = absurd (omega (arith, ap (λ xs. get_or xs 1 0) e))
no_update_word (Set n) e = absurd (omega (arith, ap (λ xs. get_or xs 1 0) e))
no_update_word (Record n) e = absurd (omega (arith, ap (λ xs. get_or xs 0 0) e))

-- what follows the first word of a snapshot line: a book, and `keep` or nothing
abbrev SnapshotRest : List ℕ → Type 0
SnapshotRest bytes = (b : ℕ) × (b < 2 ^ 64) × ((bytes ≡ decimal b) ⊎ (bytes ≡ decimal b ++ 32 ∷ codes "keep"))

snapshot_rest : (bytes : List ℕ) (c : Call) → Spells (codes "snapshot " ++ bytes) c → SnapshotRest bytes
snapshot_rest bytes (call.Describe kind name unit text) s =
    absurd (no_describe (first_same 32 _ (codes "snapshot") bytes (codes "describe") _ (lacks_literal 32 (codes "snapshot") refl) (lacks_literal 32 (codes "describe") refl) refl s.1).0)
snapshot_rest bytes (call.Register kind key) s =
    absurd (no_register (first_same 32 _ (codes "snapshot") bytes (codes "register") _ (lacks_literal 32 (codes "snapshot") refl) (lacks_literal 32 (codes "register") refl) refl s.1).0)
snapshot_rest bytes (call.Update h by) s =
    absurd (no_update_word by (first_same 32 _ (codes "snapshot") bytes (update_word by) (decimal h ++ 32 ∷ amount_word by) (lacks_literal 32 (codes "snapshot") refl) (lacks_update by) refl s.1).0)
snapshot_rest bytes (call.Snapshot b) s =
    (b, s.0, inl (first_same 32 _ (codes "snapshot") bytes (codes "snapshot") (decimal b) (lacks_literal 32 (codes "snapshot") refl) (lacks_literal 32 (codes "snapshot") refl) refl s.1).1)
snapshot_rest bytes (call.SnapshotWith b reset) s =
    (b, s.0.0, inr (first_same 32 _ (codes "snapshot") bytes (codes "snapshot") (decimal b ++ codes " keep") (lacks_literal 32 (codes "snapshot") refl) (lacks_literal 32 (codes "snapshot") refl) refl s.1).1)

module _ (bytes book word : List ℕ) (whole : bytes ≡ book ++ 32 ∷ word) (before : Lacks 32 book) where
  two_words : SnapshotRest bytes → (b : ℕ) × (b < 2 ^ 64) × (book ≡ decimal b) × (word ≡ codes "keep")
  two_words (b, lt, inl e) = absurd (not_cut 32 bytes book word (subst (Lacks 32) (sym e) (lacks_decimal b lt)) whole)
  two_words (b, lt, inr e) = let both = first_same 32 bytes book word (decimal b) (codes "keep") before (lacks_decimal b lt) whole e in (b, lt, both.0, both.1)

  -- the first word is no number
  pub no_book : ((n : ℕ) → n < 2 ^ 64 → book ≡ decimal n → ⊥) → IsBad (codes "snapshot " ++ bytes)
  no_book fails c s = let (b, lt, is, keep) = two_words (snapshot_rest bytes c s) in fails b lt is

  -- the second word isn't `keep`
  pub no_keep : (word ≡ codes "keep" → ⊥) → IsBad (codes "snapshot " ++ bytes)
  no_keep fails c s = let (b, lt, is, keep) = two_words (snapshot_rest bytes c s) in fails keep
