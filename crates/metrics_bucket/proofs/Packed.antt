-- Marks as the bits of words.
use Rattle.std.proofs.Common.{false, eqb, ◌≡◌, ◌≢◌, ℕ, zero, suc, ◌+◌, ◌-◌, ◌*◌, ◌/◌, ◌%◌, ◌^◌, ◌<◌, ◌≤◌, List, [], ◌∷◌, ◌++◌, length, get_or, set, take, drop, refl, sym, ap, ◌∙◌, arith}
use Rattle.std.proofs.Common.{pow_pos}
use Rattle.std.proofs.lemmas.Nat.{shr_split, mod_low, and_mask}
use Rattle.std.proofs.lemmas.Nat.Bits.{ones_shr}
use Rattle.std.proofs.lemmas.Bool.{eqb-true, eqb-false}
use Rattle.std.specs.Bool.{IsTrue}
use lib.Bits.{bit_and}
use mathlib.Core.Logic.{dite}
use native.Mathlib.Decide.{ℕ_discrete, dec_le}
use Rattle.metrics_bucket.specs.BucketState.{base, place_index, blocks_of, side_marks, bits, mark_words, packed}
use Rattle.metrics_bucket.specs.WalkSteps.{AreSet}
use Rattle.metrics_bucket.proofs.Shares.{zeros}
use Rattle.metrics_bucket.proofs.ListParts.{set_left, set_right, get_left, get_right, get_take_drop}

pow_suc : (n : ℕ) → 2 ^ suc n ≡ 2 * 2 ^ n
pow_suc n = omega arith

-- words whose marks are the same
pub bits_same : (ms ns : List ℕ) (i n : ℕ) → ((j : ℕ) → i ≤ j → j < i + n → get_or ms j 0 ≡ get_or ns j 0) → bits ms i n ≡ bits ns i n
unfolding bits
bits_same ms ns i zero e = refl
bits_same ms ns i (suc n) e = let a = e i (omega arith) (omega arith) in let r = bits_same ms ns (suc i) n (λ j l m. e j (omega arith) (omega arith)) in omega arith

pub bits_none : (ms : List ℕ) (i n : ℕ) → ((j : ℕ) → i ≤ j → j < i + n → get_or ms j 0 ≡ 0) → bits ms i n ≡ 0
unfolding bits
bits_none ms i zero e = refl
bits_none ms i (suc n) e = let a = e i (omega arith) (omega arith) in let r = bits_none ms (suc i) n (λ j l m. e j (omega arith) (omega arith)) in omega arith

pub bits_below : (ms : List ℕ) (i n : ℕ) → ((j : ℕ) → i ≤ j → j < i + n → get_or ms j 0 ≤ 1) → bits ms i n < 2 ^ n
unfolding bits
bits_below ms i zero e = omega arith
bits_below ms i (suc n) e = let a = e i (omega arith) (omega arith) in let r = bits_below ms (suc i) n (λ j l m. e j (omega arith) (omega arith)) in let p = pow_suc n in omega arith

-- one more mark is one more power of 2
pub bits_more : (ms ns : List ℕ) (i n k : ℕ) → k < n → get_or ms (i + k) 0 ≡ 0 → get_or ns (i + k) 0 ≡ 1 → ((j : ℕ) → i ≤ j → j < i + n → j ≢ i + k → get_or ms j 0 ≡ get_or ns j 0) → bits ns i n ≡ bits ms i n + 2 ^ k
unfolding bits
bits_more ms ns i zero k l a b e = absurd (omega arith)
bits_more ms ns i (suc n) zero l a b e =
    let at : i + 0 ≡ i = omega arith in
    let a' : get_or ms i 0 ≡ 0 = ap (λ (z : ℕ). get_or ms z 0) (sym at) ∙ a in
    let b' : get_or ns i 0 ≡ 1 = ap (λ (z : ℕ). get_or ns z 0) (sym at) ∙ b in
    let r = bits_same ms ns (suc i) n (λ j m o. e j (omega arith) (omega arith) (λ z. absurd (omega arith))) in
    omega arith
bits_more ms ns i (suc n) (suc k) l a b e =
    let at : i + suc k ≡ suc i + k = omega arith in
    let a' : get_or ms (suc i + k) 0 ≡ 0 = ap (λ (z : ℕ). get_or ms z 0) (sym at) ∙ a in
    let b' : get_or ns (suc i + k) 0 ≡ 1 = ap (λ (z : ℕ). get_or ns z 0) (sym at) ∙ b in
    let here = e i (omega arith) (omega arith) (λ z. absurd (omega arith)) in
    let r = bits_more ms ns (suc i) n k (omega arith) a' b' (λ j m o d. e j (omega arith) (omega arith) (λ z. d (z ∙ at))) in
    let p = pow_suc k in
    omega arith

-- a word that has the bits of a mask has its first n bits set
pub mask_test : (word k n : ℕ) → k + n ≡ 64 → (IsTrue (eqb (bit_and word (18446744073709551615 / 2 ^ k)) (18446744073709551615 / 2 ^ k)) → AreSet n word) × (eqb (bit_and word (18446744073709551615 / 2 ^ k)) (18446744073709551615 / 2 ^ k) ≡ false → AreSet n word → ⊥)
mask_test word k n e =
    let mask : 18446744073709551615 / 2 ^ k ≡ 2 ^ n - 1 = ones_shr 64 k (omega arith) ∙ (let d : 64 - k ≡ n = omega arith in ap (λ (z : ℕ). 2 ^ z - 1) d) in
    let test : bit_and word (18446744073709551615 / 2 ^ k) ≡ word % 2 ^ n = ap (bit_and word) mask ∙ and_mask word n in
    ((λ equal. sym test ∙ (eqb-true _ _ equal ∙ mask)), (λ differs full. eqb-false _ _ differs (test ∙ (full ∙ sym mask))))

-- where the first n bits are set, so are the marks
pub bits_full : (ms : List ℕ) (i m n : ℕ) → n ≤ m → ((j : ℕ) → i ≤ j → j < i + m → get_or ms j 0 ≤ 1) → bits ms i m % 2 ^ n ≡ 2 ^ n - 1 → (j : ℕ) → i ≤ j → j < i + n → get_or ms j 0 ≡ 1
unfolding bits
bits_full ms i m zero l e full j a b = absurd (omega arith)
bits_full ms i zero (suc n) l e full j a b = absurd (omega arith)
bits_full ms i (suc m) (suc n) l e full j a b =
    let p = pow_suc n in
    let pos = pow_pos n in
    let word : ℕ = bits ms (suc i) m in
    let low = e i (omega arith) (omega arith) in
    let q : ℕ = (get_or ms i 0 + 2 * word) / 2 ^ suc n in
    let split = shr_split (get_or ms i 0 + 2 * word) (suc n) in
    let twice : q * 2 ^ suc n ≡ 2 * (q * 2 ^ n) = twice_mul q n in
    let here : get_or ms i 0 ≡ 1 = omega arith in
    let above : word ≡ q * 2 ^ n + (2 ^ n - 1) = omega arith in
    let rest : word % 2 ^ n ≡ 2 ^ n - 1 = ap (λ (z : ℕ). z % 2 ^ n) above ∙ mod_low q n (2 ^ n - 1) (omega arith) in
    dite (ℕ_discrete j i)
    (λ same. ap (λ (z : ℕ). get_or ms z 0) same ∙ here)
    (λ apart. bits_full ms (suc i) m n (omega arith) (λ j l m. e j (omega arith) (omega arith)) rest j (omega arith) (omega arith))
  where
    twice_mul : (q n : ℕ) → q * 2 ^ suc n ≡ 2 * (q * 2 ^ n)
    twice_mul q n = let e : q * 2 ^ suc n ≡ q * (2 * 2 ^ n) = ap (λ (z : ℕ). q * z) (pow_suc n) in omega arith

words_length : (ms : List ℕ) (k n : ℕ) → length (mark_words ms k n) ≡ n
words_length ms k zero = refl
words_length ms k (suc n) = ap suc (words_length ms (suc k) n)

words_get : (ms : List ℕ) (k n j : ℕ) → j < n → get_or (mark_words ms k n) j 0 ≡ bits ms (64 * (k + j)) 64
words_get ms k zero j l = absurd (omega arith)
words_get ms k (suc n) zero l = let e : 64 * k ≡ 64 * (k + 0) = omega arith in ap (λ (z : ℕ). bits ms z 64) e
words_get ms k (suc n) (suc j) l = words_get ms (suc k) n j (omega arith) ∙ (let e : 64 * (suc k + j) ≡ 64 * (k + suc j) = omega arith in ap (λ (z : ℕ). bits ms z 64) e)

words_same : (ms ns : List ℕ) (k n : ℕ) → ((j : ℕ) → k ≤ j → bits ms (64 * j) 64 ≡ bits ns (64 * j) 64) → mark_words ms k n ≡ mark_words ns k n
words_same ms ns k zero e = refl
words_same ms ns k (suc n) e = λ z. e k (omega arith) z ∷ words_same ms ns (suc k) n (λ j l. e j (omega arith)) z

-- one word changes
words_set : (ms ns : List ℕ) (k n j : ℕ) → j < n → ((i : ℕ) → i ≢ k + j → bits ms (64 * i) 64 ≡ bits ns (64 * i) 64) → mark_words ns k n ≡ set (mark_words ms k n) j (bits ns (64 * (k + j)) 64)
words_set ms ns k zero j l e = absurd (omega arith)
words_set ms ns k (suc n) zero l e =
    let at : 64 * k ≡ 64 * (k + 0) = omega arith in
    λ z. bits ns (at z) 64 ∷ words_same ns ms (suc k) n (λ j m. sym (e j (λ q. absurd (omega arith)))) z
words_set ms ns k (suc n) (suc j) l e =
    let at : 64 * (suc k + j) ≡ 64 * (k + suc j) = omega arith in
    let first : bits ns (64 * k) 64 ≡ bits ms (64 * k) 64 = sym (e k (λ q. absurd (omega arith))) in
    let rest = words_set ms ns (suc k) n j (omega arith) (λ i d. e i (λ q. d (omega arith))) in
    (λ z. first z ∷ rest z) ∙ ap (λ (z : ℕ). bits ms (64 * k) 64 ∷ set (mark_words ms (suc k) n) j (bits ns z 64)) at

none_past : (n : ℕ) (xs : List ℕ) (i : ℕ) → n ≤ i → get_or (take n xs) i 0 ≡ 0
none_past zero xs i l = refl
none_past (suc n) [] i l = refl
none_past (suc n) (x ∷ xs) zero l = absurd (omega arith)
none_past (suc n) (x ∷ xs) (suc i) l = none_past n xs i (omega arith)

module _ (places : ℕ) where
  abbrev B : ℕ
  B = blocks_of places

  -- a side's mark, which is 0 past its places
  pub side_mark : (s : ℕ) (marks : List ℕ) (i : ℕ) → i < places → get_or (side_marks places s marks) i 0 ≡ get_or marks (place_index places s i) 0
  side_mark s marks i l = get_take_drop marks (base places s) places i l

  pub side_past : (s : ℕ) (marks : List ℕ) (i : ℕ) → places ≤ i → get_or (side_marks places s marks) i 0 ≡ 0
  side_past s marks i l = none_past places (drop (base places s) marks) i l

  -- two lists that have the same marks in a part of a side
  pub side_same : (s : ℕ) (ms ns : List ℕ) (i : ℕ) → (i < places → get_or ms (place_index places s i) 0 ≡ get_or ns (place_index places s i) 0) → get_or (side_marks places s ms) i 0 ≡ get_or (side_marks places s ns) i 0
  side_same s ms ns i e = dite (dec_le places i)
      (λ past. side_past s ms i past ∙ sym (side_past s ns i past))
      (λ inside. side_mark s ms i (omega arith) ∙ (e (omega arith) ∙ sym (side_mark s ns i (omega arith))))

  pub packed_get : (marks : List ℕ) (s k : ℕ) → s < 2 → k < B → get_or (packed places marks) (place_index B s k) 0 ≡ bits (side_marks places s marks) (64 * k) 64
  packed_get marks zero k a l =
      let n = words_length (side_marks places 0 marks) 0 B in
      let at : 0 + k ≡ k = omega arith in
      get_left (mark_words (side_marks places 0 marks) 0 B) (mark_words (side_marks places 1 marks) 0 B) (0 + k) (omega arith)
      ∙ (words_get (side_marks places 0 marks) 0 B (0 + k) (omega arith) ∙ (let e : 64 * (0 + (0 + k)) ≡ 64 * k = omega arith in ap (λ (z : ℕ). bits (side_marks places 0 marks) z 64) e))
  packed_get marks (suc zero) k a l =
      let n = words_length (side_marks places 0 marks) 0 B in
      get_right (mark_words (side_marks places 0 marks) 0 B) (mark_words (side_marks places 1 marks) 0 B) (B + k) k (omega arith)
      ∙ (words_get (side_marks places 1 marks) 0 B k l ∙ (let e : 64 * (0 + k) ≡ 64 * k = omega arith in ap (λ (z : ℕ). bits (side_marks places 1 marks) z 64) e))
  packed_get marks (suc (suc s)) k a l = absurd (omega arith)

  -- the marks of one block change, and so does its word
  pub packed_set : (ms ns : List ℕ) (s k : ℕ) → s < 2 → k < B
      → ((t i : ℕ) → t < 2 → i < places → (t ≡ s → 64 * k ≤ i → i < 64 * k + 64 → ⊥) → get_or ms (place_index places t i) 0 ≡ get_or ns (place_index places t i) 0)
      → packed places ns ≡ set (packed places ms) (place_index B s k) (bits (side_marks places s ns) (64 * k) 64)
  packed_set ms ns s k a l e = go s a e
    where
      others : (t : ℕ) → t < 2 → ((i : ℕ) → i < places → get_or ms (place_index places t i) 0 ≡ get_or ns (place_index places t i) 0) → mark_words (side_marks places t ms) 0 B ≡ mark_words (side_marks places t ns) 0 B
      others t b f = words_same (side_marks places t ms) (side_marks places t ns) 0 B (λ j _. bits_same (side_marks places t ms) (side_marks places t ns) (64 * j) 64 (λ i _ _. side_same t ms ns i (λ inside. f i inside)))

      blocks : (t : ℕ) → t < 2 → ((i : ℕ) → i < places → (64 * k ≤ i → i < 64 * k + 64 → ⊥) → get_or ms (place_index places t i) 0 ≡ get_or ns (place_index places t i) 0)
          → mark_words (side_marks places t ns) 0 B ≡ set (mark_words (side_marks places t ms) 0 B) k (bits (side_marks places t ns) (64 * k) 64)
      blocks t b f =
          words_set (side_marks places t ms) (side_marks places t ns) 0 B k l
          (λ j d. bits_same (side_marks places t ms) (side_marks places t ns) (64 * j) 64 (λ i m o. side_same t ms ns i (λ inside. f i inside (λ p q. d (omega arith)))))
          ∙ (let z : 64 * (0 + k) ≡ 64 * k = omega arith in ap (λ (z : ℕ). set (mark_words (side_marks places t ms) 0 B) k (bits (side_marks places t ns) z 64)) z)

      go : (s : ℕ) → s < 2 → ((t i : ℕ) → t < 2 → i < places → (t ≡ s → 64 * k ≤ i → i < 64 * k + 64 → ⊥) → get_or ms (place_index places t i) 0 ≡ get_or ns (place_index places t i) 0)
          → packed places ns ≡ set (packed places ms) (place_index B s k) (bits (side_marks places s ns) (64 * k) 64)
      go zero a e =
          let n = words_length (side_marks places 0 ms) 0 B in
          let at : k ≡ 0 + k = omega arith in
          let word : ℕ = bits (side_marks places 0 ns) (64 * k) 64 in
          (λ z. blocks 0 a (λ i m f. e 0 i a m (λ _ p q. f p q)) z ++ sym (others 1 (omega arith) (λ i m. e 1 i (omega arith) m (λ p _ _. absurd (omega arith)))) z)
          ∙ sym (ap (λ (z : ℕ). set (packed places ms) z word) (sym at) ∙ set_left (mark_words (side_marks places 0 ms) 0 B) (mark_words (side_marks places 1 ms) 0 B) k word (omega arith))
      go (suc zero) a e =
          let n = words_length (side_marks places 0 ms) 0 B in
          let word : ℕ = bits (side_marks places 1 ns) (64 * k) 64 in
          (λ z. sym (others 0 (omega arith) (λ i m. e 0 i (omega arith) m (λ p _ _. absurd (omega arith)))) z ++ blocks 1 a (λ i m f. e 1 i a m (λ _ p q. f p q)) z)
          ∙ sym (set_right (mark_words (side_marks places 0 ms) 0 B) (mark_words (side_marks places 1 ms) 0 B) (B + k) k word (omega arith))
      go (suc (suc s)) a e = absurd (omega arith)

  -- with no mark
  pub packed_none : (n : ℕ) → packed places (zeros n) ≡ zeros B ++ zeros B
  packed_none n = λ z. none 0 z ++ none 1 z
    where
      zero_at : (n i : ℕ) → get_or (zeros n) i 0 ≡ 0
      zero_at zero i = refl
      zero_at (suc n) zero = refl
      zero_at (suc n) (suc i) = zero_at n i

      no_words : (ms : List ℕ) (k m : ℕ) → ((i : ℕ) → get_or ms i 0 ≡ 0) → mark_words ms k m ≡ zeros m
      no_words ms k zero e = refl
      no_words ms k (suc m) e = λ z. bits_none ms (64 * k) 64 (λ j _ _. e j) z ∷ no_words ms (suc k) m e z

      none : (s : ℕ) → mark_words (side_marks places s (zeros n)) 0 B ≡ zeros B
      none s = no_words (side_marks places s (zeros n)) 0 B (λ i. dite (dec_le places i) (λ past. side_past s (zeros n) i past) (λ inside. side_mark s (zeros n) i (omega arith) ∙ zero_at n (place_index places s i)))
